-- How the first part of a list stands in it.
use Rattle.std.proofs.Common.{◌≡◌, ◌≢◌, ℕ, suc, ◌+◌, ◌<◌, ◌≤◌, List, [], ◌∷◌, length, take, drop, map, filter, Bool, true, false, not, refl, sym, ap, ◌∙◌, arith, nat_eq, eqb-true, length-drop, drop-drop}
use Rattle.std.specs.List.{prefix_len, position_or_len, before_first, after_first}
use Rattle.std.proofs.lemmas.List.Folds.{length-prefix_len}
use Rattle.std.proofs.lemmas.List.Sums.{prefix_len-le-length}
use Rattle.std.specs.Prelude.{if◌then◌else◌}
use Rattle.std.proofs.Math.Numerals.{unary_clauses}
use Rattle.vx_words.specs.Lines.{parts, with_first, lines, words, is_blank, is_filled, is_line_feed, without_return, skip, behind_word}

pub one_more : (n : ℕ) → 1 + n ≡ suc n
one_more n = omega arith

drop_step : {A : Type 0} (n : ℕ) (x : A) (xs : List A) → drop (1 + n) (x ∷ xs) ≡ drop n xs
drop_step n x xs = rw (one_more n) refl

drop_next : {A : Type 0} (n : ℕ) (x : A) (xs : List A) → drop (1 + n + 1) (x ∷ xs) ≡ drop (n + 1) xs
drop_next n x xs = rw (one_more n) (simp unary_clauses)

-- the items from the first on that fails a test
behind_case : {A : Type 0} (p : A → Bool) (x : A) (xs : List A) → drop (prefix_len p xs) xs ≡ skip p xs → (b : Bool) → p x ≡ b
    → drop (prefix_len p (x ∷ xs)) (x ∷ xs) ≡ skip p (x ∷ xs)
behind_case p x xs h true e = rw e (drop_step (prefix_len p xs) x xs ∙ h)
behind_case p x xs h false e = rw e refl

pub run_behind : {A : Type 0} (p : A → Bool) (xs : List A) → drop (prefix_len p xs) xs ≡ skip p xs
run_behind p [] = refl
run_behind p (x ∷ xs) = behind_case p x xs (run_behind p xs) (p x) refl

-- the first part, and the parts behind the item that ends it
one_part : {A : Type 0} (ends : A → Bool) (x : A) (b : Bool) → ends x ≡ b
    → parts ends (x ∷ []) ≡ before_first ends (x ∷ []) ∷ parts ends (after_first ends (x ∷ []))
one_part ends x true h = rw h refl
one_part ends x false h = rw h refl

step : {A : Type 0} (ends : A → Bool) (n : ℕ) (x : A) (xs : List A)
    → (x ∷ take n xs) ∷ parts ends (drop (n + 1) xs) ≡ take (1 + n) (x ∷ xs) ∷ parts ends (drop (1 + n + 1) (x ∷ xs))
step ends n x xs = rw (one_more n) (simp unary_clauses)

longer_part : {A : Type 0} (ends : A → Bool) (x y : A) (ys : List A)
    → parts ends (y ∷ ys) ≡ before_first ends (y ∷ ys) ∷ parts ends (after_first ends (y ∷ ys))
    → (b : Bool) → ends x ≡ b
    → parts ends (x ∷ y ∷ ys) ≡ before_first ends (x ∷ y ∷ ys) ∷ parts ends (after_first ends (x ∷ y ∷ ys))
longer_part ends x y ys h true e = rw e refl
longer_part ends x y ys h false e = rw e (ap (with_first x) h ∙ step ends (position_or_len ends (y ∷ ys)) x (y ∷ ys))

pub first_part : {A : Type 0} (ends : A → Bool) (x : A) (xs : List A)
    → parts ends (x ∷ xs) ≡ before_first ends (x ∷ xs) ∷ parts ends (after_first ends (x ∷ xs))
first_part ends x [] = one_part ends x (ends x) refl
first_part ends x (y ∷ ys) = longer_part ends x y ys (first_part ends y ys) (ends x) refl

-- the first line and the text behind it
pub first_line : (text : List ℕ) → text ≢ []
    → lines text ≡ without_return (before_first is_line_feed text) ∷ lines (after_first is_line_feed text)
first_line [] filled = absurd (filled refl)
first_line (b ∷ bs) filled = ap (map without_return) (first_part is_line_feed b bs)

-- the blank that ends a word is no part of another
blank_case : (x : ℕ) (xs : List ℕ) → words (drop (position_or_len is_blank xs) xs) ≡ words (after_first is_blank xs) → (b : Bool) → is_blank x ≡ b
    → words (drop (position_or_len is_blank (x ∷ xs)) (x ∷ xs)) ≡ words (after_first is_blank (x ∷ xs))
blank_case x xs h true e = rw e (rw e refl)
blank_case x xs h false e =
    let n : ℕ = position_or_len is_blank xs in
    rw e (ap words (drop_step n x xs) ∙ h ∙ ap words (sym (drop_next n x xs)))

pub behind_blank : (xs : List ℕ) → words (drop (position_or_len is_blank xs) xs) ≡ words (after_first is_blank xs)
behind_blank [] = refl
behind_blank (x ∷ xs) = blank_case x xs (behind_blank xs) (is_blank x) refl

-- the first word of a line that begins with one, and what stands behind it
word_step : (n x : ℕ) (xs : List ℕ) → filter is_filled (take (1 + n) (x ∷ xs) ∷ []) ≡ take (1 + n) (x ∷ xs) ∷ []
word_step n x xs = rw (one_more n) refl

filled_word : (x : ℕ) (xs : List ℕ) → is_blank x ≡ false → is_filled (before_first is_blank (x ∷ xs)) ≡ true
filled_word x xs e = rw e (rw (one_more (position_or_len is_blank xs)) refl)

filter_first : (w : List ℕ) (ws : List (List ℕ)) → is_filled w ≡ true → filter is_filled (w ∷ ws) ≡ w ∷ filter is_filled ws
filter_first w ws e = rw e refl

pub first_word : (x : ℕ) (xs : List ℕ) → is_blank x ≡ false
    → words (x ∷ xs) ≡ before_first is_blank (x ∷ xs) ∷ words (drop (position_or_len is_blank (x ∷ xs)) (x ∷ xs))
first_word x xs e =
    let split = first_part is_blank x xs in
    ap (filter is_filled) split ∙ filter_first (before_first is_blank (x ∷ xs)) (parts is_blank (after_first is_blank (x ∷ xs))) (filled_word x xs e)
    ∙ ap (λ ws. before_first is_blank (x ∷ xs) ∷ ws) (sym (behind_blank (x ∷ xs)))

-- blanks in front of the first word
skip_case : (x : ℕ) (xs : List ℕ) → words xs ≡ words (skip is_blank xs) → (b : Bool) → is_blank x ≡ b → words (x ∷ xs) ≡ words (skip is_blank (x ∷ xs))
skip_case x xs h true e = rw e h
skip_case x xs h false e = rw e (rw e refl)

pub words-skip : (line : List ℕ) → words line ≡ words (skip is_blank line)
words-skip [] = refl
words-skip (x ∷ xs) = skip_case x xs (words-skip xs) (is_blank x) refl

filled_case : (x : ℕ) (xs : List ℕ) → ((y : ℕ) (ys : List ℕ) → skip is_blank xs ≡ y ∷ ys → is_blank y ≡ false) → (b : Bool) → is_blank x ≡ b
    → (y : ℕ) (ys : List ℕ) → (if b then skip is_blank xs else (x ∷ xs)) ≡ y ∷ ys → is_blank y ≡ false
filled_case x xs h true e y ys q = h y ys q
filled_case x xs h false e y ys q = let same : y ≡ x = cc in ap is_blank same ∙ e

first_filled : (line : List ℕ) (y : ℕ) (ys : List ℕ) → skip is_blank line ≡ y ∷ ys → is_blank y ≡ false
first_filled [] y ys q = cc
first_filled (x ∷ xs) y ys q = filled_case x xs (first_filled xs) (is_blank x) refl y ys q

-- the first word of a line, and what stands behind it
pub next_word : (line text : List ℕ) → text ≡ skip is_blank line → text ≢ []
    → words line ≡ before_first is_blank text ∷ words (drop (position_or_len is_blank text) text)
next_word line [] e filled = absurd (filled refl)
next_word line (x ∷ xs) e filled = words-skip line ∙ ap words (sym e) ∙ first_word x xs (first_filled line x xs (sym e))

pub no_word : (line text : List ℕ) → text ≡ skip is_blank line → text ≡ [] → words line ≡ []
no_word line text e empty = words-skip line ∙ ap words (sym e ∙ empty)

pub run_length : {A : Type 0} (p : A → Bool) (xs : List A) → length (take (prefix_len p xs) xs) ≡ prefix_len p xs
run_length = length-prefix_len

pub is_empty : {A : Type 0} (xs : List A) → nat_eq (length xs) 0 ≡ true → xs ≡ []
is_empty [] e = refl
is_empty (x ∷ xs) e = absurd (omega (arith, eqb-true _ _ e))

pub is_filled_list : {A : Type 0} (xs : List A) → nat_eq (length xs) 0 ≡ false → xs ≢ []
is_filled_list [] e = λ q. cc
is_filled_list (x ∷ xs) e = λ q. cc

pub run_within : {A : Type 0} (p : A → Bool) (xs : List A) → prefix_len p xs ≤ length xs
run_within = prefix_len-le-length

-- a word takes at least one byte
pub word_some : (line text : List ℕ) → text ≡ skip is_blank line → text ≢ [] → 0 < position_or_len is_blank text
word_some line [] e filled = absurd (filled refl)
word_some line (x ∷ xs) e filled = rw (first_filled line x xs (sym e)) (omega arith)

-- what the functions of lines and words give, from what they call
pub line_answer : (text first rest line after : List ℕ) (n : ℕ) → text ≢ [] → n ≡ position_or_len is_line_feed text → first ≡ take n text → rest ≡ drop n text
    → line ≡ without_return first → after ≡ drop 1 rest → lines text ≡ line ∷ lines after
line_answer text first rest line after n filled place at_front behind is_line is_after =
    let split = first_line text filled in
    let one : without_return (before_first is_line_feed text) ≡ line = ap (λ m. without_return (take m text)) (sym place) ∙ ap without_return (sym at_front) ∙ sym is_line in
    let two : after_first is_line_feed text ≡ after = ap (λ m. drop (m + 1) text) (sym place) ∙ sym (drop-drop 1 n text) ∙ ap (drop 1) (sym behind) ∙ sym is_after in
    split ∙ ap (λ l. l ∷ lines (after_first is_line_feed text)) one ∙ ap (λ t. line ∷ lines t) two

pub word_answer : (line text word after : List ℕ) (m : ℕ) → nat_eq (length text) 0 ≡ false → text ≡ skip is_blank line
    → m ≡ position_or_len is_blank text → word ≡ take m text → after ≡ drop m text → words line ≡ word ∷ words after
word_answer line text word after m filled skipped place is_word is_after =
    next_word line text skipped (is_filled_list text filled)
    ∙ ap (λ k. take k text ∷ words (drop k text)) (sym place)
    ∙ ap (λ w. w ∷ words (drop m text)) (sym is_word)
    ∙ ap (λ t. word ∷ words t) (sym is_after)

pub behind_answer : (line text after : List ℕ) (m : ℕ) → text ≡ skip is_blank line → m ≡ position_or_len is_blank text → after ≡ drop m text
    → after ≡ behind_word line
behind_answer line text after m skipped place is_after =
    is_after ∙ ap (λ k. drop k text) place ∙ run_behind (λ b. not (is_blank b)) text ∙ ap (skip (λ b. not (is_blank b))) skipped

pub none_answer : (line text : List ℕ) → nat_eq (length text) 0 ≡ true → text ≡ skip is_blank line → words line ≡ []
none_answer line text empty skipped = no_word line text skipped (is_empty text empty)

pub shorter_answer : (line text after : List ℕ) (m : ℕ) → nat_eq (length text) 0 ≡ false → text ≡ skip is_blank line
    → m ≡ position_or_len is_blank text → m ≤ length text → after ≡ drop m text → length text ≤ length line → length after < length line
shorter_answer line text after m filled skipped place within is_after no_longer =
    let some : 0 < position_or_len is_blank text = word_some line text skipped (is_filled_list text filled) in
    omega (arith, ap length is_after, length-drop m text)
