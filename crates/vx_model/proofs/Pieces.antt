-- How the first piece of a rule's text stands in it.
use Rattle.std.proofs.Common.{◌≡◌, ℕ, ◌+◌, List, [], ◌∷◌, length, take, drop, Bool, true, false, ◌&&◌, refl, sym, ap, ◌∙◌, arith, nat_eq, eqb-true, if◌then◌else◌}
use Rattle.std.specs.List.{prefix_len}
use Rattle.std.proofs.lemmas.Bool.Decides.{nat_tests}
use Rattle.vx_words.specs.Lines.{with_first, is_blank, skip}
use Rattle.vx_model.specs.Tokens.{pieces, joins_arrow, joins, piece_length}
use Rattle.vx_words.specs.Names.{is_word_byte}
use Rattle.vx_words.proofs.Parts.{one_more}

skip_case : (x : ℕ) (xs : List ℕ) → pieces xs ≡ pieces (skip is_blank xs) → (b : Bool) → is_blank x ≡ b → pieces (x ∷ xs) ≡ pieces (skip is_blank (x ∷ xs))
skip_case x xs h true e = rw e h
skip_case x xs h false e = rw e (rw e refl)

pub pieces-skip : (text : List ℕ) → pieces text ≡ pieces (skip is_blank text)
pieces-skip [] = refl
pieces-skip (x ∷ xs) = skip_case x xs (pieces-skip xs) (is_blank x) refl

pub word_no_blank : (b : ℕ) → is_word_byte b ≡ true → is_blank b ≡ false
word_no_blank b e = grind (arith, nat_tests)

pub word_no_dash : (b : ℕ) → is_word_byte b ≡ true → nat_eq b 45 ≡ false
word_no_dash b e = grind (arith, nat_tests)

-- an arrow
arrow_piece : (cs : List ℕ) → pieces (45 ∷ 62 ∷ cs) ≡ (45 ∷ 62 ∷ []) ∷ pieces cs
arrow_piece [] = refl
arrow_piece (c ∷ cs) = refl

-- a word
step : (n x : ℕ) (xs : List ℕ) → (x ∷ take n xs) ∷ pieces (drop n xs) ≡ take (1 + n) (x ∷ xs) ∷ pieces (drop (1 + n) (x ∷ xs))
step n x xs = rw (one_more n) refl

last_byte : (b c : ℕ) (cs : List ℕ) → is_blank b ≡ false → joins b c ≡ false → pieces (b ∷ c ∷ cs) ≡ (b ∷ []) ∷ pieces (c ∷ cs)
last_byte b c cs e h = rw (e, h) refl

more_bytes : (b c : ℕ) (cs : List ℕ) → is_blank b ≡ false → joins b c ≡ true → pieces (b ∷ c ∷ cs) ≡ with_first b (pieces (c ∷ cs))
more_bytes b c cs e h = rw (e, h) refl

word_joins : (b c : ℕ) → is_word_byte b ≡ true → is_word_byte c ≡ true → joins b c ≡ true
word_joins b c e h = rw (e, h) refl

word_ends : (b c : ℕ) → is_word_byte b ≡ true → is_word_byte c ≡ false → joins b c ≡ false
word_ends b c e h = rw (e, h, word_no_dash b e) refl

mark_ends : (b c : ℕ) → is_word_byte b ≡ false → joins_arrow b (c ∷ []) ≡ false → joins b c ≡ false
mark_ends b c e h = rw (e, h) refl

join_word : (n b : ℕ) (x : ℕ) (xs : List ℕ) (ps : List (List ℕ)) → ps ≡ take (1 + n) (x ∷ xs) ∷ pieces (drop (1 + n) (x ∷ xs))
    → with_first b ps ≡ take (1 + (1 + n)) (b ∷ x ∷ xs) ∷ pieces (drop (1 + (1 + n)) (b ∷ x ∷ xs))
join_word n b x xs ps e = ap (with_first b) e ∙ step (1 + n) b (x ∷ xs)

no_prefix : (c : ℕ) (cs : List ℕ) → is_word_byte c ≡ false → prefix_len is_word_byte (c ∷ cs) ≡ 0
no_prefix c cs h = rw h refl

longer_prefix : (c : ℕ) (cs : List ℕ) → is_word_byte c ≡ true → prefix_len is_word_byte (c ∷ cs) ≡ 1 + prefix_len is_word_byte cs
longer_prefix c cs h = rw h refl

word_case : (b c : ℕ) (cs : List ℕ) → is_word_byte b ≡ true
    → (is_word_byte c ≡ true → pieces (c ∷ cs) ≡ take (1 + prefix_len is_word_byte cs) (c ∷ cs) ∷ pieces (drop (1 + prefix_len is_word_byte cs) (c ∷ cs)))
    → (t : Bool) → is_word_byte c ≡ t
    → pieces (b ∷ c ∷ cs) ≡ take (1 + prefix_len is_word_byte (c ∷ cs)) (b ∷ c ∷ cs) ∷ pieces (drop (1 + prefix_len is_word_byte (c ∷ cs)) (b ∷ c ∷ cs))
word_case b c cs e rest true h =
    more_bytes b c cs (word_no_blank b e) (word_joins b c e h) ∙ join_word (prefix_len is_word_byte cs) b c cs (pieces (c ∷ cs)) (rest h)
    ∙ ap (λ n. take (1 + n) (b ∷ c ∷ cs) ∷ pieces (drop (1 + n) (b ∷ c ∷ cs))) (sym (longer_prefix c cs h))
word_case b c cs e rest false h =
    last_byte b c cs (word_no_blank b e) (word_ends b c e h)
    ∙ ap (λ n. take (1 + n) (b ∷ c ∷ cs) ∷ pieces (drop (1 + n) (b ∷ c ∷ cs))) (sym (no_prefix c cs h))

pub word_piece : (b : ℕ) (bs : List ℕ) → is_word_byte b ≡ true
    → pieces (b ∷ bs) ≡ take (1 + prefix_len is_word_byte bs) (b ∷ bs) ∷ pieces (drop (1 + prefix_len is_word_byte bs) (b ∷ bs))
word_piece b [] e = rw (word_no_blank b e) refl
word_piece b (c ∷ cs) e = word_case b c cs e (word_piece c cs) (is_word_byte c) refl

-- any other byte
mark_case : (b : ℕ) (bs : List ℕ) → is_blank b ≡ false → is_word_byte b ≡ false → joins_arrow b bs ≡ false → pieces (b ∷ bs) ≡ (b ∷ []) ∷ pieces bs
mark_case b [] blank word arrow = rw blank refl
mark_case b (c ∷ cs) blank word arrow = last_byte b c cs blank (mark_ends b c word arrow)

and_both : (a b : Bool) → (a && b) ≡ true → (a ≡ true) × (b ≡ true)
and_both true b e = (refl, e)
and_both false b e = cc

-- the first piece, by what it begins with
arrow_first : (b : ℕ) (bs : List ℕ) → joins_arrow b bs ≡ true → pieces (b ∷ bs) ≡ take 2 (b ∷ bs) ∷ pieces (drop 2 (b ∷ bs))
arrow_first b [] e = cc
arrow_first b (c ∷ cs) e =
    let both = and_both (nat_eq b 45) (nat_eq c 62) e in
    let is_dash : b ≡ 45 = eqb-true b 45 both.0 in
    let is_tip : c ≡ 62 = eqb-true c 62 both.1 in
    rw (is_dash, is_tip) (arrow_piece cs)

first_case : (b : ℕ) (bs : List ℕ) → is_blank b ≡ false → (arrow word : Bool) → joins_arrow b bs ≡ arrow → is_word_byte b ≡ word
    → pieces (b ∷ bs) ≡ take (piece_length (b ∷ bs)) (b ∷ bs) ∷ pieces (drop (piece_length (b ∷ bs)) (b ∷ bs))
first_case b bs blank true word e h = rw e (arrow_first b bs e)
first_case b bs blank false true e h = rw (e, h) (word_piece b bs h)
first_case b bs blank false false e h = rw (e, h) (mark_case b bs blank h e)

stop_case : (p : ℕ → Bool) (x : ℕ) (xs : List ℕ) → ((y : ℕ) (ys : List ℕ) → skip p xs ≡ y ∷ ys → p y ≡ false) → (b : Bool) → p x ≡ b
    → (y : ℕ) (ys : List ℕ) → (if b then skip p xs else (x ∷ xs)) ≡ y ∷ ys → p y ≡ false
stop_case p x xs h true e y ys q = h y ys q
stop_case p x xs h false e y ys q = let same : y ≡ x = cc in ap p same ∙ e

skip_stops : (p : ℕ → Bool) (xs : List ℕ) (y : ℕ) (ys : List ℕ) → skip p xs ≡ y ∷ ys → p y ≡ false
skip_stops p [] y ys q = cc
skip_stops p (x ∷ xs) y ys q = stop_case p x xs (skip_stops p xs) (p x) refl y ys q

first_filled : (line : List ℕ) (y : ℕ) (ys : List ℕ) → skip is_blank line ≡ y ∷ ys → is_blank y ≡ false
first_filled line y ys = skip_stops is_blank line y ys

pub piece_answer : (text rest piece after : List ℕ) (n : ℕ) → rest ≡ skip is_blank text → nat_eq (length rest) 0 ≡ false → n ≡ piece_length rest
    → piece ≡ take n rest → after ≡ drop n rest → pieces text ≡ piece ∷ pieces after
piece_answer text [] piece after n skipped filled place front behind = cc
piece_answer text (b ∷ bs) piece after n skipped filled place front behind =
    pieces-skip text ∙ ap pieces (sym skipped)
    ∙ first_case b bs (first_filled text b bs (sym skipped)) (joins_arrow b bs) (is_word_byte b) refl refl
    ∙ ap (λ m. take m (b ∷ bs) ∷ pieces (drop m (b ∷ bs))) (sym place) ∙ ap (λ p. p ∷ pieces (drop n (b ∷ bs))) (sym front) ∙ ap (λ t. piece ∷ pieces t) (sym behind)

pub none_answer : (text rest : List ℕ) → rest ≡ skip is_blank text → nat_eq (length rest) 0 ≡ true → pieces text ≡ []
none_answer text [] skipped empty = pieces-skip text ∙ ap pieces (sym skipped)
none_answer text (b ∷ bs) skipped empty = absurd (omega (arith, eqb-true _ _ empty))
