-- The words of a line: plain, but for texts; and the first of them.
use Rattle.std.proofs.Common.{◌≡◌, ℕ, zero, suc, ◌+◌, ◌<◌, ◌≤◌, List, [], ◌∷◌, ◌++◌, length, take, drop, Bool, true, false, ◌==◌, ◌||◌, Ok, if◌then◌else◌, ◌⊎◌, inl, inr, refl, sym, ap, subst, ◌∙◌, append_assoc, append-nil, arith}
use Rattle.std.proofs.lemmas.Bool.{or_cases, or_left, or_right, or_parts, eqb-true, eq-eqb, cases_lt, both_ways}
use Rattle.std.proofs.lemmas.List.{get_or-take}
use Rattle.std.specs.List.{list_all, list_any, AllByRecursion}
use Rattle.vx_words.specs.Lines.{is_plain}
use Rattle.vx_pool.specs.Text.{is_text}
use Rattle.vx_source_words.specs.Reading.{Read, ◌>>=◌, check, steps}
use Rattle.vx_source_words.specs.Tokens.{word_at, blank_place, unindented, begins_text, word_end, first_word, word_step, tokens}
use Rattle.vx_source.specs.Lines.{first_word_of}
use Rattle.vx_source.specs.Statements.{loads_text, gives_text, text_place, has_stray_text}
use Rattle.vx_assembled.proofs.Reading.{bind_ok, check_ok, steps_keep}
use Rattle.vx_assembled.proofs.Texts.{plain_text}

-- ---- each word

abbrev pub IsPlainOrText : List ℕ → Type 0
IsPlainOrText word = (begins_text word || list_all is_plain word) ≡ true

-- a text that a line begins with is not empty
text_end : (line : List ℕ) → begins_text line ≡ true → 0 < word_end line
unfolding word_end
text_end [] h = absurd cc
text_end (b ∷ bs) h = rw h (omega arith)

text_begins : (line : List ℕ) → begins_text line ≡ true → begins_text (take (word_end line) line) ≡ true
text_begins line h = ap (λ (b : ℕ). b == 34) (get_or-take (word_end line) line 0 0 (text_end line h)) ∙ h

word_is : (line : List ℕ) → (begins_text line || list_all is_plain (take (word_end line) line)) ≡ true → IsPlainOrText (take (word_end line) line)
word_is line h = by_cases (or_cases (begins_text line) (list_all is_plain (take (word_end line) line)) h)
  where
    by_cases : (begins_text line ≡ true) ⊎ (list_all is_plain (take (word_end line) line) ≡ true) → IsPlainOrText (take (word_end line) line)
    by_cases (inl text) = or_left (begins_text (take (word_end line) line)) (list_all is_plain (take (word_end line) line)) (text_begins line text)
    by_cases (inr plain) = or_right (begins_text (take (word_end line) line)) (list_all is_plain (take (word_end line) line)) plain

abbrev State : Type 0
State = List (List ℕ) × List ℕ

ok_is : (x y : State) → (let f : State → Read State = λ z. Ok z in f x ≡ f y) → x ≡ y
ok_is x y e = cc

all_push : {A : Type 0} (P : A → Type 0) (xs : List A) (x : A) → AllByRecursion P xs → P x → AllByRecursion P (xs ++ x ∷ [])
all_push P [] x all this = (this, tt)
all_push P (y ∷ ys) x all this = (all.0, all_push P ys x all.1 this)

abbrev ArePlain : State → Type 0
ArePlain s = AllByRecursion IsPlainOrText s.0

step_keeps : (s t : State) → ArePlain s → word_step s ≡ Ok t → ArePlain t
unfolding word_step first_word
step_keeps s t h e = by_end (length (unindented s.1) == 0) e
  where
    line : List ℕ
    line = unindented s.1

    by_end : (b : Bool) → (if b then Ok (s.0, []) else check (begins_text line || list_all is_plain (take (word_end line) line)) 1 (Ok (s.0 ++ take (word_end line) line ∷ [], drop (word_end line) line))) ≡ Ok t → ArePlain t
    by_end true k = subst ArePlain (ok_is (s.0, []) t k) h
    by_end false k =
        let c = check_ok (begins_text line || list_all is_plain (take (word_end line) line)) 1 (Ok (s.0 ++ take (word_end line) line ∷ [], drop (word_end line) line)) t k in
        subst ArePlain (ok_is (s.0 ++ take (word_end line) line ∷ [], drop (word_end line) line) t c.1) (all_push IsPlainOrText s.0 (take (word_end line) line) h (word_is line c.0))

pub words_plain : (line : List ℕ) (words : List (List ℕ)) → tokens line ≡ Ok words → AllByRecursion IsPlainOrText words
unfolding tokens
words_plain line words e =
    let all = bind_ok (steps word_step ([], line) (length line)) (λ s. Ok s.0) words e in
    let plain = steps_keep ArePlain word_step step_keeps (length line) ([], line) all.0 tt all.1 in
    let same : all.0.0 ≡ words = let last = all.2 in cc in
    subst (AllByRecursion IsPlainOrText) same plain

-- ---- the first word

-- the words that are there stay in front
record Begins (first whole : List (List ℕ)) : Type 0 where
  more : List (List ℕ)
  is : whole ≡ first ++ more

begins_then : (a b c : List (List ℕ)) → Begins a b → Begins b c → Begins a c
begins_then a b c h k = record { more = h.more ++ k.more; is = k.is ∙ ap (λ (p : List (List ℕ)). p ++ k.more) h.is ∙ append_assoc a h.more k.more }

step_begins : (s t : State) → word_step s ≡ Ok t → Begins s.0 t.0
unfolding word_step first_word
step_begins s t e = by_end (length (unindented s.1) == 0) e
  where
    line : List ℕ
    line = unindented s.1

    by_end : (b : Bool) → (if b then Ok (s.0, []) else check (begins_text line || list_all is_plain (take (word_end line) line)) 1 (Ok (s.0 ++ take (word_end line) line ∷ [], drop (word_end line) line))) ≡ Ok t → Begins s.0 t.0
    by_end true k = record { more = []; is = sym (ap (λ (z : State). z.0) (ok_is (s.0, []) t k)) ∙ sym (append-nil s.0) }
    by_end false k =
        let c = check_ok (begins_text line || list_all is_plain (take (word_end line) line)) 1 (Ok (s.0 ++ take (word_end line) line ∷ [], drop (word_end line) line)) t k in
        record { more = take (word_end line) line ∷ []; is = sym (ap (λ (z : State). z.0) (ok_is (s.0 ++ take (word_end line) line ∷ [], drop (word_end line) line) t c.1)) }

steps_begin : (n : ℕ) (s t : State) → steps word_step s n ≡ Ok t → Begins s.0 t.0
steps_begin n s t e = steps_keep (λ z. Begins s.0 z.0) word_step (λ x y h k. begins_then s.0 x.0 y.0 h (step_begins x y k)) n s t (record { more = []; is = sym (append-nil s.0) }) e

-- where nothing is left, no word comes
nothing_left : (s : State) → length (unindented s.1) ≡ 0 → word_step s ≡ Ok (s.0, [])
unfolding word_step
nothing_left s e = rw (eq-eqb (length (unindented s.1)) 0 e) refl

none_more : (n : ℕ) (words : List (List ℕ)) → steps word_step (words, []) n ≡ Ok (words, [])
unfolding steps
none_more zero words = refl
none_more (suc n) words = rw (nothing_left (words, []) refl) (none_more n words)

nil_is : (xs : List ℕ) → length xs ≡ 0 → xs ≡ []
nil_is [] e = refl
nil_is (x ∷ xs) e = absurd (omega (arith, e))

plain_end : (line : List ℕ) → begins_text line ≡ false → word_end line ≡ blank_place line
unfolding word_end
plain_end line h = rw h refl

-- a line that isn't empty begins with its first word
first_made : (line : List ℕ) (y : State) → (length (unindented line) == 0) ≡ false → word_step ([], line) ≡ Ok y → Begins (take (word_end (unindented line)) (unindented line) ∷ []) y.0
unfolding word_step first_word
first_made line y some h =
    let u : List ℕ = unindented line in
    let next : Read State = check (begins_text u || list_all is_plain (take (word_end u) u)) 1 (Ok ([] ++ take (word_end u) u ∷ [], drop (word_end u) u)) in
    let rest : next ≡ Ok y = sym (ap (λ (c : Bool). if c then Ok ([], []) else next) some) ∙ h in
    let c = check_ok (begins_text u || list_all is_plain (take (word_end u) u)) 1 (Ok ([] ++ take (word_end u) u ∷ [], drop (word_end u) u)) y rest in
    record { more = []; is = sym (ap (λ (z : State). z.0) (ok_is ([] ++ take (word_end u) u ∷ [], drop (word_end u) u) y c.1)) ∙ sym (append-nil (take (word_end u) u ∷ [])) }

-- the first word is the one by which a line is known, where that is no text
pub first_is : (line : List ℕ) (words : List (List ℕ)) → tokens line ≡ Ok words → begins_text (word_at words 0) ≡ false → word_at words 0 ≡ first_word_of line
unfolding tokens steps
first_is line words e plain =
    let all = bind_ok (steps word_step ([], line) (length line)) (λ s. Ok s.0) words e in
    let same : all.0.0 ≡ words = let last = all.2 in cc in
    rw (← same) (by_length (length line) refl all.0 all.1 (rw (← same) at plain))
  where
    u : List ℕ
    u = unindented line

    empty : u ≡ [] → first_word_of line ≡ []
    empty nil = ap (λ (z : List ℕ). take (blank_place z) z) nil

    nothing_there : (t : State) → t ≡ ([], []) → u ≡ [] → word_at t.0 0 ≡ first_word_of line
    nothing_there t is nil = ap (λ (z : State). word_at z.0 0) is ∙ sym (empty nil)

    word_there : (t : State) → Begins (take (word_end u) u ∷ []) t.0 → begins_text (word_at t.0 0) ≡ false → word_at t.0 0 ≡ first_word_of line
    word_there t b plain =
        let first : word_at t.0 0 ≡ take (word_end u) u = ap (λ (z : List (List ℕ)). word_at z 0) b.is in
        by_text (begins_text u) refl (rw first at plain) first
      where
        by_text : (c : Bool) → begins_text u ≡ c → begins_text (take (word_end u) u) ≡ false → word_at t.0 0 ≡ take (word_end u) u → word_at t.0 0 ≡ first_word_of line
        by_text true is plain first = absurd (both_ways (begins_text (take (word_end u) u)) plain (text_begins u is))
        by_text false is plain first = first ∙ ap (λ (n : ℕ). take n u) (plain_end u is)

    by_left : (n : ℕ) (t : State) → (left : Bool) → (length u == 0) ≡ left → (word_step ([], line) >>= λ y. steps word_step y n) ≡ Ok t → begins_text (word_at t.0 0) ≡ false → word_at t.0 0 ≡ first_word_of line
    by_left n t true none k plain =
        let zero_is = eqb-true (length u) 0 none in
        let start = nothing_left ([], line) zero_is in
        let is : t ≡ ([], []) = sym (ok_is ([], []) t (sym (ap (λ (r : Read State). r >>= λ y. steps word_step y n) start ∙ none_more n []) ∙ k)) in
        nothing_there t is (nil_is u zero_is)
    by_left n t false some k plain =
        let one = bind_ok (word_step ([], line)) (λ y. steps word_step y n) t k in
        let first = first_made line one.0 some one.1 in
        word_there t (begins_then (take (word_end u) u ∷ []) one.0.0 t.0 first (steps_begin n one.0 t one.2)) plain

    by_length : (n : ℕ) → length line ≡ n → (t : State) → steps word_step ([], line) n ≡ Ok t → begins_text (word_at t.0 0) ≡ false → word_at t.0 0 ≡ first_word_of line
    by_length zero none t k plain =
        let nil = nil_is line none in
        nothing_there t (sym (ok_is ([], line) t k) ∙ ap (λ (z : List ℕ). ([], z)) nil) (ap unindented nil)
    by_length (suc n) some t k plain = by_left n t (length u == 0) refl k plain

-- ---- no text where none is expected

front_plain : (p i : ℕ) (words : List (List ℕ)) → list_any begins_text (take p words) ≡ false → i < p → begins_text (word_at words i) ≡ false
front_plain p i [] h lt = refl
front_plain zero i (w ∷ ws) h lt = absurd (omega (arith, lt))
front_plain (suc p) zero (w ∷ ws) h lt = (or_parts (begins_text w) (list_any begins_text (take p ws)) h).0
front_plain (suc p) (suc i) (w ∷ ws) h lt = front_plain p i ws (or_parts (begins_text w) (list_any begins_text (take p ws)) h).1 (omega (arith, lt))

rest_plain : (i : ℕ) (words : List (List ℕ)) → list_any begins_text words ≡ false → begins_text (word_at words i) ≡ false
rest_plain i [] h = refl
rest_plain zero (w ∷ ws) h = (or_parts (begins_text w) (list_any begins_text ws) h).0
rest_plain (suc i) (w ∷ ws) h = rest_plain i ws (or_parts (begins_text w) (list_any begins_text ws) h).1

behind_plain : (p i : ℕ) (words : List (List ℕ)) → list_any begins_text (drop p words) ≡ false → p ≤ i → begins_text (word_at words i) ≡ false
behind_plain p i [] h le = refl
behind_plain zero i (w ∷ ws) h le = rest_plain i (w ∷ ws) h
behind_plain (suc p) zero (w ∷ ws) h le = absurd (omega (arith, le))
behind_plain (suc p) (suc i) (w ∷ ws) h le = behind_plain p i ws h (omega (arith, le))

past_plain : (i : ℕ) (words : List (List ℕ)) → length words ≤ i → begins_text (word_at words i) ≡ false
past_plain i [] le = refl
past_plain zero (w ∷ ws) le = absurd (omega (arith, le))
past_plain (suc i) (w ∷ ws) le = past_plain i ws (omega (arith, le))

no_text : (words : List (List ℕ)) (i : ℕ) → has_stray_text words ≡ false → (i < text_place words) ⊎ (text_place words < i) → begins_text (word_at words i) ≡ false
unfolding has_stray_text
no_text words i h side =
    let p = or_parts (list_any begins_text (take (text_place words) words)) (list_any begins_text (drop (text_place words + 1) words)) h in
    by_side p.0 p.1 side
  where
    by_side : list_any begins_text (take (text_place words) words) ≡ false → list_any begins_text (drop (text_place words + 1) words) ≡ false → (i < text_place words) ⊎ (text_place words < i)
        → begins_text (word_at words i) ≡ false
    by_side before after (inl lt) = front_plain (text_place words) i words before lt
    by_side before after (inr gt) = behind_plain (text_place words + 1) i words after (omega (arith, gt))

plain_word : (words : List (List ℕ)) (i : ℕ) → AllByRecursion IsPlainOrText words → begins_text (word_at words i) ≡ false → is_text (word_at words i) ≡ true
plain_word [] i all free = refl
plain_word (w ∷ ws) zero all free = plain_text w (by_cases (or_cases (begins_text w) (list_all is_plain w) all.0))
  where
    by_cases : (begins_text w ≡ true) ⊎ (list_all is_plain w ≡ true) → list_all is_plain w ≡ true
    by_cases (inl text) = absurd (both_ways (begins_text w) free text)
    by_cases (inr plain) = plain
plain_word (w ∷ ws) (suc i) all free = plain_word ws i all.1 free

-- the words of a line that has no text where none is expected
pub record AreWords (words : List (List ℕ)) : Type 0 where
  pub plain : AllByRecursion IsPlainOrText words
  pub no_stray : has_stray_text words ≡ false

-- a word that is no text is modified UTF-8; texts stand at places 2 and 5 alone
pub word_text : (words : List (List ℕ)) (i : ℕ) → AreWords words → ((i ≡ 2) → loads_text words ≡ false) → ((i ≡ 5) → gives_text words ≡ false) → is_text (word_at words i) ≡ true
word_text words i are loads gives = plain_word words i are.plain (by_length (cases_lt i (length words)))
  where
    by_gives : i < length words → (b : Bool) → gives_text words ≡ b → loads_text words ≡ false → (i < text_place words) ⊎ (text_place words < i)
    by_gives lt true e f = rw (f, e) (apart (cases_lt i 5))
      where
        apart : (i < 5) ⊎ (5 ≤ i) → (i < 5) ⊎ (5 < i)
        apart (inl small) = inl small
        apart (inr large) = by_five (i == 5) refl
          where
            by_five : (c : Bool) → (i == 5) ≡ c → (i < 5) ⊎ (5 < i)
            by_five true is = absurd (both_ways (gives_text words) (gives (eqb-true i 5 is)) e)
            by_five false is = inr (let other : (i ≡ 5) → ⊥ = λ k. both_ways (i == 5) is (eq-eqb i 5 k) in omega (arith, large, other))
    by_gives lt false e f = rw (f, e) (inl lt)

    by_loads : i < length words → (b : Bool) → loads_text words ≡ b → (i < text_place words) ⊎ (text_place words < i)
    by_loads lt true e = rw e (apart (cases_lt i 2))
      where
        apart : (i < 2) ⊎ (2 ≤ i) → (i < 2) ⊎ (2 < i)
        apart (inl small) = inl small
        apart (inr large) = by_two (i == 2) refl
          where
            by_two : (c : Bool) → (i == 2) ≡ c → (i < 2) ⊎ (2 < i)
            by_two true is = absurd (both_ways (loads_text words) (loads (eqb-true i 2 is)) e)
            by_two false is = inr (let other : (i ≡ 2) → ⊥ = λ k. both_ways (i == 2) is (eq-eqb i 2 k) in omega (arith, large, other))
    by_loads lt false e = by_gives lt (gives_text words) refl e

    by_length : (i < length words) ⊎ (length words ≤ i) → begins_text (word_at words i) ≡ false
    by_length (inl lt) = no_text words i are.no_stray (by_loads lt (loads_text words) refl)
    by_length (inr past) = past_plain i words past

-- the first word is no text
pub first_plain : (words : List (List ℕ)) → AreWords words → begins_text (word_at words 0) ≡ false
first_plain [] are = refl
first_plain (w ∷ ws) are = no_text (w ∷ ws) 0 are.no_stray (inl (some (loads_text (w ∷ ws)) (gives_text (w ∷ ws))))
  where
    some : (a b : Bool) → 0 < (if a then 2 else if b then 5 else length (w ∷ ws))
    some true b = omega arith
    some false true = omega arith
    some false false = omega arith
