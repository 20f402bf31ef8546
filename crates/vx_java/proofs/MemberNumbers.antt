-- Searches among numbers that follow one another.
use Rattle.std.proofs.Common.{◌≡◌, ◌∙◌, ℕ, suc, zero, ◌+◌, ◌-◌, ◌<◌, ◌≤◌, Bool, true, false, cond, List, [], ◌∷◌, length, Option, Some, None, ap, arith, bytes_eq, inl, inr, map, option_map, refl, subst, sym, ◌⊎◌}
use Rattle.std.specs.List.{range_with_len}
use Rattle.std.specs.Prelude.{find, max, not, slice_get, unwrap_or, ◌&&◌, ◌==◌}
use Rattle.std.proofs.lemmas.Bool.{eqb-true, le-ltb, lt-ltb}
use Rattle.std.proofs.lemmas.List.{length-map, nil_from_length}
use Rattle.std.proofs.lemmas.List.FromFn.{get_or-range_with_len, length-range_with_len}
use Rattle.std.proofs.lemmas.Option.{slice_get-get_or, slice_get-map, slice_get_past}
use Rattle.vx_list.specs.Places.{item_or}
use Rattle.vx_java.specs.MemberNumbers.{is_past, numbers_between}
use Rattle.vx_link.proofs.Keys.{below_or_from}
use Rattle.vx_link.specs.Members.{NoneBetween, has_signature}

-- ---- what a search finds

-- the first number that passes, from one on and below another
pub record IsFirst (q : ℕ → Bool) (a b k : ℕ) : Type 0 where
  pub from : a ≤ k
  pub below : k < b
  pub passes : q k ≡ true
  pub before : (j : ℕ) → a ≤ j → j < k → q j ≡ false

-- none passes
abbrev pub NonePass : (ℕ → Bool) → (a b : ℕ) → Type 0
NonePass q a b = (j : ℕ) → a ≤ j → j < b → q j ≡ false

-- a number, or those after it
at_or_after : (P : ℕ → Type 0) (a j : ℕ) → a ≤ j → P a → (a + 1 ≤ j → P j) → P j
at_or_after P a j lo here after =
    below_or_from a j (λ later. after (omega arith)) (λ earlier. let same : a ≡ j = omega arith in subst P same here)

found : (q : ℕ → Bool) (a n k : ℕ) → find q (range_with_len a n) ≡ Some k → IsFirst q a (a + n) k
found q a zero k e = absurd cc
found q a (suc n) k e = by (q a) refl e (found q (a + 1) n k)
  where
    by : (b : Bool) → q a ≡ b → cond b (Some a) (find q (range_with_len (a + 1) n)) ≡ Some k → (find q (range_with_len (a + 1) n) ≡ Some k → IsFirst q (a + 1) (a + 1 + n) k)
        → IsFirst q a (a + suc n) k
    by true h e later = let same : a ≡ k = cc in record { from = omega arith; below = omega arith; passes = subst (λ m. q m ≡ true) same h; before = λ j lo hi. absurd (omega arith) }
    by false h e later =
        let rest = later e in
        record {
          from = omega arith;
          below = omega arith;
          passes = rest.passes;
          before = λ j lo hi. at_or_after (λ m. q m ≡ false) a j lo h (λ after. rest.before j after hi);
        }

none_found : (q : ℕ → Bool) (a n : ℕ) → find q (range_with_len a n) ≡ None → NonePass q a (a + n)
none_found q a zero e j lo hi = absurd (omega arith)
none_found q a (suc n) e j lo hi = by (q a) refl e (none_found q (a + 1) n)
  where
    by : (b : Bool) → q a ≡ b → ◌≡◌ {A = Option ℕ} (cond b (Some a) (find q (range_with_len (a + 1) n))) None → (find q (range_with_len (a + 1) n) ≡ None → NonePass q (a + 1) (a + 1 + n))
        → q j ≡ false
    by true h e later = absurd cc
    by false h e later = at_or_after (λ m. q m ≡ false) a j lo h (λ after. later e j after (omega arith))

finds_none : (q : ℕ → Bool) (a n : ℕ) → NonePass q a (a + n) → find q (range_with_len a n) ≡ None
finds_none q a zero none = refl
finds_none q a (suc n) none =
    ap (λ b. cond b (Some a) (find q (range_with_len (a + 1) n))) (none a (omega arith) (omega arith))
    ∙ finds_none q (a + 1) n (λ j lo hi. none j (omega arith) (omega arith))

finds : (q : ℕ → Bool) (a n k : ℕ) → IsFirst q a (a + n) k → find q (range_with_len a n) ≡ Some k
finds q a zero k f = absurd (omega arith)
finds q a (suc n) k f = by (finds q (a + 1) n k)
  where
    by : (IsFirst q (a + 1) (a + 1 + n) k → find q (range_with_len (a + 1) n) ≡ Some k) → cond (q a) (Some a) (find q (range_with_len (a + 1) n)) ≡ Some k
    by rest = below_or_from a k
        (λ h.
        ap (λ b. cond b (Some a) (find q (range_with_len (a + 1) n))) (f.before a (omega arith) h)
        ∙ rest (record { from = omega arith; below = omega arith; passes = f.passes; before = λ j lo hi. f.before j (omega arith) hi }))
        (λ h.
        let same : k ≡ a = omega arith in
        ap (λ b. cond b (Some a) (find q (range_with_len (a + 1) n))) (subst (λ m. q m ≡ true) same f.passes) ∙ ap Some (sym same))

-- the same of the numbers through a last one
pub found_between : (q : ℕ → Bool) (a last k : ℕ) → Some k ≡ find q (numbers_between a last) → IsFirst q a (suc last) k
found_between q a last k e =
    let f = found q a (last + 1 - a) k (sym e) in
    record { from = f.from; below = omega arith; passes = f.passes; before = f.before }

pub none_between : (q : ℕ → Bool) (a last : ℕ) → None ≡ find q (numbers_between a last) → NonePass q a (suc last)
none_between q a last e j lo hi = none_found q a (last + 1 - a) (sym e) j lo (omega arith)

pub first_is : (q : ℕ → Bool) (a last k : ℕ) → IsFirst q a (suc last) k → Some k ≡ find q (numbers_between a last)
first_is q a last k f = sym (finds q a (last + 1 - a) k (record { from = f.from; below = omega arith; passes = f.passes; before = f.before }))

pub none_is : (q : ℕ → Bool) (a last : ℕ) → NonePass q a (suc last) → None ≡ find q (numbers_between a last)
none_is q a last none = sym (finds_none q a (last + 1 - a) (λ j lo hi. none j lo (omega arith)))

-- numbers that don't pass are gone by
pub gone_by : (q : ℕ → Bool) (a b last : ℕ) → a ≤ b → b ≤ suc last → NonePass q a b → find q (numbers_between a last) ≡ find q (numbers_between b last)
gone_by q a b last le within none = by (find q (numbers_between b last)) refl
  where
    by : (o : Option ℕ) → find q (numbers_between b last) ≡ o → find q (numbers_between a last) ≡ o
    by None e =
        let rest = none_between q b last (sym e) in
        sym (none_is q a last (λ j lo hi. below_or_from j b (none j lo) (λ above. rest j above hi)))
    by (Some k) e =
        let f = found_between q b last k (sym e) in
        sym (first_is q a last k (record { from = omega arith; below = f.below; passes = f.passes; before = λ j lo hi. below_or_from j b (none j lo) (λ above. f.before j above hi) }))

agree : (p q : ℕ → Bool) (a n : ℕ) → ((j : ℕ) → a ≤ j → j < a + n → p j ≡ q j) → find p (range_with_len a n) ≡ find q (range_with_len a n)
agree p q a zero same = refl
agree p q a (suc n) same =
    ap (λ b. cond b (Some a) (find p (range_with_len (a + 1) n))) (same a (omega arith) (omega arith))
    ∙ ap (cond (q a) (Some a)) (agree p q (a + 1) n (λ j lo hi. same j (omega arith) (omega arith)))

-- ---- numbers past the members

past_is : (count m : ℕ) → count ≤ m → is_past count m ≡ true
past_is count m h = ap not (le-ltb m count h)

not_past_is : (count m : ℕ) → m < count → is_past count m ≡ false
not_past_is count m h = ap not (lt-ltb m count h)

pub past_first : (count a last : ℕ) → a ≤ last → count ≤ last → Some (max a count) ≡ find (is_past count) (numbers_between a last)
past_first count a last h within =
    first_is (is_past count) a last (max a count)
    (record { from = omega arith; below = omega arith; passes = past_is count (max a count) (omega arith); before = λ j lo hi. not_past_is count j (omega arith) })

pub past_none : (count a last : ℕ) → (last < a) ⊎ (last < count) → None ≡ find (is_past count) (numbers_between a last)
past_none count a last (inl h) = none_is (is_past count) a last (λ j lo hi. absurd (omega arith))
past_none count a last (inr h) = none_is (is_past count) a last (λ j lo hi. not_past_is count j (omega arith))

-- ---- members by their signatures

module _ (signatures : List (List ℕ × List ℕ)) (name descriptor : List ℕ) where
  past_empty : (m : ℕ) → length signatures ≤ m → has_signature signatures name descriptor m ≡ (bytes_eq [] name && bytes_eq [] descriptor)
  past_empty m h = ap (λ o. bytes_eq (unwrap_or {T = List ℕ × List ℕ} o ([], [])).0 name && bytes_eq (unwrap_or {T = List ℕ × List ℕ} o ([], [])).1 descriptor) (slice_get_past signatures m h)

  -- what is found among the members is found among the numbers, if it is one of them
  pub there : (a last k : ℕ) → Some k ≡ find (has_signature signatures name descriptor) (range_with_len a (length signatures - a)) → k ≤ last
      → Some k ≡ find (has_signature signatures name descriptor) (numbers_between a last)
  there a last k e within =
      let f = found (has_signature signatures name descriptor) a (length signatures - a) k (sym e) in
      first_is (has_signature signatures name descriptor) a last k (record { from = f.from; below = omega arith; passes = f.passes; before = f.before })

  pub beyond : (a last : ℕ) → NoneBetween signatures name descriptor a (last + 1) → None ≡ find (has_signature signatures name descriptor) (numbers_between a last)
  beyond a last h = none_is (has_signature signatures name descriptor) a last (λ j lo hi. h j lo (omega arith))

  -- none is found among the members
  pub nowhere : (a last : ℕ) → None ≡ find (has_signature signatures name descriptor) (range_with_len a (length signatures - a)) → (bytes_eq [] name && bytes_eq [] descriptor) ≡ false
      → None ≡ find (has_signature signatures name descriptor) (numbers_between a last)
  nowhere a last e full =
      let none = none_found (has_signature signatures name descriptor) a (length signatures - a) (sym e) in
      none_is (has_signature signatures name descriptor) a last
      (λ j lo hi. below_or_from j (length signatures) (λ within. none j lo (omega arith)) (λ past. past_empty j past ∙ full))

  -- a number past them may be found then
  pub only_past : (a last : ℕ) → None ≡ find (has_signature signatures name descriptor) (range_with_len a (length signatures - a)) → (bytes_eq [] name && bytes_eq [] descriptor) ≡ true
      → find (is_past (length signatures)) (numbers_between a last) ≡ find (has_signature signatures name descriptor) (numbers_between a last)
  only_past a last e empty =
      let none = none_found (has_signature signatures name descriptor) a (length signatures - a) (sym e) in
      agree (is_past (length signatures)) (has_signature signatures name descriptor) a (last + 1 - a)
      (λ j lo hi. below_or_from j (length signatures)
      (λ within. not_past_is (length signatures) j within ∙ sym (none j lo (omega arith)))
      (λ past. past_is (length signatures) j past ∙ sym (past_empty j past ∙ empty)))

pub both_empty : (name descriptor : List ℕ) → true ≡ (length name == 0) → true ≡ (length descriptor == 0) → (bytes_eq [] name && bytes_eq [] descriptor) ≡ true
both_empty name descriptor a b =
    let n : name ≡ [] = nil_from_length name (eqb-true (length name) 0 (sym a)) in
    let d : descriptor ≡ [] = nil_from_length descriptor (eqb-true (length descriptor) 0 (sym b)) in
    subst (λ x. (bytes_eq [] x && bytes_eq [] descriptor) ≡ true) (sym n) (subst (λ x. (bytes_eq [] [] && bytes_eq [] x) ≡ true) (sym d) refl)

pub full_name : (name descriptor : List ℕ) → false ≡ (length name == 0) → (bytes_eq [] name && bytes_eq [] descriptor) ≡ false
full_name [] descriptor a = absurd cc
full_name (x ∷ name) descriptor a = refl

pub full_descriptor : (name descriptor : List ℕ) → false ≡ (length descriptor == 0) → (bytes_eq [] name && bytes_eq [] descriptor) ≡ false
full_descriptor name [] a = absurd cc
full_descriptor [] (x ∷ descriptor) a = refl
full_descriptor (y ∷ name) (x ∷ descriptor) a = refl

-- ---- the numbers of a class's members

last_number : (first count k : ℕ) → slice_get (range_with_len first count) (count - 1) ≡ Some k → count ≡ k + 1 - first
last_number first count k e = below_or_from (count - 1) count some none
  where
    some : count - 1 < count → count ≡ k + 1 - first
    some h =
        let there : count - 1 < length (range_with_len first count) = rw length-range_with_len h in
        let at = slice_get-get_or (range_with_len first count) (count - 1) 0 there in
        let is = get_or-range_with_len first count (count - 1) 0 h in
        let same : k ≡ first + (count - 1) = cc in
        omega arith

    none : count ≤ count - 1 → count ≡ k + 1 - first
    none h =
        let nothing : length (range_with_len first count) ≤ count - 1 = rw length-range_with_len h in
        let past = slice_get_past (range_with_len first count) (count - 1) nothing in
        absurd (cc)

-- they go from the first through the last
pub numbers_through : {A : Type 0} (v : A → ℕ) (xs : List A) (first count : ℕ) (last : A) → map v xs ≡ range_with_len first count → Some last ≡ slice_get xs (length xs - 1)
    → map v xs ≡ numbers_between first (v last)
numbers_through v xs first count last run e =
    let many : length xs ≡ count = sym (length-map xs v) ∙ ap length run ∙ length-range_with_len first count in
    let at : slice_get (range_with_len first count) (count - 1) ≡ Some (v last) =
    ap (λ ys. slice_get ys (count - 1)) (sym run) ∙ slice_get-map v xs (count - 1) ∙ ap (λ n. option_map v (slice_get xs (n - 1))) (sym many) ∙ ap (option_map v) (sym e)
    in
    run ∙ ap (range_with_len first) (last_number first count (v last) at)

pub no_numbers : {A : Type 0} (v : A → ℕ) (xs : List A) → None ≡ slice_get xs (length xs - 1) → map v xs ≡ []
no_numbers v [] e = refl
no_numbers v (x ∷ xs) e =
    let there : length (x ∷ xs) - 1 < length (x ∷ xs) = omega arith in
    let at = slice_get-get_or (x ∷ xs) (length (x ∷ xs) - 1) x there in
    absurd (cc)

-- ---- a member of a class

same_finds : (p q : ℕ → Bool) → ((m : ℕ) → p m ≡ q m) → (ns : List ℕ) → find p ns ≡ find q ns
same_finds p q same [] = refl
same_finds p q same (n ∷ ns) = ap (λ b. cond b (Some n) (find p ns)) (same n) ∙ ap (cond (q n) (Some n)) (same_finds p q same ns)

and_and : (a b c : Bool) → (a && (b && c)) ≡ ((a && b) && c)
and_and true b c = refl
and_and false b c = refl

and_false : (a : Bool) → (a && false) ≡ false
and_false true = refl
and_false false = refl

module _ {M : Type 0} (s : M → List ℕ × List ℕ) (none : M) (empty : s none ≡ ([], [])) (members : List M) (name descriptor : List ℕ) where
  -- the member of a number has the name and the descriptor
  abbrev is_named : ℕ → Bool
  is_named m = bytes_eq (s (item_or members m none)).0 name && bytes_eq (s (item_or members m none)).1 descriptor

  named : (m : ℕ) → has_signature (map s members) name descriptor m ≡ is_named m
  named m = ap test (ap (λ o. unwrap_or {T = List ℕ × List ℕ} o ([], [])) (slice_get-map s members m) ∙ by (slice_get members m))
    where
      test : List ℕ × List ℕ → Bool
      test pair = bytes_eq pair.0 name && bytes_eq pair.1 descriptor

      by : (o : Option M) → unwrap_or {T = List ℕ × List ℕ} (option_map s o) ([], []) ≡ s (unwrap_or {T = M} o none)
      by None = sym empty
      by (Some m) = refl

  pub finds_named : (ns : List ℕ) → find (has_signature (map s members) name descriptor) ns ≡ find is_named ns
  finds_named ns = same_finds (has_signature (map s members) name descriptor) is_named named ns

  -- and it passes a test
  module _ (passes : M → Bool) where
    abbrev is_wanted : ℕ → Bool
    is_wanted m = bytes_eq (s (item_or members m none)).0 name && (bytes_eq (s (item_or members m none)).1 descriptor && passes (item_or members m none))

    wanted : (m : ℕ) → is_wanted m ≡ (has_signature (map s members) name descriptor m && passes (item_or members m none))
    wanted m =
        and_and (bytes_eq (s (item_or members m none)).0 name) (bytes_eq (s (item_or members m none)).1 descriptor) (passes (item_or members m none))
        ∙ ap (λ b. b && passes (item_or members m none)) (sym (named m))

    unnamed : (m : ℕ) → has_signature (map s members) name descriptor m ≡ false → is_wanted m ≡ false
    unnamed m h = wanted m ∙ ap (λ b. b && passes (item_or members m none)) h

    unwanted : (m : ℕ) → passes (item_or members m none) ≡ false → is_wanted m ≡ false
    unwanted m h = wanted m ∙ ap (λ b. has_signature (map s members) name descriptor m && b) h ∙ and_false (has_signature (map s members) name descriptor m)

    pub none_wanted : (a last : ℕ) → None ≡ find (has_signature (map s members) name descriptor) (numbers_between a last) → None ≡ find is_wanted (numbers_between a last)
    none_wanted a last e = none_is is_wanted a last (λ j lo hi. unnamed j (none_between (has_signature (map s members) name descriptor) a last e j lo hi))

    pub wanted_is : (a last k : ℕ) → Some k ≡ find (has_signature (map s members) name descriptor) (numbers_between a last) → passes (item_or members k none) ≡ true
        → Some k ≡ find is_wanted (numbers_between a last)
    wanted_is a last k e h =
        let f = found_between (has_signature (map s members) name descriptor) a last k e in
        first_is is_wanted a last k
        (record {
          from = f.from;
          below = f.below;
          passes = wanted k ∙ ap (λ b. b && passes (item_or members k none)) f.passes ∙ h;
          before = λ j lo hi. unnamed j (f.before j lo hi);
        })

    pub wanted_later : (a last k : ℕ) → Some k ≡ find (has_signature (map s members) name descriptor) (numbers_between a last) → passes (item_or members k none) ≡ false
        → find is_wanted (numbers_between a last) ≡ find is_wanted (numbers_between (k + 1) last)
    wanted_later a last k e h =
        let f = found_between (has_signature (map s members) name descriptor) a last k e in
        gone_by is_wanted a (k + 1) last (omega (arith, f.from)) (omega (arith, f.below))
        (λ j lo hi. below_or_from j k (λ before. unnamed j (f.before j lo before)) (λ there. let same : k ≡ j = omega arith in subst (λ m. is_wanted m ≡ false) same (unwanted k h)))

    -- no number is after the last one
    pub wanted_nowhere : (a last k limit : ℕ) → Some k ≡ find (has_signature (map s members) name descriptor) (numbers_between a last) → passes (item_or members k none) ≡ false → last < limit
        → limit ≤ k + 1 → None ≡ find is_wanted (numbers_between a last)
    wanted_nowhere a last k limit e h within past = none_is is_wanted (k + 1) last (λ j lo hi. absurd (omega arith)) ∙ sym (wanted_later a last k e h)

pub step_within : (q : ℕ → Bool) (a last k : ℕ) → Some k ≡ find q (numbers_between a last) → (a ≤ k) × (k ≤ last)
step_within q a last k e = let f = found_between q a last k e in (f.from, omega (arith, f.below))
