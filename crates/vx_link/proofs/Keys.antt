-- Members found by their keys: what these say of the list of names and descriptors.
use Rattle.std.proofs.Common.{Bool, List, None, Option, Some, [], ap, arith, below_more, cond, false, get_or, length, map, refl, subst, suc, sym, take, true, zero, ℕ, ◌++◌, ◌+◌, ◌*◌, ◌-◌, ◌<◌, ◌≤◌, ◌∙◌, ◌∷◌, ◌≡◌, bytes_eq, find}
use Rattle.std.proofs.Math.Dec.{ltb}
use Rattle.std.proofs.lemmas.Bool.{ltb-false, ltb-true}
use Rattle.std.proofs.lemmas.Bool.Decides.{Decides-eqb}
use Rattle.std.proofs.lemmas.List.{length-append, map_more}
use Rattle.std.proofs.lemmas.Slice.Eq.{bytes_eq-Decides}
use Rattle.std.specs.BTreeMap.{is_at}
use Rattle.std.specs.BTreeSet.{BTreeSet, Updates, contains}
use Rattle.std.specs.Cmp.{unsigned_tied}
use Rattle.std.specs.List.{range_with_len}
use Rattle.std.specs.Ordering.{nat_cmp}
use Rattle.std.specs.Prelude.{◌&&◌, ◌==◌}
use Rattle.vx_link.specs.MemberKeys.{AreKeys, IsNext, IsNextNumber, IsNumber, hash_of_signature, key_at, key_of}
use Rattle.vx_link.specs.Members.{IsFirst, NoneBetween, first_signature, has_signature}
use Rattle.vx_list.specs.Places.{item_or}

-- ---- tests

not_both : (b : Bool) → b ≡ true → b ≡ false → ⊥
not_both true e f = cc
not_both false e f = cc

both_of : (a b : Bool) → (a && b) ≡ true → (a ≡ true) × (b ≡ true)
both_of true true e = (refl, refl)
both_of true false e = absurd (cc e)
both_of false b e = absurd (cc e)

not_true : (b : Bool) → (b ≡ true → ⊥) → b ≡ false
not_true true h = absurd (h refl)
not_true false h = refl

-- ---- items of lists

item_or_is : {A : Type 0} (xs : List A) (i : ℕ) (d : A) → item_or xs i d ≡ get_or xs i d
item_or_is [] i d = refl
item_or_is (x ∷ xs) zero d = refl
item_or_is (x ∷ xs) (suc i) d = item_or_is xs i d

item_before : {A : Type 0} (xs : List A) (x : A) (i : ℕ) (d : A) → i < length xs → item_or (xs ++ x ∷ []) i d ≡ item_or xs i d
item_before [] x i d h = absurd (omega arith)
item_before (y ∷ xs) x zero d h = refl
item_before (y ∷ xs) x (suc i) d h = item_before xs x i d (omega arith)

item_behind : {A : Type 0} (xs : List A) (x : A) (d : A) → item_or (xs ++ x ∷ []) (length xs) d ≡ x
item_behind [] x d = refl
item_behind (y ∷ xs) x d = item_behind xs x d

-- ---- parts of lists

length_taken : {M S : Type 0} (f : M → S) (members : List M) (i : ℕ) → i < length members → length (map f (take i members)) ≡ i
length_taken f [] i l = absurd (omega arith)
length_taken f (x ∷ xs) zero l = refl
length_taken f (x ∷ xs) (suc i) l = ap suc (length_taken f xs i (omega arith))

-- ---- what is found in a range of numbers

none_in : (p : ℕ → Bool) (from n : ℕ) → ((m : ℕ) → from ≤ m → m < from + n → p m ≡ false) → None ≡ find p (range_with_len from n)
none_in p from zero h = refl
none_in p from (suc n) h =
    none_in p (from + 1) n (λ m a b. h m (omega arith) (omega arith))
    ∙ ap (λ b. cond b (Some from) (find p (range_with_len (from + 1) n))) (sym (h from (omega arith) (omega arith)))

some_behind : (p : ℕ → Bool) (from n j : ℕ) → j < n → p (from + j) ≡ true → ((k : ℕ) → from ≤ k → k < from + j → p k ≡ false)
    → Some (from + j) ≡ find p (range_with_len from n)
some_behind p from zero j l t h = absurd (omega arith)
some_behind p from (suc n) zero l t h =
    let e : from + 0 ≡ from = omega arith in
    ap Some e ∙ ap (λ b. cond b (Some from) (find p (range_with_len (from + 1) n))) (sym (subst (λ m. p m ≡ true) e t))
some_behind p from (suc n) (suc j) l t h =
    let e : from + suc j ≡ from + 1 + j = omega arith in
    ap Some e
    ∙ some_behind p (from + 1) n j (omega arith) (subst (λ m. p m ≡ true) e t) (λ k a b. h k (omega arith) (omega arith))
    ∙ ap (λ b. cond b (Some from) (find p (range_with_len (from + 1) n))) (sym (h from (omega arith) (omega arith)))

some_in : (p : ℕ → Bool) (from n m : ℕ) → from ≤ m → m < from + n → p m ≡ true → ((k : ℕ) → from ≤ k → k < m → p k ≡ false)
    → Some m ≡ find p (range_with_len from n)
some_in p from n m a b t h =
    let e : from + (m - from) ≡ m = omega arith in
    ap Some (sym e) ∙ some_behind p from n (m - from) (omega arith) (subst (λ k. p k ≡ true) (sym e) t) (λ k c d. h k c (omega arith))

-- ---- keys of hashes

-- the least key from one on tells the least number
pub no_number : (keys : BTreeSet ℕ) (hash from : ℕ) → IsNext keys (key_of hash from) None → IsNextNumber keys hash from None
no_number keys hash from h = λ number a b. h (key_of hash number) (omega arith)

number_past : (keys : BTreeSet ℕ) (hash from key : ℕ) → IsNext keys (key_of hash from) (Some key) → IsNumber hash key None → IsNextNumber keys hash from None
number_past keys hash from key h past = λ number a b. h.2 (key_of hash number) (omega arith) (omega (arith, past))

number_there : (keys : BTreeSet ℕ) (hash from key number : ℕ) → IsNext keys (key_of hash from) (Some key) → IsNumber hash key (Some number) → IsNextNumber keys hash from (Some number)
number_there keys hash from key number h is = (
  omega (arith, h.0, is.0),
  is.1,
  subst (λ k. contains nat_cmp keys k ≡ true) is.0 h.1,
  λ m a b. h.2 (key_of hash m) (omega arith) (omega (arith, is.0)),
)

pub next_number : (keys : BTreeSet ℕ) (hash from key : ℕ) (r : Option ℕ) → IsNext keys (key_of hash from) (Some key) → IsNumber hash key r → IsNextNumber keys hash from r
next_number keys hash from key None h is = number_past keys hash from key h is
next_number keys hash from key (Some number) h is = number_there keys hash from key number h is

-- ---- one member more

module _ (signatures : List (List ℕ × List ℕ)) (keys later : BTreeSet ℕ) (s : List ℕ × List ℕ) (known : AreKeys signatures keys) (few : length signatures < 18446744073709551616)
    (u : Updates nat_cmp keys later (key_of (hash_of_signature s) (length signatures)) true) where
  abbrev more : List (List ℕ × List ℕ)
  more = signatures ++ s ∷ []

  count : length more ≡ length signatures + 1
  count = length-append signatures (s ∷ [])

  front : (number : ℕ) → number < length signatures → item_or more number ([], []) ≡ item_or signatures number ([], [])
  front number l = item_before signatures s number _ l

  seam : item_or more (length signatures) ([], []) ≡ s
  seam = item_behind signatures s _

  key_before : (number : ℕ) → number < length signatures → key_at more number ≡ key_at signatures number
  key_before number l = ap (λ x. key_of (hash_of_signature x) number) (front number l)

  key_behind : key_at more (length signatures) ≡ key_of (hash_of_signature s) (length signatures)
  key_behind = ap (λ x. key_of (hash_of_signature x) (length signatures)) seam

  -- a key that is there stays there
  stays : (key : ℕ) → contains nat_cmp keys key ≡ true → contains nat_cmp later key ≡ true
  stays key e = u.0 key ∙ by (is_at (nat_cmp (key_of (hash_of_signature s) (length signatures))) key)
    where
      by : (b : Bool) → cond b true (contains nat_cmp keys key) ≡ true
      by true = refl
      by false = e

  was_or_new : (key : ℕ) → contains nat_cmp later key ≡ true → (number : ℕ) × (number < length more) × (key ≡ key_at more number)
  was_or_new key e = by (key_of (hash_of_signature s) (length signatures) == key) refl
    where
      by : (b : Bool) → (key_of (hash_of_signature s) (length signatures) == key) ≡ b → (number : ℕ) × (number < length more) × (key ≡ key_at more number)
      by true h = (
        length signatures,
        subst (λ n. length signatures < n) (sym count) (omega arith),
        sym ((Decides-eqb (key_of (hash_of_signature s) (length signatures)) key).0 h) ∙ sym key_behind,
      )
      by false h =
          let old = known.only key (sym (u.2 key (unsigned_tied (key_of (hash_of_signature s) (length signatures)) key ∙ h)) ∙ e) in
          (old.0, subst (λ n. old.0 < n) (sym count) (omega (arith, old.1)), old.2 ∙ sym (key_before old.0 old.1))

  pub one_more : AreKeys more later
  one_more = record {
    few = subst (λ n. n ≤ 18446744073709551616) (sym count) (omega arith);
    there = λ number l.
        below_more (λ k. contains nat_cmp later (key_at more k) ≡ true) (length signatures)
        (λ k h. subst (λ x. contains nat_cmp later x ≡ true) (sym (key_before k h)) (stays (key_at signatures k) (known.there k h)))
        (subst (λ x. contains nat_cmp later x ≡ true) (sym key_behind) u.1) number (subst (λ n. number < n) count l);
    only = was_or_new;
  }

-- the key of a member that goes in behind those before it
pub next_of : {M : Type 0} (f : M → List ℕ × List ℕ) (members : List M) (i : ℕ) (m : M) (keys later : BTreeSet ℕ) (key number hash : ℕ) → i < length members → m ≡ get_or members i m
    → number ≡ i → i < 18446744073709551616 → hash ≡ hash_of_signature (f m) → key ≡ key_of hash number → AreKeys (map f (take i members)) keys → Updates nat_cmp keys later key true
    → AreKeys (map f (take (i + 1) members)) later
next_of f members i m keys later key number hash l is n few h k known u =
    let count : length (map f (take i members)) ≡ i = length_taken f members i l in
    let key_is : key ≡ key_of (hash_of_signature (f m)) (length (map f (take i members))) =
    k ∙ ap (λ x. key_of x number) h ∙ ap (key_of (hash_of_signature (f m))) (n ∙ sym count) in
    subst (λ s. AreKeys s later) (ap (λ x. map f (take i members) ++ f x ∷ []) is ∙ sym (map_more f members i m l))
    (one_more (map f (take i members)) keys later (f m) known (subst (λ c. c < 18446744073709551616) (sym count) few)
    (subst (λ x. Updates nat_cmp keys later x true) key_is u))

-- ---- the first member of a name and a descriptor

-- a number is below another, or it is not
pub below_or_from : {P : Type 0} (j b : ℕ) → (j < b → P) → (b ≤ j → P) → P
below_or_from {P} j b low high = by (ltb j b) refl
  where
    by : (t : Bool) → ltb j b ≡ t → P
    by true h = low (ltb-true j b h)
    by false h = high (ltb-false j b h)

pub not_below : (a b : ℕ) → (a < b → ⊥) → b ≤ a
not_below a b h = below_or_from a b (λ below. absurd (h below)) (λ from. from)

module _ (signatures : List (List ℕ × List ℕ)) (keys : BTreeSet ℕ) (known : AreKeys signatures keys) (name descriptor : List ℕ) where
  abbrev fits : ℕ → Bool
  fits = has_signature signatures name descriptor

  abbrev hash : ℕ
  hash = hash_of_signature (name, descriptor)

  same : (s : List ℕ × List ℕ) → (bytes_eq s.0 name && bytes_eq s.1 descriptor) ≡ true → s ≡ (name, descriptor)
  same s e =
      let b = both_of (bytes_eq s.0 name) (bytes_eq s.1 descriptor) e in
      ap (λ x. (x, s.1)) ((bytes_eq-Decides s.0 name).0 b.0) ∙ ap (λ y. (name, y)) ((bytes_eq-Decides s.1 descriptor).0 b.1)

  -- a member whose key is not there has another name or descriptor
  not_there : (m : ℕ) → m < length signatures → contains nat_cmp keys (key_of hash m) ≡ false → fits m ≡ false
  not_there m l h =
      not_true (fits m) (λ e.
      not_both (contains nat_cmp keys (key_of hash m))
      (subst (λ s. contains nat_cmp keys (key_of (hash_of_signature s) m) ≡ true) (same (item_or signatures m ([], [])) e) (known.there m l)) h)

  -- both parts of two keys are the same
  parts : (p q m k : ℕ) → m < 18446744073709551616 → k < 18446744073709551616 → p * 18446744073709551616 + m ≡ q * 18446744073709551616 + k → m ≡ k
  parts p q m k a b e = omega arith

  -- from a start on none is before the number from which the next key is looked for
  module _ (start from : ℕ) (none : NoneBetween signatures name descriptor start from) where
    pub none_left : IsNextNumber keys hash from None → None ≡ first_signature signatures name descriptor start
    none_left h =
        none_in fits start (length signatures - start) (λ m a b.
        let l : m < length signatures = omega arith in
        below_or_from m from (none m a) (λ c. not_there m l (h m c (omega (arith, known.few)))))

    module _ (next : ℕ) (h : IsNextNumber keys hash from (Some next)) where
      pub is_member : next < length signatures
      is_member =
          let o = known.only (key_of hash next) h.2 in
          let e : o.0 ≡ next = parts (hash_of_signature (item_or signatures o.0 ([], []))) hash o.0 next (omega (arith, known.few, o.1)) h.1 (sym o.2) in
          subst (λ m. m < length signatures) e o.1

      others : NoneBetween signatures name descriptor start next
      others k a b = below_or_from k from (none k a) (λ c. not_there k (omega (arith, is_member)) (h.3 k c b))

      pub found_beyond : (last : ℕ) → last < next → IsFirst signatures name descriptor start last (Some next)
      found_beyond last l = (λ k. absurd (omega arith), λ k m a b. others m a (omega arith))

      pub found_there : (last : ℕ) → start ≤ from → fits next ≡ true → IsFirst signatures name descriptor start last (Some next)
      found_there last s t = (
        λ k. some_in fits start (length signatures - start) next (omega (arith, h.0)) (omega (arith, is_member, h.0)) t others,
        λ k m a b. others m a (omega arith),
      )

      -- the member of another name or descriptor, whose hash is the same
      pub gone_by : fits next ≡ false → NoneBetween signatures name descriptor start (next + 1)
      gone_by f k a b = below_or_from k next (others k a) (λ c. let e : next ≡ k = omega arith in subst (λ m. fits m ≡ false) e f)

      pub is_last : fits next ≡ false → 18446744073709551616 ≤ next + 1 → None ≡ first_signature signatures name descriptor start
      is_last f l = none_in fits start (length signatures - start) (λ m a b. gone_by f m a (omega (arith, known.few)))

signature_at : {M : Type 0} (f : M → List ℕ × List ℕ) (members : List M) (i : ℕ) (m : M) → i < length (map f members) → m ≡ get_or members i m → item_or (map f members) i ([], []) ≡ f m
signature_at f [] i m l is = absurd (omega arith)
signature_at f (x ∷ xs) zero m l is = ap f (sym is)
signature_at f (x ∷ xs) (suc i) m l is = signature_at f xs i m (omega arith) is

-- what a test of the member itself says of its name and its descriptor
pub tested : {M : Type 0} (f : M → List ℕ × List ℕ) (members slice : List M) (name descriptor : List ℕ) (i : ℕ) (m : M) (b : Bool) → i < length (map f members) → slice ≡ members → m ≡ get_or slice i m
    → (bytes_eq (f m).0 name && bytes_eq (f m).1 descriptor) ≡ b → has_signature (map f members) name descriptor i ≡ b
tested f members slice name descriptor i m b l same is e =
    ap (λ s. bytes_eq s.0 name && bytes_eq s.1 descriptor) (signature_at f members i m l (subst (λ xs. m ≡ get_or xs i m) same is)) ∙ e
