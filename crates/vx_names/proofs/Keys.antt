-- Keys of a hash table as the names that they hold.
use Rattle.std.proofs.Common.{◌≡◌, ℕ, List, [], ◌∷◌, ◌++◌, map, refl, ap, ◌∙◌, Bool, true, false, position, not, cond, Option, Some, None, option_map, option_and_then, slice_get, length, suc, nat_lt, ◌+◌, sym, arith, if◌then◌else◌, bytes_eq}
use Rattle.std.specs.List.{list_any, prefix_len, find}
use Rattle.std.specs.Option.{option_or}
use Rattle.std.proofs.lemmas.Bool.{lt-ltb}
use Rattle.std.proofs.lemmas.Bool.Decides.{nat_tests}
use Rattle.std.proofs.lemmas.List.{length-map}
use Rattle.std.proofs.lemmas.Cmp.{nat_list_eq_equiv}
use Rattle.vx_names.specs.Names.{has_name, place_of, with_name}

module _ {K : Type 0} (h : K → List ℕ) where
  -- a key of this name is there exactly where the name is
  pub has-keys : (keys : List K) (name : List ℕ) → list_any (λ k. bytes_eq name (h k)) keys ≡ has_name (map h keys) name
  has-keys [] name = refl
  has-keys (k ∷ keys) name = rw (nat_list_eq_equiv.symm name (h k), has-keys keys name) refl

  before-keys : (keys : List K) (name : List ℕ) → prefix_len (λ k. not (bytes_eq name (h k))) keys ≡ prefix_len (λ n. not (bytes_eq n name)) (map h keys)
  before-keys [] name = refl
  before-keys (k ∷ keys) name = rw (nat_list_eq_equiv.symm name (h k), before-keys keys name) refl

  -- and stands at the place of the name
  pub place-keys : (keys : List K) (name : List ℕ) → position (λ k. bytes_eq name (h k)) keys ≡ place_of (map h keys) name
  place-keys keys name = rw (before-keys keys name, length-map) refl

  with-keys-at : (b : Bool) (keys : List K) (k : K) → map h (if b then keys else keys ++ k ∷ []) ≡ (if b then map h keys else map h keys ++ h k ∷ [])
  with-keys-at true keys k = refl
  with-keys-at false [] k = refl
  with-keys-at false (x ∷ keys) k = ap (λ r. h x ∷ r) (with-keys-at false keys k)

  -- the names after a key was put
  pub with-keys : (keys : List K) (k : K) → map h (if list_any (λ x. bytes_eq (h k) (h x)) keys then keys else keys ++ k ∷ []) ≡ with_name (map h keys) (h k)
  with-keys keys k = with-keys-at (list_any (λ x. bytes_eq (h k) (h x)) keys) keys k ∙ ap (λ b. if b then map h keys else map h keys ++ h k ∷ []) (has-keys keys (h k))

-- the place of a name among the names of some items
pub place_of-map : {A : Type 0} (h : A → List ℕ) (xs : List A) (name : List ℕ) → place_of (map h xs) name ≡ position (λ x. bytes_eq (h x) name) xs
place_of-map h xs name = rw (before-map h xs name, length-map) refl
  where
    before-map : {A : Type 0} (h : A → List ℕ) (xs : List A) (name : List ℕ) → prefix_len (λ n. not (bytes_eq n name)) (map h xs) ≡ prefix_len (λ x. not (bytes_eq (h x) name)) xs
    before-map h [] name = refl
    before-map h (x ∷ xs) name = rw (before-map h xs name) refl

-- ---- places

position-cons-at : (b : Bool) (a n : ℕ) → cond (nat_lt (cond (not b) (1 + a) 0) (suc n)) (Some (cond (not b) (1 + a) 0)) None ≡ cond b (Some 0) (option_map suc (cond (nat_lt a n) (Some a) None))
position-cons-at true a n = rw (lt-ltb 0 (suc n) (omega arith)) refl
position-cons-at false a n = later (nat_lt a n) (nat_lt (1 + a) (suc n)) (same a n)
  where
    same : (a n : ℕ) → nat_lt (1 + a) (suc n) ≡ nat_lt a n
    same a n = grind (arith, nat_tests)

    later : (s t : Bool) → t ≡ s → cond t (Some (1 + a)) None ≡ option_map suc (cond s (Some a) None)
    later true t e = rw e (ap Some (omega arith))
    later false t e = rw e refl

pub position-cons : {A : Type 0} (p : A → Bool) (x : A) (xs : List A) → position p (x ∷ xs) ≡ cond (p x) (Some 0) (option_map suc (position p xs))
position-cons p x xs = position-cons-at (p x) (prefix_len (λ y. not (p y)) xs) (length xs)

shifted : (a : ℕ) (o : Option ℕ) → option_map suc (option_map (λ n. a + n) o) ≡ option_map (λ n. suc a + n) o
shifted a None = refl
shifted a (Some n) = ap Some (omega arith)

later-or : (b : Bool) (o r : Option ℕ) → cond b (Some 0) (option_map suc (option_or o r)) ≡ option_or (cond b (Some 0) (option_map suc o)) (option_map suc r)
later-or true o r = refl
later-or false None r = refl
later-or false (Some n) r = refl

unshifted : (o : Option ℕ) → o ≡ option_map (λ n. 0 + n) o
unshifted None = refl
unshifted (Some n) = ap Some (omega arith)

pub position-append : {A : Type 0} (p : A → Bool) (xs ys : List A) → position p (xs ++ ys) ≡ option_or (position p xs) (option_map (λ n. length xs + n) (position p ys))
position-append p [] ys = unshifted (position p ys)
position-append p (x ∷ xs) ys =
    position-cons p x (xs ++ ys)
    ∙ ap (λ o. cond (p x) (Some 0) (option_map suc o)) (position-append p xs ys)
    ∙ later-or (p x) (position p xs) (option_map (λ n. length xs + n) (position p ys))
    ∙ ap (option_or (cond (p x) (Some 0) (option_map suc (position p xs)))) (shifted (length xs) (position p ys))
    ∙ ap (λ o. option_or o (option_map (λ n. suc (length xs) + n) (position p ys))) (sym (position-cons p x xs))

-- what stands at the first place is what is found first
pub find-position : {A : Type 0} (p : A → Bool) (xs : List A) → option_and_then (slice_get xs) (position p xs) ≡ find p xs
find-position p [] = refl
find-position p (x ∷ xs) = ap (option_and_then (slice_get (x ∷ xs))) (position-cons p x xs) ∙ found-at (p x) (position p xs) ∙ ap (λ r. cond (p x) (Some x) r) (find-position p xs)
  where
    found-at : (b : Bool) (o : Option ℕ) → option_and_then (slice_get (x ∷ xs)) (cond b (Some 0) (option_map suc o)) ≡ cond b (Some x) (option_and_then (slice_get xs) o)
    found-at true o = refl
    found-at false None = refl
    found-at false (Some n) = refl
