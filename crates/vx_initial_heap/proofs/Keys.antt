-- Keys of the table of literals, as the first objects that they stand for.
use Rattle.std.proofs.Common.{◌≡◌, Bool, true, false, List, [], ◌∷◌, ◌++◌, map, refl, ◌∙◌, ap, not, position, if◌then◌else◌}
use Rattle.std.specs.List.{list_any, prefix_len}
use Rattle.std.proofs.lemmas.List.{length-map}
use Rattle.vx_java.specs.FirstObjects.{same_first}
use Rattle.vx_initial_heap.specs.Literals.{first_of, with_first}
use Rattle.vx_initial_heap.specs.declared.literal.Literal.{Literal}
use Rattle.vx_initial_heap.specs.declared.literal.Literal.TheVariants.{Class, Text}
use Rattle.vx_initial_heap.specs.contracts.literal.LiteralPartialEq.TheImpl as literal_eq

-- literals are equal where their objects are one
same_literal : (a b : Literal) → literal_eq.ghosts.eq a b ≡ same_first (first_of a) (first_of b)
same_literal (Text a) (Text b) = refl
same_literal (Class a) (Class b) = refl
same_literal (Text a) (Class b) = refl
same_literal (Class a) (Text b) = refl

module _ {A B : Type 0} (h : A → B) (p : A → Bool) (q : B → Bool) (same : (x : A) → p x ≡ q (h x)) where
  before-map : (xs : List A) → prefix_len (λ x. not (p x)) xs ≡ prefix_len (λ y. not (q y)) (map h xs)
  before-map [] = refl
  before-map (x ∷ xs) = rw (same x, before-map xs) refl

  position-map : (xs : List A) → position p xs ≡ position q (map h xs)
  position-map xs = rw (before-map xs, length-map) refl

  any-map : (xs : List A) → list_any p xs ≡ list_any q (map h xs)
  any-map [] = refl
  any-map (x ∷ xs) = rw (same x, any-map xs) refl

pub place-keys : (x : Literal) (keys : List Literal) → position (literal_eq.ghosts.eq x) keys ≡ position (same_first (first_of x)) (map first_of keys)
place-keys x keys = position-map first_of (literal_eq.ghosts.eq x) (same_first (first_of x)) (same_literal x) keys

with-key-at : (b : Bool) (keys : List Literal) (k : Literal) → map first_of (if b then keys else keys ++ k ∷ []) ≡ (if b then map first_of keys else map first_of keys ++ first_of k ∷ [])
with-key-at true keys k = refl
with-key-at false [] k = refl
with-key-at false (x ∷ keys) k = ap (λ r. first_of x ∷ r) (with-key-at false keys k)

-- the literals after one was put
pub with-key : (keys : List Literal) (k : Literal) → map first_of (if list_any (literal_eq.ghosts.eq k) keys then keys else keys ++ k ∷ []) ≡ with_first (map first_of keys) (first_of k)
with-key keys k =
    with-key-at (list_any (literal_eq.ghosts.eq k) keys) keys k
    ∙ ap (λ b. if b then map first_of keys else map first_of keys ++ first_of k ∷ []) (any-map first_of (literal_eq.ghosts.eq k) (same_first (first_of k)) (same_literal k) keys)
