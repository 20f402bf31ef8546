-- One place of a list, read and replaced.
use Rattle.std.proofs.Common.{◌≡◌, ℕ, zero, suc, ◌<◌, Bool, true, false, List, [], ◌∷◌, ◌&&◌, refl, sym, ◌∙◌, ap, map, length, get_or, arith}
use Rattle.std.proofs.Math.ListN.{set}
use Rattle.std.specs.Prelude.{Some, slice_get}
use Rattle.std.specs.List.{list_all}
use Rattle.vx_list.specs.Places.{item_or}

pub both_true : (a b : Bool) → (a && b) ≡ true → (a ≡ true) × (b ≡ true)
both_true true b h = (refl, h)
both_true false b h = cc

pub and_true : (a b : Bool) → a ≡ true → b ≡ true → (a && b) ≡ true
and_true a b h k = rw (h, k) refl

-- an item that is read by its place
pub at_place : {A : Type 0} (xs : List A) (i : ℕ) (x d : A) → i < length xs → x ≡ item_or xs i d → x ≡ get_or xs i x
at_place [] i x d l e = absurd (omega arith)
at_place (y ∷ ys) zero x d l e = e
at_place (y ∷ ys) (suc i) x d l e = at_place ys i x d (omega arith) e

pub place_of_some : {A : Type 0} (xs : List A) (i : ℕ) (x : A) → Some x ≡ slice_get xs i → x ≡ get_or xs i x
place_of_some [] i x e = cc
place_of_some (y ∷ ys) zero x e = cc
place_of_some (y ∷ ys) (suc i) x e = place_of_some ys i x e

pub map_place : {A B : Type 0} (f : A → B) (xs : List A) (i : ℕ) (x : A) → i < length xs → x ≡ get_or xs i x → f x ≡ get_or (map f xs) i (f x)
map_place f [] i x l e = absurd (omega arith)
map_place f (y ∷ ys) zero x l e = ap f e
map_place f (y ∷ ys) (suc i) x l e = map_place f ys i x (omega arith) e

pub passes_here : {A : Type 0} (p : A → Bool) (xs : List A) (i : ℕ) (x : A) → list_all p xs ≡ true → i < length xs → x ≡ get_or xs i x → p x ≡ true
passes_here p [] i x h l e = absurd (omega arith)
passes_here p (y ∷ ys) zero x h l e = ap p e ∙ (both_true (p y) (list_all p ys) h).0
passes_here p (y ∷ ys) (suc i) x h l e = passes_here p ys i x (both_true (p y) (list_all p ys) h).1 (omega arith) e

pub item_at : {A : Type 0} (xs : List A) (i : ℕ) (x d : A) → i < length xs → x ≡ get_or xs i x → item_or xs i d ≡ x
item_at [] i x d l e = absurd (omega arith)
item_at (y ∷ ys) zero x d l e = sym e
item_at (y ∷ ys) (suc i) x d l e = item_at ys i x d (omega arith) e

pub mapped_at : {A B : Type 0} (f : A → B) (xs : List A) (i : ℕ) (x : A) (d : B) → i < length xs → x ≡ get_or xs i x → item_or (map f xs) i d ≡ f x
mapped_at f [] i x d l e = absurd (omega arith)
mapped_at f (y ∷ ys) zero x d l e = ap f (sym e)
mapped_at f (y ∷ ys) (suc i) x d l e = mapped_at f ys i x d (omega arith) e

-- what passes at each place passes at one
pub passes_at : {A B : Type 0} (p : B → Bool) (f : A → B) (xs : List A) (i : ℕ) (x : A) → list_all p (map f xs) ≡ true → i < length xs → x ≡ get_or xs i x → p (f x) ≡ true
passes_at p f [] i x h l e = absurd (omega arith)
passes_at p f (y ∷ ys) zero x h l e = ap (λ z. p (f z)) e ∙ (both_true (p (f y)) (list_all p (map f ys)) h).0
passes_at p f (y ∷ ys) (suc i) x h l e = passes_at p f ys i x (both_true (p (f y)) (list_all p (map f ys)) h).1 (omega arith) e

-- and goes on to pass where one place gets what passes
pub passes-set : {A B : Type 0} (p : B → Bool) (f : A → B) (xs : List A) (i : ℕ) (x : A) → list_all p (map f xs) ≡ true → p (f x) ≡ true → list_all p (map f (set xs i x)) ≡ true
passes-set p f [] i x h k = refl
passes-set p f (y ∷ ys) zero x h k = and_true (p (f x)) (list_all p (map f ys)) k (both_true (p (f y)) (list_all p (map f ys)) h).1
passes-set p f (y ∷ ys) (suc i) x h k =
    let parts = both_true (p (f y)) (list_all p (map f ys)) h in
    and_true (p (f y)) (list_all p (map f (set ys i x))) parts.0 (passes-set p f ys i x parts.1 k)

-- a place that gets what it has
pub set_itself : {A B : Type 0} (f : A → B) (xs : List A) (i : ℕ) (x : A) → i < length xs → x ≡ get_or xs i x → set (map f xs) i (f x) ≡ map f xs
set_itself f [] i x l e = absurd (omega arith)
set_itself f (y ∷ ys) zero x l e = ap (λ z. f z ∷ map f ys) e
set_itself f (y ∷ ys) (suc i) x l e = ap (λ zs. f y ∷ zs) (set_itself f ys i x (omega arith) e)
