-- Lists with more behind them.
use Rattle.std.proofs.Common.{List, [], ap, append_assoc, arith, length, length-append, refl, suc, zero, ℕ, ◌++◌, ◌+◌, ◌<◌, ◌∙◌, ◌∷◌, ◌≡◌, ◌≤◌}
use Rattle.vx_list.specs.Places.{item_or}
use Rattle.vx_numbered.specs.Trees.{Grows}

pub grows_itself : {A : Type 0} (xs : List A) → Grows xs xs
grows_itself xs = record { more = []; is = nothing xs }
  where
    nothing : {A : Type 0} (xs : List A) → xs ≡ xs ++ []
    nothing [] = refl
    nothing (x ∷ xs) = ap (λ ys. x ∷ ys) (nothing xs)

pub grows_by_one : {A : Type 0} (xs ys : List A) (x : A) → ys ≡ xs ++ x ∷ [] → Grows xs ys
grows_by_one xs ys x is = record { more = x ∷ []; is = is }

pub grows_through : {A : Type 0} {xs ys zs : List A} → Grows xs ys → Grows ys zs → Grows xs zs
grows_through {xs = xs} g h = record { more = g.more ++ h.more; is = h.is ∙ ap (λ ys. ys ++ h.more) g.is ∙ append_assoc xs g.more h.more }

pub item_kept : {A : Type 0} (xs more : List A) (d : A) (i : ℕ) → i < length xs → item_or (xs ++ more) i d ≡ item_or xs i d
item_kept [] more d i l = absurd (omega (arith, l))
item_kept (x ∷ xs) more d zero l = refl
item_kept (x ∷ xs) more d (suc i) l = item_kept xs more d i (omega (arith, l))

pub item_last : {A : Type 0} (xs : List A) (x d : A) → item_or (xs ++ x ∷ []) (length xs) d ≡ x
item_last [] x d = refl
item_last (y ∷ ys) x d = item_last ys x d

pub length_grown : {A : Type 0} (xs ys : List A) → Grows xs ys → length xs ≤ length ys
length_grown xs ys g = let e : length ys ≡ length xs + length g.more = ap length g.is ∙ length-append xs g.more in omega (arith, e)

pub one_longer : {A : Type 0} (xs ys : List A) (x : A) → ys ≡ xs ++ x ∷ [] → length ys ≡ length xs + 1
one_longer xs ys x is = ap length is ∙ length-append xs (x ∷ [])
