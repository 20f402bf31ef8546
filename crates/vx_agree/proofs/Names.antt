-- Names that are tested to be the same are equal.
use Rattle.std.proofs.Common.{◌≡◌, ◌≢◌, ℕ, Bool, true, false, List, [], ◌∷◌, refl, sym, ap, ◌∙◌}
use Rattle.std.specs.Prelude.{◌&&◌, MatchBool}
use Rattle.std.specs.Str.{bytes_eq}
use Rattle.std.proofs.lemmas.Slice.Eq.{bytes_eq-Decides}
use Rattle.vx_agree.specs.Options.{are_same_names}

same_names : (xs ys : List (List ℕ)) → are_same_names xs ys ≡ true → xs ≡ ys
same_names [] [] t = refl
same_names [] (y ∷ ys) t = cc (t)
same_names (x ∷ xs) [] t = cc (t)
same_names (x ∷ xs) (y ∷ ys) t = by (same_names xs ys) (bytes_eq x y) refl t
  where
    by : (are_same_names xs ys ≡ true → xs ≡ ys) → (b : Bool) → bytes_eq x y ≡ b → (b && are_same_names xs ys) ≡ true → x ∷ xs ≡ y ∷ ys
    by rest true e t = cc ((bytes_eq-Decides x y).0 e, rest t)
    by rest false e t = cc (t)

names_same : (xs : List (List ℕ)) → are_same_names xs xs ≡ true
names_same [] = refl
names_same (x ∷ xs) = ap (λ b. b && are_same_names xs xs) ((bytes_eq-Decides x x).1 refl) ∙ names_same xs

pub told_names : (xs ys : List (List ℕ)) (b : Bool) → b ≡ are_same_names xs ys → MatchBool b (xs ≡ ys) (xs ≢ ys)
told_names xs ys true e = same_names xs ys (sym e)
told_names xs ys false e = λ q. clash (e ∙ ap (are_same_names xs) (sym q) ∙ names_same xs)
  where
    clash : false ≡ true → ⊥
    clash z = cc (z)
