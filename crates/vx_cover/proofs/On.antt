-- The options that are on, one option more.
use Rattle.std.proofs.Common.{◌≡◌, ℕ, ◌+◌, suc, Bool, true, false, List, [], ◌∷◌, ◌++◌, refl, sym, ◌∙◌, ap, arith}
use Rattle.std.proofs.lemmas.List.{append-nil}
use Rattle.vx_space.specs.Config.{value_of}
use Rattle.vx_cover.specs.Text.{options_on}

pub options_on-on : (n : ℕ) (c : List Bool) (found more : List ℕ) → value_of c n ≡ true → more ≡ found ++ n ∷ [] → found ≡ options_on n c → more ≡ options_on (n + 1) c
options_on-on n c found more t e h =
    let at : options_on (suc n) c ≡ options_on n c ++ n ∷ [] = rw t refl in
    let next : suc n ≡ n + 1 = omega arith in
    e ∙ ap (λ xs. xs ++ n ∷ []) h ∙ sym at ∙ ap (λ k. options_on k c) next

pub options_on-off : (n : ℕ) (c : List Bool) (found : List ℕ) → value_of c n ≡ false → found ≡ options_on n c → found ≡ options_on (n + 1) c
options_on-off n c found t h =
    let at : options_on (suc n) c ≡ options_on n c = rw t (append-nil (options_on n c)) in
    let next : suc n ≡ n + 1 = omega arith in
    h ∙ sym at ∙ ap (λ k. options_on k c) next
