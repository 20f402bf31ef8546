-- Operands by their places from the top.
use Rattle.std.proofs.Common.{◌≡◌, List, [], ◌∷◌, drop, refl}
use Rattle.std.specs.Prelude.{None, Some, slice_get}
use Rattle.vx_java.specs.Machine.{Value}

pub no_top : (operands : List Value) → None ≡ slice_get operands 0 → operands ≡ []
no_top [] e = refl
no_top (v ∷ rest) e = cc

pub top : (operands : List Value) (u : Value) → Some u ≡ slice_get operands 0 → operands ≡ u ∷ drop 1 operands
top [] u e = cc
top (v ∷ rest) u e = cc

pub top_alone : (operands : List Value) (u : Value) → Some u ≡ slice_get operands 0 → None ≡ slice_get operands 1 → operands ≡ u ∷ []
top_alone [] u e none = cc
top_alone (v ∷ []) u e none = cc
top_alone (v ∷ w ∷ rest) u e none = cc

pub top_two : (operands : List Value) (u v : Value) → Some u ≡ slice_get operands 0 → Some v ≡ slice_get operands 1 → operands ≡ u ∷ v ∷ drop 2 operands
top_two [] u v e f = cc
top_two (x ∷ []) u v e f = cc
top_two (x ∷ y ∷ rest) u v e f = cc
