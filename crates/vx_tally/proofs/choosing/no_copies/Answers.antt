use Rattle.std.proofs.Common.{◌≡◌, ℕ, List, [], ◌∷◌, ◌++◌, inl, inr}
use Rattle.std.specs.Prelude.{Option, None, Some, slice_get}
use Rattle.vx_tally.proofs.NodeLaws.{last_or_before}
use Rattle.vx_tally.proofs.choosing.no_copies.Goals as goal

none-push : (xs : List (Option ℕ)) → ((k copy : ℕ) → slice_get xs k ≡ Some (Some copy) → ⊥) → (k copy : ℕ) → slice_get (xs ++ None ∷ []) k ≡ Some (Some copy) → ⊥
none-push xs h k copy e = elim (last_or_before xs None (Some copy) k e) [
  | inl p ↦ h k copy p.1
  | inr p ↦ none_is p.1
]
  where
    none_is : Some copy ≡ None → ⊥
    none_is e = cc

pub loop-preserved : goal.loop-preserved
loop-preserved c = rw c.in_ok-push.ensures.items (none-push c.loop.copies.items c.loop.invariant)
