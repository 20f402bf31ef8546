use Rattle.std.proofs.Common.{ℕ, ◌+◌, refl}
use Rattle.vx_value.specs.declared.ids.MethodId.{MethodId}
use Rattle.vx_linker.proofs.Layouts.{numbered_more}
use Rattle.vx_linker.proofs.classes.method_ids.Goals as goal

numbered : ℕ → MethodId
numbered n = record { 0 = n }

pub loop-place-preserved : goal.loop-place-preserved
unfolding numbered
loop-place-preserved c = numbered_more numbered c.args.first c.loop-place.place (c.args.first + c.loop-place.place) c.loop-place.ids.items _ _ c.loop-place.invariant c.in_ok-push.ensures.items refl refl
