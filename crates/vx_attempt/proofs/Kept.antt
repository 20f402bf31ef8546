-- Outcomes of which a native method or a beginning makes nothing.
use Rattle.std.proofs.Common.{refl}
use Rattle.std.specs.Prelude.{◌≢◌}
use Rattle.vx_group.specs.Group.{GroupView}
use Rattle.vx_java.specs.Step.{outcome_carried_out}
use Rattle.vx_link.specs.declared.program.Program.{Program}
use Rattle.vx_outcome.specs.declared.outcome.Outcome.{Outcome}
use Rattle.vx_outcome.specs.declared.outcome.Outcome.TheVariants as shared
use Rattle.vx_value.specs.declared.ids.ClassId.{ClassId}
use Rattle.vx_value.specs.declared.ids.MethodId.{MethodId}
use Rattle.vx_attempt.proofs.Carrying.{IsPlain}

pub IsPlain-other : {S I : Type 0} (p : Program) (x : Outcome S I) → ((group : GroupView S I) (class : ClassId) → x ≢ shared.Begin group class) → ((group : GroupView S I) (method : MethodId) → x ≢ shared.Native group method) → IsPlain (outcome_carried_out p) x
IsPlain-other p (shared.Begin group class) begin native = absurd (begin group class refl)
IsPlain-other p (shared.Native group method) begin native = absurd (native group method refl)
IsPlain-other p (shared.Go group) begin native = λ sets heap tree c. refl
IsPlain-other p (shared.Raise group class message) begin native = λ sets heap tree c. refl
IsPlain-other p (shared.Throw group thrown) begin native = λ sets heap tree c. refl
IsPlain-other p (shared.Write group stream text) begin native = λ sets heap tree c. refl
IsPlain-other p (shared.Ended condition end) begin native = λ sets heap tree c. refl
