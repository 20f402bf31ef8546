-- A row that goes on once a class is ready.
use Rattle.std.proofs.Common.{◌≡◌, ℕ, sym}
use Rattle.std.specs.Prelude.{IfOk, Result}
use Rattle.vx_java.specs.Initialisation.{when_initialised}
use Rattle.vx_java.specs.Machine as machine
use Rattle.vx_java.specs.Machine.{Here, State, in_state}
use Rattle.vx_plain_here.proofs.Comes.{comes_as, comes_from}
use Rattle.vx_plain_here.specs.Rows.{ComesTo}
use Rattle.vx_plain_here.specs.declared.outcome.Outcome.{Outcome}
use Rattle.vx_plain_ready.specs.Ready.{Proceeds}

pub went_on : {E : Type 0} (r : Result Outcome E) (h : Here) (class : ℕ) (ready new : State) (rest : Here → machine.Outcome) → Proceeds h class ready
    → IfOk r (ComesTo (rest (in_state h ready)) ready new) → IfOk r (ComesTo (when_initialised h class rest) h.state new)
went_on r h class ready new rest v comes = comes_as r _ _ h.state new (sym (v.same rest)) (comes_from r (rest (in_state h ready)) h.state ready new v.stands comes)
