-- What is known at the end, where no position is marked, is a typing; and raising some types keeps what was reached.
use Rattle.std.proofs.Common.{Option, false, refl, true, ℕ, ◌≡◌}
use Rattle.std.proofs.lemmas.List.Elements.{All-weaker}
use Rattle.vx_class.specs.declared.class_file.Code.{Code}
use Rattle.vx_java.specs.Selection.{covers}
use Rattle.vx_link.specs.declared.program.Program.{Program}
use Rattle.vx_types.proofs.FitLaws.{state_itself}
use Rattle.vx_types.specs.Flow.{Flow, Next, Refuses, flow_of}
use Rattle.vx_types.specs.Ranked.{IsRanked}
use Rattle.vx_types.specs.Types.{VerState}
use Rattle.vx_verify.proofs.Forcing.{reached_below}
use Rattle.vx_verify.specs.Inferred.{AreInferred, AreRaised, IsClosedAt}
use Rattle.vx_verify.specs.Typing.{IsReached, IsTyping, LeadsOn, handler_state}

-- where no position is marked, what is known is a typing
pub inferred_typing : (p : Program) (m : ℕ) (code : Code) (known : ℕ → Option VerState) → AreInferred p m code known (λ position. false) → IsTyping p m code known
inferred_typing p m code known inferred = record {
  start = inferred.start;
  operands = inferred.operands;
  instructions = λ position s e. (inferred.closed position s e refl).leads;
  handlers = λ position s e. (inferred.closed position s e refl).handlers;
}

-- ---- raising

pub reached_raised : (p : Program) → IsRanked p → (known later : ℕ → Option VerState) (position : ℕ) (s : VerState) → AreRaised p known later → IsReached p known position s → IsReached p later position s
reached_raised p r known later position s raised reached = reached_below p r later position s reached.state reached.fitting (raised position reached.state reached.covered)

pub leads_raised : (p : Program) → IsRanked p → (known later : ℕ → Option VerState) (flow : Flow) → AreRaised p known later → LeadsOn p known flow → LeadsOn p later flow
leads_raised p r known later Refuses raised leads = leads
leads_raised p r known later (Next after targets) raised leads =
    All-weaker (λ position. IsReached p known position after) (λ position. IsReached p later position after)
    (λ position reached. reached_raised p r known later position after raised reached) targets leads

pub closed_raised : (p : Program) → IsRanked p → (m : ℕ) (code : Code) (known later : ℕ → Option VerState) (position : ℕ) (s : VerState) → AreRaised p known later
    → IsClosedAt p m code known position s → IsClosedAt p m code later position s
closed_raised p r m code known later position s raised closed = record {
  leads = leads_raised p r known later (flow_of p m code position s) raised closed.leads;
  handlers =
      All-weaker (λ row. covers row position ≡ true → IsReached p known row.handler (handler_state p m row s)) (λ row. covers row position ≡ true → IsReached p later row.handler (handler_state p m row s))
      (λ row reached c. reached_raised p r known later row.handler (handler_state p m row s) raised (reached c)) code.catches closed.handlers;
}

pub raised_itself : (p : Program) → IsRanked p → (known : ℕ → Option VerState) → AreRaised p known known
raised_itself p r known position s e = record { state = s; covered = e; fitting = state_itself p r s }

pub raised_through : (p : Program) → IsRanked p → (one two three : ℕ → Option VerState) → AreRaised p one two → AreRaised p two three → AreRaised p one three
raised_through p r one two three h k position s e = reached_raised p r two three position s k (h position s e)
