-- Where a frame of a typed state stands its instruction is there, and leads on with the types of its values.
use Rattle.std.proofs.Common.{Bool, List, None, Option, Some, ap, false, length, refl, subst, sym, true, ℕ, ◌∙◌, ◌≡◌, ◌≤◌}
use Rattle.std.proofs.lemmas.Bool.{leb-true}
use Rattle.std.proofs.lemmas.List.Elements.{All-weaker}
use Rattle.std.specs.List.{list_all}
use Rattle.std.specs.Prelude.{All, if◌then◌else◌, nat_le, nat_lt, ◌&&◌}
use Rattle.vx_class.specs.declared.class_file.Code.{Code}
use Rattle.vx_java.specs.Machine.{Here}
use Rattle.vx_java.specs.Operation.{operation_of}
use Rattle.vx_java.specs.declared.operation.Operation.{Operation}
use Rattle.vx_link.specs.Parts.{method_at}
use Rattle.vx_link.specs.declared.program.Program.{Program}
use Rattle.vx_opcode.specs.Decode.{instruction_at}
use Rattle.vx_opcode.specs.declared.instruction.Instruction.{Instruction}
use Rattle.vx_sound.proofs.Sites.{AtSite, LeadsTo, types_here}
use Rattle.vx_sound.specs.Typed.{IsTypingOf, Typings}
use Rattle.vx_types.proofs.Flows.{flow_below}
use Rattle.vx_types.proofs.Tests.{both_first}
use Rattle.vx_types.specs.Fits.{StateFits}
use Rattle.vx_types.specs.Flow.{Flow, Next, Refuses, after, flow_of, settled, stack_size, targets_by, targets_of}
use Rattle.vx_types.specs.Ranked.{IsRanked}
use Rattle.vx_types.specs.Rows.{row_of}
use Rattle.vx_types.specs.Types.{VerState}
use Rattle.vx_verify.proofs.Following.{decoded_flow}
use Rattle.vx_verify.proofs.Forcing.{reached_below}
use Rattle.vx_verify.specs.Typing.{IsReached, IsTyping, LeadsOn}

-- ---- what a position that is reached leads to

pub record IsFlowing (p : Program) (m : ℕ) (code : Code) (typing : ℕ → Option VerState) (at : ℕ) (s : VerState) : Type 0 where
  pub made : VerState
  pub targets : List ℕ
  pub flows : flow_of p m code at s ≡ Next made targets
  pub reached : All (λ position. IsReached p typing position made) targets

pub flowing : (p : Program) → IsRanked p → (m : ℕ) (code : Code) (typing : ℕ → Option VerState) → IsTyping p m code typing → (at : ℕ) (s : VerState) → IsReached p typing at s
    → IsFlowing p m code typing at s
flowing p r m code typing is at s reached = by (flow_of p m code at reached.state) refl (is.instructions at reached.state reached.covered)
  where
    lower : (below above : VerState) → StateFits p below above → (targets : List ℕ) → All (λ position. IsReached p typing position above) targets → All (λ position. IsReached p typing position below) targets
    lower below above fitting targets all =
        All-weaker (λ position. IsReached p typing position above) (λ position. IsReached p typing position below) (λ position there. reached_below p r typing position below above fitting there) targets all

    by : (flow : Flow) → flow_of p m code at reached.state ≡ flow → LeadsOn p typing flow → IsFlowing p m code typing at s
    by Refuses e leads = absurd leads
    by (Next above targets) e leads =
        let below = flow_below p m code at s reached.state above targets r reached.fitting e in
        record { made = below.made; targets = targets; flows = below.flows; reached = lower below.made above below.fitting targets leads }

-- ---- what settled

pub record IsSettled (code : Code) (leads : List ℕ) (o : Option VerState) (made : VerState) (targets : List ℕ) : Type 0 where
  pub is : o ≡ Some made
  pub same : leads ≡ targets
  pub room : stack_size made.operands ≤ code.max_stack

pub settled_tells : (code : Code) (leads : List ℕ) (o : Option VerState) (made : VerState) (targets : List ℕ) → settled code leads o ≡ Next made targets → IsSettled code leads o made targets
settled_tells code leads None made targets e = absurd cc
settled_tells code leads (Some s) made targets e = by (nat_le (stack_size s.operands) code.max_stack && list_all (λ t. nat_lt t (length code.bytes)) leads) refl e
  where
    by : (b : Bool) → (nat_le (stack_size s.operands) code.max_stack && list_all (λ t. nat_lt t (length code.bytes)) leads) ≡ b → (if b then Next s leads else Refuses) ≡ Next made targets
        → IsSettled code leads (Some s) made targets
    by true t e =
        let same : s ≡ made = cc in
        record {
          is = ap Some same;
          same = cc;
          room = subst (λ (u : VerState). stack_size u.operands ≤ code.max_stack) same
              (leb-true (stack_size s.operands) code.max_stack (both_first (nat_le (stack_size s.operands) code.max_stack) (list_all (λ t. nat_lt t (length code.bytes)) leads) t));
        }
    by false t e = absurd cc

-- ---- an operation

-- what an operation makes of the types here, with which each position is reached to which it leads
pub record IsLed (typings : Typings) (h : Here) (o : Operation) : Type 0 where
  pub made : VerState
  pub makes : after h.program (row_of h.program h.state.top.method o) (types_here h) ≡ Some made
  pub leads : LeadsTo typings h (targets_by (row_of h.program h.state.top.method o) (targets_of h.code.bytes h.state.top.position h.size o)) made

typing_there : (p : Program) (m : ℕ) (o : Option Code) (code : Code) (typing : ℕ → Option VerState) → o ≡ Some code → IsTypingOf p m o typing → IsTyping p m code typing
typing_there p m o code typing e is = subst (λ (x : Option Code). IsTypingOf p m x typing) e is

pub led : (typings : Typings) (h : Here) → AtSite typings h → (i : Instruction) → instruction_at h.code.bytes h.state.top.position ≡ Some i → i.length ≡ h.size → IsLed typings h (operation_of i)
led typings h site i there size =
    let m = h.state.top.method in
    let typing = typing_there h.program m (method_at h.program m).code h.code (typings m) site.code (site.are m) in
    let flow = flowing h.program site.sound.hierarchy.ranked m h.code (typings m) typing h.state.top.position (types_here h) site.state.top in
    let decoded = decoded_flow h.program m h.code h.state.top.position h.size (operation_of i) i (types_here h) there size refl in
    let row = row_of h.program m (operation_of i) in
    let leads = targets_by row (targets_of h.code.bytes h.state.top.position h.size (operation_of i)) in
    let settled = settled_tells h.code leads (after h.program row (types_here h)) flow.made flow.targets (sym decoded ∙ flow.flows) in
    record {
      made = flow.made;
      makes = settled.is;
      leads = record {
        room = settled.room;
        reached = subst (λ (positions : List ℕ). All (λ position. IsReached h.program (typings m) position flow.made) positions) (sym settled.same) flow.reached;
      };
    }
