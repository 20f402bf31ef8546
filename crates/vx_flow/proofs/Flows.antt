-- An instruction at types that a caller names.
use Rattle.std.proofs.Common.{Bool, List, None, Option, Some, ap, arith, drop, drop-cons, false, get_or, inl, inr, length, refl, suc, sym, true, ℕ, ◌&&◌, ◌+◌, ◌-◌, ◌<◌, ◌⊎◌, ◌∙◌, ◌≡◌, ◌≤◌}
use Rattle.std.proofs.Math.ListN.{drop_of_length-le}
use Rattle.std.proofs.lemmas.Bool.{cases_lt, le-leb, lt-leb}
use Rattle.std.specs.List.{list_all}
use Rattle.std.specs.Prelude.{if◌then◌else◌, nat_le, nat_lt, option_map}
use Rattle.vx_class.specs.declared.class_file.Code.{Code}
use Rattle.vx_flow.specs.Flowing.{TypingsFlow, flow_at}
use Rattle.vx_java.specs.Operation.{operation_of}
use Rattle.vx_link.specs.declared.program.Program.{Program}
use Rattle.vx_opcode.specs.Decode.{instruction_at}
use Rattle.vx_opcode.specs.declared.instruction.Instruction.{Instruction}
use Rattle.vx_types.specs.Flow.{Flow, Next, Refuses, flow_by, flow_from, flow_of, settled, stack_size, width}
use Rattle.vx_types.specs.Rows.{row_of}
use Rattle.vx_types.specs.Types.{VerState}
use Rattle.vx_types.specs.declared.types.VerType.{VerType}
use Rattle.vx_verify.specs.States.{HasState, IsStore, Stands, state_at}
use Rattle.vx_verify.specs.declared.rows.Frame.{Frame}
use Rattle.vx_verify.specs.declared.rows.State.{State}
use Rattle.vx_verify.specs.declared.store.Store.{Store}

-- ---- how many words operands take

-- one operand takes its words, and the others what is left
abbrev FitLeft : List VerType → (words i left : ℕ) → Type 0
FitLeft ops words i left = nat_le (stack_size (drop i ops)) left ≡ nat_le (stack_size ops) words

size_more : (ops : List VerType) (i w : ℕ) (x : VerType) → i < length ops → x ≡ get_or ops i x → w ≡ width x → stack_size (drop i ops) ≡ w + stack_size (drop (i + 1) ops)
size_more ops i w x l is e =
    let next : suc i ≡ i + 1 = omega arith in
    ap stack_size (drop-cons ops i x l)
    ∙ ap (λ (y : VerType). width y + stack_size (drop (suc i) ops)) (sym is)
    ∙ ap (λ n. n + stack_size (drop (suc i) ops)) (sym e)
    ∙ ap (λ n. w + stack_size (drop n ops)) next

less_words : (w rest left : ℕ) → w ≤ left → nat_le rest (left - w) ≡ nat_le (w + rest) left
less_words w rest left l = by (cases_lt left (w + rest))
  where
    by : (left < w + rest) ⊎ (w + rest ≤ left) → nat_le rest (left - w) ≡ nat_le (w + rest) left
    by (inl h) = lt-leb rest (left - w) (omega (arith, h, l)) ∙ sym (lt-leb (w + rest) left h)
    by (inr h) = le-leb rest (left - w) (omega (arith, h, l)) ∙ sym (le-leb (w + rest) left h)

pub fit_step : (ops : List VerType) (words i left w : ℕ) (x : VerType) → FitLeft ops words i left → i < length ops → x ≡ get_or ops i x → w ≡ width x → w ≤ left → FitLeft ops words (i + 1) (left - w)
fit_step ops words i left w x h l is e fits =
    less_words w (stack_size (drop (i + 1) ops)) left fits ∙ ap (λ n. nat_le n left) (sym (size_more ops i w x l is e)) ∙ h

pub fit_not : (ops : List VerType) (words i left w : ℕ) (x : VerType) → FitLeft ops words i left → i < length ops → x ≡ get_or ops i x → w ≡ width x → left < w → false ≡ nat_le (stack_size ops) words
fit_not ops words i left w x h l is e over =
    let size = size_more ops i w x l is e in
    sym (lt-leb (stack_size (drop i ops)) left (omega (arith, size, over))) ∙ h

pub fit_all : (ops : List VerType) (words i left : ℕ) → FitLeft ops words i left → length ops ≤ i → true ≡ nat_le (stack_size ops) words
fit_all ops words i left h l = sym (ap (λ (ts : List VerType). nat_le (stack_size ts) left) (drop_of_length-le ops l) ∙ le-leb 0 left (omega arith)) ∙ h

-- ---- what is settled

abbrev settled_by : List ℕ → VerState → Bool → Flow
settled_by targets s b = if b then Next s targets else Refuses

pub settled_unfit : (code : Code) (targets : List ℕ) (s : VerState) → nat_le (stack_size s.operands) code.max_stack ≡ false → Refuses ≡ settled code targets (Some s)
settled_unfit code targets s e = ap (λ b. settled_by targets s (b && list_all (λ t. nat_lt t (length code.bytes)) targets)) (sym e)

pub settled_outside : (code : Code) (targets : List ℕ) (s : VerState) → nat_le (stack_size s.operands) code.max_stack ≡ true → list_all (λ t. nat_lt t (length code.bytes)) targets ≡ false
    → Refuses ≡ settled code targets (Some s)
settled_outside code targets s e k =
    ap (settled_by targets s) (sym k) ∙ ap (λ b. settled_by targets s (b && list_all (λ t. nat_lt t (length code.bytes)) targets)) (sym e)

pub settled_next : (code : Code) (targets : List ℕ) (s : VerState) → nat_le (stack_size s.operands) code.max_stack ≡ true → list_all (λ t. nat_lt t (length code.bytes)) targets ≡ true
    → Next s targets ≡ settled code targets (Some s)
settled_next code targets s e k =
    ap (settled_by targets s) (sym k) ∙ ap (λ b. settled_by targets s (b && list_all (λ t. nat_lt t (length code.bytes)) targets)) (sym e)

-- ---- what a store has made

pub made_is : (t u : Store) (frame : Frame) (found : Option State) (o : Option VerState) → HasState t u frame found o → option_map (state_at u frame) found ≡ o
made_is t u frame None None h = refl
made_is t u frame None (Some m) h = absurd h
made_is t u frame (Some s) None h = absurd h
made_is t u frame (Some s) (Some m) h = ap Some h.is

pub made_store : (t u : Store) (frame : Frame) (s : State) (o : Option VerState) → HasState t u frame (Some s) o → IsStore u
made_store t u frame s None h = absurd h
made_store t u frame s (Some m) h = h.later.store

pub made_stands : (t u : Store) (frame : Frame) (s : State) (o : Option VerState) → HasState t u frame (Some s) o → Stands u frame s
made_stands t u frame s None h = absurd h
made_stands t u frame s (Some m) h = h.stands

-- ---- an instruction

pub refused_before : (p : Program) (m : ℕ) (code : Code) (at : ℕ) (before : VerState) → nat_le (stack_size before.operands) code.max_stack ≡ false → Refuses ≡ flow_at p m code at before
refused_before p m code at before e = ap (λ b. if b then flow_of p m code at before else Refuses) (sym e)

pub fits_before : (p : Program) (m : ℕ) (code : Code) (at : ℕ) (before : VerState) → nat_le (stack_size before.operands) code.max_stack ≡ true → flow_of p m code at before ≡ flow_at p m code at before
fits_before p m code at before e = ap (λ b. if b then flow_of p m code at before else Refuses) (sym e)

pub no_instruction : (p : Program) (m : ℕ) (code : Code) (at : ℕ) (before : VerState) → instruction_at code.bytes at ≡ None → Refuses ≡ flow_of p m code at before
no_instruction p m code at before e = ap (λ o. flow_from p m code at o before) (sym e)

pub the_instruction : (p : Program) (m : ℕ) (code : Code) (at : ℕ) (i : Instruction) (before : VerState) → instruction_at code.bytes at ≡ Some i
    → flow_by p code at i.length (operation_of i) (row_of p m (operation_of i)) before ≡ flow_of p m code at before
the_instruction p m code at i before e = ap (λ o. flow_from p m code at o before) (sym e)

-- ---- typings

pub typings_flow : TypingsFlow
typings_flow p m code typing at s typed covers =
    sym (fits_before p m code at s (le-leb (stack_size s.operands) code.max_stack (typed.operands at s covers).room))
