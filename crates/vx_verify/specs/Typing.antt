-- A typing of a method: which types its local variables and operands have at the positions that it may come to (JVMS 4.10.2.2).
use Rattle.std.specs.List.{list_all}
use Rattle.std.specs.Prelude.{All, Bool, List, None, Option, Some, [], codes, false, flat_map, if◌then◌else◌, replicate, take, true, ℕ, ◌++◌, ◌==◌, ◌∷◌, ◌≡◌, ◌≤◌}
use Rattle.vx_class.specs.Members.{STATIC}
use Rattle.vx_class.specs.declared.class_file.Catch.{Catch}
use Rattle.vx_class.specs.declared.class_file.Code.{Code}
use Rattle.vx_desc.specs.Descriptors.{slots_of}
use Rattle.vx_desc.specs.declared.java_type.JavaType.{JavaType}
use Rattle.vx_java.specs.Selection.{covers}
use Rattle.vx_link.specs.Names.{class_name}
use Rattle.vx_link.specs.Parts.{has, method_at}
use Rattle.vx_link.specs.Signature.{signature}
use Rattle.vx_link.specs.declared.program.Program.{Program}
use Rattle.vx_types.specs.Fits.{StateFits}
use Rattle.vx_types.specs.Flow.{Flow, Next, Refuses, flow_of, stack_size}
use Rattle.vx_types.specs.Rows.{current_class, pool_of}
use Rattle.vx_types.specs.Types.{VerState, class_type, ref_of, type_of}
use Rattle.vx_types.specs.declared.types.VerType.{VerType}
use Rattle.vx_types.specs.declared.types.VerType.TheVariants.{Long, Top}

-- ---- where a method begins

-- the local variables of a value: a long takes two
abbrev pub value_locals : VerType → List VerType
value_locals Long = Long ∷ Top ∷ []
value_locals t = t ∷ []

-- those of an argument; a float or a double is not looked at
abbrev pub locals_of : JavaType → Option VerType → List VerType
locals_of t None = replicate (slots_of t) Top
locals_of t (Some v) = value_locals v

abbrev pub argument_locals : Program → List ℕ → List VerType
argument_locals p descriptor = flat_map (λ t. locals_of t (type_of p descriptor t)) (signature descriptor).arguments

-- the object whose method is called
abbrev pub receiver_locals : Program → (method : ℕ) → Bool → List VerType
receiver_locals p m true = []
receiver_locals p m false = class_type p (current_class p m) ∷ []

abbrev pub values_given : Program → (method : ℕ) → List VerType
values_given p m = receiver_locals p m (has STATIC (method_at p m).flags) ++ argument_locals p (method_at p m).descriptor

-- the receiver and the arguments in the first local variables, nothing in the others, and no operands
abbrev pub start_locals : Program → (method max_locals : ℕ) → List VerType
start_locals p m max = take max (values_given p m ++ replicate max Top)

abbrev pub start_state : Program → (method : ℕ) → Code → VerState
start_state p m code = record { locals = start_locals p m code.max_locals; operands = [] }

-- ---- where a handler begins

-- the class that a catch row takes, Throwable for class 0
abbrev pub caught_name : Program → (method : ℕ) → Catch → List ℕ
caught_name p m row = if row.class == 0 then codes "java/lang/Throwable" else class_name (pool_of p m) row.class

abbrev pub caught : Program → (method : ℕ) → Catch → VerType
caught p m row = ref_of p (caught_name p m row)

-- the local variables as they are before an instruction that the row covers, and what was thrown alone
abbrev pub handler_state : Program → (method : ℕ) → Catch → VerState → VerState
handler_state p m row before = record before { operands = caught p m row ∷ [] }

-- ---- typings

-- a position is covered, with types that a state fits
pub record IsReached (p : Program) (typing : ℕ → Option VerState) (position : ℕ) (s : VerState) : Type 0 where
  pub state : VerState
  pub covered : typing position ≡ Some state
  pub fitting : StateFits p s state

-- an operand can be read
abbrev pub is_known : VerType → Bool
is_known Top = false
is_known t = true

-- each operand can be read, and all fit in the method's greatest stack
pub record AreOperands (code : Code) (s : VerState) : Type 0 where
  pub known : list_all is_known s.operands ≡ true
  pub room : stack_size s.operands ≤ code.max_stack

-- an instruction has what it needs, and each position to which it leads is reached with what it makes
abbrev pub LeadsOn : Program → (typing : ℕ → Option VerState) → Flow → Type 0
LeadsOn p typing Refuses = ⊥
LeadsOn p typing (Next after targets) = All (λ position. IsReached p typing position after) targets

-- position 0 is reached with the types of the descriptor; at each covered position the instruction leads on, and the handler of each row that covers it is reached
pub record IsTyping (p : Program) (m : ℕ) (code : Code) (typing : ℕ → Option VerState) : Type 0 where
  pub start : IsReached p typing 0 (start_state p m code)
  pub operands : (at : ℕ) (s : VerState) → typing at ≡ Some s → AreOperands code s
  pub instructions : (at : ℕ) (s : VerState) → typing at ≡ Some s → LeadsOn p typing (flow_of p m code at s)
  pub handlers : (at : ℕ) (s : VerState) → typing at ≡ Some s → All (λ row. covers row at ≡ true → IsReached p typing row.handler (handler_state p m row s)) code.catches

-- a method that has no code needs no typing
abbrev pub IsCodeTyped : Program → (method : ℕ) → Option Code → Type 0
IsCodeTyped p m None = Unit {0}
IsCodeTyped p m (Some code) = (typing : ℕ → Option VerState) × IsTyping p m code typing

abbrev pub IsTyped : Program → (method : ℕ) → Type 0
IsTyped p m = IsCodeTyped p m (method_at p m).code
