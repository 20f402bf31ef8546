-- What comes of a zero divisor (JVMS 6.5, idiv).
use Rattle.std.specs.Prelude.{◌≡◌, Bool, true, false, Some, codes, ℕ}
use Rattle.vx_heap.specs.Heap.{HeapView}
use Rattle.vx_link.specs.ClassNames.{core_class}
use Rattle.vx_link.specs.declared.program.Program.{Program}
use Rattle.vx_group_states.specs.declared.answer.Answer.{Answer}
use Rattle.vx_group_states.specs.declared.answer.Answer.TheVariants.{Illegal, Raise}
use Rattle.vx_value.specs.Texts.{IsNumber}
use Rattle.vx_value.specs.declared.ids.ClassId.{ClassId}

-- an ArithmeticException is raised, with its message
pub record IsByZero {S I : Type 0} (p : Program) (heap : HeapView S I) (answer : Answer) : Type 0 where
  pub class : ClassId
  pub message : ℕ
  pub is : answer ≡ Raise class (Some message)
  pub named : class.0 ≡ core_class p "java/lang/ArithmeticException"
  pub text : IsNumber heap.texts message (codes "/ by zero")

-- what an instruction is given for a zero divisor, by whether it divides
abbrev pub IsForZero : {S I : Type 0} → (divides : Bool) → Program → HeapView S I → Answer → Type 0
IsForZero true p heap answer = IsByZero p heap answer
IsForZero false p heap answer = answer ≡ Illegal
