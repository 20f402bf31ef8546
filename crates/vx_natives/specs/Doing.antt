-- What a native method does at the configurations of a condition: the heap may change there and nowhere else, and an answer says what comes over the heap after that (own).
use Rattle.std.specs.Prelude.{◌≡◌, Bool, true, false, List, unwrap_or}
use Rattle.vx_cond.specs.Cond.{Conditional, IsCond, cond_at}
use Rattle.vx_group_states.specs.Answering.{answer_at, answered, is_answer_held}
use Rattle.vx_group_states.specs.Answers.{answer_cmp}
use Rattle.vx_group_states.specs.declared.answer.Answer.{Answer}
use Rattle.vx_families.specs.Changing.{with_globals}
use Rattle.vx_heap.specs.Changing.{Grows}
use Rattle.vx_heap.specs.Heap.{Globals, HeapView, IsHeap, IsHeapFor, globals_at}
use Rattle.vx_java.specs.Machine.{Here, Outcome, Value}
use Rattle.vx_link.specs.declared.program.Program.{Program}
use Rattle.vx_space.specs.Sets.{Sets}

-- ---- one configuration

-- what a method sees where these objects, static fields and initialisation states stand
abbrev pub over : Program → Here → Globals → Here
over p h g = record h { program = p; state = with_globals (h.state) g }

-- what is said of a configuration, by what the method sees there and by the operands under those of the call
abbrev pub Says : Type 0
Says = List Bool → Here → List Value → Outcome

-- an answer names what is there, and comes to what is said
pub record IsSaid {S I : Type 0} (p : Program) (sets : Sets I) (heap : HeapView S I) (c : List Bool) (said : Here → List Value → Outcome) (answer : Answer) : Type 0 where
  pub held : is_answer_held sets heap c answer ≡ true
  pub at : (h : Here) (rest : List Value) → answered sets heap c (over p h (globals_at sets heap c)) rest answer ≡ said h rest

-- what is said where these objects, static fields and states stood
abbrev pub said_over : {S I : Type 0} → Program → Sets I → HeapView S I → Says → List Bool → Here → List Value → Outcome
said_over p sets heap says c h rest = says c (over p h (globals_at sets heap c)) rest

-- ---- all configurations

-- nothing changed outside of a set; objects and texts keep their numbers, and the heap is still one of the program
pub record IsKept {S I : Type 0} (old new : Sets I) (before after : HeapView S I) (set : List Bool → Bool) : Type 0 where
  pub is_heap : IsHeap new after
  pub grows : Grows before after
  pub keeps : (p : Program) → IsHeapFor p before → IsHeapFor p after
  pub outside : (c : List Bool) → set c ≡ false → globals_at new after c ≡ globals_at old before c

-- at each configuration of a condition the answer comes to what is said
pub record IsDone {S I : Type 0} (p : Program) (old new : Sets I) (before after : HeapView S I) (condition : I) (says : Says) (answers : Conditional Answer S I) : Type 0 where
  pub kept : IsKept old new before after (old.test condition)
  pub is_cond : IsCond answer_cmp new answers
  pub scope : answers.scope ≡ condition
  pub at : (c : List Bool) → old.test condition c ≡ true → IsSaid p new after c (said_over p old before says c) (answer_at new answers c)

-- ---- conditional values

-- at each configuration of the scope the answer there is told of by the value there
pub record AreTold {T S I : Type 0} (none : T) (told : Sets I → HeapView S I → List Bool → T → Answer → Type 0) (old new : Sets I) (before after : HeapView S I) (values : Conditional T S I) (answers : Conditional Answer S I) : Type 0 where
  pub kept : IsKept old new before after (old.test values.scope)
  pub is_cond : IsCond answer_cmp new answers
  pub scope : answers.scope ≡ values.scope
  pub at : (c : List Bool) → old.test values.scope c ≡ true → told new after c (unwrap_or (cond_at old values c) none) (answer_at new answers c)

-- it comes to what is said by the value
abbrev pub IsSaidBy : {T S I : Type 0} → Program → Sets I → HeapView S I → (T → Says) → Sets I → HeapView S I → List Bool → T → Answer → Type 0
IsSaidBy p old before says sets heap c value answer = IsSaid p sets heap c (said_over p old before (says value) c) answer

abbrev pub AreDone : {T S I : Type 0} → (none : T) → Program → (old new : Sets I) → (before after : HeapView S I) → (T → Says) → Conditional T S I → Conditional Answer S I → Type 0
AreDone none p old new before after says values answers = AreTold none (IsSaidBy p old before says) old new before after values answers
