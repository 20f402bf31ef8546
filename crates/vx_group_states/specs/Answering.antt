-- What a group comes to by what its instruction makes of the operands.
use Rattle.std.specs.Prelude.{◌≡◌, ◌+◌, ◌<◌, ◌≤◌, ◌^◌, ◌∷◌, ◌&&◌, ℕ, Bool, true, List, length, nat_lt, Option, Some, None, drop, reverse, unwrap_or}
use Rattle.vx_value.specs.declared.slot.Slot.{Slot}
use Rattle.vx_value.specs.declared.slot.Slot.TheVariants.{Top}
use Rattle.vx_value.specs.Texts.{text_at}
use Rattle.vx_value.specs.declared.end.End.{End}
use Rattle.vx_value.specs.declared.end.End.TheVariants.{Exit as ExitEnd, Unfinished}
use Rattle.vx_value.specs.declared.end.Stream.{Stream}
use Rattle.vx_space.specs.Sets.{Sets}
use Rattle.vx_cond.specs.declared.cond.Leaf.{Leaf}
use Rattle.vx_cond.specs.Leaves.{AreLeaves, value_at}
use Rattle.vx_cond.specs.Cond.{Conditional, IsCond, IsInside, cond_at}
use Rattle.vx_cond.specs.Row.{Conditionals}
use Rattle.vx_cond.specs.Slots.{slots_at}
use Rattle.vx_group.specs.Group.{GroupView, IsGroup, path_of}
use Rattle.vx_heap.specs.Heap.{HeapView, is_held, value_of}
use Rattle.vx_java.specs.Machine.{Here, State, Value, at_position, go, illegal, past, push, settle}
use Rattle.vx_java.specs.Machine.{Outcome as PlainOutcome, Ended, Go, Raise as RaiseOutcome, Throw as ThrowOutcome, Write as WriteOutcome}
use Rattle.vx_group_states.specs.Sites.{Cover, HasPast, here}
use Rattle.vx_group_states.specs.Stands.{IsMessage, is_object, message_of, object_named}
use Rattle.vx_group_states.specs.Answers.{answer_cmp}
use Rattle.vx_group_states.specs.declared.site.Site.{Site}
use Rattle.vx_group_states.specs.declared.answer.Answer.{Answer}
use Rattle.vx_group_states.specs.declared.answer.Answer.TheVariants.{Illegal, Raise, Push, Jump, Pass, Give, Write, Exit, Throw}

-- the answer at a configuration
abbrev pub answer_at : {S I : Type 0} → Sets I → Conditional Answer S I → List Bool → Answer
answer_at sets answers c = unwrap_or (cond_at sets answers c) Illegal

-- the slot of an answer that has one
abbrev pub slot_by : Answer → Slot
slot_by (Push slot) = slot
slot_by (Give slot) = slot
slot_by (Throw slot) = slot
slot_by _ = Top

-- the end of an answer that ends the run
abbrev pub end_by : Answer → End
end_by (Exit code) = ExitEnd code
end_by _ = Unfinished

-- what parts of a group are told apart by: the answer without its slot
abbrev pub kind_of : Answer → Answer
kind_of (Push slot) = Push Top
kind_of (Give slot) = Give Top
kind_of (Throw slot) = Throw Top
kind_of answer = answer

-- the operands at a configuration, the top first
abbrev pub operands_at : {S I : Type 0} → Sets I → Conditionals Slot S I → List Bool → List Slot
operands_at sets stack c = reverse (slots_at sets stack c)

-- ---- what comes of an answer

-- where so many operands were taken off; a run that raises or throws does so with all its operands
abbrev pub answered : {S I : Type 0} → Sets I → HeapView S I → List Bool → Here → (rest : List Value) → Answer → PlainOutcome
answered sets heap c h rest Illegal = illegal h
answered sets heap c h rest (Raise class message) = RaiseOutcome class.0 (message_of heap message) h.state
answered sets heap c h rest (Push slot) = push h (value_of sets heap c slot) rest
answered sets heap c h rest (Jump position) = Go (at_position h.state position rest)
answered sets heap c h rest Pass = go h rest
answered sets heap c h rest (Give slot) = go h (value_of sets heap c slot ∷ rest)
answered sets heap c h rest (Write stream text) = WriteOutcome stream (text_at heap.texts text) (past h h.state rest)
answered sets heap c h rest (Exit code) = Ended (ExitEnd code)
answered sets heap c h rest (Throw slot) = ThrowOutcome (object_named sets heap c slot) h.state

abbrev pub answered_by : {S I : Type 0} → Site → (taken : ℕ) → Sets I → Conditional Answer S I → HeapView S I → List Bool → State → PlainOutcome
answered_by site taken sets answers heap c s = answered sets heap c (here site s) (drop taken s.top.operands) (answer_at sets answers c)

-- the slot of the answer is put on the operands that are left, and then comes what this says of them
abbrev pub put_on : {S I : Type 0} → (Here → List Value → PlainOutcome) → Site → (taken : ℕ) → Sets I → Conditional Answer S I → HeapView S I → List Bool → State → PlainOutcome
put_on says site taken sets answers heap c s = says (here site s) (value_of sets heap c (slot_by (answer_at sets answers c)) ∷ drop taken s.top.operands)

-- the text is written, and the run goes past the instruction
abbrev pub written : {S I : Type 0} → Site → (taken : ℕ) → Stream → (text : ℕ) → HeapView S I → State → PlainOutcome
written site taken stream text heap s = WriteOutcome stream (text_at heap.texts text) (past (here site s) s (drop taken s.top.operands))

-- the object of the answer is thrown
abbrev pub thrown_by : {S I : Type 0} → Sets I → Conditional Answer S I → HeapView S I → List Bool → State → PlainOutcome
thrown_by sets answers heap c s = ThrowOutcome (object_named sets heap c (slot_by (answer_at sets answers c))) s

-- what comes of an answer, by its kind
abbrev pub answered_as : {S I : Type 0} → Site → (taken : ℕ) → Sets I → (kind : Answer) → Conditional Answer S I → HeapView S I → List Bool → State → PlainOutcome
answered_as site taken sets Illegal answers heap c s = illegal (here site s)
answered_as site taken sets (Raise class message) answers heap c s = RaiseOutcome class.0 (message_of heap message) s
answered_as site taken sets (Push slot) answers heap c s = put_on settle site taken sets answers heap c s
answered_as site taken sets (Jump position) answers heap c s = Go (at_position s position (drop taken s.top.operands))
answered_as site taken sets Pass answers heap c s = go (here site s) (drop taken s.top.operands)
answered_as site taken sets (Give slot) answers heap c s = put_on go site taken sets answers heap c s
answered_as site taken sets (Write stream text) answers heap c s = written site taken stream text heap s
answered_as site taken sets (Exit code) answers heap c s = Ended (ExitEnd code)
answered_as site taken sets (Throw slot) answers heap c s = thrown_by sets answers heap c s

-- ---- conditions

-- what an answer names is there
abbrev pub is_message : {S I : Type 0} → HeapView S I → Option ℕ → Bool
is_message heap None = true
is_message heap (Some n) = nat_lt n (length heap.texts)

abbrev pub is_answer_held : {S I : Type 0} → Sets I → HeapView S I → List Bool → Answer → Bool
is_answer_held sets heap c (Raise class message) = is_message heap message
is_answer_held sets heap c (Push slot) = is_held sets heap c slot
is_answer_held sets heap c (Give slot) = is_held sets heap c slot
is_answer_held sets heap c (Write stream text) = nat_lt text (length heap.texts)
is_answer_held sets heap c (Throw slot) = is_object slot && is_held sets heap c slot
is_answer_held sets heap c _ = true

-- what the answers name is there, at each configuration of a path
pub record AreHeld {S I : Type 0} (sets : Sets I) (heap : HeapView S I) (path : I) (answers : Conditional Answer S I) : Type 0 where
  pub held : (c : List Bool) → sets.test path c ≡ true → is_answer_held sets heap c (answer_at sets answers c) ≡ true

-- the slots name what is there, at each configuration of a path
pub record AreSlotsHeld {S I : Type 0} (sets : Sets I) (heap : HeapView S I) (path : I) (answers : Conditional Answer S I) : Type 0 where
  pub held : (c : List Bool) → sets.test path c ≡ true → is_held sets heap c (slot_by (answer_at sets answers c)) ≡ true

-- the slots are objects that are there, at each configuration of a path
pub record AreObjectsHeld {S I : Type 0} (sets : Sets I) (heap : HeapView S I) (path : I) (answers : Conditional Answer S I) : Type 0 where
  pub object : (c : List Bool) → sets.test path c ≡ true → is_object (slot_by (answer_at sets answers c)) ≡ true
  pub held : (c : List Bool) → sets.test path c ≡ true → is_held sets heap c (slot_by (answer_at sets answers c)) ≡ true

-- what the answers of one kind name is there
abbrev pub IsKindHeld : {S I : Type 0} → Sets I → HeapView S I → (path : I) → (kind : Answer) → Conditional Answer S I → Type 0
IsKindHeld sets heap path Illegal answers = Unit {0}
IsKindHeld sets heap path (Raise class message) answers = IsMessage heap message
IsKindHeld sets heap path (Push slot) answers = AreSlotsHeld sets heap path answers
IsKindHeld sets heap path (Jump position) answers = Unit {0}
IsKindHeld sets heap path Pass answers = Unit {0}
IsKindHeld sets heap path (Give slot) answers = AreSlotsHeld sets heap path answers
IsKindHeld sets heap path (Write stream text) answers = text < length heap.texts
IsKindHeld sets heap path (Exit code) answers = Unit {0}
IsKindHeld sets heap path (Throw slot) answers = AreObjectsHeld sets heap path answers

-- a group whose operands are answered: so many are taken off, and one may be put on
pub record IsReady {S I : Type 0} (site : Site) (sets : Sets I) (group : GroupView S I) (taken : ℕ) (answers : Conditional Answer S I) : Type 0 where
  pub is_group : IsGroup sets group
  pub past : HasPast site group
  pub enough : taken ≤ length group.top.stack.conds
  pub few : length group.top.stack.conds + 1 < 2 ^ 32 + taken
  pub are_answers : IsCond answer_cmp sets answers
  pub inside : IsInside sets (path_of group) answers.scope

-- leaves are the kinds of the answers inside a path
pub record AreKinds {S I : Type 0} (sets : Sets I) (path : I) (answers : Conditional Answer S I) (kinds : List (Leaf Answer S I)) : Type 0 where
  pub are_leaves : AreLeaves answer_cmp sets kinds
  pub cover : Cover sets path kinds
  pub at : (c : List Bool) → sets.test path c ≡ true → value_at sets kinds c ≡ Some (kind_of (answer_at sets answers c))
