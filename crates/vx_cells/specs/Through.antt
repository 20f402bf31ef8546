-- What instructions make of conditional places, and what comes of it at each configuration (JVMS 6.5).
use Rattle.std.specs.Fmt.{signed_decimal}
use Rattle.std.specs.Prelude.{◌≡◌, ℕ, Bool, true, false, List, None, Some, unwrap_or}
use Rattle.vx_cond.specs.Cond.{Conditional, IsCond, cond_at}
use Rattle.vx_cond.specs.Slots.{slot_at}
use Rattle.vx_group_states.specs.Answering.{answer_at}
use Rattle.vx_group_states.specs.Answers.{answer_cmp}
use Rattle.vx_group_states.specs.declared.answer.Answer.{Answer}
use Rattle.vx_group_states.specs.declared.answer.Answer.TheVariants as answer
use Rattle.vx_heap.specs.Changing.{with_cell_of}
use Rattle.vx_heap.specs.Heap.{Globals, HeapView, globals_at, is_held, name_at, value_of}
use Rattle.vx_java.specs.Ids.{as_class}
use Rattle.vx_java.specs.Machine.{Here, Outcome, Value, illegal, no_object, raise, raise_with}
use Rattle.vx_java.specs.Machine.{Top as TopValue}
use Rattle.vx_link.specs.ClassNames.{core_class}
use Rattle.vx_link.specs.declared.program.Program.{Program}
use Rattle.vx_list.specs.Places.{item_or}
use Rattle.vx_space.specs.Sets.{Sets}
use Rattle.vx_value.specs.Texts.{IsNumber}
use Rattle.vx_value.specs.declared.slot.Slot.{Slot}
use Rattle.vx_value.specs.declared.slot.Slot.TheVariants.{Ref}
use Rattle.vx_cells.specs.declared.refusing.Refusals.{Refusals}
use Rattle.vx_cells.specs.declared.place.Place.{Place}
use Rattle.vx_cells.specs.declared.place.Place.TheVariants.{At, Illegal, Null, Outside, Refused}

-- the place at a configuration
abbrev pub place_at : {S I : Type 0} → Sets I → Conditional Place S I → List Bool → Place
place_at sets places c = unwrap_or (cond_at sets places c) Illegal

-- ---- one configuration

-- what comes of a place, where this comes of a cell of an object: by its name and the index
abbrev pub by_place : {S I : Type 0} → Sets I → HeapView S I → List Bool → Here → (next : ℕ → ℕ → Outcome) → Place → Outcome
by_place sets heap c h next Illegal = illegal h
by_place sets heap c h next Null = raise h "java/lang/NullPointerException"
by_place sets heap c h next (Outside i) = raise_with h "java/lang/ArrayIndexOutOfBoundsException" (signed_decimal i)
by_place sets heap c h next Refused = raise h "java/lang/ArrayStoreException"
by_place sets heap c h next (At reference cell) = next (name_at sets heap.objects c reference) cell

-- an exception of a core class, with no message or with a text
abbrev pub IsRaise : Program → (class : ℕ) → Answer → Type 0
IsRaise p class a = a ≡ answer.Raise (as_class class) None

pub record IsRaiseWith (texts : List (List ℕ)) (class : ℕ) (message : List ℕ) (a : Answer) : Type 0 where
  pub text : ℕ
  pub is : a ≡ answer.Raise (as_class class) (Some text)
  pub number : IsNumber texts text message

-- an answer is what a place comes to, where it is so for a cell
abbrev pub IsAnswered : {S I : Type 0} → Program → HeapView S I → (cell : ℕ → ℕ → Answer → Type 0) → Place → Answer → Type 0
IsAnswered p heap cell Illegal a = a ≡ answer.Illegal
IsAnswered p heap cell Null a = IsRaise p (core_class p "java/lang/NullPointerException") a
IsAnswered p heap cell (Outside i) a = IsRaiseWith heap.texts (core_class p "java/lang/ArrayIndexOutOfBoundsException") (signed_decimal i) a
IsAnswered p heap cell Refused a = IsRaise p (core_class p "java/lang/ArrayStoreException") a
IsAnswered p heap cell (At reference i) a = cell reference i a

-- the classes of the exceptions
pub record IsRefusals (p : Program) (r : Refusals) : Type 0 where
  pub null : r.null.0 ≡ core_class p "java/lang/NullPointerException"
  pub outside : r.outside.0 ≡ core_class p "java/lang/ArrayIndexOutOfBoundsException"
  pub refused : r.refused.0 ≡ core_class p "java/lang/ArrayStoreException"

-- the value of a cell is given
pub record IsGivenFrom {S I : Type 0} (sets : Sets I) (heap : HeapView S I) (c : List Bool) (reference cell : ℕ) (a : Answer) : Type 0 where
  pub slot : Slot
  pub is : a ≡ answer.Give slot
  pub value : value_of sets heap c slot ≡ item_or (item_or (globals_at sets heap c).objects (name_at sets heap.objects c reference) no_object).cells cell TopValue
  pub held : is_held sets heap c slot ≡ true

-- the value of a place that is a cell, and else what was answered before
abbrev pub IsGivenWhereCell : {S I : Type 0} → Sets I → HeapView S I → List Bool → Place → (before after : Answer) → Type 0
IsGivenWhereCell sets heap c (At reference cell) before after = IsGivenFrom sets heap c reference cell after
IsGivenWhereCell sets heap c place before after = after ≡ before

abbrev pub IsPass : (reference cell : ℕ) → Answer → Type 0
IsPass reference cell a = a ≡ answer.Pass

-- ---- all configurations of a scope

-- the object of a place is there
abbrev pub is_place_held : {S I : Type 0} → Sets I → HeapView S I → List Bool → Place → Bool
is_place_held sets heap c (At reference cell) = is_held sets heap c (Ref reference)
is_place_held sets heap c _ = true

pub record ArePlacesHeld {S I : Type 0} (sets : Sets I) (heap : HeapView S I) (places : Conditional Place S I) : Type 0 where
  pub held : (c : List Bool) → sets.test places.scope c ≡ true → is_place_held sets heap c (place_at sets places c) ≡ true

-- answers that go by places, over the later heap
pub record AreAnswers {S I : Type 0} (p : Program) (old new : Sets I) (after : HeapView S I) (cell : List Bool → ℕ → ℕ → Answer → Type 0) (places : Conditional Place S I) (answers : Conditional Answer S I) : Type 0 where
  pub is_cond : IsCond answer_cmp new answers
  pub scope : answers.scope ≡ places.scope
  pub at : (c : List Bool) → old.test places.scope c ≡ true → IsAnswered p after (cell c) (place_at old places c) (answer_at new answers c)

-- ---- writing

abbrev pub is_cell : Place → Bool
is_cell (At reference cell) = true
is_cell _ = false

-- a value is written to a place, if it is a cell
abbrev pub written_at : {S I : Type 0} → Sets I → HeapView S I → List Bool → Value → Place → Globals → Globals
written_at sets heap c v (At reference cell) g = with_cell_of (name_at sets heap.objects c reference) cell v g
written_at sets heap c v _ g = g

-- each value was written to its place
abbrev pub written_through : {S I : Type 0} → Sets I → HeapView S I → Conditional Place S I → Conditional Slot S I → List Bool → Globals → Globals
written_through sets heap places values c = written_at sets heap c (value_of sets heap c (slot_at sets values c)) (place_at sets places c)
