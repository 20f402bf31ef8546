-- What is read for the calls of native methods, by what they do, and how it stands behind their values.
use Rattle.std.specs.Prelude.{◌≡◌, ℕ, Bool, false, true, List, None, Option, Some, [], drop, if◌then◌else◌, length, map, take, ◌-◌, ◌∷◌}
use Rattle.vx_group_states.specs.Answering.{slot_by}
use Rattle.vx_group_states.specs.declared.answer.Answer.{Answer}
use Rattle.vx_heap.specs.Heap.{HeapView, are_held, is_held, value_of}
use Rattle.vx_java.specs.Machine.{illegal}
use Rattle.vx_java.specs.Texts.{unit_of}
use Rattle.vx_java.specs.Machine.{Text as TextValue}
use Rattle.vx_space.specs.Sets.{Sets}
use Rattle.vx_value.specs.declared.operation.Narrow.{Narrow}
use Rattle.vx_value.specs.declared.slot.Slot.{Slot}
use Rattle.vx_value.specs.declared.slot.Slot.TheVariants.{Ref, Top}
use Rattle.vx_natives.specs.Arguments.{AreRead}
use Rattle.vx_natives.specs.Behaviours.{meaning}
use Rattle.vx_natives.specs.Calls.{values_of, with_value}
use Rattle.vx_natives.specs.Cells.{cell_of, cells_of}
use Rattle.vx_natives.specs.Doing.{Says}
use Rattle.vx_natives.specs.Takes.{takes, wants_read}
use Rattle.vx_natives.specs.declared.behaviour.Behaviour.{Behaviour}
use Rattle.vx_natives.specs.declared.behaviour.Behaviour.TheVariants as behaviour
use Rattle.vx_natives.specs.declared.behaviour.BuilderChange.TheVariants as change
use Rattle.vx_natives.specs.declared.behaviour.CellQuestion.{CellQuestion}
use Rattle.vx_natives.specs.declared.behaviour.CellQuestion.TheVariants as cell
use Rattle.vx_natives.specs.declared.behaviour.Initialiser.{Initialiser}
use Rattle.vx_natives.specs.declared.behaviour.Initialiser.TheVariants as init
use Rattle.vx_natives.specs.declared.behaviour.Maker.{Maker}
use Rattle.vx_natives.specs.declared.behaviour.Maker.TheVariants as maker
use Rattle.vx_natives.specs.declared.behaviour.Printing.TheVariants as printing
use Rattle.vx_natives.specs.declared.behaviour.Spelling.{Spelling}
use Rattle.vx_natives.specs.declared.behaviour.Spelling.TheVariants as spelling
use Rattle.vx_natives.specs.declared.behaviour.TextQuestion.{TextQuestion}
use Rattle.vx_natives.specs.declared.behaviour.TextQuestion.TheVariants as text
use Rattle.vx_natives.specs.declared.call.Call.{Call}
use Rattle.vx_natives.specs.declared.call.Call.TheVariants.{Illegal}
use Rattle.vx_natives.specs.declared.readings.Reading.{Reading}
use Rattle.vx_natives.specs.declared.readings.Reading.TheVariants as reading

-- ---- what is read

-- the cell that a question is asked of, and whether it is asked of two objects
abbrev pub asked_cell : CellQuestion → ℕ
asked_cell cell.SecondCell = 1
asked_cell cell.CompareOrdinals = 1
asked_cell _ = 0

abbrev pub asks_two_cells : CellQuestion → Bool
asks_two_cells cell.SameNumber = true
asks_two_cells cell.CompareNumbers = true
asks_two_cells cell.CompareOrdinals = true
asks_two_cells _ = false

abbrev pub asks_two_texts : TextQuestion → Bool
asks_two_texts text.Equals = true
asks_two_texts text.Compare = true
asks_two_texts text.PlaceOf = true
asks_two_texts text.StartsWith = true
asks_two_texts text.EndsWith = true
asks_two_texts _ = false

-- of a value that is spelled: the text of a string, or that of an array of chars
abbrev pub spelling_reading : (second : Bool) → Spelling → Option Reading
spelling_reading second spelling.Text = Some (reading.Cell second 0)
spelling_reading second spelling.Chars = Some (reading.Chars second)
spelling_reading second _ = None

abbrev pub init_reading : Initialiser → Option Reading
init_reading init.OfText = Some (reading.Cell true 0)
init_reading init.OfChars = Some (reading.Chars true)
init_reading _ = None

abbrev pub maker_reading : Maker → Option Reading
maker_reading maker.LineSeparator = None
maker_reading maker.IntegerOf = None
maker_reading maker.SpellInt = None
maker_reading maker.ClassName = None
maker_reading (maker.TextOf s) = spelling_reading false s
maker_reading _ = Some (reading.Cell false 0)

abbrev pub first_reading : Behaviour → Option Reading
first_reading (behaviour.AskCells q) = Some (reading.Cell false (asked_cell q))
first_reading (behaviour.AskTexts q) = Some (reading.Cell false 0)
first_reading (behaviour.Initialise i) = init_reading i
first_reading (behaviour.Change b) = Some (reading.Cell false 0)
first_reading (behaviour.Make m) = maker_reading m
first_reading (behaviour.Print p) = Some (reading.Cell false 0)
first_reading _ = None

-- behind the first one
abbrev pub second_reading : Behaviour → Option Reading
second_reading (behaviour.AskCells q) = if asks_two_cells q then Some (reading.Cell true (asked_cell q)) else None
second_reading (behaviour.AskTexts q) = if asks_two_texts q then Some (reading.Cell true 0) else None
second_reading (behaviour.Change (change.Append s)) = spelling_reading true s
second_reading (behaviour.Make maker.Concat) = Some (reading.Cell true 0)
second_reading (behaviour.Print (printing.Value s)) = spelling_reading true s
second_reading (behaviour.Print (printing.Line s)) = spelling_reading true s
second_reading _ = None

abbrev pub listed : {A : Type 0} → Option A → List A
listed None = []
listed (Some x) = x ∷ []

abbrev pub with_second : Option Reading → Option Reading → List Reading
with_second None second = []
with_second (Some r) second = r ∷ listed second

abbrev pub readings_of : Behaviour → List Reading
readings_of b = with_second (first_reading b) (second_reading b)

-- ---- how it stands behind the values

-- the first value or the second
abbrev pub value_among : (second : Bool) → List Slot → Slot
value_among false (a ∷ values) = a
value_among true (a ∷ b ∷ values) = b
value_among _ _ = Top

-- the text of the array that a slot names
abbrev pub IsCharsText : {S I : Type 0} → Sets I → HeapView S I → List Bool → (array read : Slot) → Type 0
IsCharsText sets heap c (Ref r) read = value_of sets heap c read ≡ TextValue (map unit_of (cells_of sets heap c r))
IsCharsText sets heap c _ read = read ≡ Top

-- what was read is what stands there
abbrev pub IsReading : {S I : Type 0} → Sets I → HeapView S I → List Bool → Reading → (values : List Slot) → (read : Slot) → Type 0
IsReading sets heap c (reading.Cell second k) values read = value_of sets heap c read ≡ cell_of sets heap c (value_among second values) k
IsReading sets heap c (reading.Chars second) values read = IsCharsText sets heap c (value_among second values) read

abbrev pub AreReadings : {S I : Type 0} → Sets I → HeapView S I → List Bool → List Reading → (values read : List Slot) → Type 0
AreReadings sets heap c [] values read = read ≡ []
AreReadings sets heap c (r ∷ rs) values [] = ⊥
AreReadings sets heap c (r ∷ rs) values (x ∷ read) = IsReading sets heap c r values x × AreReadings sets heap c rs values read

-- the values of a call, and what was read
abbrev pub values_in : Behaviour → Call → List Slot
values_in b call = take (length (values_of call) - length (readings_of b)) (values_of call)

abbrev pub read_in : Behaviour → Call → List Slot
read_in b call = drop (length (values_of call) - length (readings_of b)) (values_of call)

-- ---- calls

-- the values of a call of a method that does this
pub record AreGiven (b : Behaviour) (values : List Slot) : Type 0 where
  pub count : takes b (length values) ≡ true
  pub to : List (Option Narrow)
  pub read : AreRead to values
  pub wants : wants_read b to ≡ true

-- a call with what was read behind its values, at a configuration
pub record IsCallAt {S I : Type 0} (sets : Sets I) (heap : HeapView S I) (c : List Bool) (b : Behaviour) (call : Call) : Type 0 where
  pub given : AreGiven b (values_in b call)
  pub held : are_held sets heap c (values_of call) ≡ true
  pub readings : AreReadings sets heap c (readings_of b) (values_in b call) (read_in b call)

-- what the ordinary machine says of it: a call that breaks a rule ends the run
abbrev pub said : {S I : Type 0} → Sets I → HeapView S I → Behaviour → Call → Says
said sets heap b Illegal c h rest = illegal h
said sets heap b call c h rest = meaning b h (map (value_of sets heap c) (values_in b call)) rest

-- a call that breaks a rule, or such a call
abbrev pub IsCallOr : {S I : Type 0} → Sets I → HeapView S I → List Bool → Behaviour → Call → Type 0
IsCallOr sets heap c b Illegal = Unit {0}
IsCallOr sets heap c b call = IsCallAt sets heap c b call

-- ---- before it is read

-- a call that breaks a rule, or one with the values of a method that does this
abbrev pub IsGivenOr : Behaviour → Call → Type 0
IsGivenOr b Illegal = Unit {0}
IsGivenOr b call = AreGiven b (values_of call)

-- what the ordinary machine says of it
abbrev pub said_of : {S I : Type 0} → Sets I → HeapView S I → Behaviour → Call → Says
said_of sets heap b Illegal c h rest = illegal h
said_of sets heap b call c h rest = meaning b h (map (value_of sets heap c) (values_of call)) rest

-- ---- reading

-- it was read of a call, and is there
pub record HasReading {S I : Type 0} (sets : Sets I) (heap : HeapView S I) (c : List Bool) (r : Reading) (call : Call) (read : Slot) : Type 0 where
  pub reading : IsReading sets heap c r (values_of call) read
  pub held : is_held sets heap c read ≡ true

-- what was read of a call stands behind the values of another one
abbrev pub HaveReadings : {S I : Type 0} → Sets I → HeapView S I → List Bool → List Reading → (call before after : Call) → Type 0
HaveReadings sets heap c [] call before after = after ≡ before
HaveReadings sets heap c (r ∷ rs) call before after = (read : Slot) × HasReading sets heap c r call read × HaveReadings sets heap c rs call (with_value before read) after

-- one of them stands behind
abbrev pub IsBehind : {S I : Type 0} → Sets I → HeapView S I → List Bool → Reading → (call before after : Call) → Type 0
IsBehind sets heap c r call before after = (read : Slot) × HasReading sets heap c r call read × (after ≡ with_value before read)

-- ---- chars

-- the units of the first cells of an array, so many
abbrev pub chars_at : {S I : Type 0} → Sets I → HeapView S I → List Bool → (array count : ℕ) → List ℕ
chars_at sets heap c array count = map unit_of (take count (cells_of sets heap c array))

-- the text of the array that a slot names was read, and is there
pub record IsCharsRead {S I : Type 0} (sets : Sets I) (heap : HeapView S I) (c : List Bool) (array read : Slot) : Type 0 where
  pub reading : IsCharsText sets heap c array read
  pub held : is_held sets heap c read ≡ true

-- ---- conditional calls

-- the slot of an answer was read of a call, and what the call names is there
pub record IsReadOver {S I : Type 0} (r : Reading) (sets : Sets I) (heap : HeapView S I) (c : List Bool) (call : Call) (answer : Answer) : Type 0 where
  pub reading : HasReading sets heap c r call (slot_by answer)
  pub held : are_held sets heap c (values_of call) ≡ true
