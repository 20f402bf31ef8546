-- How many values a native method looks at, by what it does, and which of them it wants narrowed.
use Rattle.std.specs.Prelude.{ℕ, Bool, false, true, List, Option, Some, [], ◌==◌, ◌||◌, ◌∷◌}
use Rattle.vx_value.specs.declared.operation.Narrow.{Narrow}
use Rattle.vx_value.specs.declared.operation.Narrow.TheVariants.{Bool as BoolOf, Char}
use Rattle.vx_natives.specs.declared.behaviour.Behaviour.{Behaviour}
use Rattle.vx_natives.specs.declared.behaviour.Behaviour.TheVariants as behaviour
use Rattle.vx_natives.specs.declared.behaviour.BuilderChange.TheVariants as change
use Rattle.vx_natives.specs.declared.behaviour.CellQuestion.{CellQuestion}
use Rattle.vx_natives.specs.declared.behaviour.CellQuestion.TheVariants as cell
use Rattle.vx_natives.specs.declared.behaviour.Computation.{Computation}
use Rattle.vx_natives.specs.declared.behaviour.Computation.TheVariants as compute
use Rattle.vx_natives.specs.declared.behaviour.Initialiser.TheVariants as init
use Rattle.vx_natives.specs.declared.behaviour.Maker.TheVariants as maker
use Rattle.vx_natives.specs.declared.behaviour.Printing.TheVariants as printing
use Rattle.vx_natives.specs.declared.behaviour.Spelling.{Spelling}
use Rattle.vx_natives.specs.declared.behaviour.Spelling.TheVariants as spelling
use Rattle.vx_natives.specs.declared.behaviour.TextQuestion.{TextQuestion}
use Rattle.vx_natives.specs.declared.behaviour.TextQuestion.TheVariants as text

-- ---- counts

abbrev pub computes_of : Computation → ℕ
computes_of compute.SameObject = 2
computes_of compute.CompareInts = 2
computes_of compute.GreaterInt = 2
computes_of compute.GreaterLong = 2
computes_of compute.LesserInt = 2
computes_of compute.LesserLong = 2
computes_of compute.AddSuppressed = 2
computes_of _ = 1

abbrev pub asks_cells_of : CellQuestion → ℕ
asks_cells_of cell.SameNumber = 2
asks_cells_of cell.CompareNumbers = 2
asks_cells_of cell.CompareOrdinals = 2
asks_cells_of _ = 1

abbrev pub asks_texts_of : TextQuestion → ℕ
asks_texts_of text.Length = 1
asks_texts_of text.IsEmpty = 1
asks_texts_of text.Hash = 1
asks_texts_of text.Parse = 1
asks_texts_of _ = 2

-- so many values are given
abbrev pub takes : Behaviour → ℕ → Bool
takes behaviour.Missing n = n == 0
takes (behaviour.Compute c) n = n == computes_of c
takes (behaviour.AskCells c) n = n == asks_cells_of c
takes (behaviour.AskTexts t) n = n == asks_texts_of t
takes (behaviour.Initialise init.Empty) n = n == 1
takes (behaviour.Initialise init.OfText) n = n == 2
takes (behaviour.Initialise init.OfChars) n = n == 2
takes (behaviour.Initialise init.OfCapacity) n = n == 2
takes (behaviour.Initialise init.Enum) n = n == 3
takes (behaviour.Initialise init.Throwable) n = (n == 1) || ((n == 2) || (n == 3))
takes (behaviour.Change change.Reverse) n = n == 1
takes (behaviour.Change _) n = n == 2
takes (behaviour.Make maker.Concat) n = n == 2
takes (behaviour.Make maker.Substring) n = (n == 2) || (n == 3)
takes (behaviour.Make maker.LineSeparator) n = n == 0
takes (behaviour.Make _) n = n == 1
takes (behaviour.Print printing.LineEnd) n = n == 1
takes (behaviour.Print _) n = n == 2
takes behaviour.CopyArray n = n == 5

-- ---- narrowed values

abbrev pub ends_in : Narrow → List (Option Narrow) → Bool
ends_in BoolOf (Some BoolOf ∷ []) = true
ends_in Char (Some Char ∷ []) = true
ends_in narrow (to ∷ others) = ends_in narrow others
ends_in narrow [] = false

-- a char is spelled that was read as one
abbrev pub spells_read : Spelling → List (Option Narrow) → Bool
spells_read spelling.Char reads = ends_in Char reads
spells_read _ reads = true

-- a boolean or a char stands as one where that counts
abbrev pub wants_read : Behaviour → List (Option Narrow) → Bool
wants_read (behaviour.Compute compute.BooleanOf) reads = ends_in BoolOf reads
wants_read (behaviour.Change (change.Append s)) reads = spells_read s reads
wants_read (behaviour.Make (maker.TextOf s)) reads = spells_read s reads
wants_read (behaviour.Print (printing.Value s)) reads = spells_read s reads
wants_read (behaviour.Print (printing.Line s)) reads = spells_read s reads
wants_read _ reads = true
