-- What is known of a run that is made again.
use Rattle.std.specs.Prelude.{Bool, None, Option, Some, false, option_map, true, ℕ, ◌≡◌}
use Rattle.vx_java.specs.Machine as machine
use Rattle.vx_java.specs.Machine.{Ends, Goes}
use Rattle.vx_java.specs.Row.{row}
use Rattle.vx_java.specs.Step.{Live, Over, Progress, Run, fresh_progress, next, outcome_carried_out, steps}
use Rattle.vx_link.specs.declared.program.Program.{Program}
use Rattle.vx_noted.specs.Noted.{by_throwing, noted}
use Rattle.vx_noted.specs.declared.noting.Noting.{Noting}
use Rattle.vx_noted.specs.declared.noting.Noting.TheVariants as noting
use Rattle.vx_noted.specs.declared.leaving.Left.{Left}
use Rattle.vx_noted.specs.declared.beginning.Begun.{Begun}
use Rattle.vx_noted.specs.Leaving.{left_at}
use Rattle.vx_plain.specs.Views.{state_of}
use Rattle.vx_plain_throw.specs.declared.next.Next.{Next}
use Rattle.vx_plain_throw.specs.declared.next.Next.TheVariants as leads
use Rattle.vx_plain_tables.specs.Tables.{AreTables}
use Rattle.vx_value.specs.declared.end.End.{End}

abbrev pub is_over : Run → Bool
is_over (Live g) = false
is_over (Over end g) = true

-- a run that ended at its start
pub record IsOverAtStart (r : Run) : Type 0 where
  pub end : End
  pub state : machine.State
  pub is : r ≡ Over end (fresh_progress state)

-- the first state of a run with the tables of its program, or that it ended at its start
abbrev pub IsBegun : Program → Run → Option Begun → Type 0
IsBegun p r None = IsOverAtStart r
IsBegun p r (Some begun) = (r ≡ Live (fresh_progress (state_of begun.state))) × AreTables p begun.tables

-- if the run is live after so many attempts, it has come to a state
abbrev pub IsAfter : Program → machine.State → ℕ → machine.State → Type 0
IsAfter p first made s = (g : Progress) → steps p made (Live (fresh_progress first)) ≡ Live g → g.state ≡ s

-- where an attempt leads that notes nothing
abbrev pub lead : Next → Noting
lead leads.Goes = noting.Goes
lead (leads.Ends end) = noting.Ends

-- what an attempt says of an object: the frames that it notes in it, or that it notes none, and where it leads
abbrev pub ends : machine.Next → Bool
ends (Goes s) = false
ends (Ends end) = true

-- an outcome that was carried out
abbrev pub IsNotingBy : Program → (object : ℕ) → machine.Outcome → (new : machine.State) → Noting → Type 0
IsNotingBy p r outcome new (noting.Frames frames) = by_throwing p outcome r ≡ Some frames.items
IsNotingBy p r outcome new noting.Goes = (by_throwing p outcome r ≡ None) × (next p outcome ≡ Goes new)
IsNotingBy p r outcome new noting.Ends = (by_throwing p outcome r ≡ None) × (ends (next p outcome) ≡ true)

-- and the whole attempt
abbrev pub IsNoting : Program → (object : ℕ) → (old new : machine.State) → Noting → Type 0
IsNoting p r old new (noting.Frames frames) = noted p old r ≡ Some frames.items
IsNoting p r old new noting.Goes = (noted p old r ≡ None) × (next p (outcome_carried_out p (row p old)) ≡ Goes new)
IsNoting p r old new noting.Ends = (noted p old r ≡ None) × (ends (next p (outcome_carried_out p (row p old))) ≡ true)

-- what has left a run, as the state behind it and the object
abbrev pub left_of : Left → machine.State × ℕ
left_of left = (state_of left.state, left.object)

abbrev pub HasLeft : Option (machine.State × ℕ) → machine.State → Option ℕ → Type 0
HasLeft said new None = said ≡ None
HasLeft said new (Some object) = said ≡ Some (new, object)

-- what leaves a run by the attempt behind so many of it, if it is live then
abbrev pub LeavesAfter : Program → machine.State → (before : ℕ) → Option Left → Type 0
LeavesAfter p first before left = (g : Progress) → steps p before (Live (fresh_progress first)) ≡ Live g → option_map left_of left ≡ left_at p g.state
