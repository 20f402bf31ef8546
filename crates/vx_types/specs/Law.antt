-- The rows are monotone: with types that fit others an instruction does what it does with those.
use Rattle.std.specs.Prelude.{List, ℕ, ◌≡◌}
use Rattle.vx_class.specs.declared.class_file.Code.{Code}
use Rattle.vx_link.specs.declared.program.Program.{Program}
use Rattle.vx_types.specs.Fits.{StateFits}
use Rattle.vx_types.specs.Flow.{Next, flow_of}
use Rattle.vx_types.specs.Ranked.{HasRanks, IsRanked}
use Rattle.vx_types.specs.Types.{VerState}

-- an instruction makes of a state one that fits another, and leads to these positions
pub record FlowsBelow (p : Program) (method : ℕ) (code : Code) (position : ℕ) (before above : VerState) (targets : List ℕ) : Type 0 where
  pub made : VerState
  pub flows : flow_of p method code position before ≡ Next made targets
  pub fitting : StateFits p made above

-- where a state fits one that an instruction takes, the instruction takes it too, leads to the same positions, and what it makes fits what it makes of the other
abbrev pub FlowIsMonotone : Type 0
FlowIsMonotone =
    (p : Program) (method : ℕ) (code : Code) (position : ℕ) (before other above : VerState) (targets : List ℕ)
    → IsRanked p → StateFits p before other → flow_of p method code position other ≡ Next above targets
    → FlowsBelow p method code position before above targets

-- classes with ranks are ranked
abbrev pub RanksAreRanked : Type 0
RanksAreRanked = (p : Program) → HasRanks p → IsRanked p
