-- The part of a plan that reads one file within a room.
use Rattle.std.specs.Prelude.{ℕ, ◌+◌, List, length, nat_lt, if◌then◌else◌, None, Some}
use Rattle.std.specs.declared.option.Option.{Option}
use Rattle.vx_plans.specs.declared.status.Status.{Status}
use Rattle.vx_plans.specs.declared.status.Status.TheVariants.{ReadFault, TooLarge}
use Rattle.vx_plans.specs.Plan.{Plan, Read, unless}

-- the room for a model, for a class file and for a source
abbrev pub most_bytes : ℕ
most_bytes = 1048576

abbrev pub too_large : List ℕ → ℕ → ℕ → Option Status
too_large shown room size = if nat_lt room size then Some (TooLarge shown room) else None

-- reads a file for which there is so much room, and which statuses show by this path: one byte more shows that there are more
abbrev pub read_sized : ℕ → List ℕ → List ℕ → (List ℕ → Plan) → Plan
read_sized room place shown next =
    Read place (room + 1) (ReadFault shown) (λ bytes. unless (too_large shown room (length bytes)) (next bytes))
