-- How the computed examples are written: classes, options, and what is expected of them.
use Rattle.std.specs.Prelude.{Err, List, None, Ok, Option, Result, Some, [], codes, false, flat_map, map, suc, true, zero, ℕ, ◌++◌, ◌∷◌}
use Prim.Native.String.{String}
use Rattle.vx_java.specs.Initialisation.{max_locals}
use Rattle.vx_java.specs.Lockstep.{Piece, Shared}
use Rattle.vx_java.specs.Report.{LockReport, lock_report}
use Rattle.vx_java.specs.Returns.{max_stack}
use Rattle.vx_java.specs.Step.{Config, run, start, steps, trace}
use Rattle.vx_link.specs.Linked.{linked_program}
use Rattle.vx_link.specs.Written.{Item, WrittenCatch, WrittenClass, WrittenMethod, body, class_file, nothing}
use Rattle.vx_link.specs.declared.fault.LinkFault.{LinkFault}
use Rattle.vx_link.specs.declared.program.Program.{Program}
use Rattle.vx_model.specs.declared.model.OptionField.{OptionField}
use Rattle.vx_value.specs.declared.end.End.{End}
use Rattle.vx_value.specs.declared.end.End.TheVariants.{Unfinished}
use Rattle.vx_value.specs.declared.end.Stream.{Stream}
use Rattle.vx_value.specs.declared.end.Stream.TheVariants.{Out}

-- a method with code, by its flags
abbrev pub coded : ℕ → (name descriptor : String) → (max_stack max_locals : ℕ) → List Item → List WrittenCatch → WrittenMethod
coded flags name descriptor max_stack max_locals items catches =
    record { name = name; descriptor = descriptor; flags = flags; how = body max_stack max_locals items catches }

-- a method without code, by its flags
abbrev pub uncoded : ℕ → (name descriptor : String) → WrittenMethod
uncoded flags name descriptor = record { name = name; descriptor = descriptor; flags = flags; how = nothing }

-- an option with its field in Main
abbrev pub option : String → OptionField
option name = record { name = codes name; place = Some (record { class = codes "Main"; field = codes name }) }

abbrev pub linked_example : List WrittenClass → List OptionField → Result Program LinkFault
linked_example classes options = linked_program (map class_file classes) options (codes "Main")

-- ---- configurations

-- without options
abbrev pub one_configuration : List Config
one_configuration = [] ∷ []

-- of one option
abbrev pub where_off : List Config
where_off = (false ∷ []) ∷ []

abbrev pub where_on : List Config
where_on = (true ∷ []) ∷ []

abbrev pub both : List Config
both = (false ∷ []) ∷ (true ∷ []) ∷ []

-- all configurations of so many options
abbrev pub all_configurations : ℕ → List Config
all_configurations zero = [] ∷ []
all_configurations (suc n) =
    let fewer = all_configurations n in map (λ c. false ∷ c) fewer ++ map (λ c. true ∷ c) fewer

-- ---- reports

abbrev pub no_report : LockReport
no_report = record { version = 0; limit = 0; rounds = 0; pieces = []; ends = []; attempts = [] }

abbrev pub report_if : Result Program LinkFault → List Config → (limit version : ℕ) → LockReport
report_if (Ok p) allowed n v = lock_report p allowed n v
report_if (Err fault) allowed n v = no_report

-- the report of some classes with some options, for the allowed configurations
abbrev pub report : List WrittenClass → List OptionField → List Config → (limit version : ℕ) → LockReport
report classes options allowed n v = report_if (linked_example classes options) allowed n v

-- a text and the end of a line
abbrev pub line : String → List ℕ
line text = codes text ++ 10 ∷ []

abbrev pub piece : Stream → List ℕ → List Config → Shared Piece
piece stream text configs = record { value = (stream, text); configs = configs }

abbrev pub ended : End → List Config → Shared End
ended e configs = record { value = e; configs = configs }

abbrev pub spent : ℕ → List Config → Shared ℕ
spent n configs = record { value = n; configs = configs }

-- ---- single runs

-- what a run of one configuration writes, and its end
abbrev pub Outcome : Type 0
Outcome = List (Stream × ℕ) × End

abbrev pub outcome_if : Result Program LinkFault → (limit : ℕ) → Outcome
outcome_if (Ok p) n = let r = run p [] n in (r.output, r.end)
outcome_if (Err fault) n = ([], Unfinished)

abbrev pub outcome : List WrittenClass → (limit : ℕ) → Outcome
outcome classes n = outcome_if (linked_example classes []) n

-- lines on out, and an end
abbrev pub comes_to : List String → End → Outcome
comes_to lines end = (map (λ b. (Out, b)) (flat_map line lines), end)

abbrev pub frames_if : Result Program LinkFault → (limit : ℕ) → List (ℕ × ℕ)
frames_if (Ok p) n = map (λ f. (f.method, f.position)) (trace (steps p n (start p [])))
frames_if (Err fault) n = []

-- the frames of the last state of such a run, the top one first, by method number and position
abbrev pub last_frames : List WrittenClass → (limit : ℕ) → List (ℕ × ℕ)
last_frames classes n = frames_if (linked_example classes []) n

-- ---- link faults

abbrev pub fault_if : Result Program LinkFault → Option LinkFault
fault_if (Ok p) = None
fault_if (Err fault) = Some fault

abbrev pub fault : List WrittenClass → List OptionField → Option LinkFault
fault classes options = fault_if (linked_example classes options)
