-- What a command asks of the files, and what it makes of the answers.
use Rattle.std.specs.Prelude.{◌≡◌, ◌≤◌, ◌<◌, ℕ, Bool, true, false, List, take, length, IfSome, None, Some, Ok, Err}
use Rattle.std.specs.declared.option.Option.{Option}
use Rattle.std.specs.declared.result.Result.{Result}
use Rattle.vx_pool.specs.Place.{IsBytes}
use Rattle.vx_io.specs.Call.{Call, Listing, Reading}
use Rattle.vx_io.specs.Held.{Held, FilesState, contents, IsListing}
use Rattle.vx_plans.specs.declared.status.Status.{Status}
use Rattle.vx_model.specs.declared.model.Model.{Model}
use Rattle.vx_model.specs.Models.{is_allowed}
use Rattle.vx_report.specs.declared.report.Report.{Report}
use Rattle.vx_report_reader.specs.Rules.{ReportText, IsBadLine}
use Rattle.vx_plans.specs.declared.status.Status.TheVariants.{Done, NoMemory, NoConfiguration, BadReport}
use Rattle.vx_plans.specs.Job.{Product, IsTextOf}
use Rattle.std.proofs.Common.{◌⊎◌}

-- A plan: it refuses, or says a text of a product and ends with a status, or asks for the first bytes of a file or for the paths below a folder and goes on
-- with what is given. Beside each question stands the status where the call fails. Or it goes on by whether a model allows no
-- configuration or some; or it goes on with the report that bytes spell, and refuses where they spell none; or it goes on with any values that pass a test.
pub data Plan : Type 0 where
  Refuse : Status → Plan
  Say : (product : Product) (last : Status) → Plan
  Read : List ℕ → ℕ → Status → (List ℕ → Plan) → Plan
  List_below : List ℕ → Status → (List (List ℕ) → Plan) → Plan
  By_allowed : Model → (none some : Plan) → Plan
  As_report : List ℕ → (Report → Plan) → Plan
  Choose : (List Bool → Bool) → (List Bool → Plan) → Plan

-- writes a text of a product, and is done
abbrev pub Write : Product → Plan
Write product = Say product Done

-- goes on where a model allows a configuration, and refuses where it allows none
abbrev pub If_allowed : Model → Plan → Plan
If_allowed model next = By_allowed model (Refuse NoConfiguration) next

-- refuses where there is a reason to
abbrev pub unless : Option Status → Plan → Plan
unless None plan = plan
unless (Some status) plan = Refuse status

-- goes on with a value, or refuses where there is none
abbrev pub attempt : {A : Type 0} → Result A Status → (A → Plan) → Plan
attempt (Ok x) next = next x
attempt (Err status) next = Refuse status

-- a configuration that a model allows, and that it allows none
abbrev pub AllowsSome : Model → Type 0
AllowsSome model = (c : List Bool) × (is_allowed model c ≡ true)

abbrev pub AllowsNone : Model → Type 0
AllowsNone model = (c : List Bool) → is_allowed model c ≡ false

-- bytes spell no report, and this is the first bad line
pub record IsBadReport (bytes : List ℕ) (line : ℕ) : Type 0 where
  pub first : IsBadLine bytes line
  pub none : (report : Report) → ReportText bytes report → ⊥

-- this status refuses bytes as no report, unless memory was wanting
abbrev pub IsRefused : List ℕ → Status → Type 0
IsRefused bytes status = (status ≡ NoMemory) ⊎ ((line : ℕ) × IsBadReport bytes line × (status ≡ BadReport line))

-- a text, and the status with which a call ends that has written it
abbrev pub Said : Type 0
Said = List ℕ × Status

-- what a plan gives: a text with its status, or a refusal
abbrev pub Outcome : Type 0
Outcome = Result Said Status

-- a text, behind which the call is done
abbrev pub done_with : List ℕ → Outcome
done_with text = Ok (text, Done)

-- The plan may give this text with this status, or this refusal, over files that hold this, where that is told, and that failed so often
-- before and after. A question fails only where the count of its call rose, and what is read are numbers of one byte each.
abbrev pub MayGive : Option Held → (Call → ℕ) → (Call → ℕ) → Plan → Outcome → Type 0
MayGive held before after (Refuse status) outcome = outcome ≡ Err status
MayGive held before after (Say product last) outcome = (text : List ℕ) × IsTextOf product text × (outcome ≡ Ok (text, last))
MayGive held before after (Read path room fault next) outcome =
    ((before (Reading path) < after (Reading path)) × (outcome ≡ Err fault))
    ⊎ ((bytes : List ℕ) × (length bytes ≤ room) × IsBytes bytes × IfSome held (λ files. bytes ≡ take room (contents files path)) × MayGive held before after (next bytes) outcome)
MayGive held before after (List_below folder fault next) outcome =
    ((before (Listing folder) < after (Listing folder)) × (outcome ≡ Err fault))
    ⊎ ((paths : List (List ℕ)) × IfSome held (λ files. IsListing files folder paths) × MayGive held before after (next paths) outcome)
MayGive held before after (By_allowed model none some) outcome =
    (AllowsNone model × MayGive held before after none outcome) ⊎ (AllowsSome model × MayGive held before after some outcome)
MayGive held before after (As_report bytes next) outcome =
    ((line : ℕ) × IsBadReport bytes line × (outcome ≡ Err (BadReport line)))
    ⊎ ((report : Report) × ReportText bytes report × MayGive held before after (next report) outcome)
MayGive held before after (Choose passes next) outcome = (values : List Bool) × (passes values ≡ true) × MayGive held before after (next values) outcome

-- What the second plan may give, the first one may: its answers so far lead there.
pub record Leads (held : Option Held) (plan rest : Plan) : Type 0 where
  pub to : (before after : Call → ℕ) (outcome : Outcome) → MayGive held before after rest outcome → MayGive held before after plan outcome

-- The plan may be left with this status, between two states of the files: for want of memory, at any place, or by a refusal of its own.
pub record MayStop (old new : FilesState) (plan : Plan) (status : Status) : Type 0 where
  pub why : (status ≡ NoMemory) ⊎ MayGive old.held old.faults new.faults plan (Err status)

-- a plan gave this, or memory was wanting
abbrev pub IsGiven : FilesState → FilesState → Plan → Outcome → Type 0
IsGiven old new plan outcome = (outcome ≡ Err NoMemory) ⊎ MayGive old.held old.faults new.faults plan outcome
