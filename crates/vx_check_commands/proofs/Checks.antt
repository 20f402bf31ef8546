-- A check of a report and what is expected of it, in terms of its plan.
use Rattle.std.proofs.Common.{◌≡◌, ◌⊎◌, inl, inr, ℕ, List, Option, Some, Result, Ok, Err, Vec, Global, IfErr, IfOk, MatchResult, refl, ap, sym, ◌∙◌}
use Rattle.vx_io.specs.Held.{FilesState, Held}
use Rattle.vx_check.specs.Failing.{failing}
use Rattle.vx_check.specs.declared.expected.Expectation.{Expectation}
use Rattle.vx_inputs.specs.Reports.{read_report}
use Rattle.vx_plans.specs.Answers.{said_of}
use Rattle.vx_plans.specs.KeepsFiles.{KeepsFiles}
use Rattle.vx_plans.specs.Plan.{Leads, MayGive, MayStop, Plan, attempt}
use Rattle.vx_plans.specs.Sized.{most_bytes, read_sized}
use Rattle.vx_plans.specs.declared.answer.Answer.{Answer}
use Rattle.vx_plans.specs.declared.status.Status.{Status}
use Rattle.vx_plans.specs.declared.status.Status.TheVariants.{NoMemory}
use Rattle.vx_plans.proofs.Plans.{attempt_goes, leads_before, no_memory, then_leads, value_stops}
use Rattle.vx_report.specs.declared.report.Report.{Report}
use Rattle.vx_check_commands.specs.Check.{GivesCheck, check_plan, check_report, expected_in, read_expected}

-- what a file expects, or the refusal
abbrev pub IsExpected : Report → List ℕ → Result (Vec Expectation Global) Status → Type 0
IsExpected report bytes r = MatchResult r (λ xs. expected_in report bytes ≡ Ok xs.items) (λ status. (status ≡ NoMemory) ⊎ (expected_in report bytes ≡ Err status))

pub expected_ok : (held : Option Held) (path : List ℕ) (report : Report) (bytes : List ℕ) (r : Result (Vec Expectation Global) Status) → ((next : List ℕ → Plan) → Leads held (read_sized most_bytes path path next) (next bytes)) → IsExpected report bytes r
    → IfOk r (λ xs. (next : List Expectation → Plan) → Leads held (read_expected (Some path) report next) (next xs.items))
expected_ok held path report bytes (Err e) leads made = tt
expected_ok held path report bytes (Ok xs) leads made = λ next. then_leads (leads (λ b. attempt (expected_in report b) next)) (attempt_goes held (expected_in report bytes) next xs.items made)

pub expected_err : (old new : FilesState) (path : List ℕ) (report : Report) (bytes : List ℕ) (r : Result (Vec Expectation Global) Status) → KeepsFiles old new → ((next : List ℕ → Plan) → Leads old.held (read_sized most_bytes path path next) (next bytes)) → IsExpected report bytes r
    → IfErr r (λ status. (next : List Expectation → Plan) → MayStop old new (read_expected (Some path) report next) status)
expected_err old new path report bytes (Ok xs) keeps leads made = tt
expected_err old new path report bytes (Err status) keeps leads made = λ next. value_stops old new (read_expected (Some path) report next) (expected_in report bytes) next status keeps (leads (λ b. attempt (expected_in report b) next)) made

pub passed_on : (held : Option Held) (plan : Plan) → Leads held plan plan
passed_on held plan = record { to = λ _ _ _ h. h }

pub check_ok : (old mid new : FilesState) (path : List ℕ) (file : Option (List ℕ)) (report : Report) (xs : List Expectation) (r : Result Answer Status) → KeepsFiles old mid
    → ((next : Report → Plan) → Leads old.held (read_report path next) (next report)) → ((next : List Expectation → Plan) → Leads mid.held (read_expected file report next) (next xs))
    → MatchResult r (GivesCheck report xs) (λ status. status ≡ NoMemory)
    → IfOk r (λ answer. MayGive old.held old.faults new.faults (check_plan path file) (Ok (said_of answer)))
check_ok old mid new path file report xs (Err status) keeps read expect made = tt
check_ok old mid new path file report xs (Ok answer) keeps read expect made =
    (then_leads (read (λ r. read_expected file r (check_report r))) (leads_before keeps (expect (check_report report)))).to old.faults new.faults (Ok (said_of answer))
    (answer.text.items, made.shows, λ i. Ok (answer.text.items, made.last i))

pub check_err : (old new : FilesState) (path : List ℕ) (file : Option (List ℕ)) (report : Report) (xs : List Expectation) (r : Result Answer Status) → MatchResult r (GivesCheck report xs) (λ status. status ≡ NoMemory) → IfErr r (λ status. MayStop old new (check_plan path file) status)
check_err old new path file report xs (Ok answer) made = tt
check_err old new path file report xs (Err status) made = no_memory old new (check_plan path file) status made
