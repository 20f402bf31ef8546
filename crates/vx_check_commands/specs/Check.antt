-- The plan of `check`: the order of its questions and of its refusals.
use Rattle.std.specs.Prelude.{◌≡◌, ℕ, List, [], Option, Some, None, Ok, Err, nat_eq, if◌then◌else◌}
use Rattle.std.specs.declared.result.Result.{Result}
use Rattle.vx_check.specs.Expected.{expected_of}
use Rattle.vx_check.specs.Failing.{failing}
use Rattle.vx_check.specs.Text.{IsCheckText}
use Rattle.vx_check.specs.declared.expected.Expectation.{Expectation}
use Rattle.vx_inputs.specs.Reports.{read_report}
use Rattle.vx_model.specs.Text.{BadLine}
use Rattle.vx_plans.specs.Job.{Check}
use Rattle.vx_plans.specs.Plan.{Plan, Say, attempt}
use Rattle.vx_plans.specs.Sized.{most_bytes, read_sized}
use Rattle.vx_plans.specs.declared.answer.Answer.{Answer}
use Rattle.vx_plans.specs.declared.status.Status.{Status}
use Rattle.vx_plans.specs.declared.status.Status.TheVariants.{BadExpected, Done, Failing}
use Rattle.vx_report.specs.declared.report.Report.{Report}

abbrev pub or_bad_expected : Result (List Expectation) BadLine → Result (List Expectation) Status
or_bad_expected (Ok expected) = Ok expected
or_bad_expected (Err bad) = Err (BadExpected bad.line bad.reason)

-- what bytes expect of the configurations of a report, or the refusal
abbrev pub expected_in : Report → List ℕ → Result (List Expectation) Status
expected_in report bytes = or_bad_expected (expected_of report.options bytes)

-- reads what a file expects of them, where one is given; without one nothing is expected
abbrev pub read_expected : Option (List ℕ) → Report → (List Expectation → Plan) → Plan
read_expected None report next = next []
read_expected (Some path) report next = read_sized most_bytes path path (λ bytes. attempt (expected_in report bytes) next)

-- the status behind the text, by how many configurations fail
abbrev pub last_of : ℕ → Status
last_of failing = if nat_eq failing 0 then Done else Failing

-- what is said of a report
abbrev pub check_report : Report → List Expectation → Plan
check_report report expected = Say (Check report expected) (last_of (failing report expected))

-- the plan of `check`: the report, then what is expected of it
abbrev pub check_plan : (report : List ℕ) → (expected : Option (List ℕ)) → Plan
check_plan path expected = read_report path (λ report. read_expected expected report (check_report report))

-- the text is that of a check of a report, and the status is behind it
pub record GivesCheck (report : Report) (expected : List Expectation) (answer : Answer) : Type 0 where
  pub shows : IsCheckText report expected answer.text.items
  pub last : answer.last ≡ last_of (failing report expected)
