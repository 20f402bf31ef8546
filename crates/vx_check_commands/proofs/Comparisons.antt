-- What `compare` made of two reports, in terms of its plan.
use Rattle.std.proofs.Common.{◌≡◌, ◌⊎◌, ◌<◌, ◌≤◌, inl, inr, ℕ, Bool, false, List, None, Some, Result, Ok, Err, IfErr, IfOk, MatchResult, length, nat_le, ap, arith, subst, ◌∙◌}
use Rattle.std.specs.Prelude.{if◌then◌else◌}
use Rattle.std.proofs.lemmas.Bool.{le-leb}
use Rattle.std.proofs.lemmas.Bool.Decides.{nat_tests}
use Rattle.vx_io.specs.Held.{FilesState}
use Rattle.vx_compare.proofs.Differing.{differing_wide}
use Rattle.vx_compare.specs.Differ.{differing_seen}
use Rattle.vx_compare.specs.Names.{IsWide, all_names}
use Rattle.vx_compare.specs.Text.{compared_of, compared_text}
use Rattle.vx_compare.specs.declared.comparing.Compared.{Compared}
use Rattle.vx_inputs.specs.Reports.{read_report}
use Rattle.vx_plans.specs.Answers.{said_of}
use Rattle.vx_plans.specs.Job.{Comparison}
use Rattle.vx_plans.specs.KeepsFiles.{KeepsFiles}
use Rattle.vx_plans.specs.Plan.{Leads, MayGive, MayStop, Plan, Say}
use Rattle.vx_plans.specs.declared.answer.Answer.{Answer}
use Rattle.vx_plans.specs.declared.status.Status.{Status}
use Rattle.vx_plans.specs.declared.status.Status.TheVariants.{NoMemory, Unlike}
use Rattle.vx_plans.proofs.Plans.{goes_on, keeps_then, no_memory, stops_behind, stops_for, then_leads}
use Rattle.vx_report.specs.declared.report.Report.{Report}
use Rattle.vx_check_commands.specs.Compare.{GivesComparison, compare_plan, compare_reports, last_of, too_many}

-- what is made of two reports
abbrev pub IsMade : Report → Report → Result Answer Status → Type 0
IsMade r s made = MatchResult made (GivesComparison r s) (λ status. (status ≡ NoMemory) ⊎ (too_many r s ≡ Some status))

-- what is said of two reports that aren't refused
abbrev said : Report → Report → Plan
said r s = Say (Comparison r s) (last_of (differing_seen r s))

pub compare_ok : (old mid new : FilesState) (path other : List ℕ) (r s : Report) (made : Result Answer Status) → KeepsFiles old mid → ((next : Report → Plan) → Leads old.held (read_report path next) (next r)) → ((next : Report → Plan) → Leads mid.held (read_report other next) (next s))
    → IsMade r s made → IfOk made (λ answer. MayGive old.held old.faults new.faults (compare_plan path other) (Ok (said_of answer)))
compare_ok old mid new path other r s (Err status) keeps first second gives = tt
compare_ok old mid new path other r s (Ok answer) keeps first second gives =
    let there = then_leads (first (λ report. read_report other (compare_reports report))) (rw keeps.held at (second (compare_reports r))) in
    (then_leads there (goes_on old.held (too_many r s) (said r s) gives.few)).to old.faults new.faults (Ok (said_of answer)) (answer.text.items, gives.shows, λ i. Ok (answer.text.items, gives.last i))

pub compare_err : (old mid new : FilesState) (path other : List ℕ) (r s : Report) (made : Result Answer Status) → KeepsFiles old mid → KeepsFiles mid new → ((next : Report → Plan) → Leads old.held (read_report path next) (next r)) → ((next : Report → Plan) → Leads mid.held (read_report other next) (next s))
    → IsMade r s made → IfErr made (λ status. MayStop old new (compare_plan path other) status)
compare_err old mid new path other r s (Ok answer) before keeps first second gives = tt
compare_err old mid new path other r s (Err status) before keeps first second gives = by_cause gives
  where
    there : Leads old.held (compare_plan path other) (compare_reports r s)
    there = then_leads (first (λ report. read_report other (compare_reports report))) (rw before.held at (second (compare_reports r)))

    by_cause : (status ≡ NoMemory) ⊎ (too_many r s ≡ Some status) → MayStop old new (compare_plan path other) status
    by_cause (inl e) = no_memory old new _ status e
    by_cause (inr e) = stops_behind old new new (compare_plan path other) (compare_reports r s) status (keeps_then before keeps) there (stops_for new new (too_many r s) (said r s) status e)

-- ---- what is made of two reports

not_many : (one other : Report) → length (all_names one.options other.options) ≤ 64 → too_many one other ≡ None
not_many one other few = ap (λ b. if b then None else Some Unlike) (le-leb (length (all_names one.options other.options)) 64 few)

pub many : (one other : Report) (names : List (List ℕ)) → names ≡ all_names one.options other.options → 64 < length names → too_many one other ≡ Some Unlike
many one other names is more =
    let above : nat_le (length names) 64 ≡ false = grind (arith, nat_tests) in
    ap (λ b. if b then None else Some Unlike) (subst (λ ns. nat_le (length ns) 64 ≡ false) is above)

-- the text of the copies of two reports over the options of both
pub gives_comparison : (one other : Report) (names : List (List ℕ)) (wide against : Report) (compared : Compared) (answer : Answer) → names ≡ all_names one.options other.options → length names ≤ 64 → IsWide one names wide → IsWide other names against → compared ≡ compared_of wide against
    → answer.text.items ≡ compared_text wide.options compared → answer.last ≡ last_of compared.differ → GivesComparison one other answer
gives_comparison one other names wide against compared answer n few w a is text last =
    let all : List (List ℕ) = all_names one.options other.options in
    let own : IsWide one all wide = subst (λ ns. IsWide one ns wide) n w in
    let others : IsWide other all against = subst (λ ns. IsWide other ns against) n a in
    record {
      few = not_many one other (subst (λ (ns : List (List ℕ)). length ns ≤ 64) n few);
      shows = record { wide_one = wide; is_wide_one = own; wide_other = against; is_wide_other = others; spelled = text ∙ (λ i. compared_text (own.options i) (is i)) };
      last = last ∙ ap last_of (ap (λ (c : Compared). c.differ) is ∙ differing_wide one other wide against own others);
    }

-- what is made where memory alone may run out
pub is_made : (r s : Report) (made : Result Answer Status) → MatchResult made (GivesComparison r s) (λ status. status ≡ NoMemory) → IsMade r s made
is_made r s (Ok answer) h = h
is_made r s (Err status) h = inl h
