-- What `join` wrote of reports of runs is one.
use Rattle.std.proofs.Common.{◌≡◌, ◌≤◌, ℕ, List, [], ◌∷◌, length, IfSome, Some, arith, map, subst}
use Rattle.std.specs.List.{AllZip}
use Rattle.vx_io.specs.Held.{FilesState, Held, contents}
use Rattle.vx_io.specs.Sink.{Gains, SinkState}
use Rattle.vx_join.specs.Joined.{IsJoined}
use Rattle.vx_joined.proofs.Runs.{joined_runs, reported_runs}
use Rattle.vx_joined.specs.Law.{AreRuns}
use Rattle.vx_model.specs.Models.{is_allowed}
use Rattle.vx_model.specs.declared.model.Model.{Model}
use Rattle.vx_report.specs.declared.report.Report.{Report}
use Rattle.vx_report_reader.proofs.Verdicts.{report_same}
use Rattle.vx_cli.specs.Causes.{AreReportsIn, IsJoining, IsReportIn, IsShown}
use Rattle.vx_cli.specs.Parts.{AreParts, IsPart, IsWholeWritten, Parts}
use Rattle.vx_cli.specs.Command.{Join}
use Rattle.vx_cli.specs.Ends.{Ends}
use Rattle.vx_cli.specs.PlanOf.{plan_of}
use Rattle.vx_plans.specs.declared.status.Status.{Status}
use Rattle.vx_plans.specs.declared.status.Status.TheVariants.{Done}
use Rattle.vx_cli.proofs.Shown.{call_shows}

-- the report of a part is one of runs
part_runs : (held : Held) (parts : Parts) (path : List ℕ) (model : Model) (r : Report) → IsPart held parts path model → IsReportIn held path r → AreRuns parts.version parts.names parts.limit (is_allowed model) parts.program r
part_runs held parts path model r part is =
    subst (λ (x : Report). AreRuns parts.version parts.names parts.limit (is_allowed model) parts.program x) (report_same (contents held path) part.reported.report r part.reported.spells is.spells)
    (reported_runs parts.version parts.names parts.limit (is_allowed model) parts.program (contents held path) part.reported)

all_runs : (held : Held) (parts : Parts) (paths : List (List ℕ)) (models : List Model) (reports : List Report) → AllZip (IsPart held parts) paths models → AreReportsIn held paths reports
    → AllZip (λ r is_allowed. AreRuns parts.version parts.names parts.limit is_allowed parts.program r) reports (map is_allowed models)
all_runs held parts [] [] [] h k = tt
all_runs held parts [] [] (r ∷ reports) h k = absurd k
all_runs held parts [] (m ∷ models) reports h k = absurd h
all_runs held parts (path ∷ paths) [] reports h k = absurd h
all_runs held parts (path ∷ paths) (m ∷ models) [] h k = absurd k
all_runs held parts (path ∷ paths) (m ∷ models) (r ∷ reports) h k = (part_runs held parts path m r h.0 k.0, all_runs held parts paths models reports h.1 k.1)

whole_written : (held : Held) (parts : Parts) (paths : List (List ℕ)) (out out' : SinkState) (text : List ℕ) → 2 ≤ length paths → AreParts held parts paths → IsJoining held paths text → Gains out out' text → IsWholeWritten parts out out'
whole_written held parts paths out out' text least are is gained = by paths is.reports least is.are (all_runs held parts paths parts.models is.reports are is.are) is.is_text.joined
  where
    by : (ps : List (List ℕ)) (reports : List Report) → 2 ≤ length ps → AreReportsIn held ps reports → AllZip (λ r is_allowed. AreRuns parts.version parts.names parts.limit is_allowed parts.program r) reports (map is_allowed parts.models)
        → IsJoined reports is.is_text.report → IsWholeWritten parts out out'
    by [] reports few k runs joined = absurd (omega (arith, few))
    by (p ∷ ps) [] few k runs joined = absurd k
    by (p ∷ ps) (r ∷ reports) few k runs joined = record {
      text = text;
      gained = gained;
      report = is.is_text.report;
      spells = is.is_text.spells;
      runs = joined_runs parts.version parts.names parts.limit parts.program r reports (map is_allowed parts.models) is.is_text.report runs joined;
    }

-- a call that is done has written the whole
pub done_whole : (old new : FilesState) (out out' : SinkState) (paths : List (List ℕ)) (status : Status) → Ends old new out out' (plan_of (Join paths)) status → 2 ≤ length paths → (held : Held) (parts : Parts) → old.held ≡ Some held → AreParts held parts paths → status ≡ Done
    → IsWholeWritten parts out out'
done_whole old new out out' paths status ends least held parts told are done =
    by_text (there (λ files. (text : List ℕ) × IsJoining files paths text × Gains out out' text)
    (subst (λ s. IsShown old new out out' (Join paths) s) done (call_shows old new out out' (Join paths) status ends)))
  where
    there : (P : Held → Type 0) → IfSome old.held P → P held
    there P h = rw told at h

    by_text : (text : List ℕ) × IsJoining held paths text × Gains out out' text → IsWholeWritten parts out out'
    by_text h = whole_written held parts paths out out' h.0 least are h.1 h.2
