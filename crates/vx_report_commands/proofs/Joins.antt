-- What `join` made of its reports, in terms of its plan.
use Rattle.std.proofs.Common.{◌≡◌, ◌≤◌, ◌<◌, ◌-◌, ◌∙◌, ℕ, Bool, true, false, List, [], ◌∷◌, None, Some, Result, Ok, Err, inl, inr, refl, sym, ap, arith, length, drop, take, take_all, get_or, ◌⊎◌, IfOk, IfErr, MatchResult, Vec, Global}
use Rattle.std.proofs.lemmas.Bool.Decides.{nat_tests}
use Rattle.std.specs.List.{AllByRecursion, list_all}
use Rattle.std.specs.Prelude.{◌&&◌, nat_eq, if◌then◌else◌}
use Rattle.vx_io.specs.Held.{FilesState}
use Rattle.vx_agree.proofs.Names.{told_names}
use Rattle.vx_agree.specs.Options.{are_same_names}
use Rattle.vx_join.specs.Joined.{IsLike, is_joinable}
use Rattle.vx_join.specs.Text.{IsJoinedText}
use Rattle.vx_plans.specs.declared.status.Status.{Status}
use Rattle.vx_plans.specs.declared.status.Status.TheVariants.{NoMemory, NotJoinable, Unlike}
use Rattle.vx_plans.specs.Plan.{Plan, Write, Leads, MayGive, MayStop, done_with}
use Rattle.vx_plans.specs.Job.{Join}
use Rattle.vx_report.specs.declared.report.Report.{Report}
use Rattle.vx_report_commands.specs.Join.{GivesJoin, are_like, join_plan, join_reports, unjoined}
use Rattle.vx_plans.specs.KeepsFiles.{KeepsFiles}
use Rattle.vx_inputs.specs.Reports.{read_reports}
use Rattle.vx_plans.proofs.Plans.{goes_on, then_leads, stops_behind, no_memory, stops_for}

-- the first of some reports, and the others
pub first_others : (reports : List Report) (first : Report) → 1 ≤ length reports → first ≡ get_or reports 0 first → reports ≡ first ∷ take (length reports - 1) (drop 1 reports)
first_others [] first low is = absurd (omega (arith, low))
first_others (r ∷ reports) first low is =
    let rest : take (length (r ∷ reports) - 1) (drop 1 (r ∷ reports)) ≡ reports = take_all _ reports (omega arith) in
    rw (rest, is) refl

parts : (a b : Bool) → (a && b) ≡ true → (a ≡ true) × (b ≡ true)
parts true b e = (refl, e)
parts false b e = absurd cc

same_number : (m n : ℕ) → nat_eq m n ≡ true → m ≡ n
same_number m n e = grind (arith, nat_tests)

-- reports that pass the test are over the same options, of one limit and one version
pub likes_of : (first : Report) (others : List Report) → list_all (are_like first) others ≡ true → AllByRecursion (IsLike first) others
likes_of first [] e = tt
likes_of first (r ∷ others) e =
    let p = parts (are_like first r) (list_all (are_like first) others) e in
    let q = parts (are_same_names first.options r.options) (nat_eq first.limit r.limit && nat_eq first.version r.version) p.0 in
    let s = parts (nat_eq first.limit r.limit) (nat_eq first.version r.version) q.1 in
    (record { version = same_number first.version r.version s.1; options = told_names first.options r.options true (sym q.0); limit = same_number first.limit r.limit s.0 }, likes_of first others p.1)

-- a plan that joins reports, or refuses where they differ or have no join
pub join_ok : (old new : FilesState) (paths : List (List ℕ)) (reports : List Report) (made : Result (Vec ℕ Global) Status) → ((next : List Report → Plan) → Leads old.held (read_reports next [] paths) (next reports))
    → MatchResult made (λ text. GivesJoin reports text.items) (λ status. (status ≡ NoMemory) ⊎ (unjoined reports ≡ Some status))
    → IfOk made (λ text. MayGive old.held old.faults new.faults (join_plan paths) (done_with text.items))
join_ok old new paths reports (Err status) leads gives = tt
join_ok old new paths reports (Ok text) leads gives =
    (then_leads (leads join_reports) (goes_on old.held (unjoined reports) (Write (Join reports)) gives.joinable)).to old.faults new.faults (done_with text.items) (text.items, gives.shows, refl)

pub join_err : (old new : FilesState) (paths : List (List ℕ)) (reports : List Report) (made : Result (Vec ℕ Global) Status) → KeepsFiles old new → ((next : List Report → Plan) → Leads old.held (read_reports next [] paths) (next reports))
    → MatchResult made (λ text. GivesJoin reports text.items) (λ status. (status ≡ NoMemory) ⊎ (unjoined reports ≡ Some status))
    → IfErr made (λ status. MayStop old new (join_plan paths) status)
join_err old new paths reports (Ok text) keeps leads gives = tt
join_err old new paths reports (Err status) keeps leads gives = by_cause gives
  where
    by_cause : (status ≡ NoMemory) ⊎ (unjoined reports ≡ Some status) → MayStop old new (join_plan paths) status
    by_cause (inl e) = no_memory old new _ status e
    by_cause (inr e) = stops_behind old new new (join_plan paths) (join_reports reports) status keeps (leads join_reports) (stops_for new new (unjoined reports) (Write (Join reports)) status e)

-- no reports have no join
pub none_unjoined : (reports : List Report) → length reports < 1 → unjoined reports ≡ Some NotJoinable
none_unjoined [] few = refl
none_unjoined (r ∷ reports) few = absurd (omega (arith, few))

-- one differs from the first
pub unlike_unjoined : (first : Report) (others : List Report) → list_all (are_like first) others ≡ false → unjoined (first ∷ others) ≡ Some Unlike
unlike_unjoined first others e = ap (λ b. if b then (if is_joinable (first ∷ others) then None else Some NotJoinable) else Some Unlike) e

-- no report says what they say
pub not_joinable : (first : Report) (others : List Report) → list_all (are_like first) others ≡ true → is_joinable (first ∷ others) ≡ false → unjoined (first ∷ others) ≡ Some NotJoinable
not_joinable first others e f = ap (λ b. if b then (if is_joinable (first ∷ others) then None else Some NotJoinable) else Some Unlike) e ∙ ap (λ b. if b then None else Some NotJoinable) f

-- they have a join
pub gives_join : (first : Report) (others : List Report) (text : List ℕ) → list_all (are_like first) others ≡ true → is_joinable (first ∷ others) ≡ true → IsJoinedText (first ∷ others) text → GivesJoin (first ∷ others) text
gives_join first others text e f h = record {
  joinable = ap (λ b. if b then (if is_joinable (first ∷ others) then None else Some NotJoinable) else Some Unlike) e ∙ ap (λ b. if b then None else Some NotJoinable) f;
  shows = h;
}
