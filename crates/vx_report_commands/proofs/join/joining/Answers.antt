use Rattle.std.proofs.Common.{◌≡◌, ◌⊎◌, List, Some, arith, inr, subst, sym, ◌∙◌}
use Rattle.std.specs.List.{AllByRecursion}
use Rattle.vx_interact.proofs.Entries.{few_options}
use Rattle.vx_plans.specs.declared.status.Status.TheVariants.{NoMemory, NotJoinable, Unlike}
use Rattle.vx_report.specs.declared.report.Report.{Report}
use Rattle.vx_report_reader.specs.Lawful.{IsLawful}
use Rattle.vx_report_commands.specs.Join.{GivesJoin, unjoined}
use Rattle.vx_report_commands.proofs.Joins.{first_others, gives_join, likes_of, none_unjoined, not_joinable, unlike_unjoined}
use Rattle.vx_report_commands.proofs.join.joining.Goals as goal

pub returns-in_default : goal.returns-in_default
returns-in_default c = inr (none_unjoined c.args.reports.now (omega arith))

pub returns-then-not-are_all_like : goal.returns-then-not-are_all_like
returns-then-not-are_all_like c =
    let split = first_others c.args.reports.now c.first-item.result c.in-len1-up.len_at_least c.first-item.is in
    subst (λ (rs : List Report). (Unlike ≡ NoMemory) ⊎ (unjoined rs ≡ Some Unlike)) (sym split) (inr (unlike_unjoined c.first-item.result _ (sym c.are_all_like.ensures ∙ c.if-not-are_all_like.true)))

pub overflow_cast-len : goal.overflow_cast-len
overflow_cast-len c =
    let split = first_others c.args.reports.now c.first-item.result c.in-len1-up.len_at_least c.first-item.is in
    let all = subst (λ (rs : List Report). AllByRecursion IsLawful rs) split c.requires in
    omega (arith, few_options c.first-item.result all.0, c.len.ensures)

pub new-requires : goal.new-requires
new-requires c =
    let split = first_others c.args.reports.now c.first-item.result c.in-len1-up.len_at_least c.first-item.is in
    let all = subst (λ (rs : List Report). AllByRecursion IsLawful rs) split c.requires in
    omega (arith, few_options c.first-item.result all.0, c.len.ensures)

pub join_text-requires-clause-first : goal.join_text-requires-clause-first
join_text-requires-clause-first c =
    let split = first_others c.args.reports.now c.first-item.result c.in-len1-up.len_at_least c.first-item.is in
    (subst (λ (rs : List Report). AllByRecursion IsLawful rs) split c.requires).0

pub join_text-requires-clause-others : goal.join_text-requires-clause-others
join_text-requires-clause-others c =
    let split = first_others c.args.reports.now c.first-item.result c.in-len1-up.len_at_least c.first-item.is in
    (subst (λ (rs : List Report). AllByRecursion IsLawful rs) split c.requires).1

pub join_text-requires-clause-like : goal.join_text-requires-clause-like
join_text-requires-clause-like c = likes_of c.first-item.result _ (sym c.are_all_like.ensures ∙ c.if-not-are_all_like.false)

pub join_text-requires-clause-options : goal.join_text-requires-clause-options
join_text-requires-clause-options c = sym (c.in_ok-space.ensures.options_are ∙ c.len.ensures)

pub returns : goal.returns
returns c =
    let split = first_others c.args.reports.now c.first-item.result c.in-len1-up.len_at_least c.first-item.is in
    let h = rw c.in-Some.is at c.in_ok-join_text.ensures.text in
    subst (λ (rs : List Report). GivesJoin rs c.in-Some.text.items) (sym split) (gives_join c.first-item.result _ c.in-Some.text.items (sym c.are_all_like.ensures ∙ c.if-not-are_all_like.false) h.0 h.1)

pub returns-in-None : goal.returns-in-None
returns-in-None c =
    let split = first_others c.args.reports.now c.first-item.result c.in-len1-up.len_at_least c.first-item.is in
    let h = rw c.in-None.is at c.in_ok-join_text.ensures.text in
    subst (λ (rs : List Report). (NotJoinable ≡ NoMemory) ⊎ (unjoined rs ≡ Some NotJoinable)) (sym split) (inr (not_joinable c.first-item.result _ (sym c.are_all_like.ensures ∙ c.if-not-are_all_like.false) h))
