-- What a report is asked for is one text, unless it is chosen.
use Rattle.std.proofs.Common.{◌≡◌, ℕ, List, sym, ◌∙◌}
use Rattle.vx_report.specs.declared.report.Report.{Report}
use Rattle.vx_interact.proofs.OneText.{one_interactions_text}
use Rattle.vx_people.specs.Tellings.{HasOneText, IsToldText}
use Rattle.vx_people.specs.declared.telling.Telling.{Telling}
use Rattle.vx_people.specs.declared.telling.Telling.TheVariants.{Interactions, Picture, Cover, Explanations, Counts, Listed, Page}

pub one_told_text : (telling : Telling) (report : Report) (one other : List ℕ) → HasOneText telling → IsToldText telling report one → IsToldText telling report other → one ≡ other
one_told_text Interactions report one other h p q = one_interactions_text report one other p q
one_told_text (Picture drawn) report one other h p q = p.spelled ∙ sym q.spelled
one_told_text Cover report one other h p q = absurd h
one_told_text (Explanations asked) report one other h p q = absurd h
one_told_text Counts report one other h p q = p ∙ sym q
one_told_text (Listed n) report one other h p q = p ∙ sym q
one_told_text Page report one other h p q = p ∙ sym q
