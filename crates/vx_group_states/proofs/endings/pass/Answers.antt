use Rattle.std.proofs.Common.{◌≡◌, ◌+◌, ◌∷◌, [], ◌∙◌, ap, refl}
use Rattle.std.proofs.lemmas.Result.{IfOk-weaker}
use Rattle.vx_group.proofs.GroupLaws.{IsGroup-one_scope}
use Rattle.vx_outcome.specs.declared.outcome.Outcome.TheVariants.{Go}
use Rattle.vx_group_states.proofs.EndingLaws.{moved-gives}
use Rattle.vx_group_states.proofs.endings.pass.Goals as goal

pub put_top-requires-clause-scope : goal.put_top-requires-clause-scope
put_top-requires-clause-scope g c = rw c.take_top-below.ensures (IsGroup-one_scope _ c.args.group c.requires.group)

pub returns : goal.returns
returns g c =
    IfOk-weaker c.go.result _ _ (λ r' h'.
    let group = c.args.group in
    let moved : c.put_top.result ≡ record group { top = record (group.top) { position = group.top.position + c.args.site.now.size } } = rw (c.put_top.ensures, c.take_top-below.ensures) refl in
    moved-gives c.args.site.now.program.now _ group _ _ (h' ∙ ap (λ r. Go r ∷ []) moved))
    c.go.ensures.one
