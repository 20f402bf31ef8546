use Rattle.std.proofs.Common.{◌≡◌, ◌∷◌, [], ◌∙◌, ap, refl}
use Rattle.std.proofs.lemmas.Result.{IfOk-weaker}
use Rattle.vx_group.proofs.GroupLaws.{IsGroup-one_scope}
use Rattle.vx_outcome.specs.declared.outcome.Outcome.TheVariants.{Go}
use Rattle.vx_group_states.proofs.EndingLaws.{moved-gives}
use Rattle.vx_arith.proofs.AttemptLaws.{goto-gives}
use Rattle.vx_arith.proofs.attempting.goto.Goals as goal

pub spot_at-spot-requires : goal.spot_at-spot-requires
spot_at-spot-requires g c = rw c.take_top-below.ensures c.requires.short

pub put_top-requires-clause-scope : goal.put_top-requires-clause-scope
put_top-requires-clause-scope g c = rw c.take_top-below.ensures (IsGroup-one_scope _ c.args.group c.requires.group)

pub returns : goal.returns
returns g c =
    IfOk-weaker c.go.result _ _ (λ r' h'.
    let group = c.args.group in
    let position = c.goto_target.result in
    let at = rw c.take_top-below.ensures at c.spot_at-spot.ensures.position in
    let moved : c.put_top.result ≡ record group { top = record (group.top) { position = position } } = rw (c.put_top.ensures, c.take_top-below.ensures) refl in
    goto-gives c.args.site.now c.args.operation _ group c.spot_at-spot.result position _ c.requires.goto at c.goto_target.ensures (moved-gives c.args.site.now.program.now _ group position _ (h' ∙ ap (λ r. Go r ∷ []) moved)))
    c.go.ensures.one
