use Rattle.std.proofs.Common.{refl}
use Rattle.std.proofs.lemmas.Result.{on_ok_weaker}
use Rattle.vx_group.specs.Group.{path_of}
use Rattle.vx_placing.proofs.Placed.{FitsAmong-shaped, IsPut-waits}
use Rattle.vx_standing.proofs.Waiting.{apart_from_groups}
use Rattle.vx_placing.proofs.placing.wait.Goals as goal

pub place_group-requires-clause-groups : goal.place_group-requires-clause-groups
place_group-requires-clause-groups g c = c.requires.going.underway.waiting.are_groups

pub place_group-requires-clause-group : goal.place_group-requires-clause-group
place_group-requires-clause-group g c = c.requires.going.stands.is_group

pub place_group-requires-clause-apart : goal.place_group-requires-clause-apart
place_group-requires-clause-apart g c = apart_from_groups _ (path_of c.args.group) c.args.round.now.groups c.requires.going.vacant.groups

pub place_group-requires-clause-fits : goal.place_group-requires-clause-fits
place_group-requires-clause-fits g c = FitsAmong-shaped c.args.setting.now.program.now (g.S.Space.sets c.args.space.now) c.args.round.now.callers c.args.group c.args.round.now.groups c.requires.going.stands.is_group c.requires.going.stands.shaped c.requires.going.underway.waiting.are_groups c.requires.going.underway.waiting.shaped

pub returns-clause-gone : goal.returns-clause-gone
returns-clause-gone g c =
    on_ok_weaker c.place_group.result
    (λ placed. record {
      put = IsPut-waits c.args.setting.now.program.now c.place_group.ensures.extends c.args.setting.now.heap.now c.requires.going.is_heap c.args.setting.now.limit c.args.group c.args.round.now _ c.requires.going.stands c.requires.left c.requires.going.underway c.requires.going.vacant placed c.place_group.ensures.keeps refl refl refl;
      texts = refl;
    })
    c.place_group.ensures.placed
