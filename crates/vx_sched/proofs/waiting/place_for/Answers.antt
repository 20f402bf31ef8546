use Rattle.std.proofs.Common.{subst, ◌∙◌, arith, map}
use Rattle.std.proofs.lemmas.List.{length-map}
use Rattle.vx_group.specs.Group.{key_of}
use Rattle.vx_sched.proofs.FirstKeys.{alone_first, same_length}
use Rattle.vx_sched.specs.Picks.{IsFirstKey}
use Rattle.vx_sched.proofs.waiting.place_for.Goals as goal

pub returns-then-groups-eq1-clause-first : goal.returns-then-groups-eq1-clause-first
returns-then-groups-eq1-clause-first g c law = alone_first (map key_of c.args.groups.now) (length-map c.args.groups.now key_of ∙ c.if-groups-eq1.true)

pub pick-requires : goal.pick-requires
pick-requires g c =
    let same = same_length c.as_slice.result.now c.args.groups.now (c.as_slice.ensures.value ∙ c.in_ok-make_keys.ensures.all) in
    let some = c.requires.some in
    omega (arith, same, some)

pub returns-clause-in_range : goal.returns-clause-in_range
returns-clause-in_range g c =
    let same = same_length c.as_slice.result.now c.args.groups.now (c.as_slice.ensures.value ∙ c.in_ok-make_keys.ensures.all) in
    let below = c.pick.ensures.in_range in
    omega (arith, same, below)

pub returns-clause-first : goal.returns-clause-first
returns-clause-first g c law = subst (λ list. IsFirstKey list c.pick.result) (c.as_slice.ensures.value ∙ c.in_ok-make_keys.ensures.all) (law c.as_slice.result.now c.pick.result c.pick.ensures.picked)
