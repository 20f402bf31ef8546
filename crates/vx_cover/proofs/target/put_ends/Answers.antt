use Rattle.std.proofs.Common.{◌≡◌, ◌<◌, arith, length, subst}
use Rattle.vx_cover.specs.Covers.{has_this_end}
use Rattle.vx_cover.specs.Targets.{AreFirst}
use Rattle.vx_cover.proofs.Listing.{first_end_at, first_targets-start, first_targets-step}
use Rattle.vx_cover.proofs.target.put_ends.Goals as goal

pub loop-place-init : goal.loop-place-init
loop-place-init g c = first_targets-start c.args.report.now c.args.targets.now.items c.requires.none

pub bounds-firsts-place : goal.bounds-firsts-place
bounds-firsts-place g c = omega (arith, c.requires.firsts.number, c.len-place-end.ensures, c.loop-place-test.true)

pub push_target-requires : goal.push_target-requires
push_target-requires g c =
    let within : c.loop-place.place < length c.args.report.now.ends = omega (arith, c.len-place-end.ensures, c.loop-place-test.true) in
    (first_end_at c.args.report.now c.args.firsts.now c.loop-place.place c.index-firsts-place.result c.requires.firsts within c.index-firsts-place.is).known

pub loop-place-preserved : goal.loop-place-preserved
loop-place-preserved g c =
    let within : c.loop-place.place < length c.args.report.now.ends = omega (arith, c.len-place-end.ensures, c.loop-place-test.true) in
    first_targets-step (g.met.S.Space.lawful c.args.space.now) c.args.report.now c.args.firsts.now c.loop-place.place _ c.index-firsts-place.result c.loop-place.targets.items _ (omega arith) c.requires.firsts within c.index-firsts-place.is c.loop-place.invariant c.in_ok-push_target.ensures

pub returns : goal.returns
returns g c =
    let all : c.loop-place.place ≡ length c.args.report.now.ends = omega (arith, c.loop-place.auto.place-end, c.loop-place-test.false, c.len-place-end.ensures) in
    subst (λ n. AreFirst (g.S.Space.sets c.args.space.now) (has_this_end c.args.report.now) n c.loop-place.targets.items) all c.loop-place.invariant
