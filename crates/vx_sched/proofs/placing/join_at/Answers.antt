use Rattle.vx_sched.proofs.GroupsLaws.{has_key_below, is_taken, fits_taken, has_key_taken, apart_taken, AreDisjoint-sym, placed_joined}
use Rattle.vx_sched.proofs.placing.join_at.Goals as goal

pub take-other-requires : goal.take-other-requires
take-other-requires g c = has_key_below _ c.args.groups.now c.args.place c.requires.place

pub join-requires-clause-first : goal.join-requires-clause-first
join-requires-clause-first g c = (is_taken _ _ c.args.groups.now c.args.place c.take-other.result (has_key_below _ c.args.groups.now c.args.place c.requires.place) c.take-other.ensures.value c.requires.groups).beside.is_group

pub join-requires-clause-shapes : goal.join-requires-clause-shapes
join-requires-clause-shapes g c = fits_taken c.args.callers.now c.args.group c.args.groups.now c.args.place c.take-other.result (has_key_below _ c.args.groups.now c.args.place c.requires.place) c.take-other.ensures.value c.requires.fits (has_key_taken _ c.args.groups.now c.args.place c.take-other.result c.take-other.ensures.value c.requires.place)

pub join-requires-clause-disjoint : goal.join-requires-clause-disjoint
join-requires-clause-disjoint g c = AreDisjoint-sym _ _ _ (apart_taken _ _ c.args.groups.now c.args.place c.take-other.result (has_key_below _ c.args.groups.now c.args.place c.requires.place) c.take-other.ensures.value c.requires.apart).0

pub returns-clause-placed : goal.returns-clause-placed
returns-clause-placed g c = rw (c.in_ok-push.ensures.ok, c.take-other.ensures.rest) (placed_joined (g.met.S.Space.lawful c.args.space.now) (g.met.S.Space.lawful c.join.new.space) c.in_ok-joined.ensures.extends c.in_ok-joined.ensures.keeps c.args.groups.now c.args.group c.args.place c.take-other.result c.in_ok-joined.joined c.take-other.ensures.value c.requires.groups c.requires.group c.requires.apart c.requires.place c.in_ok-joined.ensures.path c.in_ok-joined.ensures.shapes c.in_ok-joined.ensures.ok)
