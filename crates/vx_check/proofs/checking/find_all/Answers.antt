use Rattle.vx_space.proofs.Spaces.{Extends-trans}
use Rattle.vx_check.proofs.Found.{AreKnownEnds-extends, IsSound-extends, has_found, no_numbers}
use Rattle.vx_check.proofs.checking.find_all.Goals as goal

pub find_missed-requires-clause-sound : goal.find_missed-requires-clause-sound
find_missed-requires-clause-sound g c = record {
  numbers = no_numbers (g.S.Space.sets c.args.space.now) g.S.Id.Ord.cmp c.new.result c.new.ensures.empty;
  failing = rw c.never.ensures (g.met.S.Space.lawful c.args.space.now).never_known;
}

pub minus-requires-clause-first : goal.minus-requires-clause-first
minus-requires-clause-first g c = rw c.always-always.ensures (g.met.S.Space.lawful c.find_missed.new.space).always_known

pub find-requires-clause-ends : goal.find-requires-clause-ends
find-requires-clause-ends g c = AreKnownEnds-extends (Extends-trans c.in_ok-spoken.ensures.extends c.in_ok-unspoken.ensures.extends) c.args.ends.now c.requires.ends

pub find-requires-clause-scope : goal.find-requires-clause-scope
find-requires-clause-scope g c = (Extends-trans c.in_ok-spoken.ensures.extends c.in_ok-unspoken.ensures.extends).known c.args.scope c.requires.scope

pub find-requires-clause-sound : goal.find-requires-clause-sound
find-requires-clause-sound g c = IsSound-extends c.in_ok-unspoken.ensures.extends c.find_missed.new.finding c.in_ok-spoken.ensures.sound

pub returns-clause-extends : goal.returns-clause-extends
returns-clause-extends g c = Extends-trans c.in_ok-spoken.ensures.extends (Extends-trans c.in_ok-unspoken.ensures.extends c.in_ok-find.ensures.extends)

pub returns-clause-found : goal.returns-clause-found
returns-clause-found g c =
    has_found (g.met.S.Space.lawful c.args.space.now) c.args.scope c.args.ends.now c.args.expected.now c.in_ok-spoken.spoken c.in_ok-unspoken.unspoken (record { numbers = c.new.result; told = c.new-2.result; failing = c.never.result }) c.find_missed.new.finding c.find.new.finding
    c.in_ok-spoken.ensures.extends c.in_ok-unspoken.ensures.extends c.new-2.ensures.items c.never.ensures c.in_ok-spoken.ensures.found c.in_ok-spoken.ensures.spoken (rw c.always-always.ensures at c.in_ok-unspoken.ensures.ok) (g.met.S.Space.lawful c.find_missed.new.space) c.in_ok-find.ensures.found
