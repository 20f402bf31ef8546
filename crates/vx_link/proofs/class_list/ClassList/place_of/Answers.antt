use Rattle.vx_link.proofs.Places.{place_nowhere, place_there, place_within}
use Rattle.vx_link.proofs.class_list.ClassList.place_of.Goals as goal

pub returns-in-Some-clause-value : goal.returns-in-Some-clause-value
returns-in-Some-clause-value c = rw (← c.self.view_is) (place_there _ _ _ c.args.name.now c.in-Some.place c.index.result.now c.self.invariant.0 c.in-Some.ensures.place c.in-Some.ensures.within c.index.ensures)

pub returns-in-Some-clause-within : goal.returns-in-Some-clause-within
returns-in-Some-clause-within c = rw (← c.self.view_is) (place_within _ c.args.name.now _ (place_there _ _ _ c.args.name.now c.in-Some.place c.index.result.now c.self.invariant.0 c.in-Some.ensures.place c.in-Some.ensures.within c.index.ensures))

pub returns-in-None-clause-value : goal.returns-in-None-clause-value
returns-in-None-clause-value c = rw (← c.self.view_is) (place_nowhere _ _ _ c.args.name.now c.self.invariant.0 c.in-None.ensures.place)
