use Rattle.std.proofs.lemmas.Result.{on_ok_weaker}
use Rattle.vx_agree.proofs.Moved.{IsMoved-later, IsMoved-together}
use Rattle.vx_agree.proofs.Places.{places-extends}
use Rattle.vx_bdd_tools.proofs.ListedSets.{AreSetsOf-extends}
use Rattle.vx_agree.proofs.moving.move_entry.Goals as goal

pub put-requires-clause-places : goal.put-requires-clause-places
put-requires-clause-places g c = places-extends c.gone_along.ensures.extends _ c.requires.places

pub move_parts-requires-clause-places : goal.move_parts-requires-clause-places
move_parts-requires-clause-places g c = places-extends c.gone_along.ensures.extends _ c.requires.places

pub returns-in-Some-clause-moved : goal.returns-in-Some-clause-moved
returns-in-Some-clause-moved g c = on_ok_weaker c.put.result (λ h. IsMoved-together c.gone_along.ensures.extends c.args.other.now c.args.entry c.args.front.now c.args.set c.in-Some.piece c.in-Some.byte c.args.new.now.items _ c.requires.entry c.requires.places (rw c.in-Some.is at c.in_ok-piece.ensures.along) h) c.put.ensures.placed

pub returns-in-None-clause-moved : goal.returns-in-None-clause-moved
returns-in-None-clause-moved g c = on_ok_weaker c.move_parts.result (λ h. IsMoved-later c.gone_along.ensures.extends c.args.other.now c.args.entry c.args.front.now c.args.set c.args.new.now.items _ c.requires.entry c.requires.set c.requires.places h) c.move_parts.ensures.moved

pub move_parts-requires-clause-sets : goal.move_parts-requires-clause-sets
move_parts-requires-clause-sets g c = AreSetsOf-extends c.gone_along.ensures.extends _ _ c.requires.sets
