use Rattle.std.proofs.lemmas.Result.{on_ok_weaker}
use Rattle.vx_space.proofs.Spaces.{Extends-trans}
use Rattle.vx_agree.proofs.Moved.{IsMoved-of}
use Rattle.vx_agree.proofs.Places.{places-extends}
use Rattle.vx_bdd_tools.proofs.ListedSets.{AreSetsOf-extends}
use Rattle.vx_agree.proofs.moving.move_parts.Goals as goal

pub take_text-requires-clause-sets : goal.take_text-requires-clause-sets
take_text-requires-clause-sets g c = AreSetsOf-extends (Extends-trans c.in_ok-inside.ensures.extends c.in_ok-outside.ensures.extends) _ _ c.requires.sets

pub take_text-requires-clause-places : goal.take_text-requires-clause-places
take_text-requires-clause-places g c = places-extends (Extends-trans c.in_ok-inside.ensures.extends c.in_ok-outside.ensures.extends) c.args.new.now.items c.requires.places

pub put_slid-requires-clause-sets : goal.put_slid-requires-clause-sets
put_slid-requires-clause-sets g c = AreSetsOf-extends (Extends-trans c.in_ok-inside.ensures.extends (Extends-trans c.in_ok-outside.ensures.extends c.in_ok-take_text.ensures.extends)) _ _ c.requires.sets

pub returns-clause-extends : goal.returns-clause-extends
returns-clause-extends g c = Extends-trans c.in_ok-inside.ensures.extends (Extends-trans c.in_ok-outside.ensures.extends (Extends-trans c.in_ok-take_text.ensures.extends c.put_slid.ensures.extends))

pub returns-clause-moved : goal.returns-clause-moved
returns-clause-moved g c =
    on_ok_weaker c.put_slid.result (λ h. IsMoved-of c.in_ok-inside.ensures.extends c.in_ok-outside.ensures.extends c.in_ok-take_text.ensures.extends c.put_slid.ensures.extends c.args.other.now c.args.entry c.args.front.now c.args.set c.in_ok-inside.inside c.in_ok-outside.outside c.args.new.now.items _ _ c.requires.entry c.requires.set c.requires.places c.in_ok-inside.ensures.ok c.in_ok-outside.ensures.ok c.in_ok-take_text.ensures.taken h) c.put_slid.ensures.put
