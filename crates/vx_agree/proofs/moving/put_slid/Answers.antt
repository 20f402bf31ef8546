use Rattle.std.proofs.lemmas.Result.{on_ok_weaker}
use Rattle.vx_space.proofs.Spaces.{Extends-trans}
use Rattle.vx_agree.proofs.Moved.{IsSlid-of}
use Rattle.vx_agree.proofs.Places.{places-extends}
use Rattle.vx_bdd_tools.proofs.ListedSets.{AreSetsOf-extends}
use Rattle.vx_agree.proofs.moving.put_slid.Goals as goal

pub put-requires-clause-places : goal.put-requires-clause-places
put-requires-clause-places g c = places-extends (Extends-trans c.in_ok-here.ensures.extends c.in_ok-beyond.ensures.extends) c.args.new.now.items c.requires.places

pub slid-requires-clause-sets : goal.slid-requires-clause-sets
slid-requires-clause-sets g c = AreSetsOf-extends (Extends-trans c.in_ok-here.ensures.extends (Extends-trans c.in_ok-beyond.ensures.extends c.in_ok-put.ensures.extends)) _ _ c.requires.sets

pub put-requires-2-clause-places : goal.put-requires-2-clause-places
put-requires-2-clause-places g c = places-extends c.in_ok-later.ensures.extends _ c.in_ok-put.ensures.placed.known

pub returns-clause-extends : goal.returns-clause-extends
returns-clause-extends g c = Extends-trans c.in_ok-here.ensures.extends (Extends-trans c.in_ok-beyond.ensures.extends (Extends-trans c.in_ok-put.ensures.extends (Extends-trans c.in_ok-later.ensures.extends c.put-2.ensures.extends)))

pub returns-clause-put : goal.returns-clause-put
returns-clause-put g c =
    on_ok_weaker c.put-2.result (λ h. IsSlid-of c.in_ok-here.ensures.extends c.in_ok-beyond.ensures.extends c.in_ok-put.ensures.extends c.in_ok-later.ensures.extends c.put-2.ensures.extends c.args.other.now c.args.piece c.args.byte c.args.condition c.writers-there.result c.in_ok-here.here c.in_ok-beyond.beyond _ _ c.args.new.now.items _ _ c.requires.known c.writers-there.ensures c.requires.places c.in_ok-here.ensures.ok c.in_ok-beyond.ensures.ok c.in_ok-put.ensures.placed c.in_ok-later.ensures.same h) c.put-2.ensures.placed
