use Rattle.std.proofs.lemmas.Result.{on_ok_weaker}
use Rattle.vx_space.proofs.Spaces.{Extends-trans}
use Rattle.vx_agree.proofs.Places.{places-extends}
use Rattle.vx_agree.proofs.Taken.{Takes-of}
use Rattle.vx_agree.proofs.taking.take_part.Goals as goal

pub take_bytes-requires-clause-places : goal.take_bytes-requires-clause-places
take_bytes-requires-clause-places g c = places-extends (Extends-trans c.in_ok-inside.ensures.extends c.in_ok-outside.ensures.extends) c.args.new.now.items c.requires.places

pub take_bytes-requires-clause-waiting : goal.take_bytes-requires-clause-waiting
take_bytes-requires-clause-waiting g c = places-extends (Extends-trans c.in_ok-inside.ensures.extends c.in_ok-outside.ensures.extends) c.args.waiting.now.items c.requires.waiting

pub returns-clause-takes : goal.returns-clause-takes
returns-clause-takes g c =
    on_ok_weaker c.put.result (λ h. Takes-of c.in_ok-inside.ensures.extends c.in_ok-outside.ensures.extends c.in_ok-take_bytes.ensures.extends c.put.ensures.extends c.args.index c.args.piece.now c.args.set c.args.byte c.args.front.now c.args.entry c.in_ok-inside.inside c.in_ok-outside.outside c.args.new.now.items _ c.args.waiting.now.items _ _ c.requires.entry c.requires.set c.requires.places c.requires.waiting c.in_ok-inside.ensures.ok c.in_ok-outside.ensures.ok c.in_ok-take_bytes.ensures.taken h) c.put.ensures.placed
