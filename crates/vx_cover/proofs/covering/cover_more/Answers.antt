use Rattle.std.proofs.Common.{refl}
use Rattle.vx_cover.proofs.Blocked.{AreBlocks-extends}
use Rattle.vx_cover.proofs.Takings.{IsOneMore-of}
use Rattle.vx_cover.proofs.covering.cover_more.Goals as goal

pub take_line-requires-clause-ends : goal.take_line-requires-clause-ends
take_line-requires-clause-ends g c = AreBlocks-extends c.in_ok-configuration.ensures.extends _ c.requires.ends

pub take_line-requires-clause-pieces : goal.take_line-requires-clause-pieces
take_line-requires-clause-pieces g c = AreBlocks-extends c.in_ok-configuration.ensures.extends _ c.requires.pieces

pub returns-clause-more : goal.returns-clause-more
returns-clause-more g c =
    IsOneMore-of c.in_ok-configuration.ensures.extends c.args.first c.in_ok-configuration.configuration c.in_ok-line.line c.args.covering.now c.take_line.new.covering _ c.requires.ends c.requires.pieces
    c.in_ok-configuration.ensures.member c.in_ok-line.ensures.line refl refl c.in_ok-push.ensures.items
