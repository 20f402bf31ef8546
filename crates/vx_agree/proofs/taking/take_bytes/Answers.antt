use Rattle.std.proofs.Common.{arith}
use Rattle.std.proofs.lemmas.Result.{on_ok_weaker}
use Rattle.vx_agree.proofs.Equal.{common_from-within}
use Rattle.vx_agree.proofs.Taken.{HasTaken-none, HasTaken-piece, HasTaken-text}
use Rattle.vx_agree.proofs.taking.take_bytes.Goals as goal

pub place_behind-next-requires-clause-count : goal.place_behind-next-requires-clause-count
place_behind-next-requires-clause-count g c =
    let n = common_from-within c.args.front.now c.args.count c.args.piece.now c.args.byte in
    omega (arith, n.1, c.common_from-same.ensures)

pub returns-then-same-behind-clause-taken : goal.returns-then-same-behind-clause-taken
returns-then-same-behind-clause-taken g c =
    let all = rw (c.behind.ensures, c.bytes.ensures, c.common_from-same.ensures) at c.if-same-behind.true in
    on_ok_weaker c.put.result (λ h. HasTaken-text c.put.ensures.extends c.args.index c.args.piece.now c.args.byte c.args.front.now c.args.count c.args.condition _ _ c.args.new.now.items _ c.args.waiting.now.items c.requires.waiting all (rw c.common_from-same.ensures at c.place_behind-next.ensures) h) c.put.ensures.placed

pub returns-then-same-behind-2-clause-taken : goal.returns-then-same-behind-2-clause-taken
returns-then-same-behind-2-clause-taken g c =
    let some = rw (c.behind.ensures, c.bytes.ensures, c.common_from-same.ensures) at c.if-same-behind.false in
    let done = rw (c.behind-2.ensures, c.bytes-2.ensures, c.common_from-same.ensures) at c.if-same-behind-2.true in
    on_ok_weaker c.put-then-same-behind-2.result (λ h. HasTaken-piece c.put-then-same-behind-2.ensures.extends c.args.index c.args.piece.now c.args.byte c.args.front.now c.args.count c.args.condition c.args.new.now.items c.args.waiting.now.items _ c.requires.places some done (rw c.common_from-same.ensures at h)) c.put-then-same-behind-2.ensures.placed

pub returns-clause-taken : goal.returns-clause-taken
returns-clause-taken g c =
    let some = rw (c.behind.ensures, c.bytes.ensures, c.common_from-same.ensures) at c.if-same-behind.false in
    let more = rw (c.behind-2.ensures, c.bytes-2.ensures, c.common_from-same.ensures) at c.if-same-behind-2.false in
    HasTaken-none (g.S.Space.sets c.args.space.now) c.args.index c.args.piece.now c.args.byte c.args.front.now c.args.count c.args.condition c.args.new.now.items c.args.waiting.now.items c.requires.places c.requires.waiting some more
