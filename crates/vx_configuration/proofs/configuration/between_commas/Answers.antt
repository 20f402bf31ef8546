use Rattle.std.proofs.Common.{◌≡◌, ◌-◌, take, take_all, drop, length, arith}
use Rattle.std.proofs.lemmas.List.{length-drop}
use Rattle.vx_configuration.proofs.Commas.{at_start, at_comma, at_byte, at_last}
use Rattle.vx_configuration.proofs.configuration.between_commas.Goals as goal
use Rattle.vx_configuration.proofs.configuration.between_commas.Goals.{then-word-i-eq44+in_ok-of+in_ok-push, else-word-i-eq44}

pub loop-i-init : goal.loop-i-init
loop-i-init c = rw c.new-names.ensures.items (at_start c.args.word.now)

pub loop-i-preserved : goal.loop-i-preserved
loop-i-preserved c =
    elim c.if-word-i-eq44.branch [
      | then-word-i-eq44+in_ok-of+in_ok-push w ↦ rw (w.names-is, w.start-is, w.in_ok-push.ensures.items, w.in_ok-of.ensures) (at_comma c.args.word.now c.loop-i.names.items c.loop-i.start c.loop-i.i c.loop-i-test.true w.if-word-i-eq44.true c.loop-i.invariant)
      | else-word-i-eq44 w ↦ rw (w.names-is, w.start-is) (at_byte c.args.word.now c.loop-i.names.items c.loop-i.start c.loop-i.i c.loop-i-test.true w.if-word-i-eq44.false c.loop-i.invariant)
    ]

pub returns : goal.returns
returns c =
    let rest : take (length c.args.word.now - c.loop-i.start) (drop c.loop-i.start c.args.word.now) ≡ drop c.loop-i.start c.args.word.now = take_all _ _ (omega (arith, length-drop c.loop-i.start c.args.word.now)) in
    rw (c.in_ok-push-2.ensures.items, c.in_ok-of-2.ensures, rest) (at_last c.args.word.now c.loop-i.names.items c.loop-i.start c.loop-i.i c.loop-i-test.false c.loop-i.invariant)
