use Rattle.vx_starting.proofs.MainGroup.{main_group-made}
use Rattle.vx_starting.proofs.starting.main_group.Goals as goal

pub returns : goal.returns
returns g c =
    rw c.new-group.ensures
    (main_group-made c.args.program.now (g.S.Space.sets c.args.space.now) c.args.allowed c.args.heap.now c.first_words.result c.in_ok-frame.frame c.in_ok-attempts.attempts c.requires.for_program c.requires.runs c.first_words.ensures c.in_ok-frame.ensures.scope c.in_ok-frame.ensures.shape c.in_ok-frame.ensures.at c.in_ok-attempts.ensures.scope c.in_ok-attempts.ensures.ok)
