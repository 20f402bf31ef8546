use Rattle.vx_placing.proofs.placing.give_up.Goals as goal

pub finish-requires : goal.finish-requires
finish-requires g c = rw (c.attempts.ensures, c.path.ensures) c.requires

pub returns-clause-ended : goal.returns-clause-ended
returns-clause-ended g c = rw (c.attempts.ensures, c.path.ensures) at c.finish.ensures.ended
