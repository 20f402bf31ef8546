use Rattle.vx_starting.proofs.Beginning.{ended_by}
use Rattle.vx_starting.proofs.starting.first_end.Goals as goal

pub returns-in-Some-clause-over : goal.returns-in-Some-clause-over
returns-in-Some-clause-over c = ended_by c.args.program.now c.args.chain.now c.in-Some.interface c.in_ok-end.end c.requires.chain c.in-Some.ensures c.in_ok-end.ensures
