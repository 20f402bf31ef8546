use Rattle.vx_check.proofs.Names.{lawful_names}
use Rattle.vx_check.proofs.expected.read_expected.Goals as goal

pub expected_of-requires : goal.expected_of-requires
expected_of-requires c = rw c.as_slice.ensures (lawful_names c.args.report.now c.requires)

pub returns-clause-exact : goal.returns-clause-exact
returns-clause-exact c = rw c.as_slice.ensures at c.expected_of.ensures.exact

pub returns-clause-of : goal.returns-clause-of
returns-clause-of c = rw c.as_slice.ensures at c.expected_of.ensures.of
