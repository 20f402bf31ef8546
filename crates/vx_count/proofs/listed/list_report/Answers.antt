use Rattle.vx_space.proofs.Spaces.{Extends-trans}
use Rattle.vx_count.proofs.Titled.{listed_is}
use Rattle.vx_count.proofs.listed.list_report.Goals as goal

pub returns-clause-listed : goal.returns-clause-listed
returns-clause-listed g c = listed_is c.args.report.now c.args.n c.in_ok-set.set c.in_ok-listed_in.field-0 c.requires.options (Extends-trans c.in_ok-sets.ensures.extends c.in_ok-set.ensures.extends) c.in_ok-set.ensures.ended c.in_ok-listed_in.ensures.of c.in_ok-listed_in.ensures.configurations
