-- The number of attributes and the one attribute.
use Rattle.vx_writer.proofs.One.{one_written}
use Rattle.vx_writer.specs.Written.{code_attribute}
use Rattle.vx_writer.proofs.members.put_one_code.Goals as goal

pub returns-clause-ok : goal.returns-clause-ok
returns-clause-ok c =
    one_written c.or_cut_back.result _ _ _ _ _ (code_attribute c.args.pool.now c.args.code.now) c.or_cut_back.ensures.same c.or_cut_back.ensures.ok c.in_ok-put_count.ensures.ok c.put_code.ensures.ok
