use Rattle.vx_gen.proofs.Same.{alone, filed, is_stepping}
use Rattle.vx_gen.proofs.classes.stepping_file.Goals as goal

pub returns : goal.returns
returns c = λ text items first second.
    filed c.file_of.ensures c.in_ok-pool.ensures (alone c.in_ok-push.ensures.items c.new-interfaces.ensures.items) c.new.ensures.items c.in_ok-methods.ensures
    (is_stepping c.args.name.now c.args.code.now text items first second)
