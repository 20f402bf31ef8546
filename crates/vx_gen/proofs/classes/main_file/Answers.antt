use Rattle.std.proofs.Common.{length, refl, ◌*◌, ◌+◌}
use Rattle.vx_gen.proofs.Same.{filed, is_main}
use Rattle.vx_gen.proofs.classes.main_file.Goals as goal

pub returns : goal.returns
returns c = λ texts are.
    filed c.file_of.ensures c.in_ok-pool.ensures c.new.ensures.items c.in_ok-fields.ensures c.in_ok-methods.ensures
    (is_main (7 + 2 * length c.args.names.now) c.args.seed c.args.names.now refl texts are)
