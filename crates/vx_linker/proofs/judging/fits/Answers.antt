use Rattle.std.proofs.Common.{◌++◌}
use Rattle.vx_link.specs.Faults.{super_fits, interfaces_fit, super_name}
use Rattle.vx_linker.proofs.Judged.{and_true}
use Rattle.vx_linker.proofs.judging.fits.Goals as goal

pub returns-then-super_fits : goal.returns-then-super_fits
returns-then-super_fits c =
    let all = c.args.files.now.classes.items ++ c.args.files.now.core.items in
    and_true (super_fits all c.args.class.now (super_name c.args.class.now)) (interfaces_fit all c.args.class.now) c.super_fits.result c.interfaces_fit.result c.super_fits.ensures c.if-super_fits.true c.interfaces_fit.ensures
