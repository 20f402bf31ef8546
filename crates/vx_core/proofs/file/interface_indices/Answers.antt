use Rattle.std.proofs.Common.{rules, []}
use Rattle.std.proofs.lemmas.List.Sums.{fold_more}
use Rattle.vx_core.specs.Rows.{with_interface}
use Rattle.vx_core.proofs.file.interface_indices.Goals as goal

pub loop-name-preserved : goal.loop-name-preserved
unfolding with_interface
loop-name-preserved c =
    rw (fold_more (λ before _. with_interface before) [] c.args.names.now c.loop-name._name-index (record { ref_ptr = (0, 0); now = [] }) (search rules))
    (rw (← c.loop-name.invariant) (search rules))
