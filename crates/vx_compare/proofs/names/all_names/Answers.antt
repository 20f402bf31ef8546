use Rattle.std.proofs.Common.{[], ◌∙◌, sym, append-nil}
use Rattle.vx_compare.specs.Names.{is_new}
use Rattle.vx_compare.proofs.Turns.{kept_more}
use Rattle.vx_compare.proofs.names.all_names.Goals as goal

pub loop-name-init : goal.loop-name-init
loop-name-init c = c.in_ok-names.ensures ∙ sym (append-nil c.args.one.now)

pub loop-name-preserved : goal.loop-name-preserved
loop-name-preserved c = kept_more (is_new c.args.one.now) c.args.one.now c.args.other.now c.loop-name.names.items _ c.loop-name.name-index c.name-item.result c.loop-name-test.true c.name-item.is c.loop-name.invariant c.in_ok-push_new.ensures
