use Rattle.std.proofs.lemmas.Int.{to_z-of_z}
use Rattle.std.specs.Int.{w32}
use Rattle.std.proofs.Common.{drop, sym}
use Rattle.vx_java.specs.Arrays.{at_index, may_store, value_kept}
use Rattle.vx_java.specs.Machine.{Go, past, raise, when, with_cell}
use Rattle.vx_plain.specs.Views.{state_of, value_of}
use Rattle.vx_plain_casts.proofs.Laws.{null_raises, object_goes}
use Rattle.vx_plain_here.proofs.Comes.{comes_as}
use Rattle.vx_plain_here.specs.Rows.{here_in}
use Rattle.vx_value.specs.Arithmetic.{natural}
use Rattle.vx_plain_arrays.proofs.storing.store_in.Goals as goal

pub returns-in-Some : goal.returns-in-Some
returns-in-Some c =
    let h = here_in c.args.here.now (state_of c.args.state.now) in
    comes_as c.store_within.result _ _ _ _ (object_goes h c.args.array _ (λ r. at_index h r c.args.index (when (may_store h c.args.element r (value_of c.args.value)) (Go (past h (with_cell h.state r (natural c.args.index) (value_kept c.args.element (value_of c.args.value))) (drop 3 h.state.top.operands))) (raise h "java/lang/ArrayStoreException"))) (sym c.in-Some.ensures)) (rw (to_z-of_z w32 c.args.index c.ranges.index) at c.store_within.ensures)

pub returns-in-None : goal.returns-in-None
returns-in-None c =
    let h = here_in c.args.here.now (state_of c.args.state.now) in
    comes_as c.raise.result _ _ _ _ (null_raises h c.args.array (λ r. at_index h r c.args.index (when (may_store h c.args.element r (value_of c.args.value)) (Go (past h (with_cell h.state r (natural c.args.index) (value_kept c.args.element (value_of c.args.value))) (drop 3 h.state.top.operands))) (raise h "java/lang/ArrayStoreException"))) (sym c.in-None.ensures)) c.raise.ensures
