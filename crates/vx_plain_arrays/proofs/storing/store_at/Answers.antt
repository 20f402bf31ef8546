use Rattle.std.proofs.lemmas.Int.{to_z-of_z}
use Rattle.std.specs.Int.{w32}
use Rattle.std.proofs.Common.{drop, sym}
use Rattle.vx_plain.specs.Views.{state_of, value_of}
use Rattle.vx_plain_arrays.proofs.Laws.{store_three, store_two}
use Rattle.vx_plain_here.proofs.Comes.{comes_as}
use Rattle.vx_plain_here.specs.Rows.{here_in}
use Rattle.vx_plain_arrays.proofs.storing.store_at.Goals as goal

pub returns-in-Some : goal.returns-in-Some
returns-in-Some c =
    let h = here_in c.args.here.now (state_of c.args.state.now) in
    comes_as c.store_of.result _ _ _ _ (store_three h c.args.element h.state.top.operands (value_of c.args.value) c.args.index (value_of c.in-Some.array) c.requires.value c.requires.index c.in-Some.ensures) (rw (to_z-of_z w32 c.args.index c.ranges.index) at c.store_of.ensures)

pub returns-in-None : goal.returns-in-None
returns-in-None c =
    let h = here_in c.args.here.now (state_of c.args.state.now) in
    comes_as c.illegal.result _ _ _ _ (store_two h c.args.element h.state.top.operands (value_of c.args.value) c.args.index c.requires.value c.requires.index c.in-None.ensures) c.illegal.ensures
