use Rattle.std.proofs.Common.{refl, slice_set, sym}
use Rattle.std.proofs.lemmas.Int.{to_z-of_z}
use Rattle.std.specs.Int.{w32}
use Rattle.vx_plain.specs.Views.{state_of, value_of}
use Rattle.vx_plain_here.proofs.Comes.{comes_as, comes_from}
use Rattle.vx_plain_here.specs.Rows.{here_in}
use Rattle.vx_java.specs.Locals.{with_locals}
use Rattle.vx_plain_words.proofs.LocalLaws.{increase_other, increase_there}
use Rattle.vx_plain_words.proofs.locals.increase.Goals as goal

pub returns-in-Some : goal.returns-in-Some
returns-in-Some c =
    let s = state_of c.args.state.now in
    let comes = rw c.set_local.ensures at c.go.ensures in
    comes_as c.go.result _ _ _ _ (increase_there (here_in c.args.here.now s) c.args.place c.args.by c.local.result c.in-Some.sum _ c.local.ensures (sym (rw (to_z-of_z w32 c.args.by c.ranges.by) at c.in-Some.ensures)))
    (comes_from c.go.result _ s (with_locals s (slice_set s.top.locals c.args.place (value_of c.in-Some.sum))) _ refl comes)

pub returns-in-None : goal.returns-in-None
returns-in-None c = comes_as c.illegal.result _ _ _ _ (increase_other (here_in c.args.here.now (state_of c.args.state.now)) c.args.place c.args.by c.local.result _ c.local.ensures (sym (rw (to_z-of_z w32 c.args.by c.ranges.by) at c.in-None.ensures))) c.illegal.ensures
