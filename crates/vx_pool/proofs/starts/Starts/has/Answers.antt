use Rattle.std.proofs.Common.{◌∙◌, ◌<◌, ◌≤◌, length, false, arith}
use Rattle.std.proofs.lemmas.Bool.{le-ltb}
use Rattle.std.proofs.lemmas.List.{get_or_default}
use Rattle.vx_pool.proofs.Marks.{is_marked, past_marks}
use Rattle.vx_pool.proofs.starts.Starts.has.Goals as goal

pub returns-then-place-len : goal.returns-then-place-len
returns-then-place-len c =
    let marks = c.self.inside.marks.items in
    let within : c.args.place < length marks = omega (arith, c.len.ensures, c.if-place-len.true) in
    rw (← c.self.view_is)
    (c.index.ensures ∙ get_or_default marks c.args.place c.index.result.now false within ∙ is_marked marks c.self.inside.places c.args.place c.self.invariant)

pub returns-else-place-len : goal.returns-else-place-len
returns-else-place-len c =
    let marks = c.self.inside.marks.items in
    let past : length marks ≤ c.args.place = omega (arith, c.len.ensures, c.if-place-len.false) in
    rw (← c.self.view_is) (le-ltb c.args.place c.len.result c.if-place-len.false ∙ past_marks marks c.self.inside.places c.args.place c.self.invariant past)
