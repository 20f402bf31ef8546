use Rattle.std.proofs.Common.{ap, drop, map, ◌∙◌}
use Rattle.vx_java.specs.Machine.{push_new}
use Rattle.vx_java.specs.Texts.{text_of_object}
use Rattle.vx_plain.specs.Views.{state_of}
use Rattle.vx_plain_here.proofs.Comes.{comes_as}
use Rattle.vx_plain_here.specs.Rows.{here_in}
use Rattle.vx_plain_strings.proofs.Readings.{chars_made}
use Rattle.vx_plain_strings.specs.Texts.{char_value}
use Rattle.vx_plain_strings.proofs.strings.push_chars.Goals as goal

pub returns : goal.returns
returns c =
    let s = state_of c.args.state.now in
    let call = c.args.call.now in
    let h = here_in call.here.now s in
    let made = c.in_ok-cells.ensures ∙ ap (map char_value) c.text.ensures in
    comes_as c.answer_new.result _ _ _ _
    (ap (λ o. push_new h o (drop call.taken s.top.operands)) (c.array-array.ensures ∙ chars_made h _ _ (text_of_object h c.args.object) c.array_of_primitives.ensures made))
    c.answer_new.ensures
