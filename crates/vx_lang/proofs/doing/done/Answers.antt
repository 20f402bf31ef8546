use Rattle.std.proofs.Common.{◌≡◌, ◌∙◌, ap, sym}
use Rattle.std.proofs.lemmas.Result.{IfOk-weaker}
use Rattle.vx_natives.proofs.Keeping.{IsDone-same}
use Rattle.vx_natives.specs.Deeds.{deed_says, is_deed_held}
use Rattle.vx_natives.specs.Doing.{said_over}
use Rattle.vx_lang.proofs.Loops.{deed_held, deed_said}
use Rattle.vx_lang.proofs.doing.done.Goals as goal

pub carry-requires-clause-held : goal.carry-requires-clause-held
carry-requires-clause-held g c =
    let s0 = g.S.Space.sets c.args.space.now in
    record {
      held = λ d t.
          ap (is_deed_held s0 c.args.heap.now d) c.in_ok-effect.ensures
          ∙ deed_held c.args.program.now s0 c.args.heap.now d c.args.behaviour c.args.call c.requires.for_program (c.requires.runs.inside d t) (c.requires.call d t);
    }

pub returns-clause-done : goal.returns-clause-done
returns-clause-done g c =
    let s0 = g.S.Space.sets c.args.space.now in
    let heap = c.args.heap.now in
    let p = c.args.program.now in
    IfOk-weaker c.carry.result _ _
    (λ r done.
    IsDone-same p s0 _ heap c.carry.new.heap c.args.condition _ _ r
    (λ d t h rest. ap (λ deed. said_over p s0 heap (deed_says s0 heap deed) d h rest) c.in_ok-effect.ensures ∙ deed_said p s0 heap d c.args.behaviour c.args.call c.requires.for_program (c.requires.runs.inside d t) (c.requires.call d t) h rest)
    done)
    c.carry.ensures.done
