use Rattle.std.proofs.Common.{None, Some, ap, arith, refl, sym, ◌∙◌, ◌≡◌}
use Rattle.vx_verify.proofs.Joints.{goes_itself, same_states}
use Rattle.vx_verify.proofs.Known.{item_read}
use Rattle.vx_verify.proofs.Sweeps.{known_done, unmarked_goes}
use Rattle.vx_verify.specs.Inference.{state_of}
use Rattle.vx_verify.proofs.inference.Inference.unmark.Goals as goal

pub returns-in_default : goal.returns-in_default
returns-in_default c = goes_itself c.args.subject.now c.args.self.now c.requires.subject c.requires.inference

pub returns-then-not-is_same : goal.returns-then-not-is_same
returns-then-not-is_same c = goes_itself c.args.subject.now c.args.self.now c.requires.subject c.requires.inference

pub returns : goal.returns
returns c =
    let i = c.args.self.now in
    let here : state_of i c.args.at ≡ Some c.args.before =
    sym (item_read i.states.items c.args.at c.index.result.now None (omega (arith, c.requires.position, c.requires.inference.states)) c.index.ensures)
    ∙ c.in-Some.is
    ∙ ap Some (same_states c.in-Some.now c.args.before c.is_same.result c.is_same.ensures c.if-not-is_same.false) in
    unmarked_goes c.args.subject.now i _ c.args.at c.requires.subject c.requires.inference refl refl refl c.remove.ensures.updates (known_done c.args.subject.now i c.args.at c.args.before here (c.requires.closed here))
