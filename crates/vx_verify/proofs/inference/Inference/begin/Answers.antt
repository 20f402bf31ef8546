use Rattle.std.proofs.Common.{List, None, Option, Some, ap, ◌∙◌}
use Rattle.std.specs.Prelude.{replicate, slice_set}
use Rattle.vx_verify.proofs.Reached.{caught_kept}
use Rattle.vx_verify.proofs.Sweeps.{beginning, start_is}
use Rattle.vx_verify.specs.declared.rows.State.{State}
use Rattle.vx_verify.proofs.inference.Inference.begin.Goals as goal

pub returns : goal.returns
returns c =
    let s = c.args.subject.now in
    let caught = c.in_ok-caught.ensures in
    let start = c.in_ok-start.ensures in
    beginning s _ c.in_ok-start.start c.args.self.now.marked c.requires.subject start.later.store
    (ap (λ (xs : List (Option State)). slice_set xs 0 (Some c.in_ok-start.start)) (c.in_ok-states.ensures ∙ ap (λ n. replicate n None) c.len.ensures))
    c.requires.marked c.in_ok-insert.ensures.updates
    (caught_kept s.program.now s.method.0 c.caught_by_rows.new.store c.start_state.new.store caught.later.store start.later s.code.now.catches c.in_ok-caught.caught.items
    (rw c.as_slice-rows.ensures at caught.these))
    start.stands (start_is s _ c.requires.subject start.is)
