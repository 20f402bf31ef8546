use Rattle.std.proofs.Common.{◌≡◌, ap, arith, length}
use Rattle.vx_frame.specs.Frame.{Shape}
use Rattle.vx_container_trials.proofs.frames.started.Goals as goal

pub part-requires : goal.part-requires
part-requires g c = let e : length c.in_ok-frame.frame.stack.conds ≡ 0 = ap (λ (q : Shape). q.part.depth) c.in_ok-frame.ensures.shape in omega arith
