use Rattle.std.proofs.Common.{◌≡◌, arith, length}
use Rattle.std.proofs.lemmas.Result.{IfOk-weaker}
use Rattle.vx_group.proofs.GroupLaws.{IsGroup-path_known, IsGroupIn-group}
use Rattle.vx_ready.proofs.Splitting.{none-gives}
use Rattle.vx_returns.proofs.LeaveLaws.{first-leaves}
use Rattle.vx_returns.specs.Handing.{left_by}
use Rattle.vx_returns.proofs.leaving.leave.Goals as goal

pub is_never-requires : goal.is_never-requires
is_never-requires g c = rw c.path.ensures (IsGroup-path_known _ c.args.group (IsGroupIn-group _ _ c.args.group c.requires.group))

pub returns-then-is_never-clause-gives : goal.returns-then-is_never-clause-gives
returns-then-is_never-clause-gives g c = λ heap h s. none-gives c.args.site.now.program.now (g.met.S.Space.lawful c.args.space.now) (left_by c.args.site.now c.args.returns) c.args.group c.path.result c.new.result.items.items c.path.ensures (c.is_never.ensures.0 c.if-is_never.true) c.new.ensures heap c.args.callers.now h s

pub returns-then-depth-eq1-clause-gives : goal.returns-then-depth-eq1-clause-gives
returns-then-depth-eq1-clause-gives g c =
    let none : length c.args.group.below ≡ 0 = omega (arith, c.depth.ensures) in
    λ heap h s. first-leaves c.args.site.now c.args.returns _ c.args.callers.now c.args.group _ none (c.in_ok-ended.ensures c.args.site.now.program.now _) heap h s

pub to_caller-requires-clause-kind : goal.to_caller-requires-clause-kind
to_caller-requires-clause-kind g c = rw c.top_frame.ensures at c.in-Call.is

pub to_caller-requires-clause-called : goal.to_caller-requires-clause-called
to_caller-requires-clause-called g c = omega (arith, c.depth.ensures)

pub returns-in-Wait : goal.returns-in-Wait
returns-in-Wait g c = record {
  extends = c.to_waiting.ensures.extends;
  callers = c.to_waiting.ensures.callers;
  gives = IfOk-weaker c.to_waiting.result _ _ (λ r h heap. h c.args.site.now c.args.returns heap) c.to_waiting.ensures.gives;
}
