use Rattle.std.proofs.Common.{ap, subst, sym, ◌∙◌}
use Rattle.vx_java.specs.Throwing.{unwind}
use Rattle.vx_plain.specs.Views.{state_of}
use Rattle.vx_plain_throw.specs.Passing.{IsHandled}
use Rattle.vx_plain_throw.proofs.Laws.{none_handles, one_fewer, passes_on, still_handled}
use Rattle.vx_plain_throw.proofs.unwinding.pass_top.Goals as goal

pub unreachable-requires : goal.unreachable-requires
unreachable-requires c = none_handles c.args.program.now (state_of c.args.state.now) (state_of c.pass.new.state) c.args.object c.requires.unhandled c.in_ok-thrown.ensures.state c.in_default.ensures.0 c.requires.handled

pub returns : goal.returns
returns c =
    let p = c.args.program.now in
    let s = state_of c.args.state.now in
    let next = state_of c.leave.new.self in
    let left = sym c.in_ok-thrown.ensures.state ∙ c.in-Some.ensures in
    record {
      same = passes_on p s c.args.object next _ c.requires.unhandled left ∙ ap (λ r. unwind p next r next.callers) (sym c.in_ok-thrown.ensures.object);
      handled = subst (IsHandled p next) (sym c.in_ok-thrown.ensures.object) (still_handled p s c.args.object next _ c.requires.unhandled left c.requires.handled);
      fewer = one_fewer p s c.args.object next _ left;
    }
