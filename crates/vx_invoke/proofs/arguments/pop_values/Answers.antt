use Rattle.std.proofs.Common.{◌≡◌, arith, refl}
use Rattle.vx_invoke.proofs.Popping.{IsPopping-left, IsPopping-some, IsPopping-start, IsPopping-step, IsPopping-taken}
use Rattle.vx_invoke.proofs.arguments.pop_values.Goals as goal

pub loop-value-init : goal.loop-value-init
loop-value-init g c = rw c.new-values.ensures.items (IsPopping-start c.args.stack.now)

pub unreachable-requires : goal.unreachable-requires
unreachable-requires g c = IsPopping-some c.args.stack.now c.loop-value.stack c.loop-value.values.items c.loop-value._value c.args.count c.loop-value.invariant c.requires c.loop-value-test.true (c.in_default.ensures.none.0 refl)

pub loop-value-preserved : goal.loop-value-preserved
loop-value-preserved g c = rw c.in_ok-push.ensures.items (IsPopping-step c.args.stack.now c.loop-value.stack _ c.loop-value.values.items c.loop-value._value c.in-Some.value c.loop-value.invariant c.in-Some.ensures.some)

pub returns-clause-left : goal.returns-clause-left
returns-clause-left g c =
    let all : c.loop-value._value ≡ c.args.count = omega (arith, c.loop-value-test.false, c.loop-value.auto._value-end) in
    IsPopping-left c.args.stack.now c.loop-value.stack c.loop-value.values.items c.loop-value._value c.args.count c.loop-value.invariant c.requires all

pub returns-clause-values : goal.returns-clause-values
returns-clause-values g c =
    let all : c.loop-value._value ≡ c.args.count = omega (arith, c.loop-value-test.false, c.loop-value.auto._value-end) in
    rw c.reverse.ensures.items (IsPopping-taken c.args.stack.now c.loop-value.stack c.loop-value.values.items c.loop-value._value c.args.count c.loop-value.invariant c.requires all)
