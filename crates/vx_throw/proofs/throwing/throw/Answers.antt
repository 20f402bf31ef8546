use Rattle.std.proofs.Common.{◌++◌, ◌∙◌, arith, refl, sym}
use Rattle.vx_space.proofs.Spaces.{Extends-trans}
use Rattle.vx_throw.proofs.Flying.{IsFlying-passed, IsFlying-start, IsLeft-called, IsLeft-done, IsLeft-ended, IsLeft-handled, both_placed}
use Rattle.vx_throw.proofs.HandledLaws.{left_known}
use Rattle.vx_throw.specs.Flights.{thrown_from, thrown_here}
use Rattle.vx_throw.proofs.throwing.throw.Goals as goal

pub loop-frame-init : goal.loop-frame-init
loop-frame-init g c = (refl, rw c.new-outcomes.ensures (IsFlying-start c.args.program.now _ c.args.heap.now c.args.callers.now (record { group = c.args.group; objects = c.args.thrown }) c.requires))

pub handled-requires : goal.handled-requires
handled-requires g c = (c.args.callers.now, c.loop-frame.invariant.1.falling.is_flight)

pub returns-in_err-left-clause-extends : goal.returns-in_err-left-clause-extends
returns-in_err-left-clause-extends g c = Extends-trans c.loop-frame.invariant.1.falling.extends c.handled.ensures.extends

pub is_never-requires : goal.is_never-requires
is_never-requires g c =
    let d = c.in_ok-left.ensures.handled in
    rw c.path.ensures (left_known c.args.program.now _ _ c.loop-frame.heap c.loop-frame.flight c.in_ok-left.left d.0 d.2)

pub returns-then-is_never-clause-extends : goal.returns-then-is_never-clause-extends
returns-then-is_never-clause-extends g c = Extends-trans c.loop-frame.invariant.1.falling.extends c.in_ok-left.ensures.extends

pub returns-then-is_never-clause-thrown : goal.returns-then-is_never-clause-thrown
returns-then-is_never-clause-thrown g c =
    let p = c.args.program.now in
    let d = c.in_ok-left.ensures.handled in
    let left = IsLeft-handled p c.args.heap.now c.loop-frame.heap c.args.callers.now c.args.group (thrown_here p (g.S.Space.sets c.args.space.now) c.args.heap.now c.args.callers.now (record { group = c.args.group; objects = c.args.thrown })) c.loop-frame._frame c.loop-frame.flight c.in_ok-left.left c.loop-frame.outcomes.items.items d.0 c.loop-frame.invariant.1 c.in_ok-left.ensures.extends d.2 in
    rw (c.loop-frame.invariant.0, d.1) (IsLeft-done p (λ d s. thrown_from p (g.S.Space.sets c.args.space.now) c.args.thrown c.args.heap.now d s) c.args.heap.now c.loop-frame.heap c.args.callers.now c.args.group c.loop-frame._frame c.in_ok-left.left (c.loop-frame.outcomes.items.items ++ d.0) left (g.met.S.Space.lawful c.handled.new.space) (sym c.path.ensures ∙ c.is_never.ensures.0 c.if-is_never.true))

pub returns-then-is_never-clause-placed : goal.returns-then-is_never-clause-placed
returns-then-is_never-clause-placed g c =
    let d = c.in_ok-left.ensures.handled in
    rw d.1 (both_placed c.loop-frame.outcomes.items.items d.0 c.loop-frame.invariant.1.placed d.2.placed)

pub passed-requires-clause-flight : goal.passed-requires-clause-flight
passed-requires-clause-flight g c =
    let p = c.args.program.now in
    let d = c.in_ok-left.ensures.handled in
    let left = IsLeft-handled p c.args.heap.now c.loop-frame.heap c.args.callers.now c.args.group (thrown_here p (g.S.Space.sets c.args.space.now) c.args.heap.now c.args.callers.now (record { group = c.args.group; objects = c.args.thrown })) c.loop-frame._frame c.loop-frame.flight c.in_ok-left.left c.loop-frame.outcomes.items.items d.0 c.loop-frame.invariant.1 c.in_ok-left.ensures.extends d.2 in
    rw c.loop-frame.invariant.0 left.flying.falling.is_flight

pub passed-requires-clause-called : goal.passed-requires-clause-called
passed-requires-clause-called g c =
    let p = c.args.program.now in
    let d = c.in_ok-left.ensures.handled in
    let left = IsLeft-handled p c.args.heap.now c.loop-frame.heap c.args.callers.now c.args.group (thrown_here p (g.S.Space.sets c.args.space.now) c.args.heap.now c.args.callers.now (record { group = c.args.group; objects = c.args.thrown })) c.loop-frame._frame c.loop-frame.flight c.in_ok-left.left c.loop-frame.outcomes.items.items d.0 c.loop-frame.invariant.1 c.in_ok-left.ensures.extends d.2 in
    IsLeft-called p _ _ c.args.heap.now c.loop-frame.heap c.args.callers.now c.args.group _ c.loop-frame._frame c.in_ok-left.left _ left (omega (arith, c.loop-frame-test.true, c.depth-depth.ensures))

pub returns-in_err-flight-clause-extends : goal.returns-in_err-flight-clause-extends
returns-in_err-flight-clause-extends g c = Extends-trans (Extends-trans c.loop-frame.invariant.1.falling.extends c.in_ok-left.ensures.extends) c.passed.ensures.extends

pub loop-frame-preserved : goal.loop-frame-preserved
loop-frame-preserved g c =
    let p = c.args.program.now in
    let d = c.in_ok-left.ensures.handled in
    let left = IsLeft-handled p c.args.heap.now c.loop-frame.heap c.args.callers.now c.args.group (thrown_here p (g.S.Space.sets c.args.space.now) c.args.heap.now c.args.callers.now (record { group = c.args.group; objects = c.args.thrown })) c.loop-frame._frame c.loop-frame.flight c.in_ok-left.left c.loop-frame.outcomes.items.items d.0 c.loop-frame.invariant.1 c.in_ok-left.ensures.extends d.2 in
    let passed = rw c.loop-frame.invariant.0 at c.in_ok-flight.ensures.passed in (
      c.in_ok-flight.ensures.callers ∙ c.loop-frame.invariant.0,
      rw d.1 (IsFlying-passed p c.args.heap.now c.loop-frame.heap c.passed.new.heap c.args.callers.now c.args.group _ c.loop-frame._frame c.in_ok-left.left c.in_ok-flight.flight _ left c.in_ok-flight.ensures.extends passed),
    )

pub handled-requires-2 : goal.handled-requires-2
handled-requires-2 g c = (c.args.callers.now, c.loop-frame.invariant.1.falling.is_flight)

pub returns-in_err-left-2-clause-extends : goal.returns-in_err-left-2-clause-extends
returns-in_err-left-2-clause-extends g c = Extends-trans c.loop-frame.invariant.1.falling.extends c.handled-2.ensures.extends

pub ended-requires : goal.ended-requires
ended-requires g c =
    let p = c.args.program.now in
    let d = c.in_ok-left-2.ensures.handled in
    let left = IsLeft-handled p c.args.heap.now c.loop-frame.heap c.args.callers.now c.args.group (thrown_here p (g.S.Space.sets c.args.space.now) c.args.heap.now c.args.callers.now (record { group = c.args.group; objects = c.args.thrown })) c.loop-frame._frame c.loop-frame.flight c.in_ok-left-2.left c.loop-frame.outcomes.items.items d.0 c.loop-frame.invariant.1 c.in_ok-left-2.ensures.extends d.2 in
    (c.args.callers.now, left.flying.falling.is_flight)

pub returns-in_err-ended-clause-extends : goal.returns-in_err-ended-clause-extends
returns-in_err-ended-clause-extends g c = Extends-trans (Extends-trans c.loop-frame.invariant.1.falling.extends c.in_ok-left-2.ensures.extends) c.ended.ensures.extends

pub returns-in_err-append-clause-extends : goal.returns-in_err-append-clause-extends
returns-in_err-append-clause-extends g c = Extends-trans (Extends-trans c.loop-frame.invariant.1.falling.extends c.in_ok-left-2.ensures.extends) c.in_ok-ended.ensures.extends

pub returns-clause-extends : goal.returns-clause-extends
returns-clause-extends g c = Extends-trans (Extends-trans c.loop-frame.invariant.1.falling.extends c.in_ok-left-2.ensures.extends) c.in_ok-ended.ensures.extends

pub returns-clause-thrown : goal.returns-clause-thrown
returns-clause-thrown g c =
    let p = c.args.program.now in
    let d = c.in_ok-left-2.ensures.handled in
    let left = IsLeft-handled p c.args.heap.now c.loop-frame.heap c.args.callers.now c.args.group (thrown_here p (g.S.Space.sets c.args.space.now) c.args.heap.now c.args.callers.now (record { group = c.args.group; objects = c.args.thrown })) c.loop-frame._frame c.loop-frame.flight c.in_ok-left-2.left c.loop-frame.outcomes.items.items d.0 c.loop-frame.invariant.1 c.in_ok-left-2.ensures.extends d.2 in
    rw (c.loop-frame.invariant.0, c.in_ok-append.ensures.ok, d.1) (IsLeft-ended p (λ d s. thrown_from p (g.S.Space.sets c.args.space.now) c.args.thrown c.args.heap.now d s) c.args.heap.now c.loop-frame.heap c.args.callers.now c.args.group c.loop-frame._frame c.in_ok-left-2.left (c.loop-frame.outcomes.items.items ++ d.0) left c.ended.new.heap c.in_ok-ended.ended.items.items (omega (arith, c.loop-frame-test.false, c.loop-frame.auto._frame-end, c.depth-depth.ensures)) c.in_ok-ended.ensures.extends c.in_ok-ended.ensures.ended)

pub returns-clause-placed : goal.returns-clause-placed
returns-clause-placed g c =
    let d = c.in_ok-left-2.ensures.handled in
    rw (c.in_ok-append.ensures.ok, d.1) (both_placed (c.loop-frame.outcomes.items.items ++ d.0) c.in_ok-ended.ended.items.items (both_placed c.loop-frame.outcomes.items.items d.0 c.loop-frame.invariant.1.placed d.2.placed) c.in_ok-ended.ensures.placed)
