use Rattle.std.proofs.Common.{List, ap, arith, get_or, length, ◌<◌}
use Rattle.vx_class.specs.declared.class_file.Catch.{Catch}
use Rattle.vx_verify.proofs.Reached.{no_row}
use Rattle.vx_verify.proofs.Steps.{caught_there, handling_caught, handling_end, handling_forced, handling_skip, handling_start, handling_step}
use Rattle.vx_verify.proofs.StoreLaws.{stands_kept}
use Rattle.vx_verify.proofs.inference.Inference.handle_rows.Goals as goal

pub loop-place-init : goal.loop-place-init
loop-place-init c = handling_start c.args.subject.now c.args.self.now c.args.at c.args.before c.requires.subject c.requires.inference

pub index-operands-requires : goal.index-operands-requires
index-operands-requires c =
    let there : c.loop-place.place < length c.loop-place.self.caught.items =
    caught_there c.args.subject.now c.loop-place.self c.loop-place.place c.loop-place.invariant.goes.inference (rw c.as_slice-rows.ensures at c.loop-place-test.true) in
    omega (arith, there)

pub reach_handler-requires-clause-inference : goal.reach_handler-requires-clause-inference
reach_handler-requires-clause-inference c = c.loop-place.invariant.goes.inference

pub reach_handler-requires-clause-stands : goal.reach_handler-requires-clause-stands
reach_handler-requires-clause-stands c =
    stands_kept c.args.self.now.store c.loop-place.self.store c.args.subject.now.frame c.args.before c.loop-place.invariant.goes.later c.requires.stands

pub reach_handler-requires-clause-caught : goal.reach_handler-requires-clause-caught
reach_handler-requires-clause-caught c =
    handling_caught c.args.subject.now c.args.self.now c.loop-place.self c.args.at c.loop-place.place c.args.before (get_or c.as_slice-rows.result.now c.loop-place.place no_row) no_row
    c.index-operands.result.now (rw c.as_slice-rows.ensures at c.loop-place-test.true) (ap (λ (rs : List Catch). get_or rs c.loop-place.place no_row) c.as_slice-rows.ensures)
    c.loop-place.invariant c.index-operands.ensures

pub reach_handler-requires-clause-forced : goal.reach_handler-requires-clause-forced
reach_handler-requires-clause-forced c =
    handling_forced c.args.subject.now c.args.self.now c.loop-place.self c.args.at c.loop-place.place c.args.before (get_or c.as_slice-rows.result.now c.loop-place.place no_row) no_row
    c.covers.result c.requires.subject c.requires.inference c.requires.stands c.requires.forced (rw c.as_slice-rows.ensures at c.loop-place-test.true)
    (ap (λ (rs : List Catch). get_or rs c.loop-place.place no_row) c.as_slice-rows.ensures) c.loop-place.invariant c.covers.ensures c.if-not-covers.false

pub returns-then-not-reached : goal.returns-then-not-reached
returns-then-not-reached c = rw c.if-not-reached.true at c.in_ok-reached.ensures

pub loop-place-preserved : goal.loop-place-preserved
loop-place-preserved c =
    handling_step c.args.subject.now c.args.self.now c.loop-place.self c.reach_handler.new.self c.args.at c.loop-place.place c.args.before
    (get_or c.as_slice-rows.result.now c.loop-place.place no_row) no_row c.requires.subject c.requires.inference c.requires.stands (rw c.as_slice-rows.ensures at c.loop-place-test.true)
    (ap (λ (rs : List Catch). get_or rs c.loop-place.place no_row) c.as_slice-rows.ensures) c.loop-place.invariant (rw c.if-not-reached.false at c.in_ok-reached.ensures)

pub loop-place-preserved-then-not-covers : goal.loop-place-preserved-then-not-covers
loop-place-preserved-then-not-covers c =
    handling_skip c.args.subject.now c.args.self.now c.loop-place.self c.args.at c.loop-place.place c.args.before (get_or c.as_slice-rows.result.now c.loop-place.place no_row) no_row
    c.covers.result (rw c.as_slice-rows.ensures at c.loop-place-test.true) (ap (λ (rs : List Catch). get_or rs c.loop-place.place no_row) c.as_slice-rows.ensures) c.loop-place.invariant
    c.covers.ensures c.if-not-covers.true

pub returns : goal.returns
returns c =
    handling_end c.args.subject.now c.args.self.now c.loop-place.self c.args.at c.loop-place.place c.args.before c.loop-place.invariant (rw c.as_slice-rows.ensures at c.loop-place-test.false)
