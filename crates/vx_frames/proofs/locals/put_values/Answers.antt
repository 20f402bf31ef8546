use Rattle.std.proofs.Common.{ap, arith, length, sym, ◌∙◌}
use Rattle.std.proofs.lemmas.List.{nil_from_length}
use Rattle.std.specs.Vec.Iter.{into_iter_items}
use Rattle.vx_frames.proofs.LocalLaws.{ArePutting-end, ArePutting-start, ArePutting-step, ArePutting-within, first_left}
use Rattle.vx_frames.proofs.locals.put_values.Goals as goal

pub loop-value-init : goal.loop-value-init
loop-value-init g c =
    let gives = c.into_iter-value-iterator.ensures.into_iter_gives in (
      omega (arith, gives.1, ap length gives.0, c.args.values.ok.0),
      rw gives.0 (ArePutting-start _ c.args.most c.args.values.items c.args.locals.now c.requires.row c.requires.none c.requires.values),
    )

pub put_value-requires-clause-row : goal.put_value-requires-clause-row
put_value-requires-clause-row g c = c.loop-value.invariant.1.is_row

pub put_value-requires-clause-value : goal.put_value-requires-clause-value
put_value-requires-clause-value g c =
    let k = rw c.in-Some.ensures.steps.0 at c.loop-value.invariant.1 in
    (first_left _ c.args.locals.now.scope c.args.most c.args.values.items c.in-Some.value (into_iter_items c.next.new.self) c.loop-value.locals k).0

pub put_value-requires-clause-scope : goal.put_value-requires-clause-scope
put_value-requires-clause-scope g c =
    let k = rw c.in-Some.ensures.steps.0 at c.loop-value.invariant.1 in
    (first_left _ c.args.locals.now.scope c.args.most c.args.values.items c.in-Some.value (into_iter_items c.next.new.self) c.loop-value.locals k).1

pub loop-value-preserved : goal.loop-value-preserved
loop-value-preserved g c =
    let k = rw c.in-Some.ensures.steps.0 at c.loop-value.invariant.1 in (
      omega (arith, c.loop-value.invariant.0, c.in-Some.ensures.steps.1, ap length c.in-Some.ensures.steps.0),
      ArePutting-step (g.met.S.Space.lawful c.args.space.now) c.args.locals.now.scope c.args.most c.args.values.items c.in-Some.value (into_iter_items c.next.new.self) c.loop-value.locals c.put_value.new.locals k c.in_ok-put_value.ensures,
    )

pub returns-clause-within : goal.returns-clause-within
returns-clause-within g c = ArePutting-within _ c.args.locals.now.scope c.args.most c.args.values.items (into_iter_items c.loop-value.value-iterator) c.loop-value.locals c.loop-value.invariant.1

pub returns-clause-put : goal.returns-clause-put
returns-clause-put g c = ArePutting-end _ c.args.locals.now.scope c.args.most c.args.values.items (into_iter_items c.loop-value.value-iterator) c.loop-value.locals (nil_from_length (into_iter_items c.loop-value.value-iterator) (sym c.loop-value.invariant.0 ∙ c.in-None.ensures.steps.0)) c.loop-value.invariant.1
