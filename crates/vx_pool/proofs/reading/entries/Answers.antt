use Rattle.std.proofs.Common.{[], ◌∷◌, ◌-◌, false, arith}
use Rattle.std.proofs.lemmas.List.Sums.{sum_by-append}
use Rattle.std.proofs.lemmas.Result.{err_from_is_err_and}
use Rattle.vx_pool.specs.declared.pool.Entry.TheVariants.{Unusable}
use Rattle.vx_pool.specs.Reading.{with_front}
use Rattle.vx_pool.specs.Pool.{size, entries_at}
use Rattle.vx_pool.proofs.Loop.{done, passes, goes_on, ends}
use Rattle.vx_pool.proofs.reading.entries.Goals as goal

pub loop-left-preserved-then-second : goal.loop-left-preserved-then-second
loop-left-preserved-then-second c = record {
  so_far =
      rw c.in_ok-push-2.ensures.items
      (passes c.loop-left.items.items c.loop-left.left (c.loop-left.left - 1) c.loop-left.second c.loop-left.cursor (with_front (Unusable ∷ []) (entries_at c.args.count false c.args.cursor.now))
      (omega arith) c.if-second.true c.loop-left.invariant.so_far);
  moved = rw c.in_ok-push-2.ensures.items (omega (arith, sum_by-append size c.loop-left.items.items (Unusable ∷ []), c.loop-left.invariant.moved));
}

pub returns-in_err-item-clause-value : goal.returns-in_err-item-clause-value
returns-in_err-item-clause-value c =
    let p = err_from_is_err_and c.from_residual-in_err-item.result c.from_residual-in_err-item.ensures.1 in
    rw (p.1, p.2) (ends c.in_err-item.field-0.0 c.loop-left.items.items c.loop-left.left (c.loop-left.left - 1) c.loop-left.second c.loop-left.cursor (with_front (Unusable ∷ []) (entries_at c.args.count false c.args.cursor.now))
    (omega arith) c.if-second.false c.in_err-item.ensures.value c.loop-left.invariant.so_far)

pub loop-left-preserved : goal.loop-left-preserved
loop-left-preserved c = record {
  so_far =
      rw (c.in_ok-push-3.ensures.items, c.is_wide-second.ensures)
      (goes_on c.loop-left.items.items c.loop-left.left (c.loop-left.left - 1) c.loop-left.second c.loop-left.cursor c.entry.new.cursor c.in_ok-item.item (with_front (Unusable ∷ []) (entries_at c.args.count false c.args.cursor.now))
      (omega arith) c.if-second.false c.in_ok-item.ensures.value c.loop-left.invariant.so_far);
  moved = rw c.in_ok-push-3.ensures.items (omega (arith, sum_by-append size c.loop-left.items.items (c.in_ok-item.item ∷ []), c.loop-left.invariant.moved, c.in_ok-item.ensures.moved));
}

pub returns-clause-value : goal.returns-clause-value
returns-clause-value c =
    rw c.of.ensures (done c.loop-left.items.items c.loop-left.left c.loop-left.second c.loop-left.cursor (with_front (Unusable ∷ []) (entries_at c.args.count false c.args.cursor.now)) (omega arith) c.loop-left.invariant.so_far)
