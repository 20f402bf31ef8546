use Rattle.std.proofs.Common.{◌+◌, ap, sym}
use Rattle.std.specs.Prelude.{slice_set}
use Rattle.vx_cond.specs.Slots.{slot_at, slots_at}
use Rattle.vx_cond.proofs.SideLaws.{IsRow-scope_known}
use Rattle.vx_value.specs.Slot.{slot_cmp}
use Rattle.vx_locals.specs.Slots.{stored, without_half}
use Rattle.vx_locals.proofs.Rows.{AreLocals-same, AreLocals-second, AreLocals-value}
use Rattle.vx_locals.proofs.writing.write_local.Goals as goal

pub one-requires : goal.one-requires
one-requires g c =
    let put = AreLocals-value c.args.locals.now c.free_half.new.locals c.put_local.new.locals c.args.place c.args.value c.in_ok-free_half.ensures.extends c.requires.value c.requires.scope (rw c.from.ensures at c.in_ok-free_half.ensures.ok) (rw c.from-2.ensures at c.put_local.ensures) in
    rw c.scope.ensures (IsRow-scope_known slot_cmp _ c.put_local.new.locals put.is_row)

pub returns-in-Int : goal.returns-in-Int
returns-in-Int g c =
    let start = g.S.Space.sets c.args.space.now in
    let put = AreLocals-value c.args.locals.now c.free_half.new.locals c.put_local.new.locals c.args.place c.args.value c.in_ok-free_half.ensures.extends c.requires.value c.requires.scope (rw c.from.ensures at c.in_ok-free_half.ensures.ok) (rw c.from-2.ensures at c.put_local.ensures) in
    record {
      extends = c.in_ok-free_half.ensures.extends;
      ok = AreLocals-same start _ c.args.locals.now c.put_local.new.locals _ (λ d. stored c.args.sort (slots_at start c.args.locals.now d) c.args.place (slot_at start c.args.value d)) (λ d t. sym (ap (λ sort. stored sort (slots_at start c.args.locals.now d) c.args.place (slot_at start c.args.value d)) c.in-Int.is)) put;
    }

pub returns-in-Reference : goal.returns-in-Reference
returns-in-Reference g c =
    let start = g.S.Space.sets c.args.space.now in
    let put = AreLocals-value c.args.locals.now c.free_half.new.locals c.put_local.new.locals c.args.place c.args.value c.in_ok-free_half.ensures.extends c.requires.value c.requires.scope (rw c.from.ensures at c.in_ok-free_half.ensures.ok) (rw c.from-2.ensures at c.put_local.ensures) in
    record {
      extends = c.in_ok-free_half.ensures.extends;
      ok = AreLocals-same start _ c.args.locals.now c.put_local.new.locals _ (λ d. stored c.args.sort (slots_at start c.args.locals.now d) c.args.place (slot_at start c.args.value d)) (λ d t. sym (ap (λ sort. stored sort (slots_at start c.args.locals.now d) c.args.place (slot_at start c.args.value d)) c.in-Reference.is)) put;
    }

pub returns-in_ok-half-in-Long-clause-ok : goal.returns-in_ok-half-in-Long-clause-ok
returns-in_ok-half-in-Long-clause-ok g c =
    let start = g.S.Space.sets c.args.space.now in
    let put = AreLocals-value c.args.locals.now c.free_half.new.locals c.put_local.new.locals c.args.place c.args.value c.in_ok-free_half.ensures.extends c.requires.value c.requires.scope (rw c.from.ensures at c.in_ok-free_half.ensures.ok) (rw c.from-2.ensures at c.put_local.ensures) in
    let both = AreLocals-second c.args.locals.now c.put_local.new.locals c.put_local-in-Long.new.locals (λ d. slice_set (without_half (slots_at start c.args.locals.now d) c.args.place) c.args.place (slot_at start c.args.value d)) (c.args.place + 1) c.scope.result c.in_ok-half-in-Long.half c.in_ok-free_half.ensures.extends c.requires.row put c.scope.ensures c.in_ok-half-in-Long.ensures.scope c.in_ok-half-in-Long.ensures.ok (rw c.from-in-Long.ensures at c.put_local-in-Long.ensures) in
    AreLocals-same start _ c.args.locals.now c.put_local-in-Long.new.locals _ (λ d. stored c.args.sort (slots_at start c.args.locals.now d) c.args.place (slot_at start c.args.value d)) (λ d t. sym (ap (λ sort. stored sort (slots_at start c.args.locals.now d) c.args.place (slot_at start c.args.value d)) c.in-Long.is)) both
