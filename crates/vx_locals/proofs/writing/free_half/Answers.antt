use Rattle.std.proofs.Common.{refl, ◌∙◌, ap}
use Rattle.vx_cond.proofs.RowSteps.{IsRow-get}
use Rattle.vx_group_states.proofs.SettleLaws.{lifting_cond}
use Rattle.vx_value.specs.Slot.{slot_cmp}
use Rattle.vx_locals.specs.Slots.{unless_long}
use Rattle.vx_locals.proofs.Lifts.{mapped_at}
use Rattle.vx_locals.proofs.Rows.{AreLocals-half}
use Rattle.vx_locals.proofs.writing.free_half.Goals as goal

pub map-requires-clause-valid : goal.map-requires-clause-valid
map-requires-clause-valid g c = (IsRow-get slot_cmp _ c.args.locals.now _ c.get.result.now c.requires.row c.get.ensures).0

pub returns-clause-ok : goal.returns-clause-ok
returns-clause-ok g c =
    let start = g.S.Space.sets c.args.space.now in
    let local = IsRow-get slot_cmp start c.args.locals.now _ c.get.result.now c.requires.row c.get.ensures in
    let half = c.in_ok-half.half in
    rw c.set.ensures (AreLocals-half c.args.locals.now c.args.place c.get.result.now half c.in_ok-half.ensures.extends c.requires.row (c.if-not-is_behind_long.ensures.within refl).0 c.get.ensures (lifting_cond slot_cmp _ _ _ half c.in_ok-half.ensures.ok) (c.in_ok-half.ensures.scope ∙ local.1) (λ d t. mapped_at slot_cmp start _ _ unless_long c.get.result.now half (λ a b h. h) local.0 c.in_ok-half.ensures.ok d (ap (λ i. start.test i d) local.1 ∙ t)))
