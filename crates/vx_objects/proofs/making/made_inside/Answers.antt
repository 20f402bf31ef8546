use Rattle.std.proofs.Common.{◌≡◌, length, true}
use Rattle.std.proofs.lemmas.Result.{IfOk-weaker}
use Rattle.vx_heap.specs.Heap.{is_held}
use Rattle.vx_value.specs.declared.slot.Slot.TheVariants.{Ref}
use Rattle.vx_objects.proofs.MakingRows.{IsChangedIn-never, never_there}
use Rattle.vx_objects.proofs.making.made_inside.Goals as goal

pub returns-then-is_never-clause-changed : goal.returns-then-is_never-clause-changed
returns-then-is_never-clause-changed g c = IsChangedIn-never (g.met.S.Space.lawful c.args.space.now) c.args.heap.now c.args.path _ c.requires.heap (c.is_never.ensures.0 c.if-is_never.true)

pub returns-then-is_never-clause-number : goal.returns-then-is_never-clause-number
returns-then-is_never-clause-number g c = never_there (λ d. 0 ≡ length c.args.heap.now.objects) (g.met.S.Space.lawful c.args.space.now) c.args.path (c.is_never.ensures.0 c.if-is_never.true)

pub returns-then-is_never-clause-held : goal.returns-then-is_never-clause-held
returns-then-is_never-clause-held g c = never_there (λ d. is_held (g.S.Space.sets c.args.space.now) c.args.heap.now d (Ref 0) ≡ true) (g.met.S.Space.lawful c.args.space.now) c.args.path (c.is_never.ensures.0 c.if-is_never.true)

pub returns-clause-changed : goal.returns-clause-changed
returns-clause-changed g c = IfOk-weaker c.alloc_object.result _ _ (λ r h. (h (g.S.Space.sets c.args.space.now) c.requires.heap c.requires.known).changed) c.alloc_object.ensures

pub returns-clause-number : goal.returns-clause-number
returns-clause-number g c = IfOk-weaker c.alloc_object.result _ _ (λ r h d t. (h (g.S.Space.sets c.args.space.now) c.requires.heap c.requires.known).reference_is) c.alloc_object.ensures

pub returns-clause-held : goal.returns-clause-held
returns-clause-held g c = IfOk-weaker c.alloc_object.result _ _ (λ r h. (h (g.S.Space.sets c.args.space.now) c.requires.heap c.requires.known).held) c.alloc_object.ensures
