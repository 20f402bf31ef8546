use Rattle.std.proofs.Common.{◌∙◌, sym, ap, length}
use Rattle.std.proofs.lemmas.Result.{IfOk-weaker}
use Rattle.vx_agree.proofs.Moved.{HaveMoved-none, HaveMoved-of, no_text}
use Rattle.vx_agree.proofs.Places.{is_not_zero, is_zero, some_length}
use Rattle.vx_agree.proofs.moving.moved.Goals as goal

pub returns-then-is_empty-clause-moved : goal.returns-then-is_empty-clause-moved
returns-then-is_empty-clause-moved g c = HaveMoved-none (g.S.Space.sets c.args.space.now) c.args.one.now c.args.other.now c.args.front.now c.args.reached.items c.requires.places (no_text c.args.front.now.text (sym (ap length c.bytes.ensures) ∙ is_zero (length c.bytes.result.now) (sym c.is_empty.ensures ∙ c.if-is_empty.true)))

pub move_all-requires-clause-some : goal.move_all-requires-clause-some
move_all-requires-clause-some g c = some_length (length c.args.front.now.text) (λ e. is_not_zero (length c.bytes.result.now) (sym c.is_empty.ensures ∙ c.if-is_empty.false) (ap length c.bytes.ensures ∙ e))

pub returns-clause-moved : goal.returns-clause-moved
returns-clause-moved g c = IfOk-weaker c.move_all.result _ _ (λ r h. HaveMoved-of c.args.one.now c.args.other.now c.args.front.now c.set_of-set.result c.args.reached.items r.items (c.set_of-set.ensures c.args.one.now.nodes c.requires.one) (rw c.as_slice.ensures.value at h)) c.move_all.ensures.moved
