use Rattle.std.proofs.Common.{◌∙◌, sym, length}
use Rattle.std.proofs.lemmas.Result.{IfOk-weaker}
use Rattle.vx_agree.proofs.Outputs.{IsSilent-none, IsSilent-some}
use Rattle.vx_agree.proofs.Places.{is_not_zero, is_zero}
use Rattle.vx_agree.proofs.output.silent.Goals as goal

pub returns-then-is_empty-clause-silent : goal.returns-then-is_empty-clause-silent
returns-then-is_empty-clause-silent g c =
    let empty = is_zero (length c.behind.result.now) (sym c.is_empty.ensures ∙ c.if-is_empty.true) in
    IsSilent-none (g.S.Space.sets c.args.space.now) c.args.other.now c.args.piece.now c.args.byte c.args.rest c.requires.rest (rw (c.behind.ensures, c.bytes.ensures) at empty)

pub returns-clause-silent : goal.returns-clause-silent
returns-clause-silent g c =
    let some = is_not_zero (length c.behind.result.now) (sym c.is_empty.ensures ∙ c.if-is_empty.false) in
    IfOk-weaker c.minus.result _ _ (λ id h. IsSilent-some c.args.other.now c.args.piece.now c.args.byte c.args.rest c.set_of-set.result id (rw (c.behind.ensures, c.bytes.ensures) at some) (c.set_of-set.ensures c.args.other.now.nodes c.requires.sets) h) c.minus.ensures.ok
