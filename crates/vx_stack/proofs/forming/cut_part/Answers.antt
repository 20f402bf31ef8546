use Rattle.std.proofs.lemmas.Result.{IfOk-weaker}
use Rattle.std.specs.Prelude.{Some, None}
use Rattle.vx_stack.specs.Cuts.{counts_of}
use Rattle.vx_stack.proofs.FormLaws.{counts-gives, full-gives}
use Rattle.vx_stack.proofs.forming.cut_part.Goals as goal

pub returns-in_default-clause-gives : goal.returns-in_default-clause-gives
returns-in_default-clause-gives g c =
    IfOk-weaker c.illegal.result _ _ (λ r' h'. counts-gives c.args.site.now c.args.order _ _ c.args.part _ None (counts_of c.args.cut) c.in_default.ensures.value (h' _))
    c.illegal.ensures

pub returns-then-len-from-clause-gives : goal.returns-then-len-from-clause-gives
returns-then-len-from-clause-gives g c =
    IfOk-weaker c.illegal-then-len-from.result _ _ (λ r' h'. counts-gives c.args.site.now c.args.order _ _ c.args.part _ (Some (c.in-Some.upper, c.in-Some.lower)) (counts_of c.args.cut) c.in-Some.ensures.value (full-gives c.args.site.now _ c.args.part c.args.order c.in-Some.upper c.in-Some.lower _ c.in-Some.ensures.few.0 c.in-Some.ensures.few.1 (rw (c.len.ensures, c.top_frame.ensures, c.from.ensures) at c.if-len-from.true) (h' _)))
    c.illegal-then-len-from.ensures

pub returns-clause-gives : goal.returns-clause-gives
returns-clause-gives g c =
    IfOk-weaker c.counted_part.result _ _ (λ r' h'. counts-gives c.args.site.now c.args.order _ _ c.args.part _ (Some (c.in-Some.upper, c.in-Some.lower)) (counts_of c.args.cut) c.in-Some.ensures.value h')
    c.counted_part.ensures.gives
