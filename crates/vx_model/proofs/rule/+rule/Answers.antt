use Rattle.std.proofs.Common.{◌∷◌, sym, ap, ◌∙◌}
use Rattle.std.proofs.lemmas.Result.{err_from_is_err_and}
use Rattle.vx_model.specs.Parser.{part_at}
use Rattle.vx_model.proofs.Rules.{joins_first, joins_more, joins_fail, fails_first, joins_done, fails_by, imp_none, imp_plain, imp_too_deep, imp_fails, imp_arrow, not_empty, mark_too_deep, mark_fails, mark_read, open_too_deep, open_fails, open_read, not_atom}
use Rattle.vx_model.proofs.rule.+rule.Goals as goal

pub joined-returns-in_err-first-clause-value : goal.joined-returns-in_err-first-clause-value
joined-returns-in_err-first-clause-value t c =
    let p = err_from_is_err_and c.from_residual.result c.from_residual.ensures.1 in
    rw (p.1, p.2)
    (fails_by c.in_err-first.field-0.0 _ _ (fails_first c.args.operator (part_at c.args.operator c.args.depth) c.args.tokens.now) c.in_err-first.ensures.value)

pub joined-loop-after-init : goal.joined-loop-after-init
joined-loop-after-init t c =
    rw (c.in_ok-push.ensures.items, c.new-parts.ensures.items)
    (joins_first c.args.operator (part_at c.args.operator c.args.depth) c.args.tokens.now c.in_ok-first.first c.in_ok-first.rest.now c.in_ok-first.ensures.value
    c.in_ok-first.ensures.shorter)

pub joined-returns-in_err-next-clause-value : goal.joined-returns-in_err-next-clause-value
joined-returns-in_err-next-clause-value t c =
    let p = err_from_is_err_and c.from_residual-in_err-next.result c.from_residual-in_err-next.ensures.1 in
    rw (p.1, p.2)
    (fails_by c.in_err-next.field-0.0 _ _
    (λ none. joins_fail c.args.operator (part_at c.args.operator c.args.depth) c.args.tokens.now c.loop-after.parts.items c.loop-after.rest.now c.in-Some.after.now
    c.loop-after.invariant (sym c.in-Some.ensures.value) none c.in-Some.ensures.shorter)
    c.in_err-next.ensures.value)

pub joined-loop-after-preserved : goal.joined-loop-after-preserved
joined-loop-after-preserved t c =
    rw c.in_ok-push-2.ensures.items
    (joins_more c.args.operator (part_at c.args.operator c.args.depth) c.args.tokens.now c.loop-after.parts.items c.loop-after.rest.now c.in-Some.after.now
    c.in_ok-next.more.now c.in_ok-next.next c.loop-after.invariant (sym c.in-Some.ensures.value) c.in_ok-next.ensures.value c.in-Some.ensures.shorter
    c.in_ok-next.ensures.shorter)

pub joined-returns-clause-value : goal.joined-returns-clause-value
joined-returns-clause-value t c =
    rw c.whole.ensures
    (joins_done c.args.operator (part_at c.args.operator c.args.depth) c.args.tokens.now c.loop-after.parts.items c.loop-after.rest.now c.loop-after.invariant
    (sym c.in_default.ensures.value))

pub implication-returns-in_err-premise-clause-value : goal.implication-returns-in_err-premise-clause-value
implication-returns-in_err-premise-clause-value t c =
    let p = err_from_is_err_and c.from_residual.result c.from_residual.ensures.1 in
    rw (p.1, p.2) (fails_by c.in_err-premise.field-0.0 _ _ (imp_none c.args.depth c.args.tokens.now) c.in_err-premise.ensures.value)

pub implication-returns-in_default-clause-value : goal.implication-returns-in_default-clause-value
implication-returns-in_default-clause-value t c = imp_plain c.args.depth c.args.tokens.now _ _ c.in_ok-premise.ensures.value (sym c.in_default.ensures.value)

pub implication-returns-in_err-below-clause-value : goal.implication-returns-in_err-below-clause-value
implication-returns-in_err-below-clause-value t c =
    let p = err_from_is_err_and c.from_residual-in_err-below.result c.from_residual-in_err-below.ensures.1 in
    rw (p.1, p.2)
    (fails_by c.in_err-below.field-0.0 _ _
    (imp_too_deep c.args.depth c.args.tokens.now c.in_ok-premise.rest.now c.in-Some.after.now c.in_ok-premise.premise c.in_ok-premise.ensures.value
    (sym c.in-Some.ensures.value))
    c.in_err-below.ensures.value)

pub implication-returns-in_err-conclusion-clause-value : goal.implication-returns-in_err-conclusion-clause-value
implication-returns-in_err-conclusion-clause-value t c =
    let p = err_from_is_err_and c.from_residual-in_err-conclusion.result c.from_residual-in_err-conclusion.ensures.1 in
    rw (p.1, p.2)
    (fails_by c.in_err-conclusion.field-0.0 _ _
    (imp_fails c.args.depth c.in_ok-below.below c.args.tokens.now c.in_ok-premise.rest.now c.in-Some.after.now c.in_ok-premise.premise c.in_ok-premise.ensures.value
    (sym c.in-Some.ensures.value) c.in_ok-below.ensures.value)
    c.in_err-conclusion.ensures.value)

pub implication-returns-clause-value : goal.implication-returns-clause-value
implication-returns-clause-value t c =
    rw c.in_ok-implied.ensures
    (imp_arrow c.args.depth c.in_ok-below.below c.args.tokens.now c.in_ok-premise.rest.now c.in-Some.after.now c.in_ok-conclusion.rest.now c.in_ok-premise.premise
    c.in_ok-conclusion.conclusion c.in_ok-premise.ensures.value (sym c.in-Some.ensures.value) c.in_ok-below.ensures.value c.in_ok-conclusion.ensures.value)

pub operand-returns-in_default-clause-value : goal.operand-returns-in_default-clause-value
operand-returns-in_default-clause-value t c = not_empty c.args.depth c.args.tokens.now c.in_default.ensures.none

pub operand-returns-in_err-below-in-Not-clause-value : goal.operand-returns-in_err-below-in-Not-clause-value
operand-returns-in_err-below-in-Not-clause-value t c =
    let p = err_from_is_err_and c.from_residual.result c.from_residual.ensures.1 in
    rw (p.1, p.2)
    (fails_by c.in_err-below-in-Not.field-0.0 _ _
    (mark_too_deep c.args.depth c.args.tokens.now c.in-Some.rest.now (c.in-Some.ensures.some ∙ ap (λ f. f ∷ c.in-Some.rest.now) c.in-Not.is))
    c.in_err-below-in-Not.ensures.value)

pub operand-returns-in_err-rule-in-Not-clause-value : goal.operand-returns-in_err-rule-in-Not-clause-value
operand-returns-in_err-rule-in-Not-clause-value t c =
    let p = err_from_is_err_and c.from_residual-in_err-rule-in-Not.result c.from_residual-in_err-rule-in-Not.ensures.1 in
    rw (p.1, p.2)
    (fails_by c.in_err-rule-in-Not.field-0.0 _ _
    (mark_fails c.args.depth c.in_ok-below-in-Not.below c.args.tokens.now c.in-Some.rest.now (c.in-Some.ensures.some ∙ ap (λ f. f ∷ c.in-Some.rest.now) c.in-Not.is)
    c.in_ok-below-in-Not.ensures.value)
    c.in_err-rule-in-Not.ensures.value)

pub operand-returns-in_ok-negated-in-Not-clause-value : goal.operand-returns-in_ok-negated-in-Not-clause-value
operand-returns-in_ok-negated-in-Not-clause-value t c =
    rw c.in_ok-negated-in-Not.ensures
    (mark_read c.args.depth c.in_ok-below-in-Not.below c.args.tokens.now c.in-Some.rest.now c.in_ok-rule-in-Not.after.now c.in_ok-rule-in-Not.rule
    (c.in-Some.ensures.some ∙ ap (λ f. f ∷ c.in-Some.rest.now) c.in-Not.is) c.in_ok-below-in-Not.ensures.value c.in_ok-rule-in-Not.ensures.value)

pub operand-returns-in_err-below-in-Open-clause-value : goal.operand-returns-in_err-below-in-Open-clause-value
operand-returns-in_err-below-in-Open-clause-value t c =
    let p = err_from_is_err_and c.from_residual-in_err-below-in-Open.result c.from_residual-in_err-below-in-Open.ensures.1 in
    rw (p.1, p.2)
    (fails_by c.in_err-below-in-Open.field-0.0 _ _
    (open_too_deep c.args.depth c.args.tokens.now c.in-Some.rest.now (c.in-Some.ensures.some ∙ ap (λ f. f ∷ c.in-Some.rest.now) c.in-Open.is))
    c.in_err-below-in-Open.ensures.value)

pub operand-returns-in_err-rule-in-Open-clause-value : goal.operand-returns-in_err-rule-in-Open-clause-value
operand-returns-in_err-rule-in-Open-clause-value t c =
    let p = err_from_is_err_and c.from_residual-in_err-rule-in-Open.result c.from_residual-in_err-rule-in-Open.ensures.1 in
    rw (p.1, p.2)
    (fails_by c.in_err-rule-in-Open.field-0.0 _ _
    (open_fails c.args.depth c.in_ok-below-in-Open.below c.args.tokens.now c.in-Some.rest.now (c.in-Some.ensures.some ∙ ap (λ f. f ∷ c.in-Some.rest.now) c.in-Open.is)
    c.in_ok-below-in-Open.ensures.value)
    c.in_err-rule-in-Open.ensures.value)

pub operand-returns-in_ok-rule-in-Open-clause-value : goal.operand-returns-in_ok-rule-in-Open-clause-value
operand-returns-in_ok-rule-in-Open-clause-value t c =
    rw (open_read c.args.depth c.in_ok-below-in-Open.below c.args.tokens.now c.in-Some.rest.now c.in_ok-rule-in-Open.after.now c.in_ok-rule-in-Open.rule
    (c.in-Some.ensures.some ∙ ap (λ f. f ∷ c.in-Some.rest.now) c.in-Open.is) c.in_ok-below-in-Open.ensures.value c.in_ok-rule-in-Open.ensures.value)
    c.closed.ensures.value

pub operand-returns-in_default-first : goal.operand-returns-in_default-first
operand-returns-in_default-first t c =
    record {
      value = rw (not_atom c.args.depth c.args.tokens.now c.in-Some.rest.now c.in-Some.first c.in-Some.ensures.some c.in_default-first.not-Not c.in_default-first.not-Open)
          c.atom.ensures.value;
      shorter = c.atom.ensures.shorter;
    }
