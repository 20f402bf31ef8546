use Rattle.std.proofs.Common.{◌∙◌, ◌++◌, ◌-◌, ◌∷◌, [], ap, append_assoc, sym}
use Rattle.std.proofs.lemmas.List.{append-nil, map-append}
use Rattle.vx_java.proofs.Walks.{chain_ends, chain_from, chain_row}
use Rattle.vx_ready.specs.Initialising.{numbers_of}
use Rattle.vx_init.proofs.ChainLaws.{chain_over}
use Rattle.vx_init.proofs.upward.first_above.Goals as goal

pub returns-in_default : goal.returns-in_default
returns-in_default c = sym (c.loop-left.invariant ∙ ap (λ next. numbers_of c.loop-left.chain.items ++ chain_from c.args.program.now c.loop-left.left next) c.in_default.is ∙ ap (λ rest. numbers_of c.loop-left.chain.items ++ rest) (chain_ends c.args.program.now c.loop-left.left) ∙ append-nil (numbers_of c.loop-left.chain.items))

pub loop-left-preserved : goal.loop-left-preserved
loop-left-preserved c =
    let p = c.args.program.now in
    let items = c.loop-left.chain.items in
    let rest = chain_from p (c.loop-left.left - 1) c.superclass_of-next.result in
    c.loop-left.invariant
    ∙ ap (λ classes. numbers_of items ++ classes) (chain_row p c.loop-left.left c.loop-left.next c.in-Some.class c.superclass_of-next.result c.in-Some.is c.loop-left-test.true c.superclass_of-next.ensures)
    ∙ sym (append_assoc (numbers_of items) (c.in-Some.class.0 ∷ []) rest)
    ∙ ap (λ chain. chain ++ rest) (sym (map-append _ items (c.in-Some.class ∷ [])))
    ∙ ap (λ chain. numbers_of chain ++ rest) (sym c.in_ok-push.ensures.items)

pub returns : goal.returns
returns c = sym (c.loop-left.invariant ∙ ap (λ rest. numbers_of c.loop-left.chain.items ++ rest) (chain_over c.args.program.now c.loop-left.left c.loop-left.next c.loop-left-test.false) ∙ append-nil (numbers_of c.loop-left.chain.items))
