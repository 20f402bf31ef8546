use Rattle.std.proofs.Common.{List, ℕ, ◌∙◌, ◌∷◌, ap, option_map, refl, sym}
use Rattle.vx_java.specs.Ids.{as_field}
use Rattle.vx_java.proofs.Silence.{none_marked}
use Rattle.vx_java.proofs.Walks.{given_in_chain, passed_in_chain, resolved}
use Rattle.vx_link.specs.Hierarchy.{interfaces_below}
use Rattle.vx_link.specs.Resolution.{own_field, resolve_field}
use Rattle.vx_java.proofs.fields.resolve_field.Goals as goal

pub returns-in-Some-own_or_below : goal.returns-in-Some-own_or_below
returns-in-Some-own_or_below c =
    let p = c.args.program.now in
    let s = c.of-sought.result in
    ap
    (option_map as_field)
    (given_in_chain (own_field p s.0 s.1) (λ d. d ∷ interfaces_below p d) p c.loop-left.left c.loop-left.next c.in-Some.class _
    c.in-Some.is c.loop-left-test.true c.in-Some-own_or_below.ensures.answer
    ∙ sym c.loop-left.invariant.0 ∙ sym (resolved p c.args.class.0 s.0 s.1 (sym c.is_array.ensures ∙ c.if-is_array.false))
    ∙ ap (λ (x : List ℕ × List ℕ). resolve_field p c.args.class.0 x.0 x.1) c.of-sought.ensures)

pub loop-left-preserved : goal.loop-left-preserved
loop-left-preserved c =
    let p = c.args.program.now in
    let s = c.of-sought.result in (
      c.loop-left.invariant.0
          ∙ passed_in_chain (own_field p s.0 s.1) (λ d. d ∷ interfaces_below p d) p c.loop-left.left c.loop-left.next c.in-Some.class c.superclass_of-next.result
          c.in-Some.is c.loop-left-test.true c.superclass_of-next.ensures c.in_default-own_or_below.ensures.answer,
      c.in_default-own_or_below.ensures.silent,
    )

pub loop-left-init : goal.loop-left-init
loop-left-init c =
    let p = c.args.program.now in
    let s = c.of-sought.result in (
      rw c.len-left.ensures refl,
      none_marked (own_field p s.0 s.1) p c.no_marks-silent.result c.no_marks-silent.ensures,
    )
