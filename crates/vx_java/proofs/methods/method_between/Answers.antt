use Rattle.std.proofs.Common.{◌^◌, ◌∙◌, ap, arith, map, option_map, refl, sym}
use Rattle.std.specs.Prelude.{find}
use Rattle.vx_java.proofs.MemberNumbers.{none_wanted, step_within, wanted_is, wanted_later, wanted_nowhere}
use Rattle.vx_java.proofs.OwnMembers.{signature_of_method}
use Rattle.vx_java.specs.Ids.{as_method}
use Rattle.vx_java.specs.MemberNumbers.{is_method, numbers_between}
use Rattle.vx_java.specs.Specific.{passes}
use Rattle.vx_link.proofs.Keys.{not_below}
use Rattle.vx_link.specs.Members.{has_signature}
use Rattle.vx_link.specs.Parts.{no_method}
use Rattle.vx_java.proofs.methods.method_between.Goals as goal

pub returns-in_err-number : goal.returns-in_err-number
returns-in_err-number c =
    c.from_residual.ensures
    ∙ ap (option_map as_method)
    (none_wanted signature_of_method no_method refl c.args.program.now.methods c.args.sought.now.0 c.args.sought.now.1 (passes c.args.among) c.loop-number.from c.args.last c.in_err-number.ensures ∙ sym c.loop-number.invariant)

pub returns-then-passes : goal.returns-then-passes
returns-then-passes c =
    ap (option_map as_method)
    (wanted_is signature_of_method no_method refl c.args.program.now.methods c.args.sought.now.0 c.args.sought.now.1 (passes c.args.among) c.loop-number.from c.args.last c.in_ok-number.number c.in_ok-number.ensures
    (sym c.passes.ensures ∙ c.if-passes.true)
    ∙ sym c.loop-number.invariant)

pub returns-in_err-from : goal.returns-in_err-from
returns-in_err-from c =
    c.from_residual-in_err-from.ensures
    ∙ ap (option_map as_method)
    (wanted_nowhere signature_of_method no_method refl c.args.program.now.methods c.args.sought.now.0 c.args.sought.now.1 (passes c.args.among) c.loop-number.from c.args.last c.in_ok-number.number (2 ^ 32) c.in_ok-number.ensures
    (sym c.passes.ensures ∙ c.if-passes.false)
    (omega (arith, c.ranges.last.fits))
    (not_below _ _ c.in_err-from.ensures)
    ∙ sym c.loop-number.invariant)

pub loop-number-preserved : goal.loop-number-preserved
loop-number-preserved c =
    c.loop-number.invariant
    ∙ wanted_later signature_of_method no_method refl c.args.program.now.methods c.args.sought.now.0 c.args.sought.now.1 (passes c.args.among) c.loop-number.from c.args.last c.in_ok-number.number c.in_ok-number.ensures
    (sym c.passes.ensures ∙ c.if-passes.false)
    ∙ ap (λ n. find (is_method c.args.program.now (passes c.args.among) c.args.sought.now.0 c.args.sought.now.1) (numbers_between n c.args.last)) (sym c.in_ok-from.ensures.1)

pub loop-number-smaller : goal.loop-number-smaller
loop-number-smaller c =
    omega (
      arith,
      c.in_ok-from.ensures.1,
      step_within (has_signature (map signature_of_method c.args.program.now.methods) c.args.sought.now.0 c.args.sought.now.1) c.loop-number.from c.args.last c.in_ok-number.number c.in_ok-number.ensures,
    )
