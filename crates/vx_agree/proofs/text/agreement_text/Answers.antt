use Rattle.std.proofs.lemmas.Result.{IfOk-weaker}
use Rattle.vx_agree.proofs.Agreeing.{IsAgreementText-of, IsListedText-of, one_agreement_text}
use Rattle.vx_agree.proofs.text.agreement_text.Goals as goal

pub listing-requires : goal.listing-requires
listing-requires g c = rw (c.as_slice.ensures.value, c.in_ok-push.ensures.items, c.new-roots.ensures.items) (c.requires.known, tt)

pub returns-clause-text : goal.returns-clause-text
returns-clause-text g c = IfOk-weaker c.set_text.result _ _ (λ text e other a.
    let s = g.S.Space.sets c.args.space.now in
    let listed = rw (c.as_slice.ensures.value, c.in_ok-push.ensures.items, c.new-roots.ensures.items) at c.in_ok-list.ensures.ok in
    IsAgreementText-of s c.args.report.now other c.args.set text.items c.requires.options a (IsListedText-of s c.args.report.now.options c.args.set c.in_ok-list.list.nodes c.in_ok-list.list.roots text.items listed (rw (c.first_number-root.ensures, c.as_slice-2.ensures, c.as_slice-3.ensures, c.as_slice-4.ensures) at e))) c.set_text.ensures

pub returns-clause-only : goal.returns-clause-only
returns-clause-only g c = IfOk-weaker c.set_text.result _ _ (λ text h other another a k. one_agreement_text c.args.report.now other another text.items k (h other a)) (returns-clause-text g c)
