use Rattle.std.proofs.Common.{None, arith, refl, sym, ◌∙◌}
use Rattle.vx_verify.proofs.Joints.{goes_through, state_known}
use Rattle.vx_verify.proofs.Known.{item_read}
use Rattle.vx_verify.proofs.QuietLaws.{quiet_later, unmarked_quiet}
use Rattle.vx_verify.proofs.Sweeps.{closed_later, unknown_done}
use Rattle.vx_verify.proofs.inference.Inference.step.Goals as goal

pub visit-requires-clause-known : goal.visit-requires-clause-known
visit-requires-clause-known c =
    let i = c.args.self.now in
    state_known c.args.subject.now i c.args.at c.in-Some.before
    (sym (item_read i.states.items c.args.at c.index.result.now None (omega (arith, c.requires.position, c.requires.inference.states)) c.index.ensures) ∙ c.in-Some.is)

pub visit-requires-clause-stands : goal.visit-requires-clause-stands
visit-requires-clause-stands c =
    let i = c.args.self.now in
    c.requires.inference.stands c.args.at c.in-Some.before
    (sym (item_read i.states.items c.args.at c.index.result.now None (omega (arith, c.requires.position, c.requires.inference.states)) c.index.ensures) ∙ c.in-Some.is)

pub returns-then-not-looked-clause-looked : goal.returns-then-not-looked-clause-looked
returns-then-not-looked-clause-looked c = rw c.if-not-looked.true at c.in_ok-looked.ensures.looked

pub unmark-requires-clause-inference : goal.unmark-requires-clause-inference
unmark-requires-clause-inference c = let l = rw c.if-not-looked.false at c.in_ok-looked.ensures.looked in l.0.goes.inference

pub unmark-requires-clause-closed : goal.unmark-requires-clause-closed
unmark-requires-clause-closed c =
    let i = c.args.self.now in
    λ there. closed_later c.args.subject.now i c.visit.new.self c.args.at c.in-Some.before c.requires.inference
    (c.requires.inference.stands c.args.at c.in-Some.before
    (sym (item_read i.states.items c.args.at c.index.result.now None (omega (arith, c.requires.position, c.requires.inference.states)) c.index.ensures) ∙ c.in-Some.is))
    (rw c.if-not-looked.false at c.in_ok-looked.ensures.looked).0

pub returns-clause-looked : goal.returns-clause-looked
returns-clause-looked c =
    let s = c.args.subject.now in
    let l = rw c.if-not-looked.false at c.in_ok-looked.ensures.looked in (
      goes_through s c.args.self.now c.visit.new.self c.unmark.new.self c.requires.subject l.0.goes c.unmark.ensures,
      quiet_later s c.visit.new.self c.unmark.new.self c.visit.new.quiet c.requires.subject l.0.goes.inference c.unmark.ensures l.1,
    )

pub returns-in_default-clause-looked : goal.returns-in_default-clause-looked
returns-in_default-clause-looked c =
    let s = c.args.subject.now in
    let i = c.args.self.now in
    unmarked_quiet s i _ c.args.at c.args.quiet.now c.requires.subject c.requires.inference refl refl refl c.remove.ensures.updates
    (unknown_done s i c.args.at
    (sym (item_read i.states.items c.args.at c.index.result.now None (omega (arith, c.requires.position, c.requires.inference.states)) c.index.ensures) ∙ c.in_default.is))
    c.requires.quiet
