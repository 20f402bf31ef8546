use Rattle.std.proofs.Common.{None, arith, refl, sym, ◌∙◌}
use Rattle.vx_verify.proofs.Joints.{joint_fits, joint_new}
use Rattle.vx_verify.proofs.Known.{item_read}
use Rattle.vx_verify.proofs.inference.Inference.join.Goals as goal

pub returns-in_default : goal.returns-in_default
returns-in_default c =
    let i = c.args.self.now in
    joint_new c.args.subject.now i c.args.position c.args.state c.requires.subject c.requires.inference c.requires.stands c.requires.forced
    (sym (item_read i.states.items c.args.position c.index.result.now None (omega (arith, c.requires.position, c.requires.inference.states)) c.index.ensures) ∙ c.in_default.is)

pub merged-requires-clause-known : goal.merged-requires-clause-known
merged-requires-clause-known c =
    let i = c.args.self.now in
    c.requires.inference.stands c.args.position c.in-Some.known
    (sym (item_read i.states.items c.args.position c.index.result.now None (omega (arith, c.requires.position, c.requires.inference.states)) c.index.ensures) ∙ c.in-Some.is)

pub returns : goal.returns
returns c =
    let i = c.args.self.now in
    rw c.joint_of.ensures
    (joint_fits c.args.subject.now i _ c.args.position c.in-Some.known c.args.state c.in_ok-found.found c.requires.subject c.requires.inference refl refl refl c.requires.stands c.requires.forced
    (sym (item_read i.states.items c.args.position c.index.result.now None (omega (arith, c.requires.position, c.requires.inference.states)) c.index.ensures) ∙ c.in-Some.is) c.in_ok-found.ensures)
