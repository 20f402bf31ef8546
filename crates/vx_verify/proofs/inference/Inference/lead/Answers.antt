use Rattle.std.proofs.lemmas.Result.{IfOk-weaker}
use Rattle.vx_verify.proofs.Steps.{leads_all, unreadable_leads_nowhere}
use Rattle.vx_verify.specs.States.{state_at}
use Rattle.vx_verify.proofs.inference.Inference.lead.Goals as goal

pub is_readable-requires-clause-operands : goal.is_readable-requires-clause-operands
is_readable-requires-clause-operands c = c.requires.stands.operands

pub returns-then-not-is_readable : goal.returns-then-not-is_readable
returns-then-not-is_readable c =
    let s = c.args.subject.now in
    unreadable_leads_nowhere s c.args.at c.args.size c.args.operation (state_at c.args.self.now.store s.frame c.args.made) c.is_readable.result c.requires.forced c.is_readable.ensures
    c.if-not-is_readable.true

pub targets_of-requires-clause-size : goal.targets_of-requires-clause-size
targets_of-requires-clause-size c = rw c.as_slice-code.ensures c.requires.subject.short

pub targets_of-requires-clause-within : goal.targets_of-requires-clause-within
targets_of-requires-clause-within c = rw c.as_slice-code.ensures c.requires.decoded.within

pub targets_of-requires-clause-entries : goal.targets_of-requires-clause-entries
targets_of-requires-clause-entries c = rw c.as_slice-code.ensures c.requires.decoded.entries

pub reach_all-requires-clause-forced : goal.reach_all-requires-clause-forced
reach_all-requires-clause-forced c = rw (c.deref.ensures.value, c.in_ok-targets.ensures, c.as_slice-code.ensures) c.requires.forced

pub returns : goal.returns
returns c =
    IfOk-weaker c.reach_all.result _ _
    (λ led h. leads_all c.args.subject.now c.args.self.now c.reach_all.new.self c.args.at c.args.size c.args.operation c.args.made c.in_ok-targets.targets.items led c.is_readable.result
    (rw c.as_slice-code.ensures at c.in_ok-targets.ensures) c.is_readable.ensures c.if-not-is_readable.false h)
    (rw c.deref.ensures.value at c.reach_all.ensures)
