use Rattle.std.proofs.Common.{refl}
use Rattle.std.proofs.lemmas.Result.{IfOk-weaker}
use Rattle.vx_verify.proofs.Joints.{with_store}
use Rattle.vx_verify.proofs.Steps.{follow_forced, follows_last, follows_on, is_made, lacks, made_inference, made_stands}
use Rattle.vx_verify.proofs.inference.Inference.follow_row.Goals as goal

pub returns-in_default : goal.returns-in_default
returns-in_default c =
    let j = with_store c.args.self.now c.after.new.store in
    lacks c.args.subject.now c.args.self.now j c.args.at c.args.size c.args.operation c.args.row.now c.args.before c.requires.subject c.requires.inference c.requires.known c.requires.decoded
    c.requires.row (rw c.in_default.is at c.in_ok-found.ensures)

pub returns-then-is_last : goal.returns-then-is_last
returns-then-is_last c =
    let j = with_store c.args.self.now c.after.new.store in
    follows_last c.args.subject.now c.args.self.now j c.args.at c.args.size c.args.operation c.args.row.now c.args.before c.in-Some.made c.is_last-is_last.result c.requires.subject c.requires.inference
    c.requires.known c.requires.decoded c.requires.row c.is_last-is_last.ensures c.if-is_last.true
    (is_made c.args.subject.now c.args.self.now j c.args.row.now c.args.before c.in-Some.made refl refl refl (rw c.in-Some.is at c.in_ok-found.ensures))

pub lead-requires-clause-inference : goal.lead-requires-clause-inference
lead-requires-clause-inference c =
    let j = with_store c.args.self.now c.after.new.store in
    made_inference c.args.subject.now c.args.self.now j c.args.row.now c.args.before c.in-Some.made c.requires.subject c.requires.inference
    (is_made c.args.subject.now c.args.self.now j c.args.row.now c.args.before c.in-Some.made refl refl refl (rw c.in-Some.is at c.in_ok-found.ensures))

pub lead-requires-clause-stands : goal.lead-requires-clause-stands
lead-requires-clause-stands c =
    let j = with_store c.args.self.now c.after.new.store in
    made_stands c.args.subject.now c.args.self.now j c.args.row.now c.args.before c.in-Some.made
    (is_made c.args.subject.now c.args.self.now j c.args.row.now c.args.before c.in-Some.made refl refl refl (rw c.in-Some.is at c.in_ok-found.ensures))

pub lead-requires-clause-forced : goal.lead-requires-clause-forced
lead-requires-clause-forced c =
    let j = with_store c.args.self.now c.after.new.store in
    follow_forced c.args.subject.now c.args.self.now j c.args.at c.args.size c.args.operation c.args.row.now c.args.before c.in-Some.made c.is_last-is_last.result c.requires.subject c.requires.inference
    c.requires.known c.requires.decoded c.requires.row c.is_last-is_last.ensures c.if-is_last.false
    (is_made c.args.subject.now c.args.self.now j c.args.row.now c.args.before c.in-Some.made refl refl refl (rw c.in-Some.is at c.in_ok-found.ensures))

pub returns : goal.returns
returns c =
    let j = with_store c.args.self.now c.after.new.store in
    IfOk-weaker c.lead.result _ _
    (λ led h. follows_on c.args.subject.now c.args.self.now j c.lead.new.self c.args.at c.args.size c.args.operation c.args.row.now c.args.before c.in-Some.made c.is_last-is_last.result led
    c.requires.subject c.requires.inference c.requires.decoded c.requires.row c.is_last-is_last.ensures c.if-is_last.false
    (is_made c.args.subject.now c.args.self.now j c.args.row.now c.args.before c.in-Some.made refl refl refl (rw c.in-Some.is at c.in_ok-found.ensures)) h)
    c.lead.ensures
