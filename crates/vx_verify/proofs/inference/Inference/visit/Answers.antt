use Rattle.std.proofs.Common.{List, ap, arith, sym, ℕ, ◌∙◌}
use Rattle.std.proofs.lemmas.Result.{IfOk-weaker}
use Rattle.vx_verify.proofs.Entries.{none_decoded}
use Rattle.vx_verify.proofs.QuietLaws.{quiet_later, quiet_looked}
use Rattle.vx_verify.proofs.Sweeps.{decoded_is, known_later, looked, undecoded_has_none}
use Rattle.vx_opcode.specs.Decode.{instruction_at}
use Rattle.vx_verify.proofs.StoreLaws.{stands_kept}
use Rattle.vx_verify.proofs.inference.Inference.visit.Goals as goal

pub decode-requires : goal.decode-requires
decode-requires c = let short = c.requires.subject.short in rw c.as_slice.ensures (omega (arith, short))

pub returns-in_default-clause-looked : goal.returns-in_default-clause-looked
returns-in_default-clause-looked c =
    let s = c.args.subject.now in
    undecoded_has_none s c.args.at _ c.requires.subject (c.requires.inference.inferred.forced c.args.at _ c.requires.known)
    (ap (λ (bs : List ℕ). instruction_at bs c.args.at) (sym c.as_slice.ensures) ∙ none_decoded _ _ _ (sym c.decode.ensures.value ∙ c.in_default.is))

pub follow-requires-clause-decoded : goal.follow-requires-clause-decoded
follow-requires-clause-decoded c =
    decoded_is c.args.subject.now c.args.at c.as_slice.result.now c.decode.result _ c.in-Ok.instruction c.operation-operation.result c.as_slice.ensures c.decode.ensures.value c.in-Ok.is
    c.in-Ok.ensures.bounds.1 c.in-Ok.ensures.entries c.operation-operation.ensures

pub returns-then-not-followed-clause-looked : goal.returns-then-not-followed-clause-looked
returns-then-not-followed-clause-looked c = rw c.if-not-followed.true at c.in_ok-followed.ensures.followed

pub handle-requires-clause-inference : goal.handle-requires-clause-inference
handle-requires-clause-inference c = let f = rw c.if-not-followed.false at c.in_ok-followed.ensures.followed in f.goes.inference

pub handle-requires-clause-stands : goal.handle-requires-clause-stands
handle-requires-clause-stands c =
    let f = rw c.if-not-followed.false at c.in_ok-followed.ensures.followed in
    stands_kept c.args.self.now.store _ c.args.subject.now.frame c.args.before f.goes.later c.requires.stands

pub handle-requires-clause-forced : goal.handle-requires-clause-forced
handle-requires-clause-forced c =
    let f = rw c.if-not-followed.false at c.in_ok-followed.ensures.followed in
    known_later c.args.subject.now c.args.self.now _ c.args.at c.args.before c.requires.inference f.goes c.requires.stands (c.requires.inference.inferred.forced c.args.at _ c.requires.known)

pub handle-requires-clause-quiet : goal.handle-requires-clause-quiet
handle-requires-clause-quiet c =
    let f = rw c.if-not-followed.false at c.in_ok-followed.ensures.followed in
    quiet_later c.args.subject.now c.args.self.now _ c.args.quiet.now c.requires.subject c.requires.inference f.goes c.requires.quiet

pub returns-clause-looked : goal.returns-clause-looked
returns-clause-looked c =
    IfOk-weaker c.handle.result _ _
    (λ handled h. quiet_looked c.args.subject.now c.args.self.now c.follow.new.self c.handle.new.self c.args.at c.args.before c.handle.new.quiet handled
    (looked c.args.subject.now c.args.self.now c.follow.new.self c.handle.new.self c.args.at c.args.before handled c.requires.subject c.requires.inference c.requires.stands
    (rw c.if-not-followed.false at c.in_ok-followed.ensures.followed)) h)
    c.handle.ensures
