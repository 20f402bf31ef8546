use Rattle.std.proofs.lemmas.Result.{IfOk-weaker}
use Rattle.vx_families.proofs.AttemptLaws.{IsAttemptBy-is, IsGiven-is}
use Rattle.vx_java.specs.declared.operation.Operation.TheVariants.{GetStatic, PutStatic}
use Rattle.vx_fields.proofs.statics.attempt.Goals as goal

pub get_static-requires : goal.get_static-requires
get_static-requires g c = IsGiven-is c.args.site.now c.args.operation (GetStatic c.in-GetStatic.index) _ c.args.heap.now c.args.group c.in-GetStatic.is c.requires.given

pub put_static-requires : goal.put_static-requires
put_static-requires g c = IsGiven-is c.args.site.now c.args.operation (PutStatic c.in-PutStatic.index) _ c.args.heap.now c.args.group c.in-PutStatic.is c.requires.given

pub returns-in-GetStatic-clause-ok : goal.returns-in-GetStatic-clause-ok
returns-in-GetStatic-clause-ok g c =
    IfOk-weaker c.get_static.result _ _ (λ r' h'. IsAttemptBy-is c.args.site.now c.args.operation (GetStatic c.in-GetStatic.index) _ _ c.args.heap.now c.get_static.new.heap c.args.group _ c.in-GetStatic.is h')
    c.get_static.ensures.ok

pub returns-in-PutStatic-clause-ok : goal.returns-in-PutStatic-clause-ok
returns-in-PutStatic-clause-ok g c =
    IfOk-weaker c.put_static.result _ _ (λ r' h'. IsAttemptBy-is c.args.site.now c.args.operation (PutStatic c.in-PutStatic.index) _ _ c.args.heap.now c.put_static.new.heap c.args.group _ c.in-PutStatic.is h')
    c.put_static.ensures.ok
