use Rattle.std.proofs.lemmas.Result.{IfOk-weaker}
use Rattle.vx_families.proofs.AttemptLaws.{AttemptsIn-by, IsAttemptBy-is, IsGiven-is}
use Rattle.vx_families.specs.Attempts.{row_by}
use Rattle.vx_java.specs.declared.operation.Operation.TheVariants.{Throw}
use Rattle.vx_attempt.proofs.Throws.{is_throw_alone}
use Rattle.vx_attempt.proofs.attempting.by_family.Goals as goal

pub returns-in-Numbers-clause-ok : goal.returns-in-Numbers-clause-ok
returns-in-Numbers-clause-ok g c = IfOk-weaker c.attempt.result _ _ (λ r h. AttemptsIn-by c.args.site.now (row_by c.args.site.now c.args.operation) _ _ c.args.heap.now _ c.args.callers.now c.args.group r.items.items c.requires.stands h) c.attempt.ensures.ok

pub returns-in-Locals-clause-ok : goal.returns-in-Locals-clause-ok
returns-in-Locals-clause-ok g c = IfOk-weaker c.attempt-in-Locals.result _ _ (λ r h. AttemptsIn-by c.args.site.now (row_by c.args.site.now c.args.operation) _ _ c.args.heap.now _ c.args.callers.now c.args.group r.items.items c.requires.stands h) c.attempt-in-Locals.ensures.ok

pub returns-in-Forms-clause-ok : goal.returns-in-Forms-clause-ok
returns-in-Forms-clause-ok g c = IfOk-weaker c.attempt-in-Forms.result _ _ (λ r h. AttemptsIn-by c.args.site.now (row_by c.args.site.now c.args.operation) _ _ c.args.heap.now _ c.args.callers.now c.args.group r.items.items c.requires.stands h) c.attempt-in-Forms.ensures.ok

pub returns-in-Statics-clause-ok : goal.returns-in-Statics-clause-ok
returns-in-Statics-clause-ok g c = IfOk-weaker c.attempt-in-Statics.result _ _ (λ r h. AttemptsIn-by c.args.site.now (row_by c.args.site.now c.args.operation) _ _ c.args.heap.now _ c.args.callers.now c.args.group r.items.items c.requires.stands h) c.attempt-in-Statics.ensures.ok

pub returns-in-Objects-clause-ok : goal.returns-in-Objects-clause-ok
returns-in-Objects-clause-ok g c = IfOk-weaker c.attempt-in-Objects.result _ _ (λ r h. AttemptsIn-by c.args.site.now (row_by c.args.site.now c.args.operation) _ _ c.args.heap.now _ c.args.callers.now c.args.group r.items.items c.requires.stands h) c.attempt-in-Objects.ensures.ok

pub returns-in-Arrays-clause-ok : goal.returns-in-Arrays-clause-ok
returns-in-Arrays-clause-ok g c = IfOk-weaker c.attempt-in-Arrays.result _ _ (λ r h. AttemptsIn-by c.args.site.now (row_by c.args.site.now c.args.operation) _ _ c.args.heap.now _ c.args.callers.now c.args.group r.items.items c.requires.stands h) c.attempt-in-Arrays.ensures.ok

pub attempt-requires-in-Throws : goal.attempt-requires-in-Throws
attempt-requires-in-Throws g c = record { given = IsGiven-is c.args.site.now c.args.operation Throw (g.S.Space.sets c.args.space.now) c.args.heap.now c.args.group (is_throw_alone c.args.operation (rw c.in-Throws.is at c.requires.family)) c.requires.given }

pub returns-in-Throws-clause-ok : goal.returns-in-Throws-clause-ok
returns-in-Throws-clause-ok g c =
    let old = g.S.Space.sets c.args.space.now in
    let new = g.S.Space.sets c.attempt-in-Throws.new.space in
    let same = is_throw_alone c.args.operation (rw c.in-Throws.is at c.requires.family) in
    IfOk-weaker c.attempt-in-Throws.result _ _ (λ r h. AttemptsIn-by c.args.site.now (row_by c.args.site.now c.args.operation) old new c.args.heap.now c.args.heap.now c.args.callers.now c.args.group r.items.items c.requires.stands (IsAttemptBy-is c.args.site.now c.args.operation Throw old new c.args.heap.now c.args.heap.now c.args.group r.items.items same h)) c.attempt-in-Throws.ensures.ok
