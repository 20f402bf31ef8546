use Rattle.std.proofs.Common.{refl, rules}
use Rattle.std.proofs.lemmas.Result.{IfOk-weaker}
use Rattle.std.proofs.Math.Facts.{to_z-of_z}
use Rattle.std.specs.Int.{w32, w64}
use mir.Val.{SFits}
use Rattle.vx_space.proofs.Spaces.{Extends-refl}
use Rattle.vx_java.specs.declared.operation.Operation.TheVariants.{Increase, Load, Nop, PushEntry, PushInt, PushLong, PushNull, Store}
use Rattle.vx_families.specs.Attempts.{row_by}
use Rattle.vx_families.proofs.AttemptLaws.{AttemptsBy-gives, IsAttemptBy-is}
use Rattle.vx_locals.proofs.family.attempt.Goals as goal

pub returns-in_ok-passed-in-Nop-clause-ok : goal.returns-in_ok-passed-in-Nop-clause-ok
returns-in_ok-passed-in-Nop-clause-ok g c =
    let heap = c.args.heap.now in
    IsAttemptBy-is c.args.site.now c.args.operation Nop _ _ heap heap c.args.group _ c.in-Nop.is (AttemptsBy-gives c.args.site.now c.args.operation (row_by c.args.site.now Nop) heap c.args.group _ (Extends-refl _) c.requires.given (c.in_ok-passed-in-Nop.ensures heap))

pub returns-in-PushNull-clause-ok : goal.returns-in-PushNull-clause-ok
returns-in-PushNull-clause-ok g c =
    IfOk-weaker c.push_constant.result _ _ (λ r' h'.
    let heap = c.args.heap.now in
    IsAttemptBy-is c.args.site.now c.args.operation PushNull _ _ heap heap c.args.group _ c.in-PushNull.is (AttemptsBy-gives c.args.site.now c.args.operation (row_by c.args.site.now PushNull) heap c.args.group _ (c.push_constant.ensures.extends) c.requires.given (h' heap (λ d t. refl))))
    c.push_constant.ensures.gives

pub returns-in-PushInt-clause-ok : goal.returns-in-PushInt-clause-ok
returns-in-PushInt-clause-ok g c =
    IfOk-weaker c.push_constant-in-PushInt.result _ _ (λ r' h'.
    let heap = c.args.heap.now in
    let fits : SFits w32 c.in-PushInt.n = search rules in
    let same = to_z-of_z {w = w32} {z = c.in-PushInt.n} fits in
    IsAttemptBy-is c.args.site.now c.args.operation (PushInt c.in-PushInt.n) _ _ heap heap c.args.group _ c.in-PushInt.is (AttemptsBy-gives c.args.site.now c.args.operation (row_by c.args.site.now (PushInt c.in-PushInt.n)) heap c.args.group _ (c.push_constant-in-PushInt.ensures.extends) c.requires.given (rw same at (h' heap (λ d t. refl)))))
    c.push_constant-in-PushInt.ensures.gives

pub returns-in-PushLong-clause-ok : goal.returns-in-PushLong-clause-ok
returns-in-PushLong-clause-ok g c =
    IfOk-weaker c.push_constant-in-PushLong.result _ _ (λ r' h'.
    let heap = c.args.heap.now in
    let fits : SFits w64 c.in-PushLong.n = search rules in
    let same = to_z-of_z {w = w64} {z = c.in-PushLong.n} fits in
    IsAttemptBy-is c.args.site.now c.args.operation (PushLong c.in-PushLong.n) _ _ heap heap c.args.group _ c.in-PushLong.is (AttemptsBy-gives c.args.site.now c.args.operation (row_by c.args.site.now (PushLong c.in-PushLong.n)) heap c.args.group _ (c.push_constant-in-PushLong.ensures.extends) c.requires.given (rw same at (h' heap (λ d t. refl)))))
    c.push_constant-in-PushLong.ensures.gives

pub returns-in-PushEntry-clause-ok : goal.returns-in-PushEntry-clause-ok
returns-in-PushEntry-clause-ok g c =
    IfOk-weaker c.push_entry.result _ _ (λ r' h'.
    let heap = c.args.heap.now in
    IsAttemptBy-is c.args.site.now c.args.operation (PushEntry c.in-PushEntry.index) _ _ heap heap c.args.group _ c.in-PushEntry.is (AttemptsBy-gives c.args.site.now c.args.operation (row_by c.args.site.now (PushEntry c.in-PushEntry.index)) heap c.args.group _ (c.push_entry.ensures.extends) c.requires.given (h')))
    c.push_entry.ensures.gives

pub returns-in-Load-clause-ok : goal.returns-in-Load-clause-ok
returns-in-Load-clause-ok g c =
    IfOk-weaker c.load.result _ _ (λ r' h'.
    let heap = c.args.heap.now in
    IsAttemptBy-is c.args.site.now c.args.operation (Load c.in-Load.sort c.in-Load.place) _ _ heap heap c.args.group _ c.in-Load.is (AttemptsBy-gives c.args.site.now c.args.operation (row_by c.args.site.now (Load c.in-Load.sort c.in-Load.place)) heap c.args.group _ (c.load.ensures.extends) c.requires.given (h' heap)))
    c.load.ensures.gives

pub returns-in-Store-clause-ok : goal.returns-in-Store-clause-ok
returns-in-Store-clause-ok g c =
    IfOk-weaker c.store.result _ _ (λ r' h'.
    let heap = c.args.heap.now in
    IsAttemptBy-is c.args.site.now c.args.operation (Store c.in-Store.sort c.in-Store.place) _ _ heap heap c.args.group _ c.in-Store.is (AttemptsBy-gives c.args.site.now c.args.operation (row_by c.args.site.now (Store c.in-Store.sort c.in-Store.place)) heap c.args.group _ (c.store.ensures.extends) c.requires.given (h' heap)))
    c.store.ensures.gives

pub returns-in-Increase-clause-ok : goal.returns-in-Increase-clause-ok
returns-in-Increase-clause-ok g c =
    IfOk-weaker c.increase.result _ _ (λ r' h'.
    let heap = c.args.heap.now in
    let fits : SFits w32 c.in-Increase.by = search rules in
    let same = to_z-of_z {w = w32} {z = c.in-Increase.by} fits in
    IsAttemptBy-is c.args.site.now c.args.operation (Increase c.in-Increase.place c.in-Increase.by) _ _ heap heap c.args.group _ c.in-Increase.is (AttemptsBy-gives c.args.site.now c.args.operation (row_by c.args.site.now (Increase c.in-Increase.place c.in-Increase.by)) heap c.args.group _ (c.increase.ensures.extends) c.requires.given (rw same at (h' heap))))
    c.increase.ensures.gives
