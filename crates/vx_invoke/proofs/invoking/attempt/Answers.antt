use Rattle.std.proofs.lemmas.Result.{IfOk-weaker}
use Rattle.vx_ready.proofs.Given.{IsRunning-given}
use Rattle.vx_java.specs.Named.{in_bytes}
use Rattle.vx_invoke.proofs.References.{IsAttemptIn-call, clone-attempts, found-attempts, found_may_call, found_member, is_missing, member_at, missing-attempts, reference_at}
use Rattle.vx_invoke.proofs.invoking.attempt.Goals as goal

pub referenced-requires-clause-bounded : goal.referenced-requires-clause-bounded
referenced-requires-clause-bounded g c = c.requires.given.bounded

pub referenced-requires-clause-for_program : goal.referenced-requires-clause-for_program
referenced-requires-clause-for_program g c = c.requires.given.is_for

pub found_call-requires : goal.found_call-requires
found_call-requires g c =
    let site = c.args.site.now in
    let group = c.args.group in
    let top = c.top_frame.result.now in
    let class = c.class_of_method-class.result in
    let f = reference_at site group top class c.top_frame.ensures c.class_of_method-class.ensures c.in-Invoke.mode c.in-Invoke.index c.referenced.result c.referenced.ensures in
    let names = member_at site group top class c.top_frame.ensures c.class_of_method-class.ensures c.in-Invoke.index (in_bytes c.named_member-member.result) c.named_member-member.ensures in
    record {
      bounded = c.requires.given.bounded;
      is_heap = c.requires.given.is_heap;
      is_for = c.requires.given.is_for;
      stands = c.requires.stands;
      may_call = found_may_call site group top class c.top_frame.ensures c.class_of_method-class.ensures c.in-Invoke.mode c.in-Invoke.index c.referenced.result c.in-Found.named c.in-Found.resolved (in_bytes c.named_member-member.result) c.target_of-target.result f c.in-Found.is names c.target_of-target.ensures.target c.target_of-target.ensures.found.0 c.target_of-target.ensures.found.1;
    }

pub returns-in-Found-clause-ok : goal.returns-in-Found-clause-ok
returns-in-Found-clause-ok g c =
    let site = c.args.site.now in
    let group = c.args.group in
    let top = c.top_frame.result.now in
    let class = c.class_of_method-class.result in
    let m = in_bytes c.named_member-member.result in
    let f = reference_at site group top class c.top_frame.ensures c.class_of_method-class.ensures c.in-Invoke.mode c.in-Invoke.index c.referenced.result c.referenced.ensures in
    let names = member_at site group top class c.top_frame.ensures c.class_of_method-class.ensures c.in-Invoke.index m c.named_member-member.ensures in
    let member = found_member site group top class c.top_frame.ensures c.class_of_method-class.ensures c.in-Invoke.mode c.in-Invoke.index c.referenced.result c.in-Found.named c.in-Found.resolved m c.target_of-target.result f c.in-Found.is names c.target_of-target.ensures.target c.target_of-target.ensures.found.0 c.target_of-target.ensures.found.1 in
    IfOk-weaker c.found_call.result _ _ (λ r made. IsAttemptIn-call site c.args.operation c.in-Invoke.mode c.in-Invoke.index _ _ c.args.heap.now c.found_call.new.heap c.args.callers.now c.found_call.new.callers group r.items.items c.in-Invoke.is (found-attempts site group top class c.top_frame.ensures c.class_of_method-class.ensures c.in-Invoke.mode c.in-Invoke.index c.referenced.result c.in-Found.named c.in-Found.resolved m c.target_of-target.result f c.in-Found.is names c.target_of-target.ensures.target c.target_of-target.ensures.found.0 c.target_of-target.ensures.found.1 _ _ c.args.heap.now c.found_call.new.heap c.args.callers.now c.found_call.new.callers r.items.items (made m member))) c.found_call.ensures.ok

pub unresolved-requires-clause-classes : goal.unresolved-requires-clause-classes
unresolved-requires-clause-classes g c = c.requires.given.bounded.classes

pub unresolved-requires-clause-missing : goal.unresolved-requires-clause-missing
unresolved-requires-clause-missing g c = is_missing c.referenced.result c.in_default-referenced.not-Found c.in_default-referenced.not-Clone

pub returns-in_default-referenced-clause-ok : goal.returns-in_default-referenced-clause-ok
returns-in_default-referenced-clause-ok g c =
    let site = c.args.site.now in
    let group = c.args.group in
    let top = c.top_frame.result.now in
    let class = c.class_of_method-class.result in
    let m = in_bytes c.named_member-member.result in
    let f = reference_at site group top class c.top_frame.ensures c.class_of_method-class.ensures c.in-Invoke.mode c.in-Invoke.index c.referenced.result c.referenced.ensures in
    let names = member_at site group top class c.top_frame.ensures c.class_of_method-class.ensures c.in-Invoke.index m c.named_member-member.ensures in
    IfOk-weaker c.unresolved.result _ _ (λ r gives. IsAttemptIn-call site c.args.operation c.in-Invoke.mode c.in-Invoke.index _ _ c.args.heap.now c.args.heap.now c.args.callers.now c.args.callers.now group r.items.items c.in-Invoke.is (missing-attempts site c.args.operation _ c.args.heap.now c.args.callers.now group c.in-Invoke.mode c.in-Invoke.index c.referenced.result m r.items.items c.requires.given c.requires.stands f names (gives c.in-Invoke.mode _))) c.unresolved.ensures

pub clone_arrays-requires : goal.clone_arrays-requires
clone_arrays-requires g c = record { running = IsRunning-given c.args.site.now c.args.operation _ c.args.heap.now c.args.group c.requires.given }

pub returns-in-Clone-clause-ok : goal.returns-in-Clone-clause-ok
returns-in-Clone-clause-ok g c =
    IfOk-weaker c.clone_arrays.result _ _ (λ r' h'.
    let site = c.args.site.now in
    let group = c.args.group in
    let f = reference_at site group c.top_frame.result.now c.class_of_method-class.result c.top_frame.ensures c.class_of_method-class.ensures c.in-Invoke.mode c.in-Invoke.index c.referenced.result c.referenced.ensures in
    IsAttemptIn-call site c.args.operation c.in-Invoke.mode c.in-Invoke.index _ _ c.args.heap.now c.clone_arrays.new.heap c.args.callers.now c.args.callers.now group _ c.in-Invoke.is (clone-attempts site _ _ c.args.heap.now c.clone_arrays.new.heap c.args.callers.now group c.in-Invoke.mode c.in-Invoke.index c.referenced.result c.in-Clone.field-0 _ c.requires.stands f c.in-Clone.is (λ m sound. h' c.in-Invoke.mode m c.in-Clone.field-0 sound)))
    c.clone_arrays.ensures.ok
