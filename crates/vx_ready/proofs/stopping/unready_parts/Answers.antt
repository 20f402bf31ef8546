use Rattle.std.proofs.Common.{◌≡◌, Bool, List, true, false, ap, sym}
use Rattle.vx_heap.specs.Heap.{HeapView}
use Rattle.vx_java.specs.Machine.{Begin, State, raise, when}
use Rattle.vx_group_states.specs.Sites.{here}
use Rattle.vx_group_states.proofs.Gathering.{IsPartOf-group}
use Rattle.vx_ready.proofs.Splitting.{split-gives}
use Rattle.vx_ready.proofs.stopping.unready_parts.Goals as goal

pub failed_part-requires-clause-group : goal.failed_part-requires-clause-group
failed_part-requires-clause-group g c = IsPartOf-group _ _ _ c.args.group _ c.in_ok-failing.ensures.inside

pub begun_part-requires : goal.begun_part-requires
begun_part-requires g c = IsPartOf-group _ _ _ c.args.group _ c.in_ok-failing.ensures.outside

pub returns-clause-gives : goal.returns-clause-gives
returns-clause-gives g c = λ heap.
    let site = c.args.site.now in
    let fails = (g.S.Space.sets c.args.space.now).test c.args.fails in
    let raised = λ (h : HeapView _ _) (d : List Bool) (s : State). raise (here site s) "java/lang/NoClassDefFoundError" in
    let begun = λ (h : HeapView _ _) (d : List Bool) (s : State). Begin c.args.class.0 s in
    let says = λ (h : HeapView _ _) (d : List Bool) (s : State). when (fails d) (raise (here site s) "java/lang/NoClassDefFoundError") (Begin c.args.class.0 s) in
    let first = λ (d : List Bool) (t : fails d ≡ true) (s : State). ap (λ b. when b (raise (here site s) "java/lang/NoClassDefFoundError") (Begin c.args.class.0 s)) (sym t) in
    let second = λ (d : List Bool) (t : fails d ≡ false) (s : State). ap (λ b. when b (raise (here site s) "java/lang/NoClassDefFoundError") (Begin c.args.class.0 s)) (sym t) in
    rw c.in_ok-append.ensures.ok (split-gives site.program.now fails c.args.group _ _ says raised begun _ _ heap c.in_ok-failing.ensures.extends c.in_ok-failing.ensures.inside c.in_ok-failing.ensures.outside first second (c.in_ok-outcomes.ensures heap) (c.in_ok-begun.ensures heap))
