use Rattle.std.proofs.Common.{◌≡◌, Bool, List, true, false, ap, sym, ◌∙◌}
use Rattle.vx_heap.specs.Heap.{HeapView}
use Rattle.vx_java.specs.Machine.{Begin, State, illegal, raise, when}
use Rattle.vx_space.proofs.Spaces.{Extends-refl, Extends-trans}
use Rattle.vx_group_states.specs.Sites.{here}
use Rattle.vx_group_states.proofs.Gathering.{IsPartOf-group}
use Rattle.vx_ready.specs.Initialising.{stopped, stopped_by}
use Rattle.vx_ready.proofs.Splitting.{GivesAt-later, split-gives}
use Rattle.vx_ready.proofs.stopping.stopped_parts.Goals as goal

pub ended_part-requires : goal.ended_part-requires
ended_part-requires g c = IsPartOf-group _ _ _ c.args.group _ c.in_ok-needing.ensures.outside

pub unready_parts-requires-clause-group : goal.unready_parts-requires-clause-group
unready_parts-requires-clause-group g c = IsPartOf-group _ _ _ c.args.group _ c.in_ok-needing.ensures.inside

pub unready_parts-requires-clause-fails : goal.unready_parts-requires-clause-fails
unready_parts-requires-clause-fails g c = c.in_ok-needing.ensures.extends.known c.args.fails c.requires.fails

pub returns-in_err-append-clause-extends : goal.returns-in_err-append-clause-extends
returns-in_err-append-clause-extends g c = Extends-trans c.in_ok-needing.ensures.extends c.in_ok-outcomes.ensures.extends

pub returns-clause-extends : goal.returns-clause-extends
returns-clause-extends g c = Extends-trans c.in_ok-needing.ensures.extends c.in_ok-outcomes.ensures.extends

pub returns-clause-gives : goal.returns-clause-gives
returns-clause-gives g c = λ heap.
    let site = c.args.site.now in
    let start = g.S.Space.sets c.args.space.now in
    let later = g.S.Space.sets c.split.new.space in
    let needs = start.test c.args.needs in
    let unready = λ (h : HeapView _ _) (d : List Bool) (s : State). when (later.test c.args.fails d) (raise (here site s) "java/lang/NoClassDefFoundError") (Begin c.args.class.0 s) in
    let ended = λ (h : HeapView _ _) (d : List Bool) (s : State). illegal (here site s) in
    let first = λ (d : List Bool) (t : needs d ≡ true) (s : State). ap (λ b. when b (raise (here site s) "java/lang/NoClassDefFoundError") (Begin c.args.class.0 s)) (c.in_ok-needing.ensures.extends.test c.args.fails d c.requires.fails) ∙ ap (λ b. stopped (here site s) c.args.class.0 b (start.test c.args.fails d)) (sym t) in
    let second = λ (d : List Bool) (t : needs d ≡ false) (s : State). ap (λ b. stopped (here site s) c.args.class.0 b (start.test c.args.fails d)) (sym t) in
    rw c.in_ok-append.ensures.ok (split-gives site.program.now needs c.args.group _ _ (stopped_by site c.args.class.0 start c.args.needs c.args.fails) unready ended _ _ heap c.in_ok-needing.ensures.extends c.in_ok-needing.ensures.inside c.in_ok-needing.ensures.outside first second (c.in_ok-outcomes.ensures.gives heap) (GivesAt-later site.program.now later ended _ _ heap (Extends-refl later) c.in_ok-outcomes.ensures.extends (c.in_ok-ended.ensures heap)))
