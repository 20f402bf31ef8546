use Rattle.std.proofs.Common.{◌≡◌, ap, sym}
use Rattle.std.specs.Ordering.{bool_cmp}
use Rattle.std.specs.Prelude.{unwrap_or, Bool, List, false}
use Rattle.vx_space.proofs.Spaces.{Extends-refl, Extends-trans}
use Rattle.vx_cond.proofs.LeafLoops.{next_known}
use Rattle.vx_java.specs.Machine.{State, go, illegal, when}
use Rattle.vx_group_states.specs.Sites.{here}
use Rattle.vx_group_states.proofs.EndingLaws.{HasPast-part}
use Rattle.vx_group_states.proofs.Gathering.{IsGathering-end, IsGathering-last, IsGathering-past, IsGathering-rest, IsGathering-start, IsGathering-step, IsPartOf-group, leaf_value, left_none, left_some}
use Rattle.vx_group_states.proofs.passing.pass_where.Goals as goal

pub loop-leaf-init : goal.loop-leaf-init
loop-leaf-init g c = rw c.new-outcomes.ensures (IsGathering-start c.args.site.now.program.now _ c.args.group _ _ c.args.holds.now c.requires.group)

pub part_in-requires-clause-group : goal.part_in-requires-clause-group
part_in-requires-clause-group g c = IsGathering-rest _ _ _ c.args.group _ _ c.args.holds.now _ _ _ c.loop-leaf.invariant

pub part_in-requires-clause-known : goal.part_in-requires-clause-known
part_in-requires-clause-known g c = next_known bool_cmp c.args.holds.now _ c.leaf-item.result c.requires.leaves c.loop-leaf-test.true c.leaf-item.is c.loop-leaf.invariant.extends

pub passed_part-requires-clause-group : goal.passed_part-requires-clause-group
passed_part-requires-clause-group g c = IsPartOf-group _ _ _ c.loop-leaf.rest _ c.in_ok-part.ensures.inside

pub passed_part-requires-clause-past : goal.passed_part-requires-clause-past
passed_part-requires-clause-past g c = HasPast-part c.args.site.now _ _ _ c.loop-leaf.rest _ c.in_ok-part.ensures.inside (IsGathering-past c.args.site.now _ _ _ c.args.group _ _ c.args.holds.now _ _ _ c.loop-leaf.invariant c.requires.past)

pub returns-in_err-part-clause-extends : goal.returns-in_err-part-clause-extends
returns-in_err-part-clause-extends g c = Extends-trans c.loop-leaf.invariant.extends c.part_in.ensures.extends

pub returns-in_err-made-clause-extends : goal.returns-in_err-made-clause-extends
returns-in_err-made-clause-extends g c = Extends-trans c.loop-leaf.invariant.extends c.in_ok-part.ensures.extends

pub returns-in_err-append-clause-extends : goal.returns-in_err-append-clause-extends
returns-in_err-append-clause-extends g c = Extends-trans c.loop-leaf.invariant.extends c.in_ok-part.ensures.extends

pub loop-leaf-preserved : goal.loop-leaf-preserved
loop-leaf-preserved g c =
    let site = c.args.site.now in
    let holds = c.args.holds.now in
    let x = c.leaf-item.result in
    let start = g.S.Space.sets c.args.space.now in
    let law = λ (d : List Bool) (t : start.test x.condition d ≡ Rattle.std.specs.Prelude.true) (s : State). ap (λ o. when (unwrap_or o false) (go (here site s) s.top.operands) (illegal (here site s))) (sym (leaf_value bool_cmp start holds c.loop-leaf.leaf-index x d c.requires.leaves c.loop-leaf-test.true c.leaf-item.is t)) in
    rw c.in_ok-append.ensures.ok (IsGathering-step bool_cmp site.program.now c.args.group _ _ (λ _ _ s. when x.value (go (here site s) s.top.operands) (illegal (here site s))) holds c.loop-leaf.leaf-index x c.loop-leaf.rest _ _ _ _ c.requires.leaves c.requires.cover c.loop-leaf-test.true c.leaf-item.is (λ heap h. law) c.loop-leaf.invariant c.in_ok-part.ensures.extends c.in_ok-part.ensures.inside (left_some _ _ c.loop-leaf.rest _ _ _ c.in-Some.is c.in_ok-part.ensures.left) (Extends-refl _) (λ heap tree q h later s. c.in_ok-made.ensures heap tree later s))

pub returns-clause-extends : goal.returns-clause-extends
returns-clause-extends g c = c.loop-leaf.invariant.extends

pub returns-clause-gives : goal.returns-clause-gives
returns-clause-gives g c = λ heap tree h s. IsGathering-end c.args.site.now.program.now c.args.group _ _ c.args.holds.now _ c.loop-leaf.rest _ c.requires.cover c.loop-leaf.invariant c.loop-leaf-test.false heap tt tree h s

pub returns-in_default-clause-extends : goal.returns-in_default-clause-extends
returns-in_default-clause-extends g c = Extends-trans c.loop-leaf.invariant.extends c.in_ok-part.ensures.extends

pub returns-in_default-clause-gives : goal.returns-in_default-clause-gives
returns-in_default-clause-gives g c = λ heap tree h s.
    let site = c.args.site.now in
    let holds = c.args.holds.now in
    let x = c.leaf-item.result in
    let start = g.S.Space.sets c.args.space.now in
    let law = λ (d : List Bool) (t : start.test x.condition d ≡ Rattle.std.specs.Prelude.true) (s : State). ap (λ o. when (unwrap_or o false) (go (here site s) s.top.operands) (illegal (here site s))) (sym (leaf_value bool_cmp start holds c.loop-leaf.leaf-index x d c.requires.leaves c.loop-leaf-test.true c.leaf-item.is t)) in
    rw c.in_ok-append.ensures.ok (IsGathering-last bool_cmp site.program.now c.args.group _ _ (λ _ _ s. when x.value (go (here site s) s.top.operands) (illegal (here site s))) holds c.loop-leaf.leaf-index x c.loop-leaf.rest _ _ _ c.requires.leaves c.requires.cover c.loop-leaf-test.true c.leaf-item.is (λ heap h. law) c.loop-leaf.invariant (left_none _ _ c.loop-leaf.rest _ _ c.in_default.is c.in_ok-part.ensures.left) c.in_ok-part.ensures.extends c.in_ok-part.ensures.inside (Extends-refl _) (λ heap tree q h later s. c.in_ok-made.ensures heap tree later s) heap tt tree h s)
