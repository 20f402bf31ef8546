use Rattle.std.proofs.Common.{◌≡◌, ap, sym}
use Rattle.std.specs.Prelude.{Bool, List, true}
use Rattle.vx_cond.proofs.LeafLoops.{next_known}
use Rattle.vx_frames.proofs.TreeGathering.{IsGrowing-end, IsGrowing-start, IsGrowing-step}
use Rattle.vx_group.proofs.CallerLaws.{Keeps-trans}
use Rattle.vx_group.proofs.GroupLaws.{IsGroupIn-group}
use Rattle.vx_group_states.proofs.Gathering.{IsGathering-rest, leaf_value}
use Rattle.vx_java.specs.Machine.{State}
use Rattle.vx_space.proofs.Spaces.{Extends-refl, Extends-trans}
use Rattle.vx_invoke.specs.Called.{call_or_illegal, called_with}
use Rattle.vx_invoke.specs.Calls.{call_cmp}
use Rattle.vx_invoke.proofs.Parting.{leaf_enters, leaf_part_in}
use Rattle.vx_invoke.proofs.instances.called_parts.Goals as goal

pub loop-leaf-init : goal.loop-leaf-init
loop-leaf-init g c = rw c.new-outcomes.ensures (IsGrowing-start c.args.site.now.program.now _ c.args.callers.now c.args.group _ c.args.calls.now (IsGroupIn-group _ c.args.callers.now c.args.group c.requires.group))

pub split-requires-clause-group : goal.split-requires-clause-group
split-requires-clause-group g c = IsGathering-rest _ _ _ c.args.group _ _ c.args.calls.now _ _ _ c.loop-leaf.invariant.gathers

pub split-requires-clause-known : goal.split-requires-clause-known
split-requires-clause-known g c = next_known call_cmp c.args.calls.now _ c.leaf-item.result c.requires.leaves c.loop-leaf-test.true c.leaf-item.is c.loop-leaf.invariant.gathers.extends

pub called_part-requires-clause-group : goal.called_part-requires-clause-group
called_part-requires-clause-group g c = leaf_part_in call_cmp c.args.site.now.program.now c.args.callers.now c.loop-leaf.callers c.args.group _ c.args.calls.now c.loop-leaf.leaf-index c.leaf-item.result c.loop-leaf.rest c.in_ok-part.part _ c.requires.leaves c.requires.cover c.loop-leaf-test.true c.leaf-item.is c.requires.group c.loop-leaf.invariant c.in_ok-part.ensures.extends c.in_ok-part.ensures.inside

pub called_part-requires-clause-enter : goal.called_part-requires-clause-enter
called_part-requires-clause-enter g c = leaf_enters c.args.site.now.program.now (g.met.S.Space.lawful c.args.space.now) _ c.args.callers.now c.loop-leaf.callers c.args.group _ c.args.calls.now c.loop-leaf.leaf-index c.leaf-item.result c.loop-leaf.rest c.in_ok-part.part _ c.args.count c.requires.leaves c.requires.cover c.loop-leaf-test.true c.leaf-item.is c.requires.enter c.loop-leaf.invariant c.in_ok-part.ensures.inside

pub returns-in_err-part-clause-extends : goal.returns-in_err-part-clause-extends
returns-in_err-part-clause-extends g c = Extends-trans c.loop-leaf.invariant.gathers.extends c.split.ensures.extends

pub returns-in_err-made-clause-extends : goal.returns-in_err-made-clause-extends
returns-in_err-made-clause-extends g c = Extends-trans c.loop-leaf.invariant.gathers.extends c.in_ok-part.ensures.extends

pub returns-in_err-append-clause-extends : goal.returns-in_err-append-clause-extends
returns-in_err-append-clause-extends g c = Extends-trans c.loop-leaf.invariant.gathers.extends c.in_ok-part.ensures.extends

pub returns-in_err-made-clause-keeps : goal.returns-in_err-made-clause-keeps
returns-in_err-made-clause-keeps g c = Keeps-trans c.loop-leaf.invariant.keeps c.called_part.ensures.keeps

pub returns-in_err-append-clause-keeps : goal.returns-in_err-append-clause-keeps
returns-in_err-append-clause-keeps g c = Keeps-trans c.loop-leaf.invariant.keeps c.in_ok-made.ensures.keeps

pub loop-leaf-preserved : goal.loop-leaf-preserved
loop-leaf-preserved g c =
    let site = c.args.site.now in
    let calls = c.args.calls.now in
    let x = c.leaf-item.result in
    let start = g.S.Space.sets c.args.space.now in
    let law = λ (d : List Bool) (t : start.test x.condition d ≡ true) (s : State). ap (λ o. called_with site c.args.count (call_or_illegal o) s) (sym (leaf_value call_cmp start calls c.loop-leaf.leaf-index x d c.requires.leaves c.loop-leaf-test.true c.leaf-item.is t)) in
    rw c.in_ok-append.ensures.ok (IsGrowing-step call_cmp site.program.now c.args.callers.now c.loop-leaf.callers _ c.args.group _ (λ _ _. called_with site c.args.count x.value) calls c.loop-leaf.leaf-index x c.loop-leaf.rest _ _ _ _ c.requires.leaves c.requires.cover c.loop-leaf-test.true c.leaf-item.is (λ heap h. law) c.loop-leaf.invariant c.in_ok-part.ensures.extends c.in_ok-part.ensures.inside c.in_ok-part.ensures.outside (Extends-refl _) c.in_ok-made.ensures.keeps c.in_ok-made.ensures.gives)

pub returns-clause-extends : goal.returns-clause-extends
returns-clause-extends g c = c.loop-leaf.invariant.gathers.extends

pub returns-clause-keeps : goal.returns-clause-keeps
returns-clause-keeps g c = c.loop-leaf.invariant.keeps

pub returns-clause-gives : goal.returns-clause-gives
returns-clause-gives g c = λ heap. IsGrowing-end c.args.site.now.program.now c.args.callers.now c.loop-leaf.callers c.args.group _ c.args.calls.now _ c.loop-leaf.rest _ c.requires.cover c.loop-leaf.invariant c.loop-leaf-test.false heap
