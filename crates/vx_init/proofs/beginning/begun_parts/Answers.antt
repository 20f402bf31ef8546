use Rattle.std.proofs.Common.{◌≡◌, ap, sym}
use Rattle.std.specs.Prelude.{Bool, List, true}
use Rattle.vx_cond.proofs.LeafLoops.{next_known}
use Rattle.vx_frames.proofs.TreeGathering.{IsGrowing-end, IsGrowing-part, IsGrowing-start, IsGrowing-step}
use Rattle.vx_group.proofs.CallerLaws.{Keeps-trans}
use Rattle.vx_group.proofs.GroupLaws.{IsGroupIn-group}
use Rattle.vx_group_states.proofs.Gathering.{IsGathering-rest, leaf_value}
use Rattle.vx_java.specs.Machine.{State}
use Rattle.vx_space.proofs.Spaces.{Extends-refl, Extends-trans}
use Rattle.vx_init.specs.Rises.{rise_cmp}
use Rattle.vx_init.specs.Rising.{begun_by, rise_or_open}
use Rattle.vx_init.proofs.beginning.begun_parts.Goals as goal

pub loop-leaf-init : goal.loop-leaf-init
loop-leaf-init g c = rw c.new-outcomes.ensures (IsGrowing-start c.args.program.now _ c.args.callers.now c.args.group _ c.args.rises.now (IsGroupIn-group _ c.args.callers.now c.args.group c.requires.group))

pub split-requires-clause-group : goal.split-requires-clause-group
split-requires-clause-group g c = IsGathering-rest _ _ _ c.args.group _ _ c.args.rises.now _ _ _ c.loop-leaf.invariant.gathers

pub split-requires-clause-known : goal.split-requires-clause-known
split-requires-clause-known g c = next_known rise_cmp c.args.rises.now _ c.leaf-item.result c.requires.leaves c.loop-leaf-test.true c.leaf-item.is c.loop-leaf.invariant.gathers.extends

pub begun_part-requires-clause-group : goal.begun_part-requires-clause-group
begun_part-requires-clause-group g c = IsGrowing-part rise_cmp c.args.program.now c.args.callers.now c.loop-leaf.callers c.args.group _ c.args.rises.now c.loop-leaf.leaf-index c.leaf-item.result c.loop-leaf.rest c.in_ok-part.part _ c.requires.leaves c.requires.cover c.loop-leaf-test.true c.leaf-item.is c.requires.group c.loop-leaf.invariant c.in_ok-part.ensures.extends c.in_ok-part.ensures.inside

pub returns-in_err-part-clause-extends : goal.returns-in_err-part-clause-extends
returns-in_err-part-clause-extends g c = Extends-trans c.loop-leaf.invariant.gathers.extends c.split.ensures.extends

pub returns-in_err-made-clause-extends : goal.returns-in_err-made-clause-extends
returns-in_err-made-clause-extends g c = Extends-trans c.loop-leaf.invariant.gathers.extends c.in_ok-part.ensures.extends

pub returns-in_err-append-clause-extends : goal.returns-in_err-append-clause-extends
returns-in_err-append-clause-extends g c = Extends-trans c.loop-leaf.invariant.gathers.extends c.in_ok-part.ensures.extends

pub returns-in_err-made-clause-keeps : goal.returns-in_err-made-clause-keeps
returns-in_err-made-clause-keeps g c = Keeps-trans c.loop-leaf.invariant.keeps c.begun_part.ensures.keeps

pub returns-in_err-append-clause-keeps : goal.returns-in_err-append-clause-keeps
returns-in_err-append-clause-keeps g c = Keeps-trans c.loop-leaf.invariant.keeps c.in_ok-made.ensures.keeps

pub loop-leaf-preserved : goal.loop-leaf-preserved
loop-leaf-preserved g c =
    let p = c.args.program.now in
    let class = c.args.class.0 in
    let rises = c.args.rises.now in
    let x = c.leaf-item.result in
    let start = g.S.Space.sets c.args.space.now in
    let law = λ (d : List Bool) (t : start.test x.condition d ≡ true) (s : State). ap (λ o. begun_by p class (rise_or_open o) s) (sym (leaf_value rise_cmp start rises c.loop-leaf.leaf-index x d c.requires.leaves c.loop-leaf-test.true c.leaf-item.is t)) in
    rw c.in_ok-append.ensures.ok (IsGrowing-step rise_cmp p c.args.callers.now c.loop-leaf.callers _ c.args.group _ (λ _ _. begun_by p class x.value) rises c.loop-leaf.leaf-index x c.loop-leaf.rest _ _ _ _ c.requires.leaves c.requires.cover c.loop-leaf-test.true c.leaf-item.is (λ heap h. law) c.loop-leaf.invariant c.in_ok-part.ensures.extends c.in_ok-part.ensures.inside c.in_ok-part.ensures.outside (Extends-refl _) c.in_ok-made.ensures.keeps c.in_ok-made.ensures.gives)

pub returns-clause-extends : goal.returns-clause-extends
returns-clause-extends g c = c.loop-leaf.invariant.gathers.extends

pub returns-clause-keeps : goal.returns-clause-keeps
returns-clause-keeps g c = c.loop-leaf.invariant.keeps

pub returns-clause-gives : goal.returns-clause-gives
returns-clause-gives g c = λ heap. IsGrowing-end c.args.program.now c.args.callers.now c.loop-leaf.callers c.args.group _ c.args.rises.now _ c.loop-leaf.rest _ c.requires.cover c.loop-leaf.invariant c.loop-leaf-test.false heap
