use Rattle.std.proofs.Common.{◌∙◌, sym}
use Rattle.vx_space.proofs.Spaces.{Extends-trans}
use Rattle.vx_cond.proofs.LeafLoops.{next_known}
use Rattle.vx_group_states.specs.Answering.{answered_as}
use Rattle.vx_group_states.specs.Answers.{answer_cmp}
use Rattle.vx_group_states.proofs.Gathering.{IsGathering-end, IsGathering-inner, IsGathering-last, IsGathering-rest, IsGathering-start, IsGathering-step, leaf_inside, left_none, left_some, part_path}
use Rattle.vx_group_states.proofs.KindLaws.{IsReady-part, kind_held, kind_law}
use Rattle.vx_group_states.proofs.answering.answered_parts.Goals as goal

pub loop-leaf-init : goal.loop-leaf-init
loop-leaf-init g c = rw c.new-outcomes.ensures (IsGathering-start c.args.site.now.program.now _ c.args.group _ _ c.args.kinds.now c.requires.ready.is_group)

pub part_in-requires-clause-group : goal.part_in-requires-clause-group
part_in-requires-clause-group g c = IsGathering-rest _ _ _ c.args.group _ _ c.args.kinds.now _ _ _ c.loop-leaf.invariant

pub part_in-requires-clause-known : goal.part_in-requires-clause-known
part_in-requires-clause-known g c = next_known answer_cmp c.args.kinds.now _ c.leaf-item.result c.requires.kinds.are_leaves c.loop-leaf-test.true c.leaf-item.is c.loop-leaf.invariant.extends

pub answered_part-requires : goal.answered_part-requires
answered_part-requires g c = record { ready = IsReady-part c.args.site.now _ c.args.group _ c.args.taken c.args.answers.now (Extends-trans c.loop-leaf.invariant.extends c.in_ok-part.ensures.extends) c.requires.ready (leaf_inside _ _ c.args.kinds.now _ c.leaf-item.result c.requires.kinds.cover c.loop-leaf-test.true c.leaf-item.is) (IsGathering-inner answer_cmp c.args.site.now.program.now _ c.args.group _ _ c.args.kinds.now _ c.leaf-item.result c.loop-leaf.rest _ _ c.requires.kinds.are_leaves c.requires.kinds.cover c.loop-leaf-test.true c.leaf-item.is c.loop-leaf.invariant c.in_ok-part.ensures.inside) }

pub returns-in_err-part-clause-extends : goal.returns-in_err-part-clause-extends
returns-in_err-part-clause-extends g c = Extends-trans c.loop-leaf.invariant.extends c.part_in.ensures.extends

pub returns-in_err-made-clause-extends : goal.returns-in_err-made-clause-extends
returns-in_err-made-clause-extends g c = Extends-trans (Extends-trans c.loop-leaf.invariant.extends c.in_ok-part.ensures.extends) c.answered_part.ensures.extends

pub returns-in_err-append-clause-extends : goal.returns-in_err-append-clause-extends
returns-in_err-append-clause-extends g c = Extends-trans (Extends-trans c.loop-leaf.invariant.extends c.in_ok-part.ensures.extends) c.in_ok-made.ensures.extends

pub loop-leaf-preserved : goal.loop-leaf-preserved
loop-leaf-preserved g c =
    let site = c.args.site.now in
    let kinds = c.args.kinds.now in
    let answers = c.args.answers.now in
    let group = c.args.group in
    let x = c.leaf-item.result in
    let ready = c.requires.ready in
    let to2 = Extends-trans c.loop-leaf.invariant.extends c.in_ok-part.ensures.extends in
    let inside = leaf_inside _ _ kinds c.loop-leaf.leaf-index x c.requires.kinds.cover c.loop-leaf-test.true c.leaf-item.is in
    let inner = IsGathering-inner answer_cmp site.program.now _ group _ _ kinds c.loop-leaf.leaf-index x c.loop-leaf.rest _ _ c.requires.kinds.are_leaves c.requires.kinds.cover c.loop-leaf-test.true c.leaf-item.is c.loop-leaf.invariant c.in_ok-part.ensures.inside in
    rw c.in_ok-append.ensures.ok (IsGathering-step answer_cmp site.program.now group _ _ (answered_as site c.args.taken (g.S.Space.sets c.part_in.new.space) x.value answers) kinds c.loop-leaf.leaf-index x c.loop-leaf.rest _ _ _ _ c.requires.kinds.are_leaves c.requires.kinds.cover c.loop-leaf-test.true c.leaf-item.is (kind_law site c.args.taken to2 _ answers kinds c.loop-leaf.leaf-index x ready.are_answers c.requires.kinds c.loop-leaf-test.true c.leaf-item.is inside) c.loop-leaf.invariant c.in_ok-part.ensures.extends c.in_ok-part.ensures.inside (left_some _ _ c.loop-leaf.rest _ _ _ c.in-Some.is c.in_ok-part.ensures.left) c.in_ok-made.ensures.extends (λ heap tree q h later s. c.in_ok-made.ensures.gives heap (kind_held (g.met.S.Space.lawful c.args.space.now) to2 _ _ answers kinds c.loop-leaf.leaf-index x ready.are_answers c.requires.kinds c.loop-leaf-test.true c.leaf-item.is inside (λ d t. sym (part_path _ _ _ group _ inner d) ∙ t) heap h q) tree later s))

pub returns-clause-extends : goal.returns-clause-extends
returns-clause-extends g c = c.loop-leaf.invariant.extends

pub returns-clause-gives : goal.returns-clause-gives
returns-clause-gives g c = λ heap q tree h s. IsGathering-end c.args.site.now.program.now c.args.group _ _ c.args.kinds.now _ c.loop-leaf.rest _ c.requires.kinds.cover c.loop-leaf.invariant c.loop-leaf-test.false heap q tree h s

pub returns-in_default-clause-extends : goal.returns-in_default-clause-extends
returns-in_default-clause-extends g c = Extends-trans (Extends-trans c.loop-leaf.invariant.extends c.in_ok-part.ensures.extends) c.in_ok-made.ensures.extends

pub returns-in_default-clause-gives : goal.returns-in_default-clause-gives
returns-in_default-clause-gives g c = λ heap held tree h s.
    let site = c.args.site.now in
    let kinds = c.args.kinds.now in
    let answers = c.args.answers.now in
    let group = c.args.group in
    let x = c.leaf-item.result in
    let ready = c.requires.ready in
    let to2 = Extends-trans c.loop-leaf.invariant.extends c.in_ok-part.ensures.extends in
    let inside = leaf_inside _ _ kinds c.loop-leaf.leaf-index x c.requires.kinds.cover c.loop-leaf-test.true c.leaf-item.is in
    let inner = IsGathering-inner answer_cmp site.program.now _ group _ _ kinds c.loop-leaf.leaf-index x c.loop-leaf.rest _ _ c.requires.kinds.are_leaves c.requires.kinds.cover c.loop-leaf-test.true c.leaf-item.is c.loop-leaf.invariant c.in_ok-part.ensures.inside in
    rw c.in_ok-append.ensures.ok (IsGathering-last answer_cmp site.program.now group _ _ (answered_as site c.args.taken (g.S.Space.sets c.part_in.new.space) x.value answers) kinds c.loop-leaf.leaf-index x c.loop-leaf.rest _ _ _ c.requires.kinds.are_leaves c.requires.kinds.cover c.loop-leaf-test.true c.leaf-item.is (kind_law site c.args.taken to2 _ answers kinds c.loop-leaf.leaf-index x ready.are_answers c.requires.kinds c.loop-leaf-test.true c.leaf-item.is inside) c.loop-leaf.invariant (left_none _ _ c.loop-leaf.rest _ _ c.in_default.is c.in_ok-part.ensures.left) c.in_ok-part.ensures.extends c.in_ok-part.ensures.inside c.in_ok-made.ensures.extends (λ heap tree q h later s. c.in_ok-made.ensures.gives heap (kind_held (g.met.S.Space.lawful c.args.space.now) to2 _ _ answers kinds c.loop-leaf.leaf-index x ready.are_answers c.requires.kinds c.loop-leaf-test.true c.leaf-item.is inside (λ d t. sym (part_path _ _ _ group _ inner d) ∙ t) heap h q) tree later s) heap held tree h s)
