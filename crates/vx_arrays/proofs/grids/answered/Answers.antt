use Rattle.std.proofs.Common.{◌≡◌, get_or, pos, rules, sym}
use Rattle.std.proofs.lemmas.Result.{IfOk-weaker}
use Rattle.std.proofs.Math.Facts.{to_z-of_z}
use Rattle.std.specs.Int.{w32}
use mir.Val.{SFits, of_z, to_z}
use Rattle.vx_cond.proofs.CondLaws.{AreDisjoint-extends, IsCond-extends}
use Rattle.vx_group_states.specs.Answers.{answer_cmp}
use Rattle.vx_heap.proofs.Known.{cond_known}
use Rattle.vx_space.proofs.Spaces.{Extends-trans}
use Rattle.vx_arrays.proofs.GridParts.{first_rest, rest_fits}
use Rattle.vx_arrays.proofs.MadeGrids.{AreGridsMade-parts, AreGridsMade-raised, lengths_fit}
use Rattle.vx_arrays.proofs.grids.answered.Goals as goal

pub returns-in-Some-clause-ok : goal.returns-in-Some-clause-ok
returns-in-Some-clause-ok g c =
    IfOk-weaker c.with_answer.result _ _ (λ r' h'. AreGridsMade-raised c.args.program.now c.args.class.0 c.args.refusals c.args.lengths.now c.in-Some.refusal c.with_answer.ensures.extends c.args.heap.now c.args.condition c.args.answers.now r' c.requires.refusals (sym c.in-Some.ensures) c.requires.heap c.requires.known c.requires.answers h')
    c.with_answer.ensures.ok

pub grid-requires-clause-deeper : goal.grid-requires-clause-deeper
grid-requires-clause-deeper g c = (rest_fits c.args.lengths.now (pos 0) c.in-len1-up.len_at_least (lengths_fit c.args.refusals c.args.lengths.now (sym c.in_default.ensures))).1

pub with_answer-requires-2-clause-answers : goal.with_answer-requires-2-clause-answers
with_answer-requires-2-clause-answers g c = IsCond-extends answer_cmp c.in_ok-array.ensures.extends c.args.answers.now c.requires.answers

pub with_answer-requires-2-clause-disjoint : goal.with_answer-requires-2-clause-disjoint
with_answer-requires-2-clause-disjoint g c = AreDisjoint-extends c.in_ok-array.ensures.extends (cond_known answer_cmp _ c.args.answers.now c.requires.answers).0 c.requires.known c.requires.disjoint

pub returns-clause-extends : goal.returns-clause-extends
returns-clause-extends g c = Extends-trans c.in_ok-array.ensures.extends c.with_answer-2.ensures.extends

pub returns-clause-ok : goal.returns-clause-ok
returns-clause-ok g c =
    IfOk-weaker c.with_answer-2.result _ _ (λ r' h'.
    let in_range : SFits w32 (get_or c.args.lengths.now 0 (pos 0)) = search rules in
    let first : to_z w32 (of_z w32 (get_or c.args.lengths.now 0 (pos 0))) ≡ get_or c.args.lengths.now 0 (pos 0) = to_z-of_z {w = w32} {z = get_or c.args.lengths.now 0 (pos 0)} in_range in
    AreGridsMade-parts c.args.program.now c.args.class.0 c.args.refusals (get_or c.args.lengths.now 0 (pos 0)) _ c.args.lengths.now c.in_ok-array.array c.in_ok-array.ensures.extends c.with_answer-2.ensures.extends c.args.heap.now c.grid.new.heap c.args.condition c.args.answers.now r' (first_rest c.args.lengths.now (pos 0) c.in-len1-up.len_at_least) (sym c.in_default.ensures) c.requires.known c.requires.answers (rw first at c.in_ok-array.ensures.ok) h')
    c.with_answer-2.ensures.ok
