use Rattle.std.proofs.Common.{◌∙◌, ap, subst, sym}
use Rattle.vx_cells.specs.Places.{place_cmp}
use Rattle.vx_cells.specs.Through.{IsGivenWhereCell, is_place_held}
use Rattle.vx_cells.specs.declared.place.Place.{Place}
use Rattle.vx_cells.specs.declared.place.Place.TheVariants as place
use Rattle.vx_cond.proofs.CondLaws.{IsCond-of}
use Rattle.vx_families.proofs.Operands.{one_answer}
use Rattle.vx_group_states.proofs.SettleLaws.{lifting_cond}
use Rattle.vx_group_states.specs.Answering.{answer_at}
use Rattle.vx_group_states.specs.Answers.{answer_cmp}
use Rattle.vx_group_states.specs.declared.answer.Answer.{Answer}
use Rattle.vx_group_states.specs.declared.answer.Answer.TheVariants as answer
use Rattle.vx_heap.proofs.HeapLaws.{IsHeap-extends, is_held-extends}
use Rattle.vx_heap.proofs.Known.{cond_known}
use Rattle.vx_space.proofs.Spaces.{Extends-trans}
use Rattle.vx_natives.specs.CallOrder.{call_cmp}
use Rattle.vx_natives.specs.Calls.{call_at, value_of_call}
use Rattle.vx_natives.specs.Cells.{cell_of, place_of}
use Rattle.vx_natives.specs.declared.call.Call.TheVariants.{Illegal}
use Rattle.vx_natives.proofs.Behaving.{mapped}
use Rattle.vx_natives.proofs.CellLaws.{cell_given, place_is_held, value_held, value_is}
use Rattle.vx_natives.proofs.cells.cells_given.Goals as goal

pub one-requires : goal.one-requires
one-requires g c = rw c.scope.ensures (cond_known place_cmp _ c.in_ok-places.places (lifting_cond place_cmp _ _ _ c.in_ok-places.places c.in_ok-places.ensures.ok)).0

pub given_at-requires-clause-heap : goal.given_at-requires-clause-heap
given_at-requires-clause-heap g c = IsHeap-extends c.in_ok-places.ensures.extends c.args.heap.now c.requires.heap

pub given_at-requires-clause-places : goal.given_at-requires-clause-places
given_at-requires-clause-places g c = lifting_cond place_cmp _ _ _ c.in_ok-places.places c.in_ok-places.ensures.ok

pub given_at-requires-clause-held : goal.given_at-requires-clause-held
given_at-requires-clause-held g c =
    let s0 = g.S.Space.sets c.args.space.now in
    let s1 = g.S.Space.sets c.map.new.space in
    let heap = c.args.heap.now in
    let calls = c.args.calls.now in
    let e = c.in_ok-places.ensures.extends in
    record {
      held = λ d t.
          let inside = sym (e.test calls.scope d (cond_known call_cmp s0 calls c.requires.calls).0) ∙ ap (λ i. s1.test i d) (sym c.in_ok-places.ensures.scope) ∙ t in
          let object = value_of_call c.args.is_second (call_at s0 calls d) in
          ap (is_place_held s1 heap d) (mapped Illegal place.Illegal call_cmp place_cmp s0 s1 calls c.in_ok-places.places _ (λ call. place_of (value_of_call c.args.is_second call) c.args.cell) (λ x a h. h) c.requires.calls c.in_ok-places.ensures.ok d inside)
          ∙ place_is_held s1 heap d object c.args.cell (is_held-extends e heap c.requires.heap d object ∙ value_held s0 heap d c.args.is_second (call_at s0 calls d) (c.requires.held.held d inside));
    }

pub given_at-requires-clause-answers : goal.given_at-requires-clause-answers
given_at-requires-clause-answers g c = IsCond-of answer_cmp _ _ c.in_ok-none.none c.in_ok-none.ensures.ok

pub given_at-requires-clause-scopes : goal.given_at-requires-clause-scopes
given_at-requires-clause-scopes g c = c.in_ok-none.ensures.scope ∙ c.scope.ensures

pub returns-clause-extends : goal.returns-clause-extends
returns-clause-extends g c = Extends-trans c.in_ok-places.ensures.extends c.in_ok-given.ensures.extends

pub returns-clause-cond : goal.returns-clause-cond
returns-clause-cond g c = c.in_ok-given.ensures.cond

pub returns-clause-scope : goal.returns-clause-scope
returns-clause-scope g c = c.in_ok-given.ensures.scope ∙ c.in_ok-places.ensures.scope

pub returns-clause-at : goal.returns-clause-at
returns-clause-at g c = λ d t.
    let s0 = g.S.Space.sets c.args.space.now in
    let s1 = g.S.Space.sets c.map.new.space in
    let s2 = g.S.Space.sets c.given_at.new.space in
    let heap = c.args.heap.now in
    let calls = c.args.calls.now in
    let places = c.in_ok-places.places in
    let e = c.in_ok-places.ensures.extends in
    let call = call_at s0 calls d in
    let object = value_of_call c.args.is_second call in
    let a = answer_at s2 c.in_ok-given.given d in
    let inside = ap (λ i. s1.test i d) c.in_ok-places.ensures.scope ∙ e.test calls.scope d (cond_known call_cmp s0 calls c.requires.calls).0 ∙ t in
    let there = mapped Illegal place.Illegal call_cmp place_cmp s0 s1 calls places _ (λ k. place_of (value_of_call c.args.is_second k) c.args.cell) (λ x y h. h) c.requires.calls c.in_ok-places.ensures.ok d t in
    let before = one_answer s1 places.scope answer.Pass c.in_ok-none.none (rw c.scope.ensures at c.in_ok-none.ensures.ok) d inside in
    let P : Place → Type 0 = λ p. IsGivenWhereCell s1 heap d p (answer_at s1 c.in_ok-none.none d) a in
    let Q : Answer → Type 0 = λ b. IsGivenWhereCell s1 heap d (place_of object c.args.cell) b a in
    let given = cell_given c.in_ok-given.ensures.extends heap (IsHeap-extends e heap c.requires.heap) d c.args.cell a object (subst Q before (subst P there (c.in_ok-given.ensures.at d inside))) in
    record { reading = given.0 ∙ ap (λ slot. cell_of s2 heap d slot c.args.cell) (value_is c.args.is_second call); held = given.1 }
