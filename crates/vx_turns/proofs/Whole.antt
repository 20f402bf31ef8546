-- A whole round: from a state to the state after it.
use Rattle.std.proofs.Common.{◌≡◌, ℕ, ◌+◌, [], refl, sym, ◌∙◌, ap, subst, suc, arith}
use Rattle.vx_space.specs.Sets.{Sets, Extends, IsLawful}
use Rattle.vx_space.proofs.Spaces.{Extends-trans}
use Rattle.vx_cond.specs.Cond.{Conditional}
use Rattle.vx_group.specs.Group.{GroupView}
use Rattle.vx_heap.specs.Heap.{HeapView}
use Rattle.vx_heap.proofs.Known.{AreKept-extends}
use Rattle.vx_link.specs.declared.program.Program.{Program}
use Rattle.vx_placing.specs.declared.round.Round.{Round}
use Rattle.vx_standing.specs.Rounds.{IsRound}
use Rattle.vx_standing.specs.State.{IsState, StateView, shared_ids}
use Rattle.vx_turns.specs.Turns.{IsBegun, IsMade, IsSpent, put_back}
use Rattle.vx_turns.proofs.Closing.{IsState-closed, closed_standing, closed_state, closed_wrote, same_allowed}
use Rattle.vx_turns.proofs.Turning.{IsTurn}

-- ---- what was done

pub IsRound-closed : {S I : Type 0} (p : Program) {s1 s2 s3 : Sets I} → IsLawful s1 → (allowed : I) (st begun_st made_st final : StateView S I) (which : ℕ) (was : Round S I) (group spent_group : GroupView S I) (attempts : Conditional ℕ S I) (heap : HeapView S I) (round : Round S I) → IsTurn p s1 s2 s3 allowed st begun_st which was group spent_group attempts heap round → made_st ≡ record begun_st { heap = heap } → final ≡ put_back made_st round → IsRound p s1 s3 allowed st final group
IsRound-closed {S = S} {I = I} p {s1 = s1} {s3 = s3} l allowed st begun_st made_st final which was group spent_group attempts heap round t m c =
    subst (λ x. IsRound p s1 s3 allowed st x group) (sym final_is) (record {
      is_state = IsState-closed p allowed st begun_st which was group spent_group attempts heap round t l;
      kept = same_allowed p allowed st begun_st which was group spent_group attempts heap round t;
      options = t.later.options ∙ t.extends.options;
      limit = refl;
      rounds = one_more st.rounds;
      standing = closed_standing p allowed st begun_st which was group spent_group attempts heap round t;
      texts = round.texts.items;
      found = refl;
      earlier = AreKept-extends (Extends-trans t.extends t.later) (shared_ids st.found) t.state.found;
      are_texts = t.made.underway.texts;
      wrote = closed_wrote p allowed st begun_st which was group spent_group attempts heap round t;
    })
  where
    one_more : (n : ℕ) → n + 1 ≡ suc n
    one_more n = omega arith

    made_is : made_st ≡ record { heap = heap; tree = []; groups = []; limit = st.limit; rounds = st.rounds; found = st.found; ends = []; spent = [] }
    made_is = m ∙ ap (λ (x : StateView S I). record x { heap = heap }) t.begun.state

    final_is : final ≡ closed_state st heap round
    final_is = c ∙ ap {B = StateView S I} (λ (x : StateView S I). put_back x round) made_is

-- ---- the parts as the code has them

pub IsTurn-made : {S I : Type 0} (p : Program) {s1 s2 s3 : Sets I} (allowed : I) (st begun_st : StateView S I) (which : ℕ) (was : Round S I) (group spent_group : GroupView S I) (attempts : Conditional ℕ S I) (before heap : HeapView S I) (limit : ℕ) (round : Round S I) → IsState p s1 allowed st → IsBegun st begun_st which was group → Extends s1 s2 → IsSpent s1 s2 group spent_group attempts → Extends s2 s3 → before ≡ st.heap → limit ≡ st.limit → IsMade p s2 s3 before heap limit spent_group was round → IsTurn p s1 s2 s3 allowed st begun_st which was group spent_group attempts heap round
IsTurn-made {S = S} {I = I} p {s2 = s2} {s3 = s3} allowed st begun_st which was group spent_group attempts before heap limit round h b e q f same_heap same_limit m = record {
  state = h;
  begun = b;
  extends = e;
  spent = q;
  later = f;
  made = let P : HeapView S I → Type 0 = λ x. IsMade p s2 s3 x heap st.limit spent_group was round in
      let Q : ℕ → Type 0 = λ n. IsMade p s2 s3 before heap n spent_group was round in
      subst P same_heap (subst Q same_limit m);
}
