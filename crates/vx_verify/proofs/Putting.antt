-- Higher types at one position: what is known rises, and each typing has it still.
use Rattle.std.proofs.Common.{Bool, Option, Some, false, inl, inr, refl, subst, sym, true, ℕ, ◌⊎◌, ◌∙◌, ◌≡◌}
use Rattle.std.proofs.lemmas.Bool.Decides.{Decides-eqb}
use Rattle.std.specs.Prelude.{◌==◌}
use Rattle.vx_class.specs.declared.class_file.Code.{Code}
use Rattle.vx_link.specs.declared.program.Program.{Program}
use Rattle.vx_types.proofs.FitLaws.{state_itself}
use Rattle.vx_types.proofs.Tests.{not_both}
use Rattle.vx_types.specs.Fits.{StateFits}
use Rattle.vx_types.specs.Ranked.{IsRanked}
use Rattle.vx_types.specs.Types.{VerState}
use Rattle.vx_verify.proofs.Forcing.{same_some}
use Rattle.vx_verify.proofs.Inferring.{closed_raised, reached_raised}
use Rattle.vx_verify.specs.Forced.{IsForced}
use Rattle.vx_verify.specs.Inferred.{AreInferred, AreRaised, IsClosedAt}
use Rattle.vx_verify.specs.Typing.{AreOperands, IsReached, start_state}

-- one position has other types and a mark
pub record IsPutAt (known later : ℕ → Option VerState) (marked after : ℕ → Bool) (position : ℕ) (new : VerState) : Type 0 where
  pub here : later position ≡ Some new
  pub elsewhere : (q : ℕ) → ¬ (q ≡ position) → later q ≡ known q
  pub mark : after position ≡ true
  pub marks : (q : ℕ) → ¬ (q ≡ position) → after q ≡ marked q

pub is_or_not : (q position : ℕ) → (q ≡ position) ⊎ (¬ (q ≡ position))
is_or_not q position = by (q == position) refl
  where
    by : (b : Bool) → (q == position) ≡ b → (q ≡ position) ⊎ (¬ (q ≡ position))
    by true h = inl ((Decides-eqb q position).0 h)
    by false h = inr (λ e. not_both (q == position) ((Decides-eqb q position).1 e) h)

pub put_raised : (p : Program) → IsRanked p → (known later : ℕ → Option VerState) (marked after : ℕ → Bool) (position : ℕ) (new : VerState) → IsPutAt known later marked after position new
    → ((s : VerState) → known position ≡ Some s → StateFits p s new) → AreRaised p known later
put_raised p r known later marked after position new put above q s e = by (is_or_not q position)
  where
    by : (q ≡ position) ⊎ (¬ (q ≡ position)) → IsReached p later q s
    by (inl same) =
        subst (λ n. IsReached p later n s) (sym same)
        (record { state = new; covered = put.here; fitting = above s (subst (λ n. known n ≡ Some s) same e) })
    by (inr other) = record { state = s; covered = put.elsewhere q other ∙ e; fitting = state_itself p r s }

pub put_inferred : (p : Program) → IsRanked p → (m : ℕ) (code : Code) (known later : ℕ → Option VerState) (marked after : ℕ → Bool) (position : ℕ) (new : VerState)
    → IsPutAt known later marked after position new → AreRaised p known later → AreOperands code new → IsForced p m code position new → AreInferred p m code known marked
    → AreInferred p m code later after
put_inferred p r m code known later marked after position new put raised operands forced inferred = record {
  start = reached_raised p r known later 0 (start_state p m code) raised inferred.start;
  operands = λ q s e. are_operands q s e (is_or_not q position);
  forced = λ q s e. is_forced q s e (is_or_not q position);
  closed = λ q s e unmarked. is_closed q s e unmarked (is_or_not q position);
}
  where
    is_new : (q : ℕ) (s : VerState) → later q ≡ Some s → q ≡ position → new ≡ s
    is_new q s e same = same_some (sym put.here ∙ subst (λ n. later n ≡ Some s) same e)

    are_operands : (q : ℕ) (s : VerState) → later q ≡ Some s → (q ≡ position) ⊎ (¬ (q ≡ position)) → AreOperands code s
    are_operands q s e (inl same) = subst (λ (u : VerState). AreOperands code u) (is_new q s e same) operands
    are_operands q s e (inr other) = inferred.operands q s (sym (put.elsewhere q other) ∙ e)

    is_forced : (q : ℕ) (s : VerState) → later q ≡ Some s → (q ≡ position) ⊎ (¬ (q ≡ position)) → IsForced p m code q s
    is_forced q s e (inl same) =
        subst (λ n. IsForced p m code n s) (sym same) (subst (λ (u : VerState). IsForced p m code position u) (is_new q s e same) forced)
    is_forced q s e (inr other) = inferred.forced q s (sym (put.elsewhere q other) ∙ e)

    is_closed : (q : ℕ) (s : VerState) → later q ≡ Some s → after q ≡ false → (q ≡ position) ⊎ (¬ (q ≡ position)) → IsClosedAt p m code later q s
    is_closed q s e unmarked (inl same) = not_both (after position) put.mark (subst (λ n. after n ≡ false) same unmarked)
    is_closed q s e unmarked (inr other) =
        closed_raised p r m code known later q s raised (inferred.closed q s (sym (put.elsewhere q other) ∙ e) (sym (put.marks q other) ∙ unmarked))

-- a position loses its mark
pub unmarked_inferred : (p : Program) (m : ℕ) (code : Code) (known : ℕ → Option VerState) (marked after : ℕ → Bool) (position : ℕ) → ((q : ℕ) → ¬ (q ≡ position) → after q ≡ marked q)
    → ((s : VerState) → known position ≡ Some s → IsClosedAt p m code known position s) → AreInferred p m code known marked → AreInferred p m code known after
unmarked_inferred p m code known marked after position marks done inferred = record {
  start = inferred.start;
  operands = inferred.operands;
  forced = inferred.forced;
  closed = λ q s e unmarked. is_closed q s e unmarked (is_or_not q position);
}
  where
    is_closed : (q : ℕ) (s : VerState) → known q ≡ Some s → after q ≡ false → (q ≡ position) ⊎ (¬ (q ≡ position)) → IsClosedAt p m code known q s
    is_closed q s e unmarked (inl same) = subst (λ n. IsClosedAt p m code known n s) (sym same) (done s (subst (λ n. known n ≡ Some s) same e))
    is_closed q s e unmarked (inr other) = inferred.closed q s e (sym (marks q other) ∙ unmarked)
