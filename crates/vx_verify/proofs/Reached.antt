-- An inference after a position was given higher types: it keeps what it kept, and the position is reached.
use Rattle.std.proofs.Common.{List, None, Option, Some, [], ap, length, length-set, subst, sym, true, ℕ, inl, inr, ◌<◌, ◌⊎◌, ◌∙◌, ◌∷◌, ◌≡◌}
use Rattle.std.specs.BTreeSet.{Updates}
use Rattle.std.specs.List.{AllZip}
use Rattle.std.specs.Ordering.{nat_cmp}
use Rattle.std.specs.Prelude.{slice_set}
use Rattle.vx_class.specs.declared.class_file.Catch.{Catch}
use Rattle.vx_link.specs.declared.program.Program.{Program}
use Rattle.vx_list.specs.Places.{item_or}
use Rattle.vx_types.specs.Fits.{StateFits}
use Rattle.vx_types.specs.Types.{VerState}
use Rattle.vx_verify.proofs.Forcing.{same_some}
use Rattle.vx_verify.proofs.Known.{item_set_elsewhere, item_set_here, known_put}
use Rattle.vx_verify.proofs.Marks.{marks_within}
use Rattle.vx_verify.proofs.Putting.{IsPutAt, is_or_not, put_inferred, put_raised}
use Rattle.vx_verify.proofs.StoreLaws.{operands_kept, stack_kept, stands_kept}
use Rattle.vx_verify.specs.Forced.{IsForced}
use Rattle.vx_verify.specs.Inference.{Goes, IsCaught, IsInference, IsSubject, known_of, marked_of, state_of}
use Rattle.vx_verify.specs.States.{IsLater, IsStore, Stands, state_at}
use Rattle.vx_verify.specs.Typing.{AreOperands}
use Rattle.vx_verify.specs.declared.inference.Inference.{Inference}
use Rattle.vx_verify.specs.declared.inference.Subject.{Subject}
use Rattle.vx_verify.specs.declared.rows.State.{State}
use Rattle.vx_verify.specs.declared.store.Store.{Store}

pub caught_kept : (p : Program) (m : ℕ) (s t : Store) → IsStore s → IsLater s t → (rows : List Catch) (caught : List ℕ) → AllZip (IsCaught p m s) rows caught → AllZip (IsCaught p m t) rows caught
caught_kept p m s t is later [] [] h = tt
caught_kept p m s t is later (row ∷ rows) (stack ∷ caught) h =
    ((stack_kept s t stack later h.0.0, operands_kept s t stack is later h.0.0 ∙ h.0.1), caught_kept p m s t is later rows caught h.1)
caught_kept p m s t is later [] (stack ∷ caught) h = absurd h
caught_kept p m s t is later (row ∷ rows) [] h = absurd h

-- what stands for a row past the last one
abbrev pub no_row : Catch
no_row = record { start = 0; end = 0; handler = 0; class = 0 }

-- the states and the marks of an inference after a position was put
pub record IsPutIn (s : Subject) (i j : Inference) (position : ℕ) (made : State) : Type 0 where
  pub states : j.states.items ≡ slice_set i.states.items position (Some made)
  pub marks : Updates nat_cmp i.marked j.marked position true
  pub caught : j.caught.items ≡ i.caught.items
  pub within : position < length s.code.now.bytes
  pub later : IsLater i.store j.store
  pub stands : Stands j.store s.frame made
  pub operands : AreOperands s.code.now (state_at j.store s.frame made)
  pub forced : IsForced s.program.now s.method.0 s.code.now position (state_at j.store s.frame made)
  pub above : (u : VerState) → known_of s i position ≡ Some u → StateFits s.program.now u (state_at j.store s.frame made)

stands_after : (s : Subject) (i j : Inference) (position : ℕ) (made : State) → IsInference s i → IsPutIn s i j position made → (q : ℕ) (state : State) → state_of j q ≡ Some state
    → Stands j.store s.frame state
stands_after s i j position made is put q state e = by (is_or_not q position)
  where
    at : (n : ℕ) → state_of j n ≡ item_or (slice_set i.states.items position (Some made)) n None
    at n = ap (λ (xs : List (Option State)). item_or xs n None) put.states

    within : position < length i.states.items
    within = subst (λ n. position < n) (sym is.states) put.within

    by : (q ≡ position) ⊎ (¬ (q ≡ position)) → Stands j.store s.frame state
    by (inl same) =
        let here : Some made ≡ Some state = sym (at position ∙ item_set_here i.states.items position (Some made) None within) ∙ subst (λ n. state_of j n ≡ Some state) same e in
        subst (λ (x : State). Stands j.store s.frame x) (same_some here) put.stands
    by (inr other) =
        stands_kept i.store j.store s.frame state put.later
        (is.stands q state (sym (at q ∙ item_set_elsewhere i.states.items position q (Some made) None other) ∙ e))

pub put_goes : (s : Subject) (i j : Inference) (position : ℕ) (made : State) → IsSubject s → IsInference s i → IsPutIn s i j position made → Goes s i j
put_goes s i j position made subject is put =
    let p = s.program.now in
    let new = state_at j.store s.frame made in
    let at : IsPutAt (known_of s i) (known_of s j) (marked_of i) (marked_of j) position new =
    known_put s i j position made put.states put.marks (subst (λ n. position < n) (sym is.states) put.within)
    is.store put.later is.stands in
    let raised = put_raised p subject.ranked (known_of s i) (known_of s j) (marked_of i) (marked_of j) position new at put.above in
    record {
      inference = record {
        store = put.later.store;
        states = ap length put.states ∙ length-set i.states.items position (Some made) ∙ is.states;
        marks = marks_within i.marked j.marked position (length s.code.now.bytes) true put.marks (λ e. put.within) is.marks;
        stands = stands_after s i j position made is put;
        caught = subst (λ (ns : List ℕ). AllZip (IsCaught p s.method.0 j.store) s.code.now.catches ns) (sym put.caught)
            (caught_kept p s.method.0 i.store j.store is.store put.later s.code.now.catches i.caught.items is.caught);
        inferred = put_inferred p subject.ranked s.method.0 s.code.now (known_of s i) (known_of s j) (marked_of i) (marked_of j) position new at raised put.operands put.forced is.inferred;
      };
      later = put.later;
      raised = raised;
    }
