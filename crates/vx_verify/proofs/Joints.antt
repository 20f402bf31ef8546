-- Types that are merged into those of a position, and what is known then.
use Rattle.std.proofs.Common.{Bool, List, None, Option, Some, ap, false, length, refl, subst, sym, true, ℕ, ◌<◌, ◌∙◌, ◌≡◌, ◌≤◌}
use Rattle.std.proofs.lemmas.Bool.Decides.{Decides-eqb}
use Rattle.std.specs.BTreeSet.{Updates, contains}
use Rattle.std.specs.Bool.{MatchBool}
use Rattle.std.specs.List.{AllZip}
use Rattle.std.specs.Ordering.{nat_cmp}
use Rattle.std.specs.Prelude.{option_map, slice_set, ◌&&◌, ◌==◌}
use Rattle.vx_list.specs.Places.{item_or}
use Rattle.vx_types.proofs.FitLaws.{state_itself}
use Rattle.vx_types.proofs.Tests.{both_first, both_second}
use Rattle.vx_types.specs.Fits.{StateFits}
use Rattle.vx_types.specs.Types.{VerState}
use Rattle.vx_verify.proofs.Following.{outside_untyped}
use Rattle.vx_verify.proofs.Forcing.{merged_forced, reached_below, same_some, unlike_untyped}
use Rattle.vx_verify.proofs.Inferring.{raised_itself, raised_through}
use Rattle.vx_verify.proofs.Known.{item_set_here, known_kept}
use Rattle.vx_verify.proofs.Reached.{IsPutIn, caught_kept, put_goes}
use Rattle.vx_verify.proofs.Reaching.{are_readable, readable_operands, unreadable_untyped}
use Rattle.vx_verify.proofs.StoreLaws.{later_itself, later_through, stands_kept, state_kept}
use Rattle.vx_verify.specs.Forced.{IsMerged}
use Rattle.vx_verify.specs.Inference.{AreWithin, Goes, HasMerged, HasNoTyping, IsCaught, IsForcedIn, IsInference, IsJoint, IsRaising, IsSubject, Reaches, Rises, joint_by, joint_of, known_of, marked_of, state_of}
use Rattle.vx_verify.specs.Inferred.{AreInferred, AreRaised}
use Rattle.vx_verify.specs.States.{IsLater, Stands, state_at}
use Rattle.vx_verify.specs.Typing.{AreOperands}
use Rattle.vx_verify.specs.declared.inference.Inference.{Inference}
use Rattle.vx_verify.specs.declared.inference.Subject.{Subject}
use Rattle.vx_verify.specs.declared.rows.State.{State}
use Rattle.vx_verify.specs.declared.store.Store.{Store}

-- ---- going on

pub goes_itself : (s : Subject) (i : Inference) → IsSubject s → IsInference s i → Goes s i i
goes_itself s i subject is = record { inference = is; later = later_itself i.store is.store; raised = raised_itself s.program.now subject.ranked (known_of s i) }

pub goes_through : (s : Subject) (i j k : Inference) → IsSubject s → Goes s i j → Goes s j k → Goes s i k
goes_through s i j k subject h g = record {
  inference = g.inference;
  later = later_through i.store j.store k.store h.later g.later;
  raised = raised_through s.program.now subject.ranked (known_of s i) (known_of s j) (known_of s k) h.raised g.raised;
}

-- the same with another store
abbrev pub with_store : Inference → Store → Inference
with_store i t = record i { store = t }

-- the store has more, and all else is as it was
pub record IsGrown (i j : Inference) : Type 0 where
  pub states : j.states.items ≡ i.states.items
  pub marks : j.marked ≡ i.marked
  pub caught : j.caught.items ≡ i.caught.items
  pub later : IsLater i.store j.store

known_same : (s : Subject) (i j : Inference) → IsInference s i → IsGrown i j → (q : ℕ) → known_of s j q ≡ known_of s i q
known_same s i j is grown q =
    ap (λ (xs : List (Option State)). option_map (state_at j.store s.frame) (item_or xs q None)) grown.states
    ∙ known_kept s i j is.store grown.later (state_of i q) (is.stands q)

pub grown_goes : (s : Subject) (i j : Inference) → IsSubject s → IsInference s i → IsGrown i j → Goes s i j
grown_goes s i j subject is grown =
    let p = s.program.now in
    let known : known_of s j ≡ known_of s i = λ x q. known_same s i j is grown q x in
    let marks : marked_of j ≡ marked_of i = λ x q. contains nat_cmp (grown.marks x) q in
    record {
      inference = record {
        store = grown.later.store;
        states = ap length grown.states ∙ is.states;
        marks = subst (AreWithin (length s.code.now.bytes)) (sym grown.marks) is.marks;
        stands = λ q state e.
            stands_kept i.store j.store s.frame state grown.later (is.stands q state (sym (ap (λ (xs : List (Option State)). item_or xs q None) grown.states) ∙ e));
        caught = subst (λ (ns : List ℕ). AllZip (IsCaught p s.method.0 j.store) s.code.now.catches ns) (sym grown.caught)
            (caught_kept p s.method.0 i.store j.store is.store grown.later s.code.now.catches i.caught.items is.caught);
        inferred = subst (λ (f : ℕ → Option VerState). AreInferred p s.method.0 s.code.now f (marked_of j)) (sym known)
            (subst (λ (f : ℕ → Bool). AreInferred p s.method.0 s.code.now (known_of s i) f) (sym marks) is.inferred);
      };
      later = grown.later;
      raised = subst (λ (f : ℕ → Option VerState). AreRaised p (known_of s i) f) (sym known) (raised_itself p subject.ranked (known_of s i));
    }

-- ---- what was known before

pub state_known : (s : Subject) (i : Inference) (q : ℕ) (state : State) → state_of i q ≡ Some state → known_of s i q ≡ Some (state_at i.store s.frame state)
state_known s i q state e = ap (option_map (state_at i.store s.frame)) e

-- nothing was known
pub joint_new : (s : Subject) (i : Inference) (position : ℕ) (state : State) → IsSubject s → IsInference s i → Stands i.store s.frame state → IsForcedIn s position (state_at i.store s.frame state)
    → state_of i position ≡ None → Rises s i i position state state
joint_new s i position state subject is stands forced none = record {
  goes = goes_itself s i subject is;
  raising = record {
    stands = stands;
    forced = forced;
    above = λ u e. let nothing : None ≡ Some u = sym (ap (option_map (state_at i.store s.frame)) none) ∙ e in absurd cc;
  };
  fitting = state_itself s.program.now subject.ranked (state_at i.store s.frame state);
}

same_state : (a b : State) → (a.locals == b.locals && a.operands == b.operands) ≡ true → a ≡ b
same_state a b h =
    let l : a.locals ≡ b.locals = (Decides-eqb a.locals b.locals).0 (both_first (a.locals == b.locals) (a.operands == b.operands) h) in
    let o : a.operands ≡ b.operands = (Decides-eqb a.operands b.operands).0 (both_second (a.locals == b.locals) (a.operands == b.operands) h) in
    λ x. record { locals = l x; operands = o x }

pub same_states : (a b : State) (t : Bool) → t ≡ (a.locals == b.locals && a.operands == b.operands) → t ≡ true → a ≡ b
same_states a b t e h = same_state a b (sym e ∙ h)

pub joint_fits : (s : Subject) (i j : Inference) (position : ℕ) (known state : State) (found : Option State) → IsSubject s → IsInference s i → j.states.items ≡ i.states.items
    → j.marked ≡ i.marked → j.caught.items ≡ i.caught.items → Stands i.store s.frame state → IsForcedIn s position (state_at i.store s.frame state) → state_of i position ≡ Some known
    → HasMerged s.program.now i.store j.store s.frame known state found → IsJoint s i j position state (joint_of known found)
joint_fits s i j position known state None subject is states marks caught stands forced e none =
    unlike_untyped s.program.now s.method.0 s.code.now position (state_at i.store s.frame known) (state_at i.store s.frame state)
    (λ u h k operands. none u h k) (is.inferred.forced position (state_at i.store s.frame known) (state_known s i position known e)) forced
joint_fits s i j position known state (Some both) subject is states marks caught stands forced e merged = by (both.locals == known.locals && both.operands == known.operands) refl
  where
    grown : IsGrown i j
    grown = record { states = states; marks = marks; caught = caught; later = merged.0 }

    goes : Goes s i j
    goes = grown_goes s i j subject is grown

    covered : known_of s j position ≡ Some (state_at j.store s.frame known)
    covered = state_known s j position known (ap (λ (xs : List (Option State)). item_or xs position None) states ∙ e)

    kept : state_at j.store s.frame known ≡ state_at i.store s.frame known
    kept = state_kept i.store j.store s.frame known is.store merged.0 (is.stands position known e)

    least : IsMerged s.program.now (state_at i.store s.frame known) (state_at i.store s.frame state) (state_at j.store s.frame both)
    least = merged.2

    by : (t : Bool) → (both.locals == known.locals && both.operands == known.operands) ≡ t → IsJoint s i j position state (joint_by both t)
    by true h = record {
      goes = goes;
      reached = record {
        state = state_at j.store s.frame known;
        covered = covered;
        fitting = subst (λ (x : State). StateFits s.program.now (state_at i.store s.frame state) (state_at j.store s.frame x)) (same_state both known h) least.above_other;
      };
    }
    by false h = record {
      goes = goes;
      raising = record {
        stands = merged.1;
        forced = merged_forced s.program.now s.method.0 s.code.now position (state_at i.store s.frame known) (state_at i.store s.frame state) (state_at j.store s.frame both) least
            (is.inferred.forced position (state_at i.store s.frame known) (state_known s i position known e)) forced;
        above = λ u f.
            subst (λ (x : VerState). StateFits s.program.now x (state_at j.store s.frame both)) (sym kept ∙ same_some (sym covered ∙ f)) least.above_one;
      };
      fitting = least.above_other;
    }

-- ---- raising

-- a position is given other types, and the store is as it was
pub raised_reached : (s : Subject) (i j : Inference) (position : ℕ) (made : State) (readable : Bool) → IsSubject s → IsInference s i → position < length s.code.now.bytes → IsRaising s i position made
    → readable ≡ are_readable s.code.now (state_at i.store s.frame made) → readable ≡ true → j.states.items ≡ slice_set i.states.items position (Some made)
    → Updates nat_cmp i.marked j.marked position true → j.caught.items ≡ i.caught.items → i.store ≡ j.store → Reaches s i j position made
raised_reached s i j position made readable subject is within raising read passed states marks caught same =
    let operands = readable_operands s.code.now (state_at i.store s.frame made) (sym read ∙ passed) in
    let put : IsPutIn s i j position made = record {
      states = states;
      marks = marks;
      caught = caught;
      within = within;
      later = subst (λ (st : Store). IsLater i.store st) same (later_itself i.store is.store);
      stands = subst (λ (st : Store). Stands st s.frame made) same raising.stands;
      operands = subst (λ (st : Store). AreOperands s.code.now (state_at st s.frame made)) same operands;
      forced = subst (λ (st : Store). IsForcedIn s position (state_at st s.frame made)) same raising.forced;
      above = λ u e. subst (λ (st : Store). StateFits s.program.now u (state_at st s.frame made)) same (raising.above u e);
    } in
    let inside : position < length i.states.items = subst (λ n. position < n) (sym is.states) within in
    record {
      goes = put_goes s i j position made subject is put;
      reached = record {
        state = state_at j.store s.frame made;
        covered = state_known s j position made (ap (λ (xs : List (Option State)). item_or xs position None) states ∙ item_set_here i.states.items position (Some made) None inside);
        fitting = subst (λ (st : Store). StateFits s.program.now (state_at i.store s.frame made) (state_at st s.frame made)) same
            (state_itself s.program.now subject.ranked (state_at i.store s.frame made));
      };
    }

pub unreadable_has_none : (s : Subject) (position : ℕ) (state : VerState) (readable : Bool) → IsForcedIn s position state → readable ≡ are_readable s.code.now state
    → readable ≡ false → HasNoTyping s
unreadable_has_none s position state readable forced read e = unreadable_untyped s.program.now s.method.0 s.code.now position state forced (sym read ∙ e)

-- ---- reaching

pub outside_has_none : (s : Subject) (position : ℕ) (state : VerState) → IsSubject s → IsForcedIn s position state → length s.code.now.bytes ≤ position → HasNoTyping s
outside_has_none s position state subject forced l = outside_untyped s.program.now subject.ranked s.method.0 s.code.now position state forced l

pub reach_through : (s : Subject) (i j k : Inference) (position : ℕ) (state made : State) (raised : Bool) → IsSubject s → Rises s i j position state made
    → MatchBool raised (Reaches s j k position made) (HasNoTyping s) → MatchBool raised (Reaches s i k position state) (HasNoTyping s)
reach_through s i j k position state made true subject rises h = record {
  goes = goes_through s i j k subject rises.goes h.goes;
  reached = reached_below s.program.now subject.ranked (known_of s k) position (state_at i.store s.frame state) (state_at j.store s.frame made) rises.fitting h.reached;
}
reach_through s i j k position state made false subject rises h = h
