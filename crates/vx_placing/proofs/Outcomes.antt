-- Outcomes that took their places.
use Rattle.std.proofs.Common.{◌≡◌, ◌≤◌, ℕ, Bool, true, false, List, refl, sym, ◌∙◌, ap, subst, Result, Ok, Err, OnOk}
use Rattle.std.specs.Prelude.{Option, Some, None, if◌then◌else◌, option_map}
use Rattle.std.specs.Ordering.{nat_cmp}
use Rattle.vx_space.specs.Sets.{Sets, Extends}
use Rattle.vx_cond.specs.Cond.{Conditional, IsCond, IsInside}
use Rattle.vx_cond.specs.Leaves.{AreLeaves, value_at}
use Rattle.vx_group.specs.declared.callers.Caller.{Caller}
use Rattle.vx_group.specs.Group.{GroupView, attempts_at, path_of}
use Rattle.vx_heap.specs.Heap.{HeapView, IsHeap}
use Rattle.vx_findings.specs.Orders.{piece_cmp}
use Rattle.vx_findings.specs.Shared.{leaves_of}
use Rattle.vx_java.specs.Machine.{Ends, Goes}
use Rattle.vx_java.specs.Machine as plain
use Rattle.vx_java.specs.Step.{next}
use Rattle.vx_link.specs.declared.program.Program.{Program}
use Rattle.vx_outcome.specs.Outcome.{condition_of}
use Rattle.vx_outcome.specs.declared.outcome.Outcome.{Outcome}
use Rattle.vx_outcome.specs.declared.outcome.Outcome.TheVariants as shared
use Rattle.vx_group_states.specs.Stands.{outcome_at, state_at}
use Rattle.vx_value.specs.Texts.{text_at}
use Rattle.vx_value.specs.declared.end.End.{End}
use Rattle.vx_value.specs.declared.end.Stream.{Stream}
use Rattle.vx_placing.specs.declared.round.Round.{Round}
use Rattle.vx_placing.specs.Placing.{AreWritten, IsEnded, IsGoing, IsOutcomePlaced, IsPlaceable, IsPut, IsUnderway, IsUnwritten, IsVacant, MayGoOn, MayPlace, leads_in, led_by, made_at, put_if, said_by}
use Rattle.vx_standing.specs.Waiting.{piece_after}
use Rattle.vx_placing.proofs.Placed.{findings_stay}
use Rattle.vx_placing.proofs.Putting.{IsPut-ended, IsPut-same}

-- what holds where a call succeeds, by two of its clauses
pub on_ok_both : {T E P Q R : Type 0} (r : Result T E) → (P → Q → R) → OnOk r P → OnOk r Q → OnOk r R
on_ok_both (Ok x) f p q = f p q
on_ok_both (Err e) f p q = tt

-- ---- what has to be so before

pub MayGoOn-placed : {S I : Type 0} (p : Program) (sets : Sets I) (heap : HeapView S I) (limit : ℕ) (attempts : Conditional ℕ S I) (round : Round S I) (group : GroupView S I) → MayPlace p sets heap limit attempts round (sets.test (path_of group)) → IsInside sets (path_of group) attempts.scope → IsGoing p sets heap round.callers attempts group → MayGoOn p sets heap limit round group
MayGoOn-placed p sets heap limit attempts round group m i g = record {
  is_heap = m.is_heap;
  underway = m.underway;
  stands = g.stands;
  bound = λ c t. subst (λ n. n ≤ limit) (sym (g.made c t)) (m.bound c (i.inside c t));
  vacant = m.vacant;
}

-- ---- in the condition of an outcome, and elsewhere

led_there : {A B : Type 0} (f : A → B) (b : Bool) (x : A) → (if b then Some (f x) else None) ≡ option_map f (if b then Some x else None)
led_there f true x = refl
led_there f false x = refl

holds : {A B : Type 0} (f : A → B) (b : Bool) (x : A) (l : B) → option_map f (if b then Some x else None) ≡ Some l → b ≡ true
holds f true x l h = refl
holds f false x l h = cc h

-- an outcome that writes nothing
pub AreWritten-nothing : {S I : Type 0} {old new : Sets I} → Extends old new → (heap : HeapView S I) (tree : List (Option (Caller S I))) (outcome : Outcome S I) (before after : Round S I) → AreLeaves piece_cmp old (leaves_of before.texts.items) → IsUnwritten old before (old.test (condition_of outcome)) → after.texts ≡ before.texts → ((c : List Bool) → piece_after (outcome_at old heap tree c outcome) ≡ None) → AreWritten old new (said_by old heap tree outcome) before after
AreWritten-nothing {S = S} {I = I} {old = old} {new = new} e heap tree outcome before after h n q p = record {
  texts = λ c. (findings_stay piece_cmp e before.texts.items after.texts.items (ap (λ t. t.items) q) h).1 c ∙ cases c (old.test (condition_of outcome) c) (n.texts c);
}
  where
    cases : (c : List Bool) (b : Bool) → (b ≡ true → value_at old (leaves_of before.texts.items) c ≡ None) → value_at old (leaves_of before.texts.items) c ≡ put_if piece_after (if b then Some (outcome_at old heap tree c outcome) else None) (value_at old (leaves_of before.texts.items) c)
    cases c true k = k refl ∙ sym (p c)
    cases c false k = refl

-- ---- each outcome

going_put : {S I : Type 0} (p : Program) (old new : Sets I) (heap : HeapView S I) (limit : ℕ) (attempts : Conditional ℕ S I) (group : GroupView S I) (outcome : Outcome S I) (before after : Round S I) → IsGoing p old heap before.callers attempts group → condition_of outcome ≡ path_of group → ((c : List Bool) → next p (outcome_at old heap before.callers c outcome) ≡ Goes (state_at old heap before.callers group c)) → IsPut p old new heap limit (attempts_at old group) (leads_in old (path_of group) (λ c. Goes (state_at old heap before.callers group c))) before after → IsPut p old new heap limit (made_at old attempts) (led_by p (said_by old heap before.callers outcome)) before after
going_put {S = S} {I = I} p old new heap limit attempts group outcome before after s e l q =
    IsPut-same p old new heap limit (attempts_at old group) (made_at old attempts) (leads_in old (path_of group) (λ c. Goes (state_at old heap before.callers group c))) (led_by p (said_by old heap before.callers outcome)) before after
    (λ c. ap (λ n. if old.test (path_of group) c then Some n else None) (sym (l c)) ∙ ap (λ k. if old.test k c then Some (next p (outcome_at old heap before.callers c outcome)) else None) (sym e) ∙ led_there (next p) (old.test (condition_of outcome) c) (outcome_at old heap before.callers c outcome))
    (λ c n h. s.made c (ap (λ k. old.test k c) (sym e) ∙ holds (next p) (old.test (condition_of outcome) c) (outcome_at old heap before.callers c outcome) n h))
    q

pub placed_go : {S I : Type 0} (p : Program) {old new : Sets I} → Extends old new → (heap : HeapView S I) (limit : ℕ) (attempts : Conditional ℕ S I) (group : GroupView S I) (before after : Round S I) → IsUnderway p old heap limit before → IsPlaceable p old heap before.callers attempts (shared.Go group) → IsUnwritten old before (old.test (path_of group)) → IsPut p old new heap limit (attempts_at old group) (leads_in old (path_of group) (λ c. Goes (state_at old heap before.callers group c))) before after → after.texts ≡ before.texts → IsOutcomePlaced p old new heap limit attempts (said_by old heap before.callers (shared.Go group)) before after
placed_go p {old = old} {new = new} e heap limit attempts group before after u k n q t = record {
  put = going_put p old new heap limit attempts group (shared.Go group) before after k.going refl (λ c. refl) q;
  written = AreWritten-nothing e heap before.callers (shared.Go group) before after u.texts n t (λ c. refl);
}

pub placed_write : {S I : Type 0} (p : Program) (old new : Sets I) (heap : HeapView S I) (limit : ℕ) (attempts : Conditional ℕ S I) (group : GroupView S I) (stream : Stream) (text : ℕ) (before after : Round S I) → IsPlaceable p old heap before.callers attempts (shared.Write group stream text) → IsPut p old new heap limit (attempts_at old group) (leads_in old (path_of group) (λ c. Goes (state_at old heap before.callers group c))) before after → AreWritten old new (leads_in old (path_of group) (λ c. plain.Write stream (text_at heap.texts text) (state_at old heap before.callers group c))) before after → IsOutcomePlaced p old new heap limit attempts (said_by old heap before.callers (shared.Write group stream text)) before after
placed_write p old new heap limit attempts group stream text before after k q w = record {
  put = going_put p old new heap limit attempts group (shared.Write group stream text) before after k.going.0 refl (λ c. refl) q;
  written = w;
}

pub placed_ended : {S I : Type 0} (p : Program) {old new : Sets I} → Extends old new → (heap : HeapView S I) → IsHeap old heap → (limit : ℕ) (attempts : Conditional ℕ S I) (condition : I) (end : End) (before after : Round S I) → IsUnderway p old heap limit before → IsCond nat_cmp old attempts → IsPlaceable p old heap before.callers attempts (shared.Ended condition end) → IsVacant old before (old.test condition) → IsUnwritten old before (old.test condition) → IsEnded old new attempts condition end before after → IsOutcomePlaced p old new heap limit attempts (said_by old heap before.callers (shared.Ended condition end)) before after
placed_ended p {old = old} {new = new} e heap v limit attempts condition end before after u w k a n q = record {
  put = IsPut-same p old new heap limit (made_at old attempts) (made_at old attempts) (leads_in old condition (λ _. Ends end)) (led_by p (said_by old heap before.callers (shared.Ended condition end))) before after
      (λ c. led_there (next p) (old.test condition c) (outcome_at old heap before.callers c (shared.Ended condition end))) (λ c l h. refl)
      (IsPut-ended p e heap v limit attempts condition end before after u a w k.inside q);
  written = AreWritten-nothing e heap before.callers (shared.Ended condition end) before after u.texts n q.texts (λ c. refl);
}
