-- What waits, where an attempt elsewhere gave the heap more objects and texts, and the tree more callers.
use Rattle.std.proofs.Common.{◌≡◌, ℕ, Bool, true, List, [], ◌∷◌, refl, sym, ◌∙◌, ap, subst}
use Rattle.std.specs.Prelude.{Option, Some, None, option_map}
use Rattle.std.specs.List.{list_all}
use Rattle.std.specs.Ordering.{nat_cmp}
use Rattle.vx_space.specs.Sets.{Sets, Extends}
use Rattle.vx_cond.proofs.LeafLaws.{AreLeaves-extends}
use Rattle.vx_frame.specs.Frame.{PlainFrame}
use Rattle.vx_group.specs.declared.callers.Caller.{Caller}
use Rattle.vx_group.specs.Callers.{Keeps}
use Rattle.vx_group.specs.Group.{GroupView, PlainGroup}
use Rattle.vx_heap.specs.Heap.{HeapView, IsHeap, globals_at}
use Rattle.vx_findings.specs.Orders.{piece_cmp}
use Rattle.vx_findings.specs.Shared.{leaves_of}
use Rattle.vx_link.specs.declared.program.Program.{Program}
use Rattle.vx_sched.specs.Groups as sched
use Rattle.vx_sched.proofs.GroupsLaws.{AreGroups-later, standing_at-later}
use Rattle.vx_group_states.specs.Stands.{Grows, frame_held, is_shaped, plain_frame, state_of}
use Rattle.vx_group_states.proofs.GrownStates.{all_kept, frame_held-grown, map_held, plain_frame-grown}
use Rattle.vx_group_states.proofs.StateLaws.{both_first, both_second}
use Rattle.vx_value.specs.Ends.{compare_ends}
use Rattle.vx_placing.specs.declared.round.Round.{Round}
use Rattle.vx_standing.specs.Waiting.{AreWaiting, IsGood, waiting_at}
use Rattle.vx_placing.specs.Placing.{IsUnderway}
use Rattle.vx_standing.proofs.Waiting.{no_frame, run_by, shaped_later, state_by, waiting_at-standing}
use Rattle.vx_heap.proofs.Written.{allowed_known}

state_by-grown : {S I : Type 0} {old new : Sets I} → Extends old new → (before after : HeapView S I) → IsHeap old before → Grows before after → (c : List Bool) → globals_at new after c ≡ globals_at old before c → (fs : List PlainFrame) → list_all (frame_held old before c) fs ≡ true → state_by new after c fs ≡ state_by old before c fs
state_by-grown e before after v k c q [] h = λ i. state_of (q i) (plain_frame-grown e before after v k c no_frame refl i) []
state_by-grown {old = old} {new = new} e before after v k c q (f ∷ fs) h =
    let first = plain_frame-grown e before after v k c f (both_first (frame_held old before c f) (list_all (frame_held old before c) fs) h) in
    let rest = map_held (frame_held old before c) (plain_frame new after c) (plain_frame old before c) (plain_frame-grown e before after v k c) fs (both_second (frame_held old before c f) (list_all (frame_held old before c) fs) h) in
    λ i. state_of (q i) (first i) (rest i)

-- ---- what waits

IsGood-grown : {S I : Type 0} {old new : Sets I} → Extends old new → (before after : HeapView S I) → IsHeap old before → Grows before after → (limit : ℕ) (c : List Bool) (o : Option PlainGroup) → IsGood old before limit c o → IsGood new after limit c o
IsGood-grown e before after v k limit c None h = tt
IsGood-grown {old = old} {new = new} e before after v k limit c (Some g) h = record {
  runs = ap (λ i. new.test i c) k.allowed ∙ e.test before.allowed c (allowed_known old before v) ∙ h.runs;
  held = all_kept (frame_held old before c) (frame_held new after c) (frame_held-grown e before after v k c) g.frames h.held;
  left = h.left;
}

pub AreWaiting-grown : {S I : Type 0} (p : Program) {old new : Sets I} {t0 t1 : List (Option (Caller S I))} → Extends old new → Keeps t0 t1 → (before after : HeapView S I) → IsHeap old before → Grows before after → (limit : ℕ) (groups : List (GroupView S I)) → AreWaiting p old before t0 limit groups → AreWaiting p new after t1 limit groups
AreWaiting-grown p {old = old} {new = new} {t0 = t0} e k before after v grows limit groups w = record {
  are_groups = AreGroups-later e k groups w.are_groups;
  shaped = shaped_later (list_all (is_shaped p)) old k groups w.are_groups ∙ w.shaped;
  good = λ c. let P : Option PlainGroup → Type 0 = λ o. IsGood new after limit c o in
      subst P (sym (standing_at-later e k groups w.are_groups c)) (IsGood-grown e before after v grows limit c (sched.standing_at old t0 groups c) (w.good c));
}

pub waiting_at-grown : {S I : Type 0} (p : Program) {old new : Sets I} {t0 t1 : List (Option (Caller S I))} → Extends old new → Keeps t0 t1 → (before after : HeapView S I) → IsHeap old before → Grows before after → (limit : ℕ) (groups : List (GroupView S I)) → AreWaiting p old before t0 limit groups → (c : List Bool) → globals_at new after c ≡ globals_at old before c → waiting_at new after t1 groups c ≡ waiting_at old before t0 groups c
waiting_at-grown p {old = old} {new = new} {t0 = t0} {t1 = t1} e k before after v grows limit groups w c q =
    waiting_at-standing new after t1 groups c
    ∙ ap (λ o. option_map (run_by new after c) o) (standing_at-later e k groups w.are_groups c)
    ∙ cases (sched.standing_at old t0 groups c) (w.good c)
    ∙ sym (waiting_at-standing old before t0 groups c)
  where
    cases : (o : Option PlainGroup) → IsGood old before limit c o → option_map (run_by new after c) o ≡ option_map (run_by old before c) o
    cases None h = refl
    cases (Some g) h = λ i. Some (record { state = state_by-grown e before after v grows c q g.frames h.held i; attempts = g.attempts })

pub IsUnderway-grown : {S I : Type 0} (p : Program) {old new : Sets I} → Extends old new → (before after : HeapView S I) → IsHeap old before → Grows before after → (limit : ℕ) (round : Round S I) (later : List (Option (Caller S I))) → Keeps round.callers later → IsUnderway p old before limit round → IsUnderway p new after limit (record round { callers = later })
IsUnderway-grown p e before after v grows limit round later k u = record {
  waiting = AreWaiting-grown p e k before after v grows limit round.groups u.waiting;
  ends = AreLeaves-extends compare_ends e (leaves_of round.ends.items) u.ends;
  spent = AreLeaves-extends nat_cmp e (leaves_of round.spent.items) u.spent;
  texts = AreLeaves-extends piece_cmp e (leaves_of round.texts.items) u.texts;
}
