-- The group of all runs at the start of main.
use Rattle.std.proofs.Common.{◌≡◌, ℕ, zero, suc, ◌<◌, ◌-◌, Bool, true, List, [], ◌∷◌, refl, sym, ◌∙◌, ap, subst, map, length, take, replicate, arith}
use Rattle.std.proofs.lemmas.Bool.{eq-eqb}
use Rattle.std.specs.Ordering.{nat_cmp}
use Rattle.std.specs.Prelude.{Some, None, ◌==◌, ◌&&◌, slice_get, slice_set, unwrap_or}
use Rattle.vx_cond.proofs.CondLaws.{IsCond-of, cond_at-of}
use Rattle.vx_cond.proofs.RowSteps.{IsRow-set, slots_at-set}
use Rattle.vx_cond.specs.Cond.{Conditional, IsCond, IsCondOf}
use Rattle.vx_cond.specs.Leaves.{value_within}
use Rattle.vx_cond.specs.Slots.{or_top, slot_at, slots_at}
use Rattle.vx_frame.proofs.FrameLaws.{IsFrame-locals, IsFrame-of, IsFrame-one_scope, IsFrame-rows, IsFrame-stack, frame_at-of}
use Rattle.vx_frame.specs.Frame.{IsFrame, IsFrameOf, first_frame, scope_of, shape_of}
use Rattle.vx_frame.specs.declared.frame.Frame.{Frame}
use Rattle.vx_group.proofs.GroupLaws.{IsGroup-of_parts}
use Rattle.vx_group.specs.Group.{IsGroupIn}
use Rattle.vx_heap.proofs.Places.{and_true}
use Rattle.vx_heap.proofs.Written.{within_there}
use Rattle.vx_heap.specs.Heap.{AreEverywhere, HeapView, IsHeapFor, are_held, is_object_held, name_at, value_of}
use Rattle.vx_heap.specs.declared.object.HeapObject.{HeapObject}
use Rattle.vx_java.specs.FirstObjects.{first_words}
use Rattle.vx_java.specs.Initialisation.{new_frame}
use Rattle.vx_java.specs.Machine.{Ref, Top}
use Rattle.vx_link.specs.declared.program.Program.{Program}
use Rattle.vx_starting.specs.Starting.{IsMainGroup, main_frame, main_locals}
use Rattle.vx_space.specs.Sets.{Sets}
use Rattle.vx_group_states.specs.Stands.{StandsIn, frame_held, is_shaped, plain_frame}
use Rattle.vx_value.specs.Slot.{slot_cmp}
use Rattle.vx_value.specs.declared.key.Kind.TheVariants.{Call}
use Rattle.vx_value.specs.declared.slot.Slot.{Slot}
use Rattle.vx_value.specs.declared.slot.Slot.TheVariants as slot

-- ---- the frame of main

set_first : (n : ℕ) (s : Slot) → 0 < n → slice_set (replicate n slot.Top) 0 s ≡ s ∷ replicate (n - 1) slot.Top
set_first zero s l = absurd (omega (arith, l))
set_first (suc n) s l =
    let less : n ≡ suc n - 1 = omega arith in
    ap (λ k. s ∷ replicate k slot.Top) less

-- a frame with another local
local_set : {S I : Type 0} (sets : Sets I) (frame : Frame S I) (i : ℕ) (value : Conditional Slot S I) → IsFrame sets frame → IsCond slot_cmp sets value → value.scope ≡ scope_of frame → IsFrame sets (record frame { locals = record (frame.locals) { conds = slice_set frame.locals.conds i value } })
local_set sets frame i value v w e =
    IsFrame-rows sets _ (IsRow-set slot_cmp sets frame.locals i value (IsFrame-locals sets frame v) w e) (IsFrame-stack sets frame v) (IsFrame-one_scope sets frame v)

main_frame-set : {S I : Type 0} (p : Program) (sets : Sets I) (allowed : I) (words : ℕ) (frame : Frame S I) (array : Conditional Slot S I) → 0 < main_locals p → scope_of frame ≡ allowed → IsFrameOf sets (λ _. first_frame Call p.main (main_locals p)) frame → array.scope ≡ allowed → IsCondOf slot_cmp sets (value_within sets allowed (λ _. Some (slot.Ref words))) array → IsFrameOf sets (λ _. main_frame p words) (record frame { locals = record (frame.locals) { conds = slice_set frame.locals.conds 0 array } })
unfolding IsFrameOf
main_frame-set p sets allowed words frame array l s f e a = record {
  is_frame = local_set sets frame 0 array f.is_frame (IsCond-of slot_cmp sets (value_within sets allowed (λ _. Some (slot.Ref words))) array a) (e ∙ sym s);
  at = λ c t.
      let before = f.at c t in
      let there : sets.test allowed c ≡ true = ap (λ id. sets.test id c) (sym s) ∙ t in
      let first : slot_at sets array c ≡ slot.Ref words = ap or_top (cond_at-of slot_cmp sets (value_within sets allowed (λ _. Some (slot.Ref words))) array c a ∙ within_there (sets.test allowed c) (Some (slot.Ref words)) there) in
      let locals : slots_at sets (record (frame.locals) { conds = slice_set frame.locals.conds 0 array }) c ≡ slot.Ref words ∷ replicate (main_locals p - 1) slot.Top =
      slots_at-set sets frame.locals 0 array c ∙ (λ i. slice_set ((before i).locals) 0 (first i)) ∙ set_first (main_locals p) (slot.Ref words) l in
      λ i. record { kind = (before i).kind; method = (before i).method; position = (before i).position; locals = locals i; operands = (before i).operands };
}

pub main_frame-made : {S I : Type 0} (p : Program) (sets : Sets I) (allowed : I) (words n : ℕ) (frame : Frame S I) (array : Conditional Slot S I) → 0 < main_locals p → n ≡ main_locals p → scope_of frame ≡ allowed → IsFrameOf sets (λ _. first_frame Call p.main n) frame → array.scope ≡ allowed → IsCondOf slot_cmp sets (value_within sets allowed (λ _. Some (slot.Ref words))) array → IsFrameOf sets (λ _. main_frame p words) (record frame { locals = record (frame.locals) { conds = slice_set frame.locals.conds 0 array } })
main_frame-made p sets allowed words n frame array l q s f e a = main_frame-set p sets allowed words frame array l s (subst (λ k. IsFrameOf sets (λ _. first_frame Call p.main k) frame) q f) e a

-- ---- its values

object_there : {S I : Type 0} (sets : Sets I) (allowed : I) (c : List Bool) → sets.test allowed c ≡ true → (os : List (HeapObject S I)) (i : ℕ) → i < length os → AreEverywhere allowed (take (suc i) os) → is_object_held sets c (slice_get os i) ≡ true
object_there sets allowed c t [] i l a = absurd (omega (arith, l))
object_there sets allowed c t (o ∷ os) zero l a = ap (λ id. sets.test id c) a.0 ∙ t
object_there sets allowed c t (o ∷ os) (suc i) l a = object_there sets allowed c t os i (omega (arith, l)) a.1

name_there : {S I : Type 0} (sets : Sets I) (allowed : I) (c : List Bool) → sets.test allowed c ≡ true → (os : List (HeapObject S I)) (i : ℕ) → i < length os → AreEverywhere allowed (take (suc i) os) → name_at sets os c i ≡ i
name_there sets allowed c t [] i l a = absurd (omega (arith, l))
name_there sets allowed c t (o ∷ os) zero l a = refl
name_there sets allowed c t (o ∷ os) (suc i) l a = rw (ap (λ id. sets.test id c) a.0 ∙ t) (ap suc (name_there sets allowed c t os i (omega (arith, l)) a.1))

tops_held : {S I : Type 0} (sets : Sets I) (heap : HeapView S I) (c : List Bool) (n : ℕ) → are_held sets heap c (replicate n slot.Top) ≡ true
tops_held sets heap c zero = refl
tops_held sets heap c (suc n) = tops_held sets heap c n

top_values : {S I : Type 0} (sets : Sets I) (heap : HeapView S I) (c : List Bool) (n : ℕ) → map (value_of sets heap c) (replicate n slot.Top) ≡ replicate n Top
top_values sets heap c zero = refl
top_values sets heap c (suc n) = ap (λ r. Top ∷ r) (top_values sets heap c n)

array_there : {S I : Type 0} (p : Program) (sets : Sets I) (allowed : I) (heap : HeapView S I) → IsHeapFor p heap → heap.allowed ≡ allowed → (c : List Bool) → sets.test allowed c ≡ true → is_object_held sets c (slice_get heap.objects heap.words) ≡ true
array_there p sets allowed heap f e c t =
    ap (λ n. is_object_held sets c (slice_get heap.objects n)) f.words
    ∙ object_there sets heap.allowed c (ap (λ id. sets.test id c) e ∙ t) heap.objects (first_words p) f.enough f.first

main_held : {S I : Type 0} (p : Program) (sets : Sets I) (allowed : I) (heap : HeapView S I) → IsHeapFor p heap → heap.allowed ≡ allowed → (c : List Bool) → sets.test allowed c ≡ true → frame_held sets heap c (main_frame p heap.words) ≡ true
main_held p sets allowed heap f e c t =
    and_true (are_held sets heap c (slot.Ref heap.words ∷ replicate (main_locals p - 1) slot.Top)) true
    (and_true (is_object_held sets c (slice_get heap.objects heap.words)) (are_held sets heap c (replicate (main_locals p - 1) slot.Top)) (array_there p sets allowed heap f e c t) (tops_held sets heap c (main_locals p - 1)))
    refl

array_name : {S I : Type 0} (p : Program) (sets : Sets I) (allowed : I) (heap : HeapView S I) → IsHeapFor p heap → heap.allowed ≡ allowed → (c : List Bool) → sets.test allowed c ≡ true → name_at sets heap.objects c heap.words ≡ first_words p
array_name p sets allowed heap f e c t =
    ap (name_at sets heap.objects c) f.words
    ∙ name_there sets heap.allowed c (ap (λ id. sets.test id c) e ∙ t) heap.objects (first_words p) f.enough f.first

main_plain : {S I : Type 0} (p : Program) (sets : Sets I) (allowed : I) (heap : HeapView S I) → IsHeapFor p heap → heap.allowed ≡ allowed → (c : List Bool) → sets.test allowed c ≡ true → plain_frame sets heap c (main_frame p heap.words) ≡ new_frame p Call p.main.0 (Ref (first_words p) ∷ [])
main_plain p sets allowed heap f e c t =
    λ i. record { kind = Call; method = p.main.0; position = 0; locals = Ref (array_name p sets allowed heap f e c t i) ∷ top_values sets heap c (main_locals p - 1) i; operands = [] }

-- ---- the group

same_number : (n : ℕ) → (n == n) ≡ true
same_number n = eq-eqb n n refl

main_stands : {S I : Type 0} (p : Program) (sets : Sets I) (allowed : I) (heap : HeapView S I) (frame : Frame S I) (attempts : Conditional ℕ S I) → IsHeapFor p heap → heap.allowed ≡ allowed → scope_of frame ≡ allowed → shape_of frame ≡ record { part = record { method = p.main; position = 0; depth = 0; kind = Call }; locals = main_locals p } → IsFrameOf sets (λ _. main_frame p heap.words) frame → attempts.scope ≡ allowed → IsCond nat_cmp sets attempts → StandsIn p sets heap [] (record { attempts = attempts; top = frame; below = []; caller = None })
unfolding IsGroupIn
main_stands p sets allowed heap frame attempts f e s h v r a = record {
  is_group = record {
    is_group = IsGroup-of_parts sets (record { attempts = attempts; top = frame; below = []; caller = None }) a (IsFrame-of sets (λ _. main_frame p heap.words) frame v) (s ∙ sym r);
    callers = refl;
    parts = refl;
  };
  runs = record { inside = λ c t. ap (λ id. sets.test id c) (e ∙ sym r) ∙ t };
  held = λ c t.
      let there : sets.test allowed c ≡ true = ap (λ id. sets.test id c) (sym r) ∙ t in
      ap (λ plain. frame_held sets heap c plain && true) (frame_at-of sets (λ _. main_frame p heap.words) frame c v (ap (λ id. sets.test id c) s ∙ there))
      ∙ and_true (frame_held sets heap c (main_frame p heap.words)) true (main_held p sets allowed heap f e c there) refl;
  shaped = ap (λ shape. is_shaped p shape && true) h ∙ and_true (main_locals p == main_locals p) true (same_number (main_locals p)) refl;
}

pub main_group-made : {S I : Type 0} (p : Program) (sets : Sets I) (allowed : I) (heap : HeapView S I) (words : ℕ) (frame : Frame S I) (attempts : Conditional ℕ S I) → IsHeapFor p heap → heap.allowed ≡ allowed → words ≡ heap.words → scope_of frame ≡ allowed → shape_of frame ≡ record { part = record { method = p.main; position = 0; depth = 0; kind = Call }; locals = main_locals p } → IsFrameOf sets (λ _. main_frame p words) frame → attempts.scope ≡ allowed → IsCondOf nat_cmp sets (value_within sets allowed (λ _. Some 0)) attempts → IsMainGroup p sets allowed heap (record { attempts = attempts; top = frame; below = []; caller = None })
main_group-made {S = S} {I = I} p sets allowed heap words frame attempts f e w s h v r a =
    let there : IsFrameOf sets (λ _. main_frame p heap.words) frame = subst (λ n. IsFrameOf sets (λ _. main_frame p n) frame) w v in
    record {
      stands = main_stands p sets allowed heap frame attempts f e s h there r (IsCond-of nat_cmp sets (value_within sets allowed (λ _. Some 0)) attempts a);
      path = r;
      single = refl;
      fresh = λ c t. ap (λ o. unwrap_or o 0) (cond_at-of nat_cmp sets (value_within sets allowed (λ _. Some 0)) attempts c a ∙ within_there (sets.test allowed c) (Some 0) t);
      frame = λ c t. ap (plain_frame sets heap c) (frame_at-of sets (λ _. main_frame p heap.words) frame c there (ap (λ id. sets.test id c) s ∙ t)) ∙ main_plain p sets allowed heap f e c t;
    }
