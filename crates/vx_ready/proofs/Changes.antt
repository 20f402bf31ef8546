-- Changes of static fields and initialisation states, one after the other.
use Rattle.std.proofs.Common.{◌≡◌, ℕ, ◌≤◌, zero, suc, Bool, true, false, List, [], ◌∷◌, ◌++◌, refl, sym, ◌∙◌, ap, subst, arith, length}
use Rattle.std.proofs.Math.ListN.{set}
use Rattle.std.specs.Prelude.{Some, None, if◌then◌else◌, unwrap_or}
use Rattle.vx_cond.specs.Cond.{Conditional, IsCondOf}
use Rattle.vx_cond.specs.Leaves.{value_within}
use Rattle.vx_cond.proofs.CondLaws.{cond_at-of}
use Rattle.vx_heap.specs.Heap.{Globals, HeapView, IsHeap, IsHeapFor, IsInitWritten, globals_at, inits_at}
use Rattle.vx_heap.proofs.HeapLaws.{IsHeap-extends, globals_at-extends}
use Rattle.vx_java.specs.Machine.{inits_with}
use Rattle.vx_link.specs.declared.program.Program.{Program}
use Rattle.vx_space.specs.Sets.{Extends, Sets}
use Rattle.vx_value.specs.Slot.{init_state_cmp}
use Rattle.vx_value.specs.declared.slot.InitState.{InitState}
use Rattle.vx_value.specs.declared.slot.InitState.TheVariants.{Done}
use Rattle.vx_ready.specs.Changing.{IsChanged}
use Rattle.vx_ready.specs.Initialising.{marked_at, with_state}
use Rattle.vx_ready.specs.declared.initialising.Mark.{Mark}
use Rattle.vx_ready.proofs.States.{length-inits}

pub IsChanged-none : {S I : Type 0} {old new : Sets I} → Extends old new → (heap : HeapView S I) → IsHeap old heap → IsChanged old new heap heap (λ c g. g)
IsChanged-none e heap v = record { is_heap = IsHeap-extends e heap v; same = refl; statics = refl; inits = refl; at = λ c. globals_at-extends e heap v c }

pub IsChanged-trans : {S I : Type 0} {s0 s1 s2 : Sets I} (before middle after : HeapView S I) (f g : List Bool → Globals → Globals) → IsChanged s0 s1 before middle f → IsChanged s1 s2 middle after g → IsChanged s0 s2 before after (λ c x. g c (f c x))
IsChanged-trans {S = S} {I = I} before middle after f g a b = record {
  is_heap = b.is_heap;
  same = b.same ∙ ap (λ (h : HeapView S I). record h { statics = after.statics; inits = after.inits }) a.same;
  statics = b.statics ∙ a.statics;
  inits = b.inits ∙ a.inits;
  at = λ c. b.at c ∙ ap (g c) (a.at c);
}

-- told of an earlier space, and by another change that makes the same of what stands there
pub IsChanged-before : {S I : Type 0} {s0 s1 s2 : Sets I} → Extends s0 s1 → (before after : HeapView S I) (f g : List Bool → Globals → Globals) → IsHeap s0 before → ((c : List Bool) → f c (globals_at s0 before c) ≡ g c (globals_at s0 before c)) → IsChanged s1 s2 before after f → IsChanged s0 s2 before after g
IsChanged-before e before after f g v same a = record {
  is_heap = a.is_heap;
  same = a.same;
  statics = a.statics;
  inits = a.inits;
  at = λ c. a.at c ∙ ap (f c) (globals_at-extends e before v c) ∙ same c;
}

pub IsChanged-extends : {S I : Type 0} {s0 s1 s2 : Sets I} → Extends s1 s2 → (before after : HeapView S I) (f : List Bool → Globals → Globals) → IsChanged s0 s1 before after f → IsChanged s0 s2 before after f
IsChanged-extends e before after f a = record {
  is_heap = IsHeap-extends e after a.is_heap;
  same = a.same;
  statics = a.statics;
  inits = a.inits;
  at = λ c. globals_at-extends e after a.is_heap c ∙ a.at c;
}

pub IsChanged-allowed : {S I : Type 0} (s0 s1 : Sets I) (before after : HeapView S I) (f : List Bool → Globals → Globals) → IsChanged s0 s1 before after f → after.allowed ≡ before.allowed
IsChanged-allowed {S = S} {I = I} s0 s1 before after f a = ap (λ (h : HeapView S I). h.allowed) a.same

-- the heap is still one of the program
pub IsHeapFor-changed : {S I : Type 0} (p : Program) (s0 s1 : Sets I) (before after : HeapView S I) (f : List Bool → Globals → Globals) → IsHeapFor p before → IsChanged s0 s1 before after f → IsHeapFor p after
IsHeapFor-changed {S = S} {I = I} p s0 s1 before after f h a =
    let P : HeapView S I → Type 0 = λ heap. IsHeapFor p heap in
    subst P (sym a.same) (record {
      static_count = a.statics ∙ h.static_count;
      init_count = a.inits ∙ h.init_count;
      literals = h.literals;
      resolved = h.resolved;
      words = h.words;
      enough = h.enough;
      first = h.first;
    })

-- ---- marks

inits_with-append : (inits : List InitState) (i : InitState) (xs ys : List ℕ) → inits_with inits i (xs ++ ys) ≡ inits_with (inits_with inits i xs) i ys
inits_with-append inits i [] ys = refl
inits_with-append inits i (x ∷ xs) ys = inits_with-append (set inits x i) i xs ys

pub with_state-append : (state : InitState) (xs ys : List ℕ) (g : Globals) → with_state state (xs ++ ys) g ≡ with_state state ys (with_state state xs g)
with_state-append state xs ys g = ap (λ is. record g { inits = is }) (inits_with-append g.inits state xs ys)

set_beyond : {A : Type 0} (xs : List A) (i : ℕ) (v : A) → length xs ≤ i → set xs i v ≡ xs
set_beyond [] i v l = refl
set_beyond (x ∷ xs) zero v l = absurd (omega arith)
set_beyond (x ∷ xs) (suc i) v l = ap (λ ys. x ∷ ys) (set_beyond xs i v (omega arith))

-- a class that the program doesn't have
pub mark_beyond : {S I : Type 0} (p : Program) (sets : Sets I) (heap : HeapView S I) (mark : Mark S I) (state : InitState) → IsHeap sets heap → IsHeapFor p heap → length p.classes ≤ mark.class.0 → Extends sets sets → IsChanged sets sets heap heap (λ c. with_state state (marked_at sets (mark ∷ []) c))
mark_beyond p sets heap mark state v h l e = IsChanged-before e heap heap (λ c g. g) (λ c. with_state state (marked_at sets (mark ∷ []) c)) v (λ c. same c (sets.test mark.condition c)) (IsChanged-none e heap v)
  where
    same : (c : List Bool) (b : Bool) → globals_at sets heap c ≡ with_state state (if b then mark.class.0 ∷ [] else []) (globals_at sets heap c)
    same c true =
        let few : length (inits_at sets heap c) ≤ mark.class.0 = omega (arith, length-inits p sets heap c h) in
        ap (λ is. record (globals_at sets heap c) { inits = is }) (sym (set_beyond (inits_at sets heap c) mark.class.0 state few))
    same c false = refl

-- and one that it has
pub mark_there : {S I : Type 0} (old new : Sets I) (before after : HeapView S I) (mark : Mark S I) (state : InitState) (states : Conditional InitState S I) → states.scope ≡ mark.condition → IsCondOf init_state_cmp old (value_within old mark.condition (λ _. Some state)) states → IsInitWritten old new before mark.class.0 states after → IsChanged old new before after (λ c. with_state state (marked_at old (mark ∷ []) c))
mark_there {S = S} {I = I} old new before after mark state states s d w = record {
  is_heap = w.is_heap;
  same = w.same ∙ same_statics w.same;
  statics = ap (λ (h : HeapView S I). length h.statics) w.same;
  inits = w.count;
  at = λ c. at c (old.test mark.condition c) refl;
}
  where
    same_statics : after ≡ record before { inits = after.inits } → record before { inits = after.inits } ≡ record before { statics = after.statics; inits = after.inits }
    same_statics e = λ i. record before { statics = (sym e i).statics; inits = after.inits }

    state_there : (b : Bool) → b ≡ true → unwrap_or (if b then Some state else None) Done ≡ state
    state_there true h = refl
    state_there false h = cc

    at : (c : List Bool) (b : Bool) → old.test mark.condition c ≡ b → globals_at new after c ≡ with_state state (if b then mark.class.0 ∷ [] else []) (globals_at old before c)
    at c true t =
        w.inside c (ap (λ i. old.test i c) s ∙ t)
        ∙ ap (λ x. record (globals_at old before c) { inits = set (inits_at old before c) mark.class.0 x }) (ap (λ o. unwrap_or o Done) (cond_at-of init_state_cmp old _ states c d) ∙ state_there (old.test mark.condition c) t)
    at c false t = w.outside c (ap (λ i. old.test i c) s ∙ t)
