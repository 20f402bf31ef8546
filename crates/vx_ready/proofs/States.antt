-- The initialisation states of a class inside a path.
use Rattle.std.proofs.Common.{◌≡◌, ℕ, ◌<◌, ◌≤◌, zero, suc, Bool, true, false, List, [], ◌∷◌, refl, sym, ◌∙◌, ap, arith, length}
use Rattle.std.proofs.lemmas.List.{length-map}
use Rattle.std.specs.Prelude.{Option, Some, None, if◌then◌else◌, is_some, unwrap_or}
use Rattle.vx_cond.specs.Cond.{Conditional, IsCondOf, IsInside, cond_at}
use Rattle.vx_cond.specs.Leaves.{value_within}
use Rattle.vx_cond.proofs.CondLaws.{cond_at-of}
use Rattle.vx_cond.proofs.SideLaws.{cond_at-covers}
use Rattle.vx_heap.specs.Heap.{HeapView, IsHeap, IsHeapFor, init_of, inits_at, no_cond}
use Rattle.vx_heap.proofs.Places.{at_place, mapped_at}
use Rattle.vx_heap.proofs.Written.{init_inside, init_is_cond}
use Rattle.vx_java.specs.Machine.{init_at}
use Rattle.vx_link.specs.declared.program.Program.{Program}
use Rattle.vx_list.specs.Places.{item_or}
use Rattle.vx_space.specs.Sets.{Sets}
use Rattle.vx_value.specs.Slot.{init_state_cmp}
use Rattle.vx_value.specs.declared.slot.InitState.{InitState}
use Rattle.vx_value.specs.declared.slot.InitState.TheVariants.{Done}

pub item_beyond : {A : Type 0} (xs : List A) (i : ℕ) (d : A) → length xs ≤ i → item_or xs i d ≡ d
item_beyond [] i d l = refl
item_beyond (x ∷ xs) zero d l = absurd (omega arith)
item_beyond (x ∷ xs) (suc i) d l = item_beyond xs i d (omega arith)

pub length-inits : {S I : Type 0} (p : Program) (sets : Sets I) (heap : HeapView S I) (c : List Bool) → IsHeapFor p heap → length (inits_at sets heap c) ≡ length p.classes
length-inits p sets heap c h =
    let mapped : length (inits_at sets heap c) ≡ length heap.inits = simp length-map in
    mapped ∙ h.init_count

-- a class that the program doesn't have
pub states_beyond : {S I : Type 0} (p : Program) (sets : Sets I) (heap : HeapView S I) (class : ℕ) (path : I) (made : Conditional InitState S I) → IsHeapFor p heap → length p.classes ≤ class → IsCondOf init_state_cmp sets (value_within sets path (λ _. Some Done)) made → (c : List Bool) → cond_at sets made c ≡ (if sets.test path c then Some (init_at (inits_at sets heap c) class) else None)
states_beyond p sets heap class path made h l m c =
    let few : length (inits_at sets heap c) ≤ class = omega (arith, length-inits p sets heap c h) in
    cond_at-of init_state_cmp sets _ made c m ∙ ap (λ s. if sets.test path c then Some s else None) (sym (item_beyond (inits_at sets heap c) class Done few))

there : (b : Bool) (o : Option InitState) (s : InitState) → (b ≡ true → is_some o ≡ true) → s ≡ unwrap_or o Done → (if b then o else None) ≡ (if b then Some s else None)
there true None s h e = cc (h refl)
there true (Some x) s h e = ap Some (sym e)
there false o s h e = refl

-- and one that it has
pub states_there : {S I : Type 0} (old new : Sets I) (heap : HeapView S I) (class : ℕ) (path : I) (x made : Conditional InitState S I) → IsHeap old heap → class < length heap.inits → x ≡ init_of heap class → IsInside old path heap.allowed → IsCondOf init_state_cmp new (value_within old path (cond_at old x)) made → (c : List Bool) → cond_at new made c ≡ (if old.test path c then Some (init_at (inits_at old heap c) class) else None)
states_there old new heap class path x made v l e i m c =
    cond_at-of init_state_cmp new _ made c m
    ∙ there (old.test path c) (cond_at old x c) (init_at (inits_at old heap c) class) (λ t. cond_at-covers init_state_cmp old x (init_is_cond old heap class x v l e) c ∙ (init_inside old heap class x path v l e i).inside c t)
    (mapped_at (λ cond. unwrap_or (cond_at old cond c) Done) heap.inits class x Done l (at_place heap.inits class x (no_cond heap.allowed) l e))
