-- What reading and writing a static field, or the state of a class, makes of a heap.
use Rattle.std.proofs.Common.{◌≡◌, ℕ, zero, suc, ◌<◌, Bool, true, false, List, [], ◌∷◌, refl, sym, ◌∙◌, ap, length}
use Rattle.std.proofs.Math.ListN.{set, length-set}
use Rattle.std.proofs.lemmas.List.{map-set}
use Rattle.std.specs.Prelude.{Option, Some, None, if◌then◌else◌, is_some, unwrap_or}
use Rattle.std.specs.Option.{option_or}
use Rattle.std.specs.declared.cmp.Ordering.{Ordering}
use Rattle.vx_value.specs.declared.slot.Slot.{Slot}
use Rattle.vx_value.specs.declared.slot.InitState.{InitState}
use Rattle.vx_value.specs.declared.slot.InitState.TheVariants.{Done}
use Rattle.vx_value.specs.Slot.{slot_cmp, init_state_cmp}
use Rattle.vx_space.specs.Sets.{Sets, Extends, IsLawful}
use Rattle.vx_cond.specs.Leaves.{first_of, value_within}
use Rattle.vx_cond.specs.Cond.{Conditional, IsCond, IsCondOf, IsInside, cond_at}
use Rattle.vx_cond.specs.Row.{AreConds}
use Rattle.vx_cond.specs.Slots.{or_top, slot_at}
use Rattle.vx_cond.proofs.CondLaws.{IsCond-of, cond_at-of}
use Rattle.vx_cond.proofs.RowLaws.{cond_in_row, scope_is}
use Rattle.vx_cond.proofs.SideLaws.{cond_at-covers, first_absent, first_there}
use Rattle.vx_java.specs.Machine.{Value, Top as TopValue}
use Rattle.vx_heap.specs.Heap.{HeapView, IsHeap, IsInitWritten, IsStaticRead, IsStaticWritten, globals_at, init_of, inits_at, is_held, no_cond, static_of, statics_at, value_of}
use Rattle.vx_heap.proofs.HeapLaws.{IsHeap-extends, globals_at-extends, is_held-extends, value_of-extends}
use Rattle.vx_heap.proofs.Places.{at_place, mapped_at, passes-set, passes_at, set_itself}

-- ---- one conditional value of a list

AreConds-set : {T S I : Type 0} (cmp : T → T → Ordering) (sets : Sets I) (scope : I) (xs : List (Conditional T S I)) (i : ℕ) (x : Conditional T S I) → AreConds cmp sets scope xs → IsCond cmp sets x → x.scope ≡ scope → AreConds cmp sets scope (set xs i x)
AreConds-set cmp sets scope [] i x h v e = h
AreConds-set cmp sets scope (y ∷ ys) zero x h v e = (v, e, h.2)
AreConds-set cmp sets scope (y ∷ ys) (suc i) x h v e = (h.0, h.1, AreConds-set cmp sets scope ys i x h.2 v e)

-- inside a condition: the value that was there
pub within_there : {T : Type 0} (b : Bool) (o : Option T) → b ≡ true → (if b then o else None) ≡ o
within_there true o h = refl
within_there false o h = cc

pub some_within : {T : Type 0} (b : Bool) (x : T) → is_some (if b then Some x else None) ≡ b
some_within true x = refl
some_within false x = refl

within_scope : {T : Type 0} (b : Bool) (o : Option T) → (b ≡ true → is_some o ≡ true) → is_some (if b then o else None) ≡ b
within_scope true o h = h refl
within_scope false o h = refl

pub either_scope : {T : Type 0} (a b : Option T) (inner outer : Bool) → is_some a ≡ inner → is_some b ≡ outer → (inner ≡ true → outer ≡ true) → is_some (option_or a b) ≡ outer
either_scope None b inner outer h k i = k
either_scope (Some x) b inner outer h k i = sym (i (sym h))

-- the scope of a value that was read inside a path
pub restricted_scope : {T S I : Type 0} (cmp : T → T → Ordering) {old new : Sets I} → IsLawful new → Extends old new → (x made : Conditional T S I) (path : I) → IsCond cmp old x → old.is_known path ≡ true → IsInside old path x.scope → IsCondOf cmp new (value_within old path (cond_at old x)) made → made.scope ≡ path
restricted_scope cmp {old = old} lawful e x made path v k n m =
    scope_is cmp lawful (value_within old path (cond_at old x)) made path (old.test path) m
    (record { known = e.known path k; test = λ c. e.test path c k })
    (λ c. within_scope (old.test path c) (cond_at old x c) (λ t. cond_at-covers cmp old x v c ∙ n.inside c t))

-- and of one in a part of which others were written
overwritten_scope : {T S I : Type 0} (cmp : T → T → Ordering) {old new : Sets I} → IsLawful new → Extends old new → (x value made : Conditional T S I) (allowed : I) → IsCond cmp old x → x.scope ≡ allowed → old.is_known allowed ≡ true → IsCond cmp old value → IsInside old value.scope allowed → IsCondOf cmp new (first_of (cond_at old value) (cond_at old x)) made → made.scope ≡ allowed
overwritten_scope cmp {old = old} lawful e x value made allowed v s k w n m =
    scope_is cmp lawful (first_of (cond_at old value) (cond_at old x)) made allowed (old.test allowed) m
    (record { known = e.known allowed k; test = λ c. e.test allowed c k })
    (λ c. either_scope (cond_at old value c) (cond_at old x c) (old.test value.scope c) (old.test allowed c) (cond_at-covers cmp old value w c) (cond_at-covers cmp old x v c ∙ ap (λ i. old.test i c) s) (n.inside c))

overwritten_inside : {T S I : Type 0} (cmp : T → T → Ordering) (old new : Sets I) (x value made : Conditional T S I) → IsCond cmp old value → IsCondOf cmp new (first_of (cond_at old value) (cond_at old x)) made → (c : List Bool) → old.test value.scope c ≡ true → cond_at new made c ≡ cond_at old value c
overwritten_inside cmp old new x value made w m c t = cond_at-of cmp new (first_of (cond_at old value) (cond_at old x)) made c m ∙ first_there (cond_at old value c) (cond_at old x c) (cond_at-covers cmp old value w c ∙ t)

overwritten_outside : {T S I : Type 0} (cmp : T → T → Ordering) (old new : Sets I) (x value made : Conditional T S I) → IsCond cmp old value → IsCondOf cmp new (first_of (cond_at old value) (cond_at old x)) made → (c : List Bool) → old.test value.scope c ≡ false → cond_at new made c ≡ cond_at old x c
overwritten_outside cmp old new x value made w m c t = cond_at-of cmp new (first_of (cond_at old value) (cond_at old x)) made c m ∙ first_absent (cond_at old value c) (cond_at old x c) (cond_at-covers cmp old value w c ∙ t)

-- ---- statics

static_in : {S I : Type 0} (sets : Sets I) (heap : HeapView S I) (field : ℕ) (x : Conditional Slot S I) → IsHeap sets heap → field < length heap.statics → x ≡ static_of heap field → IsCond slot_cmp sets x × (x.scope ≡ heap.allowed)
unfolding IsHeap
static_in sets heap field x v l e = cond_in_row slot_cmp sets heap.allowed heap.statics field x v.statics l (at_place heap.statics field x (no_cond heap.allowed) l e)

pub static_is_cond : {S I : Type 0} (sets : Sets I) (heap : HeapView S I) (field : ℕ) (x : Conditional Slot S I) → IsHeap sets heap → field < length heap.statics → x ≡ static_of heap field → IsCond slot_cmp sets x
static_is_cond sets heap field x v l e = (static_in sets heap field x v l e).0

pub static_inside : {S I : Type 0} (sets : Sets I) (heap : HeapView S I) (field : ℕ) (x : Conditional Slot S I) (path : I) → IsHeap sets heap → field < length heap.statics → x ≡ static_of heap field → IsInside sets path heap.allowed → IsInside sets path x.scope
static_inside sets heap field x path v l e n = rw (static_in sets heap field x v l e).1 n

static_held : {S I : Type 0} (sets : Sets I) (heap : HeapView S I) (field : ℕ) (x : Conditional Slot S I) → IsHeap sets heap → field < length heap.statics → x ≡ static_of heap field → (c : List Bool) → is_held sets heap c (slot_at sets x c) ≡ true
unfolding IsHeap
static_held sets heap field x v l e c = passes_at (is_held sets heap c) (λ cond. slot_at sets cond c) heap.statics field x (v.statics_held c) l (at_place heap.statics field x (no_cond heap.allowed) l e)

-- what `read_static` gives
pub IsStaticRead-restricted : {S I : Type 0} {old new : Sets I} → IsLawful new → Extends old new → (heap : HeapView S I) (field : ℕ) (path : I) (x made : Conditional Slot S I) → IsHeap old heap → field < length heap.statics → x ≡ static_of heap field → old.is_known path ≡ true → IsInside old path heap.allowed → IsCondOf slot_cmp new (value_within old path (cond_at old x)) made → IsStaticRead old new heap field path made
IsStaticRead-restricted {old = old} {new = new} lawful e heap field path x made v l q k n m =
    let slot : (c : List Bool) → old.test path c ≡ true → slot_at new made c ≡ slot_at old x c = λ c t. ap or_top (cond_at-of slot_cmp new (value_within old path (cond_at old x)) made c m ∙ within_there (old.test path c) (cond_at old x c) t) in
    record {
      is_cond = IsCond-of slot_cmp new (value_within old path (cond_at old x)) made m;
      scope = restricted_scope slot_cmp lawful e x made path (static_is_cond old heap field x v l q) k (static_inside old heap field x path v l q n) m;
      at = λ c t.
          value_of-extends e heap v c (slot_at new made c)
          ∙ ap (value_of old heap c) (slot c t)
          ∙ sym (mapped_at (λ cond. value_of old heap c (slot_at old cond c)) heap.statics field x TopValue l (at_place heap.statics field x (no_cond heap.allowed) l q));
      held = λ c t. is_held-extends e heap v c (slot_at new made c) ∙ ap (is_held old heap c) (slot c t) ∙ static_held old heap field x v l q c;
    }

-- a heap with another conditional value for a field, which names what is there
with_static_is_heap : {S I : Type 0} (sets : Sets I) (heap : HeapView S I) (field : ℕ) (made : Conditional Slot S I) → IsHeap sets heap → IsCond slot_cmp sets made → made.scope ≡ heap.allowed → ((c : List Bool) → is_held sets heap c (slot_at sets made c) ≡ true) → IsHeap sets (record heap { statics = set heap.statics field made })
unfolding IsHeap
with_static_is_heap sets heap field made v w s h = record {
  allowed_known = v.allowed_known;
  objects = v.objects;
  statics = AreConds-set slot_cmp sets heap.allowed heap.statics field made v.statics w s;
  inits = v.inits;
  objects_held = v.objects_held;
  statics_held = λ c. passes-set (is_held sets heap c) (λ cond. slot_at sets cond c) heap.statics field made (v.statics_held c) (h c);
}

pub allowed_known : {S I : Type 0} (sets : Sets I) (heap : HeapView S I) → IsHeap sets heap → sets.is_known heap.allowed ≡ true
unfolding IsHeap
allowed_known sets heap v = v.allowed_known

-- what `write_static` makes
pub IsStaticWritten-overwritten : {S I : Type 0} {old new : Sets I} → IsLawful new → Extends old new → (heap : HeapView S I) (field : ℕ) (value x made : Conditional Slot S I) → IsHeap old heap → field < length heap.statics → x ≡ static_of heap field → IsCond slot_cmp old value → IsInside old value.scope heap.allowed → ((c : List Bool) → old.test value.scope c ≡ true → is_held old heap c (slot_at old value c) ≡ true) → IsCondOf slot_cmp new (first_of (cond_at old value) (cond_at old x)) made → IsStaticWritten old new heap field value (record heap { statics = set heap.statics field made })
IsStaticWritten-overwritten {S = S} {I = I} {old = old} {new = new} lawful e heap field value x made v l q w n h m =
    let place = static_in old heap field x v l q in
    let inner : (c : List Bool) → old.test value.scope c ≡ true → slot_at new made c ≡ slot_at old value c = λ c t. ap or_top (overwritten_inside slot_cmp old new x value made w m c t) in
    let outer : (c : List Bool) → old.test value.scope c ≡ false → slot_at new made c ≡ slot_at old x c = λ c t. ap or_top (overwritten_outside slot_cmp old new x value made w m c t) in
    let statics : (c : List Bool) → statics_at new (record heap { statics = set heap.statics field made }) c ≡ set (statics_at old heap c) field (value_of old heap c (slot_at new made c)) = λ c.
    map-set (λ cond. value_of new heap c (slot_at new cond c)) heap.statics field made
    ∙ (λ i. set ((globals_at-extends e heap v c i).statics) field (value_of-extends e heap v c (slot_at new made c) i)) in
    record {
      is_heap = with_static_is_heap new heap field made (IsHeap-extends e heap v) (IsCond-of slot_cmp new (first_of (cond_at old value) (cond_at old x)) made m)
          (overwritten_scope slot_cmp lawful e x value made heap.allowed place.0 place.1 (allowed_known old heap v) w n m)
          (λ c. is_held-extends e heap v c (slot_at new made c) ∙ held c (old.test value.scope c) (λ t. ap (is_held old heap c) (inner c t) ∙ h c t) (λ t. ap (is_held old heap c) (outer c t) ∙ static_held old heap field x v l q c));
      same = refl;
      count = length-set heap.statics field made;
      inside = λ c t. written c (globals_at-extends e heap v c) (statics c ∙ ap (λ slot. set (statics_at old heap c) field (value_of old heap c slot)) (inner c t));
      outside = λ c t. written c (globals_at-extends e heap v c) (statics c ∙ ap (λ slot. set (statics_at old heap c) field (value_of old heap c slot)) (outer c t) ∙ set_itself (λ cond. value_of old heap c (slot_at old cond c)) heap.statics field x l (at_place heap.statics field x (no_cond heap.allowed) l q));
    }
  where
    held : (c : List Bool) (b : Bool) → (b ≡ true → is_held old heap c (slot_at new made c) ≡ true) → (b ≡ false → is_held old heap c (slot_at new made c) ≡ true) → is_held old heap c (slot_at new made c) ≡ true
    held c true f g = f refl
    held c false f g = g refl

    written : (c : List Bool) {statics : List Value} → globals_at new heap c ≡ globals_at old heap c → statics_at new (record heap { statics = set heap.statics field made }) c ≡ statics → globals_at new (record heap { statics = set heap.statics field made }) c ≡ record (globals_at old heap c) { statics = statics }
    written c g s = λ i. record { objects = (g i).objects; statics = s i; inits = (g i).inits }

-- ---- initialisation states

init_in : {S I : Type 0} (sets : Sets I) (heap : HeapView S I) (class : ℕ) (x : Conditional InitState S I) → IsHeap sets heap → class < length heap.inits → x ≡ init_of heap class → IsCond init_state_cmp sets x × (x.scope ≡ heap.allowed)
unfolding IsHeap
init_in sets heap class x v l e = cond_in_row init_state_cmp sets heap.allowed heap.inits class x v.inits l (at_place heap.inits class x (no_cond heap.allowed) l e)

pub init_is_cond : {S I : Type 0} (sets : Sets I) (heap : HeapView S I) (class : ℕ) (x : Conditional InitState S I) → IsHeap sets heap → class < length heap.inits → x ≡ init_of heap class → IsCond init_state_cmp sets x
init_is_cond sets heap class x v l e = (init_in sets heap class x v l e).0

pub init_inside : {S I : Type 0} (sets : Sets I) (heap : HeapView S I) (class : ℕ) (x : Conditional InitState S I) (path : I) → IsHeap sets heap → class < length heap.inits → x ≡ init_of heap class → IsInside sets path heap.allowed → IsInside sets path x.scope
init_inside sets heap class x path v l e n = rw (init_in sets heap class x v l e).1 n

with_init_is_heap : {S I : Type 0} (sets : Sets I) (heap : HeapView S I) (class : ℕ) (made : Conditional InitState S I) → IsHeap sets heap → IsCond init_state_cmp sets made → made.scope ≡ heap.allowed → IsHeap sets (record heap { inits = set heap.inits class made })
unfolding IsHeap
with_init_is_heap sets heap class made v w s = record {
  allowed_known = v.allowed_known;
  objects = v.objects;
  statics = v.statics;
  inits = AreConds-set init_state_cmp sets heap.allowed heap.inits class made v.inits w s;
  objects_held = v.objects_held;
  statics_held = v.statics_held;
}

-- what `set_init` makes
pub IsInitWritten-overwritten : {S I : Type 0} {old new : Sets I} → IsLawful new → Extends old new → (heap : HeapView S I) (class : ℕ) (states x made : Conditional InitState S I) → IsHeap old heap → class < length heap.inits → x ≡ init_of heap class → IsCond init_state_cmp old states → IsInside old states.scope heap.allowed → IsCondOf init_state_cmp new (first_of (cond_at old states) (cond_at old x)) made → IsInitWritten old new heap class states (record heap { inits = set heap.inits class made })
IsInitWritten-overwritten {S = S} {I = I} {old = old} {new = new} lawful e heap class states x made v l q w n m =
    let place = init_in old heap class x v l q in
    let inits : (c : List Bool) → inits_at new (record heap { inits = set heap.inits class made }) c ≡ set (inits_at old heap c) class (unwrap_or (cond_at new made c) Done) = λ c.
    map-set (λ cond. unwrap_or (cond_at new cond c) Done) heap.inits class made
    ∙ (λ i. set ((globals_at-extends e heap v c i).inits) class (unwrap_or (cond_at new made c) Done)) in
    record {
      is_heap = with_init_is_heap new heap class made (IsHeap-extends e heap v) (IsCond-of init_state_cmp new (first_of (cond_at old states) (cond_at old x)) made m)
          (overwritten_scope init_state_cmp lawful e x states made heap.allowed place.0 place.1 (allowed_known old heap v) w n m);
      same = refl;
      count = length-set heap.inits class made;
      inside = λ c t. written c (globals_at-extends e heap v c) (inits c ∙ ap (λ o. set (inits_at old heap c) class (unwrap_or o Done)) (overwritten_inside init_state_cmp old new x states made w m c t));
      outside = λ c t. written c (globals_at-extends e heap v c) (inits c ∙ ap (λ o. set (inits_at old heap c) class (unwrap_or o Done)) (overwritten_outside init_state_cmp old new x states made w m c t) ∙ set_itself (λ cond. unwrap_or (cond_at old cond c) Done) heap.inits class x l (at_place heap.inits class x (no_cond heap.allowed) l q));
    }
  where
    written : (c : List Bool) {inits : List InitState} → globals_at new heap c ≡ globals_at old heap c → inits_at new (record heap { inits = set heap.inits class made }) c ≡ inits → globals_at new (record heap { inits = set heap.inits class made }) c ≡ record (globals_at old heap c) { inits = inits }
    written c g s = λ i. record { objects = (g i).objects; statics = (g i).statics; inits = s i }
