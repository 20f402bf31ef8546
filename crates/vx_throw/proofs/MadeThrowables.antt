-- A throwable that is made, one change of the heap after the other.
use Rattle.std.proofs.Common.{◌≡◌, ℕ, ◌<◌, Bool, true, List, [], ◌∷◌, ◌++◌, sym, ◌∙◌, ap, length, refl}
use Rattle.std.specs.Prelude.{slice_set}
use Rattle.vx_cells.proofs.WrittenThrough.{reference_held}
use Rattle.vx_cond.specs.Cond.{Conditional, IsCond, IsInside}
use Rattle.vx_cond.specs.Slots.{slot_at}
use Rattle.vx_cond.proofs.CondLaws.{IsCond-extends}
use Rattle.vx_group_states.specs.Sites.{IsSomewhere}
use Rattle.vx_families.proofs.ChangeLaws.{changed_as, changes_in_one}
use Rattle.vx_families.proofs.NameLaws.{name_stays, new_name_is_next}
use Rattle.vx_heap.proofs.Growing.{Grows-trans, is_held-grown, value_of-grown}
use Rattle.vx_heap.specs.Changing.{Grows, IsCellWritten, IsChangedIn, IsMade, IsValueHeld, with_cell_of, with_object}
use Rattle.vx_heap.specs.Heap.{Globals, HeapView, IsHeap, globals_at, is_held, name_at, object_in, objects_at, value_of}
use Rattle.vx_java.specs.FirstObjects.{new_object}
use Rattle.vx_java.specs.Machine.{Object, Value, no_object}
use Rattle.vx_java.specs.Throwing.{throwable}
use Rattle.vx_link.specs.declared.program.Program.{Program}
use Rattle.vx_list.specs.Places.{item_or}
use Rattle.vx_space.specs.Sets.{Sets, Extends}
use Rattle.vx_space.proofs.Spaces.{Extends-refl}
use Rattle.vx_value.specs.Slot.{slot_cmp}
use Rattle.vx_value.specs.declared.slot.Slot.{Slot}
use Rattle.vx_value.specs.declared.slot.Slot.TheVariants.{Ref}
use Rattle.vx_throw.proofs.Within.{slot_later}
use Rattle.vx_throw.specs.Making.{IsThrowableMade}

-- ---- the last object of a plain heap

set_last : {A : Type 0} (xs : List A) (y z : A) → slice_set (xs ++ y ∷ []) (length xs) z ≡ xs ++ z ∷ []
set_last [] y z = refl
set_last (x ∷ xs) y z = ap (λ zs. x ∷ zs) (set_last xs y z)

item_last : {A : Type 0} (xs : List A) (y d : A) → item_or (xs ++ y ∷ []) (length xs) d ≡ y
item_last [] y d = refl
item_last (x ∷ xs) y d = item_last xs y d

-- another value in a cell of it
cell_last : (g : Globals) (xs : List Object) (o : Object) (i : ℕ) (v : Value) → with_cell_of (length xs) i v (record g { objects = xs ++ o ∷ [] }) ≡ record g { objects = xs ++ record o { cells = slice_set o.cells i v } ∷ [] }
cell_last g xs o i v =
    ap (λ (x : Object). record g { objects = slice_set (xs ++ o ∷ []) (length xs) (record x { cells = slice_set x.cells i v }) }) (item_last xs o no_object)
    ∙ ap (λ (os : List Object). record g { objects = os }) (set_last xs o (record o { cells = slice_set o.cells i v }))

-- an object with its two first cells written is the throwable
throwable_is : (p : Program) (class : ℕ) (g : Globals) (n m : ℕ) (v w message cause : Value) → n ≡ length g.objects → m ≡ length g.objects → v ≡ message → w ≡ cause → with_cell_of m 1 w (with_cell_of n 0 v (with_object (new_object p class) g)) ≡ with_object (throwable p class message cause) g
throwable_is p class g n m v w message cause e f h k =
    let o = new_object p class in
    let first : Object = record o { cells = slice_set o.cells 0 message } in
    (λ i. with_cell_of (f i) 1 (k i) (with_cell_of (e i) 0 (h i) (with_object o g)))
    ∙ ap (with_cell_of (length g.objects) 1 cause) (cell_last g g.objects o 0 message)
    ∙ cell_last g g.objects first 1 cause

-- ---- all configurations of a path

-- the message when the first cell is written
pub message_there : {S I : Type 0} (p : Program) {s0 : Sets I} (before with_new : HeapView S I) (path : I) (class : ℕ) (message : Slot) (object : ℕ) → IsHeap s0 before → ((c : List Bool) → s0.test path c ≡ true → is_held s0 before c message ≡ true) → IsMade s0 before path (new_object p class) with_new object → (c : List Bool) → s0.test path c ≡ true → is_held s0 with_new c message ≡ true
message_there p {s0 = s0} before with_new path class message object v held made c t = is_held-grown (Extends-refl s0) before with_new v made.changed.grows c message (held c t)

module _ {S I : Type 0} (p : Program) {s0 s1 : Sets I} (before with_new with_first : HeapView S I) (path : I) (class : ℕ) (message : Slot) (cause : Conditional Slot S I) (object : ℕ) (v : IsHeap s0 before) (known : s0.is_known path ≡ true) (held : (c : List Bool) → s0.test path c ≡ true → is_held s0 before c message ≡ true) (is_cond : IsCond slot_cmp s0 cause) (scope : cause.scope ≡ path) (value : IsValueHeld s0 before cause) (made : IsMade s0 before path (new_object p class) with_new object) (e01 : Extends s0 s1) (first : IsChangedIn s0 s1 with_new with_first (s0.test path) (λ c. with_cell_of (name_at s0 with_new.objects c object) 0 (value_of s0 with_new c message))) where
  grows : Grows before with_first
  grows = Grows-trans before with_new with_first made.changed.grows first.grows

  earlier : (c : List Bool) → s1.test path c ≡ true → s0.test path c ≡ true
  earlier c t = sym (e01.test path c known) ∙ t

  there_first : (c : List Bool) → s0.test path c ≡ true → is_held s1 with_first c (Ref object) ≡ true
  there_first c t = is_held-grown e01 with_new with_first made.changed.is_heap first.grows c (Ref object) (made.held c t)

  -- the object when the second one is
  pub object_within : IsSomewhere s0 path → object < length with_first.objects
  object_within some = (reference_held s1 with_first some.config object (there_first some.config some.inside)).0

  pub object_inside : IsInside s1 cause.scope (object_in with_first object).presence
  object_inside = record { inside = λ c t. (reference_held s1 with_first c object (there_first c (earlier c (ap (λ i. s1.test i c) (sym scope) ∙ t)))).1 }

  pub cause_is_cond : IsCond slot_cmp s1 cause
  cause_is_cond = IsCond-extends slot_cmp e01 cause is_cond

  in_scope : (c : List Bool) → s0.test path c ≡ true → s0.test cause.scope c ≡ true
  in_scope c t = ap (λ i. s0.test i c) scope ∙ t

  pub cause_there : IsValueHeld s1 with_first cause
  cause_there = record {
    held = λ c t.
        let here : s0.test cause.scope c ≡ true = in_scope c (earlier c (ap (λ i. s1.test i c) (sym scope) ∙ t)) in
        ap (is_held s1 with_first c) (slot_later e01 cause is_cond c) ∙ is_held-grown e01 before with_first v grows c (slot_at s0 cause c) (value.held c here);
  }

  -- its name is that of the object behind those that stood there
  name_made : (c : List Bool) → name_at s0 with_new.objects c object ≡ length (objects_at s0 before c)
  name_made c = ap (name_at s0 with_new.objects c) made.reference_is ∙ new_name_is_next s0 s0 before with_new (Extends-refl s0) v made.changed.grows c

  name_first : (c : List Bool) → s0.test path c ≡ true → name_at s1 with_first.objects c object ≡ length (objects_at s0 before c)
  name_first c t = name_stays e01 with_new with_first made.changed.is_heap first.grows c object (made.held c t) ∙ name_made c

  message_value : (c : List Bool) → s0.test path c ≡ true → value_of s0 with_new c message ≡ value_of s0 before c message
  message_value c t = value_of-grown (Extends-refl s0) before with_new v made.changed.grows c message (held c t)

  cause_value : (c : List Bool) → s0.test path c ≡ true → value_of s1 with_first c (slot_at s1 cause c) ≡ value_of s0 before c (slot_at s0 cause c)
  cause_value c t = ap (value_of s1 with_first c) (slot_later e01 cause is_cond c) ∙ value_of-grown e01 before with_first v grows c (slot_at s0 cause c) (value.held c (in_scope c t))

  pub IsThrowableMade-of : {s2 : Sets I} (after : HeapView S I) → Extends s1 s2 → IsCellWritten s1 s2 with_first object 1 cause after → IsThrowableMade p s0 s2 before path class message cause after object
  IsThrowableMade-of {s2 = s2} after e12 second =
      let writes_first : List Bool → Globals → Globals = λ c. with_cell_of (name_at s0 with_new.objects c object) 0 (value_of s0 with_new c message) in
      let writes_second : List Bool → Globals → Globals = λ c. with_cell_of (name_at s1 with_first.objects c object) 1 (value_of s1 with_first c (slot_at s1 cause c)) in
      let with_cell = changes_in_one before with_new with_first (s0.test path) (s0.test path) (λ _. with_object (new_object p class)) writes_first (λ c. refl) made.changed first in
      let with_cells = changes_in_one before with_first after (s0.test path) (s1.test cause.scope) (λ c g. writes_first c (with_object (new_object p class) g)) writes_second (λ c. ap (λ i. s1.test i c) scope ∙ e01.test path c known) with_cell second in
      record {
        changed = changed_as s0 s2 before after (s0.test path) (λ c g. writes_second c (writes_first c (with_object (new_object p class) g))) (λ c. with_object (throwable p class (value_of s0 before c message) (value_of s0 before c (slot_at s0 cause c))))
            (λ c t. throwable_is p class (globals_at s0 before c) (name_at s0 with_new.objects c object) (name_at s1 with_first.objects c object) (value_of s0 with_new c message) (value_of s1 with_first c (slot_at s1 cause c)) (value_of s0 before c message) (value_of s0 before c (slot_at s0 cause c)) (name_made c) (name_first c t) (message_value c t) (cause_value c t))
            with_cells;
        held = λ c t. is_held-grown e12 with_first after first.is_heap second.grows c (Ref object) (there_first c t);
        name = λ c t. name_stays e12 with_first after first.is_heap second.grows c object (there_first c t) ∙ name_first c t;
      }
