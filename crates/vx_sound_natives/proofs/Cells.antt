-- The cells of core objects that native methods read and write.
use Rattle.std.proofs.Common.{Bool, List, None, Some, ap, codes, false, refl, subst, sym, true, ℕ, ◌∷◌, ◌≡◌}
use Prim.Native.String.{String}
use Rattle.std.proofs.lemmas.Slice.Eq.{bytes_eq-Decides}
use Rattle.std.specs.Prelude.{bytes_eq, if◌then◌else◌, slice_set}
use Rattle.vx_java.specs.Ids.{as_class}
use Rattle.vx_java.specs.Machine.{Go, Here, Object, Ref, Top, Value, no_object, past}
use Rattle.vx_link.specs.ClassNames.{core_class, is_array, object_class}
use Rattle.vx_link.specs.Hierarchy.{is_among, superclasses}
use Rattle.vx_link.specs.declared.program.Program.{Program}
use Rattle.vx_list.specs.Places.{item_or}
use Rattle.vx_sound.proofs.Assigned.{IsCore, core_there, is_named}
use Rattle.vx_sound.proofs.Changes.{changes_heap, under_later}
use Rattle.vx_sound.proofs.ClassTypes.{plain_type}
use Rattle.vx_sound.proofs.Classes.{among_above, array_root_fits}
use Rattle.vx_sound.proofs.Fields.{changed_field}
use Rattle.vx_sound.proofs.Heaps.{IsLaterHeap, changed_later, changed_typed, later_itself, later_through, still}
use Rattle.vx_sound.proofs.NewObjects.{apart}
use Rattle.vx_sound.proofs.Sites.{AtSite, Typed, types_in}
use Rattle.vx_sound.specs.Sound.{IsCoreCell, IsSound, named_classes}
use Rattle.vx_sound.specs.Typed.{IsTypedHeap, IsTypedObject, Typings}
use Rattle.vx_sound.specs.Values.{type_of_class, type_of_field, type_of_value, types_of_values}
use Rattle.vx_sound_natives.proofs.ValueKinds.{IsAt, an_object, at_fits, at_later, core_type}
use Rattle.vx_sound_natives.proofs.Results.{Leads}
use Rattle.vx_types.proofs.Lists.{list_fits}
use Rattle.vx_types.proofs.Tests.{not_both}
use Rattle.vx_types.specs.Fits.{fits}
use Rattle.vx_types.specs.Ranked.{IsRanked}
use Rattle.vx_types.specs.Types.{class_type}
use Rattle.vx_types.specs.declared.types.ElementType.TheVariants as element
use Rattle.vx_types.specs.declared.types.VerType.{VerType}
use Rattle.vx_types.specs.declared.types.VerType.TheVariants as is

-- a core class that is no root, of whose objects cells are read and written
pub record IsHolder (p : Program) (name : String) : Type 0 where
  pub core : IsCore p false name
  pub proper : core_class p name ≡ core_class p "java/lang/Object" → ⊥

pub holder : (p : Program) → IsSound p → (name : String) → is_named named_classes name ≡ true → bytes_eq (codes name) (codes "java/lang/Object") ≡ false → IsHolder p name
holder p sound name named other = record {
  core = core_there p sound.core name named;
  proper = apart p sound name "java/lang/Object" (core_there p sound.core name named) (core_there p sound.core "java/lang/Object" refl) differ;
}
  where
    differ : codes name ≡ codes "java/lang/Object" → ⊥
    differ same = not_both (bytes_eq (codes name) (codes "java/lang/Object")) ((bytes_eq-Decides (codes name) (codes "java/lang/Object")).1 same) other

-- the type of a core class that is no interface
pub class_type_is : (p : Program) (name : String) → IsCore p false name → class_type p (core_class p name) ≡ core_type p name
class_type_is p name core = ap (λ b. is.Ref 0 (element.Class (as_class (if b then object_class p else core_class p name)))) core.is_interface

module _ (p : Program) (sound : IsSound p) where
  ranked : IsRanked p
  ranked = sound.hierarchy.ranked

  -- ---- the class of an object

  -- an object of such a class is no array, and has the class above it
  pub holder_plain : (name : String) → IsHolder p name → (c : ℕ) → fits p (type_of_class p c) (core_type p name) ≡ true → is_array p c ≡ false
  holder_plain name is c fit = by (is_array p c) refl
    where
      by : (b : Bool) → is_array p c ≡ b → b ≡ false
      by true array = absurd (is.proper (array_root_fits p c (core_class p name) array fit))
      by false plain = refl

  pub holder_above : (name : String) → IsHolder p name → (c : ℕ) → fits p (type_of_class p c) (core_type p name) ≡ true → is_among (core_class p name) (superclasses p c) ≡ true
  holder_above name is c fit =
      let plain = holder_plain name is c fit in
      among_above p sound.hierarchy c (core_class p name) plain (subst (λ (t : VerType). fits p t (core_type p name) ≡ true) (plain_type p c plain) fit)

  -- ---- a cell that is read

  pub cell_read : (heap : List Object) → IsTypedHeap p heap → (name : String) → IsHolder p name → (place : ℕ) (t : VerType) → IsCoreCell p name place t → (r : ℕ) → IsAt p heap (core_type p name) r
      → fits p (type_of_value p heap (item_or (item_or heap r no_object).cells place Top)) t ≡ true
  cell_read heap typed name is place t own r at =
      let c : ℕ = (item_or heap r no_object).class in
      let plain = holder_plain name is c at.fit in
      let read = (typed.objects r at.there).fields plain own.field own.within (own.there c (holder_above name is c at.fit)) in
      subst (λ (u : VerType). fits p (type_of_value p heap (item_or (item_or heap r no_object).cells place Top)) u ≡ true) own.type
      (subst (λ k. fits p (type_of_value p heap (item_or (item_or heap r no_object).cells k Top)) (type_of_field p own.field) ≡ true) own.cell read)

  -- ---- a cell that is written

  -- a heap that comes of another one
  pub record IsNext (heap next : List Object) : Type 0 where
    pub grows : IsLaterHeap heap next
    pub typed : IsTypedHeap p next

  pub next_itself : (heap : List Object) → IsTypedHeap p heap → IsNext heap heap
  next_itself heap typed = record { grows = later_itself heap; typed = typed }

  pub cell_written : (heap next : List Object) → IsNext heap next → (name : String) → IsHolder p name → (place : ℕ) (t : VerType) → IsCoreCell p name place t → (r : ℕ) → IsAt p heap (core_type p name) r
      → (v : Value) → fits p (type_of_value p heap v) t ≡ true
      → IsNext heap (slice_set next r (record (item_or next r no_object) { cells = slice_set ((item_or next r no_object).cells) place v }))
  cell_written heap next is name holds place t own r at v fit = record {
    grows = later_through heap next after is.grows later;
    typed = changed_typed p ranked next r o refl is.typed written;
  }
    where
      o : Object
      o = record (item_or next r no_object) { cells = slice_set ((item_or next r no_object).cells) place v }

      after : List Object
      after = slice_set next r o

      later : IsLaterHeap next after
      later = changed_later next r o refl

      there : IsAt p next (core_type p name) r
      there = at_later p heap next (core_type p name) r is.grows at

      c : ℕ
      c = (item_or next r no_object).class

      value : fits p (type_of_value p next v) (type_of_field p own.field) ≡ true
      value = subst (λ (u : VerType). fits p (type_of_value p next v) u ≡ true) (sym own.type) (still p ranked heap next is.grows v t fit)

      written : IsTypedObject p after o
      written =
          subst (λ k. IsTypedObject p after (record (item_or next r no_object) { cells = slice_set ((item_or next r no_object).cells) k v })) own.cell
          (changed_field p ranked sound.cells next after later (item_or next r no_object) own.field v (holder_plain name holds c there.fit) own.within
          (own.there c (holder_above name holds c there.fit)) (is.typed.objects r there.there) value)

module _ (typings : Typings) (h : Here) (site : AtSite typings h) (rest : List Value) where
  -- the caller goes on in a heap that comes of the one before, with nothing
  pub goes_next : Leads typings h rest None → (heap : List Object) → IsNext h.program site.sound h.state.heap heap → Typed typings h (Go (past h (record (h.state) { heap = heap }) rest))
  goes_next on heap next =
      changes_heap typings h site heap rest (types_in h rest) next.grows next.typed (under_later typings h site heap rest (types_in h rest) next.grows refl) on

  -- or with an object
  pub object_next : (name : String) → Leads typings h rest (Some (an_object name)) → (r : ℕ) → IsAt h.program h.state.heap (core_type h.program name) r
      → (heap : List Object) → IsNext h.program site.sound h.state.heap heap → Typed typings h (Go (past h (record (h.state) { heap = heap }) (Ref r ∷ rest)))
  object_next name on r at heap next =
      changes_heap typings h site heap (Ref r ∷ rest) (core_type h.program name ∷ types_in h rest) next.grows next.typed
      (list_fits h.program (type_of_value h.program heap (Ref r)) (core_type h.program name) (types_of_values h.program heap rest) (types_in h rest)
      (at_fits h.program heap (core_type h.program name) r (at_later h.program h.state.heap heap (core_type h.program name) r next.grows at))
      (under_later typings h site heap rest (types_in h rest) next.grows refl)) on
