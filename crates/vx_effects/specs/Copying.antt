-- Elements that are copied from one array to another at each configuration of a condition (the class library of Java SE 7, System.arraycopy).
use Rattle.std.specs.List.{list_all}
use Rattle.std.specs.Prelude.{◌≡◌, ℕ, Bool, true, List, None, Option, Some, [], drop, if◌then◌else◌, length, map, option_map, slice_set, suc, take, ◌&&◌, ◌∷◌}
use Rattle.vx_cond.specs.Cond.{Conditional, IsCond, IsInside}
use Rattle.vx_cond.specs.Row.{conds_at}
use Rattle.vx_cond.specs.Slots.{slot_at}
use Rattle.vx_heap.specs.Changing.{IsChangedIn, IsValueHeld}
use Rattle.vx_heap.specs.Heap.{Globals, HeapView, name_at, objects_at, value_of}
use Rattle.vx_java.specs.Ids.{as_class}
use Rattle.vx_java.specs.Machine.{Object, Value, no_object}
use Rattle.vx_java.specs.Machine.{Ref as RefValue, Top as TopValue}
use Rattle.vx_link.specs.Assignability.{assignable}
use Rattle.vx_link.specs.ClassNames.{component_of, has_reference_components}
use Rattle.vx_link.specs.declared.program.Program.{Program}
use Rattle.vx_list.specs.Places.{item_or}
use Rattle.vx_natives.specs.Cells.{cells_of}
use Rattle.vx_space.specs.Sets.{IsSet, Sets}
use Rattle.vx_value.specs.Slot.{slot_cmp}
use Rattle.vx_value.specs.declared.ids.ClassId.{ClassId}
use Rattle.vx_value.specs.declared.slot.Slot.{Slot}

-- ---- one configuration

-- the class of the components of an array of references; there is none of another array, in which all values fit that are copied to it
abbrev pub component_in : Program → Option ClassId → Option ClassId
component_in p None = None
component_in p (Some class) = if has_reference_components p class.0 then Some (as_class (component_of p class.0)) else None

-- an element of a class, where it is an object, fits in an array of references to a class
abbrev pub fits_class : Program → (component : ClassId) → Option ClassId → Bool
fits_class p component None = true
fits_class p component (Some class) = assignable p class.0 component.0

abbrev pub fits_value : Program → List Object → (component : Option ClassId) → Value → Bool
fits_value p objects None v = true
fits_value p objects (Some component) (RefValue r) = assignable p (item_or objects r no_object).class component.0
fits_value p objects (Some component) v = true

-- the values up to the first that does not fit, and none from there on
abbrev pub nothing : {A : Type 0} → List A → List (Option A)
nothing [] = []
nothing (x ∷ xs) = None ∷ nothing xs

abbrev pub front : {A : Type 0} → (fits : A → Bool) → List A → List (Option A)
front fits [] = []
front fits (x ∷ xs) = if fits x then Some x ∷ front fits xs else None ∷ nothing xs

-- cells that get others from a place on, where there are such
abbrev pub written_from : {A : Type 0} → (cells : List A) → (at : ℕ) → List (Option A) → List A
written_from cells at [] = cells
written_from cells at (None ∷ others) = written_from cells (suc at) others
written_from cells at (Some x ∷ others) = written_from (slice_set cells at x) (suc at) others

abbrev pub with_values : (object at : ℕ) → List (Option Value) → Globals → Globals
with_values r at values g =
    let object = item_or g.objects r no_object in
    record g { objects = slice_set g.objects r (record object { cells = written_from object.cells at values }) }

-- ---- all configurations

abbrev pub fits_at : {S I : Type 0} → Program → Sets I → HeapView S I → (component : Option ClassId) → List Bool → Value → Bool
fits_at p sets heap component c v = fits_value p (objects_at sets heap c) component v

-- so many elements of an array from a place on
abbrev pub elements_at : {S I : Type 0} → Sets I → HeapView S I → (array from count : ℕ) → List Bool → List Value
elements_at sets heap array from count c = take count (drop from (cells_of sets heap c array))

abbrev pub element_at : {S I : Type 0} → Sets I → HeapView S I → (array cell : ℕ) → List Bool → Value
element_at sets heap array cell c = item_or (cells_of sets heap c array) cell TopValue

-- the plain values at a configuration, where there are some
abbrev pub values_at : {S I : Type 0} → Sets I → HeapView S I → List (Conditional Slot S I) → List Bool → List (Option Value)
values_at sets heap parts c = map (option_map (value_of sets heap c)) (conds_at sets parts c)

-- the value has an element inside a condition, there where it fits
pub record IsElement {S I : Type 0} (p : Program) (component : Option ClassId) (old new : Sets I) (heap : HeapView S I) (array cell : ℕ) (within : I) (part : Conditional Slot S I) : Type 0 where
  pub is_cond : IsCond slot_cmp new part
  pub scope : (c : List Bool) → new.test part.scope c ≡ (old.test within c && fits_at p old heap component c (element_at old heap array cell c))
  pub at : (c : List Bool) → new.test part.scope c ≡ true → value_of new heap c (slot_at new part c) ≡ element_at old heap array cell c
  pub held : IsValueHeld new heap part

-- a value inside a path that names what is there
pub record IsPart {S I : Type 0} (sets : Sets I) (heap : HeapView S I) (path : I) (part : Conditional Slot S I) : Type 0 where
  pub is_cond : IsCond slot_cmp sets part
  pub inside : IsInside sets part.scope path
  pub held : IsValueHeld sets heap part

abbrev pub AreParts : {S I : Type 0} → Sets I → HeapView S I → (path : I) → List (Conditional Slot S I) → Type 0
AreParts sets heap path [] = Unit {0}
AreParts sets heap path (part ∷ parts) = IsPart sets heap path part × AreParts sets heap path parts

-- so many elements of an array, each there where it and all before it fit; and where all fit
pub record AreElements {S I : Type 0} (p : Program) (component : Option ClassId) (old new : Sets I) (heap : HeapView S I) (array from count : ℕ) (path : I) (parts : List (Conditional Slot S I)) (fitting : I) : Type 0 where
  pub are_parts : AreParts new heap path parts
  pub number : length parts ≡ count
  pub fits : IsSet new fitting (λ c. old.test path c && list_all (fits_at p old heap component c) (elements_at old heap array from count c))
  pub at : (c : List Bool) → old.test path c ≡ true → values_at new heap parts c ≡ front (fits_at p old heap component c) (elements_at old heap array from count c)

-- the elements of an array were copied to another one from a place on, up to the first that does not fit there; and where all fit
pub record AreCopied {S I : Type 0} (p : Program) (component : Option ClassId) (old new : Sets I) (before after : HeapView S I) (condition : I) (array from other to count : ℕ) (fitting : I) : Type 0 where
  pub changed : IsChangedIn old new before after (old.test condition) (λ c. with_values (name_at old before.objects c other) to (front (fits_at p old before component c) (elements_at old before array from count c)))
  pub fits : IsSet new fitting (λ c. old.test condition c && list_all (fits_at p old before component c) (elements_at old before array from count c))
