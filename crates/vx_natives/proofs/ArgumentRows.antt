-- What a native method is given by slots is what it is given by their plain values.
use Rattle.std.proofs.Common.{◌≡◌, ℕ, ◌+◌, ◌<◌, ◌≤◌, zero, suc, Bool, true, false, List, [], ◌∷◌, ◌++◌, refl, sym, ◌∙◌, ap, arith, append_assoc, drop, length, map, reverse, take, if◌then◌else◌}
use Rattle.std.proofs.lemmas.List.{append-nil, reverse-append}
use Rattle.std.specs.List.{AllZip}
use Rattle.std.specs.Prelude.{◌&&◌, None, Option, Some, nat_le, option_map}
use Rattle.vx_cells.proofs.ObjectClasses.{class_there}
use Rattle.vx_desc.specs.declared.java_type.JavaType.{JavaType}
use Rattle.vx_families.specs.Sorts.{narrowed_slot, slot_fits}
use Rattle.vx_families.proofs.SlotSorts.{fits_plain, narrowed_plain}
use Rattle.vx_families.proofs.Sizes.{plain_size}
use Rattle.vx_heap.specs.Heap.{HeapView, are_held, is_held, name_at, objects_at, value_of}
use Rattle.vx_java.specs.Calls.{top_values, values_matching}
use Rattle.vx_java.specs.Checks.{is_instance_of, sort_of, width_of_type}
use Rattle.vx_java.specs.FirstObjects.{narrow_of_type}
use Rattle.vx_java.specs.Ids.{as_class}
use Rattle.vx_java.specs.Machine.{Here, Object, Value, no_object}
use Rattle.vx_java.specs.Natives.{are_wanted, as_read}
use Rattle.vx_java.specs.Natives.{is_wanted as is_wanted_value, room_for as room_for_values}
use Rattle.vx_link.specs.Assignability.{assignable}
use Rattle.vx_link.specs.ClassNames.{class_of_type}
use Rattle.vx_link.specs.declared.program.Program.{Program}
use Rattle.vx_list.specs.Places.{item_or}
use Rattle.vx_space.specs.Sets.{Sets}
use Rattle.vx_value.specs.declared.slot.Slot.{Slot}
use Rattle.vx_value.specs.declared.slot.Slot.TheVariants.{Top, Int, Long, Null, Ref, Text}
use Rattle.vx_natives.specs.Arguments.{IsRead, argument, arguments_with, is_instance, is_wanted, room_for, with_slot}

-- ---- values off the top

put_before : (taken xs : List Value) (x : Value) → reverse (x ∷ xs) ++ taken ≡ reverse xs ++ x ∷ taken
put_before taken xs x = ap (λ ys. ys ++ taken) (reverse-append (x ∷ []) xs) ∙ append_assoc (reverse xs) (x ∷ []) taken

pub top_values_are : (n : ℕ) (taken operands : List Value) → top_values n taken operands ≡ (reverse (take n operands) ++ taken, drop n operands)
top_values_are zero taken operands = refl
top_values_are (suc n) taken [] = refl
top_values_are (suc n) taken (v ∷ operands) = top_values_are n (v ∷ taken) operands ∙ ap (λ values. (values, drop n operands)) (sym (put_before taken (take n operands) v))

-- ---- arguments behind others

-- the sorts and the classes of all, and how they are read
abbrev pub fits_all : List JavaType → List Slot → Bool
fits_all [] slots = true
fits_all (t ∷ ts) [] = false
fits_all (t ∷ ts) (slot ∷ slots) = slot_fits (sort_of t) slot && fits_all ts slots

abbrev pub read_all : List JavaType → List Slot → List Slot
read_all [] slots = slots
read_all (t ∷ ts) [] = []
read_all (t ∷ ts) (slot ∷ slots) = narrowed_slot (narrow_of_type t) slot ∷ read_all ts slots

module _ {S I : Type 0} (p : Program) (heap : HeapView S I) (d : List ℕ) where
  abbrev pub wanted_all : List JavaType → List Slot → Bool
  wanted_all [] slots = true
  wanted_all (t ∷ ts) [] = true
  wanted_all (t ∷ ts) (slot ∷ slots) = is_wanted p heap (option_map as_class (class_of_type p d t)) slot && wanted_all ts slots

  -- none stays none
  pub none_stays : (types : List JavaType) (slots : List Slot) → arguments_with p heap d types slots None ≡ None
  none_stays [] slots = refl
  none_stays (t ∷ ts) [] = refl
  none_stays (t ∷ ts) (slot ∷ slots) = none_stays ts slots

  -- too few slots
  pub short_none : (types : List JavaType) (slots : List Slot) (given : Option (List Slot)) → length slots < length types → arguments_with p heap d types slots given ≡ None
  short_none [] slots given l = absurd (omega (arith, l))
  short_none (t ∷ ts) [] given l = refl
  short_none (t ∷ ts) (slot ∷ slots) given l = short_none ts slots (with_slot given (argument p heap (option_map as_class (class_of_type p d t)) t slot)) (omega (arith, l))

  pub arguments_are : (types : List JavaType) (slots before : List Slot) → length slots ≤ length types → arguments_with p heap d types slots (Some before) ≡ (if fits_all types slots && wanted_all types slots then Some (before ++ read_all types slots) else None)
  arguments_are [] [] before l = ap Some (sym (append-nil before))
  arguments_are [] (slot ∷ slots) before l = absurd (omega (arith, l))
  arguments_are (t ∷ ts) [] before l = refl
  arguments_are (t ∷ ts) (slot ∷ slots) before l = cases (slot_fits (sort_of t) slot) (is_wanted p heap (option_map as_class (class_of_type p d t)) slot) (arguments_are ts slots (before ++ narrowed_slot (narrow_of_type t) slot ∷ []) (omega (arith, l)))
    where
      refused : (b : Bool) → None ≡ (if b && false then Some (before ++ read_all (t ∷ ts) (slot ∷ slots)) else None)
      refused true = refl
      refused false = refl

      cases : (f w : Bool) → arguments_with p heap d ts slots (Some (before ++ narrowed_slot (narrow_of_type t) slot ∷ [])) ≡ (if fits_all ts slots && wanted_all ts slots then Some ((before ++ narrowed_slot (narrow_of_type t) slot ∷ []) ++ read_all ts slots) else None) → arguments_with p heap d ts slots (with_slot (Some before) (if f && w then Some (narrowed_slot (narrow_of_type t) slot) else None)) ≡ (if (f && fits_all ts slots) && (w && wanted_all ts slots) then Some (before ++ narrowed_slot (narrow_of_type t) slot ∷ read_all ts slots) else None)
      cases true true others = others ∙ ap (λ xs. if fits_all ts slots && wanted_all ts slots then Some xs else None) (append_assoc before (narrowed_slot (narrow_of_type t) slot ∷ []) (read_all ts slots))
      cases true false others = none_stays ts slots ∙ refused (fits_all ts slots)
      cases false true others = none_stays ts slots
      cases false false others = none_stays ts slots

-- the arguments are read by their types
pub read_are : (types : List JavaType) (slots : List Slot) → fits_all types slots ≡ true → length slots ≤ length types → AllZip IsRead (map narrow_of_type types) (read_all types slots)
read_are [] [] f l = tt
read_are [] (slot ∷ slots) f l = absurd (omega (arith, l))
read_are (t ∷ ts) [] f l = cc
read_are (t ∷ ts) (slot ∷ slots) f l = (record { slot = slot; is = refl }, read_are ts slots (second (slot_fits (sort_of t) slot) (fits_all ts slots) f) (omega (arith, l)))
  where
    second : (a b : Bool) → (a && b) ≡ true → b ≡ true
    second true b h = h
    second false b h = cc

-- ---- plain values

module _ {S I : Type 0} (sets : Sets I) (heap : HeapView S I) (c : List Bool) (h : Here) (over : h.state.heap ≡ objects_at sets heap c) where
  abbrev value : Slot → Value
  value = value_of sets heap c

  pub instance_there : (wanted : ℕ) (slot : Slot) → is_held sets heap c slot ≡ true → is_instance h.program heap wanted slot ≡ is_instance_of h wanted (value_of sets heap c slot)
  instance_there wanted Top t = refl
  instance_there wanted (Int n) t = refl
  instance_there wanted (Long n) t = refl
  instance_there wanted Null t = refl
  instance_there wanted (Ref r) t =
      class_there (λ class. assignable h.program class wanted) sets heap c r t
      ∙ ap (λ (objects : List Object). assignable h.program (item_or objects (name_at sets heap.objects c r) no_object).class wanted) (sym over)
  instance_there wanted (Text n) t = refl

  wanted_there : (class : Option ℕ) (slot : Slot) → is_held sets heap c slot ≡ true → is_wanted h.program heap (option_map as_class class) slot ≡ is_wanted_value h class (value_of sets heap c slot)
  wanted_there None slot t = refl
  wanted_there (Some class) slot t = instance_there class slot t

  first : (a b : Bool) → (a && b) ≡ true → a ≡ true
  first true b t = refl
  first false b t = cc

  second : (a b : Bool) → (a && b) ≡ true → b ≡ true
  second true b t = t
  second false b t = cc

  pub matching_are : (types : List JavaType) (slots : List Slot) → length slots ≤ length types → values_matching types (map (value_of sets heap c) slots) ≡ (if fits_all types slots then Some (map (value_of sets heap c) slots) else None)
  matching_are [] [] l = refl
  matching_are [] (slot ∷ slots) l = absurd (omega (arith, l))
  matching_are (t ∷ ts) [] l = refl
  matching_are (t ∷ ts) (slot ∷ slots) l =
      ap (λ b. if b then option_map (λ rest. value slot ∷ rest) (values_matching ts (map (value_of sets heap c) slots)) else None) (fits_plain sets heap c (sort_of t) slot)
      ∙ ap (λ o. if slot_fits (sort_of t) slot then option_map (λ rest. value slot ∷ rest) o else None) (matching_are ts slots (omega (arith, l)))
      ∙ cases (slot_fits (sort_of t) slot) (fits_all ts slots)
    where
      cases : (f g : Bool) → (if f then option_map (λ rest. value_of sets heap c slot ∷ rest) (if g then Some (map (value_of sets heap c) slots) else None) else None) ≡ (if f && g then Some (value_of sets heap c slot ∷ map (value_of sets heap c) slots) else None)
      cases true true = refl
      cases true false = refl
      cases false g = refl

  pub wanted_are : (d : List ℕ) (types : List JavaType) (slots : List Slot) → are_held sets heap c slots ≡ true → are_wanted h d types (map (value_of sets heap c) slots) ≡ wanted_all h.program heap d types slots
  wanted_are d [] slots t = refl
  wanted_are d (u ∷ us) [] t = refl
  wanted_are d (u ∷ us) (slot ∷ slots) t =
      let one = wanted_there (class_of_type h.program d u) slot (first (is_held sets heap c slot) (are_held sets heap c slots) t) in
      let others = wanted_are d us slots (second (is_held sets heap c slot) (are_held sets heap c slots) t) in
      λ i. sym one i && others i

  pub reads_are : (types : List JavaType) (slots : List Slot) → as_read types (map (value_of sets heap c) slots) ≡ map (value_of sets heap c) (read_all types slots)
  reads_are [] slots = refl
  reads_are (t ∷ ts) [] = refl
  reads_are (t ∷ ts) (slot ∷ slots) =
      let one = narrowed_plain sets heap c (narrow_of_type t) slot in
      let others = reads_are ts slots in
      λ i. sym one i ∷ others i

  pub room_there : (result : Option JavaType) (slots : List Slot) → room_for_values h result (map (value_of sets heap c) slots) ≡ room_for h.code.max_stack result slots
  room_there None slots = refl
  room_there (Some t) slots = ap (λ n. nat_le (width_of_type t + n) h.code.max_stack) (plain_size sets heap c slots)
