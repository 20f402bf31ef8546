-- Values that match the types of a descriptor are longs where the types are, and take no more locals than it has slots.
use Rattle.std.proofs.Common.{◌≡◌, ◌+◌, ◌≤◌, Bool, true, false, List, [], ◌∷◌, refl, ◌∙◌, ap, arith, map, length}
use Rattle.std.proofs.lemmas.List.Sums.{sum_by-cons}
use Rattle.std.specs.Prelude.{Option, Some, None, if◌then◌else◌, is_some, option_map, sum_by, ◌==◌}
use Rattle.vx_desc.specs.Descriptors.{slots_of}
use Rattle.vx_desc.specs.declared.java_type.Base.{Base}
use Rattle.vx_desc.specs.declared.java_type.Base.TheVariants as base
use Rattle.vx_desc.specs.declared.java_type.JavaType.{JavaType}
use Rattle.vx_value.specs.declared.slot.Slot.{Slot}
use Rattle.vx_value.specs.declared.slot.Slot.TheVariants.{Top, Int, Long, Null, Ref, Text}
use Rattle.vx_space.specs.Sets.{Sets}
use Rattle.vx_cond.specs.Cond.{Conditional}
use Rattle.vx_cond.specs.Slots.{slot_at}
use Rattle.vx_heap.specs.Heap.{HeapView, value_of}
use Rattle.vx_java.specs.Calls.{values_matching}
use Rattle.vx_java.specs.Checks.{fits_type, is_of_sort, sort_of, sort_of_base}
use Rattle.vx_java.specs.Machine.{Value}
use Rattle.vx_java.specs.declared.operation.Sort.{Sort}
use Rattle.vx_java.specs.declared.operation.Sort.TheVariants.{Int as IntSort, Long as LongSort, Reference}
use Rattle.vx_frames.specs.Entering.{AreLongs, is_long, locals_taken, values_at}
use Rattle.vx_frames.specs.Fitting.{MatchingAreArguments, WithReceiverAreArguments, is_long_sort, is_long_type}

-- a value of a sort is a long where the sort is that of longs
long_of_sort : {S I : Type 0} (sets : Sets I) (heap : HeapView S I) (c : List Bool) (sort : Option Sort) (slot : Slot) → is_of_sort sort (value_of sets heap c slot) ≡ true → is_long slot ≡ is_long_sort sort
long_of_sort sets heap c sort slot h = sorted sort slot h
  where
    sorted : (sort : Option Sort) (slot : Slot) → is_of_sort sort (value_of sets heap c slot) ≡ true → is_long slot ≡ is_long_sort sort
    sorted None Top h = cc
    sorted None (Int n) h = cc
    sorted None (Long n) h = cc
    sorted None Null h = cc
    sorted None (Ref n) h = cc
    sorted None (Text n) h = cc
    sorted (Some IntSort) Top h = cc
    sorted (Some IntSort) (Int n) h = refl
    sorted (Some IntSort) (Long n) h = cc
    sorted (Some IntSort) Null h = cc
    sorted (Some IntSort) (Ref n) h = cc
    sorted (Some IntSort) (Text n) h = cc
    sorted (Some LongSort) Top h = cc
    sorted (Some LongSort) (Int n) h = cc
    sorted (Some LongSort) (Long n) h = refl
    sorted (Some LongSort) Null h = cc
    sorted (Some LongSort) (Ref n) h = cc
    sorted (Some LongSort) (Text n) h = cc
    sorted (Some Reference) Top h = cc
    sorted (Some Reference) (Int n) h = cc
    sorted (Some Reference) (Long n) h = cc
    sorted (Some Reference) Null h = refl
    sorted (Some Reference) (Ref n) h = refl
    sorted (Some Reference) (Text n) h = cc

-- the first value matches the first type, and the others the others
first_matches : (b : Bool) (v : Value) (rest : Option (List Value)) → is_some (if b then option_map (λ vs. v ∷ vs) rest else None) ≡ true → (b ≡ true) × (is_some rest ≡ true)
first_matches true v None h = cc h
first_matches true v (Some vs) h = (refl, refl)
first_matches false v rest h = cc h

matching_longs : {S I : Type 0} (sets : Sets I) (heap : HeapView S I) (path : I) (types : List JavaType) (values : List (Conditional Slot S I)) → length values ≡ length types → ((c : List Bool) → sets.test path c ≡ true → is_some (values_matching types (values_at sets heap values c)) ≡ true) → AreLongs sets path values (map is_long_type types)
matching_longs sets heap path types [] n h = tt
matching_longs sets heap path [] (value ∷ values) n h = absurd (omega (arith, n))
matching_longs sets heap path (t ∷ types) (value ∷ values) n h =
    let both = λ (c : List Bool) (s : sets.test path c ≡ true). first_matches (fits_type t (value_of sets heap c (slot_at sets value c))) (value_of sets heap c (slot_at sets value c)) (values_matching types (values_at sets heap values c)) (h c s) in (
      (λ c s. long_of_sort sets heap c (sort_of t) (slot_at sets value c) (both c s).0),
      matching_longs sets heap path types values (omega (arith, n)) (λ c s. (both c s).1),
    )

-- a type's values take no more locals than it has argument slots
type_room : (t : JavaType) (longs : List Bool) → locals_taken (is_long_type t ∷ longs) ≤ slots_of t + locals_taken longs
type_room t longs = from (t.dimensions == 0) refl t.base refl
  where
    long_base : (d : Base) → (t.dimensions == 0) ≡ true → t.base ≡ d → is_long_type t ≡ is_long_sort (sort_of_base d)
    long_base d e f = ap (λ b. is_long_sort (elim b [ true ↦ sort_of_base t.base | false ↦ Some Reference ])) e ∙ ap (λ x. is_long_sort (sort_of_base x)) f

    from : (b : Bool) → (t.dimensions == 0) ≡ b → (d : Base) → t.base ≡ d → locals_taken (is_long_type t ∷ longs) ≤ slots_of t + locals_taken longs
    from true e base.Bool f = rw (long_base base.Bool e f, e, f) (omega arith)
    from true e base.Byte f = rw (long_base base.Byte e f, e, f) (omega arith)
    from true e base.Char f = rw (long_base base.Char e f, e, f) (omega arith)
    from true e base.Double f = rw (long_base base.Double e f, e, f) (omega arith)
    from true e base.Float f = rw (long_base base.Float e f, e, f) (omega arith)
    from true e base.Int f = rw (long_base base.Int e f, e, f) (omega arith)
    from true e base.Long f = rw (long_base base.Long e f, e, f) (omega arith)
    from true e base.Short f = rw (long_base base.Short e f, e, f) (omega arith)
    from true e base.Class f = rw (long_base base.Class e f, e, f) (omega arith)
    from false e d f =
        let short : is_long_type t ≡ false = ap (λ b. is_long_sort (elim b [ true ↦ sort_of_base t.base | false ↦ Some Reference ])) e in
        rw (short, e) (omega arith)

types_room : (types : List JavaType) → locals_taken (map is_long_type types) ≤ sum_by slots_of types
types_room [] = omega arith
types_room (t ∷ types) = omega (arith, sum_by-cons slots_of t types, type_room t (map is_long_type types), types_room types)

pub matching_are_arguments : {S I : Type 0} → MatchingAreArguments S I
matching_are_arguments sets heap path types values most m l = record {
  conds = m.conds;
  longs = map is_long_type types;
  are_longs = matching_longs sets heap path types values m.number m.matching;
  room = omega (arith, types_room types, l);
}

pub with_receiver_are_arguments : {S I : Type 0} → WithReceiverAreArguments S I
with_receiver_are_arguments sets heap path types receiver values most r m l = record {
  conds = (r.is_cond, r.scope, m.conds);
  longs = false ∷ map is_long_type types;
  are_longs = (r.short, matching_longs sets heap path types values m.number m.matching);
  room = omega (arith, types_room types, l);
}
