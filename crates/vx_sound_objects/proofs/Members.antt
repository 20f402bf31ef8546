-- What the classes of a linked program declare is their own, and its methods have room for what they are given.
use Rattle.std.proofs.Common.{Bool, List, None, Option, Some, [], ap, arith, false, if◌then◌else◌, inl, inr, length, length-append, map, refl, sum_by, sym, true, unwrap_or, ℕ, ◌+◌, ◌-◌, ◌<◌, ◌∙◌, ◌≡◌, ◌≤◌}
use Rattle.std.proofs.lemmas.Bool.{leb-true}
use Rattle.std.proofs.lemmas.List.{length-replicate}
use Rattle.std.proofs.lemmas.List.Concat.{length-flat_map}
use Rattle.std.proofs.lemmas.Nat.{and_or_self}
use Rattle.std.specs.List.{list_all}
use Rattle.std.specs.Option.{option_map}
use Rattle.std.specs.Prelude.{bit_or, is_none, nat_le, ◌==◌, ◌||◌}
use Rattle.vx_class.specs.Members.{STATIC, has as has_flag}
use Rattle.vx_class.specs.declared.class_file.ClassFile.{ClassFile}
use Rattle.vx_class.specs.declared.class_file.Code.{Code}
use Rattle.vx_desc.specs.Descriptors.{slots_of}
use Rattle.vx_desc.specs.declared.java_type.Base.{Base}
use Rattle.vx_desc.specs.declared.java_type.Base.TheVariants as base
use Rattle.vx_desc.specs.declared.java_type.JavaType.{JavaType}
use Rattle.vx_families.specs.Bounds.{argument_words, has_argument_room}
use Rattle.vx_java.specs.Checks.{sort_of, sort_of_base}
use Rattle.vx_java.specs.declared.operation.Sort.{Sort}
use Rattle.vx_java.specs.declared.operation.Sort.TheVariants as sort
use Rattle.vx_java.specs.Initialisation.{max_locals}
use Rattle.vx_link.specs.ClassNames.{object_class}
use Rattle.vx_link.specs.Faults.{is_interface_file}
use Rattle.vx_link.specs.Hierarchy.{is_among}
use Rattle.vx_link.specs.Linked.{methods_from}
use Rattle.vx_link.specs.Parts.{fields_of, has, method_at, methods_of, no_method}
use Rattle.vx_link.specs.Signature.{signature}
use Rattle.vx_link.specs.declared.program.LinkedClass.{LinkedClass}
use Rattle.vx_link.specs.declared.program.LinkedField.{LinkedField}
use Rattle.vx_link.specs.declared.program.LinkedMethod.{LinkedMethod}
use Rattle.vx_link.specs.declared.program.Program.{Program}
use Rattle.vx_list.specs.Places.{item_or}
use Rattle.vx_model.specs.declared.model.OptionField.{OptionField}
use Rattle.vx_sound.specs.Sound.{HasMembers}
use Rattle.vx_sound_objects.proofs.Lists.{in_row, passing_item}
use Rattle.vx_sound_objects.proofs.Parts.{first_method, method_there}
use Rattle.vx_sound_objects.proofs.Programs.{AreLinked, IsClassOf, is_class, listed_field, methods_in_row}
use Rattle.vx_types.specs.Types.{ref_of_base, type_of, type_of_sort}
use Rattle.vx_types.specs.declared.types.VerType.TheVariants.{Top}
use Rattle.vx_verify.specs.Typing.{argument_locals, locals_of, receiver_locals, value_locals, values_given}

-- ---- room

one_local : (p : Program) (d : List ℕ) (t : JavaType) (b : Base) → length (value_locals (ref_of_base p 0 d t b)) ≡ 1
one_local p d t base.Class = refl
one_local p d t _ = refl

-- an argument takes as many local variables as slots
argument_length : (p : Program) (d : List ℕ) (t : JavaType) → length (locals_of t (type_of p d t)) ≡ slots_of t
argument_length p d t = by (t.dimensions == 0) refl
  where
    by_sort : (o : Option Sort) → sort_of t ≡ o → length (locals_of t (type_of p d t)) ≡ length (locals_of t (option_map (type_of_sort p d t) o))
    by_sort o is = ap (λ o. length (locals_of t (option_map (type_of_sort p d t) o))) is

    sort_is : (t.dimensions == 0) ≡ true → (b : Base) → t.base ≡ b → sort_of t ≡ sort_of_base b
    sort_is scalar b is = ap (λ b. elim b [ true ↦ sort_of_base t.base | false ↦ Some sort.Reference ]) scalar ∙ ap sort_of_base is

    one : (t.dimensions == 0) ≡ true → (b : Base) → t.base ≡ b → sort_of_base b ≡ Some sort.Int → slots_of t ≡ 1
    one scalar base.Long is int = cc
    one scalar base.Double is int = cc
    one scalar base.Float is int = cc
    one scalar base.Class is int = cc
    one scalar _ is int = rw (scalar, is) refl

    of_base : (t.dimensions == 0) ≡ true → (b : Base) → t.base ≡ b → length (locals_of t (type_of p d t)) ≡ slots_of t
    of_base scalar base.Long is =
        let two : slots_of t ≡ 2 = rw (scalar, is) refl in
        by_sort (Some sort.Long) (sort_is scalar base.Long is) ∙ sym two
    of_base scalar base.Double is = by_sort None (sort_is scalar base.Double is) ∙ length-replicate (slots_of t) Top
    of_base scalar base.Float is = by_sort None (sort_is scalar base.Float is) ∙ length-replicate (slots_of t) Top
    of_base scalar base.Class is =
        let single : slots_of t ≡ 1 = rw (scalar, is) refl in
        by_sort (Some sort.Reference) (sort_is scalar base.Class is) ∙ one_local p d t t.base ∙ sym single
    of_base scalar base.Bool is = by_sort (Some sort.Int) (sort_is scalar base.Bool is) ∙ sym (one scalar base.Bool is refl)
    of_base scalar base.Byte is = by_sort (Some sort.Int) (sort_is scalar base.Byte is) ∙ sym (one scalar base.Byte is refl)
    of_base scalar base.Char is = by_sort (Some sort.Int) (sort_is scalar base.Char is) ∙ sym (one scalar base.Char is refl)
    of_base scalar base.Int is = by_sort (Some sort.Int) (sort_is scalar base.Int is) ∙ sym (one scalar base.Int is refl)
    of_base scalar base.Short is = by_sort (Some sort.Int) (sort_is scalar base.Short is) ∙ sym (one scalar base.Short is refl)

    by : (b : Bool) → (t.dimensions == 0) ≡ b → length (locals_of t (type_of p d t)) ≡ slots_of t
    by true scalar = of_base scalar t.base refl
    by false array =
        let single : slots_of t ≡ 1 = rw array refl in
        by_sort (Some sort.Reference) (ap (λ b. elim b [ true ↦ sort_of_base t.base | false ↦ Some sort.Reference ]) array) ∙ one_local p d t t.base ∙ sym single

receiver_length : (p : Program) (m : ℕ) (b : Bool) → length (receiver_locals p m b) ≡ (if b then 0 else 1)
receiver_length p m true = refl
receiver_length p m false = refl

given_length : (p : Program) (m : ℕ) → length (values_given p m) ≡ argument_words (method_at p m)
given_length p m =
    let ts : List JavaType = (signature (method_at p m).descriptor).arguments in
    let words : length (argument_locals p (method_at p m).descriptor) ≡ sum_by slots_of ts =
    length-flat_map (λ t. locals_of t (type_of p (method_at p m).descriptor t)) ts
    ∙ (λ i. sum_by (λ t. argument_length p (method_at p m).descriptor t i) ts) in
    let own : length (receiver_locals p m (has STATIC (method_at p m).flags)) ≡ (if has STATIC (method_at p m).flags then 0 else 1) = receiver_length p m (has STATIC (method_at p m).flags) in
    length-append (receiver_locals p m (has STATIC (method_at p m).flags)) (argument_locals p (method_at p m).descriptor)
    ∙ omega (arith, words, own)

has_room : (words : ℕ) (o : Option Code) (code : Code) → (is_none o || nat_le words (max_locals o)) ≡ true → o ≡ Some code → words ≤ code.max_locals
has_room words o code room is = leb-true words code.max_locals (ap (λ o. is_none o || nat_le words (max_locals o)) (sym is) ∙ room)

-- ---- interfaces

static_there : (b : Bool) (flags : ℕ) → b ≡ true → has_flag (if b then bit_or flags STATIC else flags) STATIC ≡ true
static_there true flags is = ap (λ n. n == STATIC) (and_or_self STATIC flags)
static_there false flags is = cc

-- ---- the whole

pub members : (p : Program) (options : List OptionField) (names : List (List ℕ)) (files : List ClassFile) → AreLinked p options names files
    → list_all has_argument_room p.methods ≡ true → fields_of p (object_class p) ≡ [] → HasMembers p
members p options names files are roomy root = record {
  methods = λ c m among. elim (is_class p options names files are c) [
    | inl of ↦ own_method c m of among
    | inr none ↦ absurd (nothing (ap (λ (x : LinkedClass). is_among m (map (λ m. m.0) x.methods)) (sym none) ∙ among))
  ];
  fields = λ c f among. ap (λ (x : LinkedField). x.class.0) (listed_field p options names files are c f among).is;
  within = λ c f among. (listed_field p options names files are c f among).within;
  constants = λ c f among interface.
      let of = listed_field p options names files are c f among in
      ap (λ (x : LinkedField). has STATIC x.flags) of.is
      ∙ static_there (is_interface_file of.class.file) of.field.flags (ap (λ (x : LinkedClass). has 512 x.flags) (sym of.class.is) ∙ interface);
  root = root;
  room = λ m code is.
      let given : length (values_given p m) ≡ argument_words (method_at p m) = given_length p m in
      let enough : argument_words (method_at p m) ≤ code.max_locals =
      has_room (argument_words (method_at p m)) (method_at p m).code code (passing_item has_argument_room p.methods m no_method roomy refl) is in
      omega (arith, given, enough);
}
  where
    nothing : false ≡ true → ⊥
    nothing wrong = cc

    own_method : (c m : ℕ) → IsClassOf p names files c → is_among m (methods_of p c) ≡ true → (method_at p m).class.0 ≡ c
    own_method c m of among =
        let row = in_row m (first_method files c) (length of.file.methods) (ap (is_among m) (sym (methods_in_row p names files c of)) ∙ among) in
        let low = row.0 in
        let high = row.1 in
        let own : ℕ = m - first_method files c in
        let back : first_method files c + own ≡ m = omega (arith, low) in
        let less : own < length of.file.methods = omega (arith, low, high) in
        let there = method_there 0 files c own of.file of.there less in
        let same : 0 + c ≡ c = omega arith in
        ap (λ (x : LinkedMethod). x.class.0) (are.methods m)
        ∙ ap (λ n. (item_or (methods_from 0 files []) n no_method).class.0) (sym back)
        ∙ ap (λ o. (unwrap_or o no_method).class.0) there.1 ∙ there.2 ∙ same
