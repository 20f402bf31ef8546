-- A line that begins a part of the class keeps what is known of it.
use Rattle.std.proofs.Common.{◌≡◌, ℕ, ◌<◌, ◌≤◌, List, [], ◌∷◌, ◌++◌, length, Bool, true, false, not, nat_le, ◌==◌, ◌&&◌, ◌||◌, Option, Some, None, Ok, Err, ◌⊎◌, inl, inr, refl, sym, ap, subst, ◌∙◌, arith, codes}
use Rattle.std.proofs.lemmas.Bool.{and_parts, not-true, not_from_false, leb-true}
use Rattle.std.specs.List.{AllByRecursion}
use Rattle.vx_pool.specs.Lookups.{entry_of, text}
use Rattle.vx_desc.specs.Names.{is_field_name, is_method_name}
use Rattle.vx_desc.specs.Descriptors.{is_field_descriptor, is_method_descriptor}
use Rattle.vx_class.specs.declared.class_file.Field.{Field}
use Rattle.vx_class.specs.declared.class_file.Method.{Method}
use Rattle.vx_class.specs.File.{EachBehind, FieldHolds, MethodHolds, IsInterfaceAt, IsClassAt}
use Rattle.vx_class.specs.Members.{has as has_flag, INTERFACE, STATIC, is_constant_for, takes_code, slots_of, is_lawful_initialiser}
use Rattle.vx_writer.specs.Written.{HasName, MayHaveConstant, IsNamedField, IsNamedMethod}
use Rattle.vx_source_words.specs.Reading.{Read, check}
use Rattle.vx_source.specs.declared.lines.SourceLine.{SourceLine}
use Rattle.vx_source.specs.declared.statement.ClassLine.{ClassLine}
use Rattle.vx_source.specs.declared.statement.FieldLine.{FieldLine}
use Rattle.vx_source.specs.declared.statement.MethodLine.{MethodLine}
use Rattle.vx_source.specs.declared.statement.Room.{Room}
use Rattle.vx_source.specs.declared.statement.Statement.{Statement}
use Rattle.vx_source.specs.declared.statement.Statement.TheVariants as statement
use Rattle.vx_source.specs.declared.statement.Value.{Value}
use Rattle.vx_source.specs.declared.statement.Value.TheVariants as value
use Rattle.vx_class_parts.specs.Constants.{with_text, with_class, places, in_file, in_file_or_zero, pool_of}
use Rattle.vx_class_parts.specs.Rules.{is_lawful_class, is_plain_class, is_lawful_field, is_lawful_method, is_nothing, is_value_for, may_have_value, is_lawful_code}
use Rattle.vx_class_parts.specs.declared.constants.Constant.{Constant}
use Rattle.vx_class_parts.specs.declared.constants.Constant.TheVariants as constant
use Rattle.vx_code_parts.specs.Instructions.{is_of_version}
use Rattle.vx_asm.specs.Parts.{may_have_version, may_have_class, may_have_interface, may_have_field, has_class, version_said, with_class_line, class_said, with_interface, implements_said, with_signature, is_text_value, constant_of_value, with_value, field_of, with_field, is_lawful_field_line, field_said, locals_of, is_lawful_method_line, bare_method, with_bare_method, body_of, with_body, with_room, method_said, part_said}
use Rattle.vx_asm.specs.Signatures.{is_taken}
use Rattle.vx_asm.specs.declared.class_draft.Body.{Body}
use Rattle.vx_asm.specs.declared.class_draft.ClassDraft.{ClassDraft}
use Rattle.vx_asm.specs.declared.signature_table.Signature.{Signature}
use Rattle.vx_asm.specs.declared.class_draft.Stage.{Stage}
use Rattle.vx_asm.specs.declared.class_draft.Stage.TheVariants as stage
use Rattle.vx_assembled.proofs.Entries.{IsClassName, class_name, IsMember, field_member, method_member, IsGood, text_good, class_good, literal_good}
use Rattle.vx_assembled.proofs.Labels.{labels_few}
use Rattle.vx_assembled.proofs.Members.{each_more, all_push, zip_push, text_at, interface_at, class_at, has_name, none_same, constant_fits, constant_named, value_parts}
use Rattle.vx_assembled.proofs.Operands.{plain_is, plain_lawful}
use Rattle.vx_assembled.proofs.Pools.{IsGrown, grown_same, grown_then, Has, has_grown, held_grown, IsNeeded, needed_grown, needed_held, with_text_grown, with_text_has, with_class_grown, with_class_held, with_constant_grown, with_constant_held, HoldsOf, with_text_all, with_class_all, with_constant_all, index_grown}
use Rattle.vx_assembled.proofs.Reading.{check_ok}
use Rattle.vx_assembled.proofs.Sayings.{IsWord, IsSaidValue, IsSaidRoom, IsSaid}
use Rattle.vx_assembled.proofs.Sound.{Begun, IsSignedField, IsSignedMethod, Sound, AreSigned, State, without}

-- what a line outside of bodies keeps
pub record PartStep (all : List Constant) (d e : ClassDraft) (behind : List SourceLine) : Type 0 where
  pub grown : IsGrown d.pool e.pool
  pub sound : Sound all d → AreSigned all d → IsGrown e.pool all → State all e behind

ok_is : (d e : ClassDraft) → (let f : ClassDraft → Read ClassDraft = λ z. Ok z in f d ≡ f e) → d ≡ e
ok_is d e h = cc

-- ---- the order of parts

version_first : (s : Stage) → may_have_version s ≡ true → has_class s ≡ false
version_first stage.Start h = refl
version_first stage.Version h = absurd cc
version_first stage.Class h = absurd cc
version_first stage.Fields h = absurd cc
version_first stage.Methods h = absurd cc

class_first : (s : Stage) → may_have_class s ≡ true → has_class s ≡ false
class_first stage.Start h = refl
class_first stage.Version h = refl
class_first stage.Class h = absurd cc
class_first stage.Fields h = absurd cc
class_first stage.Methods h = absurd cc

interface_after : (s : Stage) → may_have_interface s ≡ true → has_class s ≡ true
interface_after stage.Start h = absurd cc
interface_after stage.Version h = absurd cc
interface_after stage.Class h = refl
interface_after stage.Fields h = absurd cc
interface_after stage.Methods h = absurd cc

field_after : (s : Stage) → may_have_field s ≡ true → has_class s ≡ true
field_after stage.Start h = absurd cc
field_after stage.Version h = absurd cc
field_after stage.Class h = refl
field_after stage.Fields h = refl
field_after stage.Methods h = absurd cc

-- ---- the version

version_step : (all : List Constant) (d e : ClassDraft) (behind : List SourceLine) (major : ℕ) → (45 ≤ major) × (major ≤ 52) → version_said (without d) major ≡ Ok e → PartStep all d e behind
unfolding version_said
version_step all d e behind major range h =
    let c = check_ok (may_have_version d.stage) 5 (Ok (record (without d) { stage = stage.Version; major = major })) e h in
    subst (λ (x : ClassDraft). PartStep all d x behind) (ok_is (record (without d) { stage = stage.Version; major = major }) e c.1)
    (record { grown = grown_same d.pool; sound = λ s signed g. kept (subst (Begun all d) (version_first d.stage c.0) s.begun) s signed })
  where
    kept : Begun all d false → Sound all d → AreSigned all d → State all (record (without d) { stage = stage.Version; major = major }) behind
    kept none s signed = record {
      sound = record {
        old = range.0;
        new = range.1;
        flags = s.flags;
        pool = s.pool;
        begun = none;
        interfaces = s.interfaces;
        fields = s.fields;
        named_fields = s.named_fields;
        field_names = s.field_names;
        methods = subst (EachBehind (MethodHolds (pool_of all) major) []) (sym none.2) tt;
        named_methods = s.named_methods;
      };
      inside = signed;
    }

-- ---- the class

class_step : (all : List Constant) (d e : ClassDraft) (behind : List SourceLine) (line : ClassLine) → places all < 65536 → (line.flags < 65536) × IsWord line.name × IsWord line.super_class
    → class_said (without d) line ≡ Ok e → PartStep all d e behind
unfolding class_said with_class_line
class_step all d e behind line few said h =
    let c = check_ok (may_have_class d.stage) 5 next e h in
    let r = check_ok (is_plain_class line.name && is_plain_class line.super_class) 8 (Ok made) e c.1 in
    let p = and_parts (is_plain_class line.name) (is_plain_class line.super_class) r.0 in
    subst (λ (x : ClassDraft). PartStep all d x behind) (ok_is made e r.1)
    (record { grown = grown_then one two; sound = λ s signed g. kept p.0 p.1 (subst (Begun all d) (class_first d.stage c.0) s.begun) s signed g })
  where
    first : List Constant
    first = with_class d.pool line.name

    pool : List Constant
    pool = with_class first line.super_class

    made : ClassDraft
    made = record (without d) {
      stage = stage.Class;
      flags = line.flags;
      pool = pool;
      this_class = in_file pool (constant.Class line.name);
      super_class = in_file pool (constant.Class line.super_class);
    }

    next : Read ClassDraft
    next = check (is_plain_class line.name && is_plain_class line.super_class) 8 (Ok made)

    one : IsGrown d.pool first
    one = with_class_grown d.pool line.name

    two : IsGrown first pool
    two = with_class_grown first line.super_class

    kept : is_plain_class line.name ≡ true → is_plain_class line.super_class ≡ true → Begun all d false → Sound all d → AreSigned all d → IsGrown pool all → State all made behind
    kept plain plain_super none s signed g =
        let name = class_name line.name (plain_lawful line.name plain) in
        let super = class_name line.super_class (plain_lawful line.super_class plain_super) in
        let held = with_class_held d.pool line.name in
        let held_super = with_class_held first line.super_class in
        let here = held_grown (grown_then two g) (constant.Class line.name) held in
        let here_super = held_grown g (constant.Class line.super_class) held_super in
        record {
          sound = record {
            old = s.old;
            new = s.new;
            flags = said.0;
            pool = with_class_all (IsGood all) first line.super_class (with_class_all (IsGood all) d.pool line.name s.pool (class_good all line.name said.1 name here)) (class_good all line.super_class said.2 super here_super);
            begun = (
              subst (IsClassAt (pool_of all)) (sym (index_grown g (constant.Class line.name) (has_grown two (constant.Class line.name) held.0))) (class_at all line.name few here name (plain_is line.name plain)),
              subst (IsClassAt (pool_of all)) (sym (index_grown g (constant.Class line.super_class) held_super.0)) (class_at all line.super_class few here_super super (plain_is line.super_class plain_super)),
            );
            interfaces = s.interfaces;
            fields = s.fields;
            named_fields = subst (AllByRecursion (IsNamedField (pool_of all) (has_flag line.flags INTERFACE))) (sym none.1) tt;
            field_names = s.field_names;
            methods = s.methods;
            named_methods = s.named_methods;
          };
          inside = signed;
        }

-- ---- an interface

implements_step : (all : List Constant) (d e : ClassDraft) (behind : List SourceLine) (name : List ℕ) → places all < 65536 → IsWord name → implements_said (without d) name ≡ Ok e → PartStep all d e behind
unfolding implements_said with_interface
implements_step all d e behind name few word h =
    let c = check_ok (may_have_interface d.stage) 5 (check (is_lawful_class name) 8 (Ok made)) e h in
    let r = check_ok (is_lawful_class name) 8 (Ok made) e c.1 in
    subst (λ (x : ClassDraft). PartStep all d x behind) (ok_is made e r.1)
    (record { grown = with_class_grown d.pool name; sound = λ s signed g. kept (class_name name r.0) (interface_after d.stage c.0) s signed g })
  where
    pool : List Constant
    pool = with_class d.pool name

    i : ℕ
    i = in_file pool (constant.Class name)

    made : ClassDraft
    made = record (without d) { pool = pool; interfaces = d.interfaces ++ i ∷ [] }

    kept : IsClassName name → has_class d.stage ≡ true → Sound all d → AreSigned all d → IsGrown pool all → State all made behind
    kept is has s signed g =
        let held = with_class_held d.pool name in
        let here = held_grown g (constant.Class name) held in
        let named : Begun all d true = subst (Begun all d) has s.begun in
        record {
          sound = record {
            old = s.old;
            new = s.new;
            flags = s.flags;
            pool = with_class_all (IsGood all) d.pool name s.pool (class_good all name word is here);
            begun = subst (Begun all made) (sym has) named;
            interfaces = all_push (IsInterfaceAt (pool_of all)) d.interfaces i s.interfaces
                (subst (IsInterfaceAt (pool_of all)) (sym (index_grown g (constant.Class name) held.0)) (interface_at all name few here));
            fields = s.fields;
            named_fields = s.named_fields;
            field_names = s.field_names;
            methods = s.methods;
            named_methods = s.named_methods;
          };
          inside = signed;
        }

-- ---- the name and the descriptor of a member

record HasSignature (all pool : List Constant) (n d : List ℕ) : Type 0 where
  grown : IsGrown pool (with_signature pool n d)
  name : Has (with_signature pool n d) (constant.Text n)
  descriptor : Has (with_signature pool n d) (constant.Text d)

signature_has : (all pool : List Constant) (name descriptor : List ℕ) → HasSignature all pool name descriptor
signature_has all pool name descriptor =
    let one = with_text pool name in
    record {
      grown = grown_then (with_text_grown pool name) (with_text_grown one descriptor);
      name = has_grown (with_text_grown one descriptor) (constant.Text name) (with_text_has pool name);
      descriptor = with_text_has one descriptor;
    }

signature_all : (all pool : List Constant) (name descriptor : List ℕ) → AllByRecursion (IsGood all) pool → IsWord name → IsWord descriptor → length name < 65536 → length descriptor < 65536
    → Has all (constant.Text name) → Has all (constant.Text descriptor) → AllByRecursion (IsGood all) (with_signature pool name descriptor)
signature_all all pool name descriptor good word word_d short short_d has has_d =
    with_text_all (IsGood all) (with_text pool name) descriptor (with_text_all (IsGood all) pool name good (text_good all name word short has)) (text_good all descriptor word_d short_d has_d)

-- the text at the index that a smaller pool gave
text_in : (all pool : List Constant) (t : List ℕ) → places all < 65536 → length t < 65536 → IsGrown pool all → Has pool (constant.Text t) → text (pool_of all) (in_file pool (constant.Text t)) ≡ Some t
text_in all pool t few short g has = ap (text (pool_of all)) (index_grown g (constant.Text t) has) ∙ text_at all t few short (has_grown g (constant.Text t) has)

-- ---- a field

-- the pool with the value of a field
value_grown : (pool : List Constant) (needed : Option Constant) → IsGrown pool (with_value pool needed)
value_grown pool None = grown_same pool
value_grown pool (Some c) = grown_then (with_text_grown pool (codes "ConstantValue")) (with_constant_grown (with_text pool (codes "ConstantValue")) c)

value_needed : (pool : List Constant) (needed : Option Constant) → IsNeeded (with_value pool needed) needed
value_needed pool None = tt
value_needed pool (Some c) = with_constant_held (with_text pool (codes "ConstantValue")) c

value_name : (pool : List Constant) (needed : Option Constant) → Has (with_value pool needed) (constant.Text (codes "ConstantValue")) ⊎ (needed ≡ None)
value_name pool None = inr refl
value_name pool (Some c) =
    inl (has_grown (with_constant_grown (with_text pool (codes "ConstantValue")) c) (constant.Text (codes "ConstantValue")) (with_text_has pool (codes "ConstantValue")))

IsGoodNeeded : List Constant → Option Constant → Type 0
IsGoodNeeded all None = Unit {0}
IsGoodNeeded all (Some c) = HoldsOf (IsGood all) c

value_all : (all pool : List Constant) (needed : Option Constant) → AllByRecursion (IsGood all) pool → IsGoodNeeded all needed → Has all (constant.Text (codes "ConstantValue")) ⊎ (needed ≡ None)
    → AllByRecursion (IsGood all) (with_value pool needed)
unfolding IsGoodNeeded
value_all all pool None good needed name = good
value_all all pool (Some c) good needed (inl name) =
    with_constant_all (IsGood all) (with_text pool (codes "ConstantValue")) c
    (with_text_all (IsGood all) pool (codes "ConstantValue") good (text_good all (codes "ConstantValue") refl (omega arith) name)) needed
value_all all pool (Some c) good needed (inr none) = absurd cc

-- the constant of a value that a source may say
value_good : (all : List Constant) (v : Value) → IsSaidValue v → IsNeeded all (constant_of_value v) → IsGoodNeeded all (constant_of_value v)
unfolding IsGoodNeeded
value_good all value.Nothing said held = tt
value_good all (value.Int n) said held = record { lawful = said; held = held }
value_good all (value.Long n) said held = record { lawful = said; held = held }
value_good all (value.Text None) said held = tt
value_good all (value.Text (Some t)) said held = literal_good all t said.text said.short held

field_step : (all : List Constant) (d e : ClassDraft) (behind : List SourceLine) (line : FieldLine) → places all < 65536
    → (line.flags < 65536) × IsWord line.name × IsWord line.descriptor × IsSaidValue line.value → field_said (without d) line ≡ Ok e → PartStep all d e behind
unfolding field_said with_field is_lawful_field_line
field_step all d e behind line few said h =
    let c = check_ok (may_have_field d.stage) 5 (check (is_text_value line.value) 6 (check lawful 8 (Ok made))) e h in
    let t = check_ok (is_text_value line.value) 6 (check lawful 8 (Ok made)) e c.1 in
    let r = check_ok lawful 8 (Ok made) e t.1 in
    let p = and_parts (is_lawful_field line.name line.descriptor && may_have_value d.flags line.flags line.descriptor line.value) (not (is_taken d.field_signatures line.name line.descriptor)) r.0 in
    let q = and_parts (is_lawful_field line.name line.descriptor) (may_have_value d.flags line.flags line.descriptor line.value) p.0 in
    subst (λ (x : ClassDraft). PartStep all d x behind) (ok_is made e r.1) (record {
      grown = grown_then has.grown valued;
      sound = λ s signed g. kept (field_member line.name line.descriptor q.0) t.0 q.1 (not-true (is_taken d.field_signatures line.name line.descriptor) p.1) (field_after d.stage c.0) s signed g;
    })
  where
    needed : Option Constant
    needed = constant_of_value line.value

    first : List Constant
    first = with_signature d.pool line.name line.descriptor

    pool : List Constant
    pool = with_value first needed

    new : Field
    new = field_of pool needed line

    own : Signature
    own = record { name = line.name; descriptor = line.descriptor }

    made : ClassDraft
    made = record (without d) {
      stage = stage.Fields;
      pool = pool;
      fields = d.fields ++ new ∷ [];
      field_signatures = d.field_signatures ++ own ∷ [];
    }

    lawful : Bool
    lawful = is_lawful_field line.name line.descriptor && may_have_value d.flags line.flags line.descriptor line.value && not (is_taken d.field_signatures line.name line.descriptor)

    has : HasSignature all d.pool line.name line.descriptor
    has = signature_has all d.pool line.name line.descriptor

    valued : IsGrown first pool
    valued = value_grown first needed

    kept : IsMember is_field_name is_field_descriptor line.name line.descriptor → is_text_value line.value ≡ true → may_have_value d.flags line.flags line.descriptor line.value ≡ true
        → is_taken d.field_signatures line.name line.descriptor ≡ false → has_class d.stage ≡ true → Sound all d → AreSigned all d → IsGrown pool all → State all made behind
    kept is is_text_there may alone begun s signed g = record {
      sound = record {
        old = s.old;
        new = s.new;
        flags = s.flags;
        pool = value_all all first needed
            (signature_all all d.pool line.name line.descriptor s.pool said.1 said.2 is.short_name is.short_descriptor (has_grown g (constant.Text line.name) name_has) (has_grown g (constant.Text line.descriptor) descriptor_has))
            (value_good all line.value said.3 held) name_there;
        begun = subst (Begun all d) begun s.begun;
        interfaces = s.interfaces;
        fields = each_more (FieldHolds (pool_of all)) [] d.fields new s.fields holds;
        named_fields = all_push (IsNamedField (pool_of all) (has_flag d.flags INTERFACE)) d.fields new s.named_fields
            (subst (λ (i : ℕ). MayHaveConstant (pool_of all) (has_flag d.flags INTERFACE || has_flag line.flags STATIC) i) (sym index) (constant_named all d.flags line.flags line.value parts.0 attribute));
        field_names = zip_push (IsSignedField all) d.fields d.field_signatures new own s.field_names (record { name = text_name; descriptor = text_descriptor });
        methods = s.methods;
        named_methods = s.named_methods;
      };
      inside = signed;
    }
      where
        name_has : Has pool (constant.Text line.name)
        name_has = has_grown valued (constant.Text line.name) has.name

        descriptor_has : Has pool (constant.Text line.descriptor)
        descriptor_has = has_grown valued (constant.Text line.descriptor) has.descriptor

        text_name : text (pool_of all) new.name ≡ Some line.name
        text_name = text_in all pool line.name few is.short_name g name_has

        text_descriptor : text (pool_of all) new.descriptor ≡ Some line.descriptor
        text_descriptor = text_in all pool line.descriptor few is.short_descriptor g descriptor_has

        needs : IsNeeded pool needed
        needs = value_needed first needed

        held : IsNeeded all needed
        held = needed_held g needed needs

        index : in_file_or_zero pool needed ≡ in_file_or_zero all needed
        index = needed_grown g needed needs

        name_there : Has all (constant.Text (codes "ConstantValue")) ⊎ (needed ≡ None)
        name_there = by_name (value_name first needed)
          where
            by_name : Has pool (constant.Text (codes "ConstantValue")) ⊎ (needed ≡ None) → Has all (constant.Text (codes "ConstantValue")) ⊎ (needed ≡ None)
            by_name (inl name) = inl (has_grown g (constant.Text (codes "ConstantValue")) name)
            by_name (inr none) = inr none

        attribute : HasName (pool_of all) (codes "ConstantValue") ⊎ (needed ≡ None)
        attribute = by_name name_there
          where
            by_name : Has all (constant.Text (codes "ConstantValue")) ⊎ (needed ≡ None) → HasName (pool_of all) (codes "ConstantValue") ⊎ (needed ≡ None)
            by_name (inl name) = inl (has_name all (codes "ConstantValue") few (omega arith) name)
            by_name (inr none) = inr none

        parts : ((is_nothing line.value || has_flag d.flags INTERFACE || has_flag line.flags STATIC) ≡ true) × (is_value_for line.descriptor line.value ≡ true)
        parts = value_parts d.flags line.flags line.descriptor line.value may

        constant_there : (new.constant == 0 || is_constant_for line.descriptor (entry_of (pool_of all) new.constant)) ≡ true
        constant_there =
            subst (λ (i : ℕ). (i == 0 || is_constant_for line.descriptor (entry_of (pool_of all) i)) ≡ true) (sym index)
            (constant_fits all line.descriptor line.value few held is_text_there parts.1)

        holds : FieldHolds (pool_of all) d.fields new
        holds = record {
          name = line.name;
          descriptor = line.descriptor;
          is_name = text_name;
          is_descriptor = text_descriptor;
          flags = said.0;
          lawful_name = is.name;
          lawful_descriptor = is.descriptor;
          new = not_from_false _ (none_same (pool_of all) (λ f. f.name) (λ f. f.descriptor) d.fields d.field_signatures line.name line.descriptor s.field_names alone);
          constant = constant_there;
        }

-- ---- a method

record IsLawfulMethod (d : ClassDraft) (line : MethodLine) : Type 0 where
  lawful : is_lawful_method line.name line.descriptor ≡ true
  initialiser : is_lawful_initialiser line.name line.descriptor ≡ true
  code : is_lawful_code line.flags line.name line.descriptor (locals_of line.room) ≡ true
  alone : is_taken d.method_signatures line.name line.descriptor ≡ false

lawful_line : (d : ClassDraft) (line : MethodLine) → is_lawful_method_line d line ≡ true → IsLawfulMethod d line
unfolding is_lawful_method_line
lawful_line d line h =
    let p = and_parts (is_lawful_method line.name line.descriptor && is_lawful_initialiser line.name line.descriptor && is_lawful_code line.flags line.name line.descriptor (locals_of line.room))
    (not (is_taken d.method_signatures line.name line.descriptor)) h in
    let q = and_parts (is_lawful_method line.name line.descriptor && is_lawful_initialiser line.name line.descriptor) (is_lawful_code line.flags line.name line.descriptor (locals_of line.room)) p.0 in
    let r = and_parts (is_lawful_method line.name line.descriptor) (is_lawful_initialiser line.name line.descriptor) q.0 in
    record { lawful = r.0; initialiser = r.1; code = q.1; alone = not-true (is_taken d.method_signatures line.name line.descriptor) p.1 }

-- where the flags ask for no code
no_code : (flags : ℕ) (name descriptor : List ℕ) → is_lawful_code flags name descriptor None ≡ true → takes_code flags name ≡ false
unfolding is_lawful_code
no_code flags name descriptor h = not-true (takes_code flags name) h

some_code : (flags : ℕ) (name descriptor : List ℕ) (max_locals : ℕ) → is_lawful_code flags name descriptor (Some max_locals) ≡ true → (takes_code flags name ≡ true) × (slots_of flags name descriptor ≤ max_locals)
unfolding is_lawful_code
some_code flags name descriptor max_locals h =
    let p = and_parts (takes_code flags name) (nat_le (slots_of flags name descriptor) max_locals) h in
    (p.0, leb-true (slots_of flags name descriptor) max_locals p.1)

-- the class after a method, whatever its stage was before
methods_begun : (all : List Constant) (d : ClassDraft) → has_class d.stage ≡ true → Sound all d → Begun all d true
methods_begun all d has s = subst (Begun all d) has s.begun

bare_step : (all : List Constant) (d : ClassDraft) (behind : List SourceLine) (line : MethodLine) → places all < 65536 → line.flags < 65536 → IsWord line.name → IsWord line.descriptor → has_class d.stage ≡ true
    → IsLawfulMethod d line → takes_code line.flags line.name ≡ false → PartStep all d (with_bare_method (without d) line) behind
unfolding with_bare_method
bare_step all d behind line few flags word word_d begun m bare = record { grown = has.grown; sound = kept }
  where
    pool : List Constant
    pool = with_signature d.pool line.name line.descriptor

    new : Method
    new = bare_method pool line

    own : Signature
    own = record { name = line.name; descriptor = line.descriptor }

    made : ClassDraft
    made = record (without d) { stage = stage.Methods; pool = pool; methods = d.methods ++ new ∷ []; method_signatures = d.method_signatures ++ own ∷ [] }

    has : HasSignature all d.pool line.name line.descriptor
    has = signature_has all d.pool line.name line.descriptor

    is : IsMember is_method_name is_method_descriptor line.name line.descriptor
    is = method_member line.name line.descriptor m.lawful

    kept : Sound all d → AreSigned all d → IsGrown pool all → State all made behind
    kept s signed g = record {
      sound = record {
        old = s.old;
        new = s.new;
        flags = s.flags;
        pool = signature_all all d.pool line.name line.descriptor s.pool word word_d is.short_name is.short_descriptor (has_grown g (constant.Text line.name) has.name) (has_grown g (constant.Text line.descriptor) has.descriptor);
        begun = methods_begun all d begun s;
        interfaces = s.interfaces;
        fields = s.fields;
        named_fields = s.named_fields;
        field_names = s.field_names;
        methods = each_more (MethodHolds (pool_of all) d.major) [] d.methods new s.methods holds;
        named_methods = all_push (IsNamedMethod (pool_of all)) d.methods new s.named_methods tt;
      };
      inside = zip_push (IsSignedMethod all) d.methods d.method_signatures new own signed (record { name = text_name; descriptor = text_descriptor });
    }
      where
        text_name : text (pool_of all) new.name ≡ Some line.name
        text_name = text_in all pool line.name few is.short_name g has.name

        text_descriptor : text (pool_of all) new.descriptor ≡ Some line.descriptor
        text_descriptor = text_in all pool line.descriptor few is.short_descriptor g has.descriptor

        holds : MethodHolds (pool_of all) d.major d.methods new
        holds = record {
          name = line.name;
          descriptor = line.descriptor;
          is_name = text_name;
          is_descriptor = text_descriptor;
          flags = flags;
          lawful_name = is.name;
          lawful_descriptor = is.descriptor;
          new = not_from_false _ (none_same (pool_of all) (λ x. x.name) (λ x. x.descriptor) d.methods d.method_signatures line.name line.descriptor signed m.alone);
          initialiser = m.initialiser;
          code = bare;
        }

body_step : (all : List Constant) (d : ClassDraft) (behind : List SourceLine) (line : MethodLine) (room : Room) → places all < 65536 → line.flags < 65536 → IsWord line.name → IsWord line.descriptor → has_class d.stage ≡ true
    → IsLawfulMethod d line → (takes_code line.flags line.name ≡ true) × (slots_of line.flags line.name line.descriptor ≤ room.max_locals) → (room.max_stack < 65536) × (room.max_locals < 65536)
    → PartStep all d (with_body (without d) line room behind) behind
unfolding with_body
body_step all d behind line room few flags word word_d begun m code small = record { grown = grown_then has.grown (with_text_grown first (codes "Code")); sound = kept }
  where
    first : List Constant
    first = with_signature d.pool line.name line.descriptor

    pool : List Constant
    pool = with_text first (codes "Code")

    own : Signature
    own = record { name = line.name; descriptor = line.descriptor }

    body : Body
    body = body_of pool line room behind

    made : ClassDraft
    made = record (without d) { stage = stage.Methods; pool = pool; method_signatures = d.method_signatures ++ own ∷ []; body = Some body }

    has : HasSignature all d.pool line.name line.descriptor
    has = signature_has all d.pool line.name line.descriptor

    is : IsMember is_method_name is_method_descriptor line.name line.descriptor
    is = method_member line.name line.descriptor m.lawful

    kept : Sound all d → AreSigned all d → IsGrown pool all → State all made behind
    kept s signed g = record {
      sound = record {
        old = s.old;
        new = s.new;
        flags = s.flags;
        pool = with_text_all (IsGood all) first (codes "Code")
            (signature_all all d.pool line.name line.descriptor s.pool word word_d is.short_name is.short_descriptor (has_grown g (constant.Text line.name) name_has) (has_grown g (constant.Text line.descriptor) descriptor_has))
            (text_good all (codes "Code") refl (omega arith) (has_grown g (constant.Text (codes "Code")) (with_text_has first (codes "Code"))));
        begun = methods_begun all d begun s;
        interfaces = s.interfaces;
        fields = s.fields;
        named_fields = s.named_fields;
        field_names = s.field_names;
        methods = s.methods;
        named_methods = s.named_methods;
      };
      inside = record {
        front = d.method_signatures;
        own = own;
        signatures = refl;
        signed = signed;
        flags = flags;
        name = text_in all pool line.name few is.short_name g name_has;
        descriptor = text_in all pool line.descriptor few is.short_descriptor g descriptor_has;
        lawful = m.lawful;
        initialiser = m.initialiser;
        takes = code.0;
        alone = m.alone;
        stack = small.0;
        locals = small.1;
        arguments = code.1;
        named = has_name all (codes "Code") few (omega arith) (has_grown g (constant.Text (codes "Code")) (with_text_has first (codes "Code")));
        begun = refl;
        labels = record { so_far = []; rest = refl; few = labels_few behind };
        drafts = λ near. tt;
        rows = tt;
      };
    }
      where
        name_has : Has pool (constant.Text line.name)
        name_has = has_grown (with_text_grown first (codes "Code")) (constant.Text line.name) has.name

        descriptor_has : Has pool (constant.Text line.descriptor)
        descriptor_has = has_grown (with_text_grown first (codes "Code")) (constant.Text line.descriptor) has.descriptor

method_step : (all : List Constant) (d e : ClassDraft) (behind : List SourceLine) (line : MethodLine) → places all < 65536
    → (line.flags < 65536) × IsWord line.name × IsWord line.descriptor × IsSaidRoom line.room → method_said (without d) line behind ≡ Ok e → PartStep all d e behind
unfolding method_said
method_step all d e behind line few said h =
    let c = check_ok (has_class d.stage) 5 (check (is_lawful_method_line (without d) line) 8 (Ok (with_room (without d) line line.room behind))) e h in
    let r = check_ok (is_lawful_method_line (without d) line) 8 (Ok (with_room (without d) line line.room behind)) e c.1 in
    let m = lawful_line (without d) line r.0 in
    subst (λ (x : ClassDraft). PartStep all d x behind) (ok_is (with_room (without d) line line.room behind) e r.1)
    (by_room c.0 (record { lawful = m.lawful; initialiser = m.initialiser; code = m.code; alone = m.alone }) line.room refl said.3 m.code)
  where
    by_room : has_class d.stage ≡ true → IsLawfulMethod d line → (room : Option Room) → line.room ≡ room → IsSaidRoom line.room → is_lawful_code line.flags line.name line.descriptor (locals_of line.room) ≡ true
        → PartStep all d (with_room (without d) line line.room behind) behind
    by_room begun m None is small code = subst (λ (r : Option Room). PartStep all d (with_room (without d) line r behind) behind) (sym is) (bare_step all d behind line few said.0 said.1 said.2 begun m (no_code line.flags line.name line.descriptor (rw is at code)))
    by_room begun m (Some room) is small code =
        subst (λ (r : Option Room). PartStep all d (with_room (without d) line r behind) behind) (sym is) (body_step all d behind line room few said.0 said.1 said.2 begun m (some_code line.flags line.name line.descriptor room.max_locals (rw is at code)) (rw is at small))

-- ---- a line outside of bodies

no_ok : (d : ℕ) (e : ClassDraft) → (let r : Read ClassDraft = Err d in let t : Read ClassDraft = Ok e in r ≡ t) → ⊥
no_ok d e h = cc

pub part_step : (all : List Constant) (d e : ClassDraft) (behind : List SourceLine) (s : Statement) → places all < 65536 → IsSaid s → part_said (without d) s behind ≡ Ok e → PartStep all d e behind
unfolding part_said
part_step all d e behind (statement.Version major) few said h = version_step all d e behind major said h
part_step all d e behind (statement.Class line) few said h = class_step all d e behind line few said h
part_step all d e behind (statement.Implements name) few said h = implements_step all d e behind name few said h
part_step all d e behind (statement.Field line) few said h = field_step all d e behind line few said h
part_step all d e behind (statement.Method line) few said h = method_step all d e behind line few said h
part_step all d e behind (statement.Instruction i) few said h = absurd (no_ok 5 e (check_ok (is_of_version d.major i.operand) 2 (Err 5) e h).1)
part_step all d e behind statement.End few said h = absurd (no_ok 5 e h)
part_step all d e behind (statement.Label name) few said h = absurd (no_ok 5 e h)
part_step all d e behind (statement.Catch line) few said h = absurd (no_ok 5 e h)
