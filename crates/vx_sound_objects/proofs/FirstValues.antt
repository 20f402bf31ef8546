-- What runs of a linked program begin with is of its types.
use Rattle.std.proofs.Common.{All, Bool, List, None, Option, Some, [], ap, arith, codes, false, inl, inr, length, length-append, map, option_map, refl, slice_get, subst, suc, sym, true, unwrap_or, zero, ℕ, ◌++◌, ◌+◌, ◌<◌, ◌⊎◌, ◌∙◌, ◌∷◌, ◌≡◌, ◌≤◌}
use Prim.Native.String.{String}
use Rattle.std.proofs.lemmas.Bool.{lt-ltb, ltb-false, ltb-true}
use Rattle.std.proofs.lemmas.List.{length-map}
use Rattle.std.proofs.lemmas.Option.{same_Some, slice_get_within}
use Rattle.std.proofs.lemmas.Slice.Eq.{bytes_eq-Decides}
use Rattle.std.specs.Prelude.{bytes_eq, cond, find, if◌then◌else◌, nat_lt, position, ◌&&◌, ◌==◌, ◌||◌}
use Rattle.vx_class.specs.File.{Holds}
use Rattle.vx_class.specs.Members.{STATIC, is_constant_for}
use Rattle.vx_class.specs.declared.class_file.ClassFile.{ClassFile}
use Rattle.vx_class.specs.declared.class_file.Field.{Field}
use Rattle.vx_pool.specs.Lookups.{entry_of}
use Rattle.vx_java.specs.FirstObjects.{First, constant_of, field_default, first_boolean, first_objects, first_stream, for_boolean, for_class, for_main, for_stream, for_text, literal_object, object_of_first, plain_static, units_of}
use Rattle.vx_java.specs.Machine.{Object, Ref, Top, no_object}
use Rattle.vx_java.specs.Objects.{int_of_bool}
use Rattle.vx_java.specs.Step.{Config, core_static, first_static, first_statics, not_core, not_option}
use Rattle.vx_kept_states.proofs.Throwables.{place_in}
use Rattle.vx_link.specs.ClassNames.{class_of_name, core_class, dimensions_of, element_of, is_array}
use Rattle.vx_link.specs.CoreTable.{boolean_class, system_class}
use Rattle.vx_link.specs.Faults.{name_of}
use Rattle.vx_link.specs.Linked.{is_place, linked_field, option_of}
use Rattle.vx_link.specs.Names.{utf8}
use Rattle.vx_link.specs.Parts.{class_at, class_count, field_at, has, is_static_field, no_field}
use Rattle.vx_link.specs.Tables.{names_of}
use Rattle.vx_link.specs.Written.{WrittenClass, class_file}
use Rattle.vx_link.specs.declared.program.LinkedClass.{LinkedClass}
use Rattle.vx_link.specs.declared.program.LinkedField.{LinkedField}
use Rattle.vx_link.specs.declared.program.Program.{Program}
use Rattle.vx_list.specs.Places.{item_or}
use Rattle.vx_model.specs.declared.model.OptionField.{OptionField}
use Rattle.vx_pool.specs.declared.pool.Entry.TheVariants as entry
use Rattle.vx_sound.specs.Sound.{HasFirstValues, HasHierarchy, IsFirstOf}
use Rattle.vx_sound.specs.Typed.{IsTypedHeap, IsTypedObject, first_heap}
use Rattle.vx_sound.specs.Values.{array_type, type_of_class, type_of_field, type_of_value}
use Rattle.vx_sound_objects.proofs.Chains.{HasChains}
use Rattle.vx_sound_objects.proofs.Constants.{TextsFit, constant_fits, default_fits, is_lawful_constant, lawful_constant}
use Rattle.vx_sound_objects.proofs.CoreObjects.{HasRows, typed_first}
use Rattle.vx_sound_objects.proofs.Cores.{IsLinked, class_found, core_at, no_array}
use Rattle.vx_sound_objects.proofs.Firsts.{boolean_first, first_at, integer_first, literal_first, words_first}
use Rattle.vx_sound_objects.proofs.Lists.{item_there, missing_item, unmapped}
use Rattle.vx_sound_objects.proofs.Objects.{boolean_class_type, boolean_type, field_of_row, row_descriptor, row_static, row_type, stream_type, string_type, type_of_text}
use Rattle.vx_sound_objects.proofs.Programs.{IsOwnField, any_field}
use Rattle.vx_types.proofs.Tests.{both_first, or_second}
use Rattle.vx_types.specs.Fits.{fits}
use Rattle.vx_types.specs.Types.{class_type}
use Rattle.vx_types.specs.declared.types.VerType.TheVariants as is

-- ---- fields of the core that begin with first objects

-- the row that says so
named_row : (rows : List (String × String × ℕ)) (class name : List ℕ) (r : ℕ)
    → option_map (λ row. row.2) (find (λ row. bytes_eq (codes row.0) class && bytes_eq (codes row.1) name) rows) ≡ Some r
    → (k : ℕ) × (row : String × String × ℕ) × (slice_get rows k ≡ Some row) × (codes row.0 ≡ class) × (row.2 ≡ r)
named_row [] class name r is = cc
named_row (row ∷ rows) class name r is = by (bytes_eq (codes row.0) class && bytes_eq (codes row.1) name) refl is (named_row rows class name r)
  where
    Found : List (String × String × ℕ) → Type 0
    Found rows = (k : ℕ) × (row : String × String × ℕ) × (slice_get rows k ≡ Some row) × (codes row.0 ≡ class) × (row.2 ≡ r)

    by : (b : Bool) → (bytes_eq (codes row.0) class && bytes_eq (codes row.1) name) ≡ b
        → option_map (λ row. row.2) (cond b (Some row) (find (λ row. bytes_eq (codes row.0) class && bytes_eq (codes row.1) name) rows)) ≡ Some r
        → (option_map (λ row. row.2) (find (λ row. bytes_eq (codes row.0) class && bytes_eq (codes row.1) name) rows) ≡ Some r → Found rows)
        → (k : ℕ) × (other : String × String × ℕ) × (slice_get (row ∷ rows) k ≡ Some other) × (codes other.0 ≡ class) × (other.2 ≡ r)
    by true same is later =
        (0, row, refl, (bytes_eq-Decides (codes row.0) class).0 (both_first (bytes_eq (codes row.0) class) (bytes_eq (codes row.1) name) same), same_Some row.2 r is)
    by false other is later = let found = later is in (suc found.0, found.1, found.2, found.3, found.4)

-- a stream of System, or a Boolean
pub record IsCoreStatic (class : List ℕ) (r : ℕ) (name : String) (x : ℕ → First) : Type 0 where
  pub class_is : codes name ≡ class
  pub n : ℕ
  pub small : n ≤ 1
  pub at : (p : Program) → slice_get (first_objects p) r ≡ Some (x n)

streams : (p : Program) (n : ℕ) → n ≤ 1 → slice_get (first_objects p) (first_stream n) ≡ Some (for_stream n)
streams p zero small = refl
streams p (suc zero) small = refl
streams p (suc (suc n)) small = absurd (omega (arith, small))

core_static_is : (class name : List ℕ) (r : ℕ) → core_static class name ≡ Some r
    → IsCoreStatic class r "java/lang/System" for_stream ⊎ IsCoreStatic class r "java/lang/Boolean" for_boolean
core_static_is class name r is = let found = named_row first_statics class name r is in by found.0 found.1 found.2 found.3 found.4
  where
    by : (k : ℕ) (row : String × String × ℕ) → slice_get first_statics k ≡ Some row → codes row.0 ≡ class → row.2 ≡ r
        → IsCoreStatic class r "java/lang/System" for_stream ⊎ IsCoreStatic class r "java/lang/Boolean" for_boolean
    by zero row there same number =
        inl (record {
          class_is = ap (λ o. codes (unwrap_or o row).0) there ∙ same;
          n = 0;
          small = omega arith;
          at = λ p. ap (slice_get (first_objects p)) (sym (ap (λ o. (unwrap_or o row).2) there ∙ number)) ∙ streams p 0 (omega arith);
        })
    by (suc zero) row there same number =
        inl (record {
          class_is = ap (λ o. codes (unwrap_or o row).0) there ∙ same;
          n = 1;
          small = omega arith;
          at = λ p. ap (slice_get (first_objects p)) (sym (ap (λ o. (unwrap_or o row).2) there ∙ number)) ∙ streams p 1 (omega arith);
        })
    by (suc (suc zero)) row there same number =
        inr (record {
          class_is = ap (λ o. codes (unwrap_or o row).0) there ∙ same;
          n = 1;
          small = omega arith;
          at = λ p. ap (slice_get (first_objects p)) (sym (ap (λ o. (unwrap_or o row).2) there ∙ number)) ∙ boolean_first p 1 (omega arith);
        })
    by (suc (suc (suc zero))) row there same number =
        inr (record {
          class_is = ap (λ o. codes (unwrap_or o row).0) there ∙ same;
          n = 0;
          small = omega arith;
          at = λ p. ap (slice_get (first_objects p)) (sym (ap (λ o. (unwrap_or o row).2) there ∙ number)) ∙ boolean_first p 0 (omega arith);
        })
    by (suc (suc (suc (suc k)))) row there same number = absurd (none row there)
      where
        none : (row : String × String × ℕ) → ◌≡◌ {A = Option (String × String × ℕ)} None (Some row) → ⊥
        none row wrong = cc

-- an option's field is a Z
option_is : (options : List OptionField) (file : ClassFile) (f : Field) (o : ℕ) → option_of options file f ≡ Some o → utf8 file.pool f.descriptor ≡ codes "Z"
option_is options file f o is = by (bytes_eq (utf8 file.pool f.descriptor) (codes "Z")) refl is
  where
    by : (b : Bool) → bytes_eq (utf8 file.pool f.descriptor) (codes "Z") ≡ b
        → (if b then position (λ o. is_place (name_of file) (utf8 file.pool f.name) o.place) options else None) ≡ Some o → utf8 file.pool f.descriptor ≡ codes "Z"
    by true same is = (bytes_eq-Decides (utf8 file.pool f.descriptor) (codes "Z")).0 same
    by false other is = cc

module _ (p : Program) (options : List OptionField) (classes : List ClassFile) (rows : List WrittenClass) (linked : IsLinked p options classes rows) (has_rows : HasRows rows) (chains : HasChains p) where
  heap_typed : IsTypedHeap p (first_heap p)
  heap_typed = record {
    objects = λ r less. typed_at (first_objects p) (first_heap p) r less;
    enough = omega arith;
    first = λ r less. refl;
  }
    where
      typed_at : (xs : List First) (heap : List Object) (r : ℕ) → r < length (map (object_of_first p) xs) → IsTypedObject p heap (item_or (map (object_of_first p) xs) r no_object)
      typed_at xs heap r less =
          let there = unmapped (object_of_first p) xs r (item_or (map (object_of_first p) xs) r no_object) (item_there (map (object_of_first p) xs) r no_object less) in
          subst (IsTypedObject p heap) there.2 (typed_first p options classes rows linked has_rows chains heap there.0)

  -- ---- references to first objects

  module _ (h : HasHierarchy p) (holds : All Holds classes) where
    itself : (c : ℕ) → fits p (class_type p c) (class_type p c) ≡ true
    itself c = or_second _ _ (h.ranked.itself _)

    ref_fits : (r : ℕ) (name : String) (k : ℕ) → place_in rows (codes name) ≡ Some k → k < length rows → IsFirstOf p r (core_class p name)
        → fits p (type_of_value p (first_heap p) (Ref r)) (class_type p (core_class p name)) ≡ true
    ref_fits r name k at less first =
        ap (λ b. fits p (if b then type_of_class p (item_or (first_heap p) r no_object).class else is.Top) (class_type p (core_class p name))) (lt-ltb r (length (first_heap p)) first.there)
        ∙ ap (λ c. fits p (type_of_class p c) (class_type p (core_class p name))) first.class
        ∙ ap (λ t. fits p t (class_type p (core_class p name))) plain
        ∙ itself (core_class p name)
      where
        plain : type_of_class p (core_class p name) ≡ class_type p (core_class p name)
        plain =
            ap (λ b. if b then array_type p (dimensions_of p (core_class p name)) (element_of p (core_class p name)) else class_type p (core_class p name))
            (ap (is_array p) (core_at p options classes rows linked name k at) ∙ no_array p options classes rows linked k less)

    core_type : (name : String) (k : ℕ) → place_in rows (codes name) ≡ Some k → class_type p (length classes + k) ≡ class_type p (core_class p name)
    core_type name k at = ap (class_type p) (sym (core_at p options classes rows linked name k at))

    text_first : (c i j : ℕ) → entry_of (class_at p c).pool i ≡ Some (entry.Text j) → IsFirstOf p (literal_object p (class_at p c).pool (entry.Text j)) (core_class p "java/lang/String")
    text_first c i j there =
        first_at p (literal_object p (class_at p c).pool (entry.Text j)) (for_text (units_of (utf8 (class_at p c).pool j)))
        (literal_first p c i (entry.Text j) (for_text (units_of (utf8 (class_at p c).pool j))) there refl
        ((bytes_eq-Decides (units_of (utf8 (class_at p c).pool j)) (units_of (utf8 (class_at p c).pool j))).1 refl))

    class_first : (c i j : ℕ) → entry_of (class_at p c).pool i ≡ Some (entry.Class j) → IsFirstOf p (literal_object p (class_at p c).pool (entry.Class j)) (core_class p "java/lang/Class")
    class_first c i j there =
        first_at p (literal_object p (class_at p c).pool (entry.Class j)) (for_class (utf8 (class_at p c).pool j))
        (literal_first p c i (entry.Class j) (for_class (utf8 (class_at p c).pool j)) there refl
        ((bytes_eq-Decides (utf8 (class_at p c).pool j) (utf8 (class_at p c).pool j)).1 refl))

    -- ---- static fields

    abbrev Own : ℕ → ℕ → Type 0
    Own c f = IsOwnField p options (names_of (classes ++ map class_file rows)) (classes ++ map class_file rows) c f

    -- a class of a core class's name is that class
    is_core : (c : ℕ) (name : String) (k : ℕ) → c < class_count p → place_in rows (codes name) ≡ Some k → codes name ≡ (class_at p c).name → c ≡ length classes + k
    is_core c name k less at named =
        same_Some c (length classes + k) (sym (h.names c less) ∙ ap (class_of_name p) (sym named) ∙ class_found p options classes rows linked name k at)

    wrong : true ≡ false → ⊥
    wrong e = cc

    no_entry : (f : Field) → ◌≡◌ {A = Option Field} None (Some f) → ⊥
    no_entry f e = cc

    system_type : (f own : ℕ) (field : Field) → slice_get (class_file system_class).fields own ≡ Some field → type_of_text p (row_descriptor system_class field) ≡ class_type p (core_class p "java/io/PrintStream")
    system_type f zero field there =
        ap (λ o. type_of_text p (row_descriptor system_class (unwrap_or o field))) (sym there)
        ∙ stream_type p (length classes + 11) (class_found p options classes rows linked "java/io/PrintStream" 11 has_rows.stream.here.named) ∙ core_type "java/io/PrintStream" 11 has_rows.stream.here.named
    system_type f (suc zero) field there =
        ap (λ o. type_of_text p (row_descriptor system_class (unwrap_or o field))) (sym there)
        ∙ stream_type p (length classes + 11) (class_found p options classes rows linked "java/io/PrintStream" 11 has_rows.stream.here.named) ∙ core_type "java/io/PrintStream" 11 has_rows.stream.here.named
    system_type f (suc (suc own)) field there = absurd (no_entry field there)

    constant_type : (own : ℕ) (field : Field) → slice_get (class_file boolean_class).fields own ≡ Some field → row_static boolean_class field ≡ true
        → type_of_text p (row_descriptor boolean_class field) ≡ class_type p (core_class p "java/lang/Boolean")
    constant_type zero field there static = absurd (wrong (sym static ∙ ap (λ o. row_static boolean_class (unwrap_or o field)) (sym there)))
    constant_type (suc zero) field there static =
        ap (λ o. type_of_text p (row_descriptor boolean_class (unwrap_or o field))) (sym there)
        ∙ boolean_class_type p (length classes + 15) (class_found p options classes rows linked "java/lang/Boolean" 15 has_rows.boolean.here.named) ∙ core_type "java/lang/Boolean" 15 has_rows.boolean.here.named
    constant_type (suc (suc zero)) field there static =
        ap (λ o. type_of_text p (row_descriptor boolean_class (unwrap_or o field))) (sym there)
        ∙ boolean_class_type p (length classes + 15) (class_found p options classes rows linked "java/lang/Boolean" 15 has_rows.boolean.here.named) ∙ core_type "java/lang/Boolean" 15 has_rows.boolean.here.named
    constant_type (suc (suc (suc own))) field there static = absurd (no_entry field there)

    file_count : length (classes ++ map class_file rows) ≡ class_count p
    file_count = length-append classes (map class_file rows) ∙ ap (λ n. length classes + n) (length-map rows class_file) ∙ sym linked.count

    -- a static field that begins with a first object
    core_static_fits : (f r : ℕ) → f < length p.fields → is_static_field p f ≡ true → Own (field_at p f).class.0 f
        → (IsCoreStatic (class_at p (field_at p f).class.0).name r "java/lang/System" for_stream ⊎ IsCoreStatic (class_at p (field_at p f).class.0).name r "java/lang/Boolean" for_boolean)
        → fits p (type_of_value p (first_heap p) (Ref r)) (type_of_field p f) ≡ true
    core_static_fits f r few static own (inl system) =
        let less : (field_at p f).class.0 < class_count p = subst (λ n. (field_at p f).class.0 < n) file_count (slice_get_within (classes ++ map class_file rows) (field_at p f).class.0 own.class.file own.class.there) in
        let of = field_of_row p options classes rows linked chains 12 system_class f has_rows.system.here.at few (is_core (field_at p f).class.0 "java/lang/System" 12 less has_rows.system.here.named system.class_is) in
        ap (fits p (type_of_value p (first_heap p) (Ref r))) (row_type p options classes rows linked chains 12 system_class f of.0 of.1 of.2 ∙ system_type f of.0 of.1 of.2.there)
        ∙ ref_fits r "java/io/PrintStream" 11 has_rows.stream.here.named has_rows.stream.less (first_at p r (for_stream system.n) (system.at p))
    core_static_fits f r few static own (inr boolean) =
        let less : (field_at p f).class.0 < class_count p = subst (λ n. (field_at p f).class.0 < n) file_count (slice_get_within (classes ++ map class_file rows) (field_at p f).class.0 own.class.file own.class.there) in
        let of = field_of_row p options classes rows linked chains 15 boolean_class f has_rows.boolean.here.at few (is_core (field_at p f).class.0 "java/lang/Boolean" 15 less has_rows.boolean.here.named boolean.class_is) in
        let of_static : row_static boolean_class of.1 ≡ true = sym (ap (λ (x : LinkedField). has STATIC x.flags) of.2.is) ∙ static in
        ap (fits p (type_of_value p (first_heap p) (Ref r))) (row_type p options classes rows linked chains 15 boolean_class f of.0 of.1 of.2 ∙ constant_type of.0 of.1 of.2.there of_static)
        ∙ ref_fits r "java/lang/Boolean" 15 has_rows.boolean.here.named has_rows.boolean.less (first_at p r (for_boolean boolean.n) (boolean.at p))

    -- one that begins with its constant, or with its default
    plain_fits : (c : ℕ) (file : ClassFile) (field : Field) → (class_at p c).pool ≡ file.pool → is_lawful_constant file.pool field ≡ true
        → fits p (type_of_value p (first_heap p) (plain_static p (linked_field options c file field))) (type_of_text p (utf8 file.pool field.descriptor)) ≡ true
    plain_fits c file field pool lawful = by (field.constant == 0) lawful
      where
        texts : TextsFit p (first_heap p) (class_at p c).pool (entry_of (class_at p c).pool field.constant)
        texts i is =
            ap (fits p (type_of_value p (first_heap p) (Ref (literal_object p (class_at p c).pool (entry.Text i)))))
            (string_type p (length classes + 8) (class_found p options classes rows linked "java/lang/String" 8 has_rows.string.here.named) ∙ core_type "java/lang/String" 8 has_rows.string.here.named)
            ∙ ref_fits (literal_object p (class_at p c).pool (entry.Text i)) "java/lang/String" 8 has_rows.string.here.named has_rows.string.less (text_first c field.constant i is)

        by : (b : Bool) → (b || is_constant_for (utf8 file.pool field.descriptor) (entry_of file.pool field.constant)) ≡ true
            → fits p (type_of_value p (first_heap p) (elim b [ true ↦ field_default (linked_field options c file field) | false ↦ constant_of p (class_at p c).pool (entry_of (class_at p c).pool field.constant) ]))
            (type_of_text p (utf8 file.pool field.descriptor)) ≡ true
        by true lawful = default_fits p (first_heap p) (utf8 file.pool field.descriptor)
        by false lawful =
            constant_fits p (first_heap p) (class_at p c).pool (utf8 file.pool field.descriptor) (entry_of (class_at p c).pool field.constant) texts
            (ap (λ pool. is_constant_for (utf8 file.pool field.descriptor) (entry_of pool field.constant)) pool ∙ lawful)

    int_fits : (b : Bool) → fits p (type_of_value p (first_heap p) (int_of_bool b)) is.Int ≡ true
    int_fits true = refl
    int_fits false = refl

    static_fits : (config : Config) (f : ℕ) → f < length p.fields → is_static_field p f ≡ true
        → fits p (type_of_value p (first_heap p) (first_static p config (field_at p f))) (type_of_field p f) ≡ true
    static_fits config f few static =
        ap (λ (x : LinkedField). fits p (type_of_value p (first_heap p) (first_static p config x)) (type_of_field p f)) own.is
        ∙ ap (λ b. fits p (type_of_value p (first_heap p) (elim b [ true ↦ not_option p x config x.option | false ↦ Top ])) (type_of_field p f))
        (sym (ap (λ (x : LinkedField). has STATIC x.flags) own.is) ∙ static)
        ∙ by_option (option_of options own.class.file own.field) refl
      where
        own : IsOwnField p options (names_of (classes ++ map class_file rows)) (classes ++ map class_file rows) (field_at p f).class.0 f
        own = any_field p options (names_of (classes ++ map class_file rows)) (classes ++ map class_file rows) linked.are f few

        x : LinkedField
        x = linked_field options (field_at p f).class.0 own.class.file own.field

        type : type_of_field p f ≡ type_of_text p (utf8 own.class.file.pool own.field.descriptor)
        type = ap (λ (x : LinkedField). type_of_text p x.descriptor) own.is

        by_core : (o : Option ℕ) → core_static (class_at p (field_at p f).class.0).name x.name ≡ o → fits p (type_of_value p (first_heap p) (not_core p x o)) (type_of_field p f) ≡ true
        by_core (Some r) is = core_static_fits f r few static own (core_static_is (class_at p (field_at p f).class.0).name x.name r is)
        by_core None is =
            ap (fits p (type_of_value p (first_heap p) (plain_static p x))) type
            ∙ plain_fits (field_at p f).class.0 own.class.file own.field (ap (λ (k : LinkedClass). k.pool) own.class.is)
            (lawful_constant classes rows holds (field_at p f).class.0 own.class.file own.class.there own.own own.field own.there)

        by_option : (o : Option ℕ) → option_of options own.class.file own.field ≡ o → fits p (type_of_value p (first_heap p) (not_option p x config o)) (type_of_field p f) ≡ true
        by_option (Some o) is =
            ap (fits p (type_of_value p (first_heap p) (int_of_bool (item_or config o false))))
            (type ∙ ap (type_of_text p) (option_is options own.class.file own.field o is) ∙ boolean_type p)
            ∙ int_fits (item_or config o false)
        by_option None is = by_core (core_static (class_at p (field_at p f).class.0).name x.name) refl

    any_static : (config : Config) (f : ℕ) → is_static_field p f ≡ true → fits p (type_of_value p (first_heap p) (first_static p config (field_at p f))) (type_of_field p f) ≡ true
    any_static config f static = by (nat_lt f (length p.fields)) refl
      where
        by : (b : Bool) → nat_lt f (length p.fields) ≡ b → fits p (type_of_value p (first_heap p) (first_static p config (field_at p f))) (type_of_field p f) ≡ true
        by true less = static_fits config f (ltb-true f (length p.fields) less) static
        by false over =
            let none : field_at p f ≡ no_field = missing_item p.fields f no_field (ltb-false f (length p.fields) over) in
            absurd (wrong (sym static ∙ ap (λ (x : LinkedField). has STATIC x.flags) none))

    pub first_values : HasFirstValues p
    first_values = record {
      heap = heap_typed;
      statics = any_static;
      texts = text_first;
      classes = class_first;
      integers = λ n within. let there = integer_first p n within in first_at p _ _ there.1;
      words = first_at p _ for_main (words_first p);
      booleans = λ n small. first_at p (first_boolean n) (for_boolean n) (boolean_first p n small);
    }
