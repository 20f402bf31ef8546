-- A linked program by its class files: its classes, fields and methods by their numbers.
use Rattle.std.proofs.Common.{Bool, List, None, Option, Some, [], ap, arith, drop, false, filter, inl, inr, length, map, not, refl, slice_get, subst, suc, sym, true, unwrap_or, zero, ℕ, ◌++◌, ◌+◌, ◌-◌, ◌<◌, ◌⊎◌, ◌∙◌, ◌∷◌, ◌≡◌}
use Rattle.std.proofs.lemmas.Option.{slice_get_within}
use Rattle.std.specs.List.{range_with_len}
use Rattle.std.specs.Prelude.{nat_lt}
use Rattle.vx_class.specs.declared.class_file.ClassFile.{ClassFile}
use Rattle.vx_class.specs.declared.class_file.Field.{Field}
use Rattle.vx_link.specs.Hierarchy.{chain_within, is_among, superclass_of, superclasses}
use Rattle.vx_link.specs.Linked.{cell_count, field_ids, fields_from, fields_with_layout, instance_fields, layout, linked_class, linked_classes, linked_field, method_ids, methods_from, program_of, program_with}
use Rattle.vx_link.specs.Parts.{class_at, class_count, field_at, fields_of, has, is_static_field, method_at, methods_of, no_class, no_field, no_method}
use Rattle.vx_class.specs.Members.{STATIC}
use Rattle.vx_link.specs.Tables.{names_of}
use Rattle.vx_link.specs.declared.program.LinkedClass.{LinkedClass}
use Rattle.vx_link.specs.declared.program.LinkedField.{LinkedField}
use Rattle.vx_link.specs.declared.program.LinkedMethod.{LinkedMethod}
use Rattle.vx_link.specs.declared.program.Program.{Program}
use Rattle.vx_list.specs.Places.{item_or}
use Rattle.vx_model.specs.declared.model.OptionField.{OptionField}
use Rattle.vx_sound_objects.proofs.Lists.{in_row, item_there, mapped_item}
use Rattle.vx_sound_objects.proofs.Parts.{IsFieldOf, class_missing, class_there, field_found, field_there, first_field, first_method, mapped_parts, methods_behind, plain, plain_from}

-- a field but for its cell
abbrev pub uncelled : LinkedField → LinkedField
uncelled f = record f { cell = 0 }

-- the cell of a field that isn't static
abbrev pub own_cell : Program → ℕ → ℕ
own_cell p f =
    let class = (field_at p f).class.0 in
    cell_count p (drop 1 (superclasses p class)) + length (filter (λ g. nat_lt g f) (instance_fields p class))

-- the program of class files, but for the numbers of native methods
pub record AreLinked (p : Program) (options : List OptionField) (names : List (List ℕ)) (files : List ClassFile) : Type 0 where
  pub classes : p.classes ≡ linked_classes names files 0 0
  pub fields : (f : ℕ) → uncelled (field_at p f) ≡ uncelled (item_or (fields_from options 0 files) f no_field)
  pub count : length p.fields ≡ length (fields_from options 0 files)
  pub cells : (f : ℕ) → f < length p.fields → is_static_field p f ≡ false → (field_at p f).cell ≡ own_cell p f
  pub methods : (m : ℕ) → plain (method_at p m) ≡ item_or (methods_from 0 files []) m no_method

-- ---- the layout changes cells alone

laid_count : (q : Program) (from : ℕ) (fields : List LinkedField) → length (fields_with_layout q from fields) ≡ length fields
laid_count q from [] = refl
laid_count q from (f ∷ fields) = ap suc (laid_count q (suc from) fields)

laid_field : (q : Program) (from : ℕ) (fields : List LinkedField) (k : ℕ) → uncelled (item_or (fields_with_layout q from fields) k no_field) ≡ uncelled (item_or fields k no_field)
laid_field q from [] k = refl
laid_field q from (f ∷ fields) zero = refl
laid_field q from (f ∷ fields) (suc k) = laid_field q (suc from) fields k

laid_cell : (q : Program) (from n : ℕ) (fields : List LinkedField) (k : ℕ) → k < length fields → n ≡ from + k → (item_or (fields_with_layout q from fields) k no_field).cell ≡ layout q n
laid_cell q from n [] k less is = absurd (omega (arith, less))
laid_cell q from n (f ∷ fields) zero less is =
    let same : from ≡ n = omega (arith, is) in
    ap (layout q) same
laid_cell q from n (f ∷ fields) (suc k) less is = laid_cell q (suc from) n fields k (omega (arith, less)) (omega (arith, is))

unstatic : (b : Bool) (n : ℕ) → b ≡ false → elim b [ true ↦ 0 | false ↦ n ] ≡ n
unstatic true n is = cc
unstatic false n is = refl

-- a program with other cells of its fields
module _ (q : Program) (fields : List LinkedField) (same : (f : ℕ) → uncelled (item_or fields f no_field) ≡ uncelled (field_at q f)) where
  same_chain : (n : ℕ) (o : Option ℕ) → chain_within (record q { fields = fields }) n o ≡ chain_within q n o
  same_chain zero o = refl
  same_chain (suc n) None = refl
  same_chain (suc n) (Some c) = ap (λ rest. c ∷ rest) (same_chain n (superclass_of q c))

  same_supers : (c : ℕ) → superclasses (record q { fields = fields }) c ≡ superclasses q c
  same_supers c = same_chain (class_count q) (Some c)

  same_static : (f : ℕ) → is_static_field (record q { fields = fields }) f ≡ is_static_field q f
  same_static f = ap (λ (x : LinkedField). has STATIC x.flags) (same f)

  same_instances : (c : ℕ) → instance_fields (record q { fields = fields }) c ≡ instance_fields q c
  same_instances c = λ i. filter (λ f. not (same_static f i)) (fields_of q c)

  same_cells : (cs : List ℕ) → cell_count (record q { fields = fields }) cs ≡ cell_count q cs
  same_cells [] = refl
  same_cells (c ∷ cs) = λ i. length (same_instances c i) + same_cells cs i

  cell_of : (f c : ℕ)
      → cell_count (record q { fields = fields }) (drop 1 (superclasses (record q { fields = fields }) c)) + length (filter (λ g. nat_lt g f) (instance_fields (record q { fields = fields }) c))
      ≡ cell_count q (drop 1 (superclasses q c)) + length (filter (λ g. nat_lt g f) (instance_fields q c))
  cell_of f c =
      let above : cell_count (record q { fields = fields }) (drop 1 (superclasses (record q { fields = fields }) c)) ≡ cell_count q (drop 1 (superclasses q c)) =
      same_cells (drop 1 (superclasses (record q { fields = fields }) c)) ∙ ap (λ cs. cell_count q (drop 1 cs)) (same_supers c) in
      λ i. above i + length (filter (λ g. nat_lt g f) (same_instances c i))

  same_own_cell : (f : ℕ) → own_cell (record q { fields = fields }) f ≡ own_cell q f
  same_own_cell f =
      cell_of f (item_or fields f no_field).class.0
      ∙ ap (λ c. cell_count q (drop 1 (superclasses q c)) + length (filter (λ g. nat_lt g f) (instance_fields q c))) (ap (λ (x : LinkedField). x.class.0) (same f))

-- ---- the program of a folder's classes and others

pub linked_parts : (classes core : List ClassFile) (numbers : List (List ℕ)) (options : List OptionField) (main : List ℕ)
    → AreLinked (program_of classes core numbers options main) options (names_of (classes ++ core)) (classes ++ core)
linked_parts classes core numbers options main = record {
  classes = refl;
  fields = laid_field q 0 own;
  count = laid_count q 0 own;
  cells = λ f few instance.
      let less : f < length own = subst (λ n. f < n) (laid_count q 0 own) few in
      let not_static : is_static_field q f ≡ false = sym (same_static q (fields_with_layout q 0 own) (laid_field q 0 own) f) ∙ instance in
      laid_cell q 0 f own f less (omega arith) ∙ unstatic (is_static_field q f) (own_cell q f) not_static ∙ sym (same_own_cell q (fields_with_layout q 0 own) (laid_field q 0 own) f);
  methods = λ m.
      sym (mapped_item plain methods m no_method)
      ∙ ap (λ ms. item_or ms m no_method)
      (mapped_parts plain (methods_from 0 classes []) (methods_from (length classes) core numbers)
      ∙ (λ i. plain_from 0 classes [] i ++ plain_from (length classes) core numbers i)
      ∙ methods_behind 0 classes core (length classes) (omega arith));
}
  where
    own : List LinkedField
    own = fields_from options 0 (classes ++ core)

    methods : List LinkedMethod
    methods = methods_from 0 classes [] ++ methods_from (length classes) core numbers

    q : Program
    q = program_with (linked_classes (names_of (classes ++ core)) (classes ++ core) 0 0) methods own options main

-- ---- classes by their numbers

pub record IsClassOf (p : Program) (names : List (List ℕ)) (files : List ClassFile) (c : ℕ) : Type 0 where
  pub file : ClassFile
  pub there : slice_get files c ≡ Some file
  pub is : class_at p c ≡ linked_class names file (0 + first_method files c) (0 + first_field files c)

abbrev pub known_class : (p : Program) (options : List OptionField) (names : List (List ℕ)) (files : List ClassFile) → AreLinked p options names files → (c : ℕ) (file : ClassFile)
    → slice_get files c ≡ Some file → IsClassOf p names files c
known_class p options names files are c file there = record {
  file = file;
  there = there;
  is = ap (λ cs. item_or cs c no_class) are.classes ∙ ap (λ o. unwrap_or o no_class) (class_there names files 0 0 c file there);
}

pub is_class : (p : Program) (options : List OptionField) (names : List (List ℕ)) (files : List ClassFile) → AreLinked p options names files → (c : ℕ)
    → IsClassOf p names files c ⊎ (class_at p c ≡ no_class)
is_class p options names files are c = by (slice_get files c) refl
  where
    by : (o : Option ClassFile) → slice_get files c ≡ o → IsClassOf p names files c ⊎ (class_at p c ≡ no_class)
    by None there = inr (ap (λ cs. item_or cs c no_class) are.classes ∙ ap (λ o. unwrap_or o no_class) (class_missing names files 0 0 c there))
    by (Some file) there = inl (known_class p options names files are c file there)

field_numbers : (from n : ℕ) → map (λ f. f.0) (field_ids from n) ≡ range_with_len from n
field_numbers from zero = refl
field_numbers from (suc n) = ap (λ fs. from ∷ fs) (field_numbers (from + 1) n)

method_numbers : (from n : ℕ) → map (λ m. m.0) (method_ids from n) ≡ range_with_len from n
method_numbers from zero = refl
method_numbers from (suc n) = ap (λ ms. from ∷ ms) (method_numbers (from + 1) n)

-- the numbers of a class's fields, and those of its methods
pub fields_in_row : (p : Program) (names : List (List ℕ)) (files : List ClassFile) (c : ℕ) (of : IsClassOf p names files c)
    → fields_of p c ≡ range_with_len (first_field files c) (length of.file.fields)
fields_in_row p names files c of =
    let first : 0 + first_field files c ≡ first_field files c = omega arith in
    ap (λ (x : LinkedClass). map (λ f. f.0) x.fields) of.is ∙ field_numbers (0 + first_field files c) (length of.file.fields) ∙ ap (λ n. range_with_len n (length of.file.fields)) first

pub methods_in_row : (p : Program) (names : List (List ℕ)) (files : List ClassFile) (c : ℕ) (of : IsClassOf p names files c)
    → methods_of p c ≡ range_with_len (first_method files c) (length of.file.methods)
methods_in_row p names files c of =
    let first : 0 + first_method files c ≡ first_method files c = omega arith in
    ap (λ (x : LinkedClass). map (λ m. m.0) x.methods) of.is ∙ method_numbers (0 + first_method files c) (length of.file.methods) ∙ ap (λ n. range_with_len n (length of.file.methods)) first

-- ---- fields by their numbers

-- a field of a class
pub record IsOwnField (p : Program) (options : List OptionField) (names : List (List ℕ)) (files : List ClassFile) (c f : ℕ) : Type 0 where
  pub class : IsClassOf p names files c
  pub own : ℕ
  pub field : Field
  pub there : slice_get class.file.fields own ≡ Some field
  pub number : f ≡ first_field files c + own
  pub within : f < length p.fields
  pub is : uncelled (field_at p f) ≡ linked_field options c class.file field

pub own_field_is : (p : Program) (options : List OptionField) (names : List (List ℕ)) (files : List ClassFile) → AreLinked p options names files → (c : ℕ) (file : ClassFile) (own : ℕ) (field : Field)
    → slice_get files c ≡ Some file → slice_get file.fields own ≡ Some field
    → (first_field files c + own < length p.fields) × (uncelled (field_at p (first_field files c + own)) ≡ linked_field options c file field)
own_field_is p options names files are c file own field file_there there =
    let at = field_there options 0 files c own file field file_there there in
    let same : 0 + c ≡ c = omega arith in (
      subst (λ n. first_field files c + own < n) (sym are.count) (slice_get_within (fields_from options 0 files) (first_field files c + own) (linked_field options (0 + c) file field) at),
      are.fields (first_field files c + own) ∙ ap (λ o. uncelled (unwrap_or o no_field)) at ∙ ap (λ n. linked_field options n file field) same,
    )

own_field : (p : Program) (options : List OptionField) (names : List (List ℕ)) (files : List ClassFile) → AreLinked p options names files → (c : ℕ) (of : IsClassOf p names files c) (own : ℕ) (field : Field)
    → slice_get of.file.fields own ≡ Some field → IsOwnField p options names files c (first_field files c + own)
own_field p options names files are c of own field there =
    let at = own_field_is p options names files are c of.file own field of.there there in
    record { class = of; own = own; field = field; there = there; number = refl; within = at.0; is = at.1 }

-- a number of a class's fields
pub listed_field : (p : Program) (options : List OptionField) (names : List (List ℕ)) (files : List ClassFile) → AreLinked p options names files → (c f : ℕ)
    → is_among f (fields_of p c) ≡ true → IsOwnField p options names files c f
listed_field p options names files are c f among = elim (is_class p options names files are c) [
  | inl of ↦ by of
  | inr none ↦ absurd (nothing (ap (λ (x : LinkedClass). is_among f (map (λ f. f.0) x.fields)) (sym none) ∙ among))
]
  where
    nothing : false ≡ true → ⊥
    nothing wrong = cc

    by : IsClassOf p names files c → IsOwnField p options names files c f
    by of =
        let row = in_row f (first_field files c) (length of.file.fields) (ap (is_among f) (sym (fields_in_row p names files c of)) ∙ among) in
        let low = row.0 in
        let high = row.1 in
        let own : ℕ = f - first_field files c in
        let back : first_field files c + own ≡ f = omega (arith, low) in
        let less : own < length of.file.fields = omega (arith, low, high) in
        let no_own : Field = record { flags = 0; name = 0; descriptor = 0; constant = 0 } in
        subst (λ n. IsOwnField p options names files c n) back (own_field p options names files are c of own (item_or of.file.fields own no_own) (item_there of.file.fields own no_own less))

-- a number of a field
pub any_field : (p : Program) (options : List OptionField) (names : List (List ℕ)) (files : List ClassFile) → AreLinked p options names files → (f : ℕ)
    → f < length p.fields → IsOwnField p options names files (field_at p f).class.0 f
any_field p options names files are f few =
    let less : f < length (fields_from options 0 files) = subst (λ n. f < n) are.count few in
    let at = item_there (fields_from options 0 files) f no_field less in
    let found : IsFieldOf options 0 files f (item_or (fields_from options 0 files) f no_field) = field_found options 0 files f (item_or (fields_from options 0 files) f no_field) at in
    let same : 0 + found.place ≡ found.place = omega arith in
    let class : found.place ≡ (field_at p f).class.0 =
    sym (ap (λ (x : LinkedField). x.class.0) (are.fields f ∙ ap uncelled found.is) ∙ same) in
    subst (λ c. IsOwnField p options names files c f) class
    (subst (λ n. IsOwnField p options names files found.place n) (sym found.at)
    (own_field p options names files are found.place (known_class p options names files are found.place found.file found.file_there) found.own found.field found.field_there))
