-- The core classes of a linked program: where they stand, and which fields their objects have.
use Rattle.std.proofs.Common.{Bool, List, None, Some, [], ap, arith, codes, drop, false, filter, inl, inr, length, map, not, option_map, position, refl, slice_get, subst, sym, true, unwrap_or, ℕ, ◌++◌, ◌+◌, ◌<◌, ◌⊎◌, ◌∙◌, ◌∷◌, ◌≡◌, ◌≤◌}
use Prim.Native.String.{String}
use Rattle.std.proofs.lemmas.Bool.{le-ltb, lt-ltb}
use Rattle.std.proofs.lemmas.Bool.Decides.{Decides-eqb}
use Rattle.std.proofs.lemmas.Option.{slice_get-map}
use Rattle.std.specs.List.{range_with_len}
use Rattle.std.specs.Prelude.{bytes_eq, cond, nat_eq, nat_lt}
use Rattle.vx_class.specs.declared.class_file.ClassFile.{ClassFile}
use Rattle.vx_kept_states.proofs.Throwables.{AreRows, behind, goes_up, linked_place, place_behind, place_in, super_of_row, super_place}
use Rattle.vx_link.specs.ClassNames.{class_of_name, core_class, is_array, object_class}
use Rattle.vx_link.specs.CoreTable.{object_class as object_row}
use Rattle.vx_link.specs.Hierarchy.{is_among, superclass_of, superclasses}
use Rattle.vx_link.specs.Linked.{cell_count, instance_fields}
use Rattle.vx_link.specs.Parts.{class_count, field_at, fields_of, is_static_field}
use Rattle.vx_link.specs.Tables.{names_of}
use Rattle.vx_link.specs.Written.{WrittenClass, class_file}
use Rattle.vx_link.specs.declared.program.Program.{Program}
use Rattle.vx_model.specs.declared.model.OptionField.{OptionField}
use Rattle.vx_sound_objects.proofs.Cells.{among_own}
use Rattle.vx_sound_objects.proofs.Chains.{HasChains}
use Rattle.vx_sound_objects.proofs.Parts.{first_field}
use Rattle.vx_sound_objects.proofs.Programs.{AreLinked, IsClassOf, fields_in_row, known_class}
use Rattle.vx_sound_objects.proofs.Rising.{Rises, filter_rises, none_below, row_rises}
use Rattle.vx_types.proofs.Tests.{either}

-- a row of a name and its place
pub record IsRow (rows : List WrittenClass) (name : String) (k : ℕ) (row : WrittenClass) : Type 0 where
  pub at : slice_get rows k ≡ Some row
  pub named : place_in rows (codes name) ≡ Some k

-- the program of a folder's classes and of rows behind them
pub record IsLinked (p : Program) (options : List OptionField) (classes : List ClassFile) (rows : List WrittenClass) : Type 0 where
  pub are : AreLinked p options (names_of (classes ++ map class_file rows)) (classes ++ map class_file rows)
  pub behind : AreRows p classes rows
  pub count : class_count p ≡ length classes + length rows
  pub object : IsRow rows "java/lang/Object" 0 object_row

-- no class from one upward has a field that isn't static
pub record IsBare (p : Program) (d : ℕ) : Type 0 where
  pub none : (f : ℕ) → f < length p.fields → is_among (field_at p f).class.0 (superclasses p d) ≡ true → ⊥
  pub count : cell_count p (superclasses p d) ≡ 0

module _ (p : Program) (options : List OptionField) (classes : List ClassFile) (rows : List WrittenClass) (is : IsLinked p options classes rows) where
  -- ---- where they stand

  pub class_found : (name : String) (k : ℕ) → place_in rows (codes name) ≡ Some k → class_of_name p (codes name) ≡ Some (length classes + k)
  class_found name k at =
      ap (position (λ c. bytes_eq c.name (codes name))) is.behind.linked
      ∙ linked_place (names_of (classes ++ map class_file rows)) (classes ++ map class_file rows) 0 0 (codes name)
      ∙ place_behind p classes rows is.behind (codes name) k at

  pub core_at : (name : String) (k : ℕ) → place_in rows (codes name) ≡ Some k → core_class p name ≡ length classes + k
  core_at name k at = ap (λ o. unwrap_or o 0) (class_found name k at)

  pub row_there : (k : ℕ) (row : WrittenClass) → slice_get rows k ≡ Some row → slice_get (classes ++ map class_file rows) (length classes + k) ≡ Some (class_file row)
  row_there k row at = behind classes (map class_file rows) (length classes + k) k refl ∙ slice_get-map class_file rows k ∙ ap (option_map class_file) at

  abbrev row_class : (k : ℕ) (row : WrittenClass) → slice_get rows k ≡ Some row → IsClassOf p (names_of (classes ++ map class_file rows)) (classes ++ map class_file rows) (length classes + k)
  row_class k row at = known_class p options (names_of (classes ++ map class_file rows)) (classes ++ map class_file rows) is.are (length classes + k) (class_file row) (row_there k row at)

  pub row_fields : (k : ℕ) (row : WrittenClass) → slice_get rows k ≡ Some row
      → fields_of p (length classes + k) ≡ range_with_len (first_field (classes ++ map class_file rows) (length classes + k)) (length (class_file row).fields)
  row_fields k row at = fields_in_row p (names_of (classes ++ map class_file rows)) (classes ++ map class_file rows) (length classes + k) (row_class k row at)

  pub no_array : (k : ℕ) → k < length rows → is_array p (length classes + k) ≡ false
  no_array k less = let count = is.count in ap not (lt-ltb (length classes + k) (class_count p) (omega (arith, less, count)))

  -- ---- Object

  object_place : object_class p ≡ length classes + 0
  object_place = core_at "java/lang/Object" 0 is.object.named

  pub object_fields : fields_of p (object_class p) ≡ []
  object_fields = ap (fields_of p) object_place ∙ row_fields 0 object_row is.object.at

  pub object_alone : superclass_of p (object_class p) ≡ None
  object_alone = ap (superclass_of p) object_place ∙ super_of_row p classes rows is.behind 0 object_row is.object.at

  module _ (chains : HasChains p) where
    -- ---- classes with no fields

    not_own : (c f : ℕ) → fields_of p c ≡ [] → f < length p.fields → (field_at p f).class.0 ≡ c → ⊥
    not_own c f empty few class =
        wrong (sym (ap (is_among f) (ap (fields_of p) class ∙ empty)) ∙ among_own p options (names_of (classes ++ map class_file rows)) (classes ++ map class_file rows) is.are chains f few)
      where
        wrong : false ≡ true → ⊥
        wrong e = cc

    no_instances : (c : ℕ) → fields_of p c ≡ [] → length (instance_fields p c) ≡ 0
    no_instances c empty = ap (λ fs. length (filter (λ f. not (is_static_field p f)) fs)) empty

    object_bare : IsBare p (object_class p)
    object_bare = record {
      none = λ f few among. one f few (either (nat_eq (field_at p f).class.0 (object_class p)) false (ap (is_among (field_at p f).class.0) (sym (chains.alone (object_class p) object_alone)) ∙ among));
      count =
          let none : length (instance_fields p (object_class p)) ≡ 0 = no_instances (object_class p) object_fields in
          ap (cell_count p) (chains.alone (object_class p) object_alone) ∙ omega (arith, none);
    }
      where
        one : (f : ℕ) → f < length p.fields → ((nat_eq (field_at p f).class.0 (object_class p) ≡ true) ⊎ (false ≡ true)) → ⊥
        one f few (inl same) = not_own (object_class p) f object_fields few ((Decides-eqb (field_at p f).class.0 (object_class p)).0 same)
        one f few (inr wrong) = cc

    bare_above : (c d : ℕ) → superclass_of p c ≡ Some d → fields_of p c ≡ [] → IsBare p d → IsBare p c
    bare_above c d up empty bare = record {
      none = λ f few among. one f few (either (nat_eq (field_at p f).class.0 c) (is_among (field_at p f).class.0 (superclasses p d)) (ap (is_among (field_at p f).class.0) (sym (chains.step c d up)) ∙ among));
      count =
          let none : length (instance_fields p c) ≡ 0 = no_instances c empty in
          let above : cell_count p (superclasses p d) ≡ 0 = bare.count in
          ap (cell_count p) (chains.step c d up) ∙ omega (arith, none, above);
    }
      where
        one : (f : ℕ) → f < length p.fields → ((nat_eq (field_at p f).class.0 c ≡ true) ⊎ (is_among (field_at p f).class.0 (superclasses p d) ≡ true)) → ⊥
        one f few (inl same) = not_own c f empty few ((Decides-eqb (field_at p f).class.0 c).0 same)
        one f few (inr above) = bare.none f few above

    pub bare_object : IsBare p (length classes + 0)
    bare_object = subst (IsBare p) object_place object_bare

    pub bare_row : (k above : ℕ) (row : WrittenClass) → slice_get rows k ≡ Some row → super_place rows k ≡ Some above → length (class_file row).fields ≡ 0
        → IsBare p (length classes + above) → IsBare p (length classes + k)
    bare_row k above row at up empty bare =
        bare_above (length classes + k) (length classes + above) (goes_up p classes rows is.behind k above up)
        (row_fields k row at ∙ ap (range_with_len (first_field (classes ++ map class_file rows) (length classes + k))) empty) bare

    -- ---- classes above which no class has fields

    -- the fields of such an object are those of its class
    pub own_alone : (k above f : ℕ) → super_place rows k ≡ Some above → IsBare p (length classes + above) → f < length p.fields
        → is_among (field_at p f).class.0 (superclasses p (length classes + k)) ≡ true → (field_at p f).class.0 ≡ length classes + k
    own_alone k above f up bare few among =
        one (either (nat_eq (field_at p f).class.0 (length classes + k)) (is_among (field_at p f).class.0 (superclasses p (length classes + above)))
        (ap (is_among (field_at p f).class.0) (sym (chains.step (length classes + k) (length classes + above) (goes_up p classes rows is.behind k above up))) ∙ among))
      where
        one : ((nat_eq (field_at p f).class.0 (length classes + k) ≡ true) ⊎ (is_among (field_at p f).class.0 (superclasses p (length classes + above)) ≡ true)) → (field_at p f).class.0 ≡ length classes + k
        one (inl same) = (Decides-eqb (field_at p f).class.0 (length classes + k)).0 same
        one (inr higher) = absurd (bare.none f few higher)

    -- their cells begin at 0
    own_cells : (k above f : ℕ) → super_place rows k ≡ Some above → IsBare p (length classes + above) → f < length p.fields → is_static_field p f ≡ false
        → (field_at p f).class.0 ≡ length classes + k
        → (field_at p f).cell ≡ length (filter (λ g. nat_lt g f) (instance_fields p (length classes + k)))
    own_cells k above f up bare few instance class =
        let none : cell_count p (superclasses p (length classes + above)) ≡ 0 = bare.count in
        is.are.cells f few instance
        ∙ ap (λ c. cell_count p (drop 1 (superclasses p c)) + length (filter (λ g. nat_lt g f) (instance_fields p c))) class
        ∙ ap (λ cs. cell_count p (drop 1 cs) + length (filter (λ g. nat_lt g f) (instance_fields p (length classes + k))))
        (chains.step (length classes + k) (length classes + above) (goes_up p classes rows is.behind k above up))
        ∙ omega (arith, none)

    -- the first field of a row
    pub first_cell : (k above : ℕ) (row : WrittenClass) → slice_get rows k ≡ Some row → super_place rows k ≡ Some above → IsBare p (length classes + above)
        → (f : ℕ) → f ≤ first_field (classes ++ map class_file rows) (length classes + k) → f < length p.fields → is_static_field p f ≡ false → (field_at p f).class.0 ≡ length classes + k
        → (field_at p f).cell ≡ 0
    first_cell k above row at up bare f first few instance class =
        own_cells k above f up bare few instance class
        ∙ ap length
        (none_below f (first_field (classes ++ map class_file rows) (length classes + k)) (instance_fields p (length classes + k)) first
        (filter_rises (λ f. not (is_static_field p f)) (first_field (classes ++ map class_file rows) (length classes + k)) (fields_of p (length classes + k))
        (subst (Rises (first_field (classes ++ map class_file rows) (length classes + k))) (sym (row_fields k row at))
        (row_rises (first_field (classes ++ map class_file rows) (length classes + k)) (length (class_file row).fields)))))

    -- the second of two
    pub second_cell : (k above : ℕ) (row : WrittenClass) → slice_get rows k ≡ Some row → super_place rows k ≡ Some above → IsBare p (length classes + above)
        → length (class_file row).fields ≡ 2
        → (first f : ℕ) → first ≡ first_field (classes ++ map class_file rows) (length classes + k) → f ≡ first + 1 → f < length p.fields
        → is_static_field p first ≡ false → is_static_field p f ≡ false → (field_at p f).class.0 ≡ length classes + k
        → (field_at p f).cell ≡ 1
    second_cell k above row at up bare two first f is_first is_second few instance_first instance class =
        own_cells k above f up bare few instance class
        ∙ ap (λ fs. length (filter (λ g. nat_lt g f) (filter (λ f. not (is_static_field p f)) fs)))
        (row_fields k row at ∙ ap (range_with_len (first_field (classes ++ map class_file rows) (length classes + k))) two
        ∙ ap (λ n. n ∷ (n + 1) ∷ []) (sym is_first) ∙ ap (λ n. first ∷ n ∷ []) (sym is_second))
        ∙ counted
      where
        below : nat_lt first f ≡ true
        below = lt-ltb first f (omega (arith, is_second))

        itself : nat_lt f f ≡ false
        itself = le-ltb f f (omega arith)

        kept : (a b : Bool) → ℕ
        kept a b = length (filter (λ g. nat_lt g f) (cond (not a) (first ∷ cond (not b) (f ∷ []) []) (cond (not b) (f ∷ []) [])))

        counted : length (filter (λ g. nat_lt g f) (filter (λ f. not (is_static_field p f)) (first ∷ f ∷ []))) ≡ 1
        counted =
            ap (λ a. kept a (is_static_field p f)) instance_first ∙ ap (kept false) instance
            ∙ ap (λ b. length (cond b (first ∷ cond (nat_lt f f) (f ∷ []) []) (cond (nat_lt f f) (f ∷ []) []))) below
            ∙ ap (λ b. length (first ∷ cond b (f ∷ []) [])) itself
