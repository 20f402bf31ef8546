-- Words of the inner contracts of linking: what tables hold for each class and each field of a program.
use Rattle.std.specs.List.{range_with_len}
use Rattle.std.specs.Prelude.{Bool, List, None, Option, [], bytes_eq, drop, filter, find, if◌then◌else◌, length, map, nat_eq, nat_lt, not, option_map, slice_get, suc, true, zero, ℕ, ◌&&◌, ◌+◌, ◌-◌, ◌∷◌}
use Rattle.vx_link.specs.Hierarchy.{chain_within}
use Rattle.vx_link.specs.Linked.{cell_count, instance_fields, is_main_method, layout}
use Rattle.vx_link.specs.Parts.{class_count, is_static_field}
use Rattle.vx_link.specs.declared.program.LinkedClass.{LinkedClass}
use Rattle.vx_link.specs.declared.program.LinkedField.{LinkedField}
use Rattle.vx_link.specs.declared.program.LinkedMethod.{LinkedMethod}
use Rattle.vx_link.specs.declared.program.Program.{Program}
use Rattle.vx_list.specs.Places.{item_or}
use Rattle.vx_value.specs.declared.ids.FieldId.{FieldId}

-- the instance fields that a class declares
abbrev pub instance_fields_in : Program → LinkedClass → List ℕ
instance_fields_in p c = filter (λ f. not (is_static_field p f)) (map (λ f. f.0) c.fields)

-- for each class how many instance fields it declares
abbrev pub instance_counts : Program → List ℕ
instance_counts p = map (λ c. length (instance_fields_in p c)) p.classes

-- for each class how many instance fields its superclasses declare
abbrev pub cells_above : Program → List ℕ
cells_above p =
    map (λ c. cell_count p (chain_within p (class_count p - 1) (option_map (λ s. s.0) c.superclass))) p.classes

-- how many instance fields of a class stand before a field
abbrev pub fields_before : Program → (class field : ℕ) → ℕ
fields_before p class field = length (filter (λ g. nat_lt g field) (instance_fields p class))

-- how many instance fields stand among the first so many fields of a program
abbrev pub instances_before : Program → ℕ → ℕ
instances_before p zero = 0
instances_before p (suc n) = instances_before p n + (if not (is_static_field p n) then 1 else 0)

-- the same for each number of fields
abbrev pub running_counts : Program → List ℕ
running_counts p = map (instances_before p) (range_with_len 0 (length p.fields + 1))

-- numbers that follow one another from a number on
abbrev pub are_run : ℕ → List ℕ → Bool
are_run first [] = true
are_run first (n ∷ ns) = nat_eq n first && are_run (suc first) ns

-- numbers that follow one another from the first on
abbrev pub is_run : List FieldId → Bool
is_run fields = are_run (item_or (map (λ f. f.0) fields) 0 0) (map (λ f. f.0) fields)

-- for each class whether its fields' numbers follow one another
abbrev pub runs : Program → List Bool
runs p = map (λ c. is_run c.fields) p.classes

-- the cells of all fields
abbrev pub all_cells : Program → List ℕ
all_cells p = map (layout p) (range_with_len 0 (length p.fields))

abbrev pub with_cells : List LinkedField → List ℕ → List LinkedField
with_cells [] cells = []
with_cells (f ∷ fields) cells = record f { cell = item_or cells 0 0 } ∷ with_cells fields (drop 1 cells)

-- main of a class, if it has the name
abbrev pub main_in : List LinkedMethod → LinkedClass → (main : List ℕ) → Option ℕ
main_in methods c main =
    if bytes_eq c.name main
    then find (λ m. is_main_method (slice_get methods m)) (map (λ m. m.0) c.methods)
    else None
