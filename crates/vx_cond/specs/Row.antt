-- A list of conditional values of one scope.
use Rattle.std.specs.Prelude.{◌≡◌, Bool, true, List, [], ◌∷◌, map, Option, None, if◌then◌else◌}
use Rattle.std.specs.List.{flat_map}
use Rattle.std.specs.Option.{option_or}
use Rattle.std.specs.declared.cmp.Ordering.{Ordering}
use Rattle.vx_space.specs.Sets.{Sets}
use Rattle.vx_cond.specs.Cond.{Conditional, cond_at, cond_ids, IsCond}

-- a `Row` as contracts see it
pub record Conditionals (T S I : Type 0) : Type 0 where
  pub scope : I
  pub conds : List (Conditional T S I)

-- each is a Cond over this space, and has this scope
abbrev pub AreConds : {T S I : Type 0} → (T → T → Ordering) → Sets I → I → List (Conditional T S I) → Type 0
AreConds cmp sets scope [] = Unit {0}
AreConds cmp sets scope (cond ∷ conds) = IsCond cmp sets cond × (cond.scope ≡ scope) × AreConds cmp sets scope conds

pub record RowFacts {T S I : Type 0} (cmp : T → T → Ordering) (sets : Sets I) (row : Conditionals T S I) : Type 0 where
  pub scope_known : sets.is_known row.scope ≡ true
  pub conds : AreConds cmp sets row.scope row.conds

unfoldable pub IsRow : {T S I : Type 0} → (T → T → Ordering) → Sets I → Conditionals T S I → Type 0
IsRow cmp sets row = RowFacts cmp sets row

-- the values at a configuration
abbrev pub conds_at : {T S I : Type 0} → Sets I → List (Conditional T S I) → List Bool → List (Option T)
conds_at sets conds c = map (λ cond. cond_at sets cond c) conds

abbrev pub row_at : {T S I : Type 0} → Sets I → Conditionals T S I → List Bool → List (Option T)
row_at sets row c = conds_at sets row.conds c

-- the ids held
abbrev pub row_ids : {T S I : Type 0} → Conditionals T S I → List I
row_ids row = row.scope ∷ flat_map cond_ids row.conds

-- the row has these values at each configuration
pub record RowOfFacts {T S I : Type 0} (cmp : T → T → Ordering) (sets : Sets I) (values : List Bool → List (Option T)) (row : Conditionals T S I) : Type 0 where
  pub is_row : IsRow cmp sets row
  pub at : (c : List Bool) → conds_at sets row.conds c ≡ values c

unfoldable pub IsRowOf : {T S I : Type 0} → (T → T → Ordering) → Sets I → (List Bool → List (Option T)) → Conditionals T S I → Type 0
IsRowOf cmp sets values row = RowOfFacts cmp sets values row

-- values inside a condition, and none outside
abbrev pub values_within : {T I : Type 0} → Sets I → I → (List Bool → List (Option T)) → List Bool → List (Option T)
values_within sets condition values c = map (λ o. if sets.test condition c then o else None) (values c)

-- two lists as one
abbrev pub zip_with : {A B C : Type 0} → (A → B → C) → List A → List B → List C
zip_with f [] ys = []
zip_with f (x ∷ xs) [] = []
zip_with f (x ∷ xs) (y ∷ ys) = f x y ∷ zip_with f xs ys

-- at each place the first value where there is one, else the second
abbrev pub firsts_of : {T : Type 0} → (List Bool → List (Option T)) → (List Bool → List (Option T)) → List Bool → List (Option T)
firsts_of first second c = zip_with option_or (first c) (second c)
