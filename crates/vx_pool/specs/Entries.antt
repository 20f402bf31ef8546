-- The checks of the pool's entries.
use Rattle.std.specs.Prelude.{ℕ, List, [], ◌∷◌, ◌++◌, Bool, true, Option, Some, None, Result, is_some, ◌&&◌, ◌||◌}
use Rattle.vx_pool.specs.declared.pool.Entry.{Entry}
use Rattle.vx_pool.specs.declared.pool.Entry.TheVariants as entry
use Rattle.vx_pool.specs.declared.pool.Pool.{Pool}
use Rattle.vx_pool.specs.Reading.{Fault}
use Rattle.vx_pool.specs.Pool.{size}
use Rattle.vx_desc.specs.Names.{is_field_name, is_method_name}
use Rattle.vx_desc.specs.Descriptors.{is_field_descriptor, is_method_descriptor}
use Rattle.vx_pool.specs.Checks.{first_failing, each}
use Rattle.vx_pool.specs.Lookups.{entry_of, is_usable, class, name_and_type, text, member_name, member_descriptor, is_class_text}

-- A text that another entry names is judged where it can be read; where it can't, that entry fails.
abbrev pub where_read : (List ℕ → Bool) → Option (List ℕ) → Bool
where_read test None = true
where_read test (Some t) = test t

abbrev pub usable : Pool → ℕ → Bool
usable pool i = is_usable (entry_of pool i)

-- ---- the checks of an entry in their order, each with its reason

-- an entry that names a text
abbrev pub text_checks : Pool → ℕ → List (Bool × ℕ)
text_checks pool i = (usable pool i, 5) ∷ (is_some (text pool i), 6) ∷ []

-- the first two checks of an entry that names a class and a name and type
abbrev pub kind_checks : Pool → ℕ → ℕ → List (Bool × ℕ)
kind_checks pool c n =
    (usable pool c && usable pool n, 5)
    ∷ (is_some (class (entry_of pool c)) && is_some (name_and_type (entry_of pool n)), 6)
    ∷ []

abbrev pub member_checks : (List ℕ → Bool) → (List ℕ → Bool) → Pool → ℕ → ℕ → List (Bool × ℕ)
member_checks is_name is_descriptor pool c n =
    kind_checks pool c n
    ++ (where_read is_name (member_name pool n), 7)
    ∷ (where_read is_descriptor (member_descriptor pool n), 8)
    ∷ []

abbrev pub checks_of : Pool → Entry → List (Bool × ℕ)
checks_of pool (entry.Class i) = text_checks pool i ++ (where_read is_class_text (text pool i), 7) ∷ []
checks_of pool (entry.Text i) = text_checks pool i
checks_of pool (entry.Field c n) = member_checks is_field_name is_field_descriptor pool c n
checks_of pool (entry.Method c n) = member_checks is_method_name is_method_descriptor pool c n
checks_of pool (entry.InterfaceMethod c n) = member_checks is_method_name is_method_descriptor pool c n
checks_of pool (entry.NameAndType n d) =
    (usable pool n && usable pool d, 5)
    ∷ (is_some (text pool n) && is_some (text pool d), 6)
    ∷ (where_read is_field_name (text pool n), 7)
    ∷ (where_read (λ t. is_field_descriptor t || is_method_descriptor t) (text pool d), 8)
    ∷ []
checks_of pool (entry.MethodHandle kind i) = (usable pool i, 5) ∷ []
checks_of pool (entry.MethodType i) = text_checks pool i ++ (where_read is_method_descriptor (text pool i), 8) ∷ []
checks_of pool (entry.InvokeDynamic b n) = (usable pool n, 5) ∷ []
checks_of pool _ = []

-- the checks of the entries, the first of which stands at a place
abbrev pub entries_checked : Pool → List Entry → ℕ → Result (Unit {0}) Fault
entries_checked pool es at = each (λ e at. first_failing at (checks_of pool e)) size es at
