-- What an index of the pool names.
use Rattle.std.specs.Prelude.{ℕ, List, Bool, true, false, Option, Some, None, option_and_then, ◌==◌, slice_index, if◌then◌else◌}
use Rattle.std.specs.List.{slice_get}
use Rattle.vx_pool.specs.declared.pool.Entry.{Entry}
use Rattle.vx_pool.specs.declared.pool.Entry.TheVariants as entry
use Rattle.vx_pool.specs.declared.pool.Pool.{Pool}
use Rattle.vx_desc.specs.Names.{is_class_name}
use Rattle.vx_desc.specs.Descriptors.{is_field_descriptor}

-- the entry of an index, if the pool has it
abbrev pub entry_of : Pool → ℕ → Option Entry
entry_of pool i = slice_get pool.entries i

abbrev pub is_usable : Option Entry → Bool
is_usable None = false
is_usable (Some entry.Unusable) = false
is_usable _ = true

-- ---- what an entry is, if it is of that kind

abbrev pub utf8 : Option Entry → Option (List ℕ)
utf8 (Some (entry.Utf8 text)) = Some text
utf8 _ = None

abbrev pub class : Option Entry → Option ℕ
class (Some (entry.Class i)) = Some i
class _ = None

abbrev pub name_and_type : Option Entry → Option (ℕ × ℕ)
name_and_type (Some (entry.NameAndType n d)) = Some (n, d)
name_and_type _ = None

abbrev pub is_field : Option Entry → Bool
is_field (Some (entry.Field c n)) = true
is_field _ = false

abbrev pub is_method : Option Entry → Bool
is_method (Some (entry.Method c n)) = true
is_method _ = false

abbrev pub is_interface_method : Option Entry → Bool
is_interface_method (Some (entry.InterfaceMethod c n)) = true
is_interface_method _ = false

abbrev pub is_invoke_dynamic : Option Entry → Bool
is_invoke_dynamic (Some (entry.InvokeDynamic b n)) = true
is_invoke_dynamic _ = false

-- ---- texts, where the entries are of the kinds that they should be

abbrev pub text : Pool → ℕ → Option (List ℕ)
text pool i = utf8 (entry_of pool i)

abbrev pub class_text : Pool → ℕ → Option (List ℕ)
class_text pool i = option_and_then (text pool) (class (entry_of pool i))

-- the name and the descriptor that a name and type names
abbrev pub member_name : Pool → ℕ → Option (List ℕ)
member_name pool i = option_and_then (λ p. text pool p.0) (name_and_type (entry_of pool i))

abbrev pub member_descriptor : Pool → ℕ → Option (List ℕ)
member_descriptor pool i = option_and_then (λ p. text pool p.1) (name_and_type (entry_of pool i))

-- ---- lawful texts

abbrev pub is_array : List ℕ → Bool
is_array name = slice_index name 0 == 91

-- the name of a class, or the descriptor of an array
abbrev pub is_class_text : List ℕ → Bool
is_class_text name = if is_array name then is_field_descriptor name else is_class_name name
