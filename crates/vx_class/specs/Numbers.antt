-- Numbers of the texts of a pool: two texts are the same where their numbers are.
use Rattle.std.specs.Prelude.{ℕ, ◌-◌, List, [], map, length, fold, get_or, Bool, nat_eq, ◌&&◌, Option, Some, None}
use Rattle.vx_names.specs.Names.{place_of, with_name}
use Rattle.vx_pool.specs.declared.pool.Entry.{Entry}
use Rattle.vx_pool.specs.declared.pool.Pool.{Pool}
use Rattle.vx_pool.specs.Lookups.{utf8}
use Rattle.vx_class.specs.declared.class_file.Field.{Field}
use Rattle.vx_class.specs.declared.class_file.Method.{Method}

-- the texts with one more behind them, unless it is there
abbrev pub with_text : List (List ℕ) → Option (List ℕ) → List (List ℕ)
with_text names None = names
with_text names (Some t) = with_name names t

abbrev pub with_entry : List (List ℕ) → Entry → List (List ℕ)
with_entry names e = with_text names (utf8 (Some e))

-- the texts of a pool, each once
unfoldable pub names_of : List Entry → List (List ℕ)
names_of entries = fold with_entry [] entries

-- how many texts stand from a place on
abbrev pub from_place : ℕ → Option ℕ → ℕ
from_place count None = 0
from_place count (Some place) = count - place

-- the number of a text among others that have it; what is no text has the number 0
abbrev pub number_in : List (List ℕ) → Option (List ℕ) → ℕ
number_in names None = 0
number_in names (Some t) = from_place (length names) (place_of names t)

abbrev pub entry_number : List (List ℕ) → Entry → ℕ
entry_number names e = number_in names (utf8 (Some e))

-- the numbers of the texts of a pool
abbrev pub numbers_of : Pool → List ℕ
numbers_of pool = map (entry_number (names_of pool.entries)) pool.entries

-- ---- members by the numbers of their names and descriptors

abbrev pub key_of : List ℕ → ℕ → ℕ → ℕ × ℕ
key_of numbers name descriptor = (get_or numbers name 0, get_or numbers descriptor 0)

abbrev pub same_key : ℕ × ℕ → ℕ × ℕ → Bool
same_key a b = nat_eq a.0 b.0 && nat_eq a.1 b.1

abbrev pub field_key : List ℕ → Field → ℕ × ℕ
field_key numbers f = key_of numbers f.name f.descriptor

abbrev pub method_key : List ℕ → Method → ℕ × ℕ
method_key numbers m = key_of numbers m.name m.descriptor
