-- The pool of an assembled class: its constants in the order in which they are first needed, each once. An entry stands before those that it refers to.
use Rattle.std.specs.Prelude.{◌≡◌, ℕ, ◌<◌, FitsSigned, ◌+◌, ◌%◌, List, [], ◌∷◌, ◌++◌, length, sum_by, Bool, true, false, nat_lt, ◌&&◌, Option, Some, None, if◌then◌else◌}
use Rattle.std.specs.List.{list_any, flat_map}
use Rattle.std.specs.Int.{w32, w64}
use Rattle.std.specs.Str.{bytes_eq}
use Rattle.std.specs.Ordering.{int_eq}
use Rattle.vx_pool.specs.declared.pool.Entry.{Entry}
use Rattle.vx_pool.specs.declared.pool.Entry.TheVariants as entry
use Rattle.vx_pool.specs.declared.pool.Pool.{Pool}
use Rattle.vx_pool.specs.Text.{is_text}
use Rattle.vx_class_parts.specs.declared.constants.Constant.{Constant}
use Rattle.vx_class_parts.specs.declared.constants.Constant.TheVariants as constant
use Rattle.vx_class_parts.specs.declared.constants.Kind.{Kind}
use Rattle.vx_class_parts.specs.declared.constants.Kind.TheVariants as kind

abbrev pub is_same_kind : Kind → Kind → Bool
is_same_kind kind.Field kind.Field = true
is_same_kind kind.Method kind.Method = true
is_same_kind kind.InterfaceMethod kind.InterfaceMethod = true
is_same_kind _ _ = false

-- whether two constants are one
abbrev pub is_same : Constant → Constant → Bool
is_same (constant.Text a) (constant.Text b) = bytes_eq a b
is_same (constant.Integer a) (constant.Integer b) = int_eq a b
is_same (constant.Long a) (constant.Long b) = int_eq a b
is_same (constant.Class a) (constant.Class b) = bytes_eq a b
is_same (constant.Literal a) (constant.Literal b) = bytes_eq a b
is_same (constant.NameAndType a b) (constant.NameAndType c d) = bytes_eq a c && bytes_eq b d
is_same (constant.Member k a b c) (constant.Member l d e f) = is_same_kind k l && bytes_eq a d && bytes_eq b e && bytes_eq c f
is_same _ _ = false

-- a constant behind the others, unless it is there
unfoldable pub with : List Constant → Constant → List Constant
with pool c = if list_any (is_same c) pool then pool else pool ++ c ∷ []

-- ---- what each constant refers to

abbrev pub with_text : List Constant → List ℕ → List Constant
with_text pool text = with pool (constant.Text text)

abbrev pub with_class : List Constant → List ℕ → List Constant
with_class pool name = with_text (with pool (constant.Class name)) name

abbrev pub with_literal : List Constant → List ℕ → List Constant
with_literal pool text = with_text (with pool (constant.Literal text)) text

abbrev pub with_name_and_type : List Constant → List ℕ → List ℕ → List Constant
with_name_and_type pool name descriptor = with_text (with_text (with pool (constant.NameAndType name descriptor)) name) descriptor

abbrev pub with_member : List Constant → Kind → List ℕ → List ℕ → List ℕ → List Constant
with_member pool k class name descriptor = with_name_and_type (with_class (with pool (constant.Member k class name descriptor)) class) name descriptor

-- the pool with a constant and all that it refers to
abbrev pub with_constant : List Constant → Constant → List Constant
with_constant pool (constant.Text text) = with_text pool text
with_constant pool (constant.Integer n) = with pool (constant.Integer n)
with_constant pool (constant.Long n) = with pool (constant.Long n)
with_constant pool (constant.Class name) = with_class pool name
with_constant pool (constant.Literal text) = with_literal pool text
with_constant pool (constant.NameAndType name descriptor) = with_name_and_type pool name descriptor
with_constant pool (constant.Member k class name descriptor) = with_member pool k class name descriptor

-- ---- indices

-- a long takes two places
abbrev pub width : Constant → ℕ
width (constant.Long n) = 2
width _ = 1

-- the index of a constant that is there, where the first one has an index
abbrev pub index_from : ℕ → Constant → List Constant → ℕ
index_from i c [] = i
index_from i c (x ∷ xs) = if is_same c x then i else index_from (i + width x) c xs

unfoldable pub index_of : List Constant → Constant → ℕ
index_of pool c = index_from 1 c pool

-- how many places the pool has, place 0 among them
abbrev pub places : List Constant → ℕ
places pool = 1 + sum_by width pool

-- an index as it stands in the file, by its lowest two bytes
abbrev pub in_file : List Constant → Constant → ℕ
in_file pool c = index_of pool c % 65536

-- the same of a constant that may be absent: 0 stands for none
abbrev pub in_file_or_zero : List Constant → Option Constant → ℕ
in_file_or_zero pool None = 0
in_file_or_zero pool (Some c) = in_file pool c

-- ---- entries

abbrev pub text_entry : List ℕ → Entry
text_entry text = if nat_lt (length text) 65536 then entry.Utf8 text else entry.Unusable

abbrev pub member_entry : Kind → ℕ → ℕ → Entry
member_entry kind.Field i j = entry.Field i j
member_entry kind.Method i j = entry.Method i j
member_entry kind.InterfaceMethod i j = entry.InterfaceMethod i j

abbrev pub entry_of : List Constant → Constant → Entry
entry_of pool (constant.Text text) = text_entry text
entry_of pool (constant.Integer n) = entry.Integer n
entry_of pool (constant.Long n) = entry.Long n
entry_of pool (constant.Class name) = entry.Class (in_file pool (constant.Text name))
entry_of pool (constant.Literal text) = entry.Text (in_file pool (constant.Text text))
entry_of pool (constant.NameAndType name descriptor) = entry.NameAndType (in_file pool (constant.Text name)) (in_file pool (constant.Text descriptor))
entry_of pool (constant.Member k class name descriptor) = member_entry k (in_file pool (constant.Class class)) (in_file pool (constant.NameAndType name descriptor))

-- the places of a constant
abbrev pub entries_of : List Constant → Constant → List Entry
entries_of pool c = if nat_lt 1 (width c) then entry_of pool c ∷ entry.Unusable ∷ [] else entry_of pool c ∷ []

-- a constant that an entry can say: its text is modified UTF-8 of at most 65,535 bytes, its number has 32 or 64 bits
abbrev pub HasRoom : Constant → Type 0
HasRoom (constant.Text text) = (is_text text ≡ true) × (length text < 65536)
HasRoom (constant.Integer n) = FitsSigned w32 n
HasRoom (constant.Long n) = FitsSigned w64 n
HasRoom _ = Unit {0}

abbrev pub pool_of : List Constant → Pool
pool_of pool = record { entries = entry.Unusable ∷ flat_map (entries_of pool) pool }
