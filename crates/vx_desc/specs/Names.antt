-- Names of classes and members, as bytes.
use Rattle.std.specs.Prelude.{ℕ, List, [], ◌∷◌, length, Bool, true, false, not, ◌==◌, ◌&&◌, ◌||◌, if◌then◌else◌, codes}
use Rattle.std.specs.List.{list_all}
use Rattle.std.specs.Str.{bytes_eq}

-- the texts <init> and <clinit>
abbrev pub is_init : List ℕ → Bool
is_init name = bytes_eq name (codes "<init>")

abbrev pub is_clinit : List ℕ → Bool
is_clinit name = bytes_eq name (codes "<clinit>")

-- no byte of an unqualified name is one of . ; [ /
abbrev pub is_unqualified_byte : ℕ → Bool
is_unqualified_byte b = not ((b == 46 || b == 59) || (b == 91 || b == 47))

-- unqualified names with a / between them; part says whether the last one has begun
abbrev pub is_class_name_from : Bool → List ℕ → Bool
is_class_name_from part [] = part
is_class_name_from part (b ∷ bs) = if b == 47 then part && is_class_name_from false bs else is_unqualified_byte b && is_class_name_from true bs

unfoldable pub is_class_name : List ℕ → Bool
is_class_name name = is_class_name_from false name

-- an unqualified name: the name of a field
unfoldable pub is_field_name : List ℕ → Bool
is_field_name name = not (length name == 0) && list_all is_unqualified_byte name

-- neither < nor >
abbrev pub is_plain_byte : ℕ → Bool
is_plain_byte b = is_unqualified_byte b && not (b == 60 || b == 62)

-- < and > stand only in the two names of initialisers
unfoldable pub is_method_name : List ℕ → Bool
is_method_name name =
    is_init name || is_clinit name
    || (not (length name == 0) && list_all is_plain_byte name)
