-- The objects with which every heap begins (JVMS 5.1, 5.3), and the values that fields and cells begin with (JVMS 2.3, 2.4, 4.7.2).
use Rattle.std.specs.List.{filter_map, list_any}
use Rattle.std.specs.Prelude.{Bool, List, None, Option, Some, [], bytes_eq, false, flat_map, length, map, nat_lt, negsuc, pos, position, suc, true, unwrap_or, zero, ℕ, ℤ, ◌%◌, ◌*◌, ◌++◌, ◌+◌, ◌-ℤ◌, ◌==◌, ◌∷◌}
use Prim.Native.String.{String}
use Rattle.vx_pool.specs.Lookups.{entry_of}
use Rattle.vx_desc.specs.Descriptors.{field_type}
use Rattle.vx_desc.specs.declared.java_type.Base.{Base}
use Rattle.vx_desc.specs.declared.java_type.JavaType.{JavaType}
use Rattle.vx_java.specs.Machine.{Int, Long, Null, Object, Ref, Text, Top, Value}
use Rattle.vx_link.specs.ClassNames.{array_class, class_element, core_class}
use Rattle.vx_link.specs.Hierarchy.{superclasses}
use Rattle.vx_link.specs.Linked.{instance_fields}
use Rattle.vx_link.specs.Names.{utf8}
use Rattle.vx_link.specs.Parts.{class_at, field_at}
use Rattle.vx_link.specs.declared.program.LinkedField.{LinkedField}
use Rattle.vx_link.specs.declared.program.Program.{Program}
use Rattle.vx_pool.specs.declared.pool.Entry.{Entry}
use Rattle.vx_pool.specs.declared.pool.Pool.{Pool}
use Rattle.vx_value.specs.Arithmetic.{narrow_of, natural}
use Rattle.vx_value.specs.declared.operation.Narrow.{Narrow}
use Rattle.vx_value.specs.declared.operation.Narrow.TheVariants.{Byte, Char, Short, Bool as BoolOf}
use Rattle.vx_desc.specs.declared.java_type.Base.TheVariants.{Bool as BoolBase, Byte as ByteBase, Char as CharBase, Double, Float, Long as LongBase, Short as ShortBase, Class}
use Rattle.vx_pool.specs.declared.pool.Entry.TheVariants.{Integer, Long as LongEntry, Class as ClassEntry, Text as TextEntry}

-- ---- texts

-- a UTF-16 unit of two bytes and one of three in modified UTF-8 (JVMS 4.4.7)
abbrev pub unit_of_two : ℕ → ℕ → ℕ
unit_of_two a b = (a % 0x20) * 0x40 + b % 0x40

abbrev pub unit_of_three : ℕ → ℕ → ℕ → ℕ
unit_of_three a b c = (a % 0x10) * 0x1000 + (b % 0x40) * 0x40 + c % 0x40

-- the UTF-16 units of a text in modified UTF-8, whose form a reader has checked
abbrev pub units_of : List ℕ → List ℕ
units_of [] = []
units_of (a ∷ []) = a ∷ []
units_of (a ∷ b ∷ []) = elim (nat_lt a 0x80) [ true ↦ a ∷ b ∷ [] | false ↦ unit_of_two a b ∷ [] ]
units_of (a ∷ b ∷ c ∷ rest) =
    elim (nat_lt a 0x80) [
      | true ↦ a ∷ units_of (b ∷ c ∷ rest)
      | false ↦ elim (nat_lt a 0xe0) [
        | true ↦ unit_of_two a b ∷ units_of (c ∷ rest)
        | false ↦ unit_of_three a b c ∷ units_of rest
      ]
    ]

-- ---- defaults

-- the value with which a field or an element of a type begins; a float or a double is never read
abbrev pub default_of_base : Base → Value
default_of_base Float = Top
default_of_base Double = Top
default_of_base LongBase = Long (pos 0)
default_of_base Class = Null
default_of_base _ = Int (pos 0)

abbrev pub default_of : JavaType → Value
default_of t = elim (t.dimensions == 0) [ true ↦ default_of_base t.base | false ↦ Null ]

-- a field's type that no class file can write is that of a text cell, which begins empty
abbrev pub default_of_field : Option JavaType → Value
default_of_field (Some t) = default_of t
default_of_field None = Text []

abbrev pub field_default : LinkedField → Value
field_default f = default_of_field (field_type f.descriptor)

-- ---- narrowing

-- what a store to a field of a type narrows an int to
abbrev pub narrow_of_base : Base → Option Narrow
narrow_of_base ByteBase = Some Byte
narrow_of_base CharBase = Some Char
narrow_of_base ShortBase = Some Short
narrow_of_base BoolBase = Some BoolOf
narrow_of_base _ = None

abbrev pub narrow_of_type : JavaType → Option Narrow
narrow_of_type t = elim (t.dimensions == 0) [ true ↦ narrow_of_base t.base | false ↦ None ]

abbrev pub narrowed_value_to : Option Narrow → Value → Value
narrowed_value_to (Some narrow) (Int n) = Int (narrow_of narrow n)
narrowed_value_to _ v = v

-- the value of a store to a field of a type
abbrev pub narrowed_value : JavaType → Value → Value
narrowed_value t v = narrowed_value_to (narrow_of_type t) v

-- ---- objects

-- the cells with which an object of a class begins: one per instance field of its class and superclasses, from Object down
abbrev pub own_cells : Program → ℕ → List Value
own_cells p c = map (λ f. field_default (field_at p f)) (instance_fields p c)

abbrev pub cells_of_chain : Program → List ℕ → List Value
cells_of_chain p [] = []
cells_of_chain p (c ∷ above) = cells_of_chain p above ++ own_cells p c

abbrev pub new_cells : Program → ℕ → List Value
new_cells p c = cells_of_chain p (superclasses p c)

abbrev pub new_object : Program → ℕ → Object
new_object p c = record { class = c; size = 0; cells = new_cells p c }

-- an object of a core class that has just these cells
abbrev pub core_object : Program → String → List Value → Object
core_object p class cells = record { class = core_class p class; size = 0; cells = cells }

abbrev pub string_object : Program → List ℕ → Object
string_object p units = core_object p "java/lang/String" (Text units ∷ [])

-- ---- the first objects

-- what a first object is for: a stream with its number, 0 for out and 1 for err; an Integer; a Boolean, 0 for false and 1 for true; a string literal; the class object of a name; the array for main
pub data First : Type 0 where
  for_stream : ℕ → First
  for_integer : ℤ → First
  for_boolean : ℕ → First
  for_text : (units : List ℕ) → First
  for_class : (name : List ℕ) → First
  for_main : First

-- string literals and class objects are one per text and one per name
abbrev pub same_first : First → First → Bool
same_first (for_text a) (for_text b) = bytes_eq a b
same_first (for_class a) (for_class b) = bytes_eq a b
same_first _ _ = false

abbrev pub first_of_entry : Pool → Entry → Option First
first_of_entry pool (TextEntry i) = Some (for_text (units_of (utf8 pool i)))
first_of_entry pool (ClassEntry i) = Some (for_class (utf8 pool i))
first_of_entry pool _ = None

-- each of them once, where it comes first
abbrev pub each_once : List First → List First → List First
each_once seen [] = []
each_once seen (x ∷ xs) =
    elim (list_any (same_first x) seen) [ true ↦ each_once seen xs | false ↦ x ∷ each_once (x ∷ seen) xs ]

-- the string literals and the classes that the pools name, in the order of classes and pool entries
abbrev pub literals : Program → List First
literals p = each_once [] (flat_map (λ c. filter_map (first_of_entry c.pool) c.pool.entries) p.classes)

-- the integers from a number on
abbrev pub integers_from : ℤ → ℕ → List First
integers_from n zero = []
integers_from n (suc k) = for_integer n ∷ integers_from (n -ℤ negsuc 0) k

abbrev pub first_objects : Program → List First
first_objects p =
    for_stream 0 ∷ for_stream 1 ∷ (integers_from (negsuc 127) 256 ++ (for_boolean 0 ∷ for_boolean 1 ∷ (literals p ++ for_main ∷ [])))

abbrev pub object_of_first : Program → First → Object
object_of_first p (for_stream n) = core_object p "java/io/PrintStream" (Int (pos n) ∷ [])
object_of_first p (for_integer n) = core_object p "java/lang/Integer" (Int n ∷ [])
object_of_first p (for_boolean n) = core_object p "java/lang/Boolean" (Int (pos n) ∷ [])
object_of_first p (for_text units) = string_object p units
object_of_first p (for_class name) = core_object p "java/lang/Class" []
object_of_first p for_main =
    record { class = array_class p 1 (class_element (core_class p "java/lang/String")); size = 0; cells = [] }

-- where they stand: System.out and System.err, the Integer objects from -128 on, the Boolean objects, the literals and class objects, and the array for main
abbrev pub first_stream : ℕ → ℕ
first_stream n = n

abbrev pub first_integer : ℤ → ℕ
first_integer n = 2 + natural (n -ℤ negsuc 127)

abbrev pub first_boolean : ℕ → ℕ
first_boolean n = 258 + n

abbrev pub first_literal : Program → First → ℕ
first_literal p x = 260 + unwrap_or (position (same_first x) (literals p)) 0

abbrev pub first_words : Program → ℕ
first_words p = 260 + length (literals p)

-- the object of a string literal, or of a class name
abbrev pub literal_object : Program → Pool → Entry → ℕ
literal_object p pool e = first_literal p (unwrap_or (first_of_entry pool e) for_main)

-- ---- the statics

-- the value of a ConstantValue attribute, as it stands: only a store narrows
abbrev pub constant_of : Program → Pool → Option Entry → Value
constant_of p pool (Some (Integer n)) = Int n
constant_of p pool (Some (LongEntry n)) = Long n
constant_of p pool (Some (TextEntry i)) = Ref (literal_object p pool (TextEntry i))
constant_of p pool _ = Top

-- a static field that is no option begins with its constant, or with the default of its type
abbrev pub plain_static : Program → LinkedField → Value
plain_static p f =
    elim (f.constant == 0) [
      | true ↦ field_default f
      | false ↦ let pool = (class_at p f.class.0).pool in constant_of p pool (entry_of pool f.constant)
    ]
