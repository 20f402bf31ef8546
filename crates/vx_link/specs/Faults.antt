-- Why class files do not link: the first fault in the order of this file's last definition (JVMS 5.3, 5.4).
use Rattle.std.specs.List.{list_all, list_any}
use Rattle.std.specs.Option.{option_or}
use Rattle.std.specs.Prelude.{Bool, List, None, Option, Some, [], bytes_eq, codes, false, find, flat_map, if◌then◌else◌, is_some, length, map, not, option_map, option_to_list, suc, true, zero, ℕ, ◌&&◌, ◌++◌, ◌==◌, ◌||◌, ◌∷◌}
use Rattle.vx_class.specs.Members.{has, INTERFACE, STATIC}
use Rattle.vx_class.specs.declared.class_file.ClassFile.{ClassFile}
use Rattle.vx_class.specs.declared.class_file.Field.{Field}
use Rattle.vx_class.specs.declared.class_file.Method.{Method}
use Rattle.vx_link.specs.Names.{class_name, utf8}
use Rattle.vx_link.specs.Parts.{FINAL, PUBLIC}
use Rattle.vx_link.specs.declared.fault.LinkFault.{LinkFault}
use Rattle.vx_link.specs.declared.fault.LinkFault.TheVariants.{Cycle, FinalSuper, NoMain, NoOption, NoSuper, Twice}
use Rattle.vx_model.specs.declared.model.FieldPlace.{FieldPlace}
use Rattle.vx_model.specs.declared.model.OptionField.{OptionField}

-- ---- class files by their names

abbrev pub name_of : ClassFile → List ℕ
name_of c = class_name c.pool c.this_class

-- a class's superclass by name; Object alone has none
abbrev pub super_name : ClassFile → Option (List ℕ)
super_name c = if c.super_class == 0 then None else Some (class_name c.pool c.super_class)

abbrev pub interface_names : ClassFile → List (List ℕ)
interface_names c = map (class_name c.pool) c.interfaces

abbrev pub is_interface_file : ClassFile → Bool
is_interface_file c = has c.flags INTERFACE

-- the class file of a name, the first where there are several
abbrev pub file_named : List ClassFile → List ℕ → Option ClassFile
file_named all name = find (λ c. bytes_eq (name_of c) name) all

-- the class of a name is there and passes a test
abbrev pub passes : (ClassFile → Bool) → Option ClassFile → Bool
passes test None = false
passes test (Some c) = test c

-- ---- a name that stands twice

-- the first class whose name an earlier class or a core class has
abbrev pub twice : (before rest : List ClassFile) → Option LinkFault
twice before [] = None
twice before (c ∷ rest) =
    elim (is_some (file_named before (name_of c))) [ true ↦ Some (Twice (name_of c)) | false ↦ twice (c ∷ before) rest ]

-- ---- superclasses and superinterfaces

-- the superclass is there and is no interface, and that of an interface is Object
abbrev pub super_fits : List ClassFile → ClassFile → Option (List ℕ) → Bool
super_fits all c None = true
super_fits all c (Some name) =
    passes (λ s. not (is_interface_file s)) (file_named all name)
    && (not (is_interface_file c) || bytes_eq name (codes "java/lang/Object"))

-- the superinterfaces are there and are interfaces
abbrev pub interfaces_fit : List ClassFile → ClassFile → Bool
interfaces_fit all c = list_all (λ name. passes is_interface_file (file_named all name)) (interface_names c)

abbrev pub super_is_final : List ClassFile → Option (List ℕ) → Bool
super_is_final all None = false
super_is_final all (Some name) = passes (λ s. has s.flags FINAL) (file_named all name)

-- class by class: one of them does not fit, before a superclass that is final
abbrev pub bad_super : List ClassFile → List ClassFile → Option LinkFault
bad_super all [] = None
bad_super all (c ∷ rest) =
    elim (super_fits all c (super_name c) && interfaces_fit all c) [
      | false ↦ Some (NoSuper (name_of c))
      | true ↦ elim (super_is_final all (super_name c)) [ true ↦ Some (FinalSuper (name_of c)) | false ↦ bad_super all rest ]
    ]

-- ---- cycles

-- the direct ancestors of a class
abbrev pub parents_of : Option ClassFile → List (List ℕ)
parents_of None = []
parents_of (Some c) = option_to_list (super_name c) ++ interface_names c

-- the ancestors of a class up to a number of steps
abbrev pub ancestors : List ClassFile → ℕ → List ℕ → List (List ℕ)
ancestors all zero name = []
ancestors all (suc n) name = flat_map (λ parent. parent ∷ ancestors all n parent) (parents_of (file_named all name))

abbrev pub is_own_ancestor : List ClassFile → ClassFile → Bool
is_own_ancestor all c = list_any (bytes_eq (name_of c)) (ancestors all (length all) (name_of c))

-- the first class that is its own ancestor
abbrev pub cycle : List ClassFile → List ClassFile → Option LinkFault
cycle all classes = option_map (λ c. Cycle (name_of c)) (find (is_own_ancestor all) classes)

-- ---- options and main

-- a static field Z of this name; a field of an interface is static
abbrev pub is_option_field : ClassFile → List ℕ → Field → Bool
is_option_field c name f =
    bytes_eq (utf8 c.pool f.name) name
    && (bytes_eq (utf8 c.pool f.descriptor) (codes "Z") && (has f.flags STATIC || is_interface_file c))

-- a class of the folder declares the field of an option that has one
abbrev pub has_place : List ClassFile → Option FieldPlace → Bool
has_place classes None = true
has_place classes (Some place) =
    passes (λ c. list_any (is_option_field c place.field) c.fields) (file_named classes place.class)

-- the first option whose field is not there
abbrev pub no_option : List ClassFile → List OptionField → Option LinkFault
no_option classes options = option_map (λ o. NoOption o.name) (find (λ o. not (has_place classes o.place)) options)

-- main([Ljava/lang/String;)V that is public, static and has code
abbrev pub is_main : ClassFile → Method → Bool
is_main c m =
    bytes_eq (utf8 c.pool m.name) (codes "main")
    && (bytes_eq (utf8 c.pool m.descriptor) (codes "([Ljava/lang/String;)V")
    && (has m.flags PUBLIC && (has m.flags STATIC && is_some m.code)))

abbrev pub no_main : List ClassFile → List ℕ → Option LinkFault
no_main classes main =
    elim (passes (λ c. list_any (is_main c) c.methods) (file_named classes main)) [ true ↦ None | false ↦ Some NoMain ]

-- ---- the first fault of a folder's classes beside the core classes

abbrev pub link_fault : (classes core : List ClassFile) → List OptionField → (main : List ℕ) → Option LinkFault
link_fault classes core options main =
    option_or (twice core classes)
    (option_or (bad_super (classes ++ core) classes)
    (option_or (cycle (classes ++ core) classes)
    (option_or (no_option classes options)
    (no_main classes main))))
