-- Linking: the program of a folder's classes and the core classes, or the first fault (JVMS 5.3, 5.4).
use Rattle.std.specs.List.{range_with_len}
use Rattle.std.specs.Prelude.{Bool, Err, List, None, Ok, Option, Result, Some, [], bit_and, bit_or, bytes_eq, codes, drop, false, filter, find, flat_map, if◌then◌else◌, is_some, length, map, nat_lt, not, option_map, position, slice_get, suc, true, unwrap_or, ℕ, ◌&&◌, ◌++◌, ◌+◌, ◌-◌, ◌==◌, ◌∷◌}
use Rattle.vx_class.specs.Members.{ABSTRACT, NATIVE, STATIC}
use Rattle.vx_class.specs.declared.class_file.ClassFile.{ClassFile}
use Rattle.vx_class.specs.declared.class_file.Field.{Field}
use Rattle.vx_class.specs.declared.class_file.Method.{Method}
use Rattle.vx_desc.specs.Names.{is_clinit}
use Rattle.vx_link.specs.CoreFiles.{core_files, native_numbers}
use Rattle.vx_link.specs.Faults.{interface_names, is_interface_file, link_fault, name_of, super_name}
use Rattle.vx_link.specs.Hierarchy.{superclasses}
use Rattle.vx_link.specs.Names.{utf8}
use Rattle.vx_link.specs.Parts.{field_at, fields_of, is_static_field}
use Rattle.vx_link.specs.Tables.{names_of}
use Rattle.vx_link.specs.declared.fault.LinkFault.{LinkFault}
use Rattle.vx_link.specs.declared.program.LinkedClass.{LinkedClass}
use Rattle.vx_link.specs.declared.program.LinkedField.{LinkedField}
use Rattle.vx_link.specs.declared.program.LinkedMethod.{LinkedMethod}
use Rattle.vx_link.specs.declared.program.Program.{Program}
use Rattle.vx_model.specs.declared.model.FieldPlace.{FieldPlace}
use Rattle.vx_model.specs.declared.model.OptionField.{OptionField}
use Rattle.vx_names.specs.Names.{place_of}
use Rattle.vx_pool.specs.declared.pool.Pool.{Pool}
use Rattle.vx_value.specs.declared.ids.ClassId.{ClassId}
use Rattle.vx_value.specs.declared.ids.FieldId.{FieldId}
use Rattle.vx_value.specs.declared.ids.MethodId.{MethodId}

-- ---- methods

abbrev pub is_clinit_file : ClassFile → Method → Bool
is_clinit_file c m = is_clinit (utf8 c.pool m.name)

-- a <clinit> is static, and neither abstract nor native, whatever its flags
abbrev pub method_flags : List ℕ → ℕ → ℕ
method_flags name flags =
    if is_clinit name
    then bit_or (bit_and flags (0xffff - (ABSTRACT + NATIVE))) STATIC
    else flags

-- the place of the class's own <clinit> among its methods
abbrev pub own_clinit : ClassFile → Option ℕ
own_clinit c = position (is_clinit_file c) c.methods

-- how many numbers a class's methods take: one more where it has no <clinit>
abbrev pub method_count : ClassFile → ℕ
method_count c = if is_some (own_clinit c) then length c.methods else length c.methods + 1

abbrev pub linked_method : ℕ → Pool → Method → (native : ℕ) → LinkedMethod
linked_method class pool m native =
    record {
      class = record { 0 = class };
      name = utf8 pool m.name;
      descriptor = utf8 pool m.descriptor;
      flags = record { 0 = method_flags (utf8 pool m.name) m.flags };
      code = m.code;
      native = native;
    }

-- the methods of a class file, with the numbers of the native ones
abbrev pub linked_methods : ℕ → Pool → List Method → List ℕ → List LinkedMethod
linked_methods class pool [] numbers = []
linked_methods class pool (m ∷ ms) [] = linked_method class pool m 0 ∷ linked_methods class pool ms []
linked_methods class pool (m ∷ ms) (n ∷ ns) = linked_method class pool m n ∷ linked_methods class pool ms ns

-- the method of a class without <clinit>, whose code is one return
abbrev pub empty_clinit : ℕ → LinkedMethod
empty_clinit class =
    record {
      class = record { 0 = class };
      name = codes "<clinit>";
      descriptor = codes "()V";
      flags = record { 0 = STATIC };
      code = Some (record { max_stack = 0; max_locals = 0; bytes = 0xb1 ∷ []; catches = [] });
      native = 0;
    }

abbrev pub methods_of_class : ℕ → ClassFile → List ℕ → List LinkedMethod
methods_of_class class c numbers =
    linked_methods class c.pool c.methods numbers ++ (if is_some (own_clinit c) then [] else empty_clinit class ∷ [])

-- the methods of the classes from a number on, one class after the other
abbrev pub methods_from : ℕ → List ClassFile → List (List ℕ) → List LinkedMethod
methods_from class [] numbers = []
methods_from class (c ∷ cs) [] = methods_of_class class c [] ++ methods_from (suc class) cs []
methods_from class (c ∷ cs) (ns ∷ rest) = methods_of_class class c ns ++ methods_from (suc class) cs rest

-- ---- fields

abbrev pub is_place : (class field : List ℕ) → Option FieldPlace → Bool
is_place class field None = false
is_place class field (Some place) = bytes_eq place.class class && bytes_eq place.field field

-- the option whose field this is; its descriptor is Z
abbrev pub option_of : List OptionField → ClassFile → Field → Option ℕ
option_of options c f =
    if bytes_eq (utf8 c.pool f.descriptor) (codes "Z")
    then position (λ o. is_place (name_of c) (utf8 c.pool f.name) o.place) options
    else None

-- a field of an interface is static
abbrev pub field_flags : ClassFile → ℕ → ℕ
field_flags c flags = if is_interface_file c then bit_or flags STATIC else flags

abbrev pub linked_field : List OptionField → ℕ → ClassFile → Field → LinkedField
linked_field options class c f =
    record {
      class = record { 0 = class };
      name = utf8 c.pool f.name;
      descriptor = utf8 c.pool f.descriptor;
      flags = record { 0 = field_flags c f.flags };
      cell = 0;
      constant = f.constant;
      option = option_of options c f;
    }

abbrev pub fields_from : List OptionField → ℕ → List ClassFile → List LinkedField
fields_from options class [] = []
fields_from options class (c ∷ cs) = map (linked_field options class c) c.fields ++ fields_from options (suc class) cs

-- ---- classes

abbrev pub method_ids : (from count : ℕ) → List MethodId
method_ids from count = map (λ m. record { 0 = m }) (range_with_len from count)

abbrev pub field_ids : (from count : ℕ) → List FieldId
field_ids from count = map (λ f. record { 0 = f }) (range_with_len from count)

-- the number of a class: the place of its name among the names of all
abbrev pub class_id : (names : List (List ℕ)) → List ℕ → ClassId
class_id names name = record { 0 = unwrap_or (place_of names name) 0 }

-- a class whose methods and fields are numbered from these on
abbrev pub linked_class : (names : List (List ℕ)) → ClassFile → (methods fields : ℕ) → LinkedClass
linked_class names c methods fields =
    record {
      name = name_of c;
      superclass = option_map (class_id names) (super_name c);
      interfaces = map (class_id names) (interface_names c);
      flags = record { 0 = c.flags };
      pool = c.pool;
      methods = method_ids methods (length c.methods);
      fields = field_ids fields (length c.fields);
      initialiser = record { 0 = methods + unwrap_or (own_clinit c) (length c.methods) };
      own_initialiser = is_some (own_clinit c);
    }

abbrev pub linked_classes : (names : List (List ℕ)) → List ClassFile → (methods fields : ℕ) → List LinkedClass
linked_classes names [] methods fields = []
linked_classes names (c ∷ cs) methods fields =
    linked_class names c methods fields ∷ linked_classes names cs (methods + method_count c) (fields + length c.fields)

-- ---- the layout of objects

-- the instance fields that a class declares, in file order
abbrev pub instance_fields : Program → ℕ → List ℕ
instance_fields p c = filter (λ f. not (is_static_field p f)) (fields_of p c)

-- how many instance fields some classes have
abbrev pub cell_count : Program → List ℕ → ℕ
cell_count p [] = 0
cell_count p (c ∷ cs) = length (instance_fields p c) + cell_count p cs

-- the number of instance fields of the superclasses first, and then those of the class before it in file order; 0 for a static field
abbrev pub layout : Program → ℕ → ℕ
layout p f =
    let class = (field_at p f).class.0 in
    elim (is_static_field p f) [
      | true ↦ 0
      | false ↦ cell_count p (drop 1 (superclasses p class)) + length (filter (λ g. nat_lt g f) (instance_fields p class))
    ]

abbrev pub fields_with_layout : Program → ℕ → List LinkedField → List LinkedField
fields_with_layout p f [] = []
fields_with_layout p f (field ∷ fields) = record field { cell = layout p f } ∷ fields_with_layout p (suc f) fields

abbrev pub with_layout : Program → Program
with_layout p = record p { fields = fields_with_layout p 0 p.fields }

-- ---- the whole

abbrev pub is_option : ℕ → Option ℕ → Bool
is_option option None = false
is_option option (Some o) = o == option

-- the field of an option by its place among the options
abbrev pub option_field : List LinkedField → ℕ → Option FieldId
option_field fields option = option_map (λ f. record { 0 = f }) (position (λ f. is_option option f.option) fields)

abbrev pub option_fields : List LinkedField → List OptionField → List (Option FieldId)
option_fields fields options = map (option_field fields) (range_with_len 0 (length options))

-- main of the named class; the classes of the folder stand before the core classes
abbrev pub is_main_method : Option LinkedMethod → Bool
is_main_method None = false
is_main_method (Some m) = bytes_eq m.name (codes "main") && bytes_eq m.descriptor (codes "([Ljava/lang/String;)V")

abbrev pub methods_named : List LinkedClass → List ℕ → List ℕ
methods_named classes main = flat_map (λ c. map (λ m. m.0) c.methods) (filter (λ c. bytes_eq c.name main) classes)

abbrev pub main_method : List LinkedClass → List LinkedMethod → List ℕ → ℕ
main_method classes methods main = unwrap_or (find (λ m. is_main_method (slice_get methods m)) (methods_named classes main)) 0

-- the parts of a program, with its main and the fields of its options
abbrev pub program_with : List LinkedClass → List LinkedMethod → List LinkedField → List OptionField → (main : List ℕ) → Program
program_with classes methods fields options main =
    record {
      classes = classes;
      methods = methods;
      fields = fields;
      main = record { 0 = main_method classes methods main };
      options = option_fields fields options;
    }

-- the program of classes that have no fault: the folder's and then the core classes
abbrev pub program_of : (classes core : List ClassFile) → (numbers : List (List ℕ)) → List OptionField → (main : List ℕ) → Program
program_of classes core numbers options main =
    let all = classes ++ core in
    with_layout
    (program_with
    (linked_classes (names_of all) all 0 0)
    (methods_from 0 classes [] ++ methods_from (length classes) core numbers)
    (fields_from options 0 all)
    options
    main)

abbrev pub unless_fault : Option LinkFault → Program → Result Program LinkFault
unless_fault (Some fault) p = Err fault
unless_fault None p = Ok p

-- the program of a folder's classes with the options of a model and the class whose main is run, or the first fault
abbrev pub linked_program : List ClassFile → List OptionField → (main : List ℕ) → Result Program LinkFault
linked_program classes options main =
    unless_fault (link_fault classes core_files options main) (program_of classes core_files native_numbers options main)
