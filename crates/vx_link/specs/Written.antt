-- A short way to write a class down, and the class file of it (JVMS 4): the core classes and the worked examples are written so. The order of the entries of a pool shows nowhere.
use Rattle.std.specs.Prelude.{List, None, Option, Some, [], codes, flat_map, length, map, ℕ, ◌%◌, ◌*◌, ◌++◌, ◌+◌, ◌/◌, ◌∷◌}
use Prim.Native.String.{String}
use Rattle.vx_class.specs.declared.class_file.Catch.{Catch}
use Rattle.vx_class.specs.declared.class_file.ClassFile.{ClassFile}
use Rattle.vx_class.specs.declared.class_file.Code.{Code}
use Rattle.vx_pool.specs.declared.pool.Entry.{Entry}
use Rattle.vx_pool.specs.declared.pool.Entry.TheVariants.{Class, Field, InterfaceMethod, Method, NameAndType, Text, Unusable, Utf8}
use Rattle.vx_class.specs.declared.class_file.Field.{Field as FieldFile}
use Rattle.vx_class.specs.declared.class_file.Method.{Method as MethodFile}

-- ---- what is written

-- what a body names in the pool of its class
pub data Reference : Type 0 where
  a_class : (name : String) → Reference
  a_text : (text : String) → Reference
  a_field : (class name descriptor : String) → Reference
  a_method : (class name descriptor : String) → Reference
  an_interface_method : (class name descriptor : String) → Reference

-- an instruction of a body: an opcode with the bytes behind it; a jump with its distance; an opcode with a reference of the class, by its place, and the bytes behind it; ldc with a reference
pub data Item : Type 0 where
  plain : (opcode : ℕ) → (operands : List ℕ) → Item
  jump : (opcode distance : ℕ) → Item
  naming : (opcode reference : ℕ) → (operands : List ℕ) → Item
  ldc : (reference : ℕ) → Item

-- a row of a catch table, whose class is a reference; none for every class
pub record WrittenCatch : Type 0 where
  pub start : ℕ
  pub end : ℕ
  pub handler : ℕ
  pub class : Option ℕ

-- how a method is carried out: by the native method of a number; not at all, which ends the run or is abstract; by its code
pub data How : Type 0 where
  number : ℕ → How
  nothing : How
  body : (max_stack max_locals : ℕ) → List Item → List WrittenCatch → How

pub record WrittenField : Type 0 where
  pub name : String
  pub descriptor : String
  pub flags : ℕ

pub record WrittenMethod : Type 0 where
  pub name : String
  pub descriptor : String
  pub flags : ℕ
  pub how : How

pub record WrittenClass : Type 0 where
  pub major : ℕ
  pub name : String
  pub superclass : Option String
  pub interfaces : List String
  pub flags : ℕ
  pub fields : List WrittenField
  pub methods : List WrittenMethod
  pub references : List Reference

-- ---- the pool: the class, its superclass, its interfaces, the names and descriptors of its fields and methods, and the references of its bodies

abbrev pub utf8_entry : String → Entry
utf8_entry text = Utf8 (codes text)

abbrev pub class_entry : ℕ → String → List Entry
class_entry at name = Class (at + 1) ∷ utf8_entry name ∷ []

abbrev pub super_entries : Option String → List Entry
super_entries None = Unusable ∷ Unusable ∷ []
super_entries (Some name) = class_entry 3 name

abbrev pub interface_entries : ℕ → List String → List Entry
interface_entries at [] = []
interface_entries at (i ∷ is) = class_entry at i ++ interface_entries (at + 2) is

-- six entries for each reference, so that its index is known from its place
abbrev pub unused : List Entry
unused = Unusable ∷ Unusable ∷ Unusable ∷ Unusable ∷ []

abbrev pub member_entries : ℕ → (class name descriptor : String) → List Entry
member_entries at class name descriptor =
    Class (at + 2) ∷ utf8_entry class ∷ NameAndType (at + 4) (at + 5) ∷ utf8_entry name ∷ utf8_entry descriptor ∷ []

abbrev pub entries_of_reference : ℕ → Reference → List Entry
entries_of_reference at (a_class name) = class_entry at name ++ unused
entries_of_reference at (a_text text) = Text (at + 1) ∷ utf8_entry text ∷ unused
entries_of_reference at (a_field class name descriptor) = Field (at + 1) (at + 3) ∷ member_entries at class name descriptor
entries_of_reference at (a_method class name descriptor) = Method (at + 1) (at + 3) ∷ member_entries at class name descriptor
entries_of_reference at (an_interface_method class name descriptor) =
    InterfaceMethod (at + 1) (at + 3) ∷ member_entries at class name descriptor

abbrev pub reference_entries : ℕ → List Reference → List Entry
reference_entries at [] = []
reference_entries at (r ∷ rs) = entries_of_reference at r ++ reference_entries (at + 6) rs

-- where the fields, the methods and the references begin
abbrev pub fields_at : WrittenClass → ℕ
fields_at c = 5 + 2 * length c.interfaces

abbrev pub methods_at : WrittenClass → ℕ
methods_at c = fields_at c + 2 * length c.fields

abbrev pub references_at : WrittenClass → ℕ
references_at c = methods_at c + 2 * length c.methods

abbrev pub field_entries : WrittenField → List Entry
field_entries f = utf8_entry f.name ∷ utf8_entry f.descriptor ∷ []

abbrev pub method_entries : WrittenMethod → List Entry
method_entries m = utf8_entry m.name ∷ utf8_entry m.descriptor ∷ []

abbrev pub written_pool : WrittenClass → List Entry
written_pool c =
    Unusable
    ∷ (class_entry 1 c.name
    ++ (super_entries c.superclass
    ++ (interface_entries 5 c.interfaces
    ++ (flat_map field_entries c.fields ++ (flat_map method_entries c.methods ++ reference_entries (references_at c) c.references)))))

-- ---- bodies

-- a number of two bytes
abbrev pub two_bytes : ℕ → List ℕ
two_bytes n = (n / 256) ∷ (n % 256) ∷ []

-- the index of a reference by its place, where the references begin at an index
abbrev pub index_of : ℕ → ℕ → ℕ
index_of at reference = at + 6 * reference

abbrev pub item_bytes : ℕ → Item → List ℕ
item_bytes at (plain opcode operands) = opcode ∷ operands
item_bytes at (jump opcode distance) = opcode ∷ two_bytes distance
item_bytes at (naming opcode reference operands) = opcode ∷ (two_bytes (index_of at reference) ++ operands)
item_bytes at (ldc reference) = 0x12 ∷ index_of at reference ∷ []

abbrev pub catch_class : ℕ → Option ℕ → ℕ
catch_class at None = 0
catch_class at (Some reference) = index_of at reference

abbrev pub catch_file : ℕ → WrittenCatch → Catch
catch_file at c = record { start = c.start; end = c.end; handler = c.handler; class = catch_class at c.class }

abbrev pub code_file : ℕ → How → Option Code
code_file at (body max_stack max_locals items catches) =
    Some
    (record {
      max_stack = max_stack;
      max_locals = max_locals;
      bytes = flat_map (item_bytes at) items;
      catches = map (catch_file at) catches;
    })
code_file at _ = None

-- ---- the class file

abbrev pub field_files : ℕ → List WrittenField → List FieldFile
field_files at [] = []
field_files at (f ∷ fs) = record { flags = f.flags; name = at; descriptor = at + 1; constant = 0 } ∷ field_files (at + 2) fs

abbrev pub method_files : (at references : ℕ) → List WrittenMethod → List MethodFile
method_files at references [] = []
method_files at references (m ∷ ms) =
    record { flags = m.flags; name = at; descriptor = at + 1; code = code_file references m.how } ∷ method_files (at + 2) references ms

-- the class has entries 1 and 2 of the pool, and its superclass, where it has one, 3 and 4
abbrev pub super_index : {A : Type 0} → Option A → ℕ
super_index None = 0
super_index (Some name) = 3

abbrev pub interface_indices : ℕ → List String → List ℕ
interface_indices at [] = []
interface_indices at (i ∷ is) = at ∷ interface_indices (at + 2) is

abbrev pub class_file : WrittenClass → ClassFile
class_file c =
    record {
      minor = 0;
      major = c.major;
      pool = record { entries = written_pool c };
      flags = c.flags;
      this_class = 1;
      super_class = super_index c.superclass;
      interfaces = interface_indices 5 c.interfaces;
      fields = field_files (fields_at c) c.fields;
      methods = method_files (methods_at c) (references_at c) c.methods;
    }
