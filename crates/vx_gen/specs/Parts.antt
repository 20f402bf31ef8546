-- The parts of a class file in the making, by the bytes of their names: as a written class has them, whose names are texts (JVMS 4.4).
use Prim.Native.String.{String}
use Rattle.std.specs.Prelude.{List, Some, [], codes, flat_map, length, map, nat_lt, true, ℕ, ◌++◌, ◌+◌, ◌∷◌, ◌≡◌}
use Rattle.std.specs.Borrow.{Bor}
use Rattle.std.specs.List.{list_all}
use Rattle.vx_class.specs.declared.class_file.ClassFile.{ClassFile}
use Rattle.vx_class.specs.declared.class_file.Field.{Field}
use Rattle.vx_class.specs.declared.class_file.Method.{Method}
use Rattle.vx_gen.specs.declared.pool.Kind.{Kind}
use Rattle.vx_gen.specs.declared.pool.Kind.TheVariants as kind
use Rattle.vx_model.specs.declared.model.OptionField.{OptionField}
use Rattle.vx_pool.specs.declared.pool.Entry.{Entry}
use Rattle.vx_pool.specs.declared.pool.Entry.TheVariants as entry
use Rattle.vx_pool.specs.declared.pool.Pool.{Pool}

-- a class and its name
abbrev pub class_part : (at : ℕ) → (name : List ℕ) → List Entry
class_part at name = entry.Class (at + 1) ∷ entry.Utf8 name ∷ []

-- a name and a descriptor
abbrev pub signature_part : (name descriptor : List ℕ) → List Entry
signature_part name descriptor = entry.Utf8 name ∷ entry.Utf8 descriptor ∷ []

abbrev pub first_of : Kind → (class typed : ℕ) → Entry
first_of kind.Field class typed = entry.Field class typed
first_of kind.Method class typed = entry.Method class typed
first_of kind.InterfaceMethod class typed = entry.InterfaceMethod class typed

-- a reference to a member, of six entries from an index on
abbrev pub reference_part : (at : ℕ) → Kind → (class name descriptor : List ℕ) → List Entry
reference_part at k class name descriptor =
    first_of k (at + 1) (at + 3) ∷ entry.Class (at + 2) ∷ entry.Utf8 class ∷ entry.NameAndType (at + 4) (at + 5) ∷ entry.Utf8 name ∷ entry.Utf8 descriptor
    ∷ []

-- the names and descriptors of the fields of options
abbrev pub field_parts : List (Bor (List ℕ)) → List Entry
field_parts names = flat_map (λ name. signature_part name.now (codes "Z")) names

-- references to the fields of options, from an index on
abbrev pub option_parts : (at : ℕ) → List (Bor (List ℕ)) → List Entry
option_parts at [] = []
option_parts at (name ∷ names) = reference_part at kind.Field (codes "Main") name.now (codes "Z") ++ option_parts (at + 6) names

-- the fields of options, whose names begin at an index
abbrev pub field_list : {A : Type 0} → (at : ℕ) → List A → List Field
field_list at [] = []
field_list at (name ∷ names) = record { flags = 0x0009; name = at; descriptor = at + 1; constant = 0 } ∷ field_list (at + 2) names

-- the first entries of a class below Object
abbrev pub head_part : (name : List ℕ) → List Entry
head_part name = entry.Unusable ∷ class_part 1 name ++ class_part 3 (codes "java/lang/Object")

-- the name of the attribute that holds code
abbrev pub code_part : List Entry
code_part = entry.Utf8 (codes "Code") ∷ []

-- the pool of a class that implements the step
abbrev pub stepping_entries : (name : List ℕ) → List Entry
stepping_entries name =
    head_part name
    ++ (class_part 5 (codes "Step")
    ++ (signature_part (codes "<init>") (codes "()V")
    ++ (signature_part (codes "f") (codes "(II)I")
    ++ (reference_part 11 kind.Method (codes "java/lang/Object") (codes "<init>") (codes "()V") ++ code_part))))

-- the references of main before those of its options
abbrev pub fixed_parts : (at : ℕ) → List Entry
fixed_parts at =
    reference_part at kind.Method (codes "Keep") (codes "<init>") (codes "()V")
    ++ (reference_part (at + 6) kind.Method (codes "Turn") (codes "<init>") (codes "()V")
    ++ (reference_part (at + 12) kind.InterfaceMethod (codes "Step") (codes "f") (codes "(II)I")
    ++ (reference_part (at + 18) kind.Field (codes "java/lang/System") (codes "out") (codes "Ljava/io/PrintStream;")
    ++ reference_part (at + 24) kind.Method (codes "java/io/PrintStream") (codes "println") (codes "(I)V"))))

-- the pool of Main, whose references begin at an index
abbrev pub main_entries : (at : ℕ) → List (Bor (List ℕ)) → List Entry
main_entries at names =
    head_part (codes "Main")
    ++ (field_parts names
    ++ (signature_part (codes "main") (codes "([Ljava/lang/String;)V") ++ (fixed_parts at ++ (option_parts (at + 30) names ++ code_part))))

-- a method with code
abbrev pub coded_method : (flags name max_stack max_locals : ℕ) → (bytes : List ℕ) → Method
coded_method flags name max_stack max_locals bytes =
    record {
      flags = flags;
      name = name;
      descriptor = name + 1;
      code = Some (record { max_stack = max_stack; max_locals = max_locals; bytes = bytes; catches = [] });
    }

-- the methods of a class that implements the step by this code
abbrev pub stepping_methods : (code : List ℕ) → List Method
stepping_methods code = coded_method 0x0001 7 1 1 (0x2a ∷ 0xb7 ∷ 0 ∷ 11 ∷ 0xb1 ∷ []) ∷ coded_method 0x0001 9 2 3 code ∷ []

-- the class file of a class below Object, whose pool begins with the names of both
abbrev pub file_of : (flags : ℕ) → Pool → (interfaces : List ℕ) → List Field → List Method → ClassFile
file_of flags pool interfaces fields methods =
    record {
      minor = 0;
      major = 51;
      pool = pool;
      flags = flags;
      this_class = 1;
      super_class = 3;
      interfaces = interfaces;
      fields = fields;
      methods = methods;
    }

-- an option, whose field is that of Main with its name
abbrev pub option_of : (name : List ℕ) → OptionField
option_of name = record { name = name; place = Some (record { class = codes "Main"; field = name }) }

-- these texts are those
abbrev pub AreNames : List (Bor (List ℕ)) → List String → Type 0
AreNames names texts = map (λ name. name.now) names ≡ map codes texts

-- texts that a pool can hold
abbrev pub AreShort : List (Bor (List ℕ)) → Type 0
AreShort names = list_all (λ name. nat_lt (length name.now) 65536) names ≡ true
