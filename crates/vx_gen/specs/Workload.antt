-- The workload (own): a program and a model whose sizes are given by a number of options, and whose work by a seed. Its classes are Main, an interface Step with a method f of two ints, and Keep and Turn, which implement it. Main goes through its options, and lets Keep or Turn step a number for each, as the option says.
use Rattle.std.specs.Prelude.{Bool, List, Some, [], codes, if◌then◌else◌, length, map, take, ℕ, ◌%◌, ◌*◌, ◌++◌, ◌+◌, ◌/◌, ◌==◌, ◌∷◌}
use Prim.Native.String.{String}
use Rattle.vx_class.specs.declared.class_file.ClassFile.{ClassFile}
use Rattle.vx_link.specs.CoreFiles.{core_files, native_numbers}
use Rattle.vx_link.specs.Linked.{program_of}
use Rattle.vx_link.specs.Written.{Item, Reference, WrittenClass, WrittenField, WrittenMethod, a_field, a_method, an_interface_method, body, class_file, index_of, jump, naming, nothing, plain, two_bytes, utf8_entry, written_pool}
use Rattle.vx_link.specs.declared.program.Program.{Program}
use Rattle.vx_model.specs.declared.model.Model.{Model}
use Rattle.vx_model.specs.declared.model.OptionField.{OptionField}

-- ---- options

abbrev pub Text : Type 0
Text = String

abbrev pub Texts : Type 0
Texts = List Text

-- the names of the options, of which a workload has the first ones
abbrev pub option_names : Texts
option_names =
    "O0" ∷ "O1" ∷ "O2" ∷ "O3" ∷ "O4" ∷ "O5" ∷ "O6" ∷ "O7"
    ∷ "O8" ∷ "O9" ∷ "O10" ∷ "O11" ∷ "O12" ∷ "O13" ∷ "O14" ∷ "O15"
    ∷ "O16" ∷ "O17" ∷ "O18" ∷ "O19" ∷ "O20" ∷ "O21" ∷ "O22" ∷ "O23"
    ∷ "O24" ∷ "O25" ∷ "O26" ∷ "O27" ∷ "O28" ∷ "O29" ∷ "O30" ∷ "O31"
    ∷ "O32" ∷ "O33" ∷ "O34" ∷ "O35" ∷ "O36" ∷ "O37" ∷ "O38" ∷ "O39"
    ∷ "O40" ∷ "O41" ∷ "O42" ∷ "O43" ∷ "O44" ∷ "O45" ∷ "O46" ∷ "O47"
    ∷ "O48" ∷ "O49" ∷ "O50" ∷ "O51" ∷ "O52" ∷ "O53" ∷ "O54" ∷ "O55"
    ∷ "O56" ∷ "O57" ∷ "O58" ∷ "O59" ∷ "O60" ∷ "O61" ∷ "O62" ∷ "O63"
    ∷ []

abbrev pub names_of : (count : ℕ) → Texts
names_of count = take count option_names

-- each option is a static field of Main
abbrev pub option_field : String → WrittenField
option_field name = record { name = name; descriptor = "Z"; flags = 0x0009 }

abbrev pub option_reference : String → Reference
option_reference name = a_field "Main" name "Z"

-- ---- the steps

-- what calls the constructor of Object: aload_0, invokespecial of the only reference, return
abbrev pub plain_constructor : WrittenMethod
plain_constructor =
    record {
      name = "<init>";
      descriptor = "()V";
      flags = 0x0001;
      how = body 1 1 (plain 0x2a [] ∷ naming 0xb7 0 [] ∷ plain 0xb1 [] ∷ []) [];
    }

abbrev pub step_class : WrittenClass
step_class =
    record {
      major = 51;
      name = "Step";
      superclass = Some "java/lang/Object";
      interfaces = [];
      flags = 0x0601;
      fields = [];
      methods = record { name = "f"; descriptor = "(II)I"; flags = 0x0401; how = nothing } ∷ [];
      references = [];
    }

-- a class that implements Step by these instructions
abbrev pub stepping_class : String → List Item → WrittenClass
stepping_class name items =
    record {
      major = 51;
      name = name;
      superclass = Some "java/lang/Object";
      interfaces = "Step" ∷ [];
      flags = 0x0021;
      fields = [];
      methods = plain_constructor ∷ record { name = "f"; descriptor = "(II)I"; flags = 0x0001; how = body 2 3 items [] } ∷ [];
      references = a_method "java/lang/Object" "<init>" "()V" ∷ [];
    }

-- iload_1, ireturn
abbrev pub keep_items : List Item
keep_items = plain 0x1b [] ∷ plain 0xac [] ∷ []

-- iload_1, iload_2, iadd, iconst_3, iand, ireturn
abbrev pub turn_items : List Item
turn_items = plain 0x1b [] ∷ plain 0x1c [] ∷ plain 0x60 [] ∷ plain 0x06 [] ∷ plain 0x7e [] ∷ plain 0xac [] ∷ []

abbrev pub keep_class : WrittenClass
keep_class = stepping_class "Keep" keep_items

abbrev pub turn_class : WrittenClass
turn_class = stepping_class "Turn" turn_items

-- ---- Main

-- the references before those of the options, from number 0 on
abbrev pub fixed_references : List Reference
fixed_references =
    a_method "Keep" "<init>" "()V"
    ∷ a_method "Turn" "<init>" "()V"
    ∷ an_interface_method "Step" "f" "(II)I"
    ∷ a_field "java/lang/System" "out" "Ljava/io/PrintStream;"
    ∷ a_method "java/io/PrintStream" "println" "(I)V"
    ∷ []

-- new of the class of a method, whose entry stands right behind that of the method
abbrev pub new_of : (at reference : ℕ) → Item
new_of at reference = plain 0xbb (two_bytes (index_of at reference + 1))

-- an object by its constructor: new, dup, invokespecial, and the instruction that stores it
abbrev pub object_items : (at reference store : ℕ) → List Item
object_items at reference store = new_of at reference ∷ plain 0x59 [] ∷ naming 0xb7 reference [] ∷ plain store [] ∷ []

-- iconst_0, istore_1; a Keep, astore_2; a Turn, astore_3
abbrev pub first_items : (at : ℕ) → List Item
first_items at = plain 0x03 [] ∷ plain 0x3c [] ∷ object_items at 0 0x4d ++ object_items at 1 0x4e

-- the object of an option, by its reference: getstatic, ifeq L, aload_3, goto M, L: aload_2, M:
abbrev pub choice_items : (reference : ℕ) → List Item
choice_items reference = naming 0xb2 reference [] ∷ jump 0x99 7 ∷ plain 0x2d [] ∷ jump 0xa7 4 ∷ plain 0x2c [] ∷ []

-- its step: iload_1, iconst_3 or iconst_1, invokeinterface, istore_1
abbrev pub step_items : (odd : Bool) → List Item
step_items odd = plain 0x1b [] ∷ plain (if odd then 0x06 else 0x04) [] ∷ naming 0xb9 2 (3 ∷ 0 ∷ []) ∷ plain 0x3c [] ∷ []

abbrev pub option_items : (reference : ℕ) → (odd : Bool) → List Item
option_items reference odd = choice_items reference ++ step_items odd

-- of each of some options, from a reference on; the seed is read from its low end
abbrev pub all_option_items : {A : Type 0} → (reference seed : ℕ) → List A → List Item
all_option_items reference seed [] = []
all_option_items reference seed (option ∷ options) = option_items reference (seed % 2 == 1) ++ all_option_items (reference + 1) (seed / 2) options

-- getstatic of System.out, iload_1, invokevirtual of println, return
abbrev pub last_items : List Item
last_items = naming 0xb2 3 [] ∷ plain 0x1b [] ∷ naming 0xb6 4 [] ∷ plain 0xb1 [] ∷ []

-- the items of main, where the references begin at an index
abbrev pub main_items : {A : Type 0} → (at seed : ℕ) → List A → List Item
main_items at seed options = first_items at ++ (all_option_items 5 seed options ++ last_items)

-- where the references of Main begin, with so many options
abbrev pub main_at : (count : ℕ) → ℕ
main_at count = 7 + 2 * count

abbrev pub main_method : (seed : ℕ) → (names : List String) → WrittenMethod
main_method seed names =
    record {
      name = "main";
      descriptor = "([Ljava/lang/String;)V";
      flags = 0x0009;
      how = body 6 4 (main_items (main_at (length names)) seed names) [];
    }

abbrev pub main_class : (seed : ℕ) → (names : List String) → WrittenClass
main_class seed names =
    record {
      major = 51;
      name = "Main";
      superclass = Some "java/lang/Object";
      interfaces = [];
      flags = 0x0021;
      fields = map option_field names;
      methods = main_method seed names ∷ [];
      references = fixed_references ++ map option_reference names;
    }

-- ---- the whole

-- the class file of a written class, with the name of the attribute Code at the end of its pool, so that it has a spelling
abbrev pub work_file : WrittenClass → ClassFile
work_file c = record (class_file c) { pool = record { entries = written_pool c ++ utf8_entry "Code" ∷ [] } }

abbrev pub work_classes : (seed : ℕ) → (names : List String) → List WrittenClass
work_classes seed names = main_class seed names ∷ step_class ∷ keep_class ∷ turn_class ∷ []

abbrev pub work_files : (seed : ℕ) → (names : List String) → List ClassFile
work_files seed names = map work_file (work_classes seed names)

abbrev pub work_option : String → OptionField
work_option name = record { name = codes name; place = Some (record { class = codes "Main"; field = codes name }) }

-- without rules
abbrev pub work_model : (names : List String) → Model
work_model names = record { options = map work_option names; rules = [] }

-- the program that these classes are linked to
abbrev pub work_program : (seed : ℕ) → (names : List String) → Program
work_program seed names = program_of (work_files seed names) core_files native_numbers (work_model names).options (codes "Main")
