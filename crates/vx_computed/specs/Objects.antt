-- References, calls by the class of the receiver, and methods of interfaces.
use Rattle.std.specs.Prelude.{Some, [], codes, ◌∷◌, ◌≡◌}
use Rattle.vx_computed.specs.Examples.{both, coded, comes_to, ended, line, one_configuration, option, outcome, piece, report, where_off, where_on}
use Rattle.vx_computed.specs.Mnemonics.{bipush, getfield, getstatic, iconst_0, iconst_1, iconst_2, iconst_4, if_acmpne, invokeinterface, pop}
use Rattle.vx_link.specs.CoreTable.{abstract, aconst_null, aload_0, aload_1, aload_2, astore_1, astore_2, dup, goto, ifeq, ifnonnull, invokespecial, invokestatic, invokevirtual, ireturn, new, return}
use Rattle.vx_link.specs.Written.{WrittenClass, a_class, a_field, a_method, an_interface_method}
use Rattle.vx_value.specs.declared.end.End.TheVariants.{Illegal, Return, Uncaught}
use Rattle.vx_value.specs.declared.end.Stream.TheVariants.{Out}

abbrev pub references_main : WrittenClass
references_main =
    record {
      major = 51;
      name = "Main";
      superclass = Some "java/lang/Object";
      interfaces = [];
      flags = 0x0021;
      fields = record { name = "A"; descriptor = "Z"; flags = 0x0009 } ∷ [];
      methods =
          coded 0x0009 "main" "([Ljava/lang/String;)V" 6 8
          (aconst_null ∷ astore_1 ∷ getstatic 0 ∷ ifeq 11 ∷ new 1 ∷ dup ∷ invokespecial 2 ∷ astore_1 ∷ new 1 ∷ dup
          ∷ invokespecial 2 ∷ astore_2 ∷ getstatic 3 ∷ aload_1 ∷ aload_2 ∷ if_acmpne 7 ∷ iconst_1 ∷ goto 4 ∷ iconst_0
          ∷ invokevirtual 4 ∷ getstatic 3 ∷ aload_1 ∷ ifnonnull 7 ∷ iconst_1 ∷ goto 4 ∷ iconst_0 ∷ invokevirtual 4
          ∷ return ∷ [])
          []
          ∷ [];
      references =
          a_field "Main" "A" "Z"
          ∷ a_class "java/lang/Object"
          ∷ a_method "java/lang/Object" "<init>" "()V"
          ∷ a_field "java/lang/System" "out" "Ljava/io/PrintStream;"
          ∷ a_method "java/io/PrintStream" "println" "(I)V"
          ∷ [];
    }

-- an object in one configuration, null in the other
abbrev pub References : Type 0
References =
    report (references_main ∷ []) (option "A" ∷ []) both 100 1
    ≡ record {
      version = 1;
      limit = 100;
      rounds = 26;
      pieces = piece Out (line "0") both ∷ piece Out (line "0") where_on ∷ piece Out (line "1") where_off ∷ [];
      ends = ended Return both ∷ [];
      attempts = [];
    }

abbrev pub interface_call_main : WrittenClass
interface_call_main =
    record {
      major = 51;
      name = "Main";
      superclass = Some "java/lang/Object";
      interfaces = [];
      flags = 0x0021;
      fields = record { name = "A"; descriptor = "Z"; flags = 0x0009 } ∷ [];
      methods =
          coded 0x0009 "main" "([Ljava/lang/String;)V" 6 8
          (getstatic 0 ∷ ifeq 14 ∷ new 1 ∷ dup ∷ invokespecial 2 ∷ astore_1 ∷ goto 11 ∷ new 3 ∷ dup ∷ invokespecial 4
          ∷ astore_1 ∷ getstatic 5 ∷ aload_1 ∷ invokeinterface 6 1 ∷ invokevirtual 7 ∷ return ∷ [])
          []
          ∷ [];
      references =
          a_field "Main" "A" "Z"
          ∷ a_class "S1"
          ∷ a_method "S1" "<init>" "()V"
          ∷ a_class "S2"
          ∷ a_method "S2" "<init>" "()V"
          ∷ a_field "java/lang/System" "out" "Ljava/io/PrintStream;"
          ∷ an_interface_method "S" "f" "()I"
          ∷ a_method "java/io/PrintStream" "println" "(I)V"
          ∷ [];
    }

abbrev pub interface_call_s : WrittenClass
interface_call_s =
    record {
      major = 51;
      name = "S";
      superclass = Some "java/lang/Object";
      interfaces = [];
      flags = 0x0601;
      fields = [];
      methods =
          abstract "f" "()I"
          ∷ [];
      references =
          [];
    }

abbrev pub interface_call_s1 : WrittenClass
interface_call_s1 =
    record {
      major = 51;
      name = "S1";
      superclass = Some "java/lang/Object";
      interfaces = "S" ∷ [];
      flags = 0x0021;
      fields = [];
      methods =
          coded 0x0001 "<init>" "()V" 1 1
          (aload_0 ∷ invokespecial 0 ∷ return ∷ [])
          []
          ∷ coded 0x0001 "f" "()I" 1 1
          (iconst_1 ∷ ireturn ∷ [])
          []
          ∷ [];
      references =
          a_method "java/lang/Object" "<init>" "()V"
          ∷ [];
    }

abbrev pub interface_call_s2 : WrittenClass
interface_call_s2 =
    record {
      major = 51;
      name = "S2";
      superclass = Some "java/lang/Object";
      interfaces = "S" ∷ [];
      flags = 0x0021;
      fields = [];
      methods =
          coded 0x0001 "<init>" "()V" 1 1
          (aload_0 ∷ invokespecial 0 ∷ return ∷ [])
          []
          ∷ coded 0x0001 "f" "()I" 1 1
          (iconst_2 ∷ ireturn ∷ [])
          []
          ∷ [];
      references =
          a_method "java/lang/Object" "<init>" "()V"
          ∷ [];
    }

-- a method selected by the class of the receiver
abbrev pub InterfaceCall : Type 0
InterfaceCall =
    report (interface_call_main ∷ interface_call_s ∷ interface_call_s1 ∷ interface_call_s2 ∷ []) (option "A" ∷ []) both 100 1
    ≡ record {
      version = 1;
      limit = 100;
      rounds = 26;
      pieces = piece Out (line "1") where_on ∷ piece Out (line "2") where_off ∷ [];
      ends = ended Return both ∷ [];
      attempts = [];
    }

abbrev pub default_method_s : WrittenClass
default_method_s =
    record {
      major = 52;
      name = "S";
      superclass = Some "java/lang/Object";
      interfaces = [];
      flags = 0x0601;
      fields = [];
      methods =
          coded 0x0001 "f" "()I" 1 1
          (iconst_4 ∷ ireturn ∷ [])
          []
          ∷ [];
      references =
          [];
    }

abbrev pub default_method_s1 : WrittenClass
default_method_s1 =
    record {
      major = 52;
      name = "S1";
      superclass = Some "java/lang/Object";
      interfaces = "S" ∷ [];
      flags = 0x0021;
      fields = [];
      methods =
          coded 0x0001 "<init>" "()V" 1 1
          (aload_0 ∷ invokespecial 0 ∷ return ∷ [])
          []
          ∷ [];
      references =
          a_method "java/lang/Object" "<init>" "()V"
          ∷ [];
    }

abbrev pub default_method_s2 : WrittenClass
default_method_s2 =
    record {
      major = 52;
      name = "S2";
      superclass = Some "java/lang/Object";
      interfaces = "S" ∷ [];
      flags = 0x0021;
      fields = [];
      methods =
          coded 0x0001 "<init>" "()V" 1 1
          (aload_0 ∷ invokespecial 0 ∷ return ∷ [])
          []
          ∷ coded 0x0001 "f" "()I" 1 1
          (iconst_2 ∷ ireturn ∷ [])
          []
          ∷ [];
      references =
          a_method "java/lang/Object" "<init>" "()V"
          ∷ [];
    }

-- a default method of an interface
abbrev pub DefaultMethod : Type 0
DefaultMethod =
    report (interface_call_main ∷ default_method_s ∷ default_method_s1 ∷ default_method_s2 ∷ []) (option "A" ∷ []) both 100 1
    ≡ record {
      version = 1;
      limit = 100;
      rounds = 26;
      pieces = piece Out (line "2") where_off ∷ piece Out (line "4") where_on ∷ [];
      ends = ended Return both ∷ [];
      attempts = [];
    }

abbrev pub conflicting_defaults_c : WrittenClass
conflicting_defaults_c =
    record {
      major = 52;
      name = "C";
      superclass = Some "java/lang/Object";
      interfaces = "I1" ∷ "I2" ∷ [];
      flags = 0x0021;
      fields = [];
      methods =
          coded 0x0001 "<init>" "()V" 1 1
          (aload_0 ∷ invokespecial 0 ∷ return ∷ [])
          []
          ∷ [];
      references =
          a_method "java/lang/Object" "<init>" "()V"
          ∷ [];
    }

abbrev pub conflicting_defaults_i1 : WrittenClass
conflicting_defaults_i1 =
    record {
      major = 52;
      name = "I1";
      superclass = Some "java/lang/Object";
      interfaces = [];
      flags = 0x0601;
      fields = [];
      methods =
          coded 0x0001 "f" "()I" 1 1
          (iconst_1 ∷ ireturn ∷ [])
          []
          ∷ [];
      references =
          [];
    }

abbrev pub conflicting_defaults_i2 : WrittenClass
conflicting_defaults_i2 =
    record {
      major = 52;
      name = "I2";
      superclass = Some "java/lang/Object";
      interfaces = [];
      flags = 0x0601;
      fields = [];
      methods =
          coded 0x0001 "f" "()I" 1 1
          (iconst_2 ∷ ireturn ∷ [])
          []
          ∷ [];
      references =
          [];
    }

abbrev pub conflicting_defaults_main : WrittenClass
conflicting_defaults_main =
    record {
      major = 51;
      name = "Main";
      superclass = Some "java/lang/Object";
      interfaces = [];
      flags = 0x0021;
      fields = [];
      methods =
          coded 0x0009 "main" "([Ljava/lang/String;)V" 6 8
          (new 0 ∷ dup ∷ invokespecial 1 ∷ invokeinterface 2 1 ∷ pop ∷ return ∷ [])
          []
          ∷ [];
      references =
          a_class "C"
          ∷ a_method "C" "<init>" "()V"
          ∷ an_interface_method "I1" "f" "()I"
          ∷ [];
    }

-- a conflict of default methods
abbrev pub ConflictingDefaults : Type 0
ConflictingDefaults =
    report (conflicting_defaults_c ∷ conflicting_defaults_i1 ∷ conflicting_defaults_i2 ∷ conflicting_defaults_main ∷ []) [] one_configuration 100 1
    ≡ record {
      version = 1;
      limit = 100;
      rounds = 7;
      pieces = [];
      ends = ended (Uncaught (codes "java/lang/IncompatibleClassChangeError")) one_configuration ∷ [];
      attempts = [];
    }

abbrev pub static_of_interface_i : WrittenClass
static_of_interface_i =
    record {
      major = 52;
      name = "I";
      superclass = Some "java/lang/Object";
      interfaces = [];
      flags = 0x0601;
      fields = [];
      methods =
          coded 0x0009 "g" "()I" 1 0
          (bipush 9 ∷ ireturn ∷ [])
          []
          ∷ [];
      references =
          [];
    }

abbrev pub static_of_interface_main : WrittenClass
static_of_interface_main =
    record {
      major = 51;
      name = "Main";
      superclass = Some "java/lang/Object";
      interfaces = [];
      flags = 0x0021;
      fields = [];
      methods =
          coded 0x0009 "main" "([Ljava/lang/String;)V" 6 8
          (getstatic 0 ∷ invokestatic 1 ∷ invokevirtual 2 ∷ return ∷ [])
          []
          ∷ [];
      references =
          a_field "java/lang/System" "out" "Ljava/io/PrintStream;"
          ∷ an_interface_method "I" "g" "()I"
          ∷ a_method "java/io/PrintStream" "println" "(I)V"
          ∷ [];
    }

-- a static method of an interface
abbrev pub StaticOfInterface : Type 0
StaticOfInterface =
    report (static_of_interface_i ∷ static_of_interface_main ∷ []) [] one_configuration 100 1
    ≡ record {
      version = 1;
      limit = 100;
      rounds = 6;
      pieces = piece Out (line "9") one_configuration ∷ [];
      ends = ended Return one_configuration ∷ [];
      attempts = [];
    }

abbrev pub special_above_base : WrittenClass
special_above_base =
    record {
      major = 51;
      name = "Base";
      superclass = Some "java/lang/Object";
      interfaces = [];
      flags = 0x0021;
      fields = [];
      methods =
          coded 0x0001 "<init>" "()V" 1 1
          (aload_0 ∷ invokespecial 0 ∷ return ∷ [])
          []
          ∷ coded 0x0001 "m" "()V" 0 1
          (return ∷ [])
          []
          ∷ [];
      references =
          a_method "java/lang/Object" "<init>" "()V"
          ∷ [];
    }

abbrev pub special_above_main : WrittenClass
special_above_main =
    record {
      major = 51;
      name = "Main";
      superclass = Some "Mid";
      interfaces = [];
      flags = 0x0021;
      fields = [];
      methods =
          coded 0x0009 "main" "([Ljava/lang/String;)V" 2 1
          (new 0 ∷ dup ∷ invokespecial 1 ∷ invokespecial 2 ∷ return ∷ [])
          []
          ∷ [];
      references =
          a_class "Base"
          ∷ a_method "Base" "<init>" "()V"
          ∷ a_method "Base" "m" "()V"
          ∷ [];
    }

abbrev pub special_above_mid : WrittenClass
special_above_mid =
    record {
      major = 51;
      name = "Mid";
      superclass = Some "Base";
      interfaces = [];
      flags = 0x0021;
      fields = record { name = "x"; descriptor = "I"; flags = 0x0000 } ∷ [];
      methods =
          coded 0x0001 "m" "()V" 1 1
          (aload_0 ∷ getfield 0 ∷ pop ∷ return ∷ [])
          []
          ∷ [];
      references =
          a_field "Mid" "x" "I"
          ∷ [];
    }

-- a special call of a superclass begins above the current class
abbrev pub SpecialAbove : Type 0
SpecialAbove =
    outcome (special_above_base ∷ special_above_main ∷ special_above_mid ∷ []) 1000 ≡ comes_to [] (Illegal (codes "Mid.m()V@1"))
