-- The faults of linking.
use Rattle.std.specs.Prelude.{None, Some, [], codes, ◌∷◌, ◌≡◌}
use Rattle.vx_computed.specs.Examples.{coded, fault, option}
use Rattle.vx_link.specs.CoreTable.{return}
use Rattle.vx_link.specs.Written.{WrittenClass}
use Rattle.vx_link.specs.declared.fault.LinkFault.TheVariants.{Cycle, FinalSuper, NoMain, NoOption, NoSuper, Twice}

abbrev pub no_fault_0 : WrittenClass
no_fault_0 =
    record {
      major = 51;
      name = "Main";
      superclass = Some "java/lang/Object";
      interfaces = [];
      flags = 0x0021;
      fields = record { name = "A"; descriptor = "Z"; flags = 0x0009 } ∷ [];
      methods =
          coded 0x0009 "main" "([Ljava/lang/String;)V" 1 1
          (return ∷ [])
          []
          ∷ [];
      references =
          [];
    }

-- classes that link
abbrev pub NoFault : Type 0
NoFault =
    fault (no_fault_0 ∷ []) (option "A" ∷ []) ≡ None

abbrev pub empty_main : WrittenClass
empty_main =
    record {
      major = 51;
      name = "Main";
      superclass = Some "java/lang/Object";
      interfaces = [];
      flags = 0x0021;
      fields = [];
      methods =
          coded 0x0009 "main" "([Ljava/lang/String;)V" 1 1
          (return ∷ [])
          []
          ∷ [];
      references =
          [];
    }

-- two files of one class
abbrev pub TwiceNamed : Type 0
TwiceNamed =
    fault (empty_main ∷ empty_main ∷ []) [] ≡ Some (Twice (codes "Main"))

abbrev pub gone_superclass_0 : WrittenClass
gone_superclass_0 =
    record {
      major = 51;
      name = "Main";
      superclass = Some "Gone";
      interfaces = [];
      flags = 0x0021;
      fields = [];
      methods =
          coded 0x0009 "main" "([Ljava/lang/String;)V" 1 1
          (return ∷ [])
          []
          ∷ [];
      references =
          [];
    }

-- a superclass that is not there
abbrev pub GoneSuperclass : Type 0
GoneSuperclass =
    fault (gone_superclass_0 ∷ []) [] ≡ Some (NoSuper (codes "Main"))

abbrev pub interface_as_superclass_0 : WrittenClass
interface_as_superclass_0 =
    record {
      major = 51;
      name = "Main";
      superclass = Some "java/lang/Runnable";
      interfaces = [];
      flags = 0x0021;
      fields = [];
      methods =
          coded 0x0009 "main" "([Ljava/lang/String;)V" 1 1
          (return ∷ [])
          []
          ∷ [];
      references =
          [];
    }

-- a superclass that is an interface
abbrev pub InterfaceAsSuperclass : Type 0
InterfaceAsSuperclass =
    fault (interface_as_superclass_0 ∷ []) [] ≡ Some (NoSuper (codes "Main"))

abbrev pub own_ancestors_1 : WrittenClass
own_ancestors_1 =
    record {
      major = 51;
      name = "P";
      superclass = Some "Q";
      interfaces = [];
      flags = 0x0021;
      fields = [];
      methods =
          [];
      references =
          [];
    }

abbrev pub own_ancestors_2 : WrittenClass
own_ancestors_2 =
    record {
      major = 51;
      name = "Q";
      superclass = Some "P";
      interfaces = [];
      flags = 0x0021;
      fields = [];
      methods =
          [];
      references =
          [];
    }

-- two classes that extend each other
abbrev pub OwnAncestors : Type 0
OwnAncestors =
    fault (empty_main ∷ own_ancestors_1 ∷ own_ancestors_2 ∷ []) [] ≡ Some (Cycle (codes "P"))

abbrev pub final_superclass_0 : WrittenClass
final_superclass_0 =
    record {
      major = 51;
      name = "Main";
      superclass = Some "java/lang/String";
      interfaces = [];
      flags = 0x0021;
      fields = [];
      methods =
          coded 0x0009 "main" "([Ljava/lang/String;)V" 1 1
          (return ∷ [])
          []
          ∷ [];
      references =
          [];
    }

-- a final superclass
abbrev pub FinalSuperclass : Type 0
FinalSuperclass =
    fault (final_superclass_0 ∷ []) [] ≡ Some (FinalSuper (codes "Main"))

-- an option without a field
abbrev pub OptionWithoutField : Type 0
OptionWithoutField =
    fault (empty_main ∷ []) (option "A" ∷ []) ≡ Some (NoOption (codes "A"))

abbrev pub without_main_0 : WrittenClass
without_main_0 =
    record {
      major = 51;
      name = "Main";
      superclass = Some "java/lang/Object";
      interfaces = [];
      flags = 0x0021;
      fields = [];
      methods =
          [];
      references =
          [];
    }

-- no main
abbrev pub WithoutMain : Type 0
WithoutMain =
    fault (without_main_0 ∷ []) [] ≡ Some NoMain
