-- What the rules leave open, or say in two ways, by an example for each.
use Rattle.std.specs.Prelude.{None, Some, [], codes, ◌∷◌, ◌≡◌}
use Rattle.vx_computed.specs.Examples.{coded, comes_to, ended, one_configuration, outcome, report, spent, uncoded}
use Rattle.vx_computed.specs.Initialisers.{blocking_interface_j}
use Rattle.vx_computed.specs.Mnemonics.{athrow, bipush, getstatic, iconst_0, iconst_1, iconst_2, iconst_m1, if_acmpeq, if_acmpne, imul, invokeinterface, multianewarray, nop, pop, sipush}
use Rattle.vx_link.specs.CoreTable.{aconst_null, checkcast, dup, instanceof, invokespecial, invokestatic, invokevirtual, ireturn, new, return}
use Rattle.vx_link.specs.Written.{WrittenClass, a_class, a_field, a_method, a_text, an_interface_method, ldc}
use Rattle.vx_value.specs.declared.end.End.TheVariants.{Illegal, Return, Uncaught, Unsupported}

abbrev pub zero_before_large_main : WrittenClass
zero_before_large_main =
    record {
      major = 51;
      name = "Main";
      superclass = Some "java/lang/Object";
      interfaces = [];
      flags = 0x0021;
      fields = [];
      methods =
          coded 0x0009 "main" "([Ljava/lang/String;)V" 6 8
          (iconst_0 ∷ sipush 20000 ∷ bipush 100 ∷ imul ∷ multianewarray 0 2 ∷ pop ∷ return ∷ [])
          []
          ∷ [];
      references =
          a_class "[[I"
          ∷ [];
    }

-- a length above the bound, behind a length of 0
abbrev pub ZeroBeforeLarge : Type 0
ZeroBeforeLarge =
    outcome (zero_before_large_main ∷ []) 1000 ≡ comes_to [] (Uncaught (codes "java/lang/OutOfMemoryError"))

abbrev pub handler_without_room_main : WrittenClass
handler_without_room_main =
    record {
      major = 51;
      name = "Main";
      superclass = Some "java/lang/Object";
      interfaces = [];
      flags = 0x0021;
      fields = [];
      methods =
          coded 0x0009 "main" "([Ljava/lang/String;)V" 0 1
          (invokestatic 0 ∷ return ∷ nop ∷ checkcast 1 ∷ invokestatic 2 ∷ return ∷ [])
          (record { start = 0; end = 3; handler = 4; class = None } ∷ [])
          ∷ coded 0x0009 "t" "()V" 1 0
          (aconst_null ∷ athrow ∷ [])
          []
          ∷ coded 0x0009 "p" "(Ljava/lang/Throwable;)V" 2 1
          (getstatic 3 ∷ iconst_1 ∷ invokevirtual 4 ∷ return ∷ [])
          []
          ∷ [];
      references =
          a_method "Main" "t" "()V"
          ∷ a_class "java/lang/Throwable"
          ∷ a_method "Main" "p" "(Ljava/lang/Throwable;)V"
          ∷ a_field "java/lang/System" "out" "Ljava/io/PrintStream;"
          ∷ a_method "java/io/PrintStream" "println" "(I)V"
          ∷ [];
    }

-- a handler whose method has no room on its stack goes on with what pushes nothing
abbrev pub HandlerWithoutRoom : Type 0
HandlerWithoutRoom =
    outcome (handler_without_room_main ∷ []) 1000 ≡ comes_to ("1" ∷ []) Return

abbrev pub push_without_room_main : WrittenClass
push_without_room_main =
    record {
      major = 51;
      name = "Main";
      superclass = Some "java/lang/Object";
      interfaces = [];
      flags = 0x0021;
      fields = [];
      methods =
          coded 0x0009 "main" "([Ljava/lang/String;)V" 0 1
          (invokestatic 0 ∷ return ∷ nop ∷ instanceof 1 ∷ pop ∷ return ∷ [])
          (record { start = 0; end = 3; handler = 4; class = None } ∷ [])
          ∷ coded 0x0009 "t" "()V" 1 0
          (aconst_null ∷ athrow ∷ [])
          []
          ∷ [];
      references =
          a_method "Main" "t" "()V"
          ∷ a_class "java/lang/Throwable"
          ∷ [];
    }

-- and ends at the next push
abbrev pub PushWithoutRoom : Type 0
PushWithoutRoom =
    outcome (push_without_room_main ∷ []) 1000 ≡ comes_to [] (Illegal (codes "Main.main([Ljava/lang/String;)V@5"))

abbrev pub result_without_room_main : WrittenClass
result_without_room_main =
    record {
      major = 51;
      name = "Main";
      superclass = Some "java/lang/Object";
      interfaces = [];
      flags = 0x0021;
      fields = [];
      methods =
          coded 0x0009 "main" "([Ljava/lang/String;)V" 0 1
          (invokestatic 0 ∷ return ∷ [])
          []
          ∷ coded 0x0009 "f" "()I" 1 0
          (iconst_1 ∷ ireturn ∷ [])
          []
          ∷ [];
      references =
          a_method "Main" "f" "()I"
          ∷ [];
    }

-- a result that does not fit in the caller
abbrev pub ResultWithoutRoom : Type 0
ResultWithoutRoom =
    outcome (result_without_room_main ∷ []) 1000 ≡ comes_to [] (Illegal (codes "Main.f()I@1"))

abbrev pub abstract_static_c : WrittenClass
abstract_static_c =
    record {
      major = 51;
      name = "C";
      superclass = Some "java/lang/Object";
      interfaces = [];
      flags = 0x0421;
      fields = [];
      methods =
          coded 0x0008 "<clinit>" "()V" 2 0
          (getstatic 0 ∷ iconst_1 ∷ invokevirtual 1 ∷ return ∷ [])
          []
          ∷ uncoded 0x0409 "s" "()V"
          ∷ [];
      references =
          a_field "java/lang/System" "out" "Ljava/io/PrintStream;"
          ∷ a_method "java/io/PrintStream" "println" "(I)V"
          ∷ [];
    }

abbrev pub abstract_static_main : WrittenClass
abstract_static_main =
    record {
      major = 51;
      name = "Main";
      superclass = Some "java/lang/Object";
      interfaces = [];
      flags = 0x0021;
      fields = [];
      methods =
          coded 0x0009 "main" "([Ljava/lang/String;)V" 6 8
          (invokestatic 0 ∷ return ∷ [])
          []
          ∷ [];
      references =
          a_method "C" "s" "()V"
          ∷ [];
    }

-- a static method that is abstract, after its class is initialised
abbrev pub AbstractStatic : Type 0
AbstractStatic =
    outcome (abstract_static_c ∷ abstract_static_main ∷ []) 1000 ≡ comes_to ("1" ∷ []) (Uncaught (codes "java/lang/AbstractMethodError"))

abbrev pub gone_class_of_int_main : WrittenClass
gone_class_of_int_main =
    record {
      major = 51;
      name = "Main";
      superclass = Some "java/lang/Object";
      interfaces = [];
      flags = 0x0021;
      fields = [];
      methods =
          coded 0x0009 "main" "([Ljava/lang/String;)V" 6 8
          (iconst_1 ∷ instanceof 0 ∷ pop ∷ return ∷ [])
          []
          ∷ [];
      references =
          a_class "Gone"
          ∷ [];
    }

-- the class is looked for before the operand is
abbrev pub GoneClassOfInt : Type 0
GoneClassOfInt =
    outcome (gone_class_of_int_main ∷ []) 1000 ≡ comes_to [] (Unsupported 6 (codes "Gone") (codes "Main.main([Ljava/lang/String;)V@1"))

abbrev pub int_against_class_main : WrittenClass
int_against_class_main =
    record {
      major = 51;
      name = "Main";
      superclass = Some "java/lang/Object";
      interfaces = [];
      flags = 0x0021;
      fields = [];
      methods =
          coded 0x0009 "main" "([Ljava/lang/String;)V" 6 8
          (iconst_1 ∷ instanceof 0 ∷ pop ∷ return ∷ [])
          []
          ∷ [];
      references =
          a_class "java/lang/Object"
          ∷ [];
    }

-- and where it is there, an int is illegal
abbrev pub IntAgainstClass : Type 0
IntAgainstClass =
    outcome (int_against_class_main ∷ []) 1000 ≡ comes_to [] (Illegal (codes "Main.main([Ljava/lang/String;)V@1"))

abbrev pub gone_class_object_main : WrittenClass
gone_class_object_main =
    record {
      major = 51;
      name = "Main";
      superclass = Some "java/lang/Object";
      interfaces = [];
      flags = 0x0021;
      fields = [];
      methods =
          coded 0x0009 "main" "([Ljava/lang/String;)V" 6 8
          (ldc 0 ∷ pop ∷ return ∷ [])
          []
          ∷ [];
      references =
          a_class "Gone"
          ∷ [];
    }

-- a class object of a class that is not there
abbrev pub GoneClassObject : Type 0
GoneClassObject =
    outcome (gone_class_object_main ∷ []) 1000 ≡ comes_to [] (Unsupported 6 (codes "Gone") (codes "Main.main([Ljava/lang/String;)V@0"))

abbrev pub negative_capacity_main : WrittenClass
negative_capacity_main =
    record {
      major = 51;
      name = "Main";
      superclass = Some "java/lang/Object";
      interfaces = [];
      flags = 0x0021;
      fields = [];
      methods =
          coded 0x0009 "main" "([Ljava/lang/String;)V" 6 8
          (new 0 ∷ dup ∷ iconst_m1 ∷ invokespecial 1 ∷ pop ∷ return ∷ [])
          []
          ∷ [];
      references =
          a_class "java/lang/StringBuilder"
          ∷ a_method "java/lang/StringBuilder" "<init>" "(I)V"
          ∷ [];
    }

-- a builder of a negative capacity
abbrev pub NegativeCapacity : Type 0
NegativeCapacity =
    outcome (negative_capacity_main ∷ []) 1000 ≡ comes_to [] (Uncaught (codes "java/lang/NegativeArraySizeException"))

abbrev pub interface_of_array_main : WrittenClass
interface_of_array_main =
    record {
      major = 51;
      name = "Main";
      superclass = Some "java/lang/Object";
      interfaces = [];
      flags = 0x0021;
      fields = [];
      methods =
          coded 0x0009 "main" "([Ljava/lang/String;)V" 6 8
          (aconst_null ∷ invokeinterface 0 1 ∷ pop ∷ return ∷ [])
          []
          ∷ [];
      references =
          an_interface_method "[I" "size" "()I"
          ∷ [];
    }

-- an InterfaceMethodref that names an array class
abbrev pub InterfaceOfArray : Type 0
InterfaceOfArray =
    outcome (interface_of_array_main ∷ []) 1000 ≡ comes_to [] (Uncaught (codes "java/lang/IncompatibleClassChangeError"))

abbrev pub static_clone_main : WrittenClass
static_clone_main =
    record {
      major = 51;
      name = "Main";
      superclass = Some "java/lang/Object";
      interfaces = [];
      flags = 0x0021;
      fields = [];
      methods =
          coded 0x0009 "main" "([Ljava/lang/String;)V" 6 8
          (invokestatic 0 ∷ pop ∷ return ∷ [])
          []
          ∷ [];
      references =
          a_method "[I" "clone" "()Ljava/lang/Object;"
          ∷ [];
    }

-- a static call of the clone of an array
abbrev pub StaticClone : Type 0
StaticClone =
    outcome (static_clone_main ∷ []) 1000 ≡ comes_to [] (Uncaught (codes "java/lang/IncompatibleClassChangeError"))

abbrev pub null_before_argument_main : WrittenClass
null_before_argument_main =
    record {
      major = 51;
      name = "Main";
      superclass = Some "java/lang/Object";
      interfaces = [];
      flags = 0x0021;
      fields = [];
      methods =
          coded 0x0009 "main" "([Ljava/lang/String;)V" 6 8
          (aconst_null ∷ new 0 ∷ invokevirtual 1 ∷ pop ∷ return ∷ [])
          []
          ∷ [];
      references =
          a_class "java/lang/Object"
          ∷ a_method "java/lang/String" "concat" "(Ljava/lang/String;)Ljava/lang/String;"
          ∷ [];
    }

-- a null receiver of a native method, with an argument of a wrong class
abbrev pub NullBeforeArgument : Type 0
NullBeforeArgument =
    outcome (null_before_argument_main ∷ []) 1000 ≡ comes_to [] (Uncaught (codes "java/lang/NullPointerException"))

abbrev pub argument_of_wrong_class_main : WrittenClass
argument_of_wrong_class_main =
    record {
      major = 51;
      name = "Main";
      superclass = Some "java/lang/Object";
      interfaces = [];
      flags = 0x0021;
      fields = [];
      methods =
          coded 0x0009 "main" "([Ljava/lang/String;)V" 6 8
          (ldc 0 ∷ new 1 ∷ invokevirtual 2 ∷ pop ∷ return ∷ [])
          []
          ∷ [];
      references =
          a_text "a"
          ∷ a_class "java/lang/Object"
          ∷ a_method "java/lang/String" "concat" "(Ljava/lang/String;)Ljava/lang/String;"
          ∷ [];
    }

-- and a receiver that is there
abbrev pub ArgumentOfWrongClass : Type 0
ArgumentOfWrongClass =
    outcome (argument_of_wrong_class_main ∷ []) 1000 ≡ comes_to [] (Illegal (codes "Main.main([Ljava/lang/String;)V@5"))

abbrev pub double_argument_main : WrittenClass
double_argument_main =
    record {
      major = 51;
      name = "Main";
      superclass = Some "java/lang/Object";
      interfaces = [];
      flags = 0x0021;
      fields = [];
      methods =
          coded 0x0009 "main" "([Ljava/lang/String;)V" 6 8
          (nop ∷ invokestatic 0 ∷ return ∷ [])
          []
          ∷ coded 0x0009 "g" "(D)V" 0 2
          (return ∷ [])
          []
          ∷ [];
      references =
          a_method "Main" "g" "(D)V"
          ∷ [];
    }

-- no value is a double
abbrev pub DoubleArgument : Type 0
DoubleArgument =
    outcome (double_argument_main ∷ []) 1000 ≡ comes_to [] (Illegal (codes "Main.main([Ljava/lang/String;)V@1"))

abbrev pub own_text_main : WrittenClass
own_text_main =
    record {
      major = 51;
      name = "Main";
      superclass = Some "java/lang/Object";
      interfaces = [];
      flags = 0x0021;
      fields = [];
      methods =
          coded 0x0009 "main" "([Ljava/lang/String;)V" 6 8
          (ldc 0 ∷ dup ∷ invokevirtual 1 ∷ if_acmpne 10 ∷ getstatic 2 ∷ iconst_1 ∷ invokevirtual 3 ∷ ldc 0 ∷ dup
          ∷ iconst_0 ∷ invokevirtual 4 ∷ if_acmpeq 10 ∷ getstatic 2 ∷ iconst_2 ∷ invokevirtual 3 ∷ return ∷ [])
          []
          ∷ [];
      references =
          a_text "a"
          ∷ a_method "java/lang/String" "toString" "()Ljava/lang/String;"
          ∷ a_field "java/lang/System" "out" "Ljava/io/PrintStream;"
          ∷ a_method "java/io/PrintStream" "println" "(I)V"
          ∷ a_method "java/lang/String" "substring" "(I)Ljava/lang/String;"
          ∷ [];
    }

-- toString of a String is itself, substring a new one
abbrev pub OwnText : Type 0
OwnText =
    outcome (own_text_main ∷ []) 1000 ≡ comes_to ("1" ∷ "2" ∷ []) Return

abbrev pub blocked_main_main : WrittenClass
blocked_main_main =
    record {
      major = 52;
      name = "Main";
      superclass = Some "java/lang/Object";
      interfaces = "J" ∷ [];
      flags = 0x0021;
      fields = [];
      methods =
          coded 0x0009 "main" "([Ljava/lang/String;)V" 1 1
          (return ∷ [])
          []
          ∷ [];
      references =
          [];
    }

-- a blocking interface of the main class: the run has ended at its start
abbrev pub BlockedMain : Type 0
BlockedMain =
    report (blocking_interface_j ∷ blocked_main_main ∷ []) [] one_configuration 100 2
    ≡ record {
      version = 2;
      limit = 100;
      rounds = 0;
      pieces = [];
      ends = ended (Unsupported 6 (codes "J") (codes "Main.main([Ljava/lang/String;)V@0")) one_configuration ∷ [];
      attempts = spent 0 one_configuration ∷ [];
    }
