-- Initialisation of classes.
use Rattle.std.specs.Prelude.{Some, [], codes, ◌∷◌, ◌≡◌}
use Rattle.vx_computed.specs.Examples.{both, coded, comes_to, ended, line, option, outcome, piece, report, where_off, where_on}
use Rattle.vx_computed.specs.Mnemonics.{bipush, getstatic, iconst_0, iconst_1, iconst_2, iconst_5, idiv, isub, pop, putstatic, swap}
use Rattle.vx_link.specs.CoreTable.{aload_0, aload_1, astore_1, goto, ifeq, invokespecial, invokevirtual, new, return}
use Rattle.vx_link.specs.Written.{WrittenClass, a_class, a_field, a_method}
use Rattle.vx_value.specs.declared.end.End.TheVariants.{Return, Unsupported}
use Rattle.vx_value.specs.declared.end.Stream.TheVariants.{Out}

abbrev pub two_places_c : WrittenClass
two_places_c =
    record {
      major = 51;
      name = "C";
      superclass = Some "java/lang/Object";
      interfaces = [];
      flags = 0x0021;
      fields = record { name = "v"; descriptor = "I"; flags = 0x0008 } ∷ [];
      methods =
          coded 0x0008 "<clinit>" "()V" 3 0
          (getstatic 0 ∷ bipush 7 ∷ invokevirtual 1 ∷ iconst_1 ∷ putstatic 2 ∷ return ∷ [])
          []
          ∷ [];
      references =
          a_field "java/lang/System" "out" "Ljava/io/PrintStream;"
          ∷ a_method "java/io/PrintStream" "println" "(I)V"
          ∷ a_field "C" "v" "I"
          ∷ [];
    }

abbrev pub two_places_main : WrittenClass
two_places_main =
    record {
      major = 51;
      name = "Main";
      superclass = Some "java/lang/Object";
      interfaces = [];
      flags = 0x0021;
      fields = record { name = "A"; descriptor = "Z"; flags = 0x0009 } ∷ [];
      methods =
          coded 0x0009 "main" "([Ljava/lang/String;)V" 6 8
          (getstatic 0 ∷ ifeq 7 ∷ getstatic 1 ∷ pop ∷ getstatic 2 ∷ getstatic 1 ∷ invokevirtual 3 ∷ return ∷ [])
          []
          ∷ [];
      references =
          a_field "Main" "A" "Z"
          ∷ a_field "C" "v" "I"
          ∷ a_field "java/lang/System" "out" "Ljava/io/PrintStream;"
          ∷ a_method "java/io/PrintStream" "println" "(I)V"
          ∷ [];
    }

-- a class that is initialised at different places
abbrev pub TwoPlaces : Type 0
TwoPlaces =
    report (two_places_c ∷ two_places_main ∷ []) (option "A" ∷ []) both 100 1
    ≡ record {
      version = 1;
      limit = 100;
      rounds = 22;
      pieces = piece Out (line "7") where_on ∷ piece Out (line "7") where_off ∷ piece Out (line "1") both ∷ [];
      ends = ended Return both ∷ [];
      attempts = [];
    }

abbrev pub failing_initialiser_d : WrittenClass
failing_initialiser_d =
    record {
      major = 51;
      name = "D";
      superclass = Some "java/lang/Object";
      interfaces = [];
      flags = 0x0021;
      fields = record { name = "v"; descriptor = "I"; flags = 0x0008 } ∷ [];
      methods =
          coded 0x0008 "<clinit>" "()V" 3 0
          (iconst_1 ∷ iconst_1 ∷ getstatic 0 ∷ isub ∷ idiv ∷ putstatic 1 ∷ return ∷ [])
          []
          ∷ [];
      references =
          a_field "Main" "A" "Z"
          ∷ a_field "D" "v" "I"
          ∷ [];
    }

abbrev pub failing_initialiser_main : WrittenClass
failing_initialiser_main =
    record {
      major = 51;
      name = "Main";
      superclass = Some "java/lang/Object";
      interfaces = [];
      flags = 0x0021;
      fields = record { name = "A"; descriptor = "Z"; flags = 0x0009 } ∷ [];
      methods =
          coded 0x0009 "main" "([Ljava/lang/String;)V" 6 8
          (getstatic 0 ∷ pop ∷ goto 11 ∷ pop ∷ getstatic 1 ∷ iconst_5 ∷ invokevirtual 2 ∷ getstatic 0 ∷ pop ∷ goto 12
          ∷ pop ∷ getstatic 1 ∷ bipush 6 ∷ invokevirtual 2 ∷ return ∷ [])
          (record { start = 0; end = 4; handler = 7; class = Some 3 } ∷ record { start = 15; end = 19; handler = 22; class = Some 4 } ∷ [])
          ∷ [];
      references =
          a_field "D" "v" "I"
          ∷ a_field "java/lang/System" "out" "Ljava/io/PrintStream;"
          ∷ a_method "java/io/PrintStream" "println" "(I)V"
          ∷ a_class "java/lang/ExceptionInInitializerError"
          ∷ a_class "java/lang/NoClassDefFoundError"
          ∷ [];
    }

-- an initialiser that throws in one configuration
abbrev pub FailingInitialiser : Type 0
FailingInitialiser =
    report (failing_initialiser_d ∷ failing_initialiser_main ∷ []) (option "A" ∷ []) both 100 1
    ≡ record {
      version = 1;
      limit = 100;
      rounds = 23;
      pieces = piece Out (line "5") where_on ∷ piece Out (line "6") where_on ∷ [];
      ends = ended Return both ∷ [];
      attempts = [];
    }

abbrev pub option_initialiser_main : WrittenClass
option_initialiser_main =
    record {
      major = 51;
      name = "Main";
      superclass = Some "java/lang/Object";
      interfaces = [];
      flags = 0x0021;
      fields = record { name = "A"; descriptor = "Z"; flags = 0x0009 } ∷ [];
      methods =
          coded 0x0008 "<clinit>" "()V" 4 4
          (iconst_0 ∷ putstatic 0 ∷ return ∷ [])
          []
          ∷ coded 0x0009 "main" "([Ljava/lang/String;)V" 6 8
          (getstatic 1 ∷ getstatic 0 ∷ invokevirtual 2 ∷ iconst_0 ∷ putstatic 0 ∷ getstatic 1 ∷ getstatic 0
          ∷ invokevirtual 2 ∷ return ∷ [])
          []
          ∷ [];
      references =
          a_field "Main" "A" "Z"
          ∷ a_field "java/lang/System" "out" "Ljava/io/PrintStream;"
          ∷ a_method "java/io/PrintStream" "println" "(I)V"
          ∷ [];
    }

-- the initialiser of the class of an option keeps it
abbrev pub OptionInitialiser : Type 0
OptionInitialiser =
    report (option_initialiser_main ∷ []) (option "A" ∷ []) both 100 1
    ≡ record {
      version = 1;
      limit = 100;
      rounds = 12;
      pieces = piece Out (line "0") where_off ∷ piece Out (line "1") where_on ∷ piece Out (line "0") both ∷ [];
      ends = ended Return both ∷ [];
      attempts = [];
    }

abbrev pub superclass_first_b : WrittenClass
superclass_first_b =
    record {
      major = 51;
      name = "B";
      superclass = Some "java/lang/Object";
      interfaces = [];
      flags = 0x0021;
      fields = [];
      methods =
          coded 0x0001 "<init>" "()V" 1 1
          (aload_0 ∷ invokespecial 0 ∷ return ∷ [])
          []
          ∷ coded 0x0008 "<clinit>" "()V" 2 0
          (getstatic 1 ∷ iconst_1 ∷ invokevirtual 2 ∷ return ∷ [])
          []
          ∷ [];
      references =
          a_method "java/lang/Object" "<init>" "()V"
          ∷ a_field "java/lang/System" "out" "Ljava/io/PrintStream;"
          ∷ a_method "java/io/PrintStream" "println" "(I)V"
          ∷ [];
    }

abbrev pub superclass_first_c : WrittenClass
superclass_first_c =
    record {
      major = 51;
      name = "C";
      superclass = Some "B";
      interfaces = [];
      flags = 0x0021;
      fields = [];
      methods =
          coded 0x0001 "<init>" "()V" 1 1
          (aload_0 ∷ invokespecial 0 ∷ return ∷ [])
          []
          ∷ coded 0x0008 "<clinit>" "()V" 2 0
          (getstatic 1 ∷ iconst_2 ∷ invokevirtual 2 ∷ return ∷ [])
          []
          ∷ [];
      references =
          a_method "java/lang/Object" "<init>" "()V"
          ∷ a_field "java/lang/System" "out" "Ljava/io/PrintStream;"
          ∷ a_method "java/io/PrintStream" "println" "(I)V"
          ∷ [];
    }

abbrev pub superclass_first_main : WrittenClass
superclass_first_main =
    record {
      major = 51;
      name = "Main";
      superclass = Some "java/lang/Object";
      interfaces = [];
      flags = 0x0021;
      fields = [];
      methods =
          coded 0x0009 "main" "([Ljava/lang/String;)V" 6 8
          (new 0 ∷ pop ∷ bipush 9 ∷ getstatic 1 ∷ swap ∷ invokevirtual 2 ∷ return ∷ [])
          []
          ∷ [];
      references =
          a_class "C"
          ∷ a_field "java/lang/System" "out" "Ljava/io/PrintStream;"
          ∷ a_method "java/io/PrintStream" "println" "(I)V"
          ∷ [];
    }

-- the superclass is initialised first
abbrev pub SuperclassFirst : Type 0
SuperclassFirst =
    outcome (superclass_first_b ∷ superclass_first_c ∷ superclass_first_main ∷ []) 1000 ≡ comes_to ("1" ∷ "2" ∷ "9" ∷ []) Return

abbrev pub wrapped_exception_main : WrittenClass
wrapped_exception_main =
    record {
      major = 51;
      name = "Main";
      superclass = Some "java/lang/Object";
      interfaces = [];
      flags = 0x0021;
      fields = [];
      methods =
          coded 0x0009 "main" "([Ljava/lang/String;)V" 6 8
          (getstatic 0 ∷ pop ∷ return ∷ astore_1 ∷ getstatic 1 ∷ aload_1 ∷ invokevirtual 2 ∷ getstatic 1 ∷ aload_1
          ∷ invokevirtual 3 ∷ invokevirtual 2 ∷ getstatic 0 ∷ pop ∷ return ∷ pop ∷ getstatic 1 ∷ bipush 6
          ∷ invokevirtual 4 ∷ return ∷ [])
          (record { start = 0; end = 4; handler = 5; class = Some 5 } ∷ record { start = 23; end = 27; handler = 28; class = Some 6 } ∷ [])
          ∷ [];
      references =
          a_field "Q" "w" "I"
          ∷ a_field "java/lang/System" "out" "Ljava/io/PrintStream;"
          ∷ a_method "java/io/PrintStream" "println" "(Ljava/lang/Object;)V"
          ∷ a_method "java/lang/Throwable" "getCause" "()Ljava/lang/Throwable;"
          ∷ a_method "java/io/PrintStream" "println" "(I)V"
          ∷ a_class "java/lang/Error"
          ∷ a_class "java/lang/NoClassDefFoundError"
          ∷ [];
    }

abbrev pub wrapped_exception_p : WrittenClass
wrapped_exception_p =
    record {
      major = 51;
      name = "P";
      superclass = Some "java/lang/Object";
      interfaces = [];
      flags = 0x0021;
      fields = record { name = "v"; descriptor = "I"; flags = 0x0008 } ∷ [];
      methods =
          coded 0x0008 "<clinit>" "()V" 2 0
          (iconst_1 ∷ iconst_0 ∷ idiv ∷ putstatic 0 ∷ return ∷ [])
          []
          ∷ [];
      references =
          a_field "P" "v" "I"
          ∷ [];
    }

abbrev pub wrapped_exception_q : WrittenClass
wrapped_exception_q =
    record {
      major = 51;
      name = "Q";
      superclass = Some "P";
      interfaces = [];
      flags = 0x0021;
      fields = record { name = "w"; descriptor = "I"; flags = 0x0008 } ∷ [];
      methods =
          coded 0x0008 "<clinit>" "()V" 2 0
          (iconst_1 ∷ putstatic 0 ∷ return ∷ [])
          []
          ∷ [];
      references =
          a_field "Q" "w" "I"
          ∷ [];
    }

-- an exception that leaves two initialisations
abbrev pub WrappedException : Type 0
WrappedException =
    outcome (wrapped_exception_main ∷ wrapped_exception_p ∷ wrapped_exception_q ∷ []) 1000 ≡ comes_to ("java.lang.ExceptionInInitializerError" ∷ "java.lang.ArithmeticException: / by zero" ∷ "6" ∷ []) Return

abbrev pub blocking_interface_c : WrittenClass
blocking_interface_c =
    record {
      major = 51;
      name = "C";
      superclass = Some "java/lang/Object";
      interfaces = "J" ∷ [];
      flags = 0x0021;
      fields = [];
      methods =
          coded 0x0001 "<init>" "()V" 1 1
          (aload_0 ∷ invokespecial 0 ∷ return ∷ [])
          []
          ∷ [];
      references =
          a_method "java/lang/Object" "<init>" "()V"
          ∷ [];
    }

abbrev pub blocking_interface_j : WrittenClass
blocking_interface_j =
    record {
      major = 52;
      name = "J";
      superclass = Some "java/lang/Object";
      interfaces = [];
      flags = 0x0601;
      fields = [];
      methods =
          coded 0x0008 "<clinit>" "()V" 0 0
          (return ∷ [])
          []
          ∷ coded 0x0001 "f" "()V" 0 1
          (return ∷ [])
          []
          ∷ [];
      references =
          [];
    }

abbrev pub blocking_interface_main : WrittenClass
blocking_interface_main =
    record {
      major = 51;
      name = "Main";
      superclass = Some "java/lang/Object";
      interfaces = [];
      flags = 0x0021;
      fields = [];
      methods =
          coded 0x0009 "main" "([Ljava/lang/String;)V" 6 8
          (new 0 ∷ pop ∷ return ∷ [])
          []
          ∷ [];
      references =
          a_class "C"
          ∷ [];
    }

-- a blocking interface
abbrev pub BlockingInterface : Type 0
BlockingInterface =
    outcome (blocking_interface_c ∷ blocking_interface_j ∷ blocking_interface_main ∷ []) 1000 ≡ comes_to [] (Unsupported 6 (codes "J") (codes "Main.main([Ljava/lang/String;)V@0"))
