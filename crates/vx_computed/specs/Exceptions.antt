-- Exceptions, handlers and exits.
use Rattle.std.specs.Prelude.{List, None, Some, [], codes, false, pos, true, ◌∷◌, ◌≡◌}
use Rattle.vx_computed.specs.Examples.{both, coded, comes_to, ended, last_frames, line, option, outcome, piece, report, where_off, where_on}
use Rattle.vx_computed.specs.Mnemonics.{athrow, getstatic, iaload, iconst_0, iconst_1, iconst_2, iconst_3, iconst_m1, idiv, ifne, iload_0, imul, newarray, pop}
use Rattle.vx_java.specs.Step.{Config}
use Rattle.vx_link.specs.CoreTable.{aconst_null, aload_1, astore_1, dup, ifeq, invokespecial, invokestatic, invokevirtual, ireturn, new, return}
use Rattle.vx_link.specs.Written.{WrittenClass, a_class, a_field, a_method, a_text, ldc}
use Rattle.vx_value.specs.declared.end.End.TheVariants.{Exit, Return, Uncaught}
use Rattle.vx_value.specs.declared.end.Stream.TheVariants.{Out}

abbrev pub two_exceptions_main : WrittenClass
two_exceptions_main =
    record {
      major = 51;
      name = "Main";
      superclass = Some "java/lang/Object";
      interfaces = [];
      flags = 0x0021;
      fields = record { name = "A"; descriptor = "Z"; flags = 0x0009 } ∷ record { name = "B"; descriptor = "Z"; flags = 0x0009 } ∷ [];
      methods =
          coded 0x0009 "main" "([Ljava/lang/String;)V" 6 8
          (aconst_null ∷ astore_1 ∷ getstatic 0 ∷ ifne 7 ∷ iconst_2 ∷ newarray 10 ∷ astore_1 ∷ getstatic 1 ∷ aload_1
          ∷ getstatic 2 ∷ iconst_2 ∷ imul ∷ iaload ∷ invokevirtual 3 ∷ return ∷ pop ∷ getstatic 1 ∷ iconst_m1
          ∷ invokevirtual 3 ∷ return ∷ astore_1 ∷ getstatic 1 ∷ aload_1 ∷ invokevirtual 4 ∷ invokevirtual 5 ∷ return
          ∷ [])
          (record { start = 21; end = 22; handler = 26; class = Some 6 } ∷ record { start = 21; end = 22; handler = 35; class = Some 7 } ∷ [])
          ∷ [];
      references =
          a_field "Main" "A" "Z"
          ∷ a_field "java/lang/System" "out" "Ljava/io/PrintStream;"
          ∷ a_field "Main" "B" "Z"
          ∷ a_method "java/io/PrintStream" "println" "(I)V"
          ∷ a_method "java/lang/Throwable" "getMessage" "()Ljava/lang/String;"
          ∷ a_method "java/io/PrintStream" "println" "(Ljava/lang/String;)V"
          ∷ a_class "java/lang/NullPointerException"
          ∷ a_class "java/lang/ArrayIndexOutOfBoundsException"
          ∷ [];
    }

abbrev pub two_exceptions_allowed : List Config
two_exceptions_allowed = (false ∷ false ∷ []) ∷ (false ∷ true ∷ []) ∷ (true ∷ false ∷ []) ∷ []

-- two exceptions at one instruction, each with its handler
abbrev pub TwoExceptions : Type 0
TwoExceptions =
    report (two_exceptions_main ∷ []) (option "A" ∷ option "B" ∷ []) two_exceptions_allowed 100 1
    ≡ record {
      version = 1;
      limit = 100;
      rounds = 26;
      pieces = piece Out (line "0") ((false ∷ false ∷ []) ∷ []) ∷ piece Out (line "-1") ((true ∷ false ∷ []) ∷ []) ∷ piece Out (line "2") ((false ∷ true ∷ []) ∷ []) ∷ [];
      ends = ended Return two_exceptions_allowed ∷ [];
      attempts = [];
    }

abbrev pub exit_and_uncaught_main : WrittenClass
exit_and_uncaught_main =
    record {
      major = 51;
      name = "Main";
      superclass = Some "java/lang/Object";
      interfaces = [];
      flags = 0x0021;
      fields = record { name = "A"; descriptor = "Z"; flags = 0x0009 } ∷ [];
      methods =
          coded 0x0009 "main" "([Ljava/lang/String;)V" 6 8
          (getstatic 0 ∷ ifeq 7 ∷ iconst_1 ∷ iconst_0 ∷ idiv ∷ pop ∷ iconst_3 ∷ invokestatic 1 ∷ return ∷ [])
          []
          ∷ [];
      references =
          a_field "Main" "A" "Z"
          ∷ a_method "java/lang/System" "exit" "(I)V"
          ∷ [];
    }

-- an exit, and an exception that nothing catches
abbrev pub ExitAndUncaught : Type 0
ExitAndUncaught =
    report (exit_and_uncaught_main ∷ []) (option "A" ∷ []) both 100 1
    ≡ record {
      version = 1;
      limit = 100;
      rounds = 7;
      pieces = [];
      ends = ended (Exit (pos 3)) where_off ∷ ended (Uncaught (codes "java/lang/ArithmeticException")) where_on ∷ [];
      attempts = [];
    }

abbrev pub printed_exception_main : WrittenClass
printed_exception_main =
    record {
      major = 51;
      name = "Main";
      superclass = Some "java/lang/Object";
      interfaces = [];
      flags = 0x0021;
      fields = [];
      methods =
          coded 0x0009 "main" "([Ljava/lang/String;)V" 6 8
          (iconst_1 ∷ iconst_0 ∷ idiv ∷ pop ∷ return ∷ astore_1 ∷ getstatic 0 ∷ aload_1 ∷ invokevirtual 1 ∷ return
          ∷ [])
          (record { start = 0; end = 4; handler = 5; class = Some 2 } ∷ [])
          ∷ [];
      references =
          a_field "java/lang/System" "out" "Ljava/io/PrintStream;"
          ∷ a_method "java/io/PrintStream" "println" "(Ljava/lang/Object;)V"
          ∷ a_class "java/lang/Throwable"
          ∷ [];
    }

-- the text of an exception, by the bytecode of the core classes
abbrev pub PrintedException : Type 0
PrintedException =
    outcome (printed_exception_main ∷ []) 1000 ≡ comes_to ("java.lang.ArithmeticException: / by zero" ∷ []) Return

abbrev pub cause_as_message_main : WrittenClass
cause_as_message_main =
    record {
      major = 51;
      name = "Main";
      superclass = Some "java/lang/Object";
      interfaces = [];
      flags = 0x0021;
      fields = [];
      methods =
          coded 0x0009 "main" "([Ljava/lang/String;)V" 6 8
          (new 0 ∷ dup ∷ new 1 ∷ dup ∷ ldc 2 ∷ invokespecial 3 ∷ invokespecial 4 ∷ athrow ∷ return ∷ astore_1
          ∷ getstatic 5 ∷ aload_1 ∷ invokevirtual 6 ∷ invokevirtual 7 ∷ return ∷ [])
          (record { start = 0; end = 17; handler = 18; class = None } ∷ [])
          ∷ [];
      references =
          a_class "java/lang/RuntimeException"
          ∷ a_class "java/lang/Error"
          ∷ a_text "deep"
          ∷ a_method "java/lang/Error" "<init>" "(Ljava/lang/String;)V"
          ∷ a_method "java/lang/RuntimeException" "<init>" "(Ljava/lang/Throwable;)V"
          ∷ a_field "java/lang/System" "out" "Ljava/io/PrintStream;"
          ∷ a_method "java/lang/Throwable" "getMessage" "()Ljava/lang/String;"
          ∷ a_method "java/io/PrintStream" "println" "(Ljava/lang/String;)V"
          ∷ [];
    }

-- a cause, whose text is the message
abbrev pub CauseAsMessage : Type 0
CauseAsMessage =
    outcome (cause_as_message_main ∷ []) 1000 ≡ comes_to ("java.lang.Error: deep" ∷ []) Return

abbrev pub deep_exception_main : WrittenClass
deep_exception_main =
    record {
      major = 51;
      name = "Main";
      superclass = Some "java/lang/Object";
      interfaces = [];
      flags = 0x0021;
      fields = [];
      methods =
          coded 0x0009 "main" "([Ljava/lang/String;)V" 6 8
          (iconst_2 ∷ invokestatic 0 ∷ pop ∷ return ∷ [])
          []
          ∷ coded 0x0009 "d" "(I)I" 2 1
          (iload_0 ∷ iconst_0 ∷ idiv ∷ ireturn ∷ [])
          []
          ∷ [];
      references =
          a_method "Main" "d" "(I)I"
          ∷ [];
    }

-- an exception that leaves two frames
abbrev pub DeepException : Type 0
DeepException =
    outcome (deep_exception_main ∷ []) 1000 ≡ comes_to [] (Uncaught (codes "java/lang/ArithmeticException"))

-- its last frames, by method number and position: those before anything was unwound
abbrev pub ItsTrace : Type 0
ItsTrace =
    last_frames (deep_exception_main ∷ []) 1000 ≡ (1, 2) ∷ (0, 1) ∷ []
