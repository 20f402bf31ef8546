-- The core classes at work.
use Rattle.std.specs.Prelude.{Some, [], ◌∷◌, ◌≡◌}
use Rattle.vx_computed.specs.Examples.{coded, comes_to, outcome}
use Rattle.vx_computed.specs.Mnemonics.{athrow, bipush, getstatic, i2l, iaload, iastore, iconst_0, iconst_1, iconst_2, iconst_3, iconst_4, iconst_5, if_acmpeq, if_acmpne, iload_2, invokeinterface, newarray, pop}
use Rattle.vx_link.specs.CoreTable.{aconst_null, aload_0, aload_1, aload_2, astore_1, astore_2, dup, ifnonnull, invokespecial, invokestatic, invokevirtual, new, return}
use Rattle.vx_link.specs.Written.{WrittenClass, a_class, a_field, a_method, a_text, an_interface_method, ldc}
use Rattle.vx_value.specs.declared.end.End.TheVariants.{Return}

abbrev pub enums_e : WrittenClass
enums_e =
    record {
      major = 51;
      name = "E";
      superclass = Some "java/lang/Enum";
      interfaces = [];
      flags = 0x0021;
      fields = [];
      methods =
          coded 0x0001 "<init>" "(Ljava/lang/String;I)V" 3 3
          (aload_0 ∷ aload_1 ∷ iload_2 ∷ invokespecial 0 ∷ return ∷ [])
          []
          ∷ [];
      references =
          a_method "java/lang/Enum" "<init>" "(Ljava/lang/String;I)V"
          ∷ [];
    }

abbrev pub enums_main : WrittenClass
enums_main =
    record {
      major = 51;
      name = "Main";
      superclass = Some "java/lang/Object";
      interfaces = [];
      flags = 0x0021;
      fields = [];
      methods =
          coded 0x0009 "main" "([Ljava/lang/String;)V" 6 8
          (new 0 ∷ dup ∷ ldc 1 ∷ iconst_0 ∷ invokespecial 2 ∷ astore_1 ∷ new 0 ∷ dup ∷ ldc 3 ∷ iconst_3
          ∷ invokespecial 2 ∷ astore_2 ∷ getstatic 4 ∷ aload_2 ∷ invokevirtual 5 ∷ invokevirtual 6 ∷ getstatic 4
          ∷ aload_2 ∷ aload_1 ∷ invokevirtual 7 ∷ invokevirtual 8 ∷ getstatic 4 ∷ aload_1 ∷ aload_2
          ∷ invokeinterface 9 2 ∷ invokevirtual 8 ∷ getstatic 4 ∷ aload_1 ∷ aload_1 ∷ invokevirtual 10
          ∷ invokevirtual 11 ∷ getstatic 4 ∷ aload_2 ∷ invokevirtual 12 ∷ return ∷ [])
          []
          ∷ [];
      references =
          a_class "E"
          ∷ a_text "A"
          ∷ a_method "E" "<init>" "(Ljava/lang/String;I)V"
          ∷ a_text "B"
          ∷ a_field "java/lang/System" "out" "Ljava/io/PrintStream;"
          ∷ a_method "E" "name" "()Ljava/lang/String;"
          ∷ a_method "java/io/PrintStream" "println" "(Ljava/lang/String;)V"
          ∷ a_method "E" "compareTo" "(Ljava/lang/Enum;)I"
          ∷ a_method "java/io/PrintStream" "println" "(I)V"
          ∷ an_interface_method "java/lang/Comparable" "compareTo" "(Ljava/lang/Object;)I"
          ∷ a_method "E" "equals" "(Ljava/lang/Object;)Z"
          ∷ a_method "java/io/PrintStream" "println" "(Z)V"
          ∷ a_method "java/io/PrintStream" "println" "(Ljava/lang/Object;)V"
          ∷ [];
    }

-- an enum
abbrev pub Enums : Type 0
Enums =
    outcome (enums_e ∷ enums_main ∷ []) 1000 ≡ comes_to ("B" ∷ "3" ∷ "-3" ∷ "true" ∷ "B" ∷ []) Return

abbrev pub numbers_main : WrittenClass
numbers_main =
    record {
      major = 51;
      name = "Main";
      superclass = Some "java/lang/Object";
      interfaces = [];
      flags = 0x0021;
      fields = [];
      methods =
          coded 0x0009 "main" "([Ljava/lang/String;)V" 6 8
          (getstatic 0 ∷ bipush 249 ∷ invokestatic 1 ∷ invokevirtual 2 ∷ getstatic 0 ∷ iconst_3 ∷ bipush 252
          ∷ invokestatic 3 ∷ invokevirtual 2 ∷ getstatic 0 ∷ iconst_3 ∷ i2l ∷ bipush 252 ∷ i2l ∷ invokestatic 4
          ∷ invokevirtual 5 ∷ getstatic 0 ∷ iconst_3 ∷ iconst_5 ∷ invokestatic 6 ∷ invokevirtual 2 ∷ getstatic 0
          ∷ bipush 77 ∷ invokestatic 7 ∷ invokevirtual 8 ∷ getstatic 0 ∷ bipush 77 ∷ invokestatic 7 ∷ bipush 77
          ∷ invokestatic 7 ∷ invokevirtual 9 ∷ invokevirtual 10 ∷ getstatic 0 ∷ iconst_1 ∷ invokestatic 11
          ∷ invokevirtual 8 ∷ return ∷ [])
          []
          ∷ [];
      references =
          a_field "java/lang/System" "out" "Ljava/io/PrintStream;"
          ∷ a_method "java/lang/Math" "abs" "(I)I"
          ∷ a_method "java/io/PrintStream" "println" "(I)V"
          ∷ a_method "java/lang/Math" "max" "(II)I"
          ∷ a_method "java/lang/Math" "min" "(JJ)J"
          ∷ a_method "java/io/PrintStream" "println" "(J)V"
          ∷ a_method "java/lang/Integer" "compare" "(II)I"
          ∷ a_method "java/lang/Integer" "valueOf" "(I)Ljava/lang/Integer;"
          ∷ a_method "java/io/PrintStream" "println" "(Ljava/lang/Object;)V"
          ∷ a_method "java/lang/Integer" "equals" "(Ljava/lang/Object;)Z"
          ∷ a_method "java/io/PrintStream" "println" "(Z)V"
          ∷ a_method "java/lang/Boolean" "valueOf" "(Z)Ljava/lang/Boolean;"
          ∷ [];
    }

-- numbers and booleans
abbrev pub Numbers : Type 0
Numbers =
    outcome (numbers_main ∷ []) 1000 ≡ comes_to ("7" ∷ "3" ∷ "-4" ∷ "-1" ∷ "77" ∷ "true" ∷ "true" ∷ []) Return

abbrev pub texts_main : WrittenClass
texts_main =
    record {
      major = 51;
      name = "Main";
      superclass = Some "java/lang/Object";
      interfaces = [];
      flags = 0x0021;
      fields = [];
      methods =
          coded 0x0009 "main" "([Ljava/lang/String;)V" 6 8
          (ldc 0 ∷ astore_1 ∷ getstatic 1 ∷ aload_1 ∷ ldc 2 ∷ invokevirtual 3 ∷ invokevirtual 4 ∷ getstatic 1
          ∷ aload_1 ∷ ldc 5 ∷ invokevirtual 6 ∷ invokevirtual 4 ∷ getstatic 1 ∷ aload_1 ∷ bipush 108
          ∷ invokevirtual 7 ∷ invokevirtual 8 ∷ getstatic 1 ∷ aload_1 ∷ ldc 9 ∷ invokevirtual 10 ∷ invokevirtual 8
          ∷ getstatic 1 ∷ aload_1 ∷ ldc 11 ∷ invokevirtual 12 ∷ invokevirtual 13 ∷ getstatic 1 ∷ aload_1
          ∷ invokevirtual 14 ∷ invokevirtual 15 ∷ getstatic 1 ∷ aload_1 ∷ iconst_1 ∷ invokevirtual 16
          ∷ invokevirtual 17 ∷ getstatic 1 ∷ aconst_null ∷ invokevirtual 13 ∷ aload_1 ∷ bipush 9 ∷ invokevirtual 16
          ∷ pop ∷ return ∷ pop ∷ getstatic 1 ∷ iconst_0 ∷ invokevirtual 4 ∷ return ∷ [])
          (record { start = 91; end = 98; handler = 99; class = Some 18 } ∷ [])
          ∷ [];
      references =
          a_text "hello"
          ∷ a_field "java/lang/System" "out" "Ljava/io/PrintStream;"
          ∷ a_text "he"
          ∷ a_method "java/lang/String" "startsWith" "(Ljava/lang/String;)Z"
          ∷ a_method "java/io/PrintStream" "println" "(Z)V"
          ∷ a_text "lo"
          ∷ a_method "java/lang/String" "endsWith" "(Ljava/lang/String;)Z"
          ∷ a_method "java/lang/String" "indexOf" "(I)I"
          ∷ a_method "java/io/PrintStream" "println" "(I)V"
          ∷ a_text "help"
          ∷ a_method "java/lang/String" "compareTo" "(Ljava/lang/String;)I"
          ∷ a_text "!"
          ∷ a_method "java/lang/String" "concat" "(Ljava/lang/String;)Ljava/lang/String;"
          ∷ a_method "java/io/PrintStream" "println" "(Ljava/lang/String;)V"
          ∷ a_method "java/lang/String" "toCharArray" "()[C"
          ∷ a_method "java/io/PrintStream" "println" "([C)V"
          ∷ a_method "java/lang/String" "charAt" "(I)C"
          ∷ a_method "java/io/PrintStream" "println" "(C)V"
          ∷ a_class "java/lang/StringIndexOutOfBoundsException"
          ∷ [];
    }

-- texts
abbrev pub Texts : Type 0
Texts =
    outcome (texts_main ∷ []) 1000 ≡ comes_to ("true" ∷ "true" ∷ "2" ∷ "-4" ∷ "hello!" ∷ "hello" ∷ "e" ∷ "null" ∷ "false" ∷ []) Return

abbrev pub overlapping_copy_main : WrittenClass
overlapping_copy_main =
    record {
      major = 51;
      name = "Main";
      superclass = Some "java/lang/Object";
      interfaces = [];
      flags = 0x0021;
      fields = [];
      methods =
          coded 0x0009 "main" "([Ljava/lang/String;)V" 6 8
          (iconst_4 ∷ newarray 10 ∷ astore_1 ∷ aload_1 ∷ iconst_0 ∷ iconst_1 ∷ iastore ∷ aload_1 ∷ iconst_1 ∷ iconst_2
          ∷ iastore ∷ aload_1 ∷ iconst_2 ∷ iconst_3 ∷ iastore ∷ aload_1 ∷ iconst_0 ∷ aload_1 ∷ iconst_1 ∷ iconst_3
          ∷ invokestatic 0 ∷ getstatic 1 ∷ aload_1 ∷ iconst_3 ∷ iaload ∷ invokevirtual 2 ∷ getstatic 1 ∷ aload_1
          ∷ iconst_1 ∷ iaload ∷ invokevirtual 2 ∷ aload_1 ∷ iconst_2 ∷ aload_1 ∷ iconst_0 ∷ iconst_3 ∷ invokestatic 0
          ∷ return ∷ invokevirtual 3 ∷ ifnonnull 11 ∷ getstatic 1 ∷ bipush 9 ∷ invokevirtual 2 ∷ return ∷ [])
          (record { start = 42; end = 50; handler = 51; class = Some 4 } ∷ [])
          ∷ [];
      references =
          a_method "java/lang/System" "arraycopy" "(Ljava/lang/Object;ILjava/lang/Object;II)V"
          ∷ a_field "java/lang/System" "out" "Ljava/io/PrintStream;"
          ∷ a_method "java/io/PrintStream" "println" "(I)V"
          ∷ a_method "java/lang/Throwable" "getMessage" "()Ljava/lang/String;"
          ∷ a_class "java/lang/ArrayIndexOutOfBoundsException"
          ∷ [];
    }

-- a copy within one array, and a range outside, which has no message
abbrev pub OverlappingCopy : Type 0
OverlappingCopy =
    outcome (overlapping_copy_main ∷ []) 1000 ≡ comes_to ("3" ∷ "1" ∷ "9" ∷ []) Return

abbrev pub literals_main : WrittenClass
literals_main =
    record {
      major = 51;
      name = "Main";
      superclass = Some "java/lang/Object";
      interfaces = [];
      flags = 0x0021;
      fields = [];
      methods =
          coded 0x0009 "main" "([Ljava/lang/String;)V" 6 8
          (ldc 0 ∷ ldc 0 ∷ if_acmpne 10 ∷ getstatic 1 ∷ iconst_1 ∷ invokevirtual 2 ∷ new 3 ∷ dup ∷ ldc 0
          ∷ invokespecial 4 ∷ ldc 0 ∷ if_acmpeq 10 ∷ getstatic 1 ∷ iconst_2 ∷ invokevirtual 2 ∷ return ∷ [])
          []
          ∷ [];
      references =
          a_text "a"
          ∷ a_field "java/lang/System" "out" "Ljava/io/PrintStream;"
          ∷ a_method "java/io/PrintStream" "println" "(I)V"
          ∷ a_class "java/lang/String"
          ∷ a_method "java/lang/String" "<init>" "(Ljava/lang/String;)V"
          ∷ [];
    }

-- equal literals are one object
abbrev pub Literals : Type 0
Literals =
    outcome (literals_main ∷ []) 1000 ≡ comes_to ("1" ∷ "2" ∷ []) Return

abbrev pub assertion_main : WrittenClass
assertion_main =
    record {
      major = 51;
      name = "Main";
      superclass = Some "java/lang/Object";
      interfaces = [];
      flags = 0x0021;
      fields = [];
      methods =
          coded 0x0009 "main" "([Ljava/lang/String;)V" 6 8
          (new 0 ∷ dup ∷ ldc 1 ∷ invokespecial 2 ∷ athrow ∷ return ∷ astore_1 ∷ getstatic 3 ∷ aload_1
          ∷ invokevirtual 4 ∷ return ∷ [])
          (record { start = 0; end = 10; handler = 11; class = Some 5 } ∷ [])
          ∷ [];
      references =
          a_class "java/lang/AssertionError"
          ∷ a_text "why"
          ∷ a_method "java/lang/AssertionError" "<init>" "(Ljava/lang/Object;)V"
          ∷ a_field "java/lang/System" "out" "Ljava/io/PrintStream;"
          ∷ a_method "java/io/PrintStream" "println" "(Ljava/lang/Object;)V"
          ∷ a_class "java/lang/Error"
          ∷ [];
    }

-- an assertion error of an object
abbrev pub Assertion : Type 0
Assertion =
    outcome (assertion_main ∷ []) 1000 ≡ comes_to ("java.lang.AssertionError: why" ∷ []) Return
