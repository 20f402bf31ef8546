-- Small programs of one configuration.
use Rattle.std.specs.Prelude.{Some, [], codes, ◌∷◌, ◌≡◌}
use Rattle.vx_computed.specs.Examples.{coded, comes_to, outcome}
use Rattle.vx_computed.specs.Mnemonics.{aaload, aastore, anewarray, arraylength, back, bipush, getstatic, i2l, iaload, iastore, iconst_0, iconst_1, iconst_2, iconst_3, iconst_4, iconst_5, iconst_m1, if_acmpeq, if_acmpne, if_icmplt, iinc, iload_0, iload_1, istore_1, istore_2, isub, jsr, lcmp, lconst_1, lload_1, lmul, lstore_1, multianewarray, nop, pop, pop2, putstatic, sipush, swap, tableswitch}
use Rattle.vx_link.specs.CoreTable.{aconst_null, aload_1, aload_2, astore_1, astore_2, checkcast, dup, goto, ifeq, instanceof, invokespecial, invokestatic, invokevirtual, new, return}
use Rattle.vx_link.specs.Written.{WrittenClass, a_class, a_field, a_method, a_text, ldc}
use Rattle.vx_value.specs.declared.end.End.TheVariants.{Illegal, Return, Unsupported}

abbrev pub grid_main : WrittenClass
grid_main =
    record {
      major = 51;
      name = "Main";
      superclass = Some "java/lang/Object";
      interfaces = [];
      flags = 0x0021;
      fields = [];
      methods =
          coded 0x0009 "main" "([Ljava/lang/String;)V" 6 8
          (iconst_2 ∷ iconst_3 ∷ multianewarray 0 2 ∷ astore_1 ∷ aload_1 ∷ iconst_1 ∷ aaload ∷ iconst_2 ∷ bipush 7
          ∷ iastore ∷ aload_1 ∷ iconst_1 ∷ aaload ∷ iconst_2 ∷ iaload ∷ getstatic 1 ∷ swap ∷ invokevirtual 2
          ∷ aload_1 ∷ iconst_0 ∷ aaload ∷ iconst_2 ∷ iaload ∷ getstatic 1 ∷ swap ∷ invokevirtual 2 ∷ aload_1
          ∷ arraylength ∷ getstatic 1 ∷ swap ∷ invokevirtual 2 ∷ aload_1 ∷ iconst_0 ∷ aaload ∷ arraylength
          ∷ getstatic 1 ∷ swap ∷ invokevirtual 2 ∷ return ∷ [])
          []
          ∷ [];
      references =
          a_class "[[I"
          ∷ a_field "java/lang/System" "out" "Ljava/io/PrintStream;"
          ∷ a_method "java/io/PrintStream" "println" "(I)V"
          ∷ [];
    }

-- an array of arrays
abbrev pub Grid : Type 0
Grid =
    outcome (grid_main ∷ []) 1000 ≡ comes_to ("7" ∷ "0" ∷ "2" ∷ "3" ∷ []) Return

abbrev pub array_store_main : WrittenClass
array_store_main =
    record {
      major = 51;
      name = "Main";
      superclass = Some "java/lang/Object";
      interfaces = [];
      flags = 0x0021;
      fields = [];
      methods =
          coded 0x0009 "main" "([Ljava/lang/String;)V" 6 8
          (iconst_1 ∷ anewarray 0 ∷ iconst_0 ∷ new 1 ∷ aastore ∷ return ∷ pop ∷ iconst_3 ∷ getstatic 2 ∷ swap
          ∷ invokevirtual 3 ∷ return ∷ [])
          (record { start = 5; end = 9; handler = 10; class = Some 4 } ∷ [])
          ∷ [];
      references =
          a_class "java/lang/String"
          ∷ a_class "java/lang/Object"
          ∷ a_field "java/lang/System" "out" "Ljava/io/PrintStream;"
          ∷ a_method "java/io/PrintStream" "println" "(I)V"
          ∷ a_class "java/lang/ArrayStoreException"
          ∷ [];
    }

-- an object that does not fit in an array
abbrev pub ArrayStore : Type 0
ArrayStore =
    outcome (array_store_main ∷ []) 1000 ≡ comes_to ("3" ∷ []) Return

abbrev pub array_classes_main : WrittenClass
array_classes_main =
    record {
      major = 51;
      name = "Main";
      superclass = Some "java/lang/Object";
      interfaces = [];
      flags = 0x0021;
      fields = [];
      methods =
          coded 0x0009 "main" "([Ljava/lang/String;)V" 6 8
          (iconst_1 ∷ anewarray 0 ∷ astore_1 ∷ getstatic 1 ∷ aload_1 ∷ instanceof 2 ∷ invokevirtual 3 ∷ getstatic 1
          ∷ aload_1 ∷ instanceof 4 ∷ invokevirtual 3 ∷ getstatic 1 ∷ aload_1 ∷ instanceof 5 ∷ invokevirtual 3
          ∷ getstatic 1 ∷ aload_1 ∷ instanceof 6 ∷ invokevirtual 3 ∷ aload_1 ∷ invokevirtual 7 ∷ checkcast 8
          ∷ aload_1 ∷ if_acmpeq 10 ∷ getstatic 1 ∷ iconst_5 ∷ invokevirtual 3 ∷ return ∷ [])
          []
          ∷ [];
      references =
          a_class "java/lang/String"
          ∷ a_field "java/lang/System" "out" "Ljava/io/PrintStream;"
          ∷ a_class "[Ljava/lang/Object;"
          ∷ a_method "java/io/PrintStream" "println" "(I)V"
          ∷ a_class "java/lang/Cloneable"
          ∷ a_class "[Ljava/lang/Integer;"
          ∷ a_class "[Ljava/lang/Comparable;"
          ∷ a_method "[Ljava/lang/String;" "clone" "()Ljava/lang/Object;"
          ∷ a_class "[Ljava/lang/String;"
          ∷ [];
    }

-- arrays against array classes, and a clone
abbrev pub ArrayClasses : Type 0
ArrayClasses =
    outcome (array_classes_main ∷ []) 1000 ≡ comes_to ("1" ∷ "1" ∷ "0" ∷ "1" ∷ "5" ∷ []) Return

abbrev pub copy_that_stops_main : WrittenClass
copy_that_stops_main =
    record {
      major = 51;
      name = "Main";
      superclass = Some "java/lang/Object";
      interfaces = [];
      flags = 0x0021;
      fields = [];
      methods =
          coded 0x0009 "main" "([Ljava/lang/String;)V" 6 8
          (iconst_2 ∷ anewarray 0 ∷ astore_1 ∷ aload_1 ∷ iconst_0 ∷ ldc 1 ∷ aastore ∷ aload_1 ∷ iconst_1 ∷ new 0
          ∷ aastore ∷ iconst_2 ∷ anewarray 2 ∷ astore_2 ∷ aload_1 ∷ iconst_0 ∷ aload_2 ∷ iconst_0 ∷ iconst_2
          ∷ invokestatic 3 ∷ return ∷ pop ∷ getstatic 4 ∷ aload_2 ∷ iconst_0 ∷ aaload ∷ invokevirtual 5 ∷ getstatic 4
          ∷ aload_2 ∷ iconst_1 ∷ aaload ∷ invokevirtual 5 ∷ return ∷ [])
          (record { start = 21; end = 29; handler = 30; class = Some 6 } ∷ [])
          ∷ [];
      references =
          a_class "java/lang/Object"
          ∷ a_text "x"
          ∷ a_class "java/lang/String"
          ∷ a_method "java/lang/System" "arraycopy" "(Ljava/lang/Object;ILjava/lang/Object;II)V"
          ∷ a_field "java/lang/System" "out" "Ljava/io/PrintStream;"
          ∷ a_method "java/io/PrintStream" "println" "(Ljava/lang/Object;)V"
          ∷ a_class "java/lang/ArrayStoreException"
          ∷ [];
    }

-- a copy that stops at an element that does not fit
abbrev pub CopyThatStops : Type 0
CopyThatStops =
    outcome (copy_that_stops_main ∷ []) 1000 ≡ comes_to ("x" ∷ "null" ∷ []) Return

abbrev pub table_switch_main : WrittenClass
table_switch_main =
    record {
      major = 51;
      name = "Main";
      superclass = Some "java/lang/Object";
      interfaces = [];
      flags = 0x0021;
      fields = [];
      methods =
          coded 0x0009 "main" "([Ljava/lang/String;)V" 6 8
          (iconst_0 ∷ istore_1 ∷ iload_1 ∷ tableswitch 0 45 1 (21 ∷ 33 ∷ []) ∷ bipush 10 ∷ getstatic 0 ∷ swap
          ∷ invokevirtual 1 ∷ goto 24 ∷ bipush 20 ∷ getstatic 0 ∷ swap ∷ invokevirtual 1 ∷ goto 12 ∷ bipush 30
          ∷ getstatic 0 ∷ swap ∷ invokevirtual 1 ∷ iinc 1 1 ∷ iload_1 ∷ iconst_4 ∷ if_icmplt (back 60) ∷ return ∷ [])
          []
          ∷ [];
      references =
          a_field "java/lang/System" "out" "Ljava/io/PrintStream;"
          ∷ a_method "java/io/PrintStream" "println" "(I)V"
          ∷ [];
    }

-- a table switch in a loop
abbrev pub TableSwitch : Type 0
TableSwitch =
    outcome (table_switch_main ∷ []) 1000 ≡ comes_to ("30" ∷ "10" ∷ "20" ∷ "30" ∷ []) Return

abbrev pub longs_main : WrittenClass
longs_main =
    record {
      major = 51;
      name = "Main";
      superclass = Some "java/lang/Object";
      interfaces = [];
      flags = 0x0021;
      fields = [];
      methods =
          coded 0x0009 "main" "([Ljava/lang/String;)V" 6 8
          (bipush 100 ∷ i2l ∷ lstore_1 ∷ lload_1 ∷ lload_1 ∷ lmul ∷ lstore_1 ∷ getstatic 0 ∷ lload_1 ∷ lconst_1 ∷ lcmp
          ∷ invokevirtual 1 ∷ getstatic 0 ∷ lload_1 ∷ invokevirtual 2 ∷ iconst_0 ∷ istore_2 ∷ lload_1 ∷ pop2 ∷ return
          ∷ [])
          []
          ∷ [];
      references =
          a_field "java/lang/System" "out" "Ljava/io/PrintStream;"
          ∷ a_method "java/io/PrintStream" "println" "(I)V"
          ∷ a_method "java/io/PrintStream" "println" "(J)V"
          ∷ [];
    }

-- longs; and a long whose second half was overwritten
abbrev pub Longs : Type 0
Longs =
    outcome (longs_main ∷ []) 1000 ≡ comes_to ("1" ∷ "10000" ∷ []) (Illegal (codes "Main.main([Ljava/lang/String;)V@26"))

abbrev pub full_stack_main : WrittenClass
full_stack_main =
    record {
      major = 51;
      name = "Main";
      superclass = Some "java/lang/Object";
      interfaces = [];
      flags = 0x0021;
      fields = [];
      methods =
          coded 0x0009 "main" "([Ljava/lang/String;)V" 1 8
          (iconst_0 ∷ iconst_0 ∷ return ∷ [])
          []
          ∷ [];
      references =
          [];
    }

-- one value too many
abbrev pub FullStack : Type 0
FullStack =
    outcome (full_stack_main ∷ []) 1000 ≡ comes_to [] (Illegal (codes "Main.main([Ljava/lang/String;)V@1"))

abbrev pub narrow_fields_main : WrittenClass
narrow_fields_main =
    record {
      major = 51;
      name = "Main";
      superclass = Some "java/lang/Object";
      interfaces = [];
      flags = 0x0021;
      fields = record { name = "b"; descriptor = "B"; flags = 0x0008 } ∷ record { name = "z"; descriptor = "Z"; flags = 0x0008 } ∷ record { name = "c"; descriptor = "C"; flags = 0x0008 } ∷ [];
      methods =
          coded 0x0009 "main" "([Ljava/lang/String;)V" 6 8
          (sipush 300 ∷ putstatic 0 ∷ getstatic 1 ∷ getstatic 0 ∷ invokevirtual 2 ∷ iconst_2 ∷ putstatic 3
          ∷ getstatic 1 ∷ getstatic 3 ∷ invokevirtual 4 ∷ iconst_m1 ∷ putstatic 5 ∷ getstatic 1 ∷ getstatic 5
          ∷ invokevirtual 2 ∷ return ∷ [])
          []
          ∷ [];
      references =
          a_field "Main" "b" "B"
          ∷ a_field "java/lang/System" "out" "Ljava/io/PrintStream;"
          ∷ a_method "java/io/PrintStream" "println" "(I)V"
          ∷ a_field "Main" "z" "Z"
          ∷ a_method "java/io/PrintStream" "println" "(Z)V"
          ∷ a_field "Main" "c" "C"
          ∷ [];
    }

-- stores to narrow fields
abbrev pub NarrowFields : Type 0
NarrowFields =
    outcome (narrow_fields_main ∷ []) 1000 ≡ comes_to ("44" ∷ "false" ∷ "65535" ∷ []) Return

abbrev pub builder_main : WrittenClass
builder_main =
    record {
      major = 51;
      name = "Main";
      superclass = Some "java/lang/Object";
      interfaces = [];
      flags = 0x0021;
      fields = [];
      methods =
          coded 0x0009 "main" "([Ljava/lang/String;)V" 6 8
          (new 0 ∷ dup ∷ ldc 1 ∷ invokespecial 2 ∷ invokevirtual 3 ∷ iconst_1 ∷ invokevirtual 4 ∷ aconst_null
          ∷ invokevirtual 5 ∷ iconst_0 ∷ invokevirtual 6 ∷ invokevirtual 7 ∷ astore_1 ∷ getstatic 8 ∷ aload_1
          ∷ invokevirtual 9 ∷ getstatic 8 ∷ aload_1 ∷ ldc 10 ∷ invokevirtual 11 ∷ invokevirtual 12 ∷ return ∷ [])
          []
          ∷ [];
      references =
          a_class "java/lang/StringBuilder"
          ∷ a_text "abc"
          ∷ a_method "java/lang/StringBuilder" "<init>" "(Ljava/lang/String;)V"
          ∷ a_method "java/lang/StringBuilder" "reverse" "()Ljava/lang/StringBuilder;"
          ∷ a_method "java/lang/StringBuilder" "append" "(Z)Ljava/lang/StringBuilder;"
          ∷ a_method "java/lang/StringBuilder" "append" "(Ljava/lang/String;)Ljava/lang/StringBuilder;"
          ∷ a_method "java/lang/StringBuilder" "deleteCharAt" "(I)Ljava/lang/StringBuilder;"
          ∷ a_method "java/lang/StringBuilder" "toString" "()Ljava/lang/String;"
          ∷ a_field "java/lang/System" "out" "Ljava/io/PrintStream;"
          ∷ a_method "java/io/PrintStream" "println" "(Ljava/lang/String;)V"
          ∷ a_text "null"
          ∷ a_method "java/lang/String" "indexOf" "(Ljava/lang/String;)I"
          ∷ a_method "java/io/PrintStream" "println" "(I)V"
          ∷ [];
    }

-- a builder and a text
abbrev pub Builder : Type 0
Builder =
    outcome (builder_main ∷ []) 1000 ≡ comes_to ("batruenull" ∷ "6" ∷ []) Return

abbrev pub integers_main : WrittenClass
integers_main =
    record {
      major = 51;
      name = "Main";
      superclass = Some "java/lang/Object";
      interfaces = [];
      flags = 0x0021;
      fields = [];
      methods =
          coded 0x0009 "main" "([Ljava/lang/String;)V" 6 8
          (getstatic 0 ∷ ldc 1 ∷ invokestatic 2 ∷ invokevirtual 3 ∷ ldc 4 ∷ invokestatic 2 ∷ pop ∷ return ∷ pop
          ∷ sipush 1000 ∷ invokestatic 5 ∷ sipush 1000 ∷ invokestatic 5 ∷ if_acmpeq 10 ∷ getstatic 0 ∷ iconst_1
          ∷ invokevirtual 3 ∷ iconst_5 ∷ invokestatic 5 ∷ iconst_5 ∷ invokestatic 5 ∷ if_acmpne 10 ∷ getstatic 0
          ∷ iconst_0 ∷ invokevirtual 3 ∷ return ∷ [])
          (record { start = 11; end = 17; handler = 18; class = Some 6 } ∷ [])
          ∷ [];
      references =
          a_field "java/lang/System" "out" "Ljava/io/PrintStream;"
          ∷ a_text "-42"
          ∷ a_method "java/lang/Integer" "parseInt" "(Ljava/lang/String;)I"
          ∷ a_method "java/io/PrintStream" "println" "(I)V"
          ∷ a_text "4x"
          ∷ a_method "java/lang/Integer" "valueOf" "(I)Ljava/lang/Integer;"
          ∷ a_class "java/lang/NumberFormatException"
          ∷ [];
    }

-- integers from texts, and Integer objects that are one
abbrev pub Integers : Type 0
Integers =
    outcome (integers_main ∷ []) 1000 ≡ comes_to ("-42" ∷ "1" ∷ "0" ∷ []) Return

abbrev pub null_cast_main : WrittenClass
null_cast_main =
    record {
      major = 51;
      name = "Main";
      superclass = Some "java/lang/Object";
      interfaces = [];
      flags = 0x0021;
      fields = [];
      methods =
          coded 0x0009 "main" "([Ljava/lang/String;)V" 6 8
          (aconst_null ∷ checkcast 0 ∷ pop ∷ getstatic 1 ∷ aconst_null ∷ instanceof 0 ∷ invokevirtual 2 ∷ new 3
          ∷ instanceof 0 ∷ pop ∷ return ∷ [])
          []
          ∷ [];
      references =
          a_class "Gone"
          ∷ a_field "java/lang/System" "out" "Ljava/io/PrintStream;"
          ∷ a_method "java/io/PrintStream" "println" "(I)V"
          ∷ a_class "java/lang/Object"
          ∷ [];
    }

-- null is cast before the class is looked for
abbrev pub NullCast : Type 0
NullCast =
    outcome (null_cast_main ∷ []) 1000 ≡ comes_to ("0" ∷ []) (Unsupported 6 (codes "Gone") (codes "Main.main([Ljava/lang/String;)V@18"))

abbrev pub gone_field_main : WrittenClass
gone_field_main =
    record {
      major = 51;
      name = "Main";
      superclass = Some "java/lang/Object";
      interfaces = [];
      flags = 0x0021;
      fields = [];
      methods =
          coded 0x0009 "main" "([Ljava/lang/String;)V" 6 8
          (getstatic 0 ∷ return ∷ [])
          []
          ∷ [];
      references =
          a_field "java/lang/System" "in" "I"
          ∷ [];
    }

-- a field that is not there
abbrev pub GoneField : Type 0
GoneField =
    outcome (gone_field_main ∷ []) 1000 ≡ comes_to [] (Unsupported 7 (codes "java/lang/System.in:I") (codes "Main.main([Ljava/lang/String;)V@0"))

abbrev pub gone_method_main : WrittenClass
gone_method_main =
    record {
      major = 51;
      name = "Main";
      superclass = Some "java/lang/Object";
      interfaces = [];
      flags = 0x0021;
      fields = [];
      methods =
          coded 0x0009 "main" "([Ljava/lang/String;)V" 6 8
          (invokestatic 0 ∷ return ∷ [])
          []
          ∷ [];
      references =
          a_method "java/lang/Math" "sin" "()V"
          ∷ [];
    }

-- a method that is not there
abbrev pub GoneMethod : Type 0
GoneMethod =
    outcome (gone_method_main ∷ []) 1000 ≡ comes_to [] (Unsupported 8 (codes "java/lang/Math.sin()V") (codes "Main.main([Ljava/lang/String;)V@0"))

abbrev pub left_out_native_main : WrittenClass
left_out_native_main =
    record {
      major = 51;
      name = "Main";
      superclass = Some "java/lang/Object";
      interfaces = [];
      flags = 0x0021;
      fields = [];
      methods =
          coded 0x0009 "main" "([Ljava/lang/String;)V" 6 8
          (new 0 ∷ invokevirtual 1 ∷ pop ∷ return ∷ [])
          []
          ∷ [];
      references =
          a_class "java/lang/Object"
          ∷ a_method "java/lang/Object" "hashCode" "()I"
          ∷ [];
    }

-- a native method that is left out
abbrev pub LeftOutNative : Type 0
LeftOutNative =
    outcome (left_out_native_main ∷ []) 1000 ≡ comes_to [] (Unsupported 5 (codes "java/lang/Object.hashCode()I") (codes "Main.main([Ljava/lang/String;)V@3"))

abbrev pub subroutine_main : WrittenClass
subroutine_main =
    record {
      major = 51;
      name = "Main";
      superclass = Some "java/lang/Object";
      interfaces = [];
      flags = 0x0021;
      fields = [];
      methods =
          coded 0x0009 "main" "([Ljava/lang/String;)V" 6 8
          (nop ∷ jsr 3 ∷ return ∷ [])
          []
          ∷ [];
      references =
          [];
    }

-- a subroutine
abbrev pub Subroutine : Type 0
Subroutine =
    outcome (subroutine_main ∷ []) 1000 ≡ comes_to [] (Unsupported 2 (codes "-") (codes "Main.main([Ljava/lang/String;)V@1"))

abbrev pub recursion_of_200_main : WrittenClass
recursion_of_200_main =
    record {
      major = 51;
      name = "Main";
      superclass = Some "java/lang/Object";
      interfaces = [];
      flags = 0x0021;
      fields = [];
      methods =
          coded 0x0009 "main" "([Ljava/lang/String;)V" 6 8
          (sipush 200 ∷ invokestatic 0 ∷ getstatic 1 ∷ iconst_1 ∷ invokevirtual 2 ∷ return ∷ [])
          []
          ∷ coded 0x0009 "r" "(I)V" 2 1
          (iload_0 ∷ ifeq 9 ∷ iload_0 ∷ iconst_1 ∷ isub ∷ invokestatic 0 ∷ return ∷ [])
          []
          ∷ [];
      references =
          a_method "Main" "r" "(I)V"
          ∷ a_field "java/lang/System" "out" "Ljava/io/PrintStream;"
          ∷ a_method "java/io/PrintStream" "println" "(I)V"
          ∷ [];
    }

-- a recursion of 200 frames
abbrev pub RecursionOf200 : Type 0
RecursionOf200 =
    outcome (recursion_of_200_main ∷ []) 10000 ≡ comes_to ("1" ∷ []) Return
