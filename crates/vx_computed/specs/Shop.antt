-- A larger program in its 48 configurations: objects, arrays, exceptions, texts and a switch over strings. The sets of the report are those of its nodes.
use Rattle.std.specs.Prelude.{List, Some, [], false, filter, not, pos, ℕ, ◌||◌, ◌∷◌, ◌≡◌}
use Rattle.vx_bdd_tools.specs.Nodes.{holds}
use Rattle.vx_bdd_tools.specs.declared.node.Node.{Node}
use Rattle.vx_computed.specs.Examples.{all_configurations, coded, ended, line, option, piece, report}
use Rattle.vx_computed.specs.Mnemonics.{aload, aload_3, arraylength, astore, astore_3, athrow, back, bipush, dup_x1, getfield, getstatic, iadd, iaload, iastore, iconst_0, iconst_1, iconst_2, iconst_3, iconst_4, iconst_5, iconst_m1, idiv, if_icmpge, if_icmple, if_icmpne, iinc, iload, iload_1, iload_2, imul, invokeinterface, istore, istore_1, istore_2, lookupswitch, newarray, putfield}
use Rattle.vx_java.specs.Report.{LockReport}
use Rattle.vx_java.specs.Step.{Config}
use Rattle.vx_link.specs.CoreTable.{abstract, aload_0, aload_1, aload_2, astore_1, astore_2, dup, goto, ifeq, invokespecial, invokestatic, invokevirtual, ireturn, new, return}
use Rattle.vx_link.specs.Written.{WrittenClass, a_class, a_field, a_method, a_text, an_interface_method, ldc}
use Rattle.vx_list.specs.Places.{item_or}
use Rattle.vx_value.specs.declared.end.End.TheVariants.{Exit, Return}
use Rattle.vx_value.specs.declared.end.Stream.TheVariants.{Out, Err as ErrStream}

abbrev pub shop_cart : WrittenClass
shop_cart =
    record {
      major = 51;
      name = "Cart";
      superclass = Some "java/lang/Object";
      interfaces = [];
      flags = 0x0020;
      fields = record { name = "a"; descriptor = "[I"; flags = 0x0002 } ∷ record { name = "n"; descriptor = "I"; flags = 0x0002 } ∷ [];
      methods =
          coded 0x0000 "<init>" "()V" 2 1
          (aload_0 ∷ invokespecial 0 ∷ aload_0 ∷ iconst_2 ∷ newarray 10 ∷ putfield 1 ∷ return ∷ [])
          []
          ∷ coded 0x0000 "add" "(I)V" 5 3
          (aload_0 ∷ getfield 2 ∷ aload_0 ∷ getfield 1 ∷ arraylength ∷ if_icmpne 31 ∷ iconst_2 ∷ aload_0 ∷ getfield 2
          ∷ imul ∷ newarray 10 ∷ astore_2 ∷ aload_0 ∷ getfield 1 ∷ iconst_0 ∷ aload_2 ∷ iconst_0 ∷ aload_0
          ∷ getfield 2 ∷ invokestatic 3 ∷ aload_0 ∷ aload_2 ∷ putfield 1 ∷ aload_0 ∷ getfield 1 ∷ aload_0 ∷ dup
          ∷ getfield 2 ∷ dup_x1 ∷ iconst_1 ∷ iadd ∷ putfield 2 ∷ iload_1 ∷ iastore ∷ return ∷ [])
          []
          ∷ coded 0x0000 "sum" "()I" 3 3
          (iconst_0 ∷ istore_1 ∷ iconst_0 ∷ istore_2 ∷ iload_2 ∷ aload_0 ∷ getfield 2 ∷ if_icmpge 18 ∷ iload_1
          ∷ aload_0 ∷ getfield 1 ∷ iload_2 ∷ iaload ∷ iadd ∷ istore_1 ∷ iinc 2 1 ∷ goto (back 20) ∷ iload_1 ∷ ireturn
          ∷ [])
          []
          ∷ [];
      references =
          a_method "java/lang/Object" "<init>" "()V"
          ∷ a_field "Cart" "a" "[I"
          ∷ a_field "Cart" "n" "I"
          ∷ a_method "java/lang/System" "arraycopy" "(Ljava/lang/Object;ILjava/lang/Object;II)V"
          ∷ [];
    }

abbrev pub shop_fee : WrittenClass
shop_fee =
    record {
      major = 51;
      name = "Fee";
      superclass = Some "java/lang/Object";
      interfaces = [];
      flags = 0x0600;
      fields = [];
      methods =
          abstract "of" "(I)I"
          ∷ [];
      references =
          [];
    }

abbrev pub shop_flat : WrittenClass
shop_flat =
    record {
      major = 51;
      name = "Flat";
      superclass = Some "java/lang/Object";
      interfaces = "Fee" ∷ [];
      flags = 0x0020;
      fields = [];
      methods =
          coded 0x0001 "<init>" "()V" 1 1
          (aload_0 ∷ invokespecial 0 ∷ return ∷ [])
          []
          ∷ coded 0x0001 "of" "(I)I" 1 2
          (iconst_5 ∷ ireturn ∷ [])
          []
          ∷ [];
      references =
          a_method "java/lang/Object" "<init>" "()V"
          ∷ [];
    }

abbrev pub shop_half : WrittenClass
shop_half =
    record {
      major = 51;
      name = "Half";
      superclass = Some "java/lang/Object";
      interfaces = "Fee" ∷ [];
      flags = 0x0020;
      fields = [];
      methods =
          coded 0x0001 "<init>" "()V" 1 1
          (aload_0 ∷ invokespecial 0 ∷ return ∷ [])
          []
          ∷ coded 0x0001 "of" "(I)I" 5 2
          (iload_1 ∷ bipush 20 ∷ if_icmple 30 ∷ new 1 ∷ dup ∷ new 2 ∷ dup ∷ invokespecial 3 ∷ ldc 4 ∷ invokevirtual 5
          ∷ iload_1 ∷ invokevirtual 6 ∷ invokevirtual 7 ∷ invokespecial 8 ∷ athrow ∷ iload_1 ∷ iconst_2 ∷ idiv
          ∷ ireturn ∷ [])
          []
          ∷ [];
      references =
          a_method "java/lang/Object" "<init>" "()V"
          ∷ a_class "Refused"
          ∷ a_class "java/lang/StringBuilder"
          ∷ a_method "java/lang/StringBuilder" "<init>" "()V"
          ∷ a_text "over "
          ∷ a_method "java/lang/StringBuilder" "append" "(Ljava/lang/String;)Ljava/lang/StringBuilder;"
          ∷ a_method "java/lang/StringBuilder" "append" "(I)Ljava/lang/StringBuilder;"
          ∷ a_method "java/lang/StringBuilder" "toString" "()Ljava/lang/String;"
          ∷ a_method "Refused" "<init>" "(Ljava/lang/String;)V"
          ∷ [];
    }

abbrev pub shop_main : WrittenClass
shop_main =
    record {
      major = 51;
      name = "Main";
      superclass = Some "java/lang/Object";
      interfaces = [];
      flags = 0x0021;
      fields = record { name = "GIFT"; descriptor = "Z"; flags = 0x0009 } ∷ record { name = "STEP"; descriptor = "Z"; flags = 0x0009 } ∷ record { name = "BULK"; descriptor = "Z"; flags = 0x0009 } ∷ record { name = "EURO"; descriptor = "Z"; flags = 0x0009 } ∷ record { name = "LOG"; descriptor = "Z"; flags = 0x0009 } ∷ record { name = "STRICT"; descriptor = "Z"; flags = 0x0009 } ∷ [];
      methods =
          coded 0x0009 "main" "([Ljava/lang/String;)V" 4 7
          (new 0 ∷ dup ∷ invokespecial 1 ∷ astore_1 ∷ aload_1 ∷ iconst_4 ∷ invokevirtual 2 ∷ aload_1 ∷ bipush 6
          ∷ invokevirtual 2 ∷ getstatic 3 ∷ ifeq 8 ∷ aload_1 ∷ iconst_0 ∷ invokevirtual 2 ∷ getstatic 4 ∷ ifeq 9
          ∷ aload_1 ∷ bipush 12 ∷ invokevirtual 2 ∷ getstatic 5 ∷ ifeq 13 ∷ new 6 ∷ dup ∷ invokespecial 7 ∷ goto 10
          ∷ new 8 ∷ dup ∷ invokespecial 9 ∷ astore_2 ∷ getstatic 10 ∷ ifeq 8 ∷ ldc 11 ∷ goto 5 ∷ ldc 12 ∷ astore_3
          ∷ aload_1 ∷ invokevirtual 13 ∷ istore 4 ∷ iload 4 ∷ aload_2 ∷ iload 4 ∷ invokeinterface 14 2 ∷ iadd
          ∷ istore 4 ∷ goto 26 ∷ astore 5 ∷ getstatic 15 ∷ aload 5 ∷ invokevirtual 16 ∷ invokevirtual 17
          ∷ getstatic 18 ∷ ifeq 7 ∷ iconst_3 ∷ invokestatic 19 ∷ getstatic 20 ∷ ifeq 11 ∷ getstatic 21 ∷ ldc 22
          ∷ invokevirtual 17 ∷ aload_3 ∷ astore 5 ∷ iconst_m1 ∷ istore 6 ∷ aload 5 ∷ invokevirtual 23
          ∷ lookupswitch 1 31 ((3124973, 18) ∷ []) ∷ aload 5 ∷ ldc 11 ∷ invokevirtual 24 ∷ ifeq 6 ∷ iconst_0
          ∷ istore 6 ∷ iload 6 ∷ lookupswitch 0 46 ((0, 17) ∷ []) ∷ getstatic 21 ∷ new 25 ∷ dup ∷ invokespecial 26
          ∷ iload 4 ∷ invokevirtual 27 ∷ ldc 28 ∷ invokevirtual 29 ∷ invokevirtual 30 ∷ invokevirtual 17 ∷ goto 32
          ∷ getstatic 21 ∷ new 25 ∷ dup ∷ invokespecial 26 ∷ iload 4 ∷ bipush 100 ∷ imul ∷ invokevirtual 27 ∷ ldc 31
          ∷ invokevirtual 29 ∷ invokevirtual 30 ∷ invokevirtual 17 ∷ return ∷ [])
          (record { start = 86; end = 99; handler = 102; class = Some 32 } ∷ [])
          ∷ [];
      references =
          a_class "Cart"
          ∷ a_method "Cart" "<init>" "()V"
          ∷ a_method "Cart" "add" "(I)V"
          ∷ a_field "Main" "GIFT" "Z"
          ∷ a_field "Main" "BULK" "Z"
          ∷ a_field "Main" "STEP" "Z"
          ∷ a_class "Half"
          ∷ a_method "Half" "<init>" "()V"
          ∷ a_class "Flat"
          ∷ a_method "Flat" "<init>" "()V"
          ∷ a_field "Main" "EURO" "Z"
          ∷ a_text "euro"
          ∷ a_text "cent"
          ∷ a_method "Cart" "sum" "()I"
          ∷ an_interface_method "Fee" "of" "(I)I"
          ∷ a_field "java/lang/System" "err" "Ljava/io/PrintStream;"
          ∷ a_method "Refused" "getMessage" "()Ljava/lang/String;"
          ∷ a_method "java/io/PrintStream" "println" "(Ljava/lang/String;)V"
          ∷ a_field "Main" "STRICT" "Z"
          ∷ a_method "java/lang/System" "exit" "(I)V"
          ∷ a_field "Main" "LOG" "Z"
          ∷ a_field "java/lang/System" "out" "Ljava/io/PrintStream;"
          ∷ a_text "checked"
          ∷ a_method "java/lang/String" "hashCode" "()I"
          ∷ a_method "java/lang/String" "equals" "(Ljava/lang/Object;)Z"
          ∷ a_class "java/lang/StringBuilder"
          ∷ a_method "java/lang/StringBuilder" "<init>" "()V"
          ∷ a_method "java/lang/StringBuilder" "append" "(I)Ljava/lang/StringBuilder;"
          ∷ a_text " EUR"
          ∷ a_method "java/lang/StringBuilder" "append" "(Ljava/lang/String;)Ljava/lang/StringBuilder;"
          ∷ a_method "java/lang/StringBuilder" "toString" "()Ljava/lang/String;"
          ∷ a_text " ct"
          ∷ a_class "Refused"
          ∷ [];
    }

abbrev pub shop_refused : WrittenClass
shop_refused =
    record {
      major = 51;
      name = "Refused";
      superclass = Some "java/lang/Exception";
      interfaces = [];
      flags = 0x0020;
      fields = [];
      methods =
          coded 0x0000 "<init>" "(Ljava/lang/String;)V" 2 2
          (aload_0 ∷ aload_1 ∷ invokespecial 0 ∷ return ∷ [])
          []
          ∷ [];
      references =
          a_method "java/lang/Exception" "<init>" "(Ljava/lang/String;)V"
          ∷ [];
    }

-- the allowed configurations: STRICT needs STEP
abbrev pub shop_allowed : List Config
shop_allowed = filter (λ c. not (item_or c 5 false) || item_or c 1 false) (all_configurations 6)

abbrev pub shop_nodes : List Node
shop_nodes =
    record { option = 2; low = 0; high = 1 }
    ∷ record { option = 1; low = 0; high = 2 }
    ∷ record { option = 5; low = 1; high = 0 }
    ∷ record { option = 4; low = 0; high = 4 }
    ∷ record { option = 4; low = 0; high = 1 }
    ∷ record { option = 2; low = 6; high = 5 }
    ∷ record { option = 1; low = 5; high = 7 }
    ∷ record { option = 3; low = 0; high = 4 }
    ∷ record { option = 2; low = 9; high = 0 }
    ∷ record { option = 3; low = 0; high = 1 }
    ∷ record { option = 2; low = 11; high = 0 }
    ∷ record { option = 1; low = 10; high = 12 }
    ∷ record { option = 2; low = 0; high = 9 }
    ∷ record { option = 1; low = 0; high = 14 }
    ∷ record { option = 1; low = 14; high = 0 }
    ∷ record { option = 3; low = 4; high = 0 }
    ∷ record { option = 2; low = 17; high = 0 }
    ∷ record { option = 3; low = 1; high = 0 }
    ∷ record { option = 2; low = 19; high = 0 }
    ∷ record { option = 1; low = 18; high = 20 }
    ∷ record { option = 2; low = 0; high = 17 }
    ∷ record { option = 1; low = 0; high = 22 }
    ∷ record { option = 1; low = 22; high = 0 }
    ∷ record { option = 2; low = 1; high = 4 }
    ∷ record { option = 1; low = 4; high = 25 }
    ∷ record { option = 5; low = 0; high = 1 }
    ∷ record { option = 2; low = 0; high = 27 }
    ∷ record { option = 1; low = 0; high = 28 }
    ∷ []

-- the configurations that a node holds
abbrev pub at_node : ℕ → List Config
at_node node = filter (holds shop_nodes node) shop_allowed

-- the rounds depend on the compiler
abbrev pub without_rounds : LockReport → LockReport
without_rounds r = record r { rounds = 0 }

-- its pieces and ends
abbrev pub ShopReport : Type 0
ShopReport =
    without_rounds (report (shop_cart ∷ shop_fee ∷ shop_flat ∷ shop_half ∷ shop_main ∷ shop_refused ∷ []) (option "GIFT" ∷ option "STEP" ∷ option "BULK" ∷ option "EURO" ∷ option "LOG" ∷ option "STRICT" ∷ []) shop_allowed 100000 1)
    ≡ record {
      version = 1;
      limit = 100000;
      rounds = 0;
      pieces =
          piece ErrStream (line "over 22") (at_node 3)
          ∷ piece Out (line "checked") (at_node 8)
          ∷ piece Out (line "15 EUR") (at_node 13)
          ∷ piece Out (line "22 EUR") (at_node 15)
          ∷ piece Out (line "27 EUR") (at_node 16)
          ∷ piece Out (line "1500 ct") (at_node 21)
          ∷ piece Out (line "2200 ct") (at_node 23)
          ∷ piece Out (line "2700 ct") (at_node 24)
          ∷ [];
      ends = ended Return (at_node 26) ∷ ended (Exit (pos 3)) (at_node 29) ∷ [];
      attempts = [];
    }
