-- Programs that share their work: the rounds grow with the options, the configurations with their power.
use Rattle.std.specs.Prelude.{Some, [], ◌∷◌, ◌≡◌}
use Rattle.vx_computed.specs.Examples.{all_configurations, coded, option, report}
use Rattle.vx_computed.specs.Mnemonics.{aload_3, astore_3, getstatic, iadd, iand, iconst_0, iconst_1, iconst_3, iload_1, iload_2, invokeinterface, istore_1}
use Rattle.vx_link.specs.CoreTable.{abstract, aload_0, aload_2, astore_2, dup, goto, ifeq, invokespecial, invokevirtual, ireturn, new, return}
use Rattle.vx_link.specs.Written.{WrittenClass, a_class, a_field, a_method, an_interface_method}

abbrev pub workload_keep : WrittenClass
workload_keep =
    record {
      major = 51;
      name = "Keep";
      superclass = Some "java/lang/Object";
      interfaces = "Step" ∷ [];
      flags = 0x0021;
      fields = [];
      methods =
          coded 0x0001 "<init>" "()V" 1 1
          (aload_0 ∷ invokespecial 0 ∷ return ∷ [])
          []
          ∷ coded 0x0001 "f" "(II)I" 2 3
          (iload_1 ∷ ireturn ∷ [])
          []
          ∷ [];
      references =
          a_method "java/lang/Object" "<init>" "()V"
          ∷ [];
    }

abbrev pub workload_of_three_main : WrittenClass
workload_of_three_main =
    record {
      major = 51;
      name = "Main";
      superclass = Some "java/lang/Object";
      interfaces = [];
      flags = 0x0021;
      fields = record { name = "O0"; descriptor = "Z"; flags = 0x0009 } ∷ record { name = "O1"; descriptor = "Z"; flags = 0x0009 } ∷ record { name = "O2"; descriptor = "Z"; flags = 0x0009 } ∷ [];
      methods =
          coded 0x0009 "main" "([Ljava/lang/String;)V" 6 8
          (iconst_0 ∷ istore_1 ∷ new 0 ∷ dup ∷ invokespecial 1 ∷ astore_2 ∷ new 2 ∷ dup ∷ invokespecial 3 ∷ astore_3
          ∷ getstatic 4 ∷ ifeq 7 ∷ aload_3 ∷ goto 4 ∷ aload_2 ∷ iload_1 ∷ iconst_3 ∷ invokeinterface 5 3 ∷ istore_1
          ∷ getstatic 6 ∷ ifeq 7 ∷ aload_3 ∷ goto 4 ∷ aload_2 ∷ iload_1 ∷ iconst_1 ∷ invokeinterface 5 3 ∷ istore_1
          ∷ getstatic 7 ∷ ifeq 7 ∷ aload_3 ∷ goto 4 ∷ aload_2 ∷ iload_1 ∷ iconst_3 ∷ invokeinterface 5 3 ∷ istore_1
          ∷ getstatic 8 ∷ iload_1 ∷ invokevirtual 9 ∷ return ∷ [])
          []
          ∷ [];
      references =
          a_class "Keep"
          ∷ a_method "Keep" "<init>" "()V"
          ∷ a_class "Turn"
          ∷ a_method "Turn" "<init>" "()V"
          ∷ a_field "Main" "O0" "Z"
          ∷ an_interface_method "Step" "f" "(II)I"
          ∷ a_field "Main" "O1" "Z"
          ∷ a_field "Main" "O2" "Z"
          ∷ a_field "java/lang/System" "out" "Ljava/io/PrintStream;"
          ∷ a_method "java/io/PrintStream" "println" "(I)V"
          ∷ [];
    }

abbrev pub workload_step : WrittenClass
workload_step =
    record {
      major = 51;
      name = "Step";
      superclass = Some "java/lang/Object";
      interfaces = [];
      flags = 0x0601;
      fields = [];
      methods =
          abstract "f" "(II)I"
          ∷ [];
      references =
          [];
    }

abbrev pub workload_turn : WrittenClass
workload_turn =
    record {
      major = 51;
      name = "Turn";
      superclass = Some "java/lang/Object";
      interfaces = "Step" ∷ [];
      flags = 0x0021;
      fields = [];
      methods =
          coded 0x0001 "<init>" "()V" 1 1
          (aload_0 ∷ invokespecial 0 ∷ return ∷ [])
          []
          ∷ coded 0x0001 "f" "(II)I" 2 3
          (iload_1 ∷ iload_2 ∷ iadd ∷ iconst_3 ∷ iand ∷ ireturn ∷ [])
          []
          ∷ [];
      references =
          a_method "java/lang/Object" "<init>" "()V"
          ∷ [];
    }

-- 3 options, with a call by the class of the receiver for each
abbrev pub WorkloadOfThree : Type 0
WorkloadOfThree =
    (report (workload_keep ∷ workload_of_three_main ∷ workload_step ∷ workload_turn ∷ []) (option "O0" ∷ option "O1" ∷ option "O2" ∷ []) (all_configurations 3) 1000000 1).rounds ≡ 71

abbrev pub workload_of_six_main : WrittenClass
workload_of_six_main =
    record {
      major = 51;
      name = "Main";
      superclass = Some "java/lang/Object";
      interfaces = [];
      flags = 0x0021;
      fields = record { name = "O0"; descriptor = "Z"; flags = 0x0009 } ∷ record { name = "O1"; descriptor = "Z"; flags = 0x0009 } ∷ record { name = "O2"; descriptor = "Z"; flags = 0x0009 } ∷ record { name = "O3"; descriptor = "Z"; flags = 0x0009 } ∷ record { name = "O4"; descriptor = "Z"; flags = 0x0009 } ∷ record { name = "O5"; descriptor = "Z"; flags = 0x0009 } ∷ [];
      methods =
          coded 0x0009 "main" "([Ljava/lang/String;)V" 6 8
          (iconst_0 ∷ istore_1 ∷ new 0 ∷ dup ∷ invokespecial 1 ∷ astore_2 ∷ new 2 ∷ dup ∷ invokespecial 3 ∷ astore_3
          ∷ getstatic 4 ∷ ifeq 7 ∷ aload_3 ∷ goto 4 ∷ aload_2 ∷ iload_1 ∷ iconst_3 ∷ invokeinterface 5 3 ∷ istore_1
          ∷ getstatic 6 ∷ ifeq 7 ∷ aload_3 ∷ goto 4 ∷ aload_2 ∷ iload_1 ∷ iconst_1 ∷ invokeinterface 5 3 ∷ istore_1
          ∷ getstatic 7 ∷ ifeq 7 ∷ aload_3 ∷ goto 4 ∷ aload_2 ∷ iload_1 ∷ iconst_3 ∷ invokeinterface 5 3 ∷ istore_1
          ∷ getstatic 8 ∷ ifeq 7 ∷ aload_3 ∷ goto 4 ∷ aload_2 ∷ iload_1 ∷ iconst_1 ∷ invokeinterface 5 3 ∷ istore_1
          ∷ getstatic 9 ∷ ifeq 7 ∷ aload_3 ∷ goto 4 ∷ aload_2 ∷ iload_1 ∷ iconst_1 ∷ invokeinterface 5 3 ∷ istore_1
          ∷ getstatic 10 ∷ ifeq 7 ∷ aload_3 ∷ goto 4 ∷ aload_2 ∷ iload_1 ∷ iconst_1 ∷ invokeinterface 5 3 ∷ istore_1
          ∷ getstatic 11 ∷ iload_1 ∷ invokevirtual 12 ∷ return ∷ [])
          []
          ∷ [];
      references =
          a_class "Keep"
          ∷ a_method "Keep" "<init>" "()V"
          ∷ a_class "Turn"
          ∷ a_method "Turn" "<init>" "()V"
          ∷ a_field "Main" "O0" "Z"
          ∷ an_interface_method "Step" "f" "(II)I"
          ∷ a_field "Main" "O1" "Z"
          ∷ a_field "Main" "O2" "Z"
          ∷ a_field "Main" "O3" "Z"
          ∷ a_field "Main" "O4" "Z"
          ∷ a_field "Main" "O5" "Z"
          ∷ a_field "java/lang/System" "out" "Ljava/io/PrintStream;"
          ∷ a_method "java/io/PrintStream" "println" "(I)V"
          ∷ [];
    }

-- 6 options, with a call by the class of the receiver for each
abbrev pub WorkloadOfSix : Type 0
WorkloadOfSix =
    (report (workload_keep ∷ workload_of_six_main ∷ workload_step ∷ workload_turn ∷ []) (option "O0" ∷ option "O1" ∷ option "O2" ∷ option "O3" ∷ option "O4" ∷ option "O5" ∷ []) (all_configurations 6) 1000000 1).rounds ≡ 122
