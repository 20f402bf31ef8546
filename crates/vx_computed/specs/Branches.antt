-- Branches by options: runs that part, that meet again, and that end apart.
use Rattle.std.specs.Prelude.{List, Some, [], codes, false, true, ◌∷◌, ◌≡◌}
use Rattle.vx_computed.specs.Examples.{both, coded, ended, line, option, piece, report, spent, where_off, where_on}
use Rattle.vx_computed.specs.Mnemonics.{fconst_0, getstatic, iconst_1, iconst_2, if_icmpne, iload_1, istore_1, nop, pop}
use Rattle.vx_java.specs.Step.{Config}
use Rattle.vx_link.specs.CoreTable.{goto, ifeq, invokevirtual, return}
use Rattle.vx_link.specs.Written.{WrittenClass, a_field, a_method}
use Rattle.vx_value.specs.declared.end.End.TheVariants.{Return, Unfinished, Unsupported}
use Rattle.vx_value.specs.declared.end.Stream.TheVariants.{Out}

abbrev pub one_option_main : WrittenClass
one_option_main =
    record {
      major = 51;
      name = "Main";
      superclass = Some "java/lang/Object";
      interfaces = [];
      flags = 0x0021;
      fields = record { name = "A"; descriptor = "Z"; flags = 0x0009 } ∷ [];
      methods =
          coded 0x0009 "main" "([Ljava/lang/String;)V" 6 8
          (getstatic 0 ∷ getstatic 1 ∷ invokevirtual 2 ∷ return ∷ [])
          []
          ∷ [];
      references =
          a_field "java/lang/System" "out" "Ljava/io/PrintStream;"
          ∷ a_field "Main" "A" "Z"
          ∷ a_method "java/io/PrintStream" "println" "(I)V"
          ∷ [];
    }

-- the value of an option is written
abbrev pub OneOption : Type 0
OneOption =
    report (one_option_main ∷ []) (option "A" ∷ []) both 100 1
    ≡ record {
      version = 1;
      limit = 100;
      rounds = 4;
      pieces = piece Out (line "0") where_off ∷ piece Out (line "1") where_on ∷ [];
      ends = ended Return both ∷ [];
      attempts = [];
    }

abbrev pub branches_meet_main : WrittenClass
branches_meet_main =
    record {
      major = 51;
      name = "Main";
      superclass = Some "java/lang/Object";
      interfaces = [];
      flags = 0x0021;
      fields = record { name = "A"; descriptor = "Z"; flags = 0x0009 } ∷ [];
      methods =
          coded 0x0009 "main" "([Ljava/lang/String;)V" 6 8
          (getstatic 0 ∷ ifeq 8 ∷ iconst_1 ∷ istore_1 ∷ goto 7 ∷ iconst_2 ∷ istore_1 ∷ nop ∷ nop ∷ getstatic 1
          ∷ iload_1 ∷ invokevirtual 2 ∷ return ∷ [])
          []
          ∷ [];
      references =
          a_field "Main" "A" "Z"
          ∷ a_field "java/lang/System" "out" "Ljava/io/PrintStream;"
          ∷ a_method "java/io/PrintStream" "println" "(I)V"
          ∷ [];
    }

-- two branches that meet again
abbrev pub BranchesMeet : Type 0
BranchesMeet =
    report (branches_meet_main ∷ []) (option "A" ∷ []) both 100 1
    ≡ record {
      version = 1;
      limit = 100;
      rounds = 13;
      pieces = piece Out (line "1") where_on ∷ piece Out (line "2") where_off ∷ [];
      ends = ended Return both ∷ [];
      attempts = [];
    }

-- one configuration ends, the other has used its attempts
abbrev pub OneUnfinished : Type 0
OneUnfinished =
    report (branches_meet_main ∷ []) (option "A" ∷ []) both 9 1
    ≡ record {
      version = 1;
      limit = 9;
      rounds = 13;
      pieces = piece Out (line "1") where_on ∷ piece Out (line "2") where_off ∷ [];
      ends = ended Return where_on ∷ ended Unfinished where_off ∷ [];
      attempts = [];
    }

-- neither ends
abbrev pub BothUnfinished : Type 0
BothUnfinished =
    report (branches_meet_main ∷ []) (option "A" ∷ []) both 8 1
    ≡ record {
      version = 1;
      limit = 8;
      rounds = 12;
      pieces = piece Out (line "1") where_on ∷ [];
      ends = ended Unfinished both ∷ [];
      attempts = [];
    }

abbrev pub equal_values_main : WrittenClass
equal_values_main =
    record {
      major = 51;
      name = "Main";
      superclass = Some "java/lang/Object";
      interfaces = [];
      flags = 0x0021;
      fields = record { name = "A"; descriptor = "Z"; flags = 0x0009 } ∷ [];
      methods =
          coded 0x0009 "main" "([Ljava/lang/String;)V" 6 8
          (getstatic 0 ∷ ifeq 8 ∷ iconst_1 ∷ istore_1 ∷ goto 7 ∷ iconst_1 ∷ istore_1 ∷ nop ∷ nop ∷ getstatic 1
          ∷ iload_1 ∷ invokevirtual 2 ∷ return ∷ [])
          []
          ∷ [];
      references =
          a_field "Main" "A" "Z"
          ∷ a_field "java/lang/System" "out" "Ljava/io/PrintStream;"
          ∷ a_method "java/io/PrintStream" "println" "(I)V"
          ∷ [];
    }

-- the same value in both branches, with the attempts
abbrev pub EqualValues : Type 0
EqualValues =
    report (equal_values_main ∷ []) (option "A" ∷ []) both 100 2
    ≡ record {
      version = 2;
      limit = 100;
      rounds = 13;
      pieces = piece Out (line "1") both ∷ [];
      ends = ended Return both ∷ [];
      attempts = spent 9 where_on ∷ spent 10 where_off ∷ [];
    }

abbrev pub endless_loop_main : WrittenClass
endless_loop_main =
    record {
      major = 51;
      name = "Main";
      superclass = Some "java/lang/Object";
      interfaces = [];
      flags = 0x0021;
      fields = record { name = "A"; descriptor = "Z"; flags = 0x0009 } ∷ [];
      methods =
          coded 0x0009 "main" "([Ljava/lang/String;)V" 6 8
          (getstatic 0 ∷ ifeq 13 ∷ getstatic 1 ∷ iconst_1 ∷ invokevirtual 2 ∷ goto 0 ∷ return ∷ [])
          []
          ∷ [];
      references =
          a_field "Main" "A" "Z"
          ∷ a_field "java/lang/System" "out" "Ljava/io/PrintStream;"
          ∷ a_method "java/io/PrintStream" "println" "(I)V"
          ∷ [];
    }

-- an endless loop in one configuration
abbrev pub EndlessLoop : Type 0
EndlessLoop =
    report (endless_loop_main ∷ []) (option "A" ∷ []) both 50 2
    ≡ record {
      version = 2;
      limit = 50;
      rounds = 51;
      pieces = piece Out (line "1") where_on ∷ [];
      ends = ended Return where_off ∷ ended Unfinished where_on ∷ [];
      attempts = spent 3 where_off ∷ spent 50 where_on ∷ [];
    }

abbrev pub float_in_one_main : WrittenClass
float_in_one_main =
    record {
      major = 51;
      name = "Main";
      superclass = Some "java/lang/Object";
      interfaces = [];
      flags = 0x0021;
      fields = record { name = "B"; descriptor = "Z"; flags = 0x0009 } ∷ [];
      methods =
          coded 0x0009 "main" "([Ljava/lang/String;)V" 6 8
          (getstatic 0 ∷ ifeq 5 ∷ fconst_0 ∷ pop ∷ return ∷ [])
          []
          ∷ [];
      references =
          a_field "Main" "B" "Z"
          ∷ [];
    }

-- a float instruction in one configuration
abbrev pub FloatInOne : Type 0
FloatInOne =
    report (float_in_one_main ∷ []) (option "B" ∷ []) both 100 1
    ≡ record {
      version = 1;
      limit = 100;
      rounds = 4;
      pieces = [];
      ends = ended Return where_off ∷ ended (Unsupported 1 (codes "-") (codes "Main.main([Ljava/lang/String;)V@6")) where_on ∷ [];
      attempts = [];
    }

abbrev pub four_options_main : WrittenClass
four_options_main =
    record {
      major = 51;
      name = "Main";
      superclass = Some "java/lang/Object";
      interfaces = [];
      flags = 0x0021;
      fields = record { name = "X0"; descriptor = "Z"; flags = 0x0009 } ∷ record { name = "X1"; descriptor = "Z"; flags = 0x0009 } ∷ record { name = "Y0"; descriptor = "Z"; flags = 0x0009 } ∷ record { name = "Y1"; descriptor = "Z"; flags = 0x0009 } ∷ [];
      methods =
          coded 0x0009 "main" "([Ljava/lang/String;)V" 6 8
          (getstatic 0 ∷ getstatic 1 ∷ if_icmpne 19 ∷ getstatic 2 ∷ getstatic 3 ∷ if_icmpne 10 ∷ getstatic 4
          ∷ iconst_1 ∷ invokevirtual 5 ∷ return ∷ [])
          []
          ∷ [];
      references =
          a_field "Main" "X0" "Z"
          ∷ a_field "Main" "Y0" "Z"
          ∷ a_field "Main" "X1" "Z"
          ∷ a_field "Main" "Y1" "Z"
          ∷ a_field "java/lang/System" "out" "Ljava/io/PrintStream;"
          ∷ a_method "java/io/PrintStream" "println" "(I)V"
          ∷ [];
    }

abbrev pub four_options_allowed : List Config
four_options_allowed = (false ∷ false ∷ false ∷ false ∷ []) ∷ (false ∷ false ∷ false ∷ true ∷ []) ∷ (false ∷ false ∷ true ∷ false ∷ []) ∷ (false ∷ false ∷ true ∷ true ∷ []) ∷ (false ∷ true ∷ false ∷ false ∷ []) ∷ (false ∷ true ∷ false ∷ true ∷ []) ∷ (false ∷ true ∷ true ∷ false ∷ []) ∷ (false ∷ true ∷ true ∷ true ∷ []) ∷ (true ∷ false ∷ false ∷ false ∷ []) ∷ (true ∷ false ∷ false ∷ true ∷ []) ∷ (true ∷ false ∷ true ∷ false ∷ []) ∷ (true ∷ false ∷ true ∷ true ∷ []) ∷ (true ∷ true ∷ false ∷ false ∷ []) ∷ (true ∷ true ∷ false ∷ true ∷ []) ∷ (true ∷ true ∷ true ∷ false ∷ []) ∷ (true ∷ true ∷ true ∷ true ∷ []) ∷ []

-- a condition on four options
abbrev pub FourOptions : Type 0
FourOptions =
    report (four_options_main ∷ []) (option "X0" ∷ option "X1" ∷ option "Y0" ∷ option "Y1" ∷ []) four_options_allowed 100 1
    ≡ record {
      version = 1;
      limit = 100;
      rounds = 10;
      pieces = piece Out (line "1") ((false ∷ false ∷ false ∷ false ∷ []) ∷ (false ∷ true ∷ false ∷ true ∷ []) ∷ (true ∷ false ∷ true ∷ false ∷ []) ∷ (true ∷ true ∷ true ∷ true ∷ []) ∷ []) ∷ [];
      ends = ended Return four_options_allowed ∷ [];
      attempts = [];
    }
