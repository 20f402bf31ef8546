-- One class, straight on: what is written, ends, limits and numbers of attempts.
use Rattle.std.specs.Prelude.{Some, [], codes, ◌∷◌, ◌≡◌}
use Rattle.vx_computed.specs.Examples.{coded, ended, line, one_configuration, piece, report, spent}
use Rattle.vx_computed.specs.Mnemonics.{getstatic, iconst_2, pop}
use Rattle.vx_link.specs.CoreTable.{invokevirtual, return}
use Rattle.vx_link.specs.Written.{WrittenClass, a_field, a_method}
use Rattle.vx_value.specs.declared.end.End.TheVariants.{Illegal, Return, Unfinished}
use Rattle.vx_value.specs.declared.end.Stream.TheVariants.{Out}

abbrev pub whole_run_main : WrittenClass
whole_run_main =
    record {
      major = 51;
      name = "Main";
      superclass = Some "java/lang/Object";
      interfaces = [];
      flags = 0x0021;
      fields = [];
      methods =
          coded 0x0009 "main" "([Ljava/lang/String;)V" 6 8
          (getstatic 0 ∷ iconst_2 ∷ invokevirtual 1 ∷ return ∷ [])
          []
          ∷ [];
      references =
          a_field "java/lang/System" "out" "Ljava/io/PrintStream;"
          ∷ a_method "java/io/PrintStream" "println" "(I)V"
          ∷ [];
    }

-- a run that returns
abbrev pub WholeRun : Type 0
WholeRun =
    report (whole_run_main ∷ []) [] one_configuration 100 1
    ≡ record {
      version = 1;
      limit = 100;
      rounds = 4;
      pieces = piece Out (line "2") one_configuration ∷ [];
      ends = ended Return one_configuration ∷ [];
      attempts = [];
    }

-- the same with its attempts
abbrev pub AttemptsOfRun : Type 0
AttemptsOfRun =
    report (whole_run_main ∷ []) [] one_configuration 100 2
    ≡ record {
      version = 2;
      limit = 100;
      rounds = 4;
      pieces = piece Out (line "2") one_configuration ∷ [];
      ends = ended Return one_configuration ∷ [];
      attempts = spent 4 one_configuration ∷ [];
    }

-- with as many attempts as it needs
abbrev pub JustEnough : Type 0
JustEnough =
    report (whole_run_main ∷ []) [] one_configuration 4 1
    ≡ record {
      version = 1;
      limit = 4;
      rounds = 4;
      pieces = piece Out (line "2") one_configuration ∷ [];
      ends = ended Return one_configuration ∷ [];
      attempts = [];
    }

-- with one attempt less
abbrev pub OneAttemptShort : Type 0
OneAttemptShort =
    report (whole_run_main ∷ []) [] one_configuration 3 1
    ≡ record {
      version = 1;
      limit = 3;
      rounds = 3;
      pieces = piece Out (line "2") one_configuration ∷ [];
      ends = ended Unfinished one_configuration ∷ [];
      attempts = [];
    }

-- with two attempts less
abbrev pub TwoAttemptsShort : Type 0
TwoAttemptsShort =
    report (whole_run_main ∷ []) [] one_configuration 2 1
    ≡ record {
      version = 1;
      limit = 2;
      rounds = 2;
      pieces = [];
      ends = ended Unfinished one_configuration ∷ [];
      attempts = [];
    }

abbrev pub operand_missing_main : WrittenClass
operand_missing_main =
    record {
      major = 51;
      name = "Main";
      superclass = Some "java/lang/Object";
      interfaces = [];
      flags = 0x0021;
      fields = [];
      methods =
          coded 0x0009 "main" "([Ljava/lang/String;)V" 6 8
          (pop ∷ return ∷ [])
          []
          ∷ [];
      references =
          [];
    }

-- an operand that is missing
abbrev pub OperandMissing : Type 0
OperandMissing =
    report (operand_missing_main ∷ []) [] one_configuration 100 1
    ≡ record {
      version = 1;
      limit = 100;
      rounds = 1;
      pieces = [];
      ends = ended (Illegal (codes "Main.main([Ljava/lang/String;)V@0")) one_configuration ∷ [];
      attempts = [];
    }
