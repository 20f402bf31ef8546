-- The facts that every run keeps.
use Rattle.std.specs.List.{list_all}
use Rattle.std.specs.Prelude.{Bool, List, None, Option, Some, [], is_some, length, nat_lt, true, ℕ, ◌≤◌, ◌∷◌, ◌≡◌}
use Prim.Native.String.{String}
use Rattle.vx_class.specs.declared.class_file.Code.{Code}
use Rattle.vx_java.specs.Row.{row}
use Rattle.vx_java.specs.Step.{Config, Live, Progress, outcome_carried_out, start, steps}
use Rattle.vx_jump_targets.specs.Placed.{are_well_placed}
use Rattle.vx_kept_facts.specs.Kept.{GoesOnPlaced, HasPlacedFrames, IsThrowing, is_throwable, last_state}
use Rattle.vx_link.specs.ClassNames.{core_class}
use Rattle.vx_link.specs.CoreFiles.{core_count}
use Rattle.vx_link.specs.Parts.{class_count, method_at}
use Rattle.vx_link.specs.declared.program.Program.{Program}

-- ---- what the program has

-- the core classes that instructions and native methods raise
abbrev pub raised : List String
raised =
    "java/lang/AbstractMethodError" ∷ "java/lang/ArithmeticException" ∷ "java/lang/ArrayIndexOutOfBoundsException"
    ∷ "java/lang/ArrayStoreException" ∷ "java/lang/ClassCastException" ∷ "java/lang/IncompatibleClassChangeError"
    ∷ "java/lang/InstantiationError" ∷ "java/lang/NegativeArraySizeException" ∷ "java/lang/NoClassDefFoundError"
    ∷ "java/lang/NullPointerException" ∷ "java/lang/NumberFormatException" ∷ "java/lang/OutOfMemoryError"
    ∷ "java/lang/StackOverflowError" ∷ "java/lang/StringIndexOutOfBoundsException"
    ∷ []

-- a code has a byte
abbrev pub has_bytes : Option Code → Bool
has_bytes None = true
has_bytes (Some code) = nat_lt 0 (length code.bytes)

-- a program that can be run: the core classes are there, and what is raised of them is below Throwable; each code has a byte and leads from instruction to instruction; main and what initialises a class have code
pub record IsRunnable (p : Program) : Type 0 where
  pub core : core_count ≤ class_count p
  pub throwable : list_all (λ name. is_throwable p (core_class p name)) raised ≡ true
  pub placed : are_well_placed p ≡ true
  pub bytes : list_all (λ m. has_bytes m.code) p.methods ≡ true
  pub main : is_some (method_at p p.main.0).code ≡ true
  pub initialisers : list_all (λ c. is_some (method_at p c.initialiser.0).code) p.classes ≡ true

-- ---- what its runs keep

-- of each run: every state that it comes to, and what each of its attempts comes to, before and after a beginning or a native method is carried out
pub record KeepsFacts (p : Program) : Type 0 where
  pub kept : (c : Config) (n : ℕ) → HasPlacedFrames p (last_state (steps p n (start p c)))
  pub goes_on : (c : Config) (n : ℕ) (g : Progress) → steps p n (start p c) ≡ Live g → GoesOnPlaced p (row p g.state) × GoesOnPlaced p (outcome_carried_out p (row p g.state))
  pub throws : (c : Config) (n : ℕ) (g : Progress) → steps p n (start p c) ≡ Live g → IsThrowing p (row p g.state) × IsThrowing p (outcome_carried_out p (row p g.state))

abbrev pub FactsAreKept : Type 0
FactsAreKept = (p : Program) → IsRunnable p → KeepsFacts p
