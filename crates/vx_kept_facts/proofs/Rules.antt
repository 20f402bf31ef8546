-- The table of operations, walked rule by rule.
use Rattle.std.proofs.Common.{Bool, List, [], arith, false, refl, subst, suc, true, zero, ℕ, ◌&&◌, ◌+◌, ◌∷◌, ◌≡◌}
use Rattle.std.proofs.lemmas.Bool.Decides.{nat_tests}
use Rattle.std.specs.List.{AllByRecursion}
use Rattle.std.specs.Prelude.{slice_get, unwrap_or, ◌==◌, ◌||◌}
use Rattle.vx_pool.specs.Holding.{and_true}
use Rattle.vx_pool.specs.Instructions.{is_start}
use Rattle.vx_java.specs.Operation.{Rule, does, operation_of, rules}
use Rattle.vx_java.specs.declared.operation.Operation.{Operation}
use Rattle.vx_java.specs.declared.operation.Operation.TheVariants.{Nop}
use Rattle.vx_opcode.specs.declared.instruction.Instruction.{Instruction}
use Rattle.vx_opcode.specs.declared.instruction.Operand.{Operand}

-- the rules from an opcode on give operations that pass a test, but for these opcodes
abbrev pub are_all : (Operation → Bool) → List ℕ → Operand → ℕ → List Rule → Bool
are_all test ns o n [] = true
are_all test ns o n (rule ∷ others) = (test (rule o) || is_start ns n) && are_all test ns o (suc n) others

abbrev Passes : (Operation → Bool) → List ℕ → Operand → List Rule → ℕ → ℕ → Type 0
Passes test ns o given k opcode = (test ((unwrap_or (slice_get given k) (does Nop)) o) || is_start ns opcode) ≡ true

rule_at : (test : Operation → Bool) (ns : List ℕ) (o : Operand) (n k : ℕ) (given : List Rule) → test Nop ≡ true → are_all test ns o n given ≡ true → Passes test ns o given k (n + k)
rule_at test ns o n k [] nop h = rw nop refl
rule_at test ns o n zero (rule ∷ others) nop h =
    let same : n ≡ n + 0 = omega arith in
    subst (Passes test ns o (rule ∷ others) 0) same (and_true (test (rule o) || is_start ns n) (are_all test ns o (suc n) others) h).0
rule_at test ns o n (suc k) (rule ∷ others) nop h =
    let same : suc n + k ≡ n + suc k = omega arith in
    subst (Passes test ns o others k) same (rule_at test ns o (suc n) k others nop (and_true (test (rule o) || is_start ns n) (are_all test ns o (suc n) others) h).1)

-- what an instruction does passes the test, or its opcode is one of these
pub passes_or_is : (test : Operation → Bool) (ns : List ℕ) (i : Instruction) → test Nop ≡ true → are_all test ns i.operand 0 rules ≡ true → (test (operation_of i) || is_start ns i.opcode) ≡ true
passes_or_is test ns i nop h =
    let same : 0 + i.opcode ≡ i.opcode = omega arith in
    subst (Passes test ns i.operand rules i.opcode) same (rule_at test ns i.operand 0 i.opcode rules nop h)

-- ---- some numbers

same_number : (i j : ℕ) → (i == j) ≡ true → i ≡ j
same_number i j t = grind (arith, nat_tests)

-- what holds of each of some numbers
pub each_of : (P : ℕ → Type 0) (ns : List ℕ) (n : ℕ) → AllByRecursion P ns → is_start ns n ≡ true → P n
each_of P [] n all e = absurd cc
each_of P (m ∷ ns) n all e = by_test (m == n) refl e (each_of P ns n all.1)
  where
    by_test : (b : Bool) → (m == n) ≡ b → (b || is_start ns n) ≡ true → (is_start ns n ≡ true → P n) → P n
    by_test true t f next = subst P (same_number m n t) all.0
    by_test false t f next = next f
