-- None of some checks fails exactly where all of them are met.
use Rattle.std.proofs.Common.{◌≡◌, ℕ, zero, suc, ◌+◌, ◌≤◌, List, [], ◌∷◌, ◌++◌, length, Bool, true, false, cond, ◌&&◌, Option, Some, None, Result, Ok, refl, sym, ap, subst, ◌∙◌, append_assoc, arith}
use Rattle.std.proofs.lemmas.List.{append-nil}
use Rattle.std.proofs.lemmas.Bool.{ltb-false, lt-ltb, le-ltb}
use Rattle.std.specs.Prelude.{nat_lt}
use Rattle.std.specs.List.{AllByRecursion}
use Rattle.vx_pool.specs.Reading.{Fault, ◌>>=◌}
use Rattle.vx_pool.specs.Took.{bind_ok, check_ok}
use Rattle.vx_pool.specs.declared.pool.Pool.{Pool}
use Rattle.vx_opcode.specs.declared.instruction.Instruction.{Instruction}
use Rattle.vx_opcode.specs.Decode.{instruction_at}
use Rattle.vx_opcode.specs.Bounds.{lies}
use Rattle.vx_pool.specs.Checks.{first_failing, each, all_hold}
use Rattle.vx_pool.specs.Instructions.{operand_checks, jump_checks, given, whole_at, checked_at, walk, jumps_at, AreInstructions, OperandHolds, JumpsHold}

pub none_fails : (at : ℕ) (checks : List (Bool × ℕ)) → first_failing at checks ≡ Ok tt → all_hold checks ≡ true
none_fails at [] e = refl
none_fails at (c ∷ cs) e =
    let first = check_ok c.0 at c.1 (first_failing at cs) tt e in
    rw (first.0, none_fails at cs first.1) refl

pub and_true : (a b : Bool) → (a && b) ≡ true → (a ≡ true) × (b ≡ true)
and_true true b e = (refl, e)
and_true false b e = absurd cc

pub none_fails-from : (at : ℕ) (checks : List (Bool × ℕ)) → all_hold checks ≡ true → first_failing at checks ≡ Ok tt
none_fails-from at [] e = refl
none_fails-from at (c ∷ cs) e =
    let both = and_true c.0 (all_hold cs) e in
    rw (both.0, none_fails-from at cs both.1) refl

-- items of which none fails
pub each_holds : {A : Type 0} (test : A → ℕ → Result (Unit {0}) Fault) (size : A → ℕ) (P : A → Type 0) → ((x : A) (at : ℕ) → test x at ≡ Ok tt → P x)
    → (xs : List A) (at : ℕ) → each test size xs at ≡ Ok tt → AllByRecursion P xs
unfolding each
each_holds test size P holds [] at e = tt
each_holds test size P holds (x ∷ xs) at e =
    let first = bind_ok (test x at) (λ _. each test size xs (at + size x)) tt e in
    (holds x at first.1, each_holds test size P holds xs (at + size x) first.2)

pub each_holds-from : {A : Type 0} (test : A → ℕ → Result (Unit {0}) Fault) (size : A → ℕ) (P : A → Type 0) → ((x : A) (at : ℕ) → P x → test x at ≡ Ok tt)
    → (xs : List A) (at : ℕ) → AllByRecursion P xs → each test size xs at ≡ Ok tt
unfolding each
each_holds-from test size P holds [] at all = refl
each_holds-from test size P holds (x ∷ xs) at all =
    rw (holds x at all.0, each_holds-from test size P holds xs (at + size x) all.1) refl

-- ---- instructions

given_is : (at : ℕ) (o : Option Instruction) (i : Instruction) → given at o ≡ Ok i → o ≡ Some i
given_is at None i e = absurd cc
given_is at (Some j) i e = cc

some_is : (i j : Instruction) (o : Option Instruction) → o ≡ Some i → o ≡ Some j → i ≡ j
some_is i j None e f = absurd cc
some_is i j (Some k) e f = cc

checked_is : (pool : Pool) (major max_locals : ℕ) (code : List ℕ) (base at : ℕ) (i : Instruction) → checked_at pool major max_locals code base at ≡ Ok i
    → (instruction_at code at ≡ Some i) × (all_hold (operand_checks pool major max_locals i.opcode i.operand) ≡ true)
unfolding checked_at
checked_is pool major max_locals code base at i e =
    let whole = bind_ok _ _ _ e in
    let checks = bind_ok _ _ _ whole.2 in
    let is : whole.0 ≡ i = cc in
    subst (λ (j : Instruction). (instruction_at code at ≡ Some j) × (all_hold (operand_checks pool major max_locals j.opcode j.operand) ≡ true)) is
    (given_is (base + at) (instruction_at code at) whole.0 whole.1, none_fails (base + at) (operand_checks pool major max_locals whole.0.opcode whole.0.operand) (unit_is checks.0 (first_failing (base + at) (operand_checks pool major max_locals whole.0.opcode whole.0.operand)) checks.1))
  where
    unit_is : (u : Unit {0}) (r : Result (Unit {0}) Fault) → r ≡ Ok u → r ≡ Ok tt
    unit_is tt r e = e

checked_from : (pool : Pool) (major max_locals : ℕ) (code : List ℕ) (base at : ℕ) (i : Instruction) → instruction_at code at ≡ Some i
    → all_hold (operand_checks pool major max_locals i.opcode i.operand) ≡ true → checked_at pool major max_locals code base at ≡ Ok i
unfolding checked_at
checked_from pool major max_locals code base at i is holds =
    rw (is, none_fails-from (base + at) (operand_checks pool major max_locals i.opcode i.operand) holds) refl

-- what a walk over code found
abbrev Walked : Pool → ℕ → ℕ → List ℕ → ℕ → List ℕ → List ℕ → Type 0
Walked pool major max_locals code at front starts =
    (new : List ℕ) × (starts ≡ front ++ new) × AreInstructions code at new × AllByRecursion (OperandHolds pool major max_locals code) new

walked_all : (pool : Pool) (major max_locals : ℕ) (code : List ℕ) (at : ℕ) (front starts : List ℕ) → at ≤ length code → length code ≤ at → (let f : List ℕ → Result (List ℕ) Fault = λ x. Ok x in f front ≡ f starts)
    → Walked pool major max_locals code at front starts
walked_all pool major max_locals code at front starts le ge e =
    let is : front ≡ starts = cc in
    ([], sym is ∙ sym (append-nil front), omega (arith, le, ge), tt)

pub walk_holds : (pool : Pool) (major max_locals : ℕ) (code : List ℕ) (base n at : ℕ) (front starts : List ℕ) → at ≤ length code → length code ≤ at + n
    → walk (checked_at pool major max_locals code base) (length code) front n at ≡ Ok starts → Walked pool major max_locals code at front starts
unfolding walk
walk_holds pool major max_locals code base zero at front starts le enough e = walked_all pool major max_locals code at front starts le (omega (arith, enough)) e
walk_holds pool major max_locals code base (suc n) at front starts le enough e =
    by_test (λ next f g h. walk_holds pool major max_locals code base n next (front ++ at ∷ []) starts f g h) (nat_lt at (length code)) refl e
  where
    look : ℕ → Result Instruction Fault
    look = checked_at pool major max_locals code base

    Others : Type 0
    Others = (next : ℕ) → next ≤ length code → length code ≤ next + n → walk look (length code) (front ++ at ∷ []) n next ≡ Ok starts → Walked pool major max_locals code next (front ++ at ∷ []) starts

    goes_on : Others → (i : Instruction) → look at ≡ Ok i → walk look (length code) (front ++ at ∷ []) n (at + i.length) ≡ Ok starts → Walked pool major max_locals code at front starts
    goes_on rest i is e =
        let c = checked_is pool major max_locals code base at i is in
        let b = lies code at i c.0 in
        let others = rest (at + i.length) b.within (omega (arith, enough, b.some)) e in
        (at ∷ others.0, others.1 ∙ append_assoc front (at ∷ []) others.0, (refl, i, c.0, others.2), ((i, c.0, c.1), others.3))

    by_test : Others → (b : Bool) → nat_lt at (length code) ≡ b → cond b (look at >>= λ i. walk look (length code) (front ++ at ∷ []) n (at + i.length)) (Ok front) ≡ Ok starts → Walked pool major max_locals code at front starts
    by_test rest true t e =
        let i = bind_ok (look at) (λ i. walk look (length code) (front ++ at ∷ []) n (at + i.length)) starts e in
        goes_on rest i.0 i.1 i.2
    by_test rest false t e = walked_all pool major max_locals code at front starts le (ltb-false at (length code) t) e

pub walk_holds-from : (pool : Pool) (major max_locals : ℕ) (code : List ℕ) (base n at : ℕ) (front starts : List ℕ) → length code ≤ at + n
    → AreInstructions code at starts → AllByRecursion (OperandHolds pool major max_locals code) starts
    → walk (checked_at pool major max_locals code base) (length code) front n at ≡ Ok (front ++ starts)
unfolding walk
walk_holds-from pool major max_locals code base zero at front [] enough are hold = ap (λ (x : List ℕ). Ok x) (sym (append-nil front))
walk_holds-from pool major max_locals code base (suc n) at front [] enough are hold =
    rw (le-ltb at (length code) (omega (arith, are))) (ap (λ (x : List ℕ). Ok x) (sym (append-nil front)))
walk_holds-from pool major max_locals code base zero at front (start ∷ others) enough are hold =
    let b = lies code at are.1 are.2 in
    absurd (omega (arith, b.some, b.within, enough))
walk_holds-from pool major max_locals code base (suc n) at front (start ∷ others) enough are hold =
    let i = are.1 in
    let b = lies code at i are.2 in
    let same : hold.0.0 ≡ i = some_is hold.0.0 i (instruction_at code start) hold.0.1 (ap (instruction_at code) are.0 ∙ are.2) in
    let checks : all_hold (operand_checks pool major max_locals i.opcode i.operand) ≡ true = subst (λ (j : Instruction). all_hold (operand_checks pool major max_locals j.opcode j.operand) ≡ true) same hold.0.2 in
    let inside : nat_lt at (length code) ≡ true = lt-ltb at (length code) (omega (arith, b.some, b.within)) in
    rw (inside, checked_from pool major max_locals code base at i are.2 checks)
    (walk_holds-from pool major max_locals code base n (at + i.length) (front ++ at ∷ []) others (omega (arith, b.some, enough)) are.3 hold.1
    ∙ ap (λ (x : List ℕ). Ok x) (append_assoc front (at ∷ []) others ∙ ap (λ (k : ℕ). front ++ k ∷ others) (sym are.0)))

-- ---- jumps

pub jumps_hold : (starts code : List ℕ) (base at : ℕ) → jumps_at starts code base at ≡ Ok tt → JumpsHold starts code at
jumps_hold starts code base at e =
    let whole = bind_ok (whole_at code base at) (λ i. first_failing (base + at) (jump_checks starts code at i.operand)) tt e in
    (whole.0, given_is (base + at) (instruction_at code at) whole.0 whole.1, none_fails (base + at) (jump_checks starts code at whole.0.operand) whole.2)

pub jumps_hold-from : (starts code : List ℕ) (base at : ℕ) → JumpsHold starts code at → jumps_at starts code base at ≡ Ok tt
jumps_hold-from starts code base at holds =
    rw (holds.1, none_fails-from (base + at) (jump_checks starts code at holds.0.operand) holds.2) refl
