-- Walking over code, as a loop does.
use Rattle.std.proofs.Common.{◌≡◌, ℕ, zero, suc, ◌+◌, ◌≤◌, ◌<◌, List, [], ◌∷◌, ◌++◌, Result, Ok, Err, refl, sym, ◌∙◌, arith}
use Rattle.std.proofs.lemmas.Bool.{lt-ltb, le-ltb}
use Rattle.vx_pool.specs.declared.fault.ClassFault.{ClassFault}
use Rattle.vx_pool.specs.declared.fault.ClassFault.TheVariants as fault
use Rattle.vx_pool.specs.Reading.{Fault, Fails}
use Rattle.vx_opcode.specs.declared.instruction.Instruction.{Instruction}
use Rattle.vx_pool.specs.Instructions.{walk}

pub walk-goes_on : (look : ℕ → Result Instruction Fault) (end : ℕ) (front : List ℕ) (left behind at : ℕ) (i : Instruction) (total : Result (List ℕ) Fault) → left ≡ suc behind → at < end → look at ≡ Ok i
    → walk look end front left at ≡ total → walk look end (front ++ at ∷ []) behind (at + i.length) ≡ total
unfolding walk
walk-goes_on look end front left behind at i total k lt h so_far =
    let one : walk look end front left at ≡ walk look end (front ++ at ∷ []) behind (at + i.length) = rw (k, lt-ltb at end lt, h) refl in
    sym one ∙ so_far

pub walk-ends : (e : ClassFault) (look : ℕ → Result Instruction Fault) (end : ℕ) (front : List ℕ) (left at : ℕ) (total : Result (List ℕ) Fault) → 0 < left → at < end → Fails e (look at)
    → walk look end front left at ≡ total → Fails e total
unfolding walk
walk-ends fault.NoMemory look end front left at total k lt h so_far = tt
walk-ends (fault.Bad place reason) look end front zero at total k lt h so_far = absurd (omega arith)
walk-ends (fault.Bad place reason) look end front (suc left) at total k lt h so_far =
    let one : walk look end front (suc left) at ≡ Err (record { at = place; reason = reason }) = rw (lt-ltb at end lt, h) refl in
    sym so_far ∙ one

pub walk-done : (look : ℕ → Result Instruction Fault) (end : ℕ) (front : List ℕ) (left at : ℕ) (total : Result (List ℕ) Fault) → end ≤ at
    → walk look end front left at ≡ total → total ≡ Ok front
unfolding walk
walk-done look end front zero at total le so_far = sym so_far
walk-done look end front (suc left) at total le so_far =
    let one : walk look end front (suc left) at ≡ Ok front = rw (le-ltb at end le) refl in
    sym so_far ∙ one
