-- The codes of a class file that a reading can give lead from instruction to instruction.
use Rattle.std.proofs.Common.{Bool, List, None, Option, Some, [], ap, arith, false, length, refl, subst, suc, sym, true, zero, ℕ, ◌&&◌, ◌++◌, ◌+◌, ◌≤◌, ◌∙◌, ◌∷◌, ◌≡◌}
use Rattle.std.proofs.lemmas.Bool.{le-ltb, lt-ltb}
use Rattle.std.specs.List.{list_all}
use Rattle.std.specs.Prelude.{is_some, nat_le, nat_lt, ◌==◌, ◌||◌}
use Rattle.vx_class.specs.Code.{catch_checks}
use Rattle.vx_class.specs.File.{CodeHolds, CodeIs, EachBehind, Holds, MethodHolds}
use Rattle.vx_class.specs.declared.class_file.Catch.{Catch}
use Rattle.vx_class.specs.declared.class_file.ClassFile.{ClassFile}
use Rattle.vx_class.specs.declared.class_file.Code.{Code}
use Rattle.vx_class.specs.declared.class_file.Method.{Method}
use Rattle.vx_pool.specs.Checks.{all_hold}
use Rattle.vx_pool.specs.Entries.{usable}
use Rattle.vx_pool.specs.Lookups.{class, entry_of}
use Rattle.vx_pool.specs.Instructions.{AreInstructions, JumpsHold, is_start}
use Rattle.vx_opcode.specs.Bounds.{lies}
use Rattle.vx_pool.specs.declared.pool.Pool.{Pool}
use Rattle.std.specs.Cmp.Derive.{both_true}
use Rattle.vx_jump_targets.proofs.Lists.{each_passes}
use Rattle.vx_jump_targets.specs.Placed.{has_placed_code, is_well_placed, jumps_lead, leads_on, starts_from, starts_in}

-- ---- starts

pub starts_are : (code : List ℕ) (n at : ℕ) (starts : List ℕ) → length code ≤ at + n → AreInstructions code at starts → starts_from code n at ≡ starts
starts_are code zero at [] enough are = refl
starts_are code (suc n) at [] enough are = rw (le-ltb at (length code) (omega (arith, are))) refl
starts_are code zero at (start ∷ others) enough are =
    let b = lies code at are.1 are.2 in
    absurd (omega (arith, b.some, b.within, enough))
starts_are code (suc n) at (start ∷ others) enough are =
    let i = are.1 in
    let b = lies code at i are.2 in
    let inside : nat_lt at (length code) ≡ true = lt-ltb at (length code) (omega (arith, b.some, b.within)) in
    rw (inside, are.2)
    (ap (λ rest. at ∷ rest) (starts_are code n (at + i.length) others (omega (arith, b.some, enough)) are.3)
    ∙ ap (λ (k : ℕ). k ∷ others) (sym are.0))

-- ---- jumps and handlers

jumps_pass : (starts code : List ℕ) (at : ℕ) → JumpsHold starts code at → jumps_lead starts code at ≡ true
jumps_pass starts code at holds = rw holds.1 holds.2

handler_in : (a b c d e rest : Bool) → (a && b && c && d && e && rest) ≡ true → d ≡ true
handler_in true true true true e rest h = refl
handler_in true true true false e rest h = h
handler_in true true false d e rest h = cc
handler_in true false c d e rest h = cc
handler_in false b c d e rest h = cc

handler_starts : (pool : Pool) (starts code : List ℕ) (row : Catch) → all_hold (catch_checks pool starts code row) ≡ true → is_start starts row.handler ≡ true
handler_starts pool starts code row h =
    handler_in (nat_lt row.start row.end) (nat_le row.end (length code)) (is_start starts row.start) (is_start starts row.handler)
    (is_start starts row.end || row.end == length code)
    ((row.class == 0 || usable pool row.class) && ((row.class == 0 || is_some (class (entry_of pool row.class))) && true))
    h

placed_code : (pool : Pool) (major slots : ℕ) (code : Code) → CodeHolds pool major slots code → is_well_placed code ≡ true
placed_code pool major slots code holds =
    let P : List ℕ → Type 0 = λ starts. leads_on starts code ≡ true in
    let same : starts_in code ≡ holds.starts = starts_are code.bytes (length code.bytes) 0 holds.starts (omega arith) holds.instructions in
    subst P (sym same)
    (both_true
    (each_passes (JumpsHold holds.starts code.bytes) (jumps_lead holds.starts code.bytes) (jumps_pass holds.starts code.bytes) holds.starts holds.jumps)
    (each_passes _ (λ row. is_start holds.starts row.handler) (handler_starts pool holds.starts code.bytes) code.catches holds.rows))

placed_some : (pool : Pool) (major slots : ℕ) (takes : Bool) (code : Option Code) → CodeIs pool major slots takes code → has_placed_code code ≡ true
placed_some pool major slots takes None is = refl
placed_some pool major slots takes (Some code) is = placed_code pool major slots code is.1

placed_codes : (pool : Pool) (major : ℕ) (front methods : List Method) → EachBehind (MethodHolds pool major) front methods → list_all (λ m. has_placed_code m.code) methods ≡ true
placed_codes pool major front [] holds = refl
placed_codes pool major front (m ∷ methods) holds =
    both_true (placed_some pool major _ _ m.code holds.0.code) (placed_codes pool major (front ++ m ∷ []) methods holds.1)

abbrev pub is_placed_file : ClassFile → Bool
is_placed_file c = list_all (λ m. has_placed_code m.code) c.methods

pub placed_file : (c : ClassFile) → Holds c → is_placed_file c ≡ true
placed_file c holds = placed_codes c.pool c.major [] c.methods holds.methods
