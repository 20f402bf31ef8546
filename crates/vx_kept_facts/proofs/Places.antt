-- Places in a code: where its instructions begin, and its end.
use Rattle.std.proofs.Common.{Bool, List, None, Option, Some, [], ap, arith, false, if◌then◌else◌, inl, inr, length, refl, subst, suc, sym, true, zero, ℕ, ◌+◌, ◌<◌, ◌≢◌, ◌≤◌, ◌⊎◌, ◌∙◌, ◌∷◌, ◌≡◌}
use Rattle.std.proofs.Math.Bool.{or-true}
use Rattle.std.proofs.Math.Dec.{eqb}
use Rattle.std.proofs.lemmas.Bool.{lt-ltb, or_left}
use Rattle.std.proofs.lemmas.Bool.Decides.{eqb_tells}
use Rattle.std.proofs.lemmas.Option.{same_Some}
use Rattle.std.specs.List.{list_all}
use Rattle.std.specs.Prelude.{nat_lt, ◌&&◌, ◌==◌, ◌||◌}
use Rattle.vx_class.specs.declared.class_file.Catch.{Catch}
use Rattle.vx_class.specs.declared.class_file.Code.{Code}
use Rattle.vx_pool.specs.Checks.{all_hold}
use Rattle.vx_pool.specs.Holding.{and_true}
use Rattle.vx_pool.specs.Instructions.{is_start, jump_checks}
use Rattle.vx_java.specs.Selection.{covers, handler_in, takes}
use Rattle.vx_jump_targets.specs.Placed.{behind, is_well_placed, jumps_lead, meets_jumps, starts_from, starts_in}
use Rattle.vx_link.specs.declared.program.Program.{Program}
use Rattle.vx_opcode.specs.Bounds.{lies}
use Rattle.vx_opcode.specs.Decode.{instruction_at}
use Rattle.vx_opcode.specs.declared.instruction.Instruction.{Instruction}
use Rattle.vx_pool.specs.declared.pool.Pool.{Pool}

pub or_right : (a b : Bool) → b ≡ true → (a || b) ≡ true
or_right a b e = ap (λ t. a || t) e ∙ or-true a

-- ---- the place behind an instruction

-- one of these, or the end
abbrev is_among : List ℕ → List ℕ → ℕ → Bool
is_among starts code at = is_start starts at || at == length code

one_more : (start : ℕ) (starts code : List ℕ) (at : ℕ) → is_among starts code at ≡ true → is_among (start ∷ starts) code at ≡ true
one_more start starts code at is = by_start (start == at) is
  where
    by_start : (same : Bool) → is_among starts code at ≡ true → ((same || is_start starts at) || at == length code) ≡ true
    by_start true is = refl
    by_start false is = is

pub same_place : (at : ℕ) → (at == at) ≡ true
same_place at = by (eqb_tells at at)
  where
    by : (((eqb at at ≡ true) × (at ≡ at)) ⊎ ((eqb at at ≡ false) × (at ≢ at))) → eqb at at ≡ true
    by (inl same) = same.0
    by (inr other) = absurd (other.1 refl)

pub first_start : (code : List ℕ) (n at : ℕ) → at < length code → length code ≤ at + n → is_start (starts_from code n at) at ≡ true
first_start code zero at inside enough = absurd (omega (arith, inside, enough))
first_start code (suc n) at inside enough = rw (lt-ltb at (length code) inside) (or_left (at == at) _ (same_place at))

first_among : (code : List ℕ) (n at : ℕ) → at ≤ length code → length code ≤ at + n → is_among (starts_from code n at) code at ≡ true
first_among code n at within enough = by (eqb_tells at (length code))
  where
    by : (((eqb at (length code) ≡ true) × (at ≡ length code)) ⊎ ((eqb at (length code) ≡ false) × (at ≢ length code))) → is_among (starts_from code n at) code at ≡ true
    by (inl same) = or_right (is_start (starts_from code n at) at) (at == length code) same.0
    by (inr other) = or_left (is_start (starts_from code n at) at) (at == length code) (first_start code n at (omega (arith, within, other.1)) enough)

among_behind : (code : List ℕ) (n from at : ℕ) (i : Instruction) → length code ≤ from + n → instruction_at code at ≡ Some i
    → is_start (starts_from code n from) at ≡ true → is_among (starts_from code n from) code (at + i.length) ≡ true
among_behind code zero from at i enough is start = cc
among_behind code (suc n) from at i enough is start =
    by_inside (λ next more start. among_behind code n next at i more is start) (nat_lt from (length code)) start
  where
    rest : Option Instruction → List ℕ
    rest o = behind o (λ len. starts_from code n (from + len))

    Later : Type 0
    Later = (next : ℕ) → length code ≤ next + n → is_start (starts_from code n next) at ≡ true → is_among (starts_from code n next) code (at + i.length) ≡ true

    in_rest : Later → (o : Option Instruction) → instruction_at code from ≡ o → is_start (rest o) at ≡ true → is_among (rest o) code (at + i.length) ≡ true
    in_rest later None there start = cc
    in_rest later (Some j) there start = later (from + j.length) (omega (arith, enough, (lies code from j there).some)) start

    at_first : from ≡ at → is_among (rest (instruction_at code from)) code (at + i.length) ≡ true
    at_first same =
        let there : instruction_at code from ≡ Some i = ap (instruction_at code) same ∙ is in
        let b = lies code at i is in
        rw there
        (subst (λ k. is_among (starts_from code n (k + i.length)) code (at + i.length) ≡ true) (sym same)
        (first_among code n (at + i.length) b.within (omega (arith, enough, b.some))))

    by_first : Later → (((eqb from at ≡ true) × (from ≡ at)) ⊎ ((eqb from at ≡ false) × (from ≢ at))) → (from == at || is_start (rest (instruction_at code from)) at) ≡ true
        → is_among (from ∷ rest (instruction_at code from)) code (at + i.length) ≡ true
    by_first later (inl same) start = one_more from (rest (instruction_at code from)) code (at + i.length) (at_first same.1)
    by_first later (inr other) start =
        one_more from (rest (instruction_at code from)) code (at + i.length)
        (in_rest later (instruction_at code from) refl (rw other.0 at start))

    by_inside : Later → (b : Bool) → is_start (if b then from ∷ rest (instruction_at code from) else []) at ≡ true
        → is_among (if b then from ∷ rest (instruction_at code from) else []) code (at + i.length) ≡ true
    by_inside later true start = by_first later (eqb_tells from at) start
    by_inside later false start = cc

-- behind an instruction of a code the next one begins, or the code ends
pub place_behind : (code : Code) (at : ℕ) (i : Instruction) → instruction_at code.bytes at ≡ Some i → is_start (starts_in code) at ≡ true
    → (is_start (starts_in code) (at + i.length) || at + i.length == length code.bytes) ≡ true
place_behind code at i is start = among_behind code.bytes (length code.bytes) 0 at i (omega arith) is start

-- ---- jumps and handlers

pub passes_there : (test : ℕ → Bool) (starts : List ℕ) (at : ℕ) → list_all test starts ≡ true → is_start starts at ≡ true → test at ≡ true
passes_there test [] at all start = cc
passes_there test (first ∷ starts) at all start = by (eqb_tells first at) (λ later. passes_there test starts at (and_true _ _ all).1 later)
  where
    by : (((eqb first at ≡ true) × (first ≡ at)) ⊎ ((eqb first at ≡ false) × (first ≢ at))) → (is_start starts at ≡ true → test at ≡ true) → test at ≡ true
    by (inl same) later = subst (λ k. test k ≡ true) same.1 (and_true _ _ all).0
    by (inr other) later = later (rw other.0 at start)

-- the jumps of an instruction meet their checks
pub jump_checked : (code : Code) (at : ℕ) (i : Instruction) → is_well_placed code ≡ true → instruction_at code.bytes at ≡ Some i
    → is_start (starts_in code) at ≡ true → all_hold (jump_checks (starts_in code) code.bytes at i.operand) ≡ true
jump_checked code at i placed is start =
    let P : Option Instruction → Type 0 = λ o. meets_jumps (starts_in code) code.bytes at o ≡ true in
    subst P is (passes_there (jumps_lead (starts_in code) code.bytes) (starts_in code) at (and_true _ _ placed).0 start)

handler_among : (p : Program) (pool : Pool) (starts : List ℕ) (rows : List Catch) (position thrown handler : ℕ)
    → list_all (λ row. is_start starts row.handler) rows ≡ true → handler_in p pool rows position thrown ≡ Some handler → is_start starts handler ≡ true
handler_among p pool starts [] position thrown handler all found = cc
handler_among p pool starts (row ∷ rows) position thrown handler all found =
    by (covers row position && takes p pool row thrown) (λ later. handler_among p pool starts rows position thrown handler (and_true _ _ all).1 later) found
  where
    by : (b : Bool) → (handler_in p pool rows position thrown ≡ Some handler → is_start starts handler ≡ true)
        → (elim b [ true ↦ Some row.handler | false ↦ handler_in p pool rows position thrown ]) ≡ Some handler → is_start starts handler ≡ true
    by true later found = subst (λ k. is_start starts k ≡ true) (same_Some row.handler handler found) (and_true _ _ all).0
    by false later found = later found

-- a handler is the place of an instruction
pub handler_start : (p : Program) (pool : Pool) (code : Code) (position thrown handler : ℕ) → is_well_placed code ≡ true
    → handler_in p pool code.catches position thrown ≡ Some handler → is_start (starts_in code) handler ≡ true
handler_start p pool code position thrown handler placed found =
    handler_among p pool (starts_in code) code.catches position thrown handler (and_true _ _ placed).1 found
