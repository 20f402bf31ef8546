-- The jumps of a switch lie in the code, since its instruction does; and what decoding tells of the instruction.
use Rattle.std.proofs.Common.{List, None, Option, Some, [], ap, refl, suc, zero, ℕ, ◌∷◌, ◌≡◌}
use Rattle.std.specs.Prelude.{Err, Ok, ok_or, slice_get, unwrap_or}
use Rattle.vx_java.specs.Operation.{Rule, does, operation_of, rules, switch_of}
use Rattle.vx_java.specs.declared.operation.Operation.TheVariants.{Nop}
use Rattle.vx_opcode.specs.Decode.{TableFits}
use Rattle.vx_opcode.specs.declared.instruction.DecodeFault.{DecodeFault}
use Rattle.vx_opcode.specs.declared.instruction.Instruction.{Instruction}
use Rattle.vx_opcode.specs.declared.instruction.Operand.{Operand}
use Rattle.vx_opcode.specs.declared.instruction.Operand.TheVariants.{Dimensions, Increment, Interface, Jump, Local, Lookup, Nothing, Number, Pool, Table}
use Rattle.vx_types.specs.Flow.{EntriesFit}

-- what each of these rules makes of an operand has its jumps in the code
abbrev AllFit : List ℕ → Operand → List Rule → Type 0
AllFit code o [] = Unit {0}
AllFit code o (r ∷ rs) = EntriesFit code (r o) × AllFit code o rs

-- so many rules of what is no switch, before others
abbrev Front : ℕ → Type 0 → Type 0
Front zero T = T
Front (suc n) T = Unit {0} × Front n T

front : (n : ℕ) {T : Type 0} → T → Front n T
front zero t = t
front (suc n) t = (tt, front n t)

switch_fits : (code : List ℕ) (o : Operand) → TableFits code o → EntriesFit code (switch_of o)
switch_fits code (Table fallback low high first) h = h
switch_fits code (Lookup fallback pairs first) h = h
switch_fits code Nothing h = tt
switch_fits code (Number n) h = tt
switch_fits code (Pool n) h = tt
switch_fits code (Local n) h = tt
switch_fits code (Increment n by) h = tt
switch_fits code (Jump n) h = tt
switch_fits code (Interface n slots) h = tt
switch_fits code (Dimensions n d) h = tt

-- the switches have the opcodes aa and ab
all_fit : (code : List ℕ) (o : Operand) → TableFits code o → AllFit code o rules
all_fit code o h = front 170 (switch_fits code o h, (switch_fits code o h, front 30 tt))

fit_at : (code : List ℕ) (o : Operand) (rs : List Rule) (n : ℕ) → AllFit code o rs → EntriesFit code (unwrap_or (slice_get rs n) (does Nop) o)
fit_at code o [] n h = tt
fit_at code o (r ∷ rs) zero h = h.0
fit_at code o (r ∷ rs) (suc n) h = fit_at code o rs n h.1

pub entries_fit : (code : List ℕ) (i : Instruction) → TableFits code i.operand → EntriesFit code (operation_of i)
entries_fit code i h = fit_at code i.operand rules i.opcode (all_fit code i.operand h)

-- ---- what decoding tells

pub some_decoded : (o : Option Instruction) (fault : DecodeFault) (i : Instruction) → ok_or o fault ≡ Ok i → o ≡ Some i
some_decoded None fault i e = absurd cc
some_decoded (Some j) fault i e = let same : j ≡ i = cc in ap Some same

pub none_decoded : (o : Option Instruction) (fault other : DecodeFault) → ok_or o fault ≡ Err other → o ≡ None
none_decoded None fault other e = refl
none_decoded (Some j) fault other e = absurd cc
