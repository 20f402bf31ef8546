-- The jumps of switches (JVMS 6.5 tableswitch, lookupswitch).
use Rattle.std.specs.Prelude.{true, false, List, if◌then◌else◌, int_le, nat_abs, suc, zero, ℕ, ℤ, ◌&&◌, ◌*◌, ◌+◌, ◌-ℤ◌}
use Rattle.vx_opcode.specs.Numbers.{s4}
use Rattle.vx_value.specs.Arithmetic.{same_int}

-- the jump of a key in a table, whose jumps stand from the place first on
abbrev pub table_jump : List ℕ → (fallback low high : ℤ) → (first : ℕ) → (key : ℤ) → ℤ
table_jump code fallback low high first key =
    if int_le low key && int_le key high then s4 code (first + 4 * nat_abs (key -ℤ low)) else fallback

-- the jump of the first pair of a key; the pairs stand from the place first on
abbrev pub pair_jump : List ℕ → (key fallback : ℤ) → (pairs first : ℕ) → ℤ
pair_jump code key fallback zero first = fallback
pair_jump code key fallback (suc pairs) first =
    elim (same_int (s4 code first) key) [ true ↦ s4 code (first + 4) | false ↦ pair_jump code key fallback pairs (first + 8) ]
