-- The code of a method that is assembled: instructions whose jumps name others by their numbers, and the bytes of all.
use Rattle.std.specs.Prelude.{ℕ, ℤ, ◌+◌, ◌-◌, ◌*◌, ◌%◌, List, [], ◌∷◌, ◌++◌, length, slice_index, min, replicate, Bool, true, nat_le, ◌&&◌}
use Rattle.std.specs.List.{flat_map}
use Rattle.std.specs.Int.{w32, cast_unsigned}
use Rattle.byteorder.specs.Endian.{big_bytes}
use Rattle.vx_class.specs.Spelling.{u2, u4}
use Rattle.vx_code_parts.specs.declared.drafts.Draft.{Draft}
use Rattle.vx_code_parts.specs.declared.drafts.Draft.TheVariants as draft
use Rattle.vx_code_parts.specs.declared.drafts.Row.{Row}

-- the bytes between an opcode and the first multiple of four behind it
abbrev pub padding : ℕ → ℕ
padding at = 3 - at % 4

-- how many bytes an instruction takes at a place
abbrev pub size : ℕ → Draft → ℕ
size at (draft.Bytes bytes) = length bytes
size at (draft.Jump op target) = 3
size at (draft.JumpWide op target) = 5
size at (draft.Table low fallback targets) = 13 + padding at + 4 * length targets
size at (draft.Lookup fallback rows) = 9 + padding at + 8 * length rows

-- the place behind an instruction; behind 65,535 places are not told apart
abbrev pub next_place : ℕ → Draft → ℕ
next_place at d = min 65536 (at + size at d)

-- the way from a place to that of an instruction, whose lowest bytes are written
abbrev pub way : List ℕ → ℕ → ℕ → ℕ
way places at target = slice_index places target + 0x1_0000_0000 - at

abbrev pub row_bytes : List ℕ → ℕ → Row → List ℕ
row_bytes places at r = u4 (cast_unsigned w32 r.key) ++ u4 (way places at r.target)

-- an opcode, the padding, and the way to the fallback
unfoldable pub switch_bytes : List ℕ → ℕ → ℕ → ℕ → List ℕ
switch_bytes places at op fallback = big_bytes 1 op ++ (replicate (padding at) 0 ++ u4 (way places at fallback))

-- the least and the greatest key, and a way for each key
unfoldable pub table_bytes : List ℕ → ℕ → ℤ → ℕ → List ℕ → List ℕ
table_bytes places at low fallback targets =
    switch_bytes places at 0xaa fallback ++ (u4 (cast_unsigned w32 low)
    ++ (u4 (cast_unsigned w32 low + length targets + 0xffff_ffff) ++ flat_map (λ t. u4 (way places at t)) targets))

-- the number of keys, and each with its way
unfoldable pub lookup_bytes : List ℕ → ℕ → ℕ → List Row → List ℕ
lookup_bytes places at fallback rows = switch_bytes places at 0xab fallback ++ (u4 (length rows) ++ flat_map (row_bytes places at) rows)

-- the bytes of an instruction at a place
unfoldable pub draft_bytes : List ℕ → ℕ → Draft → List ℕ
draft_bytes places at (draft.Bytes bytes) = bytes
draft_bytes places at (draft.Jump op target) = big_bytes 1 op ++ u2 (way places at target)
draft_bytes places at (draft.JumpWide op target) = big_bytes 1 op ++ u4 (way places at target)
draft_bytes places at (draft.Table low fallback targets) = table_bytes places at low fallback targets
draft_bytes places at (draft.Lookup fallback rows) = lookup_bytes places at fallback rows

-- the bytes of instructions, the first of which stands at a place
unfoldable pub code_bytes : List ℕ → ℕ → List Draft → List ℕ
code_bytes places at [] = []
code_bytes places at (d ∷ ds) = draft_bytes places at d ++ code_bytes places (next_place at d) ds

-- a jump of two bytes reaches its instruction
abbrev pub reaches : List ℕ → ℕ → Draft → Bool
reaches places at (draft.Jump op target) = nat_le (slice_index places target) (at + 32767) && nat_le at (slice_index places target + 32768)
reaches places at _ = true

unfoldable pub all_reach : List ℕ → ℕ → List Draft → Bool
all_reach places at [] = true
all_reach places at (d ∷ ds) = reaches places at d && all_reach places (next_place at d) ds
