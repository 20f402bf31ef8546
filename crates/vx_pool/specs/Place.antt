-- A place in a file.
use Rattle.std.specs.Prelude.{ℕ, ◌+◌, ◌<◌, List, length, drop, slice_index}

-- how many bytes stand before it, and the bytes from there to the end
pub record Place : Type 0 where
  pub at : ℕ
  pub rest : List ℕ

-- the place behind so many bytes, before these
abbrev pub place : ℕ → List ℕ → Place
place at rest = record { at = at; rest = rest }

-- the first place of a file
abbrev pub start : List ℕ → Place
start bytes = record { at = 0; rest = bytes }

-- the place n bytes further on
abbrev pub past : ℕ → Place → Place
past n s = record { at = s.at + n; rest = drop n s.rest }

-- the length of the file
abbrev pub file_length : Place → ℕ
file_length s = s.at + length s.rest

-- numbers of one byte each
abbrev pub IsBytes : List ℕ → Type 0
IsBytes bytes = (i : ℕ) → slice_index bytes i < 256
