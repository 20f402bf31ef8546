-- Numbers that stand in code.
use Rattle.std.proofs.Common.{◌≡◌, ℕ, ◌+◌, ◌<◌, ◌≤◌, ◌^◌, ◌%◌, List, [], ◌∷◌, ◌++◌, length, drop, slice_index, true, nat_le, sym, ap, ◌∙◌, append_assoc, arith, length-append, length-drop}
use Rattle.std.proofs.Math.Seq.{drop-append_seam, drop-drop}
use Rattle.std.proofs.lemmas.Bool.{le-leb}
use Rattle.std.proofs.lemmas.List.{get_or-drop}
use Rattle.byteorder.specs.Endian.{big_bytes}
use Rattle.byteorder.specs.Numbers.{big_from-bytes}
use Rattle.vx_opcode.specs.Numbers.{u1, u2, u4}

-- a text stands at a place of the code
abbrev pub Stands : List ℕ → ℕ → List ℕ → Type 0
Stands code at text = (rest : List ℕ) × (drop at code ≡ text ++ rest)

-- its first part does
pub front : (code : List ℕ) (at : ℕ) (a b : List ℕ) → Stands code at (a ++ b) → Stands code at a
front code at a b h = (b ++ h.0, h.1 ∙ append_assoc a b h.0)

-- and what is behind it
pub behind : (code : List ℕ) (at n : ℕ) (a b : List ℕ) → length a ≡ n → Stands code at (a ++ b) → Stands code (at + n) b
behind code at n a b e h =
    (h.0, sym (drop-drop n at code) ∙ ap (drop n) (h.1 ∙ append_assoc a b h.0) ∙ ap (λ (k : ℕ). drop k (a ++ (b ++ h.0))) (sym e) ∙ drop-append_seam a (b ++ h.0))

-- it lies in the code
pub within : (code : List ℕ) (at n : ℕ) (text : List ℕ) → length text ≡ n → 0 < n → Stands code at text → at + n ≤ length code
within code at n text e some h =
    let left = sym (length-drop at code) ∙ ap (length {A = ℕ}) h.1 ∙ length-append text h.0 in
    omega (arith, left, e, some)

pub is_within : (code : List ℕ) (at n : ℕ) (text : List ℕ) → length text ≡ n → 0 < n → Stands code at text → nat_le (at + n) (length code) ≡ true
is_within code at n text e some h = le-leb _ _ (within code at n text e some h)

pub byte_there : (code : List ℕ) (at b : ℕ) (others : List ℕ) → Stands code at (b ∷ others) → slice_index code at ≡ b
byte_there code at b others h =
    ap (slice_index code) (omega arith) ∙ sym (get_or-drop at code 0 0) ∙ ap (λ (t : List ℕ). slice_index t 0) h.1

-- a number of n bytes, by its lowest bytes
pub low_2 : (code : List ℕ) (at n : ℕ) → Stands code at (big_bytes 2 n) → u2 code at ≡ n % 65536
unfolding u2
low_2 code at n h = rw h.1 (big_from-bytes 2 n h.0)

pub low_4 : (code : List ℕ) (at n : ℕ) → Stands code at (big_bytes 4 n) → u4 code at ≡ n % 2 ^ 32
unfolding u4
low_4 code at n h = rw h.1 (big_from-bytes 4 n h.0)

pub low_1 : (code : List ℕ) (at n : ℕ) → Stands code at (big_bytes 1 n) → u1 code at ≡ n % 256
low_1 code at n h = byte_there code at (n % 256) [] h
