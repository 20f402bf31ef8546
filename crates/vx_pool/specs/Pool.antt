-- The entries of the pool, as they are read.
use Rattle.std.specs.Prelude.{ℕ, ◌+◌, ◌-◌, length, zero, suc, List, [], ◌∷◌, Option, Some, None, Ok, Bool, true, false, nat_le, ◌==◌, if◌then◌else◌}
use Rattle.std.specs.Int.{w32, w64, cast_signed}
use Rattle.vx_pool.specs.declared.pool.Entry.{Entry}
use Rattle.vx_pool.specs.declared.pool.Entry.TheVariants as entry
use Rattle.vx_pool.specs.declared.pool.Pool.{Pool}
use Rattle.vx_pool.specs.Place.{Place}
use Rattle.vx_pool.specs.Reading.{Read, ◌>>=◌, with_front, check, refuse, number, bytes}
use Rattle.vx_pool.specs.Text.{is_text}

-- ---- what stands behind each tag

pub data Shape : Type 0 where
  -- a length of two bytes, and so many bytes
  Bytes : Shape
  -- a number of so many bytes
  One : ℕ → (ℕ → Entry) → Shape
  -- a number of eight bytes, in an entry that takes two indices
  Wide : (ℕ → Entry) → Shape
  -- a number of so many bytes, and one of two
  Two : ℕ → (ℕ → ℕ → Entry) → Shape

abbrev pub shapes : List (ℕ × Shape)
shapes =
    (1, Bytes)
    ∷ (3, One 4 (λ n. entry.Integer (cast_signed w32 n)))
    ∷ (4, One 4 entry.Float)
    ∷ (5, Wide (λ n. entry.Long (cast_signed w64 n)))
    ∷ (6, Wide entry.Double)
    ∷ (7, One 2 entry.Class)
    ∷ (8, One 2 entry.Text)
    ∷ (9, Two 2 entry.Field)
    ∷ (10, Two 2 entry.Method)
    ∷ (11, Two 2 entry.InterfaceMethod)
    ∷ (12, Two 2 entry.NameAndType)
    ∷ (15, Two 1 entry.MethodHandle)
    ∷ (16, One 2 entry.MethodType)
    ∷ (18, Two 2 entry.InvokeDynamic)
    ∷ []

abbrev pub shape_in : List (ℕ × Shape) → ℕ → Option Shape
shape_in [] tag = None
shape_in (row ∷ rows) tag = if tag == row.0 then Some row.1 else shape_in rows tag

-- a text whose tag stands at a place
unfoldable pub text_at : ℕ → Place → Read Entry
text_at tag s = do
  len ← number 2 s
  text ← bytes len.0 len.1
  check (is_text text.0) tag 7 (Ok (entry.Utf8 text.0, text.1))

unfoldable pub one_at : ℕ → (ℕ → Entry) → Place → Read Entry
one_at n make s = do
  x ← number n s
  Ok (make x.0, x.1)

unfoldable pub two_at : ℕ → (ℕ → ℕ → Entry) → Place → Read Entry
two_at n make s = do
  x ← number n s
  y ← number 2 x.1
  Ok (make x.0 y.0, y.1)

-- An entry that takes two indices has an index behind its own.
unfoldable pub wide_at : ℕ → ℕ → (ℕ → Entry) → Place → Read Entry
wide_at behind tag make s = check (nat_le 1 behind) tag 5 (one_at 8 make s)

-- what stands behind a tag, where there are so many indices behind
abbrev pub shaped_at : ℕ → ℕ → Option Shape → Place → Read Entry
shaped_at behind tag None s = refuse tag 4
shaped_at behind tag (Some Bytes) s = text_at tag s
shaped_at behind tag (Some (One n make)) s = one_at n make s
shaped_at behind tag (Some (Wide make)) s = wide_at behind tag make s
shaped_at behind tag (Some (Two n make)) s = two_at n make s

unfoldable pub body_at : ℕ → ℕ → ℕ → Place → Read Entry
body_at behind tag kind s = shaped_at behind tag (shape_in shapes kind) s

unfoldable pub entry_at : ℕ → Place → Read Entry
entry_at behind s = do
  kind ← number 1 s
  body_at behind s.at kind.0 kind.1

abbrev pub is_wide : Entry → Bool
is_wide (entry.Long n) = true
is_wide (entry.Double n) = true
is_wide _ = false

-- how many bytes stand behind the tag
abbrev pub body_size : Entry → ℕ
body_size entry.Unusable = 0
body_size (entry.Utf8 text) = 2 + length text
body_size (entry.Integer n) = 4
body_size (entry.Float n) = 4
body_size (entry.Long n) = 8
body_size (entry.Double n) = 8
body_size (entry.Class i) = 2
body_size (entry.Text i) = 2
body_size (entry.Field i j) = 4
body_size (entry.Method i j) = 4
body_size (entry.InterfaceMethod i j) = 4
body_size (entry.NameAndType i j) = 4
body_size (entry.MethodHandle kind i) = 3
body_size (entry.MethodType i) = 2
body_size (entry.InvokeDynamic i j) = 4

-- how many bytes an entry takes
abbrev pub size : Entry → ℕ
size entry.Unusable = 0
size e = 1 + body_size e

-- the entries of so many indices, the first of which may be the second of a wide entry
unfoldable pub entries_at : ℕ → Bool → Place → Read (List Entry)
entries_at zero second s = Ok ([], s)
entries_at (suc n) true s = with_front (entry.Unusable ∷ []) (entries_at n false s)
entries_at (suc n) false s = do
  first ← entry_at n s
  with_front (first.0 ∷ []) (entries_at n (is_wide first.0) first.1)

-- the number of places, which isn't 0, and the entries from index 1 on
unfoldable pub pool_at : Place → Read Pool
pool_at s = do
  count ← number 2 s
  check (nat_le 1 count.0) s.at 5 (do
    entries ← with_front (entry.Unusable ∷ []) (entries_at (count.0 - 1) false count.1)
    Ok (record { entries = entries.0 }, entries.1))
