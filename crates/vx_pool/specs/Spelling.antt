-- The bytes of a pool, and what has a spelling.
use Rattle.std.specs.Prelude.{◌≡◌, ℕ, ◌<◌, ◌^◌, List, [], ◌∷◌, ◌++◌, length, Bool, true, false, FitsSigned}
use Rattle.std.specs.Int.{w32, w64, cast_unsigned}
use Rattle.std.specs.List.{flat_map}
use Rattle.byteorder.specs.Endian.{big_bytes}
use Rattle.vx_pool.specs.declared.pool.Entry.{Entry}
use Rattle.vx_pool.specs.declared.pool.Entry.TheVariants as entry
use Rattle.vx_pool.specs.declared.pool.Pool.{Pool}
use Rattle.vx_pool.specs.Text.{is_text}
use Rattle.vx_pool.specs.Pool.{is_wide}

-- a tag, and what stands behind it
abbrev pub entry_bytes : Entry → List ℕ
entry_bytes entry.Unusable = []
entry_bytes (entry.Utf8 text) = big_bytes 1 1 ++ (big_bytes 2 (length text) ++ text)
entry_bytes (entry.Integer z) = big_bytes 1 3 ++ big_bytes 4 (cast_unsigned w32 z)
entry_bytes (entry.Float n) = big_bytes 1 4 ++ big_bytes 4 n
entry_bytes (entry.Long z) = big_bytes 1 5 ++ big_bytes 8 (cast_unsigned w64 z)
entry_bytes (entry.Double n) = big_bytes 1 6 ++ big_bytes 8 n
entry_bytes (entry.Class i) = big_bytes 1 7 ++ big_bytes 2 i
entry_bytes (entry.Text i) = big_bytes 1 8 ++ big_bytes 2 i
entry_bytes (entry.Field i j) = big_bytes 1 9 ++ (big_bytes 2 i ++ big_bytes 2 j)
entry_bytes (entry.Method i j) = big_bytes 1 10 ++ (big_bytes 2 i ++ big_bytes 2 j)
entry_bytes (entry.InterfaceMethod i j) = big_bytes 1 11 ++ (big_bytes 2 i ++ big_bytes 2 j)
entry_bytes (entry.NameAndType i j) = big_bytes 1 12 ++ (big_bytes 2 i ++ big_bytes 2 j)
entry_bytes (entry.MethodHandle kind i) = big_bytes 1 15 ++ (big_bytes 1 kind ++ big_bytes 2 i)
entry_bytes (entry.MethodType i) = big_bytes 1 16 ++ big_bytes 2 i
entry_bytes (entry.InvokeDynamic i j) = big_bytes 1 18 ++ (big_bytes 2 i ++ big_bytes 2 j)

-- the pool of these entries
abbrev pub pool_of : List Entry → Pool
pool_of es = record { entries = es }

abbrev pub pool_bytes : Pool → List ℕ
pool_bytes p = big_bytes 2 (length p.entries) ++ flat_map entry_bytes p.entries

-- ---- what has a spelling

-- an entry that the tag of a file can make
abbrev pub Fits : Entry → Type 0
Fits entry.Unusable = ⊥
Fits (entry.Utf8 text) = (is_text text ≡ true) × (length text < 256 ^ 2)
Fits (entry.Integer z) = FitsSigned w32 z
Fits (entry.Float n) = n < 256 ^ 4
Fits (entry.Long z) = FitsSigned w64 z
Fits (entry.Double n) = n < 256 ^ 8
Fits (entry.Class i) = i < 256 ^ 2
Fits (entry.Text i) = i < 256 ^ 2
Fits (entry.Field i j) = (i < 256 ^ 2) × (j < 256 ^ 2)
Fits (entry.Method i j) = (i < 256 ^ 2) × (j < 256 ^ 2)
Fits (entry.InterfaceMethod i j) = (i < 256 ^ 2) × (j < 256 ^ 2)
Fits (entry.NameAndType i j) = (i < 256 ^ 2) × (j < 256 ^ 2)
Fits (entry.MethodHandle kind i) = (kind < 256 ^ 1) × (i < 256 ^ 2)
Fits (entry.MethodType i) = i < 256 ^ 2
Fits (entry.InvokeDynamic i j) = (i < 256 ^ 2) × (j < 256 ^ 2)

-- entries of indices, the first of which may be the second of a wide entry
abbrev pub ArePlaced : List Entry → Bool → Type 0
ArePlaced [] second = second ≡ false
ArePlaced (e ∷ es) true = (e ≡ entry.Unusable) × ArePlaced es false
ArePlaced (e ∷ es) false = Fits e × ArePlaced es (is_wide e)

-- a pool that a reading can give
pub record IsPool (p : Pool) : Type 0 where
  pub entries : List Entry
  pub are : p.entries ≡ entry.Unusable ∷ entries
  pub placed : ArePlaced entries false
  pub few : length p.entries < 256 ^ 2
