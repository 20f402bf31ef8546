-- A text of the first output, taken from the second one.
use Rattle.std.specs.Prelude.{◌≡◌, ◌≢◌, ◌⊎◌, ℕ, ◌+◌, ◌<◌, Bool, true, List, [], ◌++◌, drop, length, ◌||◌}
use Rattle.vx_space.specs.Sets.{Sets}
use Rattle.vx_report.specs.Projection.{bytes_of}
use Rattle.vx_report.specs.declared.report.Piece.{Piece}
use Rattle.vx_report.specs.declared.report.Report.{Report}
use Rattle.vx_value.specs.declared.end.Stream.{Stream}
use Rattle.vx_agree.specs.declared.reached.Reached.{Reached}
use Rattle.vx_agree.specs.Equal.{are_equal}
use Rattle.vx_agree.specs.Left.{bytes_if, left_from}
use Rattle.vx_agree.specs.Places.{AreBelow, AreKnownPlaces, IsAdded, IsRightAtEach, is_covered}

-- whether what is left of the first output is what is left of the second one from a place on
abbrev pub from_place : Report → List Bool → List (Stream × ℕ) → (piece byte : ℕ) → Bool
from_place other c rest piece byte = are_equal rest (left_from other c piece byte)

-- the same where so many bytes of a text are taken, the others still have to be, and this is left of the second output
abbrev pub with_taken : Piece → (rest left : List (Stream × ℕ)) → (piece count : ℕ) → Bool
with_taken front rest left piece count = are_equal (drop count (bytes_of front) ++ rest) left

-- configurations were added to places and to those that wait
pub record IsShared {I : Type 0} (s0 s1 : Sets I) (c : List Bool) (done waiting : ℕ → ℕ → Bool) (same here : Bool) (old new before after : List (Reached I)) : Type 0 where
  pub each_done : IsRightAtEach s0 c done same old → IsRightAtEach s1 c done same new
  pub each_waiting : IsRightAtEach s0 c waiting same before → IsRightAtEach s1 c waiting same after
  pub keeps_done : is_covered s0 old c ≡ true → is_covered s1 new c ≡ true
  pub keeps_waiting : is_covered s0 before c ≡ true → is_covered s1 after c ≡ true
  pub adds : here ≡ true → same ≡ true → (is_covered s1 new c || is_covered s1 after c) ≡ true

-- What places tell at a piece of the second output that is written, where `more` is left behind it: a place in it, the place behind it, and those that wait there.
pub record IsHere (index : ℕ) (piece front : Piece) (is_written : Bool) (rest more : List (Stream × ℕ)) (done waiting : ℕ → ℕ → Bool) : Type 0 where
  pub inside : (byte : ℕ) → is_written ≡ true → done index byte ≡ are_equal rest (drop byte (bytes_of piece) ++ more)
  pub behind : done (index + 1) 0 ≡ are_equal rest more
  pub waits : (count : ℕ) → waiting (index + 1) count ≡ with_taken front rest more (index + 1) count

-- the place behind so many bytes from a byte of a piece on: the start of the next piece, where nothing is left of it
abbrev pub IsBehind : (index : ℕ) → Piece → (byte count next from : ℕ) → Type 0
IsBehind index piece byte count next from =
    ((count ≡ length (drop byte piece.text)) × (next ≡ index + 1) × (from ≡ 0)) ⊎ ((count ≢ length (drop byte piece.text)) × (next ≡ index) × (from ≡ byte + count))

-- configurations that write a piece took from it what they could of a text, of which so many bytes were taken
pub record HasTaken {I : Type 0} (s0 s1 : Sets I) (index : ℕ) (piece : Piece) (byte : ℕ) (front : Piece) (count : ℕ) (condition : I) (old new before after : List (Reached I)) : Type 0 where
  pub known : AreKnownPlaces s1 new
  pub known_waiting : AreKnownPlaces s1 after
  pub below : count < length front.text → AreBelow (length front.text) before → AreBelow (length front.text) after
  pub shared : (c : List Bool) (rest more : List (Stream × ℕ)) (done waiting : ℕ → ℕ → Bool) (same : Bool) → IsHere index piece front (s0.test condition c) rest more done waiting
      → (s0.test condition c ≡ true → same ≡ with_taken front rest (drop byte (bytes_of piece) ++ more) index count) → IsShared s0 s1 c done waiting same (s0.test condition c) old new before after

-- the configurations of an entry took from a piece, which those of a set write
pub record Takes {I : Type 0} (s0 s1 : Sets I) (index : ℕ) (piece : Piece) (set : I) (byte : ℕ) (front : Piece) (entry : Reached I) (old new before after : List (Reached I)) : Type 0 where
  pub known : AreKnownPlaces s1 new
  pub known_waiting : AreKnownPlaces s1 after
  pub below : entry.byte < length front.text → AreBelow (length front.text) before → AreBelow (length front.text) after
  pub shared : (c : List Bool) (rest more : List (Stream × ℕ)) (done waiting : ℕ → ℕ → Bool) (same : Bool) → IsHere index piece front (s0.test set c) rest more done waiting
      → (s0.test entry.condition c ≡ true → same ≡ with_taken front rest (drop byte (bytes_if (s0.test set c) piece) ++ more) index entry.byte) → IsShared s0 s1 c done waiting same (s0.test entry.condition c) old new before after

-- those of all entries that waited before it
pub record TakesAll {I : Type 0} (s0 s1 : Sets I) (index : ℕ) (piece : Piece) (set : I) (byte : ℕ) (front : Piece) (entries old new after : List (Reached I)) : Type 0 where
  pub known : AreKnownPlaces s1 new
  pub known_waiting : AreKnownPlaces s1 after
  pub below : AreBelow (length front.text) entries → AreBelow (length front.text) after
  pub shared : (c : List Bool) (rest more : List (Stream × ℕ)) (done waiting : ℕ → ℕ → Bool) (same : Bool) → IsHere index piece front (s0.test set c) rest more done waiting
      → IsRightAtEach s0 c (with_taken front rest (drop byte (bytes_if (s0.test set c) piece) ++ more)) same entries → IsShared s0 s1 c done waiting same (is_covered s0 entries c) old new [] after

-- the configurations of a condition took a whole text from a place on, and have come to new places
pub record IsTaken {I : Type 0} (s0 s1 : Sets I) (other : Report) (piece byte : ℕ) (condition : I) (front : Piece) (old new : List (Reached I)) : Type 0 where
  pub known : AreKnownPlaces s1 new
  pub added : (c : List Bool) (rest : List (Stream × ℕ)) (same : Bool) → (s0.test condition c ≡ true → same ≡ are_equal (bytes_of front ++ rest) (left_from other c piece byte)) → IsAdded s0 s1 c (from_place other c rest) same (s0.test condition c) old new

-- those of a condition wait at the start of a text
pub record IsBegun {I : Type 0} (sets : Sets I) (piece : ℕ) (condition : I) (entries : List (Reached I)) : Type 0 where
  pub known : AreKnownPlaces sets entries
  pub below : (bound : ℕ) → 0 < bound → AreBelow bound entries
  pub right : (c : List Bool) (waiting : ℕ → ℕ → Bool) (same : Bool) → (sets.test condition c ≡ true → same ≡ waiting piece 0) → IsRightAtEach sets c waiting same entries
  pub covers : (c : List Bool) → is_covered sets entries c ≡ sets.test condition c
