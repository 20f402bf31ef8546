-- Configurations that are moved along the first output, piece by piece.
use Rattle.std.specs.Prelude.{◌≡◌, ℕ, Bool, true, List, [], ◌++◌}
use Rattle.vx_space.specs.Sets.{Sets}
use Rattle.vx_report.specs.Projection.{output_at}
use Rattle.vx_report.specs.declared.report.Piece.{Piece}
use Rattle.vx_report.specs.declared.report.Report.{Report}
use Rattle.vx_value.specs.declared.end.Stream.{Stream}
use Rattle.vx_agree.specs.declared.reached.Reached.{Reached}
use Rattle.vx_agree.specs.Equal.{are_equal}
use Rattle.vx_agree.specs.Left.{bytes_if, left_from, written}
use Rattle.vx_agree.specs.Places.{AreKnownPlaces, IsAdded, IsRightAtEach, is_covered}
use Rattle.vx_agree.specs.Taking.{from_place}

-- the configurations of a condition write the same from both places on
pub record SaysTheSame {I : Type 0} (sets : Sets I) (other : Report) (condition : I) (piece byte later later_byte : ℕ) : Type 0 where
  pub same : (c : List Bool) → sets.test condition c ≡ true → left_from other c piece byte ≡ left_from other c later later_byte

-- the configurations of a condition, which stand at a place, were added there or at places from which on they write the same
pub record IsSlid {I : Type 0} (s0 s1 : Sets I) (other : Report) (piece byte : ℕ) (condition : I) (old new : List (Reached I)) : Type 0 where
  pub known : AreKnownPlaces s1 new
  pub added : (c : List Bool) (rest : List (Stream × ℕ)) (same : Bool) → (s0.test condition c ≡ true → same ≡ from_place other c rest piece byte) → IsAdded s0 s1 c (from_place other c rest) same (s0.test condition c) old new

-- the configurations of an entry come together to a place by a piece of the first output, which those of a set write
pub record GoesAlong {I : Type 0} (sets : Sets I) (other : Report) (entry : Reached I) (front : Piece) (set : I) (piece byte : ℕ) : Type 0 where
  pub same : (c : List Bool) (rest : List (Stream × ℕ)) → sets.test entry.condition c ≡ true → are_equal (bytes_if (sets.test set c) front ++ rest) (left_from other c entry.piece entry.byte) ≡ from_place other c rest piece byte

-- the configurations of an entry were moved by a piece, which those of a set write
pub record IsMoved {I : Type 0} (s0 s1 : Sets I) (other : Report) (entry : Reached I) (front : Piece) (set : I) (old new : List (Reached I)) : Type 0 where
  pub known : AreKnownPlaces s1 new
  pub added : (c : List Bool) (rest : List (Stream × ℕ)) (same : Bool) → (s0.test entry.condition c ≡ true → same ≡ are_equal (bytes_if (s0.test set c) front ++ rest) (left_from other c entry.piece entry.byte))
      → IsAdded s0 s1 c (from_place other c rest) same (s0.test entry.condition c) old new

-- each place is right for a configuration, and where `here` says so it has a place if its outputs are the same
pub record IsLeft {I : Type 0} (sets : Sets I) (c : List Bool) (same_from : ℕ → ℕ → Bool) (same here : Bool) (reached : List (Reached I)) : Type 0 where
  pub each : IsRightAtEach sets c same_from same reached
  pub all : here ≡ true → same ≡ true → is_covered sets reached c ≡ true

-- all entries were moved by a piece, which those of a set write
pub record AreMoved {I : Type 0} (s0 s1 : Sets I) (other : Report) (front : Piece) (set : I) (old new : List (Reached I)) : Type 0 where
  pub known : AreKnownPlaces s1 new
  pub left : (c : List Bool) (rest : List (Stream × ℕ)) (same here : Bool) → IsLeft s0 c (λ piece byte. from_place other c (bytes_if (s0.test set c) front ++ rest) piece byte) same here old → IsLeft s1 c (from_place other c rest) same here new

-- all entries were moved by a piece of a report
pub record HaveMoved {I : Type 0} (s0 s1 : Sets I) (one other : Report) (front : Piece) (old new : List (Reached I)) : Type 0 where
  pub known : AreKnownPlaces s1 new
  pub left : (c : List Bool) (rest : List (Stream × ℕ)) (same here : Bool) → IsLeft s0 c (λ piece byte. from_place other c (written one c front ++ rest) piece byte) same here old → IsLeft s1 c (from_place other c rest) same here new

-- whether two reports have equal output
abbrev pub is_same_output : Report → Report → List Bool → Bool
is_same_output one other c = are_equal (output_at one c) (output_at other c)

-- the places behind one output in another; those of a set have a place
pub record AreBehind {I : Type 0} (s0 s1 : Sets I) (one other : Report) (start : I) (reached : List (Reached I)) : Type 0 where
  pub known : AreKnownPlaces s1 reached
  pub left : (c : List Bool) → IsLeft s1 c (from_place other c []) (is_same_output one other c) (s0.test start c) reached

-- a set has just the configurations of a condition that write nothing from a place on
pub record IsUnsaid {I : Type 0} (s0 s1 : Sets I) (other : Report) (piece byte : ℕ) (condition id : I) : Type 0 where
  pub known : s1.is_known id ≡ true
  pub nothing : (c : List Bool) → s1.test id c ≡ true → (s0.test condition c ≡ true) × (from_place other c [] piece byte ≡ true)
  pub all : (c : List Bool) → s0.test condition c ≡ true → from_place other c [] piece byte ≡ true → s1.test id c ≡ true

-- a set has just the configurations that have a place and whose outputs are the same
pub record IsAllSaid {I : Type 0} (s0 s1 : Sets I) (other : Report) (reached : List (Reached I)) (id : I) : Type 0 where
  pub known : s1.is_known id ≡ true
  pub sound : (c : List Bool) (same here : Bool) → IsLeft s0 c (from_place other c []) same here reached → s1.test id c ≡ true → same ≡ true
  pub complete : (c : List Bool) (same here : Bool) → IsLeft s0 c (from_place other c []) same here reached → here ≡ true → same ≡ true → s1.test id c ≡ true

-- a set has only configurations with equal output, and all of them that a set to begin with has
pub record IsSameOutput {I : Type 0} (s0 s1 : Sets I) (one other : Report) (start id : I) : Type 0 where
  pub known : s1.is_known id ≡ true
  pub same : (c : List Bool) → s1.test id c ≡ true → output_at one c ≡ output_at other c
  pub all : (c : List Bool) → s0.test start c ≡ true → output_at one c ≡ output_at other c → s1.test id c ≡ true
