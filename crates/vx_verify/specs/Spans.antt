-- Positions that are covered by no other rows than one of them is.
use Rattle.std.specs.Prelude.{All, List, false, true, ℕ, ◌<◌, ◌≡◌, ◌≤◌}
use Rattle.vx_class.specs.declared.class_file.Catch.{Catch}
use Rattle.vx_java.specs.Selection.{covers}
use Rattle.vx_verify.specs.declared.quiet.Quiet.{Quiet}

-- a row covers these positions only where it covers this one, and doesn't where none is to
pub record IsAround (at : ℕ) (q : Quiet) (row : Catch) : Type 0 where
  pub here : (p : ℕ) → q.from ≤ p → p < q.to → covers row p ≡ true → covers row at ≡ true
  pub free : q.is_free ≡ true → covers row at ≡ false

abbrev pub AreAround : List Catch → (at : ℕ) → Quiet → Type 0
AreAround rows at q = All (IsAround at q) rows

-- fewer positions, for one more row
pub record IsNarrowed (row : Catch) (at : ℕ) (old new : Quiet) : Type 0 where
  pub around : IsAround at new row
  pub from : old.from ≤ new.from
  pub to : new.to ≤ old.to
  pub locals : new.locals ≡ old.locals
  pub free : new.is_free ≡ true → old.is_free ≡ true
