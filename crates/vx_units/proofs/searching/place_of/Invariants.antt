use Rattle.std.proofs.Common.{◌≡◌, drop}
use Rattle.vx_java.specs.Texts.{place_of}
use Rattle.vx_units.proofs.searching.place_of.Given as goal

abbrev pub invariant-loop-place : goal.invariant-loop-place
invariant-loop-place l = place_of l.place l.text (drop l.place l.units) ≡ place_of 0 l.text l.units
