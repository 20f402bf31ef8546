use Rattle.std.proofs.Common.{◌≡◌, ◌+◌, drop, false}
use Rattle.vx_source_words.specs.Texts.{quote_place}
use Rattle.vx_source_words.proofs.texts.quote_place.Given as goal

abbrev pub invariant-loop-place : goal.invariant-loop-place
invariant-loop-place l = quote_place l.escaped (drop l.place l.text) + l.place ≡ quote_place false l.text
