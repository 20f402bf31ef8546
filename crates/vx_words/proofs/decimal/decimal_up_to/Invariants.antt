use Rattle.std.proofs.Common.{◌≡◌, ◌≤◌, min, drop}
use Rattle.vx_words.specs.Decimal.{number_from}
use Rattle.vx_words.proofs.decimal.decimal_up_to.Given as goal

abbrev pub invariant-loop-digit : goal.invariant-loop-digit
invariant-loop-digit l = (l.number ≤ l.cap) × (min l.cap (number_from l.number (drop l.digit-index l.word)) ≡ min l.cap (number_from 0 l.word))
