use Rattle.std.proofs.Common.{rules, ◌≡◌, ◌<◌, List, [], ◌∷◌, ℕ, refl, suc, true}
use Rattle.std.proofs.lemmas.Bool.{lt-ltb}
use Rattle.std.specs.Cmp.Derive.{both_true}
use Rattle.std.specs.Prelude.{slice_index}
use Rattle.vx_reporting.specs.Fitting.{are_bytes}
use Rattle.vx_reporting.proofs.lines.bytes_fit.Goals as goal

-- each byte is below 256
each_below : (bytes : List ℕ) → ((i : ℕ) → slice_index bytes i < 256) → are_bytes bytes ≡ true
each_below [] h = refl
each_below (b ∷ bytes) h = both_true (lt-ltb b 256 (h 0)) (each_below bytes (λ i. h (suc i)))

pub returns : goal.returns
returns c = let fits : (i : ℕ) → slice_index c.args.bytes.now i < 256 = search rules in each_below c.args.bytes.now fits
