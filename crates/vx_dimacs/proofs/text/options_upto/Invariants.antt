use Rattle.std.proofs.Common.{◌≡◌}
use Rattle.vx_dimacs.specs.Dimacs.{options_upto}
use Rattle.vx_dimacs.specs.Draft.{drafted}
use Rattle.vx_dimacs.proofs.text.options_upto.Given as goal

abbrev pub invariant-loop-k : goal.invariant-loop-k
invariant-loop-k l = l.options.items ≡ options_upto (drafted l.draft) l.k
