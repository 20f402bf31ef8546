use Rattle.std.proofs.Common.{◌≡◌, drop, map}
use Rattle.vx_java.specs.Initialisation.{chain_blocked}
use Rattle.vx_java.proofs.initialisation.chain_blocked.Given as goal

abbrev pub invariant-loop-class : goal.invariant-loop-class
invariant-loop-class l = chain_blocked l.program (map (λ c. c.0) l.fn.chain) ≡ chain_blocked l.program (map (λ c. c.0) (drop l.class-index l.fn.chain))
