-- Laws of lifted values, for callers: a value that a function was lifted to is a conditional value.
use Rattle.std.proofs.Common.{Bool, List}
use Rattle.std.specs.Prelude.{Option}
use Rattle.std.specs.declared.cmp.Ordering.{Ordering}
use Rattle.vx_space.specs.Sets.{Sets}
use Rattle.vx_cond.specs.Cond.{Conditional, IsCond, IsCondLifting, IsCondLifting2}

pub IsCond-lifting : {T U S I : Type 0} (cmp : U → U → Ordering) (sets : Sets I) (R : T → U → Type 0) (value : List Bool → Option T) (cond : Conditional U S I) → IsCondLifting cmp sets R value cond → IsCond cmp sets cond
unfolding IsCondLifting
IsCond-lifting cmp sets R value cond v = v.is_cond

pub IsCond-lifting2 : {T U V S I : Type 0} (cmp : V → V → Ordering) (sets : Sets I) (R : T → U → V → Type 0) (first : List Bool → Option T) (second : List Bool → Option U) (cond : Conditional V S I) → IsCondLifting2 cmp sets R first second cond → IsCond cmp sets cond
unfolding IsCondLifting2
IsCond-lifting2 cmp sets R first second cond v = v.is_cond
