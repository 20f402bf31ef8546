use Rattle.vx_check.proofs.checking.checked.Goals as goal

pub returns : goal.returns
returns g c = record { of = c.in_ok-of.ensures.number; failing = c.in_ok-failing.ensures.number; told = rw c.of.ensures c.in_ok-sort.ensures }
