use Rattle.vx_verify.proofs.store.Store.+common_locals.Given as goal

abbrev pub decreases-common_locals : goal.decreases-common_locals
decreases-common_locals l = l.levels
