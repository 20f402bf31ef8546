use Rattle.std.proofs.Common.{◌+◌, ◌-◌, ◌*◌}
use Rattle.vx_explain.proofs.terms.+between.Given as goal

abbrev pub decreases-terms_between : goal.decreases-terms_between
decreases-terms_between g l = 3 * ((g.S.Space.sets l.space.now).options - l.first)

abbrev pub decreases-terms_by : goal.decreases-terms_by
decreases-terms_by g l = 3 * ((g.S.Space.sets l.space.now).options - (l.option + 1)) + 2

abbrev pub decreases-side_terms : goal.decreases-side_terms
decreases-side_terms g l = 3 * ((g.S.Space.sets l.space.now).options - (l.literal.option + 1)) + 1
