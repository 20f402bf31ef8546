use Rattle.std.proofs.Common.{arith, ◌∙◌, sym, ap, filter}
use Rattle.vx_cut.specs.Parts.{is_met}
use Rattle.vx_cut.proofs.Divided.{all_sides_of}
use Rattle.vx_cut.proofs.parts.terms_of.Goals as goal

pub sides-requires : goal.sides-requires
sides-requires g c = omega (arith, c.requires.chosen, c.requires.options, (g.met.S.Space.lawful c.args.space.now).at_most_64)

pub met_terms-requires-clause-terms : goal.met_terms-requires-clause-terms
met_terms-requires-clause-terms g c = rw (c.as_slice.ensures.value, c.in_ok-terms.ensures) (all_sides_of _ c.args.chosen.now (c.requires.chosen ∙ sym c.requires.options))
