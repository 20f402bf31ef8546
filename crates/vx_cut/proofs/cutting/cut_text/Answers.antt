use Rattle.std.proofs.Common.{arith, ap, length}
use Rattle.vx_cut.proofs.Whole.{is_cut, put_cut}
use Rattle.vx_cut.proofs.cutting.cut_text.Goals as goal

pub returns-clause-cut : goal.returns-clause-cut
returns-clause-cut g c =
    let few = rw (c.as_slice.ensures.value, c.in_ok-terms.ensures.terms) at c.terms_fit.ensures in
    let parts = rw (c.as_slice-2.ensures.value, c.in_ok-terms.ensures.terms) at c.parts_text.ensures in
    put_cut c.args.dimacs c.args.text.now c.args.model.now c.args.chosen.now c.parts_text.result parts
    (λ fits. is_cut c.rules_are_read_back.ensures (g.met.S.Space.lawful c.args.space.now) c.args.dimacs c.args.text.now c.args.model.now c.args.allowed c.args.chosen.now c.requires.spelled c.requires.names c.requires.allowed c.requires.options c.requires.chosen (omega (arith, few)) fits)

pub returns-clause-sized : goal.returns-clause-sized
returns-clause-sized g c = rw (c.as_slice-2.ensures.value, c.in_ok-terms.ensures.terms) at c.parts_text.ensures
