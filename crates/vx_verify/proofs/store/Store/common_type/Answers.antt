use Rattle.std.proofs.Common.{ap, sym, ◌∙◌}
use Rattle.vx_types.specs.Fits.{fits}
use Rattle.vx_types.specs.declared.types.VerType.{VerType}
use Rattle.vx_verify.proofs.PutLaws.{common_fitted, common_put, common_same}
use Rattle.vx_verify.specs.States.{type_at}
use Rattle.vx_verify.proofs.store.Store.common_type.Goals as goal

pub returns-then-one-other : goal.returns-then-one-other
returns-then-one-other c = common_same c.args.program.now c.requires.ranked c.args.self.now c.args.one c.args.other c.requires.store c.requires.one c.if-one-other.true

pub returns-then-fits : goal.returns-then-fits
returns-then-fits c =
    common_fitted c.args.program.now c.requires.ranked c.args.self.now c.args.one c.args.other c.requires.store c.requires.one
    (sym
    (c.fits.ensures
    ∙ ap (λ (t : VerType). fits c.args.program.now t c.type_at-first.result.now) c.type_at-second.ensures
    ∙ ap (fits c.args.program.now (type_at c.args.self.now c.args.other)) c.type_at-first.ensures)
    ∙ c.if-fits.true)

pub returns : goal.returns
returns c =
    common_put c.args.program.now c.args.self.now _ c.args.one c.args.other c.in_ok-number.number c.in_ok-found.found
    (rw (c.type_at-first.ensures, c.type_at-second.ensures) at c.in_ok-found.ensures) c.in_ok-number.ensures.ok
