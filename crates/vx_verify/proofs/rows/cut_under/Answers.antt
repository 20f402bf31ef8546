use Rattle.vx_verify.proofs.MadeLaws.{cut_is, uncut_under}
use Rattle.vx_verify.specs.declared.rows.Cut.{Cut}
use Rattle.vx_verify.proofs.rows.cut_under.Goals as goal

pub returns-in-Some : goal.returns-in-Some
returns-in-Some c =
    let cut : Cut = record { tops = c.args.tops; under = c.in-Some.under; rest = c.in-Some.rest } in
    cut_is c.args.store.now c.args.form cut c.args.rest c.requires.tops (rw (c.in-Some.is, c.lower.ensures) at c.in_ok-found.ensures)

pub returns-in-None : goal.returns-in-None
returns-in-None c = uncut_under c.args.store.now c.args.form c.args.tops.items c.args.rest (rw (c.in-None.is, c.lower.ensures) at c.in_ok-found.ensures)
