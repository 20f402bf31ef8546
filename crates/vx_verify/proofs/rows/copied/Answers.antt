use Rattle.std.proofs.lemmas.Result.{IfOk-weaker}
use Rattle.vx_verify.proofs.MadeLaws.{on_again}
use Rattle.vx_verify.proofs.StoreLaws.{are_types_kept, later_through}
use Rattle.vx_verify.proofs.rows.copied.Goals as goal

pub on_top-requires-2-clause-store : goal.on_top-requires-2-clause-store
on_top-requires-2-clause-store c = c.in_ok-lower.ensures.later.store

pub on_top-requires-2-clause-tops : goal.on_top-requires-2-clause-tops
on_top-requires-2-clause-tops c = are_types_kept c.args.store.now c.on_top.new.store c.args.under.now c.in_ok-lower.ensures.later.types c.requires.under

pub on_top-requires-2-clause-under : goal.on_top-requires-2-clause-under
on_top-requires-2-clause-under c = c.in_ok-lower.ensures.within

pub on_top-requires-3-clause-store : goal.on_top-requires-3-clause-store
on_top-requires-3-clause-store c = c.in_ok-middle.ensures.later.store

pub on_top-requires-3-clause-tops : goal.on_top-requires-3-clause-tops
on_top-requires-3-clause-tops c =
    are_types_kept c.args.store.now c.on_top-2.new.store c.args.tops.now
    (later_through c.args.store.now c.on_top.new.store c.on_top-2.new.store c.in_ok-lower.ensures.later c.in_ok-middle.ensures.later).types c.requires.tops

pub on_top-requires-3-clause-under : goal.on_top-requires-3-clause-under
on_top-requires-3-clause-under c = c.in_ok-middle.ensures.within

pub returns : goal.returns
returns c =
    IfOk-weaker c.on_top-3.result _ _
    (λ stack h. on_again c.args.store.now c.on_top-2.new.store _ c.args.tops.now c.in_ok-middle.middle stack _ c.requires.tops
    (on_again c.args.store.now c.on_top.new.store c.on_top-2.new.store c.args.under.now c.in_ok-lower.lower c.in_ok-middle.middle _ c.requires.under c.in_ok-lower.ensures c.in_ok-middle.ensures) h)
    c.on_top-3.ensures
