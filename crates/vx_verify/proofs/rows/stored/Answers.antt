use Rattle.std.proofs.Common.{sym, ◌∙◌}
use Rattle.vx_verify.proofs.StoreLaws.{number_kept}
use Rattle.vx_verify.proofs.TakeLaws.{stored_alone, stored_both}
use Rattle.vx_verify.proofs.rows.stored.Goals as goal

pub with_local-requires-clause-row : goal.with_local-requires-clause-row
with_local-requires-clause-row c = c.in_ok-cleared.ensures.ok.row

pub with_local-requires-clause-item : goal.with_local-requires-clause-item
with_local-requires-clause-item c = number_kept c.args.store.now c.without_half.new.store c.args.item c.in_ok-cleared.ensures.ok.later c.requires.item

pub returns-then-is_of : goal.returns-then-is_of
returns-then-is_of c =
    stored_both c.args.store.now c.without_half.new.store c.with_local.new.store _ c.args.frame c.args.locals c.in_ok-cleared.cleared c.in_ok-put.put c.in_ok-both.both c.args.place
    c.from-place.result c.args.item c.type_at.result.now c.requires.store c.requires.item c.from-place.ensures c.in_ok-cleared.ensures.ok c.in_ok-put.ensures.ok c.type_at.ensures
    (sym c.is_of.ensures ∙ c.if-is_of.true) c.in_ok-both.ensures.ok

pub returns : goal.returns
returns c =
    stored_alone c.args.store.now c.without_half.new.store c.with_local.new.store c.args.frame c.args.locals c.in_ok-cleared.cleared c.in_ok-put.put c.args.place c.from-place.result c.args.item
    c.type_at.result.now c.requires.item c.from-place.ensures c.in_ok-cleared.ensures.ok c.in_ok-put.ensures.ok c.type_at.ensures (sym c.is_of.ensures ∙ c.if-is_of.false)
