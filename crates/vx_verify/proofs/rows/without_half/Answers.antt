use Rattle.std.proofs.Common.{ap, arith, sym, ◌-◌, ◌∙◌}
use Rattle.std.proofs.lemmas.Result.{IfOk-weaker}
use Rattle.std.specs.Prelude.{slice_set}
use Rattle.vx_types.specs.Flow.{without_half}
use Rattle.vx_types.specs.declared.types.VerType.{VerType}
use Rattle.vx_verify.proofs.StoreLaws.{top_is}
use Rattle.vx_verify.proofs.TakeLaws.{locals_are, locals_kept, lost_half, no_half, whole_half}
use Rattle.vx_verify.specs.States.{locals_at, type_at}
use Rattle.vx_verify.proofs.rows.without_half.Goals as goal

pub returns-then-place-eq0-clause-ok : goal.returns-then-place-eq0-clause-ok
returns-then-place-eq0-clause-ok c =
    let xs = locals_at c.args.store.now c.args.frame c.args.locals in
    locals_kept c.args.store.now c.args.frame c.args.locals (without_half xs c.args.place) c.requires.store c.requires.row (sym (no_half xs c.args.place c.if-place-eq0.true))

pub returns-then-is_of-clause-ok : goal.returns-then-is_of-clause-ok
returns-then-is_of-clause-ok c =
    let s = c.args.store.now in
    let xs = locals_at s c.args.frame c.args.locals in
    IfOk-weaker c.with_local.result _ _
    (λ tree h. locals_are s _ c.args.frame tree (slice_set xs (c.args.place - 1) (type_at s 0)) (without_half xs c.args.place) h
    (ap (λ (x : VerType). slice_set xs (c.args.place - 1) x) (top_is s c.requires.store)
    ∙ lost_half xs c.args.place (type_at s c.local-before.result) (omega arith) c.local-before.ensures.value (rw c.type_at.ensures at (sym c.is_of.ensures ∙ c.if-is_of.true))))
    c.with_local.ensures.ok

pub returns-clause-ok : goal.returns-clause-ok
returns-clause-ok c =
    let s = c.args.store.now in
    let xs = locals_at s c.args.frame c.args.locals in
    locals_kept s c.args.frame c.args.locals (without_half xs c.args.place) c.requires.store c.requires.row
    (whole_half xs c.args.place (type_at s c.local-before.result) (omega arith) c.local-before.ensures.value (rw c.type_at.ensures at (sym c.is_of.ensures ∙ c.if-is_of.false)))
