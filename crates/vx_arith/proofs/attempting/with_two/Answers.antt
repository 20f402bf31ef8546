use Rattle.std.proofs.Common.{◌∙◌, sym}
use Rattle.std.proofs.lemmas.Result.{IfOk-weaker}
use Rattle.vx_families.proofs.AttemptLaws.{AttemptsBy-gives}
use Rattle.vx_families.specs.Attempts.{row_by}
use Rattle.vx_arith.proofs.AttemptLaws.{attempt-texts, given_short}
use Rattle.vx_arith.proofs.HeldLaws.{divides_zero, passes_zero}
use Rattle.vx_arith.proofs.attempting.with_two.Goals as goal

pub division_by_zero-requires : goal.division_by_zero-requires
division_by_zero-requires g c = c.requires.given.bounded.classes

pub on_top_two-requires : goal.on_top_two-requires
on_top_two-requires g c = record { two = c.requires.two; group = c.requires.given.is_group; short = given_short _ _ _ _ _ c.requires.given }

pub on_top_two-requires-2 : goal.on_top_two-requires-2
on_top_two-requires-2 g c = record { two = c.requires.two; group = c.requires.given.is_group; short = given_short _ _ _ _ _ c.requires.given }

pub returns-then-divides : goal.returns-then-divides
returns-then-divides g c =
    let p = c.args.site.now.program.now in
    let made = c.in_ok-by_zero.ensures in
    let e = c.on_top_two.ensures.extends in
    let zero = divides_zero c.division_by_zero.new.heap p _ c.in_ok-by_zero.by_zero (sym c.divides.ensures ∙ c.if-divides.true) made.raises in
    record { extends = e; ok = IfOk-weaker c.on_top_two.result _ _ (λ r' h'. attempt-texts c.args.site.now c.args.operation c.args.heap.now c.division_by_zero.new.heap c.args.group _ made.same made.earlier e c.requires.given (h' c.division_by_zero.new.heap zero)) c.on_top_two.ensures.gives }

pub returns : goal.returns
returns g c =
    let p = c.args.site.now.program.now in
    let e = c.on_top_two-2.ensures.extends in
    let zero = passes_zero c.args.heap.now p _ (sym c.divides.ensures ∙ c.if-divides.false) in
    record { extends = e; ok = IfOk-weaker c.on_top_two-2.result _ _ (λ r' h'. AttemptsBy-gives c.args.site.now c.args.operation (row_by c.args.site.now c.args.operation) c.args.heap.now c.args.group _ e c.requires.given (h' c.args.heap.now zero)) c.on_top_two-2.ensures.gives }
