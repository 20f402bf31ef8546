use Rattle.std.proofs.Common.{◌∙◌, sym}
use Rattle.std.proofs.lemmas.Result.{IfOk-weaker}
use Rattle.vx_families.proofs.AttemptLaws.{AttemptsBy-gives}
use Rattle.vx_families.specs.Attempts.{row_by}
use Rattle.vx_space.proofs.Spaces.{Extends-refl}
use Rattle.vx_arith.proofs.AttemptLaws.{given_short, none_left}
use Rattle.vx_arith.proofs.attempting.attempt.Goals as goal

pub with_two-requires : goal.with_two-requires
with_two-requires g c = record { two = sym c.takes_two.ensures ∙ c.if-takes_two.true; given = c.requires.given }

pub on_top-requires : goal.on_top-requires
on_top-requires g c = record { one = sym c.takes_one.ensures ∙ c.if-takes_one.true; group = c.requires.given.is_group; short = given_short _ _ _ _ _ c.requires.given }

pub with_none-requires : goal.with_none-requires
with_none-requires g c = record { none = none_left c.args.operation c.requires.family (sym c.takes_two.ensures ∙ c.if-takes_two.false) (sym c.takes_one.ensures ∙ c.if-takes_one.false); group = c.requires.given.is_group; short = given_short _ _ _ _ _ c.requires.given }

pub returns-then-takes_two : goal.returns-then-takes_two
returns-then-takes_two g c = record { extends = c.with_two.ensures.extends; ok = c.with_two.ensures.ok }

pub returns-then-takes_one : goal.returns-then-takes_one
returns-then-takes_one g c =
    let e = c.on_top.ensures.extends in
    record { extends = e; ok = IfOk-weaker c.on_top.result _ _ (λ r' h'. AttemptsBy-gives c.args.site.now c.args.operation (row_by c.args.site.now c.args.operation) c.args.heap.now c.args.group _ e c.requires.given (h' c.args.heap.now)) c.on_top.ensures.gives }

pub returns : goal.returns
returns g c =
    let e = Extends-refl _ in
    record { extends = e; ok = IfOk-weaker c.with_none.result _ _ (λ r' h'. AttemptsBy-gives c.args.site.now c.args.operation (row_by c.args.site.now c.args.operation) c.args.heap.now c.args.group _ e c.requires.given (h' c.args.heap.now)) c.with_none.ensures }
