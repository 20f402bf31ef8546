use Rattle.std.proofs.Common.{◌∙◌, ◌∷◌, [], ap, arith, rules, string_bytes}
use Rattle.std.proofs.lemmas.List.{length-append}
use Rattle.std.proofs.lemmas.List.Elements.{All-append}
use Rattle.std.proofs.lemmas.Result.{err_from_is_err_and}
use Rattle.vx_class.specs.File.{Holds}
use Rattle.vx_inputs.specs.declared.taken.Traced.{Traced}
use Rattle.vx_plans.proofs.Plans.{keeps_then}
use Rattle.vx_doctor_command.proofs.Telling.{at_class, ends_behind, memory_ends, one_class_more}
use Rattle.vx_doctor_command.proofs.reading.read_class_files.Goals as goal

pub returns-in_err-taken-clause-err : goal.returns-in_err-taken-clause-err
returns-in_err-taken-clause-err g c =
    let p = err_from_is_err_and c.from_residual.result c.from_residual.ensures.1 in
    rw (p.1, p.2) (λ front next. ends_behind _ _ _ _ _ _ c.loop-path.invariant.keeps
    (at_class _ front _ _ next c.args.paths.now c.loop-path.path-index c.path-item.result c.as_str.result.now c.loop-path.all.items c.loop-path-test.true (c.as_str.ensures.value ∙ ap string_bytes c.path-item.is) (c.loop-path.invariant.leads front next))
    (c.in_err-taken.ensures.err front _))

pub returns-in_err-taken-clause-keeps : goal.returns-in_err-taken-clause-keeps
returns-in_err-taken-clause-keeps g c = keeps_then c.loop-path.invariant.keeps c.in_err-taken.ensures.keeps

pub loop-path-preserved : goal.loop-path-preserved
loop-path-preserved g c = record {
  leads = λ front next. rw c.in_ok-push.ensures.items
      (one_class_more _ front _ _ next c.args.paths.now c.loop-path.path-index c.path-item.result c.as_str.result.now c.loop-path.all.items c.in_ok-taken.taken c.loop-path-test.true (c.as_str.ensures.value ∙ ap string_bytes c.path-item.is)
      (c.loop-path.invariant.leads front next) (λ n. rw c.loop-path.invariant.keeps.held at (c.in_ok-taken.ensures.ok front n)));
  keeps = keeps_then c.loop-path.invariant.keeps c.in_ok-taken.ensures.keeps;
  holds = rw c.in_ok-push.ensures.items (All-append (λ (taken : Traced). Holds taken.class) c.loop-path.all.items _ c.loop-path.invariant.holds (search rules));
  count = rw c.in_ok-push.ensures.items (omega (arith, c.loop-path.invariant.count, length-append c.loop-path.all.items (c.in_ok-taken.taken ∷ [])));
}

pub returns-in_err-push-clause-err : goal.returns-in_err-push-clause-err
returns-in_err-push-clause-err g c =
    let p = err_from_is_err_and c.from_residual-in_err-push.result c.from_residual-in_err-push.ensures.1 in
    rw (p.1, p.2) (λ front next. memory_ends _ _ _ front)
