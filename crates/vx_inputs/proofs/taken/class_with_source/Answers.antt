use Rattle.std.proofs.lemmas.Result.{err_from_is_err_and}
use Rattle.vx_inputs.proofs.Sourced.{is_no_class, is_traced}
use Rattle.vx_inputs.proofs.taken.class_with_source.Goals as goal

pub returns-in_err-class-clause-exact : goal.returns-in_err-class-clause-exact
returns-in_err-class-clause-exact c =
    let p = err_from_is_err_and c.from_residual.result c.from_residual.ensures.1 in
    rw (p.1, p.2) (is_no_class c.args.bytes.now _ c.in_err-class.ensures.exact)

pub returns-clause-exact : goal.returns-clause-exact
returns-clause-exact c = is_traced c.args.bytes.now c.in_ok-class.class _ c.in_ok-class.ensures.exact c.in_ok-with_source.ensures

pub returns-clause-found : goal.returns-clause-found
returns-clause-found c = rw c.in_ok-with_source.ensures c.in_ok-class.ensures.found
