use Rattle.std.proofs.Common.{◌≡◌, ◌++◌, Ok, Err, sym, ap, subst, ◌∙◌}
use Rattle.std.proofs.lemmas.Result.{err_from_is_err_and}
use Rattle.vx_pool.specs.Place.{Place}
use Rattle.vx_pool.specs.Place.{IsBytes}
use Rattle.vx_pool.specs.Spelling.{pool_bytes}
use Rattle.vx_pool.specs.Took.{Took}
use Rattle.vx_pool.specs.PoolTook.{pool_took}
use Rattle.vx_pool.specs.Again.{pool_only}
use Rattle.vx_pool.proofs.reading.read_pool.Goals as goal

pub returns-clause-found : goal.returns-clause-found
returns-clause-found c =
    let fits : IsBytes c.args.cursor.now.rest = rw (sym c.rest.ensures) c.are_bytes.ensures in
    let took = pool_took c.copy-ahead.result c.pool.new.cursor c.in_ok-pool.pool (rw c.copy-ahead.ensures fits) c.in_ok-pool.ensures.value in
    (took.1, subst (λ (s : Place). Took s (pool_bytes c.in_ok-pool.pool) c.pool.new.cursor) c.copy-ahead.ensures took.0)

pub returns-in_err-pool-clause-only : goal.returns-in_err-pool-clause-only
returns-in_err-pool-clause-only c = λ p rest is spelled.
    let e = err_from_is_err_and c.from_residual.result c.from_residual.ensures.1 in
    let start : c.copy-ahead.result.rest ≡ pool_bytes p ++ rest = ap (λ (s : Place). s.rest) c.copy-ahead.ensures ∙ spelled in
    rw (e.1, e.2) (pool_only c.copy-ahead.result c.pool.new.cursor (Err c.in_err-pool.field-0.0) c.in_err-pool.ensures.value p rest is start)

pub returns-clause-only : goal.returns-clause-only
returns-clause-only c = λ p rest is spelled.
    let start : c.copy-ahead.result.rest ≡ pool_bytes p ++ rest = ap (λ (s : Place). s.rest) c.copy-ahead.ensures ∙ spelled in
    pool_only c.copy-ahead.result c.pool.new.cursor (Ok c.in_ok-pool.pool) c.in_ok-pool.ensures.value p rest is start
