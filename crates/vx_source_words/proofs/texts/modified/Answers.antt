use Rattle.std.proofs.Common.{ap, Ok}
use Rattle.std.proofs.lemmas.Result.{err_from_is_err_and}
use Rattle.vx_source_words.specs.Steps.{steps-goes_on, steps-ends, steps-done}
use Rattle.vx_source_words.specs.Reading.{◌>>=◌}
use Rattle.vx_source_words.specs.Texts.{piece_step}
use Rattle.vx_source_words.proofs.texts.modified.Goals as goal

pub returns-in_err-rest : goal.returns-in_err-rest
returns-in_err-rest c =
    let p = err_from_is_err_and c.from_residual.result c.from_residual.ensures.1 in
    rw (p.1, p.2) (steps-ends c.in_err-rest.field-0.0 piece_step (λ s. Ok s.0) _ _ _ _ c.loop-test.true c.in_err-rest.ensures c.loop.invariant.read)

pub loop-preserved : goal.loop-preserved
loop-preserved c = record {
  count = c.loop.invariant.count;
  read = steps-goes_on piece_step _ _ _ _ _ c.loop-test.true c.in_ok-rest.ensures c.loop.invariant.read;
}

pub returns : goal.returns
returns c = ap (λ r. r >>= λ s. Ok s.0) (steps-done piece_step _ _ _ _ c.loop-test.false c.loop.invariant.read)
