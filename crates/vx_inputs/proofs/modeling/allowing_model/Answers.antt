use Rattle.std.proofs.Common.{inl, inr, refl}
use Rattle.std.proofs.lemmas.Result.{err_from_is_err_and}
use Rattle.vx_inputs.proofs.modeling.allowing_model.Goals as goal

pub returns-in_err-found : goal.returns-in_err-found
returns-in_err-found c =
    let p = err_from_is_err_and c.from_residual.result c.from_residual.ensures.1 in
    rw (p.1, p.2) (inl c.in_err-found.ensures.err)

pub returns-then-is_allowing : goal.returns-then-is_allowing
returns-then-is_allowing c =
    let found = c.in_ok-found.ensures in (
      found.model,
      record {
        lawful = rw found.model c.requires.lawful;
        names = rw found.model c.requires.names;
        allows = c.is_allowing.ensures.some c.if-is_allowing.true;
        options = rw found.model found.options;
        is_set = rw found.model found.allowed;
        some = c.is_allowing.ensures.nonempty c.if-is_allowing.true;
      },
    )

pub returns : goal.returns
returns c =
    let none = rw c.in_ok-found.ensures.model at (c.is_allowing.ensures.none c.if-is_allowing.false) in
    inr (refl, none)
