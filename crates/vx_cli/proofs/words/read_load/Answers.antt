use Rattle.std.proofs.Common.{arith, inl, inr, ◌∙◌, sym}
use Rattle.vx_cli.proofs.Spellings.{bad_options, no_options, no_seed, two_words}
use Rattle.vx_cli.proofs.words.read_load.Goals as goal

pub returns-in_err-seed : goal.returns-in_err-seed
returns-in_err-seed c =
    let words = two_words c.args.words.now c.seed-item.result c.options-item.result (omega (arith, c.in-len2.len_at_least, c.in-len2.len_below)) c.seed-item.is c.options-item.is in
    rw (c.from_residual.ensures, words) (no_seed _ _ (rw c.as_str.ensures.value at c.in_err-seed.ensures))

pub returns-in_err-options : goal.returns-in_err-options
returns-in_err-options c =
    let words = two_words c.args.words.now c.seed-item.result c.options-item.result (omega (arith, c.in-len2.len_at_least, c.in-len2.len_below)) c.seed-item.is c.options-item.is in
    rw (c.from_residual-in_err-options.ensures, words) (no_options _ _ (rw c.as_str-2.ensures.value at c.in_err-options.ensures))

pub returns-then-options-eq0 : goal.returns-then-options-eq0
returns-then-options-eq0 c =
    let words = two_words c.args.words.now c.seed-item.result c.options-item.result (omega (arith, c.in-len2.len_at_least, c.in-len2.len_below)) c.seed-item.is c.options-item.is in
    rw words (bad_options _ _ c.in_ok-options.options (sym c.as_str-2.ensures.value ∙ c.in_ok-options.ensures.0) c.in_ok-options.ensures.1
    (λ low high. elim c.then-options-eq0.either [ inl e ↦ omega (arith, e, low) | inr p ↦ omega (arith, p.1, high) ]))
