use Rattle.std.proofs.Common.{◌≡◌, length, drop, arith, length-drop}
use Rattle.vx_source_words.proofs.Quotes.{quote_goes_on, quote_ends, quote_done}
use Rattle.vx_source_words.proofs.texts.quote_place.Goals as goal

pub loop-place-preserved : goal.loop-place-preserved
loop-place-preserved c = quote_goes_on _ _ _ _ _ _ c.loop-place-test.true c.is_escape-escaped.ensures c.is_closing-closing.ensures c.if-closing.false c.loop-place.invariant

pub returns-then-closing-clause-value : goal.returns-then-closing-clause-value
returns-then-closing-clause-value c = quote_ends _ _ _ _ _ c.loop-place-test.true c.is_closing-closing.ensures c.if-closing.true c.loop-place.invariant

pub returns-clause-value : goal.returns-clause-value
returns-clause-value c =
    let e : c.loop-place.place ≡ length c.args.text.now = omega arith in
    let none : length (drop c.loop-place.place c.args.text.now) ≡ 0 = omega (arith, length-drop c.loop-place.place c.args.text.now) in
    quote_done _ _ _ _ e none c.loop-place.invariant
