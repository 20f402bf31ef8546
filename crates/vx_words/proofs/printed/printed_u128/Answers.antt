use Rattle.std.proofs.Common.{◌≡◌, ◌<◌, ◌^◌, sym, ◌∙◌, arith, decimal, ap, false, true}
use Rattle.std.proofs.lemmas.Fmt.{parse-decimal_wide, IsAscii-decimal_wide}
use Rattle.std.proofs.lemmas.Str.{IsUtf8-from_ascii}
use Rattle.std.proofs.lemmas.Slice.Eq.{bytes_eq-Decides}
use Rattle.vx_words.proofs.Decimals.{wide}
use Rattle.vx_words.proofs.printed.printed_u128.Goals as goal

pub returns-in_default : goal.returns-in_default
returns-in_default c = λ n h e. c.in_default.ensures.cases.0 (rw e (IsUtf8-from_ascii (decimal n) (IsAscii-decimal_wide n (wide n h))))

pub returns-in_default-parse : goal.returns-in_default-parse
returns-in_default-parse c = λ n h e.
    let p = parse-decimal_wide 128 n c.in-Ok.text.now c.parse.result h (wide n h) (c.in-Ok.ensures.cases.0 ∙ e) c.parse.ensures.value.0 in
    let q = c.in_default-parse.is in
    cc

pub returns-then-eq : goal.returns-then-eq
returns-then-eq c =
    let parsed = c.in-Ok-parse.ensures.value.0 in
    let small : c.in-Ok-parse.n < 2 ^ 128 = omega (arith, parsed.0.1, parsed.1) in
    (sym ((bytes_eq-Decides _ _).0 (sym c.if-eq.ensures)) ∙ c.as_bytes.ensures.value ∙ c.format.ensures.text, small)

pub returns-else-eq : goal.returns-else-eq
returns-else-eq c = λ n h e.
    let p = parse-decimal_wide 128 n c.in-Ok.text.now c.parse.result h (wide n h) (c.in-Ok.ensures.cases.0 ∙ e) c.parse.ensures.value.0 in
    let q = c.in-Ok-parse.is in
    let same : c.in-Ok-parse.n ≡ n = cc in
    let text = c.as_bytes.ensures.value ∙ c.format.ensures.text ∙ ap decimal same ∙ sym e in
    let clash : false ≡ true = c.if-eq.ensures ∙ (bytes_eq-Decides _ _).1 text in
    cc
