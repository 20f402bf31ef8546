use Rattle.std.proofs.Common.{arith, lit<, refl, sym, ◌∙◌}
use Rattle.std.proofs.lemmas.List.{length-take-le, take_all}
use Rattle.vx_core.proofs.entries.kept_bytes.Goals as goal

pub slice_bounds-result-end : goal.slice_bounds-result-end
slice_bounds-result-end c = sym (length-take-le 65535 c.as_bytes-bytes.result.now (omega (arith, c.if-bytes-lt65536.false)))

pub returns-then-bytes-lt65536-clause-kept : goal.returns-then-bytes-lt65536-clause-kept
returns-then-bytes-lt65536-clause-kept c =
    sym (take_all 65535 c.as_bytes-bytes.result.now (omega (arith, c.if-bytes-lt65536.true))) ∙ rw c.as_bytes-bytes.ensures.value refl

pub returns-else-bytes-lt65536-clause-few : goal.returns-else-bytes-lt65536-clause-few
returns-else-bytes-lt65536-clause-few c =
    rw (length-take-le 65535 c.as_bytes-bytes.result.now (omega (arith, c.if-bytes-lt65536.false))) (lit< tt)
