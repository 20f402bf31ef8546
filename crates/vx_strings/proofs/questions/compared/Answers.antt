use Rattle.std.proofs.Common.{◌≡◌, ℤ, ◌∙◌, ap, arith, subst, sym}
use Rattle.std.proofs.Math.Facts.{to_z-of_z}
use Rattle.std.specs.Int.{w32, w64}
use mir.Val.{SFits, of_z, to_z}
use Rattle.vx_java.specs.Texts.{text_difference}
use Rattle.vx_strings.proofs.Places.{int_difference, int_fits, long_fits}
use Rattle.vx_strings.proofs.questions.compared.Goals as goal

pub overflow_cast-result : goal.overflow_cast-result
overflow_cast-result c =
    let first = c.args.first.now in
    let second = c.args.second.now in
    let is = int_difference first second (λ k. omega (arith, c.type_inv.first k)) (λ k. omega (arith, c.type_inv.second k)) c.requires.first c.requires.second in
    let d = text_difference first second in
    let same : to_z w64 (of_z w64 c.difference.result) ≡ d = ap (λ z. to_z w64 (of_z w64 z)) c.difference.ensures ∙ to_z-of_z {w = w64} {z = d} (long_fits d is) in
    let P : ℤ → Type 0 = λ z. SFits w32 z in
    subst P (sym same) (int_fits d is)

pub returns : goal.returns
returns c =
    let first = c.args.first.now in
    let second = c.args.second.now in
    let is = int_difference first second (λ k. omega (arith, c.type_inv.first k)) (λ k. omega (arith, c.type_inv.second k)) c.requires.first c.requires.second in
    let d = text_difference first second in
    let same : to_z w64 (of_z w64 c.difference.result) ≡ d = ap (λ z. to_z w64 (of_z w64 z)) c.difference.ensures ∙ to_z-of_z {w = w64} {z = d} (long_fits d is) in
    ap (λ z. to_z w32 (of_z w32 z)) same ∙ to_z-of_z {w = w32} {z = d} (int_fits d is)
