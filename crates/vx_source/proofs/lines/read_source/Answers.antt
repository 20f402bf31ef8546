use Rattle.std.proofs.Common.{◌≡◌, ◌∷◌, [], length, refl, ap, ◌∙◌, arith}
use Rattle.vx_words.specs.Lines.{lines}
use Rattle.vx_source.proofs.Numbering.{numbered_goes_on, numbered_done, same_source}
use Rattle.vx_source.proofs.lines.read_source.Goals as goal

pub loop-line-preserved : goal.loop-line-preserved
loop-line-preserved c =
    let some : lines c.loop-line.rest.now ≡ c.in-Some.line.now ∷ lines c.in-Some.behind.now = c.in-Some.ensures.some in
    let counted = ap length some in record {
      within = omega (arith, c.in-Some.ensures.shorter, c.loop-line.invariant.within);
      so_far = omega (arith, counted, c.loop-line.invariant.so_far);
      front = rw c.in_ok-put_line.ensures (numbered_goes_on c.loop-line.lines.items c.loop-line.count c.in-Some.line.now _ (lines c.in-Some.behind.now) _ some c.loop-line.invariant.front);
    }

pub returns : goal.returns
returns c =
    let nothing : c.loop-line.rest.now ≡ [] = c.in_default.ensures.none.0 refl in
    let no_line : lines c.loop-line.rest.now ≡ [] = ap lines nothing in
    let none_left = ap length no_line in
    same_source _ _ _ _ (c.of.ensures ∙ numbered_done _ _ _ _ no_line c.loop-line.invariant.front) (omega (arith, none_left, c.loop-line.invariant.so_far))
