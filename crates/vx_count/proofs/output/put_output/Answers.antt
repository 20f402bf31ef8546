use Rattle.std.proofs.Common.{◌≡◌, ◌++◌, ◌∙◌, ap, arith, length, take}
use Rattle.std.specs.List.{flat_map}
use Rattle.std.proofs.lemmas.List.{take_all}
use Rattle.vx_count.specs.Output.{piece_output}
use Rattle.vx_count.proofs.Bytes.{all_printed}
use Rattle.vx_count.proofs.output.put_output.Goals as goal

pub returns : goal.returns
returns c =
    let r = c.args.report.now in
    let all : take c.loop-piece.piece-index r.pieces ≡ r.pieces = take_all c.loop-piece.piece-index r.pieces (omega (arith, c.loop-piece-test.false, ap length c.as_slice-piece-items.ensures)) in
    c.loop-piece.invariant
    ∙ ap (λ ps. c.args.out.now.items ++ flat_map (piece_output r c.args.stream c.args.c.now) ps) all
    ∙ ap (λ bytes. c.args.out.now.items ++ bytes) (all_printed r c.args.stream c.args.c.now)
