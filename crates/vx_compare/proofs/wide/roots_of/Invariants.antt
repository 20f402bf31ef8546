use Rattle.std.proofs.Common.{◌≡◌, ◌++◌, map, take}
use Rattle.vx_compare.proofs.wide.roots_of.Given as goal

abbrev pub invariant-loop-piece : goal.invariant-loop-piece
invariant-loop-piece l = l.roots.items ≡ map (λ piece. piece.node) (take l.piece-index l.fn.report.pieces)

abbrev pub invariant-loop-line : goal.invariant-loop-line
invariant-loop-line l = l.roots.items ≡ map (λ piece. piece.node) l.fn.report.pieces ++ map (λ line. line.node) (take l.line-index l.fn.report.ends)

abbrev pub invariant-loop-line-2 : goal.invariant-loop-line-2
invariant-loop-line-2 l =
    l.roots.items ≡ map (λ piece. piece.node) l.fn.report.pieces ++ map (λ line. line.node) l.fn.report.ends ++ map (λ line. line.node) (take l.line-index l.fn.report.attempts)
