-- A line, and what it leaves to be covered.
use Rattle.std.proofs.Common.{◌≡◌, List, Bool, [], ◌∷◌, ◌++◌, length, sym, ◌∙◌, ap}
use Rattle.vx_space.specs.Sets.{Sets, Extends}
use Rattle.vx_bdd_tools.specs.Members.{IsMember}
use Rattle.vx_cover.specs.declared.tries.Try.{Try}
use Rattle.vx_cover.specs.declared.tries.Covering.{Covering}
use Rattle.vx_cover.specs.Blocks.{AreBlocks, flat}
use Rattle.vx_cover.specs.Steps.{IsOneMore, IsTaken}
use Rattle.vx_cover.specs.Targets.{covered, left_open}
use Rattle.vx_cover.proofs.Blocked.{flat_open}
use Rattle.vx_cover.proofs.Opening.{covered-extends, left-extends}

pub IsOneMore-of : {I : Type 0} {s0 s2 : Sets I} → Extends s0 s2 → (first : I) (c : List Bool) (line : Try) (old taken new : Covering I) → AreBlocks s0 old.ends.items → AreBlocks s0 old.pieces.items
    → IsMember s0 first c → IsTaken s2 c line old taken → new.ends.items ≡ taken.ends.items → new.pieces.items ≡ taken.pieces.items → new.tries.items ≡ taken.tries.items ++ line ∷ []
    → IsOneMore s0 s2 first old new
IsOneMore-of {I} {s0} {s2} x first c line old taken new ends pieces m t same_ends same_pieces put =
    let oe = flat_open s0 old.ends.items ends in
    let op = flat_open s0 old.pieces.items pieces in
    record {
      line = line;
      values = ap length t.configuration ∙ m.values;
      member = ap (s0.test first) t.configuration ∙ m.member;
      ends = t.ends ∙ ap (λ d. covered s2 d (flat old.ends.items)) (sym t.configuration) ∙ covered-extends x line.configuration (flat old.ends.items) oe;
      pieces = t.pieces ∙ ap (λ d. covered s2 d (flat old.pieces.items)) (sym t.configuration) ∙ covered-extends x line.configuration (flat old.pieces.items) op;
      tries = put ∙ ap (λ ts. ts ++ line ∷ []) t.tries;
      end_blocks = rw same_ends t.end_blocks;
      piece_blocks = rw same_pieces t.piece_blocks;
      open_ends = ap flat same_ends ∙ t.open_ends ∙ ap (λ d. left_open s2 d (flat old.ends.items)) (sym t.configuration) ∙ left-extends x line.configuration (flat old.ends.items) oe;
      open_pieces = ap flat same_pieces ∙ t.open_pieces ∙ ap (λ d. left_open s2 d (flat old.pieces.items)) (sym t.configuration) ∙ left-extends x line.configuration (flat old.pieces.items) op;
    }
