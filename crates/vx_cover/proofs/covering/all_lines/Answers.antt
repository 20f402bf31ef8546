use Rattle.std.proofs.Common.{sym, ◌∙◌}
use Rattle.vx_space.proofs.Spaces.{Extends-refl, Extends-trans}
use Rattle.vx_cover.specs.Blocks.{flat}
use Rattle.vx_cover.proofs.Blocked.{flat_open}
use Rattle.vx_cover.proofs.Lines.{IsCovering-done, IsCovering-more, IsCovering-start}
use Rattle.vx_cover.proofs.Opening.{fewer_open, first_open}
use Rattle.vx_cover.proofs.covering.all_lines.Goals as goal

pub loop-first-init : goal.loop-first-init
loop-first-init g c = record {
  extends = Extends-refl (g.S.Space.sets c.args.space.now);
  ends = c.requires.ends;
  pieces = c.requires.pieces;
  covers = λ r o s. IsCovering-start (g.S.Space.sets c.args.space.now) r c.args.covering s;
}

pub cover_more-requires : goal.cover_more-requires
cover_more-requires g c =
    let i = c.loop-first.invariant in
    let s = g.S.Space.sets c.loop-first.space in
    let ends = flat_open s c.loop-first.covering.ends.items i.ends in
    let pieces = flat_open s c.loop-first.covering.pieces.items i.pieces in
    let o = first_open s (flat c.loop-first.covering.ends.items) (flat c.loop-first.covering.pieces.items) c.in-Some.first (sym c.in-Some.ensures) ends pieces in
    record { known = o.0; some = o.1; ends = i.ends; pieces = i.pieces }

pub loop-first-smaller : goal.loop-first-smaller
loop-first-smaller g c =
    let m = c.in_ok-cover_more.ensures.more in
    rw (m.open_ends, m.open_pieces)
    (fewer_open (g.S.Space.sets c.loop-first.space) m.line.configuration (flat c.loop-first.covering.ends.items) (flat c.loop-first.covering.pieces.items) c.in-Some.first (sym c.in-Some.ensures) m.member)

pub loop-first-preserved : goal.loop-first-preserved
loop-first-preserved g c =
    let i = c.loop-first.invariant in
    let x = c.in_ok-cover_more.ensures.extends in
    let m = c.in_ok-cover_more.ensures.more in
    let s = g.S.Space.sets c.loop-first.space in
    let ends = flat_open s c.loop-first.covering.ends.items i.ends in
    let pieces = flat_open s c.loop-first.covering.pieces.items i.pieces in
    record {
      extends = Extends-trans i.extends x;
      ends = m.end_blocks;
      pieces = m.piece_blocks;
      covers = λ r o st. IsCovering-more x r c.in-Some.first c.loop-first.covering c.cover_more.new.covering (i.extends.options ∙ sym o) (sym c.in-Some.ensures) ends pieces m (i.covers r o st);
    }

pub returns-clause-cover : goal.returns-clause-cover
returns-clause-cover g c = λ r o s. IsCovering-done (g.S.Space.sets c.loop-first.space) r c.loop-first.covering (sym c.first_set.ensures ∙ c.in_default.is) (c.loop-first.invariant.covers r o s)
