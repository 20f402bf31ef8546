-- What is still to be covered, at the start and after one more line.
use Rattle.std.specs.Prelude.{◌≡◌, Bool, true, List, [], ◌∷◌, ◌++◌, length}
use Rattle.vx_space.specs.Sets.{Sets}
use Rattle.vx_report.specs.declared.report.Report.{Report}
use Rattle.vx_cover.specs.declared.tries.Try.{Try}
use Rattle.vx_cover.specs.declared.tries.Covering.{Covering}
use Rattle.vx_cover.specs.Blocks.{AreBlocks, flat}
use Rattle.vx_cover.specs.Covers.{has_this_end, has_this_piece}
use Rattle.vx_cover.specs.Targets.{AreFirst, covered, left_open}

-- what a configuration meets is taken out, and stands in its line
pub record IsTaken {I : Type 0} (sets : Sets I) (c : List Bool) (line : Try) (old new : Covering I) : Type 0 where
  pub configuration : line.configuration ≡ c
  pub ends : line.ends ≡ covered sets c (flat old.ends.items)
  pub pieces : line.pieces ≡ covered sets c (flat old.pieces.items)
  pub tries : new.tries.items ≡ old.tries.items
  pub end_blocks : AreBlocks sets new.ends.items
  pub piece_blocks : AreBlocks sets new.pieces.items
  pub open_ends : flat new.ends.items ≡ left_open sets c (flat old.ends.items)
  pub open_pieces : flat new.pieces.items ≡ left_open sets c (flat old.pieces.items)

-- one more line, whose configuration is in the set of the first target
pub record IsOneMore {I : Type 0} (sets later : Sets I) (first : I) (old new : Covering I) : Type 0 where
  pub line : Try
  pub values : length line.configuration ≡ sets.options
  pub member : sets.test first line.configuration ≡ true
  pub ends : line.ends ≡ covered sets line.configuration (flat old.ends.items)
  pub pieces : line.pieces ≡ covered sets line.configuration (flat old.pieces.items)
  pub tries : new.tries.items ≡ old.tries.items ++ line ∷ []
  pub end_blocks : AreBlocks later new.ends.items
  pub piece_blocks : AreBlocks later new.pieces.items
  pub open_ends : flat new.ends.items ≡ left_open sets line.configuration (flat old.ends.items)
  pub open_pieces : flat new.pieces.items ≡ left_open sets line.configuration (flat old.pieces.items)

-- no line so far; the targets are all those of a report
pub record IsStart {I : Type 0} (sets : Sets I) (r : Report) (covering : Covering I) : Type 0 where
  pub end_blocks : AreBlocks sets covering.ends.items
  pub piece_blocks : AreBlocks sets covering.pieces.items
  pub ends : AreFirst sets (has_this_end r) (length r.ends) (flat covering.ends.items)
  pub pieces : AreFirst sets (has_this_piece r) (length r.pieces) (flat covering.pieces.items)
  pub tries : covering.tries.items ≡ []
