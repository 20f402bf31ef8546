-- The text of what the spots of a program lack (own).
use Rattle.std.specs.Prelude.{Bool, List, codes, decimal, false, flat_map, if◌then◌else◌, length, true, ℕ, ◌++◌, ◌≡◌}
use Rattle.vx_lines.specs.declared.table.LineTable.{LineTable}
use Rattle.vx_link.specs.declared.program.Program.{Program}
use Rattle.vx_may_end.specs.declared.lack.Spot.{Spot}
use Rattle.vx_spots.specs.Entries.{IsOrder, entries_in, kinds_of}
use Rattle.vx_spots.specs.Ranks.{AreRanks}
use Rattle.vx_spots.specs.Texts.{rank_text}
use Rattle.vx_spots.specs.declared.entries.Entry.{Entry}
use Rattle.vx_spots.specs.declared.ranks.Rank.{Rank}

abbrev pub part_word : (reached : Bool) → List ℕ
part_word reached = if reached then codes " where calls from main lead\n" else codes " elsewhere\n"

unfoldable pub part_head : (reached : Bool) → (count : ℕ) → List ℕ
part_head reached count = codes "unsupported " ++ decimal count ++ part_word reached

-- the text of the spots whose methods are reached, or of the others: of two orders each is the only one that ascends
pub record IsPartText (p : Program) (tables : List LineTable) (spots : List Spot) (kinds : List (List ℕ)) (marks : List Bool) (reached : Bool) (text : List ℕ) : Type 0 where
  pub order : List Entry
  pub ranks : List Rank
  pub ordered : IsOrder (entries_in kinds marks reached 0 spots) order
  pub ranked : AreRanks order ranks
  pub is : text ≡ part_head reached (length ranks) ++ flat_map (rank_text p tables spots order) ranks

-- the text of a program's spots, by the marks of its methods
pub record IsSpotsText (p : Program) (tables : List LineTable) (marks : List Bool) (spots : List Spot) (text : List ℕ) : Type 0 where
  pub first : List ℕ
  pub second : List ℕ
  pub reached : IsPartText p tables spots (kinds_of spots) marks true first
  pub others : IsPartText p tables spots (kinds_of spots) marks false second
  pub is : text ≡ first ++ second
