-- The law that the text of the spots of a program tells of each end as unsupported (own).
use Rattle.std.specs.Prelude.{All, Bool, Contains, List, Ok, [], codes, flat_map, length, true, ℕ, ◌++◌, ◌+◌, ◌∷◌, ◌≡◌}
use Rattle.vx_class.specs.File.{Holds}
use Rattle.vx_class.specs.declared.class_file.ClassFile.{ClassFile}
use Rattle.vx_java.specs.Machine.{place_at}
use Rattle.vx_java.specs.Step.{Config, run}
use Rattle.vx_lines.specs.declared.table.LineTable.{LineTable}
use Rattle.vx_link.specs.Linked.{linked_program}
use Rattle.vx_link.specs.declared.program.Program.{Program}
use Rattle.vx_may_end.specs.Listed.{is_lack, spots}
use Rattle.vx_may_end.specs.declared.lack.Spot.{Spot}
use Rattle.vx_may_end.specs.declared.lack.When.{When}
use Rattle.vx_model.specs.declared.model.OptionField.{OptionField}
use Rattle.vx_value.specs.declared.end.End.TheVariants.{Unsupported}
use Rattle.vx_spots.specs.Parts.{IsSpotsText}
use Rattle.vx_spots.specs.Texts.{head_text, place_text, receiver_text}

-- ---- a place in the lines of a kind

-- a spot, and when a run ends there, each receiver by itself
pub record PlaceLine : Type 0 where
  pub spot : Spot
  pub first : When
  pub others : List When

-- receivers, behind so many of the place
abbrev pub receivers_text : Program → (count : ℕ) → List When → List ℕ
receivers_text p count [] = []
receivers_text p count (when ∷ others) = receiver_text p count when ++ receivers_text p (count + 1) others

-- the end of the line above, then the place
abbrev pub line_text : Program → List LineTable → PlaceLine → List ℕ
line_text p tables line = place_text p tables line.first line.spot ++ receivers_text p 0 (line.first ∷ line.others)

-- ---- what is told of an end

-- lines stand in a text, below a line of it
pub record StandBelow (lines whole : List ℕ) : Type 0 where
  pub front : List ℕ
  pub behind : List ℕ
  pub is : whole ≡ front ++ codes "\n" ++ (lines ++ behind)

-- a line says what is lacking and at how many places; below it stand these places, a line for each, and one of them is the place of the end
pub record IsEndTold (p : Program) (tables : List LineTable) (word : ℕ) (what place text : List ℕ) : Type 0 where
  pub lines : List PlaceLine
  pub line : PlaceLine
  pub among : Contains lines line
  pub lacks : is_lack line.spot.lacks word what ≡ true
  pub there : place_at p line.spot.method.0 line.spot.position ≡ place
  pub stand : StandBelow (head_text (length lines) word what ++ flat_map (line_text p tables) lines ++ codes "\n") text

-- whatever methods are marked, and whatever the tables say of lines
abbrev pub EndsAreTold : Type 0
EndsAreTold =
    (classes : List ClassFile) (options : List OptionField) (main : List ℕ) (p : Program) (config : Config) (limit word : ℕ) (what place : List ℕ)
    (tables : List LineTable) (marks : List Bool) (text : List ℕ)
    → All Holds classes → linked_program classes options main ≡ Ok p → (run p config limit).end ≡ Unsupported word what place
    → IsSpotsText p tables marks (spots p) text → IsEndTold p tables word what place text
