-- The text of a picture in the language DOT of Graphviz.
use Rattle.std.specs.Prelude.{ℕ, Bool, true, false, List, [], ◌∷◌, ◌++◌, ◌==◌, ◌||◌, if◌then◌else◌, codes, decimal}
use Rattle.std.specs.List.{flat_map}
use Rattle.vx_list.specs.Places.{item_or}
use Rattle.vx_picture.specs.declared.shape.Ellipse.{Ellipse}
use Rattle.vx_picture.specs.declared.shape.Edge.{Edge}
use Rattle.vx_picture.specs.declared.subject.Subject.{Subject}
use Rattle.vx_picture.specs.declared.shape.Picture.{Picture}

-- a quote, and a backslash
abbrev pub is_marked : ℕ → Bool
is_marked b = b == 34 || b == 92

-- a backslash stands before them
abbrev pub quoted_byte : ℕ → List ℕ
quoted_byte b = if is_marked b then 92 ∷ b ∷ [] else b ∷ []

-- a label between quotes
unfoldable pub label_text : List ℕ → List ℕ
label_text label = codes " [label=\"" ++ flat_map quoted_byte label ++ codes "\""

abbrev pub ellipse_text : List (List ℕ) → Ellipse → List ℕ
ellipse_text names e = decimal e.number ++ label_text (item_or names e.option []) ++ codes "];\n"

-- the low part is where the option is off
abbrev pub style : Bool → List ℕ
style true = codes ";\n"
style false = codes " [style=dashed];\n"

abbrev pub arrow_text : ℕ → List ℕ
arrow_text to = codes " -> " ++ decimal to

abbrev pub edge_text : Edge → List ℕ
edge_text e = decimal e.from ++ arrow_text e.to ++ style e.high

abbrev pub box_word : Bool → List ℕ
box_word true = codes "piece"
box_word false = codes "end"

-- a box is named by its kind and its number
abbrev pub box_name : Subject → List ℕ
box_name b = box_word b.piece ++ decimal b.index

unfoldable pub box_style : List ℕ
box_style = codes ", shape=box];\n"

abbrev pub box_text : Subject → List ℕ
box_text b = box_name b ++ label_text b.title ++ box_style ++ box_name b ++ arrow_text b.node ++ codes ";\n"

-- always is number 1
abbrev pub always_text : List ℕ
always_text = codes "1" ++ label_text (codes "always") ++ box_style

unfoldable pub picture_text : List (List ℕ) → Picture → List ℕ
picture_text names p = codes "digraph report {\n" ++ flat_map (ellipse_text names) p.ellipses ++ always_text ++ flat_map edge_text p.edges ++ flat_map box_text p.boxes ++ codes "}\n"
