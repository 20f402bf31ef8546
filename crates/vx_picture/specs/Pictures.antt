-- The picture of a report's diagrams, or of a part of them: a box for each piece and each end that is drawn, an ellipse for each node that they need, and edges to its parts.
use Rattle.std.specs.Prelude.{ℕ, suc, ◌-◌, max, Bool, true, false, List, [], ◌∷◌, ◌++◌, map, take, nat_eq, ◌==◌, if◌then◌else◌}
use Rattle.std.specs.List.{list_any}
use Rattle.vx_bdd_tools.specs.declared.node.Node.{Node}
use Rattle.vx_report.specs.declared.report.Report.{Report}
use Rattle.vx_picture.specs.declared.shape.Drawn.{Drawn}
use Rattle.vx_picture.specs.declared.shape.Drawn.TheVariants.{All, Ends, Piece}
use Rattle.vx_picture.specs.declared.shape.Ellipse.{Ellipse}
use Rattle.vx_picture.specs.declared.shape.Edge.{Edge}
use Rattle.vx_picture.specs.declared.shape.Picture.{Picture}
use Rattle.vx_picture.specs.declared.subject.Subject.{Subject}
use Rattle.vx_picture.specs.Subjects.{end_subjects, numbered, subject_of_piece, subjects}

-- the nodes that the pieces and the ends name
abbrev pub named : Report → List ℕ
named r = map (λ piece. piece.node) r.pieces ++ map (λ line. line.node) r.ends

-- the greatest of a number and those of a list
abbrev pub greatest : ℕ → List ℕ → ℕ
greatest n [] = n
greatest n (k ∷ ks) = greatest (max n k) ks

-- the nodes up to the greatest number that a piece or an end names: those behind it are of numbers of attempts alone
abbrev pub drawn_nodes : Report → List Node
drawn_nodes r = take (greatest 1 (named r) - 1) r.nodes

-- what is drawn of a report
abbrev pub boxes_of : Drawn → Report → List Subject
boxes_of All r = subjects r
boxes_of Ends r = end_subjects r
boxes_of (Piece index) r = subject_of_piece r index

-- a number stands in a list
abbrev pub is_among : List ℕ → ℕ → Bool
is_among ks k = list_any (nat_eq k) ks

-- the parts of a node, where a list has its number
abbrev pub with_parts : ℕ → Node → List ℕ → List ℕ
with_parts n node numbers = if is_among numbers n then node.low ∷ node.high ∷ numbers else numbers

-- some numbers, and those to which edges lead from them, over nodes that are numbered from a number on; parts have lesser numbers, so what later nodes lead to comes first
abbrev pub reached : List ℕ → ℕ → List Node → List ℕ
reached numbers n [] = numbers
reached numbers n (node ∷ nodes) = with_parts n node (reached numbers (suc n) nodes)

-- the numbers to which edges lead from some boxes
abbrev pub reached_from : Report → List Subject → List ℕ
reached_from r boxes = reached (map (λ box. box.node) boxes) 2 r.nodes

-- all that pieces and ends need is drawn with them; else what the boxes lead to
abbrev pub is_drawn : Drawn → Report → ℕ → Bool
is_drawn All r n = true
is_drawn Ends r n = is_among (reached_from r (end_subjects r)) n
is_drawn (Piece index) r n = is_among (reached_from r (subject_of_piece r index)) n

abbrev pub nodes_of : Drawn → Report → List Node
nodes_of All r = drawn_nodes r
nodes_of Ends r = r.nodes
nodes_of (Piece index) r = r.nodes

abbrev pub ellipse : ℕ → Node → List Ellipse
ellipse number node = record { number = number; option = node.option } ∷ []

-- an edge to never is left out
abbrev pub edge : ℕ → Bool → ℕ → List Edge
edge from high to = if to == 0 then [] else record { from = from; high = high; to = to } ∷ []

abbrev pub edges_of : ℕ → Node → List Edge
edges_of number node = edge number false node.low ++ edge number true node.high

-- what a node makes, where it is drawn
abbrev pub kept : {B : Type 0} → (ℕ → Bool) → (ℕ → Node → List B) → ℕ → Node → List B
kept keep f n node = if keep n then f n node else []

unfoldable pub picture_of : Drawn → Report → Picture
picture_of drawn r = record {
  ellipses = numbered (kept (is_drawn drawn r) ellipse) 2 (nodes_of drawn r);
  edges = numbered (kept (is_drawn drawn r) edges_of) 2 (nodes_of drawn r);
  boxes = boxes_of drawn r;
}
