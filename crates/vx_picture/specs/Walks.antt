-- How a configuration walks along the edges of a picture.
use Rattle.std.specs.Prelude.{◌≡◌, ℕ, Bool, true, false, List, [], ◌∷◌, Option, Some, None, nat_eq, ◌&&◌, if◌then◌else◌}
use Rattle.std.specs.List.{AllByRecursion}
use Rattle.vx_bdd_tools.specs.declared.node.Node.{Node}
use Rattle.vx_bdd_tools.specs.Nodes.{holds, walk_by}
use Rattle.vx_report.specs.declared.report.Report.{Report}
use Rattle.vx_picture.specs.declared.shape.Ellipse.{Ellipse}
use Rattle.vx_picture.specs.declared.shape.Edge.{Edge}
use Rattle.vx_picture.specs.declared.shape.Picture.{Picture}
use Rattle.vx_picture.specs.Subjects.{same}

-- where the edge for an option that is on or off leads from a number: to never where there is none
abbrev pub edge_to : List Edge → ℕ → Bool → ℕ
edge_to [] from high = 0
edge_to (edge ∷ edges) from high = if nat_eq edge.from from && same edge.high high then edge.to else edge_to edges from high

-- the ellipse of a number, with its edges, as a node
abbrev pub ellipse_at : List Edge → List Ellipse → ℕ → Option Node
ellipse_at edges [] k = None
ellipse_at edges (e ∷ rest) k = if nat_eq e.number k then Some (record { option = e.option; low = edge_to edges k false; high = edge_to edges k true }) else ellipse_at edges rest k

-- a configuration that begins at a number comes to always along the edges
abbrev pub comes_to_always : Picture → ℕ → List Bool → Bool
comes_to_always p k c = nat_eq (walk_by (ellipse_at p.edges p.ellipses) k k c) 1

-- just the configurations of a number come from it to always
abbrev pub WalksFrom : Report → Picture → ℕ → Type 0
WalksFrom r p k = (c : List Bool) → comes_to_always p k c ≡ holds r.nodes k c

-- that is so from each ellipse, and from the node of each box
pub record Walks (r : Report) (p : Picture) : Type 0 where
  pub ellipses : AllByRecursion (λ e. WalksFrom r p e.number) p.ellipses
  pub boxes : AllByRecursion (λ box. WalksFrom r p box.node) p.boxes
