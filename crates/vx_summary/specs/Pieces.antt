-- What pieces write to `out`, one by one.
use Rattle.std.specs.Prelude.{Bool, List, [], if◌then◌else◌, ℕ}
use Rattle.vx_bdd_tools.specs.Nodes.{holds}
use Rattle.vx_bdd_tools.specs.declared.node.Node.{Node}
use Rattle.vx_report.specs.declared.report.Piece.{Piece}
use Rattle.vx_summary.specs.Summary.{on_out}

-- a piece at a configuration
abbrev pub written : List Node → List Bool → Piece → List ℕ
written nodes c piece = if holds nodes piece.node c then on_out piece.stream piece.text else []
