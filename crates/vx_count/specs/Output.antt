-- What one configuration prints on a stream.
use Rattle.std.specs.Prelude.{ℕ, Bool, List, [], map, filter, option_map, Option, ◌&&◌, if◌then◌else◌}
use Rattle.vx_value.specs.declared.end.Stream.{Stream}
use Rattle.vx_bdd_tools.specs.Nodes.{holds}
use Rattle.vx_report.specs.declared.report.Piece.{Piece}
use Rattle.vx_report.specs.declared.report.Report.{Report}
use Rattle.vx_report.specs.Projection.{output_at, project, same_stream}

-- the bytes on one stream
abbrev pub output_of : Report → Stream → List Bool → List ℕ
output_of r stream c = map (λ b. b.1) (filter (λ b. same_stream stream b.0) (output_at r c))

-- the bytes of one piece there
abbrev pub piece_output : Report → Stream → List Bool → Piece → List ℕ
piece_output r stream c piece = if same_stream stream piece.stream && holds r.nodes piece.node c then piece.text else []

-- there are none where no end's node holds the configuration
abbrev pub output_text : Report → Stream → List Bool → Option (List ℕ)
output_text r stream c = option_map (λ p. output_of r stream c) (project r c)
