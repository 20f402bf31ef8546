-- What the lines so far say, as the reader keeps it.
use Rattle.std.specs.Prelude.{◌≡◌, ℕ, List, Option, None, Some}
use Rattle.vx_report.specs.declared.line.Line.{Line}
use Rattle.vx_report_line.specs.Forms.{IsSpelled}
use Rattle.vx_report_reader.specs.declared.stage.Stage.{Stage}
use Rattle.vx_report_reader.specs.declared.stage.Stage.TheVariants.{Nothing, Begun, Naming, Limited, Body, Whole}
use Rattle.vx_report_reader.specs.Bodies.{report_of, IsSound}
use Rattle.vx_report_reader.specs.Rules.{Draft, MayFollow, after}
use Rattle.vx_report_reader.specs.Rules as rules

abbrev pub draft_of : Stage → Draft
draft_of Nothing = rules.Nothing
draft_of (Begun version) = rules.Begun version
draft_of (Naming version count names) = rules.Naming version count names.items
draft_of (Limited version names limit) = rules.Limited version names.items limit
draft_of (Body body) = rules.Body (report_of body)
draft_of (Whole report) = rules.Whole report

-- the body is sound, where there is one
abbrev pub IsSoundStage : Stage → Type 0
IsSoundStage (Body body) = IsSound body
IsSoundStage _ = Unit {0}

-- the line may follow, and this is what is said then
pub record IsStep (old : Stage) (line : Line) (new : Stage) : Type 0 where
  pub may : MayFollow (draft_of old) line
  pub says : draft_of new ≡ after (draft_of old) line
  pub sound : IsSoundStage new

-- a stage goes on with a line, or the line may not follow
abbrev pub Follows : Stage → Line → Option Stage → Type 0
Follows old line None = MayFollow (draft_of old) line → ⊥
Follows old line (Some new) = IsStep old line new

-- the bytes spell a line, which is the step
pub record IsLineStep (old : Stage) (text : List ℕ) (new : Stage) : Type 0 where
  pub line : Line
  pub spelled : IsSpelled text line
  pub step : IsStep old line new

-- the bytes spell no line that may follow
pub record IsNoLineStep (old : Stage) (text : List ℕ) : Type 0 where
  pub none : (line : Line) → IsSpelled text line → MayFollow (draft_of old) line → ⊥

abbrev pub FollowsText : Stage → List ℕ → Option Stage → Type 0
FollowsText old text None = IsNoLineStep old text
FollowsText old text (Some new) = IsLineStep old text new
