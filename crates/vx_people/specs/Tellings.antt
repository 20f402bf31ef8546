-- The texts of what a report is asked for.
use Rattle.std.specs.Prelude.{◌≡◌, ℕ, Bool, true, ◌&&◌, nat_le, List, length, Option, unwrap_or}
use Rattle.vx_report.specs.declared.report.Report.{Report}
use Rattle.vx_interact.specs.Text.{IsInteractionsText}
use Rattle.vx_picture.specs.declared.shape.Drawn.{Drawn}
use Rattle.vx_picture.specs.declared.shape.Drawn.TheVariants.{All, Ends, Piece}
use Rattle.vx_picture.specs.Pictures.{picture_of}
use Rattle.vx_picture.specs.Text.{picture_text}
use Rattle.vx_picture.specs.Walks.{Walks}
use Rattle.vx_count.specs.Text.{count_text, list_text}
use Rattle.vx_cover.specs.Covers.{IsCover}
use Rattle.vx_cover.specs.Text.{cover_text}
use Rattle.vx_cover.specs.declared.tries.Try.{Try}
use Rattle.vx_explain.specs.Explanations.{AreExplained}
use Rattle.vx_explain.specs.Text.{explanation_text}
use Rattle.vx_explain.specs.declared.explained.Asked.{Asked}
use Rattle.vx_explain.specs.declared.explained.Explanation.{Explanation}
use Rattle.vx_page.specs.Page.{report_page}
use Rattle.vx_people.specs.declared.telling.Telling.{Telling}
use Rattle.vx_people.specs.declared.telling.Telling.TheVariants.{Interactions, Picture, Cover, Explanations, Counts, Listed, Page}

-- the text of a report's picture, or of a part of it
abbrev pub report_picture : Drawn → Report → List ℕ
report_picture drawn report = picture_text report.options (picture_of drawn report)

-- the text is that of a picture of a report, or of a part of it, along whose edges come to always just the configurations that the nodes hold
pub record IsPictureText (drawn : Drawn) (report : Report) (text : List ℕ) : Type 0 where
  pub walks : Walks report (picture_of drawn report)
  pub spelled : text ≡ report_picture drawn report

-- the text is that of a cover of a report
pub record IsCoverText (report : Report) (text : List ℕ) : Type 0 where
  pub tries : List Try
  pub cover : IsCover report tries
  pub spelled : text ≡ cover_text report.options tries

-- the text is that of rules and examples of a report's pieces and ends, or of its ends alone
pub record IsExplanationText (asked : Asked) (report : Report) (text : List ℕ) : Type 0 where
  pub explanation : Explanation
  pub are : AreExplained asked report explanation
  pub spelled : text ≡ explanation_text report.options explanation

-- how many configurations are listed
abbrev pub list_length : Option ℕ → ℕ
list_length n = unwrap_or n 1000

abbrev pub IsToldText : Telling → Report → List ℕ → Type 0
IsToldText Interactions report text = IsInteractionsText report text
IsToldText (Picture drawn) report text = IsPictureText drawn report text
IsToldText Cover report text = IsCoverText report text
IsToldText (Explanations asked) report text = IsExplanationText asked report text
IsToldText Counts report text = text ≡ count_text report
IsToldText (Listed n) report text = text ≡ list_text (list_length n) report
IsToldText Page report text = text ≡ report_page report

-- the report has a piece with this number, from 1 on
abbrev pub is_piece : Report → ℕ → Bool
is_piece report index = nat_le 1 index && nat_le index (length report.pieces)

abbrev pub has_drawn : Drawn → Report → Bool
has_drawn All report = true
has_drawn Ends report = true
has_drawn (Piece index) report = is_piece report index

-- the report has what it is asked for
abbrev pub is_told : Telling → Report → Bool
is_told (Picture drawn) report = has_drawn drawn report
is_told Interactions report = true
is_told Cover report = true
is_told (Explanations asked) report = true
is_told Counts report = true
is_told (Listed n) report = true
is_told Page report = true

-- a report has one text of this; covers and examples are chosen
abbrev pub HasOneText : Telling → Type 0
HasOneText Interactions = Unit {0}
HasOneText (Picture drawn) = Unit {0}
HasOneText Cover = ⊥
HasOneText (Explanations asked) = ⊥
HasOneText Counts = Unit {0}
HasOneText (Listed n) = Unit {0}
HasOneText Page = Unit {0}
