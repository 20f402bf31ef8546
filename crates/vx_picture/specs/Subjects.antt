-- The pieces and ends of a report as a person is shown them, each with its number among its kind, from 1 on, and a title.
use Rattle.std.specs.Prelude.{ℕ, zero, suc, slice_get, ◌+◌, Bool, true, false, not, List, [], ◌∷◌, ◌++◌, length, min, take, position, Option, Some, None, ◌==◌, if◌then◌else◌, codes, decimal}
use Rattle.vx_value.specs.declared.end.End.{End}
use Rattle.vx_value.specs.declared.end.End.TheVariants.{Return}
use Rattle.vx_value.specs.Words.{text_of}
use Rattle.vx_report.specs.declared.report.Report.{Report}
use Rattle.vx_report.specs.declared.report.Piece.{Piece}
use Rattle.vx_report.specs.declared.report.EndLine.{EndLine}
use Rattle.vx_report.specs.Lines.{stream_word, end_words}
use Rattle.vx_picture.specs.declared.subject.Subject.{Subject}

-- how many bytes are shown: those up to the first byte 10, with it, and at most 60
abbrev pub shown_length : Option ℕ → ℕ
shown_length None = 60
shown_length (Some place) = min 60 (place + 1)

abbrev pub shown : List ℕ → List ℕ
shown text = take (shown_length (position (λ b. b == 10) text)) text

-- the stream, the number, how many bytes the text has, and what is shown of it
unfoldable pub piece_title : ℕ → Piece → List ℕ
piece_title index piece = stream_word piece.stream ++ codes " " ++ decimal index ++ codes " " ++ decimal (length piece.text) ++ codes " " ++ text_of (shown piece.text)

unfoldable pub end_title : End → List ℕ
end_title end = codes "end " ++ end_words end

-- what each item with its number makes, from a number on
abbrev pub numbered : {A B : Type 0} → (ℕ → A → List B) → ℕ → List A → List B
numbered f n [] = []
numbered f n (x ∷ xs) = f n x ++ numbered f (suc n) xs

abbrev pub is_return : End → Bool
is_return Return = true
is_return _ = false

abbrev pub same : Bool → Bool → Bool
same true b = b
same false b = not b

-- an end, where it is `return` or where it isn't
abbrev pub end_subject : Bool → ℕ → EndLine → List Subject
end_subject returns index line = if same returns (is_return line.end) then record { piece = false; index = index; node = line.node; title = end_title line.end } ∷ [] else []

abbrev pub piece_subject : ℕ → Piece → List Subject
piece_subject index piece = record { piece = true; index = index; node = piece.node; title = piece_title index piece } ∷ []

-- the ends that are not `return`, then `return`
abbrev pub end_subjects : Report → List Subject
end_subjects r = numbered (end_subject false) 1 r.ends ++ numbered (end_subject true) 1 r.ends

abbrev pub if_piece : ℕ → Option Piece → List Subject
if_piece index None = []
if_piece index (Some piece) = piece_subject index piece

-- the piece with a number, from 1 on
abbrev pub subject_of_piece : Report → ℕ → List Subject
subject_of_piece r zero = []
subject_of_piece r (suc place) = if_piece (suc place) (slice_get r.pieces place)

-- the ends that are not `return`, then `return`, then the pieces
abbrev pub subjects : Report → List Subject
subjects r = end_subjects r ++ numbered piece_subject 1 r.pieces
