-- What is lacking, in words, with the places that lack it (own).
use Rattle.std.specs.Prelude.{Bool, List, None, Option, Some, [], codes, decimal, drop, if◌then◌else◌, nat_le, not, option_and_then, slice_get, ℕ, ◌++◌, ◌+◌, ◌==◌, ◌∷◌}
use Rattle.vx_java.specs.Machine.{place_at}
use Rattle.vx_lines.specs.declared.table.LineTable.{LineTable}
use Rattle.vx_link.specs.Parts.{class_at}
use Rattle.vx_link.specs.declared.program.Program.{Program}
use Rattle.vx_may_end.specs.declared.lack.Lack.{Lack}
use Rattle.vx_may_end.specs.declared.lack.Spot.{Spot}
use Rattle.vx_may_end.specs.declared.lack.When.{When}
use Rattle.vx_may_end.specs.declared.lack.When.TheVariants.{Always, On}
use Rattle.vx_reasons.specs.Reasons.{sentence_of}
use Rattle.vx_reasons.specs.declared.sentences.Form.TheVariants.{Unsupported}
use Rattle.vx_replay.specs.ReplayText.{line_of}
use Rattle.vx_value.specs.Words.{word_of}
use Rattle.vx_spots.specs.Ranks.{is_at}
use Rattle.vx_spots.specs.declared.entries.Entry.{Entry}
use Rattle.vx_spots.specs.declared.ranks.Rank.{Rank}

-- what an entry stands for
abbrev pub lack_at : List Spot → Entry → Option Lack
lack_at spots entry = option_and_then (λ spot. slice_get spot.lacks entry.lack) (slice_get spots entry.spot)

-- ---- a place

abbrev pub line_words : Option ℕ → List ℕ
line_words None = []
line_words (Some line) = codes " line " ++ decimal line

-- whether each run that comes to a place ends there
abbrev pub sureness : When → List ℕ
sureness Always = codes "\nat "
sureness _ = codes "\nmay "

unfoldable pub place_text : Program → List LineTable → When → Spot → List ℕ
place_text p tables when spot =
    sureness when ++ word_of (place_at p spot.method.0 spot.position) ++ line_words (line_of p tables spot.method.0 spot.position)

abbrev pub place_at_spot : Program → List LineTable → When → Option Spot → List ℕ
place_at_spot p tables when None = []
place_at_spot p tables when (Some spot) = place_text p tables when spot

-- the class of a receiver, behind so many of the place; the first eight are told
abbrev pub receiver_text : Program → (count : ℕ) → When → List ℕ
receiver_text p count (On class) =
    if not (nat_le count 8) then [] else if count == 8 then codes ",.." else
    (if count == 0 then codes " by " else codes ",") ++ word_of (class_at p class.0).name
receiver_text p count _ = []

-- ---- the places of a kind

abbrev pub note_of : Program → List LineTable → List Spot → (spot : ℕ) → (new : Bool) → (count : ℕ) → Option Lack → List ℕ
note_of p tables spots spot new count None = []
note_of p tables spots spot new count (Some lack) =
    (if new then place_at_spot p tables lack.when (slice_get spots spot) else []) ++ receiver_text p count lack.when

abbrev pub note_text : Program → List LineTable → List Spot → Entry → (new : Bool) → (count : ℕ) → List ℕ
note_text p tables spots entry new count = note_of p tables spots entry.spot new count (lack_at spots entry)

abbrev pub count_there : (new : Bool) → (count : ℕ) → ℕ
count_there new count = if new then 0 else count

-- the entries of a kind that stand in front, behind one of a spot of which so many receivers were told
unfoldable pub notes_text : Program → List LineTable → List Spot → (kind : ℕ) → Option ℕ → (count : ℕ) → List Entry → List ℕ
notes_text p tables spots kind last count [] = []
notes_text p tables spots kind last count (entry ∷ entries) =
    if entry.kind == kind
    then note_text p tables spots entry (not (is_at last entry.spot)) (count_there (not (is_at last entry.spot)) count)
    ++ notes_text p tables spots kind (Some entry.spot) (count_there (not (is_at last entry.spot)) count + 1) entries
    else []

-- ---- a kind

unfoldable pub head_text : (places word : ℕ) → (what : List ℕ) → List ℕ
head_text places word what = decimal places ++ codes " " ++ word_of what ++ codes ": " ++ sentence_of Unsupported word

abbrev pub kind_by : Program → List LineTable → List Spot → (places kind : ℕ) → List Entry → Option Lack → List ℕ
kind_by p tables spots places kind entries None = []
kind_by p tables spots places kind entries (Some lack) =
    head_text places lack.word lack.what ++ notes_text p tables spots kind None 0 entries ++ codes "\n"

-- by the entries that begin with the kind
abbrev pub kind_text : Program → List LineTable → List Spot → (places : ℕ) → List Entry → List ℕ
kind_text p tables spots places [] = []
kind_text p tables spots places (entry ∷ entries) = kind_by p tables spots places entry.kind (entry ∷ entries) (lack_at spots entry)

abbrev pub rank_text : Program → List LineTable → List Spot → List Entry → Rank → List ℕ
rank_text p tables spots order rank = kind_text p tables spots rank.places.0 (drop rank.start order)
