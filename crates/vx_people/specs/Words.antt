-- The words that ask for something of a report.
use Rattle.std.specs.Prelude.{ℕ, ◌<◌, ◌≤◌, ◌^◌, List, [], ◌∷◌, Option, Some, None, codes, decimal}
use Rattle.vx_picture.specs.declared.shape.Drawn.{Drawn}
use Rattle.vx_picture.specs.declared.shape.Drawn.TheVariants.{All, Piece}
use Rattle.vx_picture.specs.declared.shape.Drawn.TheVariants as drawn
use Rattle.vx_explain.specs.declared.explained.Asked.{Asked}
use Rattle.vx_explain.specs.declared.explained.Asked.TheVariants.{Ends, Everything}
use Rattle.vx_people.specs.declared.telling.Telling.{Telling}
use Rattle.vx_people.specs.declared.telling.Telling.TheVariants.{Interactions, Picture, Cover, Explanations, Counts, Listed, Page}

-- what of a picture: nothing is said of all, `ends`, or the number of a piece
abbrev pub drawn_words : Drawn → List (List ℕ)
drawn_words All = []
drawn_words drawn.Ends = codes "ends" ∷ []
drawn_words (Piece index) = decimal index ∷ []

-- which explanations: nothing is said of all, or `ends`
abbrev pub explained_words : Asked → List (List ℕ)
explained_words Everything = []
explained_words Ends = codes "ends" ∷ []

-- how many, if that is said
abbrev pub length_words : Option ℕ → List (List ℕ)
length_words None = []
length_words (Some n) = decimal n ∷ []

-- the word of the command, the report, and what comes behind them
abbrev pub telling_words : Telling → List ℕ → List (List ℕ)
telling_words Interactions report = codes "interact" ∷ report ∷ []
telling_words (Picture drawn) report = codes "picture" ∷ report ∷ drawn_words drawn
telling_words Cover report = codes "cover" ∷ report ∷ []
telling_words (Explanations asked) report = codes "explain" ∷ report ∷ explained_words asked
telling_words Counts report = codes "count" ∷ report ∷ []
telling_words (Listed n) report = codes "list" ∷ report ∷ length_words n
telling_words Page report = codes "page" ∷ report ∷ []

abbrev pub IsDrawnInRange : Drawn → Type 0
IsDrawnInRange All = Unit {0}
IsDrawnInRange drawn.Ends = Unit {0}
IsDrawnInRange (Piece index) = (1 ≤ index) × (index < 2 ^ 64)

abbrev pub IsLengthInRange : Option ℕ → Type 0
IsLengthInRange None = Unit {0}
IsLengthInRange (Some n) = (1 ≤ n) × (n ≤ 1000000)

-- its numbers are in range
abbrev pub IsTellingInRange : Telling → Type 0
IsTellingInRange Interactions = Unit {0}
IsTellingInRange (Picture drawn) = IsDrawnInRange drawn
IsTellingInRange Cover = Unit {0}
IsTellingInRange (Explanations asked) = Unit {0}
IsTellingInRange Counts = Unit {0}
IsTellingInRange (Listed n) = IsLengthInRange n
IsTellingInRange Page = Unit {0}
