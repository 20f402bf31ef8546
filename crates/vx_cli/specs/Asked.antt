-- What is asked of a report, by its name and the words behind the report; and numbers from 1 on.
use Rattle.std.specs.Prelude.{◌≤◌, ℕ, List, [], codes}
use Rattle.vx_people.specs.Words.{drawn_words, explained_words, length_words}
use Rattle.vx_people.specs.declared.telling.Telling.{Telling}
use Rattle.vx_people.specs.declared.telling.Telling.TheVariants.{Interactions, Picture, Cover, Explanations, Counts, Listed, Page}

-- the first word
abbrev pub telling_name : Telling → List ℕ
telling_name Interactions = codes "interact"
telling_name (Picture drawn) = codes "picture"
telling_name Cover = codes "cover"
telling_name (Explanations asked) = codes "explain"
telling_name Counts = codes "count"
telling_name (Listed n) = codes "list"
telling_name Page = codes "page"

-- the words behind the report
abbrev pub asked_words : Telling → List (List ℕ)
asked_words (Picture drawn) = drawn_words drawn
asked_words (Explanations asked) = explained_words asked
asked_words (Listed n) = length_words n
asked_words telling = []

-- a number from 1 up to a greatest one
abbrev pub IsFromOne : ℕ → ℕ → Type 0
IsFromOne most n = (1 ≤ n) × (n ≤ most)
