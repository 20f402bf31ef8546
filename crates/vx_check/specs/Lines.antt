-- The ends of a report with their words and sets.
use Rattle.std.specs.Prelude.{◌≡◌, ℕ, Bool, List, [], ◌∷◌, map, Option, Some, None}
use Rattle.vx_space.specs.Sets.{Sets, IsKnown, IsSet}
use Rattle.vx_report.specs.declared.report.EndLine.{EndLine}
use Rattle.vx_report.specs.Lines.{end_words}
use Rattle.vx_words.specs.Lines.{words}
use Rattle.vx_count.specs.Listed.{first_settings}
use Rattle.vx_count.specs.Settings.{number}
use Rattle.vx_explain.specs.Scopes.{rule_within}
use Rattle.vx_check.specs.Ends.{begin, passes, rank}
use Rattle.vx_check.specs.Ways.{Ending}
use Rattle.vx_check.specs.declared.ended.Ended.{Ended}
use Rattle.vx_check.specs.declared.expected.Expectation.{Expectation}
use Rattle.vx_check.specs.declared.told.Told.{Told}

-- the end of a line of a report, at a place
abbrev pub ended_at : {I : Type 0} → EndLine → ℕ → I → Ended I
ended_at line place set = record { place = place; words = end_words line.end; rank = rank line.end; passes = passes line.end; set = set }

pub record IsEnded {I : Type 0} (sets : Sets I) (ending : Ending) (e : Ended I) : Type 0 where
  pub place : e.place ≡ ending.place
  pub words : e.words ≡ end_words ending.end
  pub rank : e.rank ≡ rank ending.end
  pub passes : e.passes ≡ passes ending.end
  pub set : IsSet sets e.set ending.has

abbrev pub AreEnded : {I : Type 0} → Sets I → List Ending → List (Ended I) → Type 0
AreEnded sets [] [] = Unit {0}
AreEnded sets (x ∷ xs) (e ∷ es) = IsEnded sets x e × AreEnded sets xs es
AreEnded sets [] (e ∷ es) = ⊥
AreEnded sets (x ∷ xs) [] = ⊥

-- the sets of ends are known
abbrev pub AreKnownEnds : {I : Type 0} → Sets I → List (Ended I) → Type 0
AreKnownEnds sets [] = Unit {0}
AreKnownEnds sets (e ∷ es) = IsKnown sets e.set × AreKnownEnds sets es

-- the end is as a line says, or comes to its end where no line speaks
abbrev pub is_good_here : {I : Type 0} → Ended I → Option Expectation → Bool
is_good_here e None = e.passes
is_good_here e (Some line) = begin line.end (words e.words)

-- what is told of the configurations of a set
abbrev pub told_here : {I : Type 0} → Sets I → I → Ended I → Option ℕ → I → List Told
told_here sets scope e line set = map (λ c. record {
  rank = e.rank;
  place = e.place;
  end = e.words;
  line = line;
  number = number sets.options (sets.test set);
  example = c;
  rule = rule_within sets.options (sets.test set) (sets.test scope);
}) (first_settings 1 sets.options (sets.test set))
