-- One line more.
use Rattle.std.proofs.Common.{◌≡◌, ℕ, ◌+◌, List, [], ◌∷◌, ◌++◌, sym, ap, ◌∙◌, append_assoc}
use Rattle.std.specs.Prelude.{if◌then◌else◌}
use Rattle.std.proofs.lemmas.List.{append-nil}
use Rattle.vx_source.specs.Lines.{is_skipped, line_of, numbered}
use Rattle.vx_source.specs.declared.lines.SourceLine.{SourceLine}
use Rattle.vx_source.specs.declared.lines.Source.{Source}

pub numbered_goes_on : (front : List SourceLine) (n : ℕ) (line : List ℕ) (rest others : List (List ℕ)) (total : List SourceLine) → rest ≡ line ∷ others
    → front ++ numbered (n + 1) rest ≡ total → (front ++ (if is_skipped line then [] else line_of line (n + 1) ∷ [])) ++ numbered (n + 1 + 1) others ≡ total
unfolding numbered
numbered_goes_on front n line rest others total e so_far =
    append_assoc front (if is_skipped line then [] else line_of line (n + 1) ∷ []) (numbered (n + 1 + 1) others)
    ∙ sym (ap (λ ls. front ++ numbered (n + 1) ls) e) ∙ so_far

pub numbered_done : (front : List SourceLine) (n : ℕ) (rest : List (List ℕ)) (total : List SourceLine) → rest ≡ [] → front ++ numbered n rest ≡ total → front ≡ total
unfolding numbered
numbered_done front n rest total e so_far = sym (append-nil front) ∙ sym (ap (λ ls. front ++ numbered n ls) e) ∙ so_far

abbrev source : List SourceLine → ℕ → Source
source lines count = record { lines = lines; count = count }

pub same_source : (a b : List SourceLine) (m n : ℕ) → a ≡ b → m ≡ n → source a m ≡ source b n
same_source a b m n e f = ap (λ ls. source ls m) e ∙ ap (λ k. source b k) f
