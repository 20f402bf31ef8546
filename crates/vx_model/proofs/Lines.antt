-- How a text is read line by line.
use Rattle.std.proofs.Common.{◌≡◌, ℕ, ◌+◌, ◌<◌, ◌≤◌, List, [], ◌∷◌, length, length-append, refl, sym, ap, ◌∙◌, arith, Ok, Err}
use Rattle.vx_model.specs.Answers.{Refuses, Fails, fault_at}
use Rattle.vx_model.specs.declared.statement.Refusal.{Refusal}
use Rattle.vx_model.specs.declared.statement.Refusal.TheVariants as refusal
use Rattle.vx_model.proofs.Fits.{Fits, statement_fits}
use Rattle.vx_words.specs.Lines.{lines}
use Rattle.vx_model.specs.Text.{statement_of, with_statement, lines_of, at_line, model_of, empty}
use Rattle.vx_model.specs.declared.model.Model.{Model}
use Rattle.vx_model.specs.declared.statement.Statement.{Statement}
use Rattle.vx_model.specs.declared.statement.Statement.TheVariants as statement

-- reading the rest behind this model gives the model of the whole text
pub record ReadsOn (bytes : List ℕ) (model : Model) (rest : List ℕ) (number : ℕ) : Type 0 where
  pub same : lines_of number model (lines rest) ≡ model_of bytes
  pub few : length model.options ≤ 64
  pub room : number + length rest ≤ length bytes + 1

one_line : (n : ℕ) (model : Model) (line : List ℕ) (rest : List (List ℕ)) → lines_of n model (line ∷ rest) ≡ at_line n (statement_of model.options line) (λ s. lines_of (n + 1) (with_statement model s) rest)
unfolding lines_of
one_line n model line rest = refl

few_more : (model : Model) (s : Statement) → length model.options ≤ 64 → Fits model.options s → length (with_statement model s).options ≤ 64
few_more model statement.Nothing few fits = few
few_more model (statement.Declares option) few fits = omega (arith, length-append model.options (option ∷ []), fits.room)
few_more model (statement.Demands rule) few fits = few

-- a line that is good
pub reads_more : (bytes : List ℕ) (model new : Model) (rest line after : List ℕ) (number : ℕ) (s : Statement) → ReadsOn bytes model rest number
    → lines rest ≡ line ∷ lines after → length after < length rest → statement_of model.options line ≡ Ok s → new ≡ with_statement model s
    → ReadsOn bytes new after (number + 1)
reads_more bytes model new rest line after number s so_far split shorter says is_new = record {
  same = ap (λ m. lines_of (number + 1) m (lines after)) is_new
      ∙ ap (λ r. at_line number r (λ t. lines_of (number + 1) (with_statement model t) (lines after))) (sym says)
      ∙ sym (one_line number model line (lines after)) ∙ ap (lines_of number model) (sym split) ∙ so_far.same;
  few = rw is_new (few_more model s so_far.few (statement_fits model.options line s says));
  room = omega (arith, so_far.room);
}

-- a line that is bad
pub reads_fail : (bytes : List ℕ) (model : Model) (rest line after : List ℕ) (number reason : ℕ) → ReadsOn bytes model rest number
    → lines rest ≡ line ∷ lines after → statement_of model.options line ≡ Err reason → model_of bytes ≡ Err (record { line = number; reason = reason })
reads_fail bytes model rest line after number reason so_far split says =
    sym so_far.same ∙ ap (lines_of number model) split ∙ one_line number model line (lines after)
    ∙ ap (λ r. at_line number r (λ t. lines_of (number + 1) (with_statement model t) (lines after))) says

pub reads_refuse : (bytes : List ℕ) (model : Model) (rest line after : List ℕ) (number : ℕ) (e : Refusal) → ReadsOn bytes model rest number
    → lines rest ≡ line ∷ lines after → Refuses e (statement_of model.options line) → Fails (fault_at e number) (model_of bytes)
reads_refuse bytes model rest line after number refusal.NoMemory so_far split says = tt
reads_refuse bytes model rest line after number (refusal.Reason reason) so_far split says = reads_fail bytes model rest line after number reason so_far split says

-- the end of the text
pub reads_done : (bytes : List ℕ) (model : Model) (rest : List ℕ) (number : ℕ) → ReadsOn bytes model rest number → rest ≡ [] → model_of bytes ≡ Ok model
unfolding lines_of
reads_done bytes model rest number so_far end = sym so_far.same ∙ ap (λ r. lines_of number model (lines r)) end

pub reads_first : (bytes : List ℕ) → ReadsOn bytes empty bytes 1
reads_first bytes = record { same = refl; few = omega arith; room = omega arith }
