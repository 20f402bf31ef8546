-- How what is expected is read line by line.
use Rattle.std.proofs.Common.{◌≡◌, ℕ, ◌+◌, ◌<◌, ◌≤◌, List, [], ◌∷◌, ◌++◌, length, refl, sym, ap, ◌∙◌, arith, Ok, Err, Result}
use Rattle.std.specs.Prelude.{Option, Some, None, IfSome}
use Rattle.std.specs.List.{AllByRecursion}
use Rattle.vx_words.specs.Lines.{lines}
use Rattle.vx_model.specs.Answers.{Fails, Refuses, fault_at}
use Rattle.vx_model.specs.Text.{at_line}
use Rattle.vx_model.specs.declared.statement.Refusal.{Refusal}
use Rattle.vx_model.specs.declared.statement.Refusal.TheVariants as refusal
use Rattle.vx_check.specs.Expected.{AreOf, IsOf, expected_from, expected_of, said_of, with_said}
use Rattle.vx_check.specs.declared.expected.Expectation.{Expectation}

-- reading the rest behind these expectations gives those of the whole text
pub record ReadsOn (names : List (List ℕ)) (bytes : List ℕ) (expected : List Expectation) (rest : List ℕ) (number : ℕ) : Type 0 where
  pub same : expected_from names number expected (lines rest) ≡ expected_of names bytes
  pub of : AreOf (length names) expected
  pub room : number + length rest ≤ length bytes + 1

one_line : (names : List (List ℕ)) (n : ℕ) (expected : List Expectation) (line : List ℕ) (rest : List (List ℕ)) → expected_from names n expected (line ∷ rest) ≡ at_line n (said_of names n line) (λ said. expected_from names (n + 1) (with_said expected said) rest)
unfolding expected_from
one_line names n expected line rest = refl

all_pushed : {A : Type 0} (P : A → Type 0) (xs : List A) (x : A) → AllByRecursion P xs → P x → AllByRecursion P (xs ++ x ∷ [])
all_pushed P [] x h p = (p, tt)
all_pushed P (y ∷ ys) x h p = (h.0, all_pushed P ys x h.1 p)

of_more : (options : ℕ) (expected : List Expectation) (said : Option Expectation) → AreOf options expected → IfSome said (IsOf options) → AreOf options (with_said expected said)
of_more options expected None h p = h
of_more options expected (Some e) h p = all_pushed (IsOf options) expected e h p

-- a line that is good
pub reads_more : (names : List (List ℕ)) (bytes : List ℕ) (expected new : List Expectation) (rest line after : List ℕ) (number : ℕ) (said : Option Expectation) → ReadsOn names bytes expected rest number
    → lines rest ≡ line ∷ lines after → length after < length rest → said_of names number line ≡ Ok said → IfSome said (IsOf (length names)) → new ≡ with_said expected said
    → ReadsOn names bytes new after (number + 1)
reads_more names bytes expected new rest line after number said so_far split shorter says of is_new = record {
  same = ap (λ es. expected_from names (number + 1) es (lines after)) is_new
      ∙ ap (λ r. at_line number r (λ t. expected_from names (number + 1) (with_said expected t) (lines after))) (sym says)
      ∙ sym (one_line names number expected line (lines after)) ∙ ap (expected_from names number expected) (sym split) ∙ so_far.same;
  of = rw is_new (of_more (length names) expected said so_far.of of);
  room = omega (arith, so_far.room);
}

-- a line that is bad
reads_fail : (names : List (List ℕ)) (bytes : List ℕ) (expected : List Expectation) (rest line after : List ℕ) (number reason : ℕ) → ReadsOn names bytes expected rest number
    → lines rest ≡ line ∷ lines after → said_of names number line ≡ Err reason → expected_of names bytes ≡ Err (record { line = number; reason = reason })
reads_fail names bytes expected rest line after number reason so_far split says =
    sym so_far.same ∙ ap (expected_from names number expected) split ∙ one_line names number expected line (lines after)
    ∙ ap (λ r. at_line number r (λ t. expected_from names (number + 1) (with_said expected t) (lines after))) says

pub reads_refuse : (names : List (List ℕ)) (bytes : List ℕ) (expected : List Expectation) (rest line after : List ℕ) (number : ℕ) (e : Refusal) → ReadsOn names bytes expected rest number
    → lines rest ≡ line ∷ lines after → Refuses e (said_of names number line) → Fails (fault_at e number) (expected_of names bytes)
reads_refuse names bytes expected rest line after number refusal.NoMemory so_far split says = tt
reads_refuse names bytes expected rest line after number (refusal.Reason reason) so_far split says = reads_fail names bytes expected rest line after number reason so_far split says

-- the end of the text
pub reads_done : (names : List (List ℕ)) (bytes : List ℕ) (expected : List Expectation) (rest : List ℕ) (number : ℕ) → ReadsOn names bytes expected rest number → rest ≡ [] → expected_of names bytes ≡ Ok expected
unfolding expected_from
reads_done names bytes expected rest number so_far end = sym so_far.same ∙ ap (λ r. expected_from names number expected (lines r)) end

pub reads_first : (names : List (List ℕ)) (bytes : List ℕ) → ReadsOn names bytes [] bytes 1
reads_first names bytes = record { same = refl; of = tt; room = omega arith }
