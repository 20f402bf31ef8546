-- How a DIMACS text is read line by line.
use Rattle.std.proofs.Common.{◌≡◌, ℕ, ◌+◌, ◌<◌, ◌≤◌, List, [], ◌∷◌, length, refl, sym, ap, ◌∙◌, subst, arith, Result, Ok}
use Rattle.std.specs.Prelude.{IfSome}
use Rattle.vx_words.specs.Lines.{lines}
use Rattle.vx_model.specs.Text.{at_line}
use Rattle.vx_model.specs.Answers.{Refuses, Fails, fault_at}
use Rattle.vx_model.specs.declared.model.Model.{Model}
use Rattle.vx_model.specs.declared.statement.Refusal.{Refusal}
use Rattle.vx_model.specs.declared.statement.Refusal.TheVariants as refusal
use Rattle.vx_dimacs.specs.Dimacs.{State, line_of, with_line, lines_of, end_of, dimacs_of, with_mark, with_marks, has_too_many, begun}
use Rattle.vx_dimacs.proofs.Fits.{Fits, line_fits}
use Rattle.vx_dimacs.specs.declared.number.Mark.{Mark}
use Rattle.vx_dimacs.specs.declared.number.Mark.TheVariants as mark
use Rattle.vx_dimacs.specs.declared.line.Line.{Line}
use Rattle.vx_dimacs.specs.declared.line.Line.TheVariants as line
use Rattle.vx_model.proofs.Fits.{passed}

-- reading the rest behind this state gives the model of the whole text
pub record ReadsOn (bytes : List ℕ) (most : ℕ) (st : State) (rest : List ℕ) (number : ℕ) : Type 0 where
  pub same : lines_of most number st (lines rest) ≡ dimacs_of bytes
  pub few : IfSome st.header (λ h. h.variables ≤ 64)
  pub room : number + length rest ≤ length bytes + 1

abbrev pub FewVariables : State → Type 0
FewVariables st = IfSome st.header (λ h. h.variables ≤ 64)

pub mark_header : (st : State) (m : Mark) → (with_mark st m).header ≡ st.header
mark_header st mark.End = refl
mark_header st (mark.On k) = refl
mark_header st (mark.Off k) = refl

marks_header : (ms : List Mark) (st : State) → (with_marks st ms).header ≡ st.header
unfolding with_marks
marks_header [] st = refl
marks_header (m ∷ ms) st = marks_header ms (with_mark st m) ∙ mark_header st m

abbrev good_state : State → Result State ℕ
good_state s = Ok s

same_state : (s t : State) → good_state s ≡ Ok t → FewVariables s → FewVariables t
same_state s t e h = let same : s ≡ t = cc e in subst FewVariables same h

with_few : (st new : State) (l : Line) → with_line st l ≡ Ok new → FewVariables st → Fits st l → FewVariables new
with_few st new line.Nothing e few h = same_state st new e few
with_few st new (line.Names naming) e few h = same_state _ new e few
with_few st new (line.Heads header) e few h = same_state _ new e h.1
with_few st new (line.Numbers ms) e few h =
    let one = passed (has_too_many (with_marks st ms).header (begun (with_marks st ms))) 9 _ new e in
    same_state (with_marks st ms) new one.1 (subst (λ o. IfSome o (λ k. k.variables ≤ 64)) (sym (marks_header ms st)) few)

one_text : (most n : ℕ) (st : State) (text : List ℕ) (rest : List (List ℕ)) → lines_of most n st (text ∷ rest)
    ≡ at_line n (line_of most st text) (λ l. at_line n (with_line st l) (λ new. lines_of most (n + 1) new rest))
unfolding lines_of
one_text most n st text rest = refl

at_end : (most n : ℕ) (st : State) → lines_of most n st [] ≡ at_line n (end_of st) (λ m. Ok m)
unfolding lines_of
at_end most n st = refl

here : (bytes : List ℕ) (most : ℕ) (st : State) (rest text after : List ℕ) (number : ℕ) → ReadsOn bytes most st rest number → lines rest ≡ text ∷ lines after
    → dimacs_of bytes ≡ at_line number (line_of most st text) (λ l. at_line number (with_line st l) (λ new. lines_of most (number + 1) new (lines after)))
here bytes most st rest text after number so_far split = sym so_far.same ∙ ap (lines_of most number st) split ∙ one_text most number st text (lines after)

pub reads_more : (bytes : List ℕ) (most : ℕ) (st new : State) (rest text after : List ℕ) (number : ℕ) (l : Line) → ReadsOn bytes most st rest number
    → lines rest ≡ text ∷ lines after → length after < length rest → line_of most st text ≡ Ok l → with_line st l ≡ Ok new → ReadsOn bytes most new after (number + 1)
reads_more bytes most st new rest text after number l so_far split shorter says moves = record {
  same = sym (here bytes most st rest text after number so_far split
      ∙ ap (λ r. at_line number r (λ k. at_line number (with_line st k) (λ s. lines_of most (number + 1) s (lines after)))) says
      ∙ ap (λ r. at_line number r (λ s. lines_of most (number + 1) s (lines after))) moves);
  few = with_few st new l moves so_far.few (line_fits most st text l says);
  room = omega (arith, so_far.room);
}

pub line_refuse : (bytes : List ℕ) (most : ℕ) (st : State) (rest text after : List ℕ) (number : ℕ) (e : Refusal) → ReadsOn bytes most st rest number
    → lines rest ≡ text ∷ lines after → Refuses e (line_of most st text) → Fails (fault_at e number) (dimacs_of bytes)
line_refuse bytes most st rest text after number refusal.NoMemory so_far split says = tt
line_refuse bytes most st rest text after number (refusal.Reason reason) so_far split says =
    here bytes most st rest text after number so_far split
    ∙ ap (λ r. at_line number r (λ k. at_line number (with_line st k) (λ s. lines_of most (number + 1) s (lines after)))) says

pub add_refuse : (bytes : List ℕ) (most : ℕ) (st : State) (rest text after : List ℕ) (number : ℕ) (l : Line) (e : Refusal) → ReadsOn bytes most st rest number
    → lines rest ≡ text ∷ lines after → line_of most st text ≡ Ok l → Refuses e (with_line st l) → Fails (fault_at e number) (dimacs_of bytes)
add_refuse bytes most st rest text after number l refusal.NoMemory so_far split says moves = tt
add_refuse bytes most st rest text after number l (refusal.Reason reason) so_far split says moves =
    here bytes most st rest text after number so_far split
    ∙ ap (λ r. at_line number r (λ k. at_line number (with_line st k) (λ s. lines_of most (number + 1) s (lines after)))) says
    ∙ ap (λ r. at_line number r (λ s. lines_of most (number + 1) s (lines after))) moves

ending : (bytes : List ℕ) (most : ℕ) (st : State) (rest : List ℕ) (number : ℕ) → ReadsOn bytes most st rest number → rest ≡ []
    → dimacs_of bytes ≡ at_line number (end_of st) (λ m. Ok m)
ending bytes most st rest number so_far end = sym so_far.same ∙ ap (λ r. lines_of most number st (lines r)) end ∙ at_end most number st

pub end_read : (bytes : List ℕ) (most : ℕ) (st : State) (rest : List ℕ) (number : ℕ) (m : Model) → ReadsOn bytes most st rest number → rest ≡ []
    → end_of st ≡ Ok m → dimacs_of bytes ≡ Ok m
end_read bytes most st rest number m so_far end says = ending bytes most st rest number so_far end ∙ ap (λ r. at_line number r (λ k. Ok k)) says

pub end_refuse : (bytes : List ℕ) (most : ℕ) (st : State) (rest : List ℕ) (number : ℕ) (e : Refusal) → ReadsOn bytes most st rest number → rest ≡ []
    → Refuses e (end_of st) → Fails (fault_at e number) (dimacs_of bytes)
end_refuse bytes most st rest number refusal.NoMemory so_far end says = tt
end_refuse bytes most st rest number (refusal.Reason reason) so_far end says = ending bytes most st rest number so_far end ∙ ap (λ r. at_line number r (λ k. Ok k)) says
