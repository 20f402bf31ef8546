-- Reading goes on line by line.
use Rattle.std.proofs.Common.{◌≡◌, ℕ, ◌+◌, ◌≤◌, ◌<◌, List, [], ◌∷◌, ◌++◌, length, refl, ap, sym, ◌∙◌, arith, append_assoc, append-nil, subst}
use Rattle.std.proofs.lemmas.Grind.{common_steps, flat_map-append}
use Rattle.std.proofs.lemmas.List.Concat.{flat_map-cons}
use Rattle.std.specs.List.{flat_map}
use Rattle.vx_report.specs.declared.report.Report.{Report}
use Rattle.vx_report.specs.declared.line.Line.{Line}
use Rattle.vx_report.specs.Lines.{line_text, whole_line}
use Rattle.vx_report.specs.Text.{report_lines, report_text}
use Rattle.vx_report_line.specs.LineEnds.{HasNoEnd}
use Rattle.vx_report_reader.specs.declared.stage.Stage.{Stage}
use Rattle.vx_report_reader.specs.declared.stage.Stage.TheVariants.{Nothing}
use Rattle.vx_report_reader.specs.Rules.{Draft, MayFollow, after, reached, AreGood, ReportText, IsWhole, IsBadLine}
use Rattle.vx_report_reader.specs.Rules as rules
use Rattle.vx_report_reader.specs.Stages.{draft_of, IsSoundStage, IsLineStep, IsNoLineStep}
use Rattle.vx_report_reader.proofs.Drafts.{reached-append, good_more, whole_lines}
use Rattle.vx_report_reader.proofs.Lines.{no_end, line_no_end, cut_same, cut_none, whole_line-append}

-- some good lines are read, and the stage is what they say
pub record IsReading (bytes rest : List ℕ) (number : ℕ) (stage : Stage) : Type 0 where
  pub before : List Line
  pub text : bytes ≡ flat_map whole_line before ++ rest
  pub good : AreGood rules.Nothing before
  pub says : draft_of stage ≡ reached rules.Nothing before
  pub sound : IsSoundStage stage
  pub line : number ≡ length before + 1
  pub room : number + length rest ≤ length bytes + 1

pub begins : (bytes : List ℕ) → IsReading bytes bytes 1 Nothing
begins bytes = record { before = []; text = refl; good = tt; says = refl; sound = tt; line = omega arith; room = omega arith }

-- what a line and the byte behind it are
whole_of : (line : Line) (text after : List ℕ) → text ≡ line_text line → text ++ 10 ∷ after ≡ whole_line line ++ after
whole_of line text after e = ap (λ t. t ++ 10 ∷ after) e ∙ sym (whole_line-append line after)

lines_more : (before : List Line) (line : Line) (rest : List ℕ) → flat_map whole_line before ++ (whole_line line ++ rest) ≡ flat_map whole_line (before ++ line ∷ []) ++ rest
lines_more before line rest =
    sym (append_assoc (flat_map whole_line before) (whole_line line) rest)
    ∙ ap (λ one. flat_map whole_line before ++ one ++ rest) (sym (append-nil (whole_line line)) ∙ sym (flat_map-cons whole_line line []))
    ∙ ap (λ xs. xs ++ rest) (sym (flat_map-append whole_line before (line ∷ [])))

length_less : (text after : List ℕ) → length after < length (text ++ 10 ∷ after)
length_less text after = grind (arith, common_steps)

length_more : (xs : List Line) (x : Line) → length (xs ++ x ∷ []) ≡ length xs + 1
length_more xs x = grind (arith, common_steps)

pub shorter : (rest text after : List ℕ) → rest ≡ text ++ 10 ∷ after → length after < length rest
shorter rest text after e = rw e (length_less text after)

pub goes_on : (bytes rest text after : List ℕ) (number : ℕ) (stage new : Stage) → IsReading bytes rest number stage → rest ≡ text ++ 10 ∷ after → IsLineStep stage text new → IsReading bytes after (number + 1) new
goes_on bytes rest text after number stage new r e s =
    let may : MayFollow (reached rules.Nothing r.before) s.line = subst (λ (d : Draft). MayFollow d s.line) r.says s.step.may in
    record {
      before = r.before ++ s.line ∷ [];
      text = r.text ∙ ap (λ xs. flat_map whole_line r.before ++ xs) (e ∙ whole_of s.line text after s.spelled.spelled) ∙ lines_more r.before s.line after;
      good = good_more rules.Nothing r.before s.line r.good s.spelled.lawful may;
      says = s.step.says ∙ ap (λ d. rules.after d s.line) r.says ∙ sym (reached-append rules.Nothing r.before (s.line ∷ []));
      sound = s.step.sound;
      line = ap (λ n. n + 1) r.line ∙ ap (λ n. n + 1) (sym (length_more r.before s.line));
      room = let l = shorter rest text after e in omega (arith, l, r.room);
    }

-- no good line stands at the front of the rest
pub bad_text : (bytes rest text after : List ℕ) (number : ℕ) (stage : Stage) → IsReading bytes rest number stage → rest ≡ text ++ 10 ∷ after → HasNoEnd text → IsNoLineStep stage text → IsBadLine bytes number
bad_text bytes rest text after number stage r e n s = record {
  before = r.before;
  rest = rest;
  text = r.text;
  good = r.good;
  number = r.line;
  bad = λ line more h l m.
      let p = cut_same text (line_text line) after more (no_end text n) (line_no_end line l) (sym e ∙ h ∙ whole_line-append line more) in
      s.none line (record { spelled = p.0; lawful = l }) (subst (λ (d : Draft). MayFollow d line) (sym r.says) m);
  not_whole = λ h. absurd (cut_none [] text after refl (sym h ∙ e));
}

-- the text ends
pub bad_end : (bytes rest : List ℕ) (number : ℕ) (stage : Stage) → IsReading bytes rest number stage → HasNoEnd rest → (rest ≡ [] → IsWhole (draft_of stage) → ⊥) → IsBadLine bytes number
bad_end bytes rest number stage r n w = record {
  before = r.before;
  rest = rest;
  text = r.text;
  good = r.good;
  number = r.line;
  bad = λ line more h l m. cut_none rest (line_text line) more (no_end rest n) (h ∙ whole_line-append line more);
  not_whole = λ h k. w h (subst IsWhole (sym r.says) k);
}

pub all_read : (bytes rest : List ℕ) (number : ℕ) (stage : Stage) (report : Report) → IsReading bytes rest number stage → rest ≡ [] → draft_of stage ≡ rules.Whole report → ReportText bytes report
unfolding report_text
all_read bytes rest number stage report r e w =
    let lines : r.before ≡ report_lines report = whole_lines r.before report r.good (sym r.says ∙ w) in
    record {
      text = r.text ∙ ap (λ xs. flat_map whole_line r.before ++ xs) e ∙ append-nil (flat_map whole_line r.before) ∙ ap (λ xs. flat_map whole_line xs) lines;
      good = subst (AreGood rules.Nothing) lines r.good;
    }

pub not_nil : (rest : List ℕ) → 0 < length rest → rest ≡ [] → ⊥
not_nil rest h e = let l = ap length e in omega (arith, h, l)

pub nil : (rest : List ℕ) → length rest ≡ 0 → rest ≡ []
nil [] e = refl
nil (b ∷ bs) e = absurd (omega (arith, e))
