-- A text has at most one report, or else at most one first bad line, and never both.
use Rattle.std.proofs.Common.{◌≡◌, ℕ, suc, ◌+◌, List, [], ◌∷◌, ◌++◌, length, true, refl, ap, sym, ◌∙◌, append_assoc, append-nil, subst, Result, Ok, Err, IfOk, IfErr}
use Rattle.std.proofs.lemmas.List.Concat.{flat_map-cons}
use Rattle.std.specs.List.{flat_map}
use Rattle.vx_report.specs.declared.report.Report.{Report}
use Rattle.vx_report.specs.declared.line.Line.{Line}
use Rattle.vx_report.specs.Lines.{whole_line}
use Rattle.vx_report.specs.Text.{report_lines, report_text}
use Rattle.vx_report_line.specs.Forms.{is_line}
use Rattle.vx_report_reader.specs.Rules.{Draft, MayFollow, after, reached, AreGood, ReportText, IsWhole, IsBadLine}
use Rattle.vx_report_reader.specs.Rules as rules
use Rattle.vx_report_reader.specs.declared.reading.ReportFault.{ReportFault}
use Rattle.vx_report_reader.specs.declared.reading.ReportFault.TheVariants.{NoMemory, Line as At}
use Rattle.vx_report_reader.specs.Reading.{IsOnlyReading, Faults, IsCutOff, IsRefused}
use Rattle.vx_report_reader.proofs.Drafts.{good_behind, report_said}
use Rattle.vx_report_reader.proofs.Lines.{first_same, not_empty}

-- some lines with what stands behind them, as bytes
lines_cons : (line : Line) (lines : List Line) (rest : List ℕ) → flat_map whole_line (line ∷ lines) ++ rest ≡ whole_line line ++ (flat_map whole_line lines ++ rest)
lines_cons line lines rest = ap (λ bytes. bytes ++ rest) (flat_map-cons whole_line line lines) ∙ append_assoc (whole_line line) (flat_map whole_line lines) rest

-- lawful lines at the front of the bytes of others are the first of them
pub record Continues (before : List Line) (rest : List ℕ) (lines : List Line) : Type 0 where
  pub more : List Line
  pub lines_are : lines ≡ before ++ more
  pub rest_is : rest ≡ flat_map whole_line more

pub continues : (d e : Draft) (before lines : List Line) (rest : List ℕ) → AreGood d before → AreGood e lines → flat_map whole_line before ++ rest ≡ flat_map whole_line lines → Continues before rest lines
continues d e [] lines rest g h s = record { more = lines; lines_are = refl; rest_is = s }
continues d e (x ∷ xs) [] rest g h s = absurd (not_empty x (flat_map whole_line xs ++ rest) (sym s ∙ lines_cons x xs rest))
continues d e (x ∷ xs) (y ∷ ys) rest g h s =
    let p = first_same x y (flat_map whole_line xs ++ rest) (flat_map whole_line ys) g.0 h.0 (sym (lines_cons x xs rest) ∙ s ∙ flat_map-cons whole_line y ys) in
    let others = continues (after d x) (after e y) xs ys rest g.2 h.2 p.1 in
    record { more = others.more; lines_are = ap (λ z. z ∷ ys) (sym p.0) ∙ ap (λ zs. x ∷ zs) others.lines_are; rest_is = others.rest_is }

-- no bytes are no lines
no_lines : (lines : List Line) → [] ≡ flat_map whole_line lines → lines ≡ []
no_lines [] e = refl
no_lines (x ∷ xs) e = absurd (not_empty x (flat_map whole_line xs) (e ∙ flat_map-cons whole_line x xs))

whole_same : (r s : Report) → rules.Whole r ≡ rules.Whole s → r ≡ s
whole_same r s e = ap inside e
  where
    inside : Draft → Report
    inside (rules.Whole x) = x
    inside _ = r

-- one report belongs to each spelling
pub report_same : (bytes : List ℕ) (r s : Report) → ReportText bytes r → ReportText bytes s → r ≡ s
unfolding report_text
report_same bytes r s t u =
    let c = continues rules.Nothing rules.Nothing (report_lines r) (report_lines s) [] t.good u.good (append-nil (flat_map whole_line (report_lines r)) ∙ sym t.text ∙ u.text) in
    let none : c.more ≡ [] = no_lines c.more c.rest_is in
    let same : report_lines s ≡ report_lines r = c.lines_are ∙ ap (λ xs. report_lines r ++ xs) none ∙ append-nil (report_lines r) in
    whole_same r s (sym (report_said r) ∙ ap (reached rules.Nothing) (sym same) ∙ report_said s)

-- where a line is bad there is no report
pub no_report : (bytes : List ℕ) (n : ℕ) (r : Report) → IsBadLine bytes n → ReportText bytes r → ⊥
unfolding report_text
no_report bytes n r b t =
    let c = continues rules.Nothing rules.Nothing b.before (report_lines r) b.rest b.good t.good (sym b.text ∙ t.text) in
    by_more c.more c.lines_are c.rest_is
  where
    by_more : (more : List Line) → report_lines r ≡ b.before ++ more → b.rest ≡ flat_map whole_line more → ⊥
    by_more [] l e =
        let said : reached rules.Nothing b.before ≡ rules.Whole r = ap (reached rules.Nothing) (sym (append-nil b.before) ∙ sym l) ∙ report_said r in
        b.not_whole e (subst IsWhole (sym said) tt)
    by_more (x ∷ xs) l e =
        let g : AreGood (reached rules.Nothing b.before) (x ∷ xs) = good_behind rules.Nothing b.before (x ∷ xs) (subst (AreGood rules.Nothing) l t.good) in
        b.bad x (flat_map whole_line xs) (e ∙ flat_map-cons whole_line x xs) g.0 g.1

-- two lists of good lines at the front of the same bytes, behind each of which no good line begins, have the same length
same_length : (d : Draft) (xs ys : List Line) (more rest : List ℕ) → AreGood d xs → AreGood d ys → flat_map whole_line xs ++ more ≡ flat_map whole_line ys ++ rest
    → ((line : Line) (behind : List ℕ) → more ≡ whole_line line ++ behind → is_line line ≡ true → MayFollow (reached d xs) line → ⊥)
    → ((line : Line) (behind : List ℕ) → rest ≡ whole_line line ++ behind → is_line line ≡ true → MayFollow (reached d ys) line → ⊥)
    → length xs ≡ length ys
same_length d [] [] more rest g h e absent none = refl
same_length d [] (y ∷ ys) more rest g h e absent none = absurd (absent y (flat_map whole_line ys ++ rest) (e ∙ lines_cons y ys rest) h.0 h.1)
same_length d (x ∷ xs) [] more rest g h e absent none = absurd (none x (flat_map whole_line xs ++ more) (sym e ∙ lines_cons x xs more) g.0 g.1)
same_length d (x ∷ xs) (y ∷ ys) more rest g h e absent none =
    let p = first_same x y (flat_map whole_line xs ++ more) (flat_map whole_line ys ++ rest) g.0 h.0 (sym (lines_cons x xs more) ∙ e ∙ lines_cons y ys rest) in
    let next : after d y ≡ after d x = ap (after d) (sym p.0) in
    let good : AreGood (after d x) ys = subst (λ (k : Draft). AreGood k ys) next h.2 in
    let none_here : (line : Line) (behind : List ℕ) → rest ≡ whole_line line ++ behind → is_line line ≡ true → MayFollow (reached (after d x) ys) line → ⊥ =
    λ line behind s l m. none line behind s l (subst (λ (k : Draft). MayFollow (reached k ys) line) (sym next) m) in
    ap suc (same_length (after d x) xs ys more rest g.2 good p.1 absent none_here)

-- there is one first bad line
pub bad_same : (bytes : List ℕ) (n m : ℕ) → IsBadLine bytes n → IsBadLine bytes m → n ≡ m
bad_same bytes n m a b =
    let s = same_length rules.Nothing a.before b.before a.rest b.rest a.good b.good (sym a.text ∙ b.text) a.bad b.bad in
    a.number ∙ ap (λ k. k + 1) s ∙ sym b.number

-- what is given is the one answer
pub only_reading : (bytes : List ℕ) (answer : Result Report ReportFault) → IfOk answer (ReportText bytes) → IfErr answer (Faults bytes) → IsOnlyReading bytes answer
only_reading bytes (Ok r) t f = record {
  report = λ s u. report_same bytes r s t u;
  line = λ n b. no_report bytes n r b t;
}
only_reading bytes (Err NoMemory) t f = record { report = λ s u. tt; line = λ n b. tt }
only_reading bytes (Err (At m)) t f = record {
  report = λ s u. no_report bytes m s f u;
  line = λ n b. bad_same bytes m n f b;
}

-- nothing follows a whole report
nothing_follows : (r : Report) (line : Line) → MayFollow (rules.Whole r) line → ⊥
nothing_follows r line m = m

-- the text of a report goes on to that of no other
pub no_front : (bytes : List ℕ) (r : Report) → IsCutOff bytes → ReportText bytes r → ⊥
unfolding report_text
no_front bytes r cut t =
    let c = continues rules.Nothing rules.Nothing (report_lines r) (report_lines cut.report) cut.rest t.good cut.text.good (ap (λ xs. xs ++ cut.rest) (sym t.text) ∙ cut.text.text) in
    by_more c.more c.lines_are c.rest_is
  where
    by_more : (more : List Line) → report_lines cut.report ≡ report_lines r ++ more → cut.rest ≡ flat_map whole_line more → ⊥
    by_more [] l e = cut.some e
    by_more (x ∷ xs) l e =
        let g : AreGood (reached rules.Nothing (report_lines r)) (x ∷ xs) = good_behind rules.Nothing (report_lines r) (x ∷ xs) (subst (AreGood rules.Nothing) l cut.text.good) in
        nothing_follows r x (subst (λ (d : Draft). MayFollow d x) (report_said r) g.1)

-- a text that was cut off is refused
pub cut_off : (bytes : List ℕ) (answer : Result Report ReportFault) → IfOk answer (ReportText bytes) → IfErr answer (Faults bytes) → IsCutOff bytes → IsRefused bytes answer
cut_off bytes (Ok r) t f cut = absurd (no_front bytes r cut t)
cut_off bytes (Err e) t f cut = f
