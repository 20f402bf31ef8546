-- A report whose lines are good is lawful.
use Rattle.std.proofs.Common.{◌≡◌, ℕ, zero, suc, ◌+◌, List, [], ◌∷◌, ◌++◌, length, slice_get, take, Bool, true, false, Some, ◌&&◌, ◌||◌, not, nat_eq, nat_le, refl, ap, sym, subst, ◌⊎◌, inl, inr, Result, Ok, Err, IfOk}
use Rattle.std.specs.List.{list_all}
use Rattle.vx_bdd_tools.specs.Nodes.{IsNextNode, IsReducedList}
use Rattle.vx_bdd_tools.specs.Numbering.{NumbersAll}
use Rattle.vx_report.specs.declared.report.Report.{Report}
use Rattle.vx_report.specs.declared.line.Line.{Line}
use Rattle.vx_report.specs.declared.line.Line.TheVariants.{Head, Count, Named, Limit, Rounds, Numbered, Printed, Ended, Spent, Done}
use Rattle.vx_report.specs.Text.{report_lines}
use Rattle.vx_report_line.specs.Forms.{is_line}
use Rattle.vx_report_line.proofs.Numbers.{both_true}
use Rattle.vx_report_reader.specs.declared.reading.ReportFault.{ReportFault}
use Rattle.vx_report_reader.specs.Rules.{Draft, MayFollow, after, reached, AreGood, ReportText, roots_of, is_nil, is_done, comes_after, is_above, last_of}
use Rattle.vx_report_reader.specs.Rules as rules
use Rattle.vx_report_reader.specs.Lawful.{EachFollows, IsLawful}
use Rattle.vx_report_reader.proofs.Drafts.{report_said}
use Rattle.vx_report_reader.proofs.Good.{IsNewName, IsNextEnd, IsNextNumber}

-- ---- one more item

get_more : {A : Type 0} (xs : List A) (x : A) (place : ℕ) (y : A) → slice_get (xs ++ x ∷ []) place ≡ Some y
    → ((slice_get xs place ≡ Some y) × (take place (xs ++ x ∷ []) ≡ take place xs)) ⊎ ((y ≡ x) × (take place (xs ++ x ∷ []) ≡ xs))
get_more [] x zero y e = inr (cc, refl)
get_more [] x (suc k) y e = cc
get_more (z ∷ zs) x zero y e = inl (e, refl)
get_more (z ∷ zs) x (suc k) y e = elim (get_more zs x k y e) [ inl h ↦ inl (h.0, ap (λ ys. z ∷ ys) h.1) | inr h ↦ inr (h.0, ap (λ ys. z ∷ ys) h.1) ]

each_more : {A : Type 0} (P : List A → A → Type 0) (xs : List A) (x : A) → EachFollows P xs → P xs x → EachFollows P (xs ++ x ∷ [])
each_more {A} P xs x f p = λ place y e. elim (get_more xs x place y e) [
  | inl h ↦ subst (λ (ys : List A). P ys y) (sym h.1) (f place y h.0)
  | inr h ↦ subst (λ (ys : List A). P ys y) (sym h.1) (subst (λ (z : A). P xs z) (sym h.0) p)
]

each_none : {A : Type 0} (P : List A → A → Type 0) → EachFollows P []
each_none P = λ place x e. cc

-- ---- what holds of a draft

pub record IsLawfulSoFar (r : Report) : Type 0 where
  pub names : EachFollows IsNewName r.options
  pub nodes : IsReducedList (length r.options) r.nodes
  pub ends : EachFollows IsNextEnd r.ends
  pub spent : is_nil r.attempts ≡ false → nat_eq r.version 2 ≡ true
  pub attempts : EachFollows (IsNextNumber r.limit) r.attempts

abbrev IsLawfulDraft : Draft → Type 0
IsLawfulDraft rules.Nothing = Unit {0}
IsLawfulDraft (rules.Begun version) = Unit {0}
IsLawfulDraft (rules.Naming version count names) = EachFollows IsNewName names
IsLawfulDraft (rules.Limited version names limit) = EachFollows IsNewName names
IsLawfulDraft (rules.Body r) = IsLawfulSoFar r
IsLawfulDraft (rules.Whole r) = IsLawfulSoFar r × (is_done r ≡ true) × NumbersAll r.nodes 2 (roots_of r) (length r.nodes + 2)

spent_parts : (v e a l : Bool) → (v && not e && a && l) ≡ true → (v ≡ true) × ((a && l) ≡ true)
spent_parts v e a l h =
    let p = both_true (v && not e && a) l h in
    let q = both_true (v && not e) a p.0 in
    let s = both_true v (not e) q.0 in
    (s.0, rw (q.1, p.1) refl)

lawful_more : (d : Draft) (line : Line) → IsLawfulDraft d → MayFollow d line → IsLawfulDraft (after d line)
lawful_more rules.Nothing (Head version) h m = tt
lawful_more (rules.Begun version) (Count options) h m = each_none IsNewName
lawful_more (rules.Naming version count names) (Named name) h m = each_more IsNewName names name h m.is_new
lawful_more (rules.Naming version count names) (Limit limit) h m = h
lawful_more (rules.Limited version names limit) (Rounds rounds) h m = record {
  names = h;
  nodes = record { each = each_none (IsNextNode (length names)) };
  ends = each_none IsNextEnd;
  spent = λ e. cc;
  attempts = each_none (IsNextNumber limit);
}
lawful_more (rules.Body r) (Numbered id node) h m = record {
  names = h.names;
  nodes = record { each = each_more (IsNextNode (length r.options)) r.nodes node h.nodes.each m.1 };
  ends = h.ends;
  spent = h.spent;
  attempts = h.attempts;
}
lawful_more (rules.Body r) (Printed piece) h m = record { names = h.names; nodes = h.nodes; ends = h.ends; spent = h.spent; attempts = h.attempts }
lawful_more (rules.Body r) (Ended line) h m = record {
  names = h.names;
  nodes = h.nodes;
  ends = each_more IsNextEnd r.ends line h.ends (both_true (is_nil r.attempts) (comes_after (last_of r.ends) line.end) m.0).1;
  spent = h.spent;
  attempts = h.attempts;
}
lawful_more (rules.Body r) (Spent line) h m =
    let p = spent_parts (nat_eq r.version 2) (is_nil r.ends) (is_above (last_of r.attempts) line.attempts) (nat_le line.attempts r.limit) m.0 in
    record {
      names = h.names;
      nodes = h.nodes;
      ends = h.ends;
      spent = λ e. p.0;
      attempts = each_more (IsNextNumber r.limit) r.attempts line h.attempts p.1;
    }
lawful_more (rules.Body r) Done h m = (h, m.0, m.1)
lawful_more _ _ h m = absurd m

lawful_all : (d : Draft) (lines : List Line) → IsLawfulDraft d → AreGood d lines → IsLawfulDraft (reached d lines)
lawful_all d [] h g = h
lawful_all d (x ∷ xs) h g = lawful_all (after d x) xs (lawful_more d x h g.1) g.2

lines_lawful : (d : Draft) (lines : List Line) → AreGood d lines → list_all is_line lines ≡ true
lines_lawful d [] g = refl
lines_lawful d (x ∷ xs) g = rw (g.0, lines_lawful (after d x) xs g.2) refl

-- ---- the whole

not_true : (e : Bool) → not e ≡ true → e ≡ false
not_true true h = cc
not_true false h = refl

spent_is : (v n : Bool) → (not v || not n) ≡ true → (n ≡ false → v ≡ true) → v ≡ not n
spent_is true true h f = cc
spent_is true false h f = refl
spent_is false true h f = refl
spent_is false false h f = f refl

pub good_lawful : (r : Report) → AreGood rules.Nothing (report_lines r) → IsLawful r
good_lawful r g =
    let w : IsLawfulDraft (rules.Whole r) = subst IsLawfulDraft (report_said r) (lawful_all rules.Nothing (report_lines r) tt g) in
    let d = both_true (not (is_nil r.ends)) (not (nat_eq r.version 2) || not (is_nil r.attempts)) w.1 in
    record {
      lines = lines_lawful rules.Nothing (report_lines r) g;
      names = w.0.names;
      numbered = record { reduced = w.0.nodes; numbered = w.2 };
      ended = not_true (is_nil r.ends) d.0;
      ends = w.0.ends;
      spent = spent_is (nat_eq r.version 2) (is_nil r.attempts) d.1 w.0.spent;
      attempts = w.0.attempts;
    }

pub found_lawful : (bytes : List ℕ) (answer : Result Report ReportFault) → IfOk answer (ReportText bytes) → IfOk answer IsLawful
found_lawful bytes (Ok r) t = good_lawful r t.good
found_lawful bytes (Err e) t = tt
