-- The ends of a report, one more at a time.
use Rattle.std.proofs.Common.{◌≡◌, ℕ, ◌+◌, ◌<◌, ◌≤◌, zero, suc, List, [], ◌∷◌, ◌++◌, length, take, get_or, refl, sym, ap, subst, ◌∙◌, arith}
use Rattle.std.specs.Prelude.{Some, slice_get}
use Rattle.std.proofs.lemmas.List.{length-take, take_all, take_more}
use Rattle.std.proofs.lemmas.Option.{slice_get-get_or}
use Rattle.vx_space.specs.Sets.{Sets, IsSet}
use Rattle.vx_report.specs.declared.report.EndLine.{EndLine}
use Rattle.vx_report.specs.declared.report.Report.{Report}
use Rattle.vx_cover.specs.Covers.{has_this_end}
use Rattle.vx_cover.specs.Scopes.{AreFirstEnds}
use Rattle.vx_check.specs.Lines.{AreEnded, IsEnded, ended_at}
use Rattle.vx_check.specs.Ways.{Ending, endings, endings_from}
use Rattle.vx_check.specs.declared.ended.Ended.{Ended}

abbrev ending_at : Report → ℕ → EndLine → Ending
ending_at r place line = record { place = place; end = line.end; has = has_this_end r (suc place) }

ended_more : {I : Type 0} (s : Sets I) (r : Report) (from place : ℕ) (lines : List EndLine) (line : EndLine) (es : List (Ended I)) (e : Ended I) → place ≡ from + length lines → AreEnded s (endings_from r from lines) es → IsEnded s (ending_at r place line) e → AreEnded s (endings_from r from (lines ++ line ∷ [])) (es ++ e ∷ [])
ended_more s r from place [] line [] e at h k = let same : place ≡ from = omega (arith, at) in (subst (λ n. IsEnded s (ending_at r n line) e) same k, tt)
ended_more s r from place (l ∷ ls) line (d ∷ es) e at h k = (h.0, ended_more s r (suc from) place ls line es e (omega (arith, at)) h.1 k)
ended_more s r from place [] line (d ∷ es) e at h k = absurd h
ended_more s r from place (l ∷ ls) line [] e at h k = absurd h

-- the first ends so far, with their sets
pub record AreEndedTo {I : Type 0} (r : Report) (firsts : List I) (i : ℕ) (all : List (Ended I)) : Type 0 where
  pub number : length all ≡ i
  pub each : (s : Sets I) → AreFirstEnds s r firsts → AreEnded s (endings_from r 0 (take i r.ends)) all

pub AreEndedTo-start : {I : Type 0} (r : Report) (firsts : List I) → AreEndedTo r firsts 0 []
AreEndedTo-start r firsts = record { number = refl; each = λ s h. tt }

length_more : {A : Type 0} (xs : List A) (x : A) → length (xs ++ x ∷ []) ≡ length xs + 1
length_more [] x = refl
length_more (y ∷ ys) x = omega (arith, length_more ys x)

pub AreEndedTo-step : {I : Type 0} (r : Report) (firsts : List I) (lines : List EndLine) (i : ℕ) (line : EndLine) (set : I) (e : Ended I) (all : List (Ended I)) → length firsts ≡ length r.ends → lines ≡ r.ends → i < length lines → line ≡ get_or lines i line → set ≡ get_or firsts i set → e ≡ ended_at line i set → AreEndedTo r firsts i all → AreEndedTo r firsts (i + 1) (all ++ e ∷ [])
AreEndedTo-step {I} r firsts lines i line set e all count same l here there is h =
    let l' : i < length r.ends = subst (λ xs. i < length xs) same l in
    let here' : line ≡ get_or r.ends i line = subst (λ xs. line ≡ get_or xs i line) same here in
    let got : slice_get firsts i ≡ Some set = slice_get-get_or firsts i set (omega (arith, l', count)) ∙ ap Some (sym there) in
    let at : i ≡ 0 + length (take i r.ends) = omega (arith, length-take i r.ends, l') in
    let more : take (i + 1) r.ends ≡ take i r.ends ++ line ∷ [] = take_more r.ends i line l' ∙ ap (λ y. take i r.ends ++ y ∷ []) (sym here') in
    record {
      number = length_more all e ∙ ap (λ n. n + 1) h.number;
      each = λ s f.
          let ended : IsEnded s (ending_at r i line) e = subst (IsEnded s (ending_at r i line)) (sym is) (record { place = refl; words = refl; rank = refl; passes = refl; set = f.each i set got }) in
          subst (λ ls. AreEnded s (endings_from r 0 ls) (all ++ e ∷ [])) (sym more) (ended_more s r 0 i (take i r.ends) line all e at (h.each s f) ended);
    }

pub AreEndedTo-all : {I : Type 0} (r : Report) (firsts : List I) (lines : List EndLine) (i : ℕ) (all : List (Ended I)) → lines ≡ r.ends → length lines ≤ i → AreEndedTo r firsts i all → (s : Sets I) → AreFirstEnds s r firsts → AreEnded s (endings r) all
AreEndedTo-all r firsts lines i all same done h s f =
    let l : length r.ends ≤ i = subst (λ xs. length xs ≤ i) same done in
    subst (λ ls. AreEnded s (endings_from r 0 ls) all) (take_all i r.ends l) (h.each s f)
