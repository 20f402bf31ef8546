-- How many rounds some of the reports made.
use Rattle.std.proofs.Common.{◌≡◌, ◌≤◌, ◌<◌, ◌+◌, ℕ, List, [], ◌∷◌, ◌++◌, length, take, get_or, refl, ap, sym, ◌∙◌, arith}
use Rattle.std.proofs.lemmas.List.Sums.{sum-map, sum_by-append, sum_by-cons, sum_by-take-le}
use Rattle.std.specs.List.{sum_by}
use Rattle.vx_report.specs.declared.report.Report.{Report}
use Rattle.vx_join.specs.Joined.{rounds_of}
use Rattle.vx_join.proofs.Firsts.{take_more}

all_made : (first : Report) (others : List Report) → rounds_of (first ∷ others) ≡ first.rounds + sum_by (λ (r : Report). r.rounds) others
all_made first others = sum-map (λ (r : Report). r.rounds) (first ∷ others) ∙ sum_by-cons (λ (r : Report). r.rounds) first others

-- those so far and one more are no more than all
pub rounds_at_most : (first x : Report) (others : List Report) (i : ℕ) → i < length others → x ≡ get_or others i x → rounds_of (first ∷ take i others) + x.rounds ≤ rounds_of (first ∷ others)
rounds_at_most first x others i l e =
    let here = all_made first (take i others) in
    let whole = all_made first others in
    let more : sum_by (λ (r : Report). r.rounds) (take (i + 1) others) ≡ sum_by (λ (r : Report). r.rounds) (take i others) + sum_by (λ (r : Report). r.rounds) (x ∷ []) =
    ap (sum_by (λ (r : Report). r.rounds)) (take_more others others i x refl l e) ∙ sum_by-append (λ (r : Report). r.rounds) (take i others) (x ∷ []) in
    let last : sum_by (λ (r : Report). r.rounds) (x ∷ []) ≡ x.rounds + 0 = sum_by-cons (λ (r : Report). r.rounds) x [] in
    let part = sum_by-take-le (λ (r : Report). r.rounds) others (i + 1) in
    omega (arith, here, whole, more, last, part)
