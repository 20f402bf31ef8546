-- How the numbers of a line are read one after the other.
use Rattle.std.proofs.Common.{◌≡◌, ℕ, suc, ◌+◌, ◌<◌, ◌≤◌, length, drop, get_or, add-one, drop-cons, List, [], ◌∷◌, ◌++◌, refl, sym, ap, ◌∙◌, append_assoc, append-nil, Option, Some, None}
use Rattle.std.proofs.Math.ListN.{drop_of_length-le}
use Rattle.vx_dimacs.specs.Dimacs.{State, mark_of, marks_of, front_mark, with_mark, with_marks}
use Rattle.vx_dimacs.specs.declared.number.Mark.{Mark}

-- these numbers, and those that are read behind them
abbrev pub behind_marks : List Mark → Option (List Mark) → Option (List Mark)
behind_marks front None = None
behind_marks front (Some ms) = Some (front ++ ms)

regroup : (front : List Mark) (m : Mark) (rest : Option (List Mark)) → behind_marks (front ++ m ∷ []) rest ≡ behind_marks front (front_mark (Some m) rest)
regroup front m None = refl
regroup front m (Some ms) = ap Some (append_assoc front (m ∷ []) ms)

pub marks_more : (variables : ℕ) (front : List Mark) (m : Mark) (word : List ℕ) (rest all : List (List ℕ)) (total : Option (List Mark)) → all ≡ word ∷ rest
    → mark_of variables word ≡ Some m → behind_marks front (marks_of variables all) ≡ total → behind_marks (front ++ m ∷ []) (marks_of variables rest) ≡ total
marks_more variables front m word rest all total split is so_far =
    regroup front m (marks_of variables rest) ∙ ap (λ r. behind_marks front (front_mark r (marks_of variables rest))) (sym is)
    ∙ ap (λ ws. behind_marks front (marks_of variables ws)) (sym split) ∙ so_far

pub marks_fail : (variables : ℕ) (front : List Mark) (word : List ℕ) (rest all : List (List ℕ)) (total : Option (List Mark)) → all ≡ word ∷ rest
    → mark_of variables word ≡ None → behind_marks front (marks_of variables all) ≡ total → total ≡ None
marks_fail variables front word rest all total split is so_far =
    sym so_far ∙ ap (λ ws. behind_marks front (marks_of variables ws)) split ∙ ap (λ r. behind_marks front (front_mark r (marks_of variables rest))) is

pub marks_done : (variables : ℕ) (front : List Mark) (all : List (List ℕ)) (total : Option (List Mark)) → all ≡ []
    → behind_marks front (marks_of variables all) ≡ total → total ≡ Some front
marks_done variables front all total end so_far =
    sym so_far ∙ ap (λ ws. behind_marks front (marks_of variables ws)) end ∙ ap Some (append-nil front)

-- one more number of a line
with_step : (st : State) (m : Mark) (ms : List Mark) → with_marks st (m ∷ ms) ≡ with_marks (with_mark st m) ms
unfolding with_marks
with_step st m ms = refl

pub with_more : (st new total : State) (marks : List Mark) (i : ℕ) (d : Mark) → i < length marks → new ≡ with_mark st (get_or marks i d)
    → with_marks st (drop i marks) ≡ total → with_marks new (drop (i + 1) marks) ≡ total
with_more st new total marks i d lt is so_far =
    ap (λ s. with_marks s (drop (i + 1) marks)) is ∙ ap (λ k. with_marks (with_mark st (get_or marks i d)) (drop k marks)) (add-one i)
    ∙ sym (with_step st (get_or marks i d) (drop (suc i) marks)) ∙ ap (with_marks st) (sym (drop-cons marks i d lt)) ∙ so_far

pub with_all : (st total : State) (marks : List Mark) (i : ℕ) → length marks ≤ i → with_marks st (drop i marks) ≡ total → st ≡ total
unfolding with_marks
with_all st total marks i le so_far = sym (ap (with_marks st) (drop_of_length-le marks le)) ∙ so_far
