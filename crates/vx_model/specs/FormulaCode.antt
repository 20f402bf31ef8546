-- A code of formulas: their forms, each behind its parts.
use Rattle.std.specs.Prelude.{◌≡◌, ℕ, List, [], ◌∷◌, refl, zero, suc}
use Rattle.std.specs.Coded.{Coded, code_by, coded×, coded_list, coded_ℕ}
use Rattle.vx_model.specs.Formula.{Formula, Formulas, Always, Never, Named, Not, And, Or, Implies, none, more}

-- a formula and then what follows
abbrev mutual
  pub coded_before : Formula → List (ℕ × ℕ) → List (ℕ × ℕ)
  coded_before Always rest = (0, 0) ∷ rest
  coded_before Never rest = (1, 0) ∷ rest
  coded_before (Named n) rest = (2, n) ∷ rest
  coded_before (Not f) rest = coded_before f ((3, 0) ∷ rest)
  coded_before (And fs) rest = all_before fs ((4, 0) ∷ rest)
  coded_before (Or fs) rest = all_before fs ((5, 0) ∷ rest)
  coded_before (Implies f g) rest = coded_before f (coded_before g ((6, 0) ∷ rest))

  pub all_before : Formulas → List (ℕ × ℕ) → List (ℕ × ℕ)
  all_before none rest = (7, 0) ∷ rest
  all_before (more f fs) rest = coded_before f (all_before fs ((8, 0) ∷ rest))

-- what has been read: formulas, and lists of formulas, the last one first
pub record Read : Type 0 where
  pub one : List Formula
  pub many : List Formulas

abbrev pub push : Formula → Read → Read
push f r = record { one = f ∷ r.one; many = r.many }

abbrev pub push_all : Formulas → Read → Read
push_all fs r = record { one = r.one; many = fs ∷ r.many }

abbrev pub first_of : List Formula → Formula
first_of [] = Always
first_of (f ∷ fs) = f

abbrev pub rest_of : List Formula → List Formula
rest_of [] = []
rest_of (f ∷ fs) = fs

abbrev pub first_all : List Formulas → Formulas
first_all [] = none
first_all (f ∷ fs) = f

abbrev pub rest_all : List Formulas → List Formulas
rest_all [] = []
rest_all (f ∷ fs) = fs

abbrev pub step : ℕ → ℕ → Read → Read
step zero n r = push Always r
step (suc zero) n r = push Never r
step (suc (suc zero)) n r = push (Named n) r
step (suc (suc (suc zero))) n r = record { one = Not (first_of r.one) ∷ rest_of r.one; many = r.many }
step (suc (suc (suc (suc zero)))) n r = record { one = And (first_all r.many) ∷ r.one; many = rest_all r.many }
step (suc (suc (suc (suc (suc zero))))) n r = record { one = Or (first_all r.many) ∷ r.one; many = rest_all r.many }
step (suc (suc (suc (suc (suc (suc zero)))))) n r = record { one = Implies (first_of (rest_of r.one)) (first_of r.one) ∷ rest_of (rest_of r.one); many = r.many }
step (suc (suc (suc (suc (suc (suc (suc zero))))))) n r = push_all none r
step _ n r = record { one = rest_of r.one; many = more (first_of r.one) (first_all r.many) ∷ rest_all r.many }

abbrev pub run : List (ℕ × ℕ) → Read → Read
run [] r = r
run (s ∷ rest) r = run rest (step s.0 s.1 r)

mutual
  pub run_coded : (f : Formula) (rest : List (ℕ × ℕ)) (r : Read) → run (coded_before f rest) r ≡ run rest (push f r)
  run_coded Always rest r = refl
  run_coded Never rest r = refl
  run_coded (Named n) rest r = refl
  run_coded (Not f) rest r = run_coded f _ r
  run_coded (And fs) rest r = run_all fs _ r
  run_coded (Or fs) rest r = run_all fs _ r
  run_coded (Implies f g) rest r = rw (run_coded f (coded_before g ((6, 0) ∷ rest)) r) (run_coded g _ (push f r))

  pub run_all : (fs : Formulas) (rest : List (ℕ × ℕ)) (r : Read) → run (all_before fs rest) r ≡ run rest (push_all fs r)
  run_all none rest r = refl
  run_all (more f fs) rest r = rw (run_coded f (all_before fs ((8, 0) ∷ rest)) r) (run_all fs _ (push f r))

abbrev pub formula_code : Coded Formula
formula_code =
    code_by (List (ℕ × ℕ)) (coded_list (coded× coded_ℕ coded_ℕ)) (λ f. coded_before f []) (λ s. first_of (run s (record { one = []; many = [] })).one)
    (λ f. rw (run_coded f [] (record { one = []; many = [] })) refl)
