-- A way from a place up, by parents.
use Rattle.std.proofs.Common.{◌≡◌, ℕ, List, [], ◌∷◌, refl, ap, sym, ◌∙◌, Bool, true, false, zero, suc, ◌||◌, ◌-◌, ◌<◌, nat_eq, arith}
use Rattle.std.specs.Bool.{OnTrue}
use Rattle.std.specs.List.{list_any}
use Rattle.std.proofs.lemmas.Bool.Decides.{Decides-eqb}
use Rattle.vx_ancestry.proofs.Rounds.{list_any-flat_map}
use Rattle.vx_ancestry.specs.Ancestors.{parents_of, ancestors, is_ancestor_within}

or-true : (b : Bool) → (b || true) ≡ true
or-true true = refl
or-true false = refl

any-holds : (t : ℕ → Bool) (x : ℕ) (ps : List ℕ) → list_any (nat_eq x) ps ≡ true → t x ≡ true → list_any t ps ≡ true
any-holds t x [] found holds = found
any-holds t x (p ∷ ps) found holds = by_same (nat_eq x p) refl found (any-holds t x ps)
  where
    by_same : (b : Bool) → nat_eq x p ≡ b → (b || list_any (nat_eq x) ps) ≡ true → (list_any (nat_eq x) ps ≡ true → t x ≡ true → list_any t ps ≡ true) → (t p || list_any t ps) ≡ true
    by_same true e found later = ap (λ b. b || list_any t ps) (sym (ap t ((Decides-eqb x p).0 e)) ∙ holds)
    by_same false e found later = ap (λ b. t p || b) (later found holds) ∙ or-true (t p)

step : (parents : List (List ℕ)) (n above next place : ℕ) → 0 < n → list_any (nat_eq next) (parents_of parents place) ≡ true
    → list_any (nat_eq above) (next ∷ ancestors parents (n - 1) next) ≡ true → is_ancestor_within parents n above place ≡ true
step parents zero above next place some parent up = absurd (omega arith)
step parents (suc n) above next place some parent up =
    let same : suc n - 1 ≡ n = omega arith in
    list_any-flat_map (nat_eq above) (λ p. p ∷ ancestors parents n p) (parents_of parents place)
    ∙ any-holds (λ p. list_any (nat_eq above) (p ∷ ancestors parents n p)) next (parents_of parents place) parent (ap (λ m. list_any (nat_eq above) (next ∷ ancestors parents m next)) (sym same) ∙ up)

-- the parent is the place above
pub is_above : (parents : List (List ℕ)) (n above next place : ℕ) → 0 < n → list_any (nat_eq next) (parents_of parents place) ≡ true → next ≡ above → is_ancestor_within parents n above place ≡ true
is_above parents n above next place some parent same =
    step parents n above next place some parent (ap (λ b. b || list_any (nat_eq above) (ancestors parents (n - 1) next)) ((Decides-eqb above next).1 (sym same)))

-- the place above is an ancestor of the parent
pub is_further : (parents : List (List ℕ)) (n above next place : ℕ) → 0 < n → list_any (nat_eq next) (parents_of parents place) ≡ true → is_ancestor_within parents (n - 1) above next ≡ true
    → is_ancestor_within parents n above place ≡ true
is_further parents n above next place some parent up = step parents n above next place some parent (ap (λ b. nat_eq above next || b) up ∙ or-true (nat_eq above next))

pub on_further : (b : Bool) (P Q : Type 0) → (P → Q) → OnTrue b P → OnTrue b Q
on_further true P Q f h = f h
on_further false P Q f h = h
