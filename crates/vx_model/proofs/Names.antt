-- A rule names the options of its tokens alone.
use Rattle.std.proofs.Common.{◌≡◌, ℕ, ◌<◌, List, [], ◌∷◌, refl, arith, Bool, true, false, ◌||◌, nat_le}
use Rattle.std.specs.List.{list_any}
use Rattle.std.proofs.lemmas.Bool.Decides.{nat_tests}
use Rattle.vx_model.specs.Formula.{Formula, formulas}
use Rattle.vx_model.specs.Truth.{NamesBelow, AllNamesBelow}
use Rattle.vx_model.specs.Grammar.{Imp, Or, Ands, And, Nots, Not, IsRule, conjunction, disjunction, or, arrow, ands, one_and, more_ands, nots, one_not, more_nots, mark, parentheses, name, yes, no}
use Rattle.vx_model.specs.Text.{is_unknown}
use Rattle.vx_model.specs.declared.token.Token.{Token}
use Rattle.vx_model.specs.declared.token.Token.TheVariants as token

-- the names among the tokens are those of the first n options
abbrev pub IsKnown : ℕ → Token → Type 0
IsKnown n (token.Name option) = option < n
IsKnown n t = Unit {0}

abbrev pub AreKnown : ℕ → List Token → Type 0
AreKnown n [] = Unit {0}
AreKnown n (t ∷ ts) = IsKnown n t × AreKnown n ts

conjunction_names : (n : ℕ) (fs : List Formula) → AllNamesBelow n (formulas fs) → NamesBelow n (conjunction fs)
conjunction_names n [] h = tt
conjunction_names n (f ∷ []) h = h.0
conjunction_names n (f ∷ g ∷ fs) h = h

pub disjunction_names : (n : ℕ) (fs : List Formula) → AllNamesBelow n (formulas fs) → NamesBelow n (disjunction fs)
disjunction_names n [] h = tt
disjunction_names n (f ∷ []) h = h.0
disjunction_names n (f ∷ g ∷ fs) h = h

mutual
  imp_names : (n : ℕ) {d : ℕ} {from to : List Token} {f : Formula} → Imp d from to f → AreKnown n from → NamesBelow n f × AreKnown n to
  imp_names n (or h) k = or_names n h k
  imp_names n (arrow h g) k = let a = or_names n h k in let b = imp_names n g a.1.1 in ((a.0, b.0), b.1)

  or_names : (n : ℕ) {d : ℕ} {from to : List Token} {f : Formula} → Or d from to f → AreKnown n from → NamesBelow n f × AreKnown n to
  or_names n (ands {fs = fs} h) k = let a = ands_names n h k in (disjunction_names n fs a.0, a.1)

  ands_names : (n : ℕ) {d : ℕ} {from to : List Token} {fs : List Formula} → Ands d from to fs → AreKnown n from → AllNamesBelow n (formulas fs) × AreKnown n to
  ands_names n (one_and h) k = let a = and_names n h k in ((a.0, tt), a.1)
  ands_names n (more_ands h g) k = let a = and_names n h k in let b = ands_names n g a.1.1 in ((a.0, b.0), b.1)

  and_names : (n : ℕ) {d : ℕ} {from to : List Token} {f : Formula} → And d from to f → AreKnown n from → NamesBelow n f × AreKnown n to
  and_names n (nots {fs = fs} h) k = let a = nots_names n h k in (conjunction_names n fs a.0, a.1)

  nots_names : (n : ℕ) {d : ℕ} {from to : List Token} {fs : List Formula} → Nots d from to fs → AreKnown n from → AllNamesBelow n (formulas fs) × AreKnown n to
  nots_names n (one_not h) k = let a = not_names n h k in ((a.0, tt), a.1)
  nots_names n (more_nots h g) k = let a = not_names n h k in let b = nots_names n g a.1.1 in ((a.0, b.0), b.1)

  not_names : (n : ℕ) {d : ℕ} {from to : List Token} {f : Formula} → Not d from to f → AreKnown n from → NamesBelow n f × AreKnown n to
  not_names n (mark h) k = not_names n h k.1
  not_names n (parentheses h) k = let a = imp_names n h k.1 in (a.0, a.1.1)
  not_names n name k = k
  not_names n yes k = (tt, k.1)
  not_names n no k = (tt, k.1)

pub neither : (a b : Bool) → (a || b) ≡ false → (a ≡ false) × (b ≡ false)
neither true b e = cc
neither false b e = (refl, e)

known_option : (n k : ℕ) → nat_le n k ≡ false → k < n
known_option n k e = grind (arith, nat_tests)

is_known : (n : ℕ) (t : Token) → is_unknown n t ≡ false → IsKnown n t
is_known n (token.Name k) e = known_option n k e
is_known n token.Not e = tt
is_known n token.Open e = tt
is_known n token.Close e = tt
is_known n token.And e = tt
is_known n token.Or e = tt
is_known n token.Arrow e = tt
is_known n token.True e = tt
is_known n token.False e = tt
is_known n token.Other e = tt

pub are_known : (n : ℕ) (ts : List Token) → list_any (is_unknown n) ts ≡ false → AreKnown n ts
are_known n [] e = tt
are_known n (t ∷ ts) e = let both = neither (is_unknown n t) (list_any (is_unknown n) ts) e in (is_known n t both.0, are_known n ts both.1)

pub rule_names : (n : ℕ) (ts : List Token) (rule : Formula) → IsRule ts rule → AreKnown n ts → NamesBelow n rule
rule_names n ts rule h k = (imp_names n h k).0
