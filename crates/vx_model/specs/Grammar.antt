-- The grammar of rules:
--
--     imp = or | or "->" imp
--     or  = and { "|" and }
--     and = not { "&" not }
--     not = "!" not | "(" imp ")" | NAME | "true" | "false"
--
-- Each relation below is one of these lines. It says that the tokens from a first list up to a second one, which is what
-- is left of the first, spell a rule; and that at no place more than depth of these are open: a `!`, a `(`, and the right
-- side of a `->`.
use Rattle.std.specs.Prelude.{ℕ, suc, List, [], ◌∷◌}
use Rattle.vx_model.specs.Formula.{Formula, formulas}
use Rattle.vx_model.specs.Formula as tree
use Rattle.vx_model.specs.declared.token.Token.{Token}
use Rattle.vx_model.specs.declared.token.Token.TheVariants as token

-- A list of parts is a conjunction, and a single part stands by itself.
abbrev pub conjunction : List Formula → Formula
conjunction [] = tree.Always
conjunction (f ∷ []) = f
conjunction (f ∷ g ∷ fs) = tree.And (formulas (f ∷ g ∷ fs))

abbrev pub disjunction : List Formula → Formula
disjunction [] = tree.Never
disjunction (f ∷ []) = f
disjunction (f ∷ g ∷ fs) = tree.Or (formulas (f ∷ g ∷ fs))

mutual
  pub data Imp : ℕ → List Token → List Token → Formula → Type 0 where
    or : {d : ℕ} {from to : List Token} {f : Formula} → Or d from to f → Imp d from to f
    arrow : {d : ℕ} {from mid to : List Token} {f g : Formula} → Or (suc d) from (token.Arrow ∷ mid) f → Imp d mid to g → Imp (suc d) from to (tree.Implies f g)

  pub data Or : ℕ → List Token → List Token → Formula → Type 0 where
    ands : {d : ℕ} {from to : List Token} {fs : List Formula} → Ands d from to fs → Or d from to (disjunction fs)

  pub data Ands : ℕ → List Token → List Token → List Formula → Type 0 where
    one_and : {d : ℕ} {from to : List Token} {f : Formula} → And d from to f → Ands d from to (f ∷ [])
    more_ands : {d : ℕ} {from mid to : List Token} {f : Formula} {fs : List Formula} → And d from (token.Or ∷ mid) f → Ands d mid to fs → Ands d from to (f ∷ fs)

  pub data And : ℕ → List Token → List Token → Formula → Type 0 where
    nots : {d : ℕ} {from to : List Token} {fs : List Formula} → Nots d from to fs → And d from to (conjunction fs)

  pub data Nots : ℕ → List Token → List Token → List Formula → Type 0 where
    one_not : {d : ℕ} {from to : List Token} {f : Formula} → Not d from to f → Nots d from to (f ∷ [])
    more_nots : {d : ℕ} {from mid to : List Token} {f : Formula} {fs : List Formula} → Not d from (token.And ∷ mid) f → Nots d mid to fs → Nots d from to (f ∷ fs)

  pub data Not : ℕ → List Token → List Token → Formula → Type 0 where
    mark : {d : ℕ} {from to : List Token} {f : Formula} → Not d from to f → Not (suc d) (token.Not ∷ from) to (tree.Not f)
    parentheses : {d : ℕ} {from to : List Token} {f : Formula} → Imp d from (token.Close ∷ to) f → Not (suc d) (token.Open ∷ from) to f
    name : {d : ℕ} {to : List Token} {option : ℕ} → Not d (token.Name option ∷ to) to (tree.Named option)
    yes : {d : ℕ} {to : List Token} → Not d (token.True ∷ to) to tree.Always
    no : {d : ℕ} {to : List Token} → Not d (token.False ∷ to) to tree.Never

-- the tokens, all of them, spell the rule, and nest by at most 256
abbrev pub IsRule : List Token → Formula → Type 0
IsRule tokens rule = Imp 256 tokens [] rule
