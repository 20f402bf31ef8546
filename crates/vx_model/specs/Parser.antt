-- How a rule is read from its tokens, from left to right: what is read, and the tokens behind it. That it reads just the
-- grammar's rules is a law.
use Rattle.std.specs.Prelude.{◌≡◌, ℕ, zero, suc, List, [], ◌∷◌, length, Option, Some, None, Result, Ok, Err}
use Rattle.std.specs.Borrow.{Bor}
use Rattle.vx_model.specs.Formula.{Formula}
use Rattle.vx_model.specs.Formula as tree
use Rattle.vx_model.specs.Grammar.{conjunction, disjunction}
use Rattle.vx_model.specs.declared.token.Token.{Token}
use Rattle.vx_model.specs.declared.token.Token.TheVariants as token
use Rattle.vx_model.specs.declared.rule.Operator.{Operator}
use Rattle.vx_model.specs.declared.rule.Operator.TheVariants as operator
use Rattle.vx_model.specs.declared.rule.RuleFault.{RuleFault}
use Rattle.vx_model.specs.declared.rule.RuleFault.TheVariants as fault

-- something that was read, and the tokens behind it
abbrev pub Reads : Type 0 → Type 0
Reads A = Option (A × List Token)

infixl 10 ◌>>=◌
abbrev pub ◌>>=◌ : {A B : Type 0} → Option A → (A → Option B) → Option B
None >>= f = None
(Some x) >>= f = f x

abbrev pub if_some : {A B : Type 0} → Option A → (A → B) → B → B
if_some None f other = other
if_some (Some x) f other = f x

-- the tokens behind an operator
abbrev pub behind : Operator → List Token → Option (List Token)
behind operator.And (token.And ∷ rest) = Some rest
behind operator.Or (token.Or ∷ rest) = Some rest
behind o from = None

abbrev pub whole : Operator → List Formula → Formula
whole operator.And fs = conjunction fs
whole operator.Or fs = disjunction fs

-- further parts, each behind an operator, of which there are at most n
unfoldable pub further : Operator → (List Token → Reads Formula) → ℕ → List Token → Reads (List Formula)
further o part zero from = Some ([], from)
further o part (suc n) from =
    if_some (behind o from) (λ mid. part mid >>= λ x. further o part n x.1 >>= λ y. Some (x.0 ∷ y.0, y.1)) (Some ([], from))

-- a part, and further ones
unfoldable pub joined : Operator → (List Token → Reads Formula) → List Token → Reads Formula
joined o part from = part from >>= λ x. further o part (length x.1) x.1 >>= λ y. Some (whole o (x.0 ∷ y.0), y.1)

-- a name, true or false
abbrev pub atom : List Token → Reads Formula
atom (token.Name option ∷ rest) = Some (tree.Named option, rest)
atom (token.True ∷ rest) = Some (tree.Always, rest)
atom (token.False ∷ rest) = Some (tree.Never, rest)
atom from = None

abbrev pub closed : Formula → List Token → Reads Formula
closed f (token.Close ∷ rest) = Some (f, rest)
closed f from = None

-- what is read where so many nestings may still be opened
pub record Level : Type 0 where
  pub not : List Token → Reads Formula
  pub imp : List Token → Reads Formula

abbrev pub not_over : Level → List Token → Reads Formula
not_over below (token.Not ∷ rest) = below.not rest >>= λ x. Some (tree.Not x.0, x.1)
not_over below (token.Open ∷ rest) = below.imp rest >>= λ x. closed x.0 x.1
not_over below from = atom from

-- the tokens behind an arrow
abbrev pub behind_arrow : List Token → Option (List Token)
behind_arrow (token.Arrow ∷ rest) = Some rest
behind_arrow from = None

abbrev pub arrow_over : (List Token → Reads Formula) → Formula → List Token → Reads Formula
arrow_over imp f from = if_some (behind_arrow from) (λ rest. imp rest >>= λ x. Some (tree.Implies f x.0, x.1)) (Some (f, from))

abbrev pub imp_over : (List Token → Reads Formula) → (List Token → Reads Formula) → List Token → Reads Formula
imp_over not imp from = joined operator.Or (joined operator.And not) from >>= λ x. arrow_over imp x.0 x.1

-- nothing may be nested
abbrev pub lowest : Level
lowest = record { not = atom; imp = imp_over atom (λ from. None) }

-- one more nesting
abbrev pub over : Level → Level
over below = record { not = not_over below; imp = imp_over (not_over below) below.imp }

unfoldable pub level : ℕ → Level
level zero = lowest
level (suc d) = over (level d)

abbrev pub part_at : Operator → ℕ → List Token → Reads Formula
part_at operator.And d = (level d).not
part_at operator.Or d = joined operator.And (level d).not

-- what the tokens, all of them, spell
abbrev pub of_all : Formula → List Token → Option Formula
of_all f [] = Some f
of_all f (t ∷ ts) = None

unfoldable pub parsed : List Token → Option Formula
parsed tokens = (level 256).imp tokens >>= λ x. of_all x.0 x.1

-- so many nestings are left where one more is opened
abbrev pub deeper : ℕ → Option ℕ
deeper zero = None
deeper (suc d) = Some d

-- What a function returned is what is read, unless memory ran out.
abbrev pub Fails : {A : Type 0} → RuleFault → Option A → Type 0
Fails fault.NoMemory read = Unit {0}
Fails fault.Malformed read = read ≡ None

abbrev pub Gives : Result (Formula × Bor (List Token)) RuleFault → Reads Formula → Type 0
Gives (Ok x) read = read ≡ Some (x.0, x.1.now)
Gives (Err e) read = Fails e read

abbrev pub Answers : {A : Type 0} → Result A RuleFault → Option A → Type 0
Answers (Ok x) answer = answer ≡ Some x
Answers (Err e) answer = Fails e answer
