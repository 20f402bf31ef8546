-- How a loop reads the parts of a rule, one after the other.
use Rattle.std.proofs.Common.{◌≡◌, ◌≢◌, ℕ, zero, suc, ◌<◌, ◌≤◌, List, [], ◌∷◌, ◌++◌, length, refl, ap, ◌∙◌, arith, append_assoc, append-nil, Option, Some, None}
use Rattle.vx_model.specs.Formula.{Formula}
use Rattle.vx_model.specs.Formula as tree
use Rattle.vx_model.specs.declared.rule.RuleFault.{RuleFault}
use Rattle.vx_model.specs.declared.rule.RuleFault.TheVariants as fault
use Rattle.vx_model.specs.Parser.{Reads, ◌>>=◌, behind, whole, further, joined, level, part_at, atom, closed, behind_arrow, deeper, Fails}
use Rattle.vx_model.specs.declared.token.Token.{Token}
use Rattle.vx_model.specs.declared.token.Token.TheVariants as token
use Rattle.vx_model.specs.declared.rule.Operator.{Operator}
use Rattle.vx_model.specs.declared.rule.Operator.TheVariants as operator

-- `&` is read inside `|`
abbrev pub rank : Operator → ℕ
rank operator.And = 0
rank operator.Or = 2

-- a list of parts that is read, behind these
abbrev pub whole_behind : Operator → List Formula → Reads (List Formula) → Reads Formula
whole_behind o parts read = read >>= λ y. Some (whole o (parts ++ y.0), y.1)

abbrev pub cons_behind : Formula → Reads (List Formula) → Reads (List Formula)
cons_behind f read = read >>= λ y. Some (f ∷ y.0, y.1)

-- these parts have been read, and what is read on from the rest makes the whole
pub record JoinsOn (o : Operator) (part : List Token → Reads Formula) (from : List Token) (parts : List Formula) (rest : List Token) : Type 0 where
  pub n : ℕ
  pub room : length rest ≤ n
  pub same : joined o part from ≡ whole_behind o parts (further o part n rest)
  pub shorter : length rest < length from

pub joins_first : (o : Operator) (part : List Token → Reads Formula) (from : List Token) (f : Formula) (rest : List Token)
    → part from ≡ Some (f, rest) → length rest < length from → JoinsOn o part from (f ∷ []) rest
unfolding joined
joins_first o part from f rest e lt = record { n = length rest; room = omega arith; same = rw e refl; shorter = lt }

-- the list of parts that are read from here, by the operator in front
step : (o : Operator) (part : List Token → Reads Formula) (n : ℕ) (rest mid us : List Token) (f : Formula) → behind o rest ≡ Some mid → part mid ≡ Some (f, us)
    → further o part (suc n) rest ≡ cons_behind f (further o part n us)
unfolding further
step o part n rest mid us f e h = rw (e, h) refl

regroup : (o : Operator) (parts : List Formula) (f : Formula) (read : Reads (List Formula))
    → whole_behind o parts (cons_behind f read) ≡ whole_behind o (parts ++ f ∷ []) read
regroup o parts f None = refl
regroup o parts f (Some y) = rw (append_assoc parts (f ∷ []) y.0) refl

goes_on : (o : Operator) (part : List Token → Reads Formula) (from : List Token) (parts : List Formula) (rest mid us : List Token) (f : Formula) (n : ℕ)
    → length rest ≤ n → joined o part from ≡ whole_behind o parts (further o part n rest) → length rest < length from
    → behind o rest ≡ Some mid → part mid ≡ Some (f, us) → length mid < length rest → length us < length mid → JoinsOn o part from (parts ++ f ∷ []) us
goes_on o part from parts rest mid us f zero room same shorter e h l m = absurd (omega arith)
goes_on o part from parts rest mid us f (suc n) room same shorter e h l m = record {
  n = n;
  room = omega arith;
  same = same ∙ ap (whole_behind o parts) (step o part n rest mid us f e h) ∙ regroup o parts f (further o part n us);
  shorter = omega arith;
}

pub joins_more : (o : Operator) (part : List Token → Reads Formula) (from : List Token) (parts : List Formula) (rest mid us : List Token) (f : Formula)
    → JoinsOn o part from parts rest → behind o rest ≡ Some mid → part mid ≡ Some (f, us) → length mid < length rest → length us < length mid
    → JoinsOn o part from (parts ++ f ∷ []) us
joins_more o part from parts rest mid us f so_far e h l m = goes_on o part from parts rest mid us f so_far.n so_far.room so_far.same so_far.shorter e h l m

no_step : (o : Operator) (part : List Token → Reads Formula) (n : ℕ) (rest mid : List Token) → behind o rest ≡ Some mid → part mid ≡ None → further o part (suc n) rest ≡ None
unfolding further
no_step o part n rest mid e h = rw (e, h) refl

fails : (o : Operator) (part : List Token → Reads Formula) (from : List Token) (parts : List Formula) (rest mid : List Token) (n : ℕ)
    → length rest ≤ n → joined o part from ≡ whole_behind o parts (further o part n rest)
    → behind o rest ≡ Some mid → part mid ≡ None → length mid < length rest → joined o part from ≡ None
fails o part from parts rest mid zero room same e h l = absurd (omega arith)
fails o part from parts rest mid (suc n) room same e h l = same ∙ ap (whole_behind o parts) (no_step o part n rest mid e h)

pub joins_fail : (o : Operator) (part : List Token → Reads Formula) (from : List Token) (parts : List Formula) (rest mid : List Token)
    → JoinsOn o part from parts rest → behind o rest ≡ Some mid → part mid ≡ None → length mid < length rest → joined o part from ≡ None
joins_fail o part from parts rest mid so_far e h l = fails o part from parts rest mid so_far.n so_far.room so_far.same e h l

pub fails_first : (o : Operator) (part : List Token → Reads Formula) (from : List Token) → part from ≡ None → joined o part from ≡ None
unfolding joined
fails_first o part from e = rw e refl

last : (o : Operator) (part : List Token → Reads Formula) (n : ℕ) (rest : List Token) → behind o rest ≡ None → further o part n rest ≡ Some ([], rest)
unfolding further
last o part zero rest e = refl
last o part (suc n) rest e = rw e refl

pub joins_done : (o : Operator) (part : List Token → Reads Formula) (from : List Token) (parts : List Formula) (rest : List Token)
    → JoinsOn o part from parts rest → behind o rest ≡ None → joined o part from ≡ Some (whole o parts, rest)
joins_done o part from parts rest so_far e =
    so_far.same ∙ ap (whole_behind o parts) (last o part so_far.n rest e) ∙ ap (λ fs. Some (whole o fs, rest)) (append-nil parts)

-- a fault inside is a fault of the whole
pub fails_by : {A B : Type 0} (e : RuleFault) (part : Option A) (whole : Option B) → (part ≡ None → whole ≡ None) → Fails e part → Fails e whole
fails_by fault.NoMemory part whole along failed = tt
fails_by fault.Malformed part whole along failed = along failed

-- an implication, by what stands before its arrow
pub imp_none : (d : ℕ) (from : List Token) → joined operator.Or (part_at operator.Or d) from ≡ None → (level d).imp from ≡ None
unfolding level
imp_none zero from e = rw e refl
imp_none (suc d) from e = rw e refl

pub imp_plain : (d : ℕ) (from rest : List Token) (f : Formula) → joined operator.Or (part_at operator.Or d) from ≡ Some (f, rest) → behind_arrow rest ≡ None
    → (level d).imp from ≡ Some (f, rest)
unfolding level
imp_plain zero from rest f e h = rw (e, h) refl
imp_plain (suc d) from rest f e h = rw (e, h) refl

pub imp_too_deep : (d : ℕ) (from rest after : List Token) (f : Formula) → joined operator.Or (part_at operator.Or d) from ≡ Some (f, rest)
    → behind_arrow rest ≡ Some after → deeper d ≡ None → (level d).imp from ≡ None
unfolding level
imp_too_deep zero from rest after f e h k = rw (e, h) refl
imp_too_deep (suc d) from rest after f e h k = cc

pub imp_fails : (d below : ℕ) (from rest after : List Token) (f : Formula) → joined operator.Or (part_at operator.Or d) from ≡ Some (f, rest)
    → behind_arrow rest ≡ Some after → deeper d ≡ Some below → (level below).imp after ≡ None → (level d).imp from ≡ None
unfolding level
imp_fails zero below from rest after f e h k m = cc
imp_fails (suc d) below from rest after f e h k m = let same : d ≡ below = cc in let n : (level d).imp after ≡ None = rw same m in rw (e, h, n) refl

pub imp_arrow : (d below : ℕ) (from rest after end : List Token) (f g : Formula) → joined operator.Or (part_at operator.Or d) from ≡ Some (f, rest)
    → behind_arrow rest ≡ Some after → deeper d ≡ Some below → (level below).imp after ≡ Some (g, end) → (level d).imp from ≡ Some (tree.Implies f g, end)
unfolding level
imp_arrow zero below from rest after end f g e h k m = cc
imp_arrow (suc d) below from rest after end f g e h k m =
    let same : d ≡ below = cc in let n : (level d).imp after ≡ Some (g, end) = rw same m in rw (e, h, n) refl

-- an operand, by its first token
pub not_empty : (d : ℕ) (from : List Token) → from ≡ [] → (level d).not from ≡ None
unfolding level
not_empty zero from e = rw e refl
not_empty (suc d) from e = rw e refl

pub mark_too_deep : (d : ℕ) (from rest : List Token) → from ≡ token.Not ∷ rest → deeper d ≡ None → (level d).not from ≡ None
unfolding level
mark_too_deep zero from rest e k = rw e refl
mark_too_deep (suc d) from rest e k = cc

pub mark_fails : (d below : ℕ) (from rest : List Token) → from ≡ token.Not ∷ rest → deeper d ≡ Some below → (level below).not rest ≡ None → (level d).not from ≡ None
unfolding level
mark_fails zero below from rest e k m = cc
mark_fails (suc d) below from rest e k m = let same : d ≡ below = cc in let n : (level d).not rest ≡ None = rw same m in rw (e, n) refl

pub mark_read : (d below : ℕ) (from rest end : List Token) (f : Formula) → from ≡ token.Not ∷ rest → deeper d ≡ Some below
    → (level below).not rest ≡ Some (f, end) → (level d).not from ≡ Some (tree.Not f, end)
unfolding level
mark_read zero below from rest end f e k m = cc
mark_read (suc d) below from rest end f e k m = let same : d ≡ below = cc in let n : (level d).not rest ≡ Some (f, end) = rw same m in rw (e, n) refl

pub open_too_deep : (d : ℕ) (from rest : List Token) → from ≡ token.Open ∷ rest → deeper d ≡ None → (level d).not from ≡ None
unfolding level
open_too_deep zero from rest e k = rw e refl
open_too_deep (suc d) from rest e k = cc

pub open_fails : (d below : ℕ) (from rest : List Token) → from ≡ token.Open ∷ rest → deeper d ≡ Some below → (level below).imp rest ≡ None → (level d).not from ≡ None
unfolding level
open_fails zero below from rest e k m = cc
open_fails (suc d) below from rest e k m = let same : d ≡ below = cc in let n : (level d).imp rest ≡ None = rw same m in rw (e, n) refl

pub open_read : (d below : ℕ) (from rest end : List Token) (f : Formula) → from ≡ token.Open ∷ rest → deeper d ≡ Some below
    → (level below).imp rest ≡ Some (f, end) → (level d).not from ≡ closed f end
unfolding level
open_read zero below from rest end f e k m = cc
open_read (suc d) below from rest end f e k m = let same : d ≡ below = cc in let n : (level d).imp rest ≡ Some (f, end) = rw same m in rw (e, n) refl

other_first : (d : ℕ) (first : Token) (rest : List Token) → first ≢ token.Not → first ≢ token.Open → (level d).not (first ∷ rest) ≡ atom (first ∷ rest)
unfolding level
other_first zero first rest a b = refl
other_first (suc d) token.Not rest a b = absurd (a refl)
other_first (suc d) token.Open rest a b = absurd (b refl)
other_first (suc d) token.Close rest a b = refl
other_first (suc d) token.And rest a b = refl
other_first (suc d) token.Or rest a b = refl
other_first (suc d) token.Arrow rest a b = refl
other_first (suc d) token.True rest a b = refl
other_first (suc d) token.False rest a b = refl
other_first (suc d) (token.Name n) rest a b = refl
other_first (suc d) token.Other rest a b = refl

pub not_atom : (d : ℕ) (from rest : List Token) (first : Token) → from ≡ first ∷ rest → first ≢ token.Not → first ≢ token.Open → (level d).not from ≡ atom from
not_atom d from rest first e a b = rw e (other_first d first rest a b)
