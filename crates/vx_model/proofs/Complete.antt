-- What is in the grammar is read from its tokens.
use Rattle.std.proofs.Common.{◌≡◌, ℕ, zero, suc, List, [], ◌∷◌, length, refl, Some, None, ◌<◌, arith}
use Rattle.vx_model.specs.Formula.{Formula}
use Rattle.vx_model.specs.Formula as formula
use Rattle.vx_model.specs.Grammar.{Imp, Or, Ands, And, Nots, Not, IsRule}
use Rattle.vx_model.specs.Grammar as grammar
use Rattle.vx_model.specs.Parser.{Reads, ◌>>=◌, behind, behind_arrow, whole, further, joined, level, parsed}
use Rattle.vx_model.specs.declared.token.Token.{Token}
use Rattle.vx_model.specs.declared.token.Token.TheVariants as token
use Rattle.vx_model.specs.declared.rule.Operator.{Operator}
use Rattle.vx_model.specs.declared.rule.Operator.TheVariants as operator
use Rattle.vx_model.proofs.Sound.{mark}

-- each part of the grammar takes a token at least
mutual
  imp_falls : {d : ℕ} {from to : List Token} {f : Formula} → Imp d from to f → length to < length from
  imp_falls (grammar.or h) = or_falls h
  imp_falls (grammar.arrow h k) = let a = or_falls h in let b = imp_falls k in omega (arith, a, b)

  or_falls : {d : ℕ} {from to : List Token} {f : Formula} → Or d from to f → length to < length from
  or_falls (grammar.ands h) = ands_falls h

  ands_falls : {d : ℕ} {from to : List Token} {fs : List Formula} → Ands d from to fs → length to < length from
  ands_falls (grammar.one_and h) = and_falls h
  ands_falls (grammar.more_ands h k) = let a = and_falls h in let b = ands_falls k in omega (arith, a, b)

  and_falls : {d : ℕ} {from to : List Token} {f : Formula} → And d from to f → length to < length from
  and_falls (grammar.nots h) = nots_falls h

  nots_falls : {d : ℕ} {from to : List Token} {fs : List Formula} → Nots d from to fs → length to < length from
  nots_falls (grammar.one_not h) = not_falls h
  nots_falls (grammar.more_nots h k) = let a = not_falls h in let b = nots_falls k in omega (arith, a, b)

  not_falls : {d : ℕ} {from to : List Token} {f : Formula} → Not d from to f → length to < length from
  not_falls (grammar.mark h) = let a = not_falls h in omega (arith, a)
  not_falls (grammar.parentheses h) = let a = imp_falls h in omega (arith, a)
  not_falls grammar.name = omega arith
  not_falls grammar.yes = omega arith
  not_falls grammar.no = omega arith

-- parts with an operator between them, each of which a reader takes
data Many (o : Operator) (part : List Token → Reads Formula) : List Token → List Token → List Formula → Type 0 where
  one : (from to : List Token) (f : Formula) → part from ≡ Some (f, to) → Many o part from to (f ∷ [])
  more : (from mid to : List Token) (f : Formula) (fs : List Formula) → part from ≡ Some (f, mark o ∷ mid) → suc (length mid) < length from → Many o part mid to fs → Many o part from to (f ∷ fs)

behind_mark : (o : Operator) (mid : List Token) → behind o (mark o ∷ mid) ≡ Some mid
behind_mark operator.And mid = refl
behind_mark operator.Or mid = refl

-- no further part follows
further_none : (o : Operator) (part : List Token → Reads Formula) (n : ℕ) (to : List Token) → behind o to ≡ None → further o part n to ≡ Some ([], to)
unfolding further
further_none o part zero to e = refl
further_none o part (suc n) to e = rw e refl

-- a part and further ones, of which there are at most n
abbrev part_and_further : Operator → (List Token → Reads Formula) → ℕ → List Token → Reads (List Formula)
part_and_further o part n mid = part mid >>= λ x. further o part n x.1 >>= λ y. Some (x.0 ∷ y.0, y.1)

many_read : (o : Operator) (part : List Token → Reads Formula) (n : ℕ) (from to : List Token) (fs : List Formula) → Many o part from to fs → length from < suc (suc n) → behind o to ≡ None → part_and_further o part n from ≡ Some (fs, to)
unfolding further
many_read o part n from to fs (one _ _ f e) few end = rw (e, further_none o part n to end) refl
many_read o part zero from to fs (more _ mid _ f gs e falls rest) few end = absurd (omega (arith, falls, few))
many_read o part (suc n) from to fs (more _ mid _ f gs e falls rest) few end =
    rw (e, behind_mark o mid, many_read o part n mid to gs rest (omega (arith, falls, few)) end) refl

-- and joined
many_joined : (o : Operator) (part : List Token → Reads Formula) (from to : List Token) (fs : List Formula) → Many o part from to fs → behind o to ≡ None → joined o part from ≡ Some (whole o fs, to)
unfolding joined further
many_joined o part from to fs (one _ _ f e) end = rw (e, further_none o part (length to) to end) refl
many_joined o part from to fs (more _ mid _ f gs e falls rest) end =
    rw (e, behind_mark o mid, many_read o part (length mid) mid to gs rest (omega arith) end) refl

-- what the level of a depth reads of an atom
level_name : (d : ℕ) (n : ℕ) (to : List Token) → (level d).not (token.Name n ∷ to) ≡ Some (formula.Named n, to)
unfolding level
level_name zero n to = refl
level_name (suc d) n to = refl

level_true : (d : ℕ) (to : List Token) → (level d).not (token.True ∷ to) ≡ Some (formula.Always, to)
unfolding level
level_true zero to = refl
level_true (suc d) to = refl

level_false : (d : ℕ) (to : List Token) → (level d).not (token.False ∷ to) ≡ Some (formula.Never, to)
unfolding level
level_false zero to = refl
level_false (suc d) to = refl

level_mark : (d : ℕ) (from to : List Token) (f : Formula) → (level d).not from ≡ Some (f, to) → (level (suc d)).not (token.Not ∷ from) ≡ Some (formula.Not f, to)
unfolding level
level_mark d from to f e = rw e refl

level_parentheses : (d : ℕ) (from to : List Token) (f : Formula) → (level d).imp from ≡ Some (f, token.Close ∷ to) → (level (suc d)).not (token.Open ∷ from) ≡ Some (f, to)
unfolding level
level_parentheses d from to f e = rw e refl

-- what it reads of a rule: a premise alone, or one with a conclusion
abbrev premise_at : ℕ → List Token → Reads Formula
premise_at d from = joined operator.Or (joined operator.And (level d).not) from

level_premise : (d : ℕ) (from to : List Token) (f : Formula) → premise_at d from ≡ Some (f, to) → behind_arrow to ≡ None → (level d).imp from ≡ Some (f, to)
unfolding level
level_premise zero from to f e end = rw (e, end) refl
level_premise (suc d) from to f e end = rw (e, end) refl

level_arrow : (d : ℕ) (from mid to : List Token) (f g : Formula) → premise_at (suc d) from ≡ Some (f, token.Arrow ∷ mid) → (level d).imp mid ≡ Some (g, to) → (level (suc d)).imp from ≡ Some (formula.Implies f g, to)
unfolding level
level_arrow d from mid to f g e k = rw (e, k) refl

mutual
  imp_read : {d : ℕ} {from to : List Token} {f : Formula} → Imp d from to f → behind operator.And to ≡ None → behind operator.Or to ≡ None → behind_arrow to ≡ None → (level d).imp from ≡ Some (f, to)
  imp_read {d = d} {from = from} {to = to} {f = f} (grammar.or h) ands ors arrow = level_premise d from to f (or_read h ands ors) arrow
  imp_read {d = suc d} {from = from} {to = to} (grammar.arrow {mid = mid} {f = f} {g = g} h k) ands ors arrow =
      level_arrow d from mid to f g (or_read h refl refl) (imp_read k ands ors arrow)

  or_read : {d : ℕ} {from to : List Token} {f : Formula} → Or d from to f → behind operator.And to ≡ None → behind operator.Or to ≡ None → premise_at d from ≡ Some (f, to)
  or_read {d = d} {from = from} {to = to} (grammar.ands {fs = fs} h) ands ors = many_joined operator.Or (joined operator.And (level d).not) from to fs (ands_many h ands) ors

  ands_many : {d : ℕ} {from to : List Token} {fs : List Formula} → Ands d from to fs → behind operator.And to ≡ None → Many operator.Or (joined operator.And (level d).not) from to fs
  ands_many {d = d} {from = from} {to = to} (grammar.one_and {f = f} h) ands = one from to f (and_read h ands)
  ands_many {d = d} {from = from} {to = to} (grammar.more_ands {mid = mid} {f = f} {fs = fs} h k) ands =
      more from mid to f fs (and_read h refl) (and_falls h) (ands_many k ands)

  and_read : {d : ℕ} {from to : List Token} {f : Formula} → And d from to f → behind operator.And to ≡ None → joined operator.And (level d).not from ≡ Some (f, to)
  and_read {d = d} {from = from} {to = to} (grammar.nots {fs = fs} h) ands = many_joined operator.And (level d).not from to fs (nots_many h) ands

  nots_many : {d : ℕ} {from to : List Token} {fs : List Formula} → Nots d from to fs → Many operator.And (level d).not from to fs
  nots_many {d = d} {from = from} {to = to} (grammar.one_not {f = f} h) = one from to f (not_read h)
  nots_many {d = d} {from = from} {to = to} (grammar.more_nots {mid = mid} {f = f} {fs = fs} h k) = more from mid to f fs (not_read h) (not_falls h) (nots_many k)

  not_read : {d : ℕ} {from to : List Token} {f : Formula} → Not d from to f → (level d).not from ≡ Some (f, to)
  not_read {d = suc d} {to = to} (grammar.mark {from = from} {f = f} h) = level_mark d from to f (not_read h)
  not_read {d = suc d} {to = to} (grammar.parentheses {from = from} {f = f} h) = level_parentheses d from to f (imp_read h refl refl refl)
  not_read {d = d} {to = to} (grammar.name {option = n}) = level_name d n to
  not_read {d = d} {to = to} grammar.yes = level_true d to
  not_read {d = d} {to = to} grammar.no = level_false d to

-- a rule of the grammar is what is read
pub rule_read : (ts : List Token) (rule : Formula) → IsRule ts rule → parsed ts ≡ Some rule
unfolding parsed
rule_read ts rule h = rw (imp_read h refl refl refl) refl
