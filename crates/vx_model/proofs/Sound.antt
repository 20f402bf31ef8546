-- What is read from tokens is in the grammar.
use Rattle.std.proofs.Common.{◌≡◌, ℕ, zero, suc, List, [], ◌∷◌, length, refl, sym, ap, ◌∙◌, subst, Option, Some, None}
use Rattle.std.proofs.lemmas.Option.{same_Some}
use Rattle.vx_model.specs.Formula.{Formula}
use Rattle.vx_model.specs.Formula as tree
use Rattle.vx_model.specs.Grammar.{Imp, Or, Ands, And, Nots, Not, IsRule}
use Rattle.vx_model.specs.Grammar as grammar
use Rattle.vx_model.specs.Parser.{Reads, ◌>>=◌, if_some, behind, behind_arrow, whole, further, joined, atom, closed, Level, not_over, arrow_over, imp_over, lowest, level, of_all, parsed}
use Rattle.vx_model.specs.declared.token.Token.{Token}
use Rattle.vx_model.specs.declared.token.Token.TheVariants as token
use Rattle.vx_model.specs.declared.rule.Operator.{Operator}
use Rattle.vx_model.specs.declared.rule.Operator.TheVariants as operator

-- the steps of what was read
pub bind_some : {A B : Type 0} (r : Option A) (f : A → Option B) (y : B) → (r >>= f) ≡ Some y → (x : A) × ((r ≡ Some x) × (f x ≡ Some y))
bind_some None f y e = cc
bind_some (Some x) f y e = (x, (refl, e))

some_pair : {A : Type 0} (P : A → List Token → Type 0) (x y : A × List Token) → Some x ≡ Some y → P x.0 x.1 → P y.0 y.1
some_pair P x y e h = let same : x ≡ y = cc e in subst (λ z. P z.0 z.1) same h

-- the token of an operator
abbrev pub mark : Operator → Token
mark operator.And = token.And
mark operator.Or = token.Or

behind_is : (o : Operator) (from mid : List Token) → behind o from ≡ Some mid → from ≡ mark o ∷ mid
behind_is operator.And [] mid e = cc
behind_is operator.And (token.And ∷ rest) mid e = let same : rest ≡ mid = cc e in ap (λ ts. token.And ∷ ts) same
behind_is operator.And (token.Not ∷ rest) mid e = cc
behind_is operator.And (token.Open ∷ rest) mid e = cc
behind_is operator.And (token.Close ∷ rest) mid e = cc
behind_is operator.And (token.Or ∷ rest) mid e = cc
behind_is operator.And (token.Arrow ∷ rest) mid e = cc
behind_is operator.And (token.True ∷ rest) mid e = cc
behind_is operator.And (token.False ∷ rest) mid e = cc
behind_is operator.And (token.Name n ∷ rest) mid e = cc
behind_is operator.And (token.Other ∷ rest) mid e = cc
behind_is operator.Or [] mid e = cc
behind_is operator.Or (token.Or ∷ rest) mid e = let same : rest ≡ mid = cc e in ap (λ ts. token.Or ∷ ts) same
behind_is operator.Or (token.Not ∷ rest) mid e = cc
behind_is operator.Or (token.Open ∷ rest) mid e = cc
behind_is operator.Or (token.Close ∷ rest) mid e = cc
behind_is operator.Or (token.And ∷ rest) mid e = cc
behind_is operator.Or (token.Arrow ∷ rest) mid e = cc
behind_is operator.Or (token.True ∷ rest) mid e = cc
behind_is operator.Or (token.False ∷ rest) mid e = cc
behind_is operator.Or (token.Name n ∷ rest) mid e = cc
behind_is operator.Or (token.Other ∷ rest) mid e = cc

arrow_is : (from mid : List Token) → behind_arrow from ≡ Some mid → from ≡ token.Arrow ∷ mid
arrow_is [] mid e = cc
arrow_is (token.Arrow ∷ rest) mid e = let same : rest ≡ mid = cc e in ap (λ ts. token.Arrow ∷ ts) same
arrow_is (token.Not ∷ rest) mid e = cc
arrow_is (token.Open ∷ rest) mid e = cc
arrow_is (token.Close ∷ rest) mid e = cc
arrow_is (token.And ∷ rest) mid e = cc
arrow_is (token.Or ∷ rest) mid e = cc
arrow_is (token.True ∷ rest) mid e = cc
arrow_is (token.False ∷ rest) mid e = cc
arrow_is (token.Name n ∷ rest) mid e = cc
arrow_is (token.Other ∷ rest) mid e = cc

-- a part and further ones, or none
abbrev next_parts : Operator → (List Token → Reads Formula) → ℕ → List Token → Reads (List Formula)
next_parts o p n mid = p mid >>= λ x. further o p n x.1 >>= λ y. Some (x.0 ∷ y.0, y.1)

abbrev no_parts : List Token → Reads (List Formula)
no_parts from = Some ([], from)

abbrev conclusion : (List Token → Reads Formula) → Formula → List Token → Reads Formula
conclusion imp f after = imp after >>= λ x. Some (tree.Implies f x.0, x.1)

abbrev premise_alone : Formula → List Token → Reads Formula
premise_alone f rest = Some (f, rest)

-- parts with an operator between them
first_further : (o : Operator) (p : List Token → Reads Formula) (from : List Token) → further o p zero from ≡ Some ([], from)
unfolding further
first_further o p from = refl

next_further : (o : Operator) (p : List Token → Reads Formula) (n : ℕ) (from : List Token) → further o p (suc n) from
    ≡ if_some (behind o from) (next_parts o p n) (no_parts from)
unfolding further
next_further o p n from = refl

more_sound : (o : Operator) (p : List Token → Reads Formula) (P : List Token → List Token → Formula → Type 0) (Q : List Token → List Token → List Formula → Type 0)
    → ((from to : List Token) (f : Formula) → P from to f → Q from to (f ∷ []))
    → ((from mid to : List Token) (f : Formula) (fs : List Formula) → P from (mark o ∷ mid) f → Q mid to fs → Q from to (f ∷ fs))
    → ((from to : List Token) (f : Formula) → p from ≡ Some (f, to) → P from to f)
    → (n : ℕ) → ((start from to : List Token) (f : Formula) (fs : List Formula) → P start from f → further o p n from ≡ Some (fs, to) → Q start to (f ∷ fs))
    → (start from to : List Token) (f : Formula) (fs : List Formula) → P start from f → (found : Option (List Token)) → behind o from ≡ found
    → if_some found (next_parts o p n) (no_parts from) ≡ Some (fs, to) → Q start to (f ∷ fs)
more_sound o p P Q one more part n again start from to f fs h None is e =
    some_pair (λ gs end. Q start end (f ∷ gs)) ([], from) (fs, to) e (one start from f h)
more_sound o p P Q one more part n again start from to f fs h (Some mid) is e =
    let x = bind_some (p mid) (λ x. further o p n x.1 >>= λ y. Some (x.0 ∷ y.0, y.1)) (fs, to) e in
    let y = bind_some (further o p n x.0.1) (λ y. Some (x.0.0 ∷ y.0, y.1)) (fs, to) x.1.1 in
    let inner = again mid x.0.1 y.0.1 x.0.0 y.0.0 (part mid x.0.1 x.0.0 x.1.0) y.1.0 in
    some_pair (λ gs end. Q start end (f ∷ gs)) (x.0.0 ∷ y.0.0, y.0.1) (fs, to) y.1.1
    (more start mid y.0.1 f (x.0.0 ∷ y.0.0) (subst (λ ts. P start ts f) (behind_is o from mid is) h) inner)

rest_sound : (o : Operator) (p : List Token → Reads Formula) (P : List Token → List Token → Formula → Type 0) (Q : List Token → List Token → List Formula → Type 0)
    → ((from to : List Token) (f : Formula) → P from to f → Q from to (f ∷ []))
    → ((from mid to : List Token) (f : Formula) (fs : List Formula) → P from (mark o ∷ mid) f → Q mid to fs → Q from to (f ∷ fs))
    → ((from to : List Token) (f : Formula) → p from ≡ Some (f, to) → P from to f)
    → (n : ℕ) (start from to : List Token) (f : Formula) (fs : List Formula) → P start from f → further o p n from ≡ Some (fs, to) → Q start to (f ∷ fs)
rest_sound o p P Q one more part zero start from to f fs h e = some_pair (λ gs end. Q start end (f ∷ gs)) ([], from) (fs, to) (sym (first_further o p from) ∙ e) (one start from f h)
rest_sound o p P Q one more part (suc n) start from to f fs h e =
    more_sound o p P Q one more part n (rest_sound o p P Q one more part n) start from to f fs h (behind o from) refl (sym (next_further o p n from) ∙ e)

joined_is : (o : Operator) (p : List Token → Reads Formula) (from : List Token)
    → joined o p from ≡ (p from >>= λ x. further o p (length x.1) x.1 >>= λ y. Some (whole o (x.0 ∷ y.0), y.1))
unfolding joined
joined_is o p from = refl

joined_sound : (o : Operator) (p : List Token → Reads Formula) (P : List Token → List Token → Formula → Type 0) (Q : List Token → List Token → List Formula → Type 0)
    → ((from to : List Token) (f : Formula) → P from to f → Q from to (f ∷ []))
    → ((from mid to : List Token) (f : Formula) (fs : List Formula) → P from (mark o ∷ mid) f → Q mid to fs → Q from to (f ∷ fs))
    → ((from to : List Token) (f : Formula) → p from ≡ Some (f, to) → P from to f)
    → (from to : List Token) (f : Formula) → joined o p from ≡ Some (f, to) → (fs : List Formula) × Q from to fs × (f ≡ whole o fs)
joined_sound o p P Q one more part from to f e =
    let x = bind_some (p from) (λ x. further o p (length x.1) x.1 >>= λ y. Some (whole o (x.0 ∷ y.0), y.1)) (f, to) (sym (joined_is o p from) ∙ e) in
    let y = bind_some (further o p (length x.0.1) x.0.1) (λ y. Some (whole o (x.0.0 ∷ y.0), y.1)) (f, to) x.1.1 in
    let read = rest_sound o p P Q one more part (length x.0.1) from x.0.1 y.0.1 x.0.0 y.0.0 (part from x.0.1 x.0.0 x.1.0) y.1.0 in
    some_pair (λ g end. (fs : List Formula) × Q from end fs × (g ≡ whole o fs)) (whole o (x.0.0 ∷ y.0.0), y.0.1) (f, to) y.1.1 (x.0.0 ∷ y.0.0, read, refl)

and_sound : (d : ℕ) (p : List Token → Reads Formula) → ((from to : List Token) (f : Formula) → p from ≡ Some (f, to) → Not d from to f)
    → (from to : List Token) (f : Formula) → joined operator.And p from ≡ Some (f, to) → And d from to f
and_sound d p part from to f e =
    let read = joined_sound operator.And p (Not d) (Nots d) (λ from to f h. grammar.one_not h) (λ from mid to f fs h k. grammar.more_nots h k) part from to f e in
    subst (And d from to) (sym read.2) (grammar.nots read.1)

or_sound : (d : ℕ) (p : List Token → Reads Formula) → ((from to : List Token) (f : Formula) → p from ≡ Some (f, to) → And d from to f)
    → (from to : List Token) (f : Formula) → joined operator.Or p from ≡ Some (f, to) → Or d from to f
or_sound d p part from to f e =
    let read = joined_sound operator.Or p (And d) (Ands d) (λ from to f h. grammar.one_and h) (λ from mid to f fs h k. grammar.more_ands h k) part from to f e in
    subst (Or d from to) (sym read.2) (grammar.ands read.1)

-- what a level reads is in the grammar
pub record IsSound (d : ℕ) (l : Level) : Type 0 where
  pub not : (from to : List Token) (f : Formula) → l.not from ≡ Some (f, to) → Not d from to f
  pub imp : (from to : List Token) (f : Formula) → l.imp from ≡ Some (f, to) → Imp d from to f

atom_sound : (d : ℕ) (from to : List Token) (f : Formula) → atom from ≡ Some (f, to) → Not d from to f
atom_sound d [] to f e = cc
atom_sound d (token.Name n ∷ rest) to f e = some_pair (λ g end. Not d (token.Name n ∷ rest) end g) (tree.Named n, rest) (f, to) e grammar.name
atom_sound d (token.True ∷ rest) to f e = some_pair (λ g end. Not d (token.True ∷ rest) end g) (tree.Always, rest) (f, to) e grammar.yes
atom_sound d (token.False ∷ rest) to f e = some_pair (λ g end. Not d (token.False ∷ rest) end g) (tree.Never, rest) (f, to) e grammar.no
atom_sound d (token.Not ∷ rest) to f e = cc
atom_sound d (token.Open ∷ rest) to f e = cc
atom_sound d (token.Close ∷ rest) to f e = cc
atom_sound d (token.And ∷ rest) to f e = cc
atom_sound d (token.Or ∷ rest) to f e = cc
atom_sound d (token.Arrow ∷ rest) to f e = cc
atom_sound d (token.Other ∷ rest) to f e = cc

closed_is : (f g : Formula) (from to : List Token) → closed f from ≡ Some (g, to) → (f ≡ g) × (from ≡ token.Close ∷ to)
closed_is f g [] to e = cc
closed_is f g (token.Close ∷ rest) to e = let same = same_Some (f, rest) (g, to) e in (ap (λ x. x.0) same, ap (λ x. token.Close ∷ x.1) same)
closed_is f g (token.Not ∷ rest) to e = cc
closed_is f g (token.Open ∷ rest) to e = cc
closed_is f g (token.And ∷ rest) to e = cc
closed_is f g (token.Or ∷ rest) to e = cc
closed_is f g (token.Arrow ∷ rest) to e = cc
closed_is f g (token.True ∷ rest) to e = cc
closed_is f g (token.False ∷ rest) to e = cc
closed_is f g (token.Name n ∷ rest) to e = cc
closed_is f g (token.Other ∷ rest) to e = cc

not_sound : (d : ℕ) (below : Level) → IsSound d below → (from to : List Token) (f : Formula) → not_over below from ≡ Some (f, to) → Not (suc d) from to f
not_sound d below h (token.Not ∷ rest) to f e =
    let x = bind_some (below.not rest) (λ x. Some (tree.Not x.0, x.1)) (f, to) e in
    some_pair (λ g end. Not (suc d) (token.Not ∷ rest) end g) (tree.Not x.0.0, x.0.1) (f, to) x.1.1 (grammar.mark (h.not rest x.0.1 x.0.0 x.1.0))
not_sound d below h (token.Open ∷ rest) to f e =
    let x = bind_some (below.imp rest) (λ x. closed x.0 x.1) (f, to) e in
    let end = closed_is x.0.0 f x.0.1 to x.1.1 in
    subst (Not (suc d) (token.Open ∷ rest) to) end.0 (grammar.parentheses (subst (λ ts. Imp d rest ts x.0.0) end.1 (h.imp rest x.0.1 x.0.0 x.1.0)))
not_sound d below h [] to f e = cc
not_sound d below h (token.Name n ∷ rest) to f e = atom_sound (suc d) (token.Name n ∷ rest) to f e
not_sound d below h (token.True ∷ rest) to f e = atom_sound (suc d) (token.True ∷ rest) to f e
not_sound d below h (token.False ∷ rest) to f e = atom_sound (suc d) (token.False ∷ rest) to f e
not_sound d below h (token.Close ∷ rest) to f e = cc
not_sound d below h (token.And ∷ rest) to f e = cc
not_sound d below h (token.Or ∷ rest) to f e = cc
not_sound d below h (token.Arrow ∷ rest) to f e = cc
not_sound d below h (token.Other ∷ rest) to f e = cc

arrow_case : (d : ℕ) (imp : List Token → Reads Formula) → ((from to : List Token) (f : Formula) → imp from ≡ Some (f, to) → Imp d from to f)
    → (from rest to : List Token) (f g : Formula) → Or (suc d) from rest f → (found : Option (List Token)) → behind_arrow rest ≡ found
    → if_some found (conclusion imp f) (premise_alone f rest) ≡ Some (g, to) → Imp (suc d) from to g
arrow_case d imp sound from rest to f g h None is e = some_pair (λ k end. Imp (suc d) from end k) (f, rest) (g, to) e (grammar.or h)
arrow_case d imp sound from rest to f g h (Some after) is e =
    let x = bind_some (imp after) (λ x. Some (tree.Implies f x.0, x.1)) (g, to) e in
    some_pair (λ k end. Imp (suc d) from end k) (tree.Implies f x.0.0, x.0.1) (g, to) x.1.1
    (grammar.arrow (subst (λ ts. Or (suc d) from ts f) (arrow_is rest after is) h) (sound after x.0.1 x.0.0 x.1.0))

imp_sound : (d : ℕ) (below : Level) → IsSound d below → (from to : List Token) (f : Formula) → imp_over (not_over below) below.imp from ≡ Some (f, to) → Imp (suc d) from to f
imp_sound d below h from to f e =
    let x = bind_some (joined operator.Or (joined operator.And (not_over below)) from) (λ x. arrow_over below.imp x.0 x.1) (f, to) e in
    let premise = or_sound (suc d) (joined operator.And (not_over below)) (and_sound (suc d) (not_over below) (not_sound d below h)) from x.0.1 x.0.0 x.1.0 in
    arrow_case d below.imp h.imp from x.0.1 to x.0.0 f premise (behind_arrow x.0.1) refl x.1.1

lowest_case : (from rest to : List Token) (f g : Formula) → Or zero from rest f → (found : Option (List Token))
    → if_some found (conclusion (λ ts. None) f) (premise_alone f rest) ≡ Some (g, to) → Imp zero from to g
lowest_case from rest to f g h None e = some_pair (λ k end. Imp zero from end k) (f, rest) (g, to) e (grammar.or h)
lowest_case from rest to f g h (Some after) e = cc

lowest_sound : IsSound zero lowest
lowest_sound = record {
  not = atom_sound zero;
  imp = λ from to f e.
      let x = bind_some (joined operator.Or (joined operator.And atom) from) (λ x. arrow_over (λ ts. None) x.0 x.1) (f, to) e in
      let premise = or_sound zero (joined operator.And atom) (and_sound zero atom (atom_sound zero)) from x.0.1 x.0.0 x.1.0 in
      lowest_case from x.0.1 to x.0.0 f premise (behind_arrow x.0.1) x.1.1;
}

pub level_sound : (d : ℕ) → IsSound d (level d)
unfolding level
level_sound zero = lowest_sound
level_sound (suc d) = record { not = not_sound d (level d) (level_sound d); imp = imp_sound d (level d) (level_sound d) }

of_all_is : (f g : Formula) (ts : List Token) → of_all f ts ≡ Some g → (f ≡ g) × (ts ≡ [])
of_all_is f g [] e = (cc e, refl)
of_all_is f g (t ∷ ts) e = cc

-- what is read is a rule of the grammar
pub rule_sound : (ts : List Token) (rule : Formula) → parsed ts ≡ Some rule → IsRule ts rule
unfolding parsed
rule_sound ts rule e =
    let x = bind_some ((level 256).imp ts) (λ x. of_all x.0 x.1) rule e in
    let end = of_all_is x.0.0 rule x.0.1 x.1.1 in
    subst (λ f. Imp 256 ts [] f) end.0 (subst (λ us. Imp 256 ts us x.0.0) end.1 ((level_sound 256).imp ts x.0.1 x.0.0 x.1.0))
