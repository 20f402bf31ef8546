-- Rules between two sets: of terms, and of the terms of the complement; and that the least of the candidates is one of them.
use Rattle.std.proofs.Common.{◌≡◌, ℕ, suc, ◌+◌, ◌<◌, ◌≤◌, Bool, true, false, List, [], ◌∷◌, ◌++◌, length, map, refl, sym, ◌∙◌, ap, subst, arith}
use Rattle.std.specs.Prelude.{◌&&◌, ◌||◌, not, Option, Some, None, IfSome, nat_eq, nat_le, option_map, if◌then◌else◌}
use Rattle.std.specs.List.{AllByRecursion}
use Rattle.std.proofs.lemmas.Bool.Decides.{nat_tests}
use Rattle.std.proofs.lemmas.List.{length-map}
use Rattle.vx_space.specs.Sets.{Sets, IsLawful, IsSet, Extends}
use Rattle.vx_space.proofs.Spaces.{Extends-trans}
use Rattle.vx_explain.specs.declared.literal.Literal.{Literal}
use Rattle.vx_explain.specs.declared.rule.Rule.{Rule}
use Rattle.vx_explain.specs.declared.rule.Rule.TheVariants.{AnyOf, NoneOf}
use Rattle.vx_explain.specs.Between.{IsWithin, if_few, terms_between}
use Rattle.vx_explain.specs.Candidates.{is_less, least_rule, least_with, lesser, made}
use Rattle.vx_explain.specs.Literals.{first_literals, literals_first, terms_behind}
use Rattle.vx_explain.specs.Rules.{AreOf, literal_holds, none_by, none_of, only, opposite, opposites, rule_holds, some_term_holds, term_holds, terms_in, those}
use Rattle.vx_explain.specs.Scopes.{IsRuleWithin, rule_within}
use Rattle.vx_explain.proofs.FirstLiterals.{first_terms_later, literals_first_named, literals_lie, no_literals}
use Rattle.vx_explain.proofs.Sums.{AsksFrom, LiesBetween, lies_between, named}
use Rattle.vx_explain.proofs.Truths.{formula_true, opposite_holds}

-- ---- terms that don't hold

-- a rule of few terms, over the same options, is that none of some terms holds
record IsDenial (terms : List (List Literal)) (rule : Rule) : Type 0 where
  few : length (terms_in rule) ≤ 32
  named : (options : ℕ) → AreOf options terms → AreOf options (terms_in rule)
  holds : (c : List Bool) → rule_holds rule c ≡ not (some_term_holds terms c)

-- one of the opposites of a term's literals holds where the term doesn't
opposites_hold : (term : List Literal) (c : List Bool) → some_term_holds (opposites term) c ≡ not (term_holds term c)
opposites_hold [] c = refl
opposites_hold (l ∷ ls) c = ap (λ b. (b && true) || some_term_holds (opposites ls) c) (opposite_holds l c) ∙ by (literal_holds l c) (opposites_hold ls c)
  where
    by : (b : Bool) → some_term_holds (opposites ls) c ≡ not (term_holds ls c) → ((not b && true) || some_term_holds (opposites ls) c) ≡ not (b && term_holds ls c)
    by true rest = rest
    by false rest = refl

opposites_named : (options : ℕ) (term : List Literal) → AllByRecursion (λ (l : Literal). l.option < options) term → AreOf options (opposites term)
opposites_named options [] h = tt
opposites_named options (l ∷ ls) h = ((h.0, tt), opposites_named options ls h.1)

or_false : (b : Bool) → (b || false) ≡ b
or_false true = refl
or_false false = refl

IsDenial-any : (term : List Literal) → length term ≤ 32 → IsDenial (term ∷ []) (AnyOf (opposites term))
IsDenial-any term m = record {
  few = (let size : length (opposites term) ≡ length term = length-map term (λ l. opposite l ∷ []) in omega (arith, m, size));
  named = λ options n. opposites_named options term n.0;
  holds = λ c. opposites_hold term c ∙ ap not (sym (or_false (term_holds term c)));
}

-- terms of one literal before the others
some_behind : (xs ys : List (List Literal)) (t : List Literal) (c : List Bool) → some_term_holds (xs ++ t ∷ ys) c ≡ (term_holds t c || some_term_holds (xs ++ ys) c)
some_behind [] ys t c = refl
some_behind (x ∷ xs) ys t c = ap (λ b. term_holds x c || b) (some_behind xs ys t c) ∙ exchanged (term_holds x c) (term_holds t c)
  where
    exchanged : (a b : Bool) → (a || (b || some_term_holds (xs ++ ys) c)) ≡ (b || (a || some_term_holds (xs ++ ys) c))
    exchanged true true = refl
    exchanged true false = refl
    exchanged false true = refl
    exchanged false false = refl

length_behind : (xs ys : List (List Literal)) (t : List Literal) → length (xs ++ t ∷ ys) ≡ suc (length (xs ++ ys))
length_behind [] ys t = refl
length_behind (x ∷ xs) ys t = ap suc (length_behind xs ys t)

-- the same terms in another order
record IsReordered (terms ordered : List (List Literal)) : Type 0 where
  count : length ordered ≡ length terms
  holds : (c : List Bool) → some_term_holds ordered c ≡ some_term_holds terms c

reordered : (terms : List (List Literal)) → IsReordered terms (those true terms ++ those false terms)
reordered [] = record { count = refl; holds = λ c. refl }
reordered (t ∷ ts) = by (nat_eq (length t) 1) (reordered ts)
  where
    by : (b : Bool) → IsReordered ts (those true ts ++ those false ts) → IsReordered (t ∷ ts) (((if b then t ∷ [] else []) ++ those true ts) ++ ((if not b then t ∷ [] else []) ++ those false ts))
    by true rest = record { count = ap suc rest.count; holds = λ c. ap (λ some. term_holds t c || some) (rest.holds c) }
    by false rest = record {
      count = length_behind (those true ts) (those false ts) t ∙ ap suc rest.count;
      holds = λ c. some_behind (those true ts) (those false ts) t c ∙ ap (λ some. term_holds t c || some) (rest.holds c);
    }

named_both : (options : ℕ) (xs ys : List (List Literal)) → AreOf options xs → AreOf options ys → AreOf options (xs ++ ys)
named_both options [] ys h k = k
named_both options (x ∷ xs) ys h k = (h.0, named_both options xs ys h.1 k)

named_those : (options : ℕ) (single : Bool) (terms : List (List Literal)) → AreOf options terms → AreOf options (those single terms)
named_those options single [] h = tt
named_those options single (t ∷ ts) h = by (if single then nat_eq (length t) 1 else not (nat_eq (length t) 1)) (named_those options single ts h.1)
  where
    by : (b : Bool) → AreOf options (those single ts) → AreOf options ((if b then t ∷ [] else []) ++ those single ts)
    by true rest = (h.0, rest)
    by false rest = rest

IsDenial-none : (terms : List (List Literal)) → length terms ≤ 32 → IsDenial terms (NoneOf (those true terms ++ those false terms))
IsDenial-none terms few = record {
  few = (let count = (reordered terms).count in omega (arith, few, count));
  named = λ options n. named_both options (those true terms) (those false terms) (named_those options true terms n) (named_those options false terms n);
  holds = λ c. ap not ((reordered terms).holds c);
}

denial_of : (terms : List (List Literal)) → length terms ≤ 32 → IsDenial terms (none_of terms)
denial_of [] few = IsDenial-none [] few
denial_of (t ∷ u ∷ ts) few = IsDenial-none (t ∷ u ∷ ts) few
denial_of (t ∷ []) few = by (nat_le (length t) 32) refl
  where
    by : (b : Bool) → nat_le (length t) 32 ≡ b → IsDenial (t ∷ []) (if b then AnyOf (opposites t) else NoneOf (those true (t ∷ []) ++ those false (t ∷ [])))
    by true e = IsDenial-any t (grind (arith, nat_tests))
    by false e = IsDenial-none (t ∷ []) few

-- ---- rules

-- a rule of few terms over so many options is true at least in one set and at most in another
record IsBetween (options : ℕ) (least most : List Bool → Bool) (rule : Rule) : Type 0 where
  few : length (terms_in rule) ≤ 32
  named : AreOf options (terms_in rule)
  above : (c : List Bool) → least c ≡ true → rule_holds rule c ≡ true
  below : (c : List Bool) → rule_holds rule c ≡ true → most c ≡ true

-- terms that lie between, of so many options
record AreTerms (options : ℕ) (least most : List Bool → Bool) (terms : List (List Literal)) : Type 0 where
  named : AreOf options terms
  lie : LiesBetween least most (some_term_holds terms)

any_is : (options : ℕ) (least most : List Bool → Bool) (terms : List (List Literal)) → AreTerms options least most terms → IfSome (option_map AnyOf (if_few terms)) (IsBetween options least most)
any_is options least most terms h = by (nat_le (length terms) 32) refl
  where
    by : (t : Bool) → nat_le (length terms) 32 ≡ t → IfSome (option_map AnyOf (if t then Some terms else None)) (IsBetween options least most)
    by true e = record { few = grind (arith, nat_tests); named = h.named; above = h.lie.above; below = h.lie.below }
    by false e = tt

none_is : (options : ℕ) (least most : List Bool → Bool) (terms : List (List Literal)) → AreTerms options (λ c. not (most c)) (λ c. not (least c)) terms → IfSome (option_map none_of (if_few terms)) (IsBetween options least most)
none_is options least most terms h = by (nat_le (length terms) 32) refl
  where
    over : (some l : Bool) → (some ≡ true → not l ≡ true) → l ≡ true → not some ≡ true
    over true true f e = f refl
    over true false f e = cc (e)
    over false l f e = refl

    under : (some m : Bool) → (not m ≡ true → some ≡ true) → not some ≡ true → m ≡ true
    under some true f e = refl
    under true false f e = cc (e)
    under false false f e = f refl

    by : (t : Bool) → nat_le (length terms) 32 ≡ t → IfSome (option_map none_of (if t then Some terms else None)) (IsBetween options least most)
    by true e =
        let small : length terms ≤ 32 = grind (arith, nat_tests) in
        let d = denial_of terms small in
        record {
          few = d.few;
          named = d.named options h.named;
          above = λ c t. d.holds c ∙ over (some_term_holds terms c) (least c) (h.lie.below c) t;
          below = λ c t. under (some_term_holds terms c) (most c) (h.lie.above c) (sym (d.holds c) ∙ t);
        }
    by false e = tt

-- terms for the set, or for its complement
abbrev AreTermsFor : Bool → ℕ → (List Bool → Bool) → (List Bool → Bool) → List (List Literal) → Type 0
AreTermsFor true options least most terms = AreTerms options (λ c. not (most c)) (λ c. not (least c)) terms
AreTermsFor false options least most terms = AreTerms options least most terms

made_is : (denies : Bool) (options : ℕ) (least most : List Bool → Bool) (terms : List (List Literal)) → AreTermsFor denies options least most terms → IfSome (made denies (if_few terms)) (IsBetween options least most)
made_is true options least most terms h = none_is options least most terms h
made_is false options least most terms h = any_is options least most terms h

lesser_is : (P : Rule → Type 0) (one other : Option Rule) → IfSome one P → IfSome other P → IfSome (lesser one other) P
lesser_is P None other p q = q
lesser_is P (Some one) None p q = p
lesser_is P (Some one) (Some other) p q = by (is_less other one)
  where
    by : (t : Bool) → IfSome (if t then Some other else Some one) P
    by true = q
    by false = p

turned : (l m : Bool) → (l ≡ true → m ≡ true) → not m ≡ true → not l ≡ true
turned true true f e = e
turned true false f e = f refl
turned false m f e = refl

-- the terms of both ways lie between
recursion_lies : (options : ℕ) (least most : List Bool → Bool) → AsksFrom 0 options least → AsksFrom 0 options most → ((c : List Bool) → least c ≡ true → most c ≡ true) → AreTerms options least most (terms_between options 0 least most)
recursion_lies options least most a b w = record { named = named options least most; lie = lies_between options 0 least most a b w }

firsts_lie : (options : ℕ) (least most : List Bool → Bool) → AsksFrom 0 options least → AsksFrom 0 options most → ((c : List Bool) → least c ≡ true → most c ≡ true) → AreTerms options least most (literals_first options least most)
firsts_lie options least most a b w = record { named = literals_first_named options least most; lie = literals_lie options least most a b w }

least_is : (options : ℕ) (least most : List Bool → Bool) → AsksFrom 0 options least → AsksFrom 0 options most → ((c : List Bool) → least c ≡ true → most c ≡ true) → IfSome (least_rule options least most) (IsBetween options least most)
unfolding least_rule
least_is options least most a b h =
    let P : Rule → Type 0 = IsBetween options least most in
    let below : List Bool → Bool = λ c. not (most c) in
    let above : List Bool → Bool = λ c. not (least c) in
    let na : AsksFrom 0 options above = λ c d e. ap not (a c d e) in
    let nb : AsksFrom 0 options below = λ c d e. ap not (b c d e) in
    let w : (c : List Bool) → below c ≡ true → above c ≡ true = λ c. turned (least c) (most c) (h c) in
    let one = made false (if_few (terms_between options 0 least most)) in
    let two = made false (if_few (literals_first options least most)) in
    let three = made true (if_few (terms_between options 0 below above)) in
    let four = made true (if_few (literals_first options below above)) in
    let first : IfSome one P = made_is false options least most (terms_between options 0 least most) (recursion_lies options least most a b h) in
    let second : IfSome two P = made_is false options least most (literals_first options least most) (firsts_lie options least most a b h) in
    let third : IfSome three P = made_is true options least most (terms_between options 0 below above) (recursion_lies options below above nb na w) in
    let fourth : IfSome four P = made_is true options least most (literals_first options below above) (firsts_lie options below above nb na w) in
    let both = lesser_is P (lesser None one) two first second in
    lesser_is P (lesser (lesser (lesser None one) two) three) four (lesser_is P (lesser (lesser None one) two) three both third) fourth

-- the rule of a set within a scope is true just where the set holds, among the configurations of the scope
pub rule_is : (options : ℕ) (set scope : List Bool → Bool) → AsksFrom 0 options set → AsksFrom 0 options scope → IfSome (rule_within options set scope) (IsRuleWithin options set scope)
rule_is options set scope a b = by (rule_within options set scope) (least_is options (λ c. set c && scope c) (λ c. set c || not (scope c)) (λ c d h i. a c d h i && b c d h i) (λ c d h i. a c d h i || not (b c d h i)) (λ c. within (set c) (scope c)))
  where
    within : (p q : Bool) → (p && q) ≡ true → (p || not q) ≡ true
    within true q t = refl
    within false q t = cc (t)

    agree : (p q some : Bool) → q ≡ true → ((p && q) ≡ true → some ≡ true) → (some ≡ true → (p || not q) ≡ true) → some ≡ p
    agree true true some e f g = f refl
    agree false true true e f g = let wrong = g refl in cc (wrong)
    agree false true false e f g = refl
    agree p false some e f g = cc (e)

    by : (found : Option Rule) → IfSome found (IsBetween options (λ c. set c && scope c) (λ c. set c || not (scope c))) → IfSome found (IsRuleWithin options set scope)
    by None h = tt
    by (Some rule) h = record {
      few = h.few;
      named = h.named;
      is_true = λ c t. formula_true rule c ∙ agree (set c) (scope c) (rule_holds rule c) t (h.above c) (h.below c);
    }

-- ---- in later spaces

-- all outside of a set
pub complement_of : {I : Type 0} {s s' : Sets I} → IsLawful s → (set id : I) → IsSet s' id (λ c. s.test s.always c && not (s.test set c)) → IsSet s' id (λ c. not (s.test set c))
complement_of {I} {s} lawful set id h = record { known = h.known; test = λ c. h.test c ∙ ap (λ v. v && not (s.test set c)) (lawful.always_test c) }

-- the least and the greatest set of the complement
pub complement_within : {I : Type 0} {s0 s1 s2 : Sets I} → Extends s0 s1 → Extends s1 s2 → (least most below above : I) → s0.is_known least ≡ true → IsWithin s0 least most → IsSet s1 below (λ c. not (s0.test most c)) → IsSet s2 above (λ c. not (s1.test least c)) → IsWithin s2 below above
complement_within {I} {s0} {s1} {s2} x y least most below above kl w b a c t =
    let there : not (s0.test most c) ≡ true = sym (y.test below c b.known ∙ b.test c) ∙ t in
    a.test c ∙ ap not (x.test least c kl) ∙ by (s0.test least c) (s0.test most c) (w c) there
  where
    by : (l m : Bool) → (l ≡ true → m ≡ true) → not m ≡ true → not l ≡ true
    by true true f e = e
    by true false f e = f refl
    by false m f e = refl

-- a rule that is met again changes nothing
pub lesser_twice : (best rule : Option Rule) → lesser (lesser best rule) rule ≡ lesser best rule
lesser_twice None None = refl
lesser_twice (Some one) None = refl
lesser_twice None (Some other) = by (is_less other other)
  where
    by : (t : Bool) → (if t then Some other else Some other) ≡ Some other
    by true = refl
    by false = refl
lesser_twice (Some one) (Some other) = by (is_less other one) refl
  where
    same : (t : Bool) → (if t then Some other else Some other) ≡ Some other
    same true = refl
    same false = refl

    by : (t : Bool) → is_less other one ≡ t → lesser (if t then Some other else Some one) (Some other) ≡ (if t then Some other else Some one)
    by true e = same (is_less other other)
    by false e = ap (λ b. if b then Some other else Some one) e

-- where no literal stands first the recursion alone gives the same
pub none_first : {I : Type 0} {s0 s1 : Sets I} → Extends s0 s1 → (denies : Bool) (least most : I) (best now : Option Rule) (terms : Option (List (List Literal))) (literals : List Literal) → s0.is_known least ≡ true → s0.is_known most ≡ true → terms ≡ if_few (terms_between s0.options 0 (s0.test least) (s0.test most)) → now ≡ lesser best (made denies terms) → literals ≡ first_literals s1.options (s1.test least) (s1.test most) → literals ≡ [] → now ≡ least_with denies s0.options (s0.test least) (s0.test most) best
none_first {I} {s0} {s1} x denies least most best now terms literals kl km t n l e =
    let none : first_literals s0.options (s0.test least) (s0.test most) ≡ [] = (λ i. first_literals (sym x.options i) (λ c. sym (x.test least c kl) i) (λ c. sym (x.test most c km) i)) ∙ sym l ∙ e in
    let same : literals_first s0.options (s0.test least) (s0.test most) ≡ terms_between s0.options 0 (s0.test least) (s0.test most) = no_literals s0.options (s0.test least) (s0.test most) none in
    n ∙ ap (λ ts. lesser best (made denies ts)) t ∙ sym (lesser_twice best (made denies (if_few (terms_between s0.options 0 (s0.test least) (s0.test most))))) ∙ ap (λ ts. lesser (lesser best (made denies (if_few (terms_between s0.options 0 (s0.test least) (s0.test most))))) (made denies (if_few ts))) (sym same)

-- else there are both
pub both_first : {I : Type 0} {s0 s1 s2 : Sets I} → Extends s0 s1 → Extends s1 s2 → (denies : Bool) (least most : I) (best now after : Option Rule) (terms behind : Option (List (List Literal))) (literals : List Literal) → s0.is_known least ≡ true → s0.is_known most ≡ true → terms ≡ if_few (terms_between s0.options 0 (s0.test least) (s0.test most)) → now ≡ lesser best (made denies terms) → literals ≡ first_literals s1.options (s1.test least) (s1.test most) → behind ≡ if_few (terms_behind s2.options (s2.test least) (s2.test most) literals) → after ≡ lesser now (made denies behind) → after ≡ least_with denies s0.options (s0.test least) (s0.test most) best
both_first {I} {s0} {s1} {s2} x y denies least most best now after terms behind literals kl km t n l b a =
    let xy = Extends-trans x y in
    let firsts : literals ≡ first_literals s0.options (s0.test least) (s0.test most) = l ∙ (λ i. first_literals (x.options i) (λ c. x.test least c kl i) (λ c. x.test most c km i)) in
    let all : behind ≡ if_few (literals_first s0.options (s0.test least) (s0.test most)) = b ∙ first_terms_later xy least most literals kl km firsts in
    a ∙ (λ i. lesser ((n ∙ ap (λ ts. lesser best (made denies ts)) t) i) (made denies (all i)))

-- the terms of the complement, in later spaces
pub least_of : {I : Type 0} {s0 s1 s2 s3 : Sets I} → Extends s0 s1 → Extends s1 s2 → Extends s2 s3 → (least most below above : I) (best rule : Option Rule) → s0.is_known least ≡ true → s0.is_known most ≡ true → IsSet s1 below (λ c. not (s0.test most c)) → IsSet s2 above (λ c. not (s1.test least c)) → best ≡ least_with false s2.options (s2.test least) (s2.test most) None → rule ≡ least_with true s3.options (s3.test below) (s3.test above) best → rule ≡ least_rule s0.options (s0.test least) (s0.test most)
unfolding least_rule
least_of {I} {s0} {s1} {s2} {s3} x y z least most below above best rule kl km b a e r =
    let xy = Extends-trans x y in
    let below_is : (c : List Bool) → s3.test below c ≡ not (s0.test most c) = λ c. (Extends-trans y z).test below c b.known ∙ b.test c in
    let above_is : (c : List Bool) → s3.test above c ≡ not (s0.test least c) = λ c. z.test above c a.known ∙ a.test c ∙ ap not (x.test least c kl) in
    r ∙ (λ i. least_with true ((Extends-trans xy z).options i) (λ c. below_is c i) (λ c. above_is c i) ((e ∙ (λ j. least_with false (xy.options j) (λ c. xy.test least c kl j) (λ c. xy.test most c km j) None)) i))

pub within_later : {I : Type 0} {s0 s : Sets I} → Extends s0 s → (least most : I) → s0.is_known least ≡ true → s0.is_known most ≡ true → IsWithin s0 least most → IsWithin s least most
within_later x least most kl km w c t = x.test most c km ∙ w c (sym (x.test least c kl) ∙ t)

is_zero : (n : ℕ) → nat_eq n 0 ≡ true → n ≡ 0
is_zero n e = grind (arith, nat_tests)

-- a list that is seen to be empty is
pub empty_is : {A : Type 0} (xs : List A) (n : ℕ) → n ≡ length xs → nat_eq n 0 ≡ true → xs ≡ []
empty_is [] n l e = refl
empty_is (x ∷ xs) n l e = let zero_there = is_zero n e in absurd (omega (arith, l, zero_there))
