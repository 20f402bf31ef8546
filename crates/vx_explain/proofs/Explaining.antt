-- Rules and examples of sets, and of the pieces and ends of a report.
use Rattle.std.proofs.Common.{BTreeMap, ◌≡◌, ℕ, zero, suc, ◌+◌, ◌<◌, ◌≤◌, Bool, true, false, List, [], ◌∷◌, ◌++◌, length, map, take, get_or, refl, sym, ◌∙◌, ap, subst, arith}
use Rattle.std.specs.Prelude.{Option, Some, None, ◌&&◌, ◌||◌, ◌↔◌, not, IfSome, IsNone, MatchOption, slice_get, if◌then◌else◌}
use Rattle.std.specs.List.{AllByRecursion}
use Rattle.std.specs.BTreeMap.{IsEmpty, get, is_at}
use Rattle.std.specs.Map.{lookup}
use Rattle.std.specs.Ordering.{is_eq, nat_cmp}
use Rattle.std.specs.declared.cmp.Ordering.{Ordering}
use Rattle.std.specs.declared.cmp.Ordering.TheVariants.{Less, Equal, Greater}
use Rattle.std.proofs.lemmas.Map.Lookups.{exact_unsigned}
use Rattle.std.proofs.lemmas.List.{take_more, take_all}
use Rattle.vx_space.specs.Sets.{Sets, IsLawful, IsSet, Extends}
use Rattle.vx_space.proofs.Spaces.{Extends-refl, Extends-trans}
use Rattle.vx_bdd_tools.specs.Members.{IsMember}
use Rattle.vx_bdd_tools.specs.Nodes.{holds}
use Rattle.vx_report.specs.declared.report.Report.{Report}
use Rattle.vx_picture.specs.declared.subject.Subject.{Subject}
use Rattle.vx_cover.specs.Covers.{has_end}
use Rattle.vx_explain.specs.declared.explained.Explained.{Explained}
use Rattle.vx_explain.specs.declared.explained.Explanation.{Explanation}
use Rattle.vx_explain.specs.declared.explained.Told.{Told}
use Rattle.vx_explain.specs.Between.{IsWithin}
use Rattle.vx_explain.specs.Candidates.{least_rule}
use Rattle.vx_explain.specs.Explanations.{AreExplainedOf, HasNone, IsExample, IsFound, IsRule, IsTold, IsToldAt, KeepsTold, rule_for}
use Rattle.vx_explain.specs.Scopes.{AreApart, IsInBoth, rule_within}
use Rattle.vx_explain.proofs.Choosing.{rule_is}
use Rattle.vx_explain.proofs.Sums.{AsksFrom}

and_left : (a b : Bool) → (a && b) ≡ true → a ≡ true
and_left true b t = refl
and_left false b t = cc (t)

and_right : (a b : Bool) → (a && b) ≡ true → b ≡ true
and_right true b t = t
and_right false b t = cc (t)

-- what a set has of a scope is in it
pub bounds_within : {I : Type 0} (s0 : Sets I) {s1 : Sets I} (set scope least most : I) → IsSet s1 least (λ c. s0.test set c && s0.test scope c) → IsSet s1 most (λ c. s0.test set c || not (s0.test scope c)) → IsWithin s1 least most
bounds_within {I} s0 {s1} set scope least most l m c t = m.test c ∙ wider (s0.test set c) (not (s0.test scope c)) (and_left (s0.test set c) (s0.test scope c) (sym (l.test c) ∙ t))
  where
    wider : (a b : Bool) → a ≡ true → (a || b) ≡ true
    wider true b e = refl
    wider false b e = cc (e)

-- the least rule between what a set has of a scope, and the same with all outside of the scope, is its rule there
pub rule_same : {I : Type 0} {s0 s1 : Sets I} → Extends s0 s1 → (set scope least most : I) → IsSet s1 least (λ c. s0.test set c && s0.test scope c) → IsSet s1 most (λ c. s0.test set c || not (s0.test scope c)) → least_rule s1.options (s1.test least) (s1.test most) ≡ rule_within s0.options (s0.test set) (s0.test scope)
rule_same x set scope least most l m = λ i. least_rule (x.options i) (λ c. l.test c i) (λ c. m.test c i)

-- where the set has all outside of the scope beside it, in a later space
pub most_of : {I : Type 0} {s0 s1 s2 s3 : Sets I} → Extends s0 s1 → Extends s1 s2 → (set scope outside most : I) → s0.is_known set ≡ true → s0.is_known scope ≡ true → IsSet s2 outside (λ c. not (s1.test scope c)) → IsSet s3 most (λ c. s2.test set c || s2.test outside c) → IsSet s3 most (λ c. s0.test set c || not (s0.test scope c))
most_of x y set scope outside most ks kc o m = record {
  known = m.known;
  test = λ c. m.test c ∙ (λ i. (Extends-trans x y).test set c ks i || (o.test c ∙ ap not (x.test scope c kc)) i);
}

-- a set stays in a later space
pub least_later : {I : Type 0} {s s' : Sets I} → Extends s s' → (id : I) (set : List Bool → Bool) → IsSet s id set → IsSet s' id set
least_later x id set h = record { known = x.known id h.known; test = λ c. x.test id c h.known ∙ h.test c }

-- the rule of a set in the space that an intersection left
pub rule_later : {I : Type 0} {s0 s1 : Sets I} → Extends s0 s1 → (set scope : I) → s0.is_known set ≡ true → s0.is_known scope ≡ true → rule_within s1.options (s1.test set) (s1.test scope) ≡ rule_within s0.options (s0.test set) (s0.test scope)
rule_later x set scope ks kc = λ i. rule_within (x.options i) (λ c. x.test set c ks i) (λ c. x.test scope c kc i)

-- an example, or that there is none
pub example_of : {I : Type 0} {s0 s1 : Sets I} → IsLawful s1 → Extends s0 s1 → (set scope least : I) (found : Option (List Bool)) → IsSet s1 least (λ c. s0.test set c && s0.test scope c) → (IsNone found ↔ (least ≡ s1.never)) → IfSome found (IsMember s1 least) → MatchOption found (AreApart s0 set scope) (IsInBoth s0 set scope)
example_of {I} {s0} {s1} lawful x set scope least None l n m =
    let never : least ≡ s1.never = n.0 refl in
    λ c t. apart (s0.test set c) (s0.test scope c) t (sym (l.test c) ∙ ap (λ id. s1.test id c) never ∙ lawful.never_test c)
  where
    apart : (a b : Bool) → b ≡ true → (a && b) ≡ false → a ≡ false
    apart true true e f = f
    apart false b e f = refl
    apart true false e f = cc (e)
example_of {I} {s0} {s1} lawful x set scope least (Some c) l n m =
    let both : (s0.test set c && s0.test scope c) ≡ true = sym (l.test c) ∙ m.member in
    record {
      values = m.values ∙ x.options;
      in_set = and_left (s0.test set c) (s0.test scope c) both;
      in_scope = and_right (s0.test set c) (s0.test scope c) both;
    }

-- a known set is told by the options of its space
asks : {I : Type 0} {s : Sets I} → IsLawful s → (id : I) (set : List Bool → Bool) → IsSet s id set → AsksFrom 0 s.options set
asks lawful id set h c d e = sym (h.test c) ∙ lawful.options_alone id c d h.known (λ i l. e i (omega arith) (omega (arith, l))) ∙ h.test d

-- the same of a node of a report
pub IsTold-of : {I : Type 0} {s : Sets I} → IsLawful s → (r : Report) (node : ℕ) (set scope : I) (t : Told) → length r.options ≡ s.options → IsSet s set (holds r.nodes node) → IsSet s scope (has_end r) → t.rule ≡ rule_within s.options (s.test set) (s.test scope) → MatchOption t.example (AreApart s set scope) (IsInBoth s set scope) → IsTold r node t
IsTold-of {I} {s} lawful r node set scope t o hs he rule example = record {
  rule = is_rule;
  is_rule = subst (λ found. IfSome found (IsRule r node)) (sym is_rule) (rule_is (length r.options) (holds r.nodes node) (has_end r) (subst (λ n. AsksFrom 0 n (holds r.nodes node)) (sym o) (asks lawful set (holds r.nodes node) hs)) (subst (λ n. AsksFrom 0 n (has_end r)) (sym o) (asks lawful scope (has_end r) he)));
  example = example_by t.example example;
}
  where
    is_rule : t.rule ≡ rule_for r node
    is_rule = rule ∙ (λ i. rule_within (sym o i) (λ c. hs.test c i) (λ c. he.test c i))

    example_by : (found : Option (List Bool)) → MatchOption found (AreApart s set scope) (IsInBoth s set scope) → MatchOption found (HasNone r node) (IsExample r node)
    example_by None h = λ c e. sym (hs.test c) ∙ h c (he.test c ∙ e)
    example_by (Some c) h = record {
      run = record { values = h.values ∙ sym o; ended = sym (he.test c) ∙ h.in_scope };
      holds_here = sym (hs.test c) ∙ h.in_set;
    }

-- ---- what is told stays at its place

there_still : (all more : List Told) (place : ℕ) (t : Told) → slice_get all place ≡ Some t → slice_get (all ++ more) place ≡ Some t
there_still [] more place t e = cc (e)
there_still (u ∷ us) more zero t e = e
there_still (u ∷ us) more (suc place) t e = there_still us more place t e

there_last : (all : List Told) (t : Told) → slice_get (all ++ t ∷ []) (length all) ≡ Some t
there_last [] t = refl
there_last (u ∷ us) t = there_last us t

IsToldAt-more : (r : Report) (all more : List Told) (node place : ℕ) → IsToldAt r all node place → IsToldAt r (all ++ more) node place
IsToldAt-more r all more node place h = record { told = h.told; there = there_still all more place h.told h.there; is = h.is }

append_none : (all : List Told) → all ≡ all ++ []
append_none [] = refl
append_none (t ∷ ts) = ap (λ us. t ∷ us) (append_none ts)

-- it is there already
pub IsFound-old : (r : Report) (all : List Told) (place_of : ℕ → Option ℕ) (node place : ℕ) → KeepsTold r all place_of → place_of node ≡ Some place → IsFound r all all place_of node place
IsFound-old r all place_of node place h e = record { more = []; grows = append_none all; keeps = h; there = h.each node place e }

-- it is put behind the others
pub IsFound-new : (r : Report) (before after : List Told) (old new : ℕ → Option ℕ) (node place : ℕ) (t : Told) → KeepsTold r before old → IsTold r node t → after ≡ before ++ t ∷ [] → place ≡ length before → ((n : ℕ) → new n ≡ (if is_eq (nat_cmp node n) then Some place else old n)) → IsFound r before after new node place
IsFound-new r before after old new node place t h told e p updates = record {
  more = t ∷ [];
  grows = e;
  keeps = record { each = λ n k f. by n k (is_eq (nat_cmp node n)) refl (sym (updates n) ∙ f) };
  there = here;
}
  where
    here : IsToldAt r after node place
    here = record { told = t; there = (λ i. slice_get (e i) (p i)) ∙ there_last before t; is = told }

    same : (n : ℕ) → is_eq (nat_cmp node n) ≡ true → node ≡ n
    same n q = exact_unsigned node n (equal (nat_cmp node n) q)
      where
        equal : (o : Ordering) → is_eq o ≡ true → o ≡ Equal
        equal Less q = cc (q)
        equal Equal q = refl
        equal Greater q = cc (q)

    by : (n k : ℕ) (b : Bool) → is_eq (nat_cmp node n) ≡ b → (if b then Some place else old n) ≡ Some k → IsToldAt r after n k
    by n k true q f = let other : place ≡ k = cc (f) in subst (λ m. IsToldAt r after m k) (same n q) (subst (IsToldAt r after node) other here)
    by n k false q f = subst (λ all. IsToldAt r all n k) (sym e) (IsToldAt-more r before (t ∷ []) n k (h.each n k f))

-- ---- the pieces and ends so far are explained

pub record IsExplaining {I : Type 0} (s0 s : Sets I) (r : Report) (subjects : List Subject) (scope : I) (told : List Told) (place_of : ℕ → Option ℕ) (es : List Explained) : Type 0 where
  pub extends : Extends s0 s
  pub scope_is : IsSet s scope (has_end r)
  pub keeps : KeepsTold r told place_of
  pub all : map (λ (x : Explained). x.subject) es ≡ subjects
  pub each : AllByRecursion (λ (x : Explained). IsToldAt r told x.subject.node x.place) es

-- where nothing is told yet, no node has a place
pub IsExplaining-start : {I : Type 0} (s : Sets I) (r : Report) (scope : I) (told : List Told) (places : BTreeMap ℕ ℕ) (es : List Explained) → IsSet s scope (has_end r) → IsEmpty places → es ≡ [] → IsExplaining s s r [] scope told (get nat_cmp places) es
IsExplaining-start s r scope told places es h empty e = subst (IsExplaining s s r [] scope told (get nat_cmp places)) (sym e) (record {
  extends = Extends-refl s;
  scope_is = h;
  keeps = record { each = λ n k f. let none : None ≡ Some k = sym (ap (lookup (is_at (nat_cmp n))) empty) ∙ f in cc (none) };
  all = refl;
  each = tt;
})

map-push : {A B : Type 0} (f : A → B) (xs : List A) (x : A) → map f (xs ++ x ∷ []) ≡ map f xs ++ f x ∷ []
map-push f [] x = refl
map-push f (y ∷ ys) x = ap (λ zs. f y ∷ zs) (map-push f ys x)

all-push : {A : Type 0} (P : A → Type 0) (xs : List A) (x : A) → AllByRecursion P xs → P x → AllByRecursion P (xs ++ x ∷ [])
all-push P [] x h p = (p, tt)
all-push P (y ∷ ys) x h p = (h.0, all-push P ys x h.1 p)

all-weaker : {A : Type 0} (P Q : A → Type 0) → ((x : A) → P x → Q x) → (xs : List A) → AllByRecursion P xs → AllByRecursion Q xs
all-weaker P Q f [] h = tt
all-weaker P Q f (x ∷ xs) h = (f x h.0, all-weaker P Q f xs h.1)

pub IsExplaining-step : {I : Type 0} {s0 s s' : Sets I} (r : Report) (subjects : List Subject) (i : ℕ) (subject : Subject) (scope : I) (before after : List Told) (old new : ℕ → Option ℕ) (es : List Explained) (e : Explained) (place : ℕ) → i < length subjects → subject ≡ get_or subjects i subject → IsExplaining s0 s r (take i subjects) scope before old es → Extends s s' → IsFound r before after new subject.node place → e.subject ≡ subject → e.place ≡ place → IsExplaining s0 s' r (take (i + 1) subjects) scope after new (es ++ e ∷ [])
IsExplaining-step {I} {s0} {s} {s'} r subjects i subject scope before after old new es e place l here h x found same at =
    let one : IsToldAt r after e.subject.node e.place = subst (λ (y : Subject). IsToldAt r after y.node e.place) (sym same) (subst (IsToldAt r after subject.node) (sym at) found.there) in
    let others : AllByRecursion (λ (y : Explained). IsToldAt r after y.subject.node y.place) es = subst (λ all. AllByRecursion (λ (y : Explained). IsToldAt r all y.subject.node y.place) es) (sym found.grows) (all-weaker _ (λ (y : Explained). IsToldAt r (before ++ found.more) y.subject.node y.place) (λ y k. IsToldAt-more r before found.more y.subject.node y.place k) es h.each) in
    record {
      extends = Extends-trans h.extends x;
      scope_is = record { known = x.known scope h.scope_is.known; test = λ c. x.test scope c h.scope_is.known ∙ h.scope_is.test c };
      keeps = found.keeps;
      all = map-push (λ (y : Explained). y.subject) es e ∙ ap (λ ys. ys ++ e.subject ∷ []) h.all ∙ ap (λ y. take i subjects ++ y ∷ []) (same ∙ here) ∙ sym (take_more subjects i subject l);
      each = all-push (λ (y : Explained). IsToldAt r after y.subject.node y.place) es e others one;
    }

pub IsExplaining-all : {I : Type 0} {s0 s : Sets I} (r : Report) (subjects : List Subject) (i : ℕ) (scope : I) (place_of : ℕ → Option ℕ) (e : Explanation) → length subjects ≤ i → IsExplaining s0 s r (take i subjects) scope e.told.items place_of e.explained.items → AreExplainedOf r subjects e
IsExplaining-all r subjects i scope place_of e l h = record { all = h.all ∙ take_all i subjects l; each = h.each }
