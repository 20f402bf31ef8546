-- Literals first: what the sets tell of the questions that are asked, the literals that are taken and kept in turn, and that their terms lie between.
use Rattle.std.proofs.Common.{◌≡◌, ◌≢◌, ℕ, ◌+◌, ◌-◌, ◌<◌, ◌≤◌, zero, suc, Bool, true, false, List, [], ◌∷◌, ◌++◌, length, map, take, drop, get_or, refl, sym, ◌∙◌, ap, subst, arith, append_assoc, length-append, length-drop}
use Rattle.std.specs.Prelude.{◌&&◌, ◌||◌, ◌↔◌, not, nat_le, Option, Some, None, if◌then◌else◌}
use Rattle.std.specs.List.{AllByRecursion}
use Rattle.std.proofs.lemmas.Bool.Decides.{nat_tests}
use Rattle.std.proofs.lemmas.List.{drop_more, take_all}
use Rattle.vx_space.specs.Config.{value_of, with_option}
use Rattle.vx_space.specs.Sets.{Sets, IsLawful, IsSet, Extends}
use Rattle.vx_space.specs.Under.{fixed}
use Rattle.vx_space.proofs.Spaces.{Extends-refl, Extends-trans}
use Rattle.vx_explain.specs.declared.literal.Literal.{Literal}
use Rattle.vx_explain.specs.Between.{IsWithin, if_few, terms_between}
use Rattle.vx_explain.specs.Literals.{TakesOne, all_literals, first_literals, is_covered, is_some, is_taken, is_useful, keeping, left_by, literals_first, literals_of, taking, terms_behind, with_terms}
use Rattle.vx_explain.specs.Rules.{AreNamed, AreOf, literal_holds, some_literal_holds, some_term_holds}
use Rattle.vx_explain.proofs.Sums.{AsksFrom, AsksFrom-and, AsksFrom-outside, AsksFrom-side, AsksValues-of, LiesBetween, by_side, lies_between, literal_asks, named}
use Rattle.vx_explain.proofs.TermSets.{some_member}

-- ---- whether there is some configuration

pub none_some : (later option : ℕ) (set : List Bool → Bool) → ((c : List Bool) → set c ≡ false) → is_some later option set ≡ false
unfolding is_some
none_some zero option set e = e []
none_some (suc later) option set e = λ i. none_some later (option + 1) (fixed set option false) (λ c. e (with_option c option false)) i || none_some later (option + 1) (fixed set option true) (λ c. e (with_option c option true)) i

pub any_some : (later option : ℕ) (set : List Bool → Bool) → AsksFrom option later set → (c : List Bool) → set c ≡ true → is_some later option set ≡ true
unfolding is_some
any_some zero option set a c t = a [] c (λ i l m. absurd (omega (arith, l, m))) ∙ t
any_some (suc later) option set a c t = by (value_of c option) (any_some later (option + 1) (fixed set option true) (AsksFrom-side option later set true a) c) (any_some later (option + 1) (fixed set option false) (AsksFrom-side option later set false a) c) (sym (by_side set (AsksValues-of option (suc later) set a) c option) ∙ t)
  where
    left : (p q : Bool) → p ≡ true → (p || q) ≡ true
    left true q e = refl
    left false q e = cc (e)

    right : (p q : Bool) → q ≡ true → (p || q) ≡ true
    right true q e = refl
    right false q e = e

    by : (v : Bool) → (fixed set option true c ≡ true → is_some later (option + 1) (fixed set option true) ≡ true) → (fixed set option false c ≡ true → is_some later (option + 1) (fixed set option false) ≡ true) → (if v then fixed set option true c else fixed set option false c) ≡ true → (is_some later (option + 1) (fixed set option false) || is_some later (option + 1) (fixed set option true)) ≡ true
    by true on off e = right (is_some later (option + 1) (fixed set option false)) (is_some later (option + 1) (fixed set option true)) (on e)
    by false on off e = left (is_some later (option + 1) (fixed set option false)) (is_some later (option + 1) (fixed set option true)) (off e)

-- where there is none, none is in the set
none_there : (options : ℕ) (set : List Bool → Bool) → AsksFrom 0 options set → is_some options 0 set ≡ false → (c : List Bool) → set c ≡ false
none_there options set a e c = by (set c) refl
  where
    by : (v : Bool) → set c ≡ v → v ≡ false
    by true t = sym (any_some options 0 set a c t) ∙ e
    by false t = refl

-- a known set is told by the options of its space
pub asks_known : {I : Type 0} {s : Sets I} → IsLawful s → (id : I) → s.is_known id ≡ true → AsksFrom 0 s.options (s.test id)
asks_known lawful id k c d e = lawful.options_alone id c d k (λ i l. e i (omega arith) (omega (arith, l)))

some_told : {I : Type 0} {s : Sets I} → IsLawful s → (id : I) (t : Bool) → s.is_known id ≡ true → (t ≡ true ↔ (id ≡ s.never)) → is_some s.options 0 (s.test id) ≡ not t
some_told {I} {s} lawful id true k h = none_some s.options 0 (s.test id) (λ c. ap (λ x. s.test x c) (h.0 refl) ∙ lawful.never_test c)
some_told {I} {s} lawful id false k h =
    let there : id ≢ s.never = λ e. let wrong = h.1 e in cc (wrong) in
    let m = some_member lawful id k there in
    any_some s.options 0 (s.test id) (asks_known lawful id k) m.0 m.1

-- an id tells whether there is some configuration in a set
pub told_of_set : {I : Type 0} {s : Sets I} → IsLawful s → (options : ℕ) (set : List Bool → Bool) (id : I) (t : Bool) → options ≡ s.options → IsSet s id set → (t ≡ true ↔ (id ≡ s.never)) → is_some options 0 set ≡ not t
told_of_set lawful options set id t o h e = (λ i. is_some (o i) 0 (λ c. sym (h.test c) i)) ∙ some_told lawful id t h.known e

-- ---- taking

-- nothing of the set is left
pub none_useful : {I : Type 0} {s0 s1 : Sets I} → IsLawful s1 → Extends s0 s1 → (rest most set some : I) (t : Bool) → IsSet s1 some (λ c. s0.test rest c && s0.test set c) → (t ≡ true ↔ (some ≡ s1.never)) → t ≡ true → false ≡ is_useful s0.options (s0.test rest) (s0.test most) (s0.test set)
none_useful {I} {s0} lawful x rest most set some t h e is = ap (λ b. b && not (is_some s0.options 0 (λ c. s0.test set c && not (s0.test most c)))) (sym (told_of_set lawful s0.options (λ c. s0.test rest c && s0.test set c) some t (sym x.options) h e ∙ ap not is))

-- something is
pub some_useful : {I : Type 0} {s0 s1 s2 : Sets I} → IsLawful s1 → IsLawful s2 → Extends s0 s1 → Extends s1 s2 → (rest most set some outside : I) (t u : Bool) → s0.is_known set ≡ true → s0.is_known most ≡ true → IsSet s1 some (λ c. s0.test rest c && s0.test set c) → IsSet s2 outside (λ c. s1.test set c && not (s1.test most c)) → (t ≡ true ↔ (some ≡ s1.never)) → (u ≡ true ↔ (outside ≡ s2.never)) → t ≡ false → u ≡ is_useful s0.options (s0.test rest) (s0.test most) (s0.test set)
some_useful {I} {s0} {s1} {s2} lawful lawful' x y rest most set some outside t u ks km h o e f is = sym ((λ i. one i && not (other i)) ∙ twice u)
  where
    one : is_some s0.options 0 (λ c. s0.test rest c && s0.test set c) ≡ true
    one = told_of_set lawful s0.options (λ c. s0.test rest c && s0.test set c) some t (sym x.options) h e ∙ ap not is

    out_is : IsSet s2 outside (λ c. s0.test set c && not (s0.test most c))
    out_is = record { known = o.known; test = λ c. o.test c ∙ (λ i. x.test set c ks i && not (x.test most c km i)) }

    other : is_some s0.options 0 (λ c. s0.test set c && not (s0.test most c)) ≡ not u
    other = told_of_set lawful' s0.options (λ c. s0.test set c && not (s0.test most c)) outside u (sym (y.options ∙ x.options)) out_is f

    twice : (p : Bool) → not (not p) ≡ p
    twice true = refl
    twice false = refl

-- so a literal is taken
pub taken_told : {I : Type 0} {s0 s1 : Sets I} → Extends s0 s1 → (l : Literal) (rest most set : I) (t : Bool) → s0.is_known rest ≡ true → s0.is_known most ≡ true → IsSet s1 set (literal_holds l) → t ≡ is_useful s1.options (s1.test rest) (s1.test most) (s1.test set) → is_taken s0.options (s0.test rest) (s0.test most) l ≡ t
taken_told x l rest most set t kr km h e = sym (e ∙ (λ i. is_useful (x.options i) (λ c. x.test rest c kr i) (λ c. x.test most c km i) (λ c. h.test c i)))

takes_by : {I : Type 0} (s0 s : Sets I) (most : I) (l : Literal) (rest : I) (before after : List Literal) (left : I) (t : Bool) → is_taken s0.options (s0.test rest) (s0.test most) l ≡ t → after ≡ (if t then before ++ l ∷ [] else before) → IsSet s left (if t then (λ c. s0.test rest c && not (literal_holds l c)) else s0.test rest) → TakesOne s0 s most l rest before after left
takes_by s0 s most l rest before after left t e a h = record {
  taken = a ∙ ap (λ b. if b then before ++ l ∷ [] else before) (sym e);
  set = subst (λ b. IsSet s left (if b then (λ c. s0.test rest c && not (literal_holds l c)) else s0.test rest)) (sym e) h;
}

-- the literal is left
pub takes_none : {I : Type 0} {s0 s : Sets I} → Extends s0 s → (most : I) (l : Literal) (rest : I) (before : List Literal) → s0.is_known rest ≡ true → is_taken s0.options (s0.test rest) (s0.test most) l ≡ false → TakesOne s0 s most l rest before before rest
takes_none {I} {s0} {s} x most l rest before k e = takes_by s0 s most l rest before before rest false e refl (record { known = x.known rest k; test = λ c. x.test rest c k })

-- the literal is taken
pub takes_this : {I : Type 0} {s0 s1 s s' : Sets I} → Extends s0 s1 → Extends s1 s → (most : I) (l : Literal) (rest set left : I) (before after : List Literal) → s0.is_known rest ≡ true → is_taken s0.options (s0.test rest) (s0.test most) l ≡ true → IsSet s1 set (literal_holds l) → IsSet s' left (λ c. s.test rest c && not (s.test set c)) → after ≡ before ++ l ∷ [] → TakesOne s0 s' most l rest before after left
takes_this {I} {s0} {s1} {s} {s'} x y most l rest set left before after k e is_set is_left a = takes_by s0 s' most l rest before after left true e a (record {
  known = is_left.known;
  test = λ c. is_left.test c ∙ (λ i. (Extends-trans x y).test rest c k i && not ((y.test set c is_set.known ∙ is_set.test c) i));
})

-- what was taken so far leads on
pub record IsTaking {I : Type 0} (s0 s : Sets I) (least most : I) (before all later taken : List Literal) (rest : I) : Type 0 where
  pub extends : Extends s0 s
  pub known : s.is_known rest ≡ true
  pub goes : taking s0.options (s0.test most) (s.test rest) taken later ≡ taking s0.options (s0.test most) (s0.test least) before all

pub IsTaking-start : {I : Type 0} (s : Sets I) (least most : I) (before all : List Literal) → s.is_known least ≡ true → IsTaking s s least most before all all before least
IsTaking-start s least most before all k = record { extends = Extends-refl s; known = k; goes = refl }

one_taken : (n : ℕ) (most rest left : List Bool → Bool) (l : Literal) (ls before after : List Literal) (t : Bool) → is_taken n rest most l ≡ t → after ≡ (if t then before ++ l ∷ [] else before) → ((c : List Bool) → left c ≡ (if t then (λ d. rest d && not (literal_holds l d)) else rest) c) → taking n most left after ls ≡ taking n most rest before (l ∷ ls)
unfolding taking
one_taken n most rest left l ls before after true e a h = (λ i. taking n most (λ c. h c i) (a i) ls) ∙ ap (λ b. if b then taking n most (λ c. rest c && not (literal_holds l c)) (before ++ l ∷ []) ls else taking n most rest before ls) (sym e)
one_taken n most rest left l ls before after false e a h = (λ i. taking n most (λ c. h c i) (a i) ls) ∙ ap (λ b. if b then taking n most (λ c. rest c && not (literal_holds l c)) (before ++ l ∷ []) ls else taking n most rest before ls) (sym e)

next_literal : (other : Literal) (all : List Literal) (i : ℕ) (l : Literal) → i < length all → l ≡ get_or all i other → drop i all ≡ l ∷ drop (i + 1) all
next_literal other all i l m here = drop_more all i other m ∙ ap (λ y. y ∷ drop (i + 1) all) (sym here)

pub IsTaking-step : {I : Type 0} {s0 s s' : Sets I} (other : Literal) → Extends s s' → (least most : I) (before all : List Literal) (i : ℕ) (l : Literal) (taken after : List Literal) (rest left : I) → s0.is_known most ≡ true → i < length all → l ≡ get_or all i other → IsTaking s0 s least most before all (drop i all) taken rest → TakesOne s s' most l rest taken after left → IsTaking s0 s' least most before all (drop (i + 1) all) after left
IsTaking-step {I} {s0} {s} {s'} other y least most before all i l taken after rest left k m here h one =
    let x = h.extends in
    let same : is_taken s.options (s.test rest) (s.test most) l ≡ is_taken s0.options (s.test rest) (s0.test most) l = λ j. is_taken (x.options j) (s.test rest) (λ c. x.test most c k j) l in
    record {
      extends = Extends-trans x y;
      known = one.set.known;
      goes = one_taken s0.options (s0.test most) (s.test rest) (s'.test left) l (drop (i + 1) all) taken after (is_taken s0.options (s.test rest) (s0.test most) l) refl (one.taken ∙ ap (λ b. if b then taken ++ l ∷ [] else taken) same) (λ c. one.set.test c ∙ ap (λ b. (if b then (λ d. s.test rest d && not (literal_holds l d)) else s.test rest) c) same) ∙ ap (λ ls. taking s0.options (s0.test most) (s.test rest) taken ls) (sym (next_literal other all i l m here)) ∙ h.goes;
    }

taken_none : (n : ℕ) (most rest : List Bool → Bool) (taken ls : List Literal) → ls ≡ [] → taking n most rest taken ls ≡ taken
unfolding taking
taken_none n most rest taken ls e = ap (λ xs. taking n most rest taken xs) e

pub IsTaking-all : {I : Type 0} {s0 s : Sets I} (least most : I) (before all later taken : List Literal) (rest : I) → later ≡ [] → IsTaking s0 s least most before all later taken rest → taken ≡ taking s0.options (s0.test most) (s0.test least) before all
IsTaking-all {I} {s0} {s} least most before all later taken rest e h = sym (taken_none s0.options (s0.test most) (s.test rest) taken later e) ∙ h.goes

pub literal_named : (other : Literal) (options : ℕ) (all : List Literal) (i : ℕ) (l : Literal) → i < length all → l ≡ get_or all i other → AreNamed options all → l.option < options
literal_named other options all i l m here h = go all i m h (sym here)
  where
    go : (xs : List Literal) (j : ℕ) → j < length xs → AreNamed options xs → get_or xs j other ≡ l → l.option < options
    go [] j n p e = absurd (omega (arith, n))
    go (x ∷ xs) zero n p e = subst (λ (y : Literal). y.option < options) e p.0
    go (x ∷ xs) (suc j) n p e = go xs j (omega (arith, n)) p.1 e

-- ---- what literals leave

pub record IsLeaving {I : Type 0} (s0 s : Sets I) (set : I) (all later : List Literal) (rest : I) : Type 0 where
  pub extends : Extends s0 s
  pub known : s.is_known rest ≡ true
  pub goes : (c : List Bool) → left_by later (s.test rest) c ≡ left_by all (s0.test set) c

pub IsLeaving-start : {I : Type 0} (s : Sets I) (set : I) (all : List Literal) → s.is_known set ≡ true → IsLeaving s s set all all set
IsLeaving-start s set all k = record { extends = Extends-refl s; known = k; goes = λ c. refl }

one_left : (a l some : Bool) → ((a && not l) && not some) ≡ (a && not (l || some))
one_left true true some = refl
one_left true false some = refl
one_left false l some = refl

pub IsLeaving-step : {I : Type 0} {s0 s s1 s2 : Sets I} (other : Literal) → Extends s s1 → Extends s1 s2 → (set : I) (all : List Literal) (i : ℕ) (l : Literal) (taken rest left : I) → i < length all → l ≡ get_or all i other → IsLeaving s0 s set all (drop i all) rest → IsSet s1 taken (literal_holds l) → IsSet s2 left (λ c. s1.test rest c && not (s1.test taken c)) → IsLeaving s0 s2 set all (drop (i + 1) all) left
IsLeaving-step {I} {s0} {s} {s1} {s2} other x y set all i l taken rest left m here h is_taken_ is_left = record {
  extends = Extends-trans h.extends (Extends-trans x y);
  known = is_left.known;
  goes = λ c.
      (λ j. (is_left.test c ∙ (λ k. x.test rest c h.known k && not (is_taken_.test c k))) j && not (some_literal_holds (drop (i + 1) all) c))
      ∙ one_left (s.test rest c) (literal_holds l c) (some_literal_holds (drop (i + 1) all) c)
      ∙ ap (λ ls. left_by ls (s.test rest) c) (sym (next_literal other all i l m here))
      ∙ h.goes c;
}

and_true : (a : Bool) → (a && true) ≡ a
and_true true = refl
and_true false = refl

pub IsLeaving-all : {I : Type 0} {s0 s : Sets I} (set : I) (all later : List Literal) (rest : I) → later ≡ [] → IsLeaving s0 s set all later rest → IsSet s rest (left_by all (s0.test set))
IsLeaving-all {I} {s0} {s} set all later rest e h = record {
  known = h.known;
  test = λ c. sym (and_true (s.test rest c)) ∙ ap (λ ls. left_by ls (s.test rest) c) (sym e) ∙ h.goes c;
}

-- ---- keeping

some_both : (ls ms : List Literal) (c : List Bool) → some_literal_holds (ls ++ ms) c ≡ (some_literal_holds ls c || some_literal_holds ms c)
some_both [] ms c = refl
some_both (l ∷ ls) ms c = ap (λ b. literal_holds l c || b) (some_both ls ms c) ∙ grouped (literal_holds l c) (some_literal_holds ls c) (some_literal_holds ms c)
  where
    grouped : (a b d : Bool) → (a || (b || d)) ≡ ((a || b) || d)
    grouped true b d = refl
    grouped false b d = refl

-- what some literals and then others leave is told
pub covered_told : {I : Type 0} {s0 s1 s2 s3 s4 : Sets I} → IsLawful s4 → Extends s0 s1 → Extends s1 s2 → Extends s2 s3 → Extends s3 s4 → (l : Literal) (kept later : List Literal) (least set own some rest : I) (t : Bool) → s0.is_known least ≡ true → IsSet s1 set (literal_holds l) → IsSet s2 own (λ c. s1.test least c && s1.test set c) → IsSet s3 some (left_by kept (s2.test own)) → IsSet s4 rest (left_by later (s3.test some)) → (t ≡ true ↔ (rest ≡ s4.never)) → t ≡ is_covered s0.options (s0.test least) l (kept ++ later)
covered_told {I} {s0} {s1} {s2} {s3} {s4} lawful x y z w l kept later least set own some rest t k is_set is_own is_some_ is_rest e = sym (ap not (told_of_set lawful s0.options (left_by (kept ++ later) (λ c. s0.test least c && literal_holds l c)) rest t (sym (w.options ∙ z.options ∙ y.options ∙ x.options)) rest_is e) ∙ twice t)
  where
    twice : (b : Bool) → not (not b) ≡ b
    twice true = refl
    twice false = refl

    own_is : (c : List Bool) → s2.test own c ≡ (s0.test least c && literal_holds l c)
    own_is c = is_own.test c ∙ (λ i. x.test least c k i && is_set.test c i)

    rest_is : IsSet s4 rest (left_by (kept ++ later) (λ c. s0.test least c && literal_holds l c))
    rest_is = record {
      known = is_rest.known;
      test = λ c.
          is_rest.test c
          ∙ ap (λ b. b && not (some_literal_holds later c)) (is_some_.test c ∙ ap (λ b. b && not (some_literal_holds kept c)) (own_is c))
          ∙ one_left (s0.test least c && literal_holds l c) (some_literal_holds kept c) (some_literal_holds later c)
          ∙ ap (λ b. (s0.test least c && literal_holds l c) && not b) (sym (some_both kept later c));
    }

pub record IsKeeping {I : Type 0} (s0 s : Sets I) (least : I) (before all kept later : List Literal) : Type 0 where
  pub extends : Extends s0 s
  pub kept_named : AreNamed s0.options kept
  pub later_named : AreNamed s0.options later
  pub goes : keeping s0.options (s0.test least) kept later ≡ keeping s0.options (s0.test least) before all

pub IsKeeping-start : {I : Type 0} (s : Sets I) (least : I) (before all : List Literal) → AreNamed s.options before → AreNamed s.options all → IsKeeping s s least before all before all
IsKeeping-start s least before all b a = record { extends = Extends-refl s; kept_named = b; later_named = a; goes = refl }

all-push : {A : Type 0} (P : A → Type 0) (xs : List A) (x : A) → AllByRecursion P xs → P x → AllByRecursion P (xs ++ x ∷ [])
all-push P [] x h p = (p, tt)
all-push P (y ∷ ys) x h p = (h.0, all-push P ys x h.1 p)

one_kept : (n : ℕ) (least : List Bool → Bool) (l : Literal) (kept after ls : List Literal) (t : Bool) → t ≡ is_covered n least l (kept ++ ls) → after ≡ (if t then kept else kept ++ l ∷ []) → keeping n least after ls ≡ keeping n least kept (l ∷ ls)
unfolding keeping
one_kept n least l kept after ls true e a = ap (λ xs. keeping n least xs ls) a ∙ ap (λ b. if b then keeping n least kept ls else keeping n least (kept ++ l ∷ []) ls) e
one_kept n least l kept after ls false e a = ap (λ xs. keeping n least xs ls) a ∙ ap (λ b. if b then keeping n least kept ls else keeping n least (kept ++ l ∷ []) ls) e

pub IsKeeping-step : {I : Type 0} {s0 s s' : Sets I} → Extends s s' → (least : I) (before all kept after : List Literal) (l : Literal) (ls : List Literal) (t : Bool) → s0.is_known least ≡ true → IsKeeping s0 s least before all kept (l ∷ ls) → t ≡ is_covered s.options (s.test least) l (kept ++ ls) → after ≡ (if t then kept else kept ++ l ∷ []) → IsKeeping s0 s' least before all after ls
IsKeeping-step {I} {s0} {s} {s'} y least before all kept after l ls t k h e a =
    let x = h.extends in
    record {
      extends = Extends-trans x y;
      kept_named = subst (AreNamed s0.options) (sym a) (by t);
      later_named = h.later_named.1;
      goes = one_kept s0.options (s0.test least) l kept after ls t (e ∙ (λ i. is_covered (x.options i) (λ c. x.test least c k i) l (kept ++ ls))) a ∙ h.goes;
    }
  where
    by : (b : Bool) → AreNamed s0.options (if b then kept else kept ++ l ∷ [])
    by true = h.kept_named
    by false = all-push (λ (m : Literal). m.option < s0.options) kept l h.kept_named h.later_named.0

kept_none : (n : ℕ) (least : List Bool → Bool) (kept ls : List Literal) → ls ≡ [] → keeping n least kept ls ≡ kept
unfolding keeping
kept_none n least kept ls e = ap (λ xs. keeping n least kept xs) e

pub IsKeeping-all : {I : Type 0} {s0 s : Sets I} (least : I) (before all kept later : List Literal) → later ≡ [] → IsKeeping s0 s least before all kept later → kept ≡ keeping s0.options (s0.test least) before all
IsKeeping-all {I} {s0} least before all kept later e h = sym (kept_none s0.options (s0.test least) kept later e) ∙ h.goes

-- ---- what holds of literals holds of those that are taken and kept

taking_all : (P : Literal → Type 0) (n : ℕ) (most rest : List Bool → Bool) (taken all : List Literal) → AllByRecursion P taken → AllByRecursion P all → AllByRecursion P (taking n most rest taken all)
unfolding taking
taking_all P n most rest taken [] t a = t
taking_all P n most rest taken (l ∷ ls) t a = by (is_taken n rest most l) (taking_all P n most (λ c. rest c && not (literal_holds l c)) (taken ++ l ∷ []) ls (all-push P taken l t a.0) a.1) (taking_all P n most rest taken ls t a.1)
  where
    by : (b : Bool) → AllByRecursion P (taking n most (λ c. rest c && not (literal_holds l c)) (taken ++ l ∷ []) ls) → AllByRecursion P (taking n most rest taken ls) → AllByRecursion P (if b then taking n most (λ c. rest c && not (literal_holds l c)) (taken ++ l ∷ []) ls else taking n most rest taken ls)
    by true p q = p
    by false p q = q

keeping_all : (P : Literal → Type 0) (n : ℕ) (least : List Bool → Bool) (kept all : List Literal) → AllByRecursion P kept → AllByRecursion P all → AllByRecursion P (keeping n least kept all)
unfolding keeping
keeping_all P n least kept [] k a = k
keeping_all P n least kept (l ∷ ls) k a = by (is_covered n least l (kept ++ ls)) (keeping_all P n least kept ls k a.1) (keeping_all P n least (kept ++ l ∷ []) ls (all-push P kept l k a.0) a.1)
  where
    by : (b : Bool) → AllByRecursion P (keeping n least kept ls) → AllByRecursion P (keeping n least (kept ++ l ∷ []) ls) → AllByRecursion P (if b then keeping n least kept ls else keeping n least (kept ++ l ∷ []) ls)
    by true p q = p
    by false p q = q

literals_of_named : (on : Bool) (later option all : ℕ) → option + later ≡ all → AreNamed all (literals_of on later option)
unfolding literals_of
literals_of_named on zero option all e = tt
literals_of_named on (suc later) option all e = (omega (arith, e), literals_of_named on later (option + 1) all (omega (arith, e)))

all-both : {A : Type 0} (P : A → Type 0) (xs ys : List A) → AllByRecursion P xs → AllByRecursion P ys → AllByRecursion P (xs ++ ys)
all-both P [] ys p q = q
all-both P (x ∷ xs) ys p q = (p.0, all-both P xs ys p.1 q)

pub all_named : (options : ℕ) → AreNamed options (all_literals options)
all_named options = all-both (λ (l : Literal). l.option < options) (literals_of true options 0) (literals_of false options 0) (literals_of_named true options 0 options (omega arith)) (literals_of_named false options 0 options (omega arith))

pub taking_named : (options : ℕ) (most least : List Bool → Bool) → AreNamed options (taking options most least [] (all_literals options))
taking_named options most least = taking_all (λ (l : Literal). l.option < options) options most least [] (all_literals options) tt (all_named options)

pub first_named : (options : ℕ) (least most : List Bool → Bool) → AreNamed options (first_literals options least most)
first_named options least most = keeping_all (λ (l : Literal). l.option < options) options least [] (taking options most least [] (all_literals options)) tt (taking_named options most least)

-- the literals of some options, one more at a time
pub one_literal : (on : Bool) (end option : ℕ) (l : Literal) (before : List Literal) → option < end → l ≡ record { option = option; on = on } → (before ++ l ∷ []) ++ literals_of on (end - (option + 1)) (option + 1) ≡ before ++ literals_of on (end - option) option
unfolding literals_of
one_literal on end option l before m e =
    let left : end - option ≡ suc (end - (option + 1)) = omega (arith, m) in
    append_assoc before (l ∷ []) (literals_of on (end - (option + 1)) (option + 1)) ∙ ap (λ x. before ++ x ∷ literals_of on (end - (option + 1)) (option + 1)) e ∙ ap (λ n. before ++ literals_of on n option) (sym left)

-- ---- the terms lie between

-- a literal that is taken has no configuration outside of a set
abbrev pub IsInside : ℕ → (List Bool → Bool) → Literal → Type 0
IsInside options most l = (l.option < options) × ((c : List Bool) → literal_holds l c ≡ true → most c ≡ true)

taken_inside : (options : ℕ) (rest most : List Bool → Bool) (l : Literal) → l.option < options → AsksFrom 0 options most → is_taken options rest most l ≡ true → IsInside options most l
taken_inside options rest most l n a e = (n, λ c t. inside (literal_holds l c) (most c) t (none_there options (λ d. literal_holds l d && not (most d)) asks none c))
  where
    second : (p q : Bool) → (p && not q) ≡ true → q ≡ false
    second p false t = refl
    second true true t = cc (t)
    second false true t = cc (t)

    none : is_some options 0 (λ d. literal_holds l d && not (most d)) ≡ false
    none = second (is_some options 0 (λ d. rest d && literal_holds l d)) (is_some options 0 (λ d. literal_holds l d && not (most d))) e

    asks : AsksFrom 0 options (λ d. literal_holds l d && not (most d))
    asks = AsksFrom-outside 0 options (literal_holds l) most (literal_asks 0 options l (omega arith) (omega (arith, n))) a

    inside : (p q : Bool) → p ≡ true → (p && not q) ≡ false → q ≡ true
    inside p true t f = refl
    inside true false t f = cc (f)
    inside false false t f = cc (t)

taking_inside : (options : ℕ) (most rest : List Bool → Bool) (taken all : List Literal) → AsksFrom 0 options most → AllByRecursion (IsInside options most) taken → AreNamed options all → AllByRecursion (IsInside options most) (taking options most rest taken all)
unfolding taking
taking_inside options most rest taken [] a t n = t
taking_inside options most rest taken (l ∷ ls) a t n = by (is_taken options rest most l) refl (λ m. taking_inside options most (λ c. rest c && not (literal_holds l c)) (taken ++ l ∷ []) ls a m n.1) (taking_inside options most rest taken ls a t n.1)
  where
    by : (b : Bool) → is_taken options rest most l ≡ b → (AllByRecursion (IsInside options most) (taken ++ l ∷ []) → AllByRecursion (IsInside options most) (taking options most (λ c. rest c && not (literal_holds l c)) (taken ++ l ∷ []) ls)) → AllByRecursion (IsInside options most) (taking options most rest taken ls) → AllByRecursion (IsInside options most) (if b then taking options most (λ c. rest c && not (literal_holds l c)) (taken ++ l ∷ []) ls else taking options most rest taken ls)
    by true e more same = more (all-push (IsInside options most) taken l t (taken_inside options rest most l n.0 a e))
    by false e more same = same

first_inside : (options : ℕ) (least most : List Bool → Bool) → AsksFrom 0 options most → AllByRecursion (IsInside options most) (first_literals options least most)
first_inside options least most a = keeping_all (IsInside options most) options least [] (taking options most least [] (all_literals options)) tt (taking_inside options most least [] (all_literals options) a tt (all_named options))

some_inside : (options : ℕ) (most : List Bool → Bool) (ls : List Literal) (c : List Bool) → AllByRecursion (IsInside options most) ls → some_literal_holds ls c ≡ true → most c ≡ true
some_inside options most [] c h t = cc (t)
some_inside options most (l ∷ ls) c h t = by (literal_holds l c) refl (some_inside options most ls c h.1) t
  where
    by : (b : Bool) → literal_holds l c ≡ b → (some_literal_holds ls c ≡ true → most c ≡ true) → (b || some_literal_holds ls c) ≡ true → most c ≡ true
    by true e rest u = h.0.1 c e
    by false e rest u = rest u

literals_ask : (options : ℕ) (ls : List Literal) → AreNamed options ls → AsksFrom 0 options (some_literal_holds ls)
literals_ask options [] n c d h = refl
literals_ask options (l ∷ ls) n c d h = λ i. literal_asks 0 options l (omega arith) (let m = n.0 in omega (arith, m)) c d h i || literals_ask options ls n.1 c d h i

-- terms of one literal each, with others behind them
some_either : (ls : List Literal) (ts : List (List Literal)) (c : List Bool) → some_term_holds (with_terms ls ts) c ≡ (some_literal_holds ls c || some_term_holds ts c)
some_either [] ts c = refl
some_either (l ∷ ls) ts c = by (literal_holds l c) (some_either ls ts c)
  where
    by : (b : Bool) → some_term_holds (with_terms ls ts) c ≡ (some_literal_holds ls c || some_term_holds ts c) → ((b && true) || some_term_holds (with_terms ls ts) c) ≡ ((b || some_literal_holds ls c) || some_term_holds ts c)
    by true rest = refl
    by false rest = rest

named_either : (options : ℕ) (ls : List Literal) (ts : List (List Literal)) → AreNamed options ls → AreOf options ts → AreOf options (with_terms ls ts)
named_either options [] ts h k = k
named_either options (l ∷ ls) ts h k = ((h.0, tt), named_either options ls ts h.1 k)

pub literals_first_named : (options : ℕ) (least most : List Bool → Bool) → AreOf options (literals_first options least most)
unfolding literals_first
literals_first_named options least most = named_either options (first_literals options least most) (terms_between options 0 (left_by (first_literals options least most) least) most) (first_named options least most) (named options (left_by (first_literals options least most) least) most)

left_within : (ls : List Literal) (least most : List Bool → Bool) → ((c : List Bool) → least c ≡ true → most c ≡ true) → (c : List Bool) → left_by ls least c ≡ true → most c ≡ true
left_within ls least most w c t = w c (first (least c) (not (some_literal_holds ls c)) t)
  where
    first : (a b : Bool) → (a && b) ≡ true → a ≡ true
    first true b e = refl
    first false b e = cc (e)

pub literals_lie : (options : ℕ) (least most : List Bool → Bool) → AsksFrom 0 options least → AsksFrom 0 options most → ((c : List Bool) → least c ≡ true → most c ≡ true) → LiesBetween least most (some_term_holds (literals_first options least most))
unfolding literals_first
literals_lie options least most a b w = record {
  above = λ c t. some_either ls ts c ∙ over c (some_literal_holds ls c) refl t;
  below = λ c t. under c (some_literal_holds ls c) refl (sym (some_either ls ts c) ∙ t);
}
  where
    ls : List Literal
    ls = first_literals options least most

    ts : List (List Literal)
    ts = terms_between options 0 (left_by ls least) most

    lies : LiesBetween (left_by ls least) most (some_term_holds ts)
    lies = lies_between options 0 (left_by ls least) most (AsksFrom-outside 0 options least (some_literal_holds ls) a (literals_ask options ls (first_named options least most))) b (left_within ls least most w)

    over : (c : List Bool) (some : Bool) → some_literal_holds ls c ≡ some → least c ≡ true → (some || some_term_holds ts c) ≡ true
    over c true e t = refl
    over c false e t = lies.above c ((λ i. t i && not (e i)))

    under : (c : List Bool) (some : Bool) → some_literal_holds ls c ≡ some → (some || some_term_holds ts c) ≡ true → most c ≡ true
    under c true e t = some_inside options most ls c (first_inside options least most b) e
    under c false e t = lies.below c t

-- ---- the terms behind the literals

-- what is left is still within
pub rest_within : {I : Type 0} {s0 s1 : Sets I} → Extends s0 s1 → (literals : List Literal) (least most rest : I) → s0.is_known most ≡ true → IsWithin s0 least most → IsSet s1 rest (left_by literals (s0.test least)) → IsWithin s1 rest most
rest_within {I} {s0} x literals least most rest k w h c t = x.test most c k ∙ left_within literals (s0.test least) (s0.test most) w c (sym (h.test c) ∙ t)

-- the terms of what is left
rest_terms : {I : Type 0} {s0 s1 : Sets I} → Extends s0 s1 → (literals : List Literal) (least most rest : I) → s0.is_known most ≡ true → IsSet s1 rest (left_by literals (s0.test least)) → terms_between s1.options 0 (s1.test rest) (s1.test most) ≡ terms_between s0.options 0 (left_by literals (s0.test least)) (s0.test most)
rest_terms x literals least most rest k h = λ i. terms_between (x.options i) 0 (λ c. h.test c i) (λ c. x.test most c k i)

length_behind : (ls : List Literal) (ts : List (List Literal)) → length ts ≤ length (with_terms ls ts)
length_behind [] ts = omega arith
length_behind (l ∷ ls) ts = let less = length_behind ls ts in omega (arith, less)

few_is : (ts : List (List Literal)) (found : List (List Literal)) → Some found ≡ if_few ts → found ≡ ts
few_is ts found e = by (nat_le (length ts) 32) e
  where
    by : (t : Bool) → Some found ≡ (if t then Some ts else None) → found ≡ ts
    by true f = cc (f)
    by false f = cc (f)

many_is : (ts : List (List Literal)) → None ≡ if_few ts → 32 < length ts
many_is ts e = by (nat_le (length ts) 32) refl e
  where
    by : (t : Bool) → nat_le (length ts) 32 ≡ t → None ≡ (if t then Some ts else None) → 32 < length ts
    by true f g = cc (g)
    by false f g = grind (arith, nat_tests)

many_none : (ts : List (List Literal)) → 32 < length ts → None ≡ if_few ts
many_none ts m = by (nat_le (length ts) 32) refl
  where
    by : (t : Bool) → nat_le (length ts) 32 ≡ t → None ≡ (if t then Some ts else None)
    by true f = absurd (grind (arith, nat_tests))
    by false f = refl

pub none_behind : {I : Type 0} {s0 s1 : Sets I} → Extends s0 s1 → (literals : List Literal) (least most rest : I) → s0.is_known most ≡ true → IsSet s1 rest (left_by literals (s0.test least)) → None ≡ if_few (terms_between s1.options 0 (s1.test rest) (s1.test most)) → None ≡ if_few (terms_behind s0.options (s0.test least) (s0.test most) literals)
none_behind {I} {s0} x literals least most rest k h e =
    let ts = terms_between s0.options 0 (left_by literals (s0.test least)) (s0.test most) in
    let many = many_is ts (e ∙ ap if_few (rest_terms x literals least most rest k h)) in
    let more = length_behind literals ts in
    many_none (with_terms literals ts) (omega (arith, many, more))

pub some_behind : {I : Type 0} {s0 s1 : Sets I} → Extends s0 s1 → (literals : List Literal) (least most rest : I) (terms all : List (List Literal)) (found : Option (List (List Literal))) → s0.is_known most ≡ true → IsSet s1 rest (left_by literals (s0.test least)) → Some terms ≡ if_few (terms_between s1.options 0 (s1.test rest) (s1.test most)) → all ≡ with_terms literals terms → found ≡ if_few all → found ≡ if_few (terms_behind s0.options (s0.test least) (s0.test most) literals)
some_behind {I} {s0} {s1} x literals least most rest terms all found k h e a f =
    let ts = terms_between s0.options 0 (left_by literals (s0.test least)) (s0.test most) in
    let same : terms ≡ ts = few_is ts terms (e ∙ ap if_few (rest_terms x literals least most rest k h)) in
    f ∙ ap if_few (a ∙ ap (λ us. with_terms literals us) same)

pub first_terms : (options : ℕ) (least most : List Bool → Bool) (literals : List Literal) → literals ≡ first_literals options least most → terms_behind options least most literals ≡ literals_first options least most
unfolding literals_first
first_terms options least most literals e = ap (λ ls. terms_behind options least most ls) e

pub drop_past : {A : Type 0} (xs : List A) (i : ℕ) → length xs ≤ i → drop i xs ≡ []
drop_past [] zero l = refl
drop_past [] (suc i) l = refl
drop_past (x ∷ xs) zero l = absurd (omega (arith, l))
drop_past (x ∷ xs) (suc i) l = drop_past xs i (omega (arith, l))

pub literals_named : (options count : ℕ) (all : List Literal) → count ≡ options → all ≡ all_literals count → AreNamed options all
literals_named options count all o e = subst (AreNamed options) (sym (e ∙ ap all_literals o)) (all_named options)

-- those that are taken of all literals are named
pub firsts_named : {I : Type 0} {s0 s1 : Sets I} → Extends s0 s1 → (count : ℕ) (least most : I) (none all taken : List Literal) → count ≡ s0.options → none ≡ [] → all ≡ all_literals count → taken ≡ taking s0.options (s0.test most) (s0.test least) none all → AreNamed s1.options taken
firsts_named {I} {s0} x count least most none all taken o n a e =
    let same : taken ≡ taking s0.options (s0.test most) (s0.test least) [] (all_literals s0.options) = e ∙ (λ i. taking s0.options (s0.test most) (s0.test least) (n i) ((a ∙ ap all_literals o) i)) in
    subst (λ k. AreNamed k taken) (sym x.options) (subst (AreNamed s0.options) (sym same) (taking_named s0.options (s0.test most) (s0.test least)))

pub firsts_are : {I : Type 0} {s0 s1 : Sets I} → Extends s0 s1 → (count : ℕ) (least most : I) (none none' all taken kept : List Literal) → s0.is_known least ≡ true → count ≡ s0.options → none ≡ [] → none' ≡ [] → all ≡ all_literals count → taken ≡ taking s0.options (s0.test most) (s0.test least) none all → kept ≡ keeping s1.options (s1.test least) none' taken → kept ≡ first_literals s0.options (s0.test least) (s0.test most)
firsts_are {I} {s0} x count least most none none' all taken kept k o n m a e f =
    let same : taken ≡ taking s0.options (s0.test most) (s0.test least) [] (all_literals s0.options) = e ∙ (λ i. taking s0.options (s0.test most) (s0.test least) (n i) ((a ∙ ap all_literals o) i)) in
    f ∙ (λ i. keeping (x.options i) (λ c. x.test least c k i) (m i) (same i))

pub firsts_later : {I : Type 0} {s0 s1 : Sets I} → Extends s0 s1 → (least most : I) (literals : List Literal) → literals ≡ first_literals s0.options (s0.test least) (s0.test most) → AreNamed s1.options literals
firsts_later {I} {s0} x least most literals e = subst (λ k. AreNamed k literals) (sym x.options) (subst (AreNamed s0.options) (sym e) (first_named s0.options (s0.test least) (s0.test most)))

pub first_terms_later : {I : Type 0} {s0 s1 : Sets I} → Extends s0 s1 → (least most : I) (literals : List Literal) → s0.is_known least ≡ true → s0.is_known most ≡ true → literals ≡ first_literals s0.options (s0.test least) (s0.test most) → if_few (terms_behind s1.options (s1.test least) (s1.test most) literals) ≡ if_few (literals_first s0.options (s0.test least) (s0.test most))
first_terms_later {I} {s0} x least most literals kl km e = (λ i. if_few (terms_behind (x.options i) (λ c. x.test least c kl i) (λ c. x.test most c km i) literals)) ∙ ap if_few (first_terms s0.options (s0.test least) (s0.test most) literals e)

-- ---- keeping, one place after the other

pub items_behind : {A : Type 0} (xs : List A) (k : ℕ) → take (length xs - k) (drop k xs) ≡ drop k xs
items_behind xs k = take_all (length xs - k) (drop k xs) (omega (arith, length-drop k xs))

pub kept_later : {I : Type 0} {s0 s : Sets I} {least : I} {before all kept later : List Literal} → IsKeeping s0 s least before all kept later → AreNamed s.options kept
kept_later {I} {s0} {s} {least} {before} {all} {kept} h = subst (λ n. AreNamed n kept) (sym h.extends.options) h.kept_named

pub later_named : {I : Type 0} {s0 s : Sets I} {least : I} {before kept : List Literal} (all : List Literal) (i : ℕ) → i < length all → IsKeeping s0 s least before all kept (drop i all) → AreNamed s.options (drop (i + 1) all)
later_named {I} {s0} all i l h = subst (λ n. AreNamed n (drop (i + 1) all)) (sym h.extends.options) (subst (AreNamed s0.options) (drop_more all i (get_or all i none) l) h.later_named).1
  where
    none : Literal
    none = record { option = 0; on = false }

at_place : {I : Type 0} {s0 s : Sets I} (other : Literal) (least : I) (before all kept : List Literal) (i : ℕ) (l : Literal) → i < length all → l ≡ get_or all i other → IsKeeping s0 s least before all kept (drop i all) → IsKeeping s0 s least before all kept (l ∷ drop (i + 1) all)
at_place {I} {s0} {s} other least before all kept i l m here h = subst (λ ls. IsKeeping s0 s least before all kept ls) (next_literal other all i l m here) h

-- a literal is kept, or it isn't
pub IsKeeping-next : {I : Type 0} {s0 s s' : Sets I} (other : Literal) → Extends s s' → (least : I) (before all kept after : List Literal) (i : ℕ) (l : Literal) → s0.is_known least ≡ true → i < length all → l ≡ get_or all i other → IsKeeping s0 s least before all kept (drop i all) → after ≡ (if is_covered s.options (s.test least) l (kept ++ drop (i + 1) all) then kept else kept ++ l ∷ []) → IsKeeping s0 s' least before all after (drop (i + 1) all)
IsKeeping-next {I} {s0} {s} {s'} other y least before all kept after i l k m here h a = IsKeeping-step y least before all kept after l (drop (i + 1) all) (is_covered s.options (s.test least) l (kept ++ drop (i + 1) all)) k (at_place other least before all kept i l m here h) refl a

-- what is told of a literal decides
pub kept_both : (kept : List Literal) (l : Literal) (covered : Bool) {t : Bool} → t ≡ covered → t ≡ true → kept ≡ (if covered then kept else kept ++ l ∷ [])
kept_both kept l covered e is = ap (λ b. if b then kept else kept ++ l ∷ []) (sym is ∙ e)

pub kept_more : (kept : List Literal) (l : Literal) (covered : Bool) {t : Bool} → t ≡ covered → t ≡ false → kept ++ l ∷ [] ≡ (if covered then kept else kept ++ l ∷ [])
kept_more kept l covered e is = ap (λ b. if b then kept else kept ++ l ∷ []) (sym is ∙ e)

-- no literal leaves all
pub no_literals : (options : ℕ) (least most : List Bool → Bool) → first_literals options least most ≡ [] → literals_first options least most ≡ terms_between options 0 least most
unfolding literals_first
no_literals options least most e = ap (λ ls. terms_behind options least most ls) e ∙ (λ i. terms_between options 0 (λ c. and_true (least c) i) most)
