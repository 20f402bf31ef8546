-- The terms between two sets: where there is none, or a single one; that options on which neither set depends are passed over; and that the terms lie between the sets.
use Rattle.std.proofs.Common.{◌≡◌, ◌≢◌, inl, inr, ℕ, ◌+◌, ◌<◌, ◌≤◌, zero, suc, Bool, true, false, List, [], ◌∷◌, ◌++◌, refl, sym, ◌∙◌, ap, arith}
use Rattle.std.specs.Prelude.{◌&&◌, ◌||◌, not, if◌then◌else◌}
use Rattle.std.specs.List.{AllByRecursion}
use Rattle.std.proofs.lemmas.Bool.{cases_eq}
use Rattle.std.proofs.lemmas.List.Folds.{list_any-append}
use Rattle.vx_space.specs.Config.{value_of, with_option}
use Rattle.vx_space.specs.Under.{IsFree, fixed}
use Rattle.vx_space.proofs.Configs.{value_of-same, value_of-other}
use Rattle.vx_explain.specs.declared.literal.Literal.{Literal}
use Rattle.vx_explain.specs.Between.{outside, terms_between, with_literal}
use Rattle.vx_explain.specs.Rules.{AreOf, literal_holds, some_term_holds, term_holds}

-- ---- truth values

and_false : (a : Bool) → (a && false) ≡ false
and_false true = refl
and_false false = refl

and_true : (a : Bool) → (a && true) ≡ a
and_true true = refl
and_true false = refl

and_same : (a : Bool) → (a && a) ≡ a
and_same true = refl
and_same false = refl

or_same : (a : Bool) → (a || a) ≡ a
or_same true = refl
or_same false = refl

or_true : (a : Bool) → (a || true) ≡ true
or_true true = refl
or_true false = refl

first_of : (a b : Bool) → (a && b) ≡ true → a ≡ true
first_of true b t = refl
first_of false b t = cc (t)

-- nothing of what lies within is outside
within_none : (a b : Bool) → (a ≡ true → b ≡ true) → (a && not b) ≡ false
within_none true true w = refl
within_none true false w = let wrong = w refl in cc (wrong)
within_none false b w = refl

all_left : (a b s t : Bool) → s ≡ false → t ≡ false → ((a && not s) || (b && not t)) ≡ (a || b)
all_left a b s t e f = rw (e, f) (λ i. and_true a i || and_true b i)

some_side : (v a b : Bool) → (if v then b else a) ≡ true → (a || b) ≡ true
some_side true a b t = ap (λ x. a || x) t ∙ or_true a
some_side false a b t = ap (λ x. x || b) t

rest_within : (l0 l1 m0 m1 f0 f1 : Bool) → (l0 ≡ true → m0 ≡ true) → (l1 ≡ true → m1 ≡ true) → ((l0 && not m1) ≡ true → f0 ≡ true) → ((l1 && not m0) ≡ true → f1 ≡ true) → ((l0 && not f0) || (l1 && not f1)) ≡ true → (m0 && m1) ≡ true
rest_within l0 l1 true true f0 f1 a b p q t = refl
rest_within true l1 false m1 f0 f1 a b p q t = let wrong = a refl in cc (wrong)
rest_within l0 true m0 false f0 f1 a b p q t = let wrong = b refl in cc (wrong)
rest_within true false true false true f1 a b p q t = cc (t)
rest_within true false true false false f1 a b p q t = let wrong = p refl in cc (wrong)
rest_within false true false true f0 true a b p q t = cc (t)
rest_within false true false true f0 false a b p q t = let wrong = q refl in cc (wrong)
rest_within false false true false f0 f1 a b p q t = cc (t)
rest_within false false false m1 f0 f1 a b p q t = cc (t)

all_above : (v l0 l1 f0 f1 g : Bool) → (((l0 && not f0) || (l1 && not f1)) ≡ true → g ≡ true) → (if v then l1 else l0) ≡ true → ((if v then f1 else f0) || g) ≡ true
all_above true l0 true f0 true g r t = refl
all_above true true true true false g r t = r refl
all_above true true true false false g r t = r refl
all_above true false true f0 false g r t = r refl
all_above true l0 false f0 f1 g r t = cc (t)
all_above false true l1 true f1 g r t = refl
all_above false true l1 false f1 g r t = r refl
all_above false false l1 f0 f1 g r t = cc (t)

all_below : (v m0 m1 f0 f1 g : Bool) → (f0 ≡ true → m0 ≡ true) → (f1 ≡ true → m1 ≡ true) → (g ≡ true → (m0 && m1) ≡ true) → ((if v then f1 else f0) || g) ≡ true → (if v then m1 else m0) ≡ true
all_below true m0 true f0 f1 g a b r t = refl
all_below true m0 false f0 true g a b r t = b refl
all_below true true false f0 false true a b r t = r refl
all_below true false false f0 false true a b r t = r refl
all_below true m0 false f0 false false a b r t = cc (t)
all_below false true m1 f0 f1 g a b r t = refl
all_below false false m1 true f1 g a b r t = a refl
all_below false false m1 false f1 true a b r t = r refl
all_below false false m1 false f1 false a b r t = cc (t)

-- ---- what a set asks

-- the set tells configurations apart by their values alone
abbrev pub AsksValues : (List Bool → Bool) → Type 0
AsksValues set = (c d : List Bool) → ((i : ℕ) → value_of c i ≡ value_of d i) → set c ≡ set d

-- the set tells them apart by so many options, from one on
abbrev pub AsksFrom : ℕ → ℕ → (List Bool → Bool) → Type 0
AsksFrom option later set = (c d : List Bool) → ((i : ℕ) → option ≤ i → i < option + later → value_of c i ≡ value_of d i) → set c ≡ set d

pub AsksValues-of : (option later : ℕ) (set : List Bool → Bool) → AsksFrom option later set → AsksValues set
AsksValues-of option later set a c d h = a c d (λ i l m. h i)

-- a value that an option has already changes nothing
own_value : (c : List Bool) (i : ℕ) (b : Bool) → value_of c i ≡ b → (j : ℕ) → value_of (with_option c i b) j ≡ value_of c j
own_value c i b e j = elim (cases_eq i j) [
  | inl q ↦ ap (value_of (with_option c i b)) (sym q) ∙ value_of-same c i b ∙ sym e ∙ ap (value_of c) q
  | inr n ↦ value_of-other c i j b n
]

-- a set is its side by the option's value
pub by_side : (set : List Bool → Bool) → AsksValues set → (c : List Bool) (option : ℕ) → set c ≡ (if value_of c option then fixed set option true c else fixed set option false c)
by_side set a c option = by (value_of c option) refl
  where
    by : (b : Bool) → value_of c option ≡ b → set c ≡ (if b then fixed set option true c else fixed set option false c)
    by true e = a c (with_option c option true) (λ i. sym (own_value c option true e i))
    by false e = a c (with_option c option false) (λ i. sym (own_value c option false e i))

-- a set that doesn't depend on an option is both of its sides
pub free_side : (set : List Bool → Bool) → AsksValues set → (option : ℕ) → IsFree set option → (b : Bool) (c : List Bool) → fixed set option b c ≡ set c
free_side set a option f b c = by (value_of c option) b refl
  where
    by : (v b : Bool) → value_of c option ≡ v → set (with_option c option b) ≡ set c
    by true true e = a (with_option c option true) c (own_value c option true e)
    by false false e = a (with_option c option false) c (own_value c option false e)
    by true false e = sym (f c) ∙ a (with_option c option true) c (own_value c option true e)
    by false true e = f c ∙ a (with_option c option false) c (own_value c option false e)

set_agree : (c d : List Bool) (option i : ℕ) (b : Bool) → (option ≢ i → value_of c i ≡ value_of d i) → value_of (with_option c option b) i ≡ value_of (with_option d option b) i
set_agree c d option i b h = elim (cases_eq option i) [
  | inl q ↦ ap (value_of (with_option c option b)) (sym q) ∙ value_of-same c option b ∙ sym (value_of-same d option b) ∙ ap (value_of (with_option d option b)) q
  | inr n ↦ value_of-other c option i b n ∙ h n ∙ sym (value_of-other d option i b n)
]

pub AsksFrom-side : (option later : ℕ) (set : List Bool → Bool) (b : Bool) → AsksFrom option (suc later) set → AsksFrom (option + 1) later (fixed set option b)
AsksFrom-side option later set b a c d h = a (with_option c option b) (with_option d option b) (λ i l m. set_agree c d option i b (λ n. h i (omega (arith, l, n)) (omega (arith, m))))

-- a set that depends on no option before one asks those from it on
pub AsksFrom-free : (option later : ℕ) (set : List Bool → Bool) → AsksFrom 0 (option + later) set → ((j : ℕ) → j < option → IsFree set j) → AsksFrom option later set
AsksFrom-free option later set a f = go option (omega arith)
  where
    go : (k : ℕ) → k ≤ option → (c d : List Bool) → ((i : ℕ) → k ≤ i → i < option + later → value_of c i ≡ value_of d i) → set c ≡ set d
    go zero l c d h = a c d (λ i p q. h i p (omega (arith, q)))
    go (suc k) l c d h =
        let c' = with_option c k (value_of d k) in
        let values : AsksValues set = λ x y e. a x y (λ i p q. e i) in
        sym (free_side set values k (f k (omega (arith, l))) (value_of d k) c) ∙ go k (omega (arith, l)) c' d (λ i p q. elim (cases_eq k i) [
          | inl e ↦ ap (value_of c') (sym e) ∙ value_of-same c k (value_of d k) ∙ ap (value_of d) e
          | inr n ↦ value_of-other c k i (value_of d k) n ∙ h i (omega (arith, p, n)) q
        ])

-- ---- no term, and a single one

-- the parts of a sum of terms, one after the other
abbrev pub joined : ℕ → List (List Literal) → List (List Literal) → List (List Literal) → List (List Literal)
joined option off on rest = with_literal option false off ++ with_literal option true on ++ rest

joined_same : (option : ℕ) (off off' on on' rest rest' : List (List Literal)) → off ≡ off' → on ≡ on' → rest ≡ rest' → joined option off on rest ≡ joined option off' on' rest'
joined_same option off off' on on' rest rest' e f g = λ i. joined option (e i) (f i) (g i)

-- equal sets have the same terms
same_between : (later option : ℕ) (least least' most most' : List Bool → Bool) → ((c : List Bool) → least c ≡ least' c) → ((c : List Bool) → most c ≡ most' c) → terms_between later option least most ≡ terms_between later option least' most'
same_between later option least least' most most' e f = λ i. terms_between later option (λ c. e c i) (λ c. f c i)

-- the terms of the two sides, and what is left of the least set beside them
abbrev pub off_terms : ℕ → ℕ → (List Bool → Bool) → (List Bool → Bool) → List (List Literal)
off_terms later option least most = terms_between later (option + 1) (outside (fixed least option false) (fixed most option true)) (fixed most option false)

abbrev pub on_terms : ℕ → ℕ → (List Bool → Bool) → (List Bool → Bool) → List (List Literal)
on_terms later option least most = terms_between later (option + 1) (outside (fixed least option true) (fixed most option false)) (fixed most option true)

abbrev pub left_over : ℕ → (List Bool → Bool) → List (List Literal) → List (List Literal) → List Bool → Bool
left_over option least off on c = outside (fixed least option false) (some_term_holds off) c || outside (fixed least option true) (some_term_holds on) c

abbrev pub on_both : ℕ → (List Bool → Bool) → List Bool → Bool
on_both option most c = fixed most option false c && fixed most option true c

pub unfold_terms : (later option : ℕ) (least most : List Bool → Bool) → terms_between (suc later) option least most ≡ joined option (off_terms later option least most) (on_terms later option least most) (terms_between later (option + 1) (left_over option least (off_terms later option least most) (on_terms later option least most)) (on_both option most))
unfolding terms_between
unfold_terms later option least most = refl

-- where the sides have no terms, all of the least set is left
rest_all : (option : ℕ) (least : List Bool → Bool) (off on : List (List Literal)) → off ≡ [] → on ≡ [] → (c : List Bool) → left_over option least off on c ≡ (fixed least option false c || fixed least option true c)
rest_all option least off on e f c = all_left (fixed least option false c) (fixed least option true c) (some_term_holds off c) (some_term_holds on c) (ap (λ ts. some_term_holds ts c) e) (ap (λ ts. some_term_holds ts c) f)

pub none_between : (later option : ℕ) (least most : List Bool → Bool) → ((c : List Bool) → least c ≡ false) → terms_between later option least most ≡ []
unfolding terms_between
none_between zero option least most none = rw (none []) refl
none_between (suc later) option least most none =
    let low = none_between later (option + 1) (outside (fixed least option false) (fixed most option true)) (fixed most option false) (λ c. ap (λ b. b && not (fixed most option true c)) (none (with_option c option false))) in
    let high = none_between later (option + 1) (outside (fixed least option true) (fixed most option false)) (fixed most option true) (λ c. ap (λ b. b && not (fixed most option false c)) (none (with_option c option true))) in
    let rest = none_between later (option + 1) (left_over option least (off_terms later option least most) (on_terms later option least most)) (on_both option most) (λ c. rest_all option least (off_terms later option least most) (on_terms later option least most) low high c ∙ (λ i. none (with_option c option false) i || none (with_option c option true) i)) in
    joined_same option (off_terms later option least most) [] (on_terms later option least most) [] (terms_between later (option + 1) (left_over option least (off_terms later option least most) (on_terms later option least most)) (on_both option most)) [] low high rest

AsksFrom-or : (option later : ℕ) (a b : List Bool → Bool) → AsksFrom option later a → AsksFrom option later b → AsksFrom option later (λ c. a c || b c)
AsksFrom-or option later a b p q c d h = λ i. p c d h i || q c d h i

pub AsksFrom-and : (option later : ℕ) (a b : List Bool → Bool) → AsksFrom option later a → AsksFrom option later b → AsksFrom option later (λ c. a c && b c)
AsksFrom-and option later a b p q c d h = λ i. p c d h i && q c d h i

pub AsksFrom-outside : (option later : ℕ) (a b : List Bool → Bool) → AsksFrom option later a → AsksFrom option later b → AsksFrom option later (outside a b)
AsksFrom-outside option later a b p q c d h = λ i. p c d h i && not (q c d h i)

-- a single term that asks nothing
pub whole_between : (later option : ℕ) (least most : List Bool → Bool) → AsksFrom option later least → ((c : List Bool) → most c ≡ true) → (d : List Bool) → least d ≡ true → terms_between later option least most ≡ [] ∷ []
unfolding terms_between
whole_between zero option least most a all d t =
    let here : least [] ≡ true = a [] d (λ i l m. absurd (omega (arith, l, m))) ∙ t in
    rw here refl
whole_between (suc later) option least most a all d t =
    let values = AsksValues-of option (suc later) least a in
    let low = none_between later (option + 1) (outside (fixed least option false) (fixed most option true)) (fixed most option false) (λ c. ap (λ b. fixed least option false c && not b) (all (with_option c option true)) ∙ and_false (fixed least option false c)) in
    let high = none_between later (option + 1) (outside (fixed least option true) (fixed most option false)) (fixed most option true) (λ c. ap (λ b. fixed least option true c && not b) (all (with_option c option false)) ∙ and_false (fixed least option true c)) in
    let rest = whole_between later (option + 1) (λ c. fixed least option false c || fixed least option true c) (on_both option most) (AsksFrom-or (option + 1) later (fixed least option false) (fixed least option true) (AsksFrom-side option later least false a) (AsksFrom-side option later least true a)) (λ c. λ i. all (with_option c option false) i && all (with_option c option true) i) d (some_side (value_of d option) (fixed least option false d) (fixed least option true d) (sym (by_side least values d option) ∙ t)) in
    let left = same_between later (option + 1) (left_over option least (off_terms later option least most) (on_terms later option least most)) (λ c. fixed least option false c || fixed least option true c) (on_both option most) (on_both option most) (rest_all option least (off_terms later option least most) (on_terms later option least most) low high) (λ c. refl) in
    joined_same option (off_terms later option least most) [] (on_terms later option least most) [] (terms_between later (option + 1) (left_over option least (off_terms later option least most) (on_terms later option least most)) (on_both option most)) ([] ∷ []) low high (left ∙ rest)

-- ---- options that are passed over

pass_one : (later option : ℕ) (least most : List Bool → Bool) → AsksValues least → AsksValues most → IsFree least option → IsFree most option → ((c : List Bool) → least c ≡ true → most c ≡ true) → terms_between (suc later) option least most ≡ terms_between later (option + 1) least most
pass_one later option least most a b f g w =
    let low = none_between later (option + 1) (outside (fixed least option false) (fixed most option true)) (fixed most option false) (λ c. (λ i. free_side least a option f false c i && not (free_side most b option g true c i)) ∙ within_none (least c) (most c) (w c)) in
    let high = none_between later (option + 1) (outside (fixed least option true) (fixed most option false)) (fixed most option true) (λ c. (λ i. free_side least a option f true c i && not (free_side most b option g false c i)) ∙ within_none (least c) (most c) (w c)) in
    let left = same_between later (option + 1) (left_over option least (off_terms later option least most) (on_terms later option least most)) least (on_both option most) most (λ c. rest_all option least (off_terms later option least most) (on_terms later option least most) low high c ∙ (λ i. free_side least a option f false c i || free_side least a option f true c i) ∙ or_same (least c)) (λ c. (λ i. free_side most b option g false c i && free_side most b option g true c i) ∙ and_same (most c)) in
    unfold_terms later option least most ∙ joined_same option (off_terms later option least most) [] (on_terms later option least most) [] (terms_between later (option + 1) (left_over option least (off_terms later option least most) (on_terms later option least most)) (on_both option most)) (terms_between later (option + 1) least most) low high left

pub pass_to : (k later option all at : ℕ) (least most : List Bool → Bool) → all ≡ k + later → at ≡ option + k → AsksValues least → AsksValues most → ((j : ℕ) → j < at → IsFree least j) → ((j : ℕ) → j < at → IsFree most j) → ((c : List Bool) → least c ≡ true → most c ≡ true) → terms_between all option least most ≡ terms_between later at least most
pass_to zero later option all at least most e g a b fl fm w =
    let same : all ≡ later = omega (arith, e) in
    let here : option ≡ at = omega (arith, g) in
    λ i. terms_between (same i) (here i) least most
pass_to (suc k) later option all at least most e g a b fl fm w =
    let one : all ≡ suc (k + later) = omega (arith, e) in
    let less : option < at = omega (arith, g) in
    ap (λ n. terms_between n option least most) one ∙ pass_one (k + later) option least most a b (fl option less) (fm option less) w ∙ pass_to k later (option + 1) (k + later) at least most refl (omega (arith, g)) a b fl fm w

-- ---- that the terms lie between the sets

-- each literal is of one of so many options, from one on
abbrev AreAmong : ℕ → ℕ → List (List Literal) → Type 0
AreAmong option later terms = AllByRecursion (λ term. AllByRecursion (λ (l : Literal). (option ≤ l.option) × (l.option < option + later)) term) terms

all-both : {A : Type 0} (P : A → Type 0) (xs ys : List A) → AllByRecursion P xs → AllByRecursion P ys → AllByRecursion P (xs ++ ys)
all-both P [] ys p q = q
all-both P (x ∷ xs) ys p q = (p.0, all-both P xs ys p.1 q)

literals_wider : (option later : ℕ) (term : List Literal) → AllByRecursion (λ (l : Literal). (option + 1 ≤ l.option) × (l.option < option + 1 + later)) term → AllByRecursion (λ (l : Literal). (option ≤ l.option) × (l.option < option + suc later)) term
literals_wider option later [] p = tt
literals_wider option later (l ∷ ls) p =
    let low = p.0.0 in
    let high = p.0.1 in
    ((omega (arith, low), omega (arith, high)), literals_wider option later ls p.1)

terms_wider : (option later : ℕ) (terms : List (List Literal)) → AreAmong (option + 1) later terms → AreAmong option (suc later) terms
terms_wider option later [] p = tt
terms_wider option later (t ∷ ts) p = (literals_wider option later t p.0, terms_wider option later ts p.1)

side_among : (option later : ℕ) (on : Bool) (terms : List (List Literal)) → AreAmong (option + 1) later terms → AreAmong option (suc later) (with_literal option on terms)
side_among option later on [] p = tt
side_among option later on (t ∷ ts) p = (((omega arith, omega arith), literals_wider option later t p.0), side_among option later on ts p.1)

among : (later option : ℕ) (least most : List Bool → Bool) → AreAmong option later (terms_between later option least most)
unfolding terms_between
among zero option least most = by (least [])
  where
    by : (b : Bool) → AreAmong option zero (if b then [] ∷ [] else [])
    by true = (tt, tt)
    by false = tt
among (suc later) option least most =
    let P : List Literal → Type 0 = λ term. AllByRecursion (λ (l : Literal). (option ≤ l.option) × (l.option < option + suc later)) term in
    let off = off_terms later option least most in
    let on = on_terms later option least most in
    let rest = terms_between later (option + 1) (left_over option least off on) (on_both option most) in
    all-both P (with_literal option false off ++ with_literal option true on) rest (all-both P (with_literal option false off) (with_literal option true on) (side_among option later false off (among later (option + 1) (outside (fixed least option false) (fixed most option true)) (fixed most option false))) (side_among option later true on (among later (option + 1) (outside (fixed least option true) (fixed most option false)) (fixed most option true)))) (terms_wider option later rest (among later (option + 1) (left_over option least off on) (on_both option most)))

-- so each literal is of an option
literals_named : (later : ℕ) (term : List Literal) → AllByRecursion (λ (l : Literal). (0 ≤ l.option) × (l.option < 0 + later)) term → AllByRecursion (λ (l : Literal). l.option < later) term
literals_named later [] p = tt
literals_named later (l ∷ ls) p = let high = p.0.1 in (omega (arith, high), literals_named later ls p.1)

terms_named : (later : ℕ) (terms : List (List Literal)) → AreAmong 0 later terms → AreOf later terms
terms_named later [] p = tt
terms_named later (t ∷ ts) p = (literals_named later t p.0, terms_named later ts p.1)

pub named : (options : ℕ) (least most : List Bool → Bool) → AreOf options (terms_between options 0 least most)
named options least most = terms_named options (terms_between options 0 least most) (among options 0 least most)

pub literal_asks : (option later : ℕ) (l : Literal) → option ≤ l.option → l.option < option + later → AsksFrom option later (literal_holds l)
literal_asks option later l p q c d h = by l.on
  where
    by : (b : Bool) → (if b then value_of c l.option else not (value_of c l.option)) ≡ (if b then value_of d l.option else not (value_of d l.option))
    by true = h l.option p q
    by false = ap not (h l.option p q)

term_asks : (option later : ℕ) (term : List Literal) → AllByRecursion (λ (l : Literal). (option ≤ l.option) × (l.option < option + later)) term → AsksFrom option later (term_holds term)
term_asks option later [] p c d h = refl
term_asks option later (l ∷ ls) p c d h = λ i. literal_asks option later l p.0.0 p.0.1 c d h i && term_asks option later ls p.1 c d h i

terms_ask : (option later : ℕ) (terms : List (List Literal)) → AreAmong option later terms → AsksFrom option later (some_term_holds terms)
terms_ask option later [] p c d h = refl
terms_ask option later (t ∷ ts) p c d h = λ i. term_asks option later t p.0 c d h i || terms_ask option later ts p.1 c d h i

-- so the terms depend on no option before
pub terms_free : (later option : ℕ) (least most : List Bool → Bool) (j : ℕ) → j < option → IsFree (some_term_holds (terms_between later option least most)) j
terms_free later option least most j l c = terms_ask option later (terms_between later option least most) (among later option least most) (with_option c j true) (with_option c j false) (λ i p q.
    let n : j ≢ i = λ e. absurd (omega (arith, e, l, p)) in
    value_of-other c j i true n ∙ sym (value_of-other c j i false n))

-- a literal before each term is met with all of them
side_holds : (option : ℕ) (on : Bool) (terms : List (List Literal)) (c : List Bool) → some_term_holds (with_literal option on terms) c ≡ ((if on then value_of c option else not (value_of c option)) && some_term_holds terms c)
side_holds option on [] c = sym (and_false (if on then value_of c option else not (value_of c option)))
side_holds option on (t ∷ ts) c = ap (λ b. ((if on then value_of c option else not (value_of c option)) && term_holds t c) || b) (side_holds option on ts c) ∙ by (if on then value_of c option else not (value_of c option)) (term_holds t c) (some_term_holds ts c)
  where
    by : (l a b : Bool) → ((l && a) || (l && b)) ≡ (l && (a || b))
    by true a b = refl
    by false a b = refl

-- one of all terms holds just where one of the side does, or one of the rest
pub joined_holds : (option : ℕ) (off on rest : List (List Literal)) (c : List Bool) → some_term_holds (with_literal option false off ++ with_literal option true on ++ rest) c ≡ ((if value_of c option then some_term_holds on c else some_term_holds off c) || some_term_holds rest c)
joined_holds option off on rest c =
    list_any-append (λ term. term_holds term c) (with_literal option false off ++ with_literal option true on) rest
    ∙ ap (λ b. b || some_term_holds rest c) (list_any-append (λ term. term_holds term c) (with_literal option false off) (with_literal option true on))
    ∙ (λ i. (side_holds option false off c i || side_holds option true on c i) || some_term_holds rest c)
    ∙ by (value_of c option) (some_term_holds off c) (some_term_holds on c) (some_term_holds rest c)
  where
    by : (v f g r : Bool) → (((not v && f) || (v && g)) || r) ≡ ((if v then g else f) || r)
    by true f g r = refl
    by false true g r = refl
    by false false g r = refl

-- at least a set, and at most another
pub record LiesBetween (least most terms : List Bool → Bool) : Type 0 where
  pub above : (c : List Bool) → least c ≡ true → terms c ≡ true
  pub below : (c : List Bool) → terms c ≡ true → most c ≡ true

-- what is left beside the terms of the sides stays within what both sides allow
rest_below : (option : ℕ) (least most : List Bool → Bool) (off on : List (List Literal)) → ((c : List Bool) → least c ≡ true → most c ≡ true) → LiesBetween (outside (fixed least option false) (fixed most option true)) (fixed most option false) (some_term_holds off) → LiesBetween (outside (fixed least option true) (fixed most option false)) (fixed most option true) (some_term_holds on) → (c : List Bool) → left_over option least off on c ≡ true → on_both option most c ≡ true
rest_below option least most off on w low high c t = rest_within (fixed least option false c) (fixed least option true c) (fixed most option false c) (fixed most option true c) (some_term_holds off c) (some_term_holds on c) (w (with_option c option false)) (w (with_option c option true)) (low.above c) (high.above c) t

low_within : (option : ℕ) (least most : List Bool → Bool) → ((c : List Bool) → least c ≡ true → most c ≡ true) → (c : List Bool) → outside (fixed least option false) (fixed most option true) c ≡ true → fixed most option false c ≡ true
low_within option least most w c t = w (with_option c option false) (first_of (fixed least option false c) (not (fixed most option true c)) t)

high_within : (option : ℕ) (least most : List Bool → Bool) → ((c : List Bool) → least c ≡ true → most c ≡ true) → (c : List Bool) → outside (fixed least option true) (fixed most option false) c ≡ true → fixed most option true c ≡ true
high_within option least most w c t = w (with_option c option true) (first_of (fixed least option true c) (not (fixed most option false c)) t)

pub lies_between : (later option : ℕ) (least most : List Bool → Bool) → AsksFrom option later least → AsksFrom option later most → ((c : List Bool) → least c ≡ true → most c ≡ true) → LiesBetween least most (some_term_holds (terms_between later option least most))
unfolding terms_between
lies_between zero option least most a b w = by (least []) refl
  where
    here : (c : List Bool) → least [] ≡ least c
    here c = a [] c (λ i l m. absurd (omega (arith, l, m)))

    by : (v : Bool) → least [] ≡ v → LiesBetween least most (some_term_holds (if v then [] ∷ [] else []))
    by true e = record { above = λ c t. refl; below = λ c t. w c (sym (here c) ∙ e) }
    by false e = record { above = λ c t. sym e ∙ here c ∙ t; below = λ c t. cc (t) }
lies_between (suc later) option least most a b w =
    let off = off_terms later option least most in
    let on = on_terms later option least most in
    let rest = terms_between later (option + 1) (left_over option least off on) (on_both option most) in
    let l0 = fixed least option false in
    let l1 = fixed least option true in
    let m0 = fixed most option false in
    let m1 = fixed most option true in
    let al0 = AsksFrom-side option later least false a in
    let al1 = AsksFrom-side option later least true a in
    let am0 = AsksFrom-side option later most false b in
    let am1 = AsksFrom-side option later most true b in
    let low = lies_between later (option + 1) (outside l0 m1) m0 (AsksFrom-outside (option + 1) later l0 m1 al0 am1) am0 (low_within option least most w) in
    let high = lies_between later (option + 1) (outside l1 m0) m1 (AsksFrom-outside (option + 1) later l1 m0 al1 am0) am1 (high_within option least most w) in
    let foff = terms_ask (option + 1) later off (among later (option + 1) (outside l0 m1) m0) in
    let fon = terms_ask (option + 1) later on (among later (option + 1) (outside l1 m0) m1) in
    let left = lies_between later (option + 1) (left_over option least off on) (on_both option most)
    (AsksFrom-or (option + 1) later (outside l0 (some_term_holds off)) (outside l1 (some_term_holds on)) (AsksFrom-outside (option + 1) later l0 (some_term_holds off) al0 foff) (AsksFrom-outside (option + 1) later l1 (some_term_holds on) al1 fon))
    (AsksFrom-and (option + 1) later m0 m1 am0 am1)
    (rest_below option least most off on w low high) in
    record {
      above = λ c t. joined_holds option off on rest c ∙ all_above (value_of c option) (l0 c) (l1 c) (some_term_holds off c) (some_term_holds on c) (some_term_holds rest c) (left.above c) (sym (by_side least (AsksValues-of option (suc later) least a) c option) ∙ t);
      below = λ c t. by_side most (AsksValues-of option (suc later) most b) c option ∙ all_below (value_of c option) (m0 c) (m1 c) (some_term_holds off c) (some_term_holds on c) (some_term_holds rest c) (low.below c) (high.below c) (left.below c) (sym (joined_holds option off on rest c) ∙ t);
    }

pub left_within : (later option : ℕ) (least most : List Bool → Bool) → AsksFrom option (suc later) least → AsksFrom option (suc later) most → ((c : List Bool) → least c ≡ true → most c ≡ true) → (c : List Bool) → left_over option least (off_terms later option least most) (on_terms later option least most) c ≡ true → on_both option most c ≡ true
left_within later option least most a b w =
    let al0 = AsksFrom-side option later least false a in
    let al1 = AsksFrom-side option later least true a in
    let am0 = AsksFrom-side option later most false b in
    let am1 = AsksFrom-side option later most true b in
    rest_below option least most (off_terms later option least most) (on_terms later option least most) w
    (lies_between later (option + 1) (outside (fixed least option false) (fixed most option true)) (fixed most option false) (AsksFrom-outside (option + 1) later (fixed least option false) (fixed most option true) al0 am1) am0 (low_within option least most w))
    (lies_between later (option + 1) (outside (fixed least option true) (fixed most option false)) (fixed most option true) (AsksFrom-outside (option + 1) later (fixed least option true) (fixed most option false) al1 am0) am1 (high_within option least most w))
