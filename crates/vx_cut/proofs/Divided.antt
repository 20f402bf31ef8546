-- The parts divide what the model allows.
use Rattle.std.proofs.Common.{◌≡◌, ℕ, zero, suc, ◌+◌, ◌<◌, ◌≤◌, Bool, true, false, List, [], ◌∷◌, ◌++◌, length, map, refl, sym, ap, subst, ◌∙◌, arith, length-append}
use Rattle.std.specs.Prelude.{◌&&◌, ◌||◌, not, filter, if◌then◌else◌}
use Rattle.std.specs.List.{AllByRecursion, list_all, list_any}
use Rattle.std.proofs.lemmas.List.{length-map}
use Rattle.std.proofs.lemmas.List.Elements.{filter-append, filter_agree}
use Rattle.vx_space.specs.Config.{value_of}
use Rattle.vx_space.proofs.Differences.{firsts, value_of-firsts}
use Rattle.vx_space.specs.Mask.{tail_of}
use Rattle.vx_model.specs.Formula.{Formula, formulas}
use Rattle.vx_model.specs.Formula as tree
use Rattle.vx_model.specs.Grammar.{conjunction}
use Rattle.vx_model.specs.Models.{is_allowed}
use Rattle.vx_model.specs.Truth.{all_true, truth}
use Rattle.vx_model.specs.declared.model.Model.{Model}
use Rattle.vx_count.proofs.Halves.{filter-map}
use Rattle.vx_count.specs.Settings.{settings}
use Rattle.vx_explain.specs.Between.{with_literal}
use Rattle.vx_explain.specs.Rules.{AreOf, literal_holds, literal_rule, term_holds, term_rule}
use Rattle.vx_explain.specs.declared.literal.Literal.{Literal}
use Rattle.vx_cut.specs.Cuts.{AllowsSome, allowing, models_of}
use Rattle.vx_cut.specs.Parts.{is_met, sides, terms_of, with_term}

-- ---- what a part allows

literal_true : (l : Literal) (c : List Bool) → truth (literal_rule l) c ≡ literal_holds l c
literal_true l c = by l.on l.option
  where
    by : (b : Bool) (o : ℕ) → truth (if b then tree.Named o else tree.Not (tree.Named o)) c ≡ (if b then value_of c o else not (value_of c o))
    by true o = refl
    by false o = refl

and_true : (b : Bool) → (b && true) ≡ b
and_true true = refl
and_true false = refl

and_and : (a b d : Bool) → (a && (b && d)) ≡ ((a && b) && d)
and_and true b d = refl
and_and false b d = refl

conjunction_true : (fs : List Formula) (c : List Bool) → truth (conjunction fs) c ≡ all_true (formulas fs) c
conjunction_true [] c = refl
conjunction_true (f ∷ []) c = sym (and_true (truth f c))
conjunction_true (f ∷ g ∷ fs) c = refl

literals_true : (term : List Literal) (c : List Bool) → all_true (formulas (map literal_rule term)) c ≡ term_holds term c
literals_true [] c = refl
literals_true (l ∷ ls) c = rw (literal_true l c, literals_true ls c) refl

all_both : (fs gs : List Formula) (c : List Bool) → all_true (formulas (fs ++ gs)) c ≡ (all_true (formulas fs) c && all_true (formulas gs) c)
all_both [] gs c = refl
all_both (f ∷ fs) gs c = ap (λ b. truth f c && b) (all_both fs gs c) ∙ and_and (truth f c) (all_true (formulas fs) c) (all_true (formulas gs) c)

-- a part allows what the model allows at which its term holds
part_allows : (dimacs : Bool) (model : Model) (term : List Literal) (c : List Bool) → is_allowed (with_term dimacs model term) c ≡ (is_allowed model c && term_holds term c)
part_allows false model term c =
    all_both model.rules (term_rule term ∷ []) c ∙ ap (λ b. is_allowed model c && b) (and_true (truth (term_rule term) c) ∙ conjunction_true (map literal_rule term) c ∙ literals_true term c)
part_allows true model term c = all_both model.rules (map literal_rule term) c ∙ ap (λ b. is_allowed model c && b) (literals_true term c)

-- ---- at each configuration just one side holds

side_off : (option : ℕ) (terms : List (List Literal)) (c : List Bool) (on : Bool) (b : Bool) → value_of c option ≡ b
    → length (filter (λ t. term_holds t c) (with_literal option on terms)) ≡ length (filter (λ t. (if on then b else not b) && term_holds t c) terms)
side_off option terms c on b e =
    ap length (filter-map (λ t. term_holds t c) (λ t. record { option = option; on = on } ∷ t) terms)
    ∙ length-map (filter (λ t. literal_holds (record { option = option; on = on }) c && term_holds t c) terms) (λ t. record { option = option; on = on } ∷ t)
    ∙ ap (λ v. length (filter (λ t. (if on then v else not v) && term_holds t c) terms)) e

none_pass : {X : Type 0} (p : X → Bool) (xs : List X) → length (filter (λ x. false && p x) xs) ≡ 0
none_pass p [] = refl
none_pass p (x ∷ xs) = none_pass p xs

both_sides : (option : ℕ) (terms : List (List Literal)) (c : List Bool)
    → length (filter (λ t. term_holds t c) (with_literal option false terms ++ with_literal option true terms)) ≡ length (filter (λ t. term_holds t c) terms)
both_sides option terms c =
    ap length (filter-append (λ t. term_holds t c) (with_literal option false terms) (with_literal option true terms))
    ∙ length-append (filter (λ t. term_holds t c) (with_literal option false terms)) (filter (λ t. term_holds t c) (with_literal option true terms))
    ∙ by (value_of c option) refl
  where
    by : (b : Bool) → value_of c option ≡ b → length (filter (λ t. term_holds t c) (with_literal option false terms)) + length (filter (λ t. term_holds t c) (with_literal option true terms)) ≡ length (filter (λ t. term_holds t c) terms)
    by true e =
        let off : length (filter (λ t. term_holds t c) (with_literal option false terms)) ≡ 0 = side_off option terms c false true e ∙ none_pass (λ t. term_holds t c) terms in
        let on : length (filter (λ t. term_holds t c) (with_literal option true terms)) ≡ length (filter (λ t. term_holds t c) terms) = side_off option terms c true true e in
        omega (arith, off, on)
    by false e =
        let off : length (filter (λ t. term_holds t c) (with_literal option false terms)) ≡ length (filter (λ t. term_holds t c) terms) = side_off option terms c false false e in
        let on : length (filter (λ t. term_holds t c) (with_literal option true terms)) ≡ 0 = side_off option terms c true false e ∙ none_pass (λ t. term_holds t c) terms in
        omega (arith, off, on)

one_side : (option : ℕ) (chosen : List Bool) (c : List Bool) → length (filter (λ t. term_holds t c) (sides option chosen)) ≡ 1
unfolding sides
one_side option [] c = refl
one_side option (false ∷ rest) c = one_side (option + 1) rest c
one_side option (true ∷ rest) c = both_sides option (sides (option + 1) rest) c ∙ one_side (option + 1) rest c

-- ---- the options of the sides

abbrev IsOf : ℕ → List Literal → Type 0
IsOf n term = AllByRecursion (λ (l : Literal). l.option < n) term

of_both : (n : ℕ) (ts us : List (List Literal)) → AreOf n ts → AreOf n us → AreOf n (ts ++ us)
of_both n [] us h k = k
of_both n (t ∷ ts) us h k = (h.0, of_both n ts us h.1 k)

of_front : (n option : ℕ) (on : Bool) (ts : List (List Literal)) → option < n → AreOf n ts → AreOf n (with_literal option on ts)
of_front n option on [] l h = tt
of_front n option on (t ∷ ts) l h = ((l, h.0), of_front n option on ts l h.1)

sides_of : (n option : ℕ) (chosen : List Bool) → option + length chosen ≤ n → AreOf n (sides option chosen)
unfolding sides
sides_of n option [] l = (tt, tt)
sides_of n option (false ∷ rest) l = sides_of n (option + 1) rest (omega (arith, l))
sides_of n option (true ∷ rest) l =
    let inner = sides_of n (option + 1) rest (omega (arith, l)) in
    of_both n (with_literal option false (sides (option + 1) rest)) (with_literal option true (sides (option + 1) rest)) (of_front n option false _ (omega (arith, l)) inner) (of_front n option true _ (omega (arith, l)) inner)

pub all_sides_of : (n : ℕ) (chosen : List Bool) → length chosen ≡ n → AreOf n (sides 0 chosen)
all_sides_of n chosen e = sides_of n 0 chosen (omega (arith, e))

-- ---- a test that holds somewhere holds at a setting

any_both : (T : List Bool → Bool) (xs ys : List (List Bool)) → list_any T (xs ++ ys) ≡ (list_any T xs || list_any T ys)
any_both T [] ys = refl
any_both T (x ∷ xs) ys = ap (λ b. T x || b) (any_both T xs ys) ∙ or_or (T x) (list_any T xs) (list_any T ys)
  where
    or_or : (a b d : Bool) → (a || (b || d)) ≡ ((a || b) || d)
    or_or true b d = refl
    or_or false b d = refl

any_mapped : (T : List Bool → Bool) (b : Bool) (xs : List (List Bool)) → list_any T (map (λ c. b ∷ c) xs) ≡ list_any (λ c. T (b ∷ c)) xs
any_mapped T b [] = refl
any_mapped T b (x ∷ xs) = ap (λ r. T (b ∷ x) || r) (any_mapped T b xs)

any_first : (a b : Bool) → a ≡ true → (a || b) ≡ true
any_first a b e = rw e refl

any_second : (a b : Bool) → b ≡ true → (a || b) ≡ true
any_second true b e = refl
any_second false b e = e

pub any_here : (n : ℕ) (T : List Bool → Bool) (c : List Bool) → T (firsts n c) ≡ true → list_any T (settings n) ≡ true
any_here zero T c e = rw e refl
any_here (suc n) T c e =
    any_both T (map (λ d. false ∷ d) (settings n)) (map (λ d. true ∷ d) (settings n)) ∙ by (value_of c 0) (any_here n (λ d. T (false ∷ d)) (tail_of c)) (any_here n (λ d. T (true ∷ d)) (tail_of c)) e
  where
    by : (b : Bool) → (T (false ∷ firsts n (tail_of c)) ≡ true → list_any (λ d. T (false ∷ d)) (settings n) ≡ true) → (T (true ∷ firsts n (tail_of c)) ≡ true → list_any (λ d. T (true ∷ d)) (settings n) ≡ true)
        → T (b ∷ firsts n (tail_of c)) ≡ true → (list_any T (map (λ d. false ∷ d) (settings n)) || list_any T (map (λ d. true ∷ d) (settings n))) ≡ true
    by false off on h = any_first _ _ (any_mapped T false (settings n) ∙ off h)
    by true off on h = any_second _ _ (any_mapped T true (settings n) ∙ on h)

pub any_never : (T : List Bool → Bool) (xs : List (List Bool)) → ((c : List Bool) → T c ≡ false) → list_any T xs ≡ false
any_never T [] h = refl
any_never T (x ∷ xs) h = rw (h x) (any_never T xs h)

any_some : (T : List Bool → Bool) (xs : List (List Bool)) → list_any T xs ≡ true → (c : List Bool) × (T c ≡ true)
any_some T [] e = cc (e)
any_some T (x ∷ xs) e = by (T x) refl (any_some T xs)
  where
    by : (b : Bool) → T x ≡ b → (list_any T xs ≡ true → (c : List Bool) × (T c ≡ true)) → (c : List Bool) × (T c ≡ true)
    by true f next = (x, f)
    by false f next = next (ap (λ b. b || list_any T xs) (sym f) ∙ e)

-- ---- options alone matter

-- whether the model allows a configuration is told by the values of its options
pub record IsOfOptions (model : Model) : Type 0 where
  pub same : (c : List Bool) → is_allowed model (firsts (length model.options) c) ≡ is_allowed model c

literal_first : (n : ℕ) (l : Literal) (c : List Bool) → l.option < n → literal_holds l (firsts n c) ≡ literal_holds l c
literal_first n l c h = ap (λ v. if l.on then v else not v) (value_of-firsts n c l.option h)

pub term_first : (n : ℕ) (term : List Literal) (c : List Bool) → IsOf n term → term_holds term (firsts n c) ≡ term_holds term c
term_first n [] c h = refl
term_first n (l ∷ ls) c h = rw (literal_first n l c h.0, term_first n ls c h.1) refl

met_there : (model : Model) (term : List Literal) (c : List Bool) → IsOfOptions model → IsOf (length model.options) term → is_allowed model c ≡ true → term_holds term c ≡ true → is_met model term ≡ true
met_there model term c own of a t =
    any_here (length model.options) (λ d. is_allowed model d && term_holds term d) c (rw (own.same c, term_first (length model.options) term c of, a, t) refl)

-- ---- the count of parts that allow a configuration

filter_within : {X : Type 0} (p q : X → Bool) (xs : List X) → AllByRecursion (λ x. p x ≡ true → q x ≡ true) xs → filter p (filter q xs) ≡ filter p xs
filter_within p q [] h = refl
filter_within {X} p q (x ∷ xs) h = by (p x) (q x) refl refl (filter_within p q xs h.1)
  where
    by : (a b : Bool) → p x ≡ a → q x ≡ b → filter p (filter q xs) ≡ filter p xs → filter p (filter q (x ∷ xs)) ≡ filter p (x ∷ xs)
    by true true e f next = rw f (rw e (ap (λ ys. x ∷ ys) next))
    by true false e f next = let wrong : true ≡ false = sym (h.0 e) ∙ f in cc (wrong)
    by false true e f next = rw f (rw e next)
    by false false e f next = rw f (rw e next)

all_met : (model : Model) (c : List Bool) (ts : List (List Literal)) → IsOfOptions model → AreOf (length model.options) ts → is_allowed model c ≡ true → AllByRecursion (λ t. term_holds t c ≡ true → is_met model t ≡ true) ts
all_met model c [] own of a = tt
all_met model c (t ∷ ts) own of a = (λ h. met_there model t c own of.0 a h, all_met model c ts own of.1 a)

count_allowing : (dimacs : Bool) (model : Model) (ts : List (List Literal)) (c : List Bool) (b : Bool) → is_allowed model c ≡ b → allowing (map (with_term dimacs model) ts) c ≡ length (filter (λ t. b && term_holds t c) ts)
count_allowing dimacs model ts c b e =
    ap length (filter-map (λ m. is_allowed m c) (with_term dimacs model) ts)
    ∙ length-map (filter (λ t. is_allowed (with_term dimacs model t) c) ts) (with_term dimacs model)
    ∙ ap length (filter_agree (λ t. is_allowed (with_term dimacs model t) c) (λ t. b && term_holds t c) (λ t. part_allows dimacs model t c ∙ ap (λ a. a && term_holds t c) e) ts)

pub divides : (dimacs : Bool) (model : Model) (chosen : List Bool) (c : List Bool) → IsOfOptions model → length chosen ≡ length model.options → allowing (models_of dimacs model chosen) c ≡ (if is_allowed model c then 1 else 0)
divides dimacs model chosen c own few = by (is_allowed model c) refl
  where
    by : (b : Bool) → is_allowed model c ≡ b → allowing (models_of dimacs model chosen) c ≡ (if is_allowed model c then 1 else 0)
    by false e = count_allowing dimacs model (terms_of model chosen) c false e ∙ none_pass (λ t. term_holds t c) (terms_of model chosen) ∙ ap (λ b. if b then 1 else 0) (sym e)
    by true e =
        count_allowing dimacs model (terms_of model chosen) c true e
        ∙ ap length (filter_within (λ t. term_holds t c) (is_met model) (sides 0 chosen) (all_met model c (sides 0 chosen) own (all_sides_of (length model.options) chosen few) e))
        ∙ one_side 0 chosen c ∙ ap (λ b. if b then 1 else 0) (sym e)

-- ---- no part allows nothing

pub all_allow : (dimacs : Bool) (model : Model) (ts : List (List Literal)) → AllByRecursion AllowsSome (map (with_term dimacs model) (filter (is_met model) ts))
all_allow dimacs model [] = tt
all_allow dimacs model (t ∷ ts) = by (is_met model t) refl (all_allow dimacs model ts)
  where
    by : (b : Bool) → is_met model t ≡ b → AllByRecursion AllowsSome (map (with_term dimacs model) (filter (is_met model) ts)) → AllByRecursion AllowsSome (map (with_term dimacs model) (filter (is_met model) (t ∷ ts)))
    by true e next =
        let there = any_some (λ c. is_allowed model c && term_holds t c) (settings (length model.options)) e in
        rw e ((there.0, part_allows dimacs model t there.0 ∙ there.1), next)
    by false e next = rw e next
