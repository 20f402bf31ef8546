-- Parts of a set of a space by the literals of a term, and terms that a set meets.
use Rattle.std.proofs.Common.{◌≡◌, ◌≢◌, ◌⊎◌, ℕ, zero, suc, ◌+◌, ◌<◌, ◌≤◌, Bool, true, false, List, [], ◌∷◌, ◌++◌, length, take, drop, get_or, refl, sym, ap, subst, ◌∙◌, arith, drop-cons, add-one}
use Rattle.std.specs.Prelude.{◌&&◌, ◌↔◌, not, filter, if◌then◌else◌}
use Rattle.std.specs.List.{AllByRecursion, list_all, list_any}
use Rattle.std.proofs.lemmas.List.{take_more, take_all, drop_all}
use Rattle.std.proofs.lemmas.List.Elements.{filter_more}
use Rattle.vx_space.specs.Config.{value_of}
use Rattle.vx_space.specs.Sets.{Extends, IsLawful, IsSet, Sets}
use Rattle.vx_space.proofs.Differences.{firsts, some_difference, value_of-firsts}
use Rattle.vx_space.proofs.Spaces.{Extends-refl, Extends-trans}
use Rattle.vx_model.specs.Models.{is_allowed}
use Rattle.vx_model.specs.declared.model.Model.{Model}
use Rattle.vx_count.specs.Settings.{settings}
use Rattle.vx_explain.specs.Between.{with_literal}
use Rattle.vx_explain.specs.Rules.{AreOf, literal_holds, term_holds}
use Rattle.vx_explain.specs.declared.literal.Literal.{Literal}
use Rattle.vx_cut.specs.Parts.{is_met, sides}
use Rattle.vx_cut.proofs.Divided.{any_here, any_never}

-- ---- the literals of a term

pub literal_at : (n : ℕ) (term : List Literal) (i : ℕ) (d : Literal) → i < length term → AllByRecursion (λ (l : Literal). l.option < n) term → (get_or term i d).option < n
literal_at n [] i d l of = absurd (omega (arith, l))
literal_at n (x ∷ xs) zero d l of = of.0
literal_at n (x ∷ xs) (suc i) d l of = literal_at n xs i d (omega (arith, l)) of.1

pub term_at : (n : ℕ) (terms : List (List Literal)) (i : ℕ) (term : List Literal) → i < length terms → term ≡ get_or terms i term → AreOf n terms → AllByRecursion (λ (l : Literal). l.option < n) term
term_at n [] i term l is of = absurd (omega (arith, l))
term_at n (x ∷ xs) zero term l is of = subst (λ t. AllByRecursion (λ (l : Literal). l.option < n) t) (sym is) of.0
term_at n (x ∷ xs) (suc i) term l is of = term_at n xs i term (omega (arith, l)) is of.1

holds_more : (term : List Literal) (l : Literal) (c : List Bool) → term_holds (term ++ l ∷ []) c ≡ (term_holds term c && literal_holds l c)
holds_more [] l c = by (literal_holds l c)
  where
    by : (b : Bool) → (b && true) ≡ (true && b)
    by true = refl
    by false = refl
holds_more (x ∷ xs) l c = ap (λ b. literal_holds x c && b) (holds_more xs l c) ∙ and_and (literal_holds x c) (term_holds xs c) (literal_holds l c)
  where
    and_and : (a b d : Bool) → (a && (b && d)) ≡ ((a && b) && d)
    and_and true b d = refl
    and_and false b d = refl

-- the part of a set at which the literals so far hold
pub record IsPart {I : Type 0} (s0 s : Sets I) (set part : I) (term : List Literal) : Type 0 where
  pub extends : Extends s0 s
  pub is : IsSet s part (λ c. s0.test set c && term_holds term c)

pub IsPart-start : {I : Type 0} (s : Sets I) (set : I) → s.is_known set ≡ true → IsPart s s set set []
IsPart-start s set known = record { extends = Extends-refl s; is = record { known = known; test = λ c. by (s.test set c) } }
  where
    by : (b : Bool) → b ≡ (b && true)
    by true = refl
    by false = refl

pub IsPart-step : {I : Type 0} (s0 s s' : Sets I) (set part new : I) (term : List Literal) (i : ℕ) (d : Literal) → i < length term → IsPart s0 s set part (take i term) → Extends s s'
    → IsSet s' new (λ c. s.test part c && literal_holds (get_or term i d) c) → IsPart s0 s' set new (take (i + 1) term)
IsPart-step s0 s s' set part new term i d l h x is = record {
  extends = Extends-trans h.extends x;
  is = record {
    known = is.known;
    test = λ c.
        is.test c ∙ ap (λ b. b && literal_holds (get_or term i d) c) (h.is.test c)
        ∙ and_and (s0.test set c) (term_holds (take i term) c) (literal_holds (get_or term i d) c)
        ∙ ap (λ b. s0.test set c && b) (sym (holds_more (take i term) (get_or term i d) c) ∙ ap (λ t. term_holds t c) (sym (take_more term i d l)));
  };
}
  where
    and_and : (a b d : Bool) → ((a && b) && d) ≡ (a && (b && d))
    and_and true b d = refl
    and_and false b d = refl

pub IsPart-all : {I : Type 0} (s0 s : Sets I) (set part : I) (term : List Literal) (i : ℕ) → length term ≤ i → IsPart s0 s set part (take i term) → IsPart s0 s set part term
IsPart-all s0 s set part term i l h = subst (IsPart s0 s set part) (take_all i term l) h

-- a set with an option on, or off
pub literal_on : {I : Type 0} (s m n : Sets I) (set option new : I) (literal : Literal) → literal.on ≡ true → Extends s m → s.is_known set ≡ true → IsSet m option (λ c. value_of c literal.option) → IsSet n new (λ c. m.test set c && m.test option c)
    → IsSet n new (λ c. s.test set c && literal_holds literal c)
literal_on s m n set option new literal on x known o is = record {
  known = is.known;
  test = λ c. is.test c ∙ (λ i. x.test set c known i && o.test c i) ∙ ap (λ b. s.test set c && (if b then value_of c literal.option else not (value_of c literal.option))) (sym on);
}

pub literal_off : {I : Type 0} (s m n : Sets I) (set option new : I) (literal : Literal) → literal.on ≡ false → Extends s m → s.is_known set ≡ true → IsSet m option (λ c. value_of c literal.option) → IsSet n new (λ c. m.test set c && not (m.test option c))
    → IsSet n new (λ c. s.test set c && literal_holds literal c)
literal_off s m n set option new literal on x known o is = record {
  known = is.known;
  test = λ c. is.test c ∙ (λ i. x.test set c known i && not (o.test c i)) ∙ ap (λ b. s.test set c && (if b then value_of c literal.option else not (value_of c literal.option))) (sym on);
}

-- ---- whether a term is met

pub met_is : {I : Type 0} (s0 s : Sets I) → IsLawful s → (model : Model) (allowed part : I) (term : List Literal) (never : Bool) → s0.options ≡ length model.options → IsSet s0 allowed (is_allowed model) → IsPart s0 s allowed part term
    → (never ≡ true ↔ (part ≡ s.never)) → not never ≡ is_met model term
met_is {I} s0 s lawful model allowed part term never options all h iff = by never iff
  where
    test : (c : List Bool) → s.test part c ≡ (is_allowed model c && term_holds term c)
    test c = h.is.test c ∙ ap (λ b. b && term_holds term c) (all.test c)

    count : s.options ≡ length model.options
    count = h.extends.options ∙ options

    differs : (a b : Bool) → b ≡ false → a ≢ b → a ≡ true
    differs true b e d = refl
    differs false true e d = cc (e)
    differs false false e d = absurd (d refl)

    by : (b : Bool) → (b ≡ true ↔ (part ≡ s.never)) → not b ≡ is_met model term
    by true iff = sym (any_never (λ c. is_allowed model c && term_holds term c) (settings (length model.options)) (λ c. sym (test c) ∙ ap (λ x. s.test x c) (iff.0 refl) ∙ lawful.never_test c))
    by false iff =
        let other : part ≢ s.never = λ e. let wrong : false ≡ true = iff.1 e in cc (wrong) in
        let d = some_difference lawful part s.never h.is.known lawful.never_known other in
        let there : s.test part d.0 ≡ true = differs (s.test part d.0) (s.test s.never d.0) (lawful.never_test d.0) d.1 in
        let first : s.test part (firsts (length model.options) d.0) ≡ s.test part d.0 = lawful.options_alone part (firsts (length model.options) d.0) d.0 h.is.known (λ i l. value_of-firsts (length model.options) d.0 i (omega (arith, l, count))) in
        sym (any_here (length model.options) (λ c. is_allowed model c && term_holds term c) d.0 (sym (test (firsts (length model.options) d.0)) ∙ first ∙ there))

-- ---- the terms so far that are met

pub record AreMet {I : Type 0} (s0 s : Sets I) (model : Model) (terms found : List (List Literal)) : Type 0 where
  pub extends : Extends s0 s
  pub met : found ≡ filter (is_met model) terms

pub AreMet-step : {I : Type 0} (s0 s s' : Sets I) (model : Model) (terms found found' : List (List Literal)) (i : ℕ) (term : List Literal) (met : Bool) → i < length terms → term ≡ get_or terms i term → AreMet s0 s model (take i terms) found → Extends s s'
    → met ≡ is_met model term → found' ≡ found ++ (if met then term ∷ [] else []) → AreMet s0 s' model (take (i + 1) terms) found'
AreMet-step s0 s s' model terms found found' i term met l is h x e f = record {
  extends = Extends-trans h.extends x;
  met = f ∙ (λ k. h.met k ++ (if e k then is k ∷ [] else []))
      ∙ ap (λ t. filter (is_met model) (take i terms) ++ (if is_met model t then get_or terms i term ∷ [] else [])) is
      ∙ sym (filter_more (is_met model) terms i term l);
}

-- ---- the sides, from the last option on

pub sides_step : (chosen : List Bool) (i : ℕ) (d : Bool) (rest terms : List (List Literal)) → i < length chosen → rest ≡ sides (i + 1) (drop (i + 1) chosen)
    → terms ≡ (if get_or chosen i d then with_literal i false rest ++ with_literal i true rest else rest) → terms ≡ sides i (drop i chosen)
unfolding sides
sides_step chosen i d rest terms l is e =
    let at : drop i chosen ≡ get_or chosen i d ∷ drop (i + 1) chosen = drop-cons chosen i d l ∙ ap (λ k. get_or chosen i d ∷ drop k chosen) (sym (add-one i)) in
    e ∙ ap (λ r. if get_or chosen i d then with_literal i false r ++ with_literal i true r else r) is ∙ by (get_or chosen i d) ∙ ap (sides i) (sym at)
  where
    by : (b : Bool) → (if b then with_literal i false (sides (i + 1) (drop (i + 1) chosen)) ++ with_literal i true (sides (i + 1) (drop (i + 1) chosen)) else sides (i + 1) (drop (i + 1) chosen)) ≡ sides i (b ∷ drop (i + 1) chosen)
    by true = refl
    by false = refl

pub sides_first : (chosen : List Bool) → [] ∷ [] ≡ sides (length chosen) (drop (length chosen) chosen)
unfolding sides
sides_first chosen = ap (sides (length chosen)) (sym (drop_all (length chosen) chosen (omega arith)))
