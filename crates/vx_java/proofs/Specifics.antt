-- The maximally-specific superinterface methods, found by walks over the superinterfaces.
use Rattle.std.proofs.Common.{◌≡◌, ◌≢◌, ◌∙◌, ◌⊎◌, [], ◌∷◌, List, ℕ, Bool, true, false, Option, Some, None, ap, cond, inl, inr, refl, subst, sym, ◌||◌}
use Rattle.std.proofs.Math.Dec.{eqb}
use Rattle.std.proofs.lemmas.Bool.{eq-eqb}
use Rattle.std.proofs.lemmas.Bool.Decides.{eqb_tells}
use Rattle.std.specs.List.{cons_option, filter_map, list_any}
use Rattle.std.specs.Prelude.{filter, is_some, not, option_and_then, ◌&&◌, ◌==◌}
use Rattle.std.specs.Prelude.{option_map}
use Rattle.vx_java.specs.Ids.{as_method}
use Rattle.vx_value.specs.declared.ids.MethodId.{MethodId}
use Rattle.vx_java.specs.Selection.{of_specific, selected_method}
use Rattle.vx_java.specs.Specific.{first_of, gives, gives_beside, is_overridden, number_if, overrides, specific_in}
use Rattle.vx_java.specs.declared.selected.Selected.TheVariants.{Abstract, Conflict, Method}
use Rattle.vx_java.specs.declared.selected.Selected.{Selected}
use Rattle.vx_link.specs.Hierarchy.{interfaces_below, is_among, superinterfaces}
use Rattle.vx_link.specs.Parts.{is_abstract, is_inherited, method_at}
use Rattle.vx_link.specs.Resolution.{distinct, own_method, specific_methods}
use Rattle.vx_link.specs.declared.program.Program.{Program}

-- ---- tests of lists

abbrev pub or_else : Option ℕ → Option ℕ → Option ℕ
or_else o rest = elim o [ Some m ↦ Some m | None ↦ rest ]

pub some_first : (t : ℕ → Bool) (xs : List ℕ) → is_some (first_of t xs) ≡ list_any t xs
some_first t [] = refl
some_first t (x ∷ xs) = by_test (t x) (some_first t xs)
  where
    by_test : (b : Bool) → is_some (first_of t xs) ≡ list_any t xs → is_some (or_else (number_if b x) (first_of t xs)) ≡ (b || list_any t xs)
    by_test true e = refl
    by_test false e = e

any_filter : (t q : ℕ → Bool) (xs : List ℕ) → list_any t (filter q xs) ≡ list_any (λ x. q x && t x) xs
any_filter t q [] = refl
any_filter t q (x ∷ xs) = by_test (q x) (any_filter t q xs)
  where
    by_test : (b : Bool) → list_any t (filter q xs) ≡ list_any (λ y. q y && t y) xs
        → list_any t (cond b (x ∷ filter q xs) (filter q xs)) ≡ ((b && t x) || list_any (λ y. q y && t y) xs)
    by_test true e = ap (λ r. t x || r) e
    by_test false e = e

any_same : (t u : ℕ → Bool) → ((x : ℕ) → t x ≡ u x) → (xs : List ℕ) → list_any t xs ≡ list_any u xs
any_same t u e [] = refl
any_same t u e (x ∷ xs) = ap (λ b. b || list_any t xs) (e x) ∙ ap (λ b. u x || b) (any_same t u e xs)

filter_same : (t u : ℕ → Bool) → ((x : ℕ) → t x ≡ u x) → (xs : List ℕ) → filter t xs ≡ filter u xs
filter_same t u e [] = refl
filter_same t u e (x ∷ xs) = ap (λ b. cond b (x ∷ filter t xs) (filter t xs)) (e x) ∙ ap (λ ys. cond (u x) (x ∷ ys) ys) (filter_same t u e xs)

-- one that fails counts among others or not
other_than : (t : ℕ → Bool) (x : ℕ) → t x ≡ false → (y : ℕ) → (not (x == y) && t y) ≡ t y
other_than t x fails y = by_same (eqb_tells x y)
  where
    by_same : (((eqb x y ≡ true) × (x ≡ y)) ⊎ ((eqb x y ≡ false) × (x ≢ y))) → (not (eqb x y) && t y) ≡ t y
    by_same (inl same) = ap (λ b. not b && t y) same.0 ∙ sym (ap t (sym same.1) ∙ fails)
    by_same (inr other) = ap (λ b. not b && t y) other.0

pub any_distinct : (t : ℕ → Bool) (xs : List ℕ) → list_any t (distinct xs) ≡ list_any t xs
any_distinct t [] = refl
any_distinct t (x ∷ xs) = ap (λ b. t x || b) (any_filter t (λ y. not (x == y)) (distinct xs)) ∙ by_test (t x) refl ∙ ap (λ b. t x || b) (any_distinct t xs)
  where
    by_test : (b : Bool) → t x ≡ b → (t x || list_any (λ y. not (x == y) && t y) (distinct xs)) ≡ (t x || list_any t (distinct xs))
    by_test true e = ap (λ b. b || list_any (λ y. not (x == y) && t y) (distinct xs)) e ∙ sym (ap (λ b. b || list_any t (distinct xs)) e)
    by_test false e = ap (λ b. t x || b) (any_same (λ y. not (x == y) && t y) t (other_than t x e) (distinct xs))

-- ---- the specific methods, interface by interface

-- what an interface gives, unless it is overridden or its method abstract
abbrev given_by : (ℕ → Option ℕ) → (over concrete : ℕ → Bool) → ℕ → Option ℕ
given_by own over concrete i = option_and_then (λ m. number_if (not (over i) && concrete m) m) (own i)

abbrev Fused : (ℕ → Option ℕ) → (over concrete : ℕ → Bool) → List ℕ → Type 0
Fused own over concrete ys =
    filter concrete (filter_map own (filter (λ i. not (over i)) (filter (λ i. is_some (own i)) ys))) ≡ filter_map (given_by own over concrete) ys

fused : (own : ℕ → Option ℕ) (over concrete : ℕ → Bool) (ys : List ℕ) → Fused own over concrete ys
fused own over concrete [] = refl
fused own over concrete (y ∷ ys) = by_own (own y) refl (fused own over concrete ys)
  where
    by_concrete : (m : ℕ) (b : Bool) → own y ≡ Some m → over y ≡ false → concrete m ≡ b → Fused own over concrete ys → Fused own over concrete (y ∷ ys)
    by_concrete m true e f g rest = rw (e, f, e, g) (ap (λ ms. m ∷ ms) rest)
    by_concrete m false e f g rest = rw (e, f, e, g) rest

    by_over : (m : ℕ) (b : Bool) → own y ≡ Some m → over y ≡ b → Fused own over concrete ys → Fused own over concrete (y ∷ ys)
    by_over m true e f rest = rw (e, f) rest
    by_over m false e f rest = by_concrete m (concrete m) e f refl rest

    by_own : (o : Option ℕ) → own y ≡ o → Fused own over concrete ys → Fused own over concrete (y ∷ ys)
    by_own None e rest = rw e rest
    by_own (Some m) e rest = by_over m (over y) e refl rest

pub specifics_are : (p : Program) (name descriptor : List ℕ) (c : ℕ) → specific_methods p name descriptor c ≡ filter_map (specific_in p name descriptor c) (distinct (superinterfaces p c))
specifics_are p name descriptor c =
    ap (λ interfaces. filter concrete (filter_map own interfaces)) (filter_same (λ i. not (list_any (λ j. is_among i (interfaces_below p j)) declaring)) (λ i. not (is_overridden p name descriptor c i)) not_overridden declaring)
    ∙ fused own (is_overridden p name descriptor c) concrete (distinct (superinterfaces p c))
  where
    own : ℕ → Option ℕ
    own = own_method p is_inherited name descriptor

    concrete : ℕ → Bool
    concrete = λ m. not (is_abstract (method_at p m))

    declaring : List ℕ
    declaring = filter (λ i. is_some (own i)) (distinct (superinterfaces p c))

    not_overridden : (i : ℕ) → not (list_any (λ j. is_among i (interfaces_below p j)) declaring) ≡ not (is_overridden p name descriptor c i)
    not_overridden i =
        ap not
        (any_filter (λ j. is_among i (interfaces_below p j)) (λ j. is_some (own j)) (distinct (superinterfaces p c))
        ∙ any_distinct (overrides p name descriptor i) (superinterfaces p c))

-- ---- how many of them there are

abbrev pub has_some : List ℕ → Bool
has_some [] = false
has_some (y ∷ ys) = true

without_one : (f : ℕ → Option ℕ) (x : ℕ) → f x ≡ None → (ys : List ℕ) → filter_map f (filter (λ y. not (x == y)) ys) ≡ filter_map f ys
without_one f x none [] = refl
without_one f x none (y ∷ ys) = by_same (eqb_tells x y) (without_one f x none ys)
  where
    by_same : (((eqb x y ≡ true) × (x ≡ y)) ⊎ ((eqb x y ≡ false) × (x ≢ y))) → filter_map f (filter (λ y. not (x == y)) ys) ≡ filter_map f ys
        → filter_map f (cond (not (eqb x y)) (y ∷ filter (λ y. not (x == y)) ys) (filter (λ y. not (x == y)) ys)) ≡ cons_option (f y) (filter_map f ys)
    by_same (inl same) rest =
        ap (λ b. filter_map f (cond (not b) (y ∷ filter (λ y. not (x == y)) ys) (filter (λ y. not (x == y)) ys))) same.0
        ∙ rest ∙ ap (λ o. cons_option o (filter_map f ys)) (sym (ap f (sym same.1) ∙ none))
    by_same (inr other) rest =
        ap (λ b. filter_map f (cond (not b) (y ∷ filter (λ y. not (x == y)) ys) (filter (λ y. not (x == y)) ys))) other.0
        ∙ ap (cons_option (f y)) rest

some_mapped : (f : ℕ → Option ℕ) (ys : List ℕ) → has_some (filter_map f ys) ≡ list_any (gives f) ys
some_mapped f [] = refl
some_mapped f (y ∷ ys) = by_own (f y) (some_mapped f ys)
  where
    by_own : (o : Option ℕ) → has_some (filter_map f ys) ≡ list_any (gives f) ys → has_some (cons_option o (filter_map f ys)) ≡ (is_some o || list_any (gives f) ys)
    by_own (Some m) rest = refl
    by_own None rest = rest

-- what the superinterfaces give, each once
abbrev pub all_given : (ℕ → Option ℕ) → List ℕ → List ℕ
all_given f xs = filter_map f (distinct xs)

skipped : (f : ℕ → Option ℕ) (x : ℕ) (xs : List ℕ) → f x ≡ None → all_given f (x ∷ xs) ≡ all_given f xs
skipped f x xs none = ap (λ o. cons_option o (filter_map f (filter (λ y. not (x == y)) (distinct xs)))) none ∙ without_one f x none (distinct xs)

pub none_given_at_all : (f : ℕ → Option ℕ) (xs : List ℕ) → first_of (gives f) xs ≡ None → all_given f xs ≡ []
none_given_at_all f [] none = refl
none_given_at_all f (x ∷ xs) none = by_own (f x) refl (none_given_at_all f xs) none
  where
    by_own : (o : Option ℕ) → f x ≡ o → (first_of (gives f) xs ≡ None → all_given f xs ≡ []) → or_else (number_if (is_some o) x) (first_of (gives f) xs) ≡ None → all_given f (x ∷ xs) ≡ []
    by_own None e rest none = skipped f x xs e ∙ rest none
    by_own (Some m) e rest none = absurd cc

-- the first that gives something, and whether others do
pub record Summary (f : ℕ → Option ℕ) (xs : List ℕ) (i m : ℕ) : Type 0 where
  pub others : List ℕ
  pub all : all_given f xs ≡ m ∷ others
  pub more : has_some others ≡ list_any (gives_beside f i) xs

and_false : (b : Bool) → (b && false) ≡ false
and_false true = refl
and_false false = refl

beside_itself : (f : ℕ → Option ℕ) (x : ℕ) → gives_beside f x x ≡ false
beside_itself f x = ap (λ b. not b && is_some (f x)) (eq-eqb x x refl)

at_first : (f : ℕ → Option ℕ) (x : ℕ) (xs : List ℕ) (m : ℕ) → f x ≡ Some m → Summary f (x ∷ xs) x m
at_first f x xs m e =
    let others = filter (λ y. not (x == y)) (distinct xs) in
    record {
      others = filter_map f others;
      all = ap (λ o. cons_option o (filter_map f others)) e;
      more =
          some_mapped f others
          ∙ any_filter (gives f) (λ y. not (x == y)) (distinct xs)
          ∙ any_distinct (gives_beside f x) xs
          ∙ sym (ap (λ b. b || list_any (gives_beside f x) xs) (beside_itself f x));
    }

same_number : (x y : ℕ) → ◌≡◌ {A = Option ℕ} (Some x) (Some y) → x ≡ y
same_number x y e = cc

pub summary : (f : ℕ → Option ℕ) (xs : List ℕ) (i m : ℕ) → first_of (gives f) xs ≡ Some i → f i ≡ Some m → Summary f xs i m
summary f [] i m first given = absurd cc
summary f (x ∷ xs) i m first given = by_own (f x) refl (summary f xs i m) first
  where
    later : (j : ℕ) → Some x ≡ Some j → (r : ℕ) → f x ≡ Some r → f j ≡ Some m → Summary f (x ∷ xs) j m
    later j same r e given =
        let x_is = same_number x j same in
        let P : ℕ → Type 0 = λ k. Summary f (x ∷ xs) k m in
        subst P x_is (at_first f x xs m (e ∙ sym e ∙ ap f x_is ∙ given))

    by_own : (o : Option ℕ) → f x ≡ o → (first_of (gives f) xs ≡ Some i → f i ≡ Some m → Summary f xs i m) → or_else (number_if (is_some o) x) (first_of (gives f) xs) ≡ Some i → Summary f (x ∷ xs) i m
    by_own None e rest first =
        let s = rest first given in
        record {
          others = s.others;
          all = skipped f x xs e ∙ s.all;
          more = s.more ∙ sym (ap (λ o. (not (i == x) && is_some o) || list_any (gives_beside f i) xs) e ∙ ap (λ b. b || list_any (gives_beside f i) xs) (and_false (not (i == x))));
        }
    by_own (Some r) e rest first = later i first r e given

pub abstract_where_none : (f : ℕ → Option ℕ) (xs : List ℕ) → first_of (gives f) xs ≡ None → of_specific (all_given f xs) ≡ Abstract
abstract_where_none f xs none = ap of_specific (none_given_at_all f xs none)

first_gives : (f : ℕ → Option ℕ) (xs : List ℕ) (i : ℕ) → first_of (gives f) xs ≡ Some i → is_some (f i) ≡ true
first_gives f [] i first = absurd cc
first_gives f (x ∷ xs) i first = by_own (f x) refl (first_gives f xs i) first
  where
    by_own : (o : Option ℕ) → f x ≡ o → (first_of (gives f) xs ≡ Some i → is_some (f i) ≡ true) → or_else (number_if (is_some o) x) (first_of (gives f) xs) ≡ Some i → is_some (f i) ≡ true
    by_own None e rest first = rest first
    by_own (Some r) e rest first = ap (λ k. is_some (f k)) (sym (same_number x i first)) ∙ ap is_some e

pub conflict_where_more : (f : ℕ → Option ℕ) (xs : List ℕ) (i : ℕ) → first_of (gives f) xs ≡ Some i → list_any (gives_beside f i) xs ≡ true → of_specific (all_given f xs) ≡ Conflict
conflict_where_more f xs i first more = by_given (f i) refl (first_gives f xs i first)
  where
    by_others : (m : ℕ) (others : List ℕ) → has_some others ≡ true → of_specific (m ∷ others) ≡ Conflict
    by_others m [] some = absurd cc
    by_others m (y ∷ ys) some = refl

    by_given : (o : Option ℕ) → f i ≡ o → is_some (f i) ≡ true → of_specific (all_given f xs) ≡ Conflict
    by_given None e some = absurd (cc (ap is_some e))
    by_given (Some m) e some = let s = summary f xs i m first e in ap of_specific s.all ∙ by_others m s.others (s.more ∙ more)

-- what is selected where one gives something, and no other
abbrev pub selected_by : Option ℕ → Selected
selected_by None = Abstract
selected_by (Some m) = selected_method m

pub selected_where_one : (f : ℕ → Option ℕ) (xs : List ℕ) (i : ℕ) → first_of (gives f) xs ≡ Some i → list_any (gives_beside f i) xs ≡ false → of_specific (all_given f xs) ≡ selected_by (f i)
selected_where_one f xs i first more = by_given (f i) refl (first_gives f xs i first)
  where
    by_others : (m : ℕ) (others : List ℕ) → has_some others ≡ false → of_specific (m ∷ others) ≡ selected_method m
    by_others m [] none = refl
    by_others m (y ∷ ys) none = absurd cc

    by_given : (o : Option ℕ) → f i ≡ o → is_some (f i) ≡ true → of_specific (all_given f xs) ≡ selected_by o
    by_given None e some = absurd (cc (ap is_some e))
    by_given (Some m) e some = let s = summary f xs i m first e in ap of_specific s.all ∙ by_others m s.others (s.more ∙ more)

pub selected_as : (o : Option ℕ) (m : MethodId) → Some m ≡ option_map as_method o → Method m ≡ selected_by o
selected_as None m e = absurd cc
selected_as (Some n) m e = cc

pub none_selected : (o : Option ℕ) → None ≡ option_map as_method o → Abstract ≡ selected_by o
none_selected None e = refl
none_selected (Some n) e = absurd cc
