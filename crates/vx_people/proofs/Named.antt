-- The word of a configuration names it: what stands between its commas, and which options these names are.
use Rattle.std.proofs.Common.{◌≡◌, ◌≢◌, ℕ, ◌<◌, ◌≤◌, zero, suc, Bool, true, false, List, [], ◌∷◌, ◌++◌, length, map, refl, sym, ◌∙◌, ap, arith, append-nil, append_assoc}
use Rattle.std.specs.Prelude.{Some, None, ◌&&◌, ◌||◌, ◌==◌, not, nat_eq, codes, if◌then◌else◌}
use Rattle.std.specs.List.{AllByRecursion, list_all, list_any}
use Rattle.std.specs.Str.{bytes_eq}
use Rattle.std.proofs.lemmas.Bool.Decides.{nat_tests}
use Rattle.std.proofs.lemmas.List.Folds.{list_any-append}
use Rattle.std.proofs.lemmas.Slice.Eq.{bytes_eq-Decides}
use Rattle.vx_list.specs.Places.{item_or}
use Rattle.vx_space.specs.Config.{value_of}
use Rattle.vx_words.specs.Names.{AreOptionNames, is_word_byte}
use Rattle.vx_configuration.specs.Configuration.{are_distinct, between_commas, configuration_of, is_among, names_in, with_front, with_these_on}
use Rattle.vx_cover.specs.Text.{configuration_text, joined, more, name_of, options_on}
use Rattle.vx_model.specs.Tokens.{number_of}
use Rattle.vx_explain.specs.Read.{options_of}
use Rattle.vx_explain.proofs.Printed.{AreWords, AreWords-of, not_same, option_there}

-- ---- what stands between the commas

-- a name in front of what follows
front_of_name : (name rest : List ℕ) → list_all is_word_byte name ≡ true → between_commas (name ++ rest) ≡ with_front name (between_commas rest)
unfolding between_commas
front_of_name [] rest w = by (between_commas rest) (some_name rest)
  where
    some_name : (word : List ℕ) → (between_commas word ≡ [] → ⊥)
    some_name [] e = cc (e)
    some_name (b ∷ bs) e = by_test (b == 44) (between_commas bs) e
      where
        with_some : (names : List (List ℕ)) → with_front (b ∷ []) names ≡ [] → ⊥
        with_some [] e = cc (e)
        with_some (n ∷ ns) e = cc (e)

        by_test : (t : Bool) (names : List (List ℕ)) → (if t then [] ∷ names else with_front (b ∷ []) names) ≡ [] → ⊥
        by_test true names e = cc (e)
        by_test false names e = with_some names e

    by : (names : List (List ℕ)) → (names ≡ [] → ⊥) → names ≡ with_front [] names
    by [] n = absurd (n refl)
    by (name ∷ names) n = refl
front_of_name (b ∷ bs) rest w =
    let p = both (is_word_byte b) (list_all is_word_byte bs) w in
    let comma : (b == 44) ≡ false = no_comma b p.0 in
    rw comma (ap (with_front (b ∷ [])) (front_of_name bs rest p.1) ∙ front_more (b ∷ []) bs (between_commas rest))
  where
    both : (x y : Bool) → (x && y) ≡ true → (x ≡ true) × (y ≡ true)
    both true y t = (refl, t)
    both false y t = cc (t)

    no_comma : (b : ℕ) → is_word_byte b ≡ true → (b == 44) ≡ false
    no_comma b e = grind (arith, nat_tests)

    front_more : (front name : List ℕ) (names : List (List ℕ)) → with_front front (with_front name names) ≡ with_front (front ++ name) names
    front_more front name [] = refl
    front_more front name (n ∷ ns) = ap (λ x. x ∷ ns) (sym (append_assoc front name n))

-- an option's name has bytes of words alone
all_word : (names : List (List ℕ)) → AreWords names → (i : ℕ) → i < length names → list_all is_word_byte (item_or names i []) ≡ true
all_word names h i l =
    let w = (h.each i (item_or names i []) (option_there names i l)).0 in
    ap (list_all is_word_byte) w.is ∙ (λ k. w.first_word k && list_all is_word_byte w.rest) ∙ w.rest_word

-- the names behind commas
names_behind : (names : List (List ℕ)) → AreWords names → (on : List ℕ) → AllByRecursion (λ i. i < length names) on → between_commas (more (name_of names) on) ≡ [] ∷ map (name_of names) on
unfolding between_commas
names_behind names h [] p = refl
names_behind names h (i ∷ on) p =
    ap (λ ns. [] ∷ ns) (front_of_name (item_or names i []) (more (name_of names) on) (all_word names h i p.0) ∙ ap (with_front (item_or names i [])) (names_behind names h on p.1) ∙ ap (λ n. n ∷ map (name_of names) on) (append-nil (item_or names i [])))

names_read : (names : List (List ℕ)) → AreWords names → (on : List ℕ) → AllByRecursion (λ i. i < length names) on → names_in (joined (name_of names) on) ≡ map (name_of names) on
names_read names h [] p = refl
names_read names h (i ∷ on) p =
    let w = (h.each i (item_or names i []) (option_there names i p.0)).0 in
    let rest = more (name_of names) on in
    let dash : bytes_eq (item_or names i [] ++ rest) (codes "-") ≡ false = ap (λ x. bytes_eq (x ++ rest) (codes "-")) w.is ∙ no_dash w.first (w.rest ++ rest) w.first_word in
    rw dash (front_of_name (item_or names i []) rest (all_word names h i p.0) ∙ ap (with_front (item_or names i [])) (names_behind names h on p.1) ∙ ap (λ n. n ∷ map (name_of names) on) (append-nil (item_or names i [])))
  where
    no_dash : (b : ℕ) (bs : List ℕ) → is_word_byte b ≡ true → bytes_eq (b ∷ bs) (codes "-") ≡ false
    no_dash b bs e = not_same (b ∷ bs) (codes "-") (λ q.
        let first : b ≡ 45 = cc in
        let wrong : true ≡ false = sym e ∙ ap is_word_byte first in
        cc (wrong))

-- ---- which options these names are

nat_same : (i : ℕ) → nat_eq i i ≡ true
nat_same i = grind (arith, nat_tests)

nat_other : (i j : ℕ) → (i ≡ j → ⊥) → nat_eq i j ≡ false
nat_other i j n = by (nat_eq i j) refl
  where
    by : (t : Bool) → nat_eq i j ≡ t → t ≡ false
    by true e = let same : i ≡ j = grind (arith, nat_tests) in absurd (n same)
    by false e = refl

-- names of options are the same just where the options are
same_name : (names : List (List ℕ)) → AreWords names → (i j : ℕ) → i < length names → j < length names → bytes_eq (item_or names i []) (item_or names j []) ≡ nat_eq i j
same_name names h i j li lj = by (nat_eq i j) refl
  where
    by : (t : Bool) → nat_eq i j ≡ t → bytes_eq (item_or names i []) (item_or names j []) ≡ t
    by true e =
        let same : i ≡ j = grind (arith, nat_tests) in
        (bytes_eq-Decides (item_or names i []) (item_or names j [])).1 (ap (λ k. item_or names k []) same)
    by false e = not_same (item_or names i []) (item_or names j []) (λ q.
        let at_i = (h.each i (item_or names i []) (option_there names i li)).2 in
        let at_j = (h.each j (item_or names j []) (option_there names j lj)).2 in
        let same : i ≡ j = sym at_i ∙ ap (number_of (options_of names)) q ∙ at_j in
        let wrong : true ≡ false = sym (nat_same j) ∙ ap (λ k. nat_eq k j) (sym same) ∙ e in
        cc (wrong))

-- an option's name is among those of some options just where the option is among them
among_names : (names : List (List ℕ)) → AreWords names → (i : ℕ) → i < length names → (on : List ℕ) → AllByRecursion (λ k. k < length names) on → is_among (map (name_of names) on) (item_or names i []) ≡ list_any (nat_eq i) on
among_names names h i l [] p = refl
among_names names h i l (j ∷ on) p = λ k. same_name names h i j l p.0 k || among_names names h i l on p.1 k

-- each of them is an option's
among_options : (names : List (List ℕ)) (i : ℕ) → i < length names → is_among names (item_or names i []) ≡ true
among_options [] i l = absurd (omega (arith, l))
among_options (x ∷ xs) zero l = ap (λ b. b || is_among xs x) ((bytes_eq-Decides x x).1 refl)
among_options (x ∷ xs) (suc i) l = ap (λ b. bytes_eq (item_or xs i []) x || b) (among_options xs i (omega (arith, l))) ∙ or_true (bytes_eq (item_or xs i []) x)
  where
    or_true : (a : Bool) → (a || true) ≡ true
    or_true true = refl
    or_true false = refl

all_options : (names : List (List ℕ)) (on : List ℕ) → AllByRecursion (λ k. k < length names) on → list_all (is_among names) (map (name_of names) on) ≡ true
all_options names [] p = refl
all_options names (i ∷ on) p = λ k. among_options names i p.0 k && all_options names on p.1 k

-- ---- the options that are on

AreBelow-more : (m n : ℕ) (on : List ℕ) → m ≤ n → AllByRecursion (λ k. k < m) on → AllByRecursion (λ k. k < n) on
AreBelow-more m n [] l p = tt
AreBelow-more m n (i ∷ on) l p = let small = p.0 in (omega (arith, small, l), AreBelow-more m n on l p.1)

below-both : (n : ℕ) (xs ys : List ℕ) → AllByRecursion (λ k. k < n) xs → AllByRecursion (λ k. k < n) ys → AllByRecursion (λ k. k < n) (xs ++ ys)
below-both n [] ys p q = q
below-both n (x ∷ xs) ys p q = (p.0, below-both n xs ys p.1 q)

on_below : (n : ℕ) (c : List Bool) → AllByRecursion (λ k. k < n) (options_on n c)
on_below zero c = tt
on_below (suc n) c = below-both (suc n) (options_on n c) (if value_of c n then n ∷ [] else []) (AreBelow-more n (suc n) (options_on n c) (omega arith) (on_below n c)) (last (value_of c n))
  where
    last : (b : Bool) → AllByRecursion (λ k. k < suc n) (if b then n ∷ [] else [])
    last true = (omega arith, tt)
    last false = tt

-- none of them is a number that is not below
not_on : (n i : ℕ) (on : List ℕ) → n ≤ i → AllByRecursion (λ k. k < n) on → list_any (nat_eq i) on ≡ false
not_on n i [] l p = refl
not_on n i (j ∷ on) l p =
    let small = p.0 in
    let differ : nat_eq i j ≡ false = nat_other i j (λ e. omega (arith, e, small, l)) in
    λ k. differ k || not_on n i on l p.1 k

-- an option is among those that are on just where its value is
on_value : (n : ℕ) (c : List Bool) (i : ℕ) → i < n → list_any (nat_eq i) (options_on n c) ≡ value_of c i
on_value zero c i l = absurd (omega (arith, l))
on_value (suc n) c i l = list_any-append (nat_eq i) (options_on n c) (if value_of c n then n ∷ [] else []) ∙ by (on_value n c i) (nat_eq i n) refl
  where
    or_false : (a : Bool) → (a || false) ≡ a
    or_false true = refl
    or_false false = refl

    last_same : (b : Bool) → i ≡ n → list_any (nat_eq i) (if b then n ∷ [] else []) ≡ b
    last_same true e = ap (λ t. t || false) (ap (λ k. nat_eq k n) e ∙ nat_same n)
    last_same false e = refl

    last_other : (b : Bool) → nat_eq i n ≡ false → list_any (nat_eq i) (if b then n ∷ [] else []) ≡ false
    last_other true e = ap (λ t. t || false) e
    last_other false e = refl

    by : (i < n → list_any (nat_eq i) (options_on n c) ≡ value_of c i) → (t : Bool) → nat_eq i n ≡ t → (list_any (nat_eq i) (options_on n c) || list_any (nat_eq i) (if value_of c n then n ∷ [] else [])) ≡ value_of c i
    by before true e =
        let same : i ≡ n = grind (arith, nat_tests) in
        let none : list_any (nat_eq i) (options_on n c) ≡ false = not_on n i (options_on n c) (omega (arith, same)) (on_below n c) in
        (λ k. none k || last_same (value_of c n) same k) ∙ ap (value_of c) (sym same)
    by before false e =
        let other : i ≢ n = λ q. absurd_of (sym (nat_same n) ∙ ap (λ k. nat_eq k n) (sym q) ∙ e) in
        let small : i < n = omega (arith, l, other) in
        (λ k. before small k || last_other (value_of c n) e k) ∙ or_false (value_of c i)
      where
        absurd_of : true ≡ false → ⊥
        absurd_of w = cc (w)

-- no name stands twice
distinct_more : (names : List (List ℕ)) → AreWords names → (n : ℕ) (on : List ℕ) → n < length names → AllByRecursion (λ k. k < n) on → are_distinct (map (name_of names) on) ≡ true → are_distinct (map (name_of names) (on ++ n ∷ [])) ≡ true
distinct_more names h n [] l p d = refl
distinct_more names h n (i ∷ on) l p d =
    let small = p.0 in
    let li : i < length names = omega (arith, small, l) in
    let below = AreBelow-more n (length names) on (omega (arith, l)) p.1 in
    let q = both (not (is_among (map (name_of names) on) (item_or names i []))) (are_distinct (map (name_of names) on)) d in
    let differ : nat_eq i n ≡ false = nat_other i n (λ e. omega (arith, e, small)) in
    let last : is_among (map (name_of names) (on ++ n ∷ [])) (item_or names i []) ≡ is_among (map (name_of names) on) (item_or names i []) = among_names names h i li (on ++ n ∷ []) (below-both (length names) on (n ∷ []) below (l, tt)) ∙ list_any-append (nat_eq i) on (n ∷ []) ∙ (λ k. list_any (nat_eq i) on || (differ k || false)) ∙ or_false (list_any (nat_eq i) on) ∙ sym (among_names names h i li on below) in
    λ k. (ap not last ∙ q.0) k && distinct_more names h n on l p.1 q.1 k
  where
    or_false : (a : Bool) → (a || false) ≡ a
    or_false true = refl
    or_false false = refl

    both : (x y : Bool) → (x && y) ≡ true → (x ≡ true) × (y ≡ true)
    both true y t = (refl, t)
    both false y t = cc (t)

on_distinct : (names : List (List ℕ)) → AreWords names → (n : ℕ) (c : List Bool) → n ≤ length names → are_distinct (map (name_of names) (options_on n c)) ≡ true
on_distinct names h zero c l = refl
on_distinct names h (suc n) c l = by (on_distinct names h n c (omega (arith, l))) (value_of c n)
  where
    by : are_distinct (map (name_of names) (options_on n c)) ≡ true → (b : Bool) → are_distinct (map (name_of names) (options_on n c ++ (if b then n ∷ [] else []))) ≡ true
    by before true = distinct_more names h n (options_on n c) (omega (arith, l)) (on_below n c) before
    by before false = ap (λ on. are_distinct (map (name_of names) on)) (append-nil (options_on n c)) ∙ before

-- ---- the configuration

-- what is said of each option's name, as values
values_of : (names : List (List ℕ)) (c : List Bool) (f : List ℕ → Bool) → length c ≡ length names → ((i : ℕ) → i < length names → f (item_or names i []) ≡ value_of c i) → map f names ≡ c
values_of [] [] f e h = refl
values_of [] (v ∷ c) f e h = absurd (omega (arith, e))
values_of (x ∷ xs) [] f e h = absurd (omega (arith, e))
values_of (x ∷ xs) (v ∷ c) f e h = λ k. h 0 (omega arith) k ∷ values_of xs c f (omega (arith, e)) (λ i l. h (suc i) (omega (arith, l))) k

pub read_back : (names : List (List ℕ)) (c : List Bool) → AreOptionNames names → length c ≡ length names → configuration_of names (configuration_text names c) ≡ Some c
read_back names c n e =
    let h = AreWords-of names n in
    let on = options_on (length names) c in
    let below = on_below (length names) c in
    let read : names_in (configuration_text names c) ≡ map (name_of names) on = names_read names h on below in
    let options : list_all (is_among names) (map (name_of names) on) ≡ true = all_options names on below in
    let distinct : are_distinct (map (name_of names) on) ≡ true = on_distinct names h (length names) c (omega arith) in
    let values : map (is_among (map (name_of names) on)) names ≡ c = values_of names c (is_among (map (name_of names) on)) e (λ i l. among_names names h i l on below ∙ on_value (length names) c i l) in
    ap (with_these_on names) read ∙ (λ k. if options k && distinct k then Some (map (is_among (map (name_of names) on)) names) else None) ∙ ap Some values
