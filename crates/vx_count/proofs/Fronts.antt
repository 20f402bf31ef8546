-- The settings of a set that begin with some values.
use Rattle.std.proofs.Common.{◌≡◌, ◌≢◌, ℕ, ◌+◌, ◌≤◌, zero, suc, Bool, true, false, List, [], ◌∷◌, ◌++◌, length, map, take, refl, sym, ◌∙◌, ap, arith, append_assoc, append-nil}
use Rattle.std.specs.Prelude.{filter, if◌then◌else◌}
use Rattle.std.proofs.lemmas.List.{map-append, take_all}
use Rattle.std.proofs.lemmas.List.Elements.{filter-append}
use Rattle.vx_space.specs.Config.{value_of}
use Rattle.vx_space.specs.Sets.{Sets, IsLawful, IsTop}
use Rattle.vx_bdd_tools.proofs.Walks.{part_here}
use Rattle.vx_count.specs.Behind.{ArePartsAt, IsPartAt, settings_behind}
use Rattle.vx_count.specs.Settings.{settings}
use Rattle.vx_count.proofs.Halves.{filter-map}

-- ---- the parts of a set

pub parts_itself : {I : Type 0} (s : Sets I) (id : I) (option : ℕ) → s.is_known id ≡ true → ArePartsAt s id option id id
parts_itself s id option k = record { off = record { known = k; test = λ c e. refl }; on = record { known = k; test = λ c e. refl } }

pub parts_of_top : {I : Type 0} {s : Sets I} → IsLawful s → (id low high : I) (o option : ℕ) → s.is_known id ≡ true → IsTop s id o low high → o ≡ option → ArePartsAt s id option low high
parts_of_top {I} {s} lawful id low high o option k t e = record {
  off = record { known = t.off.known; test = λ c v. sym (part_here lawful id low o false k t.off c (ap (value_of c) e ∙ v)) };
  on = record { known = t.on.known; test = λ c v. sym (part_here lawful id high o true k t.on c (ap (value_of c) e ∙ v)) };
}

-- ---- one value more in front

value_behind : (front : List Bool) (b : Bool) (c : List Bool) (option : ℕ) → length front ≡ option → value_of ((front ++ b ∷ []) ++ c) option ≡ b
value_behind [] b c zero e = refl
value_behind [] b c (suc option) e = absurd (omega (arith, e))
value_behind (v ∷ front) b c zero e = absurd (omega (arith, e))
value_behind (v ∷ front) b c (suc option) e = value_behind front b c option (omega (arith, e))

pub behind_part : {I : Type 0} {s : Sets I} (id part : I) (option left : ℕ) (front : List Bool) (b : Bool) → length front ≡ option → IsPartAt s id option b part → settings_behind (front ++ b ∷ []) left (s.test part) ≡ settings_behind (front ++ b ∷ []) left (s.test id)
behind_part {I} {s} id part option left front b e p =
    λ i. map (λ c. (front ++ b ∷ []) ++ c) (filter (λ c. p.test ((front ++ b ∷ []) ++ c) (value_behind front b c option e) i) (settings left))

side : (front : List Bool) (left : ℕ) (test : List Bool → Bool) (b : Bool) → map (λ c. front ++ c) (filter (λ c. test (front ++ c)) (map (λ c. b ∷ c) (settings left))) ≡ settings_behind (front ++ b ∷ []) left test
side front left test b =
    ap (map (λ c. front ++ c)) (filter-map (λ c. test (front ++ c)) (λ c. b ∷ c) (settings left))
    ∙ map_twice (filter (λ c. test (front ++ b ∷ c)) (settings left))
    ∙ (λ i. map (λ c. moved c i) (filter (λ c. test (moved c i)) (settings left)))
  where
    moved : (c : List Bool) → front ++ b ∷ c ≡ (front ++ b ∷ []) ++ c
    moved c = sym (append_assoc front (b ∷ []) c)

    map_twice : (cs : List (List Bool)) → map (λ c. front ++ c) (map (λ c. b ∷ c) cs) ≡ map (λ c. front ++ b ∷ c) cs
    map_twice [] = refl
    map_twice (c ∷ cs) = ap (λ rest. (front ++ b ∷ c) ∷ rest) (map_twice cs)

behind-suc : (front : List Bool) (left : ℕ) (test : List Bool → Bool) → settings_behind front (suc left) test ≡ settings_behind (front ++ false ∷ []) left test ++ settings_behind (front ++ true ∷ []) left test
behind-suc front left test =
    ap (map (λ c. front ++ c)) (filter-append (λ c. test (front ++ c)) (map (λ c. false ∷ c) (settings left)) (map (λ c. true ∷ c) (settings left)))
    ∙ map-append (λ c. front ++ c) (filter (λ c. test (front ++ c)) (map (λ c. false ∷ c) (settings left))) (filter (λ c. test (front ++ c)) (map (λ c. true ∷ c) (settings left)))
    ∙ (λ i. side front left test false i ++ side front left test true i)

pub behind_both : (front : List Bool) (left fewer : ℕ) (test : List Bool → Bool) → left ≡ fewer + 1 → settings_behind front left test ≡ settings_behind (front ++ false ∷ []) fewer test ++ settings_behind (front ++ true ∷ []) fewer test
behind_both front zero fewer test e = absurd (omega (arith, e))
behind_both front (suc left) fewer test e =
    let same : left ≡ fewer = omega (arith, e) in
    behind-suc front left test ∙ (λ i. settings_behind (front ++ false ∷ []) (same i) test ++ settings_behind (front ++ true ∷ []) (same i) test)

-- ---- none, and one

none_left : (cs : List (List Bool)) (test : List Bool → Bool) → ((c : List Bool) → test c ≡ false) → filter test cs ≡ []
none_left [] test h = refl
none_left (c ∷ cs) test h = rw (h c) (none_left cs test h)

pub behind_never : {I : Type 0} {s : Sets I} → IsLawful s → (id : I) (front : List Bool) (left : ℕ) → id ≡ s.never → settings_behind front left (s.test id) ≡ []
behind_never {I} {s} lawful id front left e = ap (map (λ c. front ++ c)) (none_left (settings left) (λ c. s.test id (front ++ c)) (λ c. ap (λ x. s.test x (front ++ c)) e ∙ lawful.never_test (front ++ c)))

pub behind_last : (front : List Bool) (left : ℕ) (test : List Bool → Bool) → left ≡ 0 → settings_behind front left test ≡ (if test front then front ∷ [] else [])
behind_last front zero test e = by (test (front ++ [])) refl
  where
    by : (b : Bool) → test (front ++ []) ≡ b → settings_behind front 0 test ≡ (if test front then front ∷ [] else [])
    by true t = let here : test front ≡ true = ap test (sym (append-nil front)) ∙ t in rw (t, here) (ap (λ x. x ∷ []) (append-nil front))
    by false t = let here : test front ≡ false = ap test (sym (append-nil front)) ∙ t in rw (t, here) refl
behind_last front (suc left) test e = absurd (omega (arith, e))

pub behind_nothing : (left : ℕ) (test : List Bool → Bool) → settings_behind [] left test ≡ filter test (settings left)
behind_nothing left test = map_same (filter test (settings left))
  where
    map_same : (cs : List (List Bool)) → map (λ c. [] ++ c) cs ≡ cs
    map_same [] = refl
    map_same (c ∷ cs) = ap (λ rest. c ∷ rest) (map_same cs)

-- ---- the first n

pub take_within : {A : Type 0} (n : ℕ) (xs : List A) → length xs ≤ n → take n xs ≡ xs
take_within n xs l = take_all n xs l

take_full : {A : Type 0} (n : ℕ) (xs ys : List A) → length xs ≡ n → take n (xs ++ ys) ≡ xs
take_full zero [] ys e = refl
take_full zero (x ∷ xs) ys e = absurd (omega (arith, e))
take_full (suc n) [] ys e = absurd (omega (arith, e))
take_full (suc n) (x ∷ xs) ys e = ap (λ zs. x ∷ zs) (take_full n xs ys (omega (arith, e)))

take_again : {A : Type 0} (n : ℕ) (xs ys : List A) → take n (take n xs ++ ys) ≡ take n (xs ++ ys)
take_again zero xs ys = refl
take_again (suc n) [] ys = refl
take_again (suc n) (x ∷ xs) ys = ap (λ zs. x ∷ zs) (take_again n xs ys)

pub take_most : {A : Type 0} (n : ℕ) (xs : List A) → length (take n xs) ≤ n
take_most zero xs = omega arith
take_most (suc n) [] = omega arith
take_most (suc n) (x ∷ xs) = omega (arith, take_most n xs)

-- nothing more is put where n stand there already, or where there is nothing
pub stays_full : (n : ℕ) (found : List (List Bool)) (more : List (List Bool)) → length found ≡ n → found ≡ take n (found ++ more)
stays_full n found more e = sym (take_full n found more e)

pub stays_none : (n : ℕ) (found : List (List Bool)) (more : List (List Bool)) → length found ≤ n → more ≡ [] → found ≡ take n (found ++ more)
stays_none n found more l e = sym (ap (λ xs. take n (found ++ xs)) e ∙ ap (take n) (append-nil found) ∙ take_within n found l)

-- one more, where there is room
pub one_more : (n : ℕ) (found new : List (List Bool)) (b : Bool) (x : List Bool) (more : List (List Bool)) → length found ≤ n → length found ≢ n → new ≡ found ++ (if b then x ∷ [] else []) → more ≡ (if b then x ∷ [] else []) → new ≡ take n (found ++ more)
one_more n found new b x more l other e m = e ∙ ap (λ xs. found ++ xs) (sym m) ∙ sym (take_within n (found ++ more) (by b m))
  where
    by : (b : Bool) → more ≡ (if b then x ∷ [] else []) → length (found ++ more) ≤ n
    by true m = rw m (omega (arith, l, other, longer found))
      where
        longer : (xs : List (List Bool)) → length (xs ++ x ∷ []) ≡ length xs + 1
        longer [] = refl
        longer (y ∷ ys) = omega (arith, longer ys)
    by false m = rw (m, append-nil found) l

-- the first part, and then the second
pub both_parts : (n : ℕ) (found then_found new first second all : List (List Bool)) → then_found ≡ take n (found ++ first) → new ≡ take n (then_found ++ second) → all ≡ first ++ second → new ≡ take n (found ++ all)
both_parts n found then_found new first second all e f g =
    f ∙ ap (λ xs. take n (xs ++ second)) e ∙ take_again n (found ++ first) second ∙ ap (take n) (append_assoc found first second) ∙ ap (λ xs. take n (found ++ xs)) (sym g)

pub both_pushed : {I : Type 0} {s : Sets I} (id low high : I) (option left fewer n : ℕ) (front front1 : List Bool) (found found1 new : List (List Bool)) → ArePartsAt s id option low high → length front ≡ option → left ≡ fewer + 1 → found1 ≡ take n (found ++ settings_behind (front ++ false ∷ []) fewer (s.test low)) → front1 ≡ front → new ≡ take n (found1 ++ settings_behind (front1 ++ true ∷ []) fewer (s.test high)) → new ≡ take n (found ++ settings_behind front left (s.test id))
both_pushed {I} {s} id low high option left fewer n front front1 found found1 new p o l e same f =
    both_parts n found found1 new (settings_behind (front ++ false ∷ []) fewer (s.test id)) (settings_behind (front ++ true ∷ []) fewer (s.test id)) (settings_behind front left (s.test id))
    (e ∙ ap (λ xs. take n (found ++ xs)) (behind_part id low option fewer front false o p.off))
    (f ∙ ap (λ fs. take n (found1 ++ settings_behind (fs ++ true ∷ []) fewer (s.test high))) same ∙ ap (λ xs. take n (found1 ++ xs)) (behind_part id high option fewer front true o p.on))
    (behind_both front left fewer (s.test id) l)

pub first_found : (n options left : ℕ) (test : List Bool → Bool) (none : List (List Bool)) (front : List Bool) (found : List (List Bool)) → found ≡ take n (none ++ settings_behind front left test) → none ≡ [] → front ≡ [] → left ≡ options → found ≡ take n (filter test (settings options))
first_found n options left test none front found e a b o = e ∙ (λ i. take n (a i ++ settings_behind (b i) (o i) test)) ∙ ap (take n) (behind_nothing options test)
