-- Lists in which no item stands twice, and configurations that have given values at such places.
use Rattle.std.proofs.Common.{◌≡◌, ◌≢◌, ℕ, ◌+◌, ◌<◌, zero, suc, Bool, true, false, cond, List, [], ◌∷◌, ◌++◌, length, take, filter, Contains, slice_get, refl, sym, ◌∙◌, ap, subst, arith}
use Rattle.std.specs.Prelude.{Some}
use Rattle.std.specs.List.{AllByRecursion}
use Rattle.std.proofs.lemmas.Option.{same_Some}
use Rattle.vx_space.specs.Config.{value_of, with_option}
use Rattle.vx_space.specs.Mask.{tail_of}
use Rattle.vx_space.specs.MaskLaws.{value_of-tail}
use Rattle.vx_space.proofs.Configs.{value_of-same, value_of-other}
use Rattle.vx_bdd_tools.specs.declared.node.Node.{Node}
use Rattle.vx_bdd_tools.specs.Nodes.{holds, IsReducedList}
use Rattle.vx_bdd_tools.proofs.NodeSets.{canonical, holds-options}
use Rattle.vx_words.specs.Names.{AreNew}
use Rattle.vx_compare.specs.Names.{values_at}

-- no item stands twice
abbrev pub AreApart : {A : Type 0} → List A → Type 0
AreApart [] = Unit {0}
AreApart (x ∷ xs) = AllByRecursion (λ y. x ≢ y) xs × AreApart xs

-- ---- what holds of each item

pub all_from : {A : Type 0} (P : A → Type 0) (xs : List A) → ((place : ℕ) (x : A) → slice_get xs place ≡ Some x → P x) → AllByRecursion P xs
all_from P [] h = tt
all_from P (x ∷ xs) h = (h zero x refl, all_from P xs (λ place y e. h (suc place) y e))

each_at : {A : Type 0} (P : A → Type 0) (xs : List A) (place : ℕ) (x : A) → AllByRecursion P xs → slice_get xs place ≡ Some x → P x
each_at P [] place x all e = absurd cc
each_at P (y ∷ xs) zero x all e = subst P (same_Some y x e) all.0
each_at P (y ∷ xs) (suc place) x all e = each_at P xs place x all.1 e

pub all_kept : {A : Type 0} (P : A → Type 0) (p : A → Bool) (xs : List A) → AllByRecursion P xs → AllByRecursion P (filter p xs)
all_kept P p [] all = tt
all_kept {A} P p (x ∷ xs) all = by (p x) (all_kept P p xs all.1)
  where
    by : (b : Bool) → AllByRecursion P (filter p xs) → AllByRecursion P (cond b (x ∷ filter p xs) (filter p xs))
    by true rest = (all.0, rest)
    by false rest = rest

pub all_both : {A : Type 0} (P : A → Type 0) (xs ys : List A) → AllByRecursion P xs → AllByRecursion P ys → AllByRecursion P (xs ++ ys)
all_both P [] ys h k = k
all_both P (x ∷ xs) ys h k = (h.0, all_both P xs ys h.1 k)

-- ---- items that stand once

pub new_apart : (names : List (List ℕ)) → AreNew names → AreApart names
new_apart [] new = tt
new_apart (x ∷ xs) new = (
  all_from (λ y. x ≢ y) xs (λ place y e same. new (suc place) y e (0, omega arith, same)),
  new_apart xs (λ place y e h. let within = h.1 in new (suc place) y e (suc h.0, omega (arith, within), h.2)),
)

pub apart_new : (names : List (List ℕ)) → AreApart names → (place : ℕ) (name : List ℕ) → slice_get names place ≡ Some name → Contains (take place names) name → ⊥
apart_new [] apart place name e h = absurd cc
apart_new (x ∷ xs) apart zero name e h = let within = h.1 in omega (arith, within)
apart_new (x ∷ xs) apart (suc place) name e (zero, within, same) = each_at (λ y. x ≢ y) xs place name apart.0 e same
apart_new (x ∷ xs) apart (suc place) name e (suc k, within, same) = apart_new xs apart.1 place name e (k, omega (arith, within), same)

pub kept_apart : {A : Type 0} (p : A → Bool) (xs : List A) → AreApart xs → AreApart (filter p xs)
kept_apart p [] h = tt
kept_apart {A} p (x ∷ xs) h = by (p x) (kept_apart p xs h.1)
  where
    by : (b : Bool) → AreApart (filter p xs) → AreApart (cond b (x ∷ filter p xs) (filter p xs))
    by true rest = (all_kept (λ y. x ≢ y) p xs h.0, rest)
    by false rest = rest

pub both_apart : {A : Type 0} (xs ys : List A) → AreApart xs → AreApart ys → AllByRecursion (λ x. AllByRecursion (λ y. x ≢ y) ys) xs → AreApart (xs ++ ys)
both_apart [] ys h k all = k
both_apart (x ∷ xs) ys h k all = (all_both (λ y. x ≢ y) xs ys h.0 all.0, both_apart xs ys h.1 k all.1)

-- ---- configurations by their values at some places

-- a configuration that has these values there
abbrev spread : List ℕ → List Bool → List Bool
spread [] d = []
spread (place ∷ places) d = with_option (spread places (tail_of d)) place (value_of d 0)

values_other : (places : List ℕ) (place : ℕ) (c : List Bool) (b : Bool) → AllByRecursion (λ other. place ≢ other) places → values_at places (with_option c place b) ≡ values_at places c
values_other [] place c b h = refl
values_other (other ∷ places) place c b h =
    let first = value_of-other c place other b h.0 in
    let rest = values_other places place c b h.1 in
    λ i. first i ∷ rest i

values_spread : (places : List ℕ) → AreApart places → (d : List Bool) (i : ℕ) → i < length places → value_of (values_at places (spread places d)) i ≡ value_of d i
values_spread [] apart d i l = absurd (omega (arith, l))
values_spread (place ∷ places) apart d zero l = value_of-same (spread places (tail_of d)) place (value_of d 0)
values_spread (place ∷ places) apart d (suc i) l =
    ap (λ c. value_of c i) (values_other places place (spread places (tail_of d)) (value_of d 0) apart.0) ∙ values_spread places apart.1 (tail_of d) i (omega (arith, l)) ∙ value_of-tail d i

-- a number of a reduced list that holds no configuration by its values at the places of the options is never
pub seen_never : (places : List ℕ) (nodes : List Node) → IsReducedList (length places) nodes → AreApart places → (k : ℕ) → k < length nodes + 2 → ((c : List Bool) → holds nodes k (values_at places c) ≡ false) → k ≡ 0
seen_never places nodes reduced apart k l none =
    canonical reduced k 0 l (omega arith) (λ d. holds-options reduced k d (values_at places (spread places d)) (λ i m. sym (values_spread places apart d i m)) ∙ none (spread places d))
