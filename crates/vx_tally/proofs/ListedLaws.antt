-- Single numbers with the sets in which they are: one more, and all.
use Rattle.std.proofs.Common.{◌≡◌, ◌≢◌, ◌⊎◌, ℕ, ◌<◌, ◌≤◌, ◌^◌, Bool, true, false, List, [], ◌∷◌, refl, sym, ◌∙◌, ap, subst, arith, zero, suc, inl, inr}
use Rattle.std.specs.Prelude.{Option, Some, None, not, nat_le, ◌&&◌, if◌then◌else◌, insert}
use Rattle.std.specs.Ordering.{nat_cmp}
use Rattle.std.specs.Cmp.{nat_cmp_is}
use Rattle.std.specs.declared.cmp.Ordering.TheVariants.{Less}
use Rattle.std.proofs.lemmas.Bool.Decides.{nat_tests}
use Rattle.vx_space.specs.Sets.{Sets, IsSet, Extends, IsLawful}
use Rattle.vx_space.proofs.Spaces.{Extends-refl, Extends-trans}
use Rattle.vx_cond.specs.declared.cond.Leaf.{Leaf}
use Rattle.vx_cond.specs.Leaves.{value_at, IsBelow, AreLeaves, AreLeavesOf, IsApart}
use Rattle.vx_cond.proofs.LeafLaws.{AreLeaves-extends, value_at-extends}
use Rattle.vx_tally.specs.Tally.{TallyView, number_at}
use Rattle.vx_tally.specs.Answers.{IsMost}
use Rattle.vx_tally.specs.Listed.{numbers_in, Fit, IsUnder, IsListing, IsListedOne, first_number}
use Rattle.vx_tally.proofs.SetLaws.{none_in}
use Rattle.vx_tally.proofs.ReachedLaws.{at_least, less_than, order}

less : (a b : ℕ) → a < b → nat_cmp a b ≡ Less
less a b l = sym (nat_cmp_is a b Less l)

IsBelow-under : {S I : Type 0} (n : ℕ) (leaves : List (Leaf ℕ S I)) → IsUnder n leaves → IsBelow nat_cmp n leaves
IsBelow-under n [] u = tt
IsBelow-under n (leaf ∷ leaves) u = (less n leaf.value u.0, IsBelow-under n leaves u.1)

pub first-under : {S I : Type 0} (n : ℕ) (leaves : List (Leaf ℕ S I)) → n < 2 ^ 64 → IsUnder n leaves → n < first_number leaves
first-under n [] l u = l
first-under n (leaf ∷ leaves) l u = u.0

pub insert-front : {A : Type 0} (xs : List A) (x : A) → insert xs 0 x ≡ x ∷ xs
insert-front [] x = refl
insert-front (y ∷ ys) x = refl

-- at the start all is left
pub IsListing-start : {S I : Type 0} (sets : Sets I) (tally : TallyView) (within : I) → sets.is_known within ≡ true → IsListing {S = S} sets sets tally within within []
IsListing-start sets tally within k = record {
  extends = Extends-refl sets;
  rest_known = k;
  are_leaves = tt;
  inside = λ c t. t;
  values = λ c. by (sets.test within c) (number_at tally c);
  under = λ c t. tt;
}
  where
    by : (b : Bool) (n : ℕ) → None ≡ (if b && not b then Some n else None)
    by true n = refl
    by false n = refl

-- the greatest number is that of a configuration that is left
greatest_at : {I : Type 0} (sets : Sets I) (tally : TallyView) (rest : I) (most : ℕ) (m : IsMost sets (number_at tally) rest most) → ((c : List Bool) → sets.test rest c ≡ true → number_at tally c < 2 ^ 64) → number_at tally m.at ≡ most
greatest_at sets tally rest most m f =
    let bound = m.bound m.at m.inside (f m.at m.inside) in
    omega (arith, m.attained, bound)

both_true : (a b : Bool) → (a && b) ≡ true → (a ≡ true) × (b ≡ true)
both_true true b h = (refl, h)
both_true false b h = cc

le_is : (a b : ℕ) → nat_le a b ≡ true → a ≤ b
le_is a b h = elim (order a b) [
  | inl l ↦ l
  | inr l ↦ absurd (differ (nat_le a b) h (less_than a b l))
]
  where
    differ : (x : Bool) → x ≡ true → x ≡ false → ⊥
    differ x e f = cc

lt_is : (a b : ℕ) → nat_le a b ≡ false → b < a
lt_is a b h = elim (order a b) [
  | inl l ↦ absurd (differ (nat_le a b) (at_least a b l) h)
  | inr l ↦ l
]
  where
    differ : (x : Bool) → x ≡ true → x ≡ false → ⊥
    differ x e f = cc

-- one number more
pub IsListing-step : {S I : Type 0} {s0 s1 s2 : Sets I} → IsLawful s2 → (tally : TallyView) (within rest left : I) (before after : List (Leaf ℕ S I)) → Fit s0 tally within → IsListing s0 s1 tally within rest before → IsListedOne s1 s2 tally rest left before after → IsListing s0 s2 tally within left after
IsListing-step {S = S} {I = I} {s0 = s0} {s1 = s1} {s2 = s2} lawful tally within rest left before after fit h one =
    let P : List (Leaf ℕ S I) → Type 0 = λ xs. IsListing s0 s2 tally within left xs in
    subst P (sym one.put) (record {
      extends = Extends-trans h.extends both;
      rest_known = one.left_is.known;
      are_leaves = (
        record {
          known = one.second.known one.leaf.condition one.condition.known;
          nonempty = λ e. nowhere (s2.test one.leaf.condition one.most.at) (holds one.most.at ∙ rw (one.most.inside, at_least one.leaf.value (number_at tally one.most.at) one.most.attained) refl) (none_in lawful one.leaf.condition one.most.at e);
          below = IsBelow-under one.leaf.value before (subst (λ n. IsUnder n before) top (h.under one.most.at one.most.inside));
          apart = record { none = λ c t. kept c ∙ h.values c ∙ none_left c (both_true (s1.test rest c) (nat_le one.leaf.value (number_at tally c)) (sym (holds c) ∙ t)).0 };
        },
        AreLeaves-extends nat_cmp both before h.are_leaves,
      );
      inside = λ c t. h.inside c (in_rest c t);
      values = λ c. by c (s1.test rest c) (nat_le one.leaf.value (number_at tally c)) refl refl;
      under = λ c t. (lt_is one.leaf.value (number_at tally c) (not_reached c t), h.under c (in_rest c t));
    })
  where
    both : Extends s1 s2
    both = Extends-trans one.first one.second

    fits : (c : List Bool) → s1.test rest c ≡ true → number_at tally c < 2 ^ 64
    fits c t = fit.below c (h.inside c t)

    top : number_at tally one.most.at ≡ one.leaf.value
    top = greatest_at s1 tally rest one.leaf.value one.most fits

    holds : (c : List Bool) → s2.test one.leaf.condition c ≡ (s1.test rest c && nat_le one.leaf.value (number_at tally c))
    holds c = one.second.test one.leaf.condition c one.condition.known ∙ one.condition.test c

    remains : (c : List Bool) → s2.test left c ≡ (s1.test rest c && not (s1.test rest c && nat_le one.leaf.value (number_at tally c)))
    remains c = one.left_is.test c ∙ rw (one.first.test rest c h.rest_known, one.condition.test c) refl

    kept : (c : List Bool) → value_at s2 before c ≡ value_at s1 before c
    kept c = value_at-extends nat_cmp both before h.are_leaves c

    nowhere : (x : Bool) → x ≡ true → x ≡ false → ⊥
    nowhere x e f = cc

    none_left : (c : List Bool) → s1.test rest c ≡ true → (if s0.test within c && not (s1.test rest c) then Some (number_at tally c) else None) ≡ None
    none_left c t = rw t (without (s0.test within c))
      where
        without : (a : Bool) → (if a && false then Some (number_at tally c) else None) ≡ None
        without true = refl
        without false = refl

    left_parts : (r n : Bool) → (r && not (r && n)) ≡ true → (r ≡ true) × (n ≡ false)
    left_parts true true e = cc
    left_parts true false e = (refl, refl)
    left_parts false n e = cc

    in_rest : (c : List Bool) → s2.test left c ≡ true → s1.test rest c ≡ true
    in_rest c t = (left_parts (s1.test rest c) (nat_le one.leaf.value (number_at tally c)) (sym (remains c) ∙ t)).0

    not_reached : (c : List Bool) → s2.test left c ≡ true → nat_le one.leaf.value (number_at tally c) ≡ false
    not_reached c t = (left_parts (s1.test rest c) (nat_le one.leaf.value (number_at tally c)) (sym (remains c) ∙ t)).1

    by : (c : List Bool) (r n : Bool) → s1.test rest c ≡ r → nat_le one.leaf.value (number_at tally c) ≡ n → (if s2.test one.leaf.condition c then Some one.leaf.value else value_at s2 before c) ≡ (if s0.test within c && not (s2.test left c) then Some (number_at tally c) else None)
    by c true true e f =
        let bound = one.most.bound c e (fits c e) in
        let same : one.leaf.value ≡ number_at tally c = omega (arith, bound, le_is one.leaf.value (number_at tally c) f) in
        rw (holds c, remains c, e, f, h.inside c e) (ap Some same)
    by c true false e f = rw (holds c, remains c, kept c, h.values c, e, f) refl
    by c false n e f = rw (holds c, remains c, kept c, h.values c, e) refl

-- and where nothing is left
pub IsListing-all : {S I : Type 0} {s0 s1 s2 : Sets I} → IsLawful s1 → (tally : TallyView) (within rest : I) (leaves : List (Leaf ℕ S I)) → IsListing s0 s1 tally within rest leaves → rest ≡ s1.never → Extends s1 s2 → AreLeavesOf nat_cmp s2 (numbers_in s0 tally within) leaves
IsListing-all {s0 = s0} {s1 = s1} lawful tally within rest leaves h n e = record {
  are_leaves = AreLeaves-extends nat_cmp e leaves h.are_leaves;
  values = λ c. value_at-extends nat_cmp e leaves h.are_leaves c ∙ h.values c ∙ rw (none_in lawful rest c n) (all (s0.test within c) (number_at tally c));
}
  where
    all : (b : Bool) (n : ℕ) → (if b && true then Some n else None) ≡ (if b then Some n else None)
    all true n = refl
    all false n = refl

-- each turn lists a lesser number
pub lesser-first : {S I : Type 0} {s0 s1 : Sets I} (s2 : Sets I) (tally : TallyView) (within rest left : I) (before after : List (Leaf ℕ S I)) → Fit s0 tally within → IsListing s0 s1 tally within rest before → IsListedOne s1 s2 tally rest left before after → first_number after < first_number before
lesser-first {s1 = s1} s2 tally within rest left before after fit h one =
    let top = greatest_at s1 tally rest one.leaf.value one.most (λ c t. fit.below c (h.inside c t)) in
    let small = fit.below one.most.at (h.inside one.most.at one.most.inside) in
    let under = first-under one.leaf.value before (omega (arith, top, small)) (subst (λ n. IsUnder n before) top (h.under one.most.at one.most.inside)) in
    omega (arith, ap first_number one.put, under)
