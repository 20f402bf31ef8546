-- The superclasses of a class, one step up.
use Rattle.std.proofs.Common.{Bool, None, Option, Some, [], ap, arith, false, inl, inr, length, refl, suc, sym, true, zero, ℕ, ◌<◌, ◌≢◌, ◌⊎◌, ◌∙◌, ◌∷◌, ◌≡◌, ◌≤◌}
use Rattle.std.proofs.Math.Dec.{eqb}
use Rattle.std.proofs.lemmas.Bool.{ltb-false, ltb-true}
use Rattle.std.proofs.lemmas.Bool.Decides.{Decides-eqb}
use Rattle.std.specs.Option.{option_map}
use Rattle.std.specs.Prelude.{nat_eq, nat_lt}
use Rattle.vx_link.specs.ClassNames.{object_class}
use Rattle.vx_link.specs.Hierarchy.{chain_within, is_among, superclass_of, superclasses}
use Rattle.vx_link.specs.Parts.{class_at, class_count, no_class}
use Rattle.vx_link.specs.declared.program.LinkedClass.{LinkedClass}
use Rattle.vx_link.specs.declared.program.Program.{Program}
use Rattle.vx_sound.specs.Sound.{HasHierarchy}
use Rattle.vx_sound_objects.proofs.Lists.{missing_item}
use Rattle.vx_types.proofs.Tests.{either, or_first, or_second}

-- the chain above a class is that of its superclass
pub record HasChains (p : Program) : Type 0 where
  pub step : (c d : ℕ) → superclass_of p c ≡ Some d → superclasses p c ≡ c ∷ superclasses p d
  pub alone : (c : ℕ) → superclass_of p c ≡ None → superclasses p c ≡ c ∷ []

no_chain : (p : Program) (n : ℕ) → chain_within p n None ≡ []
no_chain p zero = refl
no_chain p (suc n) = refl

chain_bound : (p : Program) (n : ℕ) (o : Option ℕ) → length (chain_within p n o) ≤ n
chain_bound p zero o = omega arith
chain_bound p (suc n) None = omega arith
chain_bound p (suc n) (Some c) = let less = chain_bound p n (superclass_of p c) in omega (arith, less)

-- a chain that isn't cut has all that a longer one has
whole_or_cut : (p : Program) (n : ℕ) (o : Option ℕ) → (chain_within p n o ≡ chain_within p (suc n) o) ⊎ (length (chain_within p (suc n) o) ≡ suc n)
whole_or_cut p zero None = inl refl
whole_or_cut p zero (Some c) = inr refl
whole_or_cut p (suc n) None = inl refl
whole_or_cut p (suc n) (Some c) = elim (whole_or_cut p n (superclass_of p c)) [
  | inl whole ↦ inl (ap (λ cs. c ∷ cs) whole)
  | inr cut ↦ inr (ap suc cut)
]

-- above a class that is its own superclass there is no other
only_itself : (p : Program) (c d : ℕ) → superclass_of p c ≡ Some c → (n : ℕ) → is_among d (chain_within p n (Some c)) ≡ true → d ≡ c
only_itself p c d loops zero among = absurd cc
only_itself p c d loops (suc n) among =
    by (only_itself p c d loops n) (either (nat_eq d c) (is_among d (chain_within p n (superclass_of p c))) among)
  where
    by : (is_among d (chain_within p n (Some c)) ≡ true → d ≡ c) → ((nat_eq d c ≡ true) ⊎ (is_among d (chain_within p n (superclass_of p c)) ≡ true)) → d ≡ c
    by above (inl same) = (Decides-eqb d c).0 same
    by above (inr later) = above (ap (λ o. is_among d (chain_within p n o)) (sym loops) ∙ later)

module _ (p : Program) (h : HasHierarchy p) (two : 1 < class_count p) (root : superclass_of p (object_class p) ≡ None) where
  -- what has a superclass is there
  has_class : (c d : ℕ) → superclass_of p c ≡ Some d → c < class_count p
  has_class c d up = by (nat_lt c (class_count p)) refl
    where
      by : (b : Bool) → nat_lt c (class_count p) ≡ b → c < class_count p
      by true less = ltb-true c (class_count p) less
      by false over =
          let none : class_at p c ≡ no_class = missing_item p.classes c no_class (ltb-false c (class_count p) over) in
          absurd (no_super (sym (ap (λ (x : LinkedClass). super_of x) none) ∙ up))
        where
          super_of : LinkedClass → Option ℕ
          super_of x = option_map (λ s. s.0) x.superclass

          no_super : ◌≡◌ {A = Option ℕ} None (Some d) → ⊥
          no_super wrong = cc

  no_loop : (c : ℕ) → superclass_of p c ≡ Some c → ⊥
  no_loop c loops =
      let same : object_class p ≡ c = only_itself p c (object_class p) loops (class_count p) (h.object c (has_class c c loops)) in
      wrong (sym root ∙ ap (superclass_of p) same ∙ loops)
    where
      wrong : ◌≡◌ {A = Option ℕ} None (Some c) → ⊥
      wrong e = cc

  one_up : (c d : ℕ) → superclass_of p c ≡ Some d → superclasses p c ≡ c ∷ superclasses p d
  one_up c d up = by (class_count p) refl two
    where
      other : d ≢ c
      other same = no_loop c (up ∙ ap Some same)

      by : (n : ℕ) → class_count p ≡ n → 1 < n → chain_within p n (Some c) ≡ c ∷ chain_within p n (Some d)
      by zero is more = absurd (omega (arith, more))
      by (suc zero) is more = absurd (omega (arith, more))
      by (suc (suc n)) is more = elim (whole_or_cut p (suc n) (Some d)) [
        | inl whole ↦ ap (λ o. c ∷ chain_within p (suc n) o) up ∙ ap (λ cs. c ∷ cs) whole
        | inr cut ↦ absurd (too_long cut)
      ]
        where
          above : is_among d (superclasses p c) ≡ true
          above =
              ap (λ k. is_among d (chain_within p k (Some c))) is
              ∙ or_second (nat_eq d c) (is_among d (chain_within p (suc n) (superclass_of p c)))
              (ap (λ o. is_among d (chain_within p (suc n) o)) up ∙ or_first (nat_eq d d) (is_among d (chain_within p n (superclass_of p d))) ((Decides-eqb d d).1 refl))

          too_long : length (chain_within p (suc (suc n)) (Some d)) ≡ suc (suc n) → ⊥
          too_long cut =
              let shorter : length (superclasses p d) < length (superclasses p c) = h.ranked.shorter c d above other in
              let bound : length (superclasses p c) ≤ class_count p = chain_bound p (class_count p) (Some c) in
              let long : length (superclasses p d) ≡ suc (suc n) = ap (λ k. length (chain_within p k (Some d))) is ∙ cut in
              omega (arith, shorter, bound, long, is)

  none_up : (c : ℕ) → superclass_of p c ≡ None → superclasses p c ≡ c ∷ []
  none_up c up = by (class_count p) two
    where
      by : (n : ℕ) → 1 < n → chain_within p n (Some c) ≡ c ∷ []
      by zero more = absurd (omega (arith, more))
      by (suc n) more = ap (λ o. c ∷ chain_within p n o) up ∙ ap (λ cs. c ∷ cs) (no_chain p n)

  pub chains : HasChains p
  chains = record { step = one_up; alone = none_up }
