-- A program whose classes have ranks is ranked.
use Rattle.std.proofs.Common.{List, None, Option, Some, [], ap, arith, inl, inr, length, refl, subst, suc, sym, true, zero, ℕ, ◌<◌, ◌⊎◌, ◌∙◌, ◌∷◌, ◌≡◌, ◌≤◌}
use Rattle.std.proofs.lemmas.Bool.Decides.{Decides-eqb}
use Rattle.std.specs.Prelude.{nat_eq}
use Rattle.vx_link.specs.ClassNames.{object_class}
use Rattle.vx_link.specs.Hierarchy.{chain_within, is_among, superclass_of, superclasses}
use Rattle.vx_link.specs.Parts.{class_count}
use Rattle.vx_link.specs.declared.program.Program.{Program}
use Rattle.vx_types.proofs.Tests.{either, or_first, or_second}
use Rattle.vx_types.specs.Ranked.{HasRanks, IsRanked}

no_chain : (p : Program) (n : ℕ) → chain_within p n None ≡ []
no_chain p zero = refl
no_chain p (suc n) = refl

-- a chain has all that is above, where it may have as many classes as the rank says
complete : (p : Program) (ranks : HasRanks p) (m n c : ℕ) → ranks.rank c < m → ranks.rank c < n → chain_within p m (Some c) ≡ chain_within p n (Some c)
complete p ranks zero n c h k = absurd (omega (arith, h))
complete p ranks (suc m) zero c h k = absurd (omega (arith, k))
complete p ranks (suc m) (suc n) c h k = ap (λ cs. c ∷ cs) (by (λ d l o. complete p ranks m n d l o) (superclass_of p c) refl)
  where
    by : ((d : ℕ) → ranks.rank d < m → ranks.rank d < n → chain_within p m (Some d) ≡ chain_within p n (Some d)) → (o : Option ℕ) → superclass_of p c ≡ o
        → chain_within p m o ≡ chain_within p n o
    by others None e = no_chain p m ∙ sym (no_chain p n)
    by others (Some d) e = let falls = ranks.falls c d e in others d (omega (arith, falls, h)) (omega (arith, falls, k))

-- the classes above one, and those above its superclass
step : (p : Program) (ranks : HasRanks p) (c d : ℕ) → superclass_of p c ≡ Some d → superclasses p c ≡ c ∷ superclasses p d
step p ranks c d e = by (class_count p) refl
  where
    few : ranks.rank c < class_count p
    few = ranks.few c

    falls : ranks.rank d < ranks.rank c
    falls = ranks.falls c d e

    by : (n : ℕ) → class_count p ≡ n → chain_within p n (Some c) ≡ c ∷ chain_within p n (Some d)
    by zero is = absurd (omega (arith, few, is))
    by (suc n) is =
        ap (λ o. c ∷ chain_within p n o) e
        ∙ ap (λ cs. c ∷ cs) (complete p ranks n (suc n) d (omega (arith, few, falls, is)) (omega (arith, few, falls, is)))

alone : (p : Program) (ranks : HasRanks p) (c : ℕ) → superclass_of p c ≡ None → superclasses p c ≡ c ∷ []
alone p ranks c e = by (class_count p) refl
  where
    few : ranks.rank c < class_count p
    few = ranks.few c

    by : (n : ℕ) → class_count p ≡ n → chain_within p n (Some c) ≡ c ∷ []
    by zero is = absurd (omega (arith, few, is))
    by (suc n) is = ap (λ o. c ∷ chain_within p n o) e ∙ ap (λ cs. c ∷ cs) (no_chain p n)

itself : (p : Program) (ranks : HasRanks p) (c : ℕ) → is_among c (superclasses p c) ≡ true
itself p ranks c = by (class_count p) refl
  where
    few : ranks.rank c < class_count p
    few = ranks.few c

    by : (n : ℕ) → class_count p ≡ n → is_among c (chain_within p n (Some c)) ≡ true
    by zero is = absurd (omega (arith, few, is))
    by (suc n) is = or_first (nat_eq c c) (is_among c (chain_within p n (superclass_of p c))) ((Decides-eqb c c).1 refl)

-- what is above a class is it, or above its superclass
above : (p : Program) (ranks : HasRanks p) (b c : ℕ) → is_among c (superclasses p b) ≡ true → (c ≡ b) ⊎ ((d : ℕ) × (superclass_of p b ≡ Some d) × (is_among c (superclasses p d) ≡ true))
above p ranks b c h = by (superclass_of p b) refl
  where
    by : (o : Option ℕ) → superclass_of p b ≡ o → (c ≡ b) ⊎ ((d : ℕ) × (superclass_of p b ≡ Some d) × (is_among c (superclasses p d) ≡ true))
    by None e = elim (either (nat_eq c b) (is_among c []) (subst (λ (cs : List ℕ). is_among c cs ≡ true) (alone p ranks b e) h)) [
      | inl same ↦ inl ((Decides-eqb c b).0 same)
      | inr none ↦ absurd cc
    ]
    by (Some d) e = elim (either (nat_eq c b) (is_among c (superclasses p d)) (subst (λ (cs : List ℕ). is_among c cs ≡ true) (step p ranks b d e) h)) [
      | inl same ↦ inl ((Decides-eqb c b).0 same)
      | inr later ↦ inr (d, e, later)
    ]

more_above : (p : Program) (ranks : HasRanks p) (b d c : ℕ) → superclass_of p b ≡ Some d → is_among c (superclasses p d) ≡ true → is_among c (superclasses p b) ≡ true
more_above p ranks b d c e h =
    subst (λ (cs : List ℕ). is_among c cs ≡ true) (sym (step p ranks b d e)) (or_second (nat_eq c b) (is_among c (superclasses p d)) h)

-- by the rank of the lowest class
through : (p : Program) (ranks : HasRanks p) (most b c d : ℕ) → ranks.rank b < most → is_among c (superclasses p b) ≡ true → is_among d (superclasses p c) ≡ true → is_among d (superclasses p b) ≡ true
through p ranks zero b c d l h k = absurd (omega (arith, l))
through p ranks (suc most) b c d l h k = elim (above p ranks b c h) [
  | inl same ↦ subst (λ n. is_among d (superclasses p n) ≡ true) same k
  | inr up ↦
      let falls = ranks.falls b up.0 up.1 in
      more_above p ranks b up.0 d up.1 (through p ranks most up.0 c d (omega (arith, falls, l)) up.2 k)
]

longer : (p : Program) (ranks : HasRanks p) (c d : ℕ) → superclass_of p c ≡ Some d → length (superclasses p c) ≡ suc (length (superclasses p d))
longer p ranks c d e = ap length (step p ranks c d e)

-- what is above a class has no longer chain
no_longer : (p : Program) (ranks : HasRanks p) (most b c : ℕ) → ranks.rank b < most → is_among c (superclasses p b) ≡ true → length (superclasses p c) ≤ length (superclasses p b)
no_longer p ranks zero b c l h = absurd (omega (arith, l))
no_longer p ranks (suc most) b c l h = elim (above p ranks b c h) [
  | inl same ↦ let here : length (superclasses p c) ≡ length (superclasses p b) = ap (λ n. length (superclasses p n)) same in omega (arith, here)
  | inr up ↦
      let falls = ranks.falls b up.0 up.1 in
      let less = no_longer p ranks most up.0 c (omega (arith, falls, l)) up.2 in
      let more = longer p ranks b up.0 up.1 in
      omega (arith, less, more)
]

shorter : (p : Program) (ranks : HasRanks p) (c d : ℕ) → is_among d (superclasses p c) ≡ true → ¬ (d ≡ c) → length (superclasses p d) < length (superclasses p c)
shorter p ranks c d h other = elim (above p ranks c d h) [
  | inl same ↦ absurd (other same)
  | inr up ↦
      let less = no_longer p ranks (suc (ranks.rank up.0)) up.0 d (omega arith) up.2 in
      let more = longer p ranks c up.0 up.1 in
      omega (arith, less, more)
]

only_object : (p : Program) (ranks : HasRanks p) (c : ℕ) → is_among c (superclasses p (object_class p)) ≡ true → c ≡ object_class p
only_object p ranks c h = elim (above p ranks (object_class p) c h) [
  | inl same ↦ same
  | inr up ↦ none up.0 (sym ranks.root ∙ up.1)
]
  where
    none : (d : ℕ) → ◌≡◌ {A = Option ℕ} None (Some d) → c ≡ object_class p
    none d e = absurd cc

pub ranks_are_ranked : (p : Program) → HasRanks p → IsRanked p
ranks_are_ranked p ranks = record {
  itself = itself p ranks;
  through = λ b c d h k. through p ranks (suc (ranks.rank b)) b c d (omega arith) h k;
  shorter = shorter p ranks;
  object = only_object p ranks;
}
