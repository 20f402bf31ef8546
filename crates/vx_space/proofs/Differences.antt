-- Two ids that differ have a configuration in which their sets differ.
use Rattle.std.proofs.Common.{◌≡◌, ◌≢◌, ◌⊎◌, ℕ, ◌<◌, Bool, true, false, List, [], ◌∷◌, refl, sym, ◌∙◌, arith, zero, suc, inl, inr}
use Rattle.vx_space.specs.Config.{value_of}
use Rattle.vx_space.specs.Sets.{Sets, IsLawful}
use Rattle.vx_space.specs.Mask.{tail_of}
use Rattle.vx_space.specs.MaskLaws.{value_of-tail}

-- the first n values
abbrev pub firsts : ℕ → List Bool → List Bool
firsts zero c = []
firsts (suc n) c = value_of c 0 ∷ firsts n (tail_of c)

pub value_of-firsts : (n : ℕ) (c : List Bool) (i : ℕ) → i < n → value_of (firsts n c) i ≡ value_of c i
value_of-firsts zero c i l = absurd (omega (arith, l))
value_of-firsts (suc n) c zero l = refl
value_of-firsts (suc n) c (suc i) l = value_of-firsts n (tail_of c) i (omega (arith, l)) ∙ value_of-tail c i

-- a test holds somewhere, or nowhere
somewhere : (n : ℕ) (p : List Bool → Bool) → ((c : List Bool) × (p c ≡ true)) ⊎ ((c : List Bool) → p (firsts n c) ≡ false)
somewhere zero p = at_nil (p []) refl
  where
    at_nil : (b : Bool) → p [] ≡ b → ((c : List Bool) × (p c ≡ true)) ⊎ ((c : List Bool) → p [] ≡ false)
    at_nil true e = inl ([], e)
    at_nil false e = inr (λ _. e)
somewhere (suc n) p = elim (somewhere n (λ c. p (true ∷ c))) [
  | inl q ↦ inl (true ∷ q.0, q.1)
  | inr none ↦ elim (somewhere n (λ c. p (false ∷ c))) [
    | inl q ↦ inl (false ∷ q.0, q.1)
    | inr never ↦ inr (λ c. both (value_of c 0) (firsts n (tail_of c)) (none (tail_of c)) (never (tail_of c)))
  ]
]
  where
    both : (b : Bool) (d : List Bool) → p (true ∷ d) ≡ false → p (false ∷ d) ≡ false → p (b ∷ d) ≡ false
    both true d h k = h
    both false d h k = k

abbrev differ : Bool → Bool → Bool
differ true true = false
differ true false = true
differ false true = true
differ false false = false

pub some_difference : {I : Type 0} {sets : Sets I} → IsLawful sets → (a b : I) → sets.is_known a ≡ true → sets.is_known b ≡ true → a ≢ b → (c : List Bool) × (sets.test a c ≢ sets.test b c)
some_difference {sets = sets} lawful a b s t n =
    elim (somewhere sets.options (λ c. differ (sets.test a c) (sets.test b c))) [
      | inl q ↦ (q.0, unlike (sets.test a q.0) (sets.test b q.0) q.1)
      | inr none ↦ absurd (n (lawful.equal_sets a b s t (λ c.
          lawful.options_alone a c (firsts sets.options c) s (λ i l. sym (value_of-firsts sets.options c i l))
          ∙ alike (sets.test a (firsts sets.options c)) (sets.test b (firsts sets.options c)) (none c)
          ∙ lawful.options_alone b (firsts sets.options c) c t (λ i l. value_of-firsts sets.options c i l))))
    ]
  where
    unlike : (p q : Bool) → differ p q ≡ true → p ≢ q
    unlike true true e = λ q. cc
    unlike true false e = λ q. cc
    unlike false true e = λ q. cc
    unlike false false e = λ q. cc

    alike : (p q : Bool) → differ p q ≡ false → p ≡ q
    alike true true e = refl
    alike true false e = cc
    alike false true e = cc
    alike false false e = refl
