-- A set with an option off, and with it on.
use Rattle.std.proofs.Common.{◌≡◌, ◌≢◌, ◌⊎◌, inl, inr, ℕ, true, false, sym, ◌∙◌, ap}
use Rattle.vx_space.specs.Config.{with_option}
use Rattle.vx_space.specs.Under.{IsFree}
use Rattle.vx_space.specs.Sets.{Sets, IsLawful, IsTop}
use Rattle.vx_bdd_tools.specs.Steps.{IsFreeBelow}
use Rattle.vx_bdd_tools.proofs.NodeSets.{order_cases}
use Rattle.vx_explain.specs.Between.{AreParts}
use Rattle.vx_explain.proofs.Sums.{free_side}
use Rattle.vx_explain.proofs.TermSets.{asks_values}

-- never and always depend on no option
pub free_end : {I : Type 0} {s : Sets I} → IsLawful s → (id : I) → (id ≡ s.never) ⊎ (id ≡ s.always) → (i : ℕ) → IsFree (s.test id) i
free_end {I} {s} lawful id (inl e) i c = ap (λ x. s.test x (with_option c i true)) e ∙ lawful.never_test (with_option c i true) ∙ sym (lawful.never_test (with_option c i false)) ∙ ap (λ x. s.test x (with_option c i false)) (sym e)
free_end {I} {s} lawful id (inr e) i c = ap (λ x. s.test x (with_option c i true)) e ∙ lawful.always_test (with_option c i true) ∙ sym (lawful.always_test (with_option c i false)) ∙ ap (λ x. s.test x (with_option c i false)) (sym e)

-- a set that asks another option first doesn't depend on this one
pub free_other : {I : Type 0} {s : Sets I} (id low high : I) (i option : ℕ) → IsFreeBelow s id option → IsTop s id i low high → i ≢ option → IsFree (s.test id) option
free_other {I} {s} id low high i option f t n = elim (order_cases i option) [
  | inl l ↦ absurd (t.least.depends.1 (f.free i l t.least.depends.0))
  | inr m ↦ elim m [ inl l ↦ t.least.free_below option l | inr e ↦ absurd (n e) ]
]

pub AreParts-same : {I : Type 0} {s : Sets I} → IsLawful s → (id : I) → s.is_known id ≡ true → (option : ℕ) → IsFree (s.test id) option → AreParts s id option id id
AreParts-same {I} {s} lawful id k option f = record {
  off = record { known = k; test = λ c. sym (free_side (s.test id) (asks_values lawful id k) option f false c) };
  on = record { known = k; test = λ c. sym (free_side (s.test id) (asks_values lawful id k) option f true c) };
}
