-- Texts of a pool by the places of their entries.
use Rattle.std.proofs.Common.{◌≡◌, ℕ, zero, suc, List, [], ◌∷◌, ◌⊎◌, inl, inr, Option, Some, None, ap, sym, ◌∙◌, slice_get, refl}
use Rattle.std.proofs.lemmas.Option.{none-some, same_Some}
use Rattle.std.specs.Prelude.{replicate, slice_set}
use Rattle.vx_link.specs.Names.{utf8}
use Rattle.vx_linker.specs.Texts.{AreTexts}
use Rattle.vx_pool.specs.declared.pool.Pool.{Pool}

-- where nothing is known at any place, no text is
no_text : (n place : ℕ) (text other : List ℕ) → slice_get {X = Option (List ℕ)} (replicate n None) place ≡ Some (Some text) → text ≡ other
no_text zero place text other h = absurd (none-some (Some text) h)
no_text (suc n) zero text other h = absurd (none-some text (same_Some None (Some text) h))
no_text (suc n) (suc place) text other h = no_text n place text other h

pub none_known : (pool : Pool) (n : ℕ) → AreTexts pool (replicate n None)
none_known pool n = λ place text h. no_text n place text (utf8 pool place) h

-- what stands at a place of a list of which one place is written: what was written, or what stood there
set_get : {A : Type 0} (xs : List A) (i k : ℕ) (v x : A) → slice_get (slice_set xs i v) k ≡ Some x → ((k ≡ i) × (v ≡ x)) ⊎ (slice_get xs k ≡ Some x)
set_get [] i k v x h = inr h
set_get (y ∷ xs) zero zero v x h = inl (refl, same_Some v x h)
set_get (y ∷ xs) zero (suc k) v x h = inr h
set_get (y ∷ xs) (suc i) zero v x h = inr h
set_get (y ∷ xs) (suc i) (suc k) v x h = elim (set_get xs i k v x h) [ inl q ↦ inl (ap suc q.0, q.1) | inr q ↦ inr q ]

pub kept : (pool : Pool) (known : List (Option (List ℕ))) (i : ℕ) (new : List ℕ) → AreTexts pool known → new ≡ utf8 pool i → AreTexts pool (slice_set known i (Some new))
kept pool known i new are is = λ place text h. elim (set_get known i place (Some new) (Some text) h) [
  | inl q ↦ sym (same_Some new text q.1) ∙ is ∙ ap (utf8 pool) (sym q.0)
  | inr q ↦ are place text q
]
