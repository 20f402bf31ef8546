-- The two ends of diagrams in the slab of nodes: where the first stands under 0 and no entry is vacant, the second comes under 1.
use Rattle.std.proofs.Common.{◌≡◌, ◌≢◌, ℕ, ◌+◌, ◌-◌, ◌<◌, ◌∙◌, List, [], ◌∷◌, None, Option, Some, ap, arith, length, map, refl, subst, suc, sym, zero}
use Rattle.std.proofs.lemmas.List.{length-map}
use Rattle.std.specs.Prelude.{IsSome, count_by, is_some, slice_index_or}
use Rattle.slab.specs.Entry.{IsSound, IsVacantList, value_of}
use Rattle.slab.specs.Slab.{EndsWithValue, SameValues, Slab, Updates, get, slab_len}
use Rattle.slab.specs.declared.Entry.{Entry}

module _ {T : Type 0} where
  not_some : (slot : Option T) → slot ≡ None → IsSome slot → ⊥
  not_some None e h = cc h
  not_some (Some x) e h = cc e

  no_slot : (x : T) (slot : Option T) → slot ≡ None → slot ≡ Some x → ⊥
  no_slot x slot e h = cc (e, h)

  one_slot : (slots : List (Option T)) (x : T) → slice_index_or slots 0 None ≡ Some x → ((key : ℕ) → key ≢ 0 → slice_index_or slots key None ≡ None) → (0 < length slots → IsSome (slice_index_or slots (length slots - 1) None)) → length slots ≡ 1
  one_slot [] x first others trimmed = absurd (no_slot x None refl first)
  one_slot (s ∷ []) x first others trimmed = refl
  one_slot (s ∷ t ∷ rest) x first others trimmed =
      absurd (not_some (slice_index_or (s ∷ t ∷ rest) (length (s ∷ t ∷ rest) - 1) None) (others (length (s ∷ t ∷ rest) - 1) (λ e. omega (arith, e))) (trimmed (omega arith)))

  behind_all : (entries : List (Entry T)) (vacant next : ℕ) → vacant ≡ 0 → IsVacantList entries vacant next → next ≡ length entries
  behind_all entries zero next e h = h
  behind_all entries (suc n) next e h = absurd (omega (arith, e))

  next_key : (entries : List (Entry T)) (len next : ℕ) → IsSound entries len next → count_by is_some (map value_of entries) ≡ 1 → length (map value_of entries) ≡ 1 → next ≡ 1
  next_key entries len next sound one few =
      let count : length entries ≡ 1 = sym (length-map entries value_of) ∙ few in
      behind_all entries sound.vacant next (omega (arith, sound.total, sound.counted, one, count)) sound.linked ∙ count

  pub second_key : (s0 s1 s2 s3 : Slab T) (x : T) (key : ℕ) (entries : List (Entry T)) (len next : ℕ) → s0.slots ≡ [] → key ≡ 0 → Updates s0 s1 key (Some x) → slab_len s1 ≡ slab_len s0 + 1
      → SameValues s1 s2 → slab_len s2 ≡ slab_len s1 → EndsWithValue s2 → s3.slots ≡ s2.slots → map value_of entries ≡ s3.slots → next ≡ s3.vacant_key → IsSound entries len next → s3.vacant_key ≡ 1
  second_key s0 s1 s2 s3 x key entries len next empty first updates more same kept trimmed rest view vacant sound =
      let none : slab_len s0 ≡ 0 = ap (count_by is_some) empty in
      let one : slab_len s2 ≡ 1 = omega (arith, none, more, kept) in
      let others : (k : ℕ) → k ≢ 0 → get s2 k ≡ None =
      λ k n. same k ∙ updates.others k (λ e. n (e ∙ first)) ∙ ap (λ slots. slice_index_or slots k None) empty in
      let few : length s2.slots ≡ 1 = one_slot s2.slots x (same 0 ∙ subst (λ k. get s1 k ≡ Some x) first updates.changed) others trimmed in
      sym vacant ∙ next_key entries len next sound (ap (count_by is_some) (view ∙ rest) ∙ one) (ap length (view ∙ rest) ∙ few)
