-- The stack forms: values off the top are of the types off the top, and in their new order of the types in theirs.
use Rattle.std.proofs.Common.{List, None, Option, Some, [], ap, inl, inr, refl, subst, suc, sym, zero, ℕ, ◌++◌, ◌∙◌, ◌∷◌, ◌≡◌, ◌⊎◌}
use Rattle.std.specs.Prelude.{option_map}
use Rattle.vx_java.specs.Machine.{Int, Long, Null, Object, Ref, Text, Top, Value}
use Rattle.vx_java.specs.StackForms.{values_reordered, words}
use Rattle.vx_java.specs.declared.operation.Shuffle.{Shuffle}
use Rattle.vx_java.specs.declared.operation.Shuffle.TheVariants.{Dup, Dup2, Dup2X1, Dup2X2, DupX1, DupX2, Pop, Pop2, Swap}
use Rattle.vx_link.specs.declared.program.Program.{Program}
use Rattle.vx_sound.proofs.Values.{IsReference, none_some, reference_cases, some_same, types_append}
use Rattle.vx_sound.specs.Values.{type_of_reference, type_of_value, types_of_values}
use Rattle.vx_types.specs.Flow as flow
use Rattle.vx_types.specs.declared.types.VerType.{VerType}
use Rattle.vx_types.specs.declared.types.VerType.TheVariants as is

abbrev Values : Type 0
Values = List Value × List Value

abbrev Types : Type 0
Types = List VerType × List VerType

-- values are found that are of these types, with values under them
pub record HasWords (p : Program) (heap : List Object) (o : Option (List Value × List Value)) (found : List VerType × List VerType) : Type 0 where
  pub above : List Value
  pub under : List Value
  pub is : o ≡ Some (above, under)
  pub types_above : types_of_values p heap above ≡ found.0
  pub types_under : types_of_values p heap under ≡ found.1

module _ (p : Program) (heap : List Object) where
  -- one more on top
  one_more : (v : Value) (t : VerType) (o : Option Values) (q : Option Types) (found : Types) → type_of_value p heap v ≡ t → ((rest : Types) → q ≡ Some rest → HasWords p heap o rest)
      → option_map (λ (r : Types). (t ∷ r.0, r.1)) q ≡ Some found → HasWords p heap (option_map (λ (r : Values). (v ∷ r.0, r.1)) o) found
  one_more v t o None found same later e = none_some e
  one_more v t o (Some rest) found same later e =
      let under = later rest refl in
      subst (λ (x : Types). HasWords p heap (option_map (λ (r : Values). (v ∷ r.0, r.1)) o) x) (some_same e)
      (record {
        above = v ∷ under.above;
        under = under.under;
        is = ap (option_map (λ (r : Values). (v ∷ r.0, r.1))) under.is;
        types_above = ap (λ (u : VerType). u ∷ types_of_values p heap under.above) same ∙ ap (λ (ts : List VerType). t ∷ ts) under.types_above;
        types_under = under.types_under;
      })

  -- a value of one word is the first of some words
  taken_more : (n : ℕ) (v : Value) (values : List Value) (found : Types)
      → ((k : ℕ) → words (suc (suc k)) (v ∷ values) ≡ option_map (λ (r : Values). (v ∷ r.0, r.1)) (words (suc k) values))
      → words 1 (v ∷ values) ≡ option_map (λ (r : Values). (v ∷ r.0, r.1)) (words 0 values)
      → HasWords p heap (option_map (λ (r : Values). (v ∷ r.0, r.1)) (words n values)) found → HasWords p heap (words (suc n) (v ∷ values)) found
  taken_more zero v values found more one has = subst (λ (o : Option Values). HasWords p heap o found) (sym one) has
  taken_more (suc n) v values found more one has = subst (λ (o : Option Values). HasWords p heap o found) (sym (more n)) has

  pub words_typed : (n : ℕ) (values : List Value) (found : Types) → flow.words n (types_of_values p heap values) ≡ Some found → HasWords p heap (words n values) found
  words_typed zero values found e =
      subst (λ (x : Types). HasWords p heap (Some ([], values)) x) (some_same e) (record { above = []; under = values; is = refl; types_above = refl; types_under = refl })
  words_typed (suc n) [] found e = none_some e
  words_typed (suc n) (Top ∷ values) found e = none_some e
  words_typed (suc n) (Text units ∷ values) found e = none_some e
  words_typed (suc zero) (Long a ∷ values) found e = none_some e
  words_typed (suc (suc n)) (Long a ∷ values) found e =
      one_more (Long a) is.Long (words n values) (flow.words n (types_of_values p heap values)) found refl (λ rest k. words_typed n values rest k) e
  words_typed (suc n) (Int a ∷ values) found e =
      taken_more n (Int a) values found (λ k. refl) refl (one_more (Int a) is.Int (words n values) (flow.words n (types_of_values p heap values)) found refl (λ rest k. words_typed n values rest k) e)
  words_typed (suc n) (Null ∷ values) found e =
      taken_more n Null values found (λ k. refl) refl (one_more Null is.Null (words n values) (flow.words n (types_of_values p heap values)) found refl (λ rest k. words_typed n values rest k) e)
  words_typed (suc n) (Ref r ∷ values) found e = by (λ rest k. words_typed n values rest k) (reference_cases p heap r)
    where
      by : ((rest : Types) → flow.words n (types_of_values p heap values) ≡ Some rest → HasWords p heap (words n values) rest)
          → (type_of_reference p heap r ≡ is.Top) ⊎ IsReference (type_of_reference p heap r) → HasWords p heap (words (suc n) (Ref r ∷ values)) found
      by later (inl q) =
          none_some {x = found} (subst (λ (t : VerType). flow.words (suc n) (t ∷ types_of_values p heap values) ≡ Some found) q e)
      by later (inr q) =
          taken_more n (Ref r) values found (λ k. refl) refl
          (one_more (Ref r) (is.Ref q.dimensions q.element) (words n values) (flow.words n (types_of_values p heap values)) found q.is later
          (subst (λ (t : VerType). flow.words (suc n) (t ∷ types_of_values p heap values) ≡ Some found) q.is e))

  -- ---- the new order

  twice : (a b rest : List Value) → types_of_values p heap (a ++ (b ++ (a ++ rest))) ≡ types_of_values p heap a ++ (types_of_values p heap b ++ (types_of_values p heap a ++ types_of_values p heap rest))
  twice a b rest =
      types_append p heap a (b ++ (a ++ rest))
      ∙ ap (λ (ts : List VerType). types_of_values p heap a ++ ts)
      (types_append p heap b (a ++ rest) ∙ ap (λ (ts : List VerType). types_of_values p heap b ++ ts) (types_append p heap a rest))

  pub reordered_typed : (form : Shuffle) (a b rest : List Value)
      → types_of_values p heap (values_reordered form a b rest) ≡ flow.types_reordered form (types_of_values p heap a) (types_of_values p heap b) (types_of_values p heap rest)
  reordered_typed Pop a b rest = refl
  reordered_typed Pop2 a b rest = refl
  reordered_typed Swap a b rest = types_append p heap b (a ++ rest) ∙ ap (λ (ts : List VerType). types_of_values p heap b ++ ts) (types_append p heap a rest)
  reordered_typed Dup a b rest = twice a b rest
  reordered_typed DupX1 a b rest = twice a b rest
  reordered_typed DupX2 a b rest = twice a b rest
  reordered_typed Dup2 a b rest = twice a b rest
  reordered_typed Dup2X1 a b rest = twice a b rest
  reordered_typed Dup2X2 a b rest = twice a b rest
