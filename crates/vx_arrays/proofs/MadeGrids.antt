-- What lengths come to in the configurations of a condition.
use Rattle.std.proofs.Common.{◌≡◌, ℕ, ℤ, Bool, true, false, List, [], ◌∷◌, ◌++◌, refl, sym, ◌∙◌, ap, map, subst}
use Rattle.std.proofs.lemmas.List.{append_assoc}
use Rattle.std.specs.List.{list_all, list_any}
use Rattle.std.specs.Prelude.{Option, Some, None, ◌&&◌, ◌||◌, not, nat_lt, option_map, if◌then◌else◌}
use Rattle.vx_cells.specs.Making.{Breaks, IsMadeInside, Making, Makes, Raises}
use Rattle.vx_cells.proofs.Making.{AreMade-one, IsMadeInside-unmade}
use Rattle.vx_cond.specs.Cond.{Conditional, IsCond, IsCondOf, cond_at}
use Rattle.vx_cond.specs.Leaves.{value_under}
use Rattle.vx_group_states.specs.Answers.{answer_cmp}
use Rattle.vx_group_states.specs.declared.answer.Answer.{Answer}
use Rattle.vx_group_states.specs.declared.answer.Answer.TheVariants.{Give, Illegal, Raise}
use Rattle.vx_heap.specs.Heap.{HeapView, IsHeap}
use Rattle.vx_java.specs.Arrays.{grid, grid_cells}
use Rattle.vx_java.specs.Ids.{as_class}
use Rattle.vx_java.specs.Machine.{length_bound}
use Rattle.vx_link.specs.ClassNames.{core_class}
use Rattle.vx_link.specs.declared.program.Program.{Program}
use Rattle.vx_space.specs.Sets.{Sets, Extends}
use Rattle.vx_space.proofs.Spaces.{Extends-refl}
use Rattle.vx_value.specs.Arithmetic.{natural, negative}
use Rattle.vx_value.specs.declared.ids.ClassId.{ClassId}
use Rattle.vx_value.specs.declared.slot.Slot.{Slot}
use Rattle.vx_value.specs.declared.slot.Slot.TheVariants.{Int, Long, Null, Ref, Text, Top}
use Rattle.vx_arrays.specs.Making.{AreGridsMade, IsGridMade, IsRefusals, grid_made, grids_made, is_length, is_refused, lengths_behind, lengths_of, refused}
use Rattle.vx_arrays.specs.declared.lengths.Refusals.{Refusals}

-- ---- what lengths raise

class_is : (x : ClassId) (n : ℕ) → x.0 ≡ n → x ≡ as_class n
class_is x n h = λ i. record { 0 = h i }

raised_choice : (a b d : Bool) (n l k : ClassId) (x : Making) → (if a then Some n else if b || d then Some l else None) ≡ Some k → (if a then Raises n else if a || b || d then Raises l else x) ≡ Raises k
raised_choice true b d n l k x e =
    let same : n ≡ k = cc e in
    ap Raises same
raised_choice false true d n l k x e =
    let same : l ≡ k = cc e in
    ap Raises same
raised_choice false false true n l k x e =
    let same : l ≡ k = cc e in
    ap Raises same
raised_choice false false false n l k x e = cc e

given_choice : (a b d : Bool) (n l : ClassId) → (if a then Some n else if b || d then Some l else None) ≡ None → (a ≡ false) × (b ≡ false) × ((a || b || d) ≡ false)
given_choice true b d n l e = cc e
given_choice false true d n l e = cc e
given_choice false false true n l e = cc e
given_choice false false false n l e = (refl, refl, refl)

each_fits : (lengths : List ℤ) → list_any negative lengths ≡ false → list_any (nat_lt length_bound) (map natural lengths) ≡ false → list_all is_length lengths ≡ true
each_fits [] n l = refl
each_fits (x ∷ xs) n l = step (negative x) (nat_lt length_bound (natural x)) (list_any negative xs) (list_any (nat_lt length_bound) (map natural xs)) n l (each_fits xs)
  where
    step : (a b more others : Bool) → (a || more) ≡ false → (b || others) ≡ false → (more ≡ false → others ≡ false → list_all is_length xs ≡ true) → (not (a || b) && list_all is_length xs) ≡ true
    step true b more others p q f = cc p
    step false true more others p q f = cc q
    step false false more others p q f = f p q

-- lengths that raise make nothing
pub AreGridsMade-raised : {S I : Type 0} (p : Program) (class : ℕ) (r : Refusals) (lengths : List ℤ) (refusal : ClassId) {s0 s1 : Sets I} → Extends s0 s1 → (heap : HeapView S I) (condition : I) (answers made : Conditional Answer S I) → IsRefusals p r → refused r lengths ≡ Some refusal → IsHeap s0 heap → s0.is_known condition ≡ true → IsCond answer_cmp s0 answers → IsCondOf answer_cmp s1 (value_under s0 condition (Raise refusal None) (cond_at s0 answers)) made → AreGridsMade p class (λ _. Some lengths) s0 s1 heap heap (s0.test condition) answers made
AreGridsMade-raised p class r lengths refusal {s0 = s0} {s1 = s1} e heap condition answers made h is v k w m =
    AreMade-one (grids_made p class (λ _. Some lengths)) (Extends-refl s0) e heap heap condition answers made (Raise refusal None) w k
    (IsMadeInside-unmade (grids_made p class (λ _. Some lengths)) (Raises refusal) s0 heap condition (Raise refusal None) v (λ g. refl) (λ c t. making) (λ c. refl))
    m
  where
    making : grid_made p class (Some lengths) ≡ Raises refusal
    making =
        let first : as_class (core_class p "java/lang/NegativeArraySizeException") ≡ r.negative = sym (class_is r.negative (core_class p "java/lang/NegativeArraySizeException") h.negative) in
        let second : as_class (core_class p "java/lang/OutOfMemoryError") ≡ r.large = sym (class_is r.large (core_class p "java/lang/OutOfMemoryError") h.large) in
        (λ i. if list_any negative lengths then Raises (first i) else if is_refused lengths then Raises (second i) else Makes (grid p class (map natural lengths)))
        ∙ raised_choice (list_any negative lengths) (list_any (nat_lt length_bound) (map natural lengths)) (nat_lt length_bound (grid_cells (map natural lengths))) r.negative r.large refusal (Makes (grid p class (map natural lengths))) is

-- and others fit
pub lengths_fit : (r : Refusals) (lengths : List ℤ) → refused r lengths ≡ None → list_all is_length lengths ≡ true
lengths_fit r lengths is =
    let parts = given_choice (list_any negative lengths) (list_any (nat_lt length_bound) (map natural lengths)) (nat_lt length_bound (grid_cells (map natural lengths))) r.negative r.large is in
    each_fits lengths parts.0 parts.1

-- an array is made of lengths that fit, and given
AreGridsMade-given : {S I : Type 0} (p : Program) (class : ℕ) (r : Refusals) (lengths : List ℤ) (reference : ℕ) {s0 s1 s2 : Sets I} → Extends s0 s1 → Extends s1 s2 → (before after : HeapView S I) (condition : I) (answers made : Conditional Answer S I) → refused r lengths ≡ None → s0.is_known condition ≡ true → IsCond answer_cmp s0 answers → IsGridMade p class (map natural lengths) s0 s1 before after (s0.test condition) reference → IsCondOf answer_cmp s2 (value_under s1 condition (Give (Ref reference)) (cond_at s1 answers)) made → AreGridsMade p class (λ _. Some lengths) s0 s2 before after (s0.test condition) answers made
AreGridsMade-given {S = S} {I = I} p class r lengths reference {s0 = s0} {s1 = s1} e f before after condition answers made is k w grid_is m =
    let P : Making → Type 0 = λ n. IsMadeInside (λ _. n) s0 s1 before after condition (Give (Ref reference)) in
    AreMade-one (grids_made p class (λ _. Some lengths)) e f before after condition answers made (Give (Ref reference)) w k (subst P (sym making) (record {
      changed = grid_is.changed;
      at = λ c t. record { reference = reference; is = refl; name = grid_is.name c t; held = grid_is.held c t };
    })) m
  where
    choice : (a b : Bool) (x y z : Making) → a ≡ false → b ≡ false → (if a then x else if b then y else z) ≡ z
    choice true b x y z t u = cc t
    choice false true x y z t u = cc u
    choice false false x y z t u = refl

    making : grid_made p class (Some lengths) ≡ Makes (grid p class (map natural lengths))
    making =
        let parts = given_choice (list_any negative lengths) (list_any (nat_lt length_bound) (map natural lengths)) (nat_lt length_bound (grid_cells (map natural lengths))) r.negative r.large is in
        choice (list_any negative lengths) (is_refused lengths) (Raises (as_class (core_class p "java/lang/NegativeArraySizeException"))) (Raises (as_class (core_class p "java/lang/OutOfMemoryError"))) (Makes (grid p class (map natural lengths))) parts.0 parts.2

pub AreGridsMade-parts : {S I : Type 0} (p : Program) (class : ℕ) (r : Refusals) (first : ℤ) (rest lengths : List ℤ) (reference : ℕ) {s0 s1 s2 : Sets I} → Extends s0 s1 → Extends s1 s2 → (before after : HeapView S I) (condition : I) (answers made : Conditional Answer S I) → first ∷ rest ≡ lengths → refused r lengths ≡ None → s0.is_known condition ≡ true → IsCond answer_cmp s0 answers → IsGridMade p class (map natural (first ∷ rest)) s0 s1 before after (s0.test condition) reference → IsCondOf answer_cmp s2 (value_under s1 condition (Give (Ref reference)) (cond_at s1 answers)) made → AreGridsMade p class (λ _. Some lengths) s0 s2 before after (s0.test condition) answers made
AreGridsMade-parts p class r first rest lengths reference {s0 = s0} {s1 = s1} e f before after condition answers made same is k w grid_is m =
    let P : List ℤ → Type 0 = λ ls. IsGridMade p class (map natural ls) s0 s1 before after (s0.test condition) reference in
    AreGridsMade-given p class r lengths reference e f before after condition answers made is k w (subst P same grid_is) m

-- a slot that is no int
pub AreGridsMade-illegal : {S I : Type 0} (p : Program) (class : ℕ) (lengths : List Bool → Option (List ℤ)) {s0 s1 : Sets I} → Extends s0 s1 → (heap : HeapView S I) (condition : I) (answers made : Conditional Answer S I) → ((c : List Bool) → lengths c ≡ None) → IsHeap s0 heap → s0.is_known condition ≡ true → IsCond answer_cmp s0 answers → IsCondOf answer_cmp s1 (value_under s0 condition Illegal (cond_at s0 answers)) made → AreGridsMade p class lengths s0 s1 heap heap (s0.test condition) answers made
AreGridsMade-illegal p class lengths {s0 = s0} e heap condition answers made none v k w m =
    AreMade-one (grids_made p class lengths) (Extends-refl s0) e heap heap condition answers made Illegal w k
    (IsMadeInside-unmade (grids_made p class lengths) Breaks s0 heap condition Illegal v (λ g. refl) (λ c t. ap (grid_made p class) (none c)) (λ c. refl))
    m

-- ---- lists of lengths

pub lengths_none : (next : Slot) → ((n : ℤ) → next ≡ Int n → ⊥) → (lengths : List ℤ) (slots : List Slot) → lengths_behind lengths (next ∷ slots) ≡ None
lengths_none Top f lengths slots = refl
lengths_none (Int n) f lengths slots = absurd (f n refl)
lengths_none (Long n) f lengths slots = refl
lengths_none Null f lengths slots = refl
lengths_none (Ref n) f lengths slots = refl
lengths_none (Text n) f lengths slots = refl

pub lengths_more : (lengths : List ℤ) (n : ℤ) (slots : List Slot) → lengths_behind (lengths ++ n ∷ []) slots ≡ lengths_behind lengths (Int n ∷ slots)
lengths_more lengths n slots = cases (lengths_of slots)
  where
    cases : (o : Option (List ℤ)) → option_map (λ more. (lengths ++ n ∷ []) ++ more) o ≡ option_map (λ more. lengths ++ more) (option_map (λ ns. n ∷ ns) o)
    cases None = refl
    cases (Some ns) = ap Some (append_assoc lengths (n ∷ []) ns)
