-- What the cells of an object begin with.
use Rattle.std.proofs.Common.{◌≡◌, ℕ, ◌+◌, ◌<◌, Bool, true, false, List, [], ◌∷◌, ◌++◌, refl, sym, ◌∙◌, ap, map, length, filter, take, drop, get_or, subst, if◌then◌else◌, append_assoc}
use Rattle.std.proofs.lemmas.List.{take_more}
use Rattle.std.specs.Prelude.{not}
use Rattle.vx_java.specs.FirstObjects.{cells_of_chain, field_default, new_cells}
use Rattle.vx_java.specs.Ids.{as_class}
use Rattle.vx_java.specs.Machine.{Value}
use Rattle.vx_link.specs.Hierarchy.{superclasses}
use Rattle.vx_link.specs.Parts.{field_at, is_static_field}
use Rattle.vx_link.specs.declared.program.Program.{Program}
use Rattle.vx_value.specs.declared.ids.ClassId.{ClassId}
use Rattle.vx_value.specs.declared.ids.FieldId.{FieldId}
use Rattle.vx_value.specs.declared.slot.Slot.{Slot}
use Rattle.vx_heap.specs.Defaults.{AreSlotsOf, IsSlotOf}

-- ---- lists of them

pub slots_append : (empty : ℕ) (slots more : List Slot) (values others : List Value) → AreSlotsOf empty slots values → AreSlotsOf empty more others → AreSlotsOf empty (slots ++ more) (values ++ others)
slots_append empty [] more [] others h k = k
slots_append empty [] more (v ∷ vs) others h k = absurd h
slots_append empty (s ∷ ss) more [] others h k = absurd h
slots_append empty (s ∷ ss) more (v ∷ vs) others h k = (h.0, slots_append empty ss more vs others h.1 k)

-- what some fields begin with, without those that are static
abbrev pub values_of : Program → List FieldId → List Value
values_of p fields = map (λ f. field_default (field_at p f)) (filter (λ f. not (is_static_field p f)) (map (λ f. f.0) fields))

values_one_more : (p : Program) (fields : List FieldId) (f : FieldId) → values_of p (fields ++ f ∷ []) ≡ values_of p fields ++ (if not (is_static_field p f.0) then field_default (field_at p f.0) ∷ [] else [])
values_one_more p [] f = cases (not (is_static_field p f.0))
  where
    cases : (b : Bool) → map (λ g. field_default (field_at p g)) (if b then f.0 ∷ [] else []) ≡ (if b then field_default (field_at p f.0) ∷ [] else [])
    cases true = refl
    cases false = refl
values_one_more p (g ∷ gs) f = cases (not (is_static_field p g.0)) (filter (λ f. not (is_static_field p f)) (map (λ f. f.0) (gs ++ f ∷ []))) (filter (λ f. not (is_static_field p f)) (map (λ f. f.0) gs)) (values_one_more p gs f)
  where
    cases : (b : Bool) (ps qs : List ℕ) → map (λ g. field_default (field_at p g)) ps ≡ map (λ g. field_default (field_at p g)) qs ++ (if not (is_static_field p f.0) then field_default (field_at p f.0) ∷ [] else []) → map (λ g. field_default (field_at p g)) (if b then g.0 ∷ ps else ps) ≡ map (λ g. field_default (field_at p g)) (if b then g.0 ∷ qs else qs) ++ (if not (is_static_field p f.0) then field_default (field_at p f.0) ∷ [] else [])
    cases true ps qs e = ap (λ vs. field_default (field_at p g.0) ∷ vs) e
    cases false ps qs e = e

one_more : (p : Program) (fields : List FieldId) (i : ℕ) (d : FieldId) → i < length fields → values_of p (take (i + 1) fields) ≡ values_of p (take i fields) ++ (if not (is_static_field p (get_or fields i d).0) then field_default (field_at p (get_or fields i d).0) ∷ [] else [])
one_more p fields i d l = ap (values_of p) (take_more fields i d l) ∙ values_one_more p (take i fields) (get_or fields i d)

-- the slots so far are those before the fields and those of so many fields
abbrev pub IsAppending : (empty : ℕ) → Program → (before : List Slot) → List FieldId → List Slot → Type 0
IsAppending empty p before fields slots = (values : List Value) → AreSlotsOf empty before values → AreSlotsOf empty slots (values ++ values_of p fields)

pub appending_static : (empty : ℕ) (p : Program) (before : List Slot) (fields : List FieldId) (i : ℕ) (d : FieldId) (slots : List Slot) → i < length fields → is_static_field p (get_or fields i d).0 ≡ true → IsAppending empty p before (take i fields) slots → IsAppending empty p before (take (i + 1) fields) slots
appending_static empty p before fields i d slots l s h values k =
    let P : List Value → Type 0 = λ vs. AreSlotsOf empty slots (values ++ vs) in
    subst P (sym (one_more p fields i d l ∙ ap (λ b. values_of p (take i fields) ++ (if not b then field_default (field_at p (get_or fields i d).0) ∷ [] else [])) s ∙ nothing (values_of p (take i fields)))) (h values k)
  where
    nothing : {A : Type 0} (xs : List A) → xs ++ [] ≡ xs
    nothing [] = refl
    nothing (x ∷ xs) = ap (λ ys. x ∷ ys) (nothing xs)

pub appending_more : (empty : ℕ) (p : Program) (before : List Slot) (fields : List FieldId) (i : ℕ) (d : FieldId) (slots : List Slot) (slot : Slot) → i < length fields → is_static_field p (get_or fields i d).0 ≡ false → IsSlotOf empty slot (field_default (field_at p (get_or fields i d).0)) → IsAppending empty p before (take i fields) slots → IsAppending empty p before (take (i + 1) fields) (slots ++ slot ∷ [])
appending_more empty p before fields i d slots slot l s k h values q =
    let value = field_default (field_at p (get_or fields i d).0) in
    let P : List Value → Type 0 = λ vs. AreSlotsOf empty (slots ++ slot ∷ []) vs in
    subst P (append_assoc values (values_of p (take i fields)) (value ∷ []) ∙ ap (λ vs. values ++ vs) (sym (one_more p fields i d l ∙ ap (λ b. values_of p (take i fields) ++ (if not b then value ∷ [] else [])) s)))
    (slots_append empty slots (slot ∷ []) (values ++ values_of p (take i fields)) (value ∷ []) (h values q) (k, tt))

-- ---- classes from the last one down

abbrev pub numbers : List ClassId → List ℕ
numbers chain = map (λ k. k.0) chain

numbers_of : (cs : List ℕ) → numbers (map as_class cs) ≡ cs
numbers_of [] = refl
numbers_of (c ∷ cs) = ap (λ rest. c ∷ rest) (numbers_of cs)

pub chain_done : (empty : ℕ) (p : Program) (chain : List ClassId) (place class : ℕ) (slots : List Slot) → place ≡ 0 → chain ≡ map as_class (superclasses p class) → AreSlotsOf empty slots (cells_of_chain p (numbers (drop place chain))) → AreSlotsOf empty slots (new_cells p class)
chain_done empty p chain place class slots e q h =
    let P : List ℕ → Type 0 = λ cs. AreSlotsOf empty slots (cells_of_chain p cs) in
    subst P (ap (λ n. numbers (drop n chain)) e ∙ ap numbers q ∙ numbers_of (superclasses p class)) h
