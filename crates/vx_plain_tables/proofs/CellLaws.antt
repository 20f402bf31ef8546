-- What the cells of an object begin with.
use Rattle.std.proofs.Common.{◌≡◌, ℕ, zero, suc, ◌+◌, ◌-◌, ◌<◌, Bool, true, false, List, [], ◌∷◌, ◌++◌, refl, sym, ◌∙◌, ap, map, length, filter, take, drop, get_or, cond, append_assoc, add-one, drop-cons, arith}
use Rattle.std.proofs.lemmas.List.{map-append, take_more}
use Rattle.std.specs.Prelude.{None, Option, Some, not}
use Rattle.vx_initial_heap.specs.First.{empty_text, value_in}
use Rattle.vx_java.specs.FirstObjects.{cells_of_chain, field_default, new_cells, own_cells}
use Rattle.vx_java.specs.Ids.{as_class}
use Rattle.vx_java.specs.Machine as machine
use Rattle.vx_link.specs.Hierarchy.{superclasses}
use Rattle.vx_link.specs.Parts.{field_at, is_static_field}
use Rattle.vx_link.specs.declared.program.Program.{Program}
use Rattle.vx_plain.specs.Views.{value_of, values_of}
use Rattle.vx_plain.specs.declared.value.Value as plain
use Rattle.vx_plain_tables.specs.Cells.{is_text, plain_of, values_in}
use Rattle.vx_value.specs.declared.ids.ClassId.{ClassId}
use Rattle.vx_value.specs.declared.ids.FieldId.{FieldId}
use Rattle.vx_value.specs.declared.slot.Slot.{Slot}
use Rattle.vx_value.specs.declared.slot.Slot.TheVariants.{Top, Int, Long, Null, Ref, Text}

-- what the fields that are left begin with, without those that are static
abbrev pub begun : Program → List FieldId → List machine.Value
begun p fields = map (λ f. field_default (field_at p f)) (filter (λ f. not (is_static_field p f)) (map (λ f. f.0) fields))

one_begun : (p : Program) (fields : List FieldId) (i : ℕ) (d : FieldId) → i < length fields
    → begun p (drop i fields) ≡ map (λ f. field_default (field_at p f)) (cond (not (is_static_field p (get_or fields i d).0)) ((get_or fields i d).0 ∷ filter (λ f. not (is_static_field p f)) (map (λ f. f.0) (drop (i + 1) fields))) (filter (λ f. not (is_static_field p f)) (map (λ f. f.0) (drop (i + 1) fields))))
one_begun p fields i d lt = rw add-one (ap (begun p) (drop-cons fields i d lt))

pub static_passed : (p : Program) (fields : List FieldId) (i : ℕ) (d : FieldId) (slots : List Slot) → i < length fields → is_static_field p (get_or fields i d).0 ≡ true
    → values_in slots ++ begun p (drop i fields) ≡ values_in slots ++ begun p (drop (i + 1) fields)
static_passed p fields i d slots lt e =
    ap (λ vs. values_in slots ++ vs)
    (one_begun p fields i d lt
    ∙ ap (λ b. map (λ f. field_default (field_at p f)) (cond (not b) ((get_or fields i d).0 ∷ filter (λ f. not (is_static_field p f)) (map (λ f. f.0) (drop (i + 1) fields))) (filter (λ f. not (is_static_field p f)) (map (λ f. f.0) (drop (i + 1) fields))))) e)

pub slot_put : (p : Program) (fields : List FieldId) (i : ℕ) (d : FieldId) (slots : List Slot) (slot : Slot) → i < length fields → is_static_field p (get_or fields i d).0 ≡ false
    → value_in empty_text slot ≡ field_default (field_at p (get_or fields i d).0)
    → values_in slots ++ begun p (drop i fields) ≡ values_in (slots ++ slot ∷ []) ++ begun p (drop (i + 1) fields)
slot_put p fields i d slots slot lt e is =
    ap (λ vs. values_in slots ++ vs)
    (one_begun p fields i d lt
    ∙ ap (λ b. map (λ f. field_default (field_at p f)) (cond (not b) ((get_or fields i d).0 ∷ filter (λ f. not (is_static_field p f)) (map (λ f. f.0) (drop (i + 1) fields))) (filter (λ f. not (is_static_field p f)) (map (λ f. f.0) (drop (i + 1) fields))))) e
    ∙ ap (λ v. v ∷ begun p (drop (i + 1) fields)) (sym is))
    ∙ sym (append_assoc (values_in slots) (value_in empty_text slot ∷ []) (begun p (drop (i + 1) fields)))
    ∙ ap (λ vs. vs ++ begun p (drop (i + 1) fields)) (sym (map-append (value_in empty_text) slots (slot ∷ [])))

pub nothing_left : {A : Type 0} (xs : List A) → xs ++ [] ≡ xs
nothing_left [] = refl
nothing_left (x ∷ xs) = ap (λ ys. x ∷ ys) (nothing_left xs)

-- ---- chains

abbrev pub numbers : List ClassId → List ℕ
numbers chain = map (λ c. c.0) chain

pub numbers_back : (ns : List ℕ) → numbers (map as_class ns) ≡ ns
numbers_back [] = refl
numbers_back (n ∷ ns) = ap (λ ms. n ∷ ms) (numbers_back ns)

pub one_below : (p : Program) (chain : List ClassId) (i below : ℕ) (d : ClassId) → below ≡ i + 1 → i < length chain
    → cells_of_chain p (numbers (drop below chain)) ++ own_cells p (get_or chain i d).0 ≡ cells_of_chain p (numbers (drop i chain))
one_below p chain i below d e lt = rw (e, add-one) (sym (ap (λ cs. cells_of_chain p (numbers cs)) (drop-cons chain i d lt)))

pub nothing_above : (p : Program) (chain : List ClassId) (n : ℕ) → n ≡ length chain → [] ≡ cells_of_chain p (numbers (drop n chain))
nothing_above p [] n e = rw e refl
nothing_above p (c ∷ cs) n e = rw e (nothing_above p cs (length cs) refl)

pub all_chained : (p : Program) (chain : List ClassId) (class n : ℕ) → n ≡ 0 → chain ≡ map as_class (superclasses p class) → cells_of_chain p (numbers (drop n chain)) ≡ new_cells p class
all_chained p chain class n e is = rw (e, is) (ap (cells_of_chain p) (numbers_back (superclasses p class)))

-- ---- values

abbrev value_or : machine.Value → Option plain.Value → machine.Value
value_or w None = w
value_or w (Some v) = value_of v

some_value : (w : machine.Value) (v : plain.Value) (o : Option plain.Value) → Some v ≡ o → value_of v ≡ value_or w o
some_value w v o e = ap (value_or w) e

pub plain_is : (texts : List (List ℕ)) (slot : Slot) (v : plain.Value) → Some v ≡ plain_of slot → value_of v ≡ value_in texts slot
plain_is texts Top v e = some_value machine.Top v _ e
plain_is texts (Int n) v e = some_value machine.Top v _ e
plain_is texts (Long n) v e = some_value machine.Top v _ e
plain_is texts Null v e = some_value machine.Top v _ e
plain_is texts (Ref r) v e = some_value machine.Top v _ e
plain_is texts (Text n) v e = cc

pub value_put : (slots : List Slot) (i : ℕ) (d : Slot) (cells : List plain.Value) (v : plain.Value) → i < length slots → Some v ≡ plain_of (get_or slots i d)
    → values_of cells ≡ values_in (take i slots) → values_of (cells ++ v ∷ []) ≡ values_in (take (i + 1) slots)
value_put slots i d cells v lt there so_far =
    map-append value_of cells (v ∷ [])
    ∙ ap (λ vs. vs ++ value_of v ∷ []) so_far
    ∙ ap (λ w. values_in (take i slots) ++ w ∷ []) (plain_is empty_text (get_or slots i d) v there)
    ∙ sym (ap values_in (take_more slots i d lt) ∙ map-append (value_in empty_text) (take i slots) (get_or slots i d ∷ []))

pub text_begins : (slots : List Slot) → is_text slots ≡ true → machine.Text [] ∷ [] ≡ values_in slots
text_begins (Text zero ∷ []) e = refl
text_begins (Text (suc n) ∷ []) e = refl
text_begins [] e = cc
text_begins (Top ∷ rest) e = cc
text_begins (Int n ∷ rest) e = cc
text_begins (Long n ∷ rest) e = cc
text_begins (Null ∷ rest) e = cc
text_begins (Ref r ∷ rest) e = cc
text_begins (Text n ∷ s ∷ rest) e = cc
