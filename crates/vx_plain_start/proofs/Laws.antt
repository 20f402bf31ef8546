-- What runs begin with, as values of one configuration.
use Rattle.std.proofs.Common.{◌≡◌, ℕ, zero, suc, ◌+◌, ◌<◌, Bool, true, false, List, [], ◌∷◌, ◌++◌, map, length, take, get_or, refl, subst, sym, ap, ◌∙◌, arith}
use Rattle.std.proofs.lemmas.Bool.Decides.{nat_tests}
use Rattle.std.proofs.lemmas.List.{map-append, take_more}
use Rattle.std.proofs.lemmas.Result.{IfOk-weaker}
use Rattle.std.specs.List.{AllZip}
use Rattle.std.specs.Prelude.{◌&&◌, IfOk, None, Option, Result, Some, nat_lt, option_map}
use Rattle.vx_initial_heap.specs.First.{AreFirstObjects, IsFirstStatic, empty_text, is_among, is_cell_among, object_in, static_in}
use Rattle.vx_initial_heap.specs.declared.objects.FirstObject.{FirstObject}
use Rattle.vx_initial_heap.specs.declared.statics.FirstStatic.{FirstStatic}
use Rattle.vx_initial_heap.specs.declared.statics.FirstStatic.TheVariants.{Same}
use Rattle.vx_java.specs.FirstObjects as objects
use Rattle.vx_java.specs.FirstObjects.{object_of_first}
use Rattle.vx_java.specs.Ids.{as_class}
use Rattle.vx_java.specs.Initialisation.{quiet_chain}
use Rattle.vx_java.specs.Machine.{State, place}
use Rattle.vx_java.specs.Operation.{class_word}
use Rattle.vx_java.specs.Step.{Config, Over, Run, begun, first_static, fresh_progress, if_quiet}
use Rattle.vx_link.specs.ClassNames.{class_text}
use Rattle.vx_link.specs.declared.program.LinkedField.{LinkedField}
use Rattle.vx_link.specs.declared.program.Program.{Program}
use Rattle.vx_plain.specs.Views.{object_of, value_of, values_of}
use Rattle.vx_plain.specs.declared.object.Object as plain
use Rattle.vx_plain.specs.declared.value.Value.{Value}
use Rattle.vx_plain_start.specs.Beginning.{Began}
use Rattle.vx_plain_start.specs.First.{are_cells_among}
use Rattle.vx_plain_tables.proofs.CellLaws.{plain_is}
use Rattle.vx_plain_tables.specs.Cells.{plain_of}
use Rattle.vx_value.specs.declared.end.End.{End}
use Rattle.vx_value.specs.declared.end.End.TheVariants.{Unsupported}
use Rattle.vx_value.specs.declared.ids.ClassId.{ClassId}
use Rattle.vx_value.specs.declared.slot.Slot.{Slot}
use Rattle.vx_value.specs.declared.slot.Slot.TheVariants.{Text}

pub objects_are : (p : Program) (texts : List (List ℕ)) (xs : List objects.First) (os : List FirstObject) → AreFirstObjects p texts xs os → map (object_in texts) os ≡ map (object_of_first p) xs
objects_are p texts [] [] h = refl
objects_are p texts [] (o ∷ os) h = absurd h
objects_are p texts (x ∷ xs) [] h = absurd h
objects_are p texts (x ∷ xs) (o ∷ os) h = λ i. h.0.same i ∷ objects_are p texts xs os h.1 i

pub cells_held : (p : Program) (texts : List (List ℕ)) (xs : List objects.First) (os : List FirstObject) → AreFirstObjects p texts xs os → are_cells_among (length texts) os ≡ true
cells_held p texts [] [] h = refl
cells_held p texts [] (o ∷ os) h = absurd h
cells_held p texts (x ∷ xs) [] h = absurd h
cells_held p texts (x ∷ xs) (o ∷ os) h = ap (λ b. b && are_cells_among (length texts) os) h.0.held ∙ cells_held p texts xs os h.1

pub statics_are : (p : Program) (c : Config) (fields : List LinkedField) (statics : List FirstStatic) → AllZip (IsFirstStatic p) fields statics → map (static_in empty_text c) statics ≡ map (first_static p c) fields
statics_are p c [] [] h = refl
statics_are p c [] (s ∷ ss) h = absurd h
statics_are p c (f ∷ fs) [] h = absurd h
statics_are p c (f ∷ fs) (s ∷ ss) h = λ i. h.0.value c i ∷ statics_are p c fs ss h.1 i

first_true : (a b : Bool) → a && b ≡ true → a ≡ true
first_true true b e = refl
first_true false b e = cc

second_true : (a b : Bool) → a && b ≡ true → b ≡ true
second_true true b e = e
second_true false b e = cc

below : (n m : ℕ) → nat_lt n m ≡ true → n < m
below n m e = grind (arith, nat_tests)

-- a text that a slot names is known
pub text_known : (texts n : ℕ) (slot : Slot) → slot ≡ Text n → is_among 0 texts slot ≡ true → n < texts
text_known texts n slot is held = below n texts (ap (is_among 0 texts) (sym is) ∙ held)

pub cell_held : (texts : ℕ) (os : List FirstObject) (i : ℕ) (d : FirstObject) → i < length os → are_cells_among texts os ≡ true → is_cell_among texts (get_or os i d).cell ≡ true
cell_held texts [] i d lt h = absurd (omega (arith, lt))
cell_held texts (o ∷ os) zero d lt h = first_true (is_cell_among texts o.cell) (are_cells_among texts os) h
cell_held texts (o ∷ os) (suc i) d lt h = cell_held texts os i d (omega (arith, lt)) (second_true (is_cell_among texts o.cell) (are_cells_among texts os) h)

pub object_put : (texts : List (List ℕ)) (firsts : List FirstObject) (i : ℕ) (d : FirstObject) (made : List plain.Object) (o : plain.Object) → i < length firsts → object_of o ≡ object_in texts (get_or firsts i d)
    → map object_of made ≡ map (object_in texts) (take i firsts) → map object_of (made ++ o ∷ []) ≡ map (object_in texts) (take (i + 1) firsts)
object_put texts firsts i d made o lt is so_far =
    map-append object_of made (o ∷ [])
    ∙ ap (λ os. os ++ object_of o ∷ []) so_far
    ∙ ap (λ x. map (object_in texts) (take i firsts) ++ x ∷ []) is
    ∙ sym (ap (map (object_in texts)) (take_more firsts i d lt) ∙ map-append (object_in texts) (take i firsts) (get_or firsts i d ∷ []))

-- a slot that names no text
pub slot_given : {E : Type 0} (r : Result Value E) (slot : Slot) (c : Config) (first : FirstStatic) → first ≡ Same slot → IfOk r (λ v. Some v ≡ plain_of slot) → IfOk r (λ v. value_of v ≡ static_in empty_text c first)
slot_given r slot c first is given =
    IfOk-weaker r (λ v. Some v ≡ plain_of slot) (λ v. value_of v ≡ static_in empty_text c first) (λ v h. plain_is empty_text slot v h ∙ ap (static_in empty_text c) (sym is)) given

pub static_put : (c : Config) (firsts : List FirstStatic) (i : ℕ) (d : FirstStatic) (made : List Value) (v : Value) → i < length firsts → value_of v ≡ static_in empty_text c (get_or firsts i d)
    → values_of made ≡ map (static_in empty_text c) (take i firsts) → values_of (made ++ v ∷ []) ≡ map (static_in empty_text c) (take (i + 1) firsts)
static_put c firsts i d made v lt is so_far =
    map-append value_of made (v ∷ [])
    ∙ ap (λ vs. vs ++ value_of v ∷ []) so_far
    ∙ ap (λ x. map (static_in empty_text c) (take i firsts) ++ x ∷ []) is
    ∙ sym (ap (map (static_in empty_text c)) (take_more firsts i d lt) ∙ map-append (static_in empty_text c) (take i firsts) (get_or firsts i d ∷ []))

-- ---- the beginning of the main class

-- what was told is what the ordinary machine says
pub began_as : {E : Type 0} (r : Result (Option End) E) (told said : Run) (old new : State) → told ≡ said → IfOk r (Began told old new) → IfOk r (Began said old new)
began_as r told said old new e began = subst (λ run. IfOk r (Began run old new)) e began

-- the run is over in the state in which it stands
pub over : (made : Option End) (said : Run) (s : State) (end : End) → said ≡ Over end (fresh_progress s) → made ≡ Some end → Began said s s made
over made said s end e is = subst (Began said s s) (sym is) e

some_same : {A : Type 0} (x y : A) → Some x ≡ Some y → x ≡ y
some_same x y e = cc

pub blocked_ends : (p : Program) (s : State) (c : ℕ) (chain : List ℕ) (i : ClassId) (o : Option ℕ) → Some i ≡ option_map as_class o
    → begun p s c chain o ≡ Over (Unsupported class_word (class_text p i.0) (place p s)) (fresh_progress s)
blocked_ends p s c chain i None e = cc
blocked_ends p s c chain i (Some n) e = ap (λ (k : ClassId). Over (Unsupported class_word (class_text p k.0) (place p s)) (fresh_progress s)) (sym (some_same i (as_class n) e))

pub free_begins : (p : Program) (s : State) (c : ℕ) (chain : List ℕ) (o : Option ℕ) → None ≡ option_map as_class o → if_quiet p s chain (quiet_chain p s.inits c) ≡ begun p s c chain o
free_begins p s c chain None e = refl
free_begins p s c chain (Some n) e = cc
