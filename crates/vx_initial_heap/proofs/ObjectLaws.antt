-- The first objects by their classes are those of the program.
use Rattle.std.proofs.Common.{◌≡◌, ℕ, zero, suc, ◌+◌, true, List, [], ◌∷◌, ◌++◌, length, refl, sym, ◌∙◌, ap, subst, append_assoc, Option, Some, None, arith}
use Rattle.std.specs.Prelude.{ℤ, pos, negsuc, ◌+ℤ◌, ◌-ℤ◌}
use Rattle.std.proofs.lemmas.Bool.{lt-ltb, ltb-true}
use Rattle.std.proofs.lemmas.Int.{ints}
use Rattle.vx_initial_heap.proofs.Zips.{zip_append, zip_each}
use Rattle.vx_initial_heap.specs.Classes.{AreCoreClasses}
use Rattle.vx_initial_heap.specs.First.{AreFirstObjects, empty_text, is_among, is_cell_among, cells_in, value_in}
use Rattle.vx_initial_heap.specs.Objects.{AreObjectsFor, IsObjectFor, before_literals, int_object, int_objects, object_for, small_integers, with_cells}
use Rattle.vx_initial_heap.specs.declared.core_classes.CoreClasses.{CoreClasses}
use Rattle.vx_initial_heap.specs.declared.objects.FirstObject.{FirstObject}
use Rattle.vx_java.specs.FirstObjects.{First, first_objects, for_boolean, for_class, for_integer, for_main, for_stream, for_text, integers_from, literals, object_of_first}
use Rattle.vx_java.specs.Machine.{Int as IntValue, Text as TextValue}
use Rattle.vx_link.specs.declared.program.Program.{Program}
use Rattle.vx_value.specs.Texts.{Extends}
use Rattle.vx_value.specs.declared.ids.ClassId.{ClassId}
use Rattle.vx_value.specs.declared.slot.Slot.{Slot}
use Rattle.vx_value.specs.declared.slot.Slot.TheVariants.{Top, Int, Long, Null, Ref, Text}

-- ---- more texts

pub more_texts : (a b c : List (List ℕ)) → Extends a b → Extends b c → Extends a c
more_texts a b c e f number known =
    let first = e number known in
    let second = f number first.known in
    record { known = second.known; text = second.text ∙ first.text }

pub same_texts : (a : List (List ℕ)) → Extends a a
same_texts a number known = record { known = known; text = refl }

pub among_more : (objects : ℕ) (a b : List (List ℕ)) → Extends a b → (slot : Slot) → is_among objects (length a) slot ≡ true → is_among objects (length b) slot ≡ true
among_more objects a b e Top h = refl
among_more objects a b e (Int n) h = refl
among_more objects a b e (Long n) h = refl
among_more objects a b e Null h = refl
among_more objects a b e (Ref i) h = h
among_more objects a b e (Text n) h = lt-ltb n (length b) (e n (ltb-true n (length a) h)).known

pub value_more : (objects : ℕ) (a b : List (List ℕ)) → Extends a b → (slot : Slot) → is_among objects (length a) slot ≡ true → value_in b slot ≡ value_in a slot
value_more objects a b e Top h = refl
value_more objects a b e (Int n) h = refl
value_more objects a b e (Long n) h = refl
value_more objects a b e Null h = refl
value_more objects a b e (Ref i) h = refl
value_more objects a b e (Text n) h = ap TextValue (e n (ltb-true n (length a) h)).text

cell_more : (a b : List (List ℕ)) → Extends a b → (cell : Option Slot) → is_cell_among (length a) cell ≡ true → is_cell_among (length b) cell ≡ true
cell_more a b e None h = refl
cell_more a b e (Some slot) h = among_more 0 a b e slot h

cells_more : (a b : List (List ℕ)) → Extends a b → (cell : Option Slot) → is_cell_among (length a) cell ≡ true → cells_in b cell ≡ cells_in a cell
cells_more a b e None h = refl
cells_more a b e (Some slot) h = ap (λ v. v ∷ []) (value_more 0 a b e slot h)

pub object_more : (classes : CoreClasses) (a b : List (List ℕ)) → Extends a b → (x : First) (o : FirstObject) → IsObjectFor classes a x o → IsObjectFor classes b x o
object_more classes a b e x o h = record {
  same = ap (with_cells o.class) (cells_more a b e o.cell h.held) ∙ h.same;
  held = cell_more a b e o.cell h.held;
}

-- ---- ints

integers_more : (class : ClassId) (n : ℤ) (k : ℕ) → int_objects class n (suc k) ≡ int_objects class n k ++ int_object class (n +ℤ pos k) ∷ []
integers_more class n zero = ap (λ m. int_object class m ∷ []) (omega (arith, ints))
integers_more class n (suc k) = ap (λ os. int_object class n ∷ os) (integers_more class (n -ℤ negsuc 0) k ∙ ap (λ m. int_objects class (n -ℤ negsuc 0) k ++ int_object class m ∷ []) (omega (arith, ints)))

pub put_integer : (class : ClassId) (before objects : List FirstObject) (n v : ℤ) (k : ℕ) → objects ≡ before ++ int_objects class n k → v ≡ n +ℤ pos k → objects ++ int_object class v ∷ [] ≡ before ++ int_objects class n (k + 1)
put_integer class before objects n v k e h =
    let up : k + 1 ≡ suc k = omega arith in
    rw (e, h) (append_assoc before (int_objects class n k) (int_object class (n +ℤ pos k) ∷ []) ∙ ap (λ os. before ++ os) (sym (ap (int_objects class n) up ∙ integers_more class n k)))

integers_are : (classes : CoreClasses) (texts : List (List ℕ)) (n : ℤ) (k : ℕ) → AreObjectsFor classes texts (integers_from n k) (int_objects classes.integer n k)
integers_are classes texts n zero = tt
integers_are classes texts n (suc k) = (record { same = refl; held = refl }, integers_are classes texts (n -ℤ negsuc 0) k)

four_around : (classes : CoreClasses) (texts : List (List ℕ)) (xs : List First) (os : List FirstObject) → AreObjectsFor classes texts xs os
    → AreObjectsFor classes texts (for_stream 0 ∷ for_stream 1 ∷ (xs ++ (for_boolean 0 ∷ for_boolean 1 ∷ []))) (int_object classes.print_stream (pos 0) ∷ int_object classes.print_stream (pos 1) ∷ (os ++ (int_object classes.boolean (pos 0) ∷ int_object classes.boolean (pos 1) ∷ [])))
four_around classes texts xs os h = (
  record { same = refl; held = refl },
  (
    record { same = refl; held = refl },
    zip_append (IsObjectFor classes texts) xs os (for_boolean 0 ∷ for_boolean 1 ∷ []) (int_object classes.boolean (pos 0) ∷ int_object classes.boolean (pos 1) ∷ []) h
        (record { same = refl; held = refl }, (record { same = refl; held = refl }, tt)),
  ),
)

regrouped : {A : Type 0} (a b c d : A) (os : List A) → ((a ∷ b ∷ os) ++ c ∷ []) ++ d ∷ [] ≡ a ∷ b ∷ (os ++ (c ∷ d ∷ []))
regrouped a b c d os = ap (λ rest. a ∷ b ∷ rest) (append_assoc os (c ∷ []) (d ∷ []))

around_as_put : (classes : CoreClasses) (texts : List (List ℕ)) (xs : List First) (os : List FirstObject) → AreObjectsFor classes texts xs os
    → AreObjectsFor classes texts (for_stream 0 ∷ for_stream 1 ∷ (xs ++ (for_boolean 0 ∷ for_boolean 1 ∷ []))) (((int_object classes.print_stream (pos 0) ∷ int_object classes.print_stream (pos 1) ∷ os) ++ int_object classes.boolean (pos 0) ∷ []) ++ int_object classes.boolean (pos 1) ∷ [])
around_as_put classes texts xs os h =
    subst (AreObjectsFor classes texts (for_stream 0 ∷ for_stream 1 ∷ (xs ++ (for_boolean 0 ∷ for_boolean 1 ∷ []))))
    (sym (regrouped (int_object classes.print_stream (pos 0)) (int_object classes.print_stream (pos 1)) (int_object classes.boolean (pos 0)) (int_object classes.boolean (pos 1)) os))
    (four_around classes texts xs os h)

-- the objects before the literals, as they are put
pub are_before_literals : (classes : CoreClasses) → AreObjectsFor classes empty_text before_literals (((int_object classes.print_stream (pos 0) ∷ int_object classes.print_stream (pos 1) ∷ small_integers classes.integer) ++ int_object classes.boolean (pos 0) ∷ []) ++ int_object classes.boolean (pos 1) ∷ [])
unfolding before_literals small_integers
are_before_literals classes = around_as_put classes empty_text (integers_from (negsuc 127) 256) (int_objects classes.integer (negsuc 127) 256) (integers_are classes empty_text (negsuc 127) 256)

-- ---- those of the program

object_of : (p : Program) (classes : CoreClasses) → AreCoreClasses p classes → (x : First) → object_for classes x ≡ object_of_first p x
object_of p classes h (for_stream n) = ap (λ c. record { class = c; size = 0; cells = IntValue (pos n) ∷ [] }) h.print_stream
object_of p classes h (for_integer n) = ap (λ c. record { class = c; size = 0; cells = IntValue n ∷ [] }) h.integer
object_of p classes h (for_boolean n) = ap (λ c. record { class = c; size = 0; cells = IntValue (pos n) ∷ [] }) h.boolean
object_of p classes h (for_text units) = ap (λ c. record { class = c; size = 0; cells = TextValue units ∷ [] }) h.string
object_of p classes h (for_class name) = ap (λ c. record { class = c; size = 0; cells = [] }) h.class
object_of p classes h for_main = ap (λ c. record { class = c; size = 0; cells = [] }) h.strings

first_order : (p : Program) → first_objects p ≡ before_literals ++ (literals p ++ for_main ∷ [])
unfolding before_literals
first_order p = by (integers_from (negsuc 127) 256)
  where
    by : (xs : List First) → for_stream 0 ∷ for_stream 1 ∷ (xs ++ (for_boolean 0 ∷ for_boolean 1 ∷ (literals p ++ for_main ∷ []))) ≡ (for_stream 0 ∷ for_stream 1 ∷ (xs ++ (for_boolean 0 ∷ for_boolean 1 ∷ []))) ++ (literals p ++ for_main ∷ [])
    by xs = ap (λ rest. for_stream 0 ∷ for_stream 1 ∷ rest) (sym (append_assoc xs (for_boolean 0 ∷ for_boolean 1 ∷ []) (literals p ++ for_main ∷ [])))

-- all of them
pub all_first_objects : (p : Program) (classes : CoreClasses) (texts : List (List ℕ)) (before named : List FirstObject) (last : FirstObject)
    → AreCoreClasses p classes → Extends empty_text texts
    → AreObjectsFor classes empty_text before_literals before → AreObjectsFor classes texts (literals p) named → IsObjectFor classes empty_text for_main last
    → AreFirstObjects p texts (first_objects p) ((before ++ named) ++ last ∷ [])
all_first_objects p classes texts before named last h e b n m =
    rw (first_order p, append_assoc before named (last ∷ []))
    (zip_each (λ x o k. record { same = k.same ∙ object_of p classes h x; held = k.held }) (before_literals ++ (literals p ++ for_main ∷ [])) (before ++ (named ++ last ∷ []))
    (zip_append (IsObjectFor classes texts) before_literals before (literals p ++ for_main ∷ []) (named ++ last ∷ [])
    (zip_each (object_more classes empty_text texts e) before_literals before b)
    (zip_append (IsObjectFor classes texts) (literals p) named (for_main ∷ []) (last ∷ []) n (object_more classes empty_text texts e for_main last m, tt))))
