-- What native methods make of numbers, classes and objects that begin, and arrays that they copy, is what the ordinary machine does.
use Rattle.std.proofs.Common.{◌≡◌, ℕ, ℤ, Bool, true, false, List, [], ◌∷◌, refl, sym, ◌∙◌, ap, arith, pos, subst, ◌+◌, ◌<◌, ◌≤◌}
use Rattle.std.proofs.lemmas.Bool.{eq-eqb, eqb-true, leb-true}
use Rattle.std.proofs.lemmas.Int.{ints}
use Rattle.std.specs.Fmt.{signed_decimal}
use Rattle.std.specs.Prelude.{None, Option, Some, if◌then◌else◌, int_le, nat_le, negsuc, not, option_map, ◌&&◌, ◌-ℤ◌, ◌==◌, ◌≤ℤ◌}
use Rattle.vx_cells.proofs.ObjectClasses.{class_there, length_there}
use Rattle.vx_cells.specs.Classes.{has_class}
use Rattle.vx_group_states.proofs.StateLaws.{both, both_first, both_second}
use Rattle.vx_heap.specs.Heap.{HeapView, IsHeapFor, are_held, class_at_slot, globals_at, is_held, name_at, object_in, objects_at}
use Rattle.vx_java.specs.FirstObjects.{core_object, first_integer, first_words, units_of}
use Rattle.vx_java.specs.Library.{are_like, copy_within, dotted, like_kinds, within_array}
use Rattle.vx_java.specs.Machine.{Here, Int as IntValue, Ref as RefValue, Value, go, no_object, object_at, push_new, raise, when}
use Rattle.vx_java.specs.Texts.{answer_text, bool_text}
use Rattle.vx_link.specs.ClassNames.{class_text}
use Rattle.vx_link.specs.declared.program.Program.{Program}
use Rattle.vx_list.specs.Places.{item_or}
use Rattle.vx_natives.proofs.Rights.{held_if, held_where, says_if}
use Rattle.vx_natives.specs.Deeds.{IsRight, copies, deed_says, gives_integer, has_elements, is_deed_held, raises}
use Rattle.vx_natives.specs.Doing.{Says, over}
use Rattle.vx_natives.specs.Readings.{IsCallOr, said}
use Rattle.vx_natives.specs.declared.behaviour.Behaviour.TheVariants.{CopyArray, Initialise, Make}
use Rattle.vx_natives.specs.declared.behaviour.Initialiser.{Initialiser}
use Rattle.vx_natives.specs.declared.behaviour.Initialiser.TheVariants as init
use Rattle.vx_natives.specs.declared.behaviour.Maker.{Maker}
use Rattle.vx_natives.specs.declared.behaviour.Maker.TheVariants as maker
use Rattle.vx_natives.specs.declared.call.Call.{Call}
use Rattle.vx_natives.specs.declared.call.Call.TheVariants as given
use Rattle.vx_natives.specs.declared.effect.Exception.TheVariants.{Outside, Store}
use Rattle.vx_space.specs.Sets.{Sets}
use Rattle.vx_strings.proofs.MakerRows.{short_held, short_says}
use Rattle.vx_strings.specs.Changes.{is_of_text, is_text_maker}
use Rattle.vx_strings.specs.Lengths.{gives_short}
use Rattle.vx_strings.specs.Spelled.{of_units}
use Rattle.vx_value.specs.Arithmetic.{natural}
use Rattle.vx_value.specs.declared.ids.ClassId.{ClassId}
use Rattle.vx_value.specs.declared.slot.Slot.{Slot}
use Rattle.vx_value.specs.declared.slot.Slot.TheVariants.{Int, Null, Ref}
use Rattle.vx_lang.specs.Numbers.{begun, class_named, class_units, copied, copied_between, like_slots, made_number}
use Rattle.vx_lang.specs.Questions.{number_in}
use Rattle.vx_lang.specs.Values.{gives}
use Rattle.vx_lang.proofs.FirstObjects.{first_held, first_named}
use Rattle.vx_lang.proofs.QuestionRows.{number_at}

module _ {S I : Type 0} (p : Program) (sets : Sets I) (heap : HeapView S I) (c : List Bool) where
  abbrev H : Here → Here
  H h = over p h (globals_at sets heap c)

  abbrev name : ℕ → ℕ
  name r = name_at sets heap.objects c r

  -- ---- new texts and numbers

  pub text_right : (says : Says) (units : List ℕ) → ((h : Here) (rest : List Value) → answer_text (H h) rest units ≡ says c (H h) rest) → IsRight p sets heap c says (gives_short heap.texts (of_units units))
  text_right says units same = record {
    held = short_held p sets heap c (of_units units) refl;
    at = λ h rest. short_says p sets heap c (of_units units) h rest ∙ same h rest;
  }

  -- the class of an object that is there
  class_is : (f : ℕ → List ℕ) (n : ℕ) (o : Option ClassId) → has_class (λ k. k == n) o ≡ true → option_map (λ class. f class.0) o ≡ Some (f n)
  class_is f n None t = cc t
  class_is f n (Some class) t = ap (λ k. Some (f k)) (eqb-true class.0 n t)

  pub class_units_there : (r : ℕ) → is_held sets heap c (Ref r) ≡ true → class_units p heap r ≡ Some (dotted (units_of (class_text p (item_or (objects_at sets heap c) (name r) no_object).class)))
  class_units_there r t =
      let n = (item_or (objects_at sets heap c) (name r) no_object).class in
      class_is (λ k. dotted (units_of (class_text p k))) n (class_at_slot heap (Ref r)) (class_there (λ k. k == n) sets heap c r t ∙ eq-eqb n n refl)

  pub named_right : (says : Says) (o : Option (List ℕ)) (units : List ℕ) → o ≡ Some units → ((h : Here) (rest : List Value) → answer_text (H h) rest units ≡ says c (H h) rest) → IsRight p sets heap c says (class_named heap.texts o)
  named_right says o units e same =
      let P : Option (List ℕ) → Type 0 = λ x. IsRight p sets heap c says (class_named heap.texts x) in
      subst P (sym e) (text_right says units same)

  -- ---- objects that begin

  one_held : (a : Slot) (rest : List Slot) → are_held sets heap c (a ∷ rest) ≡ true → is_held sets heap c a ≡ true
  one_held a rest t = both_first (is_held sets heap c a) (are_held sets heap c rest) t

  rest_held : (a : Slot) (rest : List Slot) → are_held sets heap c (a ∷ rest) ≡ true → are_held sets heap c rest ≡ true
  rest_held a rest t = both_second (is_held sets heap c a) (are_held sets heap c rest) t

  three_held : (a b d : Slot) → are_held sets heap c (a ∷ b ∷ d ∷ []) ≡ true → (is_held sets heap c a && (is_held sets heap c b && is_held sets heap c d)) ≡ true
  three_held a b d t =
      both (is_held sets heap c a) (is_held sets heap c b && is_held sets heap c d) (one_held a (b ∷ d ∷ []) t)
      (both (is_held sets heap c b) (is_held sets heap c d) (one_held b (d ∷ []) (rest_held a (b ∷ d ∷ []) t)) (one_held d [] (rest_held b (d ∷ []) (rest_held a (b ∷ d ∷ []) t))))

  two_held : (a b : Slot) → are_held sets heap c (a ∷ b ∷ []) ≡ true → (is_held sets heap c a && (is_held sets heap c b && true)) ≡ true
  two_held a b t = t

  pub begun_right : (i : Initialiser) (call : Call) → is_of_text i ≡ false → IsCallOr sets heap c (Initialise i) call → IsRight p sets heap c (said sets heap (Initialise i) call) (begun i call)
  begun_right init.Enum given.Illegal o k = record { held = refl; at = λ h rest. refl }
  begun_right init.Enum (given.Three (Ref r) (Ref s) (Int n)) o k = record { held = three_held (Ref r) (Ref s) (Int n) k.held; at = λ h rest. refl }
  begun_right init.Enum (given.Three (Ref r) Null (Int n)) o k = record { held = refl; at = λ h rest. refl }
  begun_right init.Enum (given.Three (Ref r) (Ref s) b) o k = record { held = refl; at = λ h rest. refl }
  begun_right init.Enum (given.Three (Ref r) Null b) o k = record { held = refl; at = λ h rest. refl }
  begun_right init.Enum (given.Three (Ref r) a b) o k = record { held = refl; at = λ h rest. refl }
  begun_right init.Enum (given.Three d a b) o k = record { held = refl; at = λ h rest. refl }
  begun_right init.Enum call o k = cc k.given.count
  begun_right init.Throwable given.Illegal o k = record { held = refl; at = λ h rest. refl }
  begun_right init.Throwable (given.One (Ref r)) o k = record { held = both (is_held sets heap c (Ref r)) true (one_held (Ref r) [] k.held) refl; at = λ h rest. refl }
  begun_right init.Throwable (given.One a) o k = record { held = refl; at = λ h rest. refl }
  begun_right init.Throwable (given.Two (Ref r) m) o k = record { held = two_held (Ref r) m k.held; at = λ h rest. refl }
  begun_right init.Throwable (given.Two a m) o k = record { held = refl; at = λ h rest. refl }
  begun_right init.Throwable (given.Three (Ref r) m d) o k = record { held = three_held (Ref r) m d k.held; at = λ h rest. refl }
  begun_right init.Throwable (given.Three a m d) o k = record { held = refl; at = λ h rest. refl }
  begun_right init.Throwable call o k = cc k.given.count
  begun_right init.Empty call o k = cc o
  begun_right init.OfText call o k = cc o
  begun_right init.OfChars call o k = cc o
  begun_right init.OfCapacity call o k = cc o

  -- ---- arrays that are copied

  like_there : (r s : ℕ) (h : Here) → is_held sets heap c (Ref r) ≡ true → is_held sets heap c (Ref s) ≡ true → like_slots p heap (Ref r) (Ref s) ≡ like_kinds (H h) (object_at (H h).state (name r)) (object_at (H h).state (name s))
  like_there r s h t u =
      class_there (λ a. has_class (λ b. are_like p a b) (class_at_slot heap (Ref s))) sets heap c r t
      ∙ class_there (λ b. are_like p (object_at (H h).state (name r)).class b) sets heap c s u

  copied_row : (r s : ℕ) (from to count : ℤ) (h : Here) (rest : List Value) → is_held sets heap c (Ref r) ≡ true → is_held sets heap c (Ref s) ≡ true → deed_says sets heap (copied_between p heap r from s to count) c (H h) rest ≡ when (not (like_kinds (H h) (object_at (H h).state (name r)) (object_at (H h).state (name s)))) (raise (H h) "java/lang/ArrayStoreException") (when (within_array from count (object_at (H h).state (name r)).size && within_array to count (object_at (H h).state (name s)).size) (copy_within (H h) rest (name r) from (name s) to count) (raise (H h) "java/lang/ArrayIndexOutOfBoundsException"))
  copied_row r s from to count h rest t u =
      let like = like_slots p heap (Ref r) (Ref s) in
      let fits = within_array from count (object_in heap r).length && within_array to count (object_in heap s).length in
      let made = copies r (natural from) s (natural to) (natural count) in
      let outer = if fits then made else raises Outside in
      let first = like_there r s h t u in
      let second = length_there sets heap c r t in
      let third = length_there sets heap c s u in
      says_if sets heap c (not like) (raises Store) outer (H h) rest
      ∙ ap (λ o. when (not like) (raise (H h) "java/lang/ArrayStoreException") o) (says_if sets heap c fits made (raises Outside) (H h) rest)
      ∙ (λ i. when (not (first i)) (raise (H h) "java/lang/ArrayStoreException") (when (within_array from count (second i) && within_array to count (third i)) (copy_within (H h) rest (name r) from (name s) to count) (raise (H h) "java/lang/ArrayIndexOutOfBoundsException")))

  within_natural : (at count : ℤ) (size : ℕ) → within_array at count size ≡ true → nat_le (natural at + natural count) size ≡ true
  within_natural (pos at) (pos count) size k = k
  within_natural (pos at) (negsuc count) size k = cc k
  within_natural (negsuc at) count size k = cc k

  copied_held : (r s : ℕ) (from to count : ℤ) → is_held sets heap c (Ref r) ≡ true → is_held sets heap c (Ref s) ≡ true → is_deed_held sets heap c (copied_between p heap r from s to count) ≡ true
  copied_held r s from to count t u =
      let fits = within_array from count (object_in heap r).length && within_array to count (object_in heap s).length in
      let made = copies r (natural from) s (natural to) (natural count) in
      let there = both (is_held sets heap c (Ref r)) (is_held sets heap c (Ref s)) t u in
      held_if sets heap c (not (like_slots p heap (Ref r) (Ref s))) (raises Store) (if fits then made else raises Outside) refl
      (held_where sets heap c fits made (raises Outside) (λ k.
      both (is_held sets heap c (Ref r) && is_held sets heap c (Ref s)) (has_elements heap r (natural from) (natural count) && has_elements heap s (natural to) (natural count)) there
      (both (has_elements heap r (natural from) (natural count)) (has_elements heap s (natural to) (natural count))
      (within_natural from count (object_in heap r).length (both_first (within_array from count (object_in heap r).length) (within_array to count (object_in heap s).length) k))
      (within_natural to count (object_in heap s).length (both_second (within_array from count (object_in heap r).length) (within_array to count (object_in heap s).length) k)))) refl)

  third_held : (a b d e f : Slot) → are_held sets heap c (a ∷ b ∷ d ∷ e ∷ f ∷ []) ≡ true → is_held sets heap c d ≡ true
  third_held a b d e f t = one_held d (e ∷ f ∷ []) (rest_held b (d ∷ e ∷ f ∷ []) (rest_held a (b ∷ d ∷ e ∷ f ∷ []) t))

  pub copied_right : (call : Call) → IsCallOr sets heap c CopyArray call → IsRight p sets heap c (said sets heap CopyArray call) (copied p heap call)
  copied_right given.Illegal k = record { held = refl; at = λ h rest. refl }
  copied_right (given.Five (Ref r) (Int from) (Ref s) (Int to) (Int count)) k =
      let t = one_held (Ref r) (Int from ∷ Ref s ∷ Int to ∷ Int count ∷ []) k.held in
      let u = third_held (Ref r) (Int from) (Ref s) (Int to) (Int count) k.held in
      record { held = copied_held r s from to count t u; at = λ h rest. copied_row r s from to count h rest t u }
  copied_right (given.Five (Ref r) (Int from) b (Int to) (Int count)) k = record { held = refl; at = λ h rest. refl }
  copied_right (given.Five a (Int from) b (Int to) (Int count)) k = record { held = refl; at = λ h rest. refl }
  copied_right (given.Five a (Int from) b (Int to) e) k = record { held = refl; at = λ h rest. refl }
  copied_right (given.Five a (Int from) b d e) k = record { held = refl; at = λ h rest. refl }
  copied_right (given.Five a f b d e) k = record { held = refl; at = λ h rest. refl }
  copied_right call k = cc k.given.count

-- ---- numbers and classes

natural_most : (z : ℤ) (most : ℕ) → z ≤ℤ pos most → natural z ≤ most
natural_most (pos n) most l = omega (arith, ints, l)
natural_most (negsuc n) most l = omega arith

module _ {S I : Type 0} (p : Program) (sets : Sets I) (heap : HeapView S I) (c : List Bool) (is_for : IsHeapFor p heap) (runs : sets.test heap.allowed c ≡ true) where
  -- the Integer objects that there are from the beginning
  first_number : (n : ℤ) → (int_le (negsuc 127) n && int_le n (pos 127)) ≡ true → first_integer n < first_words p
  first_number (pos n) e =
      let few = leb-true n 127 e in
      omega (arith, natural_most (pos n -ℤ negsuc 127) 255 (omega (arith, ints, few)))
  first_number (negsuc n) e = omega (arith, natural_most (negsuc n -ℤ negsuc 127) 255 (omega (arith, ints)))

  integer_says : (n : ℤ) (b : Bool) → (int_le (negsuc 127) n && int_le n (pos 127)) ≡ b → (h : Here) (rest : List Value) → deed_says sets heap (if b then gives (Ref (first_integer n)) else gives_integer n) c (H p sets heap c h) rest ≡ when b (go (H p sets heap c h) (RefValue (first_integer n) ∷ rest)) (push_new (H p sets heap c h) (core_object p "java/lang/Integer" (IntValue n ∷ [])) rest)
  integer_says n true e h rest = ap (λ k. go (H p sets heap c h) (RefValue k ∷ rest)) (first_named p sets heap c (first_integer n) is_for runs (first_number n e))
  integer_says n false e h rest = refl

  integer_held : (n : ℤ) (b : Bool) → (int_le (negsuc 127) n && int_le n (pos 127)) ≡ b → is_deed_held sets heap c (if b then gives (Ref (first_integer n)) else gives_integer n) ≡ true
  integer_held n true e = first_held p sets heap c (first_integer n) is_for runs (first_number n e)
  integer_held n false e = refl

  pub number_right : (m : Maker) (call : Call) → is_text_maker m ≡ false → IsCallOr sets heap c (Make m) call → IsRight p sets heap c (said sets heap (Make m) call) (made_number p heap m call)
  number_right maker.LineSeparator given.Illegal o k = record { held = refl; at = λ h rest. refl }
  number_right maker.LineSeparator given.Nothing o k = text_right p sets heap c (said sets heap (Make maker.LineSeparator) given.Nothing) (10 ∷ []) (λ h rest. refl)
  number_right maker.LineSeparator call o k = cc k.given.count
  number_right maker.IntegerOf given.Illegal o k = record { held = refl; at = λ h rest. refl }
  number_right maker.IntegerOf (given.One (Int n)) o k = record {
    held = integer_held n (int_le (negsuc 127) n && int_le n (pos 127)) refl;
    at = λ h rest. integer_says n (int_le (negsuc 127) n && int_le n (pos 127)) refl h rest;
  }
  number_right maker.IntegerOf (given.One a) o k = record { held = refl; at = λ h rest. refl }
  number_right maker.IntegerOf call o k = cc k.given.count
  number_right maker.SpellInt given.Illegal o k = record { held = refl; at = λ h rest. refl }
  number_right maker.SpellInt (given.One (Int n)) o k = text_right p sets heap c (said sets heap (Make maker.SpellInt) (given.One (Int n))) (signed_decimal n) (λ h rest. refl)
  number_right maker.SpellInt (given.One a) o k = record { held = refl; at = λ h rest. refl }
  number_right maker.SpellInt call o k = cc k.given.count
  number_right maker.SpellInteger given.Illegal o k = record { held = refl; at = λ h rest. refl }
  number_right maker.SpellInteger (given.Two (Ref r) x) o k = text_right p sets heap c (said sets heap (Make maker.SpellInteger) (given.Two (Ref r) x)) (signed_decimal (number_in x)) (λ h rest. ap (λ n. answer_text (H p sets heap c h) rest (signed_decimal n)) (number_at p sets heap c h r 0 x k.readings.0))
  number_right maker.SpellInteger (given.Two a x) o k = record { held = refl; at = λ h rest. refl }
  number_right maker.SpellInteger call o k = cc k.given.count
  number_right maker.SpellBoolean given.Illegal o k = record { held = refl; at = λ h rest. refl }
  number_right maker.SpellBoolean (given.Two (Ref r) x) o k = text_right p sets heap c (said sets heap (Make maker.SpellBoolean) (given.Two (Ref r) x)) (bool_text (number_in x)) (λ h rest. ap (λ n. answer_text (H p sets heap c h) rest (bool_text n)) (number_at p sets heap c h r 0 x k.readings.0))
  number_right maker.SpellBoolean (given.Two a x) o k = record { held = refl; at = λ h rest. refl }
  number_right maker.SpellBoolean call o k = cc k.given.count
  number_right maker.ClassName given.Illegal o k = record { held = refl; at = λ h rest. refl }
  number_right maker.ClassName (given.One (Ref r)) o k = named_right p sets heap c (said sets heap (Make maker.ClassName) (given.One (Ref r))) (class_units p heap r) (dotted (units_of (class_text p (item_or (objects_at sets heap c) (name_at sets heap.objects c r) no_object).class))) (class_units_there p sets heap c r (both_first (is_held sets heap c (Ref r)) true k.held)) (λ h rest. refl)
  number_right maker.ClassName (given.One a) o k = record { held = refl; at = λ h rest. refl }
  number_right maker.ClassName call o k = cc k.given.count
  number_right _ call o k = cc o
