-- What becomes of strings and builders is what the ordinary machine says of the plain objects.
use Rattle.std.proofs.Common.{◌≡◌, ℕ, Bool, true, List, [], ◌∷◌, ◌++◌, refl, sym, ◌∙◌, ap, drop, length, pos, suc, take}
use Rattle.std.specs.Prelude.{None, Option, Some, nat_lt, negsuc, replicate, ◌&&◌, ◌-◌}
use Rattle.std.proofs.lemmas.List.{append-nil}
use Rattle.vx_group_states.proofs.StateLaws.{both, both_first, both_second}
use Rattle.vx_heap.specs.Heap.{HeapView, are_held, globals_at, is_held, name_at, value_of}
use Rattle.vx_java.specs.Checks.{is_within}
use Rattle.vx_java.specs.Machine.{Here, Value, go, length_bound, raise, when}
use Rattle.vx_java.specs.Machine.{Ref as RefValue}
use Rattle.vx_java.specs.Texts.{chars_of, if_spelled, reversed_onto, rewrite, text_of_object, units_in, with_text}
use Rattle.vx_link.specs.declared.program.Program.{Program}
use Rattle.vx_natives.proofs.Rights.{held_if, says_if, text_there, units_there}
use Rattle.vx_natives.specs.Behaviours.{spelled_by}
use Rattle.vx_natives.specs.Cells.{cell_of}
use Rattle.vx_natives.specs.Deeds.{IsRight, changes_text, deed_says, is_deed_held, raises, sets_text, text_with}
use Rattle.vx_natives.specs.Doing.{Says, over}
use Rattle.vx_natives.specs.Readings.{IsCallOr, IsCharsText, said}
use Rattle.vx_natives.specs.Texts.{units_of}
use Rattle.vx_natives.specs.declared.behaviour.Behaviour.TheVariants.{Change, Initialise}
use Rattle.vx_natives.specs.declared.behaviour.BuilderChange.{BuilderChange}
use Rattle.vx_natives.specs.declared.behaviour.BuilderChange.TheVariants as change
use Rattle.vx_natives.specs.declared.behaviour.Initialiser.{Initialiser}
use Rattle.vx_natives.specs.declared.behaviour.Initialiser.TheVariants as init
use Rattle.vx_natives.specs.declared.behaviour.Spelling.{Spelling}
use Rattle.vx_natives.specs.declared.behaviour.Spelling.TheVariants as spelling
use Rattle.vx_natives.specs.declared.call.Call.{Call}
use Rattle.vx_natives.specs.declared.call.Call.TheVariants as given
use Rattle.vx_natives.specs.declared.effect.Exception.TheVariants.{BadIndex, Memory}
use Rattle.vx_space.specs.Sets.{Sets}
use Rattle.vx_value.specs.Arithmetic.{natural}
use Rattle.vx_value.specs.declared.slot.Slot.{Slot}
use Rattle.vx_value.specs.declared.slot.Slot.TheVariants.{Int, Ref, Top}
use Rattle.vx_strings.proofs.SpelledRows.{IsChar, IsReadOf, char_behind, spelled_there, units_by}
use Rattle.vx_strings.specs.Changes.{appended, changed, initialised, is_of_text, tail_of, with_tail}
use Rattle.vx_strings.specs.Spelled.{Spelled, spelled}

module _ {S I : Type 0} (p : Program) (sets : Sets I) (heap : HeapView S I) (c : List Bool) where
  abbrev H : Here → Here
  H h = over p h (globals_at sets heap c)

  abbrev name : ℕ → ℕ
  name r = name_at sets heap.objects c r

  first_held : (a : Slot) (rest : List Slot) → are_held sets heap c (a ∷ rest) ≡ true → is_held sets heap c a ≡ true
  first_held a rest t = both_first (is_held sets heap c a) (are_held sets heap c rest) t

  rest_held : (a : Slot) (rest : List Slot) → are_held sets heap c (a ∷ rest) ≡ true → are_held sets heap c rest ≡ true
  rest_held a rest t = both_second (is_held sets heap c a) (are_held sets heap c rest) t

  -- an object and the third of three values
  object_and_third : (r : ℕ) (b t : Slot) → are_held sets heap c (Ref r ∷ b ∷ t ∷ []) ≡ true → (is_held sets heap c (Ref r) && is_held sets heap c t) ≡ true
  object_and_third r b t h = both (is_held sets heap c (Ref r)) (is_held sets heap c t) (first_held (Ref r) (b ∷ t ∷ []) h) (first_held t [] (rest_held b (t ∷ []) (rest_held (Ref r) (b ∷ t ∷ []) h)))

  -- an object alone
  object_alone : (r : ℕ) (rest : List Slot) → are_held sets heap c (Ref r ∷ rest) ≡ true → (is_held sets heap c (Ref r) && is_held sets heap c Top) ≡ true
  object_alone r rest h = both (is_held sets heap c (Ref r)) true (first_held (Ref r) rest h) refl

  -- ---- strings and builders that begin

  text_of : (s : ℕ) (t : Slot) (h : Here) → value_of sets heap c t ≡ cell_of sets heap c (Ref s) 0 → text_with heap.texts t [] ≡ text_of_object (H h) (name s)
  text_of s t h e = append-nil (units_of heap.texts t) ∙ sym (text_there sets heap c p h s t e)

  chars : (a : ℕ) (t : Slot) (h : Here) → IsCharsText sets heap c (Ref a) t → text_with heap.texts t [] ≡ chars_of (H h) (name a)
  chars a t h e = append-nil (units_of heap.texts t) ∙ sym (units_there sets heap c t) ∙ ap units_in e

  pub initialised_right : (i : Initialiser) (call : Call) → is_of_text i ≡ true → IsCallOr sets heap c (Initialise i) call → IsRight p sets heap c (said sets heap (Initialise i) call) (initialised i call)
  initialised_right init.Empty given.Illegal o k = record { held = refl; at = λ h rest. refl }
  initialised_right init.Empty (given.One (Ref r)) o k = record { held = object_alone r [] k.held; at = λ h rest. refl }
  initialised_right init.Empty (given.One a) o k = record { held = refl; at = λ h rest. refl }
  initialised_right init.Empty call o k = cc k.given.count
  initialised_right init.OfText given.Illegal o k = record { held = refl; at = λ h rest. refl }
  initialised_right init.OfText (given.Three (Ref r) (Ref s) t) o k = record {
    held = object_and_third r (Ref s) t k.held;
    at = λ h rest. ap (λ us. go (with_text (H h) (name r) us) rest) (text_of s t h k.readings.0);
  }
  initialised_right init.OfText (given.Three (Ref r) b t) o k = record { held = refl; at = λ h rest. refl }
  initialised_right init.OfText (given.Three a b t) o k = record { held = refl; at = λ h rest. refl }
  initialised_right init.OfText call o k = cc k.given.count
  initialised_right init.OfChars given.Illegal o k = record { held = refl; at = λ h rest. refl }
  initialised_right init.OfChars (given.Three (Ref r) (Ref s) t) o k = record {
    held = object_and_third r (Ref s) t k.held;
    at = λ h rest. ap (λ us. go (with_text (H h) (name r) us) rest) (chars s t h k.readings.0);
  }
  initialised_right init.OfChars (given.Three (Ref r) b t) o k = record { held = refl; at = λ h rest. refl }
  initialised_right init.OfChars (given.Three a b t) o k = record { held = refl; at = λ h rest. refl }
  initialised_right init.OfChars call o k = cc k.given.count
  initialised_right init.OfCapacity given.Illegal o k = record { held = refl; at = λ h rest. refl }
  initialised_right init.OfCapacity (given.Two (Ref r) (Int (pos n))) o k = record { held = object_alone r (Int (pos n) ∷ []) k.held; at = λ h rest. refl }
  initialised_right init.OfCapacity (given.Two (Ref r) (Int (negsuc n))) o k = record { held = refl; at = λ h rest. refl }
  initialised_right init.OfCapacity (given.Two (Ref r) b) o k = record { held = refl; at = λ h rest. refl }
  initialised_right init.OfCapacity (given.Two a b) o k = record { held = refl; at = λ h rest. refl }
  initialised_right init.OfCapacity call o k = cc k.given.count
  initialised_right init.Enum call o k = cc o
  initialised_right init.Throwable call o k = cc o

  -- ---- builders

  -- units behind the text of a builder
  tail_says : (r : ℕ) (t : Slot) (units : List ℕ) (h : Here) (rest : List Value) → value_of sets heap c t ≡ cell_of sets heap c (Ref r) 0 → deed_says sets heap (with_tail heap.texts r t units) c (H h) rest ≡ rewrite (H h) (RefValue (name r) ∷ rest) (name r) (text_of_object (H h) (name r) ++ units)
  tail_says r t units h rest e =
      says_if sets heap c (nat_lt length_bound (length (units_of heap.texts t ++ units))) (raises Memory) (changes_text r t units) (H h) rest
      ∙ ap (λ us. when (nat_lt length_bound (length (us ++ units))) (raise (H h) "java/lang/OutOfMemoryError") (go (with_text (H h) (name r) (us ++ units)) (RefValue (name r) ∷ rest))) (sym (text_there sets heap c p h r t e))

  tail_held : (r : ℕ) (t : Slot) (units : List ℕ) → (is_held sets heap c (Ref r) && is_held sets heap c t) ≡ true → is_deed_held sets heap c (with_tail heap.texts r t units) ≡ true
  tail_held r t units k = held_if sets heap c (nat_lt length_bound (length (units_of heap.texts t ++ units))) (raises Memory) (changes_text r t units) refl k

  appended_says : (r : ℕ) (t : Slot) (o : Option Spelled) (h : Here) (rest : List Value) → value_of sets heap c t ≡ cell_of sets heap c (Ref r) 0 → deed_says sets heap (appended heap.texts r t o) c (H h) rest ≡ if_spelled (H h) (units_by p sets heap c h o) (λ units. rewrite (H h) (RefValue (name r) ∷ rest) (name r) (text_of_object (H h) (name r) ++ units))
  appended_says r t None h rest e = refl
  appended_says r t (Some s) h rest e = tail_says r t (tail_of heap.texts s) h rest e

  appended_held : (r : ℕ) (t : Slot) (o : Option Spelled) → (is_held sets heap c (Ref r) && is_held sets heap c t) ≡ true → is_deed_held sets heap c (appended heap.texts r t o) ≡ true
  appended_held r t None k = refl
  appended_held r t (Some s) k = tail_held r t (tail_of heap.texts s) k

  append_right : (says : Says) (s : Spelling) (r : ℕ) (value t read : Slot) → value_of sets heap c t ≡ cell_of sets heap c (Ref r) 0 → IsChar s value → ((h : Here) → IsReadOf p sets heap c h s value read) → (is_held sets heap c (Ref r) && is_held sets heap c t) ≡ true → ((h : Here) (rest : List Value) → if_spelled (H h) (spelled_by s (H h) (value_of sets heap c value)) (λ units. rewrite (H h) (RefValue (name r) ∷ rest) (name r) (text_of_object (H h) (name r) ++ units)) ≡ says c (H h) rest) → IsRight p sets heap c says (appended heap.texts r t (spelled s value read))
  append_right says s r value t read e b f k same = record {
    held = appended_held r t (spelled s value read) k;
    at = λ h rest.
        appended_says r t (spelled s value read) h rest e
        ∙ ap (λ o. if_spelled (H h) o (λ units. rewrite (H h) (RefValue (name r) ∷ rest) (name r) (text_of_object (H h) (name r) ++ units))) (spelled_there p sets heap c h s value read b (f h))
        ∙ same h rest;
  }

  -- an object and the third of four values
  object_and_next : (r : ℕ) (b t d : Slot) → are_held sets heap c (Ref r ∷ b ∷ t ∷ d ∷ []) ≡ true → (is_held sets heap c (Ref r) && is_held sets heap c t) ≡ true
  object_and_next r b t d h = both (is_held sets heap c (Ref r)) (is_held sets heap c t) (first_held (Ref r) (b ∷ t ∷ d ∷ []) h) (first_held t (d ∷ []) (rest_held b (t ∷ d ∷ []) (rest_held (Ref r) (b ∷ t ∷ d ∷ []) h)))

  pub changed_right : (b : BuilderChange) (call : Call) → IsCallOr sets heap c (Change b) call → IsRight p sets heap c (said sets heap (Change b) call) (changed heap.texts b call)
  changed_right (change.Append spelling.Int) given.Illegal k = record { held = refl; at = λ h rest. refl }
  changed_right (change.Append spelling.Int) (given.Three (Ref r) v t) k = append_right (said sets heap (Change (change.Append spelling.Int)) (given.Three (Ref r) v t)) spelling.Int r v t Top k.readings.0 (char_behind spelling.Int k.given.to (Ref r) v k.given.wants k.given.read) (λ h. refl) (object_and_third r v t k.held) (λ h rest. refl)
  changed_right (change.Append spelling.Int) (given.Three a v t) k = record { held = refl; at = λ h rest. refl }
  changed_right (change.Append spelling.Int) call k = cc k.given.count
  changed_right (change.Append spelling.Long) given.Illegal k = record { held = refl; at = λ h rest. refl }
  changed_right (change.Append spelling.Long) (given.Three (Ref r) v t) k = append_right (said sets heap (Change (change.Append spelling.Long)) (given.Three (Ref r) v t)) spelling.Long r v t Top k.readings.0 (char_behind spelling.Long k.given.to (Ref r) v k.given.wants k.given.read) (λ h. refl) (object_and_third r v t k.held) (λ h rest. refl)
  changed_right (change.Append spelling.Long) (given.Three a v t) k = record { held = refl; at = λ h rest. refl }
  changed_right (change.Append spelling.Long) call k = cc k.given.count
  changed_right (change.Append spelling.Bool) given.Illegal k = record { held = refl; at = λ h rest. refl }
  changed_right (change.Append spelling.Bool) (given.Three (Ref r) v t) k = append_right (said sets heap (Change (change.Append spelling.Bool)) (given.Three (Ref r) v t)) spelling.Bool r v t Top k.readings.0 (char_behind spelling.Bool k.given.to (Ref r) v k.given.wants k.given.read) (λ h. refl) (object_and_third r v t k.held) (λ h rest. refl)
  changed_right (change.Append spelling.Bool) (given.Three a v t) k = record { held = refl; at = λ h rest. refl }
  changed_right (change.Append spelling.Bool) call k = cc k.given.count
  changed_right (change.Append spelling.Char) given.Illegal k = record { held = refl; at = λ h rest. refl }
  changed_right (change.Append spelling.Char) (given.Three (Ref r) v t) k = append_right (said sets heap (Change (change.Append spelling.Char)) (given.Three (Ref r) v t)) spelling.Char r v t Top k.readings.0 (char_behind spelling.Char k.given.to (Ref r) v k.given.wants k.given.read) (λ h. refl) (object_and_third r v t k.held) (λ h rest. refl)
  changed_right (change.Append spelling.Char) (given.Three a v t) k = record { held = refl; at = λ h rest. refl }
  changed_right (change.Append spelling.Char) call k = cc k.given.count
  changed_right (change.Append spelling.Text) given.Illegal k = record { held = refl; at = λ h rest. refl }
  changed_right (change.Append spelling.Text) (given.Four (Ref r) v t d) k = append_right (said sets heap (Change (change.Append spelling.Text)) (given.Four (Ref r) v t d)) spelling.Text r v t d k.readings.0 (char_behind spelling.Text k.given.to (Ref r) v k.given.wants k.given.read) (λ h. k.readings.1.0) (object_and_next r v t d k.held) (λ h rest. refl)
  changed_right (change.Append spelling.Text) (given.Four a v t d) k = record { held = refl; at = λ h rest. refl }
  changed_right (change.Append spelling.Text) call k = cc k.given.count
  changed_right (change.Append spelling.Chars) given.Illegal k = record { held = refl; at = λ h rest. refl }
  changed_right (change.Append spelling.Chars) (given.Four (Ref r) v t d) k = append_right (said sets heap (Change (change.Append spelling.Chars)) (given.Four (Ref r) v t d)) spelling.Chars r v t d k.readings.0 (char_behind spelling.Chars k.given.to (Ref r) v k.given.wants k.given.read) (λ h. k.readings.1.0) (object_and_next r v t d k.held) (λ h rest. refl)
  changed_right (change.Append spelling.Chars) (given.Four a v t d) k = record { held = refl; at = λ h rest. refl }
  changed_right (change.Append spelling.Chars) call k = cc k.given.count
  changed_right change.SetLength given.Illegal k = record { held = refl; at = λ h rest. refl }
  changed_right change.SetLength (given.Three (Ref r) (Int (negsuc n)) t) k = record { held = refl; at = λ h rest. refl }
  changed_right change.SetLength (given.Three (Ref r) (Int (pos n)) t) k =
      let us = units_of heap.texts t in
      let made = sets_text r Top (take n us ++ replicate (n - length us) 0) in
      record {
        held = held_if sets heap c (nat_lt length_bound n) (raises Memory) made refl (object_alone r (Int (pos n) ∷ t ∷ []) k.held);
        at = λ h rest.
            says_if sets heap c (nat_lt length_bound n) (raises Memory) made (H h) rest
            ∙ ap (λ xs. when (nat_lt length_bound n) (raise (H h) "java/lang/OutOfMemoryError") (go (with_text (H h) (name r) (take n xs ++ replicate (n - length xs) 0)) rest)) (sym (text_there sets heap c p h r t k.readings.0));
      }
  changed_right change.SetLength (given.Three (Ref r) b t) k = record { held = refl; at = λ h rest. refl }
  changed_right change.SetLength (given.Three a b t) k = record { held = refl; at = λ h rest. refl }
  changed_right change.SetLength call k = cc k.given.count
  changed_right change.Delete given.Illegal k = record { held = refl; at = λ h rest. refl }
  changed_right change.Delete (given.Three (Ref r) (Int i) t) k =
      let us = units_of heap.texts t in
      let made = changes_text r Top (take (natural i) us ++ drop (suc (natural i)) us) in
      record {
        held = held_if sets heap c (is_within i (length us)) made (raises BadIndex) (object_alone r (Int i ∷ t ∷ []) k.held) refl;
        at = λ h rest.
            says_if sets heap c (is_within i (length us)) made (raises BadIndex) (H h) rest
            ∙ ap (λ xs. when (is_within i (length xs)) (go (with_text (H h) (name r) (take (natural i) xs ++ drop (suc (natural i)) xs)) (RefValue (name r) ∷ rest)) (raise (H h) "java/lang/StringIndexOutOfBoundsException")) (sym (text_there sets heap c p h r t k.readings.0));
      }
  changed_right change.Delete (given.Three (Ref r) b t) k = record { held = refl; at = λ h rest. refl }
  changed_right change.Delete (given.Three a b t) k = record { held = refl; at = λ h rest. refl }
  changed_right change.Delete call k = cc k.given.count
  changed_right change.Reverse given.Illegal k = record { held = refl; at = λ h rest. refl }
  changed_right change.Reverse (given.Two (Ref r) t) k = record {
    held = object_alone r (t ∷ []) k.held;
    at = λ h rest. ap (λ xs. go (with_text (H h) (name r) (reversed_onto [] xs)) (RefValue (name r) ∷ rest)) (sym (text_there sets heap c p h r t k.readings.0));
  }
  changed_right change.Reverse (given.Two a t) k = record { held = refl; at = λ h rest. refl }
  changed_right change.Reverse call k = cc k.given.count
