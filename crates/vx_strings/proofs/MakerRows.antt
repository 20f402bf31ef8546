-- New strings and arrays of chars are those of the ordinary machine.
use Rattle.std.proofs.Common.{◌≡◌, ℕ, ℤ, Bool, true, List, [], ◌∷◌, ◌++◌, refl, sym, ◌∙◌, ap, drop, length, pos, take}
use Rattle.std.proofs.lemmas.List.{append-nil}
use Rattle.std.specs.Prelude.{None, Option, Some, nat_le, nat_lt, negsuc, ◌&&◌, ◌-◌}
use Rattle.vx_group_states.proofs.StateLaws.{both_first, both_second}
use Rattle.vx_heap.specs.Heap.{HeapView, are_held, globals_at, is_held, name_at, value_of}
use Rattle.vx_java.specs.Machine.{Here, Value, length_bound, push_new, raise, when}
use Rattle.vx_java.specs.Texts.{answer_text, char_array, if_spelled, part}
use Rattle.vx_link.specs.declared.program.Program.{Program}
use Rattle.vx_natives.proofs.Rights.{held_if, says_if, text_there}
use Rattle.vx_natives.specs.Behaviours.{spelled_by}
use Rattle.vx_natives.specs.Deeds.{IsRight, deed_says, gives_text, is_deed_held, raises, text_with}
use Rattle.vx_natives.specs.Doing.{Says, over}
use Rattle.vx_natives.specs.Readings.{IsCallOr, said}
use Rattle.vx_natives.specs.Texts.{units_of}
use Rattle.vx_natives.specs.declared.behaviour.Behaviour.TheVariants.{Make}
use Rattle.vx_natives.specs.declared.behaviour.Maker.{Maker}
use Rattle.vx_natives.specs.declared.behaviour.Maker.TheVariants as maker
use Rattle.vx_natives.specs.declared.behaviour.Spelling.{Spelling}
use Rattle.vx_natives.specs.declared.behaviour.Spelling.TheVariants as spelling
use Rattle.vx_natives.specs.declared.call.Call.{Call}
use Rattle.vx_natives.specs.declared.call.Call.TheVariants as given
use Rattle.vx_natives.specs.declared.effect.Exception.TheVariants.{BadIndex, Memory}
use Rattle.vx_space.specs.Sets.{Sets}
use Rattle.vx_value.specs.declared.slot.Slot.{Slot}
use Rattle.vx_value.specs.declared.slot.Slot.TheVariants.{Int, Ref, Top}
use Rattle.vx_strings.proofs.SpelledRows.{IsChar, IsReadOf, char_alone, spelled_there, start_held, units_by}
use Rattle.vx_strings.specs.Changes.{is_text_maker, made, part_of, text_made}
use Rattle.vx_strings.specs.Lengths.{gives_short}
use Rattle.vx_strings.specs.Spelled.{Spelled, of_slot, of_units, spelled}

module _ {S I : Type 0} (p : Program) (sets : Sets I) (heap : HeapView S I) (c : List Bool) where
  abbrev H : Here → Here
  H h = over p h (globals_at sets heap c)

  abbrev name : ℕ → ℕ
  name r = name_at sets heap.objects c r

  -- a text that may be too long
  pub short_says : (s : Spelled) (h : Here) (rest : List Value) → deed_says sets heap (gives_short heap.texts s) c (H h) rest ≡ answer_text (H h) rest (text_with heap.texts s.start s.units)
  short_says s h rest = says_if sets heap c (nat_lt length_bound (length (text_with heap.texts s.start s.units))) (raises Memory) (gives_text s.start s.units) (H h) rest

  pub short_held : (s : Spelled) → is_held sets heap c s.start ≡ true → is_deed_held sets heap c (gives_short heap.texts s) ≡ true
  short_held s t = held_if sets heap c (nat_lt length_bound (length (text_with heap.texts s.start s.units))) (raises Memory) (gives_text s.start s.units) refl t

  -- a part of a text
  part_says : (units : List ℕ) (begin end : ℤ) (h : Here) (rest : List Value) → deed_says sets heap (part_of heap.texts units begin end) c (H h) rest ≡ part (H h) rest units begin end
  part_says units (pos begin) (pos end) h rest =
      let s = of_units (take (end - begin) (drop begin units)) in
      let fits = nat_le begin end && nat_le end (length units) in
      says_if sets heap c fits (gives_short heap.texts s) (raises BadIndex) (H h) rest
      ∙ ap (λ o. when fits o (raise (H h) "java/lang/StringIndexOutOfBoundsException")) (short_says s h rest)
  part_says units (pos begin) (negsuc end) h rest = refl
  part_says units (negsuc begin) (pos end) h rest = refl
  part_says units (negsuc begin) (negsuc end) h rest = refl

  part_held : (units : List ℕ) (begin end : ℤ) → is_deed_held sets heap c (part_of heap.texts units begin end) ≡ true
  part_held units (pos begin) (pos end) =
      let s = of_units (take (end - begin) (drop begin units)) in
      held_if sets heap c (nat_le begin end && nat_le end (length units)) (gives_short heap.texts s) (raises BadIndex) (short_held s refl) refl
  part_held units (pos begin) (negsuc end) = refl
  part_held units (negsuc begin) (pos end) = refl
  part_held units (negsuc begin) (negsuc end) = refl

  -- a text that is spelled
  text_says : (o : Option Spelled) (h : Here) (rest : List Value) → deed_says sets heap (text_made heap.texts o) c (H h) rest ≡ if_spelled (H h) (units_by p sets heap c h o) (answer_text (H h) rest)
  text_says None h rest = refl
  text_says (Some s) h rest = short_says s h rest

  text_held : (o : Option Spelled) → ((s : Spelled) → o ≡ Some s → is_held sets heap c s.start ≡ true) → is_deed_held sets heap c (text_made heap.texts o) ≡ true
  text_held None f = refl
  text_held (Some s) f = short_held s (f s refl)

  value_right : (says : Says) (s : Spelling) (value read : Slot) → IsChar s value → ((h : Here) → IsReadOf p sets heap c h s value read) → is_held sets heap c read ≡ true → ((h : Here) (rest : List Value) → if_spelled (H h) (spelled_by s (H h) (value_of sets heap c value)) (answer_text (H h) rest) ≡ says c (H h) rest) → IsRight p sets heap c says (text_made heap.texts (spelled s value read))
  value_right says s value read b f t same = record {
    held = text_held (spelled s value read) (λ x is. start_held sets heap c s value read x t is);
    at = λ h rest.
        text_says (spelled s value read) h rest
        ∙ ap (λ o. if_spelled (H h) o (answer_text (H h) rest)) (spelled_there p sets heap c h s value read b (f h))
        ∙ same h rest;
  }

  second_held : (a b : Slot) (rest : List Slot) → are_held sets heap c (a ∷ b ∷ rest) ≡ true → is_held sets heap c b ≡ true
  second_held a b rest t = both_first (is_held sets heap c b) (are_held sets heap c rest) (both_second (is_held sets heap c a) (are_held sets heap c (b ∷ rest)) t)

  third_held : (a b d : Slot) (rest : List Slot) → are_held sets heap c (a ∷ b ∷ d ∷ rest) ≡ true → is_held sets heap c d ≡ true
  third_held a b d rest t = second_held b d rest (both_second (is_held sets heap c a) (are_held sets heap c (b ∷ d ∷ rest)) t)

  pub made_right : (m : Maker) (call : Call) → is_text_maker m ≡ true → IsCallOr sets heap c (Make m) call → IsRight p sets heap c (said sets heap (Make m) call) (made heap.texts m call)
  made_right maker.Concat given.Illegal o k = record { held = refl; at = λ h rest. refl }
  made_right maker.Concat (given.Four (Ref r) (Ref s) t u) o k = record {
    held = short_held (record { start = t; units = units_of heap.texts u }) (third_held (Ref r) (Ref s) t (u ∷ []) k.held);
    at = λ h rest.
        short_says (record { start = t; units = units_of heap.texts u }) h rest
        ∙ (
        let first = text_there sets heap c p h r t k.readings.0 in
        let second = text_there sets heap c p h s u k.readings.1.0 in
        λ i. answer_text (H h) rest (sym first i ++ sym second i));
  }
  made_right maker.Concat (given.Four (Ref r) b t u) o k = record { held = refl; at = λ h rest. refl }
  made_right maker.Concat (given.Four a b t u) o k = record { held = refl; at = λ h rest. refl }
  made_right maker.Concat call o k = cc k.given.count
  made_right maker.Substring given.Illegal o k = record { held = refl; at = λ h rest. refl }
  made_right maker.Substring (given.Three (Ref r) (Int begin) t) o k = record {
    held = part_held (units_of heap.texts t) begin (pos (length (units_of heap.texts t)));
    at = λ h rest.
        part_says (units_of heap.texts t) begin (pos (length (units_of heap.texts t))) h rest
        ∙ ap (λ us. part (H h) rest us begin (pos (length us))) (sym (text_there sets heap c p h r t k.readings.0));
  }
  made_right maker.Substring (given.Three (Ref r) b t) o k = record { held = refl; at = λ h rest. refl }
  made_right maker.Substring (given.Three a b t) o k = record { held = refl; at = λ h rest. refl }
  made_right maker.Substring (given.Four (Ref r) (Int begin) (Int end) t) o k = record {
    held = part_held (units_of heap.texts t) begin end;
    at = λ h rest.
        part_says (units_of heap.texts t) begin end h rest
        ∙ ap (λ us. part (H h) rest us begin end) (sym (text_there sets heap c p h r t k.readings.0));
  }
  made_right maker.Substring (given.Four (Ref r) (Int begin) d t) o k = record { held = refl; at = λ h rest. refl }
  made_right maker.Substring (given.Four (Ref r) b d t) o k = record { held = refl; at = λ h rest. refl }
  made_right maker.Substring (given.Four a b d t) o k = record { held = refl; at = λ h rest. refl }
  made_right maker.Substring call o k = cc k.given.count
  made_right maker.ToChars given.Illegal o k = record { held = refl; at = λ h rest. refl }
  made_right maker.ToChars (given.Two (Ref r) t) o k = record {
    held = refl;
    at = λ h rest. ap (λ us. push_new (H h) (char_array (H h) us) rest) (sym (text_there sets heap c p h r t k.readings.0));
  }
  made_right maker.ToChars (given.Two a t) o k = record { held = refl; at = λ h rest. refl }
  made_right maker.ToChars call o k = cc k.given.count
  made_right maker.ToText given.Illegal o k = record { held = refl; at = λ h rest. refl }
  made_right maker.ToText (given.Two (Ref r) t) o k = record {
    held = short_held (of_slot t) (second_held (Ref r) t [] k.held);
    at = λ h rest.
        short_says (of_slot t) h rest
        ∙ ap (answer_text (H h) rest) (append-nil (units_of heap.texts t) ∙ sym (text_there sets heap c p h r t k.readings.0));
  }
  made_right maker.ToText (given.Two a t) o k = record { held = refl; at = λ h rest. refl }
  made_right maker.ToText call o k = cc k.given.count
  made_right (maker.TextOf spelling.Int) given.Illegal o k = record { held = refl; at = λ h rest. refl }
  made_right (maker.TextOf spelling.Int) (given.One v) o k = value_right (said sets heap (Make (maker.TextOf spelling.Int)) (given.One v)) spelling.Int v Top (char_alone spelling.Int k.given.to v k.given.wants k.given.read) (λ h. refl) refl (λ h rest. refl)
  made_right (maker.TextOf spelling.Int) call o k = cc k.given.count
  made_right (maker.TextOf spelling.Long) given.Illegal o k = record { held = refl; at = λ h rest. refl }
  made_right (maker.TextOf spelling.Long) (given.One v) o k = value_right (said sets heap (Make (maker.TextOf spelling.Long)) (given.One v)) spelling.Long v Top (char_alone spelling.Long k.given.to v k.given.wants k.given.read) (λ h. refl) refl (λ h rest. refl)
  made_right (maker.TextOf spelling.Long) call o k = cc k.given.count
  made_right (maker.TextOf spelling.Bool) given.Illegal o k = record { held = refl; at = λ h rest. refl }
  made_right (maker.TextOf spelling.Bool) (given.One v) o k = value_right (said sets heap (Make (maker.TextOf spelling.Bool)) (given.One v)) spelling.Bool v Top (char_alone spelling.Bool k.given.to v k.given.wants k.given.read) (λ h. refl) refl (λ h rest. refl)
  made_right (maker.TextOf spelling.Bool) call o k = cc k.given.count
  made_right (maker.TextOf spelling.Char) given.Illegal o k = record { held = refl; at = λ h rest. refl }
  made_right (maker.TextOf spelling.Char) (given.One v) o k = value_right (said sets heap (Make (maker.TextOf spelling.Char)) (given.One v)) spelling.Char v Top (char_alone spelling.Char k.given.to v k.given.wants k.given.read) (λ h. refl) refl (λ h rest. refl)
  made_right (maker.TextOf spelling.Char) call o k = cc k.given.count
  made_right (maker.TextOf spelling.Text) given.Illegal o k = record { held = refl; at = λ h rest. refl }
  made_right (maker.TextOf spelling.Text) (given.Two v d) o k = value_right (said sets heap (Make (maker.TextOf spelling.Text)) (given.Two v d)) spelling.Text v d (char_alone spelling.Text k.given.to v k.given.wants k.given.read) (λ h. k.readings.0) (second_held v d [] k.held) (λ h rest. refl)
  made_right (maker.TextOf spelling.Text) call o k = cc k.given.count
  made_right (maker.TextOf spelling.Chars) given.Illegal o k = record { held = refl; at = λ h rest. refl }
  made_right (maker.TextOf spelling.Chars) (given.Two v d) o k = value_right (said sets heap (Make (maker.TextOf spelling.Chars)) (given.Two v d)) spelling.Chars v d (char_alone spelling.Chars k.given.to v k.given.wants k.given.read) (λ h. k.readings.0) (second_held v d [] k.held) (λ h rest. refl)
  made_right (maker.TextOf spelling.Chars) call o k = cc k.given.count
  made_right _ call o k = cc o
