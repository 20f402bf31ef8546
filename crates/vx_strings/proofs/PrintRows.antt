-- What is written is what the ordinary machine writes.
use Rattle.std.proofs.Common.{◌≡◌, ℕ, Bool, true, List, [], ◌∷◌, ◌++◌, append_assoc, refl, ◌∙◌, ap, pos, suc, zero}
use Rattle.std.specs.Prelude.{None, Option, Some, negsuc}
use Rattle.vx_group_states.proofs.StateLaws.{both_first, both_second}
use Rattle.vx_heap.specs.Heap.{HeapView, are_held, globals_at, is_held, name_at, value_of}
use Rattle.vx_java.specs.Machine.{Here, Value, Write, cell_at, past}
use Rattle.vx_java.specs.Texts.{if_spelled, stream_of_cell, write_units}
use Rattle.vx_link.specs.declared.program.Program.{Program}
use Rattle.vx_natives.specs.Behaviours.{spelled_by}
use Rattle.vx_natives.specs.Cells.{cell_of}
use Rattle.vx_natives.specs.Deeds.{IsRight, deed_says, is_deed_held, text_with}
use Rattle.vx_natives.specs.Doing.{Says, over}
use Rattle.vx_natives.specs.Readings.{IsCallOr, said}
use Rattle.vx_natives.specs.declared.behaviour.Behaviour.TheVariants.{Print}
use Rattle.vx_natives.specs.declared.behaviour.Printing.{Printing}
use Rattle.vx_natives.specs.declared.behaviour.Printing.TheVariants as printing
use Rattle.vx_natives.specs.declared.behaviour.Spelling.{Spelling}
use Rattle.vx_natives.specs.declared.behaviour.Spelling.TheVariants as spelling
use Rattle.vx_natives.specs.declared.call.Call.{Call}
use Rattle.vx_natives.specs.declared.call.Call.TheVariants as given
use Rattle.vx_space.specs.Sets.{Sets}
use Rattle.vx_value.specs.declared.slot.Slot.{Slot}
use Rattle.vx_value.specs.declared.slot.Slot.TheVariants.{Int, Long, Null, Ref, Text, Top}
use Rattle.vx_strings.proofs.SpelledRows.{IsChar, IsReadOf, char_behind, spelled_there, start_held, units_by}
use Rattle.vx_strings.specs.Printed.{printed, stream_of, written}
use Rattle.vx_strings.specs.Spelled.{Spelled, spelled}

module _ {S I : Type 0} (p : Program) (sets : Sets I) (heap : HeapView S I) (c : List Bool) where
  abbrev H : Here → Here
  H h = over p h (globals_at sets heap c)

  abbrev name : ℕ → ℕ
  name r = name_at sets heap.objects c r

  stream_there : (slot : Slot) → stream_of slot ≡ stream_of_cell (value_of sets heap c slot)
  stream_there Top = refl
  stream_there (Int (pos zero)) = refl
  stream_there (Int (pos (suc n))) = refl
  stream_there (Int (negsuc n)) = refl
  stream_there (Long n) = refl
  stream_there Null = refl
  stream_there (Ref r) = refl
  stream_there (Text n) = refl

  -- the stream of a receiver, by its first cell
  stream_is : (r : ℕ) (stream : Slot) (h : Here) → value_of sets heap c stream ≡ cell_of sets heap c (Ref r) 0 → stream_of stream ≡ stream_of_cell (cell_at (H h).state (name r) 0)
  stream_is r stream h e = stream_there stream ∙ ap stream_of_cell e

  -- a text with an end
  written_says : (r : ℕ) (stream : Slot) (end : List ℕ) (o : Option Spelled) (h : Here) (rest : List Value) → value_of sets heap c stream ≡ cell_of sets heap c (Ref r) 0 → deed_says sets heap (written stream end o) c (H h) rest ≡ if_spelled (H h) (units_by p sets heap c h o) (λ units. write_units (H h) rest (name r) (units ++ end))
  written_says r stream end None h rest e = refl
  written_says r stream end (Some s) h rest e =
      let there = stream_is r stream h e in
      let whole : text_with heap.texts s.start (s.units ++ end) ≡ text_with heap.texts s.start s.units ++ end = rw append_assoc refl in
      λ i. Write (there i) (whole i) (past (H h) (H h).state rest)

  written_held : (stream : Slot) (end : List ℕ) (o : Option Spelled) → ((s : Spelled) → o ≡ Some s → is_held sets heap c s.start ≡ true) → is_deed_held sets heap c (written stream end o) ≡ true
  written_held stream end None f = refl
  written_held stream end (Some s) f = f s refl

  -- a value, with what was read of it, and an end
  value_row : (s : Spelling) (r : ℕ) (value stream read : Slot) (end : List ℕ) (h : Here) (rest : List Value) → value_of sets heap c stream ≡ cell_of sets heap c (Ref r) 0 → IsChar s value → IsReadOf p sets heap c h s value read → deed_says sets heap (written stream end (spelled s value read)) c (H h) rest ≡ if_spelled (H h) (spelled_by s (H h) (value_of sets heap c value)) (λ units. write_units (H h) rest (name r) (units ++ end))
  value_row s r value stream read end h rest e b f =
      written_says r stream end (spelled s value read) h rest e
      ∙ ap (λ o. if_spelled (H h) o (λ units. write_units (H h) rest (name r) (units ++ end))) (spelled_there p sets heap c h s value read b f)

  -- the last of the values behind a receiver
  last_held : (a b d e : Slot) → are_held sets heap c (a ∷ b ∷ d ∷ e ∷ []) ≡ true → is_held sets heap c e ≡ true
  last_held a b d e t = both_first (is_held sets heap c e) true (both_second (is_held sets heap c d) (are_held sets heap c (e ∷ [])) (both_second (is_held sets heap c b) (are_held sets heap c (d ∷ e ∷ [])) (both_second (is_held sets heap c a) (are_held sets heap c (b ∷ d ∷ e ∷ [])) t)))

  right_of : (says : Says) (s : Spelling) (r : ℕ) (value stream read : Slot) (end : List ℕ) → value_of sets heap c stream ≡ cell_of sets heap c (Ref r) 0 → IsChar s value → ((h : Here) → IsReadOf p sets heap c h s value read) → is_held sets heap c read ≡ true → ((h : Here) (rest : List Value) → if_spelled (H h) (spelled_by s (H h) (value_of sets heap c value)) (λ units. write_units (H h) rest (name r) (units ++ end)) ≡ says c (H h) rest) → IsRight p sets heap c says (written stream end (spelled s value read))
  right_of says s r value stream read end e b f t same = record {
    held = written_held stream end (spelled s value read) (λ x is. start_held sets heap c s value read x t is);
    at = λ h rest. value_row s r value stream read end h rest e b (f h) ∙ same h rest;
  }

  -- ---- calls

  pub printed_right : (b : Printing) (call : Call) → IsCallOr sets heap c (Print b) call → IsRight p sets heap c (said sets heap (Print b) call) (printed b call)
  printed_right (printing.Value spelling.Int) given.Illegal k = record { held = refl; at = λ h rest. refl }
  printed_right (printing.Value spelling.Int) (given.Three (Ref r) v x) k = right_of (said sets heap (Print (printing.Value spelling.Int)) (given.Three (Ref r) v x)) spelling.Int r v x Top [] k.readings.0 (char_behind spelling.Int k.given.to (Ref r) v k.given.wants k.given.read) (λ h. refl) refl (λ h rest. refl)
  printed_right (printing.Value spelling.Int) (given.Three a v x) k = record { held = refl; at = λ h rest. refl }
  printed_right (printing.Value spelling.Int) call k = cc k.given.count
  printed_right (printing.Value spelling.Long) given.Illegal k = record { held = refl; at = λ h rest. refl }
  printed_right (printing.Value spelling.Long) (given.Three (Ref r) v x) k = right_of (said sets heap (Print (printing.Value spelling.Long)) (given.Three (Ref r) v x)) spelling.Long r v x Top [] k.readings.0 (char_behind spelling.Long k.given.to (Ref r) v k.given.wants k.given.read) (λ h. refl) refl (λ h rest. refl)
  printed_right (printing.Value spelling.Long) (given.Three a v x) k = record { held = refl; at = λ h rest. refl }
  printed_right (printing.Value spelling.Long) call k = cc k.given.count
  printed_right (printing.Value spelling.Bool) given.Illegal k = record { held = refl; at = λ h rest. refl }
  printed_right (printing.Value spelling.Bool) (given.Three (Ref r) v x) k = right_of (said sets heap (Print (printing.Value spelling.Bool)) (given.Three (Ref r) v x)) spelling.Bool r v x Top [] k.readings.0 (char_behind spelling.Bool k.given.to (Ref r) v k.given.wants k.given.read) (λ h. refl) refl (λ h rest. refl)
  printed_right (printing.Value spelling.Bool) (given.Three a v x) k = record { held = refl; at = λ h rest. refl }
  printed_right (printing.Value spelling.Bool) call k = cc k.given.count
  printed_right (printing.Value spelling.Char) given.Illegal k = record { held = refl; at = λ h rest. refl }
  printed_right (printing.Value spelling.Char) (given.Three (Ref r) v x) k = right_of (said sets heap (Print (printing.Value spelling.Char)) (given.Three (Ref r) v x)) spelling.Char r v x Top [] k.readings.0 (char_behind spelling.Char k.given.to (Ref r) v k.given.wants k.given.read) (λ h. refl) refl (λ h rest. refl)
  printed_right (printing.Value spelling.Char) (given.Three a v x) k = record { held = refl; at = λ h rest. refl }
  printed_right (printing.Value spelling.Char) call k = cc k.given.count
  printed_right (printing.Value spelling.Text) given.Illegal k = record { held = refl; at = λ h rest. refl }
  printed_right (printing.Value spelling.Text) (given.Four (Ref r) v x y) k = right_of (said sets heap (Print (printing.Value spelling.Text)) (given.Four (Ref r) v x y)) spelling.Text r v x y [] k.readings.0 (char_behind spelling.Text k.given.to (Ref r) v k.given.wants k.given.read) (λ h. k.readings.1.0) (last_held (Ref r) v x y k.held) (λ h rest. refl)
  printed_right (printing.Value spelling.Text) (given.Four a v x y) k = record { held = refl; at = λ h rest. refl }
  printed_right (printing.Value spelling.Text) call k = cc k.given.count
  printed_right (printing.Value spelling.Chars) given.Illegal k = record { held = refl; at = λ h rest. refl }
  printed_right (printing.Value spelling.Chars) (given.Four (Ref r) v x y) k = right_of (said sets heap (Print (printing.Value spelling.Chars)) (given.Four (Ref r) v x y)) spelling.Chars r v x y [] k.readings.0 (char_behind spelling.Chars k.given.to (Ref r) v k.given.wants k.given.read) (λ h. k.readings.1.0) (last_held (Ref r) v x y k.held) (λ h rest. refl)
  printed_right (printing.Value spelling.Chars) (given.Four a v x y) k = record { held = refl; at = λ h rest. refl }
  printed_right (printing.Value spelling.Chars) call k = cc k.given.count
  printed_right (printing.Line spelling.Int) given.Illegal k = record { held = refl; at = λ h rest. refl }
  printed_right (printing.Line spelling.Int) (given.Three (Ref r) v x) k = right_of (said sets heap (Print (printing.Line spelling.Int)) (given.Three (Ref r) v x)) spelling.Int r v x Top (10 ∷ []) k.readings.0 (char_behind spelling.Int k.given.to (Ref r) v k.given.wants k.given.read) (λ h. refl) refl (λ h rest. refl)
  printed_right (printing.Line spelling.Int) (given.Three a v x) k = record { held = refl; at = λ h rest. refl }
  printed_right (printing.Line spelling.Int) call k = cc k.given.count
  printed_right (printing.Line spelling.Long) given.Illegal k = record { held = refl; at = λ h rest. refl }
  printed_right (printing.Line spelling.Long) (given.Three (Ref r) v x) k = right_of (said sets heap (Print (printing.Line spelling.Long)) (given.Three (Ref r) v x)) spelling.Long r v x Top (10 ∷ []) k.readings.0 (char_behind spelling.Long k.given.to (Ref r) v k.given.wants k.given.read) (λ h. refl) refl (λ h rest. refl)
  printed_right (printing.Line spelling.Long) (given.Three a v x) k = record { held = refl; at = λ h rest. refl }
  printed_right (printing.Line spelling.Long) call k = cc k.given.count
  printed_right (printing.Line spelling.Bool) given.Illegal k = record { held = refl; at = λ h rest. refl }
  printed_right (printing.Line spelling.Bool) (given.Three (Ref r) v x) k = right_of (said sets heap (Print (printing.Line spelling.Bool)) (given.Three (Ref r) v x)) spelling.Bool r v x Top (10 ∷ []) k.readings.0 (char_behind spelling.Bool k.given.to (Ref r) v k.given.wants k.given.read) (λ h. refl) refl (λ h rest. refl)
  printed_right (printing.Line spelling.Bool) (given.Three a v x) k = record { held = refl; at = λ h rest. refl }
  printed_right (printing.Line spelling.Bool) call k = cc k.given.count
  printed_right (printing.Line spelling.Char) given.Illegal k = record { held = refl; at = λ h rest. refl }
  printed_right (printing.Line spelling.Char) (given.Three (Ref r) v x) k = right_of (said sets heap (Print (printing.Line spelling.Char)) (given.Three (Ref r) v x)) spelling.Char r v x Top (10 ∷ []) k.readings.0 (char_behind spelling.Char k.given.to (Ref r) v k.given.wants k.given.read) (λ h. refl) refl (λ h rest. refl)
  printed_right (printing.Line spelling.Char) (given.Three a v x) k = record { held = refl; at = λ h rest. refl }
  printed_right (printing.Line spelling.Char) call k = cc k.given.count
  printed_right (printing.Line spelling.Text) given.Illegal k = record { held = refl; at = λ h rest. refl }
  printed_right (printing.Line spelling.Text) (given.Four (Ref r) v x y) k = right_of (said sets heap (Print (printing.Line spelling.Text)) (given.Four (Ref r) v x y)) spelling.Text r v x y (10 ∷ []) k.readings.0 (char_behind spelling.Text k.given.to (Ref r) v k.given.wants k.given.read) (λ h. k.readings.1.0) (last_held (Ref r) v x y k.held) (λ h rest. refl)
  printed_right (printing.Line spelling.Text) (given.Four a v x y) k = record { held = refl; at = λ h rest. refl }
  printed_right (printing.Line spelling.Text) call k = cc k.given.count
  printed_right (printing.Line spelling.Chars) given.Illegal k = record { held = refl; at = λ h rest. refl }
  printed_right (printing.Line spelling.Chars) (given.Four (Ref r) v x y) k = right_of (said sets heap (Print (printing.Line spelling.Chars)) (given.Four (Ref r) v x y)) spelling.Chars r v x y (10 ∷ []) k.readings.0 (char_behind spelling.Chars k.given.to (Ref r) v k.given.wants k.given.read) (λ h. k.readings.1.0) (last_held (Ref r) v x y k.held) (λ h rest. refl)
  printed_right (printing.Line spelling.Chars) (given.Four a v x y) k = record { held = refl; at = λ h rest. refl }
  printed_right (printing.Line spelling.Chars) call k = cc k.given.count
  printed_right printing.LineEnd given.Illegal k = record { held = refl; at = λ h rest. refl }
  printed_right printing.LineEnd (given.Two (Ref r) x) k = record { held = refl; at = λ h rest. ap (λ w. Write w (10 ∷ []) (past (H h) (H h).state rest)) (stream_is r x h k.readings.0) }
  printed_right printing.LineEnd (given.Two a x) k = record { held = refl; at = λ h rest. refl }
  printed_right printing.LineEnd call k = cc k.given.count
