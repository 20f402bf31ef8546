-- Methods that have a number, and what a native method of it does.
use Rattle.std.proofs.Common.{◌≡◌, ℕ, zero, suc, Bool, true, false, List, [], ◌∷◌, refl, sym, ◌∙◌, length}
use Rattle.std.specs.List.{list_all}
use Rattle.vx_families.specs.Bounds.{IsBounded}
use Rattle.vx_group_states.proofs.StateLaws.{both_first, both_second}
use Rattle.vx_java.specs.NativeForms.{has_form}
use Rattle.vx_java.specs.Natives.{native_of}
use Rattle.vx_link.specs.Parts.{method_at, no_method}
use Rattle.vx_link.specs.declared.program.LinkedMethod.{LinkedMethod}
use Rattle.vx_link.specs.declared.program.Program.{Program}
use Rattle.vx_list.specs.Places.{item_or}
use Rattle.vx_natives.specs.Behaviours.{is_known, meaning}
use Rattle.vx_natives.specs.Forms.{HasBehaviour, is_numbered, reads_at}
use Rattle.vx_natives.specs.Takes.{takes, wants_read}
use Rattle.vx_natives.specs.declared.behaviour.Behaviour.{Behaviour}
use Rattle.vx_natives.specs.declared.behaviour.Behaviour.TheVariants as behaviour

-- a method of a program has the form of its number
has_its_form : (methods : List LinkedMethod) (m : ℕ) → list_all has_form methods ≡ true → has_form (item_or methods m no_method) ≡ true
has_its_form [] m h = refl
has_its_form (x ∷ methods) zero h = both_first (has_form x) (list_all has_form methods) h
has_its_form (x ∷ methods) (suc m) h = has_its_form methods m (both_second (has_form x) (list_all has_form methods) h)

known_unless : (b : Behaviour) → (b ≡ behaviour.Missing → ⊥) → is_known b ≡ true
known_unless behaviour.Missing n = absurd (n refl)
known_unless (behaviour.Compute c) n = refl
known_unless (behaviour.AskCells q) n = refl
known_unless (behaviour.AskTexts q) n = refl
known_unless (behaviour.Initialise i) n = refl
known_unless (behaviour.Change b) n = refl
known_unless (behaviour.Make m) n = refl
known_unless (behaviour.Print p) n = refl
known_unless behaviour.CopyArray n = refl

-- what a native method of its number does
pub behaves : (p : Program) (m : ℕ) (b : Behaviour) → IsBounded p → (b ≡ behaviour.Missing → ⊥) → meaning b ≡ native_of (method_at p m).native → takes b (length (reads_at (method_at p m).native)) ≡ true → wants_read b (reads_at (method_at p m).native) ≡ true → is_known b ≡ is_numbered (method_at p m).native → HasBehaviour p m b
behaves p m b bounded n row count reads known = record {
  numbered = sym known ∙ known_unless b n;
  form = has_its_form p.methods m bounded.natives;
  row = row;
  count = count;
  reads = reads;
}
