-- What effects of native methods are compared with: texts of cells, and choices.
use Rattle.std.proofs.Common.{◌≡◌, ℕ, Bool, true, false, List, refl, sym, ◌∙◌, ap, if◌then◌else◌}
use Rattle.vx_heap.specs.Heap.{HeapView, globals_at, name_at, value_of}
use Rattle.vx_java.specs.Machine.{Here, Value, when}
use Rattle.vx_java.specs.Texts.{text_of_object}
use Rattle.vx_java.specs.Texts.{units_in as units_in_value}
use Rattle.vx_link.specs.declared.program.Program.{Program}
use Rattle.vx_space.specs.Sets.{Sets}
use Rattle.vx_value.specs.declared.slot.Slot.{Slot}
use Rattle.vx_value.specs.declared.slot.Slot.TheVariants.{Int, Long, Null, Ref, Text, Top}
use Rattle.vx_natives.specs.Cells.{cell_of}
use Rattle.vx_natives.specs.Deeds.{Deed, deed_says, is_deed_held}
use Rattle.vx_natives.specs.Doing.{over}
use Rattle.vx_natives.specs.Texts.{units_of}

module _ {S I : Type 0} (sets : Sets I) (heap : HeapView S I) (c : List Bool) where
  -- the units of a slot's plain value
  pub units_there : (slot : Slot) → units_in_value (value_of sets heap c slot) ≡ units_of heap.texts slot
  units_there Top = refl
  units_there (Int n) = refl
  units_there (Long n) = refl
  units_there Null = refl
  units_there (Ref r) = refl
  units_there (Text n) = refl

  -- the text of an object, by its first cell
  pub text_there : (p : Program) (h : Here) (r : ℕ) (read : Slot) → value_of sets heap c read ≡ cell_of sets heap c (Ref r) 0 → text_of_object (over p h (globals_at sets heap c)) (name_at sets heap.objects c r) ≡ units_of heap.texts read
  text_there p h r read e = ap units_in_value (sym e) ∙ units_there read

  -- one of two effects
  pub says_if : (b : Bool) (d e : Deed) (h : Here) (rest : List Value) → deed_says sets heap (if b then d else e) c h rest ≡ when b (deed_says sets heap d c h rest) (deed_says sets heap e c h rest)
  says_if true d e h rest = refl
  says_if false d e h rest = refl

  pub held_if : (b : Bool) (d e : Deed) → is_deed_held sets heap c d ≡ true → is_deed_held sets heap c e ≡ true → is_deed_held sets heap c (if b then d else e) ≡ true
  held_if true d e t u = t
  held_if false d e t u = u

  -- the first where a test holds
  pub held_where : (b : Bool) (d e : Deed) → (b ≡ true → is_deed_held sets heap c d ≡ true) → is_deed_held sets heap c e ≡ true → is_deed_held sets heap c (if b then d else e) ≡ true
  held_where true d e t u = t refl
  held_where false d e t u = u
