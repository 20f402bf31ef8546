-- The native methods of Enum, whose cells are a name and a number, and of Throwable, whose cells are a message and a cause.
use Rattle.std.proofs.Common.{List, None, Some, [], false, refl, subst, true, ℕ, ℤ, ◌∷◌, ◌≡◌}
use Prim.Native.String.{String}
use Rattle.vx_java.specs.Library.{add_suppressed, enum_compare, enum_init, first_cell, second_cell, throwable_class_name, throwable_init, with_message_and_cause}
use Rattle.vx_java.specs.Machine.{Here, Int, Null, Ref, Value, cell_at, go}
use Rattle.vx_java.specs.Texts.{same_object}
use Rattle.vx_link.specs.ClassNames.{core_class}
use Rattle.vx_sound.proofs.Assigned.{core_there, is_named}
use Rattle.vx_sound.proofs.Sites.{AtSite, Typed}
use Rattle.vx_sound.specs.Sound.{IsCoreCell, named_classes}
use Rattle.vx_sound.specs.Typed.{Typings}
use Rattle.vx_sound.specs.Values.{type_of_value}
use Rattle.vx_sound_natives.proofs.Cells.{IsHolder, cell_read, cell_written, class_type_is, goes_next, holder, next_itself}
use Rattle.vx_sound_natives.proofs.Known.{Known, knows}
use Rattle.vx_sound_natives.proofs.Results.{Leads, bool_back, int_back, no_reference, nothing_back, text_back, value_back}
use Rattle.vx_sound_natives.proofs.StreamNatives.{any_object}
use Rattle.vx_sound_natives.proofs.TextNatives.{string, text}
use Rattle.vx_sound_natives.proofs.ValueKinds.{IsAt, Kind, an_int, an_object, at_fits, core_type, type_of_kind}
use Rattle.vx_types.specs.Fits.{fits}
use Rattle.vx_types.specs.Types.{class_type}
use Rattle.vx_types.specs.declared.types.VerType.{VerType}
use Rattle.vx_types.specs.declared.types.VerType.TheVariants as is

module _ (typings : Typings) (h : Here) (site : AtSite typings h) (rest : List Value) where
  abbrev pub On : String → ℕ → Type 0
  On name r = IsAt h.program h.state.heap (core_type h.program name) r

  -- a cell that is handed back
  cell_back : (name : String) → IsHolder h.program name → (kind : Kind) → Leads typings h rest (Some kind) → (place : ℕ) → IsCoreCell h.program name place (type_of_kind h.program kind) → (r : ℕ) → On name r
      → Typed typings h (go h (cell_at h.state r place ∷ rest))
  cell_back name holds kind on place own r at =
      value_back typings h site rest kind on (cell_at h.state r place) (cell_read h.program site.sound h.state.heap site.state.heap name holds place (type_of_kind h.program kind) own r at)

  -- a cell of objects of a core class
  of_class : (name : String) (place : ℕ) (class : String) → is_named named_classes class ≡ true → IsCoreCell h.program name place (class_type h.program (core_class h.program class))
      → IsCoreCell h.program name place (core_type h.program class)
  of_class name place class named own =
      subst (λ (t : VerType). IsCoreCell h.program name place t) (class_type_is h.program class (core_there h.program site.sound.core class named)) own

  -- both cells of an object are written
  both_written : (name : String) → IsHolder h.program name → (s t : VerType) → IsCoreCell h.program name 0 s → IsCoreCell h.program name 1 t → (r : ℕ) → On name r → (v w : Value)
      → fits h.program (type_of_value h.program h.state.heap v) s ≡ true → fits h.program (type_of_value h.program h.state.heap w) t ≡ true
      → Leads typings h rest None → Typed typings h (go (with_message_and_cause h r v w) rest)
  both_written name holds s t first second r at v w one other on =
      let before = next_itself h.program site.sound h.state.heap site.state.heap in
      let middle = cell_written h.program site.sound h.state.heap h.state.heap before name holds 0 s first r at v one in
      goes_next typings h site rest on _ (cell_written h.program site.sound h.state.heap _ middle name holds 1 t second r at w other)

  -- ---- Enum

  enum_holder : IsHolder h.program "java/lang/Enum"
  enum_holder = holder h.program site.sound "java/lang/Enum" refl refl

  pub enum_begun : Leads typings h rest None → (r : ℕ) → On "java/lang/Enum" r → (name : ℕ) → On "java/lang/String" name → (ordinal : ℤ)
      → Typed typings h (go (with_message_and_cause h r (Ref name) (Int ordinal)) rest)
  enum_begun on r at name there ordinal =
      both_written "java/lang/Enum" enum_holder (core_type h.program "java/lang/String") is.Int
      (of_class "java/lang/Enum" 0 "java/lang/String" refl site.sound.objects.name) site.sound.objects.ordinal r at (Ref name) (Int ordinal)
      (at_fits h.program h.state.heap (core_type h.program "java/lang/String") name there) refl on

  pub name_back : Leads typings h rest (Some text) → (r : ℕ) → On "java/lang/Enum" r → Typed typings h (go h (cell_at h.state r 0 ∷ rest))
  name_back on r at = cell_back "java/lang/Enum" enum_holder text on 0 (of_class "java/lang/Enum" 0 "java/lang/String" refl site.sound.objects.name) r at

  pub ordinal_back : Leads typings h rest (Some an_int) → (r : ℕ) → On "java/lang/Enum" r → Typed typings h (go h (cell_at h.state r 1 ∷ rest))
  ordinal_back on r at = cell_back "java/lang/Enum" enum_holder an_int on 1 site.sound.objects.ordinal r at

  -- ---- Throwable

  throwable_holder : IsHolder h.program "java/lang/Throwable"
  throwable_holder = holder h.program site.sound "java/lang/Throwable" refl refl

  message_cell : IsCoreCell h.program "java/lang/Throwable" 0 (core_type h.program "java/lang/String")
  message_cell = of_class "java/lang/Throwable" 0 "java/lang/String" refl site.sound.objects.message

  cause_cell : IsCoreCell h.program "java/lang/Throwable" 1 (core_type h.program "java/lang/Throwable")
  cause_cell = of_class "java/lang/Throwable" 1 "java/lang/Throwable" refl site.sound.objects.cause

  pub throwable_begun : Leads typings h rest None → (r : ℕ) → On "java/lang/Throwable" r → (message cause : Value)
      → fits h.program (type_of_value h.program h.state.heap message) (core_type h.program "java/lang/String") ≡ true
      → fits h.program (type_of_value h.program h.state.heap cause) (core_type h.program "java/lang/Throwable") ≡ true
      → Typed typings h (go (with_message_and_cause h r message cause) rest)
  throwable_begun on r at message cause one other =
      both_written "java/lang/Throwable" throwable_holder (core_type h.program "java/lang/String") (core_type h.program "java/lang/Throwable") message_cell cause_cell r at message cause one other on

  pub message_back : Leads typings h rest (Some text) → (r : ℕ) → On "java/lang/Throwable" r → Typed typings h (go h (cell_at h.state r 0 ∷ rest))
  message_back on r at = cell_back "java/lang/Throwable" throwable_holder text on 0 message_cell r at

  pub cause_back : Leads typings h rest (Some (an_object "java/lang/Throwable")) → (r : ℕ) → On "java/lang/Throwable" r → Typed typings h (go h (cell_at h.state r 1 ∷ rest))
  cause_back on r at = cell_back "java/lang/Throwable" throwable_holder (an_object "java/lang/Throwable") on 1 cause_cell r at

  pub fitting : (name : String) (r : ℕ) → On name r → fits h.program (type_of_value h.program h.state.heap (Ref r)) (core_type h.program name) ≡ true
  fitting name r there = at_fits h.program h.state.heap (core_type h.program name) r there

-- ---- the tables

abbrev enum : String
enum = "java/lang/Enum"

abbrev thrown : String
thrown = "java/lang/Throwable"

unfoldable pub enum_natives : List Known
enum_natives =
    knows enum_init (Some enum) (text ∷ an_int ∷ []) None
    (λ typings h site rest on r at. (λ ordinal. no_reference typings h site rest, λ name there ordinal. enum_begun typings h site rest on r at name there ordinal))
    ∷ knows first_cell (Some enum) [] (Some text) (λ typings h site rest on r at. name_back typings h site rest on r at)
    ∷ knows second_cell (Some enum) [] (Some an_int) (λ typings h site rest on r at. ordinal_back typings h site rest on r at)
    ∷ knows first_cell (Some enum) [] (Some text) (λ typings h site rest on r at. name_back typings h site rest on r at)
    ∷ knows same_object (Some enum) (any_object ∷ []) (Some an_int) (λ typings h site rest on r at. (bool_back typings h site rest on false, λ s there. bool_back typings h site rest on _))
    ∷ knows enum_compare (Some enum) (an_object enum ∷ []) (Some an_int) (λ typings h site rest on r at. (no_reference typings h site rest, λ s there. int_back typings h site rest on _))
    ∷ []

unfoldable pub throwable_natives : List Known
throwable_natives =
    knows throwable_init (Some thrown) [] None (λ typings h site rest on r at. throwable_begun typings h site rest on r at Null Null refl refl)
    ∷ knows throwable_init (Some thrown) (text ∷ []) None (λ typings h site rest on r at. (
      throwable_begun typings h site rest on r at Null Null refl refl,
      λ m there. throwable_begun typings h site rest on r at (Ref m) Null (fitting typings h site rest string m there) refl,
    ))
    ∷ knows throwable_init (Some thrown) (text ∷ an_object thrown ∷ []) None (λ typings h site rest on r at. (
      (
        throwable_begun typings h site rest on r at Null Null refl refl,
        λ c given. throwable_begun typings h site rest on r at Null (Ref c) refl (fitting typings h site rest thrown c given),
      ),
      λ m there. (
        throwable_begun typings h site rest on r at (Ref m) Null (fitting typings h site rest string m there) refl,
        λ c given. throwable_begun typings h site rest on r at (Ref m) (Ref c) (fitting typings h site rest string m there) (fitting typings h site rest thrown c given),
      ),
    ))
    ∷ knows first_cell (Some thrown) [] (Some text) (λ typings h site rest on r at. message_back typings h site rest on r at)
    ∷ knows second_cell (Some thrown) [] (Some (an_object thrown)) (λ typings h site rest on r at. cause_back typings h site rest on r at)
    ∷ knows throwable_class_name (Some thrown) [] (Some text) (λ typings h site rest on r at. text_back typings h site rest on _)
    ∷ knows add_suppressed (Some thrown) (an_object thrown ∷ []) None (λ typings h site rest on r at. (no_reference typings h site rest, λ s there. nothing_back typings h site rest on))
    ∷ []
