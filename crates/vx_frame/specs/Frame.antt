-- Frames whose locals and operands depend on the configuration, and the plain frame at a configuration (JVMS 2.6).
use Rattle.std.specs.Prelude.{◌≡◌, ℕ, Bool, true, List, [], ◌++◌, length, reverse, replicate, if◌then◌else◌}
use Rattle.vx_value.specs.declared.slot.Slot.{Slot}
use Rattle.vx_value.specs.declared.slot.Slot.TheVariants.{Top}
use Rattle.vx_value.specs.declared.ids.MethodId.{MethodId}
use Rattle.vx_value.specs.declared.key.Kind.{Kind}
use Rattle.vx_value.specs.declared.key.KeyPart.{KeyPart}
use Rattle.vx_value.specs.Slot.{slot_cmp}
use Rattle.vx_space.specs.Sets.{Sets}
use Rattle.vx_cond.specs.Row.{IsRow, row_ids}
use Rattle.vx_cond.specs.Slots.{slots_at}
use Rattle.vx_frame.specs.declared.frame.Frame.{Frame}

-- a plain frame; the operand on top is first
pub record PlainFrame : Type 0 where
  pub kind : Kind
  pub method : ℕ
  pub position : ℕ
  pub locals : List Slot
  pub operands : List Slot

-- the plain frame at a configuration of the scope
abbrev pub frame_at : {S I : Type 0} → Sets I → Frame S I → List Bool → PlainFrame
frame_at sets frame c = record { kind = frame.kind; method = frame.method.0; position = frame.position; locals = slots_at sets frame.locals c; operands = reverse (slots_at sets frame.stack c) }

-- the frame of a method that begins: all locals Top, no operands
abbrev pub first_frame : Kind → MethodId → ℕ → PlainFrame
first_frame kind method locals = record { kind = kind; method = method.0; position = 0; locals = replicate locals Top; operands = [] }

-- the frame's part of a key
abbrev pub part_of : {S I : Type 0} → Frame S I → KeyPart
part_of frame = record { method = frame.method; position = frame.position; depth = length frame.stack.conds; kind = frame.kind }

-- what frames have in common that can be joined
pub record Shape : Type 0 where
  pub part : KeyPart
  pub locals : ℕ

abbrev pub shape_of : {S I : Type 0} → Frame S I → Shape
shape_of frame = record { part = part_of frame; locals = length frame.locals.conds }

abbrev pub scope_of : {S I : Type 0} → Frame S I → I
scope_of frame = frame.locals.scope

-- the ids held
abbrev pub frame_ids : {S I : Type 0} → Frame S I → List I
frame_ids frame = row_ids frame.locals ++ row_ids frame.stack

-- over this space: locals and operands are rows of one scope
pub record FrameFacts {S I : Type 0} (sets : Sets I) (frame : Frame S I) : Type 0 where
  pub locals : IsRow slot_cmp sets frame.locals
  pub stack : IsRow slot_cmp sets frame.stack
  pub one_scope : frame.stack.scope ≡ frame.locals.scope

-- the same, as a word that tactics don't take apart
unfoldable pub IsFrame : {S I : Type 0} → Sets I → Frame S I → Type 0
IsFrame sets frame = FrameFacts sets frame

-- it is a frame with this plain frame at each configuration of its scope
pub record FrameOfFacts {S I : Type 0} (sets : Sets I) (value : List Bool → PlainFrame) (frame : Frame S I) : Type 0 where
  pub is_frame : IsFrame sets frame
  pub at : (c : List Bool) → sets.test (scope_of frame) c ≡ true → frame_at sets frame c ≡ value c

unfoldable pub IsFrameOf : {S I : Type 0} → Sets I → (List Bool → PlainFrame) → Frame S I → Type 0
IsFrameOf sets value frame = FrameOfFacts sets value frame

-- the first inside a set, and the second elsewhere
abbrev pub side_at : {A I : Type 0} → Sets I → I → (List Bool → A) → (List Bool → A) → List Bool → A
side_at sets scope first second c = if sets.test scope c then first c else second c
