-- The frame of a method that begins, and its plain frame.
use Rattle.std.proofs.Common.{◌≡◌, ℕ, ◌+◌, ◌-◌, ◌≤◌, zero, suc, Bool, true, List, [], ◌∷◌, ◌++◌, refl, sym, ◌∙◌, ap, map, length, replicate}
use Rattle.std.proofs.lemmas.List.{length-map, map-append, nil_from_length}
use Rattle.std.proofs.Math.Nat.{add-sub_of_le}
use Rattle.vx_value.specs.declared.ids.MethodId.{MethodId}
use Rattle.vx_value.specs.declared.key.KeyPart.{KeyPart}
use Rattle.vx_value.specs.declared.key.Kind.{Kind}
use Rattle.vx_value.specs.declared.slot.Slot.{Slot}
use Rattle.vx_value.specs.declared.slot.Slot.TheVariants.{Top, Int, Long, Null, Ref, Text}
use Rattle.vx_space.specs.Sets.{Sets}
use Rattle.vx_cond.specs.Cond.{Conditional}
use Rattle.vx_cond.specs.Row.{Conditionals}
use Rattle.vx_cond.specs.Slots.{slots_at}
use Rattle.vx_frame.specs.declared.frame.Frame.{Frame}
use Rattle.vx_frame.specs.Frame.{Shape, IsFrameOf, first_frame, scope_of, shape_of}
use Rattle.vx_frame.proofs.FrameLaws.{IsFrame-one_scope, IsFrame-rows, IsFrame-stack}
use Rattle.vx_heap.specs.Heap.{HeapView, are_held, is_held, value_of}
use Rattle.vx_heap.proofs.Places.{and_true, both_true}
use Rattle.vx_java.specs.Calls.{in_locals}
use Rattle.vx_java.specs.Initialisation.{max_locals, new_frame}
use Rattle.vx_java.specs.Machine.{Top as TopValue}
use Rattle.vx_link.specs.Parts.{method_at}
use Rattle.vx_link.specs.declared.program.Program.{Program}
use Rattle.vx_group_states.specs.Stands.{frame_held, plain_frame}
use Rattle.vx_frames.specs.Entering.{IsBegun, arguments_at, begun_frame, locals_with, slots_in_locals}
use Rattle.vx_frames.specs.Locals.{AreAppended, AreLocals, ArePut}

-- ---- the locals, and the frame that they make

pub AreLocals-made : {S I : Type 0} (sets : Sets I) (path : I) (count rest : ℕ) (values : List (Conditional Slot S I)) (put made : Conditionals Slot S I) → ArePut sets path values put → length put.conds ≤ count → rest ≡ count - length put.conds → AreAppended sets put rest (λ _. replicate rest Top) made → AreLocals sets path count values made
AreLocals-made sets path count rest values put made a l e b = record {
  scope = b.scope ∙ a.scope;
  is_row = b.is_row;
  number = b.number ∙ ap (λ k. length put.conds + k) e ∙ add-sub_of_le l;
  slots = λ c t.
      let first = a.slots c t in
      let many : length (slots_at sets put c) ≡ length put.conds = simp length-map in
      let number : length put.conds ≡ length (slots_in_locals (arguments_at sets values c)) = sym many ∙ ap length first in
      b.slots c ∙ (λ i. first i ++ replicate (e i) Top) ∙ ap (λ k. slots_in_locals (arguments_at sets values c) ++ replicate (count - k) Top) number;
}

-- a new frame has no locals
pub no_locals : {S I : Type 0} (frame : Frame S I) (part : KeyPart) → shape_of frame ≡ record { part = part; locals = 0 } → frame.locals.conds ≡ []
no_locals frame part e = nil_from_length frame.locals.conds (ap (λ (s : Shape). s.locals) e)

pub IsBegun-made : {S I : Type 0} (p : Program) (sets : Sets I) (path : I) (kind : Kind) (method : MethodId) (values : List (Conditional Slot S I)) (count : ℕ) (frame : Frame S I) (locals : Conditionals Slot S I) → count ≡ max_locals (method_at p method.0).code → scope_of frame ≡ path → shape_of frame ≡ record { part = record { method = method; position = 0; depth = 0; kind = kind }; locals = 0 } → IsFrameOf sets (λ _. first_frame kind method 0) frame → AreLocals sets frame.locals.scope count values locals → IsBegun p sets path kind method values (record frame { locals = locals })
unfolding IsFrameOf
IsBegun-made p sets path kind method values count frame locals m s h f a =
    let number = a.number ∙ m in
    record {
      scope = a.scope ∙ s;
      shape = λ i. record { part = (h i).part; locals = number i };
      is_frame = record {
        is_frame = IsFrame-rows sets (record frame { locals = locals }) a.is_row (IsFrame-stack sets frame f.is_frame) (IsFrame-one_scope sets frame f.is_frame ∙ sym a.scope);
        at = λ c t.
            let there : sets.test frame.locals.scope c ≡ true = ap (λ id. sets.test id c) (sym a.scope) ∙ t in
            let before = f.at c there in
            let slots = a.slots c there ∙ ap (λ k. locals_with k (arguments_at sets values c)) m in
            λ i. record { kind = (before i).kind; method = (before i).method; position = (before i).position; locals = slots i; operands = (before i).operands };
      };
    }

-- ---- its plain frame

tops_held : {S I : Type 0} (sets : Sets I) (heap : HeapView S I) (c : List Bool) (n : ℕ) → are_held sets heap c (replicate n Top) ≡ true
tops_held sets heap c zero = refl
tops_held sets heap c (suc n) = tops_held sets heap c n

held_append : {S I : Type 0} (sets : Sets I) (heap : HeapView S I) (c : List Bool) (xs ys : List Slot) → are_held sets heap c xs ≡ true → are_held sets heap c ys ≡ true → are_held sets heap c (xs ++ ys) ≡ true
held_append sets heap c [] ys h k = k
held_append sets heap c (x ∷ xs) ys h k =
    let parts = both_true (is_held sets heap c x) (are_held sets heap c xs) h in
    and_true (is_held sets heap c x) (are_held sets heap c (xs ++ ys)) parts.0 (held_append sets heap c xs ys parts.1 k)

locals_held : {S I : Type 0} (sets : Sets I) (heap : HeapView S I) (c : List Bool) (slots : List Slot) → are_held sets heap c slots ≡ true → are_held sets heap c (slots_in_locals slots) ≡ true
locals_held sets heap c [] h = refl
locals_held sets heap c (Top ∷ slots) h = locals_held sets heap c slots h
locals_held sets heap c (Int n ∷ slots) h = locals_held sets heap c slots h
locals_held sets heap c (Long n ∷ slots) h = locals_held sets heap c slots h
locals_held sets heap c (Null ∷ slots) h = locals_held sets heap c slots h
locals_held sets heap c (Ref n ∷ slots) h =
    let parts = both_true (is_held sets heap c (Ref n)) (are_held sets heap c slots) h in
    and_true (is_held sets heap c (Ref n)) (are_held sets heap c (slots_in_locals slots)) parts.0 (locals_held sets heap c slots parts.1)
locals_held sets heap c (Text n ∷ slots) h =
    let parts = both_true (is_held sets heap c (Text n)) (are_held sets heap c slots) h in
    and_true (is_held sets heap c (Text n)) (are_held sets heap c (slots_in_locals slots)) parts.0 (locals_held sets heap c slots parts.1)

-- its slots name what is there where the values do
pub begun_held : {S I : Type 0} (p : Program) (sets : Sets I) (heap : HeapView S I) (c : List Bool) (kind : Kind) (method : ℕ) (slots : List Slot) → are_held sets heap c slots ≡ true → frame_held sets heap c (begun_frame p kind method slots) ≡ true
begun_held p sets heap c kind method slots h =
    let rest = max_locals (method_at p method).code - length (slots_in_locals slots) in
    and_true (are_held sets heap c (slots_in_locals slots ++ replicate rest Top)) true (held_append sets heap c (slots_in_locals slots) (replicate rest Top) (locals_held sets heap c slots h) (tops_held sets heap c rest)) refl

top_values : {S I : Type 0} (sets : Sets I) (heap : HeapView S I) (c : List Bool) (n : ℕ) → map (value_of sets heap c) (replicate n Top) ≡ replicate n TopValue
top_values sets heap c zero = refl
top_values sets heap c (suc n) = ap (λ r. TopValue ∷ r) (top_values sets heap c n)

local_values : {S I : Type 0} (sets : Sets I) (heap : HeapView S I) (c : List Bool) (slots : List Slot) → map (value_of sets heap c) (slots_in_locals slots) ≡ in_locals (map (value_of sets heap c) slots)
local_values sets heap c [] = refl
local_values sets heap c (Top ∷ slots) = ap (λ r. value_of sets heap c Top ∷ r) (local_values sets heap c slots)
local_values sets heap c (Int n ∷ slots) = ap (λ r. value_of sets heap c (Int n) ∷ r) (local_values sets heap c slots)
local_values sets heap c (Long n ∷ slots) = ap (λ r. value_of sets heap c (Long n) ∷ TopValue ∷ r) (local_values sets heap c slots)
local_values sets heap c (Null ∷ slots) = ap (λ r. value_of sets heap c Null ∷ r) (local_values sets heap c slots)
local_values sets heap c (Ref n ∷ slots) = ap (λ r. value_of sets heap c (Ref n) ∷ r) (local_values sets heap c slots)
local_values sets heap c (Text n ∷ slots) = ap (λ r. value_of sets heap c (Text n) ∷ r) (local_values sets heap c slots)

pub begun_plain : {S I : Type 0} (p : Program) (sets : Sets I) (heap : HeapView S I) (c : List Bool) (kind : Kind) (method : ℕ) (slots : List Slot) → plain_frame sets heap c (begun_frame p kind method slots) ≡ new_frame p kind method (in_locals (map (value_of sets heap c) slots))
begun_plain p sets heap c kind method slots =
    let value = value_of sets heap c in
    let first = local_values sets heap c slots in
    let most = max_locals (method_at p method).code in
    let number : length (slots_in_locals slots) ≡ length (in_locals (map value slots)) = sym (length-map (slots_in_locals slots) value) ∙ ap length first in
    let locals : map value (slots_in_locals slots ++ replicate (most - length (slots_in_locals slots)) Top) ≡ in_locals (map value slots) ++ replicate (most - length (in_locals (map value slots))) TopValue =
    map-append value (slots_in_locals slots) (replicate (most - length (slots_in_locals slots)) Top)
    ∙ ap (λ xs. map value (slots_in_locals slots) ++ xs) (top_values sets heap c (most - length (slots_in_locals slots)))
    ∙ (λ i. first i ++ replicate (most - number i) TopValue) in
    λ i. record { kind = kind; method = method; position = 0; locals = locals i; operands = [] }
