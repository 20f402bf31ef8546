-- What throwing comes to in the frame on top, over plain states, and the handler there by the slot that names the object.
use Rattle.std.proofs.Common.{◌≡◌, ℕ, Bool, true, List, [], ◌∷◌, Option, Some, None, refl, sym, ◌∙◌, ap}
use Rattle.std.specs.Prelude.{option_and_then}
use Rattle.vx_frames.proofs.ClassLaws.{class_there}
use Rattle.vx_group_states.specs.Stands.{is_object, object_named}
use Rattle.vx_heap.specs.Heap.{HeapView, class_at_slot, is_held, objects_at}
use Rattle.vx_java.specs.Machine.{Frame, Next, State, object_at}
use Rattle.vx_java.specs.Selection.{handler_for}
use Rattle.vx_java.specs.Throwing.{handler_of, next_after_throw, next_in_handler, passed_object, passed_state, uncaught, unwind}
use Rattle.vx_link.specs.declared.program.Program.{Program}
use Rattle.vx_space.specs.Sets.{Sets}
use Rattle.vx_value.specs.declared.ids.ClassId.{ClassId}
use Rattle.vx_value.specs.declared.key.KeyPart.{KeyPart}
use Rattle.vx_value.specs.declared.key.Kind.{Kind}
use Rattle.vx_value.specs.declared.key.Kind.TheVariants.{Call, Init, Wait}
use Rattle.vx_value.specs.declared.slot.Slot.{Slot}
use Rattle.vx_value.specs.declared.slot.Slot.TheVariants.{Top, Int, Long, Null, Ref, Text}
use Rattle.vx_throw.specs.Flights.{handler_at}

-- a handler of the frame on top takes the object
taken_over : (p : Program) (s : State) (r handler : ℕ) (callers : List Frame) → handler_of p s s.top.kind r ≡ Some handler → unwind p s r callers ≡ next_in_handler s r handler
taken_over p s r handler [] h = ap (λ o. elim o as (λ _. Next) [ Some x ↦ next_in_handler s r x | None ↦ uncaught p (passed_state p s s.top.kind r) (passed_object p s s.top.kind r) ]) h
taken_over p s r handler (f ∷ below) h = ap (λ o. elim o as (λ _. Next) [ Some x ↦ next_in_handler s r x | None ↦ unwind p (record (passed_state p s s.top.kind r) { top = f; callers = below }) (passed_object p s s.top.kind r) below ]) h

pub taken_here : (p : Program) (s : State) (r handler : ℕ) → handler_of p s s.top.kind r ≡ Some handler → next_after_throw p s r ≡ next_in_handler s r handler
taken_here p s r handler h = taken_over p s r handler s.callers h

-- no frame is left
pub ends_there : (p : Program) (s : State) (r : ℕ) → s.callers ≡ [] → handler_of p s s.top.kind r ≡ None → next_after_throw p s r ≡ uncaught p (passed_state p s s.top.kind r) (passed_object p s s.top.kind r)
ends_there p s r c n =
    ap (unwind p s r) c
    ∙ ap (λ o. elim o as (λ _. Next) [ Some handler ↦ next_in_handler s r handler | None ↦ uncaught p (passed_state p s s.top.kind r) (passed_object p s s.top.kind r) ]) n

-- the handler by the slot is the handler by the object that it names
pub handler_there : {S I : Type 0} (p : Program) (sets : Sets I) (heap : HeapView S I) (c : List Bool) (s : State) (part : KeyPart) (slot : Slot) → s.heap ≡ objects_at sets heap c → s.top.method ≡ part.method.0 → s.top.position ≡ part.position → is_object slot ≡ true → is_held sets heap c slot ≡ true → handler_at p heap part slot ≡ handler_of p s part.kind (object_named sets heap c slot)
handler_there p sets heap c s part Top e m q o h = cc
handler_there p sets heap c s part (Int n) e m q o h = cc
handler_there p sets heap c s part (Long n) e m q o h = cc
handler_there p sets heap c s part Null e m q o h = cc
handler_there p sets heap c s part (Text n) e m q o h = cc
handler_there p sets heap c s part (Ref i) e m q o h = by_kind part.kind
  where
    found : option_and_then (λ class. handler_for p part.method.0 part.position class.0) (class_at_slot heap (Ref i)) ≡ handler_for p s.top.method s.top.position (object_at s (object_named sets heap c (Ref i))).class
    found = ap (λ (o : Option ClassId). option_and_then (λ class. handler_for p part.method.0 part.position class.0) o) (class_there sets heap c i s.heap e h) ∙ sym (λ j. handler_for p (m j) (q j) (object_at s (object_named sets heap c (Ref i))).class)

    by_kind : (k : Kind) → handler_at p heap (record part { kind = k }) (Ref i) ≡ handler_of p s k (object_named sets heap c (Ref i))
    by_kind Call = found
    by_kind Init = found
    by_kind Wait = refl
