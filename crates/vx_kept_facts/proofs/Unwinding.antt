-- Where frames stand after an exception was thrown.
use Rattle.std.proofs.Common.{if◌then◌else◌, Bool, List, None, Option, Some, [], ap, false, length, refl, true, ℕ, ◌∙◌, ◌∷◌, ◌≡◌}
use Rattle.std.proofs.lemmas.Bool.{or_left}
use Rattle.std.specs.List.{list_all}
use Rattle.vx_class.specs.declared.class_file.Code.{Code}
use Rattle.vx_pool.specs.Holding.{and_true}
use Rattle.vx_java.specs.Machine.{Ends, Frame, Goes, Next, State, current_class, object_at, with_inits, with_objects}
use Rattle.vx_java.specs.Selection.{catches_of, handler_in}
use Rattle.vx_java.specs.Throwing.{exception_objects, handler_of, is_error, next_after_raise, next_after_throw, next_in_handler, passed_object, passed_state, uncaught, unwind, with_wrapper}
use Rattle.vx_jump_targets.specs.Placed.{has_placed_code}
use Rattle.vx_kept_facts.proofs.Places.{handler_start}
use Rattle.vx_kept_facts.proofs.Rows.{placed}
use Rattle.vx_kept_facts.proofs.Sites.{StandsAtPlace, length_inits}
use Rattle.vx_kept_facts.specs.Kept.{is_at_instruction, is_code_end, is_instruction}
use Rattle.vx_kept_facts.specs.Law.{IsRunnable}
use Rattle.vx_link.specs.Parts.{class_count, method_at}
use Rattle.vx_link.specs.declared.program.Program.{Program}
use Rattle.vx_pool.specs.declared.pool.Pool.{Pool}
use Rattle.vx_value.specs.declared.key.Kind.{Kind}
use Rattle.vx_value.specs.declared.key.Kind.TheVariants.{Call, Wait}
use Rattle.vx_value.specs.declared.slot.InitState.TheVariants.{Failed}

-- a state that follows stands
abbrev pub NextStands : Program → Next → Type 0
NextStands p (Goes s) = StandsAtPlace p s
NextStands p (Ends e) = Unit {0}

-- ---- handlers

handler_begins : (p : Program) (pool : Pool) (code : Option Code) (position thrown handler : ℕ) → has_placed_code code ≡ true
    → handler_in p pool (catches_of code) position thrown ≡ Some handler → is_instruction code handler ≡ true
handler_begins p pool None position thrown handler placed found = cc
handler_begins p pool (Some code) position thrown handler placed found = handler_start p pool code position thrown handler placed found

-- the handler of a frame is an instruction of its method
handled : (p : Program) → IsRunnable p → (s : State) (kind : Kind) (r handler : ℕ) → handler_of p s kind r ≡ Some handler → is_instruction (method_at p s.top.method).code handler ≡ true
handled p whole s Wait r handler found = cc
handled p whole s _ r handler found =
    handler_begins p _ (method_at p s.top.method).code s.top.position (object_at s r).class handler (placed p whole.placed s.top.method) found

-- ---- frames that are passed

-- as many classes have a state of initialisation
failed_count : (p : Program) (s : State) (r : ℕ) (b : Bool) → length (with_inits (if b then s else with_wrapper p s r) Failed (current_class p s ∷ [])).inits ≡ length s.inits
failed_count p s r true = length_inits s.inits Failed (current_class p s ∷ [])
failed_count p s r false = length_inits s.inits Failed (current_class p s ∷ [])

same_count : (p : Program) (s : State) (kind : Kind) (r : ℕ) → length (passed_state p s kind r).inits ≡ length s.inits
same_count p s Call r = refl
same_count p s _ r = failed_count p s r (is_error p s r)

in_handler : (p : Program) → IsRunnable p → (s : State) (r handler : ℕ) → handler_of p s s.top.kind r ≡ Some handler
    → list_all (is_at_instruction p) s.callers ≡ true → length s.inits ≡ class_count p → NextStands p (next_in_handler s r handler)
in_handler p whole s r handler found below classes = record {
  top = or_left (is_instruction (method_at p s.top.method).code handler) (is_code_end (method_at p s.top.method).code handler) (handled p whole s s.top.kind r handler found);
  below = below;
  classes = classes;
}

unwinds : (p : Program) → IsRunnable p → (callers : List Frame) (s : State) (r : ℕ) → s.callers ≡ callers → list_all (is_at_instruction p) callers ≡ true
    → length s.inits ≡ class_count p → NextStands p (unwind p s r callers)
unwinds p whole [] s r are below classes = by (handler_of p s s.top.kind r) refl
  where
    by : (handler : Option ℕ) → handler_of p s s.top.kind r ≡ handler
        → NextStands p (elim handler [ Some handler ↦ next_in_handler s r handler | None ↦ uncaught p (passed_state p s s.top.kind r) (passed_object p s s.top.kind r) ])
    by (Some handler) found = in_handler p whole s r handler found (ap (list_all (is_at_instruction p)) are ∙ below) classes
    by None found = tt
unwinds p whole (f ∷ rest) s r are below classes =
    by (handler_of p s s.top.kind r) refl
    (unwinds p whole rest (record (passed_state p s s.top.kind r) { top = f; callers = rest }) (passed_object p s s.top.kind r) refl (and_true _ _ below).1
    (same_count p s s.top.kind r ∙ classes))
  where
    by : (handler : Option ℕ) → handler_of p s s.top.kind r ≡ handler
        → NextStands p (unwind p (record (passed_state p s s.top.kind r) { top = f; callers = rest }) (passed_object p s s.top.kind r) rest)
        → NextStands p (elim handler [
          | Some handler ↦ next_in_handler s r handler
          | None ↦ unwind p (record (passed_state p s s.top.kind r) { top = f; callers = rest }) (passed_object p s s.top.kind r) rest
        ])
    by (Some handler) found later = in_handler p whole s r handler found (ap (list_all (is_at_instruction p)) are ∙ below) classes
    by None found later = later

-- ---- an object is thrown, a class is raised

pub thrown_stands : (p : Program) → IsRunnable p → (s : State) (r : ℕ) → list_all (is_at_instruction p) s.callers ≡ true → length s.inits ≡ class_count p
    → NextStands p (next_after_throw p s r)
thrown_stands p whole s r below classes = unwinds p whole s.callers s r refl below classes

pub raised_stands : (p : Program) → IsRunnable p → (s : State) (class : ℕ) (message : Option (List ℕ)) → list_all (is_at_instruction p) s.callers ≡ true → length s.inits ≡ class_count p
    → NextStands p (next_after_raise p s class message)
raised_stands p whole s class message below classes = thrown_stands p whole (with_objects s (exception_objects p s class message)) _ below classes
