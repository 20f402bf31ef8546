-- Where a throw leads: to a state whose frames stand well, or to an end that can be spelled.
use Rattle.std.proofs.Common.{Bool, List, None, Option, Some, [], arith, codes, false, if◌then◌else◌, length, refl, suc, true, zero, ℕ, ◌++◌, ◌+◌, ◌-◌, ◌<◌, ◌∷◌, ◌≡◌}
use Rattle.std.proofs.lemmas.Bool.{lt-ltb, ltb-true}
use Rattle.std.specs.Cmp.Derive.{both_true}
use Rattle.std.specs.List.{list_all}
use Rattle.std.specs.Prelude.{nat_lt, not, replicate}
use Rattle.std.specs.Str.{byte}
use Rattle.vx_pool.specs.Holding.{and_true}
use Rattle.vx_java.specs.Machine.{Ends, Frame, Goes, Next, State, next_object, object_at, with_objects}
use Rattle.vx_java.specs.Throwing.{exception_objects, handler_of, next_after_raise, next_after_throw, next_in_handler, passed_object, passed_state, uncaught, unwind}
use Rattle.vx_kept_facts.proofs.Rows.{placed}
use Rattle.vx_link.specs.ClassNames.{class_element, class_text, dimensions_of, element_of, primitive_letters, spelled_element}
use Rattle.vx_link.specs.Parts.{class_at, method_at, no_class}
use Rattle.vx_link.specs.declared.program.LinkedClass.{LinkedClass}
use Rattle.vx_link.specs.declared.program.Program.{Program}
use Rattle.vx_list.specs.Places.{item_or}
use Rattle.vx_named_classes.specs.Named.{is_given}
use Rattle.vx_value.specs.declared.key.Kind.{Kind}
use Rattle.vx_value.specs.declared.key.Kind.TheVariants.{Wait}
use Rattle.vx_spelled_ends.specs.Law.{IsSound}
use Rattle.vx_spelled_ends.specs.Positions.{all_stand, is_position_of, stands}
use Rattle.vx_spelled_ends.specs.Spelled.{is_spelled}
use Rattle.vx_spelled_ends.proofs.Positions.{handler_position}
use Rattle.vx_spelled_ends.proofs.Tests.{given_behind}

-- what a step leads to
abbrev pub is_good_next : Program → Next → Bool
is_good_next p (Goes s) = all_stand p s
is_good_next p (Ends e) = is_spelled e

-- ---- the text of a class

element_given : (p : Program) (e : ℕ) → is_given (spelled_element p e) ≡ true
element_given p e = by_kind (nat_lt e (class_element 0))
  where
    by_kind : (b : Bool) → is_given (if b then item_or primitive_letters e 0 ∷ [] else codes "L" ++ ((class_at p (e - 8)).name ++ codes ";")) ≡ true
    by_kind true = refl
    by_kind false = refl

name_given : (p : Program) (c : ℕ) → list_all (λ c. is_given c.name) p.classes ≡ true → nat_lt c (length p.classes) ≡ true → is_given (class_at p c).name ≡ true
name_given p c all inside = named_at p.classes c all inside
  where
    named_at : (classes : List LinkedClass) (c : ℕ) → list_all (λ c. is_given c.name) classes ≡ true → nat_lt c (length classes) ≡ true → is_given (item_or classes c no_class).name ≡ true
    named_at [] c all inside = let none : c < 0 = ltb-true c 0 inside in absurd (omega (arith, none))
    named_at (d ∷ classes) zero all inside = (and_true _ _ all).0
    named_at (d ∷ classes) (suc c) all inside =
        let there : suc c < length (d ∷ classes) = ltb-true (suc c) (length (d ∷ classes)) inside in
        named_at classes c (and_true _ _ all).1 (lt-ltb c (length classes) (omega (arith, there)))

pub class_text_given : (p : Program) (c : ℕ) → IsSound p → is_given (class_text p c) ≡ true
class_text_given p c sound = by_array (nat_lt c (length p.classes)) refl
  where
    by_array : (b : Bool) → nat_lt c (length p.classes) ≡ b
        → is_given (if not b then replicate (dimensions_of p c) (byte "[") ++ spelled_element p (element_of p c) else (class_at p c).name) ≡ true
    by_array true inside = name_given p c sound.named.classes inside
    by_array false outside = given_behind (replicate (dimensions_of p c) (byte "[")) (spelled_element p (element_of p c)) (element_given p (element_of p c))

-- ---- unwinding

-- a handler of a frame is a position of its code
handled : (p : Program) (s : State) (kind : Kind) (r handler : ℕ) → IsSound p → handler_of p s kind r ≡ Some handler → is_position_of (method_at p s.top.method).code handler ≡ true
handled p s Wait r handler sound e = absurd cc
handled p s _ r handler sound e = handler_position p (class_at p (method_at p s.top.method).class.0).pool (method_at p s.top.method).code s.top.position (object_at s r).class handler (placed p sound.placed s.top.method) e

pub unwound : (p : Program) (s : State) (r : ℕ) (below : List Frame) → IsSound p → list_all (stands p) s.callers ≡ true → list_all (stands p) below ≡ true → is_good_next p (unwind p s r below) ≡ true
unwound p s r [] sound callers all = by_handler (handler_of p s s.top.kind r) refl
  where
    by_handler : (o : Option ℕ) → handler_of p s s.top.kind r ≡ o
        → is_good_next p (elim o [ Some handler ↦ next_in_handler s r handler | None ↦ uncaught p (passed_state p s s.top.kind r) (passed_object p s s.top.kind r) ]) ≡ true
    by_handler (Some handler) is = both_true (handled p s s.top.kind r handler sound is) callers
    by_handler None is = class_text_given p (object_at (passed_state p s s.top.kind r) (passed_object p s s.top.kind r)).class sound
unwound p s r (f ∷ below) sound callers all =
    by_handler (handler_of p s s.top.kind r) refl (unwound p (record (passed_state p s s.top.kind r) { top = f; callers = below }) (passed_object p s s.top.kind r) below sound (and_true (stands p f) _ all).1 (and_true (stands p f) _ all).1)
  where
    by_handler : (o : Option ℕ) → handler_of p s s.top.kind r ≡ o
        → is_good_next p (unwind p (record (passed_state p s s.top.kind r) { top = f; callers = below }) (passed_object p s s.top.kind r) below) ≡ true
        → is_good_next p (elim o [ Some handler ↦ next_in_handler s r handler | None ↦ unwind p (record (passed_state p s s.top.kind r) { top = f; callers = below }) (passed_object p s s.top.kind r) below ]) ≡ true
    by_handler (Some handler) is later = both_true (handled p s s.top.kind r handler sound is) callers
    by_handler None is later = later

pub thrown_good : (p : Program) (s : State) (r : ℕ) → IsSound p → all_stand p s ≡ true → is_good_next p (next_after_throw p s r) ≡ true
thrown_good p s r sound stand =
    let callers = (and_true (stands p s.top) (list_all (stands p) s.callers) stand).1 in
    unwound p s r s.callers sound callers callers

pub raised_good : (p : Program) (s : State) (class : ℕ) (message : Option (List ℕ)) → IsSound p → all_stand p s ≡ true → is_good_next p (next_after_raise p s class message) ≡ true
raised_good p s class message sound stand =
    let objects = exception_objects p s class message in
    thrown_good p (with_objects s objects) (next_object s + length objects - 1) sound stand
