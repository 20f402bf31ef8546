-- Groups whose operands fill the room for what a call gives that takes nothing off.
use Rattle.std.proofs.Common.{◌≡◌, ℕ, ◌+◌, ◌<◌, zero, suc, Bool, true, false, List, [], ◌∷◌, refl, sym, ◌∙◌, ap, arith, drop, length, reverse, subst, take}
use Rattle.std.proofs.lemmas.Bool.{lt-leb, ltb-true}
use Rattle.std.proofs.lemmas.Slice.Eq.{bytes_eq-Decides}
use Rattle.std.specs.List.{list_all}
use Rattle.std.specs.Prelude.{◌&&◌, ◌||◌, None, Option, Some, bytes_eq, is_some, nat_lt, slice_get}
use Rattle.vx_class.specs.Members.{STATIC}
use Rattle.vx_desc.specs.Descriptors.{element_at, method_of, result_at, type_at, types_at}
use Rattle.vx_desc.specs.Names.{is_class_name}
use Rattle.vx_desc.specs.declared.java_type.JavaType.{JavaType}
use Rattle.vx_families.proofs.AttemptLaws.{AttemptsBy-ended}
use Rattle.vx_families.proofs.Given.{given_operands_held}
use Rattle.vx_families.specs.Attempts.{AttemptsBy, IsGiven}
use Rattle.vx_group.specs.Group.{GroupView}
use Rattle.vx_group_states.proofs.Fitting.{slots_size-least}
use Rattle.vx_group_states.proofs.Operands.{length-operands}
use Rattle.vx_group_states.specs.Answering.{operands_at}
use Rattle.vx_group_states.specs.Sites.{Gives, here}
use Rattle.vx_group_states.specs.Stands.{state_at}
use Rattle.vx_group_states.specs.Widths.{slots_size}
use Rattle.vx_group_states.specs.declared.site.Site.{Site}
use Rattle.vx_heap.specs.Heap.{HeapView}
use Rattle.vx_java.specs.Checks.{same_bool, width_of_type}
use Rattle.vx_java.specs.Machine.{illegal_in}
use Rattle.vx_java.specs.NativeForms.{Form, form_of, forms, has_form, is_form}
use Rattle.vx_java.specs.Natives.{native, native_of}
use Rattle.vx_java.specs.Returns.{instruction_size}
use Rattle.vx_java.specs.declared.operation.Operation.{Operation}
use Rattle.vx_link.specs.Parts.{has, method_at}
use Rattle.vx_link.specs.Signature.{signature}
use Rattle.vx_link.specs.declared.program.LinkedMethod.{LinkedMethod}
use Rattle.vx_outcome.specs.declared.outcome.Outcome.{Outcome}
use Rattle.vx_space.specs.Sets.{Extends, Sets}
use Rattle.vx_value.specs.declared.slot.Slot.{Slot}
use Rattle.vx_natives.specs.Arguments.{arguments_of, arguments_with, receivers, room_for, taken_by, where_room, with_receiver}
use Rattle.vx_natives.specs.Forms.{HasBehaviour, is_numbered}
use Rattle.vx_natives.specs.Rows.{by_arguments}
use Rattle.vx_natives.specs.declared.behaviour.Behaviour.{Behaviour}
use Rattle.vx_natives.proofs.NativeRows.{native_row}

-- ---- what a method takes and gives

-- it takes a value or gives one
abbrev serves : (static : Bool) → (descriptor : List ℕ) → Bool
serves static descriptor = nat_lt 0 (length (signature descriptor).arguments + receivers static) || is_some (signature descriptor).result

all_serve : list_all (λ f. serves f.static f.descriptor) forms ≡ true
unfolding method_of types_at type_at element_at result_at is_class_name
all_serve = refl

first : (a b : Bool) → (a && b) ≡ true → a ≡ true
first true b y = refl
first false b y = cc

second : (a b : Bool) → (a && b) ≡ true → b ≡ true
second true b y = y
second false b y = cc

same : (a b : Bool) → same_bool a b ≡ true → b ≡ a
same true true y = refl
same true false y = cc
same false true y = cc
same false false y = refl

form_serves : (forms : List Form) (n : ℕ) → n < length forms → list_all (λ f. serves f.static f.descriptor) forms ≡ true → (f : Form) × (slice_get forms n ≡ Some f) × (serves f.static f.descriptor ≡ true)
form_serves [] n l h = absurd (omega (arith, l))
form_serves (x ∷ xs) zero l h = (x, refl, first (serves x.static x.descriptor) (list_all (λ f. serves f.static f.descriptor) xs) h)
form_serves (x ∷ xs) (suc n) l h = form_serves xs n (omega (arith, l)) (second (serves x.static x.descriptor) (list_all (λ f. serves f.static f.descriptor) xs) h)

module _ (m : LinkedMethod) where
  of_form : (f : Form) → is_form (Some f) m ≡ true → serves f.static f.descriptor ≡ true → serves (has STATIC m.flags) m.descriptor ≡ true
  of_form f x h =
      let described : m.descriptor ≡ f.descriptor = (bytes_eq-Decides m.descriptor f.descriptor).0 (first (bytes_eq m.descriptor f.descriptor) (same_bool f.static (has STATIC m.flags)) x) in
      let static = same f.static (has STATIC m.flags) (second (bytes_eq m.descriptor f.descriptor) (same_bool f.static (has STATIC m.flags)) x) in
      (λ i. serves (static i) (described i)) ∙ h

  by_number : (n : ℕ) → is_numbered n ≡ true → is_form (form_of n) m ≡ true → serves (has STATIC m.flags) m.descriptor ≡ true
  by_number zero k x = cc k
  by_number (suc n) k x =
      let number : suc n < 93 = ltb-true (suc n) 93 (second (nat_lt 0 (suc n)) (nat_lt (suc n) 93) k) in
      let there = form_serves forms n (omega (arith, number)) all_serve in
      of_form there.0 (subst (λ o. is_form o m ≡ true) there.1 x) there.2

  gives_one : (taken : ℕ) (result : Bool) → (nat_lt 0 taken || result) ≡ true → taken ≡ 0 → result ≡ true
  gives_one zero result h k = h
  gives_one (suc n) result h k = absurd (omega (arith, k))

  -- what takes nothing gives a value
  gives : is_numbered m.native ≡ true → has_form m ≡ true → taken_by m ≡ 0 → is_some (signature m.descriptor).result ≡ true
  gives number form none =
      gives_one (length (signature m.descriptor).arguments + receivers (has STATIC m.flags)) (is_some (signature m.descriptor).result) (by_number m.native number form) none

-- ---- no room for it

module _ {S I : Type 0} (site : Site) (heap : HeapView S I) (m : LinkedMethod) (operands : List Slot) (none : taken_by m ≡ 0) where
  left : drop (receivers (has STATIC m.flags)) (drop (length (signature m.descriptor).arguments) operands) ≡ operands
  left =
      let count : length (signature m.descriptor).arguments ≡ 0 = omega (arith, none) in
      let receiver : receivers (has STATIC m.flags) ≡ 0 = omega (arith, none) in
      λ i. drop (receiver i) (drop (count i) operands)

  no_room : (result : Option JavaType) → is_some result ≡ true → site.code.now.max_stack < length operands → room_for site.code.now.max_stack result operands ≡ false
  no_room None h full = absurd (cc h)
  no_room (Some t) h full = lt-leb (width_of_type t + slots_size operands) site.code.now.max_stack (omega (arith, full, slots_size-least operands))

  full_none : is_some (signature m.descriptor).result ≡ true → site.code.now.max_stack < length operands → arguments_of site heap m operands ≡ None
  full_none some full =
      let s = signature m.descriptor in
      let static = has STATIC m.flags in
      let below = drop (length s.arguments) operands in
      ap (λ b. where_room b (arguments_with site.program.now heap m.descriptor s.arguments (reverse (take (length s.arguments) operands)) (with_receiver site.program.now heap static m.class.0 below)))
      (ap (room_for site.code.now.max_stack s.result) left ∙ no_room s.result some full)

-- all runs of the group end
pub full-attempts : {S I : Type 0} (site : Site) (operation : Operation) (m : ℕ) (behaviour : Behaviour) {s0 s1 : Sets I} (heap : HeapView S I) (group : GroupView S I) (outcomes : List (Outcome S I)) → Extends s0 s1 → IsGiven site operation s0 heap group → HasBehaviour site.program.now m behaviour
    → taken_by (method_at site.program.now m) ≡ 0 → site.code.now.max_stack < length group.top.stack.conds → Gives site.program.now (illegal_in site.program.now) s1 s1 group outcomes → AttemptsBy site (λ s. native site.program.now s m) s0 s1 heap heap group outcomes
full-attempts site operation m behaviour {s0 = s0} heap group outcomes e given has none full gives_end = AttemptsBy-ended site operation (λ s. native site.program.now s m) heap group (illegal_in site.program.now) outcomes e given (λ tree stands c t.
    let s = state_at s0 heap tree group c in
    let method = method_at site.program.now m in
    let operands = operands_at s0 group.top.stack c in
    let nothing = full_none site heap method operands none (gives method has.numbered has.form none) (omega (arith, full, length-operands s0 group.top.stack c)) in
    sym (native_row s0 heap c site s m operands given.at_site.code (ap instruction_size given.at_site.found ∙ sym given.at_site.size) refl refl (given_operands_held site operation s0 heap group given c t)
    ∙ ap (by_arguments s0 heap c (native_of method.native) (here site s) (drop (taken_by method) operands)) nothing)) gives_end
