-- What calls are given at all configurations: arguments put behind one another, and receivers under them.
use Rattle.std.proofs.Common.{◌≡◌, ℕ, ◌+◌, ◌-◌, ◌<◌, ◌≤◌, zero, suc, Bool, true, false, List, [], ◌∷◌, ◌++◌, refl, sym, ◌∙◌, ap, arith, drop, length, reverse, take, if◌then◌else◌}
use Rattle.std.proofs.lemmas.List.{drop-drop, drop_all, length-drop, length-map, length-reverse, reverse-append, reverse-reverse, take-append-drop, take-append-le, take_all}
use Rattle.std.specs.Prelude.{None, Option, Some, is_some, option_map, slice_get, unwrap_or}
use Rattle.vx_cond.specs.Cond.{Conditional, IsCond, IsCondLifting, IsCondOf, cond_at}
use Rattle.vx_cond.specs.Leaves.{value_within}
use Rattle.vx_cond.specs.Row.{Conditionals, IsRow}
use Rattle.vx_cond.specs.Slots.{slot_at, slots_at}
use Rattle.vx_cond.proofs.CondLaws.{cond_at-extends, cond_at-of}
use Rattle.vx_cond.proofs.RowSteps.{IsRow-get, slots_at-get}
use Rattle.vx_cond.proofs.SideLaws.{cond_at-covers}
use Rattle.vx_class.specs.Members.{STATIC}
use Rattle.vx_desc.specs.declared.java_type.Descriptor.{Descriptor}
use Rattle.vx_desc.specs.declared.java_type.JavaType.{JavaType}
use Rattle.vx_families.proofs.Tops.{lifted_one}
use Rattle.vx_group.proofs.GroupLaws.{IsGroup-path_known}
use Rattle.vx_group.specs.Group.{GroupView, IsGroup, path_of}
use Rattle.vx_group_states.proofs.Operands.{length-operands, operand_there}
use Rattle.vx_group_states.proofs.SettleLaws.{lifting_at, stack_scope}
use Rattle.vx_group_states.specs.Answering.{operands_at}
use Rattle.vx_group_states.specs.declared.site.Site.{Site}
use Rattle.vx_heap.specs.Heap.{HeapView}
use Rattle.vx_java.specs.Ids.{as_class}
use Rattle.vx_link.specs.ClassNames.{class_of_type}
use Rattle.vx_link.specs.Parts.{has, method_at}
use Rattle.vx_link.specs.Signature.{signature}
use Rattle.vx_link.specs.declared.program.LinkedMethod.{LinkedMethod}
use Rattle.vx_link.specs.declared.program.Program.{Program}
use Rattle.vx_list.specs.Places.{item_or}
use Rattle.vx_ready.proofs.Going.{operands_later}
use Rattle.vx_space.proofs.Spaces.{Extends-refl, Extends-trans}
use Rattle.vx_space.specs.Sets.{Extends, Sets}
use Rattle.vx_value.specs.Slot.{slot_cmp}
use Rattle.vx_value.specs.declared.slot.Slot.{Slot}
use Rattle.vx_value.specs.declared.slot.Slot.TheVariants.{Top}
use Rattle.vx_natives.specs.Arguments.{argument, arguments_of, arguments_with, receivers, room_for, taken_by, where_room, with_receiver, with_slot}
use Rattle.vx_natives.specs.CallOrder.{call_cmp}
use Rattle.vx_natives.specs.Calls.{call_at, call_given, call_where, with_argument}
use Rattle.vx_natives.specs.declared.call.Call.{Call}
use Rattle.vx_natives.specs.declared.call.Call.TheVariants.{Illegal}
use Rattle.vx_natives.proofs.CallLaws.{given_more}

-- ---- lists

-- what is left begins with the item of the place
pub left_at : {A : Type 0} (xs : List A) (j : ℕ) (x : A) → Some x ≡ slice_get xs j → drop j xs ≡ x ∷ drop (suc j) xs
left_at [] j x e = cc
left_at (y ∷ ys) zero x e =
    let same : x ≡ y = cc in
    λ i. sym same i ∷ ys
left_at (y ∷ ys) (suc j) x e = left_at ys j x e

left_item : {A : Type 0} (xs : List A) (j : ℕ) (d : A) → j < length xs → drop j xs ≡ item_or xs j d ∷ drop (suc j) xs
left_item [] j d l = absurd (omega (arith, l))
left_item (x ∷ xs) zero d l = refl
left_item (x ∷ xs) (suc j) d l = left_item xs j d (omega (arith, l))

-- so many from the end, of a list that is written backwards
pub top_of_reversed : {A : Type 0} (n : ℕ) (xs : List A) → n ≤ length xs → reverse (take n (reverse xs)) ≡ drop (length xs - n) xs
top_of_reversed n xs l =
    let k = length xs - n in
    let upper = reverse (drop k xs) in
    let lower = reverse (take k xs) in
    let parts : reverse xs ≡ upper ++ lower = sym (ap reverse (take-append-drop k xs)) ∙ reverse-append (take k xs) (drop k xs) in
    let number : length upper ≡ n = omega (arith, l, length-reverse (drop k xs), length-drop k xs) in
    ap (λ ys. reverse (take n ys)) parts
    ∙ ap reverse (take-append-le n upper lower (omega (arith, number)) ∙ take_all n upper (omega (arith, number)))
    ∙ reverse-reverse (drop k xs)

-- ---- arguments one after the other

-- so many arguments are behind what a call had
pub record IsSoFar {S I : Type 0} (p : Program) (heap : HeapView S I) (d : List ℕ) (types : List JavaType) (slots : List Slot) (i : ℕ) (given : Option (List Slot)) (call : Call) : Type 0 where
  pub now : Option (List Slot)
  pub is : call ≡ call_given now
  pub whole : arguments_with p heap d (drop i types) (drop i slots) now ≡ arguments_with p heap d types slots given

IsSoFar-step : {S I : Type 0} (p : Program) (heap : HeapView S I) (d : List ℕ) (types : List JavaType) (slots : List Slot) (i : ℕ) (given : Option (List Slot)) (call after : Call) (t : JavaType) (x : Slot) → drop i types ≡ t ∷ drop (i + 1) types → drop i slots ≡ x ∷ drop (i + 1) slots → after ≡ with_argument call (argument p heap (option_map as_class (class_of_type p d t)) t x) → IsSoFar p heap d types slots i given call → IsSoFar p heap d types slots (i + 1) given after
IsSoFar-step p heap d types slots i given call after t x ts xs e so =
    let more = argument p heap (option_map as_class (class_of_type p d t)) t x in
    record {
      now = with_slot so.now more;
      is = e ∙ ap (λ k. with_argument k more) so.is ∙ given_more so.now more;
      whole = sym (λ j. arguments_with p heap d (ts j) (xs j) so.now) ∙ so.whole;
    }

-- at each configuration
pub record IsArguing {S I : Type 0} (p : Program) (heap : HeapView S I) (d : List ℕ) (types : List JavaType) (row : Conditionals Slot S I) (s0 s1 : Sets I) (start : Conditional Call S I) (i : ℕ) (calls : Conditional Call S I) : Type 0 where
  pub extends : Extends s0 s1
  pub is_cond : IsCond call_cmp s1 calls
  pub scope : calls.scope ≡ row.scope
  pub at : (c : List Bool) → s0.test row.scope c ≡ true → (given : Option (List Slot)) → call_at s0 start c ≡ call_given given → IsSoFar p heap d types (drop (length row.conds - length types) (slots_at s0 row c)) i given (call_at s1 calls c)

module _ {S I : Type 0} (p : Program) (heap : HeapView S I) (d : List ℕ) (types : List JavaType) (row : Conditionals Slot S I) {s0 : Sets I} (start : Conditional Call S I) where
  pub IsArguing-start : IsCond call_cmp s0 start → start.scope ≡ row.scope → IsArguing p heap d types row s0 s0 start 0 start
  IsArguing-start v scope = record { extends = Extends-refl s0; is_cond = v; scope = scope; at = λ c t given e. record { now = given; is = e; whole = refl } }

  pub IsArguing-step : {s1 s2 : Sets I} (i : ℕ) (t : JavaType) (operand : Conditional Slot S I) (calls after : Conditional Call S I) → IsRow slot_cmp s0 row → s0.is_known row.scope ≡ true → drop i types ≡ t ∷ drop (i + 1) types → Some operand ≡ slice_get row.conds (length row.conds - length types + i) → IsArguing p heap d types row s0 s1 start i calls → Extends s1 s2 → IsCond call_cmp s2 after → after.scope ≡ calls.scope → ((c : List Bool) → s1.test calls.scope c ≡ true → call_at s2 after c ≡ with_argument (call_at s1 calls c) (argument p heap (option_map as_class (class_of_type p d t)) t (slot_at s1 operand c))) → IsArguing p heap d types row s0 s2 start (i + 1) after
  IsArguing-step {s1 = s1} {s2 = s2} i t operand calls after v known ts get a e cond scope at =
      let below = length row.conds - length types in
      let one = IsRow-get slot_cmp s0 row (below + i) operand v get in
      record {
        extends = Extends-trans a.extends e;
        is_cond = cond;
        scope = scope ∙ a.scope;
        at = λ c u given g.
            let slots = slots_at s0 row c in
            let x = slot_at s0 operand c in
            let inside : s1.test calls.scope c ≡ true = ap (λ j. s1.test j c) a.scope ∙ a.extends.test row.scope c known ∙ u in
            let same : slot_at s1 operand c ≡ x = ap (λ o. unwrap_or o Top) (cond_at-extends slot_cmp a.extends operand one.0 c) in
            let number : suc (below + i) ≡ below + (i + 1) = omega arith in
            let there : drop i (drop below slots) ≡ x ∷ drop (i + 1) (drop below slots) =
            drop-drop i below slots
            ∙ left_at slots (below + i) x (slots_at-get s0 row (below + i) operand c get)
            ∙ ap (λ xs. x ∷ xs) (ap (λ n. drop n slots) number ∙ sym (drop-drop (i + 1) below slots)) in
            IsSoFar-step p heap d types (drop below slots) i given (call_at s1 calls c) (call_at s2 after c) t x ts there (at c inside ∙ ap (λ y. with_argument (call_at s1 calls c) (argument p heap (option_map as_class (class_of_type p d t)) t y)) same) (a.at c u given g);
      }

  pub arguing_done : {s1 : Sets I} (i : ℕ) (calls : Conditional Call S I) → length types ≤ i → IsArguing p heap d types row s0 s1 start i calls → (c : List Bool) → s0.test row.scope c ≡ true → (given : Option (List Slot)) → call_at s0 start c ≡ call_given given → call_at s1 calls c ≡ call_given (arguments_with p heap d types (drop (length row.conds - length types) (slots_at s0 row c)) given)
  arguing_done i calls l a c t given g =
      let slots = drop (length row.conds - length types) (slots_at s0 row c) in
      let so = a.at c t given g in
      so.is ∙ ap call_given (ap (λ ts. arguments_with p heap d ts (drop i slots) so.now) (sym (drop_all i types l)) ∙ so.whole)

-- ---- receivers

-- the same call at each configuration of a scope
pub same_call : {S I : Type 0} (sets : Sets I) (scope : I) (call : Call) (calls : Conditional Call S I) → IsCondOf call_cmp sets (value_within sets scope (λ _. Some call)) calls → (c : List Bool) → sets.test scope c ≡ true → call_at sets calls c ≡ call
same_call sets scope call calls v c t = ap (λ o. unwrap_or o Illegal) (cond_at-of call_cmp sets _ calls c v ∙ inside (sets.test scope c) t)
  where
    inside : (b : Bool) → b ≡ true → (if b then Some call else None) ≡ Some call
    inside b h = rw h refl

-- the operand under so many others
pub receiver_at : {S I : Type 0} (p : Program) (heap : HeapView S I) (class count i : ℕ) (s0 s1 : Sets I) (row : Conditionals Slot S I) (operand : Conditional Slot S I) (R : Slot → Call → Type 0) (f : Slot → Call) (calls : Conditional Call S I) → ((s : Slot) (k : Call) → R s k → k ≡ f s) → ((s : Slot) (rest : List Slot) → f s ≡ call_given (with_receiver p heap false class (s ∷ rest))) → IsRow slot_cmp s0 row → Some operand ≡ slice_get row.conds i → count + suc i ≡ length row.conds → IsCondLifting call_cmp s1 R (cond_at s0 operand) calls → (c : List Bool) → s0.test row.scope c ≡ true → call_at s1 calls c ≡ call_given (with_receiver p heap false class (drop count (operands_at s0 row c)))
receiver_at p heap class count i s0 s1 row operand R f calls law same v get last l c t =
    let one = IsRow-get slot_cmp s0 row i operand v get in
    let covered : is_some (cond_at s0 operand c) ≡ true = cond_at-covers slot_cmp s0 operand one.0 c ∙ ap (λ j. s0.test j c) one.1 ∙ t in
    let operands = operands_at s0 row c in
    let number : count < length operands = omega (arith, last, length-operands s0 row c) in
    lifted_one Illegal R f (cond_at s0 operand c) (cond_at s1 calls c) law covered (lifting_at call_cmp s1 R (cond_at s0 operand) calls l c)
    ∙ ap f (sym (operand_there s0 row i count operand c get last))
    ∙ same (item_or operands count Top) (drop (suc count) operands)
    ∙ ap (λ below. call_given (with_receiver p heap false class below)) (sym (left_item operands count Top number))

-- ---- room

pub where_given : (given : Option (List Slot)) (room : Bool) → call_where (call_given given) room ≡ call_given (where_room room given)
where_given given true = refl
where_given given false = refl

-- how many arguments a signature has that was read
pub number_read : (m : LinkedMethod) (text : List ℕ) (read : Descriptor) (n : ℕ) → text ≡ m.descriptor → read ≡ signature text → n ≡ length read.arguments → n ≡ length (signature m.descriptor).arguments
number_read m text read n e f number = number ∙ ap (λ (d : Descriptor). length d.arguments) f ∙ ap (λ (bytes : List ℕ). length (signature bytes).arguments) e

-- ---- the whole call

module _ {S I : Type 0} (site : Site) (m : ℕ) (s0 s1 s2 s3 : Sets I) (heap : HeapView S I) (group : GroupView S I) (v : IsGroup s0 group) (e01 : Extends s0 s1) (e12 : Extends s1 s2) where
  abbrev method : LinkedMethod
  method = method_at site.program.now m

  abbrev count : ℕ
  count = length (signature (method_at site.program.now m).descriptor).arguments

  abbrev static : Bool
  static = has STATIC (method_at site.program.now m).flags

  known : s0.is_known (path_of group) ≡ true
  known = IsGroup-path_known s0 group v

  scope_is : group.top.stack.scope ≡ path_of group
  scope_is = stack_scope s0 group v

  pub whole_call : (start calls within : Conditional Call S I) → taken_by (method_at site.program.now m) ≤ length group.top.stack.conds → ((c : List Bool) → s0.test group.top.stack.scope c ≡ true → call_at s1 start c ≡ call_given (with_receiver site.program.now heap (has STATIC (method_at site.program.now m).flags) (method_at site.program.now m).class.0 (drop (length (signature (method_at site.program.now m).descriptor).arguments) (operands_at s0 group.top.stack c)))) → ((c : List Bool) → s1.test group.top.stack.scope c ≡ true → (given : Option (List Slot)) → call_at s1 start c ≡ call_given given → call_at s2 calls c ≡ call_given (arguments_with site.program.now heap (method_at site.program.now m).descriptor (signature (method_at site.program.now m).descriptor).arguments (drop (length group.top.stack.conds - length (signature (method_at site.program.now m).descriptor).arguments) (slots_at s1 group.top.stack c)) given)) → ((c : List Bool) → s2.test group.top.stack.scope c ≡ true → call_at s3 within c ≡ call_where (call_at s2 calls c) (room_for site.code.now.max_stack (signature (method_at site.program.now m).descriptor).result (drop (taken_by (method_at site.program.now m)) (operands_at s2 group.top.stack c)))) → (c : List Bool) → s0.test (path_of group) c ≡ true → call_at s3 within c ≡ call_given (arguments_of site heap (method_at site.program.now m) (operands_at s0 group.top.stack c))
  whole_call start calls within enough first behind room c t =
      let p = site.program.now in
      let stack = group.top.stack in
      let operands = operands_at s0 stack c in
      let slots = slots_at s0 stack c in
      let result = (signature method.descriptor).result in
      let inside : s0.test stack.scope c ≡ true = ap (λ i. s0.test i c) scope_is ∙ t in
      let stack_known : s0.is_known stack.scope ≡ true = ap s0.is_known scope_is ∙ known in
      let inside1 : s1.test stack.scope c ≡ true = e01.test stack.scope c stack_known ∙ inside in
      let inside2 : s2.test stack.scope c ≡ true = (Extends-trans e01 e12).test stack.scope c stack_known ∙ inside in
      let given = with_receiver p heap static method.class.0 (drop count operands) in
      let later : slots_at s1 stack c ≡ slots = sym (reverse-reverse (slots_at s1 stack c)) ∙ ap reverse (operands_later e01 group v c) ∙ reverse-reverse slots in
      let long : length slots ≡ length stack.conds = simp length-map refl in
      let few : count ≤ length slots = omega (arith, long, enough) in
      let args : drop (length stack.conds - count) (slots_at s1 stack c) ≡ reverse (take count operands) = (λ i. drop (sym long i - count) (later i)) ∙ sym (top_of_reversed count slots few) in
      let left : drop (taken_by method) (operands_at s2 stack c) ≡ drop (receivers static) (drop count operands) = ap (drop (taken_by method)) (operands_later (Extends-trans e01 e12) group v c) ∙ sym (drop-drop (receivers static) count operands) in
      room c inside2
      ∙ ap (λ k. call_where k (room_for site.code.now.max_stack result (drop (taken_by method) (operands_at s2 stack c)))) (behind c inside1 given (first c inside) ∙ ap (λ xs. call_given (arguments_with p heap method.descriptor (signature method.descriptor).arguments xs given)) args)
      ∙ ap (λ rest. call_where (call_given (arguments_with p heap method.descriptor (signature method.descriptor).arguments (reverse (take count operands)) given)) (room_for site.code.now.max_stack result rest)) left
      ∙ where_given (arguments_with p heap method.descriptor (signature method.descriptor).arguments (reverse (take count operands)) given) (room_for site.code.now.max_stack result (drop (receivers static) (drop count operands)))
