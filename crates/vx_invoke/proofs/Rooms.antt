-- The arguments of a method fit its locals, and slots that fit types are plain values that match them: so the operands on top are what a method may begin with.
use Rattle.std.proofs.Common.{◌≡◌, ◌<◌, ◌≤◌, ◌+◌, ◌-◌, ℕ, zero, suc, Bool, true, false, List, [], ◌∷◌, ◌++◌, Option, Some, None, refl, sym, ◌∙◌, ap, subst, map, arith, drop, length, reverse, take}
use Rattle.std.proofs.lemmas.Bool.Decides.{nat_tests}
use Rattle.std.proofs.lemmas.List.{drop-map, length-drop, length-map, length-reverse, reverse-append, reverse-reverse, take-append-drop, take_at}
use Rattle.std.proofs.lemmas.Simd.{map-map}
use Rattle.std.specs.List.{list_all}
use Rattle.std.specs.Prelude.{◌&&◌, ◌||◌, if◌then◌else◌, is_none, is_some, nat_le, option_map, slice_get, sum_by, unwrap_or}
use Rattle.std.specs.declared.cmp.Ordering.{Ordering}
use Rattle.vx_cond.specs.Cond.{Conditional}
use Rattle.vx_cond.specs.Row.{AreConds, Conditionals, IsRow}
use Rattle.vx_cond.specs.Slots.{or_top, slot_at, slots_at}
use Rattle.vx_cond.proofs.RowSteps.{IsRow-get}
use Rattle.vx_desc.specs.Descriptors.{slots_of}
use Rattle.vx_desc.specs.declared.java_type.JavaType.{JavaType}
use Rattle.vx_families.specs.Bounds.{IsBounded, argument_words, has_argument_room}
use Rattle.vx_families.proofs.SlotSorts.{fits_plain}
use Rattle.vx_frame.specs.Frame.{PlainFrame, Shape}
use Rattle.vx_frame.proofs.FrameLaws.{IsFrame-stack}
use Rattle.vx_frames.specs.Entering.{AreArguments, arguments_at, is_long}
use Rattle.vx_frames.specs.Fitting.{AreMatching, IsReceiver}
use Rattle.vx_frames.proofs.FitLaws.{matching_are_arguments, with_receiver_are_arguments}
use Rattle.vx_group.specs.Group.{GroupView, IsGroup, IsPartOf, path_of}
use Rattle.vx_group.proofs.GroupLaws.{IsGroup-top}
use Rattle.vx_group_states.proofs.GroupParts.{part_frame, part_shape}
use Rattle.vx_group_states.proofs.Operands.{operand_there}
use Rattle.vx_group_states.proofs.SettleLaws.{stack_scope}
use Rattle.vx_heap.specs.Heap.{HeapView, value_of}
use Rattle.vx_java.specs.Calls.{values_matching}
use Rattle.vx_java.specs.Checks.{fits_type, sort_of}
use Rattle.vx_java.specs.Initialisation.{max_locals}
use Rattle.vx_java.specs.Machine.{Value}
use Rattle.vx_link.specs.Parts.{method_at, no_method}
use Rattle.vx_link.specs.declared.program.LinkedMethod.{LinkedMethod}
use Rattle.vx_link.specs.declared.program.Program.{Program}
use Rattle.vx_list.specs.Places.{item_or}
use Rattle.vx_space.specs.Sets.{Sets}
use Rattle.vx_value.specs.Slot.{slot_cmp}
use Rattle.vx_value.specs.declared.ids.MethodId.{MethodId}
use Rattle.vx_value.specs.declared.slot.Slot.{Slot}
use Rattle.vx_value.specs.declared.slot.Slot.TheVariants.{Top}
use Rattle.vx_invoke.specs.Arguments.{arguments_fit, slots_fit, top_slots}
use Rattle.vx_invoke.specs.Called.{MayEnter, top_conds}
use Rattle.vx_invoke.specs.Calling.{operand_at}
use Rattle.vx_invoke.specs.declared.call.Call.{Call}
use Rattle.vx_invoke.specs.declared.call.Call.TheVariants.{Enter}

-- ---- locals

pub each_method : (test : LinkedMethod → Bool) (methods : List LinkedMethod) (n : ℕ) → test no_method ≡ true → list_all test methods ≡ true → test (unwrap_or (slice_get methods n) no_method) ≡ true
each_method test [] n d h = d
each_method test (m ∷ ms) zero d h = first_holds (test m) (list_all test ms) h
  where
    first_holds : (a b : Bool) → (a && b) ≡ true → a ≡ true
    first_holds true b h = refl
    first_holds false b h = cc
each_method test (m ∷ ms) (suc n) d h = each_method test ms n d (second_holds (test m) (list_all test ms) h)
  where
    second_holds : (a b : Bool) → (a && b) ≡ true → b ≡ true
    second_holds true b h = h
    second_holds false b h = cc

-- a method with code has locals for its arguments
pub words_fit : (p : Program) (m : ℕ) → IsBounded p → is_some (method_at p m).code ≡ true → argument_words (method_at p m) ≤ max_locals (method_at p m).code
words_fit p m b h = fits (method_at p m) (each_method has_argument_room p.methods m refl b.arguments) h
  where
    fits : (l : LinkedMethod) → has_argument_room l ≡ true → is_some l.code ≡ true → argument_words l ≤ max_locals l.code
    fits l r s = by_code l.code s r
      where
        by_code : (o : Option _) → is_some o ≡ true → (is_none o || nat_le (argument_words l) (max_locals o)) ≡ true → argument_words l ≤ max_locals o
        by_code None s r = cc
        by_code (Some code) s r = grind (arith, nat_tests)

-- ---- values

pub fit_is_match : {S I : Type 0} (sets : Sets I) (heap : HeapView S I) (c : List Bool) (types : List JavaType) (slots : List Slot) → slots_fit types slots ≡ is_some (values_matching types (map (value_of sets heap c) slots))
fit_is_match sets heap c [] slots = refl
fit_is_match sets heap c (t ∷ types) [] = refl
fit_is_match sets heap c (t ∷ types) (slot ∷ slots) =
    let v = value_of sets heap c slot in
    let rest = values_matching types (map (value_of sets heap c) slots) in
    ap (λ b. b && slots_fit types slots) (sym (fits_plain sets heap c (sort_of t) slot)) ∙ ap (λ b. fits_type t v && b) (fit_is_match sets heap c types slots) ∙ matched (fits_type t v) v rest
  where
    matched : (b : Bool) (v : Value) (o : Option (List Value)) → (b && is_some o) ≡ is_some (if b then option_map (λ vs. v ∷ vs) o else None)
    matched true v None = refl
    matched true v (Some vs) = refl
    matched false v o = refl

-- ---- the operands on top

-- the first of a reversed list are the last ones
pub last_items : {A : Type 0} (n : ℕ) (xs : List A) → n ≤ length xs → reverse (take n (reverse xs)) ≡ drop (length xs - n) xs
last_items n xs l =
    let k = length xs - n in
    let flipped : reverse xs ≡ reverse (drop k xs) ++ reverse (take k xs) = ap reverse (sym (take-append-drop k xs)) ∙ reverse-append (take k xs) (drop k xs) in
    let number : length (reverse (drop k xs)) ≡ n = omega (arith, l, length-reverse (drop k xs), length-drop k xs) in
    ap (λ ys. reverse (take n ys)) flipped ∙ ap reverse (take_at (reverse (drop k xs)) (reverse (take k xs)) n number) ∙ reverse-reverse (drop k xs)

-- the slots of a row are those of its values
pub slots_of_conds : {S I : Type 0} (sets : Sets I) (row : Conditionals Slot S I) (c : List Bool) → slots_at sets row c ≡ arguments_at sets row.conds c
slots_of_conds sets row c = map-map or_top _ row.conds

-- the slots on top are those of the values on top
pub top_slots_of : {S I : Type 0} (sets : Sets I) (group : GroupView S I) (n : ℕ) (c : List Bool) → n ≤ length group.top.stack.conds → top_slots sets group n c ≡ arguments_at sets (top_conds n group.top.stack.conds) c
top_slots_of sets group n c l =
    let conds = group.top.stack.conds in
    let slots = arguments_at sets conds c in
    let number : length slots ≡ length conds = length-map conds _ in
    ap (λ xs. reverse (take n (reverse xs))) (slots_of_conds sets group.top.stack c)
    ∙ last_items n slots (omega (arith, l, number))
    ∙ ap (λ k. drop (k - n) slots) number
    ∙ drop-map (λ cond. slot_at sets cond c) (length conds - n) conds

AreConds-drop : {T S I : Type 0} (cmp : T → T → Ordering) (sets : Sets I) (scope : I) (n : ℕ) (xs : List (Conditional T S I)) → AreConds cmp sets scope xs → AreConds cmp sets scope (drop n xs)
AreConds-drop cmp sets scope zero xs h = h
AreConds-drop cmp sets scope (suc n) [] h = tt
AreConds-drop cmp sets scope (suc n) (x ∷ xs) h = AreConds-drop cmp sets scope n xs h.2

row_conds : {T S I : Type 0} (cmp : T → T → Ordering) (sets : Sets I) (row : Conditionals T S I) → IsRow cmp sets row → AreConds cmp sets row.scope row.conds
unfolding IsRow
row_conds cmp sets row v = v.conds

-- ---- arguments

no_heap : {S I : Type 0} → I → HeapView S I
no_heap allowed = record { objects = []; statics = []; inits = []; texts = []; allowed = allowed; literals = []; resolved = []; words = 0 }

module _ {S I : Type 0} (p : Program) (sets : Sets I) (group : GroupView S I) (types : List JavaType) (v : IsGroup sets group) (enough : length types ≤ length group.top.stack.conds) (fit : (c : List Bool) → sets.test (path_of group) c ≡ true → arguments_fit sets group types c ≡ true) where
  row : IsRow slot_cmp sets group.top.stack
  row = IsFrame-stack sets group.top (IsGroup-top sets group v)

  top_conds_match : (heap : HeapView S I) → AreMatching sets heap (path_of group) types (top_conds (length types) group.top.stack.conds)
  top_conds_match heap =
      let conds = group.top.stack.conds in
      let P : I → Type 0 = λ scope. AreConds slot_cmp sets scope (top_conds (length types) conds) in
      record {
        conds = subst P (stack_scope sets group v) (AreConds-drop slot_cmp sets group.top.stack.scope (length conds - length types) conds (row_conds slot_cmp sets group.top.stack row));
        number = (let left = length-drop (length conds - length types) conds in omega (arith, left, enough));
        matching = λ c t. sym (fit_is_match sets heap c types (arguments_at sets (top_conds (length types) conds) c)) ∙ ap (slots_fit types) (sym (top_slots_of sets group (length types) c enough)) ∙ fit c t;
      }

-- the operands on top are arguments with which a static method begins
pub MayEnter-static : {S I : Type 0} (p : Program) (sets : Sets I) (group : GroupView S I) (types : List JavaType) (count : ℕ) (call : Call) → IsGroup sets group → count ≤ length group.top.stack.conds → length types ≡ count → ((m : MethodId) → call ≡ Enter m → sum_by slots_of types ≤ max_locals (method_at p m.0).code) → ((c : List Bool) → sets.test (path_of group) c ≡ true → arguments_fit sets group types c ≡ true) → MayEnter p sets group count call
MayEnter-static {S = S} {I = I} p sets group types count call v enough number room fit =
    let within : length types ≤ length group.top.stack.conds = omega (arith, enough, number) in
    let heap : HeapView S I = no_heap (path_of group) in
    record {
      enough = enough;
      room = λ m e. (
          let P : ℕ → Type 0 = λ n. AreArguments sets (path_of group) (max_locals (method_at p m.0).code) (top_conds n group.top.stack.conds) in
          subst P number (matching_are_arguments sets heap (path_of group) types (top_conds (length types) group.top.stack.conds) (max_locals (method_at p m.0).code) (top_conds_match p sets group types v within fit heap) (room m e)));
    }

-- an item of a list, and those behind it
item_at : {A : Type 0} (xs : List A) (k : ℕ) → k < length xs → (x : A) × (drop k xs ≡ x ∷ drop (suc k) xs) × (Some x ≡ slice_get xs k)
item_at [] k l = absurd (omega (arith, l))
item_at (x ∷ xs) zero l = (x, refl, refl)
item_at (x ∷ xs) (suc k) l = item_at xs k (omega (arith, l))

-- with a receiver under them, arguments with which another method begins
pub MayEnter-instance : {S I : Type 0} (p : Program) (sets : Sets I) (group : GroupView S I) (types : List JavaType) (count : ℕ) (call : Call) → IsGroup sets group → count ≤ length group.top.stack.conds → suc (length types) ≡ count → ((m : MethodId) → call ≡ Enter m → suc (sum_by slots_of types) ≤ max_locals (method_at p m.0).code) → ((m : MethodId) → call ≡ Enter m → (c : List Bool) → sets.test (path_of group) c ≡ true → is_long (operand_at sets group (length types) c) ≡ false) → ((c : List Bool) → sets.test (path_of group) c ≡ true → arguments_fit sets group types c ≡ true) → MayEnter p sets group count call
MayEnter-instance {S = S} {I = I} p sets group types count call v enough number room short fit =
    let conds = group.top.stack.conds in
    let heap : HeapView S I = no_heap (path_of group) in
    let within : length types ≤ length conds = omega (arith, enough, number) in
    let k = length conds - count in
    let inside : k < length conds = omega (arith, enough, number) in
    let found = item_at conds k inside in
    let receiver : Conditional Slot S I = found.0 in
    let behind : suc k ≡ length conds - length types = omega (arith, enough, number) in
    let split : receiver ∷ top_conds (length types) conds ≡ top_conds count conds = ap (λ n. receiver ∷ drop n conds) (sym behind) ∙ sym found.1 in
    let place : length types + suc k ≡ length conds = omega (arith, enough, number) in
    let parts = IsRow-get slot_cmp sets group.top.stack k receiver (IsFrame-stack sets group.top (IsGroup-top sets group v)) found.2 in
    record {
      enough = enough;
      room = λ m e. (
          let most = max_locals (method_at p m.0).code in
          let P : List (Conditional Slot S I) → Type 0 = λ values. AreArguments sets (path_of group) most values in
          let is_receiver : IsReceiver sets (path_of group) receiver = record {
            is_cond = parts.0;
            scope = parts.1 ∙ stack_scope sets group v;
            short = λ c t. ap is_long (sym (operand_there sets group.top.stack k (length types) receiver c found.2 place)) ∙ short m e c t;
          } in
          subst P split (with_receiver_are_arguments sets heap (path_of group) types receiver (top_conds (length types) conds) most is_receiver (top_conds_match p sets group types v within fit heap) (room m e)));
    }

-- ---- parts of a group

pub arguments_fit-part : {S I : Type 0} (s0 s1 : Sets I) (set : List Bool → Bool) (group part : GroupView S I) (types : List JavaType) → IsPartOf s0 s1 set group part → (c : List Bool) → s1.test (path_of part) c ≡ true → arguments_fit s1 part types c ≡ arguments_fit s0 group types c
arguments_fit-part s0 s1 set group part types q c t = ap (λ (f : PlainFrame). slots_fit types (reverse (take (length types) f.operands))) (part_frame s0 s1 set group part q c t)

pub operand_at-part : {S I : Type 0} (s0 s1 : Sets I) (set : List Bool → Bool) (group part : GroupView S I) (i : ℕ) → IsPartOf s0 s1 set group part → (c : List Bool) → s1.test (path_of part) c ≡ true → operand_at s1 part i c ≡ operand_at s0 group i c
operand_at-part s0 s1 set group part i q c t = ap (λ (f : PlainFrame). item_or f.operands i Top) (part_frame s0 s1 set group part q c t)

-- as many operands
pub operands-part : {S I : Type 0} (s0 s1 : Sets I) (set : List Bool → Bool) (group part : GroupView S I) → IsPartOf s0 s1 set group part → length part.top.stack.conds ≡ length group.top.stack.conds
operands-part s0 s1 set group part q = ap (λ (s : Shape). s.part.depth) (part_shape s0 s1 set group part q)
