-- The set of the configurations in which operands are of the sorts of types, type by type.
use Rattle.std.proofs.Common.{◌≡◌, ℕ, ◌+◌, ◌-◌, ◌<◌, ◌≤◌, zero, suc, Bool, true, false, List, [], ◌∷◌, refl, sym, ◌∙◌, ap, subst, arith, drop, get_or, length, take}
use Rattle.std.proofs.lemmas.List.{take_all}
use Rattle.std.proofs.lemmas.Option.{slice_get-map}
use Rattle.std.specs.Prelude.{◌&&◌, Some, option_map, slice_get}
use Rattle.vx_cond.specs.Cond.{Conditional, IsCond}
use Rattle.vx_cond.specs.Slots.{or_top, slot_at}
use Rattle.vx_cond.proofs.CondLaws.{IsCond-extends, cond_at-extends}
use Rattle.vx_cond.proofs.RowSteps.{IsRow-get}
use Rattle.vx_desc.specs.declared.java_type.JavaType.{JavaType}
use Rattle.vx_families.specs.Sorts.{slot_fits}
use Rattle.vx_frame.proofs.FrameLaws.{IsFrame-stack}
use Rattle.vx_frames.specs.Entering.{arguments_at}
use Rattle.vx_group.specs.Group.{GroupView, IsGroup, path_of}
use Rattle.vx_group.proofs.GroupLaws.{IsGroup-path_known, IsGroup-top}
use Rattle.vx_group_states.proofs.SettleLaws.{stack_scope}
use Rattle.vx_java.specs.Checks.{sort_of}
use Rattle.vx_space.specs.Sets.{Extends, IsSet, Sets}
use Rattle.vx_space.proofs.Spaces.{Extends-refl, Extends-trans}
use Rattle.vx_value.specs.Slot.{slot_cmp}
use Rattle.vx_value.specs.declared.slot.Slot.{Slot}
use Rattle.vx_invoke.proofs.Rooms.{top_slots_of}
use Rattle.vx_invoke.specs.Arguments.{arguments_fit, slots_fit, top_slots}
use Rattle.vx_invoke.specs.Called.{top_conds}

-- ---- one type more

with_true : (b : Bool) → (b && true) ≡ b
with_true true = refl
with_true false = refl

regrouped : (a b c : Bool) → (a && (b && c)) ≡ ((a && b) && c)
regrouped true b c = refl
regrouped false b c = refl

slots_fit_more : (types : List JavaType) (slots : List Slot) (i : ℕ) (t : JavaType) (s : Slot) → i < length types → t ≡ get_or types i t → Some s ≡ slice_get slots i → slots_fit (take (i + 1) types) slots ≡ (slots_fit (take i types) slots && slot_fits (sort_of t) s)
slots_fit_more [] slots i t s l e g = absurd (omega (arith, l))
slots_fit_more (u ∷ us) [] i t s l e g = cc
slots_fit_more (u ∷ us) (x ∷ xs) zero t s l e g =
    let same : s ≡ x = cc in
    with_true (slot_fits (sort_of u) x) ∙ (λ j. slot_fits (sort_of (sym e j)) (sym same j))
slots_fit_more (u ∷ us) (x ∷ xs) (suc i) t s l e g =
    let next : suc i + 1 ≡ suc (i + 1) = omega arith in
    ap (λ n. slots_fit (take n (u ∷ us)) (x ∷ xs)) next
    ∙ ap (λ b. slot_fits (sort_of u) x && b) (slots_fit_more us xs i t s (omega (arith, l)) e g)
    ∙ regrouped (slot_fits (sort_of u) x) (slots_fit (take i us) xs) (slot_fits (sort_of t) s)

item_behind : {A : Type 0} (xs : List A) (k i : ℕ) → slice_get (drop k xs) i ≡ slice_get xs (k + i)
item_behind xs zero i = ap (slice_get xs) (omega arith)
item_behind [] (suc k) i = refl
item_behind (x ∷ xs) (suc k) i =
    let next : suc (k + i) ≡ suc k + i = omega arith in
    item_behind xs k i ∙ ap (slice_get (x ∷ xs)) next

slot_of_item : {S I : Type 0} (sets : Sets I) (conds : List (Conditional Slot S I)) (i : ℕ) (x : Conditional Slot S I) (c : List Bool) → Some x ≡ slice_get conds i → Some (slot_at sets x c) ≡ slice_get (arguments_at sets conds c) i
slot_of_item sets conds i x c e = ap (option_map (λ cond. slot_at sets cond c)) e ∙ sym (slice_get-map (λ cond. slot_at sets cond c) conds i)

-- ---- the loop

-- what it keeps: the configurations in which the first types fit
pub record IsMatching {S I : Type 0} (start sets : Sets I) (group : GroupView S I) (types : List JavaType) (i : ℕ) (matching : I) : Type 0 where
  pub extends : Extends start sets
  pub set : IsSet sets matching (λ c. start.test (path_of group) c && slots_fit (take i types) (top_slots start group (length types) c))

pub IsMatching-start : {S I : Type 0} (sets : Sets I) (group : GroupView S I) (types : List JavaType) (path : I) → path ≡ path_of group → IsGroup sets group → IsMatching sets sets group types 0 path
IsMatching-start {S = S} {I = I} sets group types path e v =
    let P : I → Type 0 = λ id. IsMatching sets sets group types 0 id in
    subst P (sym e) (record {
      extends = Extends-refl sets;
      set = record { known = IsGroup-path_known sets group v; test = λ c. sym (with_true (sets.test (path_of group) c)) };
    })

inside_both : (path before next : Bool) → ((path && before) && (path && next)) ≡ (path && (before && next))
inside_both true before next = refl
inside_both false before next = refl

module _ {S I : Type 0} {s0 s1 : Sets I} (group : GroupView S I) (types : List JavaType) (i below : ℕ) (x : Conditional Slot S I) (matching : I) (v : IsGroup s0 group) (enough : length types ≤ length group.top.stack.conds) (b : below ≡ length group.top.stack.conds - length types) (at : Some x ≡ slice_get group.top.stack.conds (below + i)) (m : IsMatching s0 s1 group types i matching) where
  operand : IsCond slot_cmp s0 x × (x.scope ≡ group.top.stack.scope)
  operand = IsRow-get slot_cmp s0 group.top.stack (below + i) x (IsFrame-stack s0 group.top (IsGroup-top s0 group v)) at

  -- the next operand is one over the later space
  pub operand_is_cond : IsCond slot_cmp s1 x
  operand_is_cond = IsCond-extends slot_cmp m.extends x operand.0

  slot_there : (c : List Bool) → Some (slot_at s0 x c) ≡ slice_get (top_slots s0 group (length types) c) i
  slot_there c =
      let conds = group.top.stack.conds in
      let item : Some x ≡ slice_get (top_conds (length types) conds) i = at ∙ ap (λ k. slice_get conds (k + i)) b ∙ sym (item_behind conds (length conds - length types) i) in
      slot_of_item s0 (top_conds (length types) conds) i x c item ∙ ap (λ slots. slice_get slots i) (sym (top_slots_of s0 group (length types) c enough))

  scope_there : (c : List Bool) → s1.test x.scope c ≡ s0.test (path_of group) c
  scope_there c = ap (λ id. s1.test id c) (operand.1 ∙ stack_scope s0 group v) ∙ m.extends.test (path_of group) c (IsGroup-path_known s0 group v)

  slot_same : (c : List Bool) → slot_at s1 x c ≡ slot_at s0 x c
  slot_same c = ap or_top (cond_at-extends slot_cmp m.extends x operand.0 c)

  pub IsMatching-step : (s2 s3 : Sets I) (t : JavaType) (fitting more : I) → i < length types → Extends s1 s2 → IsSet s2 fitting (λ c. s1.test x.scope c && slot_fits (sort_of t) (slot_at s1 x c)) → Extends s2 s3 → IsSet s3 more (λ c. s2.test matching c && s2.test fitting c) → t ≡ get_or types i t → IsMatching s0 s3 group types (i + 1) more
  IsMatching-step s2 s3 t fitting more l f fits g all e = record {
    extends = Extends-trans m.extends (Extends-trans f g);
    set = record {
      known = all.known;
      test = λ c.
          let path = s0.test (path_of group) c in
          let slots = top_slots s0 group (length types) c in
          all.test c
          ∙ (λ j. (f.test matching c m.set.known ∙ m.set.test c) j && (fits.test c ∙ (λ k. scope_there c k && slot_fits (sort_of t) (slot_same c k))) j)
          ∙ inside_both path (slots_fit (take i types) slots) (slot_fits (sort_of t) (slot_at s0 x c))
          ∙ ap (λ b. path && b) (sym (slots_fit_more types slots i t (slot_at s0 x c) l e (slot_there c)));
    };
  }

pub IsMatching-end : {S I : Type 0} {s0 s1 : Sets I} (group : GroupView S I) (types : List JavaType) (i : ℕ) (matching : I) → IsMatching s0 s1 group types i matching → length types ≤ i → IsSet s1 matching (λ c. s0.test (path_of group) c && arguments_fit s0 group types c)
IsMatching-end {s0 = s0} group types i matching m l = record {
  known = m.set.known;
  test = λ c. m.set.test c ∙ ap (λ ts. s0.test (path_of group) c && slots_fit ts (top_slots s0 group (length types) c)) (take_all i types l);
}
