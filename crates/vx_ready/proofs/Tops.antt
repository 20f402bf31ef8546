-- The operand on top, and what is asked of operands inside a path.
use Rattle.std.proofs.Common.{◌≡◌, ℕ, ◌+◌, ◌-◌, ◌<◌, zero, suc, Bool, true, false, List, [], ◌∷◌, ◌++◌, ◌&&◌, refl, sym, ◌∙◌, ap, arith, length, take}
use Rattle.std.specs.Prelude.{Option, Some, None, if◌then◌else◌, is_some, nat_le, slice_get}
use Rattle.std.specs.Ordering.{bool_cmp, nat_cmp}
use Rattle.std.specs.declared.cmp.Ordering.{Ordering}
use Rattle.vx_cond.specs.Cond.{Conditional, IsCond, IsCondLifting, IsCondOf, IsInside, cond_at}
use Rattle.vx_cond.specs.Leaves.{IsLifted, value_within}
use Rattle.vx_cond.specs.Row.{Conditionals}
use Rattle.vx_cond.specs.Slots.{or_top, slot_at, slots_at}
use Rattle.vx_cond.proofs.CondLaws.{cond_at-of}
use Rattle.vx_cond.proofs.RowSteps.{IsRow-get}
use Rattle.vx_cond.proofs.SideLaws.{cond_at-covers}
use Rattle.vx_frame.proofs.FrameLaws.{IsFrame-stack}
use Rattle.vx_group.specs.Group.{GroupView, IsGroup, path_of}
use Rattle.vx_group.proofs.GroupLaws.{IsGroup-path_known, IsGroup-top}
use Rattle.vx_heap.proofs.Written.{restricted_scope}
use Rattle.vx_java.specs.declared.operation.Sort.{Sort}
use Rattle.vx_space.specs.Sets.{Extends, IsLawful, IsSet, Sets}
use Rattle.vx_group_states.specs.Answering.{operands_at}
use Rattle.vx_group_states.specs.Widths.{slots_size}
use Rattle.vx_group_states.proofs.AnswerLaws.{operands_at-push}
use Rattle.vx_group_states.proofs.SettleLaws.{lifting_at, stack_scope}
use Rattle.vx_value.specs.Slot.{slot_cmp}
use Rattle.vx_value.specs.declared.operation.Narrow.{Narrow}
use Rattle.vx_value.specs.declared.slot.Slot.{Slot}
use Rattle.vx_ready.specs.Initialising.{is_yes}
use Rattle.vx_families.specs.Sorts.{narrowed_slot, slot_fits, top_fits, top_of}
use Rattle.vx_ready.proofs.Yes.{IsSet-asked}

-- ---- values inside a path

inside_only : {T : Type 0} (o : Option T) (b : Bool) (x : T) → is_some o ≡ b → (b ≡ true → o ≡ Some x) → o ≡ (if b then Some x else None)
inside_only o true x e h = h refl
inside_only None false x e h = refl
inside_only (Some y) false x e h = cc

-- a value that is told inside its scope alone
pub value_inside : {T S I : Type 0} (cmp : T → T → Ordering) {s0 s1 : Sets I} → Extends s0 s1 → (path : I) (cond : Conditional T S I) (value : List Bool → T) → s0.is_known path ≡ true → IsCond cmp s1 cond → cond.scope ≡ path → ((c : List Bool) → s0.test path c ≡ true → cond_at s1 cond c ≡ Some (value c)) → (c : List Bool) → cond_at s1 cond c ≡ (if s0.test path c then Some (value c) else None)
value_inside cmp {s0 = s0} {s1 = s1} e path cond value k v s at c = inside_only (cond_at s1 cond c) (s0.test path c) (value c) (cond_at-covers cmp s1 cond v c ∙ ap (λ i. s1.test i c) s ∙ e.test path c k) (at c)

-- ---- the operand on top

split_last : {A : Type 0} (xs : List A) (n : ℕ) (x : A) → length xs ≡ suc n → Some x ≡ slice_get xs n → xs ≡ take n xs ++ x ∷ []
split_last [] n x l e = absurd (omega (arith, l))
split_last (y ∷ []) zero x l e = ap (λ z. z ∷ []) (let same : y ≡ x = cc in same)
split_last (y ∷ (z ∷ zs)) zero x l e = absurd (omega (arith, l))
split_last (y ∷ ys) (suc n) x l e = ap (λ zs. y ∷ zs) (split_last ys n x (omega (arith, l)) e)

abbrev pub below_top : {S I : Type 0} → Conditionals Slot S I → Conditionals Slot S I
below_top row = record row { conds = take (length row.conds - 1) row.conds }

pub top_operands : {S I : Type 0} (sets : Sets I) (row : Conditionals Slot S I) (x : Conditional Slot S I) (c : List Bool) → 0 < length row.conds → Some x ≡ slice_get row.conds (length row.conds - 1) → operands_at sets row c ≡ slot_at sets x c ∷ operands_at sets (below_top row) c
top_operands {S = S} {I = I} sets row x c some at =
    let n = length row.conds - 1 in
    let count : length row.conds ≡ suc n = omega (arith, some) in
    ap (λ conds. operands_at sets (record row { conds = conds }) c) (split_last row.conds n x count at) ∙ operands_at-push sets (record row { conds = take n row.conds }) x c

module _ {S I : Type 0} (sets : Sets I) (group : GroupView S I) (x : Conditional Slot S I) (v : IsGroup sets group) (some : 0 < length group.top.stack.conds) (at : Some x ≡ slice_get group.top.stack.conds (length group.top.stack.conds - 1)) where
  pub top_is_cond : IsCond slot_cmp sets x
  top_is_cond = (IsRow-get slot_cmp sets group.top.stack (length group.top.stack.conds - 1) x (IsFrame-stack sets group.top (IsGroup-top sets group v)) at).0

  pub top_scope : x.scope ≡ path_of group
  top_scope = (IsRow-get slot_cmp sets group.top.stack (length group.top.stack.conds - 1) x (IsFrame-stack sets group.top (IsGroup-top sets group v)) at).1 ∙ stack_scope sets group v

  pub top_is : (c : List Bool) → top_of (operands_at sets group.top.stack c) ≡ slot_at sets x c
  top_is c = ap top_of (top_operands sets group.top.stack x c some at)

  top_there : (c : List Bool) → sets.test (path_of group) c ≡ true → cond_at sets x c ≡ Some (slot_at sets x c)
  top_there c t = there (cond_at sets x c) (cond_at-covers slot_cmp sets x top_is_cond c ∙ ap (λ i. sets.test i c) top_scope ∙ t)
    where
      there : (o : Option Slot) → is_some o ≡ true → o ≡ Some (or_top o)
      there None h = cc
      there (Some slot) h = refl

  -- where it passes a test
  pub IsSet-where : {later : Sets I} (R : Slot → Bool → Type 0) (q : Slot → Bool) (answers : Conditional Bool S I) (set : I) → ((slot : Slot) (b : Bool) → R slot b → b ≡ q slot) → IsCondLifting bool_cmp later R (cond_at sets x) answers → IsSet later set (λ c. is_yes (cond_at later answers c)) → IsSet later set (λ c. sets.test (path_of group) c && q (slot_at sets x c))
  IsSet-where {later = later} R q answers set law l s = IsSet-asked sets sets later R q (path_of group) (λ c. slot_at sets x c) x answers set law (λ c. inside_only (cond_at sets x c) (sets.test (path_of group) c) (slot_at sets x c) (cond_at-covers slot_cmp sets x top_is_cond c ∙ ap (λ i. sets.test i c) top_scope) (top_there c)) l s

  -- where it fits
  pub IsSet-fitting : {later : Sets I} (R : Slot → Bool → Type 0) (sort : Option Sort) (answers : Conditional Bool S I) (set : I) → Extends sets later → ((slot : Slot) (b : Bool) → R slot b → b ≡ slot_fits sort slot) → IsCondLifting bool_cmp later R (cond_at sets x) answers → IsSet later set (λ c. is_yes (cond_at later answers c)) → IsSet later set (λ c. sets.test (path_of group) c && top_fits sort (operands_at sets group.top.stack c))
  IsSet-fitting {later = later} R sort answers set e law l s =
      let asked = IsSet-where R (slot_fits sort) answers set law l s in
      record { known = asked.known; test = λ c. asked.test c ∙ ap (λ slots. sets.test (path_of group) c && top_fits sort slots) (sym (top_operands sets group.top.stack x c some at)) }

  -- as it is stored inside a path
  module _ {s1 : Sets I} (s2 : Sets I) (R : Slot → Slot → Type 0) (to : Option Narrow) (inside values : Conditional Slot S I) (path : I) (i : IsInside sets path (path_of group)) (k : sets.is_known path ≡ true) (e : Extends sets s1) (w : IsCondOf slot_cmp s1 (value_within sets path (cond_at sets x)) inside) (l : IsCondLifting slot_cmp s2 R (cond_at s1 inside) values) where
    pub stored_scope : IsLawful s1 → values.scope ≡ inside.scope → values.scope ≡ path
    stored_scope lawful s = s ∙ restricted_scope slot_cmp lawful e x inside path top_is_cond k (record { inside = λ c t. ap (λ j. sets.test j c) top_scope ∙ i.inside c t }) w

    pub stored_at : ((a b : Slot) → R a b → b ≡ narrowed_slot to a) → (c : List Bool) → sets.test path c ≡ true → slot_at s2 values c ≡ narrowed_slot to (top_of (operands_at sets group.top.stack c))
    stored_at law c t =
        lifted (cond_at s1 inside c) (cond_at s2 values c) (slot_at sets x c) (cond_at-of slot_cmp s1 _ inside c w ∙ within (sets.test path c) (cond_at sets x c) t ∙ top_there c (i.inside c t)) (lifting_at slot_cmp s2 R (cond_at s1 inside) values l c)
        ∙ ap (narrowed_slot to) (sym (top_is c))
      where
        within : {T : Type 0} (b : Bool) (o : Option T) → b ≡ true → (if b then o else None) ≡ o
        within b o h = rw h refl

        lifted : (a b : Option Slot) (slot : Slot) → a ≡ Some slot → IsLifted R a b → or_top b ≡ narrowed_slot to slot
        lifted None b slot h m = cc
        lifted (Some a) None slot h m = absurd m
        lifted (Some a) (Some b) slot h m =
            let same : a ≡ slot = cc in
            law a b m ∙ ap (narrowed_slot to) same

-- ---- room

pub IsSet-room : {S I : Type 0} {s0 s1 s2 : Sets I} (R : ℕ → Bool → Type 0) (width room : ℕ) (group : GroupView S I) (sizes : Conditional ℕ S I) (answers : Conditional Bool S I) (set : I) → IsGroup s0 group → Extends s0 s1 → IsCond nat_cmp s1 sizes → sizes.scope ≡ group.top.stack.scope → ((c : List Bool) → s0.test group.top.stack.scope c ≡ true → cond_at s1 sizes c ≡ Some (slots_size (slots_at s0 group.top.stack c))) → ((n : ℕ) (b : Bool) → R n b → b ≡ nat_le (width + n) room) → IsCondLifting bool_cmp s2 R (cond_at s1 sizes) answers → IsSet s2 set (λ c. is_yes (cond_at s2 answers c)) → IsSet s2 set (λ c. s0.test (path_of group) c && nat_le (width + slots_size (slots_at s0 group.top.stack c)) room)
IsSet-room {s0 = s0} {s1 = s1} {s2 = s2} R width room group sizes answers set v e w scope at law l s =
    let path = stack_scope s0 group v in
    IsSet-asked s0 s1 s2 R (λ n. nat_le (width + n) room) (path_of group) (λ c. slots_size (slots_at s0 group.top.stack c)) sizes answers set law (value_inside nat_cmp e (path_of group) sizes (λ c. slots_size (slots_at s0 group.top.stack c)) (IsGroup-path_known s0 group v) w (scope ∙ path) (λ c t. at c (ap (λ i. s0.test i c) path ∙ t))) l s
