-- Operands that are settled: from sizes to what the parts come to.
use Rattle.std.proofs.Common.{◌≡◌, ℕ, ◌+◌, ◌≤◌, Bool, true, false, List, sym, ◌∙◌, ap, subst, length, arith}
use Rattle.std.proofs.lemmas.Bool.{le-leb}
use Rattle.std.proofs.lemmas.List.{length-map}
use Rattle.std.specs.Prelude.{Option, Some, None, nat_le, unwrap_or}
use Rattle.std.specs.Ordering.{bool_cmp}
use Rattle.std.specs.declared.cmp.Ordering.{Ordering}
use Rattle.vx_space.specs.Sets.{Sets, Extends}
use Rattle.vx_space.proofs.Spaces.{Extends-refl, Extends-trans}
use Rattle.vx_cond.specs.Cond.{Conditional, IsCond, IsCondLifting, cond_at}
use Rattle.vx_cond.specs.Leaves.{IsLifted}
use Rattle.vx_cond.specs.Row.{IsRow}
use Rattle.vx_cond.specs.Slots.{slots_at}
use Rattle.vx_value.specs.Slot.{slot_cmp}
use Rattle.vx_frame.proofs.FrameLaws.{IsFrame-one_scope}
use Rattle.vx_group.specs.Group.{GroupView, IsGroup, path_of}
use Rattle.vx_group.proofs.GroupLaws.{IsGroup-one_scope, IsGroup-top}
use Rattle.vx_heap.specs.Heap.{HeapView}
use Rattle.vx_java.specs.Machine.{go, illegal, settle, when}
use Rattle.vx_outcome.specs.declared.outcome.Outcome.{Outcome}
use Rattle.vx_group_states.specs.Stands.{state_at}
use Rattle.vx_group_states.specs.Sites.{Gives, GivesAt, here, settled_by}
use Rattle.vx_group_states.specs.Widths.{slots_size}
use Rattle.vx_group_states.specs.declared.site.Site.{Site}
use Rattle.vx_group_states.proofs.EndingLaws.{GivesAt-before}
use Rattle.vx_group_states.proofs.StateLaws.{IsGroup-moved}
use Rattle.vx_group_states.proofs.Fitting.{slots_size-most, stack_size_of}

pub lifting_cond : {T U S I : Type 0} (cmp : U → U → Ordering) (sets : Sets I) (R : T → U → Type 0) (value : List Bool → Option T) (cond : Conditional U S I) → IsCondLifting cmp sets R value cond → IsCond cmp sets cond
unfolding IsCondLifting
lifting_cond cmp sets R value cond l = l.is_cond

pub lifting_at : {T U S I : Type 0} (cmp : U → U → Ordering) (sets : Sets I) (R : T → U → Type 0) (value : List Bool → Option T) (cond : Conditional U S I) → IsCondLifting cmp sets R value cond → (c : List Bool) → IsLifted R (value c) (cond_at sets cond c)
unfolding IsCondLifting
lifting_at cmp sets R value cond l c = l.at c

-- the scope of the operands of a group
pub stack_scope : {S I : Type 0} (sets : Sets I) (group : GroupView S I) → IsGroup sets group → group.top.stack.scope ≡ path_of group
stack_scope sets group v = IsFrame-one_scope sets group.top (IsGroup-top sets group v) ∙ IsGroup-one_scope sets group v

truth : (R : ℕ → Bool → Type 0) (n : Option ℕ) (b : Option Bool) (size most : ℕ) → ((n : ℕ) (b : Bool) → R n b → b ≡ nat_le n most) → n ≡ Some size → IsLifted R n b → unwrap_or b false ≡ nat_le size most
truth R None b size most law e l = cc
truth R (Some n) None size most law e l = absurd l
truth R (Some n) (Some b) size most law e l =
    let same : n ≡ size = cc in
    law n b l ∙ ap (λ m. nat_le m most) same

pub settle-gives : {S I : Type 0} (site : Site) {s0 s1 s2 s3 : Sets I} (group : GroupView S I) (sizes : Conditional ℕ S I) (fits : Conditional Bool S I) (R : ℕ → Bool → Type 0) (outcomes : List (Outcome S I)) → ((n : ℕ) (b : Bool) → R n b → b ≡ nat_le n site.code.now.max_stack) → Extends s0 s1 → Extends s1 s2 → IsGroup s0 group → ((c : List Bool) → s0.test group.top.stack.scope c ≡ true → cond_at s1 sizes c ≡ Some (slots_size (slots_at s0 group.top.stack c))) → IsCondLifting bool_cmp s2 R (cond_at s1 sizes) fits → ((heap : HeapView S I) → GivesAt site.program.now (λ _. settled_by site s2 fits.leaves) s2 s3 group outcomes heap) → Gives site.program.now (λ s. settle (here site s) s.top.operands) s0 s3 group outcomes
settle-gives {S = S} {I = I} site {s0 = s0} {s1 = s1} {s2 = s2} {s3 = s3} group sizes fits R outcomes law e f v at l gives heap =
    GivesAt-before site.program.now s3 group heap (λ _. settled_by site s2 fits.leaves) (λ _ _ s. settle (here site s) s.top.operands) outcomes (Extends-trans e f) (λ tree h s c t.
    let state = state_at s0 heap tree group c in
    let slots = slots_at s0 group.top.stack c in
    let size = at c (ap (λ i. s0.test i c) (stack_scope s0 group v) ∙ t) in
    let fit = truth R (cond_at s1 sizes c) (cond_at s2 fits c) (slots_size slots) site.code.now.max_stack law size (lifting_at bool_cmp s2 R (cond_at s1 sizes) fits l c) in
    ap (λ b. when b (go (here site state) state.top.operands) (illegal (here site state))) (fit ∙ ap (λ n. nat_le n site.code.now.max_stack) (sym (stack_size_of s0 heap c slots)))) (gives heap)

-- operands that fit though each of them took two words
pub surely-settles : {S I : Type 0} (site : Site) (sets : Sets I) (group : GroupView S I) (outcomes : List (Outcome S I)) → length group.top.stack.conds + length group.top.stack.conds ≤ site.code.now.max_stack → Gives site.program.now (λ s. go (here site s) s.top.operands) sets sets group outcomes → Gives site.program.now (λ s. settle (here site s) s.top.operands) sets sets group outcomes
surely-settles site sets group outcomes few gives heap =
    GivesAt-before site.program.now sets group heap (λ _ _ s. go (here site s) s.top.operands) (λ _ _ s. settle (here site s) s.top.operands) outcomes (Extends-refl sets) (λ tree h s c t.
    let state = state_at sets heap tree group c in
    let slots = slots_at sets group.top.stack c in
    let short : length slots ≡ length group.top.stack.conds = simp length-map in
    let fit : nat_le (slots_size slots) site.code.now.max_stack ≡ true = le-leb (slots_size slots) site.code.now.max_stack (omega (arith, slots_size-most slots, short, few)) in
    sym (ap (λ b. when b (go (here site state) state.top.operands) (illegal (here site state))) (ap (λ n. nat_le n site.code.now.max_stack) (stack_size_of sets heap c slots) ∙ fit))) (gives heap)

-- a group with other operands of the same scope
pub with_stack : {S I : Type 0} (sets : Sets I) (group after : GroupView S I) → IsGroup sets group → after ≡ record group { top = record (group.top) { stack = after.top.stack } } → IsRow slot_cmp sets after.top.stack → after.top.stack.scope ≡ path_of group → IsGroup sets after
with_stack {S = S} {I = I} sets group after v same row scope = let P : GroupView S I → Type 0 = λ g. IsGroup sets g in subst P (sym same) (IsGroup-moved (Extends-refl sets) group after.top.stack group.top.position v row scope)
