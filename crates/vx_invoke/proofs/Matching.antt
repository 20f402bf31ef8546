-- A group that is split by where the arguments of its call fit.
use Rattle.std.proofs.Common.{◌≡◌, ℕ, Bool, true, false, List, ◌++◌, ◌&&◌, Option, Some, None, refl, sym, ◌∙◌, ap, subst, arith, length}
use Rattle.std.specs.Prelude.{is_some, not}
use Rattle.vx_cond.specs.declared.cond.Leaf.{Leaf}
use Rattle.vx_cond.specs.Cond.{Conditional, IsCond, cond_at}
use Rattle.vx_cond.specs.Leaves.{AreLeaves, value_at}
use Rattle.vx_cond.proofs.CondLaws.{IsCond-extends, cond_at-extends}
use Rattle.vx_cond.proofs.SideLaws.{cond_at-covers}
use Rattle.vx_frames.specs.Entering.{is_long}
use Rattle.vx_frames.specs.Giving.{GivesIn}
use Rattle.vx_group.specs.declared.callers.Caller.{Caller}
use Rattle.vx_group.specs.Callers.{Keeps}
use Rattle.vx_group.specs.Group.{GroupView, IsGroupIn, IsPartOf, path_of}
use Rattle.vx_group.proofs.CallerLaws.{Keeps-refl}
use Rattle.vx_group_states.specs.Sites.{Cover, Gives, here}
use Rattle.vx_group_states.specs.declared.site.Site.{Site}
use Rattle.vx_group_states.proofs.Gathering.{AreLeaves-of, part_path}
use Rattle.vx_group_states.proofs.StateLaws.{both_first}
use Rattle.vx_heap.specs.Heap.{HeapView}
use Rattle.vx_java.specs.Machine.{State, illegal}
use Rattle.vx_outcome.specs.declared.outcome.Outcome.{Outcome}
use Rattle.vx_space.specs.Sets.{Extends, Sets}
use Rattle.vx_frames.proofs.GivingLaws.{GivesIn-split, IsGroupIn-part}
use Rattle.vx_invoke.proofs.Rooms.{arguments_fit-part, operand_at-part, operands-part}
use Rattle.vx_invoke.specs.Called.{call_or_illegal, called_with}
use Rattle.vx_invoke.specs.Calling.{MatchCalls, MayEnterEach, where_called}
use Rattle.vx_invoke.specs.Calls.{call_cmp}
use Rattle.vx_invoke.specs.declared.call.Call.{Call}

pub calls_known : {S I : Type 0} (sets : Sets I) (calls : Conditional Call S I) → IsCond call_cmp sets calls → sets.is_known calls.scope ≡ true
unfolding IsCond
calls_known sets calls v = v.scope_known

module _ {S I : Type 0} (site : Site) {s0 s1 : Sets I} (tree : List (Option (Caller S I))) (group part : GroupView S I) (count : ℕ) (calls : Conditional Call S I) (scope : I) (leaves : List (Leaf Call S I)) (is_scope : scope ≡ calls.scope) (are_leaves : leaves ≡ calls.leaves) (e : Extends s0 s1) (v : IsCond call_cmp s0 calls) (may : MatchCalls site.program.now s0 group count calls) (q : IsPartOf s0 s1 (λ c. s0.test (path_of group) c && s0.test scope c) group part) where
  -- the part is where the arguments fit
  part_scope : (c : List Bool) → s1.test (path_of part) c ≡ s0.test calls.scope c
  part_scope c = part_path s0 s1 _ group part q c ∙ ap (λ i. s0.test (path_of group) c && s0.test i c) is_scope ∙ inner (s0.test (path_of group) c) (s0.test calls.scope c) (may.inside.inside c)
    where
      inner : (a b : Bool) → (b ≡ true → a ≡ true) → (a && b) ≡ b
      inner true b f = refl
      inner false true f = cc (f refl)
      inner false false f = refl

  values_are : (c : List Bool) → value_at s1 leaves c ≡ cond_at s0 calls c
  values_are c = ap (λ xs. value_at s1 xs c) are_leaves ∙ cond_at-extends call_cmp e calls v c

  pub matching_in : IsGroupIn s0 tree group → IsGroupIn s1 tree part
  matching_in w = IsGroupIn-part e (Keeps-refl tree) (λ c. s0.test (path_of group) c && s0.test scope c) group part (λ c t. both_first (s0.test (path_of group) c) _ t) w q

  pub matching_leaves : AreLeaves call_cmp s1 leaves
  matching_leaves = subst (AreLeaves call_cmp s1) (sym are_leaves) (AreLeaves-of call_cmp s1 calls (IsCond-extends call_cmp e calls v))

  pub matching_cover : Cover s1 (path_of part) leaves
  matching_cover = record { at = λ c. ap is_some (values_are c) ∙ cond_at-covers call_cmp s0 calls v c ∙ sym (part_scope c) }

  pub matching_enter : MayEnterEach site.program.now s1 part count leaves
  matching_enter =
      let operands = operands-part s0 s1 _ group part q in
      let enough = may.enough in
      record {
        types = may.types;
        number = may.number;
        enough = omega (arith, operands, enough);
        room = λ c m h. may.room c m (sym (values_are c) ∙ h);
        short = λ c m h. ap is_long (operand_at-part s0 s1 _ group part (length may.types) q c (sym (matching_cover.at c) ∙ ap is_some h)) ∙ may.short c m (sym (values_are c) ∙ h);
        fit = λ c t. arguments_fit-part s0 s1 _ group part may.types q c t ∙ may.fit c (sym (part_scope c) ∙ t);
      }

  -- what a call comes to inside and outside
  inside_row : (c : List Bool) (o : Option Call) → is_some o ≡ true → (s : State) → called_with site count (call_or_illegal o) s ≡ where_called site count o s
  inside_row c None h s = cc
  inside_row c (Some call) h s = refl

  outside_row : (o : Option Call) → is_some o ≡ false → (s : State) → illegal (here site s) ≡ where_called site count o s
  outside_row None h s = refl
  outside_row (Some call) h s = cc

  pub matching-gives : (s2 : Sets I) (later : List (Option (Caller S I))) (outer : GroupView S I) (made ended : List (Outcome S I)) (heap : HeapView S I) → Extends s1 s2 → Keeps tree later → IsPartOf s0 s1 (λ c. s0.test (path_of group) c && not (s0.test scope c)) group outer → GivesIn site.program.now (λ _ c. called_with site count (call_or_illegal (value_at s1 leaves c))) s1 s2 tree later part made heap → Gives site.program.now (λ s. illegal (here site s)) s1 s1 outer ended → GivesIn site.program.now (λ _ c. where_called site count (cond_at s0 calls c)) s0 s2 tree later group (made ++ ended) heap
  matching-gives s2 later outer made ended heap f k b x y =
      let covers : (c : List Bool) → is_some (cond_at s0 calls c) ≡ s0.test scope c = λ c. cond_at-covers call_cmp s0 calls v c ∙ ap (λ i. s0.test i c) (sym is_scope) in
      GivesIn-split site.program.now tree later (s0.test scope) group part outer (λ _ c. where_called site count (cond_at s0 calls c)) (λ _ c. called_with site count (call_or_illegal (value_at s1 leaves c))) (λ _ _ s. illegal (here site s)) made ended heap e f k q b
      (λ c t s. ap (λ o. called_with site count (call_or_illegal o) s) (values_are c) ∙ inside_row c (cond_at s0 calls c) (covers c ∙ t) s)
      (λ c t s. outside_row (cond_at s0 calls c) (covers c ∙ t) s) x (y heap)
