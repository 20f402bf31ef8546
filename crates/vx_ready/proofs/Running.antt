-- What a group that runs at an instruction gives its calls, while its heap changes.
use Rattle.std.proofs.Common.{◌≡◌, ℕ, Bool, true, List, ◌&&◌, refl, sym, ◌∙◌, ap}
use Rattle.vx_cond.specs.Cond.{IsInside}
use Rattle.vx_group.specs.Group.{GroupView, IsPartOf, path_of}
use Rattle.vx_group.proofs.GroupLaws.{IsGroup-path_known}
use Rattle.vx_heap.specs.Heap.{Globals, HeapView, are_held, inits_at, is_held}
use Rattle.vx_heap.proofs.HeapLaws.{is_held-extends}
use Rattle.vx_space.specs.Sets.{Extends, IsSet, Sets}
use Rattle.vx_space.proofs.Spaces.{Extends-refl, Extends-trans}
use Rattle.vx_group_states.specs.Answering.{operands_at}
use Rattle.vx_group_states.specs.declared.site.Site.{Site}
use Rattle.vx_group_states.proofs.Gathering.{part_path}
use Rattle.vx_group_states.proofs.StateLaws.{all_same, both_first}
use Rattle.vx_ready.specs.Changing.{IsChanged}
use Rattle.vx_ready.specs.Initialising.{IsReadied, goes_on}
use Rattle.vx_ready.specs.Running.{IsRunning}
use Rattle.vx_ready.specs.declared.initialising.Readiness.{Readiness}
use Rattle.vx_ready.proofs.Attempting.{held_same}
use Rattle.vx_ready.proofs.Climbing.{runs_inside}
use Rattle.vx_ready.proofs.Going.{operands_later}
use Rattle.vx_heap.proofs.Written.{allowed_known}

-- where the class is needed it runs
pub needs_inside : {S I : Type 0} (site : Site) {s0 s1 : Sets I} (heap : HeapView S I) (group : GroupView S I) (needs : I) (asks : List Bool → Bool) → IsRunning site s0 heap group → Extends s0 s1 → IsSet s1 needs (λ c. s0.test (path_of group) c && asks c) → IsInside s1 needs heap.allowed
needs_inside site {s0 = s0} {s1 = s1} heap group needs asks r e n = runs_inside e (Extends-refl s1) heap (path_of group) needs r.is_heap r.runs n.known (λ c t. both_first (s0.test (path_of group) c) (asks c) (sym (n.test c) ∙ t))

-- and so does a part of the group, over the heap that changed
pub part_runs : {S I : Type 0} (site : Site) {s0 sx s1 s2 : Sets I} (before after : HeapView S I) (change : List Bool → Globals → Globals) (group part : GroupView S I) (set : List Bool → Bool) → IsRunning site s0 before group → Extends s0 s1 → Extends s1 s2 → IsChanged sx s1 before after change → IsPartOf s1 s2 (λ c. s1.test (path_of group) c && set c) group part → IsInside s2 (path_of part) after.allowed
part_runs {S = S} {I = I} site {s0 = s0} {s1 = s1} {s2 = s2} before after change group part set r e f changed q = record {
  inside = λ c t.
      let here : s1.test (path_of group) c ≡ true = both_first (s1.test (path_of group) c) (set c) (sym (part_path s1 s2 _ group part q c) ∙ t) in
      ap (λ (h : HeapView S I). s2.test h.allowed c) changed.same
      ∙ (Extends-trans e f).test before.allowed c (allowed_known s0 before r.is_heap)
      ∙ r.runs.inside c (sym (e.test (path_of group) c (IsGroup-path_known s0 group r.is_group)) ∙ here);
}

-- what proceeds is in the group
pub proceeds_there : {S I : Type 0} (site : Site) {s0 s1 s2 : Sets I} (before after : HeapView S I) (group : GroupView S I) (class : ℕ) (needs : I) (readiness : Readiness S I) (asks : List Bool → Bool) → IsRunning site s0 before group → Extends s0 s1 → Extends s1 s2 → IsSet s1 needs (λ c. s0.test (path_of group) c && asks c) → IsReadied site.program.now s1 s2 before after class needs readiness → IsInside s2 readiness.proceeds (path_of group)
proceeds_there site {s0 = s0} {s1 = s1} {s2 = s2} before after group class needs readiness asks r e f n ready = record {
  inside = λ c t.
      let needed : s1.test needs c ≡ true = both_first (s1.test needs c) (goes_on site.program.now (inits_at s1 before c) class) (sym (ready.proceeds.test c) ∙ t) in
      (Extends-trans e f).test (path_of group) c (IsGroup-path_known s0 group r.is_group) ∙ both_first (s0.test (path_of group) c) (asks c) (sym (n.test c) ∙ needed);
}

-- the group runs over the heap that changed, and its operands name what is there
pub running_runs : {S I : Type 0} (site : Site) {s0 sx s1 : Sets I} (before after : HeapView S I) (change : List Bool → Globals → Globals) (group : GroupView S I) → IsRunning site s0 before group → Extends s0 s1 → IsChanged sx s1 before after change → IsInside s1 (path_of group) after.allowed
running_runs {S = S} {I = I} site {s0 = s0} {s1 = s1} before after change group r e changed = record {
  inside = λ c t. ap (λ (h : HeapView S I). s1.test h.allowed c) changed.same ∙ e.test before.allowed c (allowed_known s0 before r.is_heap) ∙ r.runs.inside c (sym (e.test (path_of group) c (IsGroup-path_known s0 group r.is_group)) ∙ t);
}

pub running_held : {S I : Type 0} (site : Site) {s0 sx s1 : Sets I} (before after : HeapView S I) (change : List Bool → Globals → Globals) (group : GroupView S I) → IsRunning site s0 before group → Extends s0 s1 → IsChanged sx s1 before after change → (c : List Bool) → s1.test (path_of group) c ≡ true → are_held s1 after c (operands_at s1 group.top.stack c) ≡ true
running_held site {s0 = s0} {s1 = s1} before after change group r e changed c t =
    ap (are_held s1 after c) (operands_later e group r.is_group c)
    ∙ all_same (is_held s1 after c) (is_held s0 before c) (λ slot. held_same before after change changed s1 c slot ∙ is_held-extends e before r.is_heap c slot) (operands_at s0 group.top.stack c)
    ∙ r.held c (sym (e.test (path_of group) c (IsGroup-path_known s0 group r.is_group)) ∙ t)
