-- Groups over two spaces in which the ids that the group and the tree hold have the same sets.
use Rattle.std.proofs.Common.{◌≡◌, ℕ, Bool, List, [], ◌∷◌, refl, sym, ◌∙◌, ap, subst, length, zero, suc}
use Rattle.std.specs.Prelude.{Option, Some, None, unwrap_or}
use Rattle.std.specs.Ordering.{nat_cmp}
use Rattle.vx_space.specs.Sets.{Sets, IsKept, AreKept}
use Rattle.vx_cond.specs.Cond.{cond_ids}
use Rattle.vx_cond.specs.Keeping.{cond_at-kept, AreKept-append_left, AreKept-append_right}
use Rattle.vx_cond.proofs.RowLaws.{IsCond-kept}
use Rattle.vx_frame.specs.declared.frame.Frame.{Frame}
use Rattle.vx_frame.specs.Frame.{frame_ids}
use Rattle.vx_frame.specs.Keeping.{frame_at-kept}
use Rattle.vx_frame.proofs.FrameLaws.{IsFrame-kept}
use Rattle.vx_group.specs.declared.callers.Caller.{Caller}
use Rattle.vx_group.specs.Callers.{node_at, node_of, callers_of, IsCallerFrame, AreCallers, frames_at, node_ids, tree_ids}
use Rattle.vx_group.specs.Group.{path_of, IsGroup, IsGroupIn, IsGroupOf}
use Rattle.vx_group_laws.specs.Keeping.{KeepsGroups}
use Rattle.vx_group.proofs.CallerLaws.{callers_of-node}

-- the ids of a node are among those of its tree
node_at-kept : {S I : Type 0} (old new : Sets I) (tree : List (Option (Caller S I))) (n : ℕ) (node : Caller S I) → AreKept old new (tree_ids tree) → node_at tree n ≡ Some node → AreKept old new (frame_ids node.frame)
node_at-kept old new [] n node k e = cc
node_at-kept {S = S} {I = I} old new (x ∷ xs) zero node k e =
    let P : Option (Caller S I) → Type 0 = λ o. AreKept old new (node_ids o) in
    subst P e (AreKept-append_left old new (node_ids x) (tree_ids xs) k)
node_at-kept old new (x ∷ xs) (suc n) node k e = node_at-kept old new xs n node (AreKept-append_right old new (node_ids x) (tree_ids xs) k) e

node_of-kept_ids : {S I : Type 0} (old new : Sets I) (tree : List (Option (Caller S I))) (caller : Option ℕ) (node : Caller S I) → AreKept old new (tree_ids tree) → node_of tree caller ≡ Some node → AreKept old new (frame_ids node.frame)
node_of-kept_ids old new tree None node k e = cc
node_of-kept_ids old new tree (Some n) node k e = node_at-kept old new tree n node k e

IsCallerFrame-kept : {S I : Type 0} {old new : Sets I} → new.never ≡ old.never → (path : I) (frame : Frame S I) → IsKept old new path → AreKept old new (frame_ids frame) → IsCallerFrame old path frame → IsCallerFrame new path frame
IsCallerFrame-kept e path frame p k h = record {
  is_frame = IsFrame-kept e frame k h.is_frame;
  holds = record { inside = λ c t. k.0.test c ∙ h.holds.inside c (sym (p.test c) ∙ t) };
  few = h.few;
}

AreCallers-kept_ids : {S I : Type 0} {old new : Sets I} → new.never ≡ old.never → (tree : List (Option (Caller S I))) (path : I) → IsKept old new path → AreKept old new (tree_ids tree) → (n : ℕ) (caller : Option ℕ) → AreCallers old tree path n caller → AreCallers new tree path n caller
AreCallers-kept_ids e tree path p k zero caller h = h
AreCallers-kept_ids {old = old} {new = new} e tree path p k (suc n) caller h = (h.0, h.1, IsCallerFrame-kept e path h.0.frame p (node_of-kept_ids old new tree caller h.0 k h.1) h.2, AreCallers-kept_ids e tree path p k n h.0.caller h.3)

frames_at-kept_ids : {S I : Type 0} (old new : Sets I) (tree : List (Option (Caller S I))) (path : I) → AreKept old new (tree_ids tree) → (n : ℕ) (caller : Option ℕ) → AreCallers old tree path n caller → (c : List Bool) → frames_at new (callers_of tree n caller) c ≡ frames_at old (callers_of tree n caller) c
frames_at-kept_ids old new tree path k zero caller h c = refl
frames_at-kept_ids old new tree path k (suc n) caller h c =
    ap (λ fs. frames_at new fs c) (callers_of-node tree n caller h.0 h.1)
    ∙ (λ i. frame_at-kept old new h.0.frame c (node_of-kept_ids old new tree caller h.0 k h.1) i ∷ frames_at-kept_ids old new tree path k n h.0.caller h.3 c i)
    ∙ ap (λ fs. frames_at old fs c) (sym (callers_of-node tree n caller h.0 h.1))

-- such a group stays a group in its tree, and the same stands at each configuration of its path
pub IsGroupOf-kept : {S I : Type 0} → KeepsGroups S I
unfolding IsGroup IsGroupIn IsGroupOf
IsGroupOf-kept old new tree group e k l v =
    let attempts = AreKept-append_left old new (cond_ids group.attempts) (frame_ids group.top) k in
    let top = AreKept-append_right old new (cond_ids group.attempts) (frame_ids group.top) k in
    record {
      is_group = record {
        is_group = record {
          attempts = IsCond-kept nat_cmp e group.attempts attempts v.is_group.attempts;
          top = IsFrame-kept e group.top top v.is_group.top;
          one_scope = v.is_group.one_scope;
        };
        callers = AreCallers-kept_ids e tree (path_of group) attempts.0 l (length group.below) group.caller v.callers;
        parts = v.parts;
      };
      at = λ c t. λ i. record {
        frames = frame_at-kept old new group.top c top i ∷ frames_at-kept_ids old new tree (path_of group) l (length group.below) group.caller v.callers c i;
        attempts = unwrap_or (cond_at-kept old new group.attempts c attempts i) 0;
      };
    }
