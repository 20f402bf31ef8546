-- Laws of the tree of caller frames, for callers.
use Rattle.std.proofs.Common.{◌≡◌, ℕ, Bool, true, List, [], ◌∷◌, refl, sym, ◌∙◌, ap, subst, zero, suc, length, take, ◌+◌, ◌++◌, ◌≤◌, add-one, append_assoc, inl, inr}
use Rattle.std.proofs.lemmas.List.{take_all, append-nil}
use Rattle.std.specs.Prelude.{Option, Some, None, slice_index_or}
use Rattle.std.proofs.lemmas.Bool.{cases_eq}
use Rattle.slab.specs.Slab.{Slab, get, Updates}
use Rattle.vx_space.specs.Sets.{Sets, Extends}
use Rattle.vx_frame.specs.declared.frame.Frame.{Frame}
use Rattle.vx_frame.specs.Frame.{frame_at, scope_of}
use Rattle.vx_frame.proofs.FrameLaws.{IsFrame-extends, IsFrame-scope_known, frame_at-extends}
use Rattle.vx_group.specs.declared.callers.Caller.{Caller}
use Rattle.vx_group.specs.Callers.{node_at, node_of, callers_of, AreNodes, IsCallerFrame, AreCallers, Keeps, frames_at, node_ids, tree_ids}

pub Keeps-refl : {S I : Type 0} (tree : List (Option (Caller S I))) → Keeps tree tree
Keeps-refl tree = record { kept = λ n node e. e }

pub Keeps-trans : {S I : Type 0} {a b c : List (Option (Caller S I))} → Keeps a b → Keeps b c → Keeps a c
Keeps-trans p q = record { kept = λ n node e. q.kept n node (p.kept n node e) }

pub node_of-kept : {S I : Type 0} {old new : List (Option (Caller S I))} → Keeps old new → (caller : Option ℕ) (node : Caller S I) → node_of old caller ≡ Some node → node_of new caller ≡ Some node
node_of-kept k None node e = e
node_of-kept k (Some n) node e = k.kept n node e

-- the frames from a node down
pub callers_of-node : {S I : Type 0} (tree : List (Option (Caller S I))) (n : ℕ) (caller : Option ℕ) (node : Caller S I) → node_of tree caller ≡ Some node → callers_of tree (suc n) caller ≡ node.frame ∷ callers_of tree n node.caller
callers_of-node {S = S} {I = I} tree n caller node e =
    let P : Option (Caller S I) → Type 0 = λ o. (elim o as (λ _. List (Frame S I)) [ None ↦ [] | Some q ↦ q.frame ∷ callers_of tree n q.caller ]) ≡ node.frame ∷ callers_of tree n node.caller in
    subst P (sym e) refl

same_node : {S I : Type 0} (p q : Caller S I) (o : Option (Caller S I)) → o ≡ Some p → o ≡ Some q → p ≡ q
same_node p q o e f = cc

pub AreCallers-nodes : {S I : Type 0} (sets : Sets I) (tree : List (Option (Caller S I))) (path : I) (n : ℕ) (caller : Option ℕ) → AreCallers sets tree path n caller → AreNodes tree n caller
AreCallers-nodes sets tree path zero caller h = h
AreCallers-nodes sets tree path (suc n) caller h = (h.0, h.1, AreCallers-nodes sets tree path n h.0.caller h.3)

pub AreNodes-kept : {S I : Type 0} {old new : List (Option (Caller S I))} → Keeps old new → (n : ℕ) (caller : Option ℕ) → AreNodes old n caller → AreNodes new n caller
AreNodes-kept k zero caller h = h
AreNodes-kept k (suc n) caller h = (h.0, node_of-kept k caller h.0 h.1, AreNodes-kept k n h.0.caller h.2)

-- the frames stay where the tree keeps its nodes
pub callers_of-kept : {S I : Type 0} {old new : List (Option (Caller S I))} → Keeps old new → (n : ℕ) (caller : Option ℕ) → AreNodes old n caller → callers_of new n caller ≡ callers_of old n caller
callers_of-kept k zero caller h = refl
callers_of-kept {old = old} {new = new} k (suc n) caller h =
    callers_of-node new n caller h.0 (node_of-kept k caller h.0 h.1)
    ∙ ap (λ fs. h.0.frame ∷ fs) (callers_of-kept k n h.0.caller h.2)
    ∙ sym (callers_of-node old n caller h.0 h.1)

pub IsCallerFrame-extends : {S I : Type 0} {old new : Sets I} → Extends old new → (path : I) (frame : Frame S I) → old.is_known path ≡ true → IsCallerFrame old path frame → IsCallerFrame new path frame
IsCallerFrame-extends {old = old} e path frame k h = record {
  is_frame = IsFrame-extends e frame h.is_frame;
  holds = record { inside = λ c t. e.test (scope_of frame) c (IsFrame-scope_known old frame h.is_frame) ∙ h.holds.inside c (sym (e.test path c k) ∙ t) };
  few = h.few;
}

pub AreCallers-later : {S I : Type 0} {s0 s1 : Sets I} {t0 t1 : List (Option (Caller S I))} → Extends s0 s1 → Keeps t0 t1 → (path : I) → s0.is_known path ≡ true → (n : ℕ) (caller : Option ℕ) → AreCallers s0 t0 path n caller → AreCallers s1 t1 path n caller
AreCallers-later e k path known zero caller h = h
AreCallers-later e k path known (suc n) caller h = (h.0, node_of-kept k caller h.0 h.1, IsCallerFrame-extends e path h.0.frame known h.2, AreCallers-later e k path known n h.0.caller h.3)

-- the same over one space
pub AreCallers-kept : {S I : Type 0} {t0 t1 : List (Option (Caller S I))} → Keeps t0 t1 → (sets : Sets I) (path : I) (n : ℕ) (caller : Option ℕ) → AreCallers sets t0 path n caller → AreCallers sets t1 path n caller
AreCallers-kept k sets path zero caller h = h
AreCallers-kept k sets path (suc n) caller h = (h.0, node_of-kept k caller h.0 h.1, h.2, AreCallers-kept k sets path n h.0.caller h.3)

-- for a path inside the path
pub AreCallers-narrow : {S I : Type 0} (sets : Sets I) (tree : List (Option (Caller S I))) (path inner : I) → ((c : List Bool) → sets.test inner c ≡ true → sets.test path c ≡ true) → (n : ℕ) (caller : Option ℕ) → AreCallers sets tree path n caller → AreCallers sets tree inner n caller
AreCallers-narrow sets tree path inner i zero caller h = h
AreCallers-narrow sets tree path inner i (suc n) caller h = (h.0, h.1, record { is_frame = h.2.is_frame; holds = record { inside = λ c t. h.2.holds.inside c (i c t) }; few = h.2.few }, AreCallers-narrow sets tree path inner i n h.0.caller h.3)

frames_cons : {S I : Type 0} (s0 s1 : Sets I) (p q : Frame S I) (ps qs : List (Frame S I)) (c : List Bool) → frame_at s1 q c ≡ frame_at s0 p c → frames_at s1 qs c ≡ frames_at s0 ps c → frames_at s1 (q ∷ qs) c ≡ frames_at s0 (p ∷ ps) c
frames_cons s0 s1 p q ps qs c e f = λ i. e i ∷ f i

-- the plain frames stay where the space is extended
pub frames_at-extends : {S I : Type 0} {s0 s1 : Sets I} → Extends s0 s1 → (tree : List (Option (Caller S I))) (path : I) (n : ℕ) (caller : Option ℕ) → AreCallers s0 tree path n caller → (c : List Bool) → frames_at s1 (callers_of tree n caller) c ≡ frames_at s0 (callers_of tree n caller) c
frames_at-extends e tree path zero caller h c = refl
frames_at-extends {s0 = s0} {s1 = s1} e tree path (suc n) caller h c =
    ap (λ fs. frames_at s1 fs c) (callers_of-node tree n caller h.0 h.1)
    ∙ frames_cons s0 s1 h.0.frame h.0.frame (callers_of tree n h.0.caller) (callers_of tree n h.0.caller) c (frame_at-extends e h.0.frame h.2.is_frame c) (frames_at-extends e tree path n h.0.caller h.3 c)
    ∙ ap (λ fs. frames_at s0 fs c) (sym (callers_of-node tree n caller h.0 h.1))

-- and where the tree keeps its nodes too
pub frames_at-later : {S I : Type 0} {s0 s1 : Sets I} {t0 t1 : List (Option (Caller S I))} → Extends s0 s1 → Keeps t0 t1 → (path : I) (n : ℕ) (caller : Option ℕ) → AreCallers s0 t0 path n caller → (c : List Bool) → frames_at s1 (callers_of t1 n caller) c ≡ frames_at s0 (callers_of t0 n caller) c
frames_at-later {s0 = s0} {s1 = s1} {t0 = t0} e k path n caller h c = ap (λ fs. frames_at s1 fs c) (callers_of-kept k n caller (AreCallers-nodes s0 t0 path n caller h)) ∙ frames_at-extends e t0 path n caller h c

-- the ids of one node more
pub tree_ids-more : {S I : Type 0} (tree : List (Option (Caller S I))) (i : ℕ) → tree_ids (take (i + 1) tree) ≡ tree_ids (take i tree) ++ node_ids (node_at tree i)
tree_ids-more tree i = rw add-one (more tree i)
  where
    more : {S I : Type 0} (xs : List (Option (Caller S I))) (k : ℕ) → tree_ids (take (suc k) xs) ≡ tree_ids (take k xs) ++ node_ids (node_at xs k)
    more [] zero = refl
    more [] (suc k) = refl
    more (x ∷ xs) zero = append-nil (node_ids x)
    more (x ∷ xs) (suc k) = ap (λ is. node_ids x ++ is) (more xs k) ∙ sym (append_assoc (node_ids x) (tree_ids (take k xs)) (node_ids (node_at xs k)))

pub tree_ids-all : {S I : Type 0} (tree : List (Option (Caller S I))) (i : ℕ) → length tree ≤ i → tree_ids (take i tree) ≡ tree_ids tree
tree_ids-all tree i l = ap tree_ids (take_all i tree l)

-- a tree in a slab with a value more keeps its nodes
pub slab_added : {S I : Type 0} (tree : List (Option (Caller S I))) (before after : Slab (Caller S I)) (key : ℕ) (node : Caller S I) → before.slots ≡ tree → get before key ≡ None → Updates before after key (Some node) → Keeps tree after.slots × (node_at after.slots key ≡ Some node)
slab_added tree before after key node e free u = (
  record {
    kept = λ n other h. elim (cases_eq n key) [
      | inl same ↦ cc (same, h, e, free)
      | inr differs ↦ u.others n differs ∙ ap (λ t. slice_index_or t n None) e ∙ h
    ];
  },
  u.changed,
)

pub not_both : {A : Type 0} (o : Option A) (x : A) → o ≡ None → o ≡ Some x → ⊥
not_both None x n s = cc
not_both (Some y) x n s = cc
