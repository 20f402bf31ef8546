-- A swept table is a table, and keeps the sets of its marked ids.
use Rattle.std.proofs.Common.{◌≡◌, ℕ, ◌<◌, Bool, true, false, List, [], ◌∷◌, refl, sym, ◌∙◌, ap, subst, arith, zero, suc, inl, inr, length, map}
use Rattle.std.specs.Prelude.{Option, Some, None, if◌then◌else◌, is_some, nat_eq, slice_index_or, Contains}
use Rattle.slab.proofs.SlabLemmas.{Contains-cons, Contains-cons_cases}
use Rattle.vx_space.specs.Config.{value_of, with_option}
use Rattle.vx_space.specs.Under.{fixed, Under, never, always, root, part}
use Rattle.vx_space.specs.Sets.{IsSet, AreKept, IsCompacted, IsJustUnder}
use Rattle.vx_bdd.specs.declared.node.Node.{Node}
use Rattle.vx_bdd.specs.Diagram.{node_at, walk, reaches, is_stored, IsReduced}
use Rattle.vx_bdd.specs.Canonical.{node_cases, walk-end, reaches-part}
use Rattle.vx_bdd.specs.declared.node.Answer.{Answer}
use Rattle.vx_bdd.specs.declared.node.Op.{Op}
use Rattle.vx_bdd.specs.Table.{Grows}
use Rattle.vx_bdd.specs.Apply.{AreRight}
use Rattle.vx_bdd.specs.Space.{sets_of}
use Rattle.vx_bdd.specs.Marks.{Below, here, low, high, IsClosed, AreMarked, IsMarking, KeepsMarked}
use Rattle.vx_bdd.proofs.ApplyLaws.{AreRight-grows}
use Rattle.vx_bdd.proofs.CacheLaws.{AreRight-none}
use Rattle.vx_bdd.proofs.SpaceLaws.{IsTop-node}
use Rattle.vx_bdd_tools.proofs.NodeSets.{order_cases}

node_at-swept : (has : ℕ → Bool) (old new : List (Option Node)) → KeepsMarked has old new → (id : ℕ) → node_at new id ≡ (if has id then node_at old id else None)
node_at-swept has old new w zero = none (has 0)
  where
    none : (b : Bool) → ◌≡◌ {A = Option Node} None (if b then None else None)
    none true = refl
    none false = refl
node_at-swept has old new w (suc zero) = none (has 1)
  where
    none : (b : Bool) → ◌≡◌ {A = Option Node} None (if b then None else None)
    none true = refl
    none false = refl
node_at-swept has old new w (suc (suc k)) = w.slots (suc (suc k))

pub kept_node : (has : ℕ → Bool) (old new : List (Option Node)) → KeepsMarked has old new → (id : ℕ) → has id ≡ true → node_at new id ≡ node_at old id
kept_node has old new w id h = node_at-swept has old new w id ∙ ap (λ b. if b then node_at old id else None) h

kept_stored : (has : ℕ → Bool) (old new : List (Option Node)) → KeepsMarked has old new → (id : ℕ) → has id ≡ true → is_stored new id ≡ is_stored old id
kept_stored has old new w id h = ap is_some (w.slots id ∙ ap (λ b. if b then slice_index_or old id None else None) h)

pub stored_marked : (has : ℕ → Bool) (old new : List (Option Node)) → KeepsMarked has old new → (id : ℕ) → is_stored new id ≡ true → has id ≡ true
stored_marked has old new w id s = cases (has id) refl (sym (ap is_some (w.slots id)) ∙ s)
  where
    cases : (b : Bool) → has id ≡ b → is_some (if b then slice_index_or old id None else None) ≡ true → has id ≡ true
    cases true e h = e
    cases false e h = cc

node_kept : (has : ℕ → Bool) (old new : List (Option Node)) → KeepsMarked has old new → (id : ℕ) (node : Node) → node_at new id ≡ Some node → (has id ≡ true) × (node_at old id ≡ Some node)
node_kept has old new w id node e = cases (has id) refl (sym (node_at-swept has old new w id) ∙ e)
  where
    cases : (b : Bool) → has id ≡ b → (if b then node_at old id else None) ≡ Some node → (has id ≡ true) × (node_at old id ≡ Some node)
    cases true f h = (f, h)
    cases false f h = cc

pub IsReduced-swept : (options : ℕ) (has : ℕ → Bool) (old new : List (Option Node)) → IsReduced options old → IsClosed old has → has 0 ≡ true → has 1 ≡ true → KeepsMarked has old new → IsReduced options new
IsReduced-swept options has old new r c s t w = record {
  never = kept_stored has old new w 0 s ∙ r.never;
  always = kept_stored has old new w 1 t ∙ r.always;
  nodes = λ id node e.
      let k = node_kept has old new w id node e in
      let n = r.nodes id node k.1 in
      let l = c.low id node k.0 k.1 in
      let h = c.high id node k.0 k.1 in
      record {
        in_range = n.in_range;
        low_stored = kept_stored has old new w node.low l ∙ n.low_stored;
        high_stored = kept_stored has old new w node.high h ∙ n.high_stored;
        low_later = rw (kept_node has old new w node.low l) n.low_later;
        high_later = rw (kept_node has old new w node.high h) n.high_later;
        differ = n.differ;
      };
  distinct = λ a b node e f. r.distinct a b node (node_kept has old new w a node e).1 (node_kept has old new w b node f).1;
}

walk-swept : (has : ℕ → Bool) {old : List (Option Node)} (new : List (Option Node)) → IsClosed old has → KeepsMarked has old new → (steps id : ℕ) (c : List Bool) → has id ≡ true → walk new steps id c ≡ walk old steps id c
walk-swept has new c w zero id d h = refl
walk-swept has {old = old} new c w (suc steps) id d h =
    elim (node_cases (node_at old id)) [
      | inl n ↦ rw (walk-end old (suc steps) id d n, walk-end new (suc steps) id d (kept_node has old new w id h ∙ n)) refl
      | inr p ↦ rw (kept_node has old new w id h, p.1) (walk-swept has new c w steps (if value_of d p.0.option then p.0.high else p.0.low) d (either (value_of d p.0.option) p.0.high p.0.low (c.high id p.0 h p.1) (c.low id p.0 h p.1)))
    ]
  where
    either : (b : Bool) (x y : ℕ) → has x ≡ true → has y ≡ true → has (if b then x else y) ≡ true
    either true x y h k = h
    either false x y h k = k

pub reaches-swept : (options : ℕ) (has : ℕ → Bool) (old new : List (Option Node)) → IsClosed old has → KeepsMarked has old new → (id : ℕ) (c : List Bool) → has id ≡ true → reaches new options id c ≡ reaches old options id c
reaches-swept options has old new c w id d h = ap (λ x. nat_eq x 1) (walk-swept has new c w options id d h)

AreKept-swept : (options base base' : ℕ) (has : ℕ → Bool) (old new : List (Option Node)) → IsClosed old has → KeepsMarked has old new → (ids : List ℕ) → AreMarked has ids → AreKept (sets_of options old base) (sets_of options new base') ids
AreKept-swept options base base' has old new c w [] m = tt
AreKept-swept options base base' has old new c w (id ∷ ids) m = (
  record {
    known = kept_stored has old new w id m.0 ∙ c.stored id m.0;
    test = λ d. reaches-swept options has old new c w id d m.0;
  },
  AreKept-swept options base base' has old new c w ids m.1,
)

pub IsCompacted-swept : (options base base' : ℕ) (roots : List ℕ) (has : ℕ → Bool) (old new : List (Option Node)) → IsMarking old roots has → KeepsMarked has old new → base' ≡ (sets_of options new base').count → IsCompacted (sets_of options old base) (sets_of options new base') roots
IsCompacted-swept options base base' roots has old new m w e = record {
  options = refl;
  never = refl;
  always = refl;
  counts = refl;
  base = e;
  kept = AreKept-swept options base base' has old new m.closed w roots m.roots_marked;
}

contains_map : {A B : Type 0} (f : A → B) (xs : List A) (x : A) → Contains xs x → Contains (map f xs) (f x)
contains_map {A = A} {B = B} f xs x p = by_index xs p.0 p.1 p.2
  where
    by_index : (ys : List A) (k : ℕ) → k < length ys → slice_index_or ys k x ≡ x → Contains (map f ys) (f x)
    by_index [] k l e = absurd (omega (arith, l))
    by_index (y ∷ ys) zero l e = (0, omega arith, ap f e)
    by_index (y ∷ ys) (suc k) l e = Contains-cons (f y) (f x) (map f ys) (by_index ys k (omega (arith, l)) e)

from_map : {A B : Type 0} (f : A → B) (xs : List A) (y : B) → Contains (map f xs) y → (x : A) × Contains xs x × (f x ≡ y)
from_map f [] y p = absurd (omega (arith, p.1))
from_map f (x ∷ xs) y p = elim (Contains-cons_cases (f x) y (map f xs) p) [
  | inl e ↦ (x, (0, omega arith, refl), e)
  | inr q ↦
      let rest = from_map f xs y q in
      (rest.0, Contains-cons x rest.0 xs rest.1, rest.2)
]

-- what is below a root is under the roots
under_below : (options : ℕ) (slots : List (Option Node)) → options < 65 → IsReduced options slots → (roots : List ℕ) (top : ℕ) → Contains roots top → (x : ℕ) → Below slots top x → Under (map (reaches slots options) roots) (reaches slots options x)
under_below options slots few r roots top p x here = root (reaches slots options top) (contains_map (reaches slots options) roots top p)
under_below options slots few r roots top p x (low id node b e) =
    let P : (List Bool → Bool) → Type 0 = λ f. Under (map (reaches slots options) roots) f in
    let same : fixed (reaches slots options id) node.option false ≡ reaches slots options node.low = λ i c. reaches-part r id node c false e i in
    subst P same (part (reaches slots options id) node.option false (under_below options slots few r roots top p id b) (IsTop-node 0 few r id node e).least)
under_below options slots few r roots top p x (high id node b e) =
    let P : (List Bool → Bool) → Type 0 = λ f. Under (map (reaches slots options) roots) f in
    let same : fixed (reaches slots options id) node.option true ≡ reaches slots options node.high = λ i c. reaches-part r id node c true e i in
    subst P same (part (reaches slots options id) node.option true (under_below options slots few r roots top p id b) (IsTop-node 0 few r id node e).least)

stored_either : (slots : List (Option Node)) (b : Bool) (x y : ℕ) → is_stored slots x ≡ true → is_stored slots y ≡ true → is_stored slots (if b then x else y) ≡ true
stored_either slots true x y h k = h
stored_either slots false x y h k = k

pub marked_root : (has : ℕ → Bool) (ids : List ℕ) (id : ℕ) → AreMarked has ids → Contains ids id → has id ≡ true
marked_root has [] id a p = absurd (omega (arith, p.1))
marked_root has (x ∷ xs) id a p = elim (Contains-cons_cases x id xs p) [
  | inl e ↦ ap has (sym e) ∙ a.0
  | inr q ↦ marked_root has xs id a.1 q
]

-- the sets of the ids below the roots are all that is under them
complete_under : (options base : ℕ) (old new : List (Option Node)) (has : ℕ → Bool) (roots : List ℕ) → options < 65 → IsReduced options new → IsMarking old roots has → KeepsMarked has old new → (set : List Bool → Bool) → Under (map (reaches old options) roots) set → (id : ℕ) × IsSet (sets_of options new base) id set
complete_under options base old new has roots few r m w set never = (0, record { known = r.never; test = λ c. ap (λ x. nat_eq x 1) (walk-end new options 0 c refl) })
complete_under options base old new has roots few r m w set always = (1, record { known = r.always; test = λ c. ap (λ x. nat_eq x 1) (walk-end new options 1 c refl) })
complete_under options base old new has roots few r m w set (root s p) =
    let q = from_map (reaches old options) roots s p in
    let h = marked_root has roots q.0 m.roots_marked q.1 in (
      q.0,
      record {
        known = kept_stored has old new w q.0 h ∙ m.closed.stored q.0 h;
        test = λ c. reaches-swept options has old new m.closed w q.0 c h ∙ ap (λ f. f c) q.2;
      },
    )
complete_under options base old new has roots few r m w set (part s i value u l) =
    let before = complete_under options base old new has roots few r m w s u in
    elim (node_cases (node_at new before.0)) [
      | inl n ↦ absurd (l.depends.1 (sym (before.1.test (with_option l.depends.0 i true)) ∙ constant before.0 n (with_option l.depends.0 i true) (with_option l.depends.0 i false) ∙ before.1.test (with_option l.depends.0 i false)))
      | inr p ↦
          let n = r.nodes before.0 p.0 p.1 in
          let top = (IsTop-node base few r before.0 p.0 p.1).least in
          let same : i ≡ p.0.option = elim (order_cases i p.0.option) [
            | inl less ↦ absurd (l.depends.1 (sym (before.1.test (with_option l.depends.0 i true)) ∙ top.free_below i less l.depends.0 ∙ before.1.test (with_option l.depends.0 i false)))
            | inr q ↦ elim q [
              | inl more ↦ absurd (top.depends.1 (before.1.test (with_option top.depends.0 p.0.option true) ∙ l.free_below p.0.option more top.depends.0 ∙ sym (before.1.test (with_option top.depends.0 p.0.option false))))
              | inr e ↦ e
            ]
          ] in (
            if value then p.0.high else p.0.low,
            record {
              known = stored_either new value p.0.high p.0.low n.high_stored n.low_stored;
              test = λ c. sym (reaches-part r before.0 p.0 c value p.1) ∙ before.1.test (with_option c p.0.option value) ∙ ap (λ k. s (with_option c k value)) (sym same);
            },
          )
    ]
  where
    constant : (id : ℕ) → node_at new id ≡ None → (c d : List Bool) → reaches new options id c ≡ reaches new options id d
    constant id n c d = ap (λ x. nat_eq x 1) (walk-end new options id c n ∙ sym (walk-end new options id d n))

pub IsJustUnder-swept : (options base : ℕ) (old new : List (Option Node)) (has : ℕ → Bool) (roots : List ℕ) → options < 65 → IsReduced options old → IsMarking old roots has → KeepsMarked has old new → IsJustUnder (sets_of options new base) (map (reaches old options) roots)
IsJustUnder-swept options base old new has roots few r m w =
    let q = IsReduced-swept options has old new r m.closed m.never m.always w in
    record {
      sound = λ id s.
          let h = stored_marked has old new w id s in
          let P : (List Bool → Bool) → Type 0 = λ f. Under (map (reaches old options) roots) f in
          let same : reaches old options id ≡ reaches new options id = λ i c. sym (reaches-swept options has old new m.closed w id c h) i in
          subst P same (elim (m.below id h) [
            | inl e ↦
                let nothing : (λ c. false) ≡ reaches old options id = λ i c. sym (ap (λ x. reaches old options x c) e ∙ ap (λ x. nat_eq x 1) (walk-end old options 0 c refl)) i in
                subst P nothing never
            | inr d ↦ elim d [
              | inl e ↦
                  let all : (λ c. true) ≡ reaches old options id = λ i c. sym (ap (λ x. reaches old options x c) e ∙ ap (λ x. nat_eq x 1) (walk-end old options 1 c refl)) i in
                  subst P all always
              | inr t ↦ under_below options old few r roots t.0 t.1 id t.2
            ]
          ]);
      complete = λ set u. complete_under options base old new has roots few q m w set u;
    }

-- the answers that a compaction leaves are right
pub AreRight-forgotten : (op : Op) {options : ℕ} {old new : List (Option Node)} (all_kept : Bool) → IsReduced options old → (all_kept ≡ true → Grows old new) → (before after : List Answer) → (all_kept ≡ false → after ≡ []) → (all_kept ≡ true → after ≡ before) → AreRight op options old before → AreRight op options new after
AreRight-forgotten op true r g before after n s h = rw (s refl) (AreRight-grows op r (g refl) before h)
AreRight-forgotten op {options = options} {new = new} false r g before after n s h = rw (n refl) (AreRight-none op options new)
