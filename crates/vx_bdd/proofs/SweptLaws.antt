-- A swept table is swept again by what it has: what is stored is under the roots.
use Rattle.std.proofs.Common.{◌≡◌, ◌⊎◌, ℕ, ◌+◌, ◌<◌, ◌≤◌, Bool, true, false, List, [], ◌∷◌, refl, sym, ◌∙◌, ap, subst, arith, zero, suc, inl, inr}
use Rattle.std.specs.Prelude.{Option, Some, None, if◌then◌else◌, is_some, nat_eq, slice_index_or, Contains, ◌||◌}
use Rattle.std.proofs.lemmas.Bool.Decides.{nat_tests}
use Rattle.std.proofs.lemmas.Map.Views.{exact_unsigned_eq}
use Rattle.slab.proofs.SlabLemmas.{Contains-cons, Contains-cons_cases}
use Rattle.vx_space.specs.Sets.{AreKnown}
use Rattle.vx_bdd.specs.declared.node.Node.{Node}
use Rattle.vx_bdd.specs.Diagram.{node_at, is_stored, level_of, level, IsReduced}
use Rattle.vx_bdd.specs.Space.{sets_of}
use Rattle.vx_bdd.specs.Marks.{Below, here, low, high, IsClosed, AreMarked, IsMarking, KeepsMarked, AreStored}
use Rattle.vx_bdd.specs.Swept.{has_part, is_below, is_under, IsSwept}
use Rattle.vx_bdd.proofs.MarkLaws.{Below-low, Below-high}
use Rattle.vx_bdd.proofs.CompactLaws.{kept_node, stored_marked, marked_root, IsReduced-swept}

or_left : (a b : Bool) → a ≡ true → (a || b) ≡ true
or_left true b h = refl
or_left false b h = cc

or_right : (a b : Bool) → b ≡ true → (a || b) ≡ true
or_right true b h = refl
or_right false b h = h

or_cases : (a b : Bool) → (a || b) ≡ true → (a ≡ true) ⊎ (b ≡ true)
or_cases true b h = inl refl
or_cases false b h = inr h

same_eq : (i : ℕ) → nat_eq i i ≡ true
same_eq i = grind (arith, nat_tests)

-- what the test finds is below the top
below_parts : (slots : List (Option Node)) (has : ℕ → Bool) (id top : ℕ) → ((part : ℕ) → has part ≡ true → Below slots part id) → (o : Option Node) → node_at slots top ≡ o → has_part has o ≡ true → Below slots top id
below_parts slots has id top sound None e q = cc
below_parts slots has id top sound (Some node) e q = elim (or_cases (has node.low) (has node.high) q) [
  | inl l ↦ Below-low top node id e (sound node.low l)
  | inr r ↦ Below-high top node id e (sound node.high r)
]

below_same : (slots : List (Option Node)) (top id : ℕ) → nat_eq top id ≡ true → Below slots top id
below_same slots top id e =
    let P : ℕ → Type 0 = λ y. Below slots top y in
    subst P (exact_unsigned_eq top id e) here

below_sound : (slots : List (Option Node)) (steps id top : ℕ) → is_below slots steps id top ≡ true → Below slots top id
below_sound slots zero id top h = below_same slots top id h
below_sound slots (suc steps) id top h = elim (or_cases (nat_eq top id) (has_part (λ part. is_below slots steps id part) (node_at slots top)) h) [
  | inl e ↦ below_same slots top id e
  | inr q ↦ below_parts slots (λ part. is_below slots steps id part) id top (λ part p. below_sound slots steps id part p) (node_at slots top) refl q
]

below_itself : (slots : List (Option Node)) (steps id : ℕ) → is_below slots steps id id ≡ true
below_itself slots zero id = same_eq id
below_itself slots (suc steps) id = or_left (nat_eq id id) _ (same_eq id)

-- with an id the test finds its parts, where the steps are enough
below_part : {options : ℕ} {slots : List (Option Node)} → IsReduced options slots → (steps top id : ℕ) (node : Node) (value : Bool) → options ≤ steps + level slots options top → node_at slots id ≡ Some node → is_below slots steps id top ≡ true → is_below slots steps (if value then node.high else node.low) top ≡ true
below_part {options = options} {slots = slots} r zero top id node value l e h =
    let here : level slots options top ≡ node.option = ap (level_of options) (ap (node_at slots) (exact_unsigned_eq top id h) ∙ e) in
    absurd (omega (arith, l, here, (r.nodes id node e).in_range))
below_part {options = options} {slots = slots} r (suc steps) top id node value l e h = elim (or_cases (nat_eq top id) (has_part (λ part. is_below slots steps id part) (node_at slots top)) h) [
  | inl s ↦ through (Some node) (ap (node_at slots) (exact_unsigned_eq top id s) ∙ e) (either value)
  | inr q ↦ deeper (λ m k p. below_part r steps m id node value k e p) (node_at slots top) refl q
]
  where
    part : ℕ
    part = if value then node.high else node.low

    through : (o : Option Node) → node_at slots top ≡ o → has_part (λ x. is_below slots steps part x) o ≡ true → is_below slots (suc steps) part top ≡ true
    through o f q = or_right (nat_eq top part) _ (ap (has_part (λ x. is_below slots steps part x)) f ∙ q)

    either : (v : Bool) → has_part (λ x. is_below slots steps (if v then node.high else node.low) x) (Some node) ≡ true
    either true = or_right (is_below slots steps node.high node.low) _ (below_itself slots steps node.high)
    either false = or_left (is_below slots steps node.low node.low) _ (below_itself slots steps node.low)

    deeper : ((m : ℕ) → options ≤ steps + level slots options m → is_below slots steps id m ≡ true → is_below slots steps part m ≡ true) → (o : Option Node) → node_at slots top ≡ o → has_part (λ x. is_below slots steps id x) o ≡ true → is_below slots (suc steps) part top ≡ true
    deeper down None f q = cc
    deeper down (Some m) f q =
        let n = r.nodes top m f in
        let asks : level slots options top ≡ m.option = ap (level_of options) f in
        through (Some m) f (elim (or_cases (is_below slots steps id m.low) (is_below slots steps id m.high) q) [
          | inl a ↦ or_left (is_below slots steps part m.low) _ (down m.low (omega (arith, l, asks, n.low_later)) a)
          | inr b ↦ or_right (is_below slots steps part m.low) _ (down m.high (omega (arith, l, asks, n.high_later)) b)
        ])

-- the test finds what is below the top
below_complete : {options : ℕ} {slots : List (Option Node)} → IsReduced options slots → (top id : ℕ) → Below slots top id → is_below slots options id top ≡ true
below_complete {options = options} {slots = slots} r top id here = below_itself slots options top
below_complete {options = options} r top id (low at node b e) = below_part r options top at node false (omega arith) e (below_complete r top at b)
below_complete {options = options} r top id (high at node b e) = below_part r options top at node true (omega arith) e (below_complete r top at b)

under_sound : (slots : List (Option Node)) (options : ℕ) (roots : List ℕ) (id : ℕ) → is_under slots options roots id ≡ true → (id ≡ 0) ⊎ (id ≡ 1) ⊎ ((root : ℕ) × Contains roots root × Below slots root id)
under_sound slots options [] id h = elim (or_cases (nat_eq 0 id) (nat_eq 1 id) h) [
  | inl e ↦ inl (sym (exact_unsigned_eq 0 id e))
  | inr e ↦ inr (inl (sym (exact_unsigned_eq 1 id e)))
]
under_sound slots options (root ∷ roots) id h = elim (or_cases (is_below slots options id root) (is_under slots options roots id) h) [
  | inl b ↦ inr (inr (root, (0, omega arith, refl), below_sound slots options id root b))
  | inr q ↦ elim (under_sound slots options roots id q) [
    | inl e ↦ inl e
    | inr p ↦ elim p [
      | inl e ↦ inr (inl e)
      | inr t ↦ inr (inr (t.0, Contains-cons root t.0 roots t.1, t.2))
    ]
  ]
]

under_end : (slots : List (Option Node)) (options : ℕ) (roots : List ℕ) (id : ℕ) → (nat_eq 0 id || nat_eq 1 id) ≡ true → is_under slots options roots id ≡ true
under_end slots options [] id h = h
under_end slots options (root ∷ roots) id h = or_right (is_below slots options id root) _ (under_end slots options roots id h)

under_root : (slots : List (Option Node)) (options : ℕ) (roots : List ℕ) (root id : ℕ) → Contains roots root → is_below slots options id root ≡ true → is_under slots options roots id ≡ true
under_root slots options [] root id p h = absurd (omega (arith, p.1))
under_root slots options (other ∷ roots) root id p h = elim (Contains-cons_cases other root roots p) [
  | inl e ↦ or_left (is_below slots options id other) _ (ap (is_below slots options id) e ∙ h)
  | inr q ↦ or_right (is_below slots options id other) _ (under_root slots options roots root id q h)
]

-- what is below a marked id is marked and kept
below_kept : (has : ℕ → Bool) (old new : List (Option Node)) → IsClosed old has → KeepsMarked has old new → (top id : ℕ) → has top ≡ true → Below old top id → (has id ≡ true) × Below new top id
below_kept has old new c w top id h here = (h, here)
below_kept has old new c w top id h (low at node b e) =
    let p = below_kept has old new c w top at h b in
    (c.low at node p.0 e, low at node p.1 (kept_node has old new w at p.0 ∙ e))
below_kept has old new c w top id h (high at node b e) =
    let p = below_kept has old new c w top at h b in
    (c.high at node p.0 e, high at node p.1 (kept_node has old new w at p.0 ∙ e))

-- a sweep leaves what is under its roots
pub IsSwept-kept : (options : ℕ) (has : ℕ → Bool) (old new : List (Option Node)) (roots : List ℕ) → IsReduced options old → IsMarking old roots has → KeepsMarked has old new → IsSwept options new roots
IsSwept-kept options has old new roots r m w = record {
  under = λ id s. elim (m.below id (stored_marked has old new w id s)) [
    | inl e ↦ under_end new options roots id (or_left (nat_eq 0 id) _ (ap (nat_eq 0) e))
    | inr p ↦ elim p [
      | inl e ↦ under_end new options roots id (or_right (nat_eq 0 id) _ (ap (nat_eq 1) e))
      | inr t ↦
          let b = below_kept has old new m.closed w t.0 id (marked_root has roots t.0 m.roots_marked t.1) t.2 in
          under_root new options roots t.0 id t.1 (below_complete q t.0 id b.1)
    ]
  ];
}
  where
    q : IsReduced options new
    q = IsReduced-swept options has old new r m.closed m.never m.always w

all_stored : (slots : List (Option Node)) (roots : List ℕ) → AreStored slots roots → AreMarked (is_stored slots) roots
all_stored slots [] h = tt
all_stored slots (root ∷ roots) h = (h.0, all_stored slots roots h.1)

-- known sets are stored
pub AreStored-known : (options base : ℕ) (slots : List (Option Node)) (roots : List ℕ) → AreKnown (sets_of options slots base) roots → AreStored slots roots
AreStored-known options base slots [] h = tt
AreStored-known options base slots (root ∷ roots) h = (h.0, AreStored-known options base slots roots h.1)

-- in a swept table just what is stored is to be marked, and marking that keeps all
pub IsMarking-swept : {options : ℕ} {slots : List (Option Node)} (roots : List ℕ) → IsReduced options slots → AreStored slots roots → IsSwept options slots roots → IsMarking slots roots (is_stored slots)
IsMarking-swept {options = options} {slots = slots} roots r s w = record {
  closed = record {
    stored = λ id h. h;
    low = λ id node h e. (r.nodes id node e).low_stored;
    high = λ id node h e. (r.nodes id node e).high_stored;
  };
  never = r.never;
  always = r.always;
  roots_marked = all_stored slots roots s;
  below = λ id h. under_sound slots options roots id (w.under id h);
}

pub KeepsMarked-stored : (slots : List (Option Node)) → KeepsMarked (is_stored slots) slots slots
KeepsMarked-stored slots = record { slots = λ id. itself (slice_index_or slots id None) }
  where
    itself : (o : Option Node) → o ≡ (if is_some o then o else None)
    itself None = refl
    itself (Some node) = refl
