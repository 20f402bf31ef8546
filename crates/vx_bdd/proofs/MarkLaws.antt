-- Marking what is below some ids, and dropping the rest.
use Rattle.std.proofs.Common.{◌≡◌, ◌≢◌, ◌⊎◌, ℕ, ◌+◌, ◌<◌, ◌≤◌, Bool, true, false, List, [], ◌∷◌, ◌++◌, refl, sym, ◌∙◌, ap, subst, arith, zero, suc, inl, inr, length, get_or, map}
use Rattle.std.specs.Prelude.{Option, Some, None, if◌then◌else◌, nat_eq, slice_index_or, slice_get, Contains}
use Rattle.std.proofs.lemmas.Bool.{cases_eq}
use Rattle.std.proofs.lemmas.Map.Views.{exact_unsigned_eq}
use Rattle.std.proofs.lemmas.Map.Entries.{place_from_lookup}
use Rattle.std.proofs.lemmas.List.Elements.{Contains-get_or, Contains-push, Contains-push_cases, Contains-append_left}
use Rattle.std.specs.HashMap.{HashMap, values}
use Rattle.slab.proofs.SlabLemmas.{Contains-cons, Contains-cons_cases}
use Rattle.vx_bdd.specs.declared.node.Node.{Node}
use Rattle.vx_bdd.specs.Diagram.{node_at, is_stored}
use Rattle.vx_bdd.specs.Table.{id_of, IsIndex, Grows}
use Rattle.vx_bdd.specs.contracts.node.NodePartialEq.TheImpl as node_eq
use Rattle.vx_bdd.specs.Hashing.{node_eq-exact}
use Rattle.vx_bdd.proofs.TableLaws.{node_eq-refl, node_inside, some_same}
use Rattle.vx_bdd.specs.Marks.{Below, here, low, high, IsClosed, AddsBelow, AreMarked, IsMarking, KeepsMarked, AreStored, AreUnmarked, AreNodes, IsDropped, SlotsWithout, IndexWithout}

pub Below-low : {slots : List (Option Node)} (id : ℕ) (node : Node) (x : ℕ) → node_at slots id ≡ Some node → Below slots node.low x → Below slots id x
Below-low id node x e here = low id node here e
Below-low id node x e (low y m b f) = low y m (Below-low id node y e b) f
Below-low id node x e (high y m b f) = high y m (Below-low id node y e b) f

pub Below-high : {slots : List (Option Node)} (id : ℕ) (node : Node) (x : ℕ) → node_at slots id ≡ Some node → Below slots node.high x → Below slots id x
Below-high id node x e here = high id node here e
Below-high id node x e (low y m b f) = low y m (Below-high id node y e b) f
Below-high id node x e (high y m b f) = high y m (Below-high id node y e b) f

pub AddsBelow-refl : (slots : List (Option Node)) (id : ℕ) (has : ℕ → Bool) → AddsBelow slots id has has
AddsBelow-refl slots id has = record { kept = λ x h. h; below = λ x h. inl h }

pub AddsBelow-parts : {slots : List (Option Node)} (id : ℕ) (node : Node) (a b c : ℕ → Bool) → node_at slots id ≡ Some node → AddsBelow slots node.low a b → AddsBelow slots node.high b c → AddsBelow slots id a c
AddsBelow-parts id node a b c e p q = record {
  kept = λ x h. q.kept x (p.kept x h);
  below = λ x h. elim (q.below x h) [
    | inl k ↦ elim (p.below x k) [ inl m ↦ inl m | inr d ↦ inr (Below-low id node x e d) ]
    | inr d ↦ inr (Below-high id node x e d)
  ];
}

-- what was marked stays marked with one id more
still : (t v : Bool) → v ≡ true → (if t then true else v) ≡ true
still true v h = refl
still false v h = h

pub AddsBelow-insert : {slots : List (Option Node)} (id : ℕ) (a b c : ℕ → Bool) → AddsBelow slots id a b → ((q : ℕ) → c q ≡ (if nat_eq id q then true else b q)) → AddsBelow slots id a c
AddsBelow-insert {slots = slots} id a b c p u = record {
  kept = λ x h. u x ∙ still (nat_eq id x) (b x) (p.kept x h);
  below = λ x h. cases x (nat_eq id x) refl (sym (u x) ∙ h);
}
  where
    cases : (x : ℕ) (t : Bool) → nat_eq id x ≡ t → (if t then true else b x) ≡ true → (a x ≡ true) ⊎ Below slots id x
    cases x true e h =
        let P : ℕ → Type 0 = λ y. Below slots id y in
        inr (subst P (exact_unsigned_eq id x e) here)
    cases x false e h = p.below x h

-- an id whose parts are marked may be marked
pub IsClosed-insert : {slots : List (Option Node)} (id : ℕ) (b c : ℕ → Bool) → IsClosed slots b → is_stored slots id ≡ true → ((node : Node) → node_at slots id ≡ Some node → (b node.low ≡ true) × (b node.high ≡ true)) → ((q : ℕ) → c q ≡ (if nat_eq id q then true else b q)) → IsClosed slots c
IsClosed-insert {slots = slots} id b c h s parts u = record {
  stored = λ x k. stored x (nat_eq id x) refl (sym (u x) ∙ k);
  low = λ x node k e. kept node.low (part x node (nat_eq id x) refl (sym (u x) ∙ k) e).0;
  high = λ x node k e. kept node.high (part x node (nat_eq id x) refl (sym (u x) ∙ k) e).1;
}
  where
    kept : (x : ℕ) → b x ≡ true → c x ≡ true
    kept x k = u x ∙ still (nat_eq id x) (b x) k

    stored : (x : ℕ) (t : Bool) → nat_eq id x ≡ t → (if t then true else b x) ≡ true → is_stored slots x ≡ true
    stored x true e k = ap (is_stored slots) (sym (exact_unsigned_eq id x e)) ∙ s
    stored x false e k = h.stored x k

    part : (x : ℕ) (node : Node) (t : Bool) → nat_eq id x ≡ t → (if t then true else b x) ≡ true → node_at slots x ≡ Some node → (b node.low ≡ true) × (b node.high ≡ true)
    part x node true e k f = parts node (ap (node_at slots) (exact_unsigned_eq id x e) ∙ f)
    part x node false e k f = (h.low x node k f, h.high x node k f)

-- the parts of a node, by one that is known
pub parts_of_node : (slots : List (Option Node)) (id : ℕ) (known : Node) (b : ℕ → Bool) → node_at slots id ≡ Some known → b known.low ≡ true → b known.high ≡ true → (node : Node) → node_at slots id ≡ Some node → (b node.low ≡ true) × (b node.high ≡ true)
parts_of_node slots id known b e s t node f =
    let same : known ≡ node = node_inside (sym e ∙ f) in
    (ap (λ m. b m.low) (sym same) ∙ s, ap (λ m. b m.high) (sym same) ∙ t)

-- marking root after root
pub record IsMarkingSome (slots : List (Option Node)) (roots : List ℕ) (i : ℕ) (has : ℕ → Bool) : Type 0 where
  pub closed : IsClosed slots has
  pub never : has 0 ≡ true
  pub always : has 1 ≡ true
  pub marked : (k : ℕ) → k < i → k < length roots → has (get_or roots k 0) ≡ true
  pub below : (x : ℕ) → has x ≡ true → (x ≡ 0) ⊎ (x ≡ 1) ⊎ ((root : ℕ) × Contains roots root × Below slots root x)

pub end_below : {slots : List (Option Node)} (id x : ℕ) → node_at slots id ≡ None → Below slots id x → x ≡ id
end_below id x n here = refl
end_below id x n (low y m b f) = cc (ap (node_at _) (end_below id y n b), f, n)
end_below id x n (high y m b f) = cc (ap (node_at _) (end_below id y n b), f, n)

pub IsMarkingSome-start : (slots : List (Option Node)) (roots : List ℕ) (a b c : ℕ → Bool) → ((x : ℕ) → a x ≡ false) → AddsBelow slots 0 a b → AddsBelow slots 1 b c → IsClosed slots c → b 0 ≡ true → c 1 ≡ true → IsMarkingSome slots roots 0 c
IsMarkingSome-start slots roots a b c e p q closed s t = record {
  closed = closed;
  never = q.kept 0 s;
  always = t;
  marked = λ k l m. absurd (omega (arith, l));
  below = λ x h. elim (q.below x h) [
    | inl k ↦ elim (p.below x k) [
      | inl m ↦ cc (m, e x)
      | inr d ↦ inl (end_below 0 x refl d)
    ]
    | inr d ↦ inr (inl (end_below 1 x refl d))
  ];
}

pub IsMarkingSome-step : (slots : List (Option Node)) (roots : List ℕ) (i root : ℕ) (a b : ℕ → Bool) → IsMarkingSome slots roots i a → i < length roots → root ≡ get_or roots i 0 → AddsBelow slots root a b → IsClosed slots b → b root ≡ true → IsMarkingSome slots roots (i + 1) b
IsMarkingSome-step slots roots i root a b h l e p closed t = record {
  closed = closed;
  never = p.kept 0 h.never;
  always = p.kept 1 h.always;
  marked = λ k m n. elim (cases_eq k i) [
    | inl q ↦ rw q (ap b (sym e) ∙ t)
    | inr q ↦ p.kept (get_or roots k 0) (h.marked k (omega (arith, m, q)) n)
  ];
  below = λ x k. elim (p.below x k) [
    | inl m ↦ h.below x m
    | inr d ↦ inr (inr (root, (i, l, at_index roots i root l e), d))
  ];
}
  where
    at_index : (xs : List ℕ) (j x : ℕ) → j < length xs → x ≡ get_or xs j 0 → slice_index_or xs j x ≡ x
    at_index [] j x m f = refl
    at_index (y ∷ ys) zero x m f = sym f
    at_index (y ∷ ys) (suc j) x m f = at_index ys j x (omega (arith, m)) f

all_marked : (has : ℕ → Bool) (roots : List ℕ) → ((k : ℕ) → k < length roots → has (get_or roots k 0) ≡ true) → AreMarked has roots
all_marked has [] h = tt
all_marked has (x ∷ xs) h = (h 0 (omega arith), all_marked has xs (λ k l. h (suc k) (omega (arith, l))))

pub IsMarkingSome-end : (slots : List (Option Node)) (roots : List ℕ) (i : ℕ) (has : ℕ → Bool) → IsMarkingSome slots roots i has → length roots ≤ i → IsMarking slots roots has
IsMarkingSome-end slots roots i has h l = record {
  closed = h.closed;
  never = h.never;
  always = h.always;
  roots_marked = all_marked has roots (λ k m. h.marked k (omega (arith, m, l)) m);
  below = h.below;
}

pub stored_at : (slots : List (Option Node)) (roots : List ℕ) (i : ℕ) → AreStored slots roots → i < length roots → is_stored slots (get_or roots i 0) ≡ true
stored_at slots [] i h l = absurd (omega (arith, l))
stored_at slots (x ∷ xs) zero h l = h.0
stored_at slots (x ∷ xs) (suc i) h l = stored_at slots xs i h.1 (omega (arith, l))

-- the ids of a map that have no mark, as far as they were looked at
pub record IsPicking (has : ℕ → Bool) (ids left unmarked : List ℕ) : Type 0 where
  pub sound : (x : ℕ) → Contains unmarked x → has x ≡ false
  pub all : (x : ℕ) → Contains ids x → has x ≡ false → Contains unmarked x ⊎ Contains left x

pub IsPicking-start : (has : ℕ → Bool) (ids : List ℕ) → IsPicking has ids ids []
IsPicking-start has ids = record { sound = λ x p. absurd (omega (arith, p.1)); all = λ x p h. inr p }

pub IsPicking-step : (has : ℕ → Bool) (ids left rest old new : List ℕ) (id : ℕ) → IsPicking has ids left old → left ≡ id ∷ rest → new ≡ (if has id then old else old ++ id ∷ []) → IsPicking has ids rest new
IsPicking-step has ids left rest old new id h e f = cases (has id) refl f
  where
    ahead : (x : ℕ) → Contains left x → (id ≡ x) ⊎ Contains rest x
    ahead x p = Contains-cons_cases id x rest (rw e at p)

    cases : (b : Bool) → has id ≡ b → new ≡ (if b then old else old ++ id ∷ []) → IsPicking has ids rest new
    cases true m n = rw n (record {
      sound = h.sound;
      all = λ x p u. elim (h.all x p u) [
        | inl q ↦ inl q
        | inr q ↦ elim (ahead x q) [ inl s ↦ cc (m, u, s) | inr r ↦ inr r ]
      ];
    })
    cases false m n = rw n (record {
      sound = λ x p. elim (Contains-push_cases old id x p) [ inl q ↦ h.sound x q | inr s ↦ sym (ap has s) ∙ m ];
      all = λ x p u. elim (h.all x p u) [
        | inl q ↦ inl (Contains-append_left old (id ∷ []) x q)
        | inr q ↦ elim (ahead x q) [
          | inl s ↦
              let P : ℕ → Type 0 = λ y. Contains (old ++ id ∷ []) y in
              inl (subst P s (Contains-push old id))
          | inr r ↦ inr r
        ]
      ];
    })

pub IsPicking-end : (has : ℕ → Bool) (ids left unmarked : List ℕ) → IsPicking has ids left unmarked → left ≡ [] → AreUnmarked has ids unmarked
IsPicking-end has ids left unmarked h e = record {
  sound = h.sound;
  all = λ x p u. elim (h.all x p u) [
    | inl q ↦ q
    | inr q ↦
        let none : Contains [] x = rw e at q in
        absurd (omega (arith, none.1))
  ];
}

-- an id that has no mark is a node's, where never and always have marks
pub AreNodes-unmarked : (has : ℕ → Bool) (ids unmarked : List ℕ) → has 0 ≡ true → has 1 ≡ true → AreUnmarked has ids unmarked → AreNodes unmarked
AreNodes-unmarked has ids unmarked s t h = record { inner = λ x p. least x (h.sound x p) }
  where
    least : (x : ℕ) → has x ≡ false → 2 ≤ x
    least zero u = cc (s, u)
    least (suc zero) u = cc (t, u)
    least (suc (suc x)) u = omega arith

-- dropping the first of some ids
pub record IsDropping (dropped : List ℕ) (i : ℕ) (start now : List (Option Node)) : Type 0 where
  pub gone : (k : ℕ) → k < i → k < length dropped → slice_index_or now (get_or dropped k 0) None ≡ None
  pub others : (x : ℕ) → (slice_index_or now x None ≡ slice_index_or start x None) ⊎ ((slice_index_or now x None ≡ None) × Contains dropped x)

pub IsDropping-start : (dropped : List ℕ) (start : List (Option Node)) → IsDropping dropped 0 start start
IsDropping-start dropped start = record { gone = λ k l m. absurd (omega (arith, l)); others = λ x. inl refl }

pub IsDropping-step : (dropped : List ℕ) (i : ℕ) (start now next : List (Option Node)) → IsDropping dropped i start now → i < length dropped → SlotsWithout (get_or dropped i 0) now next → IsDropping dropped (i + 1) start next
IsDropping-step dropped i start now next h l d = record {
  gone = λ k m n. elim (cases_eq k i) [
    | inl e ↦ rw e d.empty
    | inr q ↦ stays_empty (get_or dropped k 0) (h.gone k (omega (arith, m, q)) n)
  ];
  others = λ x. elim (cases_eq x (get_or dropped i 0)) [
    | inl e ↦ inr (ap (λ y. slice_index_or next y None) e ∙ d.empty, rw e (Contains-get_or dropped i 0 l))
    | inr n ↦ elim (h.others x) [
      | inl same ↦ inl (d.others x n ∙ same)
      | inr gone ↦ inr (d.others x n ∙ gone.0, gone.1)
    ]
  ];
}
  where
    stays_empty : (x : ℕ) → slice_index_or now x None ≡ None → slice_index_or next x None ≡ None
    stays_empty x e = elim (cases_eq x (get_or dropped i 0)) [
      | inl s ↦ ap (λ y. slice_index_or next y None) s ∙ d.empty
      | inr n ↦ d.others x n ∙ e
    ]

pub IsDropping-end : (dropped : List ℕ) (i : ℕ) (start now : List (Option Node)) → IsDropping dropped i start now → length dropped ≤ i → IsDropped dropped start now
IsDropping-end dropped i start now h l = record {
  gone = λ x p. ap (λ y. slice_index_or now y None) (sym (at_place dropped p.0 x p.1 p.2)) ∙ h.gone p.0 (omega (arith, p.1, l)) p.1;
  others = h.others;
}
  where
    at_place : (xs : List ℕ) (k x : ℕ) → k < length xs → slice_index_or xs k x ≡ x → get_or xs k 0 ≡ x
    at_place [] k x m e = absurd (omega (arith, m))
    at_place (y ∷ ys) zero x m e = e
    at_place (y ∷ ys) (suc k) x m e = at_place ys k x (omega (arith, m)) e

node_of : (slots : List (Option Node)) (id : ℕ) (node : Node) → node_at slots id ≡ Some node → slice_index_or slots id None ≡ Some node
node_of slots zero node e = cc
node_of slots (suc zero) node e = cc
node_of slots (suc (suc k)) node e = e

of_node : (slots : List (Option Node)) (id : ℕ) (node : Node) → 2 ≤ id → slice_index_or slots id None ≡ Some node → node_at slots id ≡ Some node
of_node slots zero node l e = absurd (omega (arith, l))
of_node slots (suc zero) node l e = absurd (omega (arith, l))
of_node slots (suc (suc k)) node l e = e

-- the slots without one, by nodes
node_without : {id : ℕ} {old new : List (Option Node)} → SlotsWithout id old new → (x : ℕ) → x ≢ id → node_at new x ≡ node_at old x
node_without d zero n = refl
node_without d (suc zero) n = refl
node_without d (suc (suc k)) n = d.others (suc (suc k)) n

no_node : {id : ℕ} {old new : List (Option Node)} → SlotsWithout id old new → (node : Node) → node_at new id ≡ Some node → ⊥
no_node {id = id} {new = new} d node e = cc (node_of new id node e, d.empty)

pub IsIndex-without : {S : Type 0} (old new : List (Option Node)) (ids ids' : HashMap Node ℕ S) (id : ℕ) → IsIndex old ids → 2 ≤ id → SlotsWithout id old new → IndexWithout (slice_index_or old id None) ids ids' → IsIndex new ids'
IsIndex-without {S = S} old new ids ids' id x l d i = cases (slice_index_or old id None) refl i
  where
    cases : (o : Option Node) → slice_index_or old id None ≡ o → IndexWithout o ids ids' → IsIndex new ids'
    cases None e j = record {
      sound = λ q k f.
          let was = x.sound q k (sym (j q) ∙ f) in
          let other : k ≢ id = λ s. cc (node_of old k q was, s, e) in
          node_without d k other ∙ was;
      complete = λ k q f.
          let other : k ≢ id = λ s. no_node d q (ap (node_at new) (sym s) ∙ f) in
          j q ∙ x.complete k q (sym (node_without d k other) ∙ f);
    }
    cases (Some node) e j = record {
      sound = λ q k f. sound q k (node_eq.ghosts.eq node q) refl (sym (j q) ∙ f);
      complete = λ k q f.
          let other : k ≢ id = λ s. no_node d q (ap (node_at new) (sym s) ∙ f) in
          j q ∙ complete q k (node_eq.ghosts.eq node q) refl other (x.complete k q (sym (node_without d k other) ∙ f));
    }
      where
        here : id_of ids node ≡ Some id
        here = x.complete id node (of_node old id node l e)

        sound : (q : Node) (k : ℕ) (b : Bool) → node_eq.ghosts.eq node q ≡ b → (if b then None else id_of ids q) ≡ Some k → node_at new k ≡ Some q
        sound q k true g f = cc
        sound q k false g f =
            let was = x.sound q k f in
            let other : k ≢ id = λ s.
            let same : Some node ≡ Some q = sym e ∙ ap (λ y. slice_index_or old y None) (sym s) ∙ node_of old k q was in
            cc (sym g ∙ ap (node_eq.ghosts.eq node) (sym (node_inside same)) ∙ node_eq-refl node) in
            node_without d k other ∙ was

        complete : (q : Node) (k : ℕ) (b : Bool) → node_eq.ghosts.eq node q ≡ b → k ≢ id → id_of ids q ≡ Some k → (if b then None else id_of ids q) ≡ Some k
        complete q k true g n f = absurd (n (some_same (sym f ∙ ap (id_of ids) (sym (node_eq-exact node q g)) ∙ here)))
        complete q k false g n f = f

-- the id of a node is among those of the map
among : {S : Type 0} (ids : HashMap Node ℕ S) (node : Node) (id : ℕ) → id_of ids node ≡ Some id → Contains (values ids) id
among ids node id e =
    let p = place_from_lookup (node_eq.ghosts.eq node) ids.entries id e in
    at_place ids.entries p.0 p.1 p.2
  where
    at_place : (es : List (Node × ℕ)) (i : ℕ) (k : Node) → slice_get es i ≡ Some (k, id) → Contains (map (λ e. e.1) es) id
    at_place [] i k f = cc
    at_place (e ∷ es) zero k f = (0, omega arith, pair_inside e k f)
      where
        pair_inside : (e : Node × ℕ) (k : Node) → Some e ≡ Some (k, id) → e.1 ≡ id
        pair_inside e k f = cc
    at_place (e ∷ es) (suc i) k f = Contains-cons e.1 id (map (λ e. e.1) es) (at_place es i k f)

-- what is left where the unmarked ids of the map were dropped
pub KeepsMarked-dropped : {S : Type 0} (has : ℕ → Bool) (old new : List (Option Node)) (ids : HashMap Node ℕ S) (unmarked : List ℕ) → IsIndex old ids → has 0 ≡ true → has 1 ≡ true → AreUnmarked has (values ids) unmarked → IsDropped unmarked old new → KeepsMarked has old new
KeepsMarked-dropped {S = S} has old new ids unmarked x s t u d = record { slots = λ y. cases y (has y) refl }
  where
    least : (y : ℕ) → has y ≡ false → 2 ≤ y
    least zero e = cc (s, e)
    least (suc zero) e = cc (t, e)
    least (suc (suc y)) e = omega arith

    dropped : (y : ℕ) → has y ≡ false → (o : Option Node) → slice_index_or old y None ≡ o → slice_index_or new y None ≡ None
    dropped y e None f = elim (d.others y) [ inl q ↦ q ∙ f | inr q ↦ q.0 ]
    dropped y e (Some node) f = d.gone y (u.all y (among ids node y (x.complete y node (of_node old y node (least y e) f))) e)

    cases : (y : ℕ) (b : Bool) → has y ≡ b → slice_index_or new y None ≡ (if b then slice_index_or old y None else None)
    cases y true e = elim (d.others y) [ inl q ↦ q | inr q ↦ cc (e, u.sound y q.1) ]
    cases y false e = dropped y e (slice_index_or old y None) refl

-- where no id is dropped the slots stay
pub Grows-dropped : (old new : List (Option Node)) (dropped : List ℕ) → IsDropped dropped old new → length dropped ≡ 0 → Grows old new
Grows-dropped old new dropped d e = record {
  kept = λ x s. elim (d.others x) [ inl q ↦ q | inr q ↦ absurd (omega (arith, e, q.1.1)) ];
}
