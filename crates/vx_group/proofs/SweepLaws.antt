-- Marking what groups reach, and dropping the rest.
use Rattle.std.proofs.Common.{◌≡◌, ◌≢◌, ◌⊎◌, ℕ, ◌+◌, ◌-◌, ◌<◌, ◌≤◌, Bool, true, false, List, [], ◌∷◌, refl, sym, ◌∙◌, ap, subst, zero, suc, inl, inr, length, get_or, arith}
use Rattle.std.specs.Prelude.{Option, Some, None, if◌then◌else◌, nat_eq, nat_lt, ◌&&◌, not, slice_index_or}
use Rattle.std.proofs.lemmas.Bool.{cases_eq}
use Rattle.std.proofs.lemmas.Bool.Decides.{nat_tests}
use Rattle.slab.specs.Slab.{Slab, get, Updates}
use Rattle.vx_group.specs.declared.callers.Caller.{Caller}
use Rattle.vx_group.specs.Callers.{node_at, AreNodes}
use Rattle.vx_group.specs.Group.{GroupView}
use Rattle.vx_group.specs.Sweep.{Reaches, first, further, IsReached, IsSwept, StandIn, caller_at, IsMarked, IsClosed, AddsReached}

-- what stands below the node of a number
pub nodes_down : {S I : Type 0} (tree : List (Option (Caller S I))) (depth number : ℕ) (node : Caller S I) → AreNodes tree depth (Some number) → node_at tree number ≡ Some node → (0 < depth) × AreNodes tree (depth - 1) node.caller
nodes_down tree zero number node h e = cc h
nodes_down {S = S} {I = I} tree (suc n) number node h e =
    let less : suc n - 1 ≡ n = omega arith in
    let same : h.0 ≡ node = cc (h.1, e) in
    let P : Caller S I → Type 0 = λ q. AreNodes tree n q.caller in
    let Q : ℕ → Type 0 = λ d. AreNodes tree d node.caller in
    (omega arith, subst Q (sym less) (subst P same h.2))

-- there is a node of the number
pub node_there : {S I : Type 0} (tree : List (Option (Caller S I))) (depth number : ℕ) → AreNodes tree depth (Some number) → node_at tree number ≡ None → ⊥
node_there tree zero number h e = cc h
node_there tree (suc n) number h e = cc (h.1, e)

Reaches-below : {S I : Type 0} {tree : List (Option (Caller S I))} (number : ℕ) (node : Caller S I) (x : ℕ) → node_at tree number ≡ Some node → Reaches tree node.caller x → Reaches tree (Some number) x
Reaches-below number node x e (first n h) = further number node n (first number refl) e h
Reaches-below number node x e (further k m n r f g) = further k m n (Reaches-below number node k e r) f g

pub AddsReached-refl : {S I : Type 0} (tree : List (Option (Caller S I))) (caller : Option ℕ) (has : ℕ → Bool) → AddsReached tree caller has has
AddsReached-refl tree caller has = record { kept = λ x h. h; reached = λ x h. inl h }

eq_means : (a b : ℕ) → nat_eq a b ≡ true → a ≡ b
eq_means a b h = grind (arith, nat_tests)

kept_insert : (number x : ℕ) (b : Bool) → b ≡ true → (if nat_eq number x then true else b) ≡ true
kept_insert number x b h = cases (nat_eq number x)
  where
    cases : (t : Bool) → (if t then true else b) ≡ true
    cases true = refl
    cases false = h

-- marking a number whose caller is marked
pub AddsReached-insert : {S I : Type 0} (tree : List (Option (Caller S I))) (number : ℕ) (node : Caller S I) (a b c : ℕ → Bool) → node_at tree number ≡ Some node → AddsReached tree node.caller a b → ((q : ℕ) → c q ≡ (if nat_eq number q then true else b q)) → AddsReached tree (Some number) a c
AddsReached-insert {S = S} {I = I} tree number node a b c e p u = record {
  kept = λ x h. u x ∙ kept_insert number x (b x) (p.kept x h);
  reached = λ x h. cases x (nat_eq number x) refl (sym (u x) ∙ h);
}
  where
    cases : (x : ℕ) (t : Bool) → nat_eq number x ≡ t → (if t then true else b x) ≡ true → (a x ≡ true) ⊎ Reaches tree (Some number) x
    cases x true f h = inr (first x (ap Some (eq_means number x f)))
    cases x false f h = elim (p.reached x h) [ inl k ↦ inl k | inr r ↦ inr (Reaches-below number node x e r) ]

marked_insert : (number : ℕ) (b c : ℕ → Bool) → ((q : ℕ) → c q ≡ (if nat_eq number q then true else b q)) → (caller : Option ℕ) → IsMarked b caller → IsMarked c caller
marked_insert number b c u None h = tt
marked_insert number b c u (Some n) h = u n ∙ kept_insert number n (b n) h

pub IsClosed-insert : {S I : Type 0} (tree : List (Option (Caller S I))) (number : ℕ) (node : Caller S I) (b c : ℕ → Bool) → node_at tree number ≡ Some node → IsClosed tree b → IsMarked b node.caller → ((q : ℕ) → c q ≡ (if nat_eq number q then true else b q)) → IsClosed tree c
IsClosed-insert {S = S} {I = I} tree number node b c e p m u = record { callers = λ n other h f. cases n other (nat_eq number n) refl (sym (u n) ∙ h) f }
  where
    cases : (n : ℕ) (other : Caller S I) (t : Bool) → nat_eq number n ≡ t → (if t then true else b n) ≡ true → node_at tree n ≡ Some other → IsMarked c other.caller
    cases n other true g h f =
        let here = eq_means number n g in
        let same : node ≡ other = cc (here, e, f) in
        let P : Caller S I → Type 0 = λ q. IsMarked c q.caller in
        subst P same (marked_insert number b c u node.caller m)
    cases n other false g h f = marked_insert number b c u other.caller (p.callers n other h f)

pub IsMarked-insert : (number : ℕ) (b c : ℕ → Bool) → ((q : ℕ) → c q ≡ (if nat_eq number q then true else b q)) → c number ≡ true
IsMarked-insert number b c u =
    let here : nat_eq number number ≡ true = grind (arith, nat_tests) in
    u number ∙ rw here refl

-- marking group after group
pub record AreMarkedSome {S I : Type 0} (tree : List (Option (Caller S I))) (groups : List (GroupView S I)) (i : ℕ) (has : ℕ → Bool) : Type 0 where
  pub closed : IsClosed tree has
  pub marked : (k : ℕ) → k < i → k < length groups → IsMarked has (caller_at groups k)
  pub reached : (n : ℕ) → has n ≡ true → IsReached tree groups n

pub AreMarkedSome-start : {S I : Type 0} (tree : List (Option (Caller S I))) (groups : List (GroupView S I)) (has : ℕ → Bool) → ((x : ℕ) → has x ≡ false) → AreMarkedSome tree groups 0 has
AreMarkedSome-start tree groups has e = record {
  closed = record { callers = λ n node h f. cc (e n, h) };
  marked = λ k l m. absurd (omega (arith, l));
  reached = λ n h. cc (e n, h);
}

caller_at-item : {S I : Type 0} (groups : List (GroupView S I)) (i : ℕ) (group : GroupView S I) → i < length groups → group ≡ get_or groups i group → caller_at groups i ≡ group.caller
caller_at-item [] i group l e = absurd (omega (arith, l))
caller_at-item {S = S} {I = I} (x ∷ xs) zero group l e = let read : GroupView S I → Option ℕ = λ g. g.caller in ap read (sym e)
caller_at-item (x ∷ xs) (suc i) group l e = caller_at-item xs i group (omega (arith, l)) e

pub StandIn-item : {S I : Type 0} (tree : List (Option (Caller S I))) (groups : List (GroupView S I)) (i : ℕ) (group : GroupView S I) → StandIn tree groups → i < length groups → group ≡ get_or groups i group → AreNodes tree (length group.below) group.caller
StandIn-item tree [] i group s l e = absurd (omega (arith, l))
StandIn-item {S = S} {I = I} tree (x ∷ xs) zero group s l e = let P : GroupView S I → Type 0 = λ g. AreNodes tree (length g.below) g.caller in subst P (sym e) s.0
StandIn-item tree (x ∷ xs) (suc i) group s l e = StandIn-item tree xs i group s.1 (omega (arith, l)) e

kept_marked : (old new : ℕ → Bool) → ((x : ℕ) → old x ≡ true → new x ≡ true) → (caller : Option ℕ) → IsMarked old caller → IsMarked new caller
kept_marked old new k None h = tt
kept_marked old new k (Some n) h = k n h

pub AreMarkedSome-step : {S I : Type 0} (tree : List (Option (Caller S I))) (groups : List (GroupView S I)) (i : ℕ) (group : GroupView S I) (a b : ℕ → Bool) → AreMarkedSome tree groups i a → i < length groups → group ≡ get_or groups i group → AddsReached tree group.caller a b → IsClosed tree b → IsMarked b group.caller → AreMarkedSome tree groups (i + 1) b
AreMarkedSome-step {S = S} {I = I} tree groups i group a b w l e p closed m = record {
  closed = closed;
  marked = λ k less more. elim (cases_eq k i) [
    | inl same ↦ (let P : ℕ → Type 0 = λ q. IsMarked b (caller_at groups q) in let Q : Option ℕ → Type 0 = λ q. IsMarked b q in subst P (sym same) (subst Q (sym (caller_at-item groups i group l e)) m))
    | inr differs ↦ kept_marked a b p.kept (caller_at groups k) (w.marked k (omega (arith, less, differs)) more)
  ];
  reached = λ n h. elim (p.reached n h) [
    | inl old ↦ w.reached n old
    | inr r ↦ record { group = group; among = (i, l, sym e); reaches = r }
  ];
}

-- dropping the number that has no mark, or nothing
same_number : (x number : ℕ) → nat_eq x number ≡ true → x ≡ number
same_number x number h = grind (arith, nat_tests)

pub dropped_none : {A : Type 0} (has : ℕ → Bool) (slots : ℕ → Option A) (number : ℕ) → has number ≡ true → (x : ℕ) → slots x ≡ (if nat_eq x number && not (has x) then None else slots x)
dropped_none {A = A} has slots number h x = cases (nat_eq x number) refl
  where
    cases : (t : Bool) → nat_eq x number ≡ t → slots x ≡ (if t && not (has x) then None else slots x)
    cases true e = rw (ap has (same_number x number e) ∙ h) refl
    cases false e = refl

pub dropped_one : {S I : Type 0} (has : ℕ → Bool) (old new : Slab (Caller S I)) (number : ℕ) → has number ≡ false → Updates old new number None → (x : ℕ) → get new x ≡ (if nat_eq x number && not (has x) then None else get old x)
dropped_one {S = S} {I = I} has old new number h u x = cases (nat_eq x number) refl
  where
    cases : (t : Bool) → nat_eq x number ≡ t → get new x ≡ (if t && not (has x) then None else get old x)
    cases true e = rw (ap has (same_number x number e) ∙ h) (ap (get new) (same_number x number e) ∙ u.changed)
    cases false e =
        let differs : x ≢ number = grind (arith, nat_tests) in
        u.others x differs

-- dropping what has no mark, of the numbers below k
pub record AreDropped {S I : Type 0} (has : ℕ → Bool) (start now : Slab (Caller S I)) (k : ℕ) : Type 0 where
  pub slots : (x : ℕ) → get now x ≡ (if nat_lt x k && not (has x) then None else get start x)

pub AreDropped-start : {S I : Type 0} (has : ℕ → Bool) (start : Slab (Caller S I)) → AreDropped has start start 0
AreDropped-start has start = record { slots = λ x. (let none : nat_lt x 0 ≡ false = grind (arith, nat_tests) in rw none refl) }

pub AreDropped-step : {S I : Type 0} (has : ℕ → Bool) (start now next : Slab (Caller S I)) (k : ℕ) → AreDropped has start now k → ((x : ℕ) → get next x ≡ (if nat_eq x k && not (has x) then None else get now x)) → AreDropped has start next (k + 1)
AreDropped-step {S = S} {I = I} has start now next k w u = record { slots = λ x. u x ∙ ap (λ o. if nat_eq x k && not (has x) then None else o) (w.slots x) ∙ cases (nat_eq x k) (nat_lt x k) (nat_lt x (k + 1)) (has x) (get start x) (later x) }
  where
    later : (x : ℕ) → nat_lt x (k + 1) ≡ (if nat_eq x k then true else nat_lt x k)
    later x = elim (cases_eq x k) [
      | inl same ↦ (let here : nat_eq x k ≡ true = grind (arith, nat_tests) in let below : nat_lt x (k + 1) ≡ true = grind (arith, nat_tests) in below ∙ rw here refl)
      | inr differs ↦ (let there : nat_eq x k ≡ false = grind (arith, nat_tests) in let below : nat_lt x (k + 1) ≡ nat_lt x k = grind (arith, nat_tests) in below ∙ rw there refl)
    ]

    with_mark : (b : Bool) → (b && not true) ≡ false
    with_mark true = refl
    with_mark false = refl

    cases : (same before after marked : Bool) (o : Option (Caller S I)) → after ≡ (if same then true else before) → (if same && not marked then None else (if before && not marked then None else o)) ≡ (if after && not marked then None else o)
    cases true before after true o e = rw (e, with_mark before) refl
    cases true before after false o e = rw e refl
    cases false before after marked o e = rw e refl

pub AreDropped-end : {S I : Type 0} (has : ℕ → Bool) (start now : Slab (Caller S I)) (k : ℕ) → AreDropped has start now k → length start.slots ≤ k → (x : ℕ) → get now x ≡ (if has x then get start x else None)
AreDropped-end {S = S} {I = I} has start now k w l x = w.slots x ∙ cases (nat_lt x k) refl (has x)
  where
    past : (slots : List (Option (Caller S I))) (y : ℕ) → length slots ≤ y → slice_index_or slots y None ≡ None
    past [] y m = refl
    past (s ∷ ss) zero m = absurd (omega (arith, m))
    past (s ∷ ss) (suc y) m = past ss y (omega (arith, m))

    cases : (t : Bool) → nat_lt x k ≡ t → (b : Bool) → (if t && not b then None else get start x) ≡ (if b then get start x else None)
    cases true e true = refl
    cases true e false = refl
    cases false e true = refl
    cases false e false =
        let above : k ≤ x = grind (arith, nat_tests) in
        past start.slots x (omega (arith, l, above))

-- what is reached is marked
pub reached_marked : {S I : Type 0} {tree : List (Option (Caller S I))} (has : ℕ → Bool) → IsClosed tree has → (caller : Option ℕ) → IsMarked has caller → (n : ℕ) → Reaches tree caller n → has n ≡ true
reached_marked has closed caller m n (first k e) = let Q : Option ℕ → Type 0 = λ q. IsMarked has q in subst Q e m
reached_marked has closed caller m n (further k node q r e f) = let Q : Option ℕ → Type 0 = λ o. IsMarked has o in subst Q f (closed.callers k node (reached_marked has closed caller m k r) e)

place_of : {S I : Type 0} (has : ℕ → Bool) (groups : List (GroupView S I)) → ((k : ℕ) → k < length groups → IsMarked has (caller_at groups k)) → (k : ℕ) (group : GroupView S I) → k < length groups → slice_index_or groups k group ≡ group → IsMarked has group.caller
place_of {S = S} {I = I} has groups m k group l e = let Q : Option ℕ → Type 0 = λ q. IsMarked has q in subst Q (caller_at-item groups k group l (sym e)) (m k l)

-- what `sweep` leaves
pub IsSwept-made : {S I : Type 0} (old new : List (Option (Caller S I))) (groups : List (GroupView S I)) (has : ℕ → Bool) → IsClosed old has → ((k : ℕ) → k < length groups → IsMarked has (caller_at groups k)) → ((n : ℕ) → has n ≡ true → IsReached old groups n) → ((x : ℕ) → node_at new x ≡ (if has x then node_at old x else None)) → IsSwept old new groups
IsSwept-made {S = S} {I = I} old new groups has closed marked reached slots = record {
  kept = λ n r. slots n ∙ here (has n) (node_at old n) (reached_marked has closed r.group.caller (place_of has groups marked r.among.0 r.group r.among.1 r.among.2) n r.reaches);
  dropped = λ n node e. there n node (has n) refl (sym (slots n) ∙ e);
}
  where
    here : (b : Bool) (o : Option (Caller S I)) → b ≡ true → (if b then o else None) ≡ o
    here b o h = rw h refl

    there : (n : ℕ) (node : Caller S I) (b : Bool) → has n ≡ b → (if b then node_at old n else None) ≡ Some node → IsReached old groups n × (node_at old n ≡ Some node)
    there n node true h e = (reached n h, e)
    there n node false h e = cc
