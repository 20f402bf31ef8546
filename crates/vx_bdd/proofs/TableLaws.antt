-- What a growing table keeps.
use Rattle.std.proofs.Common.{◌≡◌, ◌≢◌, ℕ, ◌<◌, ◌≤◌, Bool, true, false, List, refl, sym, ◌∙◌, ap, subst, arith, zero, suc, inl, inr}
use Rattle.std.specs.Prelude.{Option, Some, None, if◌then◌else◌, is_some, nat_eq, slice_index_or}
use Rattle.std.proofs.lemmas.Bool.{cases_eq}
use Rattle.std.proofs.lemmas.Bool.Decides.{nat_tests}
use Rattle.std.specs.HashMap.{HashMap}
use Rattle.vx_space.specs.Config.{value_of}
use Rattle.vx_bdd.specs.declared.node.Node.{Node}
use Rattle.vx_bdd.specs.contracts.node.NodePartialEq.TheImpl as node_eq
use Rattle.vx_bdd.specs.Diagram.{node_at, asked_of, walk, reaches, is_stored, level_of, level, IsNode, IsReduced}
use Rattle.vx_bdd.specs.Canonical.{node_cases, walk-end, reaches-node}
use Rattle.vx_bdd.specs.Hashing.{node_eq-exact}
use Rattle.vx_bdd.specs.Table.{id_of, IsIndex, Grows, Stands, AreParts}

-- equal nodes compare equal
pub node_eq-refl : (m : Node) → node_eq.ghosts.eq m m ≡ true
node_eq-refl m = rw (nat_same m.option, nat_same m.low, nat_same m.high) refl
  where
    nat_same : (i : ℕ) → nat_eq i i ≡ true
    nat_same i = grind (arith, nat_tests)

pub some_same : {i j : ℕ} → Some i ≡ Some j → i ≡ j
some_same e = cc

pub node_inside : {m n : Node} → Some m ≡ Some n → m ≡ n
node_inside e = cc

pub Grows-refl : (slots : List (Option Node)) → Grows slots slots
Grows-refl slots = record { kept = λ _ _. refl }

pub stored-grows : {old new : List (Option Node)} → Grows old new → (id : ℕ) → is_stored old id ≡ true → is_stored new id ≡ true
stored-grows g id s = ap is_some (g.kept id s) ∙ s

pub Grows-trans : {a b c : List (Option Node)} → Grows a b → Grows b c → Grows a c
Grows-trans g h = record { kept = λ id s. h.kept id (stored-grows g id s) ∙ g.kept id s }

pub node_at-grows : {old new : List (Option Node)} → Grows old new → (id : ℕ) → is_stored old id ≡ true → node_at new id ≡ node_at old id
node_at-grows g zero s = refl
node_at-grows g (suc zero) s = refl
node_at-grows g (suc (suc k)) s = g.kept (suc (suc k)) s

pub level-grows : {old new : List (Option Node)} → Grows old new → (options id : ℕ) → is_stored old id ≡ true → level new options id ≡ level old options id
level-grows g options id s = ap (level_of options) (node_at-grows g id s)

pub IsNode-grows : {old new : List (Option Node)} → Grows old new → (options : ℕ) (node : Node) → IsNode options old node → IsNode options new node
IsNode-grows g options node n = record {
  in_range = n.in_range;
  low_stored = stored-grows g node.low n.low_stored;
  high_stored = stored-grows g node.high n.high_stored;
  low_later = rw (level-grows g options node.low n.low_stored) n.low_later;
  high_later = rw (level-grows g options node.high n.high_stored) n.high_later;
  differ = n.differ;
}

-- the table with one node more
pub record IsAddedNode {S : Type 0} (old new : List (Option Node)) (ids ids' : HashMap Node ℕ S) (id : ℕ) (node : Node) : Type 0 where
  pub vacant : slice_index_or old id None ≡ None
  pub changed : slice_index_or new id None ≡ Some node
  pub others : (x : ℕ) → x ≢ id → slice_index_or new x None ≡ slice_index_or old x None
  pub absent : id_of ids node ≡ None
  pub updates : (q : Node) → id_of ids' q ≡ (if node_eq.ghosts.eq node q then Some id else id_of ids q)

pub Grows-added : {S : Type 0} {old new : List (Option Node)} {ids ids' : HashMap Node ℕ S} {id : ℕ} {node : Node} → IsAddedNode old new ids ids' id node → Grows old new
Grows-added {old = old} {id = id} a = record { kept = λ x s. a.others x (λ e. cc (sym s ∙ ap (is_stored old) e ∙ ap is_some a.vacant)) }

added_here : {S : Type 0} (old new : List (Option Node)) (ids ids' : HashMap Node ℕ S) (id : ℕ) (node : Node) → is_stored old 0 ≡ true → is_stored old 1 ≡ true → IsAddedNode old new ids ids' id node → node_at new id ≡ Some node
added_here old new ids ids' zero node s t a = cc (sym s ∙ ap is_some a.vacant)
added_here old new ids ids' (suc zero) node s t a = cc (sym t ∙ ap is_some a.vacant)
added_here old new ids ids' (suc (suc k)) node s t a = a.changed

added_other : {S : Type 0} (old new : List (Option Node)) (ids ids' : HashMap Node ℕ S) (id : ℕ) (node : Node) → IsAddedNode old new ids ids' id node → (x : ℕ) → x ≢ id → node_at new x ≡ node_at old x
added_other old new ids ids' id node a zero n = refl
added_other old new ids ids' id node a (suc zero) n = refl
added_other old new ids ids' id node a (suc (suc k)) n = a.others (suc (suc k)) n

added_vacant : {S : Type 0} (old new : List (Option Node)) (ids ids' : HashMap Node ℕ S) (id : ℕ) (node : Node) → IsAddedNode old new ids ids' id node → node_at old id ≡ None
added_vacant old new ids ids' zero node a = refl
added_vacant old new ids ids' (suc zero) node a = refl
added_vacant old new ids ids' (suc (suc k)) node a = a.vacant

pub IsIndex-added : {S : Type 0} (old new : List (Option Node)) (ids ids' : HashMap Node ℕ S) (id : ℕ) (node : Node) → is_stored old 0 ≡ true → is_stored old 1 ≡ true → IsIndex old ids → IsAddedNode old new ids ids' id node → IsIndex new ids'
IsIndex-added {S = S} old new ids ids' id node s t x a = record {
  sound = λ q i e. sound (node_eq.ghosts.eq node q) q i refl (sym (a.updates q) ∙ e);
  complete = λ i q e. elim (cases_eq i id) [
    | inl same ↦ complete q i same (sym (added_here old new ids ids' id node s t a) ∙ ap (node_at new) (sym same) ∙ e)
    | inr other ↦ a.updates q ∙ older (node_eq.ghosts.eq node q) q i refl (x.complete i q (sym (added_other old new ids ids' id node a i other) ∙ e))
  ];
}
  where
    sound : (b : Bool) (q : Node) (i : ℕ) → node_eq.ghosts.eq node q ≡ b → (if b then Some id else id_of ids q) ≡ Some i → node_at new i ≡ Some q
    sound true q i k e = ap (node_at new) (some_same (sym e)) ∙ added_here old new ids ids' id node s t a ∙ ap Some (node_eq-exact node q k)
    sound false q i k e =
        let was = x.sound q i e in
        let other : i ≢ id = λ same. cc (sym was ∙ ap (node_at old) same ∙ added_vacant old new ids ids' id node a) in
        added_other old new ids ids' id node a i other ∙ was

    complete : (q : Node) (i : ℕ) → i ≡ id → Some node ≡ Some q → id_of ids' q ≡ Some i
    complete q i same e = a.updates q ∙ ap (λ m. if node_eq.ghosts.eq node m then Some id else id_of ids m) (sym (node_inside e)) ∙ rw (node_eq-refl node) (ap Some (sym same))

    older : (b : Bool) (q : Node) (i : ℕ) → node_eq.ghosts.eq node q ≡ b → id_of ids q ≡ Some i → (if b then Some id else id_of ids q) ≡ Some i
    older true q i k e = cc (a.absent, ap (id_of ids) (node_eq-exact node q k), e)
    older false q i k e = e

pub IsIndex-same : {S : Type 0} {ids ids' : HashMap Node ℕ S} (slots : List (Option Node)) → ids ≡ ids' → IsIndex slots ids' → IsIndex slots ids
IsIndex-same {S = S} slots e x =
    let P : HashMap Node ℕ S → Type 0 = λ m. IsIndex slots m in
    subst P (sym e) x

pub IsReduced-added : {S : Type 0} (options : ℕ) (old new : List (Option Node)) (ids ids' : HashMap Node ℕ S) (id : ℕ) (node : Node) → IsReduced options old → IsIndex old ids → IsNode options old node → IsAddedNode old new ids ids' id node → IsReduced options new
IsReduced-added options old new ids ids' id node r x n a =
    let g = Grows-added a in
    let index = IsIndex-added old new ids ids' id node r.never r.always x a in
    record {
      never = stored-grows g 0 r.never;
      always = stored-grows g 1 r.always;
      nodes = λ i m e. elim (cases_eq i id) [
        | inl same ↦
            let q : node ≡ m = node_inside (sym (added_here old new ids ids' id node r.never r.always a) ∙ ap (node_at new) (sym same) ∙ e) in
            let P : Node → Type 0 = λ k. IsNode options new k in
            subst P q (IsNode-grows g options node n)
        | inr other ↦ IsNode-grows g options m (r.nodes i m (sym (added_other old new ids ids' id node a i other) ∙ e))
      ];
      distinct = λ i j m e f. some_same (sym (index.complete i m e) ∙ index.complete j m f);
    }

-- sets of stored ids stay
pub walk-grows : {options : ℕ} {old new : List (Option Node)} → IsReduced options old → Grows old new → (steps id : ℕ) (c : List Bool) → is_stored old id ≡ true → walk new steps id c ≡ walk old steps id c
walk-grows r g zero id c s = refl
walk-grows {old = old} {new = new} r g (suc steps) id c s =
    elim (node_cases (node_at old id)) [
      | inl n ↦ rw (walk-end old (suc steps) id c n, walk-end new (suc steps) id c (node_at-grows g id s ∙ n)) refl
      | inr p ↦
          let n = r.nodes id p.0 p.1 in
          rw (node_at-grows g id s, p.1) (walk-grows r g steps (if value_of c p.0.option then p.0.high else p.0.low) c (part_of (value_of c p.0.option) p.0.high p.0.low n.high_stored n.low_stored))
    ]
  where
    part_of : (b : Bool) (x y : ℕ) → is_stored old x ≡ true → is_stored old y ≡ true → is_stored old (if b then x else y) ≡ true
    part_of true x y h k = h
    part_of false x y h k = k

pub reaches-grows : {options : ℕ} {old new : List (Option Node)} → IsReduced options old → Grows old new → (id : ℕ) (c : List Bool) → is_stored old id ≡ true → reaches new options id c ≡ reaches old options id c
reaches-grows {options = options} r g id c s = ap (λ w. nat_eq w 1) (walk-grows r g options id c s)

node_at-high : (slots : List (Option Node)) (id : ℕ) → 2 ≤ id → node_at slots id ≡ slice_index_or slots id None
node_at-high slots zero l = absurd (omega (arith, l))
node_at-high slots (suc zero) l = absurd (omega (arith, l))
node_at-high slots (suc (suc k)) l = refl

stored_node : (slots : List (Option Node)) (id : ℕ) (node : Node) → node_at slots id ≡ Some node → is_stored slots id ≡ true
stored_node slots zero node e = cc
stored_node slots (suc zero) node e = cc
stored_node slots (suc (suc k)) node e = ap is_some e

-- a stored number from 2 on is a node
pub node_here : {options : ℕ} {slots : List (Option Node)} → IsReduced options slots → (id : ℕ) (node : Node) → 2 ≤ id → Some node ≡ slice_index_or slots id None → node_at slots id ≡ Some node
node_here {slots = slots} r id node l e = node_at-high slots id l ∙ sym e

pub node_at_most : {options : ℕ} {slots : List (Option Node)} → IsReduced options slots → (id : ℕ) (node : Node) → node_at slots id ≡ Some node → node.option ≤ options
node_at_most r id node e = omega (arith, (r.nodes id node e).in_range)

either : (options : ℕ) (slots : List (Option Node)) (c : List Bool) (b : Bool) (x y : ℕ) → reaches slots options (if b then x else y) c ≡ (if b then reaches slots options x c else reaches slots options y c)
either options slots c true x y = refl
either options slots c false x y = refl

pub AreParts-node : {options : ℕ} {slots : List (Option Node)} → IsReduced options slots → (id : ℕ) (node : Node) → node_at slots id ≡ Some node → AreParts options slots id node.option node.low node.high
AreParts-node {options = options} {slots = slots} r id node e =
    let n = r.nodes id node e in
    record {
      low_stored = n.low_stored;
      high_stored = n.high_stored;
      low_later = n.low_later;
      high_later = n.high_later;
      reaches = λ c. reaches-node r id node c e ∙ either options slots c (value_of c node.option) node.high node.low;
    }

-- what an id asks, by its node
pub AreParts-asked : {options : ℕ} {slots : List (Option Node)} → IsReduced options slots → (id : ℕ) (asked : Node) → asked ≡ asked_of options id (node_at slots id) → asked.option < options → AreParts options slots id asked.option asked.low asked.high
AreParts-asked {options = options} {slots = slots} r id asked e l =
    elim (node_cases (node_at slots id)) [
      | inl n ↦ absurd (omega (arith, l, ap (λ m. m.option) (e ∙ ap (asked_of options id) n)))
      | inr p ↦ rw (e ∙ ap (asked_of options id) p.1) (AreParts-node r id p.0 p.1)
    ]

pub Stands-node : {options : ℕ} {old new : List (Option Node)} → IsReduced options old → IsReduced options new → Grows old new → (id option low high : ℕ) → node_at new id ≡ Some (record { option = option; low = low; high = high }) → is_stored old low ≡ true → is_stored old high ≡ true → Stands options new option id (λ c. if value_of c option then reaches old options high c else reaches old options low c)
Stands-node {options = options} {old = old} {new = new} r q g id option low high e s t = record {
  stored = stored_node new id _ e;
  above = rw e (omega arith);
  reaches = λ c. reaches-node q id _ c e ∙ either options new c (value_of c option) high low ∙ rw (reaches-grows r g high c t, reaches-grows r g low c s) refl;
}
