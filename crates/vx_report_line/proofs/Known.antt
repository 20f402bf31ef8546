-- A set beside a list of nodes, with one more node.
use Rattle.std.proofs.Common.{◌≡◌, ℕ, Bool, true, false, List, [], ◌∷◌, ◌++◌, cond, refl, ap, sym, ◌∙◌, subst, arith, nat_eq, ◌&&◌, Contains, ⊎_elim, zero, suc}
use Rattle.std.proofs.lemmas.Bool.Decides.{nat_tests}
use Rattle.std.proofs.lemmas.List.Elements.{Contains-append_left, Contains-append_right, Contains-append_cases}
use Rattle.std.specs.HashSet.{HashSet}
use Rattle.vx_bdd_tools.specs.declared.node.Node.{Node}
use Rattle.vx_bdd_tools.specs.contracts.node.NodePartialEq.TheImpl as node_eq
use Rattle.vx_report_line.specs.Tables.{has_node, IsSetOf}
use Rattle.vx_report_line.proofs.Numbers.{by_test, both_true}
use Rattle.vx_bdd_tools.proofs.NodeSets.{node_same}

node_eq-exact : (m n : Node) → node_eq.ghosts.eq m n ≡ true → m ≡ n
node_eq-exact m n e =
    let first = both_true (nat_eq m.option n.option) (nat_eq m.low n.low && nat_eq m.high n.high) e in
    let rest = both_true (nat_eq m.low n.low) (nat_eq m.high n.high) first.1 in
    let a : nat_eq m.option n.option ≡ true = first.0 in
    let b : nat_eq m.low n.low ≡ true = rest.0 in
    let c : nat_eq m.high n.high ≡ true = rest.1 in
    node_same m n (number_same m.option n.option a) (number_same m.low n.low b) (number_same m.high n.high c)
  where
    number_same : (i j : ℕ) → nat_eq i j ≡ true → i ≡ j
    number_same i j h = grind (arith, nat_tests)

node_eq-refl : (m : Node) → node_eq.ghosts.eq m m ≡ true
node_eq-refl m = rw (nat_same m.option, nat_same m.low, nat_same m.high) refl
  where
    nat_same : (i : ℕ) → nat_eq i i ≡ true
    nat_same i = grind (arith, nat_tests)

alone : (x : Node) → Contains (x ∷ []) x
alone x = (0, omega arith, refl)

only_one : (x y : Node) → Contains (x ∷ []) y → x ≡ y
only_one x y (zero, h, e) = e
only_one x y (suc k, h, e) = absurd (omega (arith, h))

pub known_more : {S : Type 0} (known known' : HashSet Node S) (nodes : List Node) (node : Node) → IsSetOf known nodes → ((q : Node) → has_node known' q ≡ cond (node_eq.ghosts.eq node q) true (has_node known q)) → IsSetOf known' (nodes ++ node ∷ [])
known_more known known' nodes node old updates = record {
  sound = λ q h. by_test (node_eq.ghosts.eq node q)
      (λ t. Contains-append_right nodes (node ∷ []) q (subst (λ (x : Node). Contains (x ∷ []) q) (sym (node_eq-exact node q t)) (alone q)))
      (λ f. Contains-append_left nodes (node ∷ []) q (old.sound q (sym (updates q ∙ ap (λ b. cond b true (has_node known q)) f) ∙ h)));
  complete = λ q h. ⊎_elim
      (λ l. updates q ∙ kept (node_eq.ghosts.eq node q) q (old.complete q l))
      (λ r. updates q ∙ ap (λ b. cond b true (has_node known q)) (subst (λ (x : Node). node_eq.ghosts.eq node x ≡ true) (only_one node q r) (node_eq-refl node)))
      (Contains-append_cases nodes (node ∷ []) q h);
}
  where
    kept : (b : Bool) (q : Node) → has_node known q ≡ true → cond b true (has_node known q) ≡ true
    kept true q h = refl
    kept false q h = h
