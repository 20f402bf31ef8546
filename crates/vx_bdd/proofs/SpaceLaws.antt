-- A table as a space: what its calls give.
use Rattle.std.proofs.Common.{◌≡◌, ℕ, ◌<◌, ◌≤◌, Bool, true, false, List, refl, sym, ◌∙◌, ap, arith, zero, suc, inl, inr}
use Rattle.std.specs.Prelude.{Option, Some, None, if◌then◌else◌, nat_eq, slice_index_or}
use Rattle.vx_space.specs.Config.{value_of}
use Rattle.vx_space.specs.Sets.{IsSet, Extends, IsTop}
use Rattle.vx_space.proofs.Differences.{some_difference}
use Rattle.vx_bdd.specs.declared.node.Node.{Node}
use Rattle.vx_bdd.specs.declared.node.Op.{Op}
use Rattle.vx_bdd.specs.Diagram.{node_at, reaches, is_stored, level_of, level, IsNode, IsReduced}
use Rattle.vx_bdd.specs.Canonical.{node_cases, walk-end, reaches-node, reaches-part, reaches-free}
use Rattle.vx_bdd.specs.Table.{Grows, Stands, IsStep}
use Rattle.vx_bdd.specs.Apply.{op_value, IsAnswer}
use Rattle.vx_bdd.specs.Space.{sets_of}
use Rattle.vx_bdd.specs.Lawful.{lawful_sets}
use Rattle.vx_bdd.proofs.TableLaws.{stored-grows, reaches-grows, node_here}

pub Extends-grows : {options : ℕ} {old new : List (Option Node)} (base options' : ℕ) → IsReduced options old → Grows old new → options' ≡ options → Extends (sets_of options old base) (sets_of options' new base)
Extends-grows {options = options} {old = old} {new = new} base options' r g e = record {
  options = e;
  never = refl;
  always = refl;
  counts = refl;
  base = refl;
  known = λ id s. stored-grows g id s;
  test = λ id c s. ap (λ n. reaches new n id c) e ∙ reaches-grows r g id c s;
}

pub IsSet-answer : (op : Op) {options : ℕ} {old new : List (Option Node)} (base options' a b id : ℕ) → IsReduced options old → Grows old new → options' ≡ options → is_stored old a ≡ true → is_stored old b ≡ true → IsAnswer op options new a b id → IsSet (sets_of options' new base) id (λ c. op_value op (reaches old options a c) (reaches old options b c))
IsSet-answer op {options = options} {old = old} {new = new} base options' a b id r g e s t h = record {
  known = h.stored;
  test = λ c. ap (λ n. reaches new n id c) e ∙ h.reaches c ∙ ap (λ v. op_value op v (reaches new options b c)) (reaches-grows r g a c s) ∙ ap (λ v. op_value op (reaches old options a c) v) (reaches-grows r g b c t);
}

-- an option's set
pub IsSet-option : {options : ℕ} (old : List (Option Node)) {new : List (Option Node)} (base options' i id : ℕ) → options' ≡ options → Stands options new i id (λ c. if value_of c i then reaches old options 1 c else reaches old options 0 c) → IsSet (sets_of options' new base) id (λ c. value_of c i)
IsSet-option {options = options} old {new = new} base options' i id e h = record {
  known = h.stored;
  test = λ c. ap (λ n. reaches new n id c) e ∙ h.reaches c ∙ rw (walk-end old options 1 c refl, walk-end old options 0 c refl) (same (value_of c i));
}
  where
    same : (b : Bool) → (if b then true else false) ≡ b
    same true = refl
    same false = refl

-- the top of a node
pub IsTop-node : {options : ℕ} {slots : List (Option Node)} (base : ℕ) → options < 65 → IsReduced options slots → (id : ℕ) (node : Node) → node_at slots id ≡ Some node → IsTop (sets_of options slots base) id node.option node.low node.high
IsTop-node {options = options} {slots = slots} base few r id node e =
    let n = r.nodes id node e in
    let d = some_difference (lawful_sets options slots base few r) node.high node.low n.high_stored n.low_stored (λ q. n.differ (sym q)) in
    let here : level slots options id ≡ node.option = ap (level_of options) e in
    record {
      in_range = n.in_range;
      least = record {
        depends = (d.0, λ q. d.1 (sym (reaches-part r id node d.0 true e) ∙ q ∙ reaches-part r id node d.0 false e));
        free_below = λ j l c.
            let below : j < level slots options id = omega (arith, l, here) in
            reaches-free r id c j true below ∙ sym (reaches-free r id c j false below);
      };
      off = record { known = n.low_stored; test = λ c. sym (reaches-part r id node c false e) };
      on = record { known = n.high_stored; test = λ c. sym (reaches-part r id node c true e) };
    }

-- what the walk of a configuration keeps
pub record IsWalking (options : ℕ) (slots : List (Option Node)) (start at : ℕ) (c : List Bool) : Type 0 where
  pub stored : is_stored slots at ≡ true
  pub same : reaches slots options start c ≡ reaches slots options at c

pub level-at_most : {options : ℕ} {slots : List (Option Node)} → IsReduced options slots → (id : ℕ) → level slots options id ≤ options
level-at_most {options = options} {slots = slots} r id =
    elim (node_cases (node_at slots id)) [
      | inl n ↦ rw n (omega arith)
      | inr p ↦ rw p.1 (omega (arith, (r.nodes id p.0 p.1).in_range))
    ]

-- the step of a node
pub IsStep-node : {options : ℕ} {slots : List (Option Node)} → IsReduced options slots → (at : ℕ) (node : Node) (c : List Bool) (b : Bool) → 2 ≤ at → Some node ≡ slice_index_or slots at None → b ≡ value_of c node.option → IsStep options slots at c (if b then node.high else node.low)
IsStep-node {options = options} {slots = slots} r at node c b l e v =
    let here = node_here r at node l e in
    let n = r.nodes at node here in
    let asks : level slots options at ≡ node.option = ap (level_of options) here in
    record {
      stored = stored b n;
      later = rw asks (later b n);
      at_most = level-at_most r (if b then node.high else node.low);
      reaches = reaches-node r at node c here ∙ ap (λ t. reaches slots options (if t then node.high else node.low) c) (sym v);
    }
  where
    stored : (t : Bool) → IsNode options slots node → is_stored slots (if t then node.high else node.low) ≡ true
    stored true n = n.high_stored
    stored false n = n.low_stored

    later : (t : Bool) → IsNode options slots node → node.option < level slots options (if t then node.high else node.low)
    later true n = n.high_later
    later false n = n.low_later

-- below 2 there are never and always
pub IsWalking-end : {options : ℕ} {slots : List (Option Node)} {start : ℕ} (at : ℕ) (c : List Bool) → IsWalking options slots start at c → at < 2 → nat_eq at 1 ≡ reaches slots options start c
IsWalking-end {options = options} {slots = slots} zero c w l = sym (w.same ∙ ap (λ v. nat_eq v 1) (walk-end slots options 0 c refl))
IsWalking-end {options = options} {slots = slots} (suc zero) c w l = sym (w.same ∙ ap (λ v. nat_eq v 1) (walk-end slots options 1 c refl))
IsWalking-end (suc (suc k)) c w l = absurd (omega (arith, l))

pub IsWalking-step : {options : ℕ} {slots : List (Option Node)} {start at next : ℕ} {c : List Bool} → IsWalking options slots start at c → IsStep options slots at c next → IsWalking options slots start next c
IsWalking-step w s = record { stored = s.stored; same = w.same ∙ s.reaches }
