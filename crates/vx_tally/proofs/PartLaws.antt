-- Edges with one option off, and with it on.
use Rattle.std.proofs.Common.{◌≡◌, ◌≢◌, ℕ, ◌+◌, ◌-◌, ◌<◌, ◌≤◌, ◌^◌, Bool, true, false, List, length, get_or, refl, sym, ◌∙◌, ap, subst, arith, zero, suc}
use Rattle.std.specs.Prelude.{Some, if◌then◌else◌, min, slice_get}
use Rattle.std.proofs.lemmas.Option.{slice_get-get_or}
use Rattle.vx_space.specs.Config.{value_of}
use Rattle.vx_tally.specs.declared.node.Edge.{Edge}
use Rattle.vx_tally.specs.declared.node.TallyNode.{TallyNode}
use Rattle.vx_tally.specs.Tally.{node_at, edge_at, sum_of, level, IsNode, AreNodes}
use Rattle.vx_tally.specs.Parts.{IsPart, IsSide}
use Rattle.vx_tally.proofs.NodeLaws.{sum-node}

-- the node that is read at a place
pub node_read : (nodes : List TallyNode) (place : ℕ) (d : TallyNode) → 0 < place → place ≤ length nodes → node_at nodes place ≡ Some (get_or nodes (place - 1) d)
node_read nodes zero d p l = absurd (omega (arith, p))
node_read nodes (suc k) d p l =
    let same : suc k - 1 ≡ k = omega arith in
    rw same (slice_get-get_or nodes k d (omega (arith, l)))

-- its rules
pub rules_read : {options : ℕ} {nodes : List TallyNode} → AreNodes options nodes → (place : ℕ) (d : TallyNode) → 0 < place → place ≤ length nodes → IsNode options nodes (place - 1) (get_or nodes (place - 1) d)
rules_read r zero d p l = absurd (omega (arith, p))
rules_read {nodes = nodes} r (suc k) d p l =
    let same : suc k - 1 ≡ k = omega arith in
    rw same (r.each k (get_or nodes k d) (slice_get-get_or nodes k d (omega (arith, l))))

-- both edges of a node
edge_below : {options : ℕ} {nodes : List TallyNode} → AreNodes options nodes → (place : ℕ) (node : TallyNode) → place ≤ length nodes → node_at nodes place ≡ Some node → (node.low.place ≤ length nodes) × (node.high.place ≤ length nodes)
edge_below r zero node l e = cc
edge_below r (suc k) node l e = (omega (arith, l, (r.each k node e).low_given), omega (arith, l, (r.each k node e).high_given))

edges_later : {options : ℕ} {nodes : List TallyNode} → AreNodes options nodes → (place : ℕ) (node : TallyNode) → node_at nodes place ≡ Some node → (node.option < level options nodes node.low.place) × (node.option < level options nodes node.high.place)
edges_later r zero node e = cc
edges_later r (suc k) node e = ((r.each k node e).low_later, (r.each k node e).high_later)

node-low : {options : ℕ} {nodes : List TallyNode} → AreNodes options nodes → (place option : ℕ) (node : TallyNode) → place ≤ length nodes → node_at nodes place ≡ Some node → node.option ≡ option → IsPart options nodes place option false node.low
node-low {nodes = nodes} r place option node l e o = record {
  given = (edge_below r place node l e).0;
  later = omega (arith, o, (edges_later r place node e).0);
  number = λ c v. sym (sum-node r place node c e ∙ ap (λ b. edge_at nodes (if b then node.high else node.low) c) (ap (value_of c) o ∙ v));
}

node-high : {options : ℕ} {nodes : List TallyNode} → AreNodes options nodes → (place option : ℕ) (node : TallyNode) → place ≤ length nodes → node_at nodes place ≡ Some node → node.option ≡ option → IsPart options nodes place option true node.high
node-high {nodes = nodes} r place option node l e o = record {
  given = (edge_below r place node l e).1;
  later = omega (arith, o, (edges_later r place node e).1);
  number = λ c v. sym (sum-node r place node c e ∙ ap (λ b. edge_at nodes (if b then node.high else node.low) c) (ap (value_of c) o ∙ v));
}

pub part-low : {options : ℕ} {nodes : List TallyNode} → AreNodes options nodes → (place option : ℕ) (d : TallyNode) → 0 < place → place ≤ length nodes → (get_or nodes (place - 1) d).option ≡ option → IsPart options nodes place option false (get_or nodes (place - 1) d).low
part-low {nodes = nodes} r place option d p l o = node-low r place option (get_or nodes (place - 1) d) l (node_read nodes place d p l) o

pub part-high : {options : ℕ} {nodes : List TallyNode} → AreNodes options nodes → (place option : ℕ) (d : TallyNode) → 0 < place → place ≤ length nodes → (get_or nodes (place - 1) d).option ≡ option → IsPart options nodes place option true (get_or nodes (place - 1) d).high
part-high {nodes = nodes} r place option d p l o = node-high r place option (get_or nodes (place - 1) d) l (node_read nodes place d p l) o

-- the level of a place that has a node
pub level-node : (options : ℕ) (nodes : List TallyNode) (place : ℕ) (d : TallyNode) → 0 < place → place ≤ length nodes → level options nodes place ≡ (get_or nodes (place - 1) d).option
level-node options nodes zero d p l = absurd (omega (arith, p))
level-node options nodes (suc k) d p l = rw (node_read nodes (suc k) d p l) refl

-- an edge that adds as much more as another one leads to
raised_at : (more m s limit : ℕ) → more + (m + s) < limit → min (m + more) (limit - 1) + s ≡ more + (m + s)
raised_at more m s limit l = omega (arith, l)

pub side-raised : (options : ℕ) (nodes : List TallyNode) (edge : Edge) (option : ℕ) (value : Bool) (part : Edge) → IsPart options nodes edge.place option value part → IsSide options nodes edge option value (record { place = part.place; more = min (part.more + edge.more) (2 ^ 64 - 1) })
side-raised options nodes edge option value part p = record {
  given = p.given;
  later = p.later;
  number = λ c v l.
      let here = p.number c v in
      let all : edge_at nodes edge c ≡ edge.more + (part.more + sum_of nodes part.place c) = ap (λ n. edge.more + n) (sym here) in
      raised_at edge.more part.more (sum_of nodes part.place c) (2 ^ 64) (omega (arith, l, all)) ∙ sym all;
}
