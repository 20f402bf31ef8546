-- Numbering from a node, step by step.
use Rattle.std.proofs.Common.{◌≡◌, ℕ, zero, suc, ◌+◌, ◌<◌, ◌≤◌, List, Some, refl, sym, ◌∙◌, subst, arith, length}
use Rattle.std.proofs.lemmas.Option.{slice_get_within}
use Rattle.vx_bdd_tools.specs.declared.node.Node.{Node}
use Rattle.vx_bdd_tools.specs.Nodes.{node_of}
use Rattle.vx_bdd_tools.specs.Numbering.{Numbers}

-- what numbering gives is determined
pub numbers_same : (nodes : List Node) (n k m l : ℕ) → Numbers nodes n k m → Numbers nodes n k l → m ≡ l
numbers_same nodes n k m l (Numbers.given _ _ h) (Numbers.given _ _ g) = refl
numbers_same nodes n k m l (Numbers.given _ _ h) (Numbers.made _ _ between node g e low high) = absurd (omega (arith, h, g))
numbers_same nodes n k m l (Numbers.made _ _ between node h e low high) (Numbers.given _ _ g) = absurd (omega (arith, h, g))
numbers_same nodes n k m l (Numbers.made _ _ between node h e low high) (Numbers.made _ _ other next g f first last) = refl

-- the parts of a node that numbering made
pub record Parts (nodes : List Node) (n k m : ℕ) (node : Node) : Type 0 where
  pub between : ℕ
  pub low : Numbers nodes n node.low between
  pub high : Numbers nodes between node.high k
  pub last : m ≡ suc k

some_same : {A : Type 0} {x y : A} → Some x ≡ Some y → x ≡ y
some_same z = cc

pub parts_of : (nodes : List Node) (n k m : ℕ) (node : Node) → n ≤ k → node_of nodes k ≡ Some node → Numbers nodes n k m → Parts nodes n k m node
parts_of nodes n k m node h e (Numbers.given _ _ g) = absurd (omega (arith, h, g))
parts_of nodes n k m node h e (Numbers.made _ _ between x g f p q) =
    let same : x ≡ node = some_same (sym f ∙ e) in
    record { between = between; low = subst (λ (y : Node). Numbers nodes n y.low between) same p; high = subst (λ (y : Node). Numbers nodes between y.high k) same q; last = refl }

pub no_low : (nodes : List Node) (n k m : ℕ) (node : Node) → n ≤ k → node_of nodes k ≡ Some node → ((l : ℕ) → Numbers nodes n node.low l → ⊥) → Numbers nodes n k m → ⊥
no_low nodes n k m node h e none w = let p = parts_of nodes n k m node h e w in none p.between p.low

pub no_high : (nodes : List Node) (n k m b : ℕ) (node : Node) → n ≤ k → node_of nodes k ≡ Some node → Numbers nodes n node.low b → ((l : ℕ) → Numbers nodes b node.high l → ⊥) → Numbers nodes n k m → ⊥
no_high nodes n k m b node h e low none w =
    let p = parts_of nodes n k m node h e w in
    let same : p.between ≡ b = numbers_same nodes n node.low p.between b p.low low in
    none k (subst (λ (x : ℕ). Numbers nodes x node.high k) same p.high)

pub other_last : (nodes : List Node) (n k m b l : ℕ) (node : Node) → n ≤ k → node_of nodes k ≡ Some node → Numbers nodes n node.low b → Numbers nodes b node.high l → (l ≡ k → ⊥) → Numbers nodes n k m → ⊥
other_last nodes n k m b l node h e low high differ w =
    let p = parts_of nodes n k m node h e w in
    let same : p.between ≡ b = numbers_same nodes n node.low p.between b p.low low in
    differ (numbers_same nodes b node.high l k high (subst (λ (x : ℕ). Numbers nodes x node.high k) same p.high))

pub node_within : (nodes : List Node) (k : ℕ) (node : Node) → node_of nodes k ≡ Some node → k < length nodes + 2
node_within nodes zero node e = omega arith
node_within nodes (suc zero) node e = omega arith
node_within nodes (suc (suc place)) node e = omega (arith, slice_get_within nodes place node e)
