-- Walks through a list of nodes.
use Rattle.std.proofs.Common.{◌≡◌, ℕ, zero, suc, ◌+◌, ◌-◌, ◌<◌, ◌≤◌, List, Bool, refl, ap, sym, ◌∙◌, arith, nat_eq}
use Rattle.vx_bdd_tools.specs.declared.node.Node.{Node}
use Rattle.vx_bdd_tools.specs.Nodes.{node_of, child, walk, holds}

-- never and always go nowhere
pub walk_stays : (nodes : List Node) (steps k : ℕ) (c : List Bool) → k < 2 → walk nodes steps k c ≡ k
walk_stays nodes zero k c h = refl
walk_stays nodes (suc steps) zero c h = walk_stays nodes steps zero c h
walk_stays nodes (suc steps) (suc zero) c h = walk_stays nodes steps (suc zero) c h
walk_stays nodes (suc steps) (suc (suc k)) c h = absurd (omega (arith, h))

-- one step of a walk
pub walk_more : (nodes : List Node) (n i k : ℕ) (c : List Bool) → i < n → walk nodes (n - (i + 1)) (child (node_of nodes k) k c) c ≡ walk nodes (n - i) k c
walk_more nodes n i k c h = let e : n - i ≡ suc (n - (i + 1)) = omega arith in rw e refl

-- at never or always, and at the end of a walk, the answer is known
pub walked : (nodes : List Node) (node i k : ℕ) (c : List Bool) → k < 2 → walk nodes (node - i) k c ≡ walk nodes node node c → nat_eq k 1 ≡ holds nodes node c
walked nodes node i k c h e = ap (λ n. nat_eq n 1) (sym (walk_stays nodes (node - i) k c h) ∙ e)

pub walked_all : (nodes : List Node) (node i k : ℕ) (c : List Bool) → node ≤ i → walk nodes (node - i) k c ≡ walk nodes node node c → nat_eq k 1 ≡ holds nodes node c
walked_all nodes node i k c h e =
    let none : node - i ≡ 0 = omega arith in
    let same : walk nodes (node - i) k c ≡ k = rw none refl in
    ap (λ n. nat_eq n 1) (sym same ∙ e)
