-- A set over some options is known by its configurations of just these.
use Rattle.std.proofs.Common.{◌≡◌, ℕ, Bool, List, length, refl, sym, ap, ◌∙◌, zero, suc}
use Rattle.vx_space.proofs.Differences.{firsts, value_of-firsts}
use Rattle.vx_space.specs.Mask.{tail_of}
use Rattle.vx_bdd_tools.specs.declared.node.Node.{Node}
use Rattle.vx_bdd_tools.specs.Nodes.{IsReducedList, holds}
use Rattle.vx_bdd_tools.proofs.NodeSets.{holds-options}

length_firsts : (n : ℕ) (c : List Bool) → length (firsts n c) ≡ n
length_firsts zero c = refl
length_firsts (suc n) c = ap suc (length_firsts n (tail_of c))

-- numbers that hold the same configurations of so many options hold the same configurations
pub hold_same : {n : ℕ} {one other : List Node} → IsReducedList n one → IsReducedList n other → (a b : ℕ) → ((c : List Bool) → length c ≡ n → holds one a c ≡ holds other b c) → (c : List Bool) → holds one a c ≡ holds other b c
hold_same {n = n} r s a b h c =
    holds-options r a c (firsts n c) (λ i l. sym (value_of-firsts n c i l)) ∙ h (firsts n c) (length_firsts n c) ∙ holds-options s b (firsts n c) c (value_of-firsts n c)
