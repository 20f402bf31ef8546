-- What is hashed of a node.
use Rattle.std.specs.Prelude.{◌≡◌, ℕ, ◌+◌, ◌*◌, ◌%◌, ◌^◌, ◌&&◌, Bool, true, false, List, nat_eq, refl}
use Rattle.std.specs.Hash as fed
use Rattle.std.proofs.Common.{ap}
use Rattle.std.proofs.lemmas.Map.Views.{exact_unsigned_eq}
use Rattle.vx_bdd.specs.declared.node.Node.{Node}
use Rattle.vx_bdd.specs.contracts.node.NodePartialEq.TheImpl as node_eq

-- nodes that compare equal are equal
pub node_eq-exact : (m n : Node) → node_eq.ghosts.eq m n ≡ true → m ≡ n
node_eq-exact m n e =
    let first = and_parts (nat_eq m.option n.option) (nat_eq m.low n.low && nat_eq m.high n.high) e in
    let rest = and_parts (nat_eq m.low n.low) (nat_eq m.high n.high) first.1 in
    let option = exact_unsigned_eq m.option n.option first.0 in
    let low = exact_unsigned_eq m.low n.low rest.0 in
    let high = exact_unsigned_eq m.high n.high rest.1 in
    λ i. record { option = option i; low = low i; high = high i }
  where
    and_parts : (a b : Bool) → (a && b) ≡ true → (a ≡ true) × (b ≡ true)
    and_parts true b h = (refl, h)
    and_parts false b h = cc

-- the odd number that is next to 2^64 divided by the golden ratio
abbrev pub factor : ℕ
factor = 0x9e37_79b9_7f4a_7c15

-- low, high and option as one number, by Horner's rule modulo 2^64
abbrev pub number_of : Node → ℕ
number_of node = ((node.low * factor % 2 ^ 64 + node.high) % 2 ^ 64 * factor % 2 ^ 64 + node.option) % 2 ^ 64

-- the number is written, and nothing else
abbrev pub hashed : Node → List (List ℕ)
hashed node = fed.u64 (number_of node)

pub same_hashed : (x y : Node) → node_eq.ghosts.eq x y ≡ true → hashed x ≡ hashed y
same_hashed x y e = ap hashed (node_eq-exact x y e)
