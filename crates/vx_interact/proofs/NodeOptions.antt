-- The options of a node are those of its parts, and its own.
use Rattle.std.proofs.Common.{◌≡◌, ◌≢◌, ◌⊎◌, ℕ, ◌<◌, ◌≤◌, Bool, true, false, List, refl, sym, ◌∙◌, ap, subst, arith, zero, suc, inl, inr}
use Rattle.std.specs.Prelude.{Some, None, if◌then◌else◌, nat_eq, max}
use Rattle.std.specs.Int.{bit_at}
use Rattle.std.proofs.lemmas.Bool.Decides.{nat_tests}
use Rattle.std.proofs.lemmas.Nat.Bits.{bit_at-zero, bit_at-lt}
use Rattle.vx_space.specs.Config.{value_of, with_option}
use Rattle.vx_space.specs.Under.{Depends}
use Rattle.vx_space.proofs.Configs.{value_of-other}
use Rattle.vx_bdd_tools.specs.declared.node.Node.{Node}
use Rattle.vx_bdd_tools.specs.Nodes.{node_of, holds, IsReducedList}
use Rattle.vx_bdd_tools.specs.Support.{IsSupport}
use Rattle.vx_bdd_tools.proofs.NodeLists.{walk-end, holds-node}
use Rattle.vx_bdd_tools.proofs.NodeSets.{holds-options, order_cases}
use Rattle.vx_bdd_tools.proofs.Supports.{depends_here, depends_above, IsSupportBelow}
use Rattle.vx_interact.specs.Bits.{HasOptions, IsFreeFrom, IsWithOwn, has_bit}

-- a number without a node depends on nothing
pub HasOptions-end : (nodes : List Node) (k : ℕ) → node_of nodes k ≡ None → HasOptions (holds nodes k) 0
HasOptions-end nodes k n = record {
  each = λ i e. absurd (none i e);
  all = λ i d. absurd (d.1 (same (with_option d.0 i true) ∙ sym (same (with_option d.0 i false))));
}
  where
    same : (c : List Bool) → holds nodes k c ≡ nat_eq k 1
    same c = ap (λ w. nat_eq w 1) (walk-end nodes k k c n)

    none : (i : ℕ) → has_bit 0 i ≡ true → ⊥
    none i e = grind (arith, nat_tests, bit_at-zero i)

bit_cases : (a b m : ℕ) → a < 2 → b < 2 → m ≡ max a b → nat_eq m 1 ≡ true → (nat_eq a 1 ≡ true) ⊎ (nat_eq b 1 ≡ true)
bit_cases zero zero m la lb e t = absurd (grind (arith, nat_tests, e))
bit_cases (suc zero) b m la lb e t = inl refl
bit_cases zero (suc zero) m la lb e t = inr refl
bit_cases zero (suc (suc b)) m la lb e t = absurd (omega (arith, lb))
bit_cases (suc (suc a)) b m la lb e t = absurd (omega (arith, la))

either_bit : (v : Bool) (a b m : ℕ) → a < 2 → b < 2 → m ≡ max a b → nat_eq (if v then b else a) 1 ≡ true → nat_eq m 1 ≡ true
either_bit true zero (suc zero) m la lb e t = ap (λ x. nat_eq x 1) e
either_bit true (suc zero) (suc zero) m la lb e t = ap (λ x. nat_eq x 1) e
either_bit true (suc (suc a)) b m la lb e t = absurd (omega (arith, la))
either_bit true a zero m la lb e t = absurd (grind (arith, nat_tests))
either_bit true a (suc (suc b)) m la lb e t = absurd (omega (arith, lb))
either_bit false (suc zero) zero m la lb e t = ap (λ x. nat_eq x 1) e
either_bit false (suc zero) (suc zero) m la lb e t = ap (λ x. nat_eq x 1) e
either_bit false a (suc (suc b)) m la lb e t = absurd (omega (arith, lb))
either_bit false zero b m la lb e t = absurd (grind (arith, nat_tests))
either_bit false (suc (suc a)) b m la lb e t = absurd (omega (arith, la))

split_same : (i j : ℕ) → (i ≢ j) ⊎ (i ≡ j)
split_same i j = elim (order_cases i j) [
  | inl l ↦ inl (omega (arith, l))
  | inr m ↦ elim m [ inl l ↦ inl (omega (arith, l)) | inr e ↦ inr e ]
]

pub HasOptions-node : {options : ℕ} {nodes : List Node} → options < 65 → IsReducedList options nodes → (k : ℕ) (node : Node) (low high bits : ℕ) → node_of nodes k ≡ Some node → HasOptions (holds nodes node.low) low → HasOptions (holds nodes node.high) high → IsWithOwn node.option low high bits → HasOptions (holds nodes k) bits
HasOptions-node {nodes = nodes} few r k node low high bits e hl hh w = record {
  each = λ i t. elim (split_same i node.option) [
    | inr q ↦
        let P : ℕ → Type 0 = λ o. Depends (holds nodes k) o in
        subst P (sym q) (depends_here few r k node e)
    | inl n ↦ elim (bit_cases (bit_at low i) (bit_at high i) (bit_at bits i) (bit_at-lt low i) (bit_at-lt high i) (w.others i n) t) [
      | inl a ↦ depends_above r k node e false i (hl.each i a)
      | inr b ↦ depends_above r k node e true i (hh.each i b)
    ]
  ];
  all = λ i d. elim (split_same i node.option) [
    | inr q ↦
        let P : ℕ → Type 0 = λ o. has_bit bits o ≡ true in
        subst P (sym q) w.own
    | inl n ↦ either_bit (value_of d.0 node.option) (bit_at low i) (bit_at high i) (bit_at bits i) (bit_at-lt low i) (bit_at-lt high i) (w.others i n) (part i (value_of d.0 node.option) (below i n d))
  ];
}
  where
    through : (i : ℕ) → i ≢ node.option → (c : List Bool) (v : Bool) → holds nodes k (with_option c i v) ≡ holds nodes (if value_of c node.option then node.high else node.low) (with_option c i v)
    through i n c v = holds-node r k node (with_option c i v) e ∙ ap (λ b. holds nodes (if b then node.high else node.low) (with_option c i v)) (value_of-other c i node.option v n)

    below : (i : ℕ) → i ≢ node.option → (d : Depends (holds nodes k) i) → Depends (holds nodes (if value_of d.0 node.option then node.high else node.low)) i
    below i n d = (d.0, λ q. d.1 (through i n d.0 true ∙ q ∙ sym (through i n d.0 false)))

    part : (i : ℕ) (v : Bool) → Depends (holds nodes (if v then node.high else node.low)) i → nat_eq (if v then bit_at high i else bit_at low i) 1 ≡ true
    part i true d = hh.all i d
    part i false d = hl.all i d

-- a set of the list depends on options of the list alone
pub IsFreeFrom-list : {options : ℕ} {nodes : List Node} → IsReducedList options nodes → (k : ℕ) → IsFreeFrom (holds nodes k) options
IsFreeFrom-list {options = options} {nodes = nodes} r k = record {
  free = λ i l d. d.1 (holds-options r k (with_option d.0 i true) (with_option d.0 i false) (λ x m.
      let other : i ≢ x = omega (arith, l, m) in
      value_of-other d.0 i x true other ∙ sym (value_of-other d.0 i x false other)));
}

pub not_both : (b : Bool) → b ≡ true → b ≡ false → ⊥
not_both b t f = cc (t, f)

pub IsSupport-below : (set : List Bool → Bool) (options : ℕ) (found : List ℕ) (i : ℕ) → options ≤ i → IsFreeFrom set options → IsSupportBelow set i found → IsSupport set found
IsSupport-below set options found i l f h = record {
  ascending = h.ascending;
  each = h.each;
  all = λ j d. elim (order_cases j i) [
    | inl m ↦ h.all j m d
    | inr m ↦ elim m [
      | inl k ↦ absurd (f.free j (omega (arith, k, l)) d)
      | inr q ↦ absurd (f.free j (omega (arith, q, l)) d)
    ]
  ];
}
