-- Bits of options, node by node.
use Rattle.std.proofs.Common.{◌≡◌, ℕ, ◌+◌, ◌<◌, ◌≤◌, ◌^◌, Bool, List, [], ◌∷◌, ◌++◌, length, take, get_or, refl, sym, ◌∙◌, ap, subst, arith, zero, suc, inl, inr, length-append}
use Rattle.std.specs.Prelude.{None, nat_eq, bit_or, ◌*◌, ◌%◌}
use Rattle.std.specs.Int.{w64}
use Rattle.std.proofs.lemmas.List.{take_more}
use Rattle.std.proofs.lemmas.Option.{slice_get-get_or}
use Rattle.std.proofs.lemmas.Nat.Bits.{bit_at_or, bit_at_set_same, bit_at_set_other}
use Rattle.vx_list.specs.Places.{item_or}
use Rattle.vx_bdd_tools.specs.declared.node.Node.{Node}
use Rattle.vx_bdd_tools.specs.Nodes.{node_of, holds, IsNextNode, IsReducedList}
use Rattle.vx_bdd_tools.proofs.NodeLists.{node_of-last, node_within, node_cases, holds-append, IsReducedList-append, IsReducedList-none}
use Rattle.vx_bdd_tools.proofs.NodeSets.{order_cases}
use Rattle.vx_interact.specs.Bits.{HasOptions, AreOptionBits, IsWithOwn}
use Rattle.vx_interact.proofs.NodeOptions.{HasOptions-end, HasOptions-node}

pub IsWithOwn-or : (option low high : ℕ) → option < 64 → IsWithOwn option low high (bit_or (bit_or low high) (1 * 2 ^ option % 2 ^ 64))
IsWithOwn-or option low high l = record {
  own = ap (λ x. nat_eq x 1) (bit_at_set_same w64 (bit_or low high) option l);
  others = λ i n. bit_at_set_other w64 (bit_or low high) option l i n ∙ bit_at_or low high i;
}

-- the bits so far, of a reduced list
pub record AreBitsSoFar (options : ℕ) (nodes : List Node) (bits : List ℕ) : Type 0 where
  pub reduced : IsReducedList options nodes
  pub number : length bits ≡ length nodes + 2
  pub are : AreOptionBits nodes bits

no_node : (k : ℕ) → node_of [] k ≡ None
no_node zero = refl
no_node (suc zero) = refl
no_node (suc (suc k)) = refl

abbrev zeros : List ℕ
zeros = 0 ∷ 0 ∷ []

pub AreBitsSoFar-none : (options : ℕ) → AreBitsSoFar options [] (0 ∷ 0 ∷ [])
AreBitsSoFar-none options = record {
  reduced = IsReducedList-none options;
  number = omega arith;
  are = record { each = λ k. subst (λ b. HasOptions (holds [] k) b) (sym (nothing k)) (HasOptions-end [] k (no_node k)) };
}
  where
    nothing : (k : ℕ) → item_or zeros k 0 ≡ 0
    nothing zero = refl
    nothing (suc zero) = refl
    nothing (suc (suc k)) = refl

item-front : (xs ys : List ℕ) (k : ℕ) → k < length xs → item_or (xs ++ ys) k 0 ≡ item_or xs k 0
item-front [] ys k l = absurd (omega (arith, l))
item-front (x ∷ xs) ys zero l = refl
item-front (x ∷ xs) ys (suc k) l = item-front xs ys k (omega (arith, l))

item-last : (xs : List ℕ) (y k : ℕ) → k ≡ length xs → item_or (xs ++ y ∷ []) k 0 ≡ y
item-last [] y zero e = refl
item-last [] y (suc k) e = absurd (omega (arith, e))
item-last (x ∷ xs) y zero e = absurd (omega (arith, e))
item-last (x ∷ xs) y (suc k) e = item-last xs y k (omega (arith, e))

item-past : (xs : List ℕ) (k : ℕ) → length xs ≤ k → item_or xs k 0 ≡ 0
item-past [] k l = refl
item-past (x ∷ xs) zero l = absurd (omega (arith, l))
item-past (x ∷ xs) (suc k) l = item-past xs k (omega (arith, l))

HasOptions-same : (set other : List Bool → Bool) (bits : ℕ) → ((c : List Bool) → set c ≡ other c) → HasOptions set bits → HasOptions other bits
HasOptions-same set other bits e h = record {
  each = λ i t. let d = h.each i t in (d.0, λ q. d.1 (e _ ∙ q ∙ sym (e _)));
  all = λ i d. h.all i (d.0, λ q. d.1 (sym (e _) ∙ q ∙ e _));
}

past_end : (nodes : List Node) (k : ℕ) → length nodes + 2 ≤ k → node_of nodes k ≡ None
past_end nodes k l = elim (node_cases (node_of nodes k)) [
  | inl n ↦ n
  | inr p ↦ absurd (omega (arith, l, (node_within nodes k p.0 p.1).1))
]

-- one node more
pub AreBitsSoFar-more : (options : ℕ) (nodes : List Node) (bits : List ℕ) (node : Node) (own : ℕ) → options ≤ 64 → AreBitsSoFar options nodes bits → IsNextNode options nodes node → IsWithOwn node.option (item_or bits node.low 0) (item_or bits node.high 0) own → AreBitsSoFar options (nodes ++ node ∷ []) (bits ++ own ∷ [])
AreBitsSoFar-more options nodes bits node own few h n w =
    let reduced = IsReducedList-append h.reduced n in
    record {
      reduced = reduced;
      number = omega (arith, h.number, length-append nodes (node ∷ []), length-append bits (own ∷ []));
      are = record {
        each = λ k. elim (order_cases k (length bits)) [
          | inl l ↦ kept k l
          | inr m ↦ elim m [
            | inl l ↦ subst (λ b. HasOptions (holds (nodes ++ node ∷ []) k) b) (sym (item-past (bits ++ own ∷ []) k (omega (arith, l, length-append bits (own ∷ []))))) (HasOptions-end (nodes ++ node ∷ []) k (past_end (nodes ++ node ∷ []) k (omega (arith, l, h.number, length-append nodes (node ∷ [])))))
            | inr e ↦ subst (λ b. HasOptions (holds (nodes ++ node ∷ []) k) b) (sym (item-last bits own k e)) (HasOptions-node (omega (arith, few)) reduced k node (item_or bits node.low 0) (item_or bits node.high 0) own (node_of-last nodes node k (e ∙ h.number)) (longer node.low n.low_given) (longer node.high n.high_given) w)
          ]
        ];
      };
    }
  where
    longer : (k : ℕ) → k < length nodes + 2 → HasOptions (holds (nodes ++ node ∷ []) k) (item_or bits k 0)
    longer k l = HasOptions-same (holds nodes k) (holds (nodes ++ node ∷ []) k) (item_or bits k 0) (λ c. sym (holds-append h.reduced (node ∷ []) k c l)) (h.are.each k)

    kept : (k : ℕ) → k < length bits → HasOptions (holds (nodes ++ node ∷ []) k) (item_or (bits ++ own ∷ []) k 0)
    kept k l = subst (λ b. HasOptions (holds (nodes ++ node ∷ []) k) b) (sym (item-front bits (own ∷ []) k l)) (longer k (omega (arith, l, h.number)))

-- one node more of a reduced list
pub AreBitsSoFar-step : (options : ℕ) (nodes : List Node) (i : ℕ) (d : Node) (bits : List ℕ) (own : ℕ) → options ≤ 64 → IsReducedList options nodes → i < length nodes → AreBitsSoFar options (take i nodes) bits → IsWithOwn (get_or nodes i d).option (item_or bits (get_or nodes i d).low 0) (item_or bits (get_or nodes i d).high 0) own → AreBitsSoFar options (take (i + 1) nodes) (bits ++ own ∷ [])
AreBitsSoFar-step options nodes i d bits own few r l h w =
    subst (λ xs. AreBitsSoFar options xs (bits ++ own ∷ [])) (sym (take_more nodes i d l)) (AreBitsSoFar-more options (take i nodes) bits (get_or nodes i d) own few h (r.each i (get_or nodes i d) (slice_get-get_or nodes i d l)) w)
