-- What a stack form makes of the operands, by how many values stand in its words.
use Rattle.std.specs.Prelude.{◌≡◌, ℕ, ◌+◌, ◌≤◌, Bool, true, false, List, take, drop, Option, Some, None, IfSome, unwrap_or, ◌++◌}
use Rattle.vx_space.specs.Sets.{Sets}
use Rattle.vx_cond.specs.declared.cond.Leaf.{Leaf}
use Rattle.vx_cond.specs.Leaves.{value_at}
use Rattle.vx_java.specs.Machine.{Outcome, State, illegal, settle}
use Rattle.vx_java.specs.declared.operation.Operation.{Operation}
use Rattle.vx_java.specs.declared.operation.Operation.TheVariants.{Stack}
use Rattle.vx_java.specs.declared.operation.Shuffle.{Shuffle}
use Rattle.vx_java.specs.declared.operation.Shuffle.TheVariants.{Pop, Pop2, Swap}
use Rattle.vx_stack.specs.Cuts.{counts_of}
use Rattle.vx_stack.specs.declared.cut.Cut.{Cut}
use Rattle.vx_stack.specs.declared.cut.Cut.TheVariants.{Divided}
use Rattle.vx_stack.specs.declared.order.Order.{Order}
use Rattle.vx_stack.specs.declared.order.Order.TheVariants.{Dropped, Swapped, Doubled}
use Rattle.vx_group_states.specs.Sites.{here}
use Rattle.vx_group_states.specs.declared.site.Site.{Site}

-- an operation of this family
abbrev pub is_form : Operation → Bool
is_form (Stack form) = true
is_form _ = false

abbrev pub order_of : Shuffle → Order
order_of Pop = Dropped
order_of Pop2 = Dropped
order_of Swap = Swapped
order_of _ = Doubled

-- the items of the upper words, of those under them, and the rest, in their new order
abbrev pub reordered : {T : Type 0} → Order → List T → List T → List T → List T
reordered Dropped a b rest = rest
reordered Swapped a b rest = b ++ (a ++ rest)
reordered Doubled a b rest = a ++ (b ++ (a ++ rest))

-- operands, the top first, whose upper words have so many values, and the words under them so many
abbrev pub operands_reordered : {T : Type 0} → Order → (upper lower : ℕ) → List T → List T
operands_reordered order upper lower operands =
    reordered order (take upper operands) (take lower (drop upper operands)) (drop lower (drop upper operands))

-- what comes then
abbrev pub formed_by : Site → Order → (upper lower : ℕ) → State → Outcome
formed_by site order upper lower s = settle (here site s) (operands_reordered order upper lower s.top.operands)

-- none: the state breaks a rule of the instruction
abbrev pub formed_as : Site → Order → Option (ℕ × ℕ) → State → Outcome
formed_as site order None s = illegal (here site s)
formed_as site order (Some (upper, lower)) s = formed_by site order upper lower s

-- where leaves say how the operands are cut
abbrev pub formed_where : {S I : Type 0} → Site → Order → Sets I → List (Leaf Cut S I) → List Bool → State → Outcome
formed_where site order sets cuts c s = formed_as site order (counts_of (unwrap_or (value_at sets cuts c) Divided)) s

-- each cut is one of so many operands
pub record ArePossible {S I : Type 0} (sets : Sets I) (count : ℕ) (cuts : List (Leaf Cut S I)) : Type 0 where
  pub enough : (c : List Bool) (cut : Cut) → value_at sets cuts c ≡ Some cut → IfSome (counts_of cut) (λ n. n.0 + n.1 ≤ count)
