-- Whole tallies, from what holds of their nodes.
use Rattle.std.proofs.Common.{◌≡◌, ℕ, ◌+◌, ◌-◌, ◌<◌, ◌≤◌, ◌^◌, Bool, true, false, List, [], length, get_or, refl, sym, ◌∙◌, ap, subst, arith, suc}
use Rattle.std.specs.Prelude.{Option, Some, None, min, nat_le, unwrap_or, ◌&&◌, if◌then◌else◌}
use Rattle.vx_space.specs.Config.{value_of}
use Rattle.vx_space.specs.Sets.{Sets, IsSet, IsLawful}
use Rattle.vx_bdd_tools.specs.Steps.{IsFreeBelow}
use Rattle.vx_tally.specs.declared.node.Edge.{Edge}
use Rattle.vx_tally.specs.declared.node.TallyNode.{TallyNode}
use Rattle.vx_tally.specs.declared.memo.Question.{Question}
use Rattle.vx_tally.specs.Tally.{TallyView, IsTally, AreNodes, edge_at, number_at, sum_of, level}
use Rattle.vx_tally.specs.Made.{MadeView}
use Rattle.vx_tally.specs.Answers.{IsChoice, AsksFrom, IsChosen}
use Rattle.vx_tally.proofs.NodeLaws.{AreNodes-none, sum-end, sum-node}
use Rattle.vx_tally.proofs.PartLaws.{node_read, rules_read}
use Rattle.vx_tally.proofs.SetLaws.{none_in}
use Rattle.vx_tally.proofs.ChosenLaws.{not_both}
use Rattle.vx_tally.proofs.ReachedLaws.{left_of}

-- one number
pub constant-number : (tally : TallyView) (number : ℕ) → tally ≡ record { nodes = []; root = record { place = 0; more = number } } → (c : List Bool) → number_at tally c ≡ number
constant-number tally number e c =
    let none = sum-end [] c in
    ap (λ t. number_at t c) e ∙ omega (arith, none)

pub constant-valid : (options : ℕ) (tally : TallyView) (number : ℕ) → tally ≡ record { nodes = []; root = record { place = 0; more = number } } → IsTally options tally
constant-valid options tally number e = subst (IsTally options) (sym e) (record { nodes = AreNodes-none options; root_given = omega arith })

-- the edge that is taken
pub taken-number : {options : ℕ} {nodes : List TallyNode} → AreNodes options nodes → (place : ℕ) (d : TallyNode) (c : List Bool) (value : Bool) → 0 < place → place ≤ length nodes → value_of c (get_or nodes (place - 1) d).option ≡ value → edge_at nodes (if value then (get_or nodes (place - 1) d).high else (get_or nodes (place - 1) d).low) c ≡ sum_of nodes place c
taken-number {nodes = nodes} r place d c value p l v =
    let node = get_or nodes (place - 1) d in
    ap (λ b. edge_at nodes (if b then node.high else node.low) c) (sym v) ∙ sym (sum-node r place node c (node_read nodes place d p l))

-- the sum so far, and in the end
pub walk-step : (sum more so_far n s limit : ℕ) → so_far ≡ min (sum + more) (limit - 1) → n ≡ s → min (so_far + n) (limit - 1) ≡ min (sum + (more + s)) (limit - 1)
walk-step sum more so_far n s limit e f = omega (arith, e, f)

pub walk-end : (sum more so_far s n limit : ℕ) → so_far ≡ min (sum + more) (limit - 1) → s ≡ 0 → min (sum + (more + s)) (limit - 1) ≡ n → so_far ≡ n
walk-end sum more so_far s n limit e z h =
    let same : so_far ≡ min (sum + (more + s)) (limit - 1) = omega (arith, e, z) in
    same ∙ h

-- from no option on
pub free-none : {I : Type 0} (sets : Sets I) (id : I) → IsFreeBelow sets id 0
free-none sets id = record { free = λ j l. absurd (omega (arith, l)) }

pub asks-none : {I : Type 0} (sets : Sets I) (one other : List TallyNode) (asked : Question I) → AsksFrom sets one other asked 0
asks-none sets one other asked = record { a = free-none sets asked.a; b = free-none sets asked.b; first = omega arith; second = omega arith }

-- what is chosen
pub chosen-valid : {I : Type 0} (sets : Sets I) (one other made : List TallyNode) (asked : Question I) (answer : Option Edge) (root : Edge) (tally : TallyView) → AreNodes sets.options made → IsChosen sets one other made asked answer → root ≡ unwrap_or answer (record { place = 0; more = 0 }) → tally ≡ record { nodes = made; root = root } → IsTally sets.options tally
chosen-valid sets one other made asked None root tally r h e t = subst (IsTally sets.options) (sym t) (record { nodes = r; root_given = omega (arith, ap (λ x. x.place) e) })
chosen-valid sets one other made asked (Some edge) root tally r h e t = subst (IsTally sets.options) (sym t) (record { nodes = r; root_given = omega (arith, ap (λ x. x.place) e, h.given) })

pub chosen-first : {I : Type 0} {sets : Sets I} → IsLawful sets → (one other made : List TallyNode) (asked : Question I) (answer : Option Edge) (root : Edge) (tally : TallyView) → IsChosen sets one other made asked answer → root ≡ unwrap_or answer (record { place = 0; more = 0 }) → tally ≡ record { nodes = made; root = root } → (c : List Bool) → sets.test asked.a c ≡ true → edge_at one asked.first c < 2 ^ 64 → number_at tally c ≡ edge_at one asked.first c
chosen-first {sets = sets} lawful one other made asked None root tally h e t c a l = absurd (not_both (sets.test asked.a c) a (none_in lawful asked.a c h.0))
chosen-first lawful one other made asked (Some edge) root tally h e t c a l = ap (λ x. number_at x c) t ∙ ap (λ x. edge_at made x c) e ∙ h.in_first c a l

pub chosen-second : {I : Type 0} {sets : Sets I} → IsLawful sets → (one other made : List TallyNode) (asked : Question I) (answer : Option Edge) (root : Edge) (tally : TallyView) → IsChosen sets one other made asked answer → root ≡ unwrap_or answer (record { place = 0; more = 0 }) → tally ≡ record { nodes = made; root = root } → (c : List Bool) → sets.test asked.a c ≡ false → sets.test asked.b c ≡ true → edge_at other asked.second c < 2 ^ 64 → number_at tally c ≡ edge_at other asked.second c
chosen-second {sets = sets} lawful one other made asked None root tally h e t c a b l = absurd (not_both (sets.test asked.b c) b (none_in lawful asked.b c h.1))
chosen-second lawful one other made asked (Some edge) root tally h e t c a b l = ap (λ x. number_at x c) t ∙ ap (λ x. edge_at made x c) e ∙ h.in_second c a b l

-- where the whole is at least a bound
pub IsSet-root : {I : Type 0} (old new : Sets I) (nodes : List TallyNode) (root : Edge) (within id : I) (bound : ℕ) → IsSet new id (λ c. old.test within c && nat_le (bound - root.more) (sum_of nodes root.place c)) → IsSet new id (λ c. old.test within c && nat_le bound (edge_at nodes root c))
IsSet-root old new nodes root within id bound s = record {
  known = s.known;
  test = λ c. s.test c ∙ rw (left_of bound root.more (sum_of nodes root.place c)) refl;
}
