-- What is asked on the way, and the answers.
use Rattle.std.specs.Prelude.{◌≡◌, ℕ, ◌+◌, ◌-◌, ◌<◌, ◌≤◌, ◌⊎◌, ◌^◌, Bool, true, false, List, length, Option, Some, None, All, Contains, slice_get, ◌&&◌, nat_le, min, max}
use Rattle.vx_space.specs.Sets.{Sets}
use Rattle.vx_bdd_tools.specs.Steps.{IsFreeBelow}
use Rattle.vx_tally.specs.declared.node.Edge.{Edge}
use Rattle.vx_tally.specs.declared.node.TallyNode.{TallyNode}
use Rattle.vx_tally.specs.declared.memo.Question.{Question}
use Rattle.vx_tally.specs.declared.memo.Known.{Known}
use Rattle.vx_tally.specs.declared.choosing.Taken.{Taken}
use Rattle.vx_tally.specs.declared.choosing.Taken.TheVariants.{Is, Divided}
use Rattle.vx_tally.specs.Parts.{IsHalf, IsSide, IsLeastOfBoth}
use Rattle.vx_tally.specs.Tally.{edge_at, sum_of, level, AreNodes}
use Rattle.vx_tally.specs.Made.{MadeView, AreCopies, IsGrown, IsMade}

-- what is noted was noted before, or is this
abbrev pub IsNoted : {I V : Type 0} → Known I V → List (Known I V) → Known I V → Type 0
IsNoted known old other = Contains old other ⊎ (other ≡ known)

-- an edge at a configuration says what another one does, where that is below 2 ^ 64
abbrev pub SaysAt : List TallyNode → Edge → List TallyNode → Edge → List Bool → Type 0
SaysAt nodes edge made answer c = edge_at nodes edge c < 2 ^ 64 → edge_at made answer c ≡ edge_at nodes edge c

-- two known sets, with an edge of one of two tallies beside each
pub record IsChoice {I : Type 0} (sets : Sets I) (first second : List TallyNode) (asked : Question I) : Type 0 where
  pub a_known : sets.is_known asked.a ≡ true
  pub b_known : sets.is_known asked.b ≡ true
  pub first_nodes : AreNodes sets.options first
  pub second_nodes : AreNodes sets.options second
  pub first_given : asked.first.place ≤ length first
  pub second_given : asked.second.place ≤ length second

-- no option below i is asked
pub record AsksFrom {I : Type 0} (sets : Sets I) (one other : List TallyNode) (asked : Question I) (i : ℕ) : Type 0 where
  pub a : IsFreeBelow sets asked.a i
  pub b : IsFreeBelow sets asked.b i
  pub first : i ≤ level sets.options one asked.first.place
  pub second : i ≤ level sets.options other asked.second.place

-- in the first set the edge says what the first one does, and elsewhere in the second what the second does
pub record IsChosenEdge {I : Type 0} (sets : Sets I) (first second made : List TallyNode) (asked : Question I) (edge : Edge) : Type 0 where
  pub given : edge.place ≤ length made
  pub later : (i : ℕ) → AsksFrom sets first second asked i → i ≤ level sets.options made edge.place
  pub in_first : (c : List Bool) → sets.test asked.a c ≡ true → SaysAt first asked.first made edge c
  pub in_second : (c : List Bool) → sets.test asked.a c ≡ false → sets.test asked.b c ≡ true → SaysAt second asked.second made edge c

-- the same, or none where both sets are never
abbrev pub IsChosen : {I : Type 0} → Sets I → (first second made : List TallyNode) → Question I → Option Edge → Type 0
IsChosen sets first second made asked None = (asked.a ≡ sets.never) × (asked.b ≡ sets.never)
IsChosen sets first second made asked (Some edge) = IsChosenEdge sets first second made asked edge

-- the nodes that are made, the copies and the answers so far are right
pub record IsWork {I : Type 0} (sets : Sets I) (first second : List TallyNode) (made : MadeView) (ones twos : List (Option ℕ)) (answers : List (Known I (Option Edge))) : Type 0 where
  pub options : made.options ≡ sets.options
  pub nodes : AreNodes sets.options made.nodes
  pub copies : AreCopies first made ones
  pub others : AreCopies second made twos
  pub known : All (λ k. IsChosen sets first second made.nodes k.question k.answer) answers

-- a question with an option at a value
pub record IsHalfQuestion {I : Type 0} (sets : Sets I) (one other : List TallyNode) (asked : Question I) (option : ℕ) (value : Bool) (half : Question I) : Type 0 where
  pub choice : IsChoice sets one other half
  pub from : AsksFrom sets one other half (option + 1)
  pub a : IsHalf sets asked.a option value half.a
  pub b : IsHalf sets asked.b option value half.b
  pub first : IsSide sets.options one asked.first option value half.first
  pub second : IsSide sets.options other asked.second option value half.second

-- a question with so much less on both edges
abbrev pub lowered_by : {I : Type 0} → Question I → ℕ → Question I
lowered_by asked less = record { a = asked.a; b = asked.b; first = record { place = asked.first.place; more = asked.first.more - less }; second = record { place = asked.second.place; more = asked.second.more - less } }

-- an answer that adds so much more, and at most the greatest number that there is
abbrev pub raised_by : ℕ → Option Edge → Option Edge
raised_by more None = None
raised_by more (Some edge) = Some (record { place = edge.place; more = min (edge.more + more) (2 ^ 64 - 1) })

-- one answer of two, by an option: the one that there is, or an edge that stands for both
abbrev pub IsEither : ℕ → Option Edge → Option Edge → MadeView → MadeView → Option Edge → Type 0
IsEither option None high old new answer = (answer ≡ high) × (new ≡ old)
IsEither option (Some low) None old new answer = (answer ≡ Some low) × (new ≡ old)
IsEither option (Some low) (Some high) old new None = ⊥
IsEither option (Some low) (Some high) old new (Some edge) = IsMade option low high old new edge

-- an answer, with what was made for it
pub record IsChosenStep {I : Type 0} (sets : Sets I) (first second : List TallyNode) (asked : Question I) (old new : MadeView) (copies others : List (Option ℕ)) (known : List (Known I (Option Edge))) (answer : Option Edge) : Type 0 where
  pub grown : IsGrown old new
  pub work : IsWork sets first second new copies others known
  pub chosen : IsChosen sets first second new.nodes asked answer

-- an answer that was had at once, or the least option on which one of the sets depends
abbrev pub IsTaken : {I : Type 0} → Sets I → (first second : List TallyNode) → Question I → (old new : MadeView) → (copies others : List (Option ℕ)) → (known : List (Known I (Option Edge))) → Taken → Type 0
IsTaken sets first second asked old new copies others known (Is answer) = IsChosenStep sets first second asked old new copies others known answer
IsTaken sets first second asked old new copies others known (Divided option) = IsLeastOfBoth sets asked.a asked.b option × IsGrown old new × IsWork sets first second new copies others known

-- the greatest of some numbers in a set: none in the set is above it, but those from 2 ^ 64 on, and one isn't below it
pub record IsMost {I : Type 0} (sets : Sets I) (number : List Bool → ℕ) (set : I) (most : ℕ) : Type 0 where
  pub bound : (c : List Bool) → sets.test set c ≡ true → number c < 2 ^ 64 → number c ≤ most
  pub at : List Bool
  pub inside : sets.test set at ≡ true
  pub attained : most ≤ number at

-- the same, or none where the set is never
abbrev pub IsMostIn : {I : Type 0} → Sets I → (List Bool → ℕ) → I → Option ℕ → Type 0
IsMostIn sets number set None = set ≡ sets.never
IsMostIn sets number set (Some most) = IsMost sets number set most

-- the same of each question that is known
abbrev pub AreMost : {I : Type 0} → Sets I → List TallyNode → List (Known I (Option ℕ)) → Type 0
AreMost sets nodes known = All (λ k. IsMostIn sets (sum_of nodes k.question.first.place) k.question.a k.answer) known

-- a set has just those configurations of another for which a place adds at least the number asked
pub record IsReached {I : Type 0} (sets : Sets I) (nodes : List TallyNode) (asked : Question I) (id : I) : Type 0 where
  pub asked_known : sets.is_known asked.a ≡ true
  pub known : sets.is_known id ≡ true
  pub test : (c : List Bool) → sets.test id c ≡ (sets.test asked.a c && nat_le asked.first.more (sum_of nodes asked.first.place c))

abbrev pub AreReached : {I : Type 0} → Sets I → List TallyNode → List (Known I I) → Type 0
AreReached sets nodes known = All (λ k. IsReached sets nodes k.question k.answer) known

-- for each of the first places a number that no sum from there on is above, or the greatest number that there is
pub record AreBounds (nodes : List TallyNode) (count : ℕ) (bounds : List ℕ) : Type 0 where
  pub number : length bounds ≡ count + 1
  pub each : (place bound : ℕ) → slice_get bounds place ≡ Some bound → bound < 2 ^ 64 - 1 → (c : List Bool) → sum_of nodes place c ≤ bound

-- the greater of two numbers behind what is added to each, and at most the greatest number that there is
abbrev pub IsGreater : Option ℕ → ℕ → Option ℕ → ℕ → Option ℕ → Type 0
IsGreater None low_more None high_more most = most ≡ None
IsGreater (Some low) low_more None high_more most = most ≡ Some (min (low + low_more) (2 ^ 64 - 1))
IsGreater None low_more (Some high) high_more most = most ≡ Some (min (high + high_more) (2 ^ 64 - 1))
IsGreater (Some low) low_more (Some high) high_more most = most ≡ Some (max (min (low + low_more) (2 ^ 64 - 1)) (min (high + high_more) (2 ^ 64 - 1)))
