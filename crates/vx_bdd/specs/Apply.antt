-- Operations on two sets, and what is known of them.
use Rattle.std.specs.Prelude.{◌≡◌, ℕ, ◌≤◌, Bool, true, false, List, Option, ◌&&◌, ◌||◌, not}
use Rattle.std.specs.List.{All}
use Rattle.vx_bdd.specs.declared.node.Node.{Node}
use Rattle.vx_bdd.specs.declared.node.Answer.{Answer}
use Rattle.vx_bdd.specs.declared.node.Op.{Op}
use Rattle.vx_bdd.specs.declared.node.Op.TheVariants.{And, Or, Minus}
use Rattle.vx_bdd.specs.Diagram.{is_stored, level, reaches, IsReduced}

abbrev pub op_value : Op → Bool → Bool → Bool
op_value And a b = a && b
op_value Or a b = a || b
op_value Minus a b = a && not b

-- the id's set is the operation on the sets of a and b, and it asks no option before theirs
pub record IsAnswer (op : Op) (options : ℕ) (slots : List (Option Node)) (a b id : ℕ) : Type 0 where
  pub a_stored : is_stored slots a ≡ true
  pub b_stored : is_stored slots b ≡ true
  pub stored : is_stored slots id ≡ true
  pub above : (i : ℕ) → i ≤ level slots options a → i ≤ level slots options b → i ≤ level slots options id
  pub reaches : (c : List Bool) → reaches slots options id c ≡ op_value op (reaches slots options a c) (reaches slots options b c)

-- an id that is the answer by itself: right whatever sets the ids stand for, with none at 0 and all at 1
pub record IsPlainAnswer (op : Op) (a b id : ℕ) : Type 0 where
  pub right : (has : ℕ → Bool) → has 0 ≡ false → has 1 ≡ true → has id ≡ op_value op (has a) (has b)

-- the answer is right, of an operation
abbrev pub IsRight : Op → ℕ → List (Option Node) → Answer → Type 0
IsRight op options slots answer = IsAnswer op options slots answer.a answer.b answer.id

-- each answer of a list is right, of an operation
pub record AreRight (op : Op) (options : ℕ) (slots : List (Option Node)) (answers : List Answer) : Type 0 where
  pub each : All (IsRight op options slots) answers

-- where the old answers are right, the new ones are, of every operation and in every reduced table
pub record AreStillRight (old new : List Answer) : Type 0 where
  pub right : (op : Op) (options : ℕ) (slots : List (Option Node)) → IsReduced options slots → AreRight op options slots old → AreRight op options slots new

-- where the old answers and one more are right, the new ones are, of every operation and in every reduced table
pub record KeepsRight (answer : Answer) (old new : List Answer) : Type 0 where
  pub right : (op : Op) (options : ℕ) (slots : List (Option Node)) → IsReduced options slots → AreRight op options slots old → IsRight op options slots answer → AreRight op options slots new
