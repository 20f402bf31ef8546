-- What the lines of a report say at a configuration is what the findings say there.
use Rattle.std.proofs.Common.{◌≡◌, ℕ, ◌+◌, Bool, true, false, cond, List, [], ◌∷◌, ◌++◌, Option, Some, None, refl, ap, ◌∙◌, arith, length, drop, map, filter}
use Rattle.std.specs.Prelude.{find, flat_map, option_map, not, ◌&&◌}
use Rattle.std.specs.List.{list_all}
use Rattle.std.proofs.lemmas.Grind.{common_steps}
use Rattle.vx_space.specs.Sets.{Sets}
use Rattle.vx_cond.specs.Leaves.{value_at}
use Rattle.vx_bdd_tools.specs.declared.node.Node.{Node}
use Rattle.vx_bdd_tools.specs.Nodes.{holds}
use Rattle.vx_bdd_tools.specs.Numbering.{HoldAll}
use Rattle.vx_findings.specs.declared.piece.Piece as written
use Rattle.vx_findings.specs.declared.shared.Shared.{Shared}
use Rattle.vx_findings.specs.Shared.{leaves_of}
use Rattle.vx_java.specs.Report.{bytes_of as bytes_of_piece}
use Rattle.vx_java.specs.Step.{Config, RunResult}
use Rattle.vx_report.specs.declared.report.Piece.{Piece}
use Rattle.vx_report.specs.Projection.{attempts_in, bytes_of}
use Rattle.vx_standing.specs.State.{come_to, output_at, shared_ids}
use Rattle.vx_value.specs.declared.end.End.{End}
use Rattle.vx_value.specs.declared.end.Stream.{Stream}
use Rattle.vx_reporting.specs.Listed.{attempts_line, end_line, lines_with, piece_line}

-- numbers hold the sets of values, one after the other
abbrev pub Hold : {V S I : Type 0} → List Node → Sets I → List (Shared V S I) → List ℕ → Type 0
Hold nodes sets [] numbers = Unit {0}
Hold nodes sets (shared ∷ list) [] = ⊥
Hold nodes sets (shared ∷ list) (number ∷ numbers) = ((c : List Bool) → holds nodes number c ≡ sets.test shared.condition c) × Hold nodes sets list numbers

-- those of the first values, and those behind them
pub hold_first : {V S I : Type 0} (nodes : List Node) (sets : Sets I) (list : List (Shared V S I)) (ids : List I) (numbers : List ℕ) → HoldAll nodes numbers (map sets.test (shared_ids list ++ ids)) → Hold nodes sets list numbers
hold_first nodes sets [] ids numbers h = tt
hold_first nodes sets (x ∷ list) ids [] h = absurd h
hold_first nodes sets (x ∷ list) ids (n ∷ numbers) h = (h.0, hold_first nodes sets list ids numbers h.1)

pub hold_behind : {V S I : Type 0} (nodes : List Node) (sets : Sets I) (list : List (Shared V S I)) (ids : List I) (numbers : List ℕ) → HoldAll nodes numbers (map sets.test (shared_ids list ++ ids)) → HoldAll nodes (drop (length list) numbers) (map sets.test ids)
hold_behind nodes sets [] ids numbers h = h
hold_behind nodes sets (x ∷ list) ids [] h = absurd h
hold_behind nodes sets (x ∷ list) ids (n ∷ numbers) h = hold_behind nodes sets list ids numbers h.1

-- what is read at a configuration

pub output_same : {S I : Type 0} (nodes : List Node) (sets : Sets I) (found : List (Shared written.Piece S I)) (numbers : List ℕ) (c : List Bool) → Hold nodes sets found numbers
    → flat_map bytes_of (filter (λ piece. holds nodes piece.node c) (lines_with piece_line found numbers)) ≡ output_at sets found c
output_same nodes sets [] numbers c hold = refl
output_same nodes sets (x ∷ found) [] c hold = absurd hold
output_same nodes sets (x ∷ found) (n ∷ numbers) c hold =
    by (holds nodes n c) (sets.test x.condition c) (hold.0 c) (output_same nodes sets found numbers c hold.1)
  where
    line : Piece
    line = piece_line n x.value

    by : (a b : Bool) → a ≡ b → flat_map bytes_of (filter (λ piece. holds nodes piece.node c) (lines_with piece_line found numbers)) ≡ output_at sets found c
        → flat_map bytes_of (cond a (piece_line n x.value ∷ filter (λ piece. holds nodes piece.node c) (lines_with piece_line found numbers)) (filter (λ piece. holds nodes piece.node c) (lines_with piece_line found numbers)))
        ≡ cond b (bytes_of_piece (x.value.stream, x.value.text) ++ output_at sets found c) (output_at sets found c)
    by true true e h = ap (λ o. bytes_of_piece (x.value.stream, x.value.text) ++ o) h
    by true false e h = cc
    by false true e h = cc
    by false false e h = h

pub end_same : {S I : Type 0} (nodes : List Node) (sets : Sets I) (ends : List (Shared End S I)) (numbers : List ℕ) (c : List Bool) → Hold nodes sets ends numbers
    → option_map (λ line. line.end) (find (λ line. holds nodes line.node c) (lines_with end_line ends numbers)) ≡ value_at sets (leaves_of ends) c
end_same nodes sets [] numbers c hold = refl
end_same nodes sets (x ∷ ends) [] c hold = absurd hold
end_same nodes sets (x ∷ ends) (n ∷ numbers) c hold =
    by (holds nodes n c) (sets.test x.condition c) (hold.0 c) (end_same nodes sets ends numbers c hold.1)
  where
    by : (a b : Bool) → a ≡ b → option_map (λ line. line.end) (find (λ line. holds nodes line.node c) (lines_with end_line ends numbers)) ≡ value_at sets (leaves_of ends) c
        → option_map (λ line. line.end) (cond a (Some (end_line n x.value)) (find (λ line. holds nodes line.node c) (lines_with end_line ends numbers))) ≡ cond b (Some x.value) (value_at sets (leaves_of ends) c)
    by true true e h = refl
    by true false e h = cc
    by false true e h = cc
    by false false e h = h

pub attempts_same : {S I : Type 0} (nodes : List Node) (sets : Sets I) (spent : List (Shared ℕ S I)) (numbers : List ℕ) (c : List Bool) → Hold nodes sets spent numbers
    → attempts_in nodes (lines_with attempts_line spent numbers) c ≡ value_at sets (leaves_of spent) c
attempts_same nodes sets [] numbers c hold = refl
attempts_same nodes sets (x ∷ spent) [] c hold = absurd hold
attempts_same nodes sets (x ∷ spent) (n ∷ numbers) c hold =
    by (holds nodes n c) (sets.test x.condition c) (hold.0 c) (attempts_same nodes sets spent numbers c hold.1)
  where
    by : (a b : Bool) → a ≡ b → attempts_in nodes (lines_with attempts_line spent numbers) c ≡ value_at sets (leaves_of spent) c
        → option_map (λ line. line.attempts) (cond a (Some (attempts_line n x.value)) (find (λ line. holds nodes line.node c) (lines_with attempts_line spent numbers))) ≡ cond b (Some x.value) (value_at sets (leaves_of spent) c)
    by true true e h = refl
    by true false e h = cc
    by false true e h = cc
    by false false e h = h

-- ---- the lines as values with the configurations of a list

filter_same : {A : Type 0} (p q : A → Bool) → ((x : A) → p x ≡ q x) → (xs : List A) → filter p xs ≡ filter q xs
filter_same p q h [] = refl
filter_same p q h (x ∷ xs) = λ i. cond (h x i) (x ∷ filter_same p q h xs i) (filter_same p q h xs i)

-- a line as what it stands for, where that is made of its node's configurations
pub mapped_same : {V L M S I : Type 0} (nodes : List Node) (sets : Sets I) (configs : List Config) (line : ℕ → V → L) (of_line : L → M) (made : V → List Config → M)
    → ((n : ℕ) (v : V) → of_line (line n v) ≡ made v (filter (holds nodes n) configs))
    → (list : List (Shared V S I)) (numbers : List ℕ) → Hold nodes sets list numbers
    → map of_line (lines_with line list numbers) ≡ map (λ x. made x.value (filter (sets.test x.condition) configs)) list
mapped_same nodes sets configs line of_line made h [] numbers hold = refl
mapped_same nodes sets configs line of_line made h (x ∷ list) [] hold = absurd hold
mapped_same nodes sets configs line of_line made h (x ∷ list) (n ∷ numbers) hold =
    let head = h n x.value ∙ ap (made x.value) (filter_same (holds nodes n) (sets.test x.condition) hold.0 configs) in
    let tail = mapped_same nodes sets configs line of_line made h list numbers hold.1 in
    λ i. head i ∷ tail i

-- ---- the numbers of the lines

pub numbers_of : {V L S I : Type 0} (nodes : List Node) (sets : Sets I) (line : ℕ → V → L) (node_of : L → ℕ) → ((n : ℕ) (v : V) → node_of (line n v) ≡ n)
    → (list : List (Shared V S I)) (numbers : List ℕ) → Hold nodes sets list numbers → map node_of (lines_with line list numbers) ++ drop (length list) numbers ≡ numbers
numbers_of nodes sets line node_of h [] numbers hold = refl
numbers_of nodes sets line node_of h (x ∷ list) [] hold = absurd hold
numbers_of nodes sets line node_of h (x ∷ list) (n ∷ numbers) hold =
    let tail = numbers_of nodes sets line node_of h list numbers hold.1 in
    λ i. h n x.value i ∷ tail i

-- no number holds a configuration that none of the sets holds
pub held_nowhere : {I : Type 0} (nodes : List Node) (sets : Sets I) (ids : List I) (numbers : List ℕ) (c : List Bool) → HoldAll nodes numbers (map sets.test ids)
    → list_all (λ id. not (sets.test id c)) ids ≡ true → list_all (λ node. not (holds nodes node c)) numbers ≡ true
held_nowhere nodes sets [] [] c h a = refl
held_nowhere nodes sets [] (n ∷ numbers) c h a = absurd h
held_nowhere nodes sets (id ∷ ids) [] c h a = absurd h
held_nowhere nodes sets (id ∷ ids) (n ∷ numbers) c h a =
    by (holds nodes n c) (sets.test id c) (h.0 c) a (held_nowhere nodes sets ids numbers c h.1)
  where
    by : (x y : Bool) → x ≡ y → (not y && list_all (λ i. not (sets.test i c)) ids) ≡ true → (list_all (λ i. not (sets.test i c)) ids ≡ true → list_all (λ node. not (holds nodes node c)) numbers ≡ true) → (not x && list_all (λ node. not (holds nodes node c)) numbers) ≡ true
    by true true e b rest = cc
    by true false e b rest = cc
    by false true e b rest = cc
    by false false e b rest = rest b

-- ---- a result and its parts

pub record AreParts (output : List (Stream × ℕ)) (end : Option End) (attempts : Option ℕ) (r : RunResult) : Type 0 where
  pub output_is : output ≡ r.output
  pub end_is : end ≡ Some r.end
  pub attempts_is : attempts ≡ Some r.attempts

pub parts_of : (output : List (Stream × ℕ)) (end : Option End) (attempts : Option ℕ) (r : RunResult) → come_to output end attempts ≡ Some r → AreParts output end attempts r
parts_of output None attempts r h = cc
parts_of output (Some end) None r h = cc
parts_of output (Some end) (Some attempts) r h =
    let same : record { output = output; end = end; attempts = attempts } ≡ r = cc in
    record { output_is = ap (λ x. x.output) same; end_is = ap (λ x. Some x.end) same; attempts_is = ap (λ x. Some x.attempts) same }

-- no numbers stand for no sets
pub hold_none : {I : Type 0} (nodes : List Node) (sets : Sets I) (numbers : List ℕ) → HoldAll nodes numbers (map sets.test []) → numbers ≡ []
hold_none nodes sets [] h = refl
hold_none nodes sets (n ∷ numbers) h = absurd h

pub all_append : {A : Type 0} (p : A → Bool) (xs ys : List A) → list_all p xs ≡ true → list_all p ys ≡ true → list_all p (xs ++ ys) ≡ true
all_append p [] ys h k = k
all_append p (x ∷ xs) ys h k = by (p x) h (λ rest. all_append p xs ys rest k)
  where
    by : (b : Bool) → (b && list_all p xs) ≡ true → (list_all p xs ≡ true → list_all p (xs ++ ys) ≡ true) → (b && list_all p (xs ++ ys)) ≡ true
    by true e rest = rest e
    by false e rest = cc

pub drop_more : {A : Type 0} (m n : ℕ) (xs : List A) → drop (m + n) xs ≡ drop n (drop m xs)
drop_more m n xs = grind (arith, common_steps)
