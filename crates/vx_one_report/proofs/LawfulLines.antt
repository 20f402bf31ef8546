-- The lines of a lawful report by their kinds, and that all lines are lawful where those of each kind are.
use Rattle.std.proofs.Common.{◌≡◌, ℕ, ◌+◌, ◌<◌, ◌≤◌, ◌^◌, zero, suc, true, List, [], ◌∷◌, ◌++◌, map, length, nat_lt, slice_get, refl, ◌∙◌, arith}
use Rattle.std.specs.Prelude.{Some}
use Rattle.std.specs.List.{list_all}
use Rattle.std.specs.Cmp.Derive.{both_true}
use Rattle.std.proofs.lemmas.Bool.{lt-ltb}
use Rattle.std.proofs.lemmas.List.{length-take}
use Rattle.std.proofs.lemmas.List.Folds.{list_all-append}
use Rattle.vx_bdd_tools.proofs.OneNumbering.{Numbers-within}
use Rattle.vx_bdd_tools.specs.declared.node.Node.{Node}
use Rattle.vx_bdd_tools.specs.Nodes.{IsReducedList}
use Rattle.vx_bdd_tools.specs.Numbering.{NumbersAll}
use Rattle.vx_report.specs.Text.{found_lines, front_lines, numbered as numbered_lines, report_lines}
use Rattle.vx_report.specs.declared.line.Line.{Line}
use Rattle.vx_report.specs.declared.line.Line.TheVariants.{Count, Done, Ended, Head, Limit, Named, Numbered, Printed, Rounds, Spent}
use Rattle.vx_report.specs.declared.report.AttemptLine.{AttemptLine}
use Rattle.vx_report.specs.declared.report.EndLine.{EndLine}
use Rattle.vx_report.specs.declared.report.Piece.{Piece}
use Rattle.vx_report.specs.declared.report.Report.{Report}
use Rattle.vx_report_line.proofs.Numbers.{both_true as parts_true}
use Rattle.vx_report_line.specs.Forms.{is_end, is_line, is_root, is_text}
use Rattle.vx_report_reader.specs.Lawful.{IsLawful}
use Rattle.vx_one_report.proofs.Alike.{all_split}

-- ---- the lines of a lawful report

-- the lines of a lawful report, by their kinds
pub record HasParts (r : Report) : Type 0 where
  pub front : list_all is_line (front_lines r) ≡ true
  pub pieces : list_all is_line (map Printed r.pieces) ≡ true
  pub ends : list_all is_line (map Ended r.ends) ≡ true
  pub attempts : list_all is_line (map Spent r.attempts) ≡ true

found_split : (r : Report) → list_all is_line (found_lines r) ≡ true → (list_all is_line (map Printed r.pieces) ≡ true) × (list_all is_line (map Ended r.ends) ≡ true) × (list_all is_line (map Spent r.attempts) ≡ true)
unfolding found_lines
found_split r h =
    let first = all_split is_line (map Printed r.pieces ++ map Ended r.ends) (map Spent r.attempts) h in
    let second = all_split is_line (map Printed r.pieces) (map Ended r.ends) first.0 in
    (second.0, second.1, first.1)

pub parts_of : (r : Report) → IsLawful r → HasParts r
parts_of r lawful =
    let first = all_split is_line (front_lines r ++ numbered_lines 2 r.nodes ++ found_lines r) (Done ∷ []) lawful.lines in
    let second = all_split is_line (front_lines r ++ numbered_lines 2 r.nodes) (found_lines r) first.0 in
    let third = all_split is_line (front_lines r) (numbered_lines 2 r.nodes) second.0 in
    let found = found_split r second.1 in
    record { front = third.0; pieces = found.0; ends = found.1; attempts = found.2 }

pub piece_text : (piece : Piece) → is_line (Printed piece) ≡ true → is_text piece.text ≡ true
unfolding is_line
piece_text piece h = (parts_true (is_root piece.node) (is_text piece.text) h).1

pub end_words : (line : EndLine) → is_line (Ended line) ≡ true → is_end line.end ≡ true
unfolding is_line
end_words line h = (parts_true (is_root line.node) (is_end line.end) h).1

pub end_root : (line : EndLine) → is_line (Ended line) ≡ true → is_root line.node ≡ true
unfolding is_line
end_root line h = (parts_true (is_root line.node) (is_end line.end) h).0

pub attempts_root : (line : AttemptLine) → is_line (Spent line) ≡ true → is_root line.node ≡ true
unfolding is_line
attempts_root line h = (parts_true (is_root line.node) (nat_lt line.attempts (2 ^ 64)) h).0

-- ---- lawful lines

record IsSmall (node : Node) : Type 0 where
  option : node.option < 2 ^ 32
  low : node.low < 2 ^ 64
  high : node.high < 2 ^ 64

node_lawful : (id : ℕ) (node : Node) → id < 2 ^ 64 → IsSmall node → is_line (Numbered id node) ≡ true
unfolding is_line
node_lawful id node few small =
    both_true (both_true (both_true (lt-ltb id (2 ^ 64) few) (lt-ltb node.option (2 ^ 32) small.option)) (lt-ltb node.low (2 ^ 64) small.low)) (lt-ltb node.high (2 ^ 64) small.high)

nodes_lawful : (id : ℕ) (nodes : List Node) → id + length nodes < 2 ^ 64 → ((place : ℕ) (node : Node) → slice_get nodes place ≡ Some node → IsSmall node) → list_all is_line (numbered_lines id nodes) ≡ true
nodes_lawful id [] few small = refl
nodes_lawful id (node ∷ nodes) few small =
    both_true (node_lawful id node (omega (arith, few)) (small zero node refl))
    (nodes_lawful (suc id) nodes (omega (arith, few)) (λ place other e. small (suc place) other e))

reduced_small : (options : ℕ) (nodes : List Node) → options < 65 → length nodes < 2 ^ 63 → IsReducedList options nodes → (place : ℕ) (node : Node) → slice_get nodes place ≡ Some node → IsSmall node
reduced_small options nodes few short reduced place node e =
    let next = reduced.each place node e in
    let front = length-take place nodes in
    record {
      option = omega (arith, next.in_range, few);
      low = omega (arith, next.low_given, front, short);
      high = omega (arith, next.high_given, front, short);
    }

joined : (xs ys : List Line) → list_all is_line xs ≡ true → list_all is_line ys ≡ true → list_all is_line (xs ++ ys) ≡ true
joined xs ys e f = list_all-append is_line xs ys ∙ both_true e f

done_lawful : list_all is_line (Done ∷ []) ≡ true
unfolding is_line
done_lawful = refl

rounds_lawful : (n : ℕ) → n < 2 ^ 128 → is_line (Rounds n) ≡ true
unfolding is_line
rounds_lawful n few = lt-ltb n (2 ^ 128) few

-- the front of a report with other rounds
front_lawful : (like r : Report) → r.version ≡ like.version → r.options ≡ like.options → r.limit ≡ like.limit → r.rounds < 2 ^ 128 → list_all is_line (front_lines like) ≡ true → list_all is_line (front_lines r) ≡ true
unfolding front_lines
front_lawful like r version options limit few h =
    let names : List (List ℕ) → List Line = λ options. Head like.version ∷ Count (length options) ∷ map Named options in
    let p = all_split is_line (Head like.version ∷ Count (length like.options) ∷ map Named like.options) (Limit like.limit ∷ Rounds like.rounds ∷ []) h in
    let last = parts_true (is_line (Limit like.limit)) (list_all is_line (Rounds like.rounds ∷ [])) p.1 in
    rw (version, options, limit) (joined (Head like.version ∷ Count (length like.options) ∷ map Named like.options) (Limit like.limit ∷ Rounds r.rounds ∷ []) p.0 (both_true last.0 (both_true (rounds_lawful r.rounds few) refl)))

found_lawful : (r : Report) → list_all is_line (map Printed r.pieces) ≡ true → list_all is_line (map Ended r.ends) ≡ true → list_all is_line (map Spent r.attempts) ≡ true → list_all is_line (found_lines r) ≡ true
unfolding found_lines
found_lawful r p e a = joined (map Printed r.pieces ++ map Ended r.ends) (map Spent r.attempts) (joined (map Printed r.pieces) (map Ended r.ends) p e) a

-- all lines of a report with the front of another one
pub all_lawful : (like r : Report) → r.version ≡ like.version → r.options ≡ like.options → r.limit ≡ like.limit → r.rounds < 2 ^ 128 → list_all is_line (front_lines like) ≡ true
    → length r.options < 65 → length r.nodes < 2 ^ 63 → IsReducedList (length r.options) r.nodes
    → list_all is_line (map Printed r.pieces) ≡ true → list_all is_line (map Ended r.ends) ≡ true → list_all is_line (map Spent r.attempts) ≡ true → list_all is_line (report_lines r) ≡ true
all_lawful like r version options limit few front options_few short reduced p e a =
    let nodes = nodes_lawful 2 r.nodes (omega (arith, short)) (reduced_small (length r.options) r.nodes options_few short reduced) in
    joined (front_lines r ++ numbered_lines 2 r.nodes ++ found_lines r) (Done ∷ [])
    (joined (front_lines r ++ numbered_lines 2 r.nodes) (found_lines r) (joined (front_lines r) (numbered_lines 2 r.nodes) (front_lawful like r version options limit few front) nodes) (found_lawful r p e a))
    done_lawful

-- ---- roots

-- numbers that are numbered one after the other are those of nodes
pub roots_within : (nodes : List Node) (n : ℕ) (roots : List ℕ) (m : ℕ) → n ≤ length nodes + 2 → NumbersAll nodes n roots m → list_all (λ root. nat_lt root (length nodes + 2)) roots ≡ true
roots_within nodes n [] m few all = refl
roots_within nodes n (root ∷ roots) m few (NumbersAll.first _ _ between _ _ walk later) =
    let within = Numbers-within nodes n root between few walk in
    both_true (lt-ltb root (length nodes + 2) (omega (arith, within.0, within.2))) (roots_within nodes between roots m within.2 later)
