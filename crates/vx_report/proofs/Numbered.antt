-- Lines put one after the other.
use Rattle.std.proofs.Common.{◌≡◌, ℕ, ◌+◌, ◌<◌, ◌≤◌, suc, List, [], ◌∷◌, ◌++◌, length, take, get_or, map, refl, arith}
use Rattle.std.specs.List.{flat_map}
use Rattle.std.proofs.lemmas.List.{flat_map_more, take_more, length-take-le}
use Rattle.std.proofs.lemmas.Grind.{common_steps}
use Rattle.vx_bdd_tools.specs.declared.node.Node.{Node}
use Rattle.vx_report.specs.declared.line.Line.TheVariants.{Head, Count, Named, Limit, Rounds, Numbered, Printed, Ended, Spent, Done}
use Rattle.vx_report.specs.declared.report.Report.{Report}
use Rattle.vx_report.specs.declared.report.Piece.{Piece}
use Rattle.vx_report.specs.declared.report.EndLine.{EndLine}
use Rattle.vx_report.specs.declared.report.AttemptLine.{AttemptLine}
use Rattle.vx_report.specs.Lines.{whole_line}
use Rattle.vx_report.specs.Text.{numbered, front_lines, found_lines, report_text}

pub numbered-append : (id : ℕ) (nodes : List Node) (node : Node) → numbered id (nodes ++ node ∷ []) ≡ numbered id nodes ++ Numbered (length nodes + id) node ∷ []
numbered-append id [] node = grind arith
numbered-append id (n ∷ ns) node = let e : length ns + suc id ≡ length (n ∷ ns) + id = omega arith in rw (numbered-append (suc id) ns node, e) refl

-- one more node
pub nodes_more : (text before : List ℕ) (nodes : List Node) (place : ℕ) (d : Node) → place < length nodes
    → before ≡ text ++ flat_map whole_line (numbered 2 (take place nodes))
    → before ++ whole_line (Numbered (place + 2) (get_or nodes place d)) ≡ text ++ flat_map whole_line (numbered 2 (take (place + 1) nodes))
nodes_more text before nodes place d h e =
    let within : place ≤ length nodes = omega arith in
    let number : length (take place nodes) + 2 ≡ place + 2 = omega (arith, length-take-le place nodes within) in
    rw (take_more nodes place d h, numbered-append 2 (take place nodes) (get_or nodes place d), number, e) (flat_map_more whole_line text (numbered 2 (take place nodes)) (Numbered (place + 2) (get_or nodes place d)))

pub front_text : (r : Report) → flat_map whole_line (front_lines r) ≡ whole_line (Head r.version) ++ (whole_line (Count (length r.options)) ++ flat_map whole_line (map Named r.options)) ++ (whole_line (Limit r.limit) ++ whole_line (Rounds r.rounds))
unfolding front_lines
front_text r = grind (arith, common_steps)

pub found_text : (r : Report) → flat_map whole_line (found_lines r) ≡ flat_map whole_line (map Printed r.pieces) ++ flat_map whole_line (map Ended r.ends) ++ flat_map whole_line (map Spent r.attempts)
unfolding found_lines
found_text r = grind (arith, common_steps)

pub whole_text : (r : Report) → report_text r ≡ flat_map whole_line (front_lines r) ++ flat_map whole_line (numbered 2 r.nodes) ++ flat_map whole_line (found_lines r) ++ whole_line Done
unfolding report_text
whole_text r = grind (arith, common_steps)

-- the pieces, the ends and the numbers of attempts, one after the other
pub found_more : (r : Report) (o a b d : List ℕ) (pieces : List Piece) (ends : List EndLine) (attempts : List AttemptLine)
    → pieces ≡ r.pieces → ends ≡ r.ends → attempts ≡ r.attempts
    → a ≡ o ++ flat_map whole_line (map Printed pieces) → b ≡ a ++ flat_map whole_line (map Ended ends) → d ≡ b ++ flat_map whole_line (map Spent attempts)
    → d ≡ o ++ flat_map whole_line (found_lines r)
found_more r o a b d pieces ends attempts e1 e2 e3 f1 f2 f3 = rw (found_text r, f3, f2, f1, e1, e2, e3) (grind (arith, common_steps))

pub front_more : (r : Report) (o a b d : List ℕ) (options : List (List ℕ))
    → options ≡ r.options
    → a ≡ o ++ whole_line (Head r.version) → b ≡ a ++ (whole_line (Count (length options)) ++ flat_map whole_line (map Named options)) → d ≡ b ++ (whole_line (Limit r.limit) ++ whole_line (Rounds r.rounds))
    → d ≡ o ++ flat_map whole_line (front_lines r)
front_more r o a b d options e f1 f2 f3 = rw (front_text r, f3, f2, f1, e) (grind (arith, common_steps))

-- three texts, one after the other
pub three : (o p q r a b d : List ℕ) → a ≡ o ++ p → b ≡ a ++ q → d ≡ b ++ r → d ≡ o ++ (p ++ q ++ r)
three o p q r a b d e f g = rw (g, f, e) (grind (arith, common_steps))

-- two texts, and two words behind spaces
pub two_words : (o u k v w a b d : List ℕ) → a ≡ o ++ (u ++ k) → b ≡ a ++ (32 ∷ [] ++ v) → d ≡ b ++ (32 ∷ [] ++ w) → d ≡ o ++ (u ++ k ++ 32 ∷ [] ++ v ++ 32 ∷ [] ++ w)
two_words o u k v w a b d e f g = rw (g, f, e) (grind (arith, common_steps))
