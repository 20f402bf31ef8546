-- What lines say together, and which lines have said it.
use Rattle.std.proofs.Common.{◌≡◌, ℕ, suc, ◌+◌, List, [], ◌∷◌, ◌++◌, map, length, true, ◌&&◌, nat_eq, refl, ap, sym, ◌∙◌, arith, append_assoc, append-nil}
use Rattle.std.proofs.lemmas.Bool.Decides.{nat_tests}
use Rattle.std.proofs.lemmas.List.{map-append}
use Rattle.vx_bdd_tools.specs.declared.node.Node.{Node}
use Rattle.vx_report.specs.declared.report.Piece.{Piece}
use Rattle.vx_report.specs.declared.report.EndLine.{EndLine}
use Rattle.vx_report.specs.declared.report.AttemptLine.{AttemptLine}
use Rattle.vx_report.specs.declared.report.Report.{Report}
use Rattle.vx_report.specs.declared.line.Line.{Line}
use Rattle.vx_report.specs.declared.line.Line.TheVariants.{Head, Count, Named, Limit, Rounds, Numbered, Printed, Ended, Spent, Done}
use Rattle.vx_report.specs.Text.{numbered, front_lines, found_lines, report_lines}
use Rattle.vx_report_line.specs.Forms.{is_line}
use Rattle.vx_report_line.proofs.Numbers.{both_true}
use Rattle.vx_report_reader.specs.Rules.{Draft, MayFollow, after, reached, AreGood, is_nil, numbers, prints, ends}
use Rattle.vx_report_reader.specs.Rules as rules

-- ---- some lines, then others

pub reached-append : (d : Draft) (xs ys : List Line) → reached d (xs ++ ys) ≡ reached (reached d xs) ys
reached-append d [] ys = refl
reached-append d (x ∷ xs) ys = reached-append (after d x) xs ys

pub good_more : (d : Draft) (xs : List Line) (line : Line) → AreGood d xs → is_line line ≡ true → MayFollow (reached d xs) line → AreGood d (xs ++ line ∷ [])
good_more d [] line g h m = (h, m, tt)
good_more d (x ∷ xs) line g h m = (g.0, g.1, good_more (after d x) xs line g.2 h m)

pub good_behind : (d : Draft) (xs ys : List Line) → AreGood d (xs ++ ys) → AreGood (reached d xs) ys
good_behind d [] ys g = g
good_behind d (x ∷ xs) ys g = good_behind (after d x) xs ys g.2

-- ---- the lines of a report say the report

pub named : (version count : ℕ) (names more : List (List ℕ)) → reached (rules.Naming version count names) (map Named more) ≡ rules.Naming version count (names ++ more)
named version count names [] = ap (rules.Naming version count) (sym (append-nil names))
named version count names (x ∷ xs) = named version count (names ++ x ∷ []) xs ∙ ap (rules.Naming version count) (append_assoc names (x ∷ []) xs)

-- a report that goes on
abbrev pub with_nodes : Report → List Node → Report
with_nodes r nodes = record r { nodes = nodes }

abbrev pub with_pieces : Report → List Piece → Report
with_pieces r pieces = record r { pieces = pieces }

abbrev pub with_ends : Report → List EndLine → Report
with_ends r ends = record r { ends = ends }

abbrev pub with_attempts : Report → List AttemptLine → Report
with_attempts r attempts = record r { attempts = attempts }

pub nodes_said : (r : Report) (id : ℕ) (nodes : List Node) → reached (rules.Body r) (numbered id nodes) ≡ rules.Body (with_nodes r (r.nodes ++ nodes))
nodes_said r id [] = ap (λ xs. rules.Body (with_nodes r xs)) (sym (append-nil r.nodes))
nodes_said r id (x ∷ xs) = nodes_said (with_nodes r (r.nodes ++ x ∷ [])) (suc id) xs ∙ ap (λ ys. rules.Body (with_nodes r ys)) (append_assoc r.nodes (x ∷ []) xs)

pub pieces_said : (r : Report) (pieces : List Piece) → reached (rules.Body r) (map Printed pieces) ≡ rules.Body (with_pieces r (r.pieces ++ pieces))
pieces_said r [] = ap (λ xs. rules.Body (with_pieces r xs)) (sym (append-nil r.pieces))
pieces_said r (x ∷ xs) = pieces_said (with_pieces r (r.pieces ++ x ∷ [])) xs ∙ ap (λ ys. rules.Body (with_pieces r ys)) (append_assoc r.pieces (x ∷ []) xs)

pub ends_said : (r : Report) (ends : List EndLine) → reached (rules.Body r) (map Ended ends) ≡ rules.Body (with_ends r (r.ends ++ ends))
ends_said r [] = ap (λ xs. rules.Body (with_ends r xs)) (sym (append-nil r.ends))
ends_said r (x ∷ xs) = ends_said (with_ends r (r.ends ++ x ∷ [])) xs ∙ ap (λ ys. rules.Body (with_ends r ys)) (append_assoc r.ends (x ∷ []) xs)

pub attempts_said : (r : Report) (attempts : List AttemptLine) → reached (rules.Body r) (map Spent attempts) ≡ rules.Body (with_attempts r (r.attempts ++ attempts))
attempts_said r [] = ap (λ xs. rules.Body (with_attempts r xs)) (sym (append-nil r.attempts))
attempts_said r (x ∷ xs) = attempts_said (with_attempts r (r.attempts ++ x ∷ [])) xs ∙ ap (λ ys. rules.Body (with_attempts r ys)) (append_assoc r.attempts (x ∷ []) xs)

-- a report of which no node is written yet
abbrev pub begun_report : ℕ → List (List ℕ) → ℕ → ℕ → Report
begun_report version options limit rounds = record { version = version; options = options; limit = limit; rounds = rounds; nodes = []; pieces = []; ends = []; attempts = [] }

pub front_said : (r : Report) → reached rules.Nothing (front_lines r) ≡ rules.Body (begun_report r.version r.options r.limit r.rounds)
unfolding front_lines
front_said r =
    let start = rules.Naming r.version (length r.options) [] in
    let last = Limit r.limit ∷ Rounds r.rounds ∷ [] in
    reached-append start (map Named r.options) last ∙ ap (λ d. reached d last) (named r.version (length r.options) [] r.options)

pub found_said : (r start : Report) → reached (rules.Body start) (found_lines r) ≡ rules.Body (with_attempts (with_ends (with_pieces start (start.pieces ++ r.pieces)) (start.ends ++ r.ends)) (start.attempts ++ r.attempts))
unfolding found_lines
found_said r start =
    reached-append (rules.Body start) (map Printed r.pieces ++ map Ended r.ends) (map Spent r.attempts)
    ∙ ap (λ d. reached d (map Spent r.attempts)) (reached-append (rules.Body start) (map Printed r.pieces) (map Ended r.ends))
    ∙ ap (λ d. reached (reached d (map Ended r.ends)) (map Spent r.attempts)) (pieces_said start r.pieces)
    ∙ ap (λ d. reached d (map Spent r.attempts)) (ends_said (with_pieces start (start.pieces ++ r.pieces)) r.ends)
    ∙ attempts_said (with_ends (with_pieces start (start.pieces ++ r.pieces)) (start.ends ++ r.ends)) r.attempts

pub report_said : (r : Report) → reached rules.Nothing (report_lines r) ≡ rules.Whole r
report_said r =
    let front = front_lines r in
    let nodes = numbered 2 r.nodes in
    let found = found_lines r in
    let last = Done ∷ [] in
    let begun = begun_report r.version r.options r.limit r.rounds in
    reached-append rules.Nothing (front ++ nodes ++ found) last
    ∙ ap (λ d. reached d last) (reached-append rules.Nothing (front ++ nodes) found)
    ∙ ap (λ d. reached (reached d found) last) (reached-append rules.Nothing front nodes)
    ∙ ap (λ d. reached (reached (reached d nodes) found) last) (front_said r)
    ∙ ap (λ d. reached (reached d found) last) (nodes_said begun 2 r.nodes)
    ∙ ap (λ d. reached d last) (found_said r (with_nodes begun r.nodes))

-- ---- the lines that have said a draft

abbrev pub lines_of : Draft → List Line
lines_of rules.Nothing = []
lines_of (rules.Begun version) = Head version ∷ []
lines_of (rules.Naming version count names) = Head version ∷ Count count ∷ map Named names
lines_of (rules.Limited version names limit) = Head version ∷ Count (length names) ∷ map Named names ++ Limit limit ∷ []
lines_of (rules.Body r) = front_lines r ++ numbered 2 r.nodes ++ found_lines r
lines_of (rules.Whole r) = report_lines r

numbered-append : (id : ℕ) (nodes : List Node) (node : Node) → numbered id (nodes ++ node ∷ []) ≡ numbered id nodes ++ Numbered (id + length nodes) node ∷ []
numbered-append id [] node = let e : id + 0 ≡ id = omega arith in rw e refl
numbered-append id (x ∷ xs) node =
    let e : suc id + length xs ≡ id + length (x ∷ xs) = omega arith in
    ap (λ ys. Numbered id x ∷ ys) (numbered-append (suc id) xs node ∙ ap (λ k. numbered (suc id) xs ++ Numbered k node ∷ []) e)

pub nil_of : {A : Type 0} (xs : List A) → is_nil xs ≡ true → xs ≡ []
nil_of [] e = refl
nil_of (x ∷ xs) e = absurd (grind (arith, nat_tests))

-- where no node line may follow, there is a line of what was found
found_nil : (r : Report) → r.pieces ≡ [] → r.ends ≡ [] → r.attempts ≡ [] → found_lines r ≡ []
unfolding found_lines
found_nil r p e a = rw (p, e, a) refl

nodes_more : (r : Report) (id : ℕ) (node : Node) → numbers r id ≡ true → lines_of (rules.Body (with_nodes r (r.nodes ++ node ∷ []))) ≡ lines_of (rules.Body r) ++ Numbered id node ∷ []
unfolding front_lines found_lines
nodes_more r id node h =
    let p = both_true (is_nil r.pieces && is_nil r.ends && is_nil r.attempts) (nat_eq id (length r.nodes + 2)) h in
    let q = both_true (is_nil r.pieces && is_nil r.ends) (is_nil r.attempts) p.0 in
    let s = both_true (is_nil r.pieces) (is_nil r.ends) q.0 in
    let none : found_lines r ≡ [] = found_nil r (nil_of r.pieces s.0) (nil_of r.ends s.1) (nil_of r.attempts q.1) in
    let same : id ≡ 2 + length r.nodes = numbers_on id (length r.nodes) p.1 in
    let front = front_lines r in
    let line = Numbered id node ∷ [] in
    ap (λ found. front ++ numbered 2 (r.nodes ++ node ∷ []) ++ found) none
    ∙ append-nil (front ++ numbered 2 (r.nodes ++ node ∷ []))
    ∙ ap (λ nodes. front ++ nodes) (numbered-append 2 r.nodes node ∙ ap (λ k. numbered 2 r.nodes ++ Numbered k node ∷ []) (sym same))
    ∙ sym (append_assoc front (numbered 2 r.nodes) line)
    ∙ ap (λ xs. xs ++ line) (sym (append-nil (front ++ numbered 2 r.nodes)))
    ∙ ap (λ found. front ++ numbered 2 r.nodes ++ found ++ line) (sym none)
  where
    numbers_on : (id n : ℕ) → nat_eq id (n + 2) ≡ true → id ≡ 2 + n
    numbers_on id n t = grind (arith, nat_tests)

-- one more line of what was found
found_more : (r new : Report) (line : Line) → front_lines new ≡ front_lines r → new.nodes ≡ r.nodes → found_lines new ≡ found_lines r ++ line ∷ [] → lines_of (rules.Body new) ≡ lines_of (rules.Body r) ++ line ∷ []
found_more r new line f n h =
    ap (λ xs. xs ++ numbered 2 new.nodes ++ found_lines new) f
    ∙ ap (λ xs. front_lines r ++ numbered 2 xs ++ found_lines new) n
    ∙ ap (λ xs. front_lines r ++ numbered 2 r.nodes ++ xs) h
    ∙ sym (append_assoc (front_lines r ++ numbered 2 r.nodes) (found_lines r) (line ∷ []))

pub two_empty : {A : Type 0} (xs : List A) (x : A) → (xs ++ x ∷ []) ++ [] ++ [] ≡ (xs ++ [] ++ []) ++ x ∷ []
two_empty xs x = append-nil ((xs ++ x ∷ []) ++ []) ∙ append-nil (xs ++ x ∷ []) ∙ ap (λ ys. ys ++ x ∷ []) (sym (append-nil xs) ∙ sym (append-nil (xs ++ [])))

pub one_empty : {A : Type 0} (xs ys : List A) (x : A) → xs ++ (ys ++ x ∷ []) ++ [] ≡ (xs ++ ys ++ []) ++ x ∷ []
one_empty xs ys x = append-nil (xs ++ (ys ++ x ∷ [])) ∙ sym (append_assoc xs ys (x ∷ [])) ∙ ap (λ zs. zs ++ x ∷ []) (sym (append-nil (xs ++ ys)))

pieces_more : (r : Report) (piece : Piece) → prints r ≡ true → lines_of (rules.Body (with_pieces r (r.pieces ++ piece ∷ []))) ≡ lines_of (rules.Body r) ++ Printed piece ∷ []
unfolding front_lines found_lines
pieces_more r piece h =
    let p = both_true (is_nil r.ends) (is_nil r.attempts) h in
    found_more r (with_pieces r (r.pieces ++ piece ∷ [])) (Printed piece) refl refl
    (rw (nil_of r.ends p.0, nil_of r.attempts p.1, map-append) (two_empty (map Printed r.pieces) (Printed piece)))

ends_more : (r : Report) (line : EndLine) → ends r line.end ≡ true → lines_of (rules.Body (with_ends r (r.ends ++ line ∷ []))) ≡ lines_of (rules.Body r) ++ Ended line ∷ []
unfolding front_lines found_lines
ends_more r line h =
    let none : r.attempts ≡ [] = nil_of r.attempts (both_true (is_nil r.attempts) _ h).0 in
    found_more r (with_ends r (r.ends ++ line ∷ [])) (Ended line) refl refl
    (rw (none, map-append) (one_empty (map Printed r.pieces) (map Ended r.ends) (Ended line)))

attempts_more : (r : Report) (line : AttemptLine) → lines_of (rules.Body (with_attempts r (r.attempts ++ line ∷ []))) ≡ lines_of (rules.Body r) ++ Spent line ∷ []
unfolding front_lines found_lines
attempts_more r line =
    found_more r (with_attempts r (r.attempts ++ line ∷ [])) (Spent line) refl refl
    (rw map-append (sym (append_assoc (map Printed r.pieces ++ map Ended r.ends) (map Spent r.attempts) (Spent line ∷ []))))

rounds_more : (version : ℕ) (names : List (List ℕ)) (limit rounds : ℕ) → lines_of (rules.Body (begun_report version names limit rounds)) ≡ lines_of (rules.Limited version names limit) ++ Rounds rounds ∷ []
unfolding front_lines found_lines
rounds_more version names limit rounds =
    let front = Head version ∷ Count (length names) ∷ map Named names in
    append-nil (front ++ (Limit limit ∷ Rounds rounds ∷ []) ++ []) ∙ append-nil (front ++ (Limit limit ∷ Rounds rounds ∷ []))
    ∙ sym (append_assoc front (Limit limit ∷ []) (Rounds rounds ∷ []))

lines_after : (d : Draft) (line : Line) → MayFollow d line → lines_of (after d line) ≡ lines_of d ++ line ∷ []
lines_after rules.Nothing (Head version) m = refl
lines_after (rules.Begun version) (Count options) m = refl
lines_after (rules.Naming version count names) (Named name) m = ap (λ xs. Head version ∷ Count count ∷ xs) (map-append Named names (name ∷ []))
lines_after (rules.Naming version count names) (Limit limit) m = ap (λ n. Head version ∷ Count n ∷ map Named names ++ Limit limit ∷ []) m
lines_after (rules.Limited version names limit) (Rounds rounds) m = rounds_more version names limit rounds
lines_after (rules.Body r) (Numbered id node) m = nodes_more r id node m.0
lines_after (rules.Body r) (Printed piece) m = pieces_more r piece m.0
lines_after (rules.Body r) (Ended line) m = ends_more r line m.0
lines_after (rules.Body r) (Spent line) m = attempts_more r line
lines_after (rules.Body r) Done m = refl
lines_after _ _ m = absurd m

pub lines_read : (d : Draft) (lines : List Line) → AreGood d lines → lines_of (reached d lines) ≡ lines_of d ++ lines
lines_read d [] g = sym (append-nil (lines_of d))
lines_read d (x ∷ xs) g = lines_read (after d x) xs g.2 ∙ ap (λ ys. ys ++ xs) (lines_after d x g.1) ∙ append_assoc (lines_of d) (x ∷ []) xs

-- good lines that say a whole report are its lines
pub whole_lines : (lines : List Line) (r : Report) → AreGood rules.Nothing lines → reached rules.Nothing lines ≡ rules.Whole r → lines ≡ report_lines r
whole_lines lines r g e = sym (lines_read rules.Nothing lines g) ∙ ap lines_of e
