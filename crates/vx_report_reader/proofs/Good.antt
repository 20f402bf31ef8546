-- The lines of a lawful report are good.
use Rattle.std.proofs.Common.{◌≡◌, ℕ, suc, ◌+◌, ◌<◌, ◌≤◌, List, [], ◌∷◌, ◌++◌, map, length, slice_get, take, Contains, Bool, true, false, Some, ◌&&◌, ◌||◌, not, nat_eq, nat_le, refl, ap, sym, ◌∙◌, subst, arith, append_assoc, append-nil}
use Rattle.std.proofs.lemmas.Bool.Decides.{nat_tests}
use Rattle.std.proofs.lemmas.Grind.{common_steps}
use Rattle.std.proofs.lemmas.List.{map-append}
use Rattle.std.proofs.lemmas.List.Folds.{list_all-append}
use Rattle.std.specs.List.{list_all}
use Rattle.vx_bdd_tools.specs.declared.node.Node.{Node}
use Rattle.vx_bdd_tools.specs.Nodes.{IsNextNode}
use Rattle.vx_bdd_tools.specs.Numbering.{NumbersAll}
use Rattle.vx_report.specs.declared.report.Piece.{Piece}
use Rattle.vx_report.specs.declared.report.EndLine.{EndLine}
use Rattle.vx_report.specs.declared.report.AttemptLine.{AttemptLine}
use Rattle.vx_report.specs.declared.report.Report.{Report}
use Rattle.vx_report.specs.declared.line.Line.{Line}
use Rattle.vx_report.specs.declared.line.Line.TheVariants.{Head, Count, Named, Limit, Rounds, Numbered, Printed, Ended, Spent, Done}
use Rattle.vx_report.specs.Text.{numbered, front_lines, found_lines, report_lines}
use Rattle.vx_report_line.specs.Forms.{is_line}
use Rattle.vx_report_line.proofs.Numbers.{both_true}
use Rattle.vx_report_reader.specs.Rules.{Draft, after, reached, AreGood, IsWalked, roots_of, is_nil, ends, comes_after, is_above, last_of}
use Rattle.vx_report_reader.specs.Rules as rules
use Rattle.vx_report_reader.specs.Lawful.{EachFollows, IsLawful}
use Rattle.vx_report_reader.proofs.Drafts.{reached-append, named, nodes_said, pieces_said, ends_said, front_said, begun_report, with_nodes, with_pieces, with_ends, with_attempts, found_said, nil_of, two_empty, one_empty}

pub good_append : (d : Draft) (xs ys : List Line) → AreGood d xs → AreGood (reached d xs) ys → AreGood d (xs ++ ys)
good_append d [] ys g h = h
good_append d (x ∷ xs) ys g h = (g.0, g.1, good_append (after d x) xs ys g.2 h)

-- ---- an item with those before it

get_at : {A : Type 0} (front : List A) (x : A) (rest : List A) → slice_get (front ++ x ∷ rest) (length front) ≡ Some x
get_at [] x rest = refl
get_at (y ∷ ys) x rest = get_at ys x rest

take_at : {A : Type 0} (front : List A) (x : A) (rest : List A) → take (length front) (front ++ x ∷ rest) ≡ front
take_at [] x rest = refl
take_at (y ∷ ys) x rest = ap (λ zs. y ∷ zs) (take_at ys x rest)

pub follows_at : {A : Type 0} (P : List A → A → Type 0) (front : List A) (x : A) (rest : List A) → EachFollows P (front ++ x ∷ rest) → P front x
follows_at {A} P front x rest h = subst (λ (ys : List A). P ys x) (take_at front x rest) (h (length front) x (get_at front x rest))

-- the same with the item among those before the others
next : {A : Type 0} (front : List A) (x : A) (rest : List A) → front ++ x ∷ rest ≡ (front ++ x ∷ []) ++ rest
next front x rest = sym (append_assoc front (x ∷ []) rest)

-- ---- the front

two_lawful : (xs ys : List Line) → list_all is_line (xs ++ ys) ≡ true → (list_all is_line xs ≡ true) × (list_all is_line ys ≡ true)
two_lawful xs ys h = both_true (list_all is_line xs) (list_all is_line ys) (sym (list_all-append is_line xs ys) ∙ h)

abbrev pub IsNewName : List (List ℕ) → List ℕ → Type 0
IsNewName before name = ¬ Contains before name

names_good : (version count : ℕ) (before more : List (List ℕ)) → length before + length more ≤ count → EachFollows IsNewName (before ++ more) → list_all is_line (map Named more) ≡ true
    → AreGood (rules.Naming version count before) (map Named more)
names_good version count before [] l h e = tt
names_good version count before (x ∷ xs) l h e =
    let p = both_true (is_line (Named x)) (list_all is_line (map Named xs)) e in
    let few : length before < count = omega (arith, l) in
    let grown : length (before ++ x ∷ []) ≡ length before + 1 = length_more before x in (
      p.0,
      record { expected = few; is_new = follows_at IsNewName before x xs h },
      names_good version count (before ++ x ∷ []) xs (omega (arith, l, grown)) (subst (EachFollows IsNewName) (next before x xs) h) p.1,
    )
  where
    length_more : {A : Type 0} (xs : List A) (x : A) → length (xs ++ x ∷ []) ≡ length xs + 1
    length_more xs x = grind (arith, common_steps)

pub front_good : (r : Report) → list_all is_line (front_lines r) ≡ true → EachFollows IsNewName r.options → AreGood rules.Nothing (front_lines r)
unfolding front_lines
front_good r e h =
    let last = Limit r.limit ∷ Rounds r.rounds ∷ [] in
    let p = two_lawful (Head r.version ∷ Count (length r.options) ∷ map Named r.options) last e in
    let head = both_true (is_line (Head r.version)) (list_all is_line (Count (length r.options) ∷ map Named r.options)) p.0 in
    let count = both_true (is_line (Count (length r.options))) (list_all is_line (map Named r.options)) head.1 in
    let limit = both_true (is_line (Limit r.limit)) (list_all is_line (Rounds r.rounds ∷ [])) p.1 in
    let rounds = both_true (is_line (Rounds r.rounds)) true limit.1 in
    let start = rules.Naming r.version (length r.options) [] in
    let end : AreGood (rules.Naming r.version (length r.options) r.options) last = (limit.0, refl, (rounds.0, tt, tt)) in (
      head.0,
      tt,
      (
        count.0,
        tt,
        good_append start (map Named r.options) last
            (names_good r.version (length r.options) [] r.options (omega arith) h count.1)
            (subst (λ (d : Draft). AreGood d last) (sym (named r.version (length r.options) [] r.options)) end),
      ),
    )

-- ---- nodes

nodes_good : (b : Report) (id : ℕ) (more : List Node) → is_nil b.pieces ≡ true → is_nil b.ends ≡ true → is_nil b.attempts ≡ true → id ≡ length b.nodes + 2
    → EachFollows (IsNextNode (length b.options)) (b.nodes ++ more) → list_all is_line (numbered id more) ≡ true → AreGood (rules.Body b) (numbered id more)
nodes_good b id [] p e a i h l = tt
nodes_good b id (x ∷ xs) p e a i h l =
    let q = both_true (is_line (Numbered id x)) (list_all is_line (numbered (suc id) xs)) l in
    let here : nat_eq id (length b.nodes + 2) ≡ true = same id (length b.nodes + 2) i in
    let grown : length (b.nodes ++ x ∷ []) ≡ length b.nodes + 1 = length_more b.nodes x in (
      q.0,
      (rw (p, e, a, here) refl, follows_at (IsNextNode (length b.options)) b.nodes x xs h),
      nodes_good (with_nodes b (b.nodes ++ x ∷ [])) (suc id) xs p e a (omega (arith, i, grown)) (subst (EachFollows (IsNextNode (length b.options))) (next b.nodes x xs) h) q.1,
    )
  where
    same : (i j : ℕ) → i ≡ j → nat_eq i j ≡ true
    same i j e = grind (arith, nat_tests)

    length_more : {A : Type 0} (xs : List A) (x : A) → length (xs ++ x ∷ []) ≡ length xs + 1
    length_more xs x = grind (arith, common_steps)

-- ---- numbering

-- numbering from the first of some roots
all_first : (nodes : List Node) (n : ℕ) (xs ys : List ℕ) (m : ℕ) → NumbersAll nodes n (xs ++ ys) m → (g : ℕ) × NumbersAll nodes n xs g
all_first nodes n [] ys m w = (n, NumbersAll.none n)
all_first nodes n (x ∷ xs) ys m (NumbersAll.first _ _ b _ _ p q) = let r = all_first nodes b xs ys m q in (r.0, NumbersAll.first n x b xs r.0 p r.1)

-- each root is walked from those before it
walked_at : (b : Report) (node : ℕ) (rest all : List ℕ) (m : ℕ) → all ≡ roots_of b ++ node ∷ rest → NumbersAll b.nodes 2 all m → IsWalked b node
walked_at b node rest all m e w =
    let p = all_first b.nodes 2 (roots_of b ++ node ∷ []) rest m (subst (λ (xs : List ℕ). NumbersAll b.nodes 2 xs m) (e ∙ next (roots_of b) node rest) w) in
    record { given = p.0; walk = p.1 }

abbrev piece_nodes : List Piece → List ℕ
piece_nodes xs = map (λ piece. piece.node) xs

abbrev end_nodes : List EndLine → List ℕ
end_nodes xs = map (λ line. line.node) xs

abbrev attempt_nodes : List AttemptLine → List ℕ
attempt_nodes xs = map (λ line. line.node) xs

-- ---- pieces, ends, numbers of attempts

piece_roots : (b : Report) (x : Piece) → is_nil b.ends ≡ true → is_nil b.attempts ≡ true → roots_of (with_pieces b (b.pieces ++ x ∷ [])) ≡ roots_of b ++ x.node ∷ []
piece_roots b x e a = rw (nil_of b.ends e, nil_of b.attempts a, map-append) (two_empty (piece_nodes b.pieces) x.node)

end_roots : (b : Report) (x : EndLine) → is_nil b.attempts ≡ true → roots_of (with_ends b (b.ends ++ x ∷ [])) ≡ roots_of b ++ x.node ∷ []
end_roots b x a = rw (nil_of b.attempts a, map-append) (one_empty (piece_nodes b.pieces) (end_nodes b.ends) x.node)

attempt_roots : (b : Report) (x : AttemptLine) → roots_of (with_attempts b (b.attempts ++ x ∷ [])) ≡ roots_of b ++ x.node ∷ []
attempt_roots b x = rw map-append (sym (append_assoc (piece_nodes b.pieces ++ end_nodes b.ends) (attempt_nodes b.attempts) (x.node ∷ [])))

-- the roots that are left behind one more
roots_next : (all before new rest : List ℕ) (node : ℕ) → all ≡ before ++ node ∷ rest → new ≡ before ++ node ∷ [] → all ≡ new ++ rest
roots_next all before new rest node e n = e ∙ next before node rest ∙ ap (λ xs. xs ++ rest) (sym n)

pieces_good : (b : Report) (more : List Piece) (later all : List ℕ) (m : ℕ) → is_nil b.ends ≡ true → is_nil b.attempts ≡ true → all ≡ roots_of b ++ (piece_nodes more ++ later) → NumbersAll b.nodes 2 all m
    → list_all is_line (map Printed more) ≡ true → AreGood (rules.Body b) (map Printed more)
pieces_good b [] later all m e a s w l = tt
pieces_good b (x ∷ xs) later all m e a s w l =
    let p = both_true (is_line (Printed x)) (list_all is_line (map Printed xs)) l in
    let rest = piece_nodes xs ++ later in
    let new = with_pieces b (b.pieces ++ x ∷ []) in (
      p.0,
      (rw (e, a) refl, walked_at b x.node rest all m s w),
      pieces_good new xs later all m e a (roots_next all (roots_of b) (roots_of new) rest x.node s (piece_roots b x e a)) w p.1,
    )

abbrev pub IsNextEnd : List EndLine → EndLine → Type 0
IsNextEnd before line = comes_after (last_of before) line.end ≡ true

ends_good : (b : Report) (more : List EndLine) (later all : List ℕ) (m : ℕ) → is_nil b.attempts ≡ true → EachFollows IsNextEnd (b.ends ++ more) → all ≡ roots_of b ++ (end_nodes more ++ later) → NumbersAll b.nodes 2 all m
    → list_all is_line (map Ended more) ≡ true → AreGood (rules.Body b) (map Ended more)
ends_good b [] later all m a h s w l = tt
ends_good b (x ∷ xs) later all m a h s w l =
    let p = both_true (is_line (Ended x)) (list_all is_line (map Ended xs)) l in
    let rest = end_nodes xs ++ later in
    let new = with_ends b (b.ends ++ x ∷ []) in
    let here : IsNextEnd b.ends x = follows_at IsNextEnd b.ends x xs h in (
      p.0,
      (rw (a, here) refl, walked_at b x.node rest all m s w),
      ends_good new xs later all m a (subst (EachFollows IsNextEnd) (next b.ends x xs) h) (roots_next all (roots_of b) (roots_of new) rest x.node s (end_roots b x a)) w p.1,
    )

abbrev pub IsNextNumber : ℕ → List AttemptLine → AttemptLine → Type 0
IsNextNumber limit before line = (is_above (last_of before) line.attempts && nat_le line.attempts limit) ≡ true

spends_true : (v e a l : Bool) → v ≡ true → e ≡ false → (a && l) ≡ true → (v && not e && a && l) ≡ true
spends_true v e a l p q r = let s = both_true a l r in rw (p, q, s.0, s.1) refl

attempts_good : (b : Report) (more : List AttemptLine) (all : List ℕ) (m : ℕ) → nat_eq b.version 2 ≡ true → is_nil b.ends ≡ false → EachFollows (IsNextNumber b.limit) (b.attempts ++ more) → all ≡ roots_of b ++ attempt_nodes more → NumbersAll b.nodes 2 all m
    → list_all is_line (map Spent more) ≡ true → AreGood (rules.Body b) (map Spent more)
attempts_good b [] all m v e h s w l = tt
attempts_good b (x ∷ xs) all m v e h s w l =
    let p = both_true (is_line (Spent x)) (list_all is_line (map Spent xs)) l in
    let rest = attempt_nodes xs in
    let new = with_attempts b (b.attempts ++ x ∷ []) in
    let here : IsNextNumber b.limit b.attempts x = follows_at (IsNextNumber b.limit) b.attempts x xs h in (
      p.0,
      (spends_true (nat_eq b.version 2) (is_nil b.ends) (is_above (last_of b.attempts) x.attempts) (nat_le x.attempts b.limit) v e here, walked_at b x.node rest all m s w),
      attempts_good new xs all m v e (subst (EachFollows (IsNextNumber b.limit)) (next b.attempts x xs) h) (roots_next all (roots_of b) (roots_of new) rest x.node s (attempt_roots b x)) w p.1,
    )

-- ---- the whole

done_true : (e v n : Bool) → e ≡ false → v ≡ not n → (not e && (not v || not n)) ≡ true
done_true e v true p q = rw (p, q) refl
done_true e v false p q = rw (p, q) refl

spent_good : (b : Report) (more : List AttemptLine) (all : List ℕ) (m : ℕ) → b.attempts ≡ [] → nat_eq b.version 2 ≡ not (is_nil more) → is_nil b.ends ≡ false → EachFollows (IsNextNumber b.limit) more → all ≡ roots_of b ++ attempt_nodes more
    → NumbersAll b.nodes 2 all m → list_all is_line (map Spent more) ≡ true → AreGood (rules.Body b) (map Spent more)
spent_good b [] all m n v e h s w l = tt
spent_good b (x ∷ xs) all m n v e h s w l =
    let some : is_nil (x ∷ xs) ≡ false = grind (arith, nat_tests) in
    attempts_good b (x ∷ xs) all m (v ∙ ap not some) e (subst (λ (ys : List AttemptLine). EachFollows (IsNextNumber b.limit) (ys ++ x ∷ xs)) (sym n) h) s w l

found_good : (r : Report) → IsLawful r → list_all is_line (found_lines r) ≡ true → AreGood (rules.Body (with_nodes (begun_report r.version r.options r.limit r.rounds) r.nodes)) (found_lines r)
unfolding found_lines
found_good r f l =
    let ps = piece_nodes r.pieces in
    let es = end_nodes r.ends in
    let xs = attempt_nodes r.attempts in
    let all = roots_of r in
    let m = length r.nodes + 2 in
    let with_none = with_nodes (begun_report r.version r.options r.limit r.rounds) r.nodes in
    let with_first = with_pieces with_none r.pieces in
    let with_two = with_ends with_first r.ends in
    let p = two_lawful (map Printed r.pieces ++ map Ended r.ends) (map Spent r.attempts) l in
    let q = two_lawful (map Printed r.pieces) (map Ended r.ends) p.0 in
    let pieces = pieces_good with_none r.pieces (es ++ xs) all m refl refl (append_assoc ps es xs) f.numbered.numbered q.0 in
    let more : all ≡ (ps ++ [] ++ []) ++ (es ++ xs) = append_assoc ps es xs ∙ ap (λ ys. ys ++ (es ++ xs)) (sym (append-nil ps) ∙ sym (append-nil (ps ++ []))) in
    let ends = ends_good with_first r.ends xs all m refl f.ends more f.numbered.numbered q.1 in
    let last : all ≡ (ps ++ es ++ []) ++ xs = ap (λ ys. ys ++ xs) (sym (append-nil (ps ++ es))) in
    let attempts = spent_good with_two r.attempts all m refl f.spent f.ended f.attempts last f.numbered.numbered p.1 in
    let first_said : reached (rules.Body with_none) (map Printed r.pieces) ≡ rules.Body with_first = pieces_said with_none r.pieces in
    let two_said : reached (rules.Body with_none) (map Printed r.pieces ++ map Ended r.ends) ≡ rules.Body with_two =
    reached-append (rules.Body with_none) (map Printed r.pieces) (map Ended r.ends) ∙ ap (λ d. reached d (map Ended r.ends)) first_said ∙ ends_said with_first r.ends in
    good_append (rules.Body with_none) (map Printed r.pieces ++ map Ended r.ends) (map Spent r.attempts)
    (good_append (rules.Body with_none) (map Printed r.pieces) (map Ended r.ends) pieces (subst (λ (d : Draft). AreGood d (map Ended r.ends)) (sym first_said) ends))
    (subst (λ (d : Draft). AreGood d (map Spent r.attempts)) (sym two_said) attempts)

pub lawful_good : (r : Report) → IsLawful r → AreGood rules.Nothing (report_lines r)
lawful_good r f =
    let front = front_lines r in
    let nodes = numbered 2 r.nodes in
    let found = found_lines r in
    let begun = begun_report r.version r.options r.limit r.rounds in
    let p = two_lawful (front ++ nodes ++ found) (Done ∷ []) f.lines in
    let q = two_lawful (front ++ nodes) found p.0 in
    let s = two_lawful front nodes q.0 in
    let nodes_are : AreGood (rules.Body begun) nodes = nodes_good begun 2 r.nodes refl refl refl refl f.numbered.reduced.each s.1 in
    let two_said : reached rules.Nothing (front ++ nodes) ≡ rules.Body (with_nodes begun r.nodes) =
    reached-append rules.Nothing front nodes ∙ ap (λ d. reached d nodes) (front_said r) ∙ nodes_said begun 2 r.nodes in
    let all_said : reached rules.Nothing (front ++ nodes ++ found) ≡ rules.Body r =
    reached-append rules.Nothing (front ++ nodes) found ∙ ap (λ d. reached d found) two_said ∙ found_said r (with_nodes begun r.nodes) in
    let done : AreGood (rules.Body r) (Done ∷ []) =
    ((both_true (is_line Done) true p.1).0, (done_true (is_nil r.ends) (nat_eq r.version 2) (is_nil r.attempts) f.ended f.spent, f.numbered.numbered), tt) in
    good_append rules.Nothing (front ++ nodes ++ found) (Done ∷ [])
    (good_append rules.Nothing (front ++ nodes) found
    (good_append rules.Nothing front nodes (front_good r s.0 f.names) (subst (λ (d : Draft). AreGood d nodes) (sym (front_said r)) nodes_are))
    (subst (λ (d : Draft). AreGood d found) (sym two_said) (found_good r f q.1)))
    (subst (λ (d : Draft). AreGood d (Done ∷ [])) (sym all_said) done)
