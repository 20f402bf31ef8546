-- A text that is no larger than a model may be has far fewer clauses than a million.
use Rattle.std.proofs.Common.{◌≡◌, ◌⊎◌, inl, inr, ◌<◌, ◌≤◌, ℕ, zero, suc, ◌+◌, ◌*◌, ◌-◌, Bool, true, false, List, [], ◌∷◌, ◌++◌, length, map, refl, sym, ap, subst, ◌∙◌, arith, length-append, Result, Ok, Err}
use Rattle.std.specs.Prelude.{Option, Some, None, nat_lt, filter, if◌then◌else◌, unwrap_or, codes, decimal, take, slice_index, nat_eq}
use Rattle.std.specs.List.{flat_map}
use Rattle.std.proofs.lemmas.Bool.Decides.{nat_tests}
use Rattle.std.proofs.lemmas.List.{length-take}
use Rattle.vx_words.specs.Lines.{is_blank, is_filled, is_line_feed, lines, parts, with_first, without_return, words}
use Rattle.vx_model.specs.Grammar.{disjunction}
use Rattle.vx_model.specs.declared.model.Model.{Model}
use Rattle.vx_dimacs.specs.Dimacs.{State, dimacs_of, first_told, front_mark, mark_of, marks_of, nothing_yet, with_line, with_mark, with_marks}
use Rattle.vx_dimacs.specs.declared.line.Line.{Line}
use Rattle.vx_dimacs.specs.declared.line.Line.TheVariants as line
use Rattle.vx_dimacs.specs.declared.number.Mark.{Mark}
use Rattle.vx_dimacs.specs.declared.number.Mark.TheVariants as mark
use Rattle.vx_explain.specs.declared.literal.Literal.{Literal}
use Rattle.vx_cut.specs.Cuts.{is_large}
use Rattle.vx_cut.specs.Texts.{clause_text, demand, header_with, heading, is_header, line_with, lines_with, part_text, sign}
use Rattle.vx_cut.proofs.CnfLines.{IsNumbers, IsSilent, head_said, same_state, says, within_is}
use Rattle.vx_cut.proofs.CnfParts.{ends_so}
use Rattle.vx_cut.proofs.CnfReach.{Moves, first_move, heads_move, reach, reached}

-- ---- a part takes one byte more than it has

abbrev cost : List (List ℕ) → ℕ
cost [] = 0
cost (p ∷ ps) = length p + 1 + cost ps

cost_front : (x : ℕ) (ps : List (List ℕ)) → cost (with_first x ps) ≤ cost ps + 2
cost_front x [] = omega arith
cost_front x (p ∷ ps) = omega arith

cost_parts : (ends : ℕ → Bool) (xs : List ℕ) → cost (parts ends xs) ≤ length xs + 1
cost_parts ends [] = omega arith
cost_parts ends (x ∷ xs) = by (ends x) refl (parts ends xs) refl (cost_parts ends xs)
  where
    by : (b : Bool) → ends x ≡ b → (ps : List (List ℕ)) → parts ends xs ≡ ps → cost (parts ends xs) ≤ length xs + 1 → cost (parts ends (x ∷ xs)) ≤ length (x ∷ xs) + 1
    by true e ps is h = rw e (omega (arith, h))
    by false e [] is h = rw (e, is) (omega arith)
    by false e (p ∷ ps) is h = rw (e, is) (let k : cost (p ∷ ps) ≤ length xs + 1 = rw is at h in omega (arith, k))

filled_cost : (ps : List (List ℕ)) → 2 * length (filter is_filled ps) ≤ cost ps
filled_cost [] = omega arith
filled_cost ([] ∷ ps) = omega (arith, filled_cost ps)
filled_cost ((b ∷ bs) ∷ ps) = omega (arith, filled_cost ps)

-- a line has at most half as many words as bytes, and one more
words_few : (line : List ℕ) → 2 * length (words line) ≤ length line + 1
words_few line = omega (arith, filled_cost (parts is_blank line), cost_parts is_blank line)

return_less : (line : List ℕ) → length (without_return line) ≤ length line
return_less line = by (nat_eq (slice_index line (length line - 1)) 13)
  where
    by : (b : Bool) → length (if b then take (length line - 1) line else line) ≤ length line
    by true = omega (arith, length-take (length line - 1) line)
    by false = omega arith

-- how many words there are on lines that are no headers
abbrev some_words : Bool → List ℕ → ℕ
some_words true line = 0
some_words false line = length (words (without_return line))

abbrev all_words : List (List ℕ) → ℕ
all_words [] = 0
all_words (l ∷ ls) = some_words (is_header l) l + all_words ls

-- the lines of a part have two bytes for each of these words
words_cost : (model : Model) (k : ℕ) (ls : List (List ℕ)) → 2 * all_words ls ≤ length (flat_map (λ l. line_with true model k l ++ codes "\n") ls)
words_cost model k [] = omega arith
words_cost model k (l ∷ ls) =
    let behind = flat_map (λ r. line_with true model k r ++ codes "\n") ls in
    let here : 2 * some_words (is_header l) l ≤ length (line_with true model k l) + 1 = by (is_header l) in
    omega (arith, here, words_cost model k ls, length-append (line_with true model k l ++ codes "\n") behind, length-append (line_with true model k l) (codes "\n"))
  where
    by : (b : Bool) → 2 * some_words b l ≤ length (if b then header_with model k else l) + 1
    by true = omega arith
    by false = omega (arith, words_few (without_return l), return_less l)

-- ---- a line adds at most as many clauses as it has words

mark_adds : (st : State) (m : Mark) → length (with_mark st m).rules ≤ length st.rules + 1
mark_adds st mark.End = omega (arith, length-append st.rules (disjunction st.literals ∷ []))
mark_adds st (mark.On o) = omega arith
mark_adds st (mark.Off o) = omega arith

marks_add : (ms : List Mark) (st : State) → length (with_marks st ms).rules ≤ length st.rules + length ms
unfolding with_marks
marks_add [] st = omega arith
marks_add (m ∷ ms) st = omega (arith, marks_add ms (with_mark st m), mark_adds st m)

front_length : (v : ℕ) (w : List ℕ) (ws : List (List ℕ)) (ms : List Mark) → ((ns : List Mark) → marks_of v ws ≡ Some ns → length ns ≡ length ws) → marks_of v (w ∷ ws) ≡ Some ms → length ms ≡ suc (length ws)
front_length v w ws ms next e = by (mark_of v w) (marks_of v ws) refl e
  where
    some_marks : (a b : List Mark) → Some a ≡ Some b → a ≡ b
    some_marks a b e = cc

    by : (a : Option Mark) (b : Option (List Mark)) → marks_of v ws ≡ b → front_mark a b ≡ Some ms → length ms ≡ suc (length ws)
    by None b f e = cc (e)
    by (Some m) None f e = cc (e)
    by (Some m) (Some ns) f e = ap length (sym (some_marks (m ∷ ns) ms e)) ∙ ap suc (next ns f)

marks_length : (v : ℕ) (ws : List (List ℕ)) (ms : List Mark) → marks_of v ws ≡ Some ms → length ms ≡ length ws
marks_length v [] ms e = let same : [] ≡ ms = cc (e) in ap length (sym same)
marks_length v (w ∷ ws) ms e = front_length v w ws ms (λ ns f. marks_length v ws ns f) e

silent_adds : (st new : State) (x : Line) → IsSilent x → with_line st x ≡ Ok new → length new.rules ≡ length st.rules
silent_adds st new line.Nothing h e = ap (λ (s : State). length s.rules) (sym (same_state st new e))
silent_adds st new (line.Names naming) h e = ap (λ (s : State). length s.rules) (sym (same_state (record st { variables = st.variables ++ naming.variable ∷ []; names = st.names ++ naming.option ∷ [] }) new e))
silent_adds st new (line.Heads header) h e = absurd h
silent_adds st new (line.Numbers ms) h e = absurd h

line_adds : (st new : State) (text : List ℕ) (x : Line) → IsSilent x ⊎ IsNumbers st text x → with_line st x ≡ Ok new → length new.rules ≤ length st.rules + length (words text)
line_adds st new text x (inl s) e = omega (arith, silent_adds st new x s e)
line_adds st new text x (inr n) e =
    let w = within_is (with_marks st n.marks) new (ap (with_line st) (sym n.is) ∙ e) in
    let same : length (with_marks st n.marks).rules ≡ length new.rules = ap (λ (s : State). length s.rules) w.1 in
    omega (arith, same, marks_add n.marks st, marks_length n.header.variables (words text) n.marks n.marks_are)

reach_adds : (most : ℕ) (ls : List (List ℕ)) (st e : State) → reach most st (map without_return ls) ≡ Ok e → length e.rules ≤ length st.rules + all_words ls
reach_adds most [] st e r = omega (arith, ap (λ (s : State). length s.rules) (same_state st e r))
reach_adds most (l ∷ ls) st e r =
    let f = first_move most st e (without_return l) (map without_return ls) r in
    let step = by (is_header l) refl f.0 f.1 in
    omega (arith, step, reach_adds most ls f.0 e f.2)
  where
    by : (b : Bool) → is_header l ≡ b → (new : State) → Moves most st (without_return l) new → length new.rules ≤ length st.rules + some_words b l
    by false p new m = line_adds st new (without_return l) m.x (says most st (without_return l) m.x p m.says) m.moves
    by true p new m =
        let q = (head_said most st (without_return l) m.x p m.says).2 in
        omega (arith, ap (λ (s : State). length s.rules) (heads_move st new q.header m.x q.is m.moves))

clauses_length : (term : List Literal) → 3 * length term ≤ length (flat_map clause_text term)
clauses_length [] = omega arith
clauses_length (l ∷ ls) =
    omega (arith, clauses_length ls, length-append (clause_text l) (flat_map clause_text ls), length-append (sign l.on ++ decimal (l.option + 1) ++ codes " 0") (codes "\n"), length-append (sign l.on ++ decimal (l.option + 1)) (codes " 0"))

within_room : (part : List ℕ) → is_large part ≡ false → length part ≤ 1048576
within_room part e = grind (arith, nat_tests)

pub few_clauses : (text : List ℕ) (model : Model) (number : ℕ) (term : List Literal) → dimacs_of text ≡ Ok model → is_large (part_text true text model number term) ≡ false → length model.rules + length term ≤ 1000000
unfolding demand lines_with
few_clauses text model number term read fits =
    let most = unwrap_or (first_told (lines text)) 65 in
    let raw = parts is_line_feed text in
    let r = reached most 1 (lines text) nothing_yet model read in
    let d = ends_so r.last model r.ends in
    let same : length model.rules ≡ length r.last.rules = ap (λ (x : Model). length x.rules) d.is in
    let front = heading true model number term in
    let own = lines_with true model (length term) text in
    omega (arith, same, reach_adds most raw nothing_yet r.last r.there, words_cost model (length term) raw, clauses_length term, within_room (part_text true text model number term) fits, length-append (front ++ own) (demand true model term), length-append front own)
