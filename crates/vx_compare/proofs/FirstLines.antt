-- The first line of a text, the first that differs of two texts, and the bytes of an output, each behind that of its stream.
use Rattle.std.proofs.Common.{◌≡◌, ◌⊎◌, inl, inr, ℕ, ◌+◌, ◌<◌, ◌≤◌, suc, min, Bool, true, false, cond, not, ◌&&◌, List, [], ◌∷◌, ◌++◌, map, filter, flat_map, length, take, drop, is_some, nat_eq, option_map, refl, sym, ◌∙◌, ap, arith}
use Rattle.std.specs.Prelude.{Option, Some, None, if◌then◌else◌}
use Rattle.std.specs.List.{AllByRecursion, position_or_len}
use Rattle.std.specs.Str.{bytes_eq}
use Rattle.std.proofs.lemmas.Grind.{flat_map-append}
use Rattle.std.proofs.lemmas.List.{drop_all, take_all}
use Rattle.vx_list.specs.Places.{item_or}
use Rattle.vx_value.specs.declared.end.End.{End}
use Rattle.vx_value.specs.declared.end.Stream.{Stream}
use Rattle.vx_value.specs.declared.end.Stream.TheVariants.{Out, Err}
use Rattle.vx_words.specs.Lines.{is_line_feed, with_first}
use Rattle.vx_bdd_tools.specs.Nodes.{holds}
use Rattle.vx_bdd_tools.proofs.NodeSets.{order_cases}
use Rattle.vx_report.specs.Projection.{Projection, attempts_at, bytes_of, end_at, output_at, same_stream}
use Rattle.vx_report.specs.declared.report.Piece.{Piece}
use Rattle.vx_report.specs.declared.report.Report.{Report}
use Rattle.vx_report_line.proofs.Numbers.{same_bytes_refl, same_bytes_same}
use Rattle.vx_agree.specs.Equal.{are_equal}
use Rattle.vx_count.specs.Output.{output_of, output_text}
use Rattle.vx_compare.specs.Lines.{line_difference, line_of, lines_of, mark, marked, marked_on, piece_marked}

-- ---- the first line

first_behind : (b : ℕ) (rest : List (List ℕ)) → item_or (with_first b rest) 0 [] ≡ b ∷ item_or rest 0 []
first_behind b [] = refl
first_behind b (line ∷ rest) = refl

rest_behind : (b : ℕ) (rest : List (List ℕ)) → drop 1 (with_first b rest) ≡ drop 1 rest
rest_behind b [] = refl
rest_behind b (line ∷ rest) = refl

one_more : (n : ℕ) → 1 + n + 1 ≡ suc (n + 1)
one_more n = omega arith

first_line : (text : List ℕ) → take (position_or_len is_line_feed text + 1) text ≡ item_or (lines_of text) 0 []
first_line [] = refl
first_line (b ∷ bs) = by (is_line_feed b) (first_line bs)
  where
    by : (t : Bool) → take (position_or_len is_line_feed bs + 1) bs ≡ item_or (lines_of bs) 0 []
        → take (cond (not t) (1 + position_or_len is_line_feed bs) 0 + 1) (b ∷ bs) ≡ item_or (if t then (b ∷ []) ∷ lines_of bs else with_first b (lines_of bs)) 0 []
    by true e = refl
    by false e = ap (λ k. take k (b ∷ bs)) (one_more (position_or_len is_line_feed bs)) ∙ ap (λ line. b ∷ line) e ∙ sym (first_behind b (lines_of bs))

rest_lines : (text : List ℕ) → lines_of (drop (position_or_len is_line_feed text + 1) text) ≡ drop 1 (lines_of text)
rest_lines [] = refl
rest_lines (b ∷ bs) = by (is_line_feed b) (rest_lines bs)
  where
    by : (t : Bool) → lines_of (drop (position_or_len is_line_feed bs + 1) bs) ≡ drop 1 (lines_of bs)
        → lines_of (drop (cond (not t) (1 + position_or_len is_line_feed bs) 0 + 1) (b ∷ bs)) ≡ drop 1 (if t then (b ∷ []) ∷ lines_of bs else with_first b (lines_of bs))
    by true e = refl
    by false e = ap (λ k. lines_of (drop k (b ∷ bs))) (one_more (position_or_len is_line_feed bs)) ∙ e ∙ sym (rest_behind b (lines_of bs))

-- a cut behind a place, or at the end of a text that is shorter
cut_same : (text : List ℕ) (n m : ℕ) → m ≡ min (n + 1) (length text) → (take m text ≡ take (n + 1) text) × (drop m text ≡ drop (n + 1) text)
cut_same text n m e = by (order_cases (n + 1) (length text))
  where
    by : (n + 1 < length text) ⊎ (length text < n + 1) ⊎ (n + 1 ≡ length text) → (take m text ≡ take (n + 1) text) × (drop m text ≡ drop (n + 1) text)
    by (inl l) = let same : m ≡ n + 1 = omega (arith, e, l) in (ap (λ k. take k text) same, ap (λ k. drop k text) same)
    by (inr (inl l)) =
        let all : length text ≤ m = omega (arith, e, l) in
        (take_all m text all ∙ sym (take_all (n + 1) text (omega (arith, l))), drop_all m text all ∙ sym (drop_all (n + 1) text (omega (arith, l))))
    by (inr (inr s)) = let same : m ≡ n + 1 = omega (arith, e, s) in (ap (λ k. take k text) same, ap (λ k. drop k text) same)

pub line_cut : (text : List ℕ) (n m : ℕ) → n ≡ position_or_len is_line_feed text → m ≡ min (n + 1) (length text) → take m text ≡ item_or (lines_of text) 0 []
line_cut text n m place e = (cut_same text n m e).0 ∙ ap (λ k. take (k + 1) text) place ∙ first_line text

pub lines_cut : (text : List ℕ) (n m : ℕ) → n ≡ position_or_len is_line_feed text → m ≡ min (n + 1) (length text) → lines_of (drop m text) ≡ drop 1 (lines_of text)
lines_cut text n m place e = ap lines_of ((cut_same text n m e).1 ∙ ap (λ k. drop (k + 1) text) place) ∙ rest_lines text

-- ---- the first line that differs

-- each line has a byte
lines_filled : (text : List ℕ) → AllByRecursion (λ line. 0 < length line) (lines_of text)
lines_filled [] = tt
lines_filled (b ∷ bs) = by (is_line_feed b) (lines_filled bs)
  where
    with_filled : (rest : List (List ℕ)) → AllByRecursion (λ line. 0 < length line) rest → AllByRecursion (λ line. 0 < length line) (with_first b rest)
    with_filled [] h = (omega arith, tt)
    with_filled (line ∷ rest) h = (omega arith, h.1)

    by : (t : Bool) → AllByRecursion (λ line. 0 < length line) (lines_of bs) → AllByRecursion (λ line. 0 < length line) (if t then (b ∷ []) ∷ lines_of bs else with_first b (lines_of bs))
    by true h = (omega arith, h)
    by false h = with_filled (lines_of bs) h

same_lines : (stream : Stream) (n m : ℕ) (ones others : List (List ℕ)) → AllByRecursion (λ line. 0 < length line) ones → AllByRecursion (λ line. 0 < length line) others → bytes_eq (item_or ones 0 []) (item_or others 0 []) ≡ true → m ≡ n + 1
    → line_difference stream n ones others ≡ line_difference stream m (drop 1 ones) (drop 1 others)
same_lines stream n m [] [] f g e s = refl
same_lines stream n m [] (x ∷ others) f g e s =
    let none : 0 ≡ length x = ap length (same_bytes_same [] x e) in
    let some = g.0 in
    absurd (omega (arith, none, some))
same_lines stream n m (x ∷ ones) [] f g e s =
    let none : length x ≡ 0 = ap length (same_bytes_same x [] e) in
    let some = f.0 in
    absurd (omega (arith, none, some))
same_lines stream n m (x ∷ ones) (y ∷ others) f g e s =
    let next : suc n ≡ m = omega (arith, s) in
    ap (λ b. if b then line_difference stream (suc n) ones others else Some (line_of stream n x y)) e ∙ ap (λ k. line_difference stream k ones others) next

-- where the first lines are one, what is left differs as the whole does
pub goes_on : (stream : Stream) (n m : ℕ) (one other line against rest others : List ℕ) → line ≡ item_or (lines_of one) 0 [] → against ≡ item_or (lines_of other) 0 [] → lines_of rest ≡ drop 1 (lines_of one) → lines_of others ≡ drop 1 (lines_of other) → line ≡ against → m ≡ n + 1
    → line_difference stream m (lines_of rest) (lines_of others) ≡ line_difference stream n (lines_of one) (lines_of other)
goes_on stream n m one other line against rest others first first_other behind behind_other same s =
    let equal : bytes_eq (item_or (lines_of one) 0 []) (item_or (lines_of other) 0 []) ≡ true = (λ i. bytes_eq (sym first i) (sym first_other i)) ∙ ap (λ l. bytes_eq l against) same ∙ same_bytes_refl against in
    (λ i. line_difference stream m (behind i) (behind_other i)) ∙ sym (same_lines stream n m (lines_of one) (lines_of other) (lines_filled one) (lines_filled other) equal s)

-- where the first lines are one, and there is one, it has a byte
pub some_byte : (one line : List ℕ) → line ≡ item_or (lines_of one) 0 [] → 0 < length one → 0 < length line
some_byte one line first some = by one first some (lines_filled one)
  where
    at_first : (ls : List (List ℕ)) → 0 < length ls → AllByRecursion (λ line. 0 < length line) ls → 0 < length (item_or ls 0 [])
    at_first [] l h = absurd (omega (arith, l))
    at_first (x ∷ ls) l h = h.0

    many : (text : List ℕ) → 0 < length text → 0 < length (lines_of text)
    many [] l = absurd (omega (arith, l))
    many (b ∷ bs) l = by_test (is_line_feed b)
      where
        longer : (rest : List (List ℕ)) → 0 < length (with_first b rest)
        longer [] = omega arith
        longer (x ∷ rest) = omega arith

        by_test : (t : Bool) → 0 < length (if t then (b ∷ []) ∷ lines_of bs else with_first b (lines_of bs))
        by_test true = omega arith
        by_test false = longer (lines_of bs)

    by : (text : List ℕ) → line ≡ item_or (lines_of text) 0 [] → 0 < length text → AllByRecursion (λ line. 0 < length line) (lines_of text) → 0 < length line
    by text e l h = let there = at_first (lines_of text) (many text l) h in let same = ap length e in omega (arith, there, same)

-- where they aren't, they are the lines that differ
pub differs_here : (stream : Stream) (n : ℕ) (ones others : List (List ℕ)) → bytes_eq (item_or ones 0 []) (item_or others 0 []) ≡ false → line_difference stream n ones others ≡ Some (line_of stream n (item_or ones 0 []) (item_or others 0 []))
differs_here stream n [] [] e = absurd cc
differs_here stream n [] (y ∷ others) e = refl
differs_here stream n (x ∷ ones) [] e = refl
differs_here stream n (x ∷ ones) (y ∷ others) e = ap (λ b. if b then line_difference stream (suc n) ones others else Some (line_of stream n x y)) e

pub told_first : (stream : Stream) (n : ℕ) (one other line against : List ℕ) → line ≡ item_or (lines_of one) 0 [] → against ≡ item_or (lines_of other) 0 [] → bytes_eq line against ≡ false → Some (line_of stream n line against) ≡ line_difference stream n (lines_of one) (lines_of other)
told_first stream n one other line against first first_other e =
    let differ : bytes_eq (item_or (lines_of one) 0 []) (item_or (lines_of other) 0 []) ≡ false = (λ i. bytes_eq (sym first i) (sym first_other i)) ∙ e in
    (λ i. Some (line_of stream n (first i) (first_other i))) ∙ sym (differs_here stream n (lines_of one) (lines_of other) differ)

-- behind first lines that are one less is left of both
pub shorter : (one other line against rest others : List ℕ) → line ≡ item_or (lines_of one) 0 [] → against ≡ item_or (lines_of other) 0 [] → length line + length rest ≡ length one → length against + length others ≡ length other → line ≡ against → 0 < length one + length other
    → (length rest < length one) × (length rest + length others < length one + length other)
shorter one other line against rest others first first_other all all_other same some =
    let byte : 0 < length line = by (order_cases 0 (length one)) in
    (omega (arith, byte, all), omega (arith, byte, all, all_other))
  where
    by : (0 < length one) ⊎ (length one < 0) ⊎ (0 ≡ length one) → 0 < length line
    by (inl l) = some_byte one line first l
    by (inr (inl l)) = absurd (omega (arith, l))
    by (inr (inr e)) =
        let byte = some_byte other against first_other (omega (arith, some, e)) in
        let long : length line ≡ length against = ap length same in
        omega (arith, byte, long)

-- where nothing is left, nothing differs
pub nothing_left : (stream : Stream) (n : ℕ) (one other : List ℕ) → length one + length other ≤ 0 → None ≡ line_difference stream n (lines_of one) (lines_of other)
nothing_left stream n [] [] l = refl
nothing_left stream n [] (b ∷ other) l = absurd (omega (arith, l))
nothing_left stream n (b ∷ one) other l = absurd (omega (arith, l))

-- ---- outputs

-- what is printed on a stream where there is an end
pub output_there : (r : Report) (stream : Stream) (c : List Bool) → is_some (end_at r c) ≡ true → output_text r stream c ≡ Some (output_of r stream c)
output_there r stream c t = by (end_at r c) t
  where
    by : (o : Option End) → is_some o ≡ true → option_map (λ (p : Projection). output_of r stream c) (option_map (λ end. record { output = output_at r c; end = end; attempts = attempts_at r c }) o) ≡ Some (output_of r stream c)
    by None t = absurd cc
    by (Some end) t = refl

-- the marked bytes of pieces are those of the output
text_marked : (stream : Stream) (text : List ℕ) → flat_map (marked_on stream) text ≡ flat_map marked (map (λ b. (stream, b)) text)
text_marked stream [] = refl
text_marked stream (b ∷ bs) = ap (λ rest. mark stream ∷ b ∷ rest) (text_marked stream bs)

pub all_marked : (r : Report) (c : List Bool) (pieces : List Piece) → flat_map (piece_marked r c) pieces ≡ flat_map marked (flat_map bytes_of (filter (λ piece. holds r.nodes piece.node c) pieces))
all_marked r c [] = refl
all_marked r c (piece ∷ pieces) = by (holds r.nodes piece.node c) (all_marked r c pieces)
  where
    by : (h : Bool) → flat_map (piece_marked r c) pieces ≡ flat_map marked (flat_map bytes_of (filter (λ piece. holds r.nodes piece.node c) pieces))
        → (if h then flat_map (marked_on piece.stream) piece.text else []) ++ flat_map (piece_marked r c) pieces
        ≡ flat_map marked (flat_map bytes_of (cond h (piece ∷ filter (λ piece. holds r.nodes piece.node c) pieces) (filter (λ piece. holds r.nodes piece.node c) pieces)))
    by true e = (λ i. text_marked piece.stream piece.text i ++ e i) ∙ sym (flat_map-append marked (bytes_of piece) (flat_map bytes_of (filter (λ piece. holds r.nodes piece.node c) pieces)))
    by false e = e

marks : (s t : Stream) → nat_eq (mark s) (mark t) ≡ same_stream s t
marks Out Out = refl
marks Out Err = refl
marks Err Out = refl
marks Err Err = refl

and_assoc : (a b c : Bool) → (a && (b && c)) ≡ ((a && b) && c)
and_assoc true b c = refl
and_assoc false b c = refl

-- marked bytes are equal just where outputs are
pub marked_equal : (xs ys : List (Stream × ℕ)) → bytes_eq (flat_map marked xs) (flat_map marked ys) ≡ are_equal xs ys
marked_equal [] [] = refl
marked_equal [] (y ∷ ys) = refl
marked_equal (x ∷ xs) [] = refl
marked_equal (x ∷ xs) (y ∷ ys) = (λ i. marks x.0 y.0 i && (nat_eq x.1 y.1 && marked_equal xs ys i)) ∙ and_assoc (same_stream x.0 y.0) (nat_eq x.1 y.1) (are_equal xs ys)
