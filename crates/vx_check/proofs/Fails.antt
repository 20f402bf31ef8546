-- The ways to fail have just the configurations that fail.
use Rattle.std.proofs.Common.{◌≡◌, ℕ, ◌+◌, ◌<◌, zero, suc, Bool, true, false, List, [], ◌∷◌, ◌++◌, length, map, take, refl, sym, ap, subst, ◌∙◌, arith, append_assoc, append-nil}
use Rattle.std.specs.Prelude.{◌&&◌, ◌||◌, not, find, Option, Some, None, option_map, if◌then◌else◌}
use Rattle.std.specs.List.{flat_map, list_any}
use Rattle.std.proofs.lemmas.List.{length-map, map-append}
use Rattle.std.proofs.lemmas.List.Folds.{list_any-append}
use Rattle.std.proofs.Math.Seq.{take-append_seam}
use Rattle.vx_list.specs.Places.{item_or}
use Rattle.vx_bdd_tools.specs.Nodes.{holds}
use Rattle.vx_value.specs.declared.end.End.{End}
use Rattle.vx_model.specs.Models.{is_allowed}
use Rattle.vx_report.specs.declared.report.EndLine.{EndLine}
use Rattle.vx_report.specs.declared.report.Report.{Report}
use Rattle.vx_cover.specs.Covers.{end_nodes, has_this_end, some_hold}
use Rattle.vx_check.specs.Ends.{fits, passes}
use Rattle.vx_check.specs.Failing.{fails, fails_at, fails_with, is_missed, speaks, spoken}
use Rattle.vx_check.specs.Finding.{in_some}
use Rattle.vx_check.specs.Ways.{Ending, Way, endings, endings_from, is_good, number_of, way_by, ways_by, ways_missed, ways_of}
use Rattle.vx_check.specs.declared.expected.Expectation.{Expectation}

-- ---- tests of lists

or_false : (a : Bool) → (a || false) ≡ a
or_false true = refl
or_false false = refl

and_false : (a : Bool) → (a && false) ≡ false
and_false true = refl
and_false false = refl

any_none : {A : Type 0} (xs : List A) → list_any (λ (x : A). false) xs ≡ false
any_none [] = refl
any_none (x ∷ xs) = any_none xs

any_same : {A : Type 0} (p q : A → Bool) (xs : List A) → ((x : A) → p x ≡ q x) → list_any p xs ≡ list_any q xs
any_same p q xs e = λ i. list_any (λ x. e x i) xs

swap_or : (a b c d : Bool) → ((a || b) || (c || d)) ≡ ((a || c) || (b || d))
swap_or true b c d = refl
swap_or false true true d = refl
swap_or false true false d = refl
swap_or false false c d = refl

any_or : {A : Type 0} (p q : A → Bool) (xs : List A) → list_any (λ x. p x || q x) xs ≡ (list_any p xs || list_any q xs)
any_or p q [] = refl
any_or p q (x ∷ xs) = ap (λ b. (p x || q x) || b) (any_or p q xs) ∙ swap_or (p x) (q x) (list_any p xs) (list_any q xs)

any_and : {A : Type 0} (a : Bool) (p : A → Bool) (xs : List A) → list_any (λ x. a && p x) xs ≡ (a && list_any p xs)
any_and true p xs = refl
any_and false p xs = any_none xs

any_flat : {A B : Type 0} (p : B → Bool) (f : A → List B) (xs : List A) → list_any p (flat_map f xs) ≡ list_any (λ x. list_any p (f x)) xs
any_flat p f [] = refl
any_flat p f (x ∷ xs) = list_any-append p (f x) (flat_map f xs) ∙ ap (λ b. list_any p (f x) || b) (any_flat p f xs)

any_exchanged : {A B : Type 0} (p : A → B → Bool) (xs : List A) (ys : List B) → list_any (λ x. list_any (p x) ys) xs ≡ list_any (λ y. list_any (λ x. p x y) xs) ys
any_exchanged p xs [] = any_none xs
any_exchanged p xs (y ∷ ys) = any_or (λ x. p x y) (λ x. list_any (p x) ys) xs ∙ ap (λ b. list_any (λ x. p x y) xs || b) (any_exchanged p xs ys)

-- ---- by ends

-- the way of an end, by what it asks
one_way : (line : Option Expectation) (set : List Bool → Bool) (c : List Bool) (e : Ending) → in_some (way_by line set e) c ≡ (e.has c && (set c && not (is_good line e.end)))
one_way line set c e = by (is_good line e.end)
  where
    by : (t : Bool) → in_some (if t then [] else record { ending = e; line = number_of line; has = λ d. e.has d && set d } ∷ []) c ≡ (e.has c && (set c && not t))
    by true = sym (ap (λ b. e.has c && b) (and_false (set c)) ∙ and_false (e.has c))
    by false = or_false (e.has c && set c) ∙ ap (λ b. e.has c && b) (sym (and_true (set c)))
      where
        and_true : (a : Bool) → (a && true) ≡ a
        and_true true = refl
        and_true false = refl

ways_in : (r : Report) (line : Option Expectation) (set : List Bool → Bool) (c : List Bool) → in_some (ways_by r line set) c ≡ list_any (λ e. e.has c && (set c && not (is_good line e.end))) (endings r)
ways_in r line set c = any_flat (λ (w : Way). w.has c) (way_by line set) (endings r) ∙ any_same (λ e. in_some (way_by line set e) c) (λ e. e.has c && (set c && not (is_good line e.end))) (endings r) (one_way line set c)

missed_in : (r : Report) (expected : List Expectation) (c : List Bool) → in_some (ways_missed r expected) c ≡ list_any (λ e. e.has c && list_any (is_missed e.end c) expected) (endings r)
missed_in r expected c =
    any_flat (λ (w : Way). w.has c) (λ line. ways_by r (Some line) (is_allowed line.model)) expected
    ∙ any_same (λ line. in_some (ways_by r (Some line) (is_allowed line.model)) c) (λ line. list_any (λ e. e.has c && is_missed e.end c line) (endings r)) expected (λ line. ways_in r (Some line) (is_allowed line.model) c)
    ∙ any_exchanged (λ (line : Expectation) (e : Ending). e.has c && is_missed e.end c line) expected (endings r)
    ∙ any_same (λ e. list_any (λ line. e.has c && is_missed e.end c line) expected) (λ e. e.has c && list_any (is_missed e.end c) expected) (endings r) (λ e. any_and (e.has c) (is_missed e.end c) expected)

-- where no line speaks none is missed
unmissed : (expected : List Expectation) (c : List Bool) (end : End) → spoken expected c ≡ false → list_any (is_missed end c) expected ≡ false
unmissed [] c end h = refl
unmissed (line ∷ expected) c end h = by (speaks c line) (not (fits line.end end)) h (λ e. unmissed expected c end e)
  where
    by : (a b : Bool) → (a || spoken expected c) ≡ false → (spoken expected c ≡ false → list_any (is_missed end c) expected ≡ false) → ((a && b) || list_any (is_missed end c) expected) ≡ false
    by true b e rest = cc (e)
    by false b e rest = rest e

fails_by : (expected : List Expectation) (c : List Bool) (end : End) → (list_any (is_missed end c) expected || (not (spoken expected c) && not (passes end))) ≡ fails_with expected c end
fails_by expected c end = by (spoken expected c) refl
  where
    by : (t : Bool) → spoken expected c ≡ t → (list_any (is_missed end c) expected || (not t && not (passes end))) ≡ (if t then list_any (is_missed end c) expected else not (passes end))
    by true e = or_false (list_any (is_missed end c) expected)
    by false e = ap (λ b. b || not (passes end)) (unmissed expected c end e)

and_or : (h m u : Bool) → ((h && m) || (h && u)) ≡ (h && (m || u))
and_or true m u = refl
and_or false m u = refl

in_endings : (r : Report) (expected : List Expectation) (c : List Bool) → in_some (ways_of r expected) c ≡ list_any (λ e. e.has c && fails_with expected c e.end) (endings r)
in_endings r expected c =
    let m = λ (e : Ending). list_any (is_missed e.end c) expected in
    let u = λ (e : Ending). not (spoken expected c) && not (passes e.end) in
    list_any-append (λ (w : Way). w.has c) (ways_missed r expected) (ways_by r None (λ d. not (spoken expected d)))
    ∙ (λ i. missed_in r expected c i || ways_in r None (λ d. not (spoken expected d)) c i)
    ∙ sym (any_or (λ e. e.has c && m e) (λ e. e.has c && u e) (endings r))
    ∙ any_same (λ e. (e.has c && m e) || (e.has c && u e)) (λ e. e.has c && fails_with expected c e.end) (endings r) (λ e. and_or (e.has c) (m e) (u e) ∙ ap (λ b. e.has c && b) (fails_by expected c e.end))

-- ---- the first end that holds

item_seam : (xs : List ℕ) (y : ℕ) (ys : List ℕ) → item_or (xs ++ y ∷ ys) (length xs) 0 ≡ y
item_seam [] y ys = refl
item_seam (x ∷ xs) y ys = item_seam xs y ys

abbrev node_of : EndLine → ℕ
node_of line = line.node

-- the end behind some others
this_end : (r : Report) (front rest : List EndLine) (line : EndLine) (c : List Bool) → r.ends ≡ front ++ line ∷ rest → has_this_end r (suc (length front)) c ≡ (not (some_hold r.nodes (map node_of front) c) && holds r.nodes line.node c)
this_end r front rest line c e =
    let count : length front ≡ length (map node_of front) = sym (length-map front node_of) in
    let all : end_nodes r ≡ map node_of front ++ line.node ∷ map node_of rest = ap (map node_of) e ∙ map-append node_of front (line ∷ rest) in
    (λ i. not (some_hold r.nodes (take (count i) (all i)) c) && holds r.nodes (item_or (all i) (count i) 0) c)
    ∙ (λ i. not (some_hold r.nodes (take-append_seam (map node_of front) (line.node ∷ map node_of rest) i) c) && holds r.nodes (item_seam (map node_of front) line.node (map node_of rest) i) c)

hold_more : (r : Report) (front : List EndLine) (line : EndLine) (c : List Bool) → some_hold r.nodes (map node_of (front ++ line ∷ [])) c ≡ (some_hold r.nodes (map node_of front) c || holds r.nodes line.node c)
hold_more r front line c =
    ap (λ ns. some_hold r.nodes ns c) (map-append node_of front (line ∷ []))
    ∙ list_any-append (λ n. holds r.nodes n c) (map node_of front) (line.node ∷ [])
    ∙ ap (λ b. some_hold r.nodes (map node_of front) c || b) (or_false (holds r.nodes line.node c))

length_more : {A : Type 0} (xs : List A) (x : A) → length (xs ++ x ∷ []) ≡ suc (length xs)
length_more [] x = refl
length_more (y ∷ ys) x = ap suc (length_more ys x)

abbrev asked : (End → Bool) → Option End → Bool
asked g None = false
asked g (Some end) = g end

-- what is asked of the end of a configuration, where none of those before is it
first_asked : (r : Report) (g : End → Bool) (c : List Bool) (front lines : List EndLine) → r.ends ≡ front ++ lines
    → list_any (λ e. e.has c && g e.end) (endings_from r (length front) lines) ≡ (not (some_hold r.nodes (map node_of front) c) && asked g (option_map (λ (line : EndLine). line.end) (find (λ line. holds r.nodes line.node c) lines)))
first_asked r g c front [] e = sym (and_false (not (some_hold r.nodes (map node_of front) c)))
first_asked r g c front (line ∷ lines) e =
    let moved : r.ends ≡ (front ++ line ∷ []) ++ lines = e ∙ sym (append_assoc front (line ∷ []) lines) in
    let later = first_asked r g c (front ++ line ∷ []) lines moved in
    let number : suc (length front) ≡ length (front ++ line ∷ []) = sym (length_more front line) in
    (λ i. (this_end r front lines line c e i && g line.end) || list_any (λ x. x.has c && g x.end) (endings_from r (number i) lines))
    ∙ ap (λ b. ((not (some_hold r.nodes (map node_of front) c) && holds r.nodes line.node c) && g line.end) || b) (later ∙ ap (λ b. not b && asked g (option_map (λ (l : EndLine). l.end) (find (λ l. holds r.nodes l.node c) lines))) (hold_more r front line c))
    ∙ by (some_hold r.nodes (map node_of front) c) (holds r.nodes line.node c)
  where
    by : (f h : Bool) → (((not f && h) && g line.end) || (not (f || h) && asked g (option_map (λ (l : EndLine). l.end) (find (λ l. holds r.nodes l.node c) lines)))) ≡ (not f && asked g (option_map (λ (l : EndLine). l.end) (if h then Some line else find (λ l. holds r.nodes l.node c) lines)))
    by true h = refl
    by false true = or_false (g line.end)
    by false false = refl

asked_fails : (expected : List Expectation) (c : List Bool) (end : Option End) → asked (fails_with expected c) end ≡ fails_at expected c end
asked_fails expected c None = refl
asked_fails expected c (Some end) = refl

pub in_some_fails : (r : Report) (expected : List Expectation) (c : List Bool) → in_some (ways_of r expected) c ≡ fails r expected c
in_some_fails r expected c = in_endings r expected c ∙ first_asked r (fails_with expected c) c [] r.ends refl ∙ asked_fails expected c (option_map (λ (line : EndLine). line.end) (find (λ line. holds r.nodes line.node c) r.ends))
