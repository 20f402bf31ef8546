-- Arrays of arrays: what is made so far, and what is left.
use Rattle.std.proofs.Common.{◌≡◌, ℕ, ℤ, zero, suc, ◌+◌, ◌-◌, ◌*◌, ◌<◌, ◌≤◌, ◌==◌, ◌||◌, Bool, true, false, nat_lt, List, [], ◌∷◌, ◌++◌, refl, sym, ◌∙◌, ap, arith, drop, get_or, length, map, take, add-one, mul-le-mul_right}
use Rattle.std.proofs.Math.Nat.{suc-mul, zero-mul}
use Rattle.std.proofs.lemmas.Bool.{ltb-false}
use Rattle.std.proofs.lemmas.Bool.Decides.{nat_tests}
use Rattle.std.proofs.lemmas.List.{append-nil, append_assoc, length-append, length-map, map-append, take_all, take_more}
use Rattle.std.specs.List.{list_any}
use Rattle.std.specs.Prelude.{IfOk, None, Result, Some}
use Rattle.vx_java.specs.Arrays.{grid, grid_cells, grid_objects, lengths_off, new_grid_of, parts_of, push_grid, references_to}
use Rattle.vx_java.specs.Machine as machine
use Rattle.vx_java.specs.Machine.{Go, Here, State, go, illegal, in_state, length_bound, next_object, past, with_objects}
use Rattle.vx_link.specs.ClassNames.{component_of}
use Rattle.vx_link.specs.declared.program.Program.{Program}
use Rattle.vx_value.specs.Arithmetic.{natural}
use Rattle.vx_plain.specs.Views.{value_of, values_of}
use Rattle.vx_plain.specs.declared.object.Object.{Object}
use Rattle.vx_plain.specs.declared.value.Value.{Value}
use Rattle.vx_plain.specs.declared.value.Value.TheVariants.{Int, Long, Null, Ref, Top}
use Rattle.vx_plain_here.proofs.Comes.{comes_as, comes_from}
use Rattle.vx_plain_here.specs.Rows.{ComesTo, places_of}
use Rattle.vx_plain_here.specs.declared.outcome.Outcome.{Outcome}
use Rattle.vx_plain_arrays.specs.Elements.{int_in}
use Rattle.vx_plain_arrays.specs.Grids.{grid_of_lengths, int_below, int_of}

pub none_left : (n : ℕ) (empty : Bool) → empty ≡ (n == 0) → empty ≡ true → n ≡ 0
none_left n empty is holds = let e : (n == 0) ≡ true = sym is ∙ holds in grind (arith, nat_tests)

pub some_left : (n : ℕ) (empty : Bool) → empty ≡ (n == 0) → empty ≡ false → 1 ≤ n
some_left n empty is fails = let e : (n == 0) ≡ false = sym is ∙ fails in grind (arith, nat_tests)

-- ---- how many objects

pub no_objects : (lengths : List ℕ) → length lengths < 1 → 0 ≡ grid_objects lengths
no_objects [] none = refl
no_objects (n ∷ ns) none = absurd (omega (arith, none))

pub one_object : (n : ℕ) (deeper lengths : List ℕ) → n ∷ deeper ≡ lengths → n ≡ 0 → 1 ≡ grid_objects lengths
one_object n deeper lengths is none = omega (arith, ap (λ k. k * grid_objects deeper) none ∙ zero-mul (grid_objects deeper)) ∙ ap grid_objects is

times_most : (n o c : ℕ) → o ≤ 1 + c → n * o ≤ n + n * c
times_most zero o c h = omega (arith, zero-mul o)
times_most (suc n) o c h = omega (arith, suc-mul n o, suc-mul n c, times_most n o c h, h)

-- an array has no more objects than cells and one
objects_most : (lengths : List ℕ) → grid_objects lengths ≤ 1 + grid_cells lengths
objects_most [] = omega arith
objects_most (n ∷ ns) =
    let parts : n * grid_objects ns ≤ n + n * grid_cells ns = times_most n (grid_objects ns) (grid_cells ns) (objects_most ns) in
    omega (arith, parts)

pub parts_within : (n : ℕ) (deeper lengths : List ℕ) (b : ℕ) → n ∷ deeper ≡ lengths → grid_cells lengths ≤ b → n * grid_objects deeper ≤ b
parts_within n deeper lengths b is few =
    let split : n + n * grid_cells deeper ≡ grid_cells lengths = ap grid_cells is in
    let parts : n * grid_objects deeper ≤ n + n * grid_cells deeper = times_most n (grid_objects deeper) (grid_cells deeper) (objects_most deeper) in
    omega (arith, split, parts, few)

pub few_cells : (lengths : List ℕ) → list_any (nat_lt length_bound) lengths || nat_lt length_bound (grid_cells lengths) ≡ false → grid_cells lengths ≤ length_bound
few_cells lengths few = ltb-false length_bound (grid_cells lengths) (second_false (list_any (nat_lt length_bound) lengths) (nat_lt length_bound (grid_cells lengths)) few)
  where
    second_false : (a b : Bool) → a || b ≡ false → b ≡ false
    second_false true b e = cc
    second_false false b e = e

pub fewer_cells : (n : ℕ) (deeper lengths : List ℕ) (b : ℕ) → n ∷ deeper ≡ lengths → 1 ≤ n → grid_cells lengths ≤ b → grid_cells deeper ≤ b
fewer_cells zero deeper lengths b is some few = absurd (omega (arith, some))
fewer_cells (suc n) deeper lengths b is some few =
    let split : suc n + suc n * grid_cells deeper ≡ grid_cells lengths = ap grid_cells is in
    omega (arith, split, suc-mul n (grid_cells deeper), few)

-- ---- references

pub no_references : (count each from : ℕ) → values_of [] ++ references_to (count - 0) each (from + 0 * each) ≡ references_to count each from
no_references count each from =
    let all : count - 0 ≡ count = omega arith in
    let first : from + 0 * each ≡ from = omega (arith, zero-mul each) in
    ap (λ n. references_to n each (from + 0 * each)) all ∙ ap (references_to count each) first

pub reference_more : (values : List Value) (count part each from : ℕ) → part < count
    → values_of (values ++ Ref (from + part * each) ∷ []) ++ references_to (count - (part + 1)) each (from + (part + 1) * each) ≡ values_of values ++ references_to (count - part) each (from + part * each)
reference_more values count part each from lt =
    let next = from + part * each in
    let left : count - part ≡ suc (count - (part + 1)) = omega (arith, lt) in
    let moved : from + (part + 1) * each ≡ next + each = omega arith in
    ap (λ vs. vs ++ references_to (count - (part + 1)) each (from + (part + 1) * each)) (map-append value_of values (Ref next ∷ []))
    ∙ append_assoc (values_of values) (machine.Ref next ∷ []) (references_to (count - (part + 1)) each (from + (part + 1) * each))
    ∙ ap (λ k. values_of values ++ machine.Ref next ∷ references_to (count - (part + 1)) each k) moved
    ∙ sym (ap (λ n. values_of values ++ references_to n each next) left)

-- the parts up to one take no more than all
pub part_within : (part count each from b : ℕ) → part < count → from + count * each < b → from + part * each < b
part_within part count each from b lt fits =
    let most : part * each ≤ count * each = mul-le-mul_right each (omega (arith, lt)) in
    omega (arith, most, fits)

pub all_references : (values : List Value) (count part each next : ℕ) → count ≤ part → values_of values ≡ values_of values ++ references_to (count - part) each next
all_references values count part each next done =
    let none : count - part ≡ 0 = omega (arith, done) in
    sym (ap (λ n. values_of values ++ references_to n each next) none ∙ append-nil (values_of values))

references_length : (n each from : ℕ) → length (references_to n each from) ≡ n
references_length zero each from = refl
references_length (suc n) each from = ap suc (references_length n each (from + each))

pub outer_array : (made : machine.Object) (class n each from next : ℕ) (references : List Value) → made ≡ record { class = class; size = length references; cells = values_of references } → values_of references ≡ references_to n each from → from ≡ next + 1
    → made ≡ record { class = class; size = n; cells = references_to n each (next + 1) }
outer_array made class n each from next references is are behind = is ∙ (λ i. record { class = class; size = many i; cells = all i })
  where
    many : length references ≡ n
    many = sym (length-map references value_of) ∙ ap length are ∙ references_length n each from

    all : values_of references ≡ references_to n each (next + 1)
    all = are ∙ ap (references_to n each) behind

-- ---- an array with its parts

parts_length : (part : ℕ → List machine.Object) (each : ℕ) → ((from : ℕ) → length (part from) ≡ each) → (n from : ℕ) → length (parts_of part n each from) ≡ n * each
parts_length part each h zero from = omega arith
parts_length part each h (suc n) from =
    length-append (part from) (parts_of part n each (from + each)) ∙ sums (length (part from)) (length (parts_of part n each (from + each))) n (h from) (parts_length part each h n (from + each))
  where
    sums : (a b n : ℕ) → a ≡ each → b ≡ n * each → a + b ≡ suc n * each
    sums a b n e f = grind (arith, e, f)

-- it has as many objects as are counted
grid_length : (p : Program) (class : ℕ) (lengths : List ℕ) (from : ℕ) → length (grid p class lengths from) ≡ grid_objects lengths
grid_length p class [] from = refl
grid_length p class (n ∷ []) from = one n
  where
    one : (n : ℕ) → 1 ≡ 1 + n * 0
    one n = omega arith
grid_length p class (n ∷ m ∷ ns) from =
    let parts = parts_length (grid p (component_of p class) (m ∷ ns)) (grid_objects (m ∷ ns)) (grid_length p (component_of p class) (m ∷ ns)) n (from + 1) in
    ap suc parts ∙ one (n * grid_objects (m ∷ ns))
  where
    one : (k : ℕ) → suc k ≡ 1 + k
    one k = omega arith

both_put : (s : State) (these those : List machine.Object) → with_objects (with_objects s these) those ≡ with_objects s (these ++ those)
both_put s these those = λ i. record s { heap = append_assoc s.heap these those i }

nothing_put : (s : State) → s ≡ with_objects s []
nothing_put s = λ i. record s { heap = sym (append-nil s.heap) i }

-- a state with so many parts more, which stand where the next object will
abbrev pub with_parts : Program → (class : ℕ) → (lengths : List ℕ) → (left each : ℕ) → State → State
with_parts p class lengths left each s = with_objects s (parts_of (grid p class lengths) left each (next_object s))

-- no parts yet
pub outer_put : (p : Program) (class n component each : ℕ) (lengths deeper : List ℕ) (s moved : State) → 1 ≤ length deeper → n ∷ deeper ≡ lengths → component ≡ component_of p class → each ≡ grid_objects deeper
    → moved ≡ with_objects s (record { class = class; size = n; cells = references_to n each (next_object s + 1) } ∷ [])
    → with_parts p component deeper (n - 0) each moved ≡ with_objects s (grid p class lengths (next_object s))
outer_put p class n component each lengths [] s moved some is over counted made = absurd (omega (arith, some))
outer_put p class n component each lengths (m ∷ ns) s moved some is over counted made =
    let outer : machine.Object = record { class = class; size = n; cells = references_to n each (next_object s + 1) } in
    let all : n - 0 ≡ n = omega arith in
    let behind : next_object (with_objects s (outer ∷ [])) ≡ next_object s + 1 = length-append s.heap (outer ∷ []) in
    ap (with_parts p component (m ∷ ns) (n - 0) each) made
    ∙ both_put s (outer ∷ []) (parts_of (grid p component (m ∷ ns)) (n - 0) each (next_object (with_objects s (outer ∷ []))))
    ∙ ap (λ from. with_objects s (outer ∷ parts_of (grid p component (m ∷ ns)) (n - 0) each from)) behind
    ∙ ap (λ k. with_objects s (outer ∷ parts_of (grid p component (m ∷ ns)) k each (next_object s + 1))) all
    ∙ ap (λ c. with_objects s (outer ∷ parts_of (grid p c (m ∷ ns)) n each (next_object s + 1))) over
    ∙ ap (λ k. with_objects s (record { class = class; size = n; cells = references_to n k (next_object s + 1) } ∷ parts_of (grid p (component_of p class) (m ∷ ns)) n k (next_object s + 1))) counted
    ∙ ap (λ ls. with_objects s (grid p class ls (next_object s))) is

-- an array of a length of 0 has no part
pub empty_put : (p : Program) (class n : ℕ) (lengths deeper : List ℕ) (from : ℕ) → 1 ≤ length deeper → n ∷ deeper ≡ lengths → n ≡ 0 → record { class = class; size = 0; cells = [] } ∷ [] ≡ grid p class lengths from
empty_put p class n lengths [] from some is none = absurd (omega (arith, some))
empty_put p class n lengths (m ∷ ns) from some is none = ap (λ k. grid p class (k ∷ m ∷ ns) from) (sym none) ∙ ap (λ ls. grid p class ls from) is

-- one part more
pub part_put : (p : Program) (component count part each : ℕ) (deeper : List ℕ) (s moved whole : State) → part < count → each ≡ grid_objects deeper
    → moved ≡ with_objects s (grid p component deeper (next_object s))
    → with_parts p component deeper (count - part) each s ≡ whole
    → with_parts p component deeper (count - (part + 1)) each moved ≡ whole
part_put p component count part each deeper s moved whole lt counted made before =
    let left : count - part ≡ suc (count - (part + 1)) = omega (arith, lt) in
    let these = grid p component deeper (next_object s) in
    let behind : next_object (with_objects s these) ≡ next_object s + each = length-append s.heap these ∙ ap (λ k. next_object s + k) (grid_length p component deeper (next_object s) ∙ sym counted) in
    ap (with_parts p component deeper (count - (part + 1)) each) made
    ∙ both_put s these (parts_of (grid p component deeper) (count - (part + 1)) each (next_object (with_objects s these)))
    ∙ ap (λ from. with_objects s (these ++ parts_of (grid p component deeper) (count - (part + 1)) each from)) behind
    ∙ sym (ap (λ k. with_parts p component deeper k each s) left)
    ∙ before

-- no part is left
pub parts_put : (p : Program) (component count part each : ℕ) (deeper : List ℕ) (s whole : State) → count ≤ part → with_parts p component deeper (count - part) each s ≡ whole → s ≡ whole
parts_put p component count part each deeper s whole done before =
    let none : count - part ≡ 0 = omega (arith, done) in
    nothing_put s ∙ sym (ap (λ k. with_parts p component deeper k each s) none) ∙ before

-- lengths by the first one and those behind it
pub first_rest : (xs : List ℕ) (d : ℕ) → 1 ≤ length xs → get_or xs 0 d ∷ take (length xs - 1) (drop 1 xs) ≡ xs
first_rest [] d some = absurd (omega (arith, some))
first_rest (x ∷ xs) d some =
    let same : length (x ∷ xs) - 1 ≡ length xs = omega arith in
    ap (λ n. x ∷ take n xs) same ∙ ap (λ ys. x ∷ ys) (take_all (length xs) xs (omega arith))

pub rest_shorter : (xs : List ℕ) → 1 ≤ length xs → length (take (length xs - 1) (drop 1 xs)) < length xs
rest_shorter xs some = let split = ap length (first_rest xs 0 some) in omega (arith, split)

pub no_grid : (p : Program) (class : ℕ) (lengths : List ℕ) (s : State) → length lengths < 1 → s ≡ with_objects s (grid p class lengths (next_object s))
no_grid p class [] s none = nothing_put s
no_grid p class (n ∷ ns) s none = absurd (omega (arith, none))

pub last_grid : (p : Program) (class n : ℕ) (lengths deeper : List ℕ) (from : ℕ) → length deeper ≡ 0 → n ∷ deeper ≡ lengths → grid p class (n ∷ []) from ≡ grid p class lengths from
last_grid p class n lengths [] from none is = ap (λ ls. grid p class ls from) is
last_grid p class n lengths (m ∷ ns) from none is = absurd (omega (arith, none))

-- ---- the lengths on the operands

pub int_seen : (v : Value) → int_in v ≡ int_of (value_of v)
int_seen Top = refl
int_seen (Int n) = refl
int_seen (Long n) = refl
int_seen Null = refl
int_seen (Ref r) = refl

there : (operands : List machine.Value) (j : ℕ) (n : ℤ) → Some n ≡ int_below j operands → drop j operands ≡ machine.Int n ∷ drop (suc j) operands
there [] j n e = cc
there (machine.Int m ∷ rest) zero n e = ap (λ k. machine.Int k ∷ rest) (same m n e)
  where
    same : (m n : ℤ) → Some n ≡ Some m → m ≡ n
    same m n h = cc
there (machine.Top ∷ rest) zero n e = cc
there (machine.Long m ∷ rest) zero n e = cc
there (machine.Null ∷ rest) zero n e = cc
there (machine.Ref m ∷ rest) zero n e = cc
there (machine.Text m ∷ rest) zero n e = cc
there (v ∷ rest) (suc j) n e = there rest j n e

-- so many of the deepest of them, before any that were taken already
abbrev pub AreTaken : (dimensions taken : ℕ) → (lengths : List ℤ) → (operands : List machine.Value) → Type 0
AreTaken dimensions taken lengths operands = (more : List ℤ) → lengths_off taken more (drop (dimensions - taken) operands) ≡ Some (lengths ++ more, drop dimensions operands)

pub none_taken : (dimensions : ℕ) (operands : List machine.Value) → AreTaken dimensions 0 [] operands
none_taken dimensions operands more = let all : dimensions - 0 ≡ dimensions = omega arith in ap (λ k. Some (more, drop k operands)) all

pub one_taken : (dimensions taken : ℕ) (n : ℤ) (lengths longer : List ℤ) (operands : List machine.Value) → taken < dimensions → Some n ≡ int_below (dimensions - 1 - taken) operands → longer ≡ lengths ++ n ∷ []
    → AreTaken dimensions taken lengths operands → AreTaken dimensions (taken + 1) longer operands
one_taken dimensions taken n lengths longer operands lt is put before more =
    let j = dimensions - 1 - taken in
    let here : dimensions - (taken + 1) ≡ j = omega arith in
    let behind : dimensions - taken ≡ suc j = omega (arith, lt) in
    rw add-one
    (ap (λ k. lengths_off (suc taken) more (drop k operands)) (rw add-one at here)
    ∙ ap (lengths_off (suc taken) more) (there operands j n is)
    ∙ ap (λ k. lengths_off taken (n ∷ more) (drop k operands)) (sym behind)
    ∙ before (n ∷ more)
    ∙ ap (λ ls. Some (ls, drop dimensions operands)) (sym (append_assoc lengths (n ∷ []) more) ∙ ap (λ ls. ls ++ more) (sym put)))

pub all_taken : (dimensions taken : ℕ) (lengths : List ℤ) (operands : List machine.Value) → taken ≡ dimensions → AreTaken dimensions taken lengths operands → Some (lengths, drop dimensions operands) ≡ lengths_off dimensions [] operands
all_taken dimensions taken lengths operands all before =
    let none : dimensions - taken ≡ 0 = omega (arith, all) in
    sym
    (ap (λ k. lengths_off k [] operands) (sym all)
    ∙ ap (λ k. lengths_off taken [] (drop k operands)) (sym none)
    ∙ before []
    ∙ ap (λ ls. Some (ls, drop dimensions operands)) (append-nil lengths))

-- one of them is no int
pub not_taken : (dimensions j : ℕ) (more : List ℤ) (operands : List machine.Value) → j < dimensions → None ≡ int_below j operands → None ≡ lengths_off dimensions more operands
not_taken zero j more operands lt e = absurd (omega (arith, lt))
not_taken (suc d) j more [] lt e = refl
not_taken (suc d) zero more (machine.Int n ∷ rest) lt e = cc
not_taken (suc d) (suc j) more (machine.Int n ∷ rest) lt e = not_taken d j (n ∷ more) rest (omega (arith, lt)) e
not_taken (suc d) j more (machine.Top ∷ rest) lt e = refl
not_taken (suc d) j more (machine.Long n ∷ rest) lt e = refl
not_taken (suc d) j more (machine.Null ∷ rest) lt e = refl
not_taken (suc d) j more (machine.Ref n ∷ rest) lt e = refl
not_taken (suc d) j more (machine.Text n ∷ rest) lt e = refl

-- ---- natural numbers

pub natural_more : (xs : List ℤ) (i n : ℕ) (d : ℤ) (made longer : List ℕ) → i < length xs → n ≡ natural (get_or xs i d) → made ≡ map natural (take i xs) → longer ≡ made ++ n ∷ [] → longer ≡ map natural (take (i + 1) xs)
natural_more xs i n d made longer lt is before put =
    put
    ∙ ap (λ ms. ms ++ n ∷ []) before
    ∙ ap (λ k. map natural (take i xs) ++ k ∷ []) is
    ∙ sym (map-append natural (take i xs) (get_or xs i d ∷ []))
    ∙ sym (ap (map natural) (take_more xs i d lt))

-- ---- the row

pub grid_pushed : {E : Type 0} (r : Result Outcome E) (h : Here) (class place taken : ℕ) (lengths : List ℕ) (moved new : State) → place ≡ next_object h.state → moved ≡ with_objects h.state (grid h.program class lengths (next_object h.state))
    → IfOk r (ComesTo (go (in_state h moved) (machine.Ref place ∷ drop taken moved.top.operands)) moved new) → IfOk r (ComesTo (push_grid h class lengths (drop taken h.state.top.operands)) h.state new)
grid_pushed r h class place taken lengths moved new is made comes =
    let same : go (in_state h moved) (machine.Ref place ∷ drop taken moved.top.operands) ≡ push_grid h class lengths (drop taken h.state.top.operands) =
    ap (λ (s : State). Go (past h s (machine.Ref place ∷ drop taken s.top.operands))) made
    ∙ ap (λ k. Go (past h (with_objects h.state (grid h.program class lengths (next_object h.state))) (machine.Ref k ∷ drop taken h.state.top.operands))) is in
    comes_from r (push_grid h class lengths (drop taken h.state.top.operands)) h.state moved new (ap places_of made) (comes_as r _ _ moved new same comes)

pub no_lengths : (h : Here) (class : ℕ) (lengths : List ℤ) (rest : List machine.Value) → length lengths ≡ 0 → illegal h ≡ new_grid_of h class (Some (lengths, rest))
no_lengths h class [] rest none = refl
no_lengths h class (n ∷ ns) rest none = absurd (omega (arith, none))

pub some_lengths : (h : Here) (class : ℕ) (lengths : List ℤ) (rest : List machine.Value) → 1 ≤ length lengths → grid_of_lengths h class lengths rest ≡ new_grid_of h class (Some (lengths, rest))
some_lengths h class [] rest some = absurd (omega (arith, some))
some_lengths h class (n ∷ ns) rest some = refl
