-- Lines with other numbers say the same of a configuration, follow one another as before, and are lawful.
use Rattle.std.proofs.Common.{◌≡◌, ℕ, ◌-◌, zero, suc, Bool, true, false, cond, List, [], ◌∷◌, ◌++◌, map, filter, find, flat_map, length, drop, take, slice_get, option_map, refl, sym, ◌∙◌, ap, subst}
use Rattle.std.specs.Prelude.{Option, Some, None}
use Rattle.std.specs.List.{AllZip, list_all}
use Rattle.std.specs.Cmp.Derive.{both_true}
use Rattle.std.proofs.lemmas.Option.{same_Some}
use Rattle.vx_list.specs.Places.{item_or}
use Rattle.vx_report.specs.declared.line.Line.{Line}
use Rattle.vx_report_line.proofs.Numbers.{both_true as parts_true}
use Rattle.vx_report_line.specs.Forms.{is_line, is_root}
use Rattle.vx_report_reader.specs.Lawful.{EachFollows}
use Rattle.vx_report_reader.specs.Rules.{last_of}
use Rattle.vx_compare.specs.Wide.{renumbered}

-- ---- places

pub length_renumbered : {L : Type 0} (with_node : ℕ → L → L) (lines : List L) (numbers : List ℕ) → length (renumbered with_node lines numbers) ≡ length lines
length_renumbered with_node [] numbers = refl
length_renumbered with_node (x ∷ xs) numbers = ap suc (length_renumbered with_node xs (drop 1 numbers))

take_renumbered : {L : Type 0} (with_node : ℕ → L → L) (place : ℕ) (lines : List L) (numbers : List ℕ) → take place (renumbered with_node lines numbers) ≡ renumbered with_node (take place lines) numbers
take_renumbered with_node zero lines numbers = refl
take_renumbered with_node (suc place) [] numbers = refl
take_renumbered with_node (suc place) (x ∷ xs) numbers = ap (λ rest. with_node (item_or numbers 0 0) x ∷ rest) (take_renumbered with_node place xs (drop 1 numbers))

-- none, or one line with two numbers
abbrev IsOneLine : {L : Type 0} → (ℕ → L → L) → Option L → Option L → Type 0
IsOneLine with_node None None = Unit {0}
IsOneLine with_node None (Some y) = ⊥
IsOneLine with_node (Some x) None = ⊥
IsOneLine with_node (Some x) (Some y) = (n : ℕ) × (y ≡ with_node n x)

one_at : {L : Type 0} (with_node : ℕ → L → L) (lines : List L) (numbers : List ℕ) (place : ℕ) → IsOneLine with_node (slice_get lines place) (slice_get (renumbered with_node lines numbers) place)
one_at with_node [] numbers place = tt
one_at with_node (x ∷ xs) numbers zero = (item_or numbers 0 0, refl)
one_at with_node (x ∷ xs) numbers (suc place) = one_at with_node xs (drop 1 numbers) place

one_last : {L : Type 0} (with_node : ℕ → L → L) (place : ℕ) (lines : List L) (numbers : List ℕ) → IsOneLine with_node (last_of (take place lines)) (last_of (take place (renumbered with_node lines numbers)))
one_last {L} with_node place lines numbers =
    let front : List L = take place lines in
    let long : length (renumbered with_node front numbers) ≡ length front = length_renumbered with_node front numbers in
    let here : IsOneLine with_node (last_of front) (last_of (renumbered with_node front numbers)) =
    subst (λ n. IsOneLine with_node (last_of front) (slice_get (renumbered with_node front numbers) (n - 1))) (sym long) (one_at with_node front numbers (length front - 1)) in
    subst (λ xs. IsOneLine with_node (last_of front) (last_of xs)) (sym (take_renumbered with_node place lines numbers)) here

-- a rule for each line and the last one before it holds again, if it doesn't read numbers
pub follows_renumbered : {L : Type 0} (with_node : ℕ → L → L) (rule : Option L → L → Bool) → ((n m : ℕ) (x y : L) → rule (Some (with_node n x)) (with_node m y) ≡ rule (Some x) y) → ((m : ℕ) (y : L) → rule None (with_node m y) ≡ rule None y)
    → (lines : List L) (numbers : List ℕ) → EachFollows (λ before x. rule (last_of before) x ≡ true) lines → EachFollows (λ before x. rule (last_of before) x ≡ true) (renumbered with_node lines numbers)
follows_renumbered {L} with_node rule some none lines numbers follows = λ place y e. by place y (slice_get lines place) refl (slice_get (renumbered with_node lines numbers) place) e (one_at with_node lines numbers place)
  where
    by_last : (before after : Option L) (x : L) (m : ℕ) → IsOneLine with_node before after → rule before x ≡ true → rule after (with_node m x) ≡ true
    by_last None None x m one t = none m x ∙ t
    by_last None (Some k) x m one t = absurd one
    by_last (Some l) None x m one t = absurd one
    by_last (Some l) (Some k) x m one t = ap (λ z. rule (Some z) (with_node m x)) one.1 ∙ some one.0 m l x ∙ t

    by : (place : ℕ) (y : L) (o : Option L) → slice_get lines place ≡ o → (p : Option L) → p ≡ Some y → IsOneLine with_node o p → rule (last_of (take place (renumbered with_node lines numbers))) y ≡ true
    by place y None is None e one = absurd cc
    by place y None is (Some z) e one = absurd one
    by place y (Some x) is None e one = absurd one
    by place y (Some x) is (Some z) e one =
        let here : y ≡ with_node one.0 x = sym (same_Some z y e) ∙ one.1 in
        ap (rule (last_of (take place (renumbered with_node lines numbers)))) here
        ∙ by_last (last_of (take place lines)) (last_of (take place (renumbered with_node lines numbers))) x one.0 (one_last with_node place lines numbers) (follows place x is)

-- ---- numbers

-- each number has to do with that of its line
abbrev pub AreHeld : {L : Type 0} → (L → ℕ) → (ℕ → ℕ → Type 0) → List L → List ℕ → Type 0
AreHeld node_of R [] numbers = Unit {0}
AreHeld node_of R (x ∷ xs) [] = ⊥
AreHeld node_of R (x ∷ xs) (n ∷ numbers) = R (node_of x) n × AreHeld node_of R xs numbers

-- those of the first lines, and those behind them
pub held_first : {L : Type 0} (node_of : L → ℕ) (R : ℕ → ℕ → Type 0) (lines : List L) (ks numbers : List ℕ) → AllZip R (map node_of lines ++ ks) numbers → AreHeld node_of R lines numbers
held_first node_of R [] ks numbers h = tt
held_first node_of R (x ∷ xs) ks [] h = absurd h
held_first node_of R (x ∷ xs) ks (n ∷ numbers) h = (h.0, held_first node_of R xs ks numbers h.1)

pub held_behind : {L : Type 0} (node_of : L → ℕ) (R : ℕ → ℕ → Type 0) (lines : List L) (ks numbers : List ℕ) → AllZip R (map node_of lines ++ ks) numbers → AllZip R ks (drop (length lines) numbers)
held_behind node_of R [] ks numbers h = h
held_behind node_of R (x ∷ xs) ks [] h = absurd h
held_behind node_of R (x ∷ xs) ks (n ∷ numbers) h = held_behind node_of R xs ks numbers h.1

pub held_none : (R : ℕ → ℕ → Type 0) (numbers : List ℕ) → AllZip R [] numbers → numbers ≡ []
held_none R [] h = refl
held_none R (n ∷ numbers) h = absurd h

-- the numbers of the lines, and those behind them
pub numbers_of : {L : Type 0} (with_node : ℕ → L → L) (node_of : L → ℕ) → ((n : ℕ) (x : L) → node_of (with_node n x) ≡ n)
    → (R : ℕ → ℕ → Type 0) (lines : List L) (numbers : List ℕ) → AreHeld node_of R lines numbers → map node_of (renumbered with_node lines numbers) ++ drop (length lines) numbers ≡ numbers
numbers_of with_node node_of law R [] numbers hold = refl
numbers_of with_node node_of law R (x ∷ xs) [] hold = absurd hold
numbers_of with_node node_of law R (x ∷ xs) (n ∷ numbers) hold =
    let tail = numbers_of with_node node_of law R xs numbers hold.1 in
    λ i. law n x i ∷ tail i

-- ---- what is said of a configuration

-- the value of the first line whose node passes
pub value_same : {L V : Type 0} (with_node : ℕ → L → L) (node_of : L → ℕ) (value_of : L → V) → ((n : ℕ) (x : L) → node_of (with_node n x) ≡ n) → ((n : ℕ) (x : L) → value_of (with_node n x) ≡ value_of x)
    → (R : ℕ → ℕ → Type 0) (p q : ℕ → Bool) → ((k n : ℕ) → R k n → q n ≡ p k) → (lines : List L) (numbers : List ℕ) → AreHeld node_of R lines numbers
    → option_map value_of (find (λ x. q (node_of x)) (renumbered with_node lines numbers)) ≡ option_map value_of (find (λ x. p (node_of x)) lines)
value_same with_node node_of value_of law same R p q passes [] numbers hold = refl
value_same with_node node_of value_of law same R p q passes (x ∷ xs) [] hold = absurd hold
value_same {L} {V} with_node node_of value_of law same R p q passes (x ∷ xs) (n ∷ numbers) hold =
    by (q (node_of (with_node n x))) (p (node_of x)) (ap q (law n x) ∙ passes (node_of x) n hold.0) (value_same with_node node_of value_of law same R p q passes xs numbers hold.1)
  where
    by : (a b : Bool) → a ≡ b → option_map value_of (find (λ y. q (node_of y)) (renumbered with_node xs numbers)) ≡ option_map value_of (find (λ y. p (node_of y)) xs)
        → option_map value_of (cond a (Some (with_node n x)) (find (λ y. q (node_of y)) (renumbered with_node xs numbers))) ≡ option_map value_of (cond b (Some x) (find (λ y. p (node_of y)) xs))
    by true true d h = ap Some (same n x)
    by true false d h = cc
    by false true d h = cc
    by false false d h = h

-- what the lines whose nodes pass give, one behind the other
pub given_same : {L V : Type 0} (with_node : ℕ → L → L) (node_of : L → ℕ) (gives : L → List V) → ((n : ℕ) (x : L) → node_of (with_node n x) ≡ n) → ((n : ℕ) (x : L) → gives (with_node n x) ≡ gives x)
    → (R : ℕ → ℕ → Type 0) (p q : ℕ → Bool) → ((k n : ℕ) → R k n → q n ≡ p k) → (lines : List L) (numbers : List ℕ) → AreHeld node_of R lines numbers
    → flat_map gives (filter (λ x. q (node_of x)) (renumbered with_node lines numbers)) ≡ flat_map gives (filter (λ x. p (node_of x)) lines)
given_same with_node node_of gives law same R p q passes [] numbers hold = refl
given_same with_node node_of gives law same R p q passes (x ∷ xs) [] hold = absurd hold
given_same {L} {V} with_node node_of gives law same R p q passes (x ∷ xs) (n ∷ numbers) hold =
    by (q (node_of (with_node n x))) (p (node_of x)) (ap q (law n x) ∙ passes (node_of x) n hold.0) (given_same with_node node_of gives law same R p q passes xs numbers hold.1)
  where
    by : (a b : Bool) → a ≡ b → flat_map gives (filter (λ y. q (node_of y)) (renumbered with_node xs numbers)) ≡ flat_map gives (filter (λ y. p (node_of y)) xs)
        → flat_map gives (cond a (with_node n x ∷ filter (λ y. q (node_of y)) (renumbered with_node xs numbers)) (filter (λ y. q (node_of y)) (renumbered with_node xs numbers)))
        ≡ flat_map gives (cond b (x ∷ filter (λ y. p (node_of y)) xs) (filter (λ y. p (node_of y)) xs))
    by true true d h = λ i. same n x i ++ h i
    by true false d h = cc
    by false true d h = cc
    by false false d h = h

-- ---- lawful lines

-- lines are lawful with other roots
pub lines_renumbered : {L : Type 0} (with_node : ℕ → L → L) (line : L → Line) (node_of : L → ℕ) → ((n : ℕ) (x : L) → is_line (line x) ≡ true → is_root (node_of (with_node n x)) ≡ true → is_line (line (with_node n x)) ≡ true)
    → (lines : List L) (numbers : List ℕ) → list_all is_line (map line lines) ≡ true → list_all is_root (map node_of (renumbered with_node lines numbers)) ≡ true → list_all is_line (map line (renumbered with_node lines numbers)) ≡ true
lines_renumbered with_node line node_of law [] numbers h roots = refl
lines_renumbered with_node line node_of law (x ∷ xs) numbers h roots =
    let here = parts_true (is_line (line x)) (list_all is_line (map line xs)) h in
    let root = parts_true (is_root (node_of (with_node (item_or numbers 0 0) x))) (list_all is_root (map node_of (renumbered with_node xs (drop 1 numbers)))) roots in
    both_true (law (item_or numbers 0 0) x here.0 root.0) (lines_renumbered with_node line node_of law xs (drop 1 numbers) here.1 root.1)
