-- The numbers to which edges lead: marks of them, and that edges lead to no others.
use Rattle.std.proofs.Common.{◌≡◌, ◌≢◌, ℕ, ◌+◌, ◌<◌, ◌≤◌, zero, suc, Bool, true, false, List, [], ◌∷◌, ◌++◌, length, take, drop, get_or, set, map, refl, sym, ◌∙◌, ap, subst, arith}
use Rattle.std.specs.Prelude.{Some, replicate, slice_get, unwrap_or, nat_eq, ◌||◌, if◌then◌else◌}
use Rattle.std.proofs.lemmas.Bool.Decides.{nat_tests}
use Rattle.std.proofs.lemmas.List.{drop_all, get_or-replicate, get_or-set_other, get_or-set_same, length-replicate, length-set, map_more}
use Rattle.std.proofs.lemmas.List.Folds.{list_any-append}
use Rattle.std.proofs.lemmas.Option.{slice_get-get_or}
use Rattle.vx_list.specs.Places.{item_or}
use Rattle.vx_bdd_tools.specs.declared.node.Node.{Node}
use Rattle.vx_picture.specs.Marks.{AreMarks, has_mark}
use Rattle.vx_picture.specs.Pictures.{is_among, kept, reached, with_parts}
use Rattle.vx_picture.specs.Subjects.{numbered}

-- ---- marks

item_read : (xs : List Bool) (i : ℕ) → i < length xs → item_or xs i false ≡ get_or xs i false
item_read xs i l = ap (λ o. unwrap_or o false) (slice_get-get_or xs i false l)

-- nothing is marked at first, or everything
same_mark : (n : ℕ) (b : Bool) (k : ℕ) → k < n → has_mark (replicate n b) k ≡ b
same_mark n b k l = item_read (replicate n b) k (omega (arith, l, length-replicate {A = Bool} n b)) ∙ get_or-replicate n k b false l

pub marks_none : (n : ℕ) (marks : List Bool) → marks ≡ replicate n false → AreMarks marks []
marks_none n marks e = record {
  each = λ k l.
      let within : k < n = omega (arith, l, ap length e, length-replicate {A = Bool} n false) in
      ap (λ xs. has_mark xs k) e ∙ same_mark n false k within;
}

pub all_marked : (n : ℕ) (marks : List Bool) → marks ≡ replicate n true → (k : ℕ) → k < n → has_mark marks k ≡ true
all_marked n marks e k l = ap (λ xs. has_mark xs k) e ∙ same_mark n true k l

pub AreMarks-set : (marks : List Bool) (n : ℕ) (numbers : List ℕ) → n < length marks → AreMarks marks numbers → AreMarks (set marks n true) (n ∷ numbers)
AreMarks-set marks n numbers w h = record {
  each = λ k l.
      let within : k < length marks = omega (arith, l, length-set marks n true) in
      item_read (set marks n true) k l ∙ by k within (nat_eq k n) refl;
}
  where
    by : (k : ℕ) → k < length marks → (t : Bool) → nat_eq k n ≡ t → get_or (set marks n true) k false ≡ (nat_eq k n || is_among numbers k)
    by k l true t =
        let same : k ≡ n = grind (arith, nat_tests) in
        ap (λ j. get_or (set marks n true) j false) same ∙ get_or-set_same marks n true false w ∙ ap (λ b. b || is_among numbers k) (sym t)
    by k l false t =
        let other : k ≢ n = λ e. unlike k n t e in
        get_or-set_other marks n k true false other ∙ sym (item_read marks k l) ∙ h.each k l ∙ ap (λ b. b || is_among numbers k) (sym t)
      where
        unlike : (a b : ℕ) → nat_eq a b ≡ false → a ≡ b → ⊥
        unlike a b f g = grind (arith, nat_tests)

-- there is no place for it
pub AreMarks-past : (marks : List Bool) (n : ℕ) (numbers : List ℕ) → length marks ≤ n → AreMarks marks numbers → AreMarks marks (n ∷ numbers)
AreMarks-past marks n numbers w h = record { each = λ k l. h.each k l ∙ ap (λ b. b || is_among numbers k) (sym (before_it k l)) }
  where
    before_it : (k : ℕ) → k < length marks → nat_eq k n ≡ false
    before_it k l = lesser k n (omega (arith, l, w))
      where
        lesser : (a b : ℕ) → a < b → nat_eq a b ≡ false
        lesser a b l = grind (arith, nat_tests)

-- one number more
or_comm : (a b : Bool) → (a || b) ≡ (b || a)
or_comm true true = refl
or_comm true false = refl
or_comm false true = refl
or_comm false false = refl

pub among_more : {A : Type 0} (number : A → ℕ) (xs : List A) (i : ℕ) (x : A) (k : ℕ) → i < length xs → x ≡ get_or xs i x → is_among (map number (take (i + 1) xs)) k ≡ (nat_eq k (number x) || is_among (map number (take i xs)) k)
among_more {A} number xs i x k l e =
    ap (λ ks. is_among ks k) (map_more number xs i x l)
    ∙ list_any-append (nat_eq k) (map number (take i xs)) (number (get_or xs i x) ∷ [])
    ∙ ap (λ b. is_among (map number (take i xs)) k || b) (last (nat_eq k (number (get_or xs i x))) ∙ ap (λ y. nat_eq k (number y)) (sym e))
    ∙ or_comm (is_among (map number (take i xs)) k) (nat_eq k (number x))
  where
    last : (b : Bool) → (b || false) ≡ b
    last true = refl
    last false = refl

pub AreMarks-more : {A : Type 0} (number : A → ℕ) (xs : List A) (i : ℕ) (x : A) (marks : List Bool) → i < length xs → x ≡ get_or xs i x → AreMarks marks (number x ∷ map number (take i xs)) → AreMarks marks (map number (take (i + 1) xs))
AreMarks-more number xs i x marks l e h = record { each = λ k m. h.each k m ∙ sym (among_more number xs i x k l e) }

-- the parts of a node
pub marked_parts : (marks new : List Bool) (numbers : List ℕ) (n : ℕ) (node : Node) → AreMarks marks numbers → n < length marks → has_mark marks n ≡ true → AreMarks new (node.low ∷ node.high ∷ numbers) → AreMarks new (with_parts n node numbers)
marked_parts marks new numbers n node h l e m =
    let t : is_among numbers n ≡ true = sym (h.each n l) ∙ e in
    rw t m

pub unmarked_parts : (marks : List Bool) (numbers : List ℕ) (n : ℕ) (node : Node) → AreMarks marks numbers → n < length marks → has_mark marks n ≡ false → AreMarks marks (with_parts n node numbers)
unmarked_parts marks numbers n node h l e =
    let t : is_among numbers n ≡ false = sym (h.each n l) ∙ e in
    rw t h

-- the last nodes, one more
pub reached-more : (numbers : List ℕ) (nodes : List Node) (n left next : ℕ) (d : Node) → left ≡ next + 1 → next < length nodes → reached numbers (next + n) (drop next nodes) ≡ with_parts (next + n) (get_or nodes next d) (reached numbers (left + n) (drop left nodes))
reached-more numbers [] n left next d e l = absurd (omega (arith, l))
reached-more numbers (x ∷ xs) n zero next d e l = absurd (omega (arith, e))
reached-more numbers (x ∷ xs) n (suc left) zero d e l =
    let none : left ≡ 0 = omega (arith, e) in
    let here : 0 + n ≡ n = omega arith in
    let there : suc n ≡ suc left + n = omega (arith, none) in
    (λ i. reached numbers (here i) (x ∷ xs)) ∙ (λ i. with_parts (sym here i) x (reached numbers (there i) (drop (sym none i) xs)))
reached-more numbers (x ∷ xs) n (suc left) (suc next) d e l =
    let first : suc next + n ≡ next + suc n = omega arith in
    let later : left + suc n ≡ suc left + n = omega arith in
    (λ i. reached numbers (first i) (drop next xs))
    ∙ reached-more numbers xs (suc n) left next d (omega (arith, e)) (omega (arith, l))
    ∙ (λ i. with_parts (sym first i) (get_or xs next d) (reached numbers (later i) (drop left xs)))

-- no node at first
pub reached_none : (marks : List Bool) (numbers : List ℕ) (n left : ℕ) (nodes : List Node) → length nodes ≤ left → AreMarks marks numbers → AreMarks marks (reached numbers n (drop left nodes))
reached_none marks numbers n left nodes l h = subst (λ xs. AreMarks marks (reached numbers n xs)) (sym (drop_all left nodes l)) h

-- ---- edges lead to no others

or_right : (a b : Bool) → b ≡ true → (a || b) ≡ true
or_right true b e = refl
or_right false b e = e

other_number : (k j : ℕ) → j < k → nat_eq k j ≡ false
other_number k j l = grind (arith, nat_tests)

same_number : (k : ℕ) → nat_eq k k ≡ true
same_number k = grind (arith, nat_tests)

-- what was there stays
still : (n : ℕ) (node : Node) (numbers : List ℕ) (k : ℕ) → is_among numbers k ≡ true → is_among (with_parts n node numbers) k ≡ true
still n node numbers k e = by (is_among numbers n) refl
  where
    by : (t : Bool) → is_among numbers n ≡ t → is_among (with_parts n node numbers) k ≡ true
    by true t = rw t (or_right (nat_eq k node.low) (nat_eq k node.high || is_among numbers k) (or_right (nat_eq k node.high) (is_among numbers k) e))
    by false t = rw t e

pub among_reached : (numbers : List ℕ) (n : ℕ) (nodes : List Node) (k : ℕ) → is_among numbers k ≡ true → is_among (reached numbers n nodes) k ≡ true
among_reached numbers n [] k e = e
among_reached numbers n (x ∷ xs) k e = still n x (reached numbers (suc n) xs) k (among_reached numbers (suc n) xs k e)

-- the parts of nodes that are numbered from a number on have lesser numbers
abbrev pub PartsFall : ℕ → List Node → Type 0
PartsFall n [] = Unit {0}
PartsFall n (node ∷ nodes) = ((node.low < n) × (node.high < n)) × PartsFall (suc n) nodes

pub record HasParts (numbers : List ℕ) (node : Node) : Type 0 where
  pub low : is_among numbers node.low ≡ true
  pub high : is_among numbers node.high ≡ true

-- a later number was there before
before_parts : (n : ℕ) (node : Node) (numbers : List ℕ) (k : ℕ) → node.low < k → node.high < k → is_among (with_parts n node numbers) k ≡ true → is_among numbers k ≡ true
before_parts n node numbers k l h e = by (is_among numbers n) refl
  where
    by : (t : Bool) → is_among numbers n ≡ t → is_among numbers k ≡ true
    by true t =
        let there : is_among (node.low ∷ node.high ∷ numbers) k ≡ true = ap (λ b. is_among (if b then node.low ∷ node.high ∷ numbers else numbers) k) (sym t) ∙ e in
        (λ i. sym (other_number k node.low l) i || (sym (other_number k node.high h) i || is_among numbers k)) ∙ there
    by false t = ap (λ b. is_among (if b then node.low ∷ node.high ∷ numbers else numbers) k) (sym t) ∙ e

-- so with a node its parts are reached
pub reached_closed : (numbers : List ℕ) (n : ℕ) (nodes : List Node) → PartsFall n nodes → (i k : ℕ) (node : Node) → k ≡ i + n → slice_get nodes i ≡ Some node → is_among (reached numbers n nodes) k ≡ true → HasParts (reached numbers n nodes) node
reached_closed numbers n [] p i k node e s h = cc
reached_closed numbers n (x ∷ xs) p zero k node e s h =
    let at_n : k ≡ n = omega (arith, e) in
    let same : x ≡ node = cc in
    let later = reached numbers (suc n) xs in
    let P : Node → Type 0 = λ y. HasParts (with_parts n x later) y in
    subst P same (by later (is_among later n) refl (ap (λ j. is_among (with_parts n x later) j) (sym at_n) ∙ h))
  where
    by : (later : List ℕ) (t : Bool) → is_among later n ≡ t → is_among (with_parts n x later) n ≡ true → HasParts (with_parts n x later) x
    by later true t there =
        let low : is_among (x.low ∷ x.high ∷ later) x.low ≡ true = ap (λ b. b || is_among (x.high ∷ later) x.low) (same_number x.low) in
        let high : is_among (x.low ∷ x.high ∷ later) x.high ≡ true = or_right (nat_eq x.high x.low) (nat_eq x.high x.high || is_among later x.high) (ap (λ b. b || is_among later x.high) (same_number x.high)) in
        rw t (record { low = low; high = high })
    by later false t there =
        let stays : with_parts n x later ≡ later = ap (λ b. if b then x.low ∷ x.high ∷ later else later) t in
        let wrong : true ≡ false = sym there ∙ ap (λ ks. is_among ks n) stays ∙ t in
        absurd (cc (wrong))
reached_closed numbers n (x ∷ xs) p (suc i) k node e s h =
    let later = reached numbers (suc n) xs in
    let low : x.low < k = omega (arith, e, p.0.0) in
    let high : x.high < k = omega (arith, e, p.0.1) in
    let parts = reached_closed numbers (suc n) xs p.1 i k node (omega (arith, e)) s (before_parts n x later k low high h) in
    record { low = still n x later node.low parts.low; high = still n x later node.high parts.high }

-- ---- what is kept by two tests that agree

pub kept_alike : {B : Type 0} (p q : ℕ → Bool) (f : ℕ → Node → List B) (n : ℕ) (nodes : List Node) → ((k : ℕ) → k < length nodes + n → p k ≡ q k) → numbered (kept p f) n nodes ≡ numbered (kept q f) n nodes
kept_alike p q f n [] h = refl
kept_alike p q f n (x ∷ xs) h =
    let here : p n ≡ q n = h n (omega arith) in
    let rest = kept_alike p q f (suc n) xs (λ k l. h k (omega (arith, l))) in
    λ i. (if here i then f n x else []) ++ rest i
