-- The ends and pieces of a report by their numbers.
use Rattle.std.proofs.Common.{◌≡◌, inl, inr, ℕ, ◌+◌, ◌<◌, ◌≤◌, zero, suc, Bool, true, false, List, [], ◌∷◌, length, map, take, get_or, refl, sym, ◌∙◌, ap, arith}
use Rattle.std.specs.Prelude.{cond, ◌&&◌, ◌||◌, not, nat_eq, option_map, unwrap_or}
use Rattle.std.specs.List.{AllByRecursion, count_by, list_any}
use Rattle.std.proofs.lemmas.Bool.Decides.{nat_tests}
use Rattle.std.proofs.lemmas.List.{length-map}
use Rattle.std.proofs.lemmas.List.Folds.{list_any_more}
use Rattle.std.proofs.lemmas.List.Sums.{sum_by-cons}
use Rattle.std.proofs.lemmas.Option.{slice_get-get_or, slice_get-map}
use Rattle.vx_list.specs.Places.{item_or}
use Rattle.vx_bdd_tools.specs.declared.node.Node.{Node}
use Rattle.vx_bdd_tools.specs.Nodes.{holds}
use Rattle.vx_bdd_tools.proofs.NodeSets.{order_cases}
use Rattle.vx_report.specs.declared.report.Report.{Report}
use Rattle.vx_cover.proofs.Opening.{counted}
use Rattle.vx_cover.specs.Covers.{end_nodes, has_end, has_this_end, has_this_piece, piece_nodes, some_hold}

pub and_left : (a b : Bool) → (a && b) ≡ true → a ≡ true
and_left true b t = refl
and_left false b t = t

pub and_right : (a b : Bool) → (a && b) ≡ true → b ≡ true
and_right true b t = t
and_right false b t = cc (t)

no_right : (a : Bool) → (a && false) ≡ false
no_right true = refl
no_right false = refl

-- the number that an item of a list names
pub number_at : {A : Type 0} (number : A → ℕ) (xs : List A) (i : ℕ) (x : A) → i < length xs → x ≡ get_or xs i x → item_or (map number xs) i 0 ≡ number x
number_at number xs i x l e = ap (λ o. unwrap_or o 0) (slice_get-map number xs i ∙ ap (option_map number) (slice_get-get_or xs i x l)) ∙ ap number (sym e)

item_past : (xs : List ℕ) (k : ℕ) → length xs ≤ k → item_or xs k 0 ≡ 0
item_past [] k l = refl
item_past (x ∷ xs) zero l = absurd (omega (arith, l))
item_past (x ∷ xs) (suc k) l = item_past xs k (omega (arith, l))

item_get_or : (xs : List ℕ) (i : ℕ) → i < length xs → get_or xs i 0 ≡ item_or xs i 0
item_get_or xs i l = ap (λ o. unwrap_or o 0) (sym (slice_get-get_or xs i 0 l))

-- one number more of which some may hold
pub some_hold-more : (nodes : List Node) (numbers : List ℕ) (i : ℕ) (c : List Bool) → i < length numbers → some_hold nodes (take (i + 1) numbers) c ≡ (some_hold nodes (take i numbers) c || holds nodes (item_or numbers i 0) c)
some_hold-more nodes numbers i c l = list_any_more (λ k. holds nodes k c) numbers i 0 l ∙ ap (λ k. some_hold nodes (take i numbers) c || holds nodes k c) (item_get_or numbers i l)

-- of a number past the list none is had
pub no_end : (r : Report) (index : ℕ) (c : List Bool) → length r.ends < index → has_this_end r index c ≡ false
no_end r zero c l = absurd (omega (arith, l))
no_end r (suc place) c l =
    let past : item_or (end_nodes r) place 0 ≡ 0 = item_past (end_nodes r) place (omega (arith, l, length-map r.ends (λ line. line.node))) in
    rw past (no_right (not (some_hold r.nodes (take place (end_nodes r)) c)))

pub no_piece : (r : Report) (index : ℕ) (c : List Bool) → length r.pieces < index → has_this_piece r index c ≡ false
no_piece r zero c l = absurd (omega (arith, l))
no_piece r (suc place) c l =
    let past : item_or (piece_nodes r) place 0 ≡ 0 = item_past (piece_nodes r) place (omega (arith, l, length-map r.pieces (λ piece. piece.node))) in
    rw past (no_right (has_end r c))

some_item : (p : ℕ → Bool) (xs : List ℕ) (place : ℕ) → p 0 ≡ false → p (item_or xs place 0) ≡ true → list_any p xs ≡ true
some_item p [] place z t = let wrong : false ≡ true = sym z ∙ t in cc (wrong)
some_item p (x ∷ xs) zero z t = rw t refl
some_item p (x ∷ xs) (suc place) z t = by (p x) (some_item p xs place z t)
  where
    by : (b : Bool) → list_any p xs ≡ true → (b || list_any p xs) ≡ true
    by true e = refl
    by false e = e

-- who has some end has an end
pub ended_by_end : (r : Report) (index : ℕ) (c : List Bool) → has_this_end r index c ≡ true → has_end r c ≡ true
ended_by_end r zero c t = cc (t)
ended_by_end r (suc place) c t = some_item (λ k. holds r.nodes k c) (end_nodes r) place refl (and_right (not (some_hold r.nodes (take place (end_nodes r)) c)) (holds r.nodes (item_or (end_nodes r) place 0) c) t)

pub ended_by_piece : (r : Report) (index : ℕ) (c : List Bool) → has_this_piece r index c ≡ true → has_end r c ≡ true
ended_by_piece r zero c t = cc (t)
ended_by_piece r (suc place) c t = and_left (has_end r c) (holds r.nodes (item_or (piece_nodes r) place 0) c) t

take_item : (xs : List ℕ) (p q : ℕ) → p < q → item_or (take q xs) p 0 ≡ item_or xs p 0
take_item xs p zero l = absurd (omega (arith, l))
take_item [] p (suc q) l = refl
take_item (x ∷ xs) zero (suc q) l = refl
take_item (x ∷ xs) (suc p) (suc q) l = take_item xs p q (omega (arith, l))

-- of two ends a configuration has the first alone
no_later : (r : Report) (i j : ℕ) (c : List Bool) → has_this_end r i c ≡ true → has_this_end r j c ≡ true → i < j → ⊥
no_later r zero j c t u l = cc (t)
no_later r (suc p) zero c t u l = cc (u)
no_later r (suc p) (suc q) c t u l =
    let here = and_right (not (some_hold r.nodes (take p (end_nodes r)) c)) (holds r.nodes (item_or (end_nodes r) p 0) c) t in
    let there : some_hold r.nodes (take q (end_nodes r)) c ≡ true = some_item (λ k. holds r.nodes k c) (take q (end_nodes r)) p refl (ap (λ k. holds r.nodes k c) (take_item (end_nodes r) p q (omega (arith, l))) ∙ here) in
    let none = and_left (not (some_hold r.nodes (take q (end_nodes r)) c)) (holds r.nodes (item_or (end_nodes r) q 0) c) u in
    let wrong : false ≡ true = ap not (sym there) ∙ none in
    cc (wrong)

same_end : (r : Report) (i j : ℕ) (c : List Bool) → has_this_end r i c ≡ true → has_this_end r j c ≡ true → i ≡ j
same_end r i j c t u = elim (order_cases i j) [
  | inl l ↦ absurd (no_later r i j c t u l)
  | inr m ↦ elim m [ inl l ↦ absurd (no_later r j i c u t l) | inr e ↦ e ]
]

-- so of several numbers that stand once at most one is had
pub at_most_one : (r : Report) (c : List Bool) (ns : List ℕ) → AllByRecursion (λ index. has_this_end r index c ≡ true) ns → ((k : ℕ) → has_this_end r k c ≡ true → count_by (nat_eq k) ns ≤ 1) → length ns ≤ 1
at_most_one r c [] h few = omega arith
at_most_one r c (n ∷ []) h few = omega arith
at_most_one r c (n ∷ m ∷ ns) h few =
    let same : n ≡ m = same_end r n m c h.0 h.1.0 in
    let first : count_by (nat_eq n) (n ∷ m ∷ ns) ≡ cond (nat_eq n n) 1 0 + count_by (nat_eq n) (m ∷ ns) = sum_by-cons (λ k. cond (nat_eq n k) 1 0) n (m ∷ ns) in
    let second : count_by (nat_eq n) (m ∷ ns) ≡ cond (nat_eq n m) 1 0 + count_by (nat_eq n) ns = sum_by-cons (λ k. cond (nat_eq n k) 1 0) m ns in
    let here : counted (nat_eq n n) ≡ 1 = own n in
    let there : counted (nat_eq n m) ≡ 1 = ap (λ k. counted (nat_eq n k)) (sym same) ∙ own n in
    absurd (omega (arith, few n h.0, first, second, here, there))
  where
    own : (k : ℕ) → counted (nat_eq k k) ≡ 1
    own k =
        let e : nat_eq k k ≡ true = grind (arith, nat_tests) in
        rw e refl
