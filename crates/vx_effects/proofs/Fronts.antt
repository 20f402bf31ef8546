-- Values of a list up to the first that does not fit, and cells that get them.
use Rattle.std.proofs.Common.{◌≡◌, ℕ, ◌+◌, ◌<◌, ◌≤◌, zero, suc, Bool, true, false, List, [], ◌∷◌, ◌++◌, ◌&&◌, refl, sym, ◌∙◌, ap, arith, drop, get_or, length, take, if◌then◌else◌}
use Rattle.std.proofs.Math.Dec.{eqb-suc-suc, eqb-zero-suc}
use Rattle.std.proofs.Math.ListN.{set}
use Rattle.std.proofs.lemmas.List.{length-drop, length-set, take-append-drop, take_more, take_more_set}
use Rattle.std.proofs.lemmas.List.Folds.{list_all-append}
use Rattle.std.proofs.lemmas.List.Sums.{take_while-cons}
use Rattle.std.proofs.lemmas.Option.{unwrap_or-slice_get}
use Rattle.std.specs.List.{list_all, take_while}
use Rattle.std.specs.Prelude.{Option, None, Some, cond, ◌==◌}
use Rattle.vx_list.specs.Places.{item_or}
use Rattle.vx_effects.specs.Copying.{front, nothing, written_from}

-- ---- one value more

none_more : {A : Type 0} (xs : List A) (x : A) → nothing (xs ++ x ∷ []) ≡ nothing xs ++ None ∷ []
none_more [] x = refl
none_more (y ∷ ys) x = ap (λ others. None ∷ others) (none_more ys x)

pub front-more : {A : Type 0} (fits : A → Bool) (xs : List A) (x : A) → front fits (xs ++ x ∷ []) ≡ front fits xs ++ (if list_all fits xs && fits x then Some x else None) ∷ []
front-more fits [] x = cases (fits x)
  where
    cases : (b : Bool) → (if b then Some x ∷ [] else None ∷ []) ≡ (if b then Some x else None) ∷ []
    cases true = refl
    cases false = refl
front-more {A = A} fits (y ∷ ys) x = cases (fits y) (front-more fits ys x)
  where
    cases : (b : Bool) → front fits (ys ++ x ∷ []) ≡ front fits ys ++ (if list_all fits ys && fits x then Some x else None) ∷ [] → (if b then Some y ∷ front fits (ys ++ x ∷ []) else None ∷ nothing (ys ++ x ∷ [])) ≡ (if b then Some y ∷ front fits ys else None ∷ nothing ys) ++ (if (b && list_all fits ys) && fits x then Some x else None) ∷ []
    cases true same = ap (λ others. Some y ∷ others) same
    cases false same = ap (λ others. None ∷ others) (none_more ys x)

pub all-more : {A : Type 0} (fits : A → Bool) (xs : List A) (x : A) → list_all fits (xs ++ x ∷ []) ≡ (list_all fits xs && fits x)
all-more fits xs x = list_all-append fits xs (x ∷ []) ∙ ap (λ b. list_all fits xs && b) (alone (fits x))
  where
    alone : (b : Bool) → (b && true) ≡ b
    alone true = refl
    alone false = refl

-- the item of a place in what stands behind another one
item_behind : {A : Type 0} (xs : List A) (from i : ℕ) (d : A) → get_or (drop from xs) i d ≡ item_or xs (from + i) d
item_behind xs zero i d = sym (unwrap_or-slice_get xs i d) ∙ ap (λ n. item_or xs n d) (omega arith)
item_behind [] (suc from) i d = refl
item_behind (x ∷ xs) (suc from) i d =
    let place : suc (from + i) ≡ suc from + i = omega arith in
    item_behind xs from i d ∙ ap (λ n. item_or (x ∷ xs) n d) place

pub part-more : {A : Type 0} (xs : List A) (from i : ℕ) (d : A) → from + i < length xs → take (i + 1) (drop from xs) ≡ take i (drop from xs) ++ item_or xs (from + i) d ∷ []
part-more xs from i d l =
    take_more (drop from xs) i d (omega (arith, l, length-drop from xs))
    ∙ ap (λ x. take i (drop from xs) ++ x ∷ []) (item_behind xs from i d)

-- ---- cells

-- one more cell that gets a value, or none
abbrev pub written_one : {A : Type 0} (cells : List A) (place : ℕ) → Option A → List A
written_one cells place None = cells
written_one cells place (Some x) = set cells place x

pub written-more : {A : Type 0} (cells : List A) (at : ℕ) (values : List (Option A)) (value : Option A) → written_from cells at (values ++ value ∷ []) ≡ written_one (written_from cells at values) (at + length values) value
written-more cells at [] None = refl
written-more cells at [] (Some x) = ap (λ n. set cells n x) (omega arith)
written-more cells at (None ∷ values) value = written-more cells (suc at) values value ∙ ap (λ n. written_one (written_from cells (suc at) values) n value) (omega arith)
written-more cells at (Some x ∷ values) value = written-more (set cells at x) (suc at) values value ∙ ap (λ n. written_one (written_from (set cells at x) (suc at) values) n value) (omega arith)

-- where none has a value nothing is written
nothing_written : {A : Type 0} (cells : List A) (at : ℕ) (xs : List A) → written_from cells at (nothing xs) ≡ cells
nothing_written cells at [] = refl
nothing_written cells at (x ∷ xs) = nothing_written cells (suc at) xs

drop_past : {A : Type 0} (cells : List A) (at n : ℕ) (x : A) → at < n → drop n (set cells at x) ≡ drop n cells
drop_past [] at n x l = refl
drop_past (y ∷ cells) at zero x l = absurd (omega (arith, l))
drop_past (y ∷ cells) zero (suc n) x l = refl
drop_past (y ∷ cells) (suc at) (suc n) x l = drop_past cells at n x (omega (arith, l))

-- cells with others from a place on, as the ordinary machine has them
abbrev pub cells_with : {A : Type 0} → List A → ℕ → List A → List A
cells_with cells at values = take at cells ++ (values ++ drop (at + length values) cells)

append-again : {A : Type 0} (xs : List A) (x : A) (ys : List A) → (xs ++ x ∷ []) ++ ys ≡ xs ++ x ∷ ys
append-again [] x ys = refl
append-again (z ∷ xs) x ys = ap (λ others. z ∷ others) (append-again xs x ys)

cells_with-cons : {A : Type 0} (cells : List A) (at : ℕ) (x : A) (values : List A) → at < length cells → cells_with (set cells at x) (suc at) values ≡ cells_with cells at (x ∷ values)
cells_with-cons cells at x values l =
    let front : take (at + 1) (set cells at x) ≡ take at cells ++ x ∷ [] = take_more_set cells at x l in
    let one : suc at ≡ at + 1 = omega arith in
    let end : suc at + length values ≡ at + suc (length values) = omega arith in
    let back = drop_past cells at (suc at + length values) x (omega arith) ∙ ap (λ n. drop n cells) end in
    (λ i. take (one i) (set cells at x) ++ (values ++ back i))
    ∙ (λ i. front i ++ (values ++ drop (at + suc (length values)) cells))
    ∙ append-again (take at cells) x (values ++ drop (at + suc (length values)) cells)

cells_with-none : {A : Type 0} (cells : List A) (at : ℕ) → cells_with cells at [] ≡ cells
cells_with-none cells at = ap (λ n. take at cells ++ drop n cells) (omega arith) ∙ take-append-drop at cells

-- the values that fit are written as the ordinary machine writes them
pub front-written : {A : Type 0} (fits : A → Bool) (xs : List A) (cells : List A) (at : ℕ) → at + length xs ≤ length cells → written_from cells at (front fits xs) ≡ cells_with cells at (take_while fits xs)
front-written fits [] cells at l = sym (cells_with-none cells at)
front-written fits (x ∷ xs) cells at l = cases (fits x) (front-written fits xs (set cells at x) (suc at) (omega (arith, l, length-set cells at x))) ∙ ap (cells_with cells at) (sym (take_while-cons fits x xs))
  where
    cases : (b : Bool) → written_from (set cells at x) (suc at) (front fits xs) ≡ cells_with (set cells at x) (suc at) (take_while fits xs) → written_from cells at (if b then Some x ∷ front fits xs else None ∷ nothing xs) ≡ cells_with cells at (cond b (x ∷ take_while fits xs) [])
    cases true behind = behind ∙ cells_with-cons cells at x (take_while fits xs) (omega (arith, l))
    cases false behind = nothing_written cells (suc at) xs ∙ sym (cells_with-none cells at)

-- all fit where as many are left
pub all_fit : {A : Type 0} (fits : A → Bool) (xs : List A) → (length (take_while fits xs) == length xs) ≡ list_all fits xs
all_fit fits [] = refl
all_fit fits (x ∷ xs) = ap (λ ys. length ys == suc (length xs)) (take_while-cons fits x xs) ∙ cases (fits x) (all_fit fits xs)
  where
    cases : (b : Bool) → (length (take_while fits xs) == length xs) ≡ list_all fits xs → (length (cond b (x ∷ take_while fits xs) []) == suc (length xs)) ≡ (b && list_all fits xs)
    cases true behind = eqb-suc-suc (length (take_while fits xs)) (length xs) ∙ behind
    cases false behind = eqb-zero-suc (length xs)

pub all_taken : {A : Type 0} (xs : List A) → take_while (λ _. true) xs ≡ xs
all_taken [] = refl
all_taken (x ∷ xs) = take_while-cons (λ _. true) x xs ∙ ap (λ others. x ∷ others) (all_taken xs)
