-- Values that are copied from one array to another.
use Rattle.std.proofs.Common.{◌≡◌, ℕ, ◌+◌, ◌<◌, ◌≤◌, Bool, true, false, List, [], ◌∷◌, ◌++◌, length, drop, take, get_or, refl, sym, ap, ◌∙◌, arith, append_assoc}
use Rattle.std.specs.Prelude.{cond, min, ◌==◌}
use Rattle.std.specs.List.{take_while}
use Rattle.std.proofs.lemmas.List.{append-nil, drop-map, drop_all, drop_min, get_or-map, length-map, map-append, length-take, take-map, take_min, take_more}
use Rattle.std.proofs.lemmas.List.Sums.{take_while-cons}
use Rattle.vx_java.specs.Library.{cells_with, copy_outcome}
use Rattle.vx_java.specs.Machine as machine
use Rattle.vx_java.specs.Machine.{Here, in_state, object_at, with_cells}
use Rattle.vx_plain.specs.Views.{value_of, values_of}
use Rattle.vx_plain.specs.declared.value.Value.{Value}
use Rattle.vx_plain_here.proofs.Matching.{value_here}
use Rattle.vx_plain_natives.specs.Copying.{copied, fitting}

put : (cells values : List Value) (at n : ℕ) → n ≡ at + length values → values_of (take at cells ++ (values ++ drop n cells)) ≡ cells_with (values_of cells) at (values_of values)
put cells values at n is =
    map-append value_of (take at cells) (values ++ drop n cells)
    ∙ ap (λ rest. values_of (take at cells) ++ rest) (map-append value_of values (drop n cells))
    ∙ ap (λ front. front ++ (values_of values ++ values_of (drop n cells))) (sym (take-map value_of at cells))
    ∙ ap (λ behind. take at (values_of cells) ++ (values_of values ++ behind)) (sym (drop-map value_of n cells))
    ∙ ap (λ k. take at (values_of cells) ++ (values_of values ++ drop k (values_of cells))) (is ∙ ap (λ k. at + k) (sym (length-map values value_of)))

-- values that are put over those from a place on, as far as there are any
pub values_put : (cells values : List Value) (at front behind : ℕ) → front ≡ min at (length cells) → behind ≡ min (at + length values) (length cells)
    → values_of (take front cells ++ (values ++ drop behind cells)) ≡ cells_with (values_of cells) at (values_of values)
values_put cells values at front behind front_is behind_is =
    ap (λ k. values_of (take k cells ++ (values ++ drop behind cells))) front_is
    ∙ ap (λ before. values_of (before ++ (values ++ drop behind cells))) (take_min at cells)
    ∙ ap (λ k. values_of (take at cells ++ (values ++ drop k cells))) behind_is
    ∙ ap (λ after. values_of (take at cells ++ (values ++ after))) (drop_min (at + length values) cells)
    ∙ put cells values at (at + length values) refl

-- ---- the values up to the first that doesn't fit

tested : (p : machine.Value → Bool) (values : List Value) (i : ℕ) (d : Value) (b : Bool) → i < length values → b ≡ p (value_of (get_or values i d))
    → take_while p (values_of values) ≡ take i (values_of values) ++ take_while p (drop i (values_of values))
    → take_while p (values_of values) ≡ take i (values_of values) ++ cond b (value_of (get_or values i d) ∷ take_while p (drop (i + 1) (values_of values))) []
tested p values i d b lt test so_far =
    let v = value_of (get_or values i d) in
    let rest = drop (i + 1) (values_of values) in
    so_far ∙ ap (λ xs. take i (values_of values) ++ xs) (ap (take_while p) (value_here values i d lt) ∙ take_while-cons p v rest ∙ ap (λ t. cond t (v ∷ take_while p rest) []) (sym test))

pub one_fits : (p : machine.Value → Bool) (values : List Value) (i : ℕ) (d : Value) (b : Bool) → i < length values → b ≡ p (value_of (get_or values i d)) → b ≡ true
    → take_while p (values_of values) ≡ take i (values_of values) ++ take_while p (drop i (values_of values))
    → take_while p (values_of values) ≡ take (i + 1) (values_of values) ++ take_while p (drop (i + 1) (values_of values))
one_fits p values i d b lt test holds so_far =
    let v = value_of (get_or values i d) in
    let rest = drop (i + 1) (values_of values) in
    let within : i < length (values_of values) = omega (arith, length-map values value_of) in
    let more : take (i + 1) (values_of values) ≡ take i (values_of values) ++ v ∷ [] =
    take_more (values_of values) i (value_of d) within ∙ ap (λ x. take i (values_of values) ++ x ∷ []) (get_or-map value_of values i d (value_of d) lt)
    in
    tested p values i d b lt test so_far ∙ ap (λ t. take i (values_of values) ++ cond t (v ∷ take_while p rest) []) holds
    ∙ sym (append_assoc (take i (values_of values)) (v ∷ []) (take_while p rest))
    ∙ ap (λ front. front ++ take_while p rest) (sym more)

pub one_fails : (p : machine.Value → Bool) (values : List Value) (i : ℕ) (d : Value) (b : Bool) → i < length values → b ≡ p (value_of (get_or values i d)) → b ≡ false
    → take_while p (values_of values) ≡ take i (values_of values) ++ take_while p (drop i (values_of values))
    → take i (values_of values) ≡ take_while p (values_of values)
one_fails p values i d b lt test fails so_far =
    let v = value_of (get_or values i d) in
    let rest = drop (i + 1) (values_of values) in
    sym (tested p values i d b lt test so_far ∙ ap (λ t. take i (values_of values) ++ cond t (v ∷ take_while p rest) []) fails ∙ append-nil (take i (values_of values)))

pub all_fit : (p : machine.Value → Bool) (values : List Value) (i : ℕ) → length values ≤ i → i ≤ length values
    → take_while p (values_of values) ≡ take i (values_of values) ++ take_while p (drop i (values_of values))
    → take (length values) (values_of values) ≡ take_while p (values_of values)
all_fit p values i le ge so_far =
    let same : i ≡ length values = omega arith in
    let past : length (values_of values) ≤ i = omega (arith, length-map values value_of) in
    sym (so_far ∙ ap (λ xs. take i (values_of values) ++ take_while p xs) (drop_all i (values_of values) past) ∙ append-nil (take i (values_of values)) ∙ ap (λ n. take n (values_of values)) same)

-- ---- the values that fit are copied

pub part_values : (cells : List Value) (from count : ℕ) → values_of (take (min count (length (drop (min from (length cells)) cells))) (drop (min from (length cells)) cells)) ≡ take count (drop from (values_of cells))
part_values cells from count =
    ap values_of (ap (λ rest. take (min count (length rest)) rest) (drop_min from cells) ∙ take_min count (drop from cells))
    ∙ sym (take-map value_of count (drop from cells)) ∙ ap (take count) (sym (drop-map value_of from cells))

pub copy_there : (h : Here) (rest : List machine.Value) (to j : ℕ) (values : List Value) (k : ℕ)
    → take k (values_of values) ≡ fitting h (object_at h.state to).class (values_of values) → k ≤ length values
    → copied (in_state h (with_cells h.state to (cells_with (object_at h.state to).cells j (values_of (take k values))))) rest (k == length values)
    ≡ copy_outcome h rest to j (values_of values) (fitting h (object_at h.state to).class (values_of values))
copy_there h rest to j values k fits le =
    ap (λ fit. copied (in_state h (with_cells h.state to (cells_with (object_at h.state to).cells j fit))) rest (k == length values)) (sym (take-map value_of k values))
    ∙ ap (λ whole. copied (in_state h (with_cells h.state to (cells_with (object_at h.state to).cells j (take k (values_of values))))) rest whole) same
    ∙ ap (copy_outcome h rest to j (values_of values)) fits
  where
    len : length (values_of values) ≡ length values
    len = length-map values value_of

    many : length (take k (values_of values)) ≡ k
    many = omega (arith, length-take k (values_of values), length-map values value_of)

    same : (k == length values) ≡ (length (take k (values_of values)) == length (values_of values))
    same = λ x. sym many x == sym len x
