-- Operands, which stand with the one on top last, by their places from the top.
use Rattle.std.proofs.Common.{◌≡◌, ℕ, ◌+◌, ◌-◌, ◌*◌, ◌<◌, ◌≤◌, List, [], ◌∷◌, ◌++◌, Some, None, length, drop, get_or, take, reverse, refl, sym, ap, ◌∙◌, arith, suc, zero, inl, inr}
use Rattle.std.specs.Prelude.{replicate, slice_get}
use Rattle.std.proofs.lemmas.Bool.{cases_lt}
use Rattle.std.proofs.lemmas.List.{drop_all, drop_at, get_or-map, get_or-reverse, length-drop, length-map, length-reverse, map-append, reverse-append, take-append-drop, take-map, take_all, take_more}
use Rattle.std.proofs.lemmas.Option.{slice_get-get_or, slice_get_past}
use Rattle.vx_java.specs.Machine as machine
use Rattle.vx_java.specs.Machine.{stack_size, width}
use Rattle.vx_plain.specs.Views.{value_of, values_of}
use Rattle.vx_plain.specs.declared.value.Value.{Value}
use Rattle.vx_plain.specs.declared.value.Value.TheVariants.{Int, Long, Null, Ref, Top}

-- the place from the top, counted from the bottom
pub top_there : (values : List Value) (k i : ℕ) (d : Value) → k < length values → i ≡ length values - 1 - k
    → Some (value_of (get_or values i d)) ≡ slice_get (reverse (values_of values)) k
top_there values k i d lt is =
    let len = length-map values value_of in
    let back = length-reverse (values_of values) in
    let within : k < length (values_of values) = omega (arith, len) in
    let within_too : k < length (reverse (values_of values)) = omega (arith, len, back) in
    let inside : i < length values = omega arith in
    let same : length (values_of values) - 1 - k ≡ i = omega (arith, len) in
    ap Some (sym (get_or-map value_of values i d (value_of d) inside)
    ∙ ap (λ j. get_or (values_of values) j (value_of d)) (sym same)
    ∙ sym (get_or-reverse (values_of values) k (value_of d) within))
    ∙ sym (slice_get-get_or (reverse (values_of values)) k (value_of d) within_too)

pub top_missing : (values : List Value) (k : ℕ) → length values ≤ k → slice_get (reverse (values_of values)) k ≡ None
top_missing values k le = slice_get_past (reverse (values_of values)) k (omega (arith, length-map values value_of, length-reverse (values_of values)))

-- so many off the top of a list that is seen from its end
dropped : (xs : List machine.Value) (k : ℕ) → reverse (take (length xs - k) xs) ≡ drop k (reverse xs)
dropped xs k =
    elim (cases_lt (length xs) k) [
      | inl lt ↦
          let none : length xs - k ≡ 0 = omega arith in
          let past : length (reverse xs) ≤ k = omega (arith, length-reverse xs) in
          ap (λ n. reverse (take n xs)) none ∙ sym (drop_all k (reverse xs) past)
      | inr le ↦
          let n = length xs - k in
          let len : length (reverse (drop n xs)) ≡ k = omega (arith, length-reverse (drop n xs), length-drop n xs) in
          let parts : reverse xs ≡ reverse (drop n xs) ++ reverse (take n xs) = ap reverse (sym (take-append-drop n xs)) ∙ reverse-append (take n xs) (drop n xs) in
          sym (ap (drop k) parts ∙ drop_at (reverse (drop n xs)) (reverse (take n xs)) k len)
    ]

pub top_dropped : (values : List Value) (k : ℕ) → reverse (values_of (take (length values - k) values)) ≡ drop k (reverse (values_of values))
top_dropped values k =
    let len = length-map values value_of in
    ap reverse (sym (take-map value_of (length values - k) values) ∙ ap (λ n. take (n - k) (values_of values)) (sym len)) ∙ dropped (values_of values) k

pub top_pushed : (values : List Value) (v : Value) → reverse (values_of (values ++ v ∷ [])) ≡ value_of v ∷ reverse (values_of values)
top_pushed values v = ap reverse (map-append value_of values (v ∷ [])) ∙ reverse-append (values_of values) (value_of v ∷ [])

-- ---- words

size-append : (xs ys : List machine.Value) → stack_size (xs ++ ys) ≡ stack_size xs + stack_size ys
size-append [] ys = omega arith
size-append (x ∷ xs) ys = omega (arith, size-append xs ys)

size-reverse : (xs : List machine.Value) → stack_size (reverse xs) ≡ stack_size xs
size-reverse [] = refl
size-reverse (x ∷ xs) = ap stack_size (reverse-append (x ∷ []) xs) ∙ size-append (reverse xs) (x ∷ []) ∙ omega (arith, size-reverse xs)

-- one value more
pub size_more : (values : List Value) (i : ℕ) (d : Value) → i < length values
    → stack_size (values_of (take (i + 1) values)) ≡ stack_size (values_of (take i values)) + width (value_of (get_or values i d))
size_more values i d lt =
    ap (λ vs. stack_size (values_of vs)) (take_more values i d lt)
    ∙ ap stack_size (map-append value_of (take i values) (get_or values i d ∷ []))
    ∙ size-append (values_of (take i values)) (value_of (get_or values i d) ∷ [])
    ∙ omega arith

pub width_most : (v : Value) → width (value_of v) ≤ 2
width_most Top = omega arith
width_most (Int n) = omega arith
width_most (Long n) = omega arith
width_most Null = omega arith
width_most (Ref r) = omega arith

pub width_small : (n : ℕ) (v : Value) → n ≡ width (value_of v) → n ≤ 2
width_small n v is = omega (arith, is, width_most v)

pub size_most : (values : List Value) → stack_size (values_of values) ≤ 2 * length values
size_most [] = omega arith
size_most (v ∷ values) = omega (arith, width_most v, size_most values)

pub words_below : (values : List Value) (above : ℕ) → stack_size (values_of (take (length values - above) values)) ≡ stack_size (drop above (reverse (values_of values)))
words_below values above =
    sym (size-reverse (values_of (take (length values - above) values))) ∙ ap stack_size (top_dropped values above)

-- ---- locals

-- up to a number, where none of those behind the first ones is set
pub filled : (first : List Value) (n number : ℕ) → n ≡ length first + (number - length first)
    → values_of (take n first ++ replicate (n - length first) Top) ≡ values_of first ++ replicate (number - length (values_of first)) machine.Top
filled first n number is =
    map-append value_of (take n first) (replicate (n - length first) Top)
    ∙ ap (λ front. values_of front ++ values_of (replicate (n - length first) Top)) (take_all n first (omega arith))
    ∙ ap (λ tops. values_of first ++ tops) (tops (n - length first) ∙ ap (λ m. replicate m machine.Top) (omega (arith, length-map first value_of)))
  where
    tops : (n : ℕ) → values_of (replicate n Top) ≡ replicate n machine.Top
    tops zero = refl
    tops (suc n) = ap (λ vs. machine.Top ∷ vs) (tops n)
