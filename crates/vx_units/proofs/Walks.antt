-- Walks over the units of a text, from the front to the back.
use Rattle.std.proofs.Common.{◌≡◌, ◌+◌, ◌*◌, ◌-◌, ◌/◌, ◌%◌, ◌<◌, ◌≤◌, ◌≢◌, Bool, List, None, Option, Some, [], add-one, ap, arith, drop, drop-cons, false, get_or, length, length-drop, min, refl, reverse, suc, sym, true, zero, ◌++◌, ◌∙◌, ◌∷◌, ℕ}
use Rattle.std.proofs.lemmas.Bool.{eq-eqb, le-leb, le-ltb, leb-false, leb-true, lt-leb, lt-ltb, ne_eqb}
use Rattle.std.proofs.lemmas.Int.{ints}
use Rattle.std.proofs.lemmas.List.{drop-drop, drop_all, reverse-append}
use Rattle.std.specs.Int.{int_wrapping_add, int_wrapping_mul, w32}
use Rattle.std.specs.List.{starts_with}
use Rattle.std.specs.Prelude.{codes, nat_eq, nat_le, neg_ℤ, negsuc, option_and_then, option_map, pos, ℤ, ◌&&◌, ◌-ℤ◌, ◌<ℤ◌, ◌==◌}
use Rattle.vx_java.specs.Library.{digits_value, some_digits}
use Rattle.vx_java.specs.Texts.{bool_text, hash_after, place_of, reversed_onto, text_difference, units_of_point}
use Rattle.vx_units.specs.Numbers.{if_int, int_in}
use Rattle.vx_units.specs.Pairs.{begins_with_pair}

-- the units from a place on, where there is one
from_place : (units : List ℕ) (i : ℕ) → i < length units → drop i units ≡ get_or units i 0 ∷ drop (i + 1) units
from_place units i lt = drop-cons units i 0 lt ∙ ap (λ k. get_or units i 0 ∷ drop k units) (sym (add-one i))

-- ---- hash codes

pub next_hash : (sum made : ℤ) (units : List ℕ) (i : ℕ) (total : ℤ) → i < length units
    → made ≡ int_wrapping_add w32 (int_wrapping_mul w32 sum (pos 31)) (pos (get_or units i 0))
    → hash_after sum (drop i units) ≡ total → hash_after made (drop (i + 1) units) ≡ total
next_hash sum made units i total lt is so_far =
    ap (λ z. hash_after z (drop (i + 1) units)) is ∙ ap (hash_after sum) (sym (from_place units i lt)) ∙ so_far

pub last_hash : (sum : ℤ) (units : List ℕ) (i : ℕ) (total : ℤ) → length units ≤ i → hash_after sum (drop i units) ≡ total → sum ≡ total
last_hash sum units i total le so_far = ap (hash_after sum) (sym (drop_all i units le)) ∙ so_far

-- ---- differences

pub longer : (first second : List ℕ) (i : ℕ) → i < length first → length second ≤ i → text_difference (drop i first) (drop i second) ≡ pos (length first) -ℤ pos i
longer first second i lt le =
    let len : length (drop (i + 1) first) ≡ length first - (i + 1) = length-drop (i + 1) first in
    rw (from_place first i lt, drop_all i second le) (omega (arith, ints, len))

both_from : (first second : List ℕ) (i : ℕ) → i < length first → i < length second
    → text_difference (drop i first) (drop i second) ≡ text_difference (get_or first i 0 ∷ drop (i + 1) first) (get_or second i 0 ∷ drop (i + 1) second)
both_from first second i lt lt2 =
    ap (λ xs. text_difference xs (drop i second)) (from_place first i lt)
    ∙ ap (text_difference (get_or first i 0 ∷ drop (i + 1) first)) (from_place second i lt2)

by_test : (first second : List ℕ) (i : ℕ) (b : Bool) → (get_or first i 0 == get_or second i 0) ≡ b
    → text_difference (get_or first i 0 ∷ drop (i + 1) first) (get_or second i 0 ∷ drop (i + 1) second)
    ≡ elim b [ true ↦ text_difference (drop (i + 1) first) (drop (i + 1) second) | false ↦ pos (get_or first i 0) -ℤ pos (get_or second i 0) ]
by_test first second i b test =
    ap (λ t. elim t [ true ↦ text_difference (drop (i + 1) first) (drop (i + 1) second) | false ↦ pos (get_or first i 0) -ℤ pos (get_or second i 0) ]) test

pub differing : (first second : List ℕ) (i : ℕ) → i < length first → i < length second → get_or first i 0 ≢ get_or second i 0
    → text_difference (drop i first) (drop i second) ≡ pos (get_or first i 0) -ℤ pos (get_or second i 0)
differing first second i lt lt2 ne =
    let test : (get_or first i 0 == get_or second i 0) ≡ false = ne_eqb (get_or first i 0) (get_or second i 0) ne in
    both_from first second i lt lt2 ∙ by_test first second i false test

pub like : (first second : List ℕ) (i : ℕ) → i < length first → i < length second → get_or first i 0 ≡ get_or second i 0
    → text_difference (drop i first) (drop i second) ≡ text_difference (drop (i + 1) first) (drop (i + 1) second)
like first second i lt lt2 same =
    let test : (get_or first i 0 == get_or second i 0) ≡ true = eq-eqb (get_or first i 0) (get_or second i 0) same in
    both_from first second i lt lt2 ∙ by_test first second i true test

pub at_end : (first second : List ℕ) (i : ℕ) → length first ≤ i → i ≤ length first → i ≤ length second → text_difference (drop i first) (drop i second) ≡ pos (length first) -ℤ pos (length second)
at_end first second i le ge within =
    let len : length (drop i second) ≡ length second - i = length-drop i second in
    rw (drop_all i first le) (omega (arith, ints, len))

-- ---- places

starting : (text units : List ℕ) (i : ℕ) (b : Bool) → i < length units → starts_with nat_eq (drop i units) text ≡ b
    → place_of i text (drop i units) ≡ elim b [ true ↦ pos i | false ↦ place_of (suc i) text (drop (i + 1) units) ]
starting text units i b lt test =
    let e = from_place units i lt in
    let starts : starts_with nat_eq (get_or units i 0 ∷ drop (i + 1) units) text ≡ b = ap (λ xs. starts_with nat_eq xs text) (sym e) ∙ test in
    ap (place_of i text) e ∙ ap (λ t. elim t [ true ↦ pos i | false ↦ place_of (suc i) text (drop (i + 1) units) ]) starts

pub found_here : (text units : List ℕ) (i : ℕ) → i < length units → starts_with nat_eq (drop i units) text ≡ true → place_of i text (drop i units) ≡ pos i
found_here text units i lt test = starting text units i true lt test

pub not_here : (text units : List ℕ) (i : ℕ) → i < length units → starts_with nat_eq (drop i units) text ≡ false → place_of i text (drop i units) ≡ place_of (i + 1) text (drop (i + 1) units)
not_here text units i lt test = starting text units i false lt test ∙ ap (λ k. place_of k text (drop (i + 1) units)) (sym (add-one i))

pub found_behind : (text units : List ℕ) (i : ℕ) → length units ≤ i → i ≤ length units → place_of i text (drop i units) ≡ place_of (length units) text []
found_behind text units i le ge =
    let same : i ≡ length units = omega arith in
    ap (λ xs. place_of i text xs) (drop_all i units le) ∙ ap (λ k. place_of k text []) same

pub one_unit : (n : ℕ) → n < 65536 → units_of_point (pos n) ≡ n ∷ []
one_unit n lt = rw (lt-ltb n 65536 lt) refl

pub two_units : (n : ℕ) → 65536 ≤ n → n ≤ 1114111 → units_of_point (pos n) ≡ (55296 + (n - 65536) / 1024) ∷ (56320 + (n - 65536) % 1024) ∷ []
two_units n low high =
    let within : n < 1114112 = omega arith in
    rw (le-ltb n 65536 low, lt-ltb n 1114112 within) refl

pub no_units : (n : ℕ) → 1114111 < n → units_of_point (pos n) ≡ []
no_units n lt =
    let low : 65536 ≤ n = omega arith in
    let above : 1114112 ≤ n = omega arith in
    rw (le-ltb n 65536 low, le-ltb n 1114112 above) refl

pub negative_point : (z : ℤ) → z <ℤ pos 0 → units_of_point z ≡ []
negative_point (pos n) lt = absurd (omega (arith, ints, lt))
negative_point (negsuc n) lt = refl

-- ---- pairs

pub no_pair : (units : List ℕ) → length units < 2 → begins_with_pair units ≡ false
no_pair [] lt = refl
no_pair (u ∷ []) lt = refl
no_pair (u ∷ v ∷ units) lt = absurd (omega arith)

paired : (done units : List ℕ) → begins_with_pair units ≡ true → reversed_onto done units ≡ reversed_onto (get_or units 0 0 ∷ get_or units 1 0 ∷ done) (drop 2 units)
paired done [] test = absurd cc
paired done (u ∷ []) test = absurd cc
paired done (u ∷ v ∷ units) test = ap (λ b. elim b [ true ↦ reversed_onto (u ∷ v ∷ done) units | false ↦ reversed_onto (u ∷ done) (v ∷ units) ]) test

alone : (done units : List ℕ) → 0 < length units → begins_with_pair units ≡ false → reversed_onto done units ≡ reversed_onto (get_or units 0 0 ∷ done) (drop 1 units)
alone done [] lt test = absurd (omega arith)
alone done (u ∷ []) lt test = refl
alone done (u ∷ v ∷ units) lt test = ap (λ b. elim b [ true ↦ reversed_onto (u ∷ v ∷ done) units | false ↦ reversed_onto (u ∷ done) (v ∷ units) ]) test

pub pair_is_long : (units : List ℕ) → begins_with_pair units ≡ true → 2 ≤ length units
pair_is_long [] test = absurd cc
pair_is_long (u ∷ []) test = absurd cc
pair_is_long (u ∷ v ∷ units) test = omega arith

reverse_two : (made : List ℕ) (a b : ℕ) → reverse ((made ++ a ∷ []) ++ b ∷ []) ≡ b ∷ a ∷ reverse made
reverse_two made a b = reverse-append (made ++ a ∷ []) (b ∷ []) ∙ ap (λ xs. b ∷ xs) (reverse-append made (a ∷ []))

reverse_one : (made : List ℕ) (a : ℕ) → reverse (made ++ a ∷ []) ≡ a ∷ reverse made
reverse_one made a = reverse-append made (a ∷ [])

pub pair_put : (made units : List ℕ) (place : ℕ) → begins_with_pair (drop place units) ≡ true
    → reversed_onto (reverse ((made ++ get_or (drop place units) 1 0 ∷ []) ++ get_or (drop place units) 0 0 ∷ [])) (drop (place + 2) units)
    ≡ reversed_onto (reverse made) (drop place units)
pair_put made units place test =
    let left = drop place units in
    ap (λ xs. reversed_onto xs (drop (place + 2) units)) (reverse_two made (get_or left 1 0) (get_or left 0 0))
    ∙ ap (λ xs. reversed_onto (get_or left 0 0 ∷ get_or left 1 0 ∷ reverse made) xs) (sym (drop-drop 2 place units))
    ∙ sym (paired (reverse made) left test)

pub unit_put : (made units : List ℕ) (place : ℕ) → place < length units → begins_with_pair (drop place units) ≡ false
    → reversed_onto (reverse (made ++ get_or (drop place units) 0 0 ∷ [])) (drop (place + 1) units) ≡ reversed_onto (reverse made) (drop place units)
unit_put made units place lt test =
    let left = drop place units in
    let some : 0 < length left = omega (arith, length-drop place units) in
    ap (λ xs. reversed_onto xs (drop (place + 1) units)) (reverse_one made (get_or left 0 0))
    ∙ ap (λ xs. reversed_onto (get_or left 0 0 ∷ reverse made) xs) (sym (drop-drop 1 place units))
    ∙ sym (alone (reverse made) left some test)

pub all_put : (done units : List ℕ) (place : ℕ) → length units ≤ place → reversed_onto done (drop place units) ≡ done
all_put done units place le = ap (reversed_onto done) (drop_all place units le)

-- ---- digits

one_digit : (most n u : ℕ) → min most (10 * min most n + (u - 48)) ≡ min most (10 * n + (u - 48))
one_digit most n u = omega arith

digits_step : (most n u : ℕ) (units : List ℕ) (b : Bool)
    → ((m : ℕ) → option_map (min most) (digits_value (min most m) units) ≡ option_map (min most) (digits_value m units))
    → option_map (min most) (elim b [ true ↦ digits_value (10 * min most n + (u - 48)) units | false ↦ None ])
    ≡ option_map (min most) (elim b [ true ↦ digits_value (10 * n + (u - 48)) units | false ↦ None ])
digits_step most n u units false rest = refl
digits_step most n u units true rest =
    sym (rest (10 * min most n + (u - 48))) ∙ ap (λ m. option_map (min most) (digits_value m units)) (one_digit most n u) ∙ rest (10 * n + (u - 48))

pub capped_digits : (most n : ℕ) (units : List ℕ) → option_map (min most) (digits_value (min most n) units) ≡ option_map (min most) (digits_value n units)
capped_digits most n [] = let e : min most (min most n) ≡ min most n = omega arith in ap Some e
capped_digits most n (u ∷ units) = digits_step most n u units (nat_le 48 u && nat_le u 57) (λ m. capped_digits most m units)

first_digit : (n i : ℕ) (units : List ℕ) (b : Bool) → i < length units → (nat_le 48 (get_or units i 0) && nat_le (get_or units i 0) 57) ≡ b
    → digits_value n (drop i units) ≡ elim b [ true ↦ digits_value (10 * n + (get_or units i 0 - 48)) (drop (i + 1) units) | false ↦ None ]
first_digit n i units b lt test =
    ap (digits_value n) (from_place units i lt)
    ∙ ap (λ t. elim t [ true ↦ digits_value (10 * n + (get_or units i 0 - 48)) (drop (i + 1) units) | false ↦ None ]) test

-- one digit more
pub next_digit : (most n m i : ℕ) (units : List ℕ) (total : Option ℕ) → i < length units → (nat_le 48 (get_or units i 0) && nat_le (get_or units i 0) 57) ≡ true
    → m ≡ min most (10 * n + (get_or units i 0 - 48))
    → option_map (min most) (digits_value n (drop i units)) ≡ total → option_map (min most) (digits_value m (drop (i + 1) units)) ≡ total
next_digit most n m i units total lt test is so_far =
    let u = get_or units i 0 in
    let rest = drop (i + 1) units in
    let front : digits_value n (drop i units) ≡ digits_value (10 * n + (u - 48)) rest = first_digit n i units true lt test in
    ap (λ k. option_map (min most) (digits_value k rest)) is
    ∙ capped_digits most (10 * n + (u - 48)) rest
    ∙ ap (option_map (min most)) (sym front)
    ∙ so_far

-- another unit
pub no_digit : (most n i : ℕ) (units : List ℕ) (total : Option ℕ) → i < length units → (nat_le 48 (get_or units i 0) && nat_le (get_or units i 0) 57) ≡ false
    → option_map (min most) (digits_value n (drop i units)) ≡ total → None ≡ total
no_digit most n i units total lt test so_far =
    let front : digits_value n (drop i units) ≡ None = first_digit n i units false lt test in
    ap (option_map (min most)) (sym front) ∙ so_far

pub last_digit : (most n i : ℕ) (units : List ℕ) (total : Option ℕ) → n ≤ most → length units ≤ i → option_map (min most) (digits_value n (drop i units)) ≡ total → Some n ≡ total
last_digit most n i units total within le so_far =
    let e : n ≡ min most n = omega arith in
    ap Some e ∙ ap (λ xs. option_map (min most) (digits_value n xs)) (sym (drop_all i units le)) ∙ so_far

-- some units at all
pub some_units : (most : ℕ) (units : List ℕ) → 0 < length units → option_map (min most) (digits_value 0 units) ≡ option_map (min most) (some_digits units)
some_units most [] lt = absurd (omega arith)
some_units most (u ∷ units) lt = refl

-- ---- ints

pub int_fits : (n : ℕ) → n ≤ 2147483647 → if_int (pos n) ≡ Some (pos n)
int_fits n le = rw (le-leb n 2147483647 le) refl

pub int_too_large : (n : ℕ) → 2147483647 < n → if_int (pos n) ≡ None
int_too_large n lt = rw (lt-leb n 2147483647 lt) refl

pub negative_fits : (n : ℕ) → n ≤ 2147483648 → if_int (neg_ℤ (pos n)) ≡ Some (neg_ℤ (pos n))
negative_fits zero le = refl
negative_fits (suc n) le = let fits : n ≤ 2147483647 = omega arith in rw (le-leb n 2147483647 fits) refl

pub negative_too_large : (n : ℕ) → 2147483648 < n → if_int (neg_ℤ (pos n)) ≡ None
negative_too_large zero lt = absurd (omega arith)
negative_too_large (suc n) lt = let large : 2147483647 < n = omega arith in rw (lt-leb n 2147483647 large) refl

-- a number that is capped above all ints is as it was
pub capped_int : (number : Option ℕ) → option_and_then if_int (option_map (λ n. pos n) (option_map (min 4294967296) number)) ≡ option_and_then if_int (option_map (λ n. pos n) number)
capped_int None = refl
capped_int (Some n) = by_size (nat_le n 2147483647) refl
  where
    by_size : (b : Bool) → nat_le n 2147483647 ≡ b → if_int (pos (min 4294967296 n)) ≡ if_int (pos n)
    by_size true e =
        let le = leb-true n 2147483647 e in
        let same : min 4294967296 n ≡ n = omega (arith, le) in
        ap (λ k. if_int (pos k)) same
    by_size false e =
        let lt = leb-false n 2147483647 e in
        let large : 2147483647 < min 4294967296 n = omega (arith, lt) in
        int_too_large (min 4294967296 n) large ∙ sym (int_too_large n lt)

pub capped_negative : (number : Option ℕ) → option_and_then if_int (option_map (λ n. neg_ℤ (pos n)) (option_map (min 4294967296) number)) ≡ option_and_then if_int (option_map (λ n. neg_ℤ (pos n)) number)
capped_negative None = refl
capped_negative (Some n) = by_size (nat_le n 2147483648) refl
  where
    by_size : (b : Bool) → nat_le n 2147483648 ≡ b → if_int (neg_ℤ (pos (min 4294967296 n))) ≡ if_int (neg_ℤ (pos n))
    by_size true e =
        let le = leb-true n 2147483648 e in
        let same : min 4294967296 n ≡ n = omega (arith, le) in
        ap (λ k. if_int (neg_ℤ (pos k))) same
    by_size false e =
        let lt = leb-false n 2147483648 e in
        let large : 2147483648 < min 4294967296 n = omega (arith, lt) in
        negative_too_large (min 4294967296 n) large ∙ sym (negative_too_large n lt)

-- ---- signs

pub minus : (units : List ℕ) → 0 < length units → get_or units 0 0 ≡ 45
    → option_and_then if_int (option_map (λ n. neg_ℤ (pos n)) (option_map (min 4294967296) (some_digits (drop 1 units)))) ≡ int_in units
minus [] lt is = absurd (omega arith)
minus (u ∷ units) lt is =
    let test : (u == 45) ≡ true = eq-eqb u 45 is in
    capped_negative (some_digits units) ∙ rw test refl

pub plus : (units : List ℕ) → 0 < length units → get_or units 0 0 ≡ 43
    → option_and_then if_int (option_map (λ n. pos n) (option_map (min 4294967296) (some_digits (drop 1 units)))) ≡ int_in units
plus [] lt is = absurd (omega arith)
plus (u ∷ units) lt is =
    let other : (u == 45) ≡ false = ne_eqb u 45 (λ e. absurd (omega (arith, e, is))) in
    let test : (u == 43) ≡ true = eq-eqb u 43 is in
    capped_int (some_digits units) ∙ rw (other, test) refl

pub plain : (units : List ℕ) → 0 < length units → get_or units 0 0 ≢ 45 → get_or units 0 0 ≢ 43
    → option_and_then if_int (option_map (λ n. pos n) (option_map (min 4294967296) (some_digits units))) ≡ int_in units
plain [] lt first second = absurd (omega arith)
plain (u ∷ units) lt first second =
    let other : (u == 45) ≡ false = ne_eqb u 45 first in
    let another : (u == 43) ≡ false = ne_eqb u 43 second in
    capped_int (some_digits (u ∷ units)) ∙ rw (other, another) refl

-- ---- texts of truths

pub truth : (n : ℤ) → (n ≡ pos 0 → ⊥) → bool_text n ≡ codes "true"
truth (pos zero) other = absurd (other refl)
truth (pos (suc n)) other = refl
truth (negsuc n) other = refl
