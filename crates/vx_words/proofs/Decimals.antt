-- A number that is capped at each digit is the capped number.
use Rattle.std.proofs.lemmas.Fmt.{decimal_is_IsNumeral_wide}
use Rattle.std.specs.Str.Parse.{digits_value}
use Rattle.std.proofs.Common.{decimal, ◌≡◌, ℕ, ◌+◌, ◌-◌, ◌*◌, ◌^◌, ◌<◌, suc, List, [], ◌∷◌, min, drop, length, sym, ap, ◌∙◌, arith, add-one, drop-cons, get_or}
use Rattle.vx_words.specs.Decimal.{number_from}

pub capped_digit : (cap n d : ℕ) → min cap (10 * min cap n + d) ≡ min cap (10 * n + d)
capped_digit cap n d = omega arith

pub capped : (cap n : ℕ) (bs : List ℕ) → min cap (number_from (min cap n) bs) ≡ min cap (number_from n bs)
capped cap n [] = omega arith
capped cap n (b ∷ bs) =
    sym (capped cap (10 * min cap n + (b - 48)) bs) ∙ ap (λ m. min cap (number_from m bs)) (capped_digit cap n (b - 48)) ∙ capped cap (10 * n + (b - 48)) bs

-- one more digit
pub next_digit : (cap n m i : ℕ) (word : List ℕ) (total : ℕ) → i < length word → m ≡ min cap (10 * n + (get_or word i 0 - 48))
    → min cap (number_from n (drop i word)) ≡ total → min cap (number_from m (drop (i + 1) word)) ≡ total
next_digit cap n m i word total lt next so_far =
    let front : drop i word ≡ get_or word i 0 ∷ drop (suc i) word = drop-cons word i 0 lt in
    let e : min cap (number_from m (drop (i + 1) word)) ≡ min cap (number_from (10 * n + (get_or word i 0 - 48)) (drop (suc i) word)) =
    ap (λ k. min cap (number_from k (drop (i + 1) word))) next ∙ capped cap (10 * n + (get_or word i 0 - 48)) (drop (i + 1) word)
    ∙ ap (λ k. min cap (number_from (10 * n + (get_or word i 0 - 48)) (drop k word))) (add-one i) in
    e ∙ ap (λ bs. min cap (number_from n bs)) (sym front) ∙ so_far

-- numbers of at most 128 bits have fewer than 64 digits
pub wide : (n : ℕ) → n < 2 ^ 128 → n < 10 ^ 64
wide n h = omega (arith, h)

pub below_wide : (n : ℕ) → n < 2 ^ 64 → n < 2 ^ 128
below_wide n h = omega (arith, h)

-- numbers that are printed alike are equal
pub same_printed : (m n : ℕ) → m < 2 ^ 128 → n < 2 ^ 128 → decimal m ≡ decimal n → m ≡ n
same_printed m n h k e = sym (decimal_is_IsNumeral_wide m (wide m h)).1 ∙ ap (digits_value 10) e ∙ (decimal_is_IsNumeral_wide n (wide n k)).1
