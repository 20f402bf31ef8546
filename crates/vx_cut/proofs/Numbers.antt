-- A number that is printed is read as it is.
use Rattle.std.proofs.Common.{rules, ◌≡◌, ◌<◌, ◌≤◌, ◌^◌, ◌+◌, ◌-◌, ◌*◌, ℕ, zero, suc, Bool, true, false, List, [], ◌∷◌, length, get_or, refl, sym, ap, ◌∙◌, arith}
use Rattle.std.specs.Prelude.{◌||◌, ◌&&◌, ◌==◌, not, nat_eq, nat_le, Option, Some, decimal, if◌then◌else◌}
use Rattle.std.specs.List.{list_all}
use Rattle.std.proofs.lemmas.Bool.Decides.{nat_tests}
use Rattle.std.proofs.lemmas.Fmt.{decimal_digit, decimal_nonempty, digits_decimal, digits_value-decimal, first_decimal}
use Rattle.std.proofs.lemmas.Str.Parse.{IsNumeralModel, numerals_by_fold}
use Rattle.vx_words.specs.Decimal as read
use Rattle.vx_words.specs.Decimal.{is_decimal, is_digit, number_from}
use Rattle.vx_words.specs.Lines.{is_blank, is_plain}
use Rattle.vx_cut.proofs.LineTexts.{both}

own : IsNumeralModel (λ ds. list_all is_digit ds ≡ true) (number_from 0)
own = numerals_by_fold _ (search rules) number_from (search rules)

pub digits_all : (n : ℕ) → n < 2 ^ 64 → list_all is_digit (decimal n) ≡ true
digits_all n h = digits_decimal own n h

no_zero : (ds : List ℕ) → 0 < length ds → 48 < get_or ds 0 0 → list_all is_digit ds ≡ true → is_decimal ds ≡ true
no_zero [] l f h = absurd (omega (arith, l))
no_zero (d ∷ ds) l f h = let e : nat_eq d 48 ≡ false = grind (arith, nat_tests) in rw (h, e) refl

pub is_printed : (n : ℕ) → n < 2 ^ 64 → is_decimal (decimal n) ≡ true
is_printed zero h = ap is_decimal (decimal_digit 0 (omega arith))
is_printed (suc n) h = no_zero (decimal (suc n)) (decimal_nonempty (suc n) h) (first_decimal (suc n) (omega arith) h) (digits_all (suc n) h)

-- the number that the digits of a number spell
pub printed_read : (n : ℕ) → n < 2 ^ 64 → read.decimal (decimal n) ≡ Some n
printed_read n h = rw (is_printed n h, digits_value-decimal own n h) refl

digit_plain : (b : ℕ) → is_digit b ≡ true → is_plain b ≡ true
digit_plain b e = grind (arith, nat_tests)

digit_no_blank : (b : ℕ) → is_digit b ≡ true → is_blank b ≡ false
digit_no_blank b e = grind (arith, nat_tests)

all_digits_plain : (ds : List ℕ) → list_all is_digit ds ≡ true → list_all is_plain ds ≡ true
all_digits_plain [] h = refl
all_digits_plain (d ∷ ds) h = let two = both (is_digit d) (list_all is_digit ds) h in rw (digit_plain d two.0, all_digits_plain ds two.1) refl

pub number_plain : (n : ℕ) → n < 2 ^ 64 → list_all is_plain (decimal n) ≡ true
number_plain n h = all_digits_plain (decimal n) (digits_all n h)
