-- What is read is spelled so.
use Rattle.std.specs.Prelude.{◌≡◌, ℕ, ◌+◌, ◌*◌, ◌<◌, ◌≤◌, ◌^◌, ◌%◌, List, [], ◌∷◌, ◌++◌, length, take, drop, Bool, true, false, Result, Ok, Err, nat_le, refl}
use Rattle.std.proofs.Common.{sym, ap, subst, ◌∙◌, inl, inr, append_assoc, length-append, arith}
use Rattle.std.proofs.lemmas.List.{take-append-drop, get_or-drop, get_or-take, get_or_past, length-take}
use Rattle.std.proofs.lemmas.Bool.{cases_lt, leb-true}
use Rattle.std.proofs.lemmas.Nat.{be_bytes_2, be_bytes_4, be_bytes_8}
use Rattle.byteorder.specs.Endian.{big_number, big_bytes}
use Rattle.byteorder.specs.Numbers.{big_from-take, big_from-lt, length-bytes_high_first}
use Rattle.vx_pool.specs.Place.{Place, IsBytes, past, file_length}
use Rattle.vx_pool.specs.Reading.{Fault, ◌>>=◌, check, number, bytes}

-- the value of a step that did not fail
pub bind_ok : {A B : Type 0} (r : Result A Fault) (f : A → Result B Fault) (y : B) → (r >>= f) ≡ Ok y → (x : A) × (r ≡ Ok x) × (f x ≡ Ok y)
bind_ok (Ok x) f y e = (x, refl, e)
bind_ok (Err d) f y e = absurd cc

-- a check that did not fail
pub check_ok : {A : Type 0} (test : Bool) (at reason : ℕ) (next : Result A Fault) (y : A) → check test at reason next ≡ Ok y → (test ≡ true) × (next ≡ Ok y)
check_ok true at reason next y e = (refl, e)
check_ok false at reason next y e = absurd cc

abbrev done : {A : Type 0} → A → Result A Fault
done x = Ok x

pub ok_is : {A : Type 0} (x y : A) → done x ≡ done y → x ≡ y
ok_is x y e = cc

IsBytes-drop : (n : ℕ) (xs : List ℕ) → IsBytes xs → IsBytes (drop n xs)
IsBytes-drop n xs h i = rw get_or-drop (h (n + i))

-- what a reader took from one place to another
pub record Took (s : Place) (text : List ℕ) (t : Place) : Type 0 where
  pub parts : s.rest ≡ text ++ t.rest
  pub at : t.at ≡ s.at + length text
  pub rest_fits : IsBytes t.rest

pub Took-then : (s t u : Place) (x y : List ℕ) → Took s x t → Took t y u → Took s (x ++ y) u
Took-then s t u x y p q = record {
  parts = p.parts ∙ ap (λ (r : List ℕ). x ++ r) q.parts ∙ sym (append_assoc x y u.rest);
  at = omega (arith, p.at, q.at, length-append x y);
  rest_fits = q.rest_fits;
}

-- the widths of numbers
pub record IsWidth (n : ℕ) : Type 0 where
  pub back : (xs : List ℕ) → n ≤ length xs → IsBytes xs → big_bytes n (big_number n xs) ≡ take n xs

IsBytes-take : (n : ℕ) (xs : List ℕ) → IsBytes xs → IsBytes (take n xs)
IsBytes-take n xs h i =
    elim (cases_lt i n) [
      | inl lt ↦ rw (get_or-take n xs i 0 lt) (h i)
      | inr le ↦ rw (get_or_past (take n xs) i 0 (omega (arith, length-take n xs))) (omega arith)
    ]

pub width1 : IsWidth 1
width1 = record { back = λ xs le fits. back1 xs le fits }
  where
    back1 : (xs : List ℕ) → 1 ≤ length xs → IsBytes xs → big_bytes 1 (big_number 1 xs) ≡ take 1 xs
    back1 [] le fits = absurd (omega arith)
    back1 (a ∷ xs) le fits = let lt : a < 256 = fits 0 in let e : (a * 1 + 0) % 256 ≡ a = omega arith in ap (λ (n : ℕ). n ∷ []) e

pub width2 : IsWidth 2
width2 = record { back = λ xs le fits. be_bytes_2 (take 2 xs) (big_number 2 xs) (omega (arith, length-take 2 xs)) (IsBytes-take 2 xs fits) (sym (big_from-take 0 2 2 xs (omega arith)) ∙ omega arith) }

pub width4 : IsWidth 4
width4 = record { back = λ xs le fits. be_bytes_4 (take 4 xs) (big_number 4 xs) (omega (arith, length-take 4 xs)) (IsBytes-take 4 xs fits) (sym (big_from-take 0 4 4 xs (omega arith)) ∙ omega arith) }

pub width8 : IsWidth 8
width8 = record { back = λ xs le fits. be_bytes_8 (take 8 xs) (big_number 8 xs) (omega (arith, length-take 8 xs)) (IsBytes-take 8 xs fits) (sym (big_from-take 0 8 8 xs (omega arith)) ∙ omega arith) }

-- ---- numbers and bytes

pub number_took : (n : ℕ) (s t : Place) (x : ℕ) → IsWidth n → IsBytes s.rest → number n s ≡ Ok (x, t) → Took s (big_bytes n x) t × (x < 256 ^ n)
unfolding number
number_took n s t x width fits e =
    let c = check_ok (nat_le n (length s.rest)) (file_length s) 3 (Ok (big_number n s.rest, past n s)) (x, t) e in
    let le : n ≤ length s.rest = leb-true n (length s.rest) c.0 in
    let made : ℕ × Place = (big_number n s.rest, past n s) in
    subst (λ (y : ℕ × Place). Took s (big_bytes n y.0) y.1 × (y.0 < 256 ^ n)) (ok_is made (x, t) c.1) (
      record {
        parts = sym (take-append-drop n s.rest) ∙ ap (λ (r : List ℕ). r ++ drop n s.rest) (sym (width.back s.rest le fits));
        at = ap (λ (k : ℕ). s.at + k) (sym (length-bytes_high_first n (big_number n s.rest)));
        rest_fits = IsBytes-drop n s.rest fits;
      },
      big_from-lt 0 n s.rest fits,
    )

pub bytes_took : (n : ℕ) (s t : Place) (x : List ℕ) → IsBytes s.rest → bytes n s ≡ Ok (x, t) → Took s x t × (length x ≡ n)
unfolding bytes
bytes_took n s t x fits e =
    let c = check_ok (nat_le n (length s.rest)) (file_length s) 3 (Ok (take n s.rest, past n s)) (x, t) e in
    let le : n ≤ length s.rest = leb-true n (length s.rest) c.0 in
    let made : List ℕ × Place = (take n s.rest, past n s) in
    let len : length (take n s.rest) ≡ n = omega (arith, length-take n s.rest) in
    subst (λ (y : List ℕ × Place). Took s y.0 y.1 × (length y.0 ≡ n)) (ok_is made (x, t) c.1) (
      record {
        parts = sym (take-append-drop n s.rest);
        at = ap (λ (k : ℕ). s.at + k) (sym len);
        rest_fits = IsBytes-drop n s.rest fits;
      },
      len,
    )
