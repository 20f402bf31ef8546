-- What items with their numbers make, one item more, and the greatest number.
use Rattle.std.proofs.Common.{◌≡◌, ℕ, ◌+◌, ◌<◌, ◌≤◌, suc, List, [], ◌∷◌, ◌++◌, length, take, get_or, map, refl, sym, ◌∙◌, ap, arith, append_assoc, append-nil}
use Rattle.std.specs.Prelude.{max}
use Rattle.std.proofs.lemmas.List.{take_more, map_more, length-take-le}
use Rattle.vx_picture.specs.Pictures.{greatest}
use Rattle.vx_picture.specs.Subjects.{numbered}

numbered-append : {A B : Type 0} (f : ℕ → A → List B) (n : ℕ) (xs : List A) (x : A) → numbered f n (xs ++ x ∷ []) ≡ numbered f n xs ++ f (length xs + n) x
numbered-append f n [] x =
    let same : n ≡ 0 + n = omega arith in
    append-nil (f n x) ∙ ap (λ k. f k x) same
numbered-append f n (y ∷ ys) x =
    let e : length ys + suc n ≡ length (y ∷ ys) + n = omega arith in
    rw (numbered-append f (suc n) ys x, e) (sym (append_assoc (f n y) (numbered f (suc n) ys) (f (length (y ∷ ys) + n) x)))

-- one item more, behind what was there at the start
pub numbered-more : {A B : Type 0} (f : ℕ → A → List B) (start before : List B) (n : ℕ) (xs : List A) (i : ℕ) (d : A) → i < length xs → before ≡ start ++ numbered f n (take i xs) → before ++ f (i + n) (get_or xs i d) ≡ start ++ numbered f n (take (i + 1) xs)
numbered-more f start before n xs i d h e =
    let within : i ≤ length xs = omega arith in
    let number : length (take i xs) + n ≡ i + n = omega (arith, length-take-le i xs within) in
    rw (take_more xs i d h, numbered-append f n (take i xs) (get_or xs i d), number, e) (append_assoc start (numbered f n (take i xs)) (f (i + n) (get_or xs i d)))

greatest-append : (n : ℕ) (ks : List ℕ) (k : ℕ) → greatest n (ks ++ k ∷ []) ≡ max (greatest n ks) k
greatest-append n [] k = refl
greatest-append n (y ∷ ys) k = greatest-append (max n y) ys k

pub greatest-more : {A : Type 0} (number : A → ℕ) (n : ℕ) (xs : List A) (i : ℕ) (d : A) → i < length xs → greatest n (map number (take (i + 1) xs)) ≡ max (greatest n (map number (take i xs))) (number (get_or xs i d))
greatest-more number n xs i d h = ap (greatest n) (map_more number xs i d h) ∙ greatest-append n (map number (take i xs)) (number (get_or xs i d))

pub greatest-both : (n : ℕ) (ks ms : List ℕ) → greatest (greatest n ks) ms ≡ greatest n (ks ++ ms)
greatest-both n [] ms = refl
greatest-both n (k ∷ ks) ms = greatest-both (max n k) ks ms
