-- Equal outputs, and what two texts have in common at their front.
use Rattle.std.proofs.Common.{◌≡◌, ◌⊎◌, ℕ, ◌+◌, ◌<◌, ◌≤◌, Bool, true, false, List, [], ◌∷◌, ◌++◌, length, map, drop, refl, sym, ◌∙◌, ap, subst, arith, zero, suc, inl, inr, min}
use Rattle.std.specs.Prelude.{◌&&◌, if◌then◌else◌, nat_eq}
use Rattle.std.proofs.lemmas.Bool.Decides.{nat_tests}
use Rattle.std.proofs.lemmas.List.{drop-drop, drop-map, drop_all, length-drop, length-map}
use Rattle.vx_report.specs.Projection.{bytes_of, same_stream}
use Rattle.vx_report.specs.declared.report.Piece.{Piece}
use Rattle.vx_value.specs.declared.end.Stream.{Stream}
use Rattle.vx_value.specs.declared.end.Stream.TheVariants.{Out, Err}
use Rattle.vx_agree.specs.Equal.{are_equal, common, common_from, same_symbol}

equal_numbers : (a b : ℕ) → nat_eq a b ≡ true → a ≡ b
equal_numbers a b t = grind (arith, nat_tests)

same_symbols : (x y : Stream × ℕ) → same_symbol x y ≡ true → x ≡ y
same_symbols (Out, a) (Out, b) t = ap (λ n. (Out, n)) (equal_numbers a b t)
same_symbols (Err, a) (Err, b) t = ap (λ n. (Err, n)) (equal_numbers a b t)
same_symbols (Out, a) (Err, b) t = cc (t)
same_symbols (Err, a) (Out, b) t = cc (t)

same_self : (x : Stream × ℕ) → same_symbol x x ≡ true
same_self (Out, a) = grind (arith, nat_tests)
same_self (Err, a) = grind (arith, nat_tests)

pub equal_self : (xs : List (Stream × ℕ)) → are_equal xs xs ≡ true
equal_self [] = refl
equal_self (x ∷ xs) = ap (λ b. b && are_equal xs xs) (same_self x) ∙ equal_self xs

pub equal_lists : (xs ys : List (Stream × ℕ)) → are_equal xs ys ≡ true → xs ≡ ys
equal_lists [] [] t = refl
equal_lists [] (y ∷ ys) t = cc (t)
equal_lists (x ∷ xs) [] t = cc (t)
equal_lists (x ∷ xs) (y ∷ ys) t = by (equal_lists xs ys) (same_symbol x y) refl t
  where
    by : (are_equal xs ys ≡ true → xs ≡ ys) → (b : Bool) → same_symbol x y ≡ b → (b && are_equal xs ys) ≡ true → x ∷ xs ≡ y ∷ ys
    by rest true q r = cc (same_symbols x y q, rest r)
    by rest false q r = cc (r)

-- ---- texts of one stream

abbrev on : Stream → List ℕ → List (Stream × ℕ)
on s xs = map (λ b. (s, b)) xs

same_on : (s : Stream) (x y : ℕ) → same_symbol (s, x) (s, y) ≡ nat_eq x y
same_on Out x y = refl
same_on Err x y = refl

equal_common : (s : Stream) (xs ys : List ℕ) (rest more : List (Stream × ℕ)) → are_equal (on s xs ++ rest) (on s ys ++ more) ≡ are_equal (on s (drop (common xs ys) xs) ++ rest) (on s (drop (common xs ys) ys) ++ more)
equal_common s [] ys rest more = refl
equal_common s (x ∷ xs) [] rest more = refl
equal_common s (x ∷ xs) (y ∷ ys) rest more = by (equal_common s xs ys rest more) (nat_eq x y) refl
  where
    by : are_equal (on s xs ++ rest) (on s ys ++ more) ≡ are_equal (on s (drop (common xs ys) xs) ++ rest) (on s (drop (common xs ys) ys) ++ more)
        → (b : Bool) → nat_eq x y ≡ b
        → are_equal (on s (x ∷ xs) ++ rest) (on s (y ∷ ys) ++ more) ≡ are_equal (on s (drop (if b then suc (common xs ys) else 0) (x ∷ xs)) ++ rest) (on s (drop (if b then suc (common xs ys) else 0) (y ∷ ys)) ++ more)
    by h true e = ap (λ t. t && are_equal (on s xs ++ rest) (on s ys ++ more)) (same_on s x y ∙ e) ∙ h
    by h false e = refl

-- behind it they differ
unequal_common : (s : Stream) (xs ys : List ℕ) (rest more : List (Stream × ℕ)) → common xs ys < length xs → common xs ys < length ys → are_equal (on s xs ++ rest) (on s ys ++ more) ≡ false
unequal_common s [] ys rest more l m = absurd (omega (arith, l))
unequal_common s (x ∷ xs) [] rest more l m = absurd (omega (arith, m))
unequal_common s (x ∷ xs) (y ∷ ys) rest more l m = by (unequal_common s xs ys rest more) (nat_eq x y) refl l m
  where
    by : (common xs ys < length xs → common xs ys < length ys → are_equal (on s xs ++ rest) (on s ys ++ more) ≡ false)
        → (b : Bool) → nat_eq x y ≡ b → (if b then suc (common xs ys) else 0) < length (x ∷ xs) → (if b then suc (common xs ys) else 0) < length (y ∷ ys)
        → are_equal (on s (x ∷ xs) ++ rest) (on s (y ∷ ys) ++ more) ≡ false
    by h true e l m = ap (λ t. t && are_equal (on s xs ++ rest) (on s ys ++ more)) (same_on s x y ∙ e) ∙ h (omega (arith, l)) (omega (arith, m))
    by h false e l m = ap (λ t. t && are_equal (on s xs ++ rest) (on s ys ++ more)) (same_on s x y ∙ e)

unequal_streams : (s t : Stream) (xs ys : List ℕ) (rest more : List (Stream × ℕ)) → same_stream s t ≡ false → 0 < length xs → 0 < length ys → are_equal (on s xs ++ rest) (on t ys ++ more) ≡ false
unequal_streams s t [] ys rest more d l m = absurd (omega (arith, l))
unequal_streams s t (x ∷ xs) [] rest more d l m = absurd (omega (arith, m))
unequal_streams s t (x ∷ xs) (y ∷ ys) rest more d l m = ap (λ b. (b && nat_eq x y) && are_equal (on s xs ++ rest) (on t ys ++ more)) d

pub common-within : (xs ys : List ℕ) → (common xs ys ≤ length xs) × (common xs ys ≤ length ys)
common-within [] ys = (omega arith, omega arith)
common-within (x ∷ xs) [] = (omega arith, omega arith)
common-within (x ∷ xs) (y ∷ ys) = by (common-within xs ys) (nat_eq x y)
  where
    by : (common xs ys ≤ length xs) × (common xs ys ≤ length ys) → (b : Bool) → ((if b then suc (common xs ys) else 0) ≤ length (x ∷ xs)) × ((if b then suc (common xs ys) else 0) ≤ length (y ∷ ys))
    by h true = (omega (arith, h.0), omega (arith, h.1))
    by h false = (omega arith, omega arith)

pub common_ends : (xs ys : List ℕ) (most i : ℕ) → (length xs ≤ most) ⊎ (length ys ≤ most) → i ≡ most → common xs ys ≡ i + common (drop i xs) (drop i ys) → most ≡ common xs ys
common_ends xs ys most i (inl l) e h = let none : common (drop i xs) (drop i ys) ≡ 0 = ap (λ zs. common zs (drop i ys)) (drop_all i xs (omega (arith, l, e))) in omega (arith, h, none, e)
common_ends xs ys most i (inr l) e h = let none : common (drop i xs) (drop i ys) ≡ 0 = ap (common (drop i xs)) (drop_all i ys (omega (arith, l, e))) ∙ nothing (drop i xs) in omega (arith, h, none, e)
  where
    nothing : (zs : List ℕ) → common zs [] ≡ 0
    nothing [] = refl
    nothing (z ∷ zs) = refl

-- the lesser length is one of both
pub least_ends : (xs ys : List ℕ) (most : ℕ) → most ≡ min (length xs) (length ys) → (length xs ≤ most) ⊎ (length ys ≤ most)
least_ends xs ys most e = elim (order (length xs) (length ys)) [ inl l ↦ inl (omega (arith, e, l)) | inr l ↦ inr (omega (arith, e, l)) ]
  where
    order : (a b : ℕ) → (a ≤ b) ⊎ (b ≤ a)
    order zero b = inl (omega arith)
    order (suc a) zero = inr (omega arith)
    order (suc a) (suc b) = elim (order a b) [ inl l ↦ inl (omega (arith, l)) | inr l ↦ inr (omega (arith, l)) ]

-- ---- pieces

streams_same : (s t : Stream) → same_stream s t ≡ true → s ≡ t
streams_same Out Out e = refl
streams_same Err Err e = refl
streams_same Out Err e = cc (e)
streams_same Err Out e = cc (e)

text_common : (s : Stream) (xs ys : List ℕ) (i j : ℕ) (rest more : List (Stream × ℕ)) → are_equal (drop i (on s xs) ++ rest) (drop j (on s ys) ++ more) ≡ are_equal (drop (i + common (drop i xs) (drop j ys)) (on s xs) ++ rest) (drop (j + common (drop i xs) (drop j ys)) (on s ys) ++ more)
text_common s xs ys i j rest more =
    ap (λ zs. are_equal (zs ++ rest) (drop j (on s ys) ++ more)) (drop-map (λ b. (s, b)) i xs)
    ∙ ap (λ zs. are_equal (on s (drop i xs) ++ rest) (zs ++ more)) (drop-map (λ b. (s, b)) j ys)
    ∙ equal_common s (drop i xs) (drop j ys) rest more
    ∙ ap (λ zs. are_equal (zs ++ rest) (on s (drop n (drop j ys)) ++ more)) (back i xs)
    ∙ ap (λ zs. are_equal (drop (i + n) (on s xs) ++ rest) (zs ++ more)) (back j ys)
  where
    n : ℕ
    n = common (drop i xs) (drop j ys)

    back : (k : ℕ) (zs : List ℕ) → on s (drop n (drop k zs)) ≡ drop (k + n) (on s zs)
    back k zs = ap (on s) (drop-drop n k zs) ∙ sym (drop-map (λ b. (s, b)) (k + n) zs)

pub with_common : (front : Piece) (i : ℕ) (piece : Piece) (j : ℕ) (rest more : List (Stream × ℕ)) → are_equal (drop i (bytes_of front) ++ rest) (drop j (bytes_of piece) ++ more) ≡ are_equal (drop (i + common_from front i piece j) (bytes_of front) ++ rest) (drop (j + common_from front i piece j) (bytes_of piece) ++ more)
with_common front i piece j rest more = by (same_stream front.stream piece.stream) refl
  where
    n : ℕ
    n = common (drop i front.text) (drop j piece.text)

    by : (b : Bool) → same_stream front.stream piece.stream ≡ b → are_equal (drop i (bytes_of front) ++ rest) (drop j (bytes_of piece) ++ more) ≡ are_equal (drop (i + (if b then n else 0)) (bytes_of front) ++ rest) (drop (j + (if b then n else 0)) (bytes_of piece) ++ more)
    by true e = subst (λ t. are_equal (drop i (on front.stream front.text) ++ rest) (drop j (on t piece.text) ++ more) ≡ are_equal (drop (i + n) (on front.stream front.text) ++ rest) (drop (j + n) (on t piece.text) ++ more)) (streams_same front.stream piece.stream e) (text_common front.stream front.text piece.text i j rest more)
    by false e =
        let none : (k : ℕ) → k ≡ k + 0 = λ k. omega arith in
        ap (λ k. are_equal (drop k (bytes_of front) ++ rest) (drop j (bytes_of piece) ++ more)) (none i) ∙ ap (λ k. are_equal (drop (i + 0) (bytes_of front) ++ rest) (drop k (bytes_of piece) ++ more)) (none j)

pub without_common : (front : Piece) (i : ℕ) (piece : Piece) (j : ℕ) (rest more : List (Stream × ℕ)) → common_from front i piece j < length (drop i front.text) → common_from front i piece j < length (drop j piece.text) → are_equal (drop i (bytes_of front) ++ rest) (drop j (bytes_of piece) ++ more) ≡ false
without_common front i piece j rest more l m =
    ap (λ zs. are_equal (zs ++ rest) (drop j (bytes_of piece) ++ more)) (drop-map (λ b. (front.stream, b)) i front.text)
    ∙ ap (λ zs. are_equal (on front.stream (drop i front.text) ++ rest) (zs ++ more)) (drop-map (λ b. (piece.stream, b)) j piece.text)
    ∙ by (same_stream front.stream piece.stream) refl l m
  where
    n : ℕ
    n = common (drop i front.text) (drop j piece.text)

    by : (b : Bool) → same_stream front.stream piece.stream ≡ b → (if b then n else 0) < length (drop i front.text) → (if b then n else 0) < length (drop j piece.text) → are_equal (on front.stream (drop i front.text) ++ rest) (on piece.stream (drop j piece.text) ++ more) ≡ false
    by true e l m = subst (λ t. are_equal (on front.stream (drop i front.text) ++ rest) (on t (drop j piece.text) ++ more) ≡ false) (streams_same front.stream piece.stream e) (unequal_common front.stream (drop i front.text) (drop j piece.text) rest more l m)
    by false e l m = unequal_streams front.stream piece.stream (drop i front.text) (drop j piece.text) rest more e l m

pub common_from-within : (front : Piece) (i : ℕ) (piece : Piece) (j : ℕ) → (common_from front i piece j ≤ length (drop i front.text)) × (common_from front i piece j ≤ length (drop j piece.text))
common_from-within front i piece j = by (same_stream front.stream piece.stream)
  where
    by : (b : Bool) → ((if b then common (drop i front.text) (drop j piece.text) else 0) ≤ length (drop i front.text)) × ((if b then common (drop i front.text) (drop j piece.text) else 0) ≤ length (drop j piece.text))
    by true = common-within (drop i front.text) (drop j piece.text)
    by false = (omega arith, omega arith)

-- nothing is left of a piece behind all that was left of its text
pub none_left : (piece : Piece) (i n : ℕ) → n ≡ length (drop i piece.text) → drop (i + n) (bytes_of piece) ≡ []
none_left piece i n e =
    let size : length (bytes_of piece) ≡ length piece.text = length-map piece.text (λ b. (piece.stream, b)) in
    drop_all (i + n) (bytes_of piece) (omega (arith, size, e, length-drop i piece.text))

-- something is left of a piece in front of the end of its text
pub some_left : (piece : Piece) (i : ℕ) → i < length piece.text → (x : Stream × ℕ) × (xs : List (Stream × ℕ)) × (drop i (bytes_of piece) ≡ x ∷ xs)
some_left piece i l = at piece.text i l
  where
    at : (text : List ℕ) (k : ℕ) → k < length text → (x : Stream × ℕ) × (xs : List (Stream × ℕ)) × (drop k (on piece.stream text) ≡ x ∷ xs)
    at [] k l = absurd (omega (arith, l))
    at (b ∷ text) zero l = ((piece.stream, b), on piece.stream text, refl)
    at (b ∷ text) (suc k) l = at text k (omega (arith, l))
