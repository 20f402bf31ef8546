-- What a source says in quotes, and its plain words, are modified UTF-8.
use Rattle.std.proofs.Common.{◌≡◌, ℕ, ◌+◌, ◌-◌, ◌*◌, ◌/◌, ◌%◌, ◌<◌, ◌≤◌, List, [], ◌∷◌, ◌++◌, length, take, drop, slice_index, Bool, true, false, nat_lt, nat_le, ◌==◌, ◌&&◌, ◌||◌, Option, Some, None, Ok, Err, if◌then◌else◌, ◌⊎◌, inl, inr, refl, sym, ap, subst, arith}
use Rattle.std.proofs.lemmas.Bool.{and_parts, and_from, and_left, or_cases, or_left, or_right, or_from, le-leb, lt-leb, leb-true, leb-false, ltb-true, eq-eqb, ne_eqb, eqb-true, cases_lt}
use Rattle.std.specs.List.{list_all}
use Rattle.vx_words.specs.Lines.{is_plain}
use Rattle.vx_pool.specs.Text.{is_one, is_tail, is_two, is_three, is_text}
use Rattle.vx_source_words.specs.Reading.{Read, ◌>>=◌, steps}
use Rattle.vx_source_words.specs.Numbers.{hex_value, are_four_hex, four_hex}
use Rattle.vx_source_words.specs.Texts as texts
use Rattle.vx_source_words.specs.Texts.{unit_bytes, low_bytes, piece_bytes, one_unit, escape_at, long_at, surrogates, piece_at, behind_piece, piece_step, modified, is_quoted, text_of}
use Rattle.vx_source_words.specs.declared.texts.Piece.{Piece}
use Rattle.vx_assembled.proofs.Reading.{bind_ok, check_ok, steps_keep}

-- ---- units one after the other

one_more : (a : ℕ) (rest : List ℕ) → is_one a ≡ true → is_text rest ≡ true → is_text (a ∷ rest) ≡ true
one_more a [] one text = one
one_more a (b ∷ []) one text = rw one text
one_more a (b ∷ c ∷ rest) one text = rw one text

two_more : (a b : ℕ) (rest : List ℕ) → is_one a ≡ false → is_two a b ≡ true → is_text rest ≡ true → is_text (a ∷ b ∷ rest) ≡ true
two_more a b [] none two text = rw none two
two_more a b (c ∷ rest) none two text = rw (none, two) text

three_more : (a b c : ℕ) (rest : List ℕ) → is_one a ≡ false → is_two a b ≡ false → is_three a b c ≡ true → is_text rest ≡ true → is_text (a ∷ b ∷ c ∷ rest) ≡ true
three_more a b c rest none neither three text = rw (none, neither, three) text

pub append_text : (xs ys : List ℕ) → is_text xs ≡ true → is_text ys ≡ true → is_text (xs ++ ys) ≡ true
append_text [] ys h k = k
append_text (a ∷ []) ys h k = one_more a ys h k
append_text (a ∷ b ∷ []) ys h k = by_one (is_one a) refl h
  where
    by_one : (t : Bool) → is_one a ≡ t → (if t then is_one b else is_two a b) ≡ true → is_text (a ∷ b ∷ ys) ≡ true
    by_one true e g = one_more a (b ∷ ys) e (one_more b ys g k)
    by_one false e g = two_more a b ys e g k
append_text (a ∷ b ∷ c ∷ rest) ys h k =
    by_one (λ g. append_text (b ∷ c ∷ rest) ys g k) (λ g. append_text (c ∷ rest) ys g k) (λ g. append_text rest ys g k) (is_one a) refl h
  where
    Then : List ℕ → Type 0
    Then xs = is_text xs ≡ true → is_text (xs ++ ys) ≡ true

    by_two : Then (c ∷ rest) → Then rest → (t : Bool) → is_one a ≡ false → is_two a b ≡ t → (if t then is_text (c ∷ rest) else is_three a b c && is_text rest) ≡ true
        → is_text (a ∷ b ∷ c ∷ (rest ++ ys)) ≡ true
    by_two second third true none e g = two_more a b (c ∷ (rest ++ ys)) none e (second g)
    by_two second third false none e g =
        let p = and_parts (is_three a b c) (is_text rest) g in
        three_more a b c (rest ++ ys) none e p.0 (third p.1)

    by_one : Then (b ∷ c ∷ rest) → Then (c ∷ rest) → Then rest → (t : Bool) → is_one a ≡ t
        → (if t then is_text (b ∷ c ∷ rest) else if is_two a b then is_text (c ∷ rest) else is_three a b c && is_text rest) ≡ true → is_text (a ∷ b ∷ c ∷ (rest ++ ys)) ≡ true
    by_one first second third true e g = one_more a (b ∷ c ∷ (rest ++ ys)) e (first g)
    by_one first second third false e g = by_two second third (is_two a b) e refl g

-- ---- plain words

plain_one : (b : ℕ) → is_plain b ≡ true → is_one b ≡ true
plain_one b h = by_cases (or_cases (b == 9) (nat_le 32 b && nat_le b 126) h)
  where
    by_cases : ((b == 9) ≡ true) ⊎ ((nat_le 32 b && nat_le b 126) ≡ true) → is_one b ≡ true
    by_cases (inl e) = rw (eqb-true b 9 e) refl
    by_cases (inr e) =
        let p = and_parts (nat_le 32 b) (nat_le b 126) e in
        let low = leb-true 32 b p.0 in
        let high = leb-true b 126 p.1 in
        and_from (nat_le 1 b) (nat_le b 127) (le-leb 1 b (omega (arith, low))) (le-leb b 127 (omega (arith, high)))

pub plain_text : (word : List ℕ) → list_all is_plain word ≡ true → is_text word ≡ true
plain_text [] h = refl
plain_text (b ∷ bs) h =
    let p = and_parts (is_plain b) (list_all is_plain bs) h in
    one_more b bs (plain_one b p.0) (plain_text bs p.1)

-- ---- a unit of UTF-16

high_not_one : (a : ℕ) → 128 ≤ a → is_one a ≡ false
high_not_one a h =
    let low : nat_le a 127 ≡ false = lt-leb a 127 (omega (arith, h)) in
    let some : nat_le 1 a ≡ true = le-leb 1 a (omega (arith, h)) in
    rw (some, low) refl

tail_is : (b : ℕ) → b < 64 → is_tail (128 + b) ≡ true
tail_is b h = and_from (nat_le 128 (128 + b)) (nat_le (128 + b) 191) (le-leb 128 (128 + b) (omega arith)) (le-leb (128 + b) 191 (omega (arith, h)))

two_text : (u : ℕ) → (u ≡ 0) ⊎ (128 ≤ u) → u ≤ 0x7ff → is_text ((192 + u / 64) ∷ (128 + u % 64) ∷ []) ≡ true
two_text u (inl e) few = rw e refl
two_text u (inr some) few =
    let a : ℕ = 192 + u / 64 in
    let b : ℕ = 128 + u % 64 in
    let low : nat_le 194 a ≡ true = le-leb 194 a (omega (arith, some)) in
    let high : nat_le a 223 ≡ true = le-leb a 223 (omega (arith, few)) in
    let tail : is_tail b ≡ true = tail_is (u % 64) (omega arith) in
    let two : is_two a b ≡ true = or_right (a == 192 && b == 128) (nat_le 194 a && nat_le a 223 && is_tail b) (and_from (nat_le 194 a && nat_le a 223) (is_tail b) (and_from (nat_le 194 a) (nat_le a 223) low high) tail) in
    two_more a b [] (high_not_one a (omega arith)) two refl

three_text : (u : ℕ) → 0x7ff < u → u < 65536 → is_text ((224 + u / 4096) ∷ (128 + u / 64 % 64) ∷ (128 + u % 64) ∷ []) ≡ true
three_text u some few =
    let a : ℕ = 224 + u / 4096 in
    let b : ℕ = 128 + u / 64 % 64 in
    let c : ℕ = 128 + u % 64 in
    let not_two : is_two a b ≡ false = or_from (a == 192 && b == 128) (nat_le 194 a && nat_le a 223 && is_tail b)
    (and_left (a == 192) (b == 128) (ne_eqb a 192 (λ e. omega (arith, e))))
    (rw (le-leb 194 a (omega arith), lt-leb a 223 (omega arith)) refl) in
    let first : ((a == 224 && nat_le 160 b) || (nat_le 225 a && nat_le a 239)) ≡ true = by_first (cases_lt u 4096) in
    three_more a b c [] (high_not_one a (omega arith)) not_two (and_from (((a == 224 && nat_le 160 b) || (nat_le 225 a && nat_le a 239)) && is_tail b) (is_tail c)
    (and_from ((a == 224 && nat_le 160 b) || (nat_le 225 a && nat_le a 239)) (is_tail b) first (tail_is (u / 64 % 64) (omega arith))) (tail_is (u % 64) (omega arith))) refl
  where
    by_first : (u < 4096) ⊎ (4096 ≤ u) → ((224 + u / 4096 == 224 && nat_le 160 (128 + u / 64 % 64)) || (nat_le 225 (224 + u / 4096) && nat_le (224 + u / 4096) 239)) ≡ true
    by_first (inl small) =
        or_left (224 + u / 4096 == 224 && nat_le 160 (128 + u / 64 % 64)) (nat_le 225 (224 + u / 4096) && nat_le (224 + u / 4096) 239)
        (and_from (224 + u / 4096 == 224) (nat_le 160 (128 + u / 64 % 64)) (eq-eqb (224 + u / 4096) 224 (omega (arith, small))) (le-leb 160 (128 + u / 64 % 64) (omega (arith, small, some))))
    by_first (inr large) =
        or_right (224 + u / 4096 == 224 && nat_le 160 (128 + u / 64 % 64)) (nat_le 225 (224 + u / 4096) && nat_le (224 + u / 4096) 239)
        (and_from (nat_le 225 (224 + u / 4096)) (nat_le (224 + u / 4096) 239) (le-leb 225 (224 + u / 4096) (omega (arith, large))) (le-leb (224 + u / 4096) 239 (omega (arith, few))))

unit_text : (u : ℕ) → u < 65536 → is_text (unit_bytes u) ≡ true
unit_text u few = by_one (nat_le 1 u && nat_le u 127) refl
  where
    by_two : (0 ≡ u) ⊎ (128 ≤ u) → (t : Bool) → nat_le u 0x7ff ≡ t
        → is_text (if t then (192 + u / 64) ∷ (128 + u % 64) ∷ [] else (224 + u / 4096) ∷ (128 + u / 64 % 64) ∷ (128 + u % 64) ∷ []) ≡ true
    by_two (inl zero_is) true e = two_text u (inl (sym zero_is)) (leb-true u 0x7ff e)
    by_two (inr some) true e = two_text u (inr some) (leb-true u 0x7ff e)
    by_two h false e = three_text u (leb-false u 0x7ff e) few

    apart : (nat_le 1 u && nat_le u 127) ≡ false → (0 ≡ u) ⊎ (128 ≤ u)
    apart e = by_order (cases_lt u 1) (cases_lt u 128)
      where
        by_order : (u < 1) ⊎ (1 ≤ u) → (u < 128) ⊎ (128 ≤ u) → (0 ≡ u) ⊎ (128 ≤ u)
        by_order (inl low) k = inl (omega (arith, low))
        by_order (inr some) (inr high) = inr high
        by_order (inr some) (inl small) =
            let both = and_from (nat_le 1 u) (nat_le u 127) (le-leb 1 u some) (le-leb u 127 (omega (arith, small))) in
            absurd (cc (e, both))

    by_one : (t : Bool) → (nat_le 1 u && nat_le u 127) ≡ t
        → is_text (if t then u ∷ [] else if nat_le u 0x7ff then (192 + u / 64) ∷ (128 + u % 64) ∷ [] else (224 + u / 4096) ∷ (128 + u / 64 % 64) ∷ (128 + u % 64) ∷ []) ≡ true
    by_one true e = e
    by_one false e = by_two (apart e) (nat_le u 0x7ff) refl

-- ---- pieces

abbrev IsLow : Option ℕ → Type 0
IsLow None = Unit {0}
IsLow (Some u) = u < 65536

record IsPiece (p : Piece) : Type 0 where
  unit : p.unit < 65536
  low : IsLow p.low

low_text : (o : Option ℕ) → IsLow o → is_text (low_bytes o) ≡ true
low_text None h = refl
low_text (Some u) h = unit_text u h

piece_text : (p : Piece) → IsPiece p → is_text (piece_bytes p) ≡ true
piece_text p h = append_text (unit_bytes p.unit) (low_bytes p.low) (unit_text p.unit h.unit) (low_text p.low h.low)

hex_small : (b : ℕ) → hex_value b < 16
hex_small b = by_test (nat_le b 57)
  where
    by_test : (t : Bool) → (if t then b % 16 else (b % 16 + 9) % 16) < 16
    by_test true = omega arith
    by_test false = omega arith

pub four_hex_small : (word : List ℕ) → four_hex word < 65536
four_hex_small word =
    let a = hex_small (slice_index word 0) in
    let b = hex_small (slice_index word 1) in
    let c = hex_small (slice_index word 2) in
    let d = hex_small (slice_index word 3) in
    omega (arith, a, b, c, d)

-- what a piece is, where there is one
abbrev ArePieces : Option Piece → Type 0
ArePieces o = (p : Piece) → o ≡ Some p → IsPiece p

one_is : (u taken : ℕ) → u < 65536 → ArePieces (one_unit u taken)
one_is u taken few p e = let same : record { unit = u; low = None; taken = taken } ≡ p = cc in subst IsPiece same (record { unit = few; low = tt })

none_is : ArePieces None
none_is p e = absurd cc

escape_is : (text : List ℕ) → ArePieces (escape_at text)
unfolding escape_at
escape_is text = by_quote (slice_index text 1 == 34 || slice_index text 1 == 92) refl
  where
    by_hex : (t : Bool) → ArePieces (if t then one_unit (four_hex (take 4 (drop 2 text))) 6 else None)
    by_hex true = one_is (four_hex (take 4 (drop 2 text))) 6 (four_hex_small (take 4 (drop 2 text)))
    by_hex false = none_is

    small : ((slice_index text 1 == 34) ≡ true) ⊎ ((slice_index text 1 == 92) ≡ true) → slice_index text 1 < 65536
    small (inl e) = let is = eqb-true (slice_index text 1) 34 e in omega (arith, is)
    small (inr e) = let is = eqb-true (slice_index text 1) 92 e in omega (arith, is)

    by_quote : (t : Bool) → (slice_index text 1 == 34 || slice_index text 1 == 92) ≡ t
        → ArePieces (if t then one_unit (slice_index text 1) 2 else if slice_index text 1 == 117 && are_four_hex (take 4 (drop 2 text)) then one_unit (four_hex (take 4 (drop 2 text))) 6 else None)
    by_quote true e = one_is (slice_index text 1) 2 (small (or_cases (slice_index text 1 == 34) (slice_index text 1 == 92) e))
    by_quote false e = by_hex (slice_index text 1 == 117 && are_four_hex (take 4 (drop 2 text)))

surrogates_are : (c : ℕ) → c < 2097152 → ArePieces (surrogates c)
surrogates_are c few p e =
    let same : record { unit = 0xd800 + c / 1024; low = Some (0xdc00 + c % 1024); taken = 4 } ≡ p = cc in
    subst IsPiece same (record { unit = omega (arith, few); low = omega arith })

long_is : (a b c d : ℕ) → ArePieces (long_at a b c d)
unfolding long_at
long_is a b c d = by_two (texts.is_two a b)
  where
    by_four : (t : Bool) → ArePieces (if t then surrogates (a % 8 * 262144 + b % 64 * 4096 + c % 64 * 64 + d % 64 - 65536) else None)
    by_four true = surrogates_are (a % 8 * 262144 + b % 64 * 4096 + c % 64 * 64 + d % 64 - 65536) (omega arith)
    by_four false = none_is

    by_three : (t : Bool) → ArePieces (if t then one_unit (a % 16 * 4096 + b % 64 * 64 + c % 64) 3 else if texts.is_four a b c d then surrogates (a % 8 * 262144 + b % 64 * 4096 + c % 64 * 64 + d % 64 - 65536) else None)
    by_three true = one_is (a % 16 * 4096 + b % 64 * 64 + c % 64) 3 (omega arith)
    by_three false = by_four (texts.is_four a b c d)

    by_two : (t : Bool) → ArePieces (if t then one_unit (a % 32 * 64 + b % 64) 2 else if texts.is_three a b c then one_unit (a % 16 * 4096 + b % 64 * 64 + c % 64) 3
        else if texts.is_four a b c d then surrogates (a % 8 * 262144 + b % 64 * 4096 + c % 64 * 64 + d % 64 - 65536) else None)
    by_two true = one_is (a % 32 * 64 + b % 64) 2 (omega arith)
    by_two false = by_three (texts.is_three a b c)

piece_is : (text : List ℕ) → ArePieces (piece_at text)
unfolding piece_at
piece_is text = by_escape (slice_index text 0 == 92)
  where
    by_small : (t : Bool) → nat_lt (slice_index text 0) 128 ≡ t → ArePieces (if t then one_unit (slice_index text 0) 1 else long_at (slice_index text 0) (slice_index text 1) (slice_index text 2) (slice_index text 3))
    by_small true e = one_is (slice_index text 0) 1 (let few = ltb-true (slice_index text 0) 128 e in omega (arith, few))
    by_small false e = long_is (slice_index text 0) (slice_index text 1) (slice_index text 2) (slice_index text 3)

    by_escape : (t : Bool) → ArePieces (if t then escape_at text else if nat_lt (slice_index text 0) 128 then one_unit (slice_index text 0) 1 else long_at (slice_index text 0) (slice_index text 1) (slice_index text 2) (slice_index text 3))
    by_escape true = escape_is text
    by_escape false = by_small (nat_lt (slice_index text 0) 128) refl

-- ---- whole texts

abbrev IsTextSoFar : List ℕ × List ℕ → Type 0
IsTextSoFar s = is_text s.0 ≡ true

piece_keeps : (s t : List ℕ × List ℕ) → IsTextSoFar s → piece_step s ≡ Ok t → IsTextSoFar t
unfolding piece_step
piece_keeps s t h e = by_end (length s.1 == 0) e
  where
    by_piece : (o : Option Piece) → piece_at s.1 ≡ o → behind_piece s o ≡ Ok t → IsTextSoFar t
    by_piece None is k = absurd cc
    by_piece (Some p) is k =
        let same : (s.0 ++ piece_bytes p) ≡ t.0 = ap (λ (z : List ℕ × List ℕ). z.0) (ok_is (s.0 ++ piece_bytes p, drop p.taken s.1) t k) in
        subst (λ (z : List ℕ). is_text z ≡ true) same (append_text s.0 (piece_bytes p) h (piece_text p (piece_is s.1 p is)))
      where
        ok_is : (x y : List ℕ × List ℕ) → (let f : List ℕ × List ℕ → Read (List ℕ × List ℕ) = λ z. Ok z in f x ≡ f y) → x ≡ y
        ok_is x y e = cc

    by_end : (b : Bool) → (if b then Ok s else behind_piece s (piece_at s.1)) ≡ Ok t → IsTextSoFar t
    by_end true k = let same : s ≡ t = cc in subst IsTextSoFar same h
    by_end false k = by_piece (piece_at s.1) refl k

modified_text : (source text : List ℕ) → modified source ≡ Ok text → is_text text ≡ true
modified_text source text e =
    let all = bind_ok (steps piece_step ([], source) (length source)) (λ s. Ok s.0) text e in
    let good = steps_keep IsTextSoFar piece_step piece_keeps (length source) ([], source) all.0 refl all.1 in
    let same : all.0.0 ≡ text = let last = all.2 in cc in
    subst (λ (z : List ℕ). is_text z ≡ true) same good

pub record IsTextOf (t : List ℕ) : Type 0 where
  pub text : is_text t ≡ true
  pub short : length t < 65536

pub text_read : (word text : List ℕ) → text_of word ≡ Ok text → IsTextOf text
unfolding text_of
text_read word text e =
    let quoted = check_ok (is_quoted word) 6 (modified (take (length word - 2) (drop 1 word)) >>= check_short) text e in
    let read = bind_ok (modified (take (length word - 2) (drop 1 word))) check_short text quoted.1 in
    let short = check_ok (nat_lt (length read.0) 65536) 6 (Ok read.0) text read.2 in
    let same : read.0 ≡ text = let last = short.1 in cc in
    subst IsTextOf same (record { text = modified_text (take (length word - 2) (drop 1 word)) read.0 read.1; short = ltb-true (length read.0) 65536 short.0 })
  where
    check_short : List ℕ → Read (List ℕ)
    check_short t = if nat_lt (length t) 65536 then Ok t else Err 6
