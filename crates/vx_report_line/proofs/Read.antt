-- What is read is spelled so.
use Rattle.std.proofs.Common.{◌≡◌, ℕ, zero, suc, ◌+◌, ◌-◌, ◌*◌, ◌/◌, ◌%◌, ◌<◌, ◌≤◌, ◌^◌, ℤ, pos, negsuc, List, [], ◌∷◌, ◌++◌, length, Bool, true, false, Option, Some, None, option_map, refl, ap, sym, ◌∙◌, subst, arith, ◌==◌, ◌&&◌, ◌||◌, not, nat_le, nat_lt, nat_eq, drop, codes, decimal, ◌⊎◌, inl, inr, ⊎_elim, if◌then◌else◌, IfSome}
use Rattle.std.proofs.lemmas.Bool.Decides.{nat_tests}
use Rattle.std.proofs.lemmas.Grind.{common_steps}
use Rattle.std.proofs.lemmas.List.Concat.{flat_map-cons}
use Rattle.std.specs.Fmt.{signed_decimal}
use Rattle.std.specs.List.{list_all}
use Rattle.std.specs.Str.{bytes_eq}
use Rattle.vx_value.specs.declared.end.End.{End}
use Rattle.vx_value.specs.declared.end.End.TheVariants.{Return, Exit, Uncaught, Illegal, Unfinished}
use Rattle.vx_value.specs.declared.end.Stream.{Stream}
use Rattle.vx_value.specs.declared.end.Stream.TheVariants.{Out, Err}
use Rattle.vx_value.specs.Words.{hex_digit, is_plain, spelled_byte, spelled}
use Rattle.vx_report.specs.declared.line.Line.{Line}
use Rattle.vx_report.specs.declared.line.Line.TheVariants.{Head, Count, Named, Limit, Rounds, Done}
use Rattle.vx_report.specs.Lines.{kinds, word_in, kind_word, end_words, stream_word, line_text}
use Rattle.vx_words.specs.Names.{is_name}
use Rattle.vx_report_line.specs.Forms.{is_text, is_code, is_named, is_end, is_root, is_line, IsSpelled}
use Rattle.vx_words.specs.Hex.{hex_value}
use Rattle.vx_report_line.specs.Parsing.{◌>>=◌, only_if, reading, behind, cut, number_in, leading, escaped_byte, first_byte, unspelled, text_in, negative_in, positive_in, code_in, number_of_word, kind_in, unsupported_in, named_end_in, end_in, node_line_in, root_in, piece_in, end_line_in, attempts_in, head_in, count_in, name_in, limit_in, rounds_in, setting_in, front_in, last_in, printed_in, line_in}
use Rattle.vx_report_line.proofs.Numbers.{by_test, both_true, only_if_is, number_in_is, same_bytes_same}
use Rattle.vx_report_line.proofs.Texts.{bind_is}
use Rattle.vx_report_line.proofs.Again.{le_from, le_of}

some_same : {A : Type 0} {x y : A} → Some x ≡ Some y → x ≡ y
some_same h = cc

-- a map of an option
map_is : {A B : Type 0} (f : A → B) (o : Option A) (y : B) → option_map f o ≡ Some y → (x : A) × (o ≡ Some x) × (f x ≡ y)
map_is f None y h = cc
map_is f (Some x) y h = (x, refl, some_same h)

-- what stands behind a word
pub behind_is : (word text rest : List ℕ) → behind word text ≡ Some rest → text ≡ word ++ rest
unfolding behind
behind_is [] text rest h = some_same h
behind_is (b ∷ bs) [] rest h = cc
behind_is (b ∷ bs) (t ∷ ts) rest h = by_test (nat_eq b t)
    (λ y. let e : b ≡ t = grind (arith, nat_tests) in rw (sym e, behind_is bs ts rest (rw y at h)) refl)
    (λ n. absurd (none (rw n at h)))
  where
    none : None ≡ Some rest → ⊥
    none z = cc

cut_found : (b : ℕ) (bs : List ℕ) (parts : List ℕ × List ℕ) → (b == 32) ≡ true → Some ([], bs) ≡ Some parts → b ∷ bs ≡ parts.0 ++ 32 ∷ parts.1
cut_found b bs parts t h =
    let e : b ≡ 32 = grind (arith, nat_tests) in
    let P : List ℕ × List ℕ → Type 0 = λ x. b ∷ bs ≡ x.0 ++ 32 ∷ x.1 in
    subst P (some_same h) (ap (λ x. x ∷ bs) e)

pub cut_is : (text : List ℕ) (parts : List ℕ × List ℕ) → cut text ≡ Some parts → text ≡ parts.0 ++ 32 ∷ parts.1
unfolding cut
cut_is [] parts h = cc
cut_is (b ∷ bs) parts h = by_test (b == 32)
    (λ t. cut_found b bs parts t (rw t at h))
    (λ f.
    let q = map_is (λ (x : List ℕ × List ℕ). (b ∷ x.0, x.1)) (cut bs) parts (rw f at h) in
    let P : List ℕ × List ℕ → Type 0 = λ x. b ∷ bs ≡ x.0 ++ 32 ∷ x.1 in
    subst P q.2 (ap (λ x. b ∷ x) (cut_is bs q.0 q.1)))

pub leading_is : (bound : ℕ) (text : List ℕ) (parts : ℕ × List ℕ) → leading bound text ≡ Some parts → (text ≡ decimal parts.0 ++ 32 ∷ parts.1) × (parts.0 < bound)
unfolding leading
leading_is bound text parts h =
    let p = bind_is (cut text) (λ words. (number_in bound words.0 >>= λ n. Some (n, words.1))) parts h in
    let q = bind_is (number_in bound p.0.0) (λ n. Some (n, p.0.1)) parts p.2 in
    let n = number_in_is bound p.0.0 q.0 q.1 in
    let P : ℕ × List ℕ → Type 0 = λ x. (text ≡ decimal x.0 ++ 32 ∷ x.1) × (x.0 < bound) in
    subst P (some_same q.2) (cut_is text p.0 p.1 ∙ ap (λ w. w ++ 32 ∷ p.0.1) n.0, n.1)

reading_is : {A : Type 0} (o : Option (List ℕ)) (f : List ℕ → Option A) (next : Option A) (x : A) → reading o f next ≡ Some x → ((rest : List ℕ) × (o ≡ Some rest) × (f rest ≡ Some x)) ⊎ (next ≡ Some x)
reading_is None f next x h = inr h
reading_is (Some rest) f next x h = inl (rest, refl, h)

-- ---- texts

hex_value_is : (b n : ℕ) → hex_value b ≡ Some n → (b ≡ hex_digit n) × (n < 16)
hex_value_is b n h = by_test (nat_le 48 b && nat_le b 57)
    (λ t.
    let p = both_true (nat_le 48 b) (nat_le b 57) t in
    let e : b - 48 ≡ n = some_same (rw t at h) in
    let low : 48 ≤ b = le_from 48 b p.0 in
    let high : b ≤ 57 = le_from b 57 p.1 in
    let small : nat_le n 9 ≡ true = le_of n 9 (omega (arith, e, low, high)) in
    let value : b ≡ 48 + n = omega (arith, e, low) in
    (rw small value, omega (arith, e, high)))
    (λ f. letter f (rw f at h))
  where
    none : None ≡ Some n → ⊥
    none z = cc

    not_le : (i j : ℕ) → j < i → nat_le i j ≡ false
    not_le i j l = grind (arith, nat_tests)

    letter : (nat_le 48 b && nat_le b 57) ≡ false → (if nat_le 97 b && nat_le b 102 then Some (b - 87) else None) ≡ Some n → (b ≡ hex_digit n) × (n < 16)
    letter f g = by_test (nat_le 97 b && nat_le b 102)
        (λ t.
        let p = both_true (nat_le 97 b) (nat_le b 102) t in
        let e : b - 87 ≡ n = some_same (rw t at g) in
        let low : 97 ≤ b = le_from 97 b p.0 in
        let high : b ≤ 102 = le_from b 102 p.1 in
        let large : nat_le n 9 ≡ false = not_le n 9 (omega (arith, e, low)) in
        let value : b ≡ 87 + n = omega (arith, e, low) in
        (rw large value, omega (arith, e, high)))
        (λ u. absurd (none (rw u at g)))

-- the two digits of a byte
two_digits : (h l b high low : ℕ) → h ≡ hex_digit high → l ≡ hex_digit low → b / 16 ≡ high → b % 16 ≡ low → h ∷ l ∷ [] ≡ hex_digit (b / 16) ∷ hex_digit (b % 16) ∷ []
two_digits h l b high low e f g i = e_f (hex_digit high) (hex_digit low) e f ∙ ap (λ x. hex_digit x ∷ hex_digit low ∷ []) (sym g) ∙ ap (λ x. hex_digit (b / 16) ∷ hex_digit x ∷ []) (sym i)
  where
    e_f : (x y : ℕ) → h ≡ x → l ≡ y → h ∷ l ∷ [] ≡ x ∷ y ∷ []
    e_f x y p q = cc

escaped_byte_is : (least h l b : ℕ) → escaped_byte least h l ≡ Some b → (is_plain least b ≡ false) × (h ∷ l ∷ [] ≡ hex_digit (b / 16) ∷ hex_digit (b % 16) ∷ []) × (b < 256)
unfolding escaped_byte
escaped_byte_is least h l b e =
    let p = bind_is (hex_value h) (λ high. (hex_value l >>= λ low. only_if (not (is_plain least (16 * high + low))) (Some (16 * high + low)))) b e in
    let q = bind_is (hex_value l) (λ low. only_if (not (is_plain least (16 * p.0 + low))) (Some (16 * p.0 + low))) b p.2 in
    let r = only_if_is (not (is_plain least (16 * p.0 + q.0))) (Some (16 * p.0 + q.0)) b q.2 in
    let high = hex_value_is h p.0 p.1 in
    let low = hex_value_is l q.0 q.1 in
    let value : 16 * p.0 + q.0 ≡ b = some_same r.1 in
    let first : b / 16 ≡ p.0 = omega (arith, value, low.1) in
    let second : b % 16 ≡ q.0 = omega (arith, value, low.1) in
    (not_plain (is_plain least b) (ap (λ x. not (is_plain least x)) (sym value) ∙ r.0), two_digits h l b p.0 q.0 high.0 low.0 first second, omega (arith, value, high.1, low.1))
  where
    not_plain : (t : Bool) → not t ≡ true → t ≡ false
    not_plain true z = cc
    not_plain false z = refl

plain_below : (least b : ℕ) → is_plain least b ≡ true → b < 256
plain_below least b t =
    let p = both_true (nat_le least b && nat_le b 126) (not (b == 92)) t in
    let q = both_true (nat_le least b) (nat_le b 126) p.0 in
    let r : nat_le b 126 ≡ true = q.1 in
    let s : b ≤ 126 = grind (arith, nat_tests) in
    omega (arith, s)

plain_first : (least b : ℕ) (rest : List ℕ) (first : ℕ × List ℕ) → only_if (is_plain least b) (Some (b, rest)) ≡ Some first → (b ∷ rest ≡ spelled_byte least first.0 ++ first.1) × (first.0 < 256)
plain_first least b rest first h =
    let p = only_if_is (is_plain least b) (Some (b, rest)) first h in
    let P : ℕ × List ℕ → Type 0 = λ x. (b ∷ rest ≡ spelled_byte least x.0 ++ x.1) × (x.0 < 256) in
    subst P (some_same p.1) (rw p.0 refl, plain_below least b p.0)

pub first_byte_is : (least : ℕ) (text : List ℕ) (first : ℕ × List ℕ) → first_byte least text ≡ Some first → (text ≡ spelled_byte least first.0 ++ first.1) × (first.0 < 256)
unfolding first_byte
first_byte_is least [] first h = cc
first_byte_is least (b ∷ []) first h = plain_first least b [] first h
first_byte_is least (b ∷ g ∷ []) first h = plain_first least b (g ∷ []) first h
first_byte_is least (b ∷ g ∷ l ∷ rest) first h = ⊎_elim
    (λ t.
    let p = bind_is (escaped_byte least g l) (λ byte. Some (byte, rest)) first t.1 in
    let e = escaped_byte_is least g l p.0 p.1 in
    let slash : b ≡ 92 = is_slash t.0 in
    let P : ℕ × List ℕ → Type 0 = λ x. (b ∷ g ∷ l ∷ rest ≡ spelled_byte least x.0 ++ x.1) × (x.0 < 256) in
    subst P (some_same p.2) (rw (e.0, slash) (ap (λ (x : List ℕ). 92 ∷ (x ++ rest)) e.1), e.2))
    (λ f. plain_first least b (g ∷ l ∷ rest) first f)
    (chosen_so (b == 92) (escaped_byte least g l >>= λ byte. Some (byte, rest)) (only_if (is_plain least b) (Some (b, g ∷ l ∷ rest))) first h)
  where
    is_slash : (b == 92) ≡ true → b ≡ 92
    is_slash t = grind (arith, nat_tests)

    chosen_so : {A : Type 0} (t : Bool) (x y : Option A) (z : A) → (if t then x else y) ≡ Some z → ((t ≡ true) × (x ≡ Some z)) ⊎ (y ≡ Some z)
    chosen_so true x y z h = inl (refl, h)
    chosen_so false x y z h = inr h

pub unspelled_is : (least n : ℕ) (text bytes : List ℕ) → unspelled least n text ≡ Some bytes → (text ≡ spelled least bytes) × (list_all (λ b. nat_lt b 256) bytes ≡ true)
unfolding unspelled
unspelled_is least n [] bytes h =
    let P : List ℕ → Type 0 = λ x. ([] ≡ spelled least x) × (list_all (λ b. nat_lt b 256) x ≡ true) in
    subst P (some_same h) (refl, refl)
unspelled_is least zero (b ∷ text) bytes h = cc
unspelled_is least (suc n) (b ∷ text) bytes h =
    let p = bind_is (first_byte least (b ∷ text)) (λ first. (unspelled least n first.1 >>= λ rest. Some (first.0 ∷ rest))) bytes h in
    let q = bind_is (unspelled least n p.0.1) (λ rest. Some (p.0.0 ∷ rest)) bytes p.2 in
    let f = first_byte_is least (b ∷ text) p.0 p.1 in
    let r = unspelled_is least n p.0.1 q.0 q.1 in
    let small : nat_lt p.0.0 256 ≡ true = of_lt p.0.0 f.1 in
    let P : List ℕ → Type 0 = λ x. (b ∷ text ≡ spelled least x) × (list_all (λ b. nat_lt b 256) x ≡ true) in
    subst P (some_same q.2) (f.0 ∙ ap (λ x. spelled_byte least p.0.0 ++ x) r.0 ∙ sym (flat_map-cons (spelled_byte least) p.0.0 q.0), rw (small, r.1) refl)
  where
    of_lt : (i : ℕ) → i < 256 → nat_lt i 256 ≡ true
    of_lt i l = grind (arith, nat_tests)

pub text_in_is : (least : ℕ) (text bytes : List ℕ) → text_in least text ≡ Some bytes → (text ≡ spelled least bytes) × (is_text bytes ≡ true)
unfolding text_in
text_in_is least text bytes h =
    let p = only_if_is (nat_le 1 (length text)) (unspelled least (length text) text) bytes h in
    let q = unspelled_is least (length text) text bytes p.1 in
    (q.0, full bytes p.0 q.0 q.1)
  where
    full : (xs : List ℕ) → nat_le 1 (length text) ≡ true → text ≡ spelled least xs → list_all (λ b. nat_lt b 256) xs ≡ true → is_text xs ≡ true
    full [] t e a = absurd (empty t (ap length e))
      where
        empty : nat_le 1 (length text) ≡ true → length text ≡ 0 → ⊥
        empty t z = absurd (grind (arith, nat_tests))
    full (x ∷ xs) t e a = let one : nat_le 1 (length (x ∷ xs)) ≡ true = grind (arith, nat_tests) in rw (one, a) refl

-- ---- ends

of_lt : (i j : ℕ) → i < j → nat_lt i j ≡ true
of_lt i j l = grind (arith, nat_tests)

negative_is : (digits : List ℕ) (z : ℤ) → negative_in digits ≡ Some z → (45 ∷ digits ≡ signed_decimal z) × (is_code z ≡ true)
unfolding negative_in
negative_is digits z h =
    let p = bind_is (number_in (2 ^ 31 + 1) digits) (λ n. only_if (nat_le 1 n) (Some (negsuc (n - 1)))) z h in
    let q = only_if_is (nat_le 1 p.0) (Some (negsuc (p.0 - 1))) z p.2 in
    let n = number_in_is (2 ^ 31 + 1) digits p.0 p.1 in
    let one : 1 ≤ p.0 = le_from 1 p.0 q.0 in
    let back : suc (p.0 - 1) ≡ p.0 = omega (arith, one) in
    let P : ℤ → Type 0 = λ x. (45 ∷ digits ≡ signed_decimal x) × (is_code x ≡ true) in
    subst P (some_same q.1) (ap (λ (x : List ℕ). 45 ∷ x) (n.0 ∙ ap decimal (sym back)), of_lt (p.0 - 1) (2 ^ 31) (omega (arith, one, n.1)))

positive_is : (digits : List ℕ) (z : ℤ) → positive_in digits ≡ Some z → (digits ≡ signed_decimal z) × (is_code z ≡ true)
unfolding positive_in
positive_is digits z h =
    let p = map_is pos (number_in (2 ^ 31) digits) z h in
    let n = number_in_is (2 ^ 31) digits p.0 p.1 in
    let P : ℤ → Type 0 = λ x. (digits ≡ signed_decimal x) × (is_code x ≡ true) in
    subst P p.2 (n.0, of_lt p.0 (2 ^ 31) n.1)

code_is : (text : List ℕ) (z : ℤ) → code_in text ≡ Some z → (text ≡ signed_decimal z) × (is_code z ≡ true)
unfolding code_in
code_is text z h = ⊎_elim
    (λ p. let n = negative_is p.0 z p.2 in (behind_is (codes "-") text p.0 p.1 ∙ n.0, n.1))
    (λ p. positive_is text z p)
    (reading_is (behind (codes "-") text) negative_in (positive_in text) z h)

row_is : (i : ℕ) (w word : List ℕ) (rows : List (ℕ × List ℕ)) (k : ℕ) (P : ℕ → Type 0) → (word ≡ w → P i) → (number_of_word rows word ≡ Some k → P k) → number_of_word ((i, w) ∷ rows) word ≡ Some k → P k
row_is i w word rows k P here more h = by_test (bytes_eq word w) (λ t. subst P (some_same (rw t at h)) (here (same_bytes_same word w t))) (λ f. more (rw f at h))

no_row : (word : List ℕ) (k : ℕ) (P : ℕ → Type 0) → number_of_word [] word ≡ Some k → P k
no_row word k P h = absurd (none h)
  where
    none : None ≡ Some k → ⊥
    none z = cc

kind_is : (word : List ℕ) (k : ℕ) → kind_in word ≡ Some k → (word ≡ kind_word k) × ((nat_le 1 k && nat_le k 8) ≡ true)
unfolding kind_in kind_word
kind_is word k h =
    let P : ℕ → Type 0 = λ i. (word ≡ word_in kinds i) × ((nat_le 1 i && nat_le i 8) ≡ true) in
    row_is 1 (codes "float") word (drop 1 kinds) k P (λ e. (e, refl))
    (row_is 2 (codes "subroutine") word (drop 2 kinds) k P (λ e. (e, refl))
    (row_is 3 (codes "dynamic") word (drop 3 kinds) k P (λ e. (e, refl))
    (row_is 4 (codes "constant") word (drop 4 kinds) k P (λ e. (e, refl))
    (row_is 5 (codes "native") word (drop 5 kinds) k P (λ e. (e, refl))
    (row_is 6 (codes "class") word (drop 6 kinds) k P (λ e. (e, refl))
    (row_is 7 (codes "field") word (drop 7 kinds) k P (λ e. (e, refl))
    (row_is 8 (codes "method") word [] k P (λ e. (e, refl)) (no_row word k P)))))))) h

all_four : (a b c d : Bool) → a ≡ true → b ≡ true → c ≡ true → d ≡ true → (a && b && c && d) ≡ true
all_four a b c d p q r s = rw (p, q, r, s) refl

joined : (w k v p r s : List ℕ) (t : List ℕ) → t ≡ k ++ 32 ∷ r → r ≡ v ++ 32 ∷ s → s ≡ p → w ++ t ≡ w ++ k ++ 32 ∷ [] ++ v ++ 32 ∷ [] ++ p
joined w k v p r s t e f g = rw (e, f, g) (grind (arith, common_steps))

unsupported_is : (text : List ℕ) (end : End) → unsupported_in text ≡ Some end → (codes "unsupported " ++ text ≡ end_words end) × (is_end end ≡ true)
unfolding unsupported_in end_words is_end
unsupported_is text end h =
    let a = bind_is _ _ _ h in
    let b = bind_is _ _ _ a.2 in
    let c = bind_is _ _ _ b.2 in
    let d = bind_is _ _ _ c.2 in
    let e = bind_is _ _ _ d.2 in
    let f = only_if_is _ _ _ e.2 in
    let kind = kind_is a.0.0 b.0 b.1 in
    let what = text_in_is 33 c.0.0 d.0 d.1 in
    let place = text_in_is 33 c.0.1 e.0 e.1 in
    let P : End → Type 0 = λ x. (codes "unsupported " ++ text ≡ end_words x) × (is_end x ≡ true) in
    subst P (some_same f.1) (
      joined (codes "unsupported ") (kind_word b.0) (spelled 33 d.0) (spelled 33 e.0) (spelled 33 d.0 ++ 32 ∷ c.0.1) c.0.1 text
          (cut_is text a.0 a.1 ∙ ap (λ x. x ++ 32 ∷ a.0.1) kind.0 ∙ ap (λ x. kind_word b.0 ++ 32 ∷ x) (cut_is a.0.1 c.0 c.1 ∙ ap (λ x. x ++ 32 ∷ c.0.1) what.0)) refl place.0,
      all_four _ (is_text d.0) (is_named b.0 d.0) (is_text e.0) kind.1 what.1 f.0 place.1,
    )

one_word : (word text bytes : List ℕ) (rest : List ℕ) → text ≡ word ++ rest → rest ≡ spelled 33 bytes → text ≡ word ++ spelled 33 bytes
one_word word text bytes rest e f = e ∙ ap (λ x. word ++ x) f

named_end_is : (text : List ℕ) (end : End) → named_end_in text ≡ Some end → (text ≡ end_words end) × (is_end end ≡ true)
unfolding end_words is_end
named_end_is text end h = ⊎_elim
    (λ p.
    let q = map_is Uncaught (text_in 33 p.0) end p.2 in
    let r = text_in_is 33 p.0 q.0 q.1 in
    let P : End → Type 0 = λ x. (text ≡ end_words x) × (is_end x ≡ true) in
    subst P q.2 (one_word (codes "uncaught ") text q.0 p.0 (behind_is (codes "uncaught ") text p.0 p.1) r.0, r.1))
    (λ g. ⊎_elim
    (λ p.
    let q = map_is Illegal (text_in 33 p.0) end p.2 in
    let r = text_in_is 33 p.0 q.0 q.1 in
    let P : End → Type 0 = λ x. (text ≡ end_words x) × (is_end x ≡ true) in
    subst P q.2 (one_word (codes "illegal ") text q.0 p.0 (behind_is (codes "illegal ") text p.0 p.1) r.0, r.1))
    (λ n. absurd (none n))
    (reading_is (behind (codes "illegal ") text) (λ rest. option_map Illegal (text_in 33 rest)) None end g))
    (reading_is (behind (codes "uncaught ") text) (λ rest. option_map Uncaught (text_in 33 rest)) (reading (behind (codes "illegal ") text) (λ rest. option_map Illegal (text_in 33 rest)) None) end h)
  where
    none : None ≡ Some end → ⊥
    none z = cc

same_word : {A : Type 0} (text word : List ℕ) (x : A) (next : Option A) (y : A) → (if bytes_eq text word then Some x else next) ≡ Some y → ((text ≡ word) × (x ≡ y)) ⊎ (next ≡ Some y)
same_word text word x next y h = by_test (bytes_eq text word) (λ t. inl (same_bytes_same text word t, some_same (rw t at h))) (λ f. inr (rw f at h))

end_is : (text : List ℕ) (end : End) → end_in text ≡ Some end → (text ≡ end_words end) × (is_end end ≡ true)
unfolding end_in end_words is_end
end_is text end h =
    let P : End → Type 0 = λ x. (text ≡ end_words x) × (is_end x ≡ true) in
    ⊎_elim (λ p. subst P p.1 (p.0, refl)) (λ g.
    ⊎_elim (λ p. subst P p.1 (p.0, refl)) (λ i.
    ⊎_elim
    (λ p.
    let q = map_is Exit (code_in p.0) end p.2 in
    let r = code_is p.0 q.0 q.1 in
    subst P q.2 (behind_is (codes "exit ") text p.0 p.1 ∙ ap (λ x. codes "exit " ++ x) r.0, r.1))
    (λ j. ⊎_elim
    (λ p. let r = unsupported_is p.0 end p.2 in (behind_is (codes "unsupported ") text p.0 p.1 ∙ r.0, r.1))
    (λ k. named_end_is text end k)
    (reading_is (behind (codes "unsupported ") text) unsupported_in (named_end_in text) end j))
    (reading_is (behind (codes "exit ") text) (λ rest. option_map Exit (code_in rest)) _ end i))
    (same_word text (codes "unfinished") Unfinished _ end g))
    (same_word text (codes "return") Return _ end h)

-- ---- lines

both : (a b : Bool) → a ≡ true → b ≡ true → (a && b) ≡ true
both a b p q = rw (p, q) refl

root_is : (text : List ℕ) (node : ℕ × List ℕ) → root_in text ≡ Some node → (text ≡ decimal node.0 ++ 32 ∷ node.1) × (is_root node.0 ≡ true)
unfolding root_in
root_is text node h =
    let p = bind_is _ _ _ h in
    let q = only_if_is (nat_le 1 p.0.0) (Some p.0) node p.2 in
    let r = leading_is (2 ^ 64) text p.0 p.1 in
    let P : ℕ × List ℕ → Type 0 = λ x. (text ≡ decimal x.0 ++ 32 ∷ x.1) × (is_root x.0 ≡ true) in
    subst P (some_same q.1) (r.0, both (nat_le 1 p.0.0) (nat_lt p.0.0 (2 ^ 64)) q.0 (of_lt p.0.0 (2 ^ 64) r.1))

node_joined : (w t a b c d r s u : List ℕ) → t ≡ a ++ 32 ∷ r → r ≡ b ++ 32 ∷ s → s ≡ c ++ 32 ∷ u → u ≡ d → w ++ t ≡ w ++ a ++ 32 ∷ [] ++ b ++ 32 ∷ [] ++ c ++ 32 ∷ [] ++ d
node_joined w t a b c d r s u e f g h = rw (e, f, g, h) (grind (arith, common_steps))

two_joined : (w t a r d : List ℕ) → t ≡ a ++ 32 ∷ r → r ≡ d → w ++ t ≡ w ++ a ++ 32 ∷ [] ++ d
two_joined w t a r d e f = rw (e, f) (grind (arith, common_steps))

node_line_is : (text : List ℕ) (line : Line) → node_line_in text ≡ Some line → IsSpelled (codes "node " ++ text) line
unfolding node_line_in line_text is_line
node_line_is text line h =
    let a = bind_is _ _ _ h in
    let b = bind_is _ _ _ a.2 in
    let c = bind_is _ _ _ b.2 in
    let d = bind_is _ _ _ c.2 in
    let f = only_if_is _ _ _ d.2 in
    let id = leading_is (2 ^ 64) text a.0 a.1 in
    let option = leading_is (2 ^ 64) a.0.1 b.0 b.1 in
    let low = leading_is (2 ^ 64) b.0.1 c.0 c.1 in
    let high = number_in_is (2 ^ 64) c.0.1 d.0 d.1 in
    subst (λ (x : Line). IsSpelled (codes "node " ++ text) x) (some_same f.1) (record {
      spelled = node_joined (codes "node ") text (decimal a.0.0) (decimal b.0.0) (decimal c.0.0) (decimal d.0) a.0.1 b.0.1 c.0.1 id.0 option.0 low.0 high.0;
      lawful = all_four _ _ _ _ (of_lt a.0.0 (2 ^ 64) id.1) f.0 (of_lt c.0.0 (2 ^ 64) low.1) (of_lt d.0 (2 ^ 64) high.1);
    })

piece_is : (stream : Stream) (text : List ℕ) (line : Line) → piece_in stream text ≡ Some line → IsSpelled (stream_word stream ++ codes " " ++ text) line
unfolding piece_in line_text is_line
piece_is stream text line h =
    let a = bind_is _ _ _ h in
    let b = bind_is _ _ _ a.2 in
    let node = root_is text a.0 a.1 in
    let bytes = text_in_is 32 a.0.1 b.0 b.1 in
    subst (λ (x : Line). IsSpelled (stream_word stream ++ codes " " ++ text) x) (some_same b.2) (record {
      spelled = two_joined (stream_word stream ++ codes " ") text (decimal a.0.0) a.0.1 (spelled 32 b.0) node.0 bytes.0;
      lawful = both (is_root a.0.0) (is_text b.0) node.1 bytes.1;
    })

end_line_is : (text : List ℕ) (line : Line) → end_line_in text ≡ Some line → IsSpelled (codes "end " ++ text) line
unfolding end_line_in line_text is_line
end_line_is text line h =
    let a = bind_is _ _ _ h in
    let b = bind_is _ _ _ a.2 in
    let node = root_is text a.0 a.1 in
    let end = end_is a.0.1 b.0 b.1 in
    subst (λ (x : Line). IsSpelled (codes "end " ++ text) x) (some_same b.2) (record {
      spelled = two_joined (codes "end ") text (decimal a.0.0) a.0.1 (end_words b.0) node.0 end.0;
      lawful = both (is_root a.0.0) (is_end b.0) node.1 end.1;
    })

attempts_is : (text : List ℕ) (line : Line) → attempts_in text ≡ Some line → IsSpelled (codes "attempts " ++ text) line
unfolding attempts_in line_text is_line
attempts_is text line h =
    let a = bind_is _ _ _ h in
    let b = bind_is _ _ _ a.2 in
    let node = root_is text a.0 a.1 in
    let n = number_in_is (2 ^ 64) a.0.1 b.0 b.1 in
    subst (λ (x : Line). IsSpelled (codes "attempts " ++ text) x) (some_same b.2) (record {
      spelled = two_joined (codes "attempts ") text (decimal a.0.0) a.0.1 (decimal b.0) node.0 n.0;
      lawful = both (is_root a.0.0) (nat_lt b.0 (2 ^ 64)) node.1 (of_lt b.0 (2 ^ 64) n.1);
    })

one_or_two : (v : ℕ) → 1 ≤ v → v < 3 → ((v == 1) || (v == 2)) ≡ true
one_or_two zero low high = absurd (omega (arith, low))
one_or_two (suc zero) low high = refl
one_or_two (suc (suc zero)) low high = refl
one_or_two (suc (suc (suc v))) low high = absurd (omega (arith, high))

head_is : (text : List ℕ) (line : Line) → head_in text ≡ Some line → IsSpelled (codes "varexj report " ++ text) line
unfolding head_in line_text is_line
head_is text line h =
    let a = bind_is _ _ _ h in
    let b = only_if_is (nat_le 1 a.0) (Some (Head a.0)) line a.2 in
    let n = number_in_is 3 text a.0 a.1 in
    subst (λ (x : Line). IsSpelled (codes "varexj report " ++ text) x) (some_same b.1) (record { spelled = ap (λ x. codes "varexj report " ++ x) n.0; lawful = one_or_two a.0 (le_from 1 a.0 b.0) n.1 })

count_is : (text : List ℕ) (line : Line) → count_in text ≡ Some line → IsSpelled (codes "options " ++ text) line
unfolding count_in line_text is_line
count_is text line h =
    let a = map_is Count (number_in 65 text) line h in
    let n = number_in_is 65 text a.0 a.1 in
    subst (λ (x : Line). IsSpelled (codes "options " ++ text) x) a.2 (record { spelled = ap (λ x. codes "options " ++ x) n.0; lawful = le_of a.0 64 (omega (arith, n.1)) })

name_is : (text : List ℕ) (line : Line) → name_in text ≡ Some line → IsSpelled (codes "option " ++ text) line
unfolding name_in line_text is_line
name_is text line h =
    let a = only_if_is (is_name text) (Some (Named text)) line h in
    subst (λ (x : Line). IsSpelled (codes "option " ++ text) x) (some_same a.1) (record { spelled = refl; lawful = a.0 })

limit_is : (text : List ℕ) (line : Line) → limit_in text ≡ Some line → IsSpelled (codes "limit " ++ text) line
unfolding limit_in line_text is_line
limit_is text line h =
    let a = bind_is _ _ _ h in
    let b = only_if_is (nat_le 1 a.0) (Some (Limit a.0)) line a.2 in
    let n = number_in_is 1000000001 text a.0 a.1 in
    subst (λ (x : Line). IsSpelled (codes "limit " ++ text) x) (some_same b.1) (record { spelled = ap (λ x. codes "limit " ++ x) n.0; lawful = both (nat_le 1 a.0) (nat_le a.0 1000000000) b.0 (le_of a.0 1000000000 (omega (arith, n.1))) })

rounds_is : (text : List ℕ) (line : Line) → rounds_in text ≡ Some line → IsSpelled (codes "rounds " ++ text) line
unfolding rounds_in line_text is_line
rounds_is text line h =
    let a = map_is Rounds (number_in (2 ^ 128) text) line h in
    let n = number_in_is (2 ^ 128) text a.0 a.1 in
    subst (λ (x : Line). IsSpelled (codes "rounds " ++ text) x) a.2 (record { spelled = ap (λ x. codes "rounds " ++ x) n.0; lawful = of_lt a.0 (2 ^ 128) n.1 })

-- one of several readings by the first word
choice_is : (word text : List ℕ) (f : List ℕ → Option Line) (next : Option Line) (line : Line) → ((rest : List ℕ) → f rest ≡ Some line → IsSpelled (word ++ rest) line) → (next ≡ Some line → IsSpelled text line) → reading (behind word text) f next ≡ Some line → IsSpelled text line
choice_is word text f next line here more h = ⊎_elim
    (λ p. subst (λ (x : List ℕ). IsSpelled x line) (sym (behind_is word text p.0 p.1)) (here p.0 p.2))
    more
    (reading_is (behind word text) f next line h)

no_line : (text : List ℕ) (line : Line) → None ≡ Some line → IsSpelled text line
no_line text line h = absurd (none h)
  where
    none : None ≡ Some line → ⊥
    none z = cc

setting_is : (text : List ℕ) (line : Line) → setting_in text ≡ Some line → IsSpelled text line
unfolding setting_in
setting_is text line h = choice_is (codes "option ") text name_in _ line (λ r. name_is r line) (choice_is (codes "limit ") text limit_in _ line (λ r. limit_is r line) (choice_is (codes "rounds ") text rounds_in None line (λ r. rounds_is r line) (no_line text line))) h

front_is : (text : List ℕ) (line : Line) → front_in text ≡ Some line → IsSpelled text line
unfolding front_in
front_is text line h = choice_is (codes "varexj report ") text head_in _ line (λ r. head_is r line) (choice_is (codes "options ") text count_in (setting_in text) line (λ r. count_is r line) (setting_is text line)) h

done_is : (text : List ℕ) (next : Option Line) (line : Line) → (next ≡ Some line → IsSpelled text line) → (if bytes_eq text (codes "done") then Some Done else next) ≡ Some line → IsSpelled text line
unfolding line_text is_line
done_is text next line more h = ⊎_elim (λ p. subst (λ (x : Line). IsSpelled text x) p.1 (record { spelled = p.0; lawful = refl })) more (same_word text (codes "done") Done next line h)

last_is : (text : List ℕ) (line : Line) → last_in text ≡ Some line → IsSpelled text line
unfolding last_in
last_is text line h = choice_is (codes "end ") text end_line_in _ line (λ r. end_line_is r line) (choice_is (codes "attempts ") text attempts_in _ line (λ r. attempts_is r line) (done_is text (front_in text) line (front_is text line))) h

printed_is : (text : List ℕ) (line : Line) → printed_in text ≡ Some line → IsSpelled text line
unfolding printed_in
printed_is text line h = choice_is (codes "out ") text (piece_in Out) _ line (λ r. piece_is Out r line) (choice_is (codes "err ") text (piece_in Err) (last_in text) line (λ r. piece_is Err r line) (last_is text line)) h

pub line_is : (text : List ℕ) (line : Line) → line_in text ≡ Some line → IsSpelled text line
unfolding line_in
line_is text line h = choice_is (codes "node ") text node_line_in (printed_in text) line (λ r. node_line_is r line) (printed_is text line) h

pub spelled_by : (text : List ℕ) (o : Option Line) → o ≡ line_in text → IfSome o (IsSpelled text)
spelled_by text None e = tt
spelled_by text (Some line) e = line_is text line (sym e)
