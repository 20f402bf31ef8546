-- What is spelled so is read.
use Rattle.std.proofs.Common.{◌≡◌, ℕ, zero, suc, ◌+◌, ◌-◌, ◌*◌, ◌/◌, ◌%◌, ◌<◌, ◌≤◌, ◌^◌, ℤ, pos, negsuc, List, [], ◌∷◌, ◌++◌, length, Bool, true, false, Option, Some, None, option_map, refl, ap, ◌∙◌, arith, ◌==◌, ◌&&◌, ◌||◌, not, nat_le, nat_lt, nat_eq, codes, decimal, if◌then◌else◌, length-append}
use Rattle.std.proofs.lemmas.Bool.Decides.{nat_tests}
use Rattle.std.proofs.lemmas.Grind.{common_steps}
use Rattle.std.proofs.lemmas.Fmt.{decimal_by_steps_wide}
use Rattle.std.proofs.lemmas.List.Concat.{flat_map-cons}
use Rattle.std.specs.Fmt.{signed_decimal}
use Rattle.std.specs.List.{list_all}
use Rattle.vx_value.specs.declared.end.End.{End}
use Rattle.vx_value.specs.declared.end.End.TheVariants.{Return, Exit, Uncaught, Unsupported, Illegal, Unfinished}
use Rattle.vx_value.specs.declared.end.Stream.{Stream}
use Rattle.vx_value.specs.declared.end.Stream.TheVariants.{Out, Err}
use Rattle.vx_value.specs.Words.{hex_digit, is_plain, escape, spelled_byte, spelled}
use Rattle.vx_report.specs.declared.line.Line.{Line}
use Rattle.vx_report.specs.declared.line.Line.TheVariants.{Head, Count, Named, Limit, Rounds, Numbered, Printed, Ended, Spent, Done}
use Rattle.vx_report.specs.Lines.{kind_word, end_words, line_text}
use Rattle.vx_words.specs.Names.{is_name}
use Rattle.vx_report_line.specs.Forms.{is_text, is_code, is_named, is_end, is_root, is_line, IsOnly}
use Rattle.vx_words.specs.Hex.{hex_value}
use Rattle.vx_report_line.specs.Parsing.{reading, behind, cut, leading, escaped_byte, first_byte, unspelled, text_in, negative_in, positive_in, code_in, kind_in, unsupported_in, end_in, node_line_in, root_in, piece_in, end_line_in, attempts_in, head_in, count_in, name_in, limit_in, rounds_in, setting_in, front_in, last_in, printed_in, line_in}
use Rattle.vx_words.proofs.Decimals.{wide}
use Rattle.vx_report_line.proofs.Numbers.{by_test, both_true, number_in_of}

nat_same : (i : ℕ) → nat_eq i i ≡ true
nat_same i = grind (arith, nat_tests)

pub le_of : (i j : ℕ) → i ≤ j → nat_le i j ≡ true
le_of i j l = grind (arith, nat_tests)

not_le : (i j : ℕ) → j < i → nat_le i j ≡ false
not_le i j l = grind (arith, nat_tests)

pub le_from : (i j : ℕ) → nat_le i j ≡ true → i ≤ j
le_from i j t = grind (arith, nat_tests)

pub lt_from : (i j : ℕ) → nat_lt i j ≡ true → i < j
lt_from i j t = grind (arith, nat_tests)

pub behind_of : (word rest : List ℕ) → behind word (word ++ rest) ≡ Some rest
unfolding behind
behind_of [] rest = refl
behind_of (b ∷ bs) rest = rw (nat_same b) (behind_of bs rest)

-- ---- words without a space

abbrev no_space : ℕ → Bool
no_space b = not (b == 32)

no_spaces-append : (xs ys : List ℕ) → list_all no_space xs ≡ true → list_all no_space ys ≡ true → list_all no_space (xs ++ ys) ≡ true
no_spaces-append [] ys h k = k
no_spaces-append (x ∷ xs) ys h k = let p = both_true (no_space x) (list_all no_space xs) h in rw (p.0, no_spaces-append xs ys p.1 k) refl

one_no_space : (b : ℕ) → 32 < b → list_all no_space (b ∷ []) ≡ true
one_no_space b l = let e : (b == 32) ≡ false = grind (arith, nat_tests) in rw e refl

decimal_no_space : (n : ℕ) → n < 10 ^ 64 → list_all no_space (decimal n) ≡ true
decimal_no_space n h = decimal_by_steps_wide (λ m ds. list_all no_space ds ≡ true)
    (λ m l. one_no_space (48 + m) (omega arith))
    (λ m ds l e. no_spaces-append ds ((48 + m % 10) ∷ []) e (one_no_space (48 + m % 10) (omega arith)))
    n h

hex_above : (n : ℕ) → 32 < hex_digit n
hex_above n = by_test (nat_le n 9) (λ t. rw t (omega arith)) (λ f. rw f (omega arith))

spelled_byte_no_space : (b : ℕ) → list_all no_space (spelled_byte 33 b) ≡ true
spelled_byte_no_space b = by_test (is_plain 33 b)
    (λ t.
    let p = both_true (nat_le 33 b && nat_le b 126) (not (b == 92)) t in
    let q = both_true (nat_le 33 b) (nat_le b 126) p.0 in
    rw t (one_no_space b (le_from 33 b q.0)))
    (λ f. rw f (no_spaces-append (92 ∷ []) (hex_digit (b / 16) ∷ hex_digit (b % 16) ∷ []) refl
    (no_spaces-append (hex_digit (b / 16) ∷ []) (hex_digit (b % 16) ∷ []) (one_no_space (hex_digit (b / 16)) (hex_above (b / 16))) (one_no_space (hex_digit (b % 16)) (hex_above (b % 16))))))

word_no_space : (bytes : List ℕ) → list_all no_space (spelled 33 bytes) ≡ true
word_no_space [] = refl
word_no_space (b ∷ bs) = rw (flat_map-cons (spelled_byte 33) b bs) (no_spaces-append (spelled_byte 33 b) (spelled 33 bs) (spelled_byte_no_space b) (word_no_space bs))

pub cut_of : (word rest : List ℕ) → list_all no_space word ≡ true → cut (word ++ 32 ∷ rest) ≡ Some (word, rest)
unfolding cut
cut_of [] rest h = refl
cut_of (b ∷ bs) rest h =
    let p = both_true (no_space b) (list_all no_space bs) h in
    let e : (b == 32) ≡ false = not_true (b == 32) p.0 in
    rw (e, cut_of bs rest p.1) refl
  where
    not_true : (t : Bool) → not t ≡ true → t ≡ false
    not_true true z = cc
    not_true false z = refl

pub leading_of : (n : ℕ) (rest : List ℕ) → n < 2 ^ 64 → leading (2 ^ 64) (decimal n ++ 32 ∷ rest) ≡ Some (n, rest)
unfolding leading
leading_of n rest h =
    let w : n < 10 ^ 64 = omega (arith, h) in
    rw (cut_of (decimal n) rest (decimal_no_space n w), number_in_of (2 ^ 64) n h w) refl

-- ---- texts

hex_value_of : (n : ℕ) → n < 16 → hex_value (hex_digit n) ≡ Some n
hex_value_of n h = by_test (nat_le n 9)
    (λ t.
    let small : n ≤ 9 = le_from n 9 t in
    let back : 48 + n - 48 ≡ n = omega arith in
    rw (t, le_of 48 (48 + n) (omega arith), le_of (48 + n) 57 (omega (arith, small)), back) refl)
    (λ f.
    let large : 9 < n = from_not n f in
    let back : 87 + n - 87 ≡ n = omega arith in
    rw (f, le_of 48 (87 + n) (omega arith), not_le (87 + n) 57 (omega (arith, large)), le_of 97 (87 + n) (omega (arith, large)), le_of (87 + n) 102 (omega (arith, h)), back) refl)
  where
    from_not : (m : ℕ) → nat_le m 9 ≡ false → 9 < m
    from_not m z = grind (arith, nat_tests)

escaped_byte_of : (least b : ℕ) → b < 256 → is_plain least b ≡ false → escaped_byte least (hex_digit (b / 16)) (hex_digit (b % 16)) ≡ Some b
unfolding escaped_byte
escaped_byte_of least b h f =
    let back : 16 * (b / 16) + b % 16 ≡ b = omega arith in
    rw (hex_value_of (b / 16) (omega (arith, h)), hex_value_of (b % 16) (omega arith), back, f) refl

not_true : (t : Bool) → not t ≡ true → t ≡ false
not_true true z = cc
not_true false z = refl

plain_of : (least b : ℕ) (rest : List ℕ) → is_plain least b ≡ true → first_byte least (b ∷ rest) ≡ Some (b, rest)
unfolding first_byte
plain_of least b [] t = rw t refl
plain_of least b (g ∷ []) t = rw t refl
plain_of least b (g ∷ l ∷ more) t =
    let p = both_true (nat_le least b && nat_le b 126) (not (b == 92)) t in
    let q = both_true (nat_le least b) (nat_le b 126) p.0 in
    let e : (b == 92) ≡ false = not_true (b == 92) p.1 in
    rw (e, q.0, q.1) refl

escape_of : (least b : ℕ) (rest : List ℕ) → b < 256 → is_plain least b ≡ false → first_byte least (escape b ++ rest) ≡ Some (b, rest)
unfolding first_byte
escape_of least b rest h f = rw (escaped_byte_of least b h f) refl

first_byte_of : (least b : ℕ) (rest : List ℕ) → b < 256 → first_byte least (spelled_byte least b ++ rest) ≡ Some (b, rest)
first_byte_of least b rest h = chosen (is_plain least b) (plain_of least b rest) (escape_of least b rest h)
  where
    chosen : (t : Bool) → (t ≡ true → first_byte least (b ∷ rest) ≡ Some (b, rest)) → (t ≡ false → first_byte least (escape b ++ rest) ≡ Some (b, rest)) → first_byte least ((if t then b ∷ [] else escape b) ++ rest) ≡ Some (b, rest)
    chosen true p q = p refl
    chosen false p q = q refl

-- a first byte, and what comes then
unspelled_first : (least n b : ℕ) (text rest bytes : List ℕ) → first_byte least text ≡ Some (b, rest) → unspelled least n rest ≡ Some bytes → unspelled least (suc n) text ≡ Some (b ∷ bytes)
unfolding unspelled
unspelled_first least n b [] rest bytes e f = absurd (none e)
  where
    none : first_byte least [] ≡ Some (b, rest) → ⊥
    none z = unfold first_byte in cc
unspelled_first least n b (t ∷ text) rest bytes e f = rw (e, f) refl

spelled_byte_long : (least b : ℕ) → 1 ≤ length (spelled_byte least b)
spelled_byte_long least b = by_test (is_plain least b) (λ t. rw t (omega arith)) (λ f. rw f (omega arith))

unspelled_of : (least n : ℕ) (bytes : List ℕ) → list_all (λ b. nat_lt b 256) bytes ≡ true → length (spelled least bytes) ≤ n → unspelled least n (spelled least bytes) ≡ Some bytes
unspelled_of least n [] h k = unfold unspelled in refl
unspelled_of least zero (b ∷ bs) h k =
    let e = ap length (flat_map-cons (spelled_byte least) b bs) in
    absurd (omega (arith, k, e, length-append (spelled_byte least b) (spelled least bs), spelled_byte_long least b))
unspelled_of least (suc n) (b ∷ bs) h k =
    let p = both_true (nat_lt b 256) (list_all (λ b. nat_lt b 256) bs) h in
    let e = ap length (flat_map-cons (spelled_byte least) b bs) in
    let less : length (spelled least bs) ≤ n = omega (arith, k, e, length-append (spelled_byte least b) (spelled least bs), spelled_byte_long least b) in
    rw (flat_map-cons (spelled_byte least) b bs) (unspelled_first least n b (spelled_byte least b ++ spelled least bs) (spelled least bs) bs (first_byte_of least b (spelled least bs) (lt_from b 256 p.0)) (unspelled_of least n bs p.1 less))

pub text_in_of : (least : ℕ) (bytes : List ℕ) → is_text bytes ≡ true → text_in least (spelled least bytes) ≡ Some bytes
unfolding text_in
text_in_of least [] h = absurd (none h)
  where
    none : is_text [] ≡ true → ⊥
    none z = cc
text_in_of least (b ∷ bs) h =
    let p = both_true (nat_le 1 (length (b ∷ bs))) (list_all (λ b. nat_lt b 256) (b ∷ bs)) h in
    let e = ap length (flat_map-cons (spelled_byte least) b bs) in
    let some : nat_le 1 (length (spelled least (b ∷ bs))) ≡ true = le_of 1 (length (spelled least (b ∷ bs))) (omega (arith, e, length-append (spelled_byte least b) (spelled least bs), spelled_byte_long least b)) in
    rw some (unspelled_of least (length (spelled least (b ∷ bs))) (b ∷ bs) p.1 (omega arith))

-- ---- ends

none_behind : {A : Type 0} (o : Option (List ℕ)) (f : List ℕ → Option A) (next : Option A) → o ≡ None → reading o f next ≡ next
none_behind None f next e = refl
none_behind (Some x) f next e = cc

some_behind : {A : Type 0} (word rest : List ℕ) (f : List ℕ → Option A) (next : Option A) → reading (behind word (word ++ rest)) f next ≡ f rest
some_behind word rest f next = rw (behind_of word rest) refl

negative_of : (n : ℕ) → n < 2 ^ 31 → negative_in (decimal (suc n)) ≡ Some (negsuc n)
unfolding negative_in
negative_of n h =
    let back : suc n - 1 ≡ n = omega arith in
    rw (number_in_of (2 ^ 31 + 1) (suc n) (omega (arith, h)) (omega (arith, h)), le_of 1 (suc n) (omega arith), back) refl

positive_of : (n : ℕ) → n < 2 ^ 31 → positive_in (decimal n) ≡ Some (pos n)
unfolding positive_in
positive_of n h = rw (number_in_of (2 ^ 31) n h (omega (arith, h))) refl

-- a decimal number begins with no sign
no_sign : (n : ℕ) → n < 10 ^ 64 → behind (45 ∷ []) (decimal n) ≡ None
unfolding behind
no_sign n h = (decimal_by_steps_wide (λ m ds. (behind (45 ∷ []) ds ≡ None) × (1 ≤ length ds)) (λ m l. (first (48 + m) [] (omega arith), omega arith)) (λ m ds l e. longer ds ((48 + m % 10) ∷ []) e) n h).0
  where
    first : (b : ℕ) (more : List ℕ) → 45 < b → behind (45 ∷ []) (b ∷ more) ≡ None
    first b more l = let e : nat_eq 45 b ≡ false = grind (arith, nat_tests) in rw e refl

    longer : (ds more : List ℕ) → (behind (45 ∷ []) ds ≡ None) × (1 ≤ length ds) → (behind (45 ∷ []) (ds ++ more) ≡ None) × (1 ≤ length (ds ++ more))
    longer [] more e = absurd (omega (arith, e.1))
    longer (d ∷ ds) more e = by_test (nat_eq 45 d) (λ t. absurd (clash (rw t at e.0))) (λ f. (rw f refl, omega arith))
      where
        clash : Some ds ≡ None → ⊥
        clash z = cc

code_of : (z : ℤ) → is_code z ≡ true → code_in (signed_decimal z) ≡ Some z
unfolding code_in
code_of (pos n) h =
    let l = lt_from n (2 ^ 31) h in
    none_behind (behind (codes "-") (decimal n)) negative_in (positive_in (decimal n)) (no_sign n (omega (arith, l))) ∙ positive_of n l
code_of (negsuc n) h = some_behind (codes "-") (decimal (suc n)) negative_in (positive_in (45 ∷ decimal (suc n))) ∙ negative_of n (lt_from n (2 ^ 31) h)

over_eight : (k : ℕ) → 8 < k → (nat_le 1 k && nat_le k 8) ≡ true → ⊥
over_eight k l h = let p = both_true (nat_le 1 k) (nat_le k 8) h in let q = le_from k 8 p.1 in omega (arith, q, l)

kind_of : (k : ℕ) → (nat_le 1 k && nat_le k 8) ≡ true → kind_in (kind_word k) ≡ Some k
unfolding kind_in kind_word
kind_of zero h = cc
kind_of (suc zero) h = refl
kind_of (suc (suc zero)) h = refl
kind_of (suc (suc (suc zero))) h = refl
kind_of (suc (suc (suc (suc zero)))) h = refl
kind_of (suc (suc (suc (suc (suc zero))))) h = refl
kind_of (suc (suc (suc (suc (suc (suc zero)))))) h = refl
kind_of (suc (suc (suc (suc (suc (suc (suc zero))))))) h = refl
kind_of (suc (suc (suc (suc (suc (suc (suc (suc zero)))))))) h = refl
kind_of (suc (suc (suc (suc (suc (suc (suc (suc (suc k))))))))) h = absurd (over_eight (suc (suc (suc (suc (suc (suc (suc (suc (suc k))))))))) (omega arith) h)

kind_no_space : (k : ℕ) → (nat_le 1 k && nat_le k 8) ≡ true → list_all no_space (kind_word k) ≡ true
unfolding kind_word
kind_no_space zero h = cc
kind_no_space (suc zero) h = refl
kind_no_space (suc (suc zero)) h = refl
kind_no_space (suc (suc (suc zero))) h = refl
kind_no_space (suc (suc (suc (suc zero)))) h = refl
kind_no_space (suc (suc (suc (suc (suc zero))))) h = refl
kind_no_space (suc (suc (suc (suc (suc (suc zero)))))) h = refl
kind_no_space (suc (suc (suc (suc (suc (suc (suc zero))))))) h = refl
kind_no_space (suc (suc (suc (suc (suc (suc (suc (suc zero)))))))) h = refl
kind_no_space (suc (suc (suc (suc (suc (suc (suc (suc (suc k))))))))) h = absurd (over_eight (suc (suc (suc (suc (suc (suc (suc (suc (suc k))))))))) (omega arith) h)

unsupported_of : (word : ℕ) (what place : List ℕ) → is_end (Unsupported word what place) ≡ true → unsupported_in (kind_word word ++ 32 ∷ (spelled 33 what ++ 32 ∷ spelled 33 place)) ≡ Some (Unsupported word what place)
unfolding unsupported_in is_end
unsupported_of word what place h =
    let p = both_true (nat_le 1 word && nat_le word 8 && is_text what && is_named word what) (is_text place) h in
    let q = both_true (nat_le 1 word && nat_le word 8 && is_text what) (is_named word what) p.0 in
    let r = both_true (nat_le 1 word && nat_le word 8) (is_text what) q.0 in
    let rest = spelled 33 what ++ 32 ∷ spelled 33 place in
    rw (cut_of (kind_word word) rest (kind_no_space word r.0), kind_of word r.0, cut_of (spelled 33 what) (spelled 33 place) (word_no_space what), text_in_of 33 what r.1, text_in_of 33 place p.1, q.1) refl

unsupported_right : (k v q : List ℕ) → k ++ 32 ∷ [] ++ v ++ 32 ∷ [] ++ q ≡ k ++ 32 ∷ (v ++ 32 ∷ q)
unsupported_right k v q = grind (arith, common_steps)

end_of : (end : End) → is_end end ≡ true → end_in (end_words end) ≡ Some end
unfolding end_in end_words
end_of Return h = refl
end_of (Exit code) h = unfold behind in unfold is_end in ap (option_map Exit) (code_of code h)
end_of (Uncaught class) h = unfold behind in unfold is_end in ap (option_map Uncaught) (text_in_of 33 class h)
end_of (Unsupported word what place) h = unfold behind in ap unsupported_in (unsupported_right (kind_word word) (spelled 33 what) (spelled 33 place)) ∙ unsupported_of word what place h
end_of (Illegal place) h = unfold behind in unfold is_end in ap (option_map Illegal) (text_in_of 33 place h)
end_of Unfinished h = refl

-- ---- lines

root_of : (node : ℕ) (rest : List ℕ) → is_root node ≡ true → root_in (decimal node ++ 32 ∷ rest) ≡ Some (node, rest)
unfolding root_in
root_of node rest h =
    let p = both_true (nat_le 1 node) (nat_lt node (2 ^ 64)) h in
    rw (leading_of node rest (lt_from node (2 ^ 64) p.1), p.0) refl

two_right : (a d : List ℕ) → a ++ 32 ∷ [] ++ d ≡ a ++ 32 ∷ d
two_right a d = grind (arith, common_steps)

node_right : (a b c d : List ℕ) → a ++ 32 ∷ [] ++ b ++ 32 ∷ [] ++ c ++ 32 ∷ [] ++ d ≡ a ++ 32 ∷ (b ++ 32 ∷ (c ++ 32 ∷ d))
node_right a b c d = grind (arith, common_steps)

node_line_of : (id option low high : ℕ) → id < 2 ^ 64 → option < 2 ^ 32 → low < 2 ^ 64 → high < 2 ^ 64
    → node_line_in (decimal id ++ 32 ∷ (decimal option ++ 32 ∷ (decimal low ++ 32 ∷ decimal high))) ≡ Some (Numbered id (record { option = option; low = low; high = high }))
unfolding node_line_in
node_line_of id option low high a b c d =
    let t : nat_lt option (2 ^ 32) ≡ true = lt_of option (2 ^ 32) b in
    rw (
      leading_of id (decimal option ++ 32 ∷ (decimal low ++ 32 ∷ decimal high)) a,
      leading_of option (decimal low ++ 32 ∷ decimal high) (omega (arith, b)),
      leading_of low (decimal high) c,
      number_in_of (2 ^ 64) high d (omega (arith, d)),
      t,
    ) refl
  where
    lt_of : (i j : ℕ) → i < j → nat_lt i j ≡ true
    lt_of i j l = grind (arith, nat_tests)

piece_of : (stream : Stream) (node : ℕ) (text : List ℕ) → is_root node ≡ true → is_text text ≡ true → piece_in stream (decimal node ++ 32 ∷ spelled 32 text) ≡ Some (Printed (record { node = node; stream = stream; text = text }))
unfolding piece_in
piece_of stream node text h k = rw (root_of node (spelled 32 text) h, text_in_of 32 text k) refl

end_line_of : (node : ℕ) (end : End) → is_root node ≡ true → is_end end ≡ true → end_line_in (decimal node ++ 32 ∷ end_words end) ≡ Some (Ended (record { node = node; end = end }))
unfolding end_line_in
end_line_of node end h k = rw (root_of node (end_words end) h, end_of end k) refl

attempts_of : (node n : ℕ) → is_root node ≡ true → n < 2 ^ 64 → attempts_in (decimal node ++ 32 ∷ decimal n) ≡ Some (Spent (record { node = node; attempts = n }))
unfolding attempts_in
attempts_of node n h l = rw (root_of node (decimal n) h, number_in_of (2 ^ 64) n l (omega (arith, l))) refl

head_of : (v : ℕ) → ((v == 1) || (v == 2)) ≡ true → head_in (decimal v) ≡ Some (Head v)
unfolding head_in
head_of zero h = cc
head_of (suc zero) h = rw (number_in_of 3 1 (omega arith) (omega arith)) refl
head_of (suc (suc zero)) h = rw (number_in_of 3 2 (omega arith) (omega arith)) refl
head_of (suc (suc (suc v))) h = absurd (other h)
  where
    other : ((suc (suc (suc v)) == 1) || (suc (suc (suc v)) == 2)) ≡ true → ⊥
    other z =
        let a : (suc (suc (suc v)) == 1) ≡ false = grind (arith, nat_tests) in
        let b : (suc (suc (suc v)) == 2) ≡ false = grind (arith, nat_tests) in
        let c : false ≡ true = rw (a, b) at z in
        absurd (clash c)
      where
        clash : false ≡ true → ⊥
        clash c = cc

count_of : (k : ℕ) → nat_le k 64 ≡ true → count_in (decimal k) ≡ Some (Count k)
unfolding count_in
count_of k h = let l = le_from k 64 h in rw (number_in_of 65 k (omega (arith, l)) (omega (arith, l))) refl

name_of : (name : List ℕ) → is_name name ≡ true → name_in name ≡ Some (Named name)
unfolding name_in
name_of name h = rw h refl

limit_of : (limit : ℕ) → (nat_le 1 limit && nat_le limit 1000000000) ≡ true → limit_in (decimal limit) ≡ Some (Limit limit)
unfolding limit_in
limit_of limit h =
    let p = both_true (nat_le 1 limit) (nat_le limit 1000000000) h in
    let l = le_from limit 1000000000 p.1 in
    rw (number_in_of 1000000001 limit (omega (arith, l)) (omega (arith, l)), p.0) refl

rounds_of : (n : ℕ) → nat_lt n (2 ^ 128) ≡ true → rounds_in (decimal n) ≡ Some (Rounds n)
unfolding rounds_in
rounds_of n h = let l = lt_from n (2 ^ 128) h in rw (number_in_of (2 ^ 128) n l (wide n l)) refl

printed_of : (stream : Stream) (node : ℕ) (text : List ℕ) → is_root node ≡ true → is_text text ≡ true → line_in (line_text (Printed (record { node = node; stream = stream; text = text }))) ≡ Some (Printed (record { node = node; stream = stream; text = text }))
unfolding line_in printed_in behind line_text
printed_of Out node text h k = ap (piece_in Out) (two_right (decimal node) (spelled 32 text)) ∙ piece_of Out node text h k
printed_of Err node text h k = ap (piece_in Err) (two_right (decimal node) (spelled 32 text)) ∙ piece_of Err node text h k

pub line_of : (line : Line) → is_line line ≡ true → line_in (line_text line) ≡ Some line
unfolding line_in printed_in last_in front_in setting_in behind line_text is_line
line_of (Head version) h = head_of version h
line_of (Count options) h = count_of options h
line_of (Named name) h = name_of name h
line_of (Limit limit) h = limit_of limit h
line_of (Rounds rounds) h = rounds_of rounds h
line_of (Numbered id node) h =
    let p = both_true _ (nat_lt node.high (2 ^ 64)) h in
    let q = both_true _ (nat_lt node.low (2 ^ 64)) p.0 in
    let r = both_true (nat_lt id (2 ^ 64)) (nat_lt node.option (2 ^ 32)) q.0 in
    ap node_line_in (node_right (decimal id) (decimal node.option) (decimal node.low) (decimal node.high))
    ∙ node_line_of id node.option node.low node.high (lt_from id (2 ^ 64) r.0) (lt_from node.option (2 ^ 32) r.1) (lt_from node.low (2 ^ 64) q.1) (lt_from node.high (2 ^ 64) p.1)
line_of (Printed piece) h = let p = both_true (is_root piece.node) (is_text piece.text) h in printed_of piece.stream piece.node piece.text p.0 p.1
line_of (Ended line) h =
    let p = both_true (is_root line.node) (is_end line.end) h in
    ap end_line_in (two_right (decimal line.node) (end_words line.end)) ∙ end_line_of line.node line.end p.0 p.1
line_of (Spent line) h =
    let p = both_true (is_root line.node) (nat_lt line.attempts (2 ^ 64)) h in
    ap attempts_in (two_right (decimal line.node) (decimal line.attempts)) ∙ attempts_of line.node line.attempts p.0 (lt_from line.attempts (2 ^ 64) p.1)
line_of Done h = refl

pub found_by : (text : List ℕ) (o : Option Line) → o ≡ line_in text → IsOnly text o
found_by text o e = record { same = λ line s. e ∙ ap line_in s.spelled ∙ line_of line s.lawful }
