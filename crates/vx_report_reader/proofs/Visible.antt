-- No lawful line has a byte below the space, so none has the byte that ends a line.
use Rattle.std.proofs.Common.{◌≡◌, ℕ, suc, ◌+◌, ◌/◌, ◌%◌, ◌<◌, ◌≤◌, ◌^◌, ℤ, pos, negsuc, List, [], ◌∷◌, ◌++◌, Bool, true, false, refl, arith, ◌==◌, ◌&&◌, ◌||◌, not, nat_le, nat_lt, codes, decimal}
use Rattle.std.proofs.lemmas.Bool.Decides.{nat_tests}
use Rattle.std.proofs.lemmas.Fmt.{decimal_by_steps_wide}
use Rattle.std.proofs.lemmas.List.Concat.{flat_map-cons}
use Rattle.std.proofs.lemmas.List.Folds.{list_all-append}
use Rattle.std.specs.Fmt.{signed_decimal}
use Rattle.std.specs.List.{list_all}
use Rattle.std.specs.Str.{bytes_eq}
use Rattle.vx_value.specs.declared.end.End.{End}
use Rattle.vx_value.specs.declared.end.End.TheVariants.{Return, Exit, Uncaught, Unsupported, Illegal, Unfinished}
use Rattle.vx_value.specs.declared.end.Stream.{Stream}
use Rattle.vx_value.specs.declared.end.Stream.TheVariants.{Out, Err}
use Rattle.vx_value.specs.Words.{hex_digit, is_plain, spelled_byte, spelled}
use Rattle.vx_words.specs.Names.{is_name, is_word_byte, begins_with_digit}
use Rattle.vx_report.specs.declared.line.Line.{Line}
use Rattle.vx_report.specs.declared.line.Line.TheVariants.{Head, Count, Named, Limit, Rounds, Numbered, Printed, Ended, Spent, Done}
use Rattle.vx_report.specs.Lines.{kinds, word_in, kind_word, end_words, stream_word, line_text}
use Rattle.vx_report_line.specs.Forms.{is_text, is_code, is_end, is_root, is_line}
use Rattle.vx_report_line.proofs.Numbers.{by_test, both_true}
use Rattle.vx_report_line.proofs.Again.{le_from, lt_from}

abbrev pub is_visible : ℕ → Bool
is_visible b = nat_le 32 b

abbrev pub AreVisible : List ℕ → Type 0
AreVisible bytes = list_all is_visible bytes ≡ true

one : (b : ℕ) → 32 ≤ b → AreVisible (b ∷ [])
one b l = let e : nat_le 32 b ≡ true = grind (arith, nat_tests) in rw e refl

both : (xs ys : List ℕ) → AreVisible xs → AreVisible ys → AreVisible (xs ++ ys)
both xs ys h k = rw (list_all-append is_visible xs ys, h, k) refl

-- two parts with a space between them
spaced : (xs ys : List ℕ) → AreVisible xs → AreVisible ys → AreVisible (xs ++ codes " " ++ ys)
spaced xs ys h k = both (xs ++ codes " ") ys (both xs (codes " ") h refl) k

number : (n : ℕ) → n < 10 ^ 64 → AreVisible (decimal n)
number n h = decimal_by_steps_wide (λ m ds. AreVisible ds)
    (λ m l. one (48 + m) (omega arith))
    (λ m ds l e. both ds ((48 + m % 10) ∷ []) e (one (48 + m % 10) (omega arith)))
    n h

signed : (z : ℤ) → is_code z ≡ true → AreVisible (signed_decimal z)
signed (pos n) h = number n (omega (arith, lt_from n (2 ^ 31) h))
signed (negsuc n) h = both (45 ∷ []) (decimal (suc n)) refl (number (suc n) (omega (arith, lt_from n (2 ^ 31) h)))

hex : (n : ℕ) → 32 ≤ hex_digit n
hex n = by_test (nat_le n 9) (λ t. rw t (omega arith)) (λ f. rw f (omega arith))

byte : (least b : ℕ) → 32 ≤ least → AreVisible (spelled_byte least b)
byte least b l = by_test (is_plain least b)
    (λ t.
    let p = both_true (nat_le least b && nat_le b 126) (not (b == 92)) t in
    let q = both_true (nat_le least b) (nat_le b 126) p.0 in
    rw t (one b (omega (arith, l, le_from least b q.0))))
    (λ f. rw f (both (92 ∷ []) (hex_digit (b / 16) ∷ hex_digit (b % 16) ∷ []) refl
    (both (hex_digit (b / 16) ∷ []) (hex_digit (b % 16) ∷ []) (one (hex_digit (b / 16)) (hex (b / 16))) (one (hex_digit (b % 16)) (hex (b % 16))))))

spelling : (least : ℕ) (bytes : List ℕ) → 32 ≤ least → AreVisible (spelled least bytes)
spelling least [] l = refl
spelling least (b ∷ bs) l = rw (flat_map-cons (spelled_byte least) b bs) (both (spelled_byte least b) (spelled least bs) (byte least b l) (spelling least bs l))

word_among : (rows : List (ℕ × List ℕ)) (n : ℕ) → list_all (λ row. list_all is_visible row.1) rows ≡ true → AreVisible (word_in rows n)
word_among [] n h = refl
word_among (row ∷ rows) n h =
    let p = both_true (list_all is_visible row.1) (list_all (λ row. list_all is_visible row.1) rows) h in
    by_test (n == row.0) (λ t. rw t p.0) (λ f. rw f (word_among rows n p.1))

kind : (n : ℕ) → AreVisible (kind_word n)
unfolding kind_word
kind n = word_among kinds n refl

low_byte : (b : ℕ) → b < 32 → is_word_byte b ≡ false
low_byte b l = grind (arith, nat_tests)

word_byte : (b : ℕ) → is_word_byte b ≡ true → is_visible b ≡ true
word_byte b h = by_test (nat_le 32 b) (λ t. t) (λ f. let l : b < 32 = grind (arith, nat_tests) in let e : is_word_byte b ≡ false = low_byte b l in cc)

word_bytes : (bytes : List ℕ) → list_all is_word_byte bytes ≡ true → AreVisible bytes
word_bytes [] h = refl
word_bytes (b ∷ bs) h = let p = both_true (is_word_byte b) (list_all is_word_byte bs) h in rw (word_byte b p.0, word_bytes bs p.1) refl

name : (bytes : List ℕ) → is_name bytes ≡ true → AreVisible bytes
unfolding is_name
name bytes h =
    let p = both_true _ (not (bytes_eq bytes (codes "true") || bytes_eq bytes (codes "false"))) h in
    let q = both_true _ (list_all is_word_byte bytes && not (begins_with_digit bytes)) p.0 in
    let r = both_true (list_all is_word_byte bytes) (not (begins_with_digit bytes)) q.1 in
    word_bytes bytes r.0

end_visible : (end : End) → is_end end ≡ true → AreVisible (end_words end)
unfolding end_words is_end
end_visible Return h = refl
end_visible (Exit code) h = both (codes "exit ") (signed_decimal code) refl (signed code h)
end_visible (Uncaught class) h = both (codes "uncaught ") (spelled 33 class) refl (spelling 33 class (omega arith))
end_visible (Unsupported word what place) h =
    let first : AreVisible (codes "unsupported " ++ kind_word word) = both (codes "unsupported ") (kind_word word) refl (kind word) in
    spaced (codes "unsupported " ++ kind_word word ++ codes " " ++ spelled 33 what) (spelled 33 place)
    (spaced (codes "unsupported " ++ kind_word word) (spelled 33 what) first (spelling 33 what (omega arith))) (spelling 33 place (omega arith))
end_visible (Illegal place) h = both (codes "illegal ") (spelled 33 place) refl (spelling 33 place (omega arith))
end_visible Unfinished h = refl

stream : (s : Stream) → AreVisible (stream_word s)
stream Out = refl
stream Err = refl

root : (node : ℕ) → is_root node ≡ true → AreVisible (decimal node)
root node h = let p = both_true (nat_le 1 node) (nat_lt node (2 ^ 64)) h in number node (omega (arith, lt_from node (2 ^ 64) p.1))

version_low : (v : ℕ) → ((v == 1) || (v == 2)) ≡ true → v < 3
version_low v h = grind (arith, nat_tests)

pub line_visible : (line : Line) → is_line line ≡ true → AreVisible (line_text line)
unfolding line_text is_line
line_visible (Head version) h = both (codes "varexj report ") (decimal version) refl (number version (omega (arith, version_low version h)))
line_visible (Count options) h = both (codes "options ") (decimal options) refl (number options (omega (arith, le_from options 64 h)))
line_visible (Named bytes) h = both (codes "option ") bytes refl (name bytes h)
line_visible (Limit limit) h =
    let p = both_true (nat_le 1 limit) (nat_le limit 1000000000) h in
    both (codes "limit ") (decimal limit) refl (number limit (omega (arith, le_from limit 1000000000 p.1)))
line_visible (Rounds rounds) h = both (codes "rounds ") (decimal rounds) refl (number rounds (omega (arith, lt_from rounds (2 ^ 128) h)))
line_visible (Numbered id node) h =
    let p = both_true _ (nat_lt node.high (2 ^ 64)) h in
    let q = both_true _ (nat_lt node.low (2 ^ 64)) p.0 in
    let r = both_true (nat_lt id (2 ^ 64)) (nat_lt node.option (2 ^ 32)) q.0 in
    let first : AreVisible (codes "node " ++ decimal id) = both (codes "node ") (decimal id) refl (number id (omega (arith, lt_from id (2 ^ 64) r.0))) in
    spaced (codes "node " ++ decimal id ++ codes " " ++ decimal node.option ++ codes " " ++ decimal node.low) (decimal node.high)
    (spaced (codes "node " ++ decimal id ++ codes " " ++ decimal node.option) (decimal node.low)
    (spaced (codes "node " ++ decimal id) (decimal node.option) first (number node.option (omega (arith, lt_from node.option (2 ^ 32) r.1))))
    (number node.low (omega (arith, lt_from node.low (2 ^ 64) q.1))))
    (number node.high (omega (arith, lt_from node.high (2 ^ 64) p.1)))
line_visible (Printed piece) h =
    let p = both_true (is_root piece.node) (is_text piece.text) h in
    spaced (stream_word piece.stream ++ codes " " ++ decimal piece.node) (spelled 32 piece.text)
    (spaced (stream_word piece.stream) (decimal piece.node) (stream piece.stream) (root piece.node p.0)) (spelling 32 piece.text (omega arith))
line_visible (Ended line) h =
    let p = both_true (is_root line.node) (is_end line.end) h in
    spaced (codes "end " ++ decimal line.node) (end_words line.end) (both (codes "end ") (decimal line.node) refl (root line.node p.0)) (end_visible line.end p.1)
line_visible (Spent line) h =
    let p = both_true (is_root line.node) (nat_lt line.attempts (2 ^ 64)) h in
    spaced (codes "attempts " ++ decimal line.node) (decimal line.attempts) (both (codes "attempts ") (decimal line.node) refl (root line.node p.0))
    (number line.attempts (omega (arith, lt_from line.attempts (2 ^ 64) p.1)))
line_visible Done h = refl
