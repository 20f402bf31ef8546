-- Bytes cut into lines: the lines of a text are determined by its bytes.
use Rattle.std.proofs.Common.{◌≡◌, ◌≢◌, ℕ, suc, List, [], ◌∷◌, ◌++◌, true, false, refl, ap, sym, ◌∙◌, arith, ◌==◌, not, append_assoc}
use Rattle.std.proofs.lemmas.Bool.Decides.{nat_tests}
use Rattle.std.proofs.lemmas.Option.{same_Some}
use Rattle.std.specs.List.{list_all}
use Rattle.vx_report.specs.declared.line.Line.{Line}
use Rattle.vx_report.specs.Lines.{line_text, whole_line}
use Rattle.vx_report_line.specs.Forms.{is_line}
use Rattle.vx_report_line.specs.Parsing.{line_in}
use Rattle.vx_report_line.specs.LineEnds.{HasNoEnd}
use Rattle.vx_report_line.proofs.Again.{line_of}
use Rattle.vx_report_line.proofs.Numbers.{both_true}
use Rattle.vx_report_reader.proofs.Visible.{is_visible, line_visible}

-- no byte ends a line
abbrev pub HasOnlyOthers : List ℕ → Type 0
HasOnlyOthers bytes = list_all (λ b. not (b == 10)) bytes ≡ true

pub no_end : (bytes : List ℕ) → HasNoEnd bytes → HasOnlyOthers bytes
no_end [] h = refl
no_end (b ∷ bs) h =
    let first : b ≢ 10 = h.none 0 (omega arith) in
    let t : (b == 10) ≡ false = grind (arith, nat_tests) in
    rw (t, no_end bs (record { none = λ k l. h.none (suc k) (omega (arith, l)) })) refl

no_end_byte : (b : ℕ) → is_visible b ≡ true → not (b == 10) ≡ true
no_end_byte b h = let t : (b == 10) ≡ false = grind (arith, nat_tests) in rw t refl

no_end_bytes : (bytes : List ℕ) → list_all is_visible bytes ≡ true → HasOnlyOthers bytes
no_end_bytes [] h = refl
no_end_bytes (b ∷ bs) h = let p = both_true (is_visible b) (list_all is_visible bs) h in rw (no_end_byte b p.0, no_end_bytes bs p.1) refl

pub line_no_end : (line : Line) → is_line line ≡ true → HasOnlyOthers (line_text line)
line_no_end line h = no_end_bytes (line_text line) (line_visible line h)

not_end : (b : ℕ) → not (b == 10) ≡ true → 10 ≡ b → ⊥
not_end b h e = let t : (b == 10) ≡ true = grind (arith, nat_tests) in let f : false ≡ true = rw t at h in cc

-- what stands before the first byte that ends a line, and behind it
pub cut_same : (xs ys more rest : List ℕ) → HasOnlyOthers xs → HasOnlyOthers ys → xs ++ 10 ∷ more ≡ ys ++ 10 ∷ rest → (xs ≡ ys) × (more ≡ rest)
cut_same [] [] more rest h k e = (refl, cc)
cut_same [] (y ∷ ys) more rest h k e = let p = both_true (not (y == 10)) (list_all (λ b. not (b == 10)) ys) k in absurd (not_end y p.0 cc)
cut_same (x ∷ xs) [] more rest h k e = let p = both_true (not (x == 10)) (list_all (λ b. not (b == 10)) xs) h in absurd (not_end x p.0 (sym cc))
cut_same (x ∷ xs) (y ∷ ys) more rest h k e =
    let p = both_true (not (x == 10)) (list_all (λ b. not (b == 10)) xs) h in
    let q = both_true (not (y == 10)) (list_all (λ b. not (b == 10)) ys) k in
    let first : x ≡ y = cc in
    let others : xs ++ 10 ∷ more ≡ ys ++ 10 ∷ rest = cc in
    let r = cut_same xs ys more rest p.1 q.1 others in
    (rw (first, r.0) refl, r.1)

-- where the last byte that ends a line isn't there
pub cut_none : (xs ys rest : List ℕ) → HasOnlyOthers xs → xs ≡ ys ++ 10 ∷ rest → ⊥
cut_none [] [] rest h e = cc
cut_none [] (y ∷ ys) rest h e = cc
cut_none (x ∷ xs) [] rest h e = let p = both_true (not (x == 10)) (list_all (λ b. not (b == 10)) xs) h in not_end x p.0 (sym cc)
cut_none (x ∷ xs) (y ∷ ys) rest h e = let p = both_true (not (x == 10)) (list_all (λ b. not (b == 10)) xs) h in cut_none xs ys rest p.1 cc

-- a whole line with what stands behind it
pub whole_line-append : (line : Line) (rest : List ℕ) → whole_line line ++ rest ≡ line_text line ++ 10 ∷ rest
unfolding whole_line
whole_line-append line rest = append_assoc (line_text line) (10 ∷ []) rest

-- lines of equal texts are equal
pub line_same : (a b : Line) → is_line a ≡ true → is_line b ≡ true → line_text a ≡ line_text b → a ≡ b
line_same a b h k e = same_Some a b (sym (line_of a h) ∙ ap line_in e ∙ line_of b k)

pub first_same : (a b : Line) (more rest : List ℕ) → is_line a ≡ true → is_line b ≡ true → whole_line a ++ more ≡ whole_line b ++ rest → (a ≡ b) × (more ≡ rest)
first_same a b more rest h k e =
    let p = cut_same (line_text a) (line_text b) more rest (line_no_end a h) (line_no_end b k) (sym (whole_line-append a more) ∙ e ∙ whole_line-append b rest) in
    (line_same a b h k p.0, p.1)

-- a whole line is not empty
pub not_empty : (line : Line) (more : List ℕ) → [] ≡ whole_line line ++ more → ⊥
not_empty line more e = cut_none [] (line_text line) more refl (e ∙ whole_line-append line more)
