-- The later of rows.
use Rattle.std.proofs.Common.{◌≡◌, ℕ, ◌+◌, ◌<◌, ◌≤◌, List, ◌∷◌, Bool, true, false, Option, Some, None, length, drop, drop-cons, get_or, add-one, suc, refl, sym, ap, ◌∙◌, arith}
use Rattle.std.proofs.lemmas.Bool.{leb-true, leb-false}
use Rattle.std.proofs.lemmas.List.{drop_all}
use Rattle.std.specs.Prelude.{nat_le}
use Rattle.vx_lines.specs.declared.table.LineRow.{LineRow}
use Rattle.vx_lines.specs.Lines.{reaching, later, row_for}

later_none : (a : Option LineRow) → later a None ≡ a
later_none None = refl
later_none (Some a) = refl

both_wrong : (a b c : ℕ) → nat_le a b ≡ true → nat_le b c ≡ true → nat_le a c ≡ false → ⊥
both_wrong a b c p q r =
    let ab = leb-true a b p in
    let bc = leb-true b c q in
    let ac = leb-false a c r in
    omega (arith, ab, bc, ac)

none_right : (a b c : ℕ) → nat_le a b ≡ false → nat_le b c ≡ false → nat_le a c ≡ true → ⊥
none_right a b c p q r =
    let ab = leb-false a b p in
    let bc = leb-false b c q in
    let ac = leb-true a c r in
    omega (arith, ab, bc, ac)

-- of three rows it is the same which two are compared first
later_later : (a b c : Option LineRow) → later (later a b) c ≡ later a (later b c)
later_later None b c = refl
later_later (Some a) None c = refl
later_later (Some a) (Some b) None = later_none (later (Some a) (Some b))
later_later (Some a) (Some b) (Some c) = by_tests (nat_le a.start b.start) (nat_le b.start c.start) (nat_le a.start c.start) refl refl refl
  where
    by_tests : (ab bc ac : Bool) → nat_le a.start b.start ≡ ab → nat_le b.start c.start ≡ bc → nat_le a.start c.start ≡ ac
        → later (later (Some a) (Some b)) (Some c) ≡ later (Some a) (later (Some b) (Some c))
    by_tests true true true p q r = rw (p, q, r) refl
    by_tests true true false p q r = absurd (both_wrong a.start b.start c.start p q r)
    by_tests true false ac p q r = rw (p, q, p) refl
    by_tests false true ac p q r = rw (p, q) refl
    by_tests false false true p q r = absurd (none_right a.start b.start c.start p q r)
    by_tests false false false p q r = rw (p, q, p, r) refl

-- with one row more
pub next_row : (rows : List LineRow) (position i : ℕ) (found next made : Option LineRow) (d : LineRow) (total : Option LineRow) → i < length rows → next ≡ reaching position (get_or rows i d)
    → made ≡ later found next → later found (row_for (drop i rows) position) ≡ total → later made (row_for (drop (i + 1) rows) position) ≡ total
next_row rows position i found next made d total lt n m so_far =
    let front : drop i rows ≡ get_or rows i d ∷ drop (suc i) rows = drop-cons rows i d lt in
    let rest = row_for (drop (suc i) rows) position in
    ap (λ k. later made (row_for (drop k rows) position)) (add-one i)
    ∙ ap (λ o. later o rest) (m ∙ ap (later found) n)
    ∙ later_later found (reaching position (get_or rows i d)) rest
    ∙ ap (λ xs. later found (row_for xs position)) (sym front)
    ∙ so_far

pub no_more : (rows : List LineRow) (position i : ℕ) (found total : Option LineRow) → length rows ≤ i → later found (row_for (drop i rows) position) ≡ total → found ≡ total
no_more rows position i found total le so_far =
    sym (later_none found) ∙ ap (λ xs. later found (row_for xs position)) (sym (drop_all i rows le)) ∙ so_far
