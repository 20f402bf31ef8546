-- What two lists of lines have in common at their ends.
use Rattle.std.proofs.Common.{◌≡◌, ◌⊎◌, ℕ, zero, suc, ◌+◌, ◌-◌, ◌<◌, ◌≤◌, Bool, true, false, List, [], ◌∷◌, length, drop, get_or, min, reverse, refl, sym, ap, ◌∙◌, add-one, arith, drop-cons, inl, inr, length-drop}
use Rattle.std.proofs.lemmas.List.{get_or-reverse, length-reverse}
use Rattle.std.specs.Prelude.{if◌then◌else◌}
use Rattle.vx_trace.specs.declared.frame.FrameLine.{FrameLine}
use Rattle.vx_trace.specs.TraceText.{in_common, is_same, same_front}

at_end : (lines : List FrameLine) (common place : ℕ) (line : FrameLine) → line ≡ get_or lines place line → common < length lines → place ≡ length lines - 1 - common → drop common (reverse lines) ≡ line ∷ drop (common + 1) (reverse lines)
at_end lines common place line is lt at =
    rw add-one
    (drop-cons (reverse lines) common line (omega (arith, lt, length-reverse lines))
    ∙ ap (λ x. x ∷ drop (suc common) (reverse lines)) (get_or-reverse lines common line lt ∙ ap (λ i. get_or lines i line) (sym at) ∙ sym is))

-- so many lines are the same so far
abbrev pub IsCommon : (above lines : List FrameLine) → ℕ → Type 0
IsCommon above lines common = in_common above lines ≡ common + same_front (drop common (reverse above)) (drop common (reverse lines))

pub begins : (above lines : List FrameLine) → IsCommon above lines 0
begins above lines = omega arith

abbrev by_test : List FrameLine → List FrameLine → Bool → ℕ
by_test above lines same = if same then suc (same_front above lines) else 0

module _ (above lines : List FrameLine) (common place other_place : ℕ) (line other : FrameLine) (line_is : line ≡ get_or above place line) (other_is : other ≡ get_or lines other_place other) (lt : common < length above) (other_lt : common < length lines)
    (at : place ≡ length above - 1 - common) (other_at : other_place ≡ length lines - 1 - common) (so_far : IsCommon above lines common) where
  here : in_common above lines ≡ common + by_test (drop (common + 1) (reverse above)) (drop (common + 1) (reverse lines)) (is_same line other)
  here =
      so_far
      ∙ (λ i. common + same_front (at_end above common place line line_is lt at i) (at_end lines common other_place other other_is other_lt other_at i))

  pub one_same : is_same line other ≡ true → IsCommon above lines (common + 1)
  one_same same = let e = here ∙ ap (λ b. common + by_test (drop (common + 1) (reverse above)) (drop (common + 1) (reverse lines)) b) same in omega (arith, e)

  pub one_differs : is_same line other ≡ false → common ≡ in_common above lines
  one_differs differs = let e = here ∙ ap (λ b. common + by_test (drop (common + 1) (reverse above)) (drop (common + 1) (reverse lines)) b) differs in omega (arith, e)

none_above : (above lines : List FrameLine) → length above ≡ 0 → same_front above lines ≡ 0
none_above [] lines none = refl
none_above (line ∷ rest) lines none = absurd (omega (arith, none))

none_here : (above lines : List FrameLine) → length lines ≡ 0 → same_front above lines ≡ 0
none_here [] lines none = refl
none_here (line ∷ rest) [] none = refl
none_here (line ∷ rest) (other ∷ others) none = absurd (omega (arith, none))

-- one list has no more lines
pub all_same_above : (above lines : List FrameLine) (common : ℕ) → length above ≤ common → IsCommon above lines common → common ≡ in_common above lines
all_same_above above lines common most so_far =
    let none = none_above (drop common (reverse above)) (drop common (reverse lines)) (omega (arith, most, length-drop common (reverse above), length-reverse above)) in
    omega (arith, so_far, none)

pub all_same_here : (above lines : List FrameLine) (common : ℕ) → length lines ≤ common → IsCommon above lines common → common ≡ in_common above lines
all_same_here above lines common most so_far =
    let none = none_here (drop common (reverse above)) (drop common (reverse lines)) (omega (arith, most, length-drop common (reverse lines), length-reverse lines)) in
    omega (arith, so_far, none)

order : (a b : ℕ) → (a ≤ b) ⊎ (b ≤ a)
order zero b = inl (omega arith)
order (suc a) zero = inr (omega arith)
order (suc a) (suc b) = elim (order a b) [ inl l ↦ inl (omega (arith, l)) | inr l ↦ inr (omega (arith, l)) ]

-- the list with fewer lines has no more
pub all_same : (above lines : List FrameLine) (most common : ℕ) → most ≡ min (length above) (length lines) → common ≡ most → IsCommon above lines common → most ≡ in_common above lines
all_same above lines most common is all so_far =
    sym all ∙ elim (order (length above) (length lines)) [
      | inl l ↦ all_same_above above lines common (omega (arith, is, all, l)) so_far
      | inr l ↦ all_same_here above lines common (omega (arith, is, all, l)) so_far
    ]
