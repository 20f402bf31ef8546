-- Marking places one after the other.
use Rattle.std.proofs.Common.{◌≡◌, ℕ, ◌+◌, ◌<◌, ◌≤◌, List, [], length, get_or, set, take, replicate, Bool, true, false, ◌||◌, inl, inr, refl, sym, ◌∙◌}
use Rattle.std.specs.Prelude.{◌==◌}
use Rattle.std.proofs.lemmas.Bool.{cases_eq, cases_lt, eq-eqb, ne_eqb, or_right}
use Rattle.std.proofs.lemmas.List.{get_or_past, get_or-replicate, get_or-set_same, get_or-set_other, length-replicate}
use Rattle.std.proofs.lemmas.List.Folds.{list_any_more}
use Rattle.vx_pool.specs.Instructions.{is_start}
use Rattle.vx_pool.specs.Marks.{AreMarks}

pub none_marked : (count : ℕ) → AreMarks (replicate count false) []
unfolding AreMarks
none_marked count = λ place.
    elim (cases_lt place count) [
      | inl lt ↦ get_or-replicate count place false false lt
      | inr le ↦ get_or_past (replicate count false) place false (rw length-replicate le)
    ]

-- a test of one more place
or_same : (b t : Bool) → t ≡ false → (b || t) ≡ b
or_same true t e = refl
or_same false t e = e

pub one_marked : (marks : List Bool) (places : List ℕ) (i : ℕ) → i < length places → get_or places i 0 < length marks → AreMarks marks (take i places)
    → AreMarks (set marks (get_or places i 0) true) (take (i + 1) places)
unfolding AreMarks
one_marked marks places i lt within so_far = λ place.
    let more : is_start (take (i + 1) places) place ≡ (is_start (take i places) place || get_or places i 0 == place) = list_any_more (λ s. s == place) places i 0 lt in
    elim (cases_eq (get_or places i 0) place) [
      | inl same ↦
          rw (more, or_right (is_start (take i places) place) (get_or places i 0 == place) (eq-eqb (get_or places i 0) place same), ← same)
          (get_or-set_same marks (get_or places i 0) true false within)
      | inr other ↦
          rw (more, or_same (is_start (take i places) place) (get_or places i 0 == place) (ne_eqb (get_or places i 0) place other))
          (get_or-set_other marks (get_or places i 0) place true false (λ e. other (sym e)) ∙ so_far place)
    ]

-- nothing stands past the last mark, and what stands before it is marked
pub is_marked : (marks : List Bool) (places : List ℕ) (place : ℕ) → AreMarks marks places → get_or marks place false ≡ is_start places place
unfolding AreMarks
is_marked marks places place are = are place

pub past_marks : (marks : List Bool) (places : List ℕ) (place : ℕ) → AreMarks marks places → length marks ≤ place → false ≡ is_start places place
unfolding AreMarks
past_marks marks places place are le = sym (get_or_past marks place false le) ∙ are place
