-- Marks of classes that give no answer.
use Rattle.std.proofs.Common.{◌≡◌, ◌≢◌, ◌∙◌, ◌⊎◌, ◌++◌, [], ◌∷◌, List, ℕ, Bool, true, false, Option, Some, None, ap, cond, inl, inr, flat_map, map, refl, replicate, subst, suc, sym, zero}
use Rattle.std.proofs.Math.Dec.{eqb}
use Rattle.std.proofs.lemmas.Bool.Decides.{eqb_tells}
use Rattle.std.specs.List.{list_all}
use Rattle.std.specs.Prelude.{slice_set, ◌&&◌}
use Rattle.vx_java.proofs.Walks.{first_none}
use Rattle.vx_java.specs.Silent.{AreSilent, AreUnmarked, IsSilent, is_marked, with_mark}
use Rattle.vx_link.specs.Hierarchy.{interfaces_within}
use Rattle.vx_link.specs.Parts.{class_at}
use Rattle.vx_link.specs.Resolution.{first_given}
use Rattle.vx_link.specs.declared.program.Program.{Program}
use Rattle.vx_list.specs.Places.{item_or}
use Rattle.vx_value.specs.declared.ids.ClassId.{ClassId}

-- ---- no marks

pub all_false : (n : ℕ) → AreUnmarked (replicate n false)
all_false zero c = refl
all_false (suc n) zero = refl
all_false (suc n) (suc c) = all_false n c

pub none_marked : (f : ℕ → Option ℕ) (p : Program) (marks : List Bool) → AreUnmarked marks → AreSilent f p marks
none_marked f p marks none c marked = absurd (cc (none c, marked))

-- ---- one mark more

item_elsewhere : (marks : List Bool) (i j : ℕ) → i ≢ j → item_or (slice_set marks i true) j false ≡ item_or marks j false
item_elsewhere [] i j other = refl
item_elsewhere (m ∷ ms) zero zero other = absurd (other refl)
item_elsewhere (m ∷ ms) zero (suc j) other = refl
item_elsewhere (m ∷ ms) (suc i) zero other = refl
item_elsewhere (m ∷ ms) (suc i) (suc j) other = item_elsewhere ms i j (λ e. other (ap suc e))

-- classes that are all marked give nothing, nor do those above them
all_silent : (f : ℕ → Option ℕ) (p : Program) (marks : List Bool) → AreSilent f p marks → (depth : ℕ) (classes : List ClassId) → list_all (is_marked marks) classes ≡ true
    → first_given f (flat_map (λ i. i ∷ interfaces_within p depth i) (map (λ c. c.0) classes)) ≡ None
all_silent f p marks silent depth [] all = refl
all_silent f p marks silent depth (c ∷ cs) all = by_mark (is_marked marks c) refl (all_silent f p marks silent depth cs) all
  where
    rest : List ℕ
    rest = flat_map (λ i. i ∷ interfaces_within p depth i) (map (λ c. c.0) cs)

    by_mark : (b : Bool) → is_marked marks c ≡ b → (list_all (is_marked marks) cs ≡ true → first_given f rest ≡ None) → (b && list_all (is_marked marks) cs) ≡ true
        → first_given f ((c.0 ∷ interfaces_within p depth c.0) ++ rest) ≡ None
    by_mark true e later all = first_none f (c.0 ∷ interfaces_within p depth c.0) rest (silent c.0 e depth) ∙ later all
    by_mark false e later all = absurd cc

silent_below : (f : ℕ → Option ℕ) (p : Program) (c : ClassId) (marks : List Bool) → AreSilent f p marks → f c.0 ≡ None → list_all (is_marked marks) (class_at p c.0).interfaces ≡ true → IsSilent f p c.0
silent_below f p c marks silent own all zero = first_none f (c.0 ∷ []) [] (ap (λ o. elim o [ Some m ↦ Some m | None ↦ None ]) own)
silent_below f p c marks silent own all (suc n) =
    ap (λ o. elim o [ Some m ↦ Some m | None ↦ first_given f (interfaces_within p (suc n) c.0) ]) own ∙ all_silent f p marks silent n (class_at p c.0).interfaces all

marked_silent : (f : ℕ → Option ℕ) (p : Program) (c : ClassId) (marks : List Bool) → AreSilent f p marks → IsSilent f p c.0 → AreSilent f p (slice_set marks c.0 true)
marked_silent f p c marks silent own d marked = by_same (eqb_tells c.0 d)
  where
    by_same : (((eqb c.0 d ≡ true) × (c.0 ≡ d)) ⊎ ((eqb c.0 d ≡ false) × (c.0 ≢ d))) → IsSilent f p d
    by_same (inl same) = let P : ℕ → Type 0 = IsSilent f p in subst P same.1 own
    by_same (inr other) = silent d (sym (item_elsewhere marks c.0 d other.1) ∙ marked)

-- a class that gave no answer may be marked
pub mark_kept : (f : ℕ → Option ℕ) (p : Program) (c : ClassId) (marks : List Bool) → AreSilent f p marks → None ≡ f c.0 → AreSilent f p (with_mark p c marks)
mark_kept f p c marks silent own = by_all (list_all (is_marked marks) (class_at p c.0).interfaces) refl
  where
    by_all : (b : Bool) → list_all (is_marked marks) (class_at p c.0).interfaces ≡ b → AreSilent f p (cond b (slice_set marks c.0 true) marks)
    by_all true e = marked_silent f p c marks silent (silent_below f p c marks silent (sym own) e)
    by_all false e = silent

-- ---- a class before those above it

pub own_given : (f : ℕ → Option ℕ) (c : ℕ) (above : List ℕ) (r : ℕ) → Some r ≡ f c → Some r ≡ first_given f (c ∷ above)
own_given f c above r own = ap (λ o. elim o [ Some m ↦ Some m | None ↦ first_given f above ]) own

pub above_given : (f : ℕ → Option ℕ) (c : ℕ) (above : List ℕ) → None ≡ f c → first_given f above ≡ first_given f (c ∷ above)
above_given f c above own = ap (λ o. elim o [ Some m ↦ Some m | None ↦ first_given f above ]) own
