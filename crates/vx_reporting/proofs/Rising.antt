-- The lines of ascending values ascend.
use Rattle.std.proofs.Common.{Bool, List, None, Option, Some, [], ap, arith, drop, length, slice_get, subst, suc, sym, take, true, zero, ℕ, ◌&&◌, ◌-◌, ◌∙◌, ◌∷◌, ◌≡◌}
use Rattle.std.proofs.lemmas.Option.{same_Some}
use Rattle.std.specs.Cmp.Derive.{both_true}
use Rattle.std.specs.List.{AllByRecursion, list_all}
use Rattle.std.specs.declared.cmp.Ordering.TheVariants.{Less}
use Rattle.std.specs.declared.cmp.Ordering.{Ordering}
use Rattle.vx_cond.specs.Leaves.{AreLeaves, IsBelow}
use Rattle.vx_findings.specs.Shared.{leaves_of}
use Rattle.vx_findings.specs.declared.shared.Shared.{Shared}
use Rattle.vx_list.specs.Places.{item_or}
use Rattle.vx_report_line.proofs.Numbers.{both_true as parts_true}
use Rattle.vx_report_reader.specs.Lawful.{EachFollows}
use Rattle.vx_report_reader.specs.Rules.{last_of}
use Rattle.vx_space.specs.Sets.{Sets}
use Rattle.vx_reporting.specs.Listed.{lines_with}

-- each item comes after each of those before it
abbrev IsRising : {A : Type 0} → (Option A → A → Bool) → List A → Type 0
IsRising after [] = Unit {0}
IsRising after (x ∷ xs) = AllByRecursion (λ y. after (Some x) y ≡ true) xs × IsRising after xs

all_at : {A : Type 0} (P : A → Type 0) (xs : List A) (place : ℕ) (x : A) → AllByRecursion P xs → slice_get xs place ≡ Some x → P x
all_at P [] place x all e = absurd cc
all_at P (y ∷ xs) zero x all e = subst P (same_Some y x e) all.0
all_at P (y ∷ xs) (suc place) x all e = all_at P xs place x all.1 e

last_behind : {A : Type 0} (y z : A) (zs : List A) → last_of (y ∷ z ∷ zs) ≡ last_of (z ∷ zs)
last_behind y z zs =
    let longer : length (y ∷ z ∷ zs) - 1 ≡ suc (length zs) = omega arith in
    let shorter : length (z ∷ zs) - 1 ≡ length zs = omega arith in
    ap (slice_get (y ∷ z ∷ zs)) longer ∙ sym (ap (slice_get (z ∷ zs)) shorter)

rises : {A : Type 0} (after : Option A → A → Bool) → ((x : A) → after None x ≡ true) → (xs : List A) → IsRising after xs → EachFollows (λ before x. after (last_of before) x ≡ true) xs
rises after none [] rising place x e = absurd cc
rises after none (y ∷ ys) rising zero x e = none x
rises {A} after none (y ∷ ys) rising (suc place) x e = by_before (take place ys) (rises after none ys rising.1 place x e)
  where
    by_before : (before : List A) → after (last_of before) x ≡ true → after (last_of (y ∷ before)) x ≡ true
    by_before [] earlier = all_at (λ x. after (Some y) x ≡ true) ys place x rising.0 e
    by_before (z ∷ zs) earlier = subst (λ (o : Option A). after o x ≡ true) (sym (last_behind y z zs)) earlier

-- a rule that holds beside another one of each item
pub follows_too : {A : Type 0} (first : List A → A → Bool) (other : A → Bool) (xs : List A) → EachFollows (λ before x. first before x ≡ true) xs → list_all other xs ≡ true → EachFollows (λ before x. (first before x && other x) ≡ true) xs
follows_too {A} first other xs follows all = λ place x e. both_true (follows place x e) (other_at xs place x all e)
  where
    other_at : (xs : List A) (place : ℕ) (x : A) → list_all other xs ≡ true → slice_get xs place ≡ Some x → other x ≡ true
    other_at [] place x all e = absurd cc
    other_at (y ∷ xs) zero x all e = subst (λ (z : A). other z ≡ true) (same_Some y x e) (parts_true (other y) (list_all other xs) all).0
    other_at (y ∷ xs) (suc place) x all e = other_at xs place x (parts_true (other y) (list_all other xs) all).1 e

-- ---- lines of values with their sets

module _ {V L S I : Type 0} (order : V → V → Ordering) (line : ℕ → V → L) (after : Option L → L → Bool) (sets : Sets I) (law : (v w : V) (n m : ℕ) → order v w ≡ Less → after (Some (line n v)) (line m w) ≡ true) where
  below_lines : (v : V) (n : ℕ) (list : List (Shared V S I)) (numbers : List ℕ) → IsBelow order v (leaves_of list) → AllByRecursion (λ l. after (Some (line n v)) l ≡ true) (lines_with line list numbers)
  below_lines v n [] numbers below = tt
  below_lines v n (x ∷ list) numbers below = (law v x.value n (item_or numbers 0 0) below.0, below_lines v n list (drop 1 numbers) below.1)

  rising_lines : (list : List (Shared V S I)) (numbers : List ℕ) → AreLeaves order sets (leaves_of list) → IsRising after (lines_with line list numbers)
  rising_lines [] numbers leaves = tt
  rising_lines (x ∷ list) numbers leaves = (below_lines x.value (item_or numbers 0 0) list (drop 1 numbers) leaves.0.below, rising_lines list (drop 1 numbers) leaves.1)

  pub lines_rise : ((l : L) → after None l ≡ true) → (list : List (Shared V S I)) (numbers : List ℕ) → AreLeaves order sets (leaves_of list) → EachFollows (λ before l. after (last_of before) l ≡ true) (lines_with line list numbers)
  lines_rise none list numbers leaves = rises after none (lines_with line list numbers) (rising_lines list numbers leaves)
