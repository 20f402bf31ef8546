-- Leaves and the first ones of others, as a loop adds these one by one.
use Rattle.std.proofs.Common.{◌≡◌, ℕ, ◌+◌, ◌<◌, ◌≤◌, Bool, true, false, List, take, refl, sym, ◌∙◌, ap, get_or, length, ⊎_elim}
use Rattle.std.proofs.lemmas.List.{take_all}
use Rattle.std.specs.Option.{option_or}
use Rattle.std.specs.Prelude.{Option, Some, None, if◌then◌else◌}
use Rattle.std.specs.declared.cmp.Ordering.{Ordering}
use Rattle.vx_space.specs.Sets.{Sets, Extends}
use Rattle.vx_space.proofs.Spaces.{Extends-trans, Extends-refl}
use Rattle.vx_cond.specs.declared.cond.Leaf.{Leaf}
use Rattle.vx_cond.specs.Leaves.{value_at, IsApart, AreLeaves, AreLeavesOf, AreLeavesApart, value_under, first_of}
use Rattle.vx_cond.proofs.LeafLoops.{leaf_here, next_leaf}

option_or_none : {T : Type 0} (r : Option T) → option_or r None ≡ r
option_or_none None = refl
option_or_none (Some v) = refl

-- some leaves, and the first i of others
pub record IsAddingAll {T S I : Type 0} (cmp : T → T → Ordering) (start sets : Sets I) (first xs : List (Leaf T S I)) (i : ℕ) (made : List (Leaf T S I)) : Type 0 where
  pub extends : Extends start sets
  pub leaves : AreLeavesOf cmp sets (first_of (value_at start first) (value_at start (take i xs))) made

pub IsAddingAll-start : {T S I : Type 0} (cmp : T → T → Ordering) (sets : Sets I) (first xs : List (Leaf T S I)) → AreLeaves cmp sets first → IsAddingAll cmp sets sets first xs 0 first
IsAddingAll-start cmp sets first xs h = record {
  extends = Extends-refl sets;
  leaves = record { are_leaves = h; values = λ c. sym (option_or_none (value_at sets first c)) };
}

pub IsAddingAll-apart : {T S I : Type 0} (cmp : T → T → Ordering) {s0 s1 : Sets I} (first xs : List (Leaf T S I)) (i : ℕ) (x : Leaf T S I) (made : List (Leaf T S I)) → AreLeaves cmp s0 xs → AreLeavesApart s0 first xs → i < length xs → x ≡ get_or xs i x → IsAddingAll cmp s0 s1 first xs i made → IsApart s1 x.condition made
IsAddingAll-apart {T = T} cmp {s0 = s0} first xs i x made h a l e r =
    let next = next_leaf cmp s0 xs i x h l e in
    record {
      none = λ c t.
          let here = sym (r.extends.test x.condition c next.known) ∙ t in
          r.leaves.values c ∙ both (value_at s0 first c) (value_at s0 (take i xs) c) (⊎_elim (λ n. n) (λ n. absurd (leaf_here s0 xs i x c l e here n)) (a.none c)) (next.before.none c here);
    }
  where
    both : (r s : Option T) → r ≡ None → s ≡ None → option_or r s ≡ None
    both r s h k = rw (h, k) refl

pub IsAddingAll-step : {T S I : Type 0} (cmp : T → T → Ordering) {s0 s1 s2 : Sets I} (first xs : List (Leaf T S I)) (i : ℕ) (x : Leaf T S I) (made after : List (Leaf T S I)) → AreLeaves cmp s0 xs → AreLeavesApart s0 first xs → i < length xs → x ≡ get_or xs i x → IsAddingAll cmp s0 s1 first xs i made → Extends s1 s2 → AreLeavesOf cmp s2 (value_under s1 x.condition x.value (value_at s1 made)) after → IsAddingAll cmp s0 s2 first xs (i + 1) after
IsAddingAll-step {T = T} cmp {s0 = s0} {s1 = s1} first xs i x made after h a l e r e1 u =
    let next = next_leaf cmp s0 xs i x h l e in
    record {
      extends = Extends-trans r.extends e1;
      leaves = record {
        are_leaves = u.are_leaves;
        values = λ c. u.values c
            ∙ rw (r.extends.test x.condition c next.known) (ap (λ o. if s0.test x.condition c then Some x.value else o) (r.leaves.values c))
            ∙ cases (s0.test x.condition c) x.value (value_at s0 first c) (value_at s0 (take i xs) c) (λ t. ⊎_elim (λ n. n) (λ n. absurd (leaf_here s0 xs i x c l e t n)) (a.none c))
            ∙ ap (λ o. option_or (value_at s0 first c) o) (sym (next.more c));
      };
    }
  where
    cases : (b : Bool) (v : T) (m r : Option T) → (b ≡ true → m ≡ None) → (if b then Some v else option_or m r) ≡ option_or m (if b then Some v else r)
    cases true v m r n = rw (n refl) refl
    cases false v m r n = refl

pub IsAddingAll-end : {T S I : Type 0} (cmp : T → T → Ordering) {s0 s1 : Sets I} (first xs : List (Leaf T S I)) (i : ℕ) (made : List (Leaf T S I)) → IsAddingAll cmp s0 s1 first xs i made → length xs ≤ i → AreLeavesOf cmp s1 (first_of (value_at s0 first) (value_at s0 xs)) made
IsAddingAll-end cmp first xs i made r l = rw (take_all i xs l) at r.leaves
