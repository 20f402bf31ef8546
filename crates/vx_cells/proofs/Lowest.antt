-- How many words the lowest operands take beside a value, and whether they fit.
use Rattle.std.proofs.Common.{◌≡◌, ℕ, ◌+◌, ◌-◌, ◌≤◌, Bool, true, List, ◌++◌, sym, ◌∙◌, ap, arith, drop, length, reverse, take}
use Rattle.std.proofs.Math.Seq.{drop-append_seam}
use Rattle.std.proofs.lemmas.List.{length-drop, length-map, length-reverse, reverse-append, take-append-drop}
use Rattle.std.proofs.lemmas.Bool.{le-leb}
use Rattle.std.specs.Ordering.{bool_cmp}
use Rattle.std.specs.Prelude.{Option, Some, None, nat_le}
use Rattle.vx_space.specs.Sets.{Sets}
use Rattle.vx_cond.specs.Cond.{Conditional, IsCondLifting, IsCondOf, cond_at}
use Rattle.vx_cond.specs.Leaves.{IsLifted, value_within}
use Rattle.vx_cond.specs.Row.{Conditionals}
use Rattle.vx_cond.specs.Slots.{slots_at}
use Rattle.vx_cond.proofs.CondLaws.{cond_at-of}
use Rattle.vx_heap.proofs.Written.{within_there}
use Rattle.vx_group_states.specs.Answering.{operands_at}
use Rattle.vx_group_states.specs.Widths.{slots_size}
use Rattle.vx_group_states.proofs.Fitting.{IsSized, slots_size-most, slots_size-reverse}
use Rattle.vx_group_states.proofs.SettleLaws.{lifting_at}
use Rattle.vx_value.specs.declared.slot.Slot.{Slot}

-- the lowest of them, of a stack that is written with the top first
lowest_size : (count : ℕ) (xs : List Slot) → slots_size (drop (length xs - count) (reverse xs)) ≡ slots_size (take count xs)
lowest_size count xs =
    let upper = reverse (drop count xs) in
    let lower = reverse (take count xs) in
    let parts : reverse xs ≡ upper ++ lower = sym (ap reverse (take-append-drop count xs)) ∙ reverse-append (take count xs) (drop count xs) in
    let above : length xs - count ≡ length upper = sym (length-reverse (drop count xs) ∙ length-drop count xs) in
    ap slots_size ((λ i. drop (above i) (parts i)) ∙ drop-append_seam upper lower) ∙ slots_size-reverse (take count xs)

-- what a loop over the lowest has summed
pub lowest_sized : {S I : Type 0} {s0 s1 : Sets I} (row : Conditionals Slot S I) (base i count : ℕ) (total : Conditional ℕ S I) → IsSized s0 s1 row base i total → count ≤ i → i ≤ count → (c : List Bool) → s0.test row.scope c ≡ true → cond_at s1 total c ≡ Some (base + slots_size (drop (length row.conds - count) (operands_at s0 row c)))
lowest_sized {s0 = s0} row base i count total h l m c t =
    let slots = slots_at s0 row c in
    let short : length slots ≡ length row.conds = simp length-map in
    let same : i ≡ count = omega (arith, l, m) in
    h.at c t ∙ ap (λ n. Some (base + n)) (ap (λ n. slots_size (take n slots)) same ∙ sym (lowest_size count slots) ∙ ap (λ n. slots_size (drop (n - count) (reverse slots))) short)

-- they fit, though each of them were a long
pub surely_there : {S I : Type 0} (sets : Sets I) (row : Conditionals Slot S I) (value taken room : ℕ) (made : Conditional Bool S I) → value + ((length row.conds - taken) + (length row.conds - taken)) ≤ room → IsCondOf bool_cmp sets (value_within sets row.scope (λ _. Some true)) made → (c : List Bool) → sets.test row.scope c ≡ true → cond_at sets made c ≡ Some (nat_le (value + slots_size (drop taken (operands_at sets row c))) room)
surely_there sets row value taken room made few m c t =
    let slots = slots_at sets row c in
    let left = drop taken (reverse slots) in
    let short : length slots ≡ length row.conds = simp length-map in
    let count : length left ≡ length row.conds - taken = length-drop taken (reverse slots) ∙ ap (λ n. n - taken) (length-reverse slots ∙ short) in
    let fit : nat_le (value + slots_size left) room ≡ true = le-leb (value + slots_size left) room (omega (arith, slots_size-most left, count, few)) in
    cond_at-of bool_cmp sets (value_within sets row.scope (λ _. Some true)) made c m ∙ within_there (sets.test row.scope c) (Some true) t ∙ ap Some (sym fit)

mapped : (R : ℕ → Bool → Type 0) (room n : ℕ) (o : Option ℕ) (r : Option Bool) → ((n : ℕ) (b : Bool) → R n b → b ≡ nat_le n room) → o ≡ Some n → IsLifted R o r → r ≡ Some (nat_le n room)
mapped R room n None r law e l = cc
mapped R room n (Some m) None law e l = absurd l
mapped R room n (Some m) (Some b) law e l =
    let same : m ≡ n = cc in
    ap Some (law m b l ∙ ap (λ k. nat_le k room) same)

-- or their sizes tell
pub fit_there : {S I : Type 0} (s0 s1 s2 : Sets I) (row : Conditionals Slot S I) (value taken room : ℕ) (sizes : Conditional ℕ S I) (made : Conditional Bool S I) (R : ℕ → Bool → Type 0) → ((n : ℕ) (b : Bool) → R n b → b ≡ nat_le n room) → taken ≤ length row.conds → ((c : List Bool) → s0.test row.scope c ≡ true → cond_at s1 sizes c ≡ Some (value + slots_size (drop (length row.conds - (length row.conds - taken)) (operands_at s0 row c)))) → IsCondLifting bool_cmp s2 R (cond_at s1 sizes) made → (c : List Bool) → s0.test row.scope c ≡ true → cond_at s2 made c ≡ Some (nat_le (value + slots_size (drop taken (operands_at s0 row c))) room)
fit_there s0 s1 s2 row value taken room sizes made R law some at l c t =
    let same : length row.conds - (length row.conds - taken) ≡ taken = omega (arith, some) in
    mapped R room (value + slots_size (drop taken (operands_at s0 row c))) (cond_at s1 sizes c) (cond_at s2 made c) law (at c t ∙ ap (λ n. Some (value + slots_size (drop n (operands_at s0 row c)))) same) (lifting_at bool_cmp s2 R (cond_at s1 sizes) made l c)
