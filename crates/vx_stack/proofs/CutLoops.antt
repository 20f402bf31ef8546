-- Cuts at each configuration: what the loop over the operands from the top down keeps.
use Rattle.std.proofs.Common.{◌≡◌, ℕ, ◌+◌, ◌-◌, ◌<◌, ◌≤◌, Bool, true, List, refl, sym, ◌∙◌, ap, subst, arith, length, min, reverse, take}
use Rattle.std.proofs.lemmas.List.{get_or-reverse, length-map, length-reverse}
use Rattle.std.proofs.lemmas.Option.{get_or_from_slice_get, slice_get-get_or}
use Rattle.std.specs.Prelude.{Option, Some, None, if◌then◌else◌, is_some, slice_get}
use Rattle.vx_value.specs.declared.slot.Slot.{Slot}
use Rattle.vx_value.specs.Slot.{slot_cmp}
use Rattle.vx_space.specs.Sets.{Sets, Extends}
use Rattle.vx_space.proofs.Spaces.{Extends-refl, Extends-trans}
use Rattle.vx_cond.specs.Cond.{Conditional, IsCond, IsCondLifting2, IsCondOf, cond_at}
use Rattle.vx_cond.specs.Leaves.{IsLifted2, value_within}
use Rattle.vx_cond.specs.Row.{Conditionals, IsRow}
use Rattle.vx_cond.specs.Slots.{or_top, slot_at, slots_at}
use Rattle.vx_cond.proofs.CondLaws.{IsCond-of, cond_at-extends, cond_at-of}
use Rattle.vx_cond.proofs.RowSteps.{IsRow-get, slots_at-get}
use Rattle.vx_cond.proofs.SideLaws.{cond_at-covers}
use Rattle.vx_java.specs.StackForms.{lower, upper}
use Rattle.vx_java.specs.declared.operation.Shuffle.{Shuffle}
use Rattle.vx_group_states.specs.Answering.{operands_at}
use Rattle.vx_stack.specs.Cuts.{cut_by, first_cut, next}
use Rattle.vx_stack.specs.Exact.{cut_cmp}
use Rattle.vx_stack.specs.declared.cut.Cut.{Cut}
use Rattle.vx_stack.proofs.CutLaws.{cut_by-more, cut_by-reached}

-- what the loop keeps: the cut by the operands so far
pub record IsCutting {S I : Type 0} (start sets : Sets I) (row : Conditionals Slot S I) (first : Cut) (i : ℕ) (cut : Conditional Cut S I) : Type 0 where
  pub extends : Extends start sets
  pub is_cond : IsCond cut_cmp sets cut
  pub scope : cut.scope ≡ row.scope
  pub at : (c : List Bool) → start.test row.scope c ≡ true → cond_at sets cut c ≡ Some (cut_by first (take i (operands_at start row c)))

pub IsCutting-start : {S I : Type 0} (sets : Sets I) (row : Conditionals Slot S I) (first value : Cut) (cut : Conditional Cut S I) (scope : I) → value ≡ first → scope ≡ row.scope → cut.scope ≡ scope → IsCondOf cut_cmp sets (value_within sets scope (λ _. Some value)) cut → IsCutting sets sets row first 0 cut
IsCutting-start {S = S} {I = I} sets row first value cut scope f e s v = record {
  extends = Extends-refl sets;
  is_cond = IsCond-of cut_cmp sets _ cut v;
  scope = s ∙ e;
  at = λ c t. cond_at-of cut_cmp sets _ cut c v ∙ inside (sets.test scope c) (ap (λ i. sets.test i c) e ∙ t) ∙ ap Some (f ∙ none (operands_at sets row c));
}
  where
    inside : {T : Type 0} {v : T} (b : Bool) → b ≡ true → (if b then Some v else None) ≡ Some v
    inside b h = rw h refl

    none : (operands : List Slot) → first ≡ cut_by first (take 0 operands)
    none operands = refl

lifted : (R : Cut → Slot → Cut → Type 0) (n r : Option Cut) (s : Option Slot) (cut : Cut) → ((n : Cut) (s : Slot) (r : Cut) → R n s r → r ≡ next n s) → n ≡ Some cut → is_some s ≡ true → IsLifted2 R n s r → r ≡ Some (next cut (or_top s))
lifted R None r s cut law e t h = cc
lifted R (Some n) r None cut law e t h = cc
lifted R (Some n) None (Some s) cut law e t h = absurd h
lifted R (Some n) (Some r) (Some s) cut law e t h =
    let same : n ≡ cut = cc in
    ap Some (law n s r h ∙ ap (λ m. next m s) same)

-- the operand at a place from the top
pub operand_from_top : {S I : Type 0} (sets : Sets I) (row : Conditionals Slot S I) (i : ℕ) (cond : Conditional Slot S I) (c : List Bool) → i < length row.conds → Some cond ≡ slice_get row.conds (length row.conds - 1 - i) → Some (slot_at sets cond c) ≡ slice_get (operands_at sets row c) i
operand_from_top sets row i cond c l e =
    let slots = slots_at sets row c in
    let x = slot_at sets cond c in
    let long : length slots ≡ length row.conds = simp length-map in
    let inside : i < length slots = omega (arith, l, long) in
    let turned : i < length (reverse slots) = omega (arith, inside, length-reverse slots) in
    let found : slice_get slots (length slots - 1 - i) ≡ Some x = ap (λ n. slice_get slots (n - 1 - i)) long ∙ sym (slots_at-get sets row (length row.conds - 1 - i) cond c e) in
    sym (slice_get-get_or (reverse slots) i x turned ∙ ap Some (get_or-reverse slots i x inside ∙ get_or_from_slice_get slots (length slots - 1 - i) x x found))

pub IsCutting-step : {S I : Type 0} {s0 s1 s2 : Sets I} (R : Cut → Slot → Cut → Type 0) (row : Conditionals Slot S I) (first : Cut) (i : ℕ) (cond : Conditional Slot S I) (cut made : Conditional Cut S I) → ((n : Cut) (s : Slot) (r : Cut) → R n s r → r ≡ next n s) → IsRow slot_cmp s0 row → i < length row.conds → Some cond ≡ slice_get row.conds (length row.conds - 1 - i) → IsCutting s0 s1 row first i cut → Extends s1 s2 → IsCondLifting2 cut_cmp s2 R (cond_at s1 cut) (cond_at s1 cond) made → made.scope ≡ cut.scope → IsCutting s0 s2 row first (i + 1) made
unfolding IsCondLifting2
IsCutting-step {s0 = s0} {s1 = s1} {s2 = s2} R row first i cond cut made law v less at g e l s =
    let there = IsRow-get slot_cmp s0 row (length row.conds - 1 - i) cond v at in
    record {
      extends = Extends-trans g.extends e;
      is_cond = l.is_cond;
      scope = s ∙ g.scope;
      at = λ c t.
          let operands = operands_at s0 row c in
          let same : cond_at s1 cond c ≡ cond_at s0 cond c = cond_at-extends slot_cmp g.extends cond there.0 c in
          let in_scope : is_some (cond_at s1 cond c) ≡ true = ap is_some same ∙ cond_at-covers slot_cmp s0 cond there.0 c ∙ ap (λ j. s0.test j c) there.1 ∙ t in
          lifted R (cond_at s1 cut c) (cond_at s2 made c) (cond_at s1 cond c) (cut_by first (take i operands)) law (g.at c t) in_scope (l.at c)
          ∙ ap Some (ap (λ o. next (cut_by first (take i operands)) (or_top o)) same ∙ sym (cut_by-more first operands i (slot_at s0 cond c) (operand_from_top s0 row i cond c less at)));
    }

pub IsCutting-end : {S I : Type 0} {s0 s1 : Sets I} (row : Conditionals Slot S I) (form : Shuffle) (i : ℕ) (cut : Conditional Cut S I) → IsCutting s0 s1 row (first_cut form) i cut → min (length row.conds) (upper form + lower form) ≤ i → (c : List Bool) → s0.test row.scope c ≡ true → cond_at s1 cut c ≡ Some (cut_by (first_cut form) (operands_at s0 row c))
IsCutting-end {s0 = s0} row form i cut g l c t =
    let slots = slots_at s0 row c in
    let long : length row.conds ≡ length (reverse slots) = sym (length-reverse slots ∙ simp length-map) in
    let P : ℕ → Type 0 = λ n. min n (upper form + lower form) ≤ i in
    g.at c t ∙ ap Some (cut_by-reached form (operands_at s0 row c) i (subst P long l))
