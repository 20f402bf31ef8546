-- Answers that the ids tell by themselves.
use Rattle.std.proofs.Common.{◌≡◌, ℕ, ◌≤◌, Bool, true, false, List, refl, ◌∙◌, ap, arith, le-leb, leb-true}
use Rattle.std.specs.Prelude.{Option, if◌then◌else◌, nat_eq, nat_le}
use Rattle.vx_bdd.specs.declared.node.Node.{Node}
use Rattle.vx_bdd.specs.declared.node.Op.{Op}
use Rattle.vx_bdd.specs.Diagram.{IsReduced, is_stored, level, reaches}
use Rattle.vx_bdd.specs.Canonical.{walk-end}
use Rattle.vx_bdd.specs.Apply.{IsAnswer, IsPlainAnswer, op_value}
use Rattle.vx_bdd.proofs.SpaceLaws.{level-at_most}

-- what holds of both ids, of never and of always holds of the answer
module _ {op : Op} {a b id : ℕ} (plain : IsPlainAnswer op a b id) (P : ℕ → Bool) (never : P 0 ≡ true) (always : P 1 ≡ true) (first : P a ≡ true) (second : P b ≡ true) where
  -- sets that differ at the ids without the property alone
  abbrev with_others : Bool → ℕ → Bool
  with_others v k = if P k then nat_eq k 1 else v

  with_one : (v : Bool) (k : ℕ) → P k ≡ true → with_others v k ≡ nat_eq k 1
  with_one v k e = ap (λ p. if p then nat_eq k 1 else v) e

  right_for : (v : Bool) → with_others v id ≡ op_value op (nat_eq a 1) (nat_eq b 1)
  right_for v = plain.right (with_others v) (with_one v 0 never) (with_one v 1 always) ∙ ap (λ x. op_value op x (with_others v b)) (with_one v a first) ∙ ap (λ y. op_value op (nat_eq a 1) y) (with_one v b second)

  given : (p x : Bool) → ((v : Bool) → (if p then x else v) ≡ op_value op (nat_eq a 1) (nat_eq b 1)) → p ≡ true
  given true x h = refl
  given false x h = cc (h true, h false)

  holds_of_answer : P id ≡ true
  holds_of_answer = given (P id) (nat_eq id 1) right_for

pub IsAnswer-plain : {options : ℕ} {slots : List (Option Node)} → IsReduced options slots → (op : Op) (a b id : ℕ) → is_stored slots a ≡ true → is_stored slots b ≡ true → IsPlainAnswer op a b id → IsAnswer op options slots a b id
IsAnswer-plain {options = options} {slots = slots} r op a b id s t plain =
    let end : (i : ℕ) → i ≤ level slots options a → i ≤ options = λ i h. omega (arith, h, level-at_most r a) in
    record {
      a_stored = s;
      b_stored = t;
      stored = holds_of_answer plain (λ k. is_stored slots k) r.never r.always s t;
      above = λ i m n. leb-true i (level slots options id) (holds_of_answer plain (λ k. nat_le i (level slots options k)) (le-leb i options (end i m)) (le-leb i options (end i m)) (le-leb i (level slots options a) m) (le-leb i (level slots options b) n));
      reaches = λ c. plain.right (λ k. reaches slots options k c) (ap (λ w. nat_eq w 1) (walk-end slots options 0 c refl)) (ap (λ w. nat_eq w 1) (walk-end slots options 1 c refl));
    }
