-- What instructions make of operands: operands taken off and a value put on.
use Rattle.std.proofs.Common.{◌≡◌, ℕ, ◌+◌, ◌<◌, ◌≤◌, zero, suc, Bool, true, false, List, [], ◌∷◌, ◌++◌, refl, sym, ◌∙◌, ap, subst, arith, map, drop, length, reverse, add-one}
use Rattle.std.proofs.lemmas.List.{length-append, reverse-append}
use Rattle.std.specs.Prelude.{Option, Some, None, is_some, unwrap_or, if◌then◌else◌}
use Rattle.std.specs.List.{list_all}
use Rattle.std.specs.declared.cmp.Ordering.{Ordering}
use Rattle.vx_value.specs.declared.slot.Slot.{Slot}
use Rattle.vx_value.specs.Slot.{slot_cmp}
use Rattle.vx_space.specs.Sets.{Sets, Extends, IsLawful}
use Rattle.vx_cond.specs.Cond.{Conditional, IsCond, IsCondLifting, IsCondOf, IsInside, cond_at}
use Rattle.vx_cond.specs.Leaves.{IsLifted, value_within}
use Rattle.vx_cond.specs.Row.{Conditionals, IsRow}
use Rattle.vx_cond.specs.Slots.{or_top, slot_at, slots_at}
use Rattle.vx_cond.proofs.CondLaws.{cond_at-of}
use Rattle.vx_cond.proofs.RowLaws.{scope_is}
use Rattle.vx_cond.proofs.RowSteps.{IsRow-popped, slots_at-push}
use Rattle.vx_cond.proofs.SideLaws.{cond_at-covers}
use Rattle.vx_group_states.specs.Answering.{answer_at, operands_at, slot_by}
use Rattle.vx_group_states.specs.Answers.{answer_cmp}
use Rattle.vx_group_states.specs.declared.answer.Answer.{Answer}
use Rattle.vx_group_states.specs.declared.answer.Answer.TheVariants.{Illegal}
use Rattle.vx_group_states.proofs.StateLaws.{both_second}

-- ---- lists without their first items

pub map_drop : {A B : Type 0} (f : A → B) (n : ℕ) (xs : List A) → map f (drop n xs) ≡ drop n (map f xs)
map_drop f zero xs = refl
map_drop f (suc n) [] = refl
map_drop f (suc n) (x ∷ xs) = map_drop f n xs

pub all_drop : {A : Type 0} (f : A → Bool) (n : ℕ) (xs : List A) → list_all f xs ≡ true → list_all f (drop n xs) ≡ true
all_drop f zero xs h = h
all_drop f (suc n) [] h = refl
all_drop f (suc n) (x ∷ xs) h = all_drop f n xs (both_second (f x) (list_all f xs) h)

drop_more : {A : Type 0} (i : ℕ) (xs : List A) (y : A) (ys : List A) → drop i xs ≡ y ∷ ys → drop (i + 1) xs ≡ ys
drop_more zero xs y ys e = ap (drop 1) e
drop_more (suc i) [] y ys e = cc
drop_more (suc i) (x ∷ xs) y ys e = ap (λ n. drop n (x ∷ xs)) (add-one (suc i)) ∙ sym (ap (λ n. drop n xs) (add-one i)) ∙ drop_more i xs y ys e

-- ---- operands

pub operands_at-push : {S I : Type 0} (sets : Sets I) (row : Conditionals Slot S I) (cond : Conditional Slot S I) (c : List Bool) → operands_at sets (record row { conds = row.conds ++ cond ∷ [] }) c ≡ slot_at sets cond c ∷ operands_at sets row c
operands_at-push sets row cond c = ap reverse (slots_at-push sets row cond c) ∙ reverse-append (slots_at sets row c) (slot_at sets cond c ∷ [])

-- what the loop keeps: so many operands were taken off
pub record IsDropping {S I : Type 0} (sets : Sets I) (start row : Conditionals Slot S I) (i : ℕ) : Type 0 where
  pub is_row : IsRow slot_cmp sets row
  pub scope : row.scope ≡ start.scope
  pub number : length row.conds + i ≡ length start.conds
  pub at : (c : List Bool) → operands_at sets row c ≡ drop i (operands_at sets start c)

pub IsDropping-start : {S I : Type 0} (sets : Sets I) (row : Conditionals Slot S I) → IsRow slot_cmp sets row → IsDropping sets row row 0
IsDropping-start sets row v = record { is_row = v; scope = refl; number = omega arith; at = λ c. refl }

pub IsDropping-step : {S I : Type 0} (sets : Sets I) (start before after : Conditionals Slot S I) (i : ℕ) (cond : Conditional Slot S I) → IsDropping sets start before i → before ≡ record after { conds = after.conds ++ cond ∷ [] } → IsDropping sets start after (i + 1)
IsDropping-step {S = S} {I = I} sets start before after i cond d e =
    let P : Conditionals Slot S I → Type 0 = λ r. IsRow slot_cmp sets r in
    let parts = IsRow-popped slot_cmp sets after cond (subst P e d.is_row) in
    let longer : length before.conds ≡ length (after.conds ++ cond ∷ []) = ap (λ (r : Conditionals Slot S I). length r.conds) e in
    record {
      is_row = parts.0;
      scope = sym (ap (λ (r : Conditionals Slot S I). r.scope) e) ∙ d.scope;
      number = omega (arith, d.number, longer, length-append after.conds (cond ∷ []));
      at = λ c. sym (drop_more i (operands_at sets start c) (slot_at sets cond c) (operands_at sets after c) (sym (d.at c) ∙ ap (λ r. operands_at sets r c) e ∙ operands_at-push sets after cond c));
    }

pub IsDropping-nonempty : {S I : Type 0} (sets : Sets I) (start row : Conditionals Slot S I) (i count : ℕ) → IsDropping sets start row i → i < count → count ≤ length start.conds → row.conds ≡ [] → ⊥
IsDropping-nonempty sets start row i count d l m e =
    let none : length row.conds ≡ 0 = ap length e in
    omega (arith, d.number, none)

-- ---- values of answers inside a path

within : {T : Type 0} (b : Bool) (o : Option T) → b ≡ true → (if b then o else None) ≡ o
within b o h = rw h refl

pub values_scope : {T S I : Type 0} (cmp : T → T → Ordering) {s0 s1 : Sets I} → IsLawful s1 → (answers inside : Conditional T S I) (path : I) → Extends s0 s1 → s0.is_known path ≡ true → IsCond cmp s0 answers → IsInside s0 path answers.scope → IsCondOf cmp s1 (value_within s0 path (cond_at s0 answers)) inside → inside.scope ≡ path
values_scope cmp {s0 = s0} {s1 = s1} lawful answers inside path e k v i w =
    scope_is cmp lawful (value_within s0 path (cond_at s0 answers)) inside path (s0.test path) w (record { known = e.known path k; test = λ c. e.test path c k }) (λ c. covered (s0.test path c) (cond_at s0 answers c) (λ t. cond_at-covers cmp s0 answers v c ∙ i.inside c t))
  where
    covered : {T : Type 0} (b : Bool) (o : Option T) → (b ≡ true → is_some o ≡ true) → is_some (if b then o else None) ≡ b
    covered true o f = f refl
    covered false o f = refl

value_of_answer : (R : Answer → Slot → Type 0) (a : Option Answer) (s : Option Slot) → ((a : Answer) (s : Slot) → R a s → s ≡ slot_by a) → is_some a ≡ true → IsLifted R a s → or_top s ≡ slot_by (unwrap_or a Illegal)
value_of_answer R None s law t l = cc
value_of_answer R (Some a) None law t l = absurd l
value_of_answer R (Some a) (Some s) law t l = law a s l

pub values_at : {S I : Type 0} (s0 s1 s2 : Sets I) (R : Answer → Slot → Type 0) (answers inside : Conditional Answer S I) (values : Conditional Slot S I) (path : I) → ((a : Answer) (s : Slot) → R a s → s ≡ slot_by a) → IsCond answer_cmp s0 answers → IsInside s0 path answers.scope → IsCondOf answer_cmp s1 (value_within s0 path (cond_at s0 answers)) inside → IsCondLifting slot_cmp s2 R (cond_at s1 inside) values → (c : List Bool) → s0.test path c ≡ true → slot_at s2 values c ≡ slot_by (answer_at s0 answers c)
unfolding IsCondLifting
values_at s0 s1 s2 R answers inside values path law v i w l c t =
    let same : cond_at s1 inside c ≡ cond_at s0 answers c = cond_at-of answer_cmp s1 _ inside c w ∙ within (s0.test path c) (cond_at s0 answers c) t in
    value_of_answer R (cond_at s0 answers c) (cond_at s2 values c) law (cond_at-covers answer_cmp s0 answers v c ∙ i.inside c t) (subst (λ o. IsLifted R o (cond_at s2 values c)) same (l.at c))
