-- The operands at the end of a stack, and what is made of them.
use Rattle.std.proofs.Common.{◌≡◌, ℕ, zero, suc, Bool, true, List, [], ◌∷◌, ◌++◌, refl, sym, ◌∙◌, ap, take, length, arith}
use Rattle.std.specs.Prelude.{Option, Some, None, is_some, slice_get, unwrap_or}
use Rattle.std.specs.declared.cmp.Ordering.{Ordering}
use Rattle.vx_value.specs.declared.slot.Slot.{Slot}
use Rattle.vx_space.specs.Sets.{Sets}
use Rattle.vx_cond.specs.Cond.{Conditional, IsCond, IsCondLifting2, cond_at}
use Rattle.vx_cond.specs.Leaves.{IsLifted, IsLifted2}
use Rattle.vx_cond.specs.Row.{Conditionals}
use Rattle.vx_cond.specs.Slots.{or_top, slot_at}
use Rattle.vx_cond.proofs.SideLaws.{cond_at-covers}
use Rattle.vx_group_states.specs.Answering.{operands_at}
use Rattle.vx_group_states.proofs.AnswerLaws.{operands_at-push}

-- ---- lists

-- a list ends in its item at the last place
pub ends_in : {A : Type 0} (xs : List A) (n : ℕ) (x : A) → Some x ≡ slice_get xs n → length xs ≡ suc n → xs ≡ take n xs ++ x ∷ []
ends_in [] n x e l = absurd (omega arith)
ends_in (y ∷ []) zero x e l =
    let same : x ≡ y = cc in
    ap (λ z. z ∷ []) (sym same)
ends_in (y ∷ z ∷ ys) zero x e l = absurd (omega arith)
ends_in (y ∷ ys) (suc n) x e l = ap (λ zs. y ∷ zs) (ends_in ys n x e (omega arith))

-- and in its two last items
pub ends_in_two : {A : Type 0} (xs : List A) (n : ℕ) (x y : A) → Some x ≡ slice_get xs n → Some y ≡ slice_get xs (suc n) → length xs ≡ suc (suc n) → xs ≡ (take n xs ++ x ∷ []) ++ y ∷ []
ends_in_two [] n x y e f l = absurd (omega arith)
ends_in_two (a ∷ []) n x y e f l = absurd (omega arith)
ends_in_two (a ∷ b ∷ []) zero x y e f l =
    let first : x ≡ a = cc in
    let second : y ≡ b = cc in
    λ i. sym first i ∷ sym second i ∷ []
ends_in_two (a ∷ b ∷ c ∷ xs) zero x y e f l = absurd (omega arith)
ends_in_two (a ∷ b ∷ xs) (suc n) x y e f l = ap (λ zs. a ∷ zs) (ends_in_two (b ∷ xs) n x y e f (omega arith))

-- ---- operands

-- the operands with the one on top apart
pub top_operand : {S I : Type 0} (sets : Sets I) (stack : Conditionals Slot S I) (n : ℕ) (cond : Conditional Slot S I) (c : List Bool) → Some cond ≡ slice_get stack.conds n → length stack.conds ≡ suc n → operands_at sets stack c ≡ slot_at sets cond c ∷ operands_at sets (record stack { conds = take n stack.conds }) c
top_operand sets stack n cond c e l =
    ap (λ conds. operands_at sets (record stack { conds = conds }) c) (ends_in stack.conds n cond e l) ∙ operands_at-push sets (record stack { conds = take n stack.conds }) cond c

-- with the two on top apart
pub top_operands : {S I : Type 0} (sets : Sets I) (stack : Conditionals Slot S I) (n : ℕ) (lower upper : Conditional Slot S I) (c : List Bool) → Some lower ≡ slice_get stack.conds n → Some upper ≡ slice_get stack.conds (suc n) → length stack.conds ≡ suc (suc n) → operands_at sets stack c ≡ slot_at sets upper c ∷ slot_at sets lower c ∷ operands_at sets (record stack { conds = take n stack.conds }) c
top_operands sets stack n lower upper c e f l =
    ap (λ conds. operands_at sets (record stack { conds = conds }) c) (ends_in_two stack.conds n lower upper e f l) ∙ operands_at-push sets (record stack { conds = take n stack.conds ++ lower ∷ [] }) upper c ∙ ap (λ rest. slot_at sets upper c ∷ rest) (operands_at-push sets (record stack { conds = take n stack.conds }) lower c)

-- ---- what is made of operands

-- what a relation makes of an operand is what a function makes of it, where the relation says so
pub lifted_one : {A : Type 0} (none : A) (R : Slot → A → Type 0) (f : Slot → A) (s : Option Slot) (a : Option A) → ((s : Slot) (a : A) → R s a → a ≡ f s) → is_some s ≡ true → IsLifted R s a → unwrap_or a none ≡ f (or_top s)
lifted_one none R f None a law t l = cc
lifted_one none R f (Some s) None law t l = absurd l
lifted_one none R f (Some s) (Some a) law t l = law s a l

-- of two operands
pub lifted_two : {A : Type 0} (none : A) (R : Slot → Slot → A → Type 0) (f : Slot → Slot → A) (s r : Option Slot) (a : Option A) → ((s r : Slot) (a : A) → R s r a → a ≡ f s r) → is_some s ≡ true → is_some r ≡ true → IsLifted2 R s r a → unwrap_or a none ≡ f (or_top s) (or_top r)
lifted_two none R f None r a law t u l = cc
lifted_two none R f (Some s) None a law t u l = cc
lifted_two none R f (Some s) (Some r) None law t u l = absurd l
lifted_two none R f (Some s) (Some r) (Some a) law t u l = law s r a l

-- what is lifted of two values is conditional
pub lifting2_cond : {T U V S I : Type 0} (cmp : V → V → Ordering) (sets : Sets I) (R : T → U → V → Type 0) (first : List Bool → Option T) (second : List Bool → Option U) (cond : Conditional V S I) → IsCondLifting2 cmp sets R first second cond → IsCond cmp sets cond
unfolding IsCondLifting2
lifting2_cond cmp sets R first second cond l = l.is_cond

-- and what it makes of the two values at a configuration
pub lifting2_at : {T U V S I : Type 0} (cmp : V → V → Ordering) (sets : Sets I) (R : T → U → V → Type 0) (first : List Bool → Option T) (second : List Bool → Option U) (cond : Conditional V S I) → IsCondLifting2 cmp sets R first second cond → (c : List Bool) → IsLifted2 R (first c) (second c) (cond_at sets cond c)
unfolding IsCondLifting2
lifting2_at cmp sets R first second cond l c = l.at c

-- ---- what is made of two conditional values

made_pair : {T U A : Type 0} (none : A) (R : T → U → A → Type 0) (f : T → U → A) (s : Option T) (r : Option U) (a : Option A) (x : T) (y : U) → ((s : T) (r : U) (a : A) → R s r a → a ≡ f s r) → s ≡ Some x → r ≡ Some y → IsLifted2 R s r a → unwrap_or a none ≡ f x y
made_pair none R f None r a x y law e g l = cc e
made_pair none R f (Some s) None a x y law e g l = cc g
made_pair none R f (Some s) (Some r) None x y law e g l = absurd l
made_pair none R f (Some s) (Some r) (Some a) x y law e g l =
    let first : s ≡ x = cc in
    let second : r ≡ y = cc in
    law s r a l ∙ (λ i. f (first i) (second i))

pub made_of_two : {T U A S I : Type 0} (none : A) (cmp : A → A → Ordering) (s1 s2 : Sets I) (R : T → U → A → Type 0) (f : T → U → A) (first : Conditional T S I) (second : Conditional U S I) (made : Conditional A S I) (c : List Bool) (x : T) (y : U) → ((s : T) (r : U) (a : A) → R s r a → a ≡ f s r) → cond_at s1 first c ≡ Some x → cond_at s1 second c ≡ Some y → IsCondLifting2 cmp s2 R (cond_at s1 first) (cond_at s1 second) made → unwrap_or (cond_at s2 made c) none ≡ f x y
made_of_two none cmp s1 s2 R f first second made c x y law e g l = made_pair none R f (cond_at s1 first c) (cond_at s1 second c) (cond_at s2 made c) x y law e g (lifting2_at cmp s2 R (cond_at s1 first) (cond_at s1 second) made l c)

there : {T : Type 0} (o : Option T) (none : T) → is_some o ≡ true → o ≡ Some (unwrap_or o none)
there None none h = cc h
there (Some x) none h = refl

-- the value of a configuration of the scope
pub value_there : {T S I : Type 0} (none : T) (cmp : T → T → Ordering) (sets : Sets I) (cond : Conditional T S I) (c : List Bool) → IsCond cmp sets cond → sets.test cond.scope c ≡ true → cond_at sets cond c ≡ Some (unwrap_or (cond_at sets cond c) none)
value_there none cmp sets cond c v t = there (cond_at sets cond c) none (cond_at-covers cmp sets cond v c ∙ t)
