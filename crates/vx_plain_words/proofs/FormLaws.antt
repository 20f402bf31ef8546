-- Words of values off the top of the operands.
use Rattle.std.proofs.Common.{◌≡◌, ℕ, ◌+◌, ◌<◌, ◌≤◌, List, [], ◌∷◌, drop, length, refl, sym, ap, ◌∙◌, zero, suc, add-one, drop-cons, inl, inr, arith}
use Rattle.std.specs.Prelude.{None, Option, Some, option_map, slice_get}
use Rattle.std.proofs.lemmas.Bool.{cases_lt, le-leb, lt-leb}
use Rattle.std.proofs.lemmas.List.{drop_all}
use Rattle.std.proofs.lemmas.Option.{get_or_from_slice_get, slice_get-get_or, slice_get_within}
use Rattle.vx_java.specs.Machine as machine
use Rattle.vx_java.specs.Machine.{go, illegal, settle, stack_size, when}
use Rattle.vx_java.specs.StackForms.{lower, lower_taken, stack, upper, upper_taken, values_reordered, words}
use Rattle.vx_java.specs.declared.operation.Shuffle.{Shuffle}
use Rattle.vx_plain.specs.Views.{value_of}
use Rattle.vx_plain.specs.declared.value.Value.{Value}
use Rattle.vx_plain.specs.declared.value.Value.TheVariants.{Int, Long, Null, Ref, Top}
use Rattle.vx_plain_words.specs.Taken.{count, one_of, over, taken, two_of, values_in}
use Rattle.vx_plain_words.specs.declared.forms.Words.{Words}
use Rattle.vx_plain_words.specs.declared.forms.Words.TheVariants.{Nothing}

there : (operands : List machine.Value) (k : ℕ) (v : machine.Value) → Some v ≡ slice_get operands k → drop k operands ≡ v ∷ drop (k + 1) operands
there operands k v is = rw add-one (drop-cons operands k v (slice_get_within operands k v (sym is)) ∙ ap (λ x. x ∷ drop (suc k) operands) (get_or_from_slice_get operands k v v (sym is)))

nothing_there : (operands : List machine.Value) (k : ℕ) → None ≡ slice_get operands k → drop k operands ≡ []
nothing_there operands k none =
    elim (cases_lt k (length operands)) [
      | inl lt ↦ let some = slice_get-get_or operands k machine.Top lt in cc
      | inr le ↦ drop_all k operands le
    ]

pub no_words : (operands : List machine.Value) (k n : ℕ) → n ≡ 0 → option_map (taken operands k) (Some Nothing) ≡ words n (drop k operands)
no_words operands k n none = rw none (ap (λ m. Some ([], drop m operands)) same)
  where
    same : k + 0 ≡ k
    same = omega arith

pub no_word : (operands : List machine.Value) (k n : ℕ) → 0 < n → None ≡ slice_get operands k → None ≡ words n (drop k operands)
no_word operands k zero some none = absurd (omega arith)
no_word operands k (suc n) some none = sym (ap (words (suc n)) (nothing_there operands k none))

pub one_word : (operands : List machine.Value) (k n : ℕ) (v : Value) → n ≡ 1 → Some (value_of v) ≡ slice_get operands k → option_map (taken operands k) (one_of v) ≡ words n (drop k operands)
one_word operands k n v one is = rw one (by v ∙ sym (ap (words 1) (there operands k (value_of v) is)))
  where
    by : (v : Value) → option_map (taken operands k) (one_of v) ≡ words 1 (value_of v ∷ drop (k + 1) operands)
    by (Long n) = refl
    by Top = refl
    by (Int n) = refl
    by Null = refl
    by (Ref r) = refl

-- a value that is no long, with what stands under it
under : (operands : List machine.Value) (k : ℕ) (v : Value) (second : Option Value) → option_map value_of second ≡ slice_get operands (k + 1) → option_map (taken operands k) (over v second) ≡ option_map (λ t. (value_of v ∷ t.0, t.1)) (words 1 (drop (k + 1) operands))
under operands k v None is = sym (ap (λ rest. option_map (λ (t : List machine.Value × List machine.Value). (value_of v ∷ t.0, t.1)) (words 1 rest)) (nothing_there operands (k + 1) is))
under operands k v (Some w) is = by w ∙ sym (ap (λ rest. option_map (λ (t : List machine.Value × List machine.Value). (value_of v ∷ t.0, t.1)) (words 1 rest)) (there operands (k + 1) (value_of w) is))
  where
    far : k + 2 ≡ k + 1 + 1
    far = omega arith

    by : (w : Value) → option_map (taken operands k) (over v (Some w)) ≡ option_map (λ t. (value_of v ∷ t.0, t.1)) (words 1 (value_of w ∷ drop (k + 1 + 1) operands))
    by (Long n) = refl
    by Top = ap (λ n. Some (value_of v ∷ machine.Top ∷ [], drop n operands)) far
    by (Int m) = ap (λ n. Some (value_of v ∷ machine.Int m ∷ [], drop n operands)) far
    by Null = ap (λ n. Some (value_of v ∷ machine.Null ∷ [], drop n operands)) far
    by (Ref r) = ap (λ n. Some (value_of v ∷ machine.Ref r ∷ [], drop n operands)) far

pub two_words : (operands : List machine.Value) (k n : ℕ) (v : Value) (second : Option Value) → n ≡ 2 → Some (value_of v) ≡ slice_get operands k → option_map value_of second ≡ slice_get operands (k + 1) → option_map (taken operands k) (two_of v second) ≡ words n (drop k operands)
two_words operands k n v second two first next = rw two (by v ∙ sym (ap (words 2) (there operands k (value_of v) first)))
  where
    by : (v : Value) → option_map (taken operands k) (two_of v second) ≡ words 2 (value_of v ∷ drop (k + 1) operands)
    by (Long n) = refl
    by Top = under operands k Top second next
    by (Int n) = under operands k (Int n) second next
    by Null = under operands k Null second next
    by (Ref r) = under operands k (Ref r) second next

-- ---- whether operands fit

pub settled : (h : machine.Here) (operands : List machine.Value) (n : ℕ) → n ≡ stack_size operands → n ≤ h.code.max_stack → go h operands ≡ settle h operands
settled h operands n is le = sym (ap (λ b. when b (go h operands) (illegal h)) (le-leb (stack_size operands) h.code.max_stack (omega (arith, is))))

pub unsettled : (h : machine.Here) (operands : List machine.Value) (n : ℕ) → n ≡ stack_size operands → h.code.max_stack < n → illegal h ≡ settle h operands
unsettled h operands n is lt = sym (ap (λ b. when b (go h operands) (illegal h)) (lt-leb (stack_size operands) h.code.max_stack (omega (arith, is))))

-- ---- forms

pub upper_missing : (h : machine.Here) (form : Shuffle) (n : ℕ) → n ≡ upper form → None ≡ words n (drop 0 h.state.top.operands) → illegal h ≡ stack h form
upper_missing h form n is none = ap (upper_taken h form) (none ∙ ap (λ k. words k h.state.top.operands) is)

upper_there : (h : machine.Here) (form : Shuffle) (a : Words) → Some (taken h.state.top.operands 0 a) ≡ words (upper form) (drop 0 h.state.top.operands) → Some (values_in a, drop (count a) h.state.top.operands) ≡ words (upper form) h.state.top.operands
upper_there h form a there = ap (λ k. Some (values_in a, drop k h.state.top.operands)) zero_more ∙ there
  where
    zero_more : count a ≡ 0 + count a
    zero_more = omega arith

-- the upper and the lower values that are there
pub form_there : (h : machine.Here) (form : Shuffle) (a b : Words)
    → Some (taken h.state.top.operands 0 a) ≡ words (upper form) (drop 0 h.state.top.operands)
    → Some (taken h.state.top.operands (count a) b) ≡ words (lower form) (drop (count a) h.state.top.operands)
    → settle h (values_reordered form (values_in a) (values_in b) (drop (count a + count b) h.state.top.operands)) ≡ stack h form
form_there h form a b first second = ap (lower_taken h form (values_in a)) second ∙ ap (upper_taken h form) (upper_there h form a first)

pub lower_missing : (h : machine.Here) (form : Shuffle) (n : ℕ) (a : Words) → n ≡ lower form
    → Some (taken h.state.top.operands 0 a) ≡ words (upper form) (drop 0 h.state.top.operands)
    → None ≡ words n (drop (count a) h.state.top.operands)
    → illegal h ≡ stack h form
lower_missing h form n a is first none =
    ap (lower_taken h form (values_in a)) (none ∙ ap (λ k. words k (drop (count a) h.state.top.operands)) is) ∙ ap (upper_taken h form) (upper_there h form a first)
