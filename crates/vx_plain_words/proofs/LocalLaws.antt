-- Local variables that are read and written.
use Rattle.std.proofs.Common.{◌≡◌, ℕ, ℤ, ◌-◌, ◌<◌, true, false, List, drop, refl, sym, ap, ◌∙◌, zero, suc, arith}
use Rattle.std.specs.Prelude.{None, Some, slice_get, slice_set}
use Rattle.std.proofs.lemmas.Option.{same_Some}
use Rattle.vx_java.specs.Checks.{is_of}
use Rattle.vx_java.specs.Locals.{increase, load, locals_with, store, unless_long, with_locals, without_half}
use Rattle.vx_java.specs.Machine.{Go, Here, Int, Long, Null, Ref, State, Text, Top, Value, illegal, past, push, when}
use Rattle.vx_java.specs.declared.operation.Sort.{Sort}
use Rattle.vx_plain.specs.Views.{value_of}
use Rattle.vx_plain.specs.declared.value.Value as plain
use Rattle.vx_plain.specs.declared.value.Value.TheVariants.{Int as PlainInt, Long as PlainLong, Null as PlainNull, Ref as PlainRef, Top as PlainTop}
use Rattle.vx_list.specs.Places.{item_or}
use Rattle.vx_plain_here.proofs.Operands.{no_top, top}
use Rattle.vx_plain_words.specs.Writing.{closed, increased}

-- ---- writing

pub no_half : (s : State) (n : ℕ) → n ≡ 0 → s ≡ with_locals s (without_half s.top.locals n)
no_half s n e = rw e refl

pub half : (s : State) (n : ℕ) (v : Value) → 0 < n → v ≡ unless_long (item_or s.top.locals (n - 1) Top) → with_locals s (slice_set s.top.locals (n - 1) v) ≡ with_locals s (without_half s.top.locals n)
half s zero v lt e = absurd (omega arith)
half s (suc n) v lt e =
    let one : suc n - 1 ≡ n = omega arith in
    ap (λ w. with_locals s (slice_set s.top.locals (suc n - 1) w)) e ∙ ap (λ m. with_locals s (slice_set s.top.locals m (unless_long (item_or s.top.locals m Top)))) one

pub written : (s : State) (n : ℕ) (v : Value) → closed (with_locals s (slice_set (without_half s.top.locals n) n v)) n v ≡ with_locals s (locals_with s.top.locals n v)
written s n (Long a) = refl
written s n Top = refl
written s n (Int a) = refl
written s n Null = refl
written s n (Ref r) = refl
written s n (Text units) = refl

-- ---- rows

pub load_there : (h : Here) (sort : Sort) (n : ℕ) (v : Value) → v ≡ item_or h.state.top.locals n Top → is_of sort v ≡ true → push h v h.state.top.operands ≡ load h sort n
load_there h sort n v e t =
    sym (ap (λ b. when b (push h v h.state.top.operands) (illegal h)) t)
    ∙ ap (λ w. when (is_of sort w) (push h w h.state.top.operands) (illegal h)) e

pub load_other : (h : Here) (sort : Sort) (n : ℕ) (v : Value) → v ≡ item_or h.state.top.locals n Top → is_of sort v ≡ false → illegal h ≡ load h sort n
load_other h sort n v e t =
    sym (ap (λ b. when b (push h v h.state.top.operands) (illegal h)) t)
    ∙ ap (λ w. when (is_of sort w) (push h w h.state.top.operands) (illegal h)) e

pub store_none : (h : Here) (sort : Sort) (n : ℕ) (operands : List Value) → None ≡ slice_get operands 0 → illegal h ≡ store h sort n operands
store_none h sort n operands none = ap (store h sort n) (sym (no_top operands none))

pub store_other : (h : Here) (sort : Sort) (n : ℕ) (operands : List Value) (v : Value) → Some v ≡ slice_get operands 0 → is_of sort v ≡ false → illegal h ≡ store h sort n operands
store_other h sort n operands v there t =
    sym (ap (λ b. when b (Go (past h (with_locals h.state (locals_with h.state.top.locals n v)) (drop 1 operands))) (illegal h)) t) ∙ ap (store h sort n) (sym (top operands v there))

pub store_there : (h : Here) (sort : Sort) (n : ℕ) (operands : List Value) (v : Value) → Some v ≡ slice_get operands 0 → is_of sort v ≡ true → Go (past h (with_locals h.state (locals_with h.state.top.locals n v)) (drop 1 operands)) ≡ store h sort n operands
store_there h sort n operands v there t =
    sym (ap (λ b. when b (Go (past h (with_locals h.state (locals_with h.state.top.locals n v)) (drop 1 operands))) (illegal h)) t) ∙ ap (store h sort n) (sym (top operands v there))

pub increase_other : (h : Here) (n : ℕ) (by : ℤ) (v : plain.Value) (item : Value) → value_of v ≡ item → increased by v ≡ None → illegal h ≡ increase h n by item
increase_other h n by (PlainInt a) item e none = cc
increase_other h n by PlainTop item e none = ap (increase h n by) e
increase_other h n by (PlainLong a) item e none = ap (increase h n by) e
increase_other h n by PlainNull item e none = ap (increase h n by) e
increase_other h n by (PlainRef r) item e none = ap (increase h n by) e

pub increase_there : (h : Here) (n : ℕ) (by : ℤ) (v w : plain.Value) (item : Value) → value_of v ≡ item → increased by v ≡ Some w
    → Go (past h (with_locals h.state (slice_set h.state.top.locals n (value_of w))) h.state.top.operands) ≡ increase h n by item
increase_there h n by (PlainInt a) w item e some =
    ap (λ x. Go (past h (with_locals h.state (slice_set h.state.top.locals n (value_of x))) h.state.top.operands)) (sym (same_Some _ _ some)) ∙ ap (increase h n by) e
increase_there h n by PlainTop w item e some = cc
increase_there h n by (PlainLong a) w item e some = cc
increase_there h n by PlainNull w item e some = cc
increase_there h n by (PlainRef r) w item e some = cc
