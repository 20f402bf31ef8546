-- Local variables (JVMS 2.6.1, 6.5 iload, lload, aload, istore, lstore, astore, iinc).
use Rattle.std.specs.Int.{int_wrapping_add, w32}
use Rattle.std.specs.Prelude.{List, [], slice_set, suc, zero, ℕ, ℤ, ◌+◌, ◌∷◌}
use Rattle.vx_java.specs.Checks.{is_of}
use Rattle.vx_java.specs.Machine.{Go, Here, Int, Long, Outcome, State, Top, Value, illegal, past, push, when}
use Rattle.vx_java.specs.declared.operation.Sort.{Sort}
use Rattle.vx_list.specs.Places.{item_or}

-- iload, lload, aload: a value of the sort
abbrev pub load : Here → Sort → ℕ → Outcome
load h sort n =
    let v = item_or h.state.top.locals n Top in
    when (is_of sort v) (push h v h.state.top.operands) (illegal h)

-- a local that holds the first half of a long cannot be read once its second half is overwritten
abbrev pub unless_long : Value → Value
unless_long (Long n) = Top
unless_long v = v

abbrev pub without_half : List Value → ℕ → List Value
without_half locals zero = locals
without_half locals (suc n) = slice_set locals n (unless_long (item_or locals n Top))

-- the value at n; a long takes n + 1 too, which cannot be read
abbrev pub locals_with : List Value → ℕ → Value → List Value
locals_with locals n (Long a) = slice_set (slice_set (without_half locals n) n (Long a)) (n + 1) Top
locals_with locals n v = slice_set (without_half locals n) n v

abbrev pub with_locals : State → List Value → State
with_locals s locals = record s { top = record (s.top) { locals = locals } }

-- istore, lstore, astore
abbrev pub store : Here → Sort → ℕ → List Value → Outcome
store h sort n [] = illegal h
store h sort n (v ∷ operands) =
    when (is_of sort v) (Go (past h (with_locals h.state (locals_with h.state.top.locals n v)) operands)) (illegal h)

-- iinc
abbrev pub increase : Here → ℕ → ℤ → Value → Outcome
increase h n by (Int a) =
    Go (past h (with_locals h.state (slice_set h.state.top.locals n (Int (int_wrapping_add w32 a by)))) h.state.top.operands)
increase h n by _ = illegal h
