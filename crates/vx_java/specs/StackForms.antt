-- The stack forms (JVMS 6.5 pop, pop2, dup, dup_x1, dup_x2, dup2, dup2_x1, dup2_x2, swap): words are taken off the top, and put back in another order.
use Rattle.std.specs.Prelude.{List, None, Option, Some, [], option_map, suc, zero, ℕ, ◌++◌, ◌∷◌}
use Rattle.vx_java.specs.Machine.{Here, Long, Outcome, Value, illegal, settle}
use Rattle.vx_java.specs.declared.operation.Shuffle.{Shuffle}
use Rattle.vx_java.specs.declared.operation.Shuffle.TheVariants.{Dup2, Dup2X1, Dup2X2, DupX1, DupX2, Pop, Pop2, Swap}

-- so many words of values off the top, and the values under them; none where values lack or a long would be divided
abbrev pub words : ℕ → List Value → Option (List Value × List Value)
words zero operands = Some ([], operands)
words (suc n) [] = None
words (suc zero) (Long a ∷ operands) = None
words (suc (suc n)) (Long a ∷ operands) = option_map (λ t. (Long a ∷ t.0, t.1)) (words n operands)
words (suc n) (v ∷ operands) = option_map (λ t. (v ∷ t.0, t.1)) (words n operands)

-- how many words a stack form works on, and how many under them
abbrev pub upper : Shuffle → ℕ
upper Pop2 = 2
upper Dup2 = 2
upper Dup2X1 = 2
upper Dup2X2 = 2
upper _ = 1

abbrev pub lower : Shuffle → ℕ
lower DupX1 = 1
lower Dup2X1 = 1
lower Swap = 1
lower DupX2 = 2
lower Dup2X2 = 2
lower _ = 0

-- the values in their new order: the upper ones are dropped, change places with the lower ones, or are also put under the lower ones
abbrev pub values_reordered : Shuffle → List Value → List Value → List Value → List Value
values_reordered Pop a b rest = rest
values_reordered Pop2 a b rest = rest
values_reordered Swap a b rest = b ++ (a ++ rest)
values_reordered _ a b rest = a ++ (b ++ (a ++ rest))

abbrev pub lower_taken : Here → Shuffle → List Value → Option (List Value × List Value) → Outcome
lower_taken h form a None = illegal h
lower_taken h form a (Some (b, rest)) = settle h (values_reordered form a b rest)

abbrev pub upper_taken : Here → Shuffle → Option (List Value × List Value) → Outcome
upper_taken h form None = illegal h
upper_taken h form (Some (a, rest)) = lower_taken h form a (words (lower form) rest)

-- pop, pop2, dup, dup_x1, dup_x2, dup2, dup2_x1, dup2_x2, swap
abbrev pub stack : Here → Shuffle → Outcome
stack h form = upper_taken h form (words (upper form) h.state.top.operands)
