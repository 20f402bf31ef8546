-- The derived order of answers is exact.
use Rattle.std.specs.Prelude.{◌≡◌, refl}
use Rattle.std.proofs.Common.{ap}
use Rattle.std.proofs.lemmas.Map.Lookups.{exact_signed, exact_unsigned}
use Rattle.std.specs.Option.{option_cmp}
use Rattle.std.specs.Ordering.{nat_cmp}
use Rattle.std.specs.declared.cmp.Ordering.{Ordering}
use Rattle.std.specs.declared.cmp.Ordering.TheVariants.{Equal}
use Rattle.vx_value.specs.Exact.{option_exact, then_first, then_second}
use Rattle.vx_value.specs.Slot.{slot_exact}
use Rattle.vx_value.specs.declared.end.Stream.{Stream}
use Rattle.vx_value.specs.declared.end.Stream.TheVariants.{Out, Err}
use Rattle.vx_value.specs.contracts.end.StreamOrd.TheImpl as stream_ord
use Rattle.vx_group_states.specs.declared.answer.Answer.{Answer}
use Rattle.vx_group_states.specs.declared.answer.Answer.TheVariants.{Illegal, Raise, Push, Jump, Pass, Give, Write, Exit, Throw}
use Rattle.vx_group_states.specs.contracts.answer.AnswerOrd.TheImpl as answer_ord

-- by variant, then by what it holds
abbrev pub answer_cmp : Answer → Answer → Ordering
answer_cmp = answer_ord.ghosts.cmp

abbrev stream_cmp : Stream → Stream → Ordering
stream_cmp = stream_ord.ghosts.cmp

stream_exact : (a b : Stream) → stream_cmp a b ≡ Equal → a ≡ b
stream_exact Out Out h = refl
stream_exact Err Err h = refl
stream_exact _ _ h = cc

pub answer_exact : (a b : Answer) → answer_cmp a b ≡ Equal → a ≡ b
answer_exact Illegal Illegal h = refl
answer_exact (Raise a m) (Raise b n) h =
    let class = exact_unsigned a.0 b.0 (then_first (nat_cmp a.0 b.0) (option_cmp nat_cmp m n) h) in
    let message = option_exact nat_cmp exact_unsigned m n (then_second (nat_cmp a.0 b.0) (option_cmp nat_cmp m n) h) in
    λ i. Raise (record { 0 = class i }) (message i)
answer_exact (Push a) (Push b) h = ap Push (slot_exact a b h)
answer_exact (Jump a) (Jump b) h = ap Jump (exact_unsigned a b h)
answer_exact Pass Pass h = refl
answer_exact (Give a) (Give b) h = ap Give (slot_exact a b h)
answer_exact (Write a m) (Write b n) h =
    let stream = stream_exact a b (then_first (stream_cmp a b) (nat_cmp m n) h) in
    let text = exact_unsigned m n (then_second (stream_cmp a b) (nat_cmp m n) h) in
    λ i. Write (stream i) (text i)
answer_exact (Exit a) (Exit b) h = ap Exit (exact_signed a b h)
answer_exact (Throw a) (Throw b) h = ap Throw (slot_exact a b h)
answer_exact _ _ h = cc
