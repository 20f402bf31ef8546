use Rattle.std.proofs.Common.{arith}
use Rattle.vx_types.proofs.Ranks.{ranks_are_ranked}
use Rattle.vx_verify.proofs.VerdictLaws.{all_verified, first_untyped, typed_more}
use Rattle.vx_verify.proofs.verdict.verify.Goals as goal

pub loop-place-init : goal.loop-place-init
loop-place-init c = λ m l. absurd (omega (arith, l))

pub returns-then-not-typed : goal.returns-then-not-typed
returns-then-not-typed c = record {
  exact = first_untyped c.args.program.now c.loop-place.place c.in_ok-number.number c.in_ok-number.ensures c.loop-place.invariant (rw c.if-not-typed.true at c.in_ok-typed.ensures);
}

pub loop-place-preserved : goal.loop-place-preserved
loop-place-preserved c =
    typed_more c.args.program.now c.loop-place.place c.in_ok-number.number c.in_ok-number.ensures c.loop-place.invariant (rw c.if-not-typed.false at c.in_ok-typed.ensures)

pub returns : goal.returns
returns c = record { exact = all_verified c.args.program.now (λ m l. c.loop-place.invariant m (omega (arith, l))) }

pub is_method_typed-requires : goal.is_method_typed-requires
is_method_typed-requires c = record {
  classes = c.requires.classes;
  codes = c.requires.codes;
  ranked = ranks_are_ranked c.args.program.now c.requires.ranked;
}
