use Rattle.std.proofs.Common.{refl}
use Rattle.std.proofs.lemmas.Result.{IfOk-weaker}
use Rattle.vx_space.proofs.Spaces.{Extends-refl}
use Rattle.vx_outcome.specs.declared.outcome.Outcome.TheVariants.{Raise, Throw}
use Rattle.vx_standing.specs.Attempted.{thrown_out}
use Rattle.vx_throw.specs.Exceptions.{raised_from}
use Rattle.vx_throw.specs.Flights.{thrown_from}
use Rattle.vx_attempt.proofs.Calls.{there_known}
use Rattle.vx_attempt.proofs.Carrying.{AreCarriedOut-at}
use Rattle.vx_attempt.proofs.Raised.{AreCarriedOut-kept, IsKept, placed_other}
use Rattle.vx_attempt.proofs.throwing.some_thrown.Goals as goal

pub raise-requires : goal.raise-requires
raise-requires g c =
    let may = rw c.in-Raise.is at c.requires.may in
    record {
      bounded = may.bounded;
      is_heap = may.is_heap;
      is_for = may.is_for;
      some = rw c.in-Raise.is at c.requires.some;
      stands = may.there.0.0;
      message = may.there.0.1;
    }

pub returns-in-Raise-clause-carried : goal.returns-in-Raise-clause-carried
returns-in-Raise-clause-carried g c =
    let p = c.args.program.now in
    rw c.in-Raise.is (IfOk-weaker c.raise.result _ _ (λ r raised. AreCarriedOut-at p (thrown_out p) (g.S.Space.sets c.args.space.now) (g.S.Space.sets c.raise.new.space) c.args.heap.now c.raise.new.heap c.args.callers.now c.raise.new.callers (λ _ s. raised_from p c.args.heap.now c.in-Raise.class.0 c.in-Raise.message s) (Raise c.in-Raise.group c.in-Raise.class c.in-Raise.message) c.in-Raise.group r.items.items refl (λ start at k. k.0) (λ d. refl) raised) c.raise.ensures.raised)

pub throw-requires : goal.throw-requires
throw-requires g c =
    let may = rw c.in-Throw.is at c.requires.may in
    record { bounded = may.bounded; is_heap = may.is_heap; is_for = may.is_for; stands = may.there.0.0; thrown = may.there.0.1 }

pub returns-in-Throw-clause-carried : goal.returns-in-Throw-clause-carried
returns-in-Throw-clause-carried g c =
    let p = c.args.program.now in
    let sets = g.S.Space.sets c.args.space.now in
    rw c.in-Throw.is (IfOk-weaker c.throw.result _ _ (λ r thrown. AreCarriedOut-at p (thrown_out p) sets (g.S.Space.sets c.throw.new.space) c.args.heap.now c.throw.new.heap c.args.callers.now c.throw.new.callers (λ d s. thrown_from p sets c.in-Throw.thrown c.args.heap.now d s) (Throw c.in-Throw.group c.in-Throw.thrown) c.in-Throw.group r.items.items refl (λ start at k. k.0) (λ d. refl) thrown) c.throw.ensures.thrown)

pub returns-in_ok-same-in_default : goal.returns-in_ok-same-in_default
returns-in_ok-same-in_default g c =
    let p = c.args.program.now in
    let sets = g.S.Space.sets c.args.space.now in
    let known = there_known p sets c.args.heap.now c.args.callers.now c.args.outcome c.requires.may.there.0 in
    let kept : IsKept c.args.outcome = (c.in_default.not-Raise, c.in_default.not-Throw) in
    record {
      extends = Extends-refl sets;
      carried = rw c.in_ok-same-in_default.ensures (AreCarriedOut-kept p sets c.args.heap.now c.args.callers.now c.args.outcome c.requires.may.is_heap c.requires.may.is_for kept);
      placed = λ none. rw (c.in_ok-same-in_default.ensures, placed_other p (g.met.S.Space.lawful c.args.space.now) c.args.heap.now c.args.callers.now c.args.outcome known c.requires.some kept none) refl;
    }
