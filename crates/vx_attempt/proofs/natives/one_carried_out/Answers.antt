use Rattle.std.proofs.Common.{refl}
use Rattle.std.proofs.lemmas.Result.{IfOk-weaker}
use Rattle.vx_space.proofs.Spaces.{Extends-refl}
use Rattle.vx_java.specs.Initialisation.{begin}
use Rattle.vx_java.specs.Step.{outcome_carried_out}
use Rattle.vx_outcome.specs.declared.outcome.Outcome.TheVariants.{Begin}
use Rattle.vx_attempt.proofs.Carrying.{AreCarriedOut-at, AreCarriedOut-plain}
use Rattle.vx_attempt.proofs.Kept.{IsPlain-other}
use Rattle.vx_attempt.proofs.natives.one_carried_out.Goals as goal

pub returns-in_ok-same-in_default : goal.returns-in_ok-same-in_default
returns-in_ok-same-in_default g c =
    let p = c.args.site.now.program.now in
    let sets = g.S.Space.sets c.args.space.now in
    record {
      extends = Extends-refl sets;
      carried = rw c.in_ok-same-in_default.ensures (AreCarriedOut-plain p (outcome_carried_out p) sets c.args.heap.now c.args.callers.now c.args.outcome c.requires.may.is_heap c.requires.may.is_for (IsPlain-other p c.args.outcome c.in_default.not-Begin c.in_default.not-Native));
    }

pub returns-in-Native-clause-carried : goal.returns-in-Native-clause-carried
returns-in-Native-clause-carried g c = rw c.in-Native.is c.native_carried_out.ensures.carried

pub begin-requires : goal.begin-requires
begin-requires g c =
    let may = rw c.in-Begin.is at c.requires.may in
    record { classes = may.bounded.classes; is_heap = may.is_heap; is_for = may.is_for; stands = may.there.0 }

pub returns-in-Begin-clause-carried : goal.returns-in-Begin-clause-carried
returns-in-Begin-clause-carried g c =
    let p = c.args.site.now.program.now in
    rw c.in-Begin.is (IfOk-weaker c.begin.result _ _ (λ r by. AreCarriedOut-at p (outcome_carried_out p) (g.S.Space.sets c.args.space.now) (g.S.Space.sets c.begin.new.space) c.args.heap.now c.begin.new.heap c.args.callers.now c.begin.new.callers (λ _ s. begin p s c.in-Begin.class.0) (Begin c.in-Begin.group c.in-Begin.class) c.in-Begin.group r.items.items refl (λ start group h. h) (λ d. refl) by) c.begin.ensures.begun)
