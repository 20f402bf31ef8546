use Rattle.std.proofs.Common.{refl, sym, ◌∙◌}
use Rattle.std.proofs.lemmas.Result.{IfOk-weaker}
use Rattle.vx_java.specs.Step.{outcome_carried_out}
use Rattle.vx_outcome.specs.declared.outcome.Outcome.TheVariants.{Native}
use Rattle.vx_attempt.proofs.Calls.{some_call, there_known}
use Rattle.vx_attempt.proofs.Carrying.{AreCarriedOut-native, AreCarriedOut-none}
use Rattle.vx_attempt.proofs.natives.native_carried_out.Goals as goal

pub is_never-requires : goal.is_never-requires
is_never-requires g c = rw c.path.ensures (there_known c.args.site.now.program.now (g.S.Space.sets c.args.space.now) c.args.heap.now c.args.callers.now (Native c.args.group c.args.method) c.requires.may.there.0)

pub returns-then-is_never-clause-carried : goal.returns-then-is_never-clause-carried
returns-then-is_never-clause-carried g c =
    let p = c.args.site.now.program.now in
    rw c.new.ensures (AreCarriedOut-none p (outcome_carried_out p) (g.met.S.Space.lawful c.args.space.now) c.args.heap.now c.args.callers.now (Native c.args.group c.args.method) c.requires.may.is_heap c.requires.may.is_for (sym c.path.ensures ∙ c.if-is_never.ensures.0 refl))

pub native-requires : goal.native-requires
native-requires g c = record { given = some_call c.args.site.now (g.met.S.Space.lawful c.args.space.now) c.args.heap.now c.args.callers.now c.args.group c.args.method (λ q. cc (c.if-is_never.ensures.1 (c.path.ensures ∙ q))) c.requires }

pub returns-clause-carried : goal.returns-clause-carried
returns-clause-carried g c = IfOk-weaker c.native.result _ _ (λ r by. AreCarriedOut-native c.args.site.now (g.S.Space.sets c.args.space.now) (g.S.Space.sets c.native.new.space) c.args.heap.now c.native.new.heap c.args.callers.now c.args.group c.args.method r.items.items c.requires.may.there.0 by) c.native.ensures.ok
