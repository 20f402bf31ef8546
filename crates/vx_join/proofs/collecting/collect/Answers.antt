use Rattle.std.proofs.Common.{[], ◌∷◌, ◌+◌, ap, refl, take}
use Rattle.vx_space.proofs.Spaces.{Extends-trans}
use Rattle.vx_join.proofs.Firsts.{take_more}
use Rattle.vx_join.proofs.Reports.{IsCollecting-partly, IsCollecting-start, IsCollecting-step}
use Rattle.vx_join.proofs.collecting.collect.Goals as goal

pub loop-report-init : goal.loop-report-init
loop-report-init g c =
    IsCollecting-step [] (c.args.first.now ∷ []) c.args.first.now c.always-always.result c.in_ok-unsaid.unsaid (record { found = c.new.result; ends = c.new-2.result; spent = c.new-3.result }) c.put_report.new.collected refl
    (rw c.always-always.ensures (IsCollecting-start (g.met.S.Space.lawful c.args.space.now) (record { found = c.new.result; ends = c.new-2.result; spent = c.new-3.result }) c.new.ensures.items c.new-2.ensures.items c.new-3.ensures.items))
    c.in_ok-unsaid.ensures.extends c.in_ok-unsaid.ensures.more

pub put_report-requires-in-loop-report-clause-before : goal.put_report-requires-in-loop-report-clause-before
put_report-requires-in-loop-report-clause-before g c = IsCollecting-partly (c.args.first.now ∷ take c.loop-report.report-index c.args.others.now) c.loop-report.unsaid c.loop-report.collected c.loop-report.invariant

pub returns-in_err-unsaid-2-clause-extends : goal.returns-in_err-unsaid-2-clause-extends
returns-in_err-unsaid-2-clause-extends g c = Extends-trans c.loop-report.invariant.extends c.in_err-unsaid-2.ensures.extends

pub loop-report-preserved : goal.loop-report-preserved
loop-report-preserved g c =
    let first = c.args.first.now in
    let others = c.args.others.now in
    let i = c.loop-report.report-index in
    IsCollecting-step (first ∷ take i others) (first ∷ take (i + 1) others) c.report-item.result c.loop-report.unsaid c.in_ok-unsaid-2.unsaid c.loop-report.collected c.put_report-in-loop-report.new.collected
    (ap (λ rs. first ∷ rs) (take_more others others i c.report-item.result refl c.loop-report-test.true c.report-item.is)) c.loop-report.invariant c.in_ok-unsaid-2.ensures.extends c.in_ok-unsaid-2.ensures.more
