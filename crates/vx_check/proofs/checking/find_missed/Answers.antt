use Rattle.std.proofs.Common.{sym}
use Rattle.std.proofs.lemmas.List.{drop_all}
use Rattle.vx_space.proofs.Spaces.{Extends-trans}
use Rattle.vx_check.proofs.Found.{AreKnownEnds-extends, IsSound-extends, LeadsMissed-all, LeadsMissed-spoken, LeadsMissed-start, LeadsMissed-step, next_line_of}
use Rattle.vx_check.proofs.checking.find_missed.Goals as goal

pub loop-line-init : goal.loop-line-init
loop-line-init g c = (c.requires.sound, rw c.never-spoken.ensures (LeadsMissed-start (g.met.S.Space.lawful c.args.space.now) c.args.scope c.args.ends.now c.args.expected.now c.args.finding.now c.requires.expected))

pub allowed-requires-clause-lawful : goal.allowed-requires-clause-lawful
allowed-requires-clause-lawful g c = (next_line_of _ c.args.expected.now c.loop-line.line-index c.line-item.result c.loop-line-test.true c.line-item.is c.loop-line.invariant.1.left_of).lawful

pub allowed-requires-clause-options : goal.allowed-requires-clause-options
allowed-requires-clause-options g c = sym (next_line_of _ c.args.expected.now c.loop-line.line-index c.line-item.result c.loop-line-test.true c.line-item.is c.loop-line.invariant.1.left_of).number

pub or-requires-clause-first : goal.or-requires-clause-first
or-requires-clause-first g c = c.in_ok-set.ensures.extends.known c.loop-line.spoken c.loop-line.invariant.1.spoke_known

pub or-requires-clause-second : goal.or-requires-clause-second
or-requires-clause-second g c = c.in_ok-set.ensures.ok.known

pub find-requires-clause-ends : goal.find-requires-clause-ends
find-requires-clause-ends g c = AreKnownEnds-extends (Extends-trans c.loop-line.invariant.1.extends (Extends-trans c.in_ok-set.ensures.extends c.in_ok-spoken.ensures.extends)) c.args.ends.now c.requires.ends

pub find-requires-clause-set : goal.find-requires-clause-set
find-requires-clause-set g c = c.in_ok-spoken.ensures.extends.known c.in_ok-set.set c.in_ok-set.ensures.ok.known

pub find-requires-clause-scope : goal.find-requires-clause-scope
find-requires-clause-scope g c = (Extends-trans c.loop-line.invariant.1.extends (Extends-trans c.in_ok-set.ensures.extends c.in_ok-spoken.ensures.extends)).known c.args.scope c.requires.scope

pub find-requires-clause-sound : goal.find-requires-clause-sound
find-requires-clause-sound g c = IsSound-extends (Extends-trans c.in_ok-set.ensures.extends c.in_ok-spoken.ensures.extends) c.loop-line.finding c.loop-line.invariant.0

pub loop-line-preserved : goal.loop-line-preserved
loop-line-preserved g c = (
  c.in_ok-find.ensures.sound,
  LeadsMissed-step c.args.scope c.args.ends.now c.args.expected.now c.loop-line.line-index c.line-item.result c.in_ok-set.set c.loop-line.spoken c.in_ok-spoken.spoken c.args.finding.now c.loop-line.finding c.find.new.finding
      c.loop-line-test.true c.line-item.is c.loop-line.invariant.1 c.in_ok-set.ensures.extends c.in_ok-spoken.ensures.extends c.in_ok-find.ensures.extends c.in_ok-set.ensures.ok c.in_ok-spoken.ensures.ok c.in_ok-find.ensures.found,
)

pub returns-in_err-set-clause-extends : goal.returns-in_err-set-clause-extends
returns-in_err-set-clause-extends g c = Extends-trans c.loop-line.invariant.1.extends c.allowed.ensures.extends

pub returns-in_err-spoken-clause-extends : goal.returns-in_err-spoken-clause-extends
returns-in_err-spoken-clause-extends g c = Extends-trans c.loop-line.invariant.1.extends (Extends-trans c.in_ok-set.ensures.extends c.or.ensures.extends)

pub returns-in_err-find-clause-extends : goal.returns-in_err-find-clause-extends
returns-in_err-find-clause-extends g c = Extends-trans c.loop-line.invariant.1.extends (Extends-trans c.in_ok-set.ensures.extends (Extends-trans c.in_ok-spoken.ensures.extends c.find.ensures.extends))

pub returns-clause-extends : goal.returns-clause-extends
returns-clause-extends g c = c.loop-line.invariant.1.extends

pub returns-clause-sound : goal.returns-clause-sound
returns-clause-sound g c = c.loop-line.invariant.0

pub returns-clause-spoken : goal.returns-clause-spoken
returns-clause-spoken g c = LeadsMissed-spoken c.args.scope c.args.ends.now c.args.expected.now _ c.loop-line.spoken c.args.finding.now c.loop-line.finding (drop_all c.loop-line.line-index c.args.expected.now c.loop-line-test.false) c.loop-line.invariant.1

pub returns-clause-found : goal.returns-clause-found
returns-clause-found g c = LeadsMissed-all c.args.scope c.args.ends.now c.args.expected.now _ c.loop-line.spoken c.args.finding.now c.loop-line.finding (drop_all c.loop-line.line-index c.args.expected.now c.loop-line-test.false) c.loop-line.invariant.1
