use Rattle.std.proofs.Common.{sym, ◌∙◌, ap}
use Rattle.vx_space.proofs.Spaces.{Extends-refl, Extends-trans}
use Rattle.vx_count.proofs.Halves.{AreNumbers-extends}
use Rattle.vx_check.proofs.Found.{IsSound-extends, found_none, found_one}
use Rattle.vx_check.proofs.finding.find_ended.Goals as goal

pub returns-then-is_good-clause-found : goal.returns-then-is_good-clause-found
returns-then-is_good-clause-found g c = found_none c.args.scope c.args.ended.now _ c.args.set c.args.finding.now (sym c.is_good.ensures ∙ c.if-is_good.true)

pub or-requires-clause-first : goal.or-requires-clause-first
or-requires-clause-first g c = c.in_ok-way.ensures.extends.known c.args.finding.now.failing c.requires.sound.failing

pub or-requires-clause-second : goal.or-requires-clause-second
or-requires-clause-second g c = c.in_ok-way.ensures.ok.known

pub push_told-requires-clause-set : goal.push_told-requires-clause-set
push_told-requires-clause-set g c = c.in_ok-failing.ensures.extends.known c.in_ok-way.way c.in_ok-way.ensures.ok.known

pub push_told-requires-clause-scope : goal.push_told-requires-clause-scope
push_told-requires-clause-scope g c = (Extends-trans c.in_ok-way.ensures.extends c.in_ok-failing.ensures.extends).known c.args.scope c.requires.scope

pub push_told-requires-clause-numbers : goal.push_told-requires-clause-numbers
push_told-requires-clause-numbers g c = AreNumbers-extends (Extends-trans c.in_ok-way.ensures.extends c.in_ok-failing.ensures.extends) _ c.requires.sound.numbers

pub returns-in_err-failing-clause-extends : goal.returns-in_err-failing-clause-extends
returns-in_err-failing-clause-extends g c = Extends-trans c.in_ok-way.ensures.extends c.or.ensures.extends

pub returns-in_err-push_told-clause-extends : goal.returns-in_err-push_told-clause-extends
returns-in_err-push_told-clause-extends g c = Extends-trans c.in_ok-way.ensures.extends (Extends-trans c.in_ok-failing.ensures.extends c.push_told.ensures.extends)

pub returns-clause-extends : goal.returns-clause-extends
returns-clause-extends g c = Extends-trans c.in_ok-way.ensures.extends (Extends-trans c.in_ok-failing.ensures.extends c.in_ok-push_told.ensures.extends)

pub returns-clause-sound : goal.returns-clause-sound
returns-clause-sound g c = record {
  numbers = c.in_ok-push_told.ensures.numbers;
  failing = rw c.in_ok-push_told.ensures.failing (c.in_ok-push_told.ensures.extends.known c.in_ok-failing.failing c.in_ok-failing.ensures.ok.known);
}

pub returns-clause-found : goal.returns-clause-found
returns-clause-found g c =
    found_one c.args.scope c.args.ended.now _ c.args.set c.in_ok-way.way c.in_ok-failing.failing c.args.finding.now c.push_told.new.finding c.in_ok-way.ensures.extends c.in_ok-failing.ensures.extends c.in_ok-push_told.ensures.extends
    c.requires.sound.failing (sym c.is_good.ensures ∙ c.if-is_good.false) c.in_ok-way.ensures.ok c.in_ok-failing.ensures.ok c.in_ok-push_told.ensures.failing (rw c.number_of.ensures at c.in_ok-push_told.ensures.told)
