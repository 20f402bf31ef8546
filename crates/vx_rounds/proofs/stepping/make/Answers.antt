use Rattle.std.specs.Ordering.{nat_cmp}
use Rattle.vx_space.proofs.Spaces.{Extends-trans}
use Rattle.vx_cond.proofs.CondLaws.{IsCond-extends}
use Rattle.vx_turns.proofs.Grown.{IsUnderway-grown}
use Rattle.vx_turns.proofs.Making.{IsMade-placed, made_bound, made_divide, made_placeable, unwritten_made, vacant_made}
use Rattle.vx_rounds.proofs.stepping.make.Goals as goal

pub place_all-requires-clause-may : goal.place_all-requires-clause-may
place_all-requires-clause-may g c =
    let a = c.in_ok-outcomes.ensures.ok.attempts in
    record {
      is_heap = a.is_heap;
      underway = IsUnderway-grown c.args.program.now c.in_ok-outcomes.ensures.extends c.args.heap.now c.attempt.new.heap c.requires.given.is_heap a.grows c.args.limit c.args.round.now c.attempt.new.callers a.keeps c.requires.underway;
      is_cond = IsCond-extends nat_cmp c.in_ok-outcomes.ensures.extends c.args.attempts.now c.requires.counted.is_cond;
      bound = made_bound c.args.program.now c.in_ok-outcomes.ensures.extends c.args.heap.now c.args.round.now.callers c.args.limit c.args.group c.args.attempts.now c.requires.given c.requires.counted;
      vacant = vacant_made c.args.program.now c.in_ok-outcomes.ensures.extends c.args.heap.now c.attempt.new.callers c.args.limit c.args.group c.args.attempts.now c.args.round.now c.requires.given c.requires.counted c.requires.underway c.requires.vacant;
      unwritten = unwritten_made c.args.program.now c.in_ok-outcomes.ensures.extends c.args.heap.now c.attempt.new.callers c.args.limit c.args.group c.args.attempts.now c.args.round.now c.requires.given c.requires.counted c.requires.underway c.requires.unwritten;
    }

pub place_all-requires-clause-divide : goal.place_all-requires-clause-divide
place_all-requires-clause-divide g c = made_divide c.args.program.now c.in_ok-outcomes.ensures.extends c.args.heap.now c.attempt.new.heap c.args.round.now.callers c.attempt.new.callers c.args.limit c.args.group c.args.attempts.now c.in_ok-outcomes.outcomes.items.items c.requires.given c.requires.counted c.in_ok-outcomes.ensures.ok.attempts

pub place_all-requires-clause-placeable : goal.place_all-requires-clause-placeable
place_all-requires-clause-placeable g c = made_placeable c.args.program.now c.in_ok-outcomes.ensures.extends c.args.heap.now c.attempt.new.heap c.args.round.now.callers c.attempt.new.callers c.args.limit c.args.group c.args.attempts.now c.in_ok-outcomes.outcomes.items.items c.requires.given c.requires.counted c.in_ok-outcomes.ensures.ok.attempts

pub place_all-requires-clause-placed : goal.place_all-requires-clause-placed
place_all-requires-clause-placed g c = c.in_ok-outcomes.ensures.ok.placed

pub returns-in_err-place_all-clause-extends : goal.returns-in_err-place_all-clause-extends
returns-in_err-place_all-clause-extends g c = Extends-trans c.in_ok-outcomes.ensures.extends c.place_all.ensures.extends

pub returns-clause-extends : goal.returns-clause-extends
returns-clause-extends g c = Extends-trans c.in_ok-outcomes.ensures.extends c.place_all.ensures.extends

pub returns-clause-made : goal.returns-clause-made
returns-clause-made g c =
    let a = c.in_ok-outcomes.ensures.ok in
    IsMade-placed c.args.program.now c.in_ok-outcomes.ensures.extends c.place_all.ensures.extends c.args.heap.now c.attempt.new.heap c.attempt.new.callers c.args.limit c.args.group c.args.attempts.now c.in_ok-outcomes.outcomes.items.items c.args.round.now c.place_all.new.round c.requires.given c.requires.counted a.is_for a.attempts c.requires.underway c.requires.vacant c.in_ok-place_all.ensures.placed
