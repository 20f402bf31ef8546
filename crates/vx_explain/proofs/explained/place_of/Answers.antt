use Rattle.std.proofs.Common.{sym, arith}
use Rattle.std.specs.BTreeMap.{get}
use Rattle.std.specs.Ordering.{nat_cmp}
use Rattle.vx_explain.proofs.Explaining.{IsFound-new, IsFound-old}
use Rattle.vx_explain.proofs.explained.place_of.Goals as goal

pub returns-clause-place : goal.returns-clause-place
returns-clause-place g c = IsFound-new c.args.report.now c.args.known.now.told.items _ (get nat_cmp c.args.known.now.places) _ c.args.node _ c.in_ok-told.told c.requires.known c.in_ok-told.ensures.told c.in_ok-push.ensures.items (omega (arith, c.len-place.ensures, c.args.known.now.told.ok)) c.in_ok-insert.ensures.updates.0

pub returns-in-Some-clause-place : goal.returns-in-Some-clause-place
returns-in-Some-clause-place g c = IsFound-old c.args.report.now c.args.known.now.told.items (get nat_cmp c.args.known.now.places) c.args.node _ c.requires.known (sym c.in-Some.ensures.value)
