use Rattle.std.proofs.Common.{◌∷◌, [], arith, rules}
use Rattle.std.proofs.lemmas.List.{length-append}
use Rattle.std.proofs.lemmas.List.Elements.{All-append}
use Rattle.vx_class.specs.File.{Holds}
use Rattle.vx_link_bench.proofs.folder.Goals as goal

pub loop-number-preserved : goal.loop-number-preserved
loop-number-preserved c = record {
  count = rw c.in_ok-push-in-Some.ensures.items (omega (arith, c.loop-number.invariant.count, length-append c.loop-number.classes.items (c.in-Some.class ∷ [])));
  holds = rw c.in_ok-push-in-Some.ensures.items (All-append Holds c.loop-number.classes.items _ c.loop-number.invariant.holds (search rules));
}
