use Rattle.std.proofs.Common.{◌≡◌, ◌++◌, flat_map, take}
use Rattle.std.specs.BTreeMap.{get}
use Rattle.vx_space.specs.Sets.{Extends}
use Rattle.vx_count.specs.Memo.{AreNumbers}
use Rattle.vx_compare.specs.Ways.{sides}
use Rattle.vx_compare.proofs.Sided.{against_by}
use Rattle.vx_compare.proofs.comparing.put_ways.Given as goal

abbrev pub invariant-loop-against : goal.invariant-loop-against
invariant-loop-against g l = record {
  extends : Extends (g.S.Space.sets l.fn.space) (g.S.Space.sets l.space);
  numbers : AreNumbers (g.S.Space.sets l.space) (get g.S.Id.Ord.cmp l.numbers);
  ways : l.ways.items ≡ l.initial.ways.items ++ flat_map (against_by (g.S.Space.sets l.fn.space) l.fn.one l.fn.other l.fn.end l.fn.here) (take l.against-index (sides l.fn.other));
}
