use Rattle.std.proofs.Common.{◌≡◌, ◌++◌, flat_map, take}
use Rattle.std.specs.BTreeMap.{get}
use Rattle.vx_space.specs.Sets.{Extends}
use Rattle.vx_count.specs.Memo.{AreNumbers}
use Rattle.vx_compare.specs.Ways.{sides}
use Rattle.vx_compare.proofs.Sided.{all_by}
use Rattle.vx_compare.proofs.comparing.put_all_ways.Given as goal

abbrev pub invariant-loop-side : goal.invariant-loop-side
invariant-loop-side g l = record {
  extends : Extends (g.S.Space.sets l.fn.space) (g.S.Space.sets l.space);
  numbers : AreNumbers (g.S.Space.sets l.space) (get g.S.Id.Ord.cmp l.numbers);
  ways : l.ways.items ≡ l.initial.ways.items ++ flat_map (all_by l.fn.one l.fn.other) (take l.side-index (sides l.fn.one));
}
