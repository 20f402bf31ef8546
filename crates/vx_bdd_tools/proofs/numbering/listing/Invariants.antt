use Rattle.std.proofs.Common.{take}
use Rattle.std.specs.BTreeMap.{get}
use Rattle.vx_bdd_tools.proofs.NumberingSteps.{IsNumberingAll}
use Rattle.vx_bdd_tools.proofs.numbering.listing.Given as goal

abbrev pub invariant-loop-root : goal.invariant-loop-root
invariant-loop-root g l = IsNumberingAll (g.S.Space.sets l.space) (take l.root-index l.roots) l.nodes.items (get g.S.Id.Ord.cmp l.numbers) l.numbered.items
