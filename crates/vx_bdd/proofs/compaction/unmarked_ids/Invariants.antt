use Rattle.std.specs.HashMap.{values}
use Rattle.vx_bdd.specs.Marks.{is_marked}
use Rattle.vx_bdd.proofs.MarkLaws.{IsPicking}
use Rattle.vx_bdd.proofs.compaction.unmarked_ids.Given as goal

abbrev pub invariant-loop-id : goal.invariant-loop-id
invariant-loop-id l = IsPicking (is_marked l.marks) (values l.ids) l.id-iterator l.unmarked.items
