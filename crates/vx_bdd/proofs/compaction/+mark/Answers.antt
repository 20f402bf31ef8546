use Rattle.std.proofs.Common.{◌≡◌, sym, true}
use Rattle.std.specs.Prelude.{Some}
use Rattle.vx_bdd.specs.declared.node.Node.{Node}
use Rattle.vx_bdd.specs.Diagram.{node_at}
use Rattle.vx_bdd.specs.Marks.{is_marked, AddsBelow, IsClosed}
use Rattle.vx_bdd.proofs.MarkLaws.{AddsBelow-refl, AddsBelow-parts, AddsBelow-insert, IsClosed-insert, parts_of_node}
use Rattle.vx_bdd.proofs.compaction.+mark.Goals as goal
use Rattle.vx_bdd.proofs.compaction.+mark.Goals.{in-Some+in_ok-mark-in-Some+in_ok-mark-in-Some-2, in-None}

pub returns-clause-adds : goal.returns-clause-adds
returns-clause-adds t c =
    let before : AddsBelow c.args.table.now.nodes.slots c.args.id (is_marked c.args.marks.now) (is_marked c.match-node.marks) = elim c.match-node.branch [
      | in-Some+in_ok-mark-in-Some+in_ok-mark-in-Some-2 w ↦ rw w.marks-is (AddsBelow-parts c.args.id w.in-Some.node _ _ _ (sym w.in-Some.ensures) w.in_ok-mark-in-Some.ensures.adds w.in_ok-mark-in-Some-2.ensures.adds)
      | in-None w ↦ rw w.marks-is (AddsBelow-refl _ _ _)
    ] in
    AddsBelow-insert c.args.id _ _ _ before c.in_ok-add.ensures.ok

pub returns-clause-closed : goal.returns-clause-closed
returns-clause-closed t c =
    let before : IsClosed c.args.table.now.nodes.slots (is_marked c.match-node.marks) = elim c.match-node.branch [
      | in-Some+in_ok-mark-in-Some+in_ok-mark-in-Some-2 w ↦ rw w.marks-is w.in_ok-mark-in-Some-2.ensures.closed
      | in-None w ↦ rw w.marks-is c.requires.closed
    ] in
    let parts : (node : Node) → node_at c.args.table.now.nodes.slots c.args.id ≡ Some node → (is_marked c.match-node.marks node.low ≡ true) × (is_marked c.match-node.marks node.high ≡ true) = elim c.match-node.branch [
      | in-Some+in_ok-mark-in-Some+in_ok-mark-in-Some-2 w ↦ rw w.marks-is (parts_of_node _ c.args.id w.in-Some.node _ (sym w.in-Some.ensures) (w.in_ok-mark-in-Some-2.ensures.adds.kept _ w.in_ok-mark-in-Some.ensures.marked) w.in_ok-mark-in-Some-2.ensures.marked)
      | in-None w ↦ λ node e. cc (w.in-None.ensures, e)
    ] in
    IsClosed-insert c.args.id _ _ before c.requires.stored parts c.in_ok-add.ensures.ok
