use Rattle.std.specs.Prelude.{option_map}
use Rattle.vx_types.specs.Flow.{load_reference, moved, put, taken}
use Rattle.vx_verify.proofs.MadeLaws.{increased_made, left_made, operands_made, state_itself_made}
use Rattle.vx_verify.specs.States.{operands_at}
use Rattle.vx_verify.proofs.rows.after.Goals as goal

pub returns-in-Refused : goal.returns-in-Refused
returns-in-Refused c = rw c.in-Refused.is tt

pub returns-in-Ends : goal.returns-in-Ends
returns-in-Ends c = rw c.in-Ends.is (state_itself_made c.args.store.now c.args.frame c.args.state c.requires.store c.requires.state)

pub returns-in-Leaves : goal.returns-in-Leaves
returns-in-Leaves c =
    rw c.in-Leaves.is
    (left_made c.args.program.now c.args.store.now c.args.frame c.args.state c.in-Leaves.wants c.left.result c.requires.store c.requires.state (rw c.as_slice.ensures at c.left.ensures))

pub returns-in_ok-operands-in-Takes : goal.returns-in_ok-operands-in-Takes
returns-in_ok-operands-in-Takes c =
    rw c.in-Takes.is
    (operands_made c.args.store.now c.exchanged.new.store c.args.frame c.args.state c.in_ok-operands-in-Takes.operands c.with_operands.result
    (option_map (put c.in-Takes.given) (taken c.args.program.now c.in-Takes.wants (operands_at c.args.store.now c.args.state.operands))) c.requires.store c.requires.state
    (rw c.as_slice-wants.ensures at c.in_ok-operands-in-Takes.ensures) c.with_operands.ensures)

pub returns-in-Load : goal.returns-in-Load
returns-in-Load c = rw c.in-Load.is c.load.ensures

pub returns-in-Store : goal.returns-in-Store
returns-in-Store c = rw c.in-Store.is c.store_top.ensures

pub returns-in-Increase : goal.returns-in-Increase
returns-in-Increase c =
    rw c.in-Increase.is
    (increased_made c.args.program.now c.args.store.now c.args.frame c.args.state c.in-Increase.place c.local-item.result c.if_int.result c.requires.store c.requires.state
    (rw c.from.ensures at c.local-item.ensures.value) c.if_int.ensures)

pub returns-in_ok-operands-in-Move : goal.returns-in_ok-operands-in-Move
returns-in_ok-operands-in-Move c =
    rw c.in-Move.is
    (operands_made c.args.store.now c.moved.new.store c.args.frame c.args.state c.in_ok-operands-in-Move.operands c.with_operands-in-Move.result
    (moved c.in-Move.form (operands_at c.args.store.now c.args.state.operands)) c.requires.store c.requires.state c.in_ok-operands-in-Move.ensures c.with_operands-in-Move.ensures)

pub returns-in_ok-operands-in-LoadReference : goal.returns-in_ok-operands-in-LoadReference
returns-in_ok-operands-in-LoadReference c =
    rw c.in-LoadReference.is
    (operands_made c.args.store.now c.load_reference.new.store c.args.frame c.args.state c.in_ok-operands-in-LoadReference.operands c.with_operands-in-LoadReference.result
    (load_reference (operands_at c.args.store.now c.args.state.operands)) c.requires.store c.requires.state c.in_ok-operands-in-LoadReference.ensures c.with_operands-in-LoadReference.ensures)
