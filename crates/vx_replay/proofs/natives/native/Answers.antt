use Rattle.vx_plain.specs.Views.{state_of}
use Rattle.vx_plain_here.proofs.Comes.{comes_as}
use Rattle.vx_replay.proofs.Calls.{at_call, short_or_none}
use Rattle.vx_replay.proofs.natives.native.Goals as goal

pub size_at-size-requires : goal.size_at-size-requires
size_at-size-requires c = short_or_none c.args.program.now (state_of c.args.state.now).top.method c.code_at_call-code.result.now c.requires.tables.short c.code_at_call-code.ensures

pub returns : goal.returns
returns c =
    comes_as c.carry_out_by.result _ _ _ _
    (at_call c.args.program.now (state_of c.args.state.now) c.args.method.0 c.code_at_call-code.result.now c.pool_of-pool.result.now c.current_class-class.result.0 c.position-position.result c.size_at-size.result
    c.code_at_call-code.ensures c.current_class-class.ensures c.pool_of-pool.ensures c.position-position.ensures c.size_at-size.ensures)
    c.carry_out_by.ensures
