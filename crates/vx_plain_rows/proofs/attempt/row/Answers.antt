use Rattle.std.proofs.Common.{ap, sym}
use Rattle.vx_java.specs.Row.{row_in}
use Rattle.vx_plain.specs.Views.{state_of}
use Rattle.vx_plain_here.proofs.Comes.{comes_as}
use Rattle.vx_plain_tables.proofs.Short.{short_code}
use Rattle.vx_plain_rows.proofs.attempt.row.Goals as goal

pub row_in-requires-clause-few : goal.row_in-requires-clause-few
row_in-requires-clause-few c = short_code c.args.program.now (state_of c.args.state.now).top.method c.in-Some.code.now c.requires.tables.short (sym c.in-Some.ensures)

pub returns-in-Some : goal.returns-in-Some
returns-in-Some c = comes_as c.row_in.result _ _ _ _ (ap (row_in c.args.program.now (state_of c.args.state.now)) c.in-Some.ensures) c.row_in.ensures

pub returns-in-None : goal.returns-in-None
returns-in-None c = comes_as c.illegal_at.result _ _ _ _ (ap (row_in c.args.program.now (state_of c.args.state.now)) c.in-None.ensures) c.illegal_at.ensures
