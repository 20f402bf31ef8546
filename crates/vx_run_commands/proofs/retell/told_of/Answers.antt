use Rattle.std.proofs.Common.{◌≡◌, IfOk, subst, sym}
use Rattle.vx_run_commands.specs.Retell.{told_of}
use Rattle.vx_run_commands.specs.declared.words.Retelling.{Retelling}
use Rattle.vx_run_commands.proofs.retell.told_of.Goals as goal

pub returns-in-Replay : goal.returns-in-Replay
returns-in-Replay c =
    subst (λ (r : Retelling). IfOk c.run_text.result (λ text. text.items ≡ told_of r c.args.words.limit c.args.values.now c.args.tables.now c.args.files.now c.args.program.now)) (sym c.in-Replay.is) c.run_text.ensures

pub returns-in-Trace : goal.returns-in-Trace
returns-in-Trace c =
    subst (λ (r : Retelling). IfOk c.trace_text.result (λ text. text.items ≡ told_of r c.args.words.limit c.args.values.now c.args.tables.now c.args.files.now c.args.program.now)) (sym c.in-Trace.is) c.trace_text.ensures
