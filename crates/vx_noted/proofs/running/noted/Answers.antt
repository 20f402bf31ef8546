use Rattle.std.proofs.Common.{ap, sym, subst}
use Rattle.std.specs.Prelude.{IfOk, ◌≡◌}
use Rattle.vx_java.specs.Step.{Run}
use Rattle.vx_noted.specs.Noted.{noted_in}
use Rattle.vx_noted.proofs.running.noted.Goals as goal

pub returns-in-Some : goal.returns-in-Some
returns-in-Some c =
    let begun = rw c.in-Some.is at c.in_ok-begun.ensures in
    subst (λ (r : Run). IfOk c.first_noted.result (λ frames. frames.items ≡ noted_in c.args.program.now c.args.limit r c.args.object)) (sym begun.0) c.first_noted.ensures
