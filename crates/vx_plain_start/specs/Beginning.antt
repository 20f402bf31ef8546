-- The beginning of a run from the state before main.
use Rattle.std.specs.Prelude.{◌≡◌, None, Option, Some}
use Rattle.vx_java.specs.Initialisation.{chain_blocked, init_chain}
use Rattle.vx_java.specs.Machine.{State, current_class}
use Rattle.vx_java.specs.Step.{Live, Over, Run, begun, fresh_progress}
use Rattle.vx_link.specs.declared.program.Program.{Program}
use Rattle.vx_value.specs.declared.end.End.{End}

abbrev pub started : Program → State → Run
started p s =
    let main_class = current_class p s in
    let chain = init_chain p s.inits main_class in
    begun p s main_class chain (chain_blocked p chain)

-- the run goes on from the new state, or is over in the old one
abbrev pub Began : Run → State → State → Option End → Type 0
Began said old new None = said ≡ Live (fresh_progress new)
Began said old new (Some end) = said ≡ Over end (fresh_progress old)
