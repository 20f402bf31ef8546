use Rattle.std.proofs.Common.{◌≡◌, ◌++◌, [], drop}
use Rattle.std.specs.Prelude.{codes}
use Rattle.vx_java.specs.Step.{start}
use Rattle.vx_plain.specs.Views.{state_of}
use Rattle.vx_trace.specs.TraceText.{chain_text, lines_in}
use Rattle.vx_trace.proofs.throwable.put_chain.Given as goal

abbrev pub invariant-loop-object : goal.invariant-loop-object
invariant-loop-object l =
    let p = l.origin.program.now in
    let lines = lines_in l.origin (start p l.origin.config.now) (state_of l.state) in
    l.out.items ++ chain_text p (state_of l.state) lines l.caption l.above.items (drop l.object-index l.chain)
    ≡ l.initial.out.items ++ chain_text p (state_of l.state) lines (codes "Exception in thread \"main\" ") [] l.chain
