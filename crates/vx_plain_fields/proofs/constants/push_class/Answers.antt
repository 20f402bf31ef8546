use Rattle.std.proofs.Common.{ap, ◌∙◌}
use Rattle.vx_pool.specs.Lookups.{entry_of}
use Rattle.vx_java.specs.Machine.{Ref, push, unsupported}
use Rattle.vx_java.specs.Operation.{class_word}
use Rattle.vx_link.specs.Names.{class_name}
use Rattle.vx_plain.specs.Views.{state_of}
use Rattle.vx_plain_here.proofs.Comes.{comes_as}
use Rattle.vx_plain_here.specs.Rows.{here_in}
use Rattle.vx_plain_tables.proofs.Named.{absent, present}
use Rattle.vx_plain_tables.specs.Tables.{literal_in}
use Rattle.vx_plain_fields.proofs.constants.push_class.Goals as goal

pub returns-in-Some : goal.returns-in-Some
returns-in-Some c =
    let h = here_in c.args.seen.now.here (state_of c.args.state.now) in
    comes_as c.push_literal.result _ _ _ _ (present h (class_name h.pool c.args.index) (λ k. push h (Ref (literal_in h.program h.pool (entry_of h.pool c.args.index))) h.state.top.operands) _ c.in-Some.ensures) c.push_literal.ensures

pub returns-in-None : goal.returns-in-None
returns-in-None c =
    let h = here_in c.args.seen.now.here (state_of c.args.state.now) in
    comes_as c.unsupported.result _ _ _ _ (ap (λ name. unsupported h class_word name) c.class_name.ensures ∙ absent h (class_name h.pool c.args.index) (λ k. push h (Ref (literal_in h.program h.pool (entry_of h.pool c.args.index))) h.state.top.operands) c.in-None.ensures) c.unsupported.ensures
