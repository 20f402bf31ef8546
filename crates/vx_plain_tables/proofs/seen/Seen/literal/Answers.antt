use Rattle.std.proofs.Common.{ap, sym, ◌∙◌}
use Rattle.vx_pool.specs.Lookups.{entry_of}
use Rattle.vx_plain_tables.proofs.TableLaws.{literal_is}
use Rattle.vx_plain_tables.specs.Tables.{literal_in}
use Rattle.vx_pool.specs.declared.pool.Pool.{Pool}
use Rattle.vx_plain_tables.proofs.seen.Seen.literal.Goals as goal

pub returns : goal.returns
returns c =
    let p = c.args.self.now.here.program.now in
    c.literal.ensures
    ∙ literal_is p c.args.self.now.tables.now c.args.self.now.class.0 c.args.entry c.args.self.now.known
    ∙ ap (λ (pool : Pool). literal_in p pool (entry_of pool c.args.entry)) (sym c.args.self.now.pool)
