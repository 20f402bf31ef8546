use Rattle.std.proofs.Common.{ap, sym, ◌∙◌}
use Rattle.std.specs.Prelude.{option_map}
use Rattle.vx_java.specs.Ids.{as_class}
use Rattle.vx_link.specs.ClassNames.{class_named}
use Rattle.vx_link.specs.Names.{class_name, member}
use Rattle.vx_pool.specs.declared.pool.Pool.{Pool}
use Rattle.vx_plain_tables.proofs.seen.Seen.owner.Goals as goal

pub returns : goal.returns
returns c =
    let p = c.args.self.now.here.program.now in
    c.class_named.ensures
    ∙ ap (λ (pool : Pool). option_map as_class (class_named p (class_name pool c.owner_entry.result))) c.args.self.now.pool
    ∙ ap (λ name. option_map as_class (class_named p name)) c.owner_entry.ensures
    ∙ ap (λ (pool : Pool). option_map as_class (class_named p (member pool c.args.entry).class)) (sym c.args.self.now.pool)
