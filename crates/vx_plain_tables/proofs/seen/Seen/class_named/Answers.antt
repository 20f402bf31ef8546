use Rattle.std.proofs.Common.{ap, sym, ◌∙◌}
use Rattle.std.specs.Prelude.{option_map}
use Rattle.vx_java.specs.Ids.{as_class}
use Rattle.vx_link.specs.ClassNames.{class_named}
use Rattle.vx_link.specs.Names.{class_name}
use Rattle.vx_plain_tables.proofs.TableLaws.{found_is}
use Rattle.vx_pool.specs.declared.pool.Pool.{Pool}
use Rattle.vx_plain_tables.proofs.seen.Seen.class_named.Goals as goal

pub returns-in-Some : goal.returns-in-Some
returns-in-Some c =
    let p = c.args.self.now.here.program.now in
    found_is p c.args.self.now.tables.now c.args.self.now.class.0 c.args.entry c.in-Some.found c.args.self.now.known (sym c.in-Some.is ∙ c.class_of.ensures)
    ∙ ap (λ (pool : Pool). option_map as_class (class_named p (class_name pool c.args.entry))) (sym c.args.self.now.pool)

pub returns-in-None : goal.returns-in-None
returns-in-None c =
    let p = c.args.self.now.here.program.now in
    c.class_named.ensures
    ∙ ap (λ name. option_map as_class (class_named p name)) c.name_of_entry.ensures.name
    ∙ ap (λ (pool : Pool). option_map as_class (class_named p (class_name pool c.args.entry))) (sym c.args.self.now.pool)
