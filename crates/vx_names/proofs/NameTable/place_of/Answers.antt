use Rattle.std.proofs.Common.{◌∙◌}
use Rattle.vx_names.proofs.Keys.{place-keys}
use Rattle.vx_names.proofs.NameTable.place_of.Goals as goal

-- src/lib.rt:60:5
pub returns-clause-place : goal.returns-clause-place
returns-clause-place c = rw (← c.self.view_is) (c.get_index_of.ensures.index ∙ place-keys (λ v. v.items) c.self.inside.names.keys c.args.name.now)
