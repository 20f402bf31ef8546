use Rattle.std.proofs.Common.{◌∙◌}
use Rattle.vx_names.proofs.Keys.{has-keys}
use Rattle.vx_names.proofs.NameTable.has.Goals as goal

pub returns : goal.returns
returns c = rw (← c.self.view_is) (c.contains.ensures ∙ has-keys (λ v. v.items) c.self.inside.names.keys c.args.name.now)
