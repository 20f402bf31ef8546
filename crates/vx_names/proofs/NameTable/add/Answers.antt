use Rattle.std.proofs.Common.{not, ap, ◌∙◌, map}
use Rattle.vx_names.proofs.Keys.{has-keys, with-keys}
use Rattle.vx_names.proofs.NameTable.add.Goals as goal

-- src/lib.rt:51:5
pub returns-clause-new : goal.returns-clause-new
returns-clause-new c = rw (← c.self.view_is) (c.in_ok-insert.ensures.added ∙ ap not (has-keys (λ v. v.items) c.self.inside.names.keys c.args.name.items))

-- src/lib.rt:51:5
pub returns-clause-names : goal.returns-clause-names
returns-clause-names c = rw (← c.self.view_is) (ap (λ ks. map (λ v. v.items) ks) c.in_ok-insert.ensures.keys ∙ with-keys (λ v. v.items) c.self.inside.names.keys c.args.name)
