use Rattle.std.proofs.Common.{ap, sym, ◌∙◌, ◌+◌}
use Rattle.std.specs.Map.{keys_of}
use Rattle.vx_class_parts.specs.Constants.{places}
use Rattle.vx_class_parts.proofs.Indices.{IsIndexed-more, is_kept, is_put, new_last}
use Rattle.vx_class_parts.proofs.table.ConstantTable.put.Goals as goal

pub returns-then-contains_key-clause-ok : goal.returns-then-contains_key-clause-ok
returns-then-contains_key-clause-ok c = rw (← c.self.view_is) (is_kept c.args.constant c.self.inside.indices.entries c.contains_key.result c.contains_key.ensures c.if-contains_key.true)

pub invariant_of-self-2 : goal.invariant_of-self-2
invariant_of-self-2 c =
    let more = c.in_ok-insert.ensures.entries ∙ new_last c.args.constant c.self.inside.indices c.places-index.result c.contains_key.result c.contains_key.ensures c.if-contains_key.false in
    rw more
    (IsIndexed-more c.self.inside.indices.entries c.self.inside.places c.places-index.result (c.places-index.result + c.from.result) c.args.constant c.self.invariant
    (c.places-index.ensures.value ∙ ap places (sym c.self.view_is)) (ap (λ n. c.places-index.result + n) (c.from.ensures ∙ c.width.ensures.value)))

pub returns-clause-ok : goal.returns-clause-ok
returns-clause-ok c =
    let more = c.in_ok-insert.ensures.entries ∙ new_last c.args.constant c.self.inside.indices c.places-index.result c.contains_key.result c.contains_key.ensures c.if-contains_key.false in
    rw (← c.self.view_is) (ap keys_of more ∙ is_put c.args.constant c.self.inside.indices.entries c.places-index.result c.contains_key.result c.contains_key.ensures c.if-contains_key.false)
