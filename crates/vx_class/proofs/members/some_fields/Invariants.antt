use Rattle.std.proofs.Common.{◌≡◌, ◌-◌, [], map}
use Rattle.vx_pool.specs.Reading.{steps, behind}
use Rattle.vx_class.specs.Members.{field_at}
use Rattle.vx_class.specs.Numbers.{field_key}
use Rattle.vx_class.proofs.members.some_fields.Given as goal

abbrev pub invariant-loop : goal.invariant-loop
invariant-loop l = record {
  so_far : steps (behind (field_at l.pool l.is_interface)) l.fields.items (l.count - l.counter) l.cursor ≡ steps (behind (field_at l.pool l.is_interface)) [] l.count l.fn.cursor;
  taken : l.taken.keys ≡ map (field_key l.numbers) l.fields.items;
}
