use Rattle.std.proofs.Common.{◌≡◌, ◌-◌, [], map}
use Rattle.vx_pool.specs.Reading.{steps, behind}
use Rattle.vx_class.specs.Members.{method_at}
use Rattle.vx_class.specs.Numbers.{method_key}
use Rattle.vx_class.proofs.methods.some_methods.Given as goal

abbrev pub invariant-loop : goal.invariant-loop
invariant-loop l = record {
  so_far : steps (behind (method_at l.pool l.major)) l.methods.items (l.count - l.counter) l.cursor ≡ steps (behind (method_at l.pool l.major)) [] l.count l.fn.cursor;
  taken : l.taken.keys ≡ map (method_key l.numbers) l.methods.items;
}
