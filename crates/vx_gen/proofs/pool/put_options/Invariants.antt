use Rattle.std.proofs.Common.{List, drop, ◌*◌, ◌++◌, ◌+◌, ◌≡◌}
use Rattle.vx_gen.specs.Parts.{option_parts}
use Rattle.vx_gen.proofs.pool.put_options.Given as goal
use Rattle.vx_pool.specs.declared.pool.Entry.{Entry}

-- what was put behind the others so far, and what is still to be put
abbrev pub invariant-loop-name : goal.invariant-loop-name
invariant-loop-name l =
    (put : List Entry)
    × (l.pool.items ≡ l.fn.pool.items ++ put)
    × (put ++ option_parts l.index (drop l.name-index l.names) ≡ option_parts l.at l.names)
    × (l.index ≡ l.at + 6 * l.name-index)
