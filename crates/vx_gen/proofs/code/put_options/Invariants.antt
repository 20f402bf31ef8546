use Rattle.std.proofs.Common.{drop, ◌++◌, ◌+◌, ◌≡◌}
use Rattle.std.specs.List.{flat_map}
use Rattle.vx_gen.specs.Workload.{all_option_items}
use Rattle.vx_link.specs.Written.{item_bytes}
use Rattle.vx_gen.proofs.code.put_options.Given as goal

abbrev pub invariant-loop-name : goal.invariant-loop-name
invariant-loop-name l =
    (l.bytes.items ++ flat_map (item_bytes l.at) (all_option_items l.reference l.rest (drop l._name-index l.names)) ≡ l.fn.bytes.items ++ flat_map (item_bytes l.at) (all_option_items 5 l.seed l.names))
    × (l.reference ≡ 5 + l._name-index)
