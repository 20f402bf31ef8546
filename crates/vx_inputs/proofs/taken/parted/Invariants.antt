use Rattle.std.proofs.Common.{◌≡◌, ◌++◌, length, map}
use Rattle.std.specs.Vec.Iter.{into_iter_items, into_iter_len}
use Rattle.vx_inputs.proofs.taken.parted.Given as goal

-- what is parted so far
abbrev pub invariant-loop-traced : goal.invariant-loop-traced
invariant-loop-traced l = record {
  left : l.yielded ++ into_iter_items l.traced-iterator ≡ into_iter_items l.initial.traced-iterator;
  whole : into_iter_len l.traced-iterator ≡ length (into_iter_items l.traced-iterator);
  classes : l.classes.items ≡ map (λ t. t.class) l.yielded;
  tables : l.tables.items ≡ map (λ t. t.lines) l.yielded;
  files : l.files.items ≡ map (λ t. t.file) l.yielded;
}
