use Rattle.std.proofs.Common.{◌≡◌, take, drop, []}
use Rattle.vx_link.specs.Tables.{names_of, twice_among}
use Rattle.vx_linker.proofs.files.names_of_folder.Given as goal

abbrev pub invariant-loop-class : goal.invariant-loop-class
invariant-loop-class l = record {
  so_far : l.names ≡ names_of (take l.class-index l.classes);
  rest : twice_among l.core [] l.classes ≡ twice_among l.core l.names (drop l.class-index l.classes);
}
