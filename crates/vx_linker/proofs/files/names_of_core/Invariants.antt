use Rattle.std.proofs.Common.{◌≡◌, fold, take, []}
use Rattle.vx_names.specs.Names.{with_name}
use Rattle.vx_link.specs.Tables.{names_of}
use Rattle.vx_linker.proofs.files.names_of_core.Given as goal

abbrev pub invariant-loop-class : goal.invariant-loop-class
invariant-loop-class l = l.names ≡ fold with_name [] (names_of (take l.class-index l.core))
