-- What is assembled is a class.
use Rattle.std.specs.Prelude.{◌≡◌, ℕ, List, Ok}
use Rattle.vx_asm.specs.Source.{named}
use Rattle.vx_class.specs.Class.{class_of}
use Rattle.vx_class.specs.File.{Holds}
use Rattle.vx_class.specs.declared.class_file.ClassFile.{ClassFile}
use Rattle.vx_writer.specs.Written.{IsNamed, spelling}

-- a class meets every check of the reader, its pool has the names of its attributes, and its one spelling is read as it
pub record IsReadBack (c : ClassFile) : Type 0 where
  pub holds : Holds c
  pub named : IsNamed c
  pub read : class_of (spelling c) ≡ Ok c

-- the law
abbrev pub AssembledAreClasses : Type 0
AssembledAreClasses = (bytes : List ℕ) (c : ClassFile) → named bytes ≡ Ok c → IsReadBack c
