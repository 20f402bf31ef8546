-- The files and the model of the workload are lawful, and link.
use Rattle.std.specs.Prelude.{All, Ok, codes, ℕ, ◌≡◌}
use Rattle.vx_class.specs.File.{Holds}
use Rattle.vx_gen.specs.Workload.{names_of, work_files, work_model, work_program}
use Rattle.vx_link.specs.Linked.{linked_program}
use Rattle.vx_model.specs.Models.{HasOptionNames, IsModel}
use Rattle.vx_writer.specs.Written.{IsNamed}

-- of so many options
pub record IsLawfulWork (seed count : ℕ) : Type 0 where
  pub holds : All Holds (work_files seed (names_of count))
  pub named : All IsNamed (work_files seed (names_of count))
  pub model : IsModel (work_model (names_of count))
  pub names : HasOptionNames (work_model (names_of count))
  pub links : linked_program (work_files seed (names_of count)) (work_model (names_of count)).options (codes "Main") ≡ Ok (work_program seed (names_of count))

-- the law
abbrev pub WorkIsLawful : Type 0
WorkIsLawful = (seed count : ℕ) → IsLawfulWork seed count
