-- The plan of `asm`: the order of its questions and of its refusals.
use Rattle.std.specs.Prelude.{ℕ, List, Ok, Err}
use Rattle.std.specs.declared.result.Result.{Result}
use Rattle.vx_asm.specs.Source.{Fault, named}
use Rattle.vx_class.specs.declared.class_file.ClassFile.{ClassFile}
use Rattle.vx_writer.specs.Written.{spelling}
use Rattle.vx_plans.specs.declared.status.Status.{Status}
use Rattle.vx_plans.specs.declared.status.Status.TheVariants.{BadSource}
use Rattle.vx_plans.specs.Job.{Exactly}
use Rattle.vx_plans.specs.Plan.{Plan, Write, attempt}
use Rattle.vx_plans.specs.Sized.{most_bytes, read_sized}

abbrev pub or_bad_source : Result ClassFile Fault → Result (List ℕ) Status
or_bad_source (Ok class) = Ok (spelling class)
or_bad_source (Err fault) = Err (BadSource fault.line fault.reason)

-- the class file of the class that a source names, in its one spelling, or the refusal
abbrev pub assembled : List ℕ → Result (List ℕ) Status
assembled bytes = or_bad_source (named bytes)

-- the plan of `asm`
abbrev pub asm_plan : List ℕ → Plan
asm_plan source = read_sized most_bytes source source (λ bytes. attempt (assembled bytes) (λ text. Write (Exactly text)))
