-- The codes and the names of the statuses.
use Rattle.std.specs.Prelude.{List, codes, ℕ}
use Rattle.vx_plans.specs.declared.status.Status.{Status}
use Rattle.vx_plans.specs.declared.status.Status.TheVariants.{Done, NoMemory, Usage, ReadFault, WriteFault, BadModel, NoConfiguration, BadClass, BadLink, BadReport, NotAllowed, BadSource, TooLarge, Unlike, NotJoinable, Failing, Differing, BadExpected}

abbrev pub code_of : Status → ℕ
code_of Done = 0
code_of NoMemory = 1
code_of Usage = 2
code_of (ReadFault path) = 3
code_of WriteFault = 4
code_of (BadModel line reason) = 5
code_of NoConfiguration = 6
code_of (BadClass path at reason) = 7
code_of (BadLink fault) = 8
code_of (BadReport line) = 10
code_of NotAllowed = 11
code_of (BadSource line reason) = 12
code_of (TooLarge path room) = 13
code_of Unlike = 14
code_of NotJoinable = 18
code_of Failing = 15
code_of Differing = 16
code_of (BadExpected line reason) = 17

abbrev pub name_of : Status → List ℕ
name_of Done = codes "done"
name_of NoMemory = codes "no memory"
name_of Usage = codes "usage"
name_of (ReadFault path) = codes "read fault"
name_of WriteFault = codes "write fault"
name_of (BadModel line reason) = codes "bad model"
name_of NoConfiguration = codes "no configuration"
name_of (BadClass path at reason) = codes "bad class"
name_of (BadLink fault) = codes "bad link"
name_of (BadReport line) = codes "bad report"
name_of NotAllowed = codes "not allowed"
name_of (BadSource line reason) = codes "bad source"
name_of (TooLarge path room) = codes "too large"
name_of Unlike = codes "unlike"
name_of NotJoinable = codes "not joinable"
name_of Failing = codes "failing"
name_of Differing = codes "differing"
name_of (BadExpected line reason) = codes "bad expected"
