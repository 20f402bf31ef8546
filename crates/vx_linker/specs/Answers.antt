-- How what linking returns is what the definitions say.
use Rattle.std.specs.Prelude.{Err, None, Ok, Option, Result, Some, ◌≡◌}
use Rattle.vx_list.specs.Answers as answers
use Rattle.vx_link.specs.declared.fault.LinkFault.{LinkFault}
use Rattle.vx_link.specs.declared.fault.LinkFault.TheVariants.{NoMemory}

-- the fault, or none where memory ran out
abbrev pub fault_seen : LinkFault → Option LinkFault
fault_seen NoMemory = None
fault_seen fault = Some fault

-- this is the first fault, unless memory ran out
abbrev pub Fails : {A : Type 0} → LinkFault → Result A LinkFault → Type 0
Fails fault answer = answers.Fails (fault_seen fault) answer

-- what was linked is the program of the definition, or the fault is the first one
abbrev pub Answers : {A : Type 0} → Result A LinkFault → Result A LinkFault → Type 0
Answers result answer = answers.Answers fault_seen result answer

-- a class or option of this fault is the first one, unless memory ran out
abbrev pub IsFault : LinkFault → Option LinkFault → Type 0
IsFault NoMemory found = Unit {0}
IsFault fault found = found ≡ Some fault

-- there is no fault, or the fault is the first one
abbrev pub Judges : {A : Type 0} → Result A LinkFault → Option LinkFault → Type 0
Judges (Ok x) found = found ≡ None
Judges (Err fault) found = IsFault fault found
