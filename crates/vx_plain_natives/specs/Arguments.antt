-- The arguments of a call of a native method.
use Rattle.std.specs.Prelude.{List, None, Option, Some, if◌then◌else◌, ◌&&◌, ◌++◌}
use Rattle.vx_java.specs.Machine.{Here, Outcome, Value, illegal}
use Rattle.vx_java.specs.Natives.{are_wanted, as_read, native_of, room_for}
use Rattle.vx_link.specs.Signature.{signature}
use Rattle.vx_link.specs.declared.program.LinkedMethod.{LinkedMethod}

-- the receiver, where there is one, and the arguments as they are read, where these are of their classes and the result has room
abbrev pub read_by : Here → LinkedMethod → (receiver arguments rest : List Value) → Option (List Value)
read_by h m receiver arguments rest =
    let s = signature m.descriptor in
    if are_wanted h m.descriptor s.arguments arguments && room_for h s.result rest then Some (receiver ++ as_read s.arguments arguments) else None

-- what a native method does with what was read
abbrev pub if_read : Here → LinkedMethod → List Value → Option (List Value) → Outcome
if_read h m rest None = illegal h
if_read h m rest (Some values) = native_of m.native h values rest
