-- Rows of a method's instructions that were made before, each with the operation that it is of.
use Rattle.std.specs.List.{All}
use Rattle.std.specs.Prelude.{List, if◌then◌else◌, ℕ, ◌==◌, ◌≡◌}
use Rattle.vx_java.specs.declared.operation.Mode.TheVariants as mode
use Rattle.vx_java.specs.declared.operation.Operation.{Operation}
use Rattle.vx_java.specs.declared.operation.Operation.TheVariants.{CheckCast, GetField, GetStatic, InstanceOf, Invoke, New, NewReferences, PutField, PutStatic}
use Rattle.vx_link.specs.declared.program.Program.{Program}
use Rattle.vx_types.specs.Rows.{row_of}
use Rattle.vx_verify.specs.declared.known_rows.KnownRow.{KnownRow}
use Rattle.vx_verify.specs.declared.known_rows.Naming.{Naming}

-- the operation of a kind that names an entry
abbrev pub operation_of : Naming → Operation
operation_of n =
    if n.kind == 0 then GetStatic n.entry
    else if n.kind == 1 then PutStatic n.entry
    else if n.kind == 2 then GetField n.entry
    else if n.kind == 3 then PutField n.entry
    else if n.kind == 4 then Invoke mode.Virtual n.entry
    else if n.kind == 5 then Invoke mode.Special n.entry
    else if n.kind == 6 then Invoke mode.Static n.entry
    else if n.kind == 7 then Invoke mode.Interface n.entry
    else if n.kind == 8 then New n.entry
    else if n.kind == 9 then NewReferences n.entry
    else if n.kind == 10 then CheckCast n.entry
    else InstanceOf n.entry

abbrev pub IsKnown : Program → (method : ℕ) → KnownRow → Type 0
IsKnown p method known = known.row ≡ row_of p method (operation_of known.naming)

abbrev pub AreKnown : Program → (method : ℕ) → List KnownRow → Type 0
AreKnown p method rows = All (IsKnown p method) rows
