-- The four instructions of fields, as the code goes about them.
use Rattle.std.specs.Prelude.{Bool, None, Option, Some, [], false, true, ℕ, ◌∷◌}
use Rattle.vx_desc.specs.declared.java_type.JavaType.{JavaType}
use Rattle.vx_java.specs.Checks.{same_bool}
use Rattle.vx_link.specs.ClassNames.{class_named}
use Rattle.vx_link.specs.Names.{Member, member}
use Rattle.vx_link.specs.Parts.{is_static_field}
use Rattle.vx_link.specs.Resolution.{resolve_field}
use Rattle.vx_link.specs.declared.program.Program.{Program}
use Rattle.vx_types.specs.Plain.{computes, gives, takes}
use Rattle.vx_types.specs.Types.{type_of}
use Rattle.vx_types.specs.Rows.{holder, if_accepted, if_field, pool_of, with_class, with_field}
use Rattle.vx_type_rows.specs.declared.fields.Access.{Access}
use Rattle.vx_type_rows.specs.declared.fields.Access.TheVariants.{GetField, GetStatic, PutField, PutStatic}
use Rattle.vx_types.specs.declared.types.Row.{Row}
use Rattle.vx_types.specs.declared.types.VerType.{VerType}
use Rattle.vx_types.specs.declared.types.Want.TheVariants.{Fits}

abbrev pub is_static : Access → Bool
is_static GetStatic = true
is_static PutStatic = true
is_static _ = false

abbrev pub access_row : Program → Access → Member → VerType → Row
access_row p GetStatic m t = gives t
access_row p PutStatic m t = takes (Fits t ∷ [])
access_row p GetField m t = computes (holder p m ∷ []) t
access_row p PutField m t = takes (Fits t ∷ holder p m ∷ [])

abbrev pub field_row : Program → (method : ℕ) → Access → ℕ → Row
field_row p at access i = let m = member (pool_of p at) i in with_field p m (is_static access) (access_row p access m)

-- a field is there, and static or not as it is wanted
abbrev pub field_agrees : Program → (static : Bool) → Option ℕ → Bool
field_agrees p static None = false
field_agrees p static (Some f) = same_bool static (is_static_field p f)

abbrev pub class_has_field : Program → (static : Bool) → Member → Option ℕ → Bool
class_has_field p static m None = false
class_has_field p static m (Some named) = field_agrees p static (resolve_field p named m.name m.descriptor)

abbrev pub is_accessed : Program → (static : Bool) → Member → Bool
is_accessed p static m = class_has_field p static m (class_named p m.class)

-- what an instruction with a field of an accepted type needs and gives
abbrev pub accepted_row : Program → Access → Member → VerType → Row
accepted_row p access m t = with_class p m.class (λ named. if_field p (is_static access) (resolve_field p named m.name m.descriptor) (access_row p access m t))

-- what an instruction with a field of a type of a descriptor needs and gives
abbrev pub typed_row : Program → Access → Member → JavaType → Row
typed_row p access m t = if_accepted p m (is_static access) (type_of p m.descriptor t) (access_row p access m)
