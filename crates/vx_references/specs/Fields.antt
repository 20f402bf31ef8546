-- What a reference to a field comes to.
use Rattle.std.specs.Prelude.{◌≡◌, ℕ, Bool, true, false, codes, is_some, ◌&&◌}
use Rattle.vx_java.specs.Fields.{Found as FoundField, field_text, with_field}
use Rattle.vx_java.specs.Machine.{Here, Outcome, illegal, raise, unsupported}
use Rattle.vx_java.specs.Operation.{class_word, field_word, float_word}
use Rattle.vx_java.specs.Checks.{same_bool, sort_of}
use Rattle.vx_link.specs.Names.{Member, member}
use Rattle.vx_link.specs.Parts.{is_static_field}
use Rattle.vx_link.specs.declared.program.Program.{Program}
use Rattle.vx_pool.specs.declared.pool.Pool.{Pool}
use Rattle.vx_references.specs.declared.fields.FieldReference.{FieldReference}
use Rattle.vx_references.specs.declared.fields.FieldReference.TheVariants.{Found, NoType, Floating, NoClass, NoField, Disagrees}

-- what follows for a field that is there, and how all runs end or raise otherwise
abbrev pub by_reference : Here → Member → FieldReference → (FoundField → Outcome) → Outcome
by_reference h m (Found named field type) rest = rest (record { named = named.0; field = field.0; type = type })
by_reference h m NoType rest = illegal h
by_reference h m Floating rest = unsupported h float_word (codes "-")
by_reference h m NoClass rest = unsupported h class_word m.class
by_reference h m NoField rest = unsupported h field_word (field_text m)
by_reference h m Disagrees rest = raise h "java/lang/IncompatibleClassChangeError"

abbrev pub is_found : FieldReference → Bool
is_found (Found named field type) = true
is_found _ = false

-- all runs end
abbrev pub is_ending : FieldReference → Bool
is_ending (Found named field type) = false
is_ending Disagrees = false
is_ending _ = true

-- a field that is found is static or not, as it is wanted, and is no float or double
abbrev pub is_sound : Program → (static : Bool) → FieldReference → Bool
is_sound p static (Found named field type) = same_bool static (is_static_field p field.0) && is_some (sort_of type)
is_sound p static _ = true

-- an instruction that sees this program and this pool
abbrev pub seeing : Program → Pool → Here → Here
seeing p pool h = record h { program = p; pool = pool }

-- the row of an instruction of a field goes by the reference, in whichever state it stands
pub record IsFieldReference (p : Program) (pool : Pool) (i : ℕ) (static : Bool) (reference : FieldReference) : Type 0 where
  pub decides : (h : Here) (rest : FoundField → Outcome) → with_field (seeing p pool h) i static rest ≡ by_reference (seeing p pool h) (member pool i) reference rest
  pub sound : is_sound p static reference ≡ true
