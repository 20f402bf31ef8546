-- How the values of the native methods of the core classes are read, by their numbers.
use Rattle.std.specs.Prelude.{◌≡◌, ℕ, Bool, true, List, None, Option, Some, [], if◌then◌else◌, length, map, nat_lt, slice_get, suc, unwrap_or, zero, ◌&&◌, ◌++◌, ◌∷◌}
use Rattle.vx_java.specs.FirstObjects.{narrow_of_type}
use Rattle.vx_java.specs.NativeForms.{has_form}
use Rattle.vx_java.specs.Natives.{native_of}
use Rattle.vx_link.specs.Parts.{method_at}
use Rattle.vx_link.specs.Signature.{signature}
use Rattle.vx_link.specs.declared.program.Program.{Program}
use Rattle.vx_value.specs.declared.operation.Narrow.{Narrow}
use Rattle.vx_value.specs.declared.operation.Narrow.TheVariants.{Bool as BoolOf, Char}
use Rattle.vx_natives.specs.Behaviours.{meaning}
use Rattle.vx_natives.specs.Takes.{takes, wants_read}
use Rattle.vx_natives.specs.declared.behaviour.Behaviour.{Behaviour}

-- ---- values

-- how each value of a call is read, the receiver first: what it is narrowed to
abbrev pub reads_of : (static : Bool) → (descriptor : List ℕ) → List (Option Narrow)
reads_of static descriptor = (if static then [] else None ∷ []) ++ map narrow_of_type (signature descriptor).arguments

-- of those numbers
abbrev pub reads : List (List (Option Narrow))
reads =
    let one = None ∷ [] in
    let two = None ∷ None ∷ [] in
    let three = None ∷ None ∷ None ∷ [] in
    let bool = Some BoolOf ∷ [] in
    let char = Some Char ∷ [] in
    let bool_of = None ∷ Some BoolOf ∷ [] in
    let char_of = None ∷ Some Char ∷ [] in
    one ∷ two  -- 1, 2: Object
    ∷ one ∷ two ∷ two  -- 3 to 5: String <init>
    ∷ one ∷ one ∷ two ∷ one ∷ two  -- 6 to 10: length to equals
    ∷ two ∷ two ∷ two ∷ three  -- 11 to 14: compareTo to substring
    ∷ two ∷ two ∷ two ∷ two ∷ one ∷ one  -- 15 to 20: indexOf to toString
    ∷ one ∷ one ∷ bool ∷ char ∷ one  -- 21 to 25: valueOf
    ∷ one ∷ two ∷ two  -- 26 to 28: StringBuilder <init>
    ∷ two ∷ two ∷ bool_of ∷ char_of ∷ two  -- 29 to 33: append
    ∷ one ∷ two ∷ two ∷ two ∷ one ∷ one ∷ one  -- 34 to 40: length to toString, desiredAssertionStatus
    ∷ bool_of ∷ char_of ∷ two ∷ two ∷ two ∷ two  -- 41 to 46: print
    ∷ bool_of ∷ char_of ∷ two ∷ two ∷ two ∷ two  -- 47 to 52: println
    ∷ one ∷ one  -- 53, 54: println, flush
    ∷ (None ∷ None ∷ None ∷ None ∷ None ∷ []) ∷ one ∷ [] ∷ one  -- 55 to 58: System, Number
    ∷ one ∷ one ∷ one ∷ two  -- 59 to 62: Integer, static
    ∷ one ∷ one ∷ one ∷ two ∷ one ∷ two  -- 63 to 68: Integer
    ∷ bool ∷ one ∷ one ∷ two ∷ two  -- 69 to 73: Boolean
    ∷ one ∷ one ∷ two ∷ two ∷ two ∷ two  -- 74 to 79: Math
    ∷ three ∷ one ∷ one ∷ one ∷ two ∷ two  -- 80 to 85: Enum
    ∷ one ∷ two ∷ three ∷ one ∷ one ∷ one ∷ two  -- 86 to 92: Throwable
    ∷ []

abbrev pub reads_at : ℕ → List (Option Narrow)
reads_at zero = []
reads_at (suc n) = unwrap_or (slice_get reads n) []

-- ---- behaviours

-- there is a native method of the number
abbrev pub is_numbered : ℕ → Bool
is_numbered n = nat_lt 0 n && nat_lt n 93

-- a method of a program does this: there is a native method of its number, of which it has the form, and for which this stands
pub record HasBehaviour (p : Program) (m : ℕ) (behaviour : Behaviour) : Type 0 where
  pub numbered : is_numbered (method_at p m).native ≡ true
  pub form : has_form (method_at p m) ≡ true
  pub row : meaning behaviour ≡ native_of (method_at p m).native
  pub count : takes behaviour (length (reads_at (method_at p m).native)) ≡ true
  pub reads : wants_read behaviour (reads_at (method_at p m).native) ≡ true
