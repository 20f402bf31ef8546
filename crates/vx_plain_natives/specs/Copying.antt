-- What arraycopy asks of arrays and makes of them.
use Rattle.std.specs.List.{take_while}
use Rattle.std.specs.Prelude.{Bool, List, not, if◌then◌else◌, ℕ, ℤ, ◌&&◌}
use Rattle.vx_java.specs.Library.{copy_within, fits_component, like_kinds, within_array}
use Rattle.vx_java.specs.Machine.{Here, Outcome, Value, go, object_at, raise, when}
use Rattle.vx_link.specs.ClassNames.{component_of, has_reference_components}

-- the first values, up to one that does not fit in an array of a class
abbrev pub fitting : Here → (class : ℕ) → List Value → List Value
fitting h class values = if has_reference_components h.program class then take_while (fits_component h (component_of h.program class)) values else values

abbrev pub copied : Here → List Value → Bool → Outcome
copied h rest is_whole = when is_whole (go h rest) (raise h "java/lang/ArrayStoreException")

-- two objects, of which the first is copied to the second
abbrev pub copy_elements : Here → List Value → (from : ℕ) → (i : ℤ) → (to : ℕ) → (j count : ℤ) → Outcome
copy_elements h rest from i to j count =
    when (not (like_kinds h (object_at h.state from) (object_at h.state to))) (raise h "java/lang/ArrayStoreException")
    (when (within_array i count (object_at h.state from).size && within_array j count (object_at h.state to).size)
    (copy_within h rest from i to j count)
    (raise h "java/lang/ArrayIndexOutOfBoundsException"))
