-- Parts of a plain state by their places.
use Rattle.std.proofs.Common.{◌≡◌, ℕ, zero, ◌+◌, ◌-◌, ◌<◌, ◌≤◌, List, [], ◌∷◌, ◌++◌, Option, Some, None, length, map, refl, reverse, suc, sym, ap, ◌∙◌, arith, add-one, drop, drop-cons, get_or}
use Rattle.std.specs.Prelude.{option_map, slice_get, slice_set, unwrap_or}
use Rattle.std.specs.List.{remove}
use Rattle.std.proofs.lemmas.List.{length-map, length-reverse, map-append, map-set, reverse-append, set_past}
use Rattle.std.proofs.lemmas.Option.{slice_get-get_or, slice_get-map}
use Rattle.vx_java.specs.Machine as machine
use Rattle.vx_java.specs.Machine.{Top as TopValue, no_object, with_inits}
use Rattle.vx_java.specs.Texts.{units_in}
use Rattle.vx_list.specs.Places.{item_or}
use Rattle.vx_value.specs.declared.ids.ClassId.{ClassId}
use Rattle.vx_value.specs.declared.slot.InitState.{InitState}
use Rattle.vx_plain.specs.Views.{frame_of, object_of, value_of, values_of}
use Rattle.vx_plain.specs.declared.frame.Frame.{Frame}
use Rattle.vx_plain.specs.declared.object.Object.{Object}
use Rattle.vx_plain.specs.declared.value.Value.{Value}
use Rattle.vx_plain.specs.declared.value.Value.TheVariants.{Int, Long, Null, Ref, Top}

-- a value is no text
pub no_units : (cells : List Value) → [] ≡ units_in (item_or (values_of cells) 0 TopValue)
no_units [] = refl
no_units (Top ∷ cells) = refl
no_units (Int n ∷ cells) = refl
no_units (Long n ∷ cells) = refl
no_units (Null ∷ cells) = refl
no_units (Ref r ∷ cells) = refl

-- a cell behind the first one
pub behind_first : (first : machine.Value) (cells : List machine.Value) (place : ℕ) → 0 < place → item_or cells (place - 1) TopValue ≡ item_or (first ∷ cells) place TopValue
behind_first first cells zero lt = absurd (omega (arith, lt))
behind_first first cells (suc n) lt = let same : suc n - 1 ≡ n = omega arith in ap (λ k. item_or cells k TopValue) same

pub set_behind : (first v : machine.Value) (cells : List machine.Value) (place : ℕ) → 0 < place → first ∷ slice_set cells (place - 1) v ≡ slice_set (first ∷ cells) place v
set_behind first v cells zero lt = absurd (omega (arith, lt))
set_behind first v cells (suc n) lt = let same : suc n - 1 ≡ n = omega arith in ap (λ k. first ∷ slice_set cells k v) same

-- the first cell, where there is one
pub first_set : (values : List Value) (t : machine.Value) → 0 < length values → t ∷ values_of (remove values 0) ≡ slice_set (values_of values) 0 t
first_set [] t some = absurd (omega (arith, some))
first_set (v ∷ values) t some = refl

pub frame_added : (callers : List Frame) (c : Frame) → reverse (map frame_of (callers ++ c ∷ [])) ≡ frame_of c ∷ reverse (map frame_of callers)
frame_added callers c = ap reverse (map-append frame_of callers (c ∷ [])) ∙ reverse-append (map frame_of callers) (frame_of c ∷ [])

pub no_frame : (callers : List Frame) → length callers ≡ 0 → reverse (map frame_of callers) ≡ []
no_frame [] none = refl
no_frame (f ∷ callers) none = absurd (omega (arith, none))

pub frame_count : (callers : List Frame) → suc (length (reverse (map frame_of callers))) ≡ length callers + 1
frame_count callers = omega (arith, length-reverse (map frame_of callers), length-map callers frame_of)

pub object_there : (heap : List Object) (r : ℕ) (o : Object) → slice_get heap r ≡ Some o → item_or (map object_of heap) r no_object ≡ object_of o
object_there heap r o is = ap (λ found. unwrap_or found no_object) (slice_get-map object_of heap r ∙ ap (option_map object_of) is)

pub object_missing : (heap : List Object) (r : ℕ) → slice_get heap r ≡ None → item_or (map object_of heap) r no_object ≡ no_object
object_missing heap r is = ap (λ found. unwrap_or found no_object) (slice_get-map object_of heap r ∙ ap (option_map object_of) is)

pub object_added : (heap : List Object) (o : Object) → map object_of (heap ++ o ∷ []) ≡ map object_of heap ++ object_of o ∷ []
object_added heap o = map-append object_of heap (o ∷ [])

-- an object that isn't there is not written
pub object_absent : (heap : List Object) (r : ℕ) (o : machine.Object) → length heap ≤ r → map object_of heap ≡ slice_set (map object_of heap) r o
object_absent heap r o le = sym (set_past (map object_of heap) r o (omega (arith, length-map heap object_of)))

-- an object that comes of the one that was there
pub object_written : (heap : List Object) (r : ℕ) (old new : Object) (change : List machine.Value → List machine.Value) → r < length heap → old ≡ get_or heap r old
    → object_of new ≡ record (object_of old) { cells = change (object_of old).cells }
    → map object_of (slice_set heap r new) ≡ slice_set (map object_of heap) r (record (item_or (map object_of heap) r no_object) { cells = change (item_or (map object_of heap) r no_object).cells })
object_written heap r old new change lt is made =
    let there = object_there heap r old (slice_get-get_or heap r old lt ∙ ap Some (sym is)) in
    map-set object_of heap r new ∙ ap (slice_set (map object_of heap) r) (made ∙ ap (λ (o : machine.Object). record o { cells = change o.cells }) (sym there))

pub value_there : (values : List Value) (r : ℕ) (v : Option Value) (d : Value) → slice_get values r ≡ v → value_of d ≡ TopValue → item_or (values_of values) r TopValue ≡ value_of (unwrap_or v d)
value_there values r None d is top = ap (λ found. unwrap_or found TopValue) (slice_get-map value_of values r ∙ ap (option_map value_of) is) ∙ sym top
value_there values r (Some v) d is top = ap (λ found. unwrap_or found TopValue) (slice_get-map value_of values r ∙ ap (option_map value_of) is)

pub value_set : (values : List Value) (i : ℕ) (v : Value) → values_of (slice_set values i v) ≡ slice_set (values_of values) i (value_of v)
value_set values i v = map-set value_of values i v

-- the first of the classes that are left is marked
pub marked : (s : machine.State) (state : InitState) (classes : List ClassId) (i : ℕ) (d : ClassId) → i < length classes
    → with_inits (with_inits s state ((get_or classes i d).0 ∷ [])) state (map (λ c. c.0) (drop (i + 1) classes)) ≡ with_inits s state (map (λ c. c.0) (drop i classes))
marked s state classes i d lt = rw add-one (sym (ap (λ cs. with_inits s state (map (λ c. c.0) cs)) (drop-cons classes i d lt)))
