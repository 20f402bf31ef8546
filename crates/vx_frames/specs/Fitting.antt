-- Arguments that fit the types of a descriptor (JVMS 2.6.1, 4.3.3).
use Rattle.std.specs.Prelude.{◌≡◌, ◌≤◌, ◌∷◌, ℕ, Bool, true, false, List, length, is_some, suc, sum_by, Option, Some}
use Rattle.vx_desc.specs.Descriptors.{slots_of}
use Rattle.vx_desc.specs.declared.java_type.JavaType.{JavaType}
use Rattle.vx_value.specs.declared.slot.Slot.{Slot}
use Rattle.vx_value.specs.Slot.{slot_cmp}
use Rattle.vx_space.specs.Sets.{Sets}
use Rattle.vx_cond.specs.Cond.{Conditional, IsCond}
use Rattle.vx_cond.specs.Row.{AreConds}
use Rattle.vx_cond.specs.Slots.{slot_at}
use Rattle.vx_heap.specs.Heap.{HeapView}
use Rattle.vx_java.specs.Calls.{values_matching}
use Rattle.vx_java.specs.Checks.{sort_of}
use Rattle.vx_java.specs.declared.operation.Sort.{Sort}
use Rattle.vx_java.specs.declared.operation.Sort.TheVariants.{Long as LongSort}
use Rattle.vx_frames.specs.Entering.{AreArguments, is_long, values_at}

-- values of one path that match these types at each configuration of it
pub record AreMatching {S I : Type 0} (sets : Sets I) (heap : HeapView S I) (path : I) (types : List JavaType) (values : List (Conditional Slot S I)) : Type 0 where
  pub conds : AreConds slot_cmp sets path values
  pub number : length values ≡ length types
  pub matching : (c : List Bool) → sets.test path c ≡ true → is_some (values_matching types (values_at sets heap values c)) ≡ true

-- a value of one path that is nowhere a long there
pub record IsReceiver {S I : Type 0} (sets : Sets I) (path : I) (receiver : Conditional Slot S I) : Type 0 where
  pub is_cond : IsCond slot_cmp sets receiver
  pub scope : receiver.scope ≡ path
  pub short : (c : List Bool) → sets.test path c ≡ true → is_long (slot_at sets receiver c) ≡ false

-- the type of a long
abbrev pub is_long_sort : Option Sort → Bool
is_long_sort (Some LongSort) = true
is_long_sort _ = false

abbrev pub is_long_type : JavaType → Bool
is_long_type t = is_long_sort (sort_of t)

-- values that match types begin a frame that has room for the types' argument slots, of a static method, and behind a receiver, of another
abbrev pub MatchingAreArguments : (S I : Type 0) → Type 0
MatchingAreArguments S I =
    (sets : Sets I) (heap : HeapView S I) (path : I) (types : List JavaType) (values : List (Conditional Slot S I)) (most : ℕ)
    → AreMatching sets heap path types values → sum_by slots_of types ≤ most → AreArguments sets path most values

abbrev pub WithReceiverAreArguments : (S I : Type 0) → Type 0
WithReceiverAreArguments S I =
    (sets : Sets I) (heap : HeapView S I) (path : I) (types : List JavaType) (receiver : Conditional Slot S I) (values : List (Conditional Slot S I)) (most : ℕ)
    → IsReceiver sets path receiver → AreMatching sets heap path types values → suc (sum_by slots_of types) ≤ most → AreArguments sets path most (receiver ∷ values)
