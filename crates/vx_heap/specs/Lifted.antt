-- What every run begins with, in the configurations that run.
use Rattle.std.specs.Prelude.{◌≡◌, Bool, List, None, Option, Some, [], if◌then◌else◌, map, pos, ℕ, ◌∷◌}
use Rattle.std.specs.List.{AllZip, list_all}
use Rattle.std.specs.declared.cmp.Ordering.{Ordering}
use Rattle.vx_value.specs.declared.slot.Slot.{Slot}
use Rattle.vx_value.specs.declared.slot.Slot.TheVariants.{Int}
use Rattle.vx_value.specs.Slot.{slot_cmp}
use Rattle.vx_space.specs.Config.{value_of}
use Rattle.vx_space.specs.Sets.{Sets}
use Rattle.vx_cond.specs.Cond.{Conditional, IsCond, cond_at}
use Rattle.vx_initial_heap.specs.declared.objects.FirstObject.{FirstObject}
use Rattle.vx_initial_heap.specs.declared.statics.FirstStatic.{FirstStatic}
use Rattle.vx_initial_heap.specs.declared.statics.FirstStatic.TheVariants.{OfOption, Same}
use Rattle.vx_heap.specs.declared.cell_list.Cell.TheVariants.{Plain}
use Rattle.vx_heap.specs.declared.object.HeapObject.{HeapObject}
use Rattle.vx_heap.specs.Heap.{has_option}

-- a conditional value that has, at each configuration of the scope, the value there
pub record IsThroughout {T S I : Type 0} (cmp : T → T → Ordering) (sets : Sets I) (scope : I) (value : List Bool → T) (cond : Conditional T S I) : Type 0 where
  pub is_cond : IsCond cmp sets cond
  pub scope_is : cond.scope ≡ scope
  pub at : (c : List Bool) → cond_at sets cond c ≡ (if sets.test scope c then Some (value c) else None)

-- one with the same value everywhere, and a list of such
abbrev pub IsSame : {T S I : Type 0} → (T → T → Ordering) → Sets I → I → T → Conditional T S I → Type 0
IsSame cmp sets scope value cond = IsThroughout cmp sets scope (λ c. value) cond

abbrev pub AreSame : {T S I : Type 0} → (T → T → Ordering) → Sets I → I → List T → List (Conditional T S I) → Type 0
AreSame cmp sets scope values conds = AllZip (IsSame cmp sets scope) values conds

-- ---- objects

abbrev pub slots_of : Option Slot → List Slot
slots_of None = []
slots_of (Some slot) = slot ∷ []

-- a first object that is there in the scope, with its cell the same everywhere
pub record IsLifted {S I : Type 0} (scope : I) (o : FirstObject) (object : HeapObject S I) : Type 0 where
  pub class_is : object.class ≡ o.class
  pub length_is : object.length ≡ 0
  pub presence_is : object.presence ≡ scope
  pub cells_are : object.cells ≡ map Plain (slots_of o.cell)

abbrev pub AreLifted : {S I : Type 0} → I → List FirstObject → List (HeapObject S I) → Type 0
AreLifted scope os objects = AllZip (IsLifted scope) os objects

-- ---- statics

abbrev pub option_of : FirstStatic → Option ℕ
option_of (Same slot) = None
option_of (OfOption option) = Some option

abbrev pub option_slot : ℕ → List Bool → Slot
option_slot option c = Int (if value_of c option then pos 1 else pos 0)

abbrev pub static_slot : FirstStatic → List Bool → Slot
static_slot (Same slot) c = slot
static_slot (OfOption option) c = option_slot option c

abbrev pub IsStatic : {S I : Type 0} → Sets I → I → FirstStatic → Conditional Slot S I → Type 0
IsStatic sets scope static cond = IsThroughout slot_cmp sets scope (static_slot static) cond

abbrev pub AreStatics : {S I : Type 0} → Sets I → I → List FirstStatic → List (Conditional Slot S I) → Type 0
AreStatics sets scope statics conds = AllZip (IsStatic sets scope) statics conds

-- the options are those of the space
abbrev pub options_known : ℕ → List FirstStatic → Bool
options_known options statics = list_all (λ s. has_option options (option_of s)) statics
