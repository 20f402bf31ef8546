-- Fields (JVMS 6.5 getstatic, putstatic, getfield, putfield).
use Rattle.std.specs.Prelude.{Bool, List, None, Option, Some, [], codes, false, is_some, true, ℕ, ◌&&◌, ◌++◌, ◌==◌, ◌∷◌}
use Rattle.vx_desc.specs.Descriptors.{field_type}
use Rattle.vx_desc.specs.Names.{is_clinit}
use Rattle.vx_desc.specs.declared.java_type.JavaType.{JavaType}
use Rattle.vx_java.specs.Checks.{fits_type, is_instance_of, non_null, same_bool, sort_of, width_of_type, with_class}
use Rattle.vx_java.specs.FirstObjects.{narrowed_value}
use Rattle.vx_java.specs.Initialisation.{when_initialised}
use Rattle.vx_java.specs.Machine.{Go, Here, Outcome, State, Top, Value, cell_at, current_class, go, has_room, illegal, past, raise, unsupported, when, with_cell, with_static}
use Rattle.vx_java.specs.Operation.{field_word, float_word}
use Rattle.vx_java.specs.declared.operation.Sort.{Sort}
use Rattle.vx_link.specs.Names.{Member, member}
use Rattle.vx_link.specs.Parts.{field_at, is_static_field, method_at}
use Rattle.vx_link.specs.Resolution.{resolve_field}
use Rattle.vx_list.specs.Places.{item_or}

-- ---- what the instruction and the program decide: a float or a double, the class, the field, static against instance

-- the class that the instruction names, its field, and the field's type
pub record Found : Type 0 where
  pub named : ℕ
  pub field : ℕ
  pub type : JavaType

abbrev pub field_text : Member → List ℕ
field_text m = m.class ++ (codes "." ++ (m.name ++ (codes ":" ++ m.descriptor)))

abbrev pub if_agreeing : Here → Bool → Found → (Found → Outcome) → Outcome
if_agreeing h true found rest = rest found
if_agreeing h false found rest = raise h "java/lang/IncompatibleClassChangeError"

abbrev pub if_field : Here → Member → (static : Bool) → JavaType → (named : ℕ) → Option ℕ → (Found → Outcome) → Outcome
if_field h m static t named None rest = unsupported h field_word (field_text m)
if_field h m static t named (Some f) rest =
    if_agreeing h (same_bool static (is_static_field h.program f)) (record { named = named; field = f; type = t }) rest

abbrev pub if_sort : Here → Option Sort → Outcome → Outcome
if_sort h None rest = unsupported h float_word (codes "-")
if_sort h (Some sort) rest = rest

abbrev pub if_type : Here → Member → (static : Bool) → Option JavaType → (Found → Outcome) → Outcome
if_type h m static None rest = illegal h
if_type h m static (Some t) rest =
    if_sort h (sort_of t)
    (with_class h m.class (λ named. if_field h m static t named (resolve_field h.program named m.name m.descriptor) rest))

abbrev pub with_field : Here → ℕ → (static : Bool) → (Found → Outcome) → Outcome
with_field h i static rest = let m = member h.pool i in if_type h m static (field_type m.descriptor) rest

-- ---- static fields

abbrev pub declaring : Here → Found → ℕ
declaring h found = (field_at h.program found.field).class.0

abbrev pub static_value : State → Found → Value
static_value s found = item_or s.statics found.field Top

-- getstatic: room for the value stands before initialisation
abbrev pub get_static : Here → ℕ → Outcome
get_static h i =
    with_field h i true (λ found.
    when (has_room h (width_of_type found.type) h.state.top.operands)
    (when_initialised h (declaring h found) (λ g. go g (static_value g.state found ∷ g.state.top.operands)))
    (illegal h))

-- a frame of the <clinit> of a class stands on top
abbrev pub in_own_initialiser : Here → ℕ → Bool
in_own_initialiser h c = is_clinit (method_at h.program h.state.top.method).name && (current_class h.program h.state == c)

-- a store to a static field; an option keeps its value where the <clinit> of its own class writes it
abbrev pub with_written : Here → Found → Value → State
with_written h found v =
    elim (is_some (field_at h.program found.field).option && in_own_initialiser h (declaring h found))
    [ true ↦ h.state | false ↦ with_static h.state found.field (narrowed_value found.type v) ]

abbrev pub put_value : Here → Found → List Value → Outcome
put_value h found [] = illegal h
put_value h found (v ∷ rest) =
    when (fits_type found.type v)
    (when_initialised h (declaring h found) (λ g. Go (past g (with_written g found v) rest)))
    (illegal h)

-- putstatic
abbrev pub put_static : Here → ℕ → Outcome
put_static h i = with_field h i true (λ found. put_value h found h.state.top.operands)

-- ---- instance fields, of an object of the named class

abbrev pub cell_of : Here → Found → ℕ
cell_of h found = (field_at h.program found.field).cell

abbrev pub get_from : Here → Found → List Value → Outcome
get_from h found [] = illegal h
get_from h found (o ∷ rest) =
    when (is_instance_of h found.named o && has_room h (width_of_type found.type) rest)
    (non_null h o (λ r. go h (cell_at h.state r (cell_of h found) ∷ rest)))
    (illegal h)

-- getfield
abbrev pub get_field : Here → ℕ → Outcome
get_field h i = with_field h i false (λ found. get_from h found h.state.top.operands)

abbrev pub put_into : Here → Found → List Value → Outcome
put_into h found (v ∷ o ∷ rest) =
    when (fits_type found.type v && is_instance_of h found.named o)
    (non_null h o (λ r. Go (past h (with_cell h.state r (cell_of h found) (narrowed_value found.type v)) rest)))
    (illegal h)
put_into h found _ = illegal h

-- putfield
abbrev pub put_field : Here → ℕ → Outcome
put_field h i = with_field h i false (λ found. put_into h found h.state.top.operands)
