-- Fields by their references.
use Rattle.std.proofs.Common.{◌≡◌, ℕ, Bool, true, false, List, [], ◌∷◌, drop, sym, ap, ◌∙◌}
use Rattle.std.specs.Prelude.{None, Some, slice_get}
use Rattle.vx_java.specs.Fields.{Found, declaring, get_from, in_own_initialiser, put_into, put_value, with_written}
use Rattle.vx_java.specs.FirstObjects.{narrowed_value}
use Rattle.vx_java.specs.Machine as machine
use Rattle.vx_java.specs.Machine.{Go, Here, Outcome, State, illegal, past, with_static}
use Rattle.vx_plain_fields.specs.Fields.{keeps}
use Rattle.vx_plain_here.proofs.Operands.{no_top, top, top_alone, top_two}

-- a store to a static field, by whether the field keeps its value
abbrev stored_by : Here → Found → machine.Value → Bool → State
stored_by h found v b = elim b as (λ _. State) [ true ↦ h.state | false ↦ with_static h.state found.field (narrowed_value found.type v) ]

pub keeps_value : (h : Here) (found : Found) (v : machine.Value) (rest : List machine.Value) → keeps h.program h.state.top.method found.field ≡ true → Go (past h h.state rest) ≡ Go (past h (with_written h found v) rest)
keeps_value h found v rest e = sym (ap (λ b. Go (past h (stored_by h found v b) rest)) e)

pub takes_value : (h : Here) (found : Found) (v : machine.Value) (rest : List machine.Value) → keeps h.program h.state.top.method found.field ≡ false
    → Go (past h (with_static h.state found.field (narrowed_value found.type v)) rest) ≡ Go (past h (with_written h found v) rest)
takes_value h found v rest e = sym (ap (λ b. Go (past h (stored_by h found v b) rest)) e)

-- ---- operands

pub get_none : (h : Here) (found : Found) (operands : List machine.Value) → None ≡ slice_get operands 0 → illegal h ≡ get_from h found operands
get_none h found operands none = ap (get_from h found) (sym (no_top operands none))

pub get_some : (h : Here) (found : Found) (operands : List machine.Value) (o : machine.Value) → Some o ≡ slice_get operands 0 → get_from h found (o ∷ drop 1 operands) ≡ get_from h found operands
get_some h found operands o there = ap (get_from h found) (sym (top operands o there))

pub put_none : (h : Here) (found : Found) (operands : List machine.Value) → None ≡ slice_get operands 0 → illegal h ≡ put_value h found operands
put_none h found operands none = ap (put_value h found) (sym (no_top operands none))

pub put_some : (h : Here) (found : Found) (operands : List machine.Value) (v : machine.Value) → Some v ≡ slice_get operands 0 → put_value h found (v ∷ drop 1 operands) ≡ put_value h found operands
put_some h found operands v there = ap (put_value h found) (sym (top operands v there))

pub into_none : (h : Here) (found : Found) (operands : List machine.Value) → None ≡ slice_get operands 0 → illegal h ≡ put_into h found operands
into_none h found operands none = ap (put_into h found) (sym (no_top operands none))

pub into_one : (h : Here) (found : Found) (operands : List machine.Value) (v : machine.Value) → Some v ≡ slice_get operands 0 → None ≡ slice_get operands 1 → illegal h ≡ put_into h found operands
into_one h found operands v there none = ap (put_into h found) (sym (top_alone operands v there none))

pub into_two : (h : Here) (found : Found) (operands : List machine.Value) (v o : machine.Value) → Some v ≡ slice_get operands 0 → Some o ≡ slice_get operands 1 → put_into h found (v ∷ o ∷ drop 2 operands) ≡ put_into h found operands
into_two h found operands v o there under = ap (put_into h found) (sym (top_two operands v o there under))
