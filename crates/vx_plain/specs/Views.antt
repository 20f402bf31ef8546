-- What the plain types stand for: a state of the ordinary machine.
use Rattle.std.specs.Global.{Vec}
use Rattle.std.specs.Prelude.{List, None, Option, Some, map, option_map, reverse, ℕ, ◌∷◌}
use Rattle.vx_java.specs.Machine as machine
use Rattle.vx_java.specs.Machine.{Int as IntValue, Long as LongValue, Null as NullValue, Ref as RefValue, Text as TextValue, Top as TopValue}
use Rattle.vx_plain.specs.declared.frame.Frame.{Frame}
use Rattle.vx_plain.specs.declared.object.Body.{Body}
use Rattle.vx_plain.specs.declared.object.Object.{Object}
use Rattle.vx_plain.specs.declared.state.State.{State}
use Rattle.vx_plain.specs.declared.value.Value.{Value}
use Rattle.vx_plain.specs.declared.value.Value.TheVariants.{Int, Long, Null, Ref, Top}

abbrev pub value_of : Value → machine.Value
value_of Top = TopValue
value_of (Int n) = IntValue n
value_of (Long n) = LongValue n
value_of Null = NullValue
value_of (Ref object) = RefValue object

abbrev pub values_of : List Value → List machine.Value
values_of values = map value_of values

abbrev pub units_of : Option (Vec ℕ) → Option (List ℕ)
units_of text = option_map (λ units. units.items) text

-- a text stands in the first cell
abbrev pub behind_text : Option (List ℕ) → List machine.Value → List machine.Value
behind_text None cells = cells
behind_text (Some units) cells = TextValue units ∷ cells

abbrev pub cells_of : Body → List machine.Value
cells_of b = behind_text (units_of b.text) (values_of b.values.items)

abbrev pub object_of : Object → machine.Object
object_of o = record { class = o.class.0; size = o.size; cells = cells_of o.body }

-- the operand on top is the last one
abbrev pub frame_of : Frame → machine.Frame
frame_of f =
    record {
      kind = f.kind;
      method = f.method.0;
      position = f.position;
      locals = values_of f.locals.items;
      operands = reverse (values_of f.operands.items);
    }

-- the nearest caller is the last one
unfoldable pub state_of : State → machine.State
state_of s =
    record {
      heap = map object_of s.heap.items;
      statics = values_of s.statics.items;
      inits = s.inits.items;
      top = frame_of s.top;
      callers = reverse (map frame_of s.callers.items);
    }
