-- Frames of classes of a chain that wait, one above the other.
use Rattle.std.specs.Prelude.{List, [], ℕ, ◌∷◌, map}
use Rattle.vx_java.specs.Initialisation.{init_frame}
use Rattle.vx_java.specs.Machine.{State}
use Rattle.vx_link.specs.declared.program.Program.{Program}
use Rattle.vx_plain.specs.Frames.{with_frame}
use Rattle.vx_value.specs.declared.ids.ClassId.{ClassId}
use Rattle.vx_value.specs.declared.key.Kind.TheVariants.{Init, Wait}

-- the numbers of classes
abbrev pub numbers_of : List ClassId → List ℕ
numbers_of classes = map (λ c. c.0) classes

-- frames that wait above a state, that of the last class on top
abbrev pub waiting : Program → State → List ℕ → State
waiting p s [] = s
waiting p s (c ∷ above) = waiting p (with_frame s (init_frame p Wait c)) above

-- the frame on top initialises
abbrev pub roused : State → State
roused s = record s { top = record (s.top) { kind = Init } }
