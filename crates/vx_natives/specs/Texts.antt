-- Texts in the cells of strings and builders.
use Rattle.std.specs.Prelude.{ℕ, List, []}
use Rattle.vx_value.specs.Texts.{text_at}
use Rattle.vx_value.specs.declared.slot.Slot.{Slot}
use Rattle.vx_value.specs.declared.slot.Slot.TheVariants.{Text}

-- the units of the text in a cell
abbrev pub units_of : (texts : List (List ℕ)) → Slot → List ℕ
units_of texts (Text n) = text_at texts n
units_of texts _ = []
