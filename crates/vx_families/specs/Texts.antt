-- A heap to whose table texts were added (own).
use Rattle.std.specs.Prelude.{◌≡◌}
use Rattle.vx_heap.specs.Heap.{HeapView}
use Rattle.vx_value.specs.Texts.{Extends as TextsExtend}

-- the later heap has more texts, and else is the same
pub record HasMoreTexts {S I : Type 0} (before after : HeapView S I) : Type 0 where
  pub same : after ≡ record before { texts = after.texts }
  pub earlier : TextsExtend before.texts after.texts
