use Rattle.std.proofs.Common.{take}
use Rattle.std.specs.List.{AllZip}
use Rattle.vx_initial_heap.specs.Objects.{IsLiteralObject}
use Rattle.vx_value.specs.Texts.{Extends}
use Rattle.vx_initial_heap.proofs.objects.literal_objects.Given as goal

abbrev pub invariant-loop-literal : goal.invariant-loop-literal
invariant-loop-literal l = AllZip (IsLiteralObject l.classes l.texts.texts) (take l.literal-index l.listed) l.objects.items × Extends l.initial.texts.texts l.texts.texts
