use Rattle.std.proofs.Common.{◌≡◌, ◌++◌, length}
use Rattle.std.specs.Vec.Iter.{into_iter_items, into_iter_len}
use Rattle.vx_link.specs.Linked.{linked_methods}
use Rattle.vx_linker.specs.Texts.{AreTexts}
use Rattle.vx_linker.proofs.methods.linked_methods.Given as goal

abbrev pub invariant-loop-method : goal.invariant-loop-method
invariant-loop-method l =
    AreTexts l.pool l.texts.known.items
    × (into_iter_len l.method-iterator ≡ length (into_iter_items l.method-iterator))
    × (l.linked.items ++ linked_methods l.class.0 l.pool (into_iter_items l.method-iterator) l.numbers ≡ linked_methods l.class.0 l.pool l.fn.methods.items l.fn.natives)
