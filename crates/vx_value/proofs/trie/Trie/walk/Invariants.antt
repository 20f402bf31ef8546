use Rattle.std.specs.Prelude.{◌++◌, take}
use Rattle.vx_value.specs.Texts.{Extends, IsNumber, text_at}
use Rattle.vx_value.specs.Trie.{paths}
use Rattle.vx_value.proofs.trie.Trie.walk.Given as goal

abbrev pub invariant-loop-index : goal.invariant-loop-index
invariant-loop-index l = IsNumber (paths l.self.steps.keys) l.node (text_at (paths l.fn.self.steps.keys) l.start ++ take l.index l.units) × Extends (paths l.fn.self.steps.keys) (paths l.self.steps.keys)
