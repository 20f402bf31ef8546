use Rattle.std.proofs.Common.{refl}
use Rattle.vx_words.specs.Lines.{words}
use Rattle.vx_dimacs.proofs.Marks.{marks_done}
use Rattle.vx_dimacs.proofs.draft.marks_of.Goals as goal

pub returns : goal.returns
returns c = marks_done c.args.variables c.loop-word.marks.items (words c.loop-word.rest.now) _ (c.in_default.ensures.none.0 refl) c.loop-word.invariant
