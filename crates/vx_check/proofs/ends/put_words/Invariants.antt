use Rattle.std.proofs.Common.{◌≡◌, ◌++◌, take}
use Rattle.vx_check.specs.Ends.{behind_blanks}
use Rattle.vx_check.proofs.ends.put_words.Given as goal

abbrev pub invariant-loop-word : goal.invariant-loop-word
invariant-loop-word l = l.out.items ≡ l.initial.out.items ++ behind_blanks (take l.word-index l.words)
