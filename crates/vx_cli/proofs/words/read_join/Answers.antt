use Rattle.std.proofs.Common.{arith, map, refl, string_bytes}
use Rattle.std.proofs.lemmas.List.{length-map}
use Rattle.vx_cli.proofs.Spellings.{no_join}
use Rattle.vx_cli.proofs.words.read_join.Goals as goal

pub returns-then-words-lt2 : goal.returns-then-words-lt2
returns-then-words-lt2 c = no_join (map string_bytes c.args.words.now) (omega (arith, length-map c.args.words.now string_bytes, c.if-words-lt2.true))

pub returns : goal.returns
returns c = record { spelled = refl; in_range = omega (arith, length-map c.args.words.now string_bytes, c.if-words-lt2.false) }
