use Rattle.vx_strings.proofs.Texts.{numbers_tell}
use Rattle.vx_strings.proofs.questions.same_numbers.Goals as goal

pub returns : goal.returns
returns c = numbers_tell c.args.texts.now.texts c.args.texts.now.distinct c.args.a c.args.b c.requires.first c.requires.second
