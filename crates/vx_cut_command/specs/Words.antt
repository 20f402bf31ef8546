-- What the words of `cut` choose.
use Rattle.vx_cut_command.specs.Cut.{Choice, Many, Named}
use Rattle.vx_cut_command.specs.declared.words.Chosen.{Chosen}
use Rattle.vx_cut_command.specs.declared.words.Chosen.TheVariants as words

abbrev pub choice_of : Chosen → Choice
choice_of (words.Named word) = Named word.now
choice_of (words.Many count) = Many count
