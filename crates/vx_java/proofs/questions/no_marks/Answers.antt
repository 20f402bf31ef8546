use Rattle.vx_java.proofs.Silence.{all_false}
use Rattle.vx_java.proofs.questions.no_marks.Goals as goal

pub returns : goal.returns
returns c = all_false 1280
