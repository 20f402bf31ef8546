use Rattle.vx_frames.proofs.FitLaws.{matching_are_arguments, with_receiver_are_arguments}
use Rattle.vx_frames.proofs.fitting.matching_are_arguments.Goals as goal

pub returns-clause-of_static : goal.returns-clause-of_static
returns-clause-of_static g c = matching_are_arguments

pub returns-clause-with_receiver : goal.returns-clause-with_receiver
returns-clause-with_receiver g c = with_receiver_are_arguments
