use Rattle.vx_report_reader.specs.Bodies.{report_of}
use Rattle.vx_report_reader.proofs.Named.{walked_by}
use Rattle.vx_report_reader.proofs.body.walked.Goals as goal

pub returns : goal.returns
returns c = walked_by (report_of c.args.body.now) _ _ _ c.requires.walk (rw c.as_slice.ensures.value at c.number_from.ensures)
