use Rattle.vx_report_reader.proofs.Named.{all_named}
use Rattle.vx_report_reader.proofs.body.are_named.Goals as goal

pub returns : goal.returns
returns c = all_named _ _ _ _ _ c.are_given.ensures c.requires.walk
