use Rattle.std.proofs.Common.{ap}
use Rattle.vx_java.specs.Ids.{as_class}
use Rattle.vx_types.proofs.hierarchy.object_class.Goals as goal

pub returns : goal.returns
returns c = ap as_class c.object_id.ensures
