use Rattle.std.proofs.Common.{ap, fold, ◌∙◌}
use Rattle.vx_spots.specs.Entries.{with_kinds}
use Rattle.vx_spots.proofs.kinds.kinds_of.Goals as goal

pub returns : goal.returns
returns c = c.in_ok-put_all.ensures ∙ ap (λ k. fold with_kinds k c.args.spots.now) c.keyed-kinds.ensures
