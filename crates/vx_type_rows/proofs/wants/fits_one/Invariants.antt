use Rattle.std.proofs.Common.{◌≡◌, drop}
use Rattle.std.specs.List.{list_any}
use Rattle.vx_types.specs.Fits.{fits}
use Rattle.vx_type_rows.proofs.wants.fits_one.Given as goal

abbrev pub invariant-loop-other : goal.invariant-loop-other
invariant-loop-other l = list_any (fits l.program l.one) l.these ≡ list_any (fits l.program l.one) (drop l.other-index l.these)
