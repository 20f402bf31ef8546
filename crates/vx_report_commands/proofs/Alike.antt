-- Reports over the same options, and over others.
use Rattle.std.proofs.Common.{◌≡◌, Bool, true, false, ap, ◌∙◌, sym}
use Rattle.std.specs.Prelude.{Option, Some, None, if◌then◌else◌}
use Rattle.vx_report.specs.declared.report.Report.{Report}
use Rattle.vx_plans.specs.declared.status.Status.{Status}
use Rattle.vx_plans.specs.declared.status.Status.TheVariants.{Unlike}
use Rattle.vx_agree.specs.Options.{are_same_names}
use Rattle.vx_report_commands.specs.Agree.{unlike}

abbrev refused_unless : Bool → Option Status
refused_unless b = if b then None else Some Unlike

pub alike : (one other : Report) → are_same_names one.options other.options ≡ true → unlike one other ≡ None
alike one other e = ap refused_unless e

pub not_alike : (one other : Report) → are_same_names one.options other.options ≡ false → unlike one other ≡ Some Unlike
not_alike one other e = ap refused_unless e

-- reports are refused as unlike alone
pub unlike_alone : (one other : Report) (status : Status) → unlike one other ≡ Some status → status ≡ Unlike
unlike_alone one other status e = by (are_same_names one.options other.options) e
  where
    by : (b : Bool) → refused_unless b ≡ Some status → status ≡ Unlike
    by true e = cc (e)
    by false e = cc (e)

pub not_both : (one other : Report) (status : Status) → unlike one other ≡ None → unlike one other ≡ Some status → ⊥
not_both one other status e f = let clash : None ≡ Some status = sym e ∙ f in cc (clash)
