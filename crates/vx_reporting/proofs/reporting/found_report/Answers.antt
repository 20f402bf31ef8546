use Rattle.vx_reporting.proofs.AllLines.{reported, shown_known}
use Rattle.vx_reporting.proofs.reporting.found_report.Goals as goal

pub listing-requires : goal.listing-requires
listing-requires g c = rw (c.as_slice.ensures.value, c.in_ok-ids.ensures) (shown_known (g.S.Space.sets c.args.space.now) c.args.version c.args.findings c.requires.known)

pub returns : goal.returns
returns g c = λ p is_allowed.
    reported (g.S.Space.sets c.args.space.now) c.args.version c.args.options c.args.limit c.args.findings c.in_ok-ids.ids.items c.in_ok-list.list.nodes c.in_ok-list.list.roots c.in_ok-report.report p is_allowed
    c.requires.options c.in_ok-ids.ensures (rw c.as_slice.ensures.value at c.in_ok-list.ensures.ok) c.in_ok-report.ensures.report c.in_ok-report.ensures.fits
