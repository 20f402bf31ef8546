use Rattle.std.proofs.Common.{ap, sym}
use Rattle.vx_cli.specs.Pages.{page_text}
use Rattle.vx_cli.proofs.page.text_of.Goals as goal

pub returns-in-Help : goal.returns-in-Help
returns-in-Help c = ap page_text (sym c.in-Help.is)
