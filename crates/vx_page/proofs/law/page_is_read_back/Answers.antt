use Rattle.vx_page.proofs.Held.{held}
use Rattle.vx_page.proofs.law.page_is_read_back.Goals as goal

pub returns : goal.returns
returns c = held
