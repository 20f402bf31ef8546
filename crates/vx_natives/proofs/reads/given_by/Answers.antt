use Rattle.vx_families.proofs.MoreTexts.{HasMoreTexts-refl}
use Rattle.vx_natives.proofs.reads.given_by.Goals as goal

pub returns-in_ok-cells-in-Cell-clause-more : goal.returns-in_ok-cells-in-Cell-clause-more
returns-in_ok-cells-in-Cell-clause-more g c = HasMoreTexts-refl c.args.heap.now

pub returns-in_ok-cells-in-Cell-clause-at : goal.returns-in_ok-cells-in-Cell-clause-at
returns-in_ok-cells-in-Cell-clause-at g c = rw c.in-Cell.is c.in_ok-cells-in-Cell.ensures.at

pub returns-in_ok-texts-in-Chars-clause-cond : goal.returns-in_ok-texts-in-Chars-clause-cond
returns-in_ok-texts-in-Chars-clause-cond g c = c.in_ok-texts-in-Chars.ensures.ok.is_cond

pub returns-in_ok-texts-in-Chars-clause-scope : goal.returns-in_ok-texts-in-Chars-clause-scope
returns-in_ok-texts-in-Chars-clause-scope g c = c.in_ok-texts-in-Chars.ensures.ok.scope

pub returns-in_ok-texts-in-Chars-clause-at : goal.returns-in_ok-texts-in-Chars-clause-at
returns-in_ok-texts-in-Chars-clause-at g c = rw c.in-Chars.is (λ d t. (c.in_ok-texts-in-Chars.ensures.ok.at d t).reading)
