use Rattle.vx_tally.proofs.MemoLaws.{AreNoted-put, AreNoted-same}
use Rattle.vx_tally.proofs.memo.Memo.put.Goals as goal

pub returns : goal.returns
returns g c = rw (c.in_ok-insert.ensures.entries, ← c.self.view_is) (AreNoted-put _ _ _ c.self.inside.known.entries)
