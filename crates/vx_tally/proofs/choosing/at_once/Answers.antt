use Rattle.std.proofs.Common.{◌∙◌}
use Rattle.vx_tally.proofs.ChosenLaws.{IsWork-first, IsWork-second, first_tells, second_tells}
use Rattle.vx_tally.proofs.choosing.at_once.Goals as goal

pub returns-in_ok-place-in-First : goal.returns-in_ok-place-in-First
returns-in_ok-place-in-First g c =
    let copied = c.in_ok-place-in-First.ensures in
    record {
      grown = copied.grown;
      work = IsWork-first _ _ _ _ _ _ _ _ _ c.requires.work copied.grown copied.copies;
      chosen = first_tells (g.met.S.Space.lawful c.args.space.now) c.args.first.now c.args.second.now _ c.args.asked _ (copied.grown.options ∙ c.requires.work.options) c.in-First.ensures copied.copy;
    }

pub returns-in_ok-place-in-Second : goal.returns-in_ok-place-in-Second
returns-in_ok-place-in-Second g c =
    let copied = c.in_ok-place-in-Second.ensures in
    record {
      grown = copied.grown;
      work = IsWork-second _ _ _ _ _ _ _ _ _ c.requires.work copied.grown copied.copies;
      chosen = second_tells (g.met.S.Space.lawful c.args.space.now) c.args.first.now c.args.second.now _ c.args.asked _ (copied.grown.options ∙ c.requires.work.options) c.in-Second.ensures copied.copy;
    }
