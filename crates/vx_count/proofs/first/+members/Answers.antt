use Rattle.std.proofs.Common.{◌≡◌, ◌+◌, ◌-◌, length, arith}
use Rattle.vx_count.proofs.Fronts.{behind_never, both_pushed, stays_none}
use Rattle.vx_count.proofs.first.+members.Goals as goal

pub push_firsts-returns-then-is_never-clause-found : goal.push_firsts-returns-then-is_never-clause-found
push_firsts-returns-then-is_never-clause-found g t c = stays_none c.args.n c.args.found.now.items _ c.requires.few (behind_never (g.met.S.Space.lawful c.args.space.now) c.args.id c.args.front.now.items c.args.left (c.is_never.ensures.0 c.if-is_never.true))

pub push_firsts-returns-clause-found : goal.push_firsts-returns-clause-found
push_firsts-returns-clause-found g t c =
    let options = (g.S.Space.sets c.args.space.now).options in
    let here : length c.args.front.now.items ≡ c.options.result - c.args.left = omega (arith, c.requires.options, c.options.ensures) in
    let fewer : c.args.left ≡ (c.args.left - 1) + 1 = omega arith in
    both_pushed c.args.id c.parts_at-parts.result.0 c.parts_at-parts.result.1 (c.options.result - c.args.left) c.args.left (c.args.left - 1) c.args.n c.args.front.now.items c.push_part.new.front.items c.args.found.now.items c.push_part.new.found.items _ c.parts_at-parts.ensures here fewer c.in_ok-push_part.ensures.found c.in_ok-push_part.ensures.front c.in_ok-push_part-2.ensures.found
