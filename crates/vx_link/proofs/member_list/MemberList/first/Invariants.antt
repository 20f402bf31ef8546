use Rattle.std.proofs.Common.{length, map, ◌-◌, ◌≤◌}
use Rattle.vx_link.specs.Members.{NoneBetween}
use Rattle.vx_link.proofs.member_list.MemberList.first.Given as goal

abbrev pub invariant-loop-number : goal.invariant-loop-number
invariant-loop-number g l =
    (l.fn.from ≤ l.from) × NoneBetween (map g.M.Member.signature l.self-inside.members) l.sought.0 l.sought.1 l.fn.from l.from

abbrev pub decreases-loop-number : goal.decreases-loop-number
decreases-loop-number g l = length l.self-inside.members - l.from
