use Rattle.std.proofs.Common.{map, take}
use Rattle.vx_link.specs.MemberKeys.{AreKeys}
use Rattle.vx_link.proofs.member_list.keys_of.Given as goal

abbrev pub invariant-loop-place : goal.invariant-loop-place
invariant-loop-place g l = AreKeys (map g.M.Member.signature (take l.place l.members)) l.keys
