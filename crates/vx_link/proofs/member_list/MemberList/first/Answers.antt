use Rattle.std.proofs.Common.{◌+◌, ◌^◌, ◌∙◌, ◌≤◌, None, Some, arith, false, map, subst, sym, true}
use Rattle.vx_link.proofs.Keys.{found_beyond, found_there, gone_by, is_last, is_member, none_left, not_below, tested}
use Rattle.vx_link.specs.MemberKeys.{IsNextNumber, hash_of_signature}
use Rattle.vx_link.specs.Members.{IsFirst, NoneBetween}
use Rattle.vx_link.proofs.member_list.MemberList.first.Goals as goal

pub returns-in_err-number : goal.returns-in_err-number
returns-in_err-number g c =
    rw (← c.self.view_is)
    (subst (IsFirst (map g.M.Member.signature c.self.inside.members) c.args.sought.now.0 c.args.sought.now.1 c.args.from c.args.last) (sym c.from_residual.ensures)
    (none_left (map g.M.Member.signature c.self.inside.members) c.self.inside.keys c.self.invariant c.args.sought.now.0 c.args.sought.now.1 c.args.from c.loop-number.from c.loop-number.invariant.1
    (subst (λ hash. IsNextNumber c.self.inside.keys hash c.loop-number.from None) c.hash.ensures c.in_err-number.ensures)))

pub returns-then-number-last : goal.returns-then-number-last
returns-then-number-last g c =
    let next : IsNextNumber c.self.inside.keys (hash_of_signature c.args.sought.now) c.loop-number.from (Some c.in_ok-number.number) =
    subst (λ hash. IsNextNumber c.self.inside.keys hash c.loop-number.from (Some c.in_ok-number.number)) c.hash.ensures c.in_ok-number.ensures in
    rw (← c.self.view_is) (found_beyond (map g.M.Member.signature c.self.inside.members) c.self.inside.keys c.self.invariant c.args.sought.now.0 c.args.sought.now.1 c.args.from c.loop-number.from c.loop-number.invariant.1 c.in_ok-number.number next c.args.last c.if-number-last.true)

pub returns-then-is_sought : goal.returns-then-is_sought
returns-then-is_sought g c =
    let next : IsNextNumber c.self.inside.keys (hash_of_signature c.args.sought.now) c.loop-number.from (Some c.in_ok-number.number) =
    subst (λ hash. IsNextNumber c.self.inside.keys hash c.loop-number.from (Some c.in_ok-number.number)) c.hash.ensures c.in_ok-number.ensures in
    rw (← c.self.view_is)
    (found_there (map g.M.Member.signature c.self.inside.members) c.self.inside.keys c.self.invariant c.args.sought.now.0 c.args.sought.now.1 c.args.from c.loop-number.from c.loop-number.invariant.1 c.in_ok-number.number next c.args.last c.loop-number.invariant.0
    (tested g.M.Member.signature c.self.inside.members c.as_slice.result.now c.args.sought.now.0 c.args.sought.now.1 c.in_ok-number.number c.index-as_slice-number.result true
    (is_member (map g.M.Member.signature c.self.inside.members) c.self.inside.keys c.self.invariant c.args.sought.now.0 c.args.sought.now.1 c.args.from c.loop-number.from c.loop-number.invariant.1 c.in_ok-number.number next) c.as_slice.ensures c.index-as_slice-number.is (sym c.is_sought.ensures ∙ c.if-is_sought.true)))

pub returns-in_err-from : goal.returns-in_err-from
returns-in_err-from g c =
    let next : IsNextNumber c.self.inside.keys (hash_of_signature c.args.sought.now) c.loop-number.from (Some c.in_ok-number.number) =
    subst (λ hash. IsNextNumber c.self.inside.keys hash c.loop-number.from (Some c.in_ok-number.number)) c.hash.ensures c.in_ok-number.ensures in
    rw (← c.self.view_is)
    (subst (IsFirst (map g.M.Member.signature c.self.inside.members) c.args.sought.now.0 c.args.sought.now.1 c.args.from c.args.last) (sym c.from_residual-in_err-from.ensures)
    (is_last (map g.M.Member.signature c.self.inside.members) c.self.inside.keys c.self.invariant c.args.sought.now.0 c.args.sought.now.1 c.args.from c.loop-number.from c.loop-number.invariant.1 c.in_ok-number.number next
    (tested g.M.Member.signature c.self.inside.members c.as_slice.result.now c.args.sought.now.0 c.args.sought.now.1 c.in_ok-number.number c.index-as_slice-number.result false
    (is_member (map g.M.Member.signature c.self.inside.members) c.self.inside.keys c.self.invariant c.args.sought.now.0 c.args.sought.now.1 c.args.from c.loop-number.from c.loop-number.invariant.1 c.in_ok-number.number next) c.as_slice.ensures c.index-as_slice-number.is (sym c.is_sought.ensures ∙ c.if-is_sought.false))
    (not_below (c.in_ok-number.number + 1) (2 ^ 64) c.in_err-from.ensures)))

pub loop-number-preserved : goal.loop-number-preserved
loop-number-preserved g c =
    let next : IsNextNumber c.self.inside.keys (hash_of_signature c.args.sought.now) c.loop-number.from (Some c.in_ok-number.number) =
    subst (λ hash. IsNextNumber c.self.inside.keys hash c.loop-number.from (Some c.in_ok-number.number)) c.hash.ensures c.in_ok-number.ensures in
    subst (λ from. (c.args.from ≤ from) × NoneBetween (map g.M.Member.signature c.self.inside.members) c.args.sought.now.0 c.args.sought.now.1 c.args.from from)
    (sym c.in_ok-from.ensures.1) (
      omega (arith, c.loop-number.invariant.0, next.0),
      gone_by (map g.M.Member.signature c.self.inside.members) c.self.inside.keys c.self.invariant c.args.sought.now.0 c.args.sought.now.1 c.args.from c.loop-number.from c.loop-number.invariant.1 c.in_ok-number.number next
          (tested g.M.Member.signature c.self.inside.members c.as_slice.result.now c.args.sought.now.0 c.args.sought.now.1 c.in_ok-number.number c.index-as_slice-number.result false
          (is_member (map g.M.Member.signature c.self.inside.members) c.self.inside.keys c.self.invariant c.args.sought.now.0 c.args.sought.now.1 c.args.from c.loop-number.from c.loop-number.invariant.1 c.in_ok-number.number next) c.as_slice.ensures c.index-as_slice-number.is (sym c.is_sought.ensures ∙ c.if-is_sought.false)),
    )
