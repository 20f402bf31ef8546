use Rattle.std.proofs.Common.{◌∙◌, arith}
use Rattle.vx_cond.proofs.RowLaws.{IsRow-extends}
use Rattle.vx_frame.proofs.FrameLaws.{IsFrame-stack}
use Rattle.vx_group.proofs.GroupLaws.{IsGroup-top}
use Rattle.vx_group_states.proofs.SettleLaws.{stack_scope}
use Rattle.vx_space.proofs.Spaces.{Extends-trans}
use Rattle.vx_value.specs.Slot.{slot_cmp}
use Rattle.vx_natives.proofs.Arguing.{whole_call}
use Rattle.vx_natives.proofs.calls.calls_by.Goals as goal

pub receivers_given-requires-clause-row : goal.receivers_given-requires-clause-row
receivers_given-requires-clause-row g c = rw c.top_frame.ensures (IsFrame-stack _ c.args.group.now.top (IsGroup-top _ c.args.group.now c.requires.given.1.is_group))

pub receivers_given-requires-clause-enough : goal.receivers_given-requires-clause-enough
receivers_given-requires-clause-enough g c = rw (c.top_frame.ensures, c.as_slice-types.ensures, c.requires.shape) c.requires.enough

pub with_operands-requires-clause-row : goal.with_operands-requires-clause-row
with_operands-requires-clause-row g c = rw c.top_frame.ensures (IsRow-extends slot_cmp c.in_ok-start.ensures.extends c.args.group.now.top.stack (IsFrame-stack _ c.args.group.now.top (IsGroup-top _ c.args.group.now c.requires.given.1.is_group)))

pub with_operands-requires-clause-enough : goal.with_operands-requires-clause-enough
with_operands-requires-clause-enough g c = rw (c.top_frame.ensures, c.as_slice-types.ensures, c.requires.shape) (omega (arith, c.requires.enough))

pub with_room-requires-clause-row : goal.with_room-requires-clause-row
with_room-requires-clause-row g c = rw c.top_frame.ensures (IsRow-extends slot_cmp (Extends-trans c.in_ok-start.ensures.extends c.in_ok-calls.ensures.extends) c.args.group.now.top.stack (IsFrame-stack _ c.args.group.now.top (IsGroup-top _ c.args.group.now c.requires.given.1.is_group)))

pub with_room-requires-clause-taken : goal.with_room-requires-clause-taken
with_room-requires-clause-taken g c = rw (c.top_frame.ensures, c.receivers.ensures, c.as_slice-types.ensures, c.requires.shape) c.requires.enough

pub with_room-requires-clause-few : goal.with_room-requires-clause-few
with_room-requires-clause-few g c = rw c.top_frame.ensures c.requires.few

pub returns-clause-ok : goal.returns-clause-ok
returns-clause-ok g c =
    let site = c.args.site.now in
    let m = c.args.method.0 in
    let s0 = g.S.Space.sets c.args.space.now in
    let s1 = g.S.Space.sets c.receivers_given.new.space in
    let s2 = g.S.Space.sets c.with_operands.new.space in
    let s3 = g.S.Space.sets c.with_room.new.space in
    let group = c.args.group.now in
    let is_group = c.requires.given.1.is_group in
    record {
      is_cond = c.in_ok-within.ensures.cond;
      scope = c.in_ok-within.ensures.scope ∙ rw c.top_frame.ensures (stack_scope s0 group is_group);
      at = whole_call site m s0 s1 s2 s3 c.args.heap.now group is_group c.in_ok-start.ensures.extends c.in_ok-calls.ensures.extends c.in_ok-start.start c.in_ok-calls.calls c.in_ok-within.within c.requires.enough
          (rw (c.top_frame.ensures, c.as_slice-types.ensures, c.requires.shape) at c.in_ok-start.ensures.at)
          (rw (c.top_frame.ensures, c.descriptor_of_method-descriptor.ensures, c.as_slice-types.ensures, c.requires.shape) at c.in_ok-calls.ensures.at)
          (rw (c.top_frame.ensures, c.receivers.ensures, c.as_slice-types.ensures, c.requires.shape) at c.in_ok-within.ensures.at);
    }

pub returns-clause-extends : goal.returns-clause-extends
returns-clause-extends g c = Extends-trans c.in_ok-start.ensures.extends (Extends-trans c.in_ok-calls.ensures.extends c.in_ok-within.ensures.extends)
