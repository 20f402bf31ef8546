use Rattle.std.proofs.Common.{◌≡◌, ◌+◌, ◌<◌, ◌∙◌, ℕ, List, ap, arith, length, sym}
use Rattle.vx_cond.proofs.CondLaws.{IsCond-of}
use Rattle.vx_families.proofs.ShortPools.{short_descriptor}
use Rattle.vx_frame.specs.declared.frame.Frame.{Frame}
use Rattle.vx_group.proofs.GroupLaws.{IsGroup-path_known}
use Rattle.vx_group_states.proofs.Operands.{length-operands}
use Rattle.vx_group_states.specs.Answering.{operands_at}
use Rattle.vx_link.specs.Parts.{method_at}
use Rattle.vx_link.specs.Signature.{signature}
use Rattle.vx_natives.specs.Arguments.{taken_by}
use Rattle.vx_natives.specs.CallOrder.{call_cmp}
use Rattle.vx_natives.specs.Calls.{call_given}
use Rattle.vx_natives.specs.declared.call.Call.TheVariants.{Illegal}
use Rattle.vx_natives.proofs.Arguing.{number_read, same_call}
use Rattle.vx_natives.proofs.NativeRows.{few_none}
use Rattle.vx_natives.proofs.calls.native_call.Goals as goal

pub signature-requires : goal.signature-requires
signature-requires g c = rw c.descriptor_of_method.ensures (short_descriptor c.args.site.now.program.now c.args.method.0 c.requires.given.1.bounded)

pub one-requires : goal.one-requires
one-requires g c = rw c.path.ensures (IsGroup-path_known _ c.args.group.now c.requires.given.1.is_group)

pub returns-then-len-taken-clause-taken : goal.returns-then-len-taken-clause-taken
returns-then-len-taken-clause-taken g c =
    let number = number_read (method_at c.args.site.now.program.now c.args.method.0) _ c.in_ok-signature.signature c.len.result c.descriptor_of_method.ensures c.in_ok-signature.ensures c.len.ensures in
    λ i. number i + c.receivers.ensures i

pub returns-then-len-taken-clause-calls : goal.returns-then-len-taken-clause-calls
returns-then-len-taken-clause-calls g c =
    let site = c.args.site.now in
    let m = method_at site.program.now c.args.method.0 in
    let s0 = g.S.Space.sets c.args.space.now in
    let stack = c.args.group.now.top.stack in
    let number : c.len.result ≡ length (signature m.descriptor).arguments = number_read m _ c.in_ok-signature.signature c.len.result c.descriptor_of_method.ensures c.in_ok-signature.ensures c.len.ensures in
    let size : c.len-2.result ≡ length stack.conds = c.len-2.ensures ∙ ap (λ (t : Frame _ _). length t.stack.conds) c.top_frame.ensures in
    let few : length stack.conds < taken_by m = omega (arith, number, size, c.receivers.ensures, c.if-len-taken.true) in
    record {
      is_cond = IsCond-of call_cmp _ _ c.in_ok-calls.calls c.in_ok-calls.ensures.ok;
      scope = c.in_ok-calls.ensures.scope ∙ c.path.ensures;
      at = λ d t.
          let operands = operands_at s0 stack d in
          let none = few_none site c.args.heap.now m operands (omega (arith, few, length-operands s0 stack d)) in
          same_call s0 c.path.result Illegal c.in_ok-calls.calls c.in_ok-calls.ensures.ok d (rw c.path.ensures t) ∙ sym (ap call_given none);
    }

pub calls_by-requires-clause-shape : goal.calls_by-requires-clause-shape
calls_by-requires-clause-shape g c = c.in_ok-signature.ensures ∙ ap (λ (text : List ℕ). signature text) c.descriptor_of_method.ensures

pub calls_by-requires-clause-enough : goal.calls_by-requires-clause-enough
calls_by-requires-clause-enough g c =
    let m = method_at c.args.site.now.program.now c.args.method.0 in
    let stack = c.args.group.now.top.stack in
    let number : c.len.result ≡ length (signature m.descriptor).arguments = number_read m _ c.in_ok-signature.signature c.len.result c.descriptor_of_method.ensures c.in_ok-signature.ensures c.len.ensures in
    let size : c.len-2.result ≡ length stack.conds = c.len-2.ensures ∙ ap (λ (t : Frame _ _). length t.stack.conds) c.top_frame.ensures in
    omega (arith, number, size, c.receivers.ensures, c.if-len-taken.false)

pub returns-clause-taken : goal.returns-clause-taken
returns-clause-taken g c =
    let number = number_read (method_at c.args.site.now.program.now c.args.method.0) _ c.in_ok-signature.signature c.len.result c.descriptor_of_method.ensures c.in_ok-signature.ensures c.len.ensures in
    λ i. number i + c.receivers.ensures i
