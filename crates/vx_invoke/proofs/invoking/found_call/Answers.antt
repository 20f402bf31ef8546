use Rattle.std.proofs.Common.{◌∙◌, List, ap, sym}
use Rattle.std.proofs.lemmas.Result.{IfOk-weaker}
use Rattle.vx_desc.specs.declared.java_type.Descriptor.{Descriptor}
use Rattle.vx_link.specs.Parts.{method_at}
use Rattle.vx_link.specs.Signature.{signature}
use Rattle.vx_references.specs.Calls.{may_call}
use Rattle.vx_references.proofs.CallLaws.{other_modes}
use Rattle.vx_invoke.proofs.References.{descriptor_short, object-attempts, of_object, static-attempts}
use Rattle.vx_invoke.proofs.invoking.found_call.Goals as goal

pub signature-requires : goal.signature-requires
signature-requires g c = rw c.descriptor_of_method.ensures (descriptor_short c.args.site.now.program.now c.args.target.now.resolved.0 c.requires.bounded)

pub static_call-requires : goal.static_call-requires
static_call-requires g c = record {
  bounded = c.requires.bounded;
  is_heap = c.requires.is_heap;
  is_for = c.requires.is_for;
  stands = c.requires.stands;
  may_call = ap (λ mode. may_call mode (method_at c.args.site.now.program.now c.args.target.now.resolved.0)) (sym c.in-Static.is) ∙ c.requires.may_call;
  types = ap (λ (text : List _). (signature text).arguments) (sym c.descriptor_of_method.ensures) ∙ ap (λ (d : Descriptor). d.arguments) (sym c.in_ok-signature.ensures) ∙ sym c.as_slice-types.ensures;
}

pub instance_call-requires : goal.instance_call-requires
instance_call-requires g c = record {
  callable = c.requires;
  of_object = of_object c.args.target.now.mode (method_at c.args.site.now.program.now c.args.target.now.resolved.0) (other_modes c.args.target.now.mode c.in-Virtual.is) c.requires.may_call;
  types = ap (λ (text : List _). (signature text).arguments) (sym c.descriptor_of_method.ensures) ∙ ap (λ (d : Descriptor). d.arguments) (sym c.in_ok-signature.ensures) ∙ sym c.as_slice-types.ensures;
}

pub returns-in-Static-clause-ok : goal.returns-in-Static-clause-ok
returns-in-Static-clause-ok g c =
    let types = ap (λ (text : List _). (signature text).arguments) (sym c.descriptor_of_method.ensures) ∙ ap (λ (d : Descriptor). d.arguments) (sym c.in_ok-signature.ensures) ∙ sym c.as_slice-types.ensures in
    IfOk-weaker c.static_call.result _ _ (λ r made m member. static-attempts c.args.site.now c.args.target.now c.as_slice-types.result.now _ _ c.args.heap.now c.static_call.new.heap c.args.callers.now c.static_call.new.callers c.args.group r.items.items c.in-Static.is types m member made) c.static_call.ensures.ok

pub returns-clause-ok : goal.returns-clause-ok
returns-clause-ok g c =
    let other = other_modes c.args.target.now.mode c.in-Virtual.is in
    IfOk-weaker c.instance_call.result _ _ (λ r gives m member. object-attempts c.args.site.now c.args.target.now c.args.heap.now c.args.callers.now c.instance_call.new.callers c.args.group r.items.items other c.requires c.instance_call.ensures.extends c.instance_call.ensures.keeps m (gives m member)) c.instance_call.ensures.gives
