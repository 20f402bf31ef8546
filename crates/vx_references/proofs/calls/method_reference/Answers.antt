use Rattle.std.proofs.Common.{◌∙◌, ap, sym}
use Rattle.vx_java.specs.Checks.{same_bool}
use Rattle.vx_link.specs.Names.{Member}
use Rattle.vx_link.specs.Parts.{is_interface}
use Rattle.vx_link.specs.Resolution.{is_array_clone, resolve_method}
use Rattle.vx_references.specs.Calls.{found_in}
use Rattle.vx_references.proofs.CallLaws.{clone_of, found_method, other_modes, same_kind}
use Rattle.vx_references.proofs.calls.method_reference.Goals as goal

pub returns-then-not-is_array_clone : goal.returns-then-not-is_array_clone
returns-then-not-is_array_clone c =
    let p = c.args.program.now in
    let named = c.in-Some.named in
    let read = c.member-reference.ensures in
    let kind = ap (λ b. same_bool b (is_interface p named.0)) (sym (ap (λ (m : Member). m.by_interface) read)) ∙ ap (same_bool c.member-reference.result.by_interface) (sym c.is_interface.ensures) ∙ same_kind c.member-reference.result.by_interface c.is_interface.result c.if-reference-is_interface.false in
    let clones = ap (λ (m : Member). is_array_clone p named.0 m.name m.descriptor) (sym read) ∙ sym c.if-not-is_array_clone.ensures in
    found_method p c.args.pool.now c.args.index c.args.mode named c.found.result (sym c.in-Some.is ∙ c.requires.owner) kind clones (c.found.ensures ∙ ap (λ (m : Member). found_in p c.args.mode named (resolve_method p named.0 m.name m.descriptor)) read)

pub returns-in-Virtual : goal.returns-in-Virtual
returns-in-Virtual c =
    let p = c.args.program.now in
    let named = c.in-Some.named in
    let read = c.member-reference.ensures in
    let kind = ap (λ b. same_bool b (is_interface p named.0)) (sym (ap (λ (m : Member). m.by_interface) read)) ∙ ap (same_bool c.member-reference.result.by_interface) (sym c.is_interface.ensures) ∙ same_kind c.member-reference.result.by_interface c.is_interface.result c.if-reference-is_interface.false in
    let clones = ap (λ (m : Member). is_array_clone p named.0 m.name m.descriptor) (sym read) ∙ sym c.if-not-is_array_clone.ensures in
    clone_of p c.args.pool.now c.args.index c.args.mode named (sym c.in-Some.is ∙ c.requires.owner) kind clones (other_modes c.args.mode c.in-Virtual.is)
