use Rattle.std.proofs.Common.{◌≡◌, ap, arith, length, map, string_bytes}
use Rattle.std.proofs.lemmas.List.{length-map}
use Rattle.std.proofs.lemmas.List.Elements.{All-map}
use Rattle.vx_class.specs.File.{Holds}
use Rattle.vx_inputs.specs.declared.taken.Traced.{Traced}
use Rattle.vx_plans.specs.Health.{classes_part}
use Rattle.vx_plans.specs.Job.{is_dimacs_path}
use Rattle.vx_doctor_command.proofs.Telling.{can_be_told, link_said}
use Rattle.vx_doctor_command.specs.Doctor.{classes_of}
use Rattle.vx_doctor_command.proofs.doctor.of_classes.Goals as goal

pub program_in-requires-clause-few : goal.program_in-requires-clause-few
program_in-requires-clause-few c = omega (arith, c.requires.few, ap length c.in_ok-parts.ensures.classes, length-map c.args.all.items (λ (t : Traced). t.class))

pub program_in-requires-clause-read : goal.program_in-requires-clause-read
program_in-requires-clause-read c = rw c.in_ok-parts.ensures.classes (All-map Holds (λ (t : Traced). t.class) c.args.all.items c.requires.read)

pub healthy-requires-clause-classes : goal.healthy-requires-clause-classes
healthy-requires-clause-classes c =
    let linked = rw c.in_ok-parts.ensures.classes at c.in-Ok.ensures in
    (can_be_told c.args.words.main.now c.args.model.now (classes_of c.args.all.items) c.in-Ok.program c.linked_are_bounded.ensures (omega (arith, c.requires.few, length-map c.args.all.items (λ (t : Traced). t.class)))
    (All-map Holds (λ (t : Traced). t.class) c.args.all.items c.requires.read) linked).classes

pub healthy-requires-clause-codes : goal.healthy-requires-clause-codes
healthy-requires-clause-codes c =
    let linked = rw c.in_ok-parts.ensures.classes at c.in-Ok.ensures in
    (can_be_told c.args.words.main.now c.args.model.now (classes_of c.args.all.items) c.in-Ok.program c.linked_are_bounded.ensures (omega (arith, c.requires.few, length-map c.args.all.items (λ (t : Traced). t.class)))
    (All-map Holds (λ (t : Traced). t.class) c.args.all.items c.requires.read) linked).codes

pub returns : goal.returns
returns c text is =
    let w = c.args.words in
    let classes = c.in_ok-parts.ensures.classes in
    let front : c.put_versions.new.out.items ≡ classes_part (is_dimacs_path w.model.now) text c.args.model.now (classes_of c.args.all.items) = rw (c.as_slice.ensures.value, classes, is) at c.in_ok-put_versions.ensures.ok in
    link_said w.model.now text w.main.now c.args.model.now (map string_bytes c.args.paths.now) c.args.all.items c.put_versions.new.out.items c.in-Err.refusal _
    (rw classes at c.in-Err.ensures) front (c.unlinked.ensures (classes_of c.args.all.items) (rw (c.as_slice-in-Err.ensures.value, c.in_ok-outlined.ensures, c.as_slice-2.ensures.value, classes)))
