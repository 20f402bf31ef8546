use Rattle.std.proofs.Common.{subst, ◌∙◌}
use Rattle.vx_initial_heap.specs.Literals.{first_of}
use Rattle.vx_initial_heap.specs.Objects.{AreObjectsFor, IsObjectFor}
use Rattle.vx_value.specs.Texts.{Extends}
use Rattle.vx_initial_heap.proofs.ObjectLaws.{all_first_objects}
use Rattle.vx_initial_heap.proofs.Zips.{zip_map}
use Rattle.vx_initial_heap.proofs.objects.first_objects.Goals as goal

pub returns-clause-objects : goal.returns-clause-objects
returns-clause-objects c =
    let classes = c.core_classes-classes.result in
    let texts = c.literal_objects.new.texts.texts in
    let named = zip_map (IsObjectFor classes texts) first_of c.as_slice.result.now c.in_ok-named.named.items c.in_ok-named.ensures.objects in
    rw (c.in_ok-push.ensures.items, c.in_ok-extend_from_slice.ensures.items, c.deref.ensures.value)
    (all_first_objects c.args.program.now classes texts c.in_ok-objects.objects.items c.in_ok-named.named.items c.main_object.result c.core_classes-classes.ensures (subst (λ before. Extends before texts) c.requires.texts c.in_ok-named.ensures.extends) c.in_ok-objects.ensures (subst (λ xs. AreObjectsFor classes texts xs c.in_ok-named.named.items) (c.as_slice.ensures ∙ c.requires.literals) named) c.main_object.ensures)
