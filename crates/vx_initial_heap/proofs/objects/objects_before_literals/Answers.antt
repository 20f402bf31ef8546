use Rattle.vx_initial_heap.proofs.ObjectLaws.{are_before_literals}
use Rattle.vx_initial_heap.proofs.objects.objects_before_literals.Goals as goal

pub returns : goal.returns
returns c = rw (c.in_ok-push-4.ensures.items, c.in_ok-push-3.ensures.items, c.in_ok-put_integers.ensures, c.in_ok-push-2.ensures.items, c.in_ok-push.ensures.items, c.new-objects.ensures.items, c.int_object.ensures, c.int_object-2.ensures, c.int_object-3.ensures, c.int_object-4.ensures) (are_before_literals c.args.classes.now)
