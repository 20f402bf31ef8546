use Rattle.std.proofs.Common.{◌∙◌, ◌≡◌, ap, ◌++◌, arith}
use Rattle.std.specs.Prelude.{negsuc}
use Rattle.std.proofs.lemmas.Int.{ints}
use Rattle.vx_initial_heap.specs.Objects.{int_objects, small_integers}
use Rattle.vx_initial_heap.proofs.ObjectLaws.{put_integer}
use Rattle.vx_initial_heap.proofs.objects.put_integers.Goals as goal

pub loop-place-preserved : goal.loop-place-preserved
loop-place-preserved c = rw (c.in_ok-push.ensures.items, c.int_object.ensures) (put_integer c.args.class c.args.objects.now.items c.loop-place.objects.items (negsuc 127) _ c.loop-place.place c.loop-place.invariant (omega (arith, ints, c.from.ensures)))

pub returns : goal.returns
unfolding small_integers
returns c =
    let all : c.loop-place.place ≡ 256 = omega (arith, c.loop-place-test.false, c.loop-place.auto.place-end) in
    c.loop-place.invariant ∙ ap (λ k. c.args.objects.now.items ++ int_objects c.args.class (negsuc 127) k) all
