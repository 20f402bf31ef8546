use Rattle.std.proofs.Common.{[], ap, map, reverse, ◌∙◌, ◌∷◌}
use Rattle.vx_java.specs.FirstObjects.{first_objects}
use Rattle.vx_java.specs.Initialisation.{new_frame}
use Rattle.vx_java.specs.Machine.{Ref}
use Rattle.vx_plain.specs.Views.{frame_of, state_of}
use Rattle.vx_plain_start.proofs.Laws.{cells_held, objects_are, statics_are}
use Rattle.vx_value.specs.declared.key.Kind.TheVariants.{Call}
use Rattle.vx_plain_start.proofs.first.before_main.Goals as goal

pub heap_of-requires : goal.heap_of-requires
heap_of-requires c = cells_held c.args.program.now c.args.first.now.texts.texts (first_objects c.args.program.now) c.args.first.now.objects.items c.requires.objects

pub returns : goal.returns
unfolding state_of
returns c =
    let p = c.args.program.now in
    let first = c.args.first.now in
    λ i.
    record {
      heap = (c.in_ok-heap.ensures ∙ objects_are p first.texts.texts (first_objects p) first.objects.items c.requires.objects) i;
      statics = (c.in_ok-statics.ensures ∙ statics_are p c.args.config.now p.fields first.statics.items c.requires.statics) i;
      inits = (c.in_ok-inits.ensures ∙ c.requires.inits) i;
      top = (c.in_ok-top.ensures ∙ ap (λ w. new_frame p Call p.main.0 (Ref w ∷ [])) c.requires.words) i;
      callers = ap (λ frames. reverse (map frame_of frames)) c.new.ensures.items i;
    }
