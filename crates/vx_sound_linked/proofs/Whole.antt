-- Each linked program has all that a verdict rests on, so no run of one whose verdict is yes ends as illegal.
use Rattle.vx_kept_states.proofs.WholePrograms.{linked_are_runnable}
use Rattle.vx_sound_classes.proofs.Whole.{linked_have_core, linked_have_forms, linked_have_hierarchy}
use Rattle.vx_sound_linked.proofs.GridPrograms.{linked_grids}
use Rattle.vx_sound_linked.proofs.NativePrograms.{linked_natives}
use Rattle.vx_sound_linked.specs.Law.{LinkedAreSound, LinkedNeverIllegal}
use Rattle.vx_sound_natives.proofs.Whole.{runs_never_illegal}
use Rattle.vx_sound_objects.proofs.Whole.{linked_have_cells, linked_have_core_objects, linked_have_first_values, linked_have_members}

pub linked_are_sound : LinkedAreSound
linked_are_sound classes options main p holds is =
    let hierarchy = linked_have_hierarchy classes options main p holds is in
    record {
      runnable = linked_are_runnable classes options main p holds is;
      hierarchy = hierarchy;
      core = linked_have_core classes options main p holds is;
      members = linked_have_members classes options main p holds is;
      cells = linked_have_cells classes options main p holds is hierarchy;
      objects = linked_have_core_objects classes options main p holds is hierarchy;
      first = linked_have_first_values classes options main p holds is hierarchy;
      forms = linked_have_forms classes options main p holds is;
      natives = linked_natives classes options main p holds is;
      grids = linked_grids classes options main p holds is;
    }

pub linked_never_illegal : LinkedNeverIllegal
linked_never_illegal classes options main p holds is verified = runs_never_illegal p (linked_are_sound classes options main p holds is) verified
