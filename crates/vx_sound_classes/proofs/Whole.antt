-- Each linked program by its class files: no fault, and core classes behind the folder's.
use Rattle.std.proofs.Common.{◌++◌}
use Rattle.vx_link.specs.CoreFiles.{core_files, native_numbers}
use Rattle.vx_sound.specs.Sound.{HasForms}
use Rattle.vx_sound_classes.proofs.Core.{has_core}
use Rattle.vx_sound_classes.proofs.CoreFacts.{is_core}
use Rattle.vx_sound_classes.proofs.Forms.{forms}
use Rattle.vx_sound_classes.proofs.Hierarchy.{hierarchy}
use Rattle.vx_sound_classes.proofs.Initialisers.{begun_core}
use Rattle.vx_sound_classes.proofs.Programs.{linked, of_linked}
use Rattle.vx_sound_classes.proofs.Ranks.{ranks}
use Rattle.vx_sound_classes.specs.Law.{LinkedHaveCore, LinkedHaveForms, LinkedHaveHierarchy, LinkedHaveRanks}

pub linked_have_core : LinkedHaveCore
linked_have_core classes options main p holds is = has_core p classes core_files is_core (linked classes options main p holds is)

pub linked_have_ranks : LinkedHaveRanks
linked_have_ranks classes options main p holds is = let known = linked classes options main p holds is in ranks p (classes ++ core_files) known.of known.apart

pub linked_have_hierarchy : LinkedHaveHierarchy
linked_have_hierarchy classes options main p holds is = let known = linked classes options main p holds is in hierarchy p (classes ++ core_files) known.of known.apart

pub linked_have_forms : LinkedHaveForms
linked_have_forms classes options main p holds is = of_linked HasForms classes options main p (forms core_files native_numbers is_core begun_core classes options main holds) is
