use Rattle.vx_sound_natives.proofs.Calls.{natives_keep_types}
use Rattle.vx_sound_natives.proofs.native_methods_keep_types.Goals as goal

pub returns : goal.returns
returns c = natives_keep_types
