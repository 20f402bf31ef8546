-- No run of a verified program ends as illegal: it begins in a typed state, and rows, native methods, beginnings and what follows keep to types.
use Rattle.vx_sound.proofs.Carrying.{carrying_from}
use Rattle.vx_sound.proofs.PlacedRows.{rows_typed}
use Rattle.vx_sound.proofs.Starting.{start_typed}
use Rattle.vx_sound.proofs.Unwinding.{next_typed}
use Rattle.vx_sound.proofs.WholeRuns.{never_illegal}
use Rattle.vx_sound.specs.Law.{VerifiedNeverIllegal}
use Rattle.vx_sound_natives.proofs.Calls.{natives_keep_types}

pub runs_never_illegal : VerifiedNeverIllegal
runs_never_illegal =
    never_illegal rows_typed (carrying_from natives_keep_types) (λ p typings o sound are typed. next_typed p typings sound are o typed)
    (λ p typings sound are config. start_typed p typings sound are config)
