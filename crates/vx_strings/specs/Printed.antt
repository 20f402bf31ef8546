-- What native methods of PrintStream write, at one configuration (the class library of Java SE 7).
use Rattle.std.specs.Prelude.{ℕ, List, None, Option, Some, [], pos, zero, ◌++◌, ◌∷◌}
use Rattle.vx_natives.specs.Deeds.{Deed, prints, raises}
use Rattle.vx_natives.specs.declared.behaviour.Printing.{Printing}
use Rattle.vx_natives.specs.declared.behaviour.Printing.TheVariants as printing
use Rattle.vx_natives.specs.declared.call.Call.{Call}
use Rattle.vx_natives.specs.declared.call.Call.TheVariants as given
use Rattle.vx_natives.specs.declared.effect.Exception.TheVariants.{Null as NullRaised}
use Rattle.vx_value.specs.declared.end.Stream.{Stream}
use Rattle.vx_value.specs.declared.end.Stream.TheVariants.{Err, Out}
use Rattle.vx_value.specs.declared.slot.Slot.{Slot}
use Rattle.vx_value.specs.declared.slot.Slot.TheVariants.{Int, Ref, Top}
use Rattle.vx_strings.specs.Questions.{refused}
use Rattle.vx_strings.specs.Spelled.{Spelled, spelled}

-- the stream that a cell stands for
abbrev pub stream_of : Slot → Stream
stream_of (Int (pos zero)) = Out
stream_of _ = Err

-- a text with an end is written on the stream of a cell
abbrev pub written : (stream : Slot) → (end : List ℕ) → Option Spelled → Deed
written stream end None = raises NullRaised
written stream end (Some s) = prints (stream_of stream) s.start (s.units ++ end)

abbrev pub printed : Printing → Call → Deed
printed (printing.Value s) (given.Three (Ref r) value stream) = written stream [] (spelled s value Top)
printed (printing.Value s) (given.Four (Ref r) value stream read) = written stream [] (spelled s value read)
printed (printing.Line s) (given.Three (Ref r) value stream) = written stream (10 ∷ []) (spelled s value Top)
printed (printing.Line s) (given.Four (Ref r) value stream read) = written stream (10 ∷ []) (spelled s value read)
printed printing.LineEnd (given.Two (Ref r) stream) = prints (stream_of stream) Top (10 ∷ [])
printed _ call = refused
