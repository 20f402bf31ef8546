-- What stands on `err` behind what was told.
use Rattle.std.proofs.Common.{◌≡◌, ◌⊎◌, ℕ, Bool, true, false, List, ◌++◌, Result, Ok, Err, inl, inr, refl, sym, ap, subst, ◌∙◌, arith}
use Rattle.std.specs.List.{flat_map}
use Rattle.std.proofs.lemmas.Bool.{true≢false}
use Rattle.vx_io.specs.Sink.{Gains, GainsPart, IsPut, SinkState, gains_then}
use Rattle.vx_io.specs.declared.fault.SinkFault.{SinkFault}
use Rattle.vx_io.specs.declared.fault.SinkFault.TheVariants.{NoMemory, Failed}
use Rattle.vx_plans.specs.Line.{line_of}
use Rattle.vx_plans.specs.declared.status.Status.{Status}
use Rattle.vx_run_commands.specs.Run.{HasTold}
use Rattle.vx_watch.specs.Telling.{HasRefused, HasWatched, progress_line}
use Rattle.vx_cli.specs.Command.{Command, IsSpelled}
use Rattle.vx_cli.specs.Lines.{AreWatched, HasLastLine, HasLine, HasLines, IsHeard, is_watched}
use Rattle.vx_cli.proofs.Shown.{one_reading}

-- a write that was refused
refused : (old new : SinkState) (bytes : List ℕ) (e : SinkFault) → IsPut {T = Unit {0}} old new bytes (Err e) → HasRefused old new
refused old new bytes Failed h = inl (h.counted.failed refl)
refused old new bytes NoMemory h = inr (h.counted.no_memory refl)

last_line : (old new : SinkState) (status : Status) (r : Result (Unit {0}) SinkFault) → IsPut old new (line_of status) r → HasLastLine old new status
last_line old new status (Ok tt) h = inl h.ok
last_line old new status (Err e) h = inr (refused old new (line_of status) e h, h.err)

-- counts of refusals only rise
still_refused : (a b c : SinkState) (bytes : List ℕ) (r : Result (Unit {0}) SinkFault) → HasRefused a b → IsPut b c bytes r → HasRefused a c
still_refused a b c bytes r (inl rose) h = let more = h.counted.faults in inl (omega (arith, rose, more))
still_refused a b c bytes r (inr rose) h = let more = h.counted.shortages in inr (omega (arith, rose, more))

lines_told : (a b c : SinkState) (status : Status) (r : Result (Unit {0}) SinkFault) → HasWatched a b → IsPut b c (line_of status) r → HasLines a c status
lines_told a b c status r told h = by told.lines.heard r h
  where
    by : Gains a b (flat_map progress_line told.list) ⊎ HasRefused a b → (r : Result (Unit {0}) SinkFault) → IsPut b c (line_of status) r → HasLines a c status
    by (inr rose) r h = inr (still_refused a b c (line_of status) r rose h)
    by (inl gains) (Ok tt) h = inl (told.list, told.after, gains_then a b c (flat_map progress_line told.list) (line_of status) gains h.ok)
    by (inl gains) (Err e) h = inr (behind (refused b c (line_of status) e h))
      where
        behind : HasRefused b c → HasRefused a c
        behind (inl rose) = let before = told.lines.faults in inl (omega (arith, rose, before))
        behind (inr rose) = let before = told.lines.shortages in inr (omega (arith, rose, before))

silent : (a b c : SinkState) (status : Status) (r : Result (Unit {0}) SinkFault) → b ≡ a → IsPut b c (line_of status) r → HasLastLine a c status
silent a b c status r same h = subst (λ s. HasLastLine s c status) same (last_line b c status r h)

pub lined : (words : List (List ℕ)) (a b c : SinkState) (status : Status) (r : Result (Unit {0}) SinkFault) → IsHeard words a b → IsPut b c (line_of status) r → HasLine words a c status
lined words a b c status r (inl unread) h = record { watched = λ w. absurd (unread.0 w.0 w.1); unwatched = λ _. silent a b c status r unread.1 h }
lined words a b c status r (inr read) h = record { watched = λ w. watched w; unwatched = λ not. by (is_watched read.0) refl read.2 not }
  where
    told_true : (watched : Bool) → watched ≡ true → HasTold watched a b → HasWatched a b
    told_true true e told = told
    told_true false e told = absurd (true≢false (sym e))

    watched : AreWatched words → HasLines a c status
    watched w =
        let same : w.0 ≡ read.0 = one_reading words w.0 read.0 w.1 read.1 in
        lines_told a b c status r (told_true (is_watched read.0) (sym (ap is_watched same) ∙ w.2) read.2) h

    by : (watched : Bool) → is_watched read.0 ≡ watched → HasTold watched a b → (AreWatched words → ⊥) → HasLastLine a c status
    by true e told not = absurd (not (read.0, read.1, e))
    by false e told not = silent a b c status r told h
