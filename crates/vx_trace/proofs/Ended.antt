-- What a run came to, and its trace.
use Rattle.std.proofs.Common.{◌≡◌, ℕ, true, List, refl, ap, ◌∙◌}
use Rattle.std.proofs.lemmas.Result.{IfOk-weaker}
use Rattle.std.specs.Global.{Vec}
use Rattle.std.specs.Prelude.{IfOk, None, Option, Result, Some, ◌≢◌}
use Rattle.vx_java.specs.Machine as machine
use Rattle.vx_java.specs.Step.{Live, Over, Run, result, steps}
use Rattle.vx_lines.specs.declared.table.LineTable.{LineTable}
use Rattle.vx_link.specs.declared.program.Program.{Program}
use Rattle.vx_noted.specs.Runs.{is_over, left_of}
use Rattle.vx_noted.specs.declared.leaving.Left.{Left}
use Rattle.vx_replay.specs.Replays.{IsReplay, places_in}
use Rattle.vx_replay.specs.declared.running.Replay.{Replay}
use Rattle.vx_trace.specs.TraceText.{end_text, exception_text, noted_lines, text_by, thrown_by, traced_text}
use Rattle.vx_value.specs.declared.end.End.{End}
use Rattle.vx_value.specs.declared.end.End.TheVariants.{Exit, Illegal, Return, Uncaught, Unfinished, Unsupported}

pub over_by_end : (r : Run) (end : End) (class : List ℕ) → end ≡ (result r).end → end ≡ Uncaught class → is_over r ≡ true
over_by_end (Live g) end class is uncaught = cc
over_by_end (Over e g) end class is uncaught = refl

pub nothing_thrown : (p : Program) (r : Run) (end : End) → ((class : List ℕ) → end ≢ Uncaught class) → None ≡ thrown_by p r end
nothing_thrown p r (Uncaught class) other = absurd (other class refl)
nothing_thrown p r Return other = refl
nothing_thrown p r (Exit code) other = refl
nothing_thrown p r (Unsupported word what place) other = refl
nothing_thrown p r (Illegal place) other = refl
nothing_thrown p r Unfinished other = refl

module _ {E : Type 0} (p : Program) (tables : List LineTable) (files : List (Option (List ℕ))) (n : ℕ) (first : Run) (replay : Replay) (text : Result (Vec ℕ) E) (is : IsReplay (steps p n first) replay) where
  abbrev last : Run
  last = steps p n first

  whole : (left : Option (machine.State × ℕ)) → left ≡ thrown_by p last replay.end → text_by p tables files n first last left ≡ traced_text p tables files n first
  unfolding traced_text
  whole left e = ap (text_by p tables files n first last) (e ∙ ap (thrown_by p last) is.end)

  pub of_exception : (left : Left) → Some (left_of left) ≡ thrown_by p last replay.end → IfOk text (λ t. t.items ≡ exception_text p (left_of left).0 (noted_lines p tables files n first (left_of left).0) (left_of left).1)
      → IfOk text (λ t. t.items ≡ traced_text p tables files n first)
  of_exception left e =
      IfOk-weaker text (λ t. t.items ≡ exception_text p (left_of left).0 (noted_lines p tables files n first (left_of left).0) (left_of left).1) (λ t. t.items ≡ traced_text p tables files n first) (λ t h. h ∙ whole (Some (left_of left)) e)

  pub of_end : None ≡ thrown_by p last replay.end → IfOk text (λ t. t.items ≡ end_text p tables files replay.end (places_in replay.frames.items)) → IfOk text (λ t. t.items ≡ traced_text p tables files n first)
  of_end e =
      IfOk-weaker text (λ t. t.items ≡ end_text p tables files replay.end (places_in replay.frames.items)) (λ t. t.items ≡ traced_text p tables files n first)
      (λ t h. h ∙ (λ i. end_text p tables files (is.end i) (is.frames i)) ∙ whole None e)
