-- What the plan of `asm` gave shows in terms of the files.
use Rattle.std.proofs.Common.{◌≡◌, ◌≤◌, ◌<◌, ℕ, List, length, IfSome, Some, Result, Ok, Err, inl, inr, ◌⊎◌, refl, ap, sym, ◌∙◌, arith}
use Rattle.vx_asm.specs.Source.{Fault, named}
use Rattle.vx_class.specs.declared.class_file.ClassFile.{ClassFile}
use Rattle.vx_io.specs.Held.{Held, FilesState, contents}
use Rattle.vx_io.specs.Sink.{SinkState}
use Rattle.vx_plans.specs.declared.status.Status.{Status}
use Rattle.vx_plans.specs.declared.status.Status.TheVariants.{Done, NoMemory, ReadFault, WriteFault, BadSource, TooLarge}
use Rattle.vx_report_commands.specs.Assemble.{or_bad_source, assembled, asm_plan}
use Rattle.vx_cli.specs.Causes.{AsmCause, Shows, IsShown, IsGood, NothingFails}
use Rattle.vx_cli.specs.Command.{Asm}
use Rattle.vx_plans.specs.Job.{Exactly}
use Rattle.vx_plans.specs.Plan.{MayGive, Write, attempt, Outcome}
use Rattle.vx_plans.specs.Sized.{most_bytes}
use Rattle.vx_plans.proofs.Told.{told_map, IsText, SizedShows, sized_shows, attempt_cases, ok_and_err}

-- a source is refused by its first bad line alone
source_refused : (r : Result ClassFile Fault) (status : Status) → or_bad_source r ≡ Err status → (line : ℕ) × (reason : ℕ) × (status ≡ BadSource line reason)
source_refused (Ok class) status e = cc
source_refused (Err fault) status e = (fault.line, fault.reason, cc)

-- whatever the plan of `asm` gave is shown by the files
pub asm_shows : (old new : FilesState) (path : List ℕ) (outcome : Outcome) → MayGive old.held old.faults new.faults (asm_plan path) outcome → Shows old new (Asm path) outcome
asm_shows old new path outcome g = by_file (sized_shows old new most_bytes path path _ outcome g)
  where
    refused : (status : Status) → outcome ≡ Err status → AsmCause old new path status → Shows old new (Asm path) outcome
    refused status e cause = rw e cause

    by_text : (bytes : List ℕ) → IsText old most_bytes path bytes
        → ((status : Status) × (assembled bytes ≡ Err status) × (outcome ≡ Err status)) ⊎ ((text : List ℕ) × (assembled bytes ≡ Ok text) × MayGive old.held old.faults new.faults (Write (Exactly text)) outcome)
        → Shows old new (Asm path) outcome
    by_text bytes told (inl bad) =
        let is = source_refused (named bytes) bad.0 bad.1 in
        refused (BadSource is.0 is.1) (bad.2 ∙ ap Err is.2) (told_map old.held _ _ (λ held h. (h.0, ap assembled (sym h.1) ∙ bad.1 ∙ ap Err is.2)) told)
    by_text bytes told (inr good) =
        rw good.2.2 (inl (refl, told_map old.held _ _ (λ held h. record { fits = h.0; is_text = ap assembled (sym h.1) ∙ good.1 ∙ ap Ok (sym good.2.1) }) told))

    by_file : SizedShows old new most_bytes path path (λ bytes. attempt (assembled bytes) (λ text. Write (Exactly text))) outcome → Shows old new (Asm path) outcome
    by_file (inl (inl fault)) = refused (ReadFault path) fault.1 (refl, fault.0)
    by_file (inl (inr large)) = refused (TooLarge path most_bytes) large.1 (refl, refl, large.0)
    by_file (inr read) = by_text read.0 read.1 (attempt_cases old.held old.faults new.faults (assembled read.0) _ outcome read.3)

-- an assembly of a good source, in which nothing fails, is done
pub asm_completes : (old new : FilesState) (out out' : SinkState) (path : List ℕ) (held : Held) (status : Status) → old.held ≡ Some held → IsGood held (Asm path) → NothingFails held old new out out' (Asm path)
    → IsShown old new out out' (Asm path) status → (status ≡ Done) ⊎ (status ≡ NoMemory)
asm_completes old new out out' path held status told good fails shown = by_status status shown
  where
    here : (P : Held → Type 0) → IfSome old.held P → P held
    here P h = rw told at h

    by_status : (s : Status) → IsShown old new out out' (Asm path) s → (s ≡ Done) ⊎ (s ≡ NoMemory)
    by_status Done h = inl refl
    by_status NoMemory h = inr refl
    by_status WriteFault h = absurd (fails.1 h.0)
    by_status (ReadFault p) h = absurd (omega (arith, h.0.1, fails.0))
    by_status (TooLarge p room) h = let k = here (λ held. most_bytes < length (contents held path)) h.0.2 in absurd (omega (arith, k, good.1.fits))
    by_status (BadSource line reason) h =
        let k = here (λ held. (length (contents held path) ≤ most_bytes) × (assembled (contents held path) ≡ Err (BadSource line reason))) h.0 in
        absurd (ok_and_err good.0 (BadSource line reason) (assembled (contents held path)) good.1.is_text k.1)
    by_status s h = absurd h.0
