-- What `verify` wrote, and what it says of runs.
use Rattle.std.proofs.Common.{◌≡◌, ℕ, List, IfSome, Ok, Err, Some, inl, inr, ◌⊎◌, ap, sym, subst, ◌∙◌, arith, slice_get, unwrap_or}
use Rattle.std.specs.Prelude.{All}
use Rattle.vx_class.specs.File.{Holds}
use Rattle.vx_class.specs.declared.class_file.ClassFile.{ClassFile}
use Rattle.vx_io.specs.Held.{FilesState, Held}
use Rattle.vx_io.specs.Sink.{Gains, SinkState}
use Rattle.vx_link.specs.declared.program.Program.{Program}
use Rattle.vx_model.specs.declared.model.Model.{Model}
use Rattle.vx_sound_linked.proofs.Whole.{linked_never_illegal}
use Rattle.vx_verify.specs.Verdict.{IsVerdict, IsVerified}
use Rattle.vx_verify.specs.declared.verdict.Verdict.{Verdict}
use Rattle.vx_verify.specs.declared.verdict.Verdict.TheVariants.{No, Yes}
use Rattle.vx_cli.specs.Causes.{AreAll, IsModelOf, IsVerdictWritten, VerifyCause}
use Rattle.vx_cli.specs.Ends.{Ends, IsDelivered}
use Rattle.vx_plans.specs.Job.{slashed}
use Rattle.vx_plans.specs.Plan.{MayGive, Outcome}
use Rattle.vx_plans.specs.Verdicts.{IsSoundText, VERIFIED, verdict_text}
use Rattle.vx_run_commands.specs.Verify.{IsVerdictOf, verify_plan}
use Rattle.vx_plans.specs.declared.status.Status.{Status}
use Rattle.vx_plans.specs.declared.status.Status.TheVariants.{Done, NoMemory, WriteFault}
use Rattle.vx_plans.proofs.Linked.{linked_is}
use Rattle.vx_cli.proofs.VerifyShown.{IsJudged, verify_gave}

-- the first bytes of the two lines
apart : ◌≡◌ {A = ℕ} 118 114 → ⊥
apart e = omega (arith, e)

-- only the text of a verdict of yes is `verified`
says_yes : (p : Program) (verdict : Verdict) → VERIFIED ≡ verdict_text p verdict → IsVerdict p verdict → IsVerified p
says_yes p Yes e h = h
says_yes p (No m) e h = absurd (apart (ap (λ (text : List ℕ). unwrap_or (slice_get text 0) 0) e))

-- where it is, no run of a program that classes link to, as a reading gives them, ends as illegal
verdict_is_sound : (main : List ℕ) (model : Model) (classes : List ClassFile) (text : List ℕ) (judged : IsVerdictOf main model classes text) → All Holds classes → IsSoundText judged.program text
verdict_is_sound main model classes text judged read says =
    let made = judged.is_text in
    linked_never_illegal classes model.options (slashed main) judged.program read (linked_is main model classes judged.program judged.is_program) (says_yes judged.program made.0 (sym says ∙ made.2) made.1)

-- a call that is done has written the verdict
pub done_verdict : (old new : FilesState) (out out' : SinkState) (folder path main : List ℕ) (status : Status) → Ends old new out out' (verify_plan folder path main) status → (held : Held) → old.held ≡ Some held → status ≡ Done
    → IsVerdictWritten held folder path main out out'
done_verdict old new out out' folder path main status ends held told done = by_outcome ends.outcome ends.given ends.delivered
  where
    there : (P : Held → Type 0) → IfSome old.held P → P held
    there P h = rw told at h

    by_text : (text : List ℕ) → IsJudged old folder path main text → Gains out out' text → IsVerdictWritten held folder path main out out'
    by_text text gave gained = record {
      text = text;
      verification = record {
        model = gave.model;
        modeled = there (λ files. IsModelOf files path gave.model) gave.modeled;
        paths = gave.paths;
        classes = gave.classes;
        all = there (λ files. AreAll files folder gave.paths gave.classes) gave.all;
        judged = gave.judged;
      };
      gained = gained;
      sound = verdict_is_sound main gave.model gave.classes text gave.judged gave.read;
    }

    by_outcome : (outcome : Outcome) → (outcome ≡ Err NoMemory) ⊎ MayGive old.held old.faults new.faults (verify_plan folder path main) outcome → IsDelivered out out' outcome status → IsVerdictWritten held folder path main out out'
    by_outcome (Ok said) (inl n) d = cc
    by_outcome (Ok said) (inr g) (inl d) = by_text said.0 (verify_gave old new folder path main (Ok said) g).1 d.1
    by_outcome (Ok said) (inr g) (inr (inl d)) = let clash : Done ≡ WriteFault = sym done ∙ d.0 in cc
    by_outcome (Ok said) (inr g) (inr (inr d)) = let clash : Done ≡ NoMemory = sym done ∙ d.0 in cc
    by_outcome (Err e) (inl n) d = let memory : e ≡ NoMemory = cc in let clash : Done ≡ NoMemory = sym done ∙ d.0 ∙ memory in cc
    by_outcome (Err e) (inr g) d = absurd (subst (λ s. VerifyCause old new folder path main s) (sym d.0 ∙ done) (verify_gave old new folder path main (Err e) g))
