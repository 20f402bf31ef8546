-- What `asm` wrote is read as the class that its source names.
use Rattle.std.proofs.Common.{◌≡◌, ℕ, List, IfSome, Result, Ok, Err, Some, ap, refl, sym, subst, ◌∙◌}
use Rattle.vx_asm.specs.Source.{Fault, named}
use Rattle.vx_assembled.proofs.Whole.{assembled_read}
use Rattle.vx_class.specs.declared.class_file.ClassFile.{ClassFile}
use Rattle.vx_class.specs.Class.{class_of}
use Rattle.vx_io.specs.Held.{FilesState, Held, contents}
use Rattle.vx_io.specs.Sink.{Gains, SinkState}
use Rattle.vx_writer.specs.Written.{spelling}
use Rattle.vx_report_commands.specs.Assemble.{or_bad_source}
use Rattle.vx_cli.specs.Causes.{IsAssembled, IsClassWritten, IsShown}
use Rattle.vx_cli.specs.Command.{Asm}
use Rattle.vx_cli.specs.Ends.{Ends}
use Rattle.vx_cli.specs.PlanOf.{plan_of}
use Rattle.vx_plans.specs.declared.status.Status.{Status}
use Rattle.vx_plans.specs.declared.status.Status.TheVariants.{Done}
use Rattle.vx_cli.proofs.Shown.{call_shows}

-- the class whose spelling the text is
class_there : (r : Result ClassFile Fault) (text : List ℕ) → or_bad_source r ≡ Ok text → (class : ClassFile) × (r ≡ Ok class) × (spelling class ≡ text)
class_there (Ok class) text e = (class, refl, cc)
class_there (Err fault) text e = absurd cc

class_written : (held : Held) (source : List ℕ) (out out' : SinkState) (text : List ℕ) → IsAssembled held source text → Gains out out' text → IsClassWritten held source out out'
class_written held source out out' text is gained =
    let class = class_there (named (contents held source)) text is.is_text in
    record {
      class = class.0;
      is_named = class.1;
      text = text;
      gained = gained;
      read = ap class_of (sym class.2) ∙ (assembled_read (contents held source) class.0 class.1).read;
    }

-- a call that is done has written the class
pub done_class : (old new : FilesState) (out out' : SinkState) (source : List ℕ) (status : Status) → Ends old new out out' (plan_of (Asm source)) status → (held : Held) → old.held ≡ Some held → status ≡ Done
    → IsClassWritten held source out out'
done_class old new out out' source status ends held told done =
    by_text (there (λ files. (text : List ℕ) × IsAssembled files source text × Gains out out' text)
    (subst (λ s. IsShown old new out out' (Asm source) s) done (call_shows old new out out' (Asm source) status ends)))
  where
    there : (P : Held → Type 0) → IfSome old.held P → P held
    there P h = rw told at h

    by_text : (text : List ℕ) × IsAssembled held source text × Gains out out' text → IsClassWritten held source out out'
    by_text h = class_written held source out out' h.0 h.1 h.2
