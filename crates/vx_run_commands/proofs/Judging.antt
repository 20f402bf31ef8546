-- What `verify` made of a model and of class files, in terms of its plan; and that a program has one verdict.
use Rattle.std.proofs.Common.{Bool, Err, Global, IfErr, IfOk, List, MatchResult, None, Ok, Option, Result, Some, Vec, ap, arith, inl, inr, refl, sym, true, ℕ, ◌<◌, ◌∙◌, ◌≡◌, ◌⊎◌, ◌≤◌, length}
use Rattle.std.proofs.lemmas.Bool.{cases_lt}
use Rattle.std.specs.List.{list_all}
use Rattle.std.specs.Prelude.{All}
use Rattle.vx_class.specs.Class.{class_of}
use Rattle.vx_class.specs.File.{Holds}
use Rattle.vx_class.specs.declared.class_file.ClassFile.{ClassFile}
use Rattle.vx_class.specs.declared.class_file.Code.{Code}
use Rattle.vx_families.specs.Bounds as bounds
use Rattle.vx_java.specs.Ids.{HasClassNumbers}
use Rattle.vx_link.specs.declared.program.LinkedMethod.{LinkedMethod}
use Rattle.vx_link.specs.declared.program.Program.{Program}
use Rattle.vx_model.specs.declared.model.Model.{Model}
use Rattle.vx_program_bounds.specs.Law.{LinkedAreBounded}
use Rattle.vx_sound_classes.specs.Law.{LinkedHaveRanks}
use Rattle.vx_types.specs.Ranked.{HasRanks}
use Rattle.vx_verify.specs.Verdict.{IsVerdict, has_short_code}
use Rattle.vx_verify.specs.declared.verdict.Verdict.{Verdict}
use Rattle.vx_verify.specs.declared.verdict.Verdict.TheVariants.{No, Yes}
use Rattle.vx_plans.specs.Job.{IsNoProgram, Judged, program_in, slashed}
use Rattle.vx_plans.specs.KeepsFiles.{KeepsFiles}
use Rattle.vx_plans.specs.Plan.{Leads, MayGive, MayStop, Plan, Write, done_with}
use Rattle.vx_inputs.specs.Folder.{read_folder}
use Rattle.vx_plans.specs.Verdicts.{IsVerdictText, refused_text, verdict_text}
use Rattle.vx_run_commands.specs.Verify.{IsVerdictOf, judge_classes, verify_plan}
use Rattle.vx_inputs.specs.ModelFile.{read_any_model}
use Rattle.vx_plans.specs.declared.status.Status.{Status}
use Rattle.vx_plans.specs.declared.status.Status.TheVariants.{NoMemory}
use Rattle.vx_plans.proofs.Plans.{attempt_goes, keeps_then, then_leads, value_stops}
use Rattle.vx_plans.proofs.Linked.{linked_is}
use Rattle.vx_io.specs.Held.{FilesState}

same_test : (code : Option Code) → bounds.has_short_code code ≡ has_short_code code
same_test None = refl
same_test (Some code) = refl

short_codes : (methods : List LinkedMethod) → list_all (λ m. bounds.has_short_code m.code) methods ≡ list_all (λ m. has_short_code m.code) methods
short_codes methods = ap (λ (f : LinkedMethod → Bool). list_all f methods) (λ i m. same_test m.code i)

-- what the verdict over a linked program asks of it
pub record CanBeJudged (p : Program) : Type 0 where
  pub classes : HasClassNumbers p
  pub ranked : HasRanks p
  pub codes : list_all (λ m. has_short_code m.code) p.methods ≡ true

pub can_be_judged : (main : List ℕ) (model : Model) (classes : List ClassFile) (p : Program) → LinkedAreBounded → LinkedHaveRanks → length classes ≤ 1024 → All Holds classes → program_in main model classes ≡ Ok p → CanBeJudged p
can_be_judged main model classes p bounds ranks few read e =
    let linked = linked_is main model classes p e in
    let bounded = (bounds classes model.options (slashed main) p few read linked).0 in
    record { classes = bounded.classes; ranked = ranks classes model.options (slashed main) p read linked; codes = sym (short_codes p.methods) ∙ bounded.codes }

pub of_judged : (main : List ℕ) (model : Model) (classes : List ClassFile) (p : Program) (r : Result (Vec ℕ Global) Status) → program_in main model classes ≡ Ok p
    → MatchResult r (λ text. IsVerdictText p text.items) (λ status. status ≡ NoMemory) → MatchResult r (λ text. IsVerdictOf main model classes text.items) (IsNoProgram main model classes)
of_judged main model classes p (Ok text) linked made = record { program = p; is_program = linked; is_text = made }
of_judged main model classes p (Err status) linked made = inl made

pub verify_ok : (old mid new : FilesState) (folder path main : List ℕ) (model : Model) (classes : List ClassFile) (r : Result (Vec ℕ Global) Status) → KeepsFiles old mid
    → ((next : Model → Plan) → Leads old.held (read_any_model path next) (next model)) → ((next : List ClassFile → Plan) → Leads mid.held (read_folder class_of folder next) (next classes))
    → MatchResult r (λ text. IsVerdictOf main model classes text.items) (IsNoProgram main model classes) → IfOk r (λ text. MayGive old.held old.faults new.faults (verify_plan folder path main) (done_with text.items))
verify_ok old mid new folder path main model classes (Err e) keeps modeled found made = tt
verify_ok old mid new folder path main model classes (Ok text) keeps modeled found made =
    let there = then_leads (modeled (λ m. read_folder class_of folder (judge_classes main m))) (rw keeps.held at (found (judge_classes main model))) in
    (then_leads there (attempt_goes old.held (program_in main model classes) (λ p. Write (Judged p)) made.program made.is_program)).to old.faults new.faults (done_with text.items) (text.items, made.is_text, refl)

pub verify_err : (old mid new : FilesState) (folder path main : List ℕ) (model : Model) (classes : List ClassFile) (r : Result (Vec ℕ Global) Status) → KeepsFiles old mid → KeepsFiles mid new
    → ((next : Model → Plan) → Leads old.held (read_any_model path next) (next model)) → ((next : List ClassFile → Plan) → Leads mid.held (read_folder class_of folder next) (next classes))
    → MatchResult r (λ text. IsVerdictOf main model classes text.items) (IsNoProgram main model classes) → IfErr r (λ status. MayStop old new (verify_plan folder path main) status)
verify_err old mid new folder path main model classes (Ok text) keeps more modeled found made = tt
verify_err old mid new folder path main model classes (Err status) keeps more modeled found made =
    let there = then_leads (modeled (λ m. read_folder class_of folder (judge_classes main m))) (rw keeps.held at (found (judge_classes main model))) in
    value_stops old new (verify_plan folder path main) (program_in main model classes) (λ p. Write (Judged p)) status (keeps_then keeps more) there made

-- the first method that has no typing is one
one_verdict : (p : Program) (v w : Verdict) → IsVerdict p v → IsVerdict p w → verdict_text p v ≡ verdict_text p w
one_verdict p Yes Yes h k = refl
one_verdict p Yes (No m) h k = absurd (k.untyped (h m.0))
one_verdict p (No m) Yes h k = absurd (h.untyped (k m.0))
one_verdict p (No m) (No n) h k = by (cases_lt m.0 n.0) (cases_lt n.0 m.0)
  where
    by : (m.0 < n.0) ⊎ (n.0 ≤ m.0) → (n.0 < m.0) ⊎ (m.0 ≤ n.0) → verdict_text p (No m) ≡ verdict_text p (No n)
    by (inl l) o = absurd (h.untyped (k.earlier m.0 l))
    by (inr l) (inl o) = absurd (k.untyped (h.earlier n.0 o))
    by (inr l) (inr o) = let same : m.0 ≡ n.0 = omega (arith, l, o) in ap (refused_text p) same

pub one_verdict_text : (p : Program) (one other : List ℕ) → IsVerdictText p one → IsVerdictText p other → one ≡ other
one_verdict_text p one other h k = h.2 ∙ one_verdict p h.0 k.0 h.1 k.1 ∙ sym k.2
