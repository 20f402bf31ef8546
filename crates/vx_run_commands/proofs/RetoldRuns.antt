-- What `replay` or `trace` made of a model, a configuration and class files, in terms of its plan.
use Rattle.std.proofs.Common.{Bool, Err, Global, IfErr, IfOk, List, MatchResult, None, Ok, Option, Result, Some, Vec, ap, arith, length, map, refl, sym, ℕ, ◌∙◌, ◌≡◌, ◌≤◌, ◌⊎◌}
use Rattle.std.proofs.lemmas.List.{length-map}
use Rattle.std.proofs.lemmas.List.Elements.{All-map}
use Rattle.std.specs.List.{list_all}
use Rattle.std.specs.Prelude.{All}
use Rattle.vx_class.specs.File.{Holds}
use Rattle.vx_class.specs.declared.class_file.Code.{Code}
use Rattle.vx_families.specs.Bounds as bounds
use Rattle.vx_java.specs.Ids.{HasClassNumbers}
use Rattle.vx_link.specs.CoreFiles.{core_count}
use Rattle.vx_link.specs.declared.program.LinkedMethod.{LinkedMethod}
use Rattle.vx_plain_tables.specs.Tables.{IsShort, has_short_bytes, has_short_code}
use Rattle.vx_program_bounds.specs.Law.{LinkedAreBounded}
use Rattle.vx_io.specs.Held.{FilesState}
use Rattle.vx_link.specs.declared.program.Program.{Program}
use Rattle.vx_model.specs.Models.{IsModel}
use Rattle.vx_model.specs.declared.model.Model.{Model}
use Rattle.vx_plans.specs.Job.{Exactly, IsNoProgram, slashed}
use Rattle.vx_plans.specs.KeepsFiles.{KeepsFiles}
use Rattle.vx_plans.specs.Plan.{Leads, MayGive, MayStop, Plan, Write, attempt, done_with}
use Rattle.vx_run_commands.specs.Retell.{IsRetoldOf, allowed_at, read_choice, retell_classes, retell_plan, retold_text, traced_program}
use Rattle.vx_inputs.specs.Folder.{read_folder}
use Rattle.vx_inputs.specs.Traced.{traced_of}
use Rattle.vx_inputs.specs.ModelFile.{read_any_model}
use Rattle.vx_run_commands.specs.declared.retell.Chosen.{Chosen}
use Rattle.vx_run_commands.specs.declared.words.Retelling.{Retelling}
use Rattle.vx_plans.specs.declared.status.Status.{Status}
use Rattle.vx_plans.specs.declared.status.Status.TheVariants.{NoMemory}
use Rattle.vx_inputs.specs.declared.taken.Traced.{Traced}
use Rattle.vx_plans.proofs.Plans.{attempt_goes, keeps_then, leads_before, then_leads, value_stops}
use Rattle.vx_plans.proofs.Linked.{linked_is}

-- ---- the configuration

-- the model, and the configuration that a word names, or the refusal
abbrev pub IsChosen : Model → List ℕ → Result Chosen Status → Type 0
IsChosen model word r = MatchResult r (λ chosen. (chosen.model ≡ model) × (allowed_at model word ≡ Ok chosen.values.items)) (λ status. (status ≡ NoMemory) ⊎ (allowed_at model word ≡ Err status))

pub choice_lawful : (model : Model) (word : List ℕ) (r : Result Chosen Status) → IsModel model → IsChosen model word r → IfOk r (λ chosen. IsModel chosen.model)
choice_lawful model word (Err e) lawful made = tt
choice_lawful model word (Ok chosen) lawful made = rw made.0 lawful

pub choice_ok : (old : FilesState) (path word : List ℕ) (model : Model) (r : Result Chosen Status) → ((next : Model → Plan) → Leads old.held (read_any_model path next) (next model)) → IsChosen model word r
    → IfOk r (λ chosen. (next : Model → List Bool → Plan) → Leads old.held (read_choice path word next) (next chosen.model chosen.values.items))
choice_ok old path word model (Err e) leads made = tt
choice_ok old path word model (Ok chosen) leads made =
    λ next. rw made.0 (then_leads (leads (λ m. attempt (allowed_at m word) (next m))) (attempt_goes old.held (allowed_at model word) (next model) chosen.values.items made.1))

pub choice_err : (old new : FilesState) (path word : List ℕ) (model : Model) (r : Result Chosen Status) → KeepsFiles old new → ((next : Model → Plan) → Leads old.held (read_any_model path next) (next model)) → IsChosen model word r
    → IfErr r (λ status. (next : Model → List Bool → Plan) → MayStop old new (read_choice path word next) status)
choice_err old new path word model (Ok chosen) keeps leads made = tt
choice_err old new path word model (Err status) keeps leads made = λ next. value_stops old new (read_choice path word next) (allowed_at model word) (next model) status keeps (leads (λ m. attempt (allowed_at m word) (next m))) made

-- ---- the plan

-- the text of the run, or the refusal of the class files
abbrev pub IsRetold : Retelling → (main : List ℕ) (limit : ℕ) → Model → List Bool → List Traced → Result (Vec ℕ Global) Status → Type 0
IsRetold retelling main limit model c traced r = MatchResult r (λ text. IsRetoldOf retelling main limit model c traced text.items) (IsNoProgram main model (map (λ (t : Traced). t.class) traced))

pub retold_ok : (old mid new : FilesState) (retelling : Retelling) (folder path main : List ℕ) (limit : ℕ) (word : List ℕ) (model : Model) (c : List Bool) (traced : List Traced) (r : Result (Vec ℕ Global) Status) → KeepsFiles old mid
    → ((next : Model → List Bool → Plan) → Leads old.held (read_choice path word next) (next model c)) → ((next : List Traced → Plan) → Leads mid.held (read_folder traced_of folder next) (next traced))
    → IsRetold retelling main limit model c traced r → IfOk r (λ text. MayGive old.held old.faults new.faults (retell_plan retelling folder path main limit word) (done_with text.items))
retold_ok old mid new retelling folder path main limit word model c traced (Err e) keeps chosen found made = tt
retold_ok old mid new retelling folder path main limit word model c traced (Ok text) keeps chosen found made =
    let there = then_leads (chosen (λ m d. read_folder traced_of folder (retell_classes retelling main limit m d))) (leads_before keeps (found (retell_classes retelling main limit model c))) in
    (then_leads there (attempt_goes old.held (traced_program main model traced) (λ p. Write (Exactly (retold_text retelling limit c traced p))) made.program made.is_program)).to old.faults new.faults (done_with text.items) (text.items, made.is_text, refl)

pub retold_err : (old mid new : FilesState) (retelling : Retelling) (folder path main : List ℕ) (limit : ℕ) (word : List ℕ) (model : Model) (c : List Bool) (traced : List Traced) (r : Result (Vec ℕ Global) Status) → KeepsFiles old mid → KeepsFiles mid new
    → ((next : Model → List Bool → Plan) → Leads old.held (read_choice path word next) (next model c)) → ((next : List Traced → Plan) → Leads mid.held (read_folder traced_of folder next) (next traced))
    → IsRetold retelling main limit model c traced r → IfErr r (λ status. MayStop old new (retell_plan retelling folder path main limit word) status)
retold_err old mid new retelling folder path main limit word model c traced (Ok text) keeps more chosen found made = tt
retold_err old mid new retelling folder path main limit word model c traced (Err status) keeps more chosen found made =
    let there = then_leads (chosen (λ m d. read_folder traced_of folder (retell_classes retelling main limit m d))) (leads_before keeps (found (retell_classes retelling main limit model c))) in
    value_stops old new (retell_plan retelling folder path main limit word) (traced_program main model traced) (λ p. Write (Exactly (retold_text retelling limit c traced p))) status (keeps_then keeps more) there made

-- ---- the run

same_test : (code : Option Code) → bounds.has_short_code code ≡ has_short_bytes code
same_test None = refl
same_test (Some code) = refl

short_codes : (methods : List LinkedMethod) → list_all (λ m. bounds.has_short_code m.code) methods ≡ list_all has_short_code methods
short_codes methods = ap (λ (f : LinkedMethod → Bool). list_all f methods) (λ i m. same_test m.code i)

-- what the run of a linked program asks of it
pub record CanBeRun (p : Program) : Type 0 where
  pub classes : HasClassNumbers p
  pub core : core_count ≤ length p.classes
  pub short : IsShort p

pub can_be_run : (main : List ℕ) (model : Model) (traced : List Traced) (p : Program) → LinkedAreBounded → length traced ≤ 1024 → All (λ (t : Traced). Holds t.class) traced → traced_program main model traced ≡ Ok p → CanBeRun p
can_be_run main model traced p law few read e =
    let classes = map (λ (t : Traced). t.class) traced in
    let count : length classes ≡ length traced = length-map traced (λ (t : Traced). t.class) in
    let bounded = (law classes model.options (slashed main) p (omega (arith, few, count)) (All-map Holds (λ (t : Traced). t.class) traced read) (linked_is main model classes p e)).0 in
    record { classes = bounded.classes; core = bounded.core; short = record { descriptors = bounded.signatures; codes = sym (short_codes p.methods) ∙ bounded.codes } }

pub of_retold : (retelling : Retelling) (main : List ℕ) (limit : ℕ) (model : Model) (c : List Bool) (traced : List Traced) (p : Program) (text : List ℕ) → traced_program main model traced ≡ Ok p → text ≡ retold_text retelling limit c traced p
    → IsRetoldOf retelling main limit model c traced text
of_retold retelling main limit model c traced p text linked made = record { program = p; is_program = linked; is_text = made }
