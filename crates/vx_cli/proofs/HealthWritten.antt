-- What `doctor` wrote, and what it tells of runs.
use Rattle.std.proofs.Common.{◌≡◌, ◌++◌, ◌⊎◌, ℕ, List, Ok, Err, Some, inl, inr, ap, sym, subst, map, ◌∙◌, append_assoc}
use Rattle.std.proofs.lemmas.List.Elements.{All-map}
use Rattle.std.specs.Prelude.{codes}
use Rattle.vx_class.specs.File.{Holds}
use Rattle.vx_inputs.specs.declared.taken.Traced.{Traced}
use Rattle.vx_io.specs.Held.{FilesState, Held, contents}
use Rattle.vx_io.specs.Sink.{Gains, SinkState}
use Rattle.vx_java.specs.Step.{Config, run}
use Rattle.vx_lines.specs.declared.table.LineTable.{LineTable}
use Rattle.vx_link.specs.declared.program.Program.{Program}
use Rattle.vx_plans.proofs.Linked.{linked_is}
use Rattle.vx_plans.specs.Health.{classes_part, last_line, main_text}
use Rattle.vx_plans.specs.Job.{is_dimacs_path, slashed}
use Rattle.vx_plans.specs.Plan.{MayGive, Outcome, Plan, Said}
use Rattle.vx_plans.specs.declared.status.Status.TheVariants.{Done, NoMemory, WriteFault}
use Rattle.vx_plans.specs.declared.status.Status.{Status}
use Rattle.vx_doctor_command.specs.Doctor.{classes_of, doctor_plan}
use Rattle.vx_spots.specs.Law.{EndsAreTold, IsEndTold, StandBelow}
use Rattle.vx_value.specs.declared.end.End.TheVariants.{Unsupported}
use Rattle.vx_cli.specs.Causes.{DoctorCause, IsHealth, IsHealthWritten, IsToldStatus}
use Rattle.vx_cli.specs.Ends.{Ends, IsDelivered}
use Rattle.vx_cli.proofs.DoctorShown.{DoctorGave, IsHealthRead, doctor_gave, health_read}
use Rattle.vx_cli.proofs.FolderShown.{AreRead}

-- lines that stand in a text stand in a longer one
below_more : (before behind lines whole : List ℕ) → StandBelow lines whole → StandBelow lines (before ++ whole ++ behind)
below_more before behind lines whole h =
    let nl = codes "\n" in
    record {
      front = before ++ h.front;
      behind = h.behind ++ behind;
      is =
          ap (λ w. before ++ w ++ behind) h.is ∙ ap (λ x. x ++ behind) (sym (append_assoc before (h.front ++ nl) (lines ++ h.behind)))
          ∙ append_assoc (before ++ (h.front ++ nl)) (lines ++ h.behind) behind
          ∙ ap (λ x. before ++ (h.front ++ nl) ++ x) (append_assoc lines h.behind behind)
          ∙ ap (λ x. x ++ (lines ++ (h.behind ++ behind))) (sym (append_assoc before h.front nl));
    }

told_more : (p : Program) (tables : List LineTable) (word : ℕ) (what place before behind text : List ℕ) → IsEndTold p tables word what place text → IsEndTold p tables word what place (before ++ text ++ behind)
told_more p tables word what place before behind text h =
    record { lines = h.lines; line = h.line; among = h.among; lacks = h.lacks; there = h.there; stand = below_more before behind _ text h.stand }

-- each end as unsupported of a run of the program is told
ends_told : EndsAreTold → (held : Held) (folder path main text : List ℕ) (h : IsHealth held folder path main text) → AreRead (λ (t : Traced). t.class) h.traced → (c : Config) (limit word : ℕ) (what place : List ℕ)
    → (run h.program c limit).end ≡ Unsupported word what place → IsEndTold h.program (map (λ t. t.lines) h.traced) word what place text
ends_told law held folder path main text h read c limit word what place ends =
    let tables = map (λ (t : Traced). t.lines) h.traced in
    let told = law (classes_of h.traced) h.model.options (slashed main) h.program c limit word what place tables h.is_text.marks h.is_text.lacks (All-map Holds (λ (t : Traced). t.class) h.traced read)
    (linked_is main h.model (classes_of h.traced) h.program h.is_program) ends h.is_text.lacking in
    subst (λ (t : List ℕ). IsEndTold h.program tables word what place t) (sym h.is_text.is)
    (told_more h.program tables word what place (classes_part (is_dimacs_path path) (contents held path) h.model (classes_of h.traced) ++ main_text (slashed main)) (last_line Done) h.is_text.lacks told)

-- what was written of good files tells of runs
written : EndsAreTold → (held : Held) (folder path main text : List ℕ) (out out' : SinkState) → IsHealthRead held folder path main text → Gains out out' text → IsHealthWritten held folder path main out out'
written law held folder path main text out out' r gained = record { text = text; health = r.health; gained = gained; told = ends_told law held folder path main text r.health r.read }

not_told : (s : Status) → s ≡ Done → IsToldStatus s → ⊥
not_told s e h = rw e at h

-- what is said is no refusal, and Done none of two statuses
said_is_none : (said : Said) (e : Status) → ◌≡◌ {A = Outcome} (Ok said) (Err e) → ⊥
said_is_none said e is = cc

same_refusal : (e other : Status) → ◌≡◌ {A = Outcome} (Err e) (Err other) → e ≡ other
same_refusal e other is = cc

not_fault : ◌≡◌ {A = Status} Done WriteFault → ⊥
not_fault is = cc

not_memory : ◌≡◌ {A = Status} Done NoMemory → ⊥
not_memory is = cc

-- a call that is done has written what is told, whatever its plan is that gave this
written_by : EndsAreTold → (plan : Plan) (old new : FilesState) (out out' : SinkState) (folder path main : List ℕ) (status : Status) → ((outcome : Outcome) → MayGive old.held old.faults new.faults plan outcome → DoctorGave old new folder path main outcome)
    → Ends old new out out' plan status → (held : Held) → old.held ≡ Some held → status ≡ Done → IsHealthWritten held folder path main out out'
written_by law plan old new out out' folder path main status gives ends held told done = by_outcome ends.outcome ends.given ends.delivered
  where
    by_gave : (said : Said) → DoctorGave old new folder path main (Ok said) → status ≡ said.1 → Gains out out' said.0 → IsHealthWritten held folder path main out out'
    by_gave said (inl h) is gained = written law held folder path main said.0 out out' (health_read old held folder path main said.0 told h.1) gained
    by_gave said (inr h) is gained = absurd (not_told said.1 (sym is ∙ done) h.0)

    by_outcome : (outcome : Outcome) → (outcome ≡ Err NoMemory) ⊎ MayGive old.held old.faults new.faults plan outcome → IsDelivered out out' outcome status → IsHealthWritten held folder path main out out'
    by_outcome (Ok said) (inl n) d = absurd (said_is_none said NoMemory n)
    by_outcome (Ok said) (inr g) (inl d) = by_gave said (gives (Ok said) g) d.0 d.1
    by_outcome (Ok said) (inr g) (inr (inl d)) = absurd (not_fault (sym done ∙ d.0))
    by_outcome (Ok said) (inr g) (inr (inr d)) = absurd (not_memory (sym done ∙ d.0))
    by_outcome (Err e) (inl n) d = absurd (not_memory (sym done ∙ d.0 ∙ same_refusal e NoMemory n))
    by_outcome (Err e) (inr g) d = absurd (subst (λ s. DoctorCause old new folder path s) (sym d.0 ∙ done) (gives (Err e) g))

pub done_health : EndsAreTold → (old new : FilesState) (out out' : SinkState) (folder path main : List ℕ) (status : Status) → Ends old new out out' (doctor_plan folder path main) status → (held : Held) → old.held ≡ Some held → status ≡ Done
    → IsHealthWritten held folder path main out out'
done_health law old new out out' folder path main status ends held told done = written_by law (doctor_plan folder path main) old new out out' folder path main status (doctor_gave old new folder path main) ends held told done
