-- The report of findings is what a report of all runs has to be.
use Rattle.std.proofs.Common.{◌≡◌, ℕ, ◌+◌, Bool, true, false, arith, cond, List, [], ◌∷◌, ◌++◌, Some, None, refl, sym, ap, ◌∙◌, subst, length, drop, filter, map, append-nil, append_assoc, Result, Ok, Err, Vec, Global, IfOk}
use Rattle.std.proofs.lemmas.Bool.Decides.{nat_tests}
use Rattle.std.specs.Ordering.{nat_cmp}
use Rattle.std.specs.Prelude.{nat_lt, option_map, not, ◌==◌, if◌then◌else◌}
use Rattle.std.specs.declared.cmp.Ordering.TheVariants.{Less}
use Rattle.vx_cond.specs.Leaves.{AreLeaves}
use Rattle.vx_findings.specs.Shared.{leaves_of}
use Rattle.std.specs.List.{list_all}
use Rattle.std.specs.declared.alloc.AllocError.{AllocError}
use Rattle.vx_space.specs.Sets.{AreKnown, Sets}
use Rattle.vx_bdd_tools.specs.declared.node.Node.{Node}
use Rattle.vx_bdd_tools.specs.Listing.{IsListing}
use Rattle.vx_bdd_tools.specs.Numbering.{HoldAll, IsNumbered}
use Rattle.vx_lockstep.proofs.Apart.{none_holds}
use Rattle.vx_lockstep.specs.Findings.{AreAllowed, AreFindings, FindingsView, report_by, shared_by}
use Rattle.vx_findings.specs.declared.shared.Shared.{Shared}
use Rattle.vx_findings.specs.declared.piece.Piece as written
use Rattle.vx_java.specs.Report.{attempts_shown, lock_report, projection_of}
use Rattle.vx_java.specs.Lockstep as lockstep
use Rattle.vx_java.specs.Step.{Config, run}
use Rattle.vx_link.specs.declared.program.Program.{Program}
use Rattle.vx_report.specs.Projection.{attempts_in, project}
use Rattle.vx_report.specs.Text.{report_text}
use Rattle.vx_report.specs.declared.report.Report.{Report}
use Rattle.vx_report_reader.proofs.Good.{lawful_good}
use Rattle.vx_report_reader.specs.Lawful.{EachFollows}
use Rattle.vx_report_reader.specs.Rules.{comes_after, is_above, is_less, last_of, roots_of}
use Rattle.vx_standing.specs.State.{configurations, shared_ids}
use Rattle.vx_value.specs.Ends.{compare_ends}
use Rattle.vx_reporting.specs.Listed.{attempts_line, end_line, lines_with, piece_line, report_with}
use Rattle.vx_reporting.specs.Fitting.{IsFitting}
use Rattle.vx_reporting.specs.Reported.{IsReportOf, IsReportable, IsReported, SaysLockstep, attempts_of, end_of, piece_of}
use Rattle.vx_reporting.proofs.Lawful.{IsReady, ended_there, lawful, spent_shown as spent_shown_by}
use Rattle.vx_reporting.proofs.OneText.{allowed_of}
use Rattle.vx_reporting.proofs.Rising.{lines_rise}
use Rattle.vx_reporting.proofs.Matching.{Hold, all_append, attempts_same, drop_more, end_same, held_nowhere, hold_behind, hold_first, hold_none, mapped_same, numbers_of, output_same, parts_of}

-- the sets of the numbers of attempts, which version 2 alone shows
abbrev spent_ids : {S I : Type 0} → Bool → List (Shared ℕ S I) → List I
spent_ids b spent = cond b (shared_ids spent) []

-- numbers of a list, which hold its sets, and of no more
hold_alone : {V S I : Type 0} (nodes : List Node) (sets : Sets I) (list : List (Shared V S I)) (numbers : List ℕ) → HoldAll nodes numbers (map sets.test (shared_ids list)) → Hold nodes sets list numbers
hold_alone nodes sets list numbers h = hold_first nodes sets list [] numbers (rw append-nil h)

behind_alone : {V S I : Type 0} (nodes : List Node) (sets : Sets I) (list : List (Shared V S I)) (numbers : List ℕ) → HoldAll nodes numbers (map sets.test (shared_ids list)) → drop (length list) numbers ≡ []
behind_alone nodes sets list numbers h = hold_none nodes sets (drop (length list) numbers) (hold_behind nodes sets list [] numbers (rw append-nil h))

spent_numbers : {S I : Type 0} (nodes : List Node) (sets : Sets I) (b : Bool) (spent : List (Shared ℕ S I)) (numbers : List ℕ) → HoldAll nodes numbers (map sets.test (spent_ids b spent)) → map (λ line. line.node) (cond b (lines_with attempts_line spent numbers) []) ≡ numbers
spent_numbers nodes sets true spent numbers h =
    sym (append-nil _) ∙ ap (λ rest. map (λ line. line.node) (lines_with attempts_line spent numbers) ++ rest) (sym (behind_alone nodes sets spent numbers h))
    ∙ numbers_of nodes sets attempts_line (λ line. line.node) (λ n v. refl) spent numbers (hold_alone nodes sets spent numbers h)
spent_numbers nodes sets false spent numbers h = sym (hold_none nodes sets numbers h)

spent_shown : {S I : Type 0} (nodes : List Node) (sets : Sets I) (b : Bool) (spent : List (Shared ℕ S I)) (numbers : List ℕ) (c : List Bool) (n : ℕ) → HoldAll nodes numbers (map sets.test (spent_ids b spent))
    → (Hold nodes sets spent numbers → attempts_in nodes (lines_with attempts_line spent numbers) c ≡ Some n)
    → cond b (attempts_in nodes (cond b (lines_with attempts_line spent numbers) []) c) None ≡ attempts_shown b n
spent_shown nodes sets true spent numbers c n h k = k (hold_alone nodes sets spent numbers h)
spent_shown nodes sets false spent numbers c n h k = refl

spent_mapped : {S I : Type 0} (nodes : List Node) (sets : Sets I) (b : Bool) (spent : List (Shared ℕ S I)) (numbers : List ℕ) (list : List Config) → HoldAll nodes numbers (map sets.test (spent_ids b spent))
    → map (attempts_of nodes list) (cond b (lines_with attempts_line spent numbers) []) ≡ cond b (map (shared_by sets list) spent) []
spent_mapped nodes sets true spent numbers list h = mapped_same nodes sets list attempts_line (attempts_of nodes list) (λ v configs. record { value = v; configs = configs }) (λ n v. refl) spent numbers (hold_alone nodes sets spent numbers h)
spent_mapped nodes sets false spent numbers list h = refl

spent_nowhere : {S I : Type 0} (sets : Sets I) (b : Bool) (spent : List (Shared ℕ S I)) (c : List Bool) → list_all (λ id. not (sets.test id c)) (shared_ids spent) ≡ true → list_all (λ id. not (sets.test id c)) (spent_ids b spent) ≡ true
spent_nowhere sets true spent c h = h
spent_nowhere sets false spent c h = refl

above_last : (v w : ℕ) → nat_cmp v w ≡ Less → nat_lt v w ≡ true
above_last v w e = grind (arith, nat_tests)

spent_rise : {S I : Type 0} (sets : Sets I) (b : Bool) (spent : List (Shared ℕ S I)) (numbers : List ℕ) → AreLeaves nat_cmp sets (leaves_of spent)
    → EachFollows (λ before line. is_above (last_of before) line.attempts ≡ true) (cond b (lines_with attempts_line spent numbers) [])
spent_rise sets true spent numbers leaves = lines_rise nat_cmp attempts_line (λ o line. is_above o line.attempts) sets (λ v w n m e. above_last v w e) (λ line. refl) spent numbers leaves
spent_rise sets false spent numbers leaves = λ place x e. absurd cc

-- what holds of the numbers of findings
record AreNumbers {S I : Type 0} (sets : Sets I) (version : ℕ) (f : FindingsView S I) (nodes : List Node) (numbers : List ℕ) : Type 0 where
  found : Hold nodes sets f.found numbers
  ends : Hold nodes sets f.ends (drop (length f.found) numbers)
  spent : HoldAll nodes (drop (length f.found + length f.ends) numbers) (map sets.test (spent_ids (version == 2) f.spent))
  all : HoldAll nodes numbers (map sets.test (shared_ids f.found ++ (shared_ids f.ends ++ spent_ids (version == 2) f.spent)))

are_numbers : {S I : Type 0} (sets : Sets I) (version : ℕ) (f : FindingsView S I) (nodes : List Node) (numbers : List ℕ) → HoldAll nodes numbers (map sets.test (shared_ids f.found ++ (shared_ids f.ends ++ spent_ids (version == 2) f.spent))) → AreNumbers sets version f nodes numbers
are_numbers sets version f nodes numbers h =
    let spent = spent_ids (version == 2) f.spent in
    let behind = hold_behind nodes sets f.found (shared_ids f.ends ++ spent) numbers h in
    record {
      found = hold_first nodes sets f.found (shared_ids f.ends ++ spent) numbers h;
      ends = hold_first nodes sets f.ends spent (drop (length f.found) numbers) behind;
      spent = rw (drop_more (length f.found) (length f.ends) numbers) (hold_behind nodes sets f.ends spent (drop (length f.found) numbers) behind);
      all = h;
    }

roots_are : {S I : Type 0} (sets : Sets I) (version : ℕ) (options : List (List ℕ)) (limit : ℕ) (f : FindingsView S I) (nodes : List Node) (numbers : List ℕ) → AreNumbers sets version f nodes numbers → roots_of (report_with version options limit f nodes numbers) ≡ numbers
roots_are sets version options limit f nodes numbers are =
    let last = spent_numbers nodes sets (version == 2) f.spent (drop (length f.found + length f.ends) numbers) are.spent ∙ drop_more (length f.found) (length f.ends) numbers in
    let behind = ap (λ rest. map (λ line. line.node) (lines_with end_line f.ends (drop (length f.found) numbers)) ++ rest) last ∙ numbers_of nodes sets end_line (λ line. line.node) (λ n v. refl) f.ends (drop (length f.found) numbers) are.ends in
    append_assoc (map (λ line. line.node) (lines_with piece_line f.found numbers)) _ _
    ∙ ap (λ rest. map (λ line. line.node) (lines_with piece_line f.found numbers) ++ rest) behind
    ∙ numbers_of nodes sets piece_line (λ line. line.node) (λ n v. refl) f.found numbers are.found

projected : {S I : Type 0} (sets : Sets I) (version : ℕ) (options : List (List ℕ)) (limit : ℕ) (f : FindingsView S I) (nodes : List Node) (numbers : List ℕ) (p : Program) (is_allowed : Config → Bool) (c : Config)
    → AreNumbers sets version f nodes numbers → AreFindings p sets is_allowed limit f → is_allowed c ≡ true → project (report_with version options limit f nodes numbers) c ≡ Some (projection_of version (run p c limit))
projected sets version options limit f nodes numbers p is_allowed c are findings allowed =
    let r = run p c limit in
    let parts = parts_of _ _ _ r (findings.runs c allowed) in
    let output = output_same nodes sets f.found numbers c are.found ∙ parts.output_is in
    let end = end_same nodes sets f.ends (drop (length f.found) numbers) c are.ends ∙ parts.end_is in
    let attempts = spent_shown nodes sets (version == 2) f.spent (drop (length f.found + length f.ends) numbers) c r.attempts are.spent (λ hold. attempts_same nodes sets f.spent (drop (length f.found + length f.ends) numbers) c hold ∙ parts.attempts_is) in
    ap (option_map _) end ∙ (λ i. Some (record { output = output i; end = r.end; attempts = attempts i }))

pub reported : {S I : Type 0} (sets : Sets I) (version : ℕ) (options : List (List ℕ)) (limit : ℕ) (f : FindingsView S I) (ids : List I) (nodes : List Node) (numbers : List ℕ) (report : Report) (p : Program) (is_allowed : Config → Bool)
    → length options ≡ sets.options
    → ids ≡ shared_ids f.found ++ (shared_ids f.ends ++ (if version == 2 then shared_ids f.spent else []))
    → IsListing sets ids nodes numbers
    → report ≡ report_with version options limit f nodes numbers
    → IsFitting report
    → IsReportable version options limit is_allowed p
    → AreFindings p sets is_allowed limit f
    → ((list : List Config) (version : ℕ) → AreAllowed sets.options is_allowed list → lock_report p list limit version ≡ report_by sets list limit version f)
    → IsReportOf version options limit is_allowed p report
reported sets version options limit f ids nodes numbers report p is_allowed count are_ids listing is_report fits reportable findings lock =
    let are = are_numbers sets version f nodes numbers (rw are_ids at listing.hold) in
    let made = report_with version options limit f nodes numbers in
    let roots = roots_are sets version options limit f nodes numbers are in
    let numbered : IsNumbered (length options) nodes (roots_of made) = rw (count, roots) listing.numbered in
    let shown = λ (c : Config) (allowed : is_allowed c ≡ true). projected sets version options limit f nodes numbers p is_allowed c are findings allowed in
    let says : (list : List Config) → AreAllowed (length options) is_allowed list → SaysLockstep list (lock_report p list limit version) made = λ list all.
    subst (λ l. SaysLockstep list l made) (sym (lock list version (rw count at all)))
    (record {
      rounds = refl;
      pieces = mapped_same nodes sets list piece_line (piece_of nodes list) (λ v configs. record { value = (v.stream, v.text); configs = configs }) (λ n v. refl) f.found numbers are.found;
      ends = mapped_same nodes sets list end_line (end_of nodes list) (λ v configs. record { value = v; configs = configs }) (λ n v. refl) f.ends (drop (length f.found) numbers) are.ends;
      attempts = spent_mapped nodes sets (version == 2) f.spent (drop (length f.found + length f.ends) numbers) list are.spent;
    }) in
    let one = filter is_allowed (configurations (length options)) in
    let one_says = says one (allowed_of (length options) is_allowed) in
    let r = run p reportable.some.0 limit in
    let there = shown reportable.some.0 reportable.some.1 in
    let ready : IsReady made = record {
      version = reportable.version_is;
      names = reportable.names;
      least = reportable.least;
      most = reportable.most;
      fits = subst IsFitting is_report fits;
      numbered = numbered;
      ends = lines_rise compare_ends end_line (λ o line. comes_after o line.end) sets (λ v w n m e. ap is_less e) (λ line. refl) f.ends (drop (length f.found) numbers) findings.ends;
      attempts = spent_rise sets (version == 2) f.spent (drop (length f.found + length f.ends) numbers) findings.spent;
      ended = ended_there made reportable.some.0 (projection_of version r) there;
      spent = spent_shown_by made (version == 2) (lockstep.lockstep p one limit).members reportable.some.0 (projection_of version r) r.attempts one refl one_says.attempts there refl;
    } in
    record {
      reported = record {
        report = made;
        spells = record { text = ap report_text is_report; good = lawful_good made (lawful made one (lock_report p one limit version) ready one_says (reportable.spelled one)) };
        version_is = refl;
        options_are = refl;
        limit_is = refl;
        runs = λ c size allowed. shown c allowed;
        others = λ c size refused.
            let none = findings.others c refused in
            let spent = spent_nowhere sets (version == 2) f.spent c (none_holds sets f.spent c none.spent) in
            let ends = all_append (λ id. not (sets.test id c)) (shared_ids f.ends) _ (none_holds sets f.ends c none.end) spent in
            rw roots (held_nowhere nodes sets _ numbers c are.all (all_append (λ id. not (sets.test id c)) (shared_ids f.found) _ none.texts ends));
        numbered = numbered;
        lockstep = says;
      };
      same = sym is_report;
    }

-- ---- known sets

known_front : {I : Type 0} (sets : Sets I) (xs ys zs : List I) → (AreKnown sets ys → AreKnown sets zs) → AreKnown sets (xs ++ ys) → AreKnown sets (xs ++ zs)
known_front sets [] ys zs f k = f k
known_front sets (x ∷ xs) ys zs f k = (k.0, known_front sets xs ys zs f k.1)

known_spent : {S I : Type 0} (sets : Sets I) (b : Bool) (spent : List (Shared ℕ S I)) → AreKnown sets (shared_ids spent) → AreKnown sets (spent_ids b spent)
known_spent sets true spent k = k
known_spent sets false spent k = tt

-- the sets that a version shows are known
pub shown_known : {S I : Type 0} (sets : Sets I) (version : ℕ) (f : FindingsView S I) → AreKnown sets (shared_ids f.found ++ (shared_ids f.ends ++ shared_ids f.spent)) → AreKnown sets (shared_ids f.found ++ (shared_ids f.ends ++ (if version == 2 then shared_ids f.spent else [])))
shown_known sets version f k =
    known_front sets (shared_ids f.found) _ _ (known_front sets (shared_ids f.ends) _ _ (known_spent sets (version == 2) f.spent)) k

-- what holds of the findings of every program
abbrev pub IsFor : {S I : Type 0} → Sets I → (version : ℕ) → List (List ℕ) → (limit : ℕ) → FindingsView S I → (Program → (Config → Bool) → Type 0) → Type 0
IsFor sets version options limit f Says =
    (p : Program) (is_allowed : Config → Bool) → IsReportable version options limit is_allowed p → AreFindings p sets is_allowed limit f
    → ((list : List Config) (version : ℕ) → AreAllowed sets.options is_allowed list → lock_report p list limit version ≡ report_by sets list limit version f)
    → Says p is_allowed

-- the text that is written of a report
pub written_text : {S I : Type 0} (sets : Sets I) (version : ℕ) (options : List (List ℕ)) (limit : ℕ) (f : FindingsView S I) (report : Report) (r : Result (Vec ℕ Global) AllocError)
    → IsFor sets version options limit f (λ p is_allowed. IsReportOf version options limit is_allowed p report)
    → IfOk r (λ text. text.items ≡ report_text report)
    → IfOk r (λ text. IsFor sets version options limit f (λ p is_allowed. IsReported version options limit is_allowed p text.items))
written_text sets version options limit f report (Err e) are is_text = tt
written_text sets version options limit f report (Ok text) are is_text =
    λ p is_allowed reportable findings lock. subst (IsReported version options limit is_allowed p) (sym is_text) (are p is_allowed reportable findings lock).reported
