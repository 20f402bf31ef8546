-- Loops over the lines of a source, the instructions of a body and its catch rows.
use Rattle.std.proofs.Common.{◌≡◌, ℕ, ◌+◌, ◌<◌, List, [], ◌∷◌, ◌++◌, length, drop, get_or, Bool, true, Ok, Err, refl, sym, ap, ◌∙◌, append_assoc}
use Rattle.std.specs.Prelude.{Result}
use Rattle.vx_source_words.specs.Reading.{Read, check}
use Rattle.vx_source.specs.declared.lines.SourceLine.{SourceLine}
use Rattle.vx_code_parts.specs.Drafts.{next_place}
use Rattle.vx_class_parts.specs.declared.constants.Constant.{Constant}
use Rattle.vx_code_parts.specs.declared.drafts.Draft.{Draft}
use Rattle.vx_asm.specs.declared.fault.AsmFault.{AsmFault}
use Rattle.vx_asm.specs.declared.fault.AsmFault.TheVariants as fault
use Rattle.vx_asm.specs.declared.class_draft.ClassDraft.{ClassDraft}
use Rattle.vx_asm.specs.declared.class_draft.Covered.{Covered}
use Rattle.vx_source.specs.declared.statement.CatchLine.{CatchLine}
use Rattle.vx_asm.specs.declared.class_draft.Body.{Body}
use Rattle.vx_asm.specs.Bodies.{places_from, with_caught, with_rows, are_known, is_lawful_row, with_row, catch_said}
use Rattle.vx_asm.specs.Source.{Fault, onward, with_line, is_late, located, walk, Refuses}
use Rattle.vx_code_parts.proofs.Loops.{front_is}

-- ---- places

pub places_go_on : (at next : ℕ) (out written : List ℕ) (xs : List Draft) (i : ℕ) (x : Draft) (total : List ℕ) → i < length xs → x ≡ get_or xs i x → next ≡ next_place at x
    → written ≡ out ++ at ∷ [] → out ++ places_from at (drop i xs) ≡ total → written ++ places_from next (drop (i + 1) xs) ≡ total
unfolding places_from
places_go_on at next out written xs i x total lt is e w so_far =
    let one : places_from at (drop i xs) ≡ at ∷ places_from (next_place at x) (drop (i + 1) xs) = ap (places_from at) (front_is xs i x lt is) in
    rw (w, e) (append_assoc out (at ∷ []) (places_from (next_place at x) (drop (i + 1) xs)) ∙ sym (ap (λ b. out ++ b) one) ∙ so_far)

pub places_done : (at : ℕ) (out written : List ℕ) (rest : List Draft) (total : List ℕ) → rest ≡ [] → written ≡ out ++ at ∷ []
    → out ++ places_from at rest ≡ total → written ≡ total
unfolding places_from
places_done at out written rest total e w so_far = w ∙ sym (ap (λ ds. out ++ places_from at ds) e) ∙ so_far

-- ---- catch rows

pub rows_go_on : (pool next : List Constant) (xs : List Covered) (i : ℕ) (x : Covered) (total : List Constant) → i < length xs → x ≡ get_or xs i x
    → next ≡ with_caught pool x.class → with_rows pool (drop i xs) ≡ total → with_rows next (drop (i + 1) xs) ≡ total
unfolding with_rows
rows_go_on pool next xs i x total lt is e so_far =
    let one : with_rows pool (drop i xs) ≡ with_rows (with_caught pool x.class) (drop (i + 1) xs) = ap (with_rows pool) (front_is xs i x lt is) in
    rw e (sym one ∙ so_far)

pub rows_done : (pool : List Constant) (rest : List Covered) (total : List Constant) → rest ≡ [] → with_rows pool rest ≡ total → pool ≡ total
unfolding with_rows
rows_done pool rest total e so_far = sym (ap (with_rows pool) e) ∙ so_far

check_holds : {A : Type 0} (test : Bool) (reason : ℕ) (next : Read A) → test ≡ true → check test reason next ≡ next
check_holds test reason next h = rw h refl

-- a row that meets its rules
pub row_given : (d e : ClassDraft) (b : Body) (line : CatchLine) → are_known b.labels line ≡ true → is_lawful_row b.labels line ≡ true → e ≡ with_row d b line
    → catch_said d b line ≡ Ok e
unfolding catch_said
row_given d e b line known lawful h =
    check_holds (are_known b.labels line) 4 (check (is_lawful_row b.labels line) 8 (Ok (with_row d b line))) known
    ∙ check_holds (is_lawful_row b.labels line) 8 (Ok (with_row d b line)) lawful
    ∙ ap (λ (x : ClassDraft). Ok x) (sym h)

-- ---- lines

abbrev at_line : ℕ → ClassDraft → List SourceLine → ℕ → SourceLine → Result ClassDraft Fault
at_line count d xs i x = located x.number (is_late count d x.number) (with_line d x.said (drop (i + 1) xs))

walk_one : (count : ℕ) (d : ClassDraft) (xs : List SourceLine) (i : ℕ) (x : SourceLine) → i < length xs → x ≡ get_or xs i x
    → walk count d (drop i xs) ≡ onward (at_line count d xs i x) (λ e. walk count e (drop (i + 1) xs))
unfolding walk
walk_one count d xs i x lt is = ap (walk count d) (front_is xs i x lt is)

pub walk_goes_on : (count : ℕ) (d e : ClassDraft) (xs : List SourceLine) (i : ℕ) (x : SourceLine) (total : Result ClassDraft Fault) → i < length xs → x ≡ get_or xs i x
    → at_line count d xs i x ≡ Ok e → walk count d (drop i xs) ≡ total → walk count e (drop (i + 1) xs) ≡ total
walk_goes_on count d e xs i x total lt is h so_far =
    let step : onward (at_line count d xs i x) (λ e. walk count e (drop (i + 1) xs)) ≡ walk count e (drop (i + 1) xs) = ap (λ r. onward r (λ e. walk count e (drop (i + 1) xs))) h in
    sym step ∙ sym (walk_one count d xs i x lt is) ∙ so_far

pub walk_ends : (f : AsmFault) (count : ℕ) (d : ClassDraft) (xs : List SourceLine) (i : ℕ) (x : SourceLine) (total : Result ClassDraft Fault) → i < length xs → x ≡ get_or xs i x
    → Refuses f (at_line count d xs i x) → walk count d (drop i xs) ≡ total → Refuses f total
walk_ends fault.NoMemory count d xs i x total lt is h so_far = tt
walk_ends (fault.Line line reason) count d xs i x total lt is h so_far =
    let step : onward (at_line count d xs i x) (λ e. walk count e (drop (i + 1) xs)) ≡ Err (record { line = line; reason = reason }) = ap (λ r. onward r (λ e. walk count e (drop (i + 1) xs))) h in
    sym so_far ∙ walk_one count d xs i x lt is ∙ step

pub walk_done : (count : ℕ) (d : ClassDraft) (rest : List SourceLine) (total : Result ClassDraft Fault) → rest ≡ [] → walk count d rest ≡ total → total ≡ Ok d
unfolding walk
walk_done count d rest total e so_far = sym so_far ∙ ap (walk count d) e
