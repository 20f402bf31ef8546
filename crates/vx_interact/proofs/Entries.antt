-- Entries beside their nodes, one by one.
use Rattle.std.proofs.Common.{◌≡◌, ℕ, ◌+◌, ◌<◌, ◌≤◌, Bool, List, [], ◌∷◌, ◌++◌, length, take, map, get_or, sym, ◌∙◌, ap, subst, arith, suc}
use Rattle.std.proofs.lemmas.List.{map_more, take_all}
use Rattle.vx_report.specs.declared.report.Report.{Report}
use Rattle.vx_report.specs.Text.{front_lines}
use Rattle.vx_report_line.specs.Forms.{is_line}
use Rattle.vx_report_line.proofs.Numbers.{both_true}
use Rattle.vx_report_line.proofs.Again.{le_from}
use Rattle.vx_report_reader.specs.Lawful.{IsLawful}
use Rattle.vx_bdd_tools.specs.declared.node.Node.{Node}
use Rattle.vx_interact.specs.declared.interaction.Interaction.{Interaction}
use Rattle.vx_interact.specs.Interactions.{AreEntries, HasMore, IsEntry}

pub AreEntries-more : (nodes : List Node) (piece : Bool) (index : ℕ) (numbers : List ℕ) (entries : List Interaction) (node : ℕ) (entry : Interaction) → AreEntries nodes piece index numbers entries → IsEntry nodes piece (length entries + index) node entry → AreEntries nodes piece index (numbers ++ node ∷ []) (entries ++ entry ∷ [])
AreEntries-more nodes piece index [] [] node entry h e =
    let P : ℕ → Type 0 = λ i. IsEntry nodes piece i node entry in
    let same : 0 + index ≡ index = omega arith in
    (subst P same e, tt)
AreEntries-more nodes piece index [] (x ∷ xs) node entry h e = absurd h
AreEntries-more nodes piece index (n ∷ ns) [] node entry h e = absurd h
AreEntries-more nodes piece index (n ∷ ns) (x ∷ xs) node entry h e =
    let P : ℕ → Type 0 = λ i. IsEntry nodes piece i node entry in
    let moved : suc (length xs) + index ≡ length xs + suc index = omega arith in
    (h.0, AreEntries-more nodes piece (suc index) ns xs node entry h.1 (subst P moved e))

-- the entries of some lines, one line more
pub AreEntries-step : {X : Type 0} (nodes : List Node) (piece : Bool) (number : X → ℕ) (lines whole : List X) (i : ℕ) (line : X) (before after : List Interaction) → lines ≡ whole → i < length lines → line ≡ get_or lines i line → AreEntries nodes piece 1 (map number (take i whole)) before → HasMore nodes piece (number line) before after → AreEntries nodes piece 1 (map number (take (i + 1) whole)) after
AreEntries-step nodes piece number lines whole i line before after s l e h m =
    let l' : i < length whole = subst (λ xs. i < length xs) s l in
    let e' : line ≡ get_or whole i line = subst (λ xs. line ≡ get_or xs i line) s e in
    let count : suc (length before) ≡ length before + 1 = omega arith in
    let more = AreEntries-more nodes piece 1 (map number (take i whole)) before (number line) m.entry h (subst (λ k. IsEntry nodes piece k (number line) m.entry) count m.is) in
    let numbers : map number (take i whole) ++ number line ∷ [] ≡ map number (take (i + 1) whole) = ap (λ x. map number (take i whole) ++ number x ∷ []) e' ∙ sym (map_more number whole i line l') in
    subst (λ xs. AreEntries nodes piece 1 xs after) numbers (subst (λ ys. AreEntries nodes piece 1 (map number (take i whole) ++ number line ∷ []) ys) (sym m.more) more)

pub AreEntries-all : {X : Type 0} (nodes : List Node) (piece : Bool) (number : X → ℕ) (lines whole : List X) (i : ℕ) (entries : List Interaction) → lines ≡ whole → length lines ≤ i → AreEntries nodes piece 1 (map number (take i whole)) entries → AreEntries nodes piece 1 (map number whole) entries
AreEntries-all nodes piece number lines whole i entries s l h =
    let l' : length whole ≤ i = subst (λ xs. length xs ≤ i) s l in
    subst (λ xs. AreEntries nodes piece 1 (map number xs) entries) (take_all i whole l') h

-- a report has at most 64 options
pub few_options : (r : Report) → IsLawful r → length r.options ≤ 64
unfolding front_lines is_line
few_options r h = le_from (length r.options) 64 (both_true _ _ (both_true _ _ h.lines).1).0
