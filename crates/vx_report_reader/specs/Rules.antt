-- The rules of a report's lines: which line may follow those before it, what the lines say together, what a report is, and which line is the first bad one.
use Rattle.std.specs.Prelude.{◌≡◌, ℕ, ◌+◌, ◌<◌, List, [], ◌∷◌, ◌++◌, map, length, slice_get, Contains, Bool, true, false, Option, Some, None, ◌-◌, ◌==◌, ◌&&◌, ◌||◌, not, nat_eq, nat_lt, nat_le}
use Rattle.std.specs.List.{flat_map}
use Rattle.std.specs.declared.cmp.Ordering.{Ordering}
use Rattle.std.specs.declared.cmp.Ordering.TheVariants.{Less, Equal, Greater}
use Rattle.vx_value.specs.declared.end.End.{End}
use Rattle.vx_value.specs.Ends.{compare_ends}
use Rattle.vx_bdd_tools.specs.Nodes.{IsNextNode}
use Rattle.vx_bdd_tools.specs.Numbering.{NumbersAll}
use Rattle.vx_report.specs.declared.report.Report.{Report}
use Rattle.vx_report.specs.declared.report.EndLine.{EndLine}
use Rattle.vx_report.specs.declared.report.AttemptLine.{AttemptLine}
use Rattle.vx_report.specs.declared.line.Line.{Line}
use Rattle.vx_report.specs.declared.line.Line.TheVariants.{Head, Count, Named, Limit, Rounds, Numbered, Printed, Ended, Spent, Done}
use Rattle.vx_report.specs.Lines.{whole_line}
use Rattle.vx_report.specs.Text.{report_lines, report_text}
use Rattle.vx_report_line.specs.Forms.{is_line}

-- what the lines so far say: nothing; the version; the version, how many options there are and the names so far; the version, the names and the limit; a report that may go on; a whole report
pub data Draft : Type 0 where
  Nothing : Draft
  Begun : ℕ → Draft
  Naming : ℕ → ℕ → List (List ℕ) → Draft
  Limited : ℕ → List (List ℕ) → ℕ → Draft
  Body : Report → Draft
  Whole : Report → Draft

-- the nodes that the pieces, then the ends, then the numbers of attempts name
abbrev pub roots_of : Report → List ℕ
roots_of r = map (λ piece. piece.node) r.pieces ++ map (λ line. line.node) r.ends ++ map (λ line. line.node) r.attempts

-- numbering goes on from the nodes named so far to one more as the node lines stand
pub record IsWalked (r : Report) (node : ℕ) : Type 0 where
  pub given : ℕ
  pub walk : NumbersAll r.nodes 2 (roots_of r ++ node ∷ []) given

abbrev pub is_nil : {A : Type 0} → List A → Bool
is_nil xs = length xs == 0

abbrev pub is_less : Ordering → Bool
is_less Less = true
is_less Equal = false
is_less Greater = false

-- an end comes after the last one so far
abbrev pub comes_after : Option EndLine → End → Bool
comes_after None end = true
comes_after (Some line) end = is_less (compare_ends line.end end)

-- a number of attempts is above the last one so far
abbrev pub is_above : Option AttemptLine → ℕ → Bool
is_above None n = true
is_above (Some line) n = nat_lt line.attempts n

abbrev pub last_of : {A : Type 0} → List A → Option A
last_of xs = slice_get xs (length xs - 1)

-- node lines stand before all others, numbered from 2 on
abbrev pub numbers : Report → ℕ → Bool
numbers r id = is_nil r.pieces && is_nil r.ends && is_nil r.attempts && nat_eq id (length r.nodes + 2)

-- then come the pieces
abbrev pub prints : Report → Bool
prints r = is_nil r.ends && is_nil r.attempts

-- then the ends, ascending
abbrev pub ends : Report → End → Bool
ends r end = is_nil r.attempts && comes_after (last_of r.ends) end

-- then, in version 2 alone, the numbers of attempts, ascending and within the limit
abbrev pub spends : Report → ℕ → Bool
spends r n = nat_eq r.version 2 && not (is_nil r.ends) && is_above (last_of r.attempts) n && nat_le n r.limit

-- there is an end, and in version 2 a number of attempts
abbrev pub is_done : Report → Bool
is_done r = not (is_nil r.ends) && (not (nat_eq r.version 2) || not (is_nil r.attempts))

-- a name is new, and one more is expected
pub record MayName (count : ℕ) (names : List (List ℕ)) (name : List ℕ) : Type 0 where
  pub expected : length names < count
  pub is_new : ¬ Contains names name

-- a line may follow what the lines before it say
abbrev pub MayFollow : Draft → Line → Type 0
MayFollow Nothing (Head version) = Unit {0}
MayFollow (Begun version) (Count options) = Unit {0}
MayFollow (Naming version count names) (Named name) = MayName count names name
MayFollow (Naming version count names) (Limit limit) = length names ≡ count
MayFollow (Limited version names limit) (Rounds rounds) = Unit {0}
MayFollow (Body r) (Numbered id node) = (numbers r id ≡ true) × IsNextNode (length r.options) r.nodes node
MayFollow (Body r) (Printed piece) = (prints r ≡ true) × IsWalked r piece.node
MayFollow (Body r) (Ended line) = (ends r line.end ≡ true) × IsWalked r line.node
MayFollow (Body r) (Spent line) = (spends r line.attempts ≡ true) × IsWalked r line.node
MayFollow (Body r) Done = (is_done r ≡ true) × NumbersAll r.nodes 2 (roots_of r) (length r.nodes + 2)
MayFollow _ _ = ⊥

-- what the lines say then
abbrev pub after : Draft → Line → Draft
after Nothing (Head version) = Begun version
after (Begun version) (Count options) = Naming version options []
after (Naming version count names) (Named name) = Naming version count (names ++ name ∷ [])
after (Naming version count names) (Limit limit) = Limited version names limit
after (Limited version names limit) (Rounds rounds) = Body (record { version = version; options = names; limit = limit; rounds = rounds; nodes = []; pieces = []; ends = []; attempts = [] })
after (Body r) (Numbered id node) = Body (record r { nodes = r.nodes ++ node ∷ [] })
after (Body r) (Printed piece) = Body (record r { pieces = r.pieces ++ piece ∷ [] })
after (Body r) (Ended line) = Body (record r { ends = r.ends ++ line ∷ [] })
after (Body r) (Spent line) = Body (record r { attempts = r.attempts ++ line ∷ [] })
after (Body r) Done = Whole r
after draft _ = draft

abbrev pub reached : Draft → List Line → Draft
reached draft [] = draft
reached draft (line ∷ lines) = reached (after draft line) lines

-- each line is lawful by itself, and may follow those before it
abbrev pub AreGood : Draft → List Line → Type 0
AreGood draft [] = Unit {0}
AreGood draft (line ∷ lines) = (is_line line ≡ true) × MayFollow draft line × AreGood (after draft line) lines

-- the bytes spell the report: they are its text, and each of its lines is good
pub record ReportText (bytes : List ℕ) (r : Report) : Type 0 where
  pub text : bytes ≡ report_text r
  pub good : AreGood Nothing (report_lines r)

abbrev pub IsWhole : Draft → Type 0
IsWhole (Whole r) = Unit {0}
IsWhole _ = ⊥

-- line n is the first bad one: the lines before it are good, what stands there begins with no good line, and where nothing stands there the report isn't whole
pub record IsBadLine (bytes : List ℕ) (n : ℕ) : Type 0 where
  pub before : List Line
  pub rest : List ℕ
  pub text : bytes ≡ flat_map whole_line before ++ rest
  pub good : AreGood Nothing before
  pub number : n ≡ length before + 1
  pub bad : (line : Line) (more : List ℕ) → rest ≡ whole_line line ++ more → is_line line ≡ true → ¬ MayFollow (reached Nothing before) line
  pub not_whole : rest ≡ [] → ¬ IsWhole (reached Nothing before)
