-- The join of reports of runs.
use Rattle.std.proofs.Common.{◌≡◌, ℕ, Bool, true, false, List, [], ◌∷◌, ◌++◌, length, map, refl, sym, ◌∙◌, ap, subst}
use Rattle.std.specs.Cmp.Derive.{both_true}
use Rattle.std.specs.List.{AllByRecursion, AllZip, list_all, list_any}
use Rattle.std.specs.Option.{option_or}
use Rattle.std.specs.Prelude.{◌&&◌, ◌||◌, cond, filter, not, Option, None, Some, is_some, option_map, option_and_then}
use Rattle.vx_bdd_tools.specs.declared.node.Node.{Node}
use Rattle.vx_bdd_tools.specs.Nodes.{holds}
use Rattle.vx_cover.specs.Covers.{has_end, some_hold}
use Rattle.vx_java.specs.Report.{projection_of}
use Rattle.vx_java.specs.Step.{Config, run}
use Rattle.vx_link.specs.declared.program.Program.{Program}
use Rattle.vx_one_report.proofs.Alike.{all_split}
use Rattle.vx_report.specs.Projection.{Projection, project}
use Rattle.vx_report.specs.declared.report.AttemptLine.{AttemptLine}
use Rattle.vx_report.specs.declared.report.EndLine.{EndLine}
use Rattle.vx_report.specs.declared.report.Piece.{Piece}
use Rattle.vx_report.specs.declared.report.Report.{Report}
use Rattle.vx_report_reader.specs.Rules.{roots_of}
use Rattle.vx_reporting.specs.Reported.{IsHeldNowhere, IsReported}
use Rattle.vx_join.specs.Joined.{IsEndSaid, IsJoined, IsLike, IsNumberSaid, IsTold, Told, all_told, attempts_said, end_said, first_said, is_had, told_by, told_of}
use Rattle.vx_join.proofs.Reports.{is_some_project}
use Rattle.vx_joined.specs.Law.{AreRuns, JoinsAreRuns, ReportedAreRuns, is_allowed_by}

pub reported_runs : ReportedAreRuns
reported_runs version options limit is_allowed program text h = record {
  version_is = h.version_is;
  options_are = h.options_are;
  limit_is = h.limit_is;
  runs = h.runs;
  others = h.others;
}

-- ---- where nothing is held

-- no number of a list holds a configuration
some_none : (nodes : List Node) (numbers : List ℕ) (c : List Bool) → list_all (λ node. not (holds nodes node c)) numbers ≡ true → some_hold nodes numbers c ≡ false
some_none nodes [] c h = refl
some_none nodes (k ∷ numbers) c h = by (holds nodes k c) h (some_none nodes numbers c)
  where
    by : (b : Bool) → (not b && list_all (λ node. not (holds nodes node c)) numbers) ≡ true → (list_all (λ node. not (holds nodes node c)) numbers ≡ true → some_hold nodes numbers c ≡ false) → (b || some_hold nodes numbers c) ≡ false
    by true e rest = cc
    by false e rest = rest e

-- a report that holds a configuration nowhere has no end there
no_end : (r : Report) (c : Config) → IsHeldNowhere r c → has_end r c ≡ false
no_end r c h =
    let first = all_split (λ node. not (holds r.nodes node c)) (map (λ (piece : Piece). piece.node) r.pieces ++ map (λ (line : EndLine). line.node) r.ends) (map (λ (line : AttemptLine). line.node) r.attempts) h in
    let second = all_split (λ node. not (holds r.nodes node c)) (map (λ (piece : Piece). piece.node) r.pieces) (map (λ (line : EndLine). line.node) r.ends) first.0 in
    some_none r.nodes (map (λ (line : EndLine). line.node) r.ends) c second.1

none_projected : (r : Report) (c : Config) → has_end r c ≡ false → project r c ≡ None
none_projected r c e = by (project r c) (is_some_project r c ∙ e)
  where
    by : (o : Option Projection) → is_some o ≡ false → o ≡ None
    by None d = refl
    by (Some p) d = cc

-- ---- several reports

-- an allowed configuration's run is said by the first report that allows it
said_run : (version : ℕ) (options : List (List ℕ)) (limit : ℕ) (program : Program) (reports : List Report) (allowed : List (Config → Bool)) → AllZip (λ r is_allowed. AreRuns version options limit is_allowed program r) reports allowed
    → (c : Config) → length c ≡ length options → is_allowed_by allowed c ≡ true → first_said reports c ≡ Some (projection_of version (run program c limit))
said_run version options limit program [] [] all c size e = absurd cc
said_run version options limit program [] (a ∷ allowed) all c size e = absurd all
said_run version options limit program (r ∷ reports) [] all c size e = absurd all
said_run version options limit program (r ∷ reports) (a ∷ allowed) all c size e = by (a c) refl e (λ f. said_run version options limit program reports allowed all.1 c size f)
  where
    by : (b : Bool) → a c ≡ b → (b || is_allowed_by allowed c) ≡ true → (is_allowed_by allowed c ≡ true → first_said reports c ≡ Some (projection_of version (run program c limit))) → option_or (project r c) (first_said reports c) ≡ Some (projection_of version (run program c limit))
    by true d f rest = ap (λ o. option_or o (first_said reports c)) (all.0.runs c size d)
    by false d f rest = ap (λ o. option_or o (first_said reports c)) (none_projected r c (no_end r c (all.0.others c size d))) ∙ rest f

-- where none allows a configuration, nothing is said of it
said_none : (version : ℕ) (options : List (List ℕ)) (limit : ℕ) (program : Program) (reports : List Report) (allowed : List (Config → Bool)) → AllZip (λ r is_allowed. AreRuns version options limit is_allowed program r) reports allowed
    → (c : Config) → length c ≡ length options → is_allowed_by allowed c ≡ false → AllByRecursion (λ r. has_end r c ≡ false) reports
said_none version options limit program [] [] all c size e = tt
said_none version options limit program [] (a ∷ allowed) all c size e = absurd all
said_none version options limit program (r ∷ reports) [] all c size e = absurd all
said_none version options limit program (r ∷ reports) (a ∷ allowed) all c size e =
    let p = parts (a c) (is_allowed_by allowed c) e in
    (no_end r c (all.0.others c size p.0), said_none version options limit program reports allowed all.1 c size p.1)
  where
    parts : (a b : Bool) → (a || b) ≡ false → (a ≡ false) × (b ≡ false)
    parts true b e = cc
    parts false b e = (refl, e)

nothing_said : (reports : List Report) (c : Config) → AllByRecursion (λ r. has_end r c ≡ false) reports → first_said reports c ≡ None
nothing_said [] c h = refl
nothing_said (r ∷ reports) c h = ap (λ o. option_or o (first_said reports c)) (none_projected r c h.0) ∙ nothing_said reports c h.1

-- and no text has it
scope_false : (a h : Bool) (held : Bool) → h ≡ false → ((a && h) && held) ≡ false
scope_false true true held e = cc
scope_false true false held e = refl
scope_false false h held e = refl

own_nowhere : (unsaid : List Bool → Bool) (r : Report) (c : Config) → has_end r c ≡ false → (pieces : List Piece) → AllByRecursion (λ (t : Told). t.set c ≡ false) (map (told_of (λ d. unsaid d && has_end r d) r.nodes) pieces)
own_nowhere unsaid r c e [] = tt
own_nowhere unsaid r c e (piece ∷ pieces) = (scope_false (unsaid c) (has_end r c) (holds r.nodes piece.node c) e, own_nowhere unsaid r c e pieces)

all_both : {A : Type 0} (P : A → Type 0) (xs ys : List A) → AllByRecursion P xs → AllByRecursion P ys → AllByRecursion P (xs ++ ys)
all_both P [] ys h k = k
all_both P (x ∷ xs) ys h k = (h.0, all_both P xs ys h.1 k)

told_nowhere : (unsaid : List Bool → Bool) (reports : List Report) (c : Config) → AllByRecursion (λ r. has_end r c ≡ false) reports → AllByRecursion (λ (t : Told). t.set c ≡ false) (told_by unsaid reports)
told_nowhere unsaid [] c h = tt
told_nowhere unsaid (r ∷ reports) c h = all_both (λ (t : Told). t.set c ≡ false) (map (told_of (λ d. unsaid d && has_end r d) r.nodes) r.pieces) _ (own_nowhere unsaid r c h.0 r.pieces) (told_nowhere (λ d. unsaid d && not (has_end r d)) reports c h.1)

all_kept : {A : Type 0} (P : A → Type 0) (p : A → Bool) (xs : List A) → AllByRecursion P xs → AllByRecursion P (filter p xs)
all_kept P p [] h = tt
all_kept {A} P p (x ∷ xs) h = by (p x) (all_kept P p xs h.1)
  where
    by : (b : Bool) → AllByRecursion P (filter p xs) → AllByRecursion P (cond b (x ∷ filter p xs) (filter p xs))
    by true rest = (h.0, rest)
    by false rest = rest

not_true : (b : Bool) → b ≡ false → not b ≡ true
not_true true e = cc
not_true false e = refl

-- ---- lines that hold nothing

pieces_nowhere : (nodes : List Node) (c : Config) (pieces : List Piece) (told : List Told) → AllZip (IsTold nodes) pieces told → AllByRecursion (λ (t : Told). t.set c ≡ false) told → list_all (λ node. not (holds nodes node c)) (map (λ (piece : Piece). piece.node) pieces) ≡ true
pieces_nowhere nodes c [] [] zip none = refl
pieces_nowhere nodes c [] (t ∷ told) zip none = absurd zip
pieces_nowhere nodes c (piece ∷ pieces) [] zip none = absurd zip
pieces_nowhere nodes c (piece ∷ pieces) (t ∷ told) zip none = both_true (not_true (holds nodes piece.node c) (zip.0.holds c ∙ none.0)) (pieces_nowhere nodes c pieces told zip.1 none.1)

-- a value that isn't said is held by no line
unsaid_lines : {L V : Type 0} (nodes : List Node) (node_of : L → ℕ) (value_of : L → V) (said : List Bool → Option V) (c : Config) → said c ≡ None → (lines : List L) → AllByRecursion (λ (l : L). (d : List Bool) → holds nodes (node_of l) d ≡ true → said d ≡ Some (value_of l)) lines
    → list_all (λ node. not (holds nodes node c)) (map node_of lines) ≡ true
unsaid_lines nodes node_of value_of said c none [] all = refl
unsaid_lines {L} {V} nodes node_of value_of said c none (l ∷ lines) all = both_true (by (holds nodes (node_of l) c) (all.0 c)) (unsaid_lines nodes node_of value_of said c none lines all.1)
  where
    by : (b : Bool) → (b ≡ true → said c ≡ Some (value_of l)) → not b ≡ true
    by true f = let wrong : None ≡ Some (value_of l) = sym none ∙ f refl in absurd cc
    by false f = refl

all_append : {A : Type 0} (p : A → Bool) (xs ys : List A) → list_all p xs ≡ true → list_all p ys ≡ true → list_all p (xs ++ ys) ≡ true
all_append p [] ys h k = k
all_append p (x ∷ xs) ys h k = by (p x) h (λ rest. all_append p xs ys rest k)
  where
    by : (b : Bool) → (b && list_all p xs) ≡ true → (list_all p xs ≡ true → list_all p (xs ++ ys) ≡ true) → (b && list_all p (xs ++ ys)) ≡ true
    by true e rest = rest e
    by false e rest = cc

held_nowhere : (reports : List Report) (r : Report) (c : Config) → IsJoined reports r → AllByRecursion (λ report. has_end report c ≡ false) reports → IsHeldNowhere r c
held_nowhere reports r c joined none =
    let nothing = nothing_said reports c none in
    let pieces = pieces_nowhere r.nodes c r.pieces (all_told (length r.options) reports) joined.pieces (all_kept (λ (t : Told). t.set c ≡ false) (is_had (length r.options)) (told_by (λ d. true) reports) (told_nowhere (λ d. true) reports c none)) in
    let ends = unsaid_lines r.nodes (λ (line : EndLine). line.node) (λ line. line.end) (end_said reports) c (ap (option_map (λ (p : Projection). p.end)) nothing) r.ends joined.ends in
    let attempts = unsaid_lines r.nodes (λ (line : AttemptLine). line.node) (λ line. line.attempts) (attempts_said reports) c (ap (option_and_then (λ (p : Projection). p.attempts)) nothing) r.attempts joined.attempts in
    all_append (λ node. not (holds r.nodes node c)) (map (λ (piece : Piece). piece.node) r.pieces ++ map (λ (line : EndLine). line.node) r.ends) (map (λ (line : AttemptLine). line.node) r.attempts)
    (all_append (λ node. not (holds r.nodes node c)) (map (λ (piece : Piece). piece.node) r.pieces) (map (λ (line : EndLine). line.node) r.ends) pieces ends) attempts

pub joined_runs : JoinsAreRuns
joined_runs version options limit program first others [] report all joined = absurd all
joined_runs version options limit program first others (a ∷ allowed) report all joined = record {
  version_is = joined.like.0.version ∙ all.0.version_is;
  options_are = joined.like.0.options ∙ all.0.options_are;
  limit_is = joined.like.0.limit ∙ all.0.limit_is;
  runs = λ c size e. joined.says c ∙ said_run version options limit program (first ∷ others) (a ∷ allowed) all c size e;
  others = λ c size e. held_nowhere (first ∷ others) report c joined (said_none version options limit program (first ∷ others) (a ∷ allowed) all c size e);
}
