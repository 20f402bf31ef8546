-- A program has one text as its report.
use Rattle.std.proofs.Common.{◌≡◌, ℕ, Bool, false, List, ◌++◌, length, map, filter, sym, ap, ◌∙◌, Result, Ok, Err, Vec, Global, IfOk}
use Rattle.std.specs.declared.alloc.AllocError.{AllocError}
use Rattle.vx_bdd_tools.specs.declared.node.Node.{Node}
use Rattle.vx_lockstep.specs.Findings.{AreAllowed}
use Rattle.vx_java.specs.Report.{LockReport, lock_report}
use Rattle.vx_java.specs.Step.{Config}
use Rattle.vx_link.specs.declared.program.Program.{Program}
use Rattle.vx_one_report.proofs.Alike.{HasAllowed, HoldNoOther, all_split, in_filter, lines_alike, of_filter, zip_mapped}
use Rattle.vx_one_report.proofs.OneReport.{reports_one}
use Rattle.vx_one_report.specs.Law.{IsSameEnd, IsSameNumber, IsSamePiece, SaySame}
use Rattle.vx_report.specs.Text.{report_text}
use Rattle.vx_report.specs.declared.report.AttemptLine.{AttemptLine}
use Rattle.vx_report.specs.declared.report.EndLine.{EndLine}
use Rattle.vx_report.specs.declared.report.Piece.{Piece}
use Rattle.vx_report.specs.declared.report.Report.{Report}
use Rattle.vx_standing.proofs.Configurations.{Contains-configurations}
use Rattle.vx_standing.specs.State.{configurations}
use Rattle.vx_reporting.specs.Reported.{IsHeldNowhere, IsOnlyReport, IsReported, SaysLockstep, attempts_of, configs_of, end_of, piece_of}

-- none of the nodes that the pieces, the ends and the numbers of attempts name holds another configuration
record HoldNoneOf (n : ℕ) (is_allowed : Config → Bool) (r : Report) : Type 0 where
  pieces : HoldNoOther n is_allowed r.nodes (map (λ piece. piece.node) r.pieces)
  ends : HoldNoOther n is_allowed r.nodes (map (λ line. line.node) r.ends)
  attempts : HoldNoOther n is_allowed r.nodes (map (λ line. line.node) r.attempts)

none_of : (n : ℕ) (is_allowed : Config → Bool) (r : Report) → ((c : Config) → length c ≡ n → is_allowed c ≡ false → IsHeldNowhere r c) → HoldNoneOf n is_allowed r
none_of n is_allowed r h =
    let pieces = map (λ piece. piece.node) r.pieces in
    let ends = map (λ line. line.node) r.ends in
    record {
      pieces = λ c size refused. (all_split _ pieces ends (all_split _ (pieces ++ ends) _ (h c size refused)).0).0;
      ends = λ c size refused. (all_split _ pieces ends (all_split _ (pieces ++ ends) _ (h c size refused)).0).1;
      attempts = λ c size refused. (all_split _ (pieces ++ ends) _ (h c size refused)).1;
    }

-- lines of one value that keep the same configurations of a list
abbrev AlikePieces : List Node → List Node → List Config → Piece → Piece → Type 0
AlikePieces one other list x y = (x.stream ≡ y.stream) × (x.text ≡ y.text) × (configs_of one list x.node ≡ configs_of other list y.node)

abbrev AlikeEnds : List Node → List Node → List Config → EndLine → EndLine → Type 0
AlikeEnds one other list x y = (x.end ≡ y.end) × (configs_of one list x.node ≡ configs_of other list y.node)

abbrev AlikeNumbers : List Node → List Node → List Config → AttemptLine → AttemptLine → Type 0
AlikeNumbers one other list x y = (x.attempts ≡ y.attempts) × (configs_of one list x.node ≡ configs_of other list y.node)

-- reports that say what one lockstep does, and hold no other configurations, say the same
say_same : (is_allowed : Config → Bool) (list : List Config) (lock : LockReport) (one other : Report) → HasAllowed (length one.options) is_allowed list
    → one.version ≡ other.version → one.options ≡ other.options → one.limit ≡ other.limit
    → SaysLockstep list lock one → SaysLockstep list lock other → HoldNoneOf (length one.options) is_allowed one → HoldNoneOf (length one.options) is_allowed other → SaySame one other
say_same is_allowed list lock one other all version options limit s t left right = record {
  version = version;
  options = options;
  limit = limit;
  rounds = s.rounds ∙ sym t.rounds;
  pieces = lines_alike (length one.options) is_allowed list one.nodes other.nodes (λ piece. piece.node) (AlikePieces one.nodes other.nodes list) (IsSamePiece one other) all (λ x y r. r.2) (λ x y r h. record { stream = r.0; text = r.1; holds = h })
      one.pieces other.pieces (zip_mapped (piece_of one.nodes list) (piece_of other.nodes list) _ (λ x y e. (ap (λ p. p.value.0) e, ap (λ p. p.value.1) e, ap (λ p. p.configs) e)) one.pieces other.pieces (s.pieces ∙ sym t.pieces)) left.pieces right.pieces;
  ends = lines_alike (length one.options) is_allowed list one.nodes other.nodes (λ line. line.node) (AlikeEnds one.nodes other.nodes list) (IsSameEnd one other) all (λ x y r. r.1) (λ x y r h. record { end = r.0; holds = h })
      one.ends other.ends (zip_mapped (end_of one.nodes list) (end_of other.nodes list) _ (λ x y e. (ap (λ p. p.value) e, ap (λ p. p.configs) e)) one.ends other.ends (s.ends ∙ sym t.ends)) left.ends right.ends;
  attempts = lines_alike (length one.options) is_allowed list one.nodes other.nodes (λ line. line.node) (AlikeNumbers one.nodes other.nodes list) (IsSameNumber one other) all (λ x y r. r.1) (λ x y r h. record { attempts = r.0; holds = h })
      one.attempts other.attempts (zip_mapped (attempts_of one.nodes list) (attempts_of other.nodes list) _ (λ x y e. (ap (λ p. p.value) e, ap (λ p. p.configs) e)) one.attempts other.attempts (s.attempts ∙ sym t.attempts)) left.attempts right.attempts;
}

-- the allowed ones among all configurations of so many options
pub allowed_of : (n : ℕ) (is_allowed : Config → Bool) → AreAllowed n is_allowed (filter is_allowed (configurations n))
allowed_of n is_allowed = record {
  sound = λ c h. of_filter is_allowed (configurations n) c h;
  complete = λ c size allowed. in_filter is_allowed (configurations n) c (Contains-configurations n c size) allowed;
}

-- two texts that are the report of a program are one
pub one_text : (version : ℕ) (options : List (List ℕ)) (limit : ℕ) (is_allowed : Config → Bool) (p : Program) (one other : List ℕ)
    → IsReported version options limit is_allowed p one → IsReported version options limit is_allowed p other → one ≡ other
one_text version options limit is_allowed p one other h k =
    let r = h.report in
    let q = k.report in
    let n = ap length h.options_are in
    let m = ap length k.options_are in
    let list = filter is_allowed (configurations (length options)) in
    let are = allowed_of (length options) is_allowed in
    let all : HasAllowed (length r.options) is_allowed list = λ c size allowed. are.complete c (size ∙ n) allowed in
    let same = say_same is_allowed list (lock_report p list limit version) r q all (h.version_is ∙ sym k.version_is) (h.options_are ∙ sym k.options_are) (h.limit_is ∙ sym k.limit_is) (h.lockstep list are) (k.lockstep list are)
    (none_of (length r.options) is_allowed r (λ c size refused. h.others c (size ∙ n) refused)) (none_of (length r.options) is_allowed q (λ c size refused. k.others c (size ∙ n) refused)) in
    h.spells.text ∙ ap report_text (reports_one r q (rw n h.numbered) (rw m k.numbered) same) ∙ sym k.spells.text

-- so the text that is written is the only one
pub only_text : (version : ℕ) (options : List (List ℕ)) (limit : ℕ) (r : Result (Vec ℕ Global) AllocError)
    → IfOk r (λ text. (p : Program) (is_allowed : Config → Bool) → IsReported version options limit is_allowed p text.items → IsOnlyReport version options limit is_allowed p text.items)
only_text version options limit (Err e) = tt
only_text version options limit (Ok text) = λ p is_allowed h. record { only = λ other k. one_text version options limit is_allowed p other text.items k h }
