-- What a few configurations cover of a report: each piece and each end that a run has.
use Rattle.std.specs.Prelude.{◌≡◌, ℕ, ◌+◌, ◌≤◌, zero, suc, Bool, true, false, not, ◌&&◌, List, map, take, length, nat_eq}
use Rattle.std.specs.List.{AllByRecursion, count_by, list_any, sum_by}
use Rattle.vx_list.specs.Places.{item_or}
use Rattle.vx_bdd_tools.specs.declared.node.Node.{Node}
use Rattle.vx_bdd_tools.specs.Nodes.{holds}
use Rattle.vx_report.specs.declared.report.Report.{Report}
use Rattle.vx_cover.specs.declared.tries.Try.{Try}

abbrev pub piece_nodes : Report → List ℕ
piece_nodes r = map (λ piece. piece.node) r.pieces

abbrev pub end_nodes : Report → List ℕ
end_nodes r = map (λ line. line.node) r.ends

-- a number of a list holds the configuration
abbrev pub some_hold : List Node → List ℕ → List Bool → Bool
some_hold nodes numbers c = list_any (λ k. holds nodes k c) numbers

-- the report has an end at the configuration
abbrev pub has_end : Report → List Bool → Bool
has_end r c = some_hold r.nodes (end_nodes r) c

-- the configuration's end is that with this number, from 1 on: the first one whose node holds it
abbrev pub has_this_end : Report → ℕ → List Bool → Bool
has_this_end r zero c = false
has_this_end r (suc place) c = not (some_hold r.nodes (take place (end_nodes r)) c) && holds r.nodes (item_or (end_nodes r) place 0) c

-- the configuration has an end, and the piece with this number, from 1 on
abbrev pub has_this_piece : Report → ℕ → List Bool → Bool
has_this_piece r zero c = false
has_this_piece r (suc place) c = has_end r c && holds r.nodes (item_or (piece_nodes r) place 0) c

-- how often a number stands in some lines
abbrev pub times : (Try → List ℕ) → ℕ → List Try → ℕ
times numbers index tries = sum_by (λ t. count_by (nat_eq index) (numbers t)) tries

-- each number in a line is had by its configuration, and each number that any configuration has stands in one line, once
pub record IsCoverOf (has : ℕ → List Bool → Bool) (numbers : Try → List ℕ) (tries : List Try) : Type 0 where
  pub right : AllByRecursion (λ (t : Try). AllByRecursion (λ index. has index t.configuration ≡ true) (numbers t)) tries
  pub once : (index : ℕ) (c : List Bool) → has index c ≡ true → times numbers index tries ≡ 1

-- the configuration has a value for each option, and an end
pub record IsRun (r : Report) (c : List Bool) : Type 0 where
  pub values : length c ≡ length r.options
  pub ended : has_end r c ≡ true

-- at each configuration the report has an end; the lines cover its ends, at most one in a line, and its pieces; and each line has an end or a piece, which stands in no
-- other line, so there are at most as many lines as ends and pieces
pub record IsCover (r : Report) (tries : List Try) : Type 0 where
  pub runs : AllByRecursion (λ (t : Try). IsRun r t.configuration) tries
  pub some : AllByRecursion (λ (t : Try). 1 ≤ length t.ends + length t.pieces) tries
  pub ends : IsCoverOf (has_this_end r) (λ t. t.ends) tries
  pub one_end : AllByRecursion (λ (t : Try). length t.ends ≤ 1) tries
  pub pieces : IsCoverOf (has_this_piece r) (λ t. t.pieces) tries
