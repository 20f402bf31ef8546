-- Two reports that say the same are one.
use Rattle.std.proofs.Common.{◌≡◌, ℕ, Bool, true, false, List, [], ◌∷◌, length, map, refl, sym, ap, subst, ◌∙◌, append_assoc, append-nil}
use Rattle.vx_space.specs.Sets.{Sets}
use Rattle.vx_bdd_tools.specs.declared.node.Node.{Node}
use Rattle.vx_bdd_tools.specs.Listing.{IsListing}
use Rattle.vx_bdd_tools.specs.Nodes.{holds}
use Rattle.vx_bdd_tools.specs.Numbering.{HoldAll, IsNumbered}
use Rattle.vx_bdd_tools.proofs.OneNumbering.{IsOnlyListing-of}
use Rattle.vx_report.specs.declared.report.AttemptLine.{AttemptLine}
use Rattle.vx_report.specs.declared.report.EndLine.{EndLine}
use Rattle.vx_report.specs.declared.report.Piece.{Piece}
use Rattle.vx_report.specs.declared.report.Report.{Report}
use Rattle.vx_report_reader.specs.Rules.{roots_of}
use Rattle.vx_one_report.specs.Law.{IsSameEnd, IsSameNumber, IsSamePiece, ReportsAreOne}
use Rattle.vx_one_report.proofs.Fitted.{hold_same}
use Rattle.vx_one_report.proofs.Zipped.{AreSame, hold_other, hold_own, one_front, same_append, same_map}

-- tests of configurations as ids of themselves
abbrev tests : ℕ → Sets (List Bool → Bool)
tests n = record {
  options = n;
  never = λ c. false;
  always = λ c. true;
  is_known = λ set. true;
  test = λ set. set;
  counts = false;
  count = 0;
  base = 0;
}

map_same : {A : Type 0} (xs : List A) → map (λ x. x) xs ≡ xs
map_same [] = refl
map_same (x ∷ xs) = ap (λ rest. x ∷ rest) (map_same xs)

listed : (n : ℕ) (sets : List (List Bool → Bool)) (nodes : List Node) (roots : List ℕ) → HoldAll nodes roots sets → IsNumbered n nodes roots → IsListing (tests n) sets nodes roots
listed n sets nodes roots h k = record { hold = rw (map_same sets) h; numbered = k }

-- lists of nodes in the numbering whose numbers hold the same sets are one list with the same numbers
pub one_list : (n : ℕ) (one other : List Node) (ks ls : List ℕ) → IsNumbered n one ks → IsNumbered n other ls → AreSame one other ks ls → (one ≡ other) × (ks ≡ ls)
one_list n one other ks ls h k same =
    let sets = map (holds one) ks in
    (IsOnlyListing-of (tests n) sets other ls (listed n sets other ls (hold_other one other ks ls same) k)).only one ks (listed n sets one ks (hold_own one ks) h)

piece_one : (one other : Report) (x y : Piece) → IsSamePiece one other x y → x.node ≡ y.node → x ≡ y
piece_one one other x y h e = λ i. record { node = e i; stream = h.stream i; text = h.text i }

end_one : (one other : Report) (x y : EndLine) → IsSameEnd one other x y → x.node ≡ y.node → x ≡ y
end_one one other x y h e = λ i. record { node = e i; end = h.end i }

number_one : (one other : Report) (x y : AttemptLine) → IsSameNumber one other x y → x.node ≡ y.node → x ≡ y
number_one one other x y h e = λ i. record { node = e i; attempts = h.attempts i }

numbered_as : (m n : ℕ) (nodes : List Node) (roots : List ℕ) → m ≡ n → IsNumbered m nodes roots → IsNumbered n nodes roots
numbered_as m n nodes roots e h = subst (λ k. IsNumbered k nodes roots) e h

pub reports_one : ReportsAreOne
reports_one one other h k same =
    let n = length one.options in
    let g = numbered_as (length other.options) n other.nodes (roots_of other) (ap length (sym same.options)) k in
    let hold = hold_same h.reduced g.reduced in
    let pieces = same_map one.nodes other.nodes (λ piece. piece.node) (IsSamePiece one other) (λ x y r. hold x.node y.node r.holds) one.pieces other.pieces same.pieces in
    let ends = same_map one.nodes other.nodes (λ line. line.node) (IsSameEnd one other) (λ x y r. hold x.node y.node r.holds) one.ends other.ends same.ends in
    let attempts = same_map one.nodes other.nodes (λ line. line.node) (IsSameNumber one other) (λ x y r. hold x.node y.node r.holds) one.attempts other.attempts same.attempts in
    let roots = same_append one.nodes other.nodes _ _ _ _ (same_append one.nodes other.nodes _ _ _ _ pieces ends) attempts in
    let lists = one_list n one.nodes other.nodes (roots_of one) (roots_of other) h g roots in
    let parts = sym (append_assoc (map (λ piece. piece.node) one.pieces) _ _) ∙ lists.1 ∙ append_assoc (map (λ piece. piece.node) other.pieces) _ _ in
    let first = one_front (λ piece. piece.node) (IsSamePiece one other) (piece_one one other) one.pieces other.pieces _ _ same.pieces parts in
    let second = one_front (λ line. line.node) (IsSameEnd one other) (end_one one other) one.ends other.ends _ _ same.ends first.behind in
    let third = one_front (λ line. line.node) (IsSameNumber one other) (number_one one other) one.attempts other.attempts [] [] same.attempts (append-nil _ ∙ second.behind ∙ sym (append-nil _)) in
    λ i. record {
      version = same.version i;
      options = same.options i;
      limit = same.limit i;
      rounds = same.rounds i;
      nodes = lists.0 i;
      pieces = first.items i;
      ends = second.items i;
      attempts = third.items i;
    }
