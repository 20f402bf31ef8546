use Rattle.std.proofs.Common.{◌≡◌, ◌<◌, ℕ, true}
use Rattle.vx_ancestry.specs.Ancestors.{parents_of, rank_of, are_at_most}
use Rattle.vx_ancestry.proofs.ranks.are_ranked.Given as goal

abbrev pub invariant-loop-place : goal.invariant-loop-place
invariant-loop-place l =
    (k : ℕ) → k < l.place → are_at_most l.ranks (rank_of l.ranks k) (parents_of l.parents k) ≡ true
