-- The order of ends: return; exit by its signed code; uncaught by its class; unsupported by its number, then what, then place; illegal by its place; unfinished. Names compare by bytes, a prefix first.
use Rattle.std.specs.Prelude.{ℕ}
use Rattle.std.specs.declared.cmp.Ordering.{Ordering}
use Rattle.std.specs.declared.cmp.Ordering.TheVariants.{Equal}
use Rattle.std.specs.Ordering.{nat_cmp, int_cmp, ordering_then}
use Rattle.std.specs.Cmp.Lexicographic.{slice_cmp}
use Rattle.vx_value.specs.declared.end.End.{End}
use Rattle.vx_value.specs.declared.end.End.TheVariants.{Return, Exit, Uncaught, Unsupported, Illegal, Unfinished}

-- the place of an end among the six kinds
abbrev pub end_rank : End → ℕ
end_rank Return = 0
end_rank (Exit code) = 1
end_rank (Uncaught class) = 2
end_rank (Unsupported word what place) = 3
end_rank (Illegal place) = 4
end_rank Unfinished = 5

-- two ends of one kind
abbrev pub compare_like_ends : End → End → Ordering
compare_like_ends (Exit j) (Exit k) = int_cmp j k
compare_like_ends (Uncaught a) (Uncaught b) = slice_cmp nat_cmp a b
compare_like_ends (Unsupported v a p) (Unsupported w b q) = ordering_then (nat_cmp v w) (ordering_then (slice_cmp nat_cmp a b) (slice_cmp nat_cmp p q))
compare_like_ends (Illegal p) (Illegal q) = slice_cmp nat_cmp p q
compare_like_ends _ _ = Equal

-- two ends: first by kind
abbrev pub compare_ends : End → End → Ordering
compare_ends a b = ordering_then (nat_cmp (end_rank a) (end_rank b)) (compare_like_ends a b)
