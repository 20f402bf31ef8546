-- One more node line.
use Rattle.std.proofs.Common.{◌≡◌, ℕ, suc, zero, ◌+◌, ◌<◌, List, [], ◌∷◌, ◌++◌, Bool, true, false, ◌&&◌, length, slice_get, Some, nat_eq, refl, ap, ◌⊎◌, inl, inr}
use Rattle.vx_bdd_tools.specs.declared.node.Node.{Node}
use Rattle.vx_bdd_tools.specs.Numbering.{NumbersAll}
use Rattle.vx_report.specs.declared.report.Report.{Report}
use Rattle.vx_report_line.specs.Falls.{IsFalling}
use Rattle.vx_report_reader.specs.Rules.{roots_of, numbers, is_nil}
use Rattle.vx_report_reader.proofs.Drafts.{nil_of}

get_more : (nodes : List Node) (node : Node) (place : ℕ) (x : Node) → slice_get (nodes ++ node ∷ []) place ≡ Some x → (slice_get nodes place ≡ Some x) ⊎ ((x ≡ node) × (place ≡ length nodes))
get_more [] node zero x e = inr (cc, refl)
get_more [] node (suc k) x e = cc
get_more (y ∷ ys) node zero x e = inl e
get_more (y ∷ ys) node (suc k) x e = elim (get_more ys node k x e) [ inl h ↦ inl h | inr h ↦ inr (h.0, ap suc h.1) ]

pub falls_more : (nodes : List Node) (node : Node) → IsFalling nodes → node.low < length nodes + 2 → node.high < length nodes + 2 → IsFalling (nodes ++ node ∷ [])
falls_more nodes node f low high = record {
  low = λ place x e. elim (get_more nodes node place x e) [ inl h ↦ f.low place x h | inr h ↦ rw (h.0, h.1) low ];
  high = λ place x e. elim (get_more nodes node place x e) [ inl h ↦ f.high place x h | inr h ↦ rw (h.0, h.1) high ];
}

walk_none : (nodes more : List Node) (g : ℕ) (roots : List ℕ) → roots ≡ [] → NumbersAll nodes 2 roots g → NumbersAll more 2 roots g
walk_none nodes more g [] e (NumbersAll.none _) = NumbersAll.none 2
walk_none nodes more g (r ∷ rs) e w = cc

all_true : (a b c d : Bool) → (a && b && c && d) ≡ true → (a ≡ true) × (b ≡ true) × (c ≡ true)
all_true true true true d e = (refl, refl, refl)
all_true true true false d e = cc
all_true true false c d e = cc
all_true false b c d e = cc

no_roots : (r : Report) (id : ℕ) → numbers r id ≡ true → roots_of r ≡ []
no_roots r id e =
    let a = all_true (is_nil r.pieces) (is_nil r.ends) (is_nil r.attempts) (nat_eq id (length r.nodes + 2)) e in
    rw (nil_of r.pieces a.0, nil_of r.ends a.1, nil_of r.attempts a.2) refl

pub walk_more : (r : Report) (id g : ℕ) (more : List Node) → numbers r id ≡ true → NumbersAll r.nodes 2 (roots_of r) g → NumbersAll more 2 (roots_of r) g
walk_more r id g more e w = walk_none r.nodes more g (roots_of r) (no_roots r id e) w

-- ---- no node line so far

pub falls_nil : IsFalling []
falls_nil = record { low = λ place x e. cc; high = λ place x e. cc }

pub walk_nil : (nodes : List Node) → NumbersAll nodes 2 [] 2
walk_nil nodes = NumbersAll.none 2
