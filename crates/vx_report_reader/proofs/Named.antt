-- One more node that is named.
use Rattle.std.proofs.Common.{◌≡◌, ℕ, List, [], ◌∷◌, ◌++◌, Option, Some, None, MatchOption, MatchBool, Bool, true, false, nat_eq, refl, subst, arith}
use Rattle.std.proofs.lemmas.Bool.Decides.{nat_tests}
use Rattle.vx_bdd_tools.specs.declared.node.Node.{Node}
use Rattle.vx_bdd_tools.specs.Numbering.{Numbers, NumbersAll}
use Rattle.vx_report.specs.declared.report.Report.{Report}
use Rattle.vx_report_reader.specs.Rules.{roots_of, IsWalked}
use Rattle.vx_report_line.proofs.Orders.{numbers_same}

pub all_more : (nodes : List Node) (n g m : ℕ) (roots : List ℕ) (node : ℕ) → NumbersAll nodes n roots g → Numbers nodes g node m → NumbersAll nodes n (roots ++ node ∷ []) m
all_more nodes n g m [] node (NumbersAll.none _) w = NumbersAll.first n node m [] m w (NumbersAll.none m)
all_more nodes n g m (r ∷ rs) node (NumbersAll.first _ _ b _ _ p q) w = NumbersAll.first n r b (rs ++ node ∷ []) m p (all_more nodes b g m rs node q w)

pub all_last : (nodes : List Node) (n : ℕ) (roots : List ℕ) (node m g : ℕ) → NumbersAll nodes n (roots ++ node ∷ []) m → NumbersAll nodes n roots g → Numbers nodes g node m
all_last nodes n [] node m g (NumbersAll.first _ _ b _ _ p q) (NumbersAll.none _) = last b m p q
  where
    last : (b m : ℕ) → Numbers nodes n node b → NumbersAll nodes b [] m → Numbers nodes n node m
    last b m p (NumbersAll.none _) = p
all_last nodes n (r ∷ rs) node m g (NumbersAll.first _ _ b _ _ p q) (NumbersAll.first _ _ c _ _ s t) =
    all_last nodes b rs node m g q (subst (λ (x : ℕ). NumbersAll nodes x rs g) (numbers_same nodes n r c b s p) t)

pub walked_by : (report : Report) (g node : ℕ) (r : Option ℕ) → NumbersAll report.nodes 2 (roots_of report) g
    → MatchOption r ((m : ℕ) → Numbers report.nodes g node m → ⊥) (λ m. Numbers report.nodes g node m)
    → MatchOption r (IsWalked report node → ⊥) (λ m. NumbersAll report.nodes 2 (roots_of report ++ node ∷ []) m)
walked_by report g node None w h = λ p. h p.given (all_last report.nodes 2 (roots_of report) node p.given g p.walk w)
walked_by report g node (Some m) w h = all_more report.nodes 2 g m (roots_of report) node w h

all_same : (nodes : List Node) (n : ℕ) (roots : List ℕ) (m l : ℕ) → NumbersAll nodes n roots m → NumbersAll nodes n roots l → m ≡ l
all_same nodes n [] m l (NumbersAll.none _) (NumbersAll.none _) = refl
all_same nodes n (r ∷ rs) m l (NumbersAll.first _ _ b _ _ p q) (NumbersAll.first _ _ c _ _ s t) =
    all_same nodes b rs m l q (subst (λ (x : ℕ). NumbersAll nodes x rs l) (numbers_same nodes n r c b s p) t)

pub all_named : (nodes : List Node) (roots : List ℕ) (g n : ℕ) (b : Bool) → b ≡ nat_eq g n → NumbersAll nodes 2 roots g
    → MatchBool b (NumbersAll nodes 2 roots n) (NumbersAll nodes 2 roots n → ⊥)
all_named nodes roots g n true e w = let same : g ≡ n = grind (arith, nat_tests) in subst (λ (x : ℕ). NumbersAll nodes 2 roots x) same w
all_named nodes roots g n false e w = λ h. let same : g ≡ n = all_same nodes 2 roots g n w h in absurd (grind (arith, nat_tests))
