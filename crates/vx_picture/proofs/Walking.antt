-- The edges of a picture walk as the nodes of its report hold.
use Rattle.std.proofs.Common.{◌≡◌, ◌⊎◌, inl, inr, ℕ, ◌+◌, ◌-◌, ◌<◌, ◌≤◌, zero, suc, Bool, true, false, List, [], ◌∷◌, ◌++◌, length, take, map, refl, sym, ◌∙◌, ap, subst, arith, append_assoc, eqb-true}
use Rattle.std.specs.List.{AllByRecursion}
use Rattle.std.specs.Prelude.{Option, Some, None, option_map, slice_get, nat_eq, max, ◌&&◌, ◌||◌, if◌then◌else◌}
use Rattle.std.proofs.lemmas.Bool.Decides.{nat_tests}
use Rattle.std.proofs.lemmas.List.{length-take}
use Rattle.vx_bdd_tools.specs.declared.node.Node.{Node}
use Rattle.vx_bdd_tools.specs.Nodes.{child, node_of, holds, walk_by, IsNextNode, IsReducedList}
use Rattle.vx_bdd_tools.proofs.NodeLists.{holds-append}
use Rattle.vx_bdd_tools.proofs.NodeSets.{node_same}
use Rattle.vx_report.specs.declared.report.Report.{Report}
use Rattle.vx_report.specs.declared.report.Piece.{Piece}
use Rattle.vx_report.specs.declared.report.EndLine.{EndLine}
use Rattle.vx_report_reader.specs.Lawful.{IsLawful}
use Rattle.vx_picture.proofs.Numbered.{greatest-both}
use Rattle.vx_picture.proofs.Reaching.{HasParts, PartsFall, among_reached, kept_alike, reached_closed}
use Rattle.vx_picture.specs.declared.shape.Drawn.{Drawn}
use Rattle.vx_picture.specs.declared.shape.Drawn.TheVariants as asked
use Rattle.vx_picture.specs.declared.shape.Ellipse.{Ellipse}
use Rattle.vx_picture.specs.declared.shape.Edge.{Edge}
use Rattle.vx_picture.specs.declared.subject.Subject.{Subject}
use Rattle.vx_picture.specs.declared.shape.Picture.{Picture}
use Rattle.vx_picture.specs.Marks.{has_mark}
use Rattle.vx_picture.specs.Pictures.{boxes_of, drawn_nodes, edge, edges_of, ellipse, greatest, is_among, is_drawn, kept, named, nodes_of, picture_of, reached, reached_from}
use Rattle.vx_picture.specs.Subjects.{end_subject, end_subjects, is_return, numbered, piece_subject, same, subject_of_piece, subjects}
use Rattle.vx_picture.specs.Walks.{Walks, WalksFrom, edge_to, ellipse_at}

other_number : (from k : ℕ) → from < k → nat_eq from k ≡ false
other_number from k l = grind (arith, nat_tests)

same_number : (k : ℕ) → nat_eq k k ≡ true
same_number k = grind (arith, nat_tests)

no_side : {A : Type 0} (x : Bool) (a b : A) → (if x && false then a else b) ≡ b
no_side true a b = refl
no_side false a b = refl

-- an edge from another number
past : (from : ℕ) (high : Bool) (to : ℕ) (rest : List Edge) (k : ℕ) (b : Bool) → nat_eq from k ≡ false → edge_to (edge from high to ++ rest) k b ≡ edge_to rest k b
past from high to rest k b e = by (nat_eq to 0) refl
  where
    by : (z : Bool) → nat_eq to 0 ≡ z → edge_to (edge from high to ++ rest) k b ≡ edge_to rest k b
    by true z = rw z refl
    by false z = rw (z, e) refl

-- an edge for the other value
other : (from : ℕ) (high : Bool) (to : ℕ) (rest : List Edge) (k : ℕ) (b : Bool) → same high b ≡ false → edge_to (edge from high to ++ rest) k b ≡ edge_to rest k b
other from high to rest k b e = by (nat_eq to 0) refl
  where
    by : (z : Bool) → nat_eq to 0 ≡ z → edge_to (edge from high to ++ rest) k b ≡ edge_to rest k b
    by true z = rw z refl
    by false z = rw (z, e) (no_side (nat_eq from k) to (edge_to rest k b))

-- the edge itself
here : (from : ℕ) (high : Bool) (to : ℕ) (rest : List Edge) (b : Bool) → same high b ≡ true → edge_to rest from b ≡ 0 → edge_to (edge from high to ++ rest) from b ≡ to
here from high to rest b e n = by (nat_eq to 0) refl
  where
    by : (z : Bool) → nat_eq to 0 ≡ z → edge_to (edge from high to ++ rest) from b ≡ to
    by true z = rw z (n ∙ sym (eqb-true to 0 z))
    by false z = rw (z, same_number from, e) refl

-- both edges of another number
both_past : (from : ℕ) (node : Node) (rest : List Edge) (k : ℕ) (b : Bool) → nat_eq from k ≡ false → edge_to (edges_of from node ++ rest) k b ≡ edge_to rest k b
both_past from node rest k b e =
    ap (λ es. edge_to es k b) (append_assoc (edge from false node.low) (edge from true node.high) rest)
    ∙ past from false node.low (edge from true node.high ++ rest) k b e
    ∙ past from true node.high rest k b e

both_here : (from : ℕ) (node : Node) (rest : List Edge) (b : Bool) → edge_to rest from b ≡ 0 → edge_to (edges_of from node ++ rest) from b ≡ (if b then node.high else node.low)
both_here from node rest true n =
    ap (λ es. edge_to es from true) (append_assoc (edge from false node.low) (edge from true node.high) rest)
    ∙ other from false node.low (edge from true node.high ++ rest) from true refl
    ∙ here from true node.high rest true refl n
both_here from node rest false n =
    ap (λ es. edge_to es from false) (append_assoc (edge from false node.low) (edge from true node.high) rest)
    ∙ here from false node.low (edge from true node.high ++ rest) false refl (other from true node.high rest from false refl ∙ n)

-- what a node makes, where it is drawn
edges_kept : (keep : ℕ → Bool) (n : ℕ) (node : Node) → keep n ≡ true → kept keep edges_of n node ≡ edges_of n node
edges_kept keep n node e = rw e refl

no_edges : (keep : ℕ → Bool) (n : ℕ) (node : Node) → keep n ≡ false → kept keep edges_of n node ≡ []
no_edges keep n node e = rw e refl

-- the edges of another number, where they are drawn
kept_past : (keep : ℕ → Bool) (n : ℕ) (node : Node) (rest : List Edge) (k : ℕ) (b : Bool) → nat_eq n k ≡ false → edge_to (kept keep edges_of n node ++ rest) k b ≡ edge_to rest k b
kept_past keep n node rest k b e = by (keep n) refl
  where
    by : (t : Bool) → keep n ≡ t → edge_to (kept keep edges_of n node ++ rest) k b ≡ edge_to rest k b
    by true t = ap (λ es. edge_to (es ++ rest) k b) (edges_kept keep n node t) ∙ both_past n node rest k b e
    by false t = ap (λ es. edge_to (es ++ rest) k b) (no_edges keep n node t)

-- no edge leads from a number before the first one
later_edges : (keep : ℕ → Bool) (n k : ℕ) (nodes : List Node) (b : Bool) → k < n → edge_to (numbered (kept keep edges_of) n nodes) k b ≡ 0
later_edges keep n k [] b l = refl
later_edges keep n k (node ∷ rest) b l =
    let e : nat_eq n k ≡ false = grind (arith, nat_tests) in
    kept_past keep n node (numbered (kept keep edges_of) (suc n) rest) k b e ∙ later_edges keep (suc n) k rest b (omega arith)

-- the edges of a node that is drawn lead to its parts
edges_here : (keep : ℕ → Bool) (n : ℕ) (nodes : List Node) (i k : ℕ) (node : Node) (b : Bool) → keep k ≡ true → k ≡ i + n → slice_get nodes i ≡ Some node → edge_to (numbered (kept keep edges_of) n nodes) k b ≡ (if b then node.high else node.low)
edges_here keep n [] i k node b t e s = cc
edges_here keep n (x ∷ xs) zero k node b t e s =
    let P : ℕ → Type 0 = λ j. edge_to (numbered (kept keep edges_of) n (x ∷ xs)) j b ≡ (if b then node.high else node.low) in
    let same : x ≡ node = cc in
    let at_n : n ≡ k = omega (arith, e) in
    let drawn : keep n ≡ true = ap keep at_n ∙ t in
    let first = both_here n x (numbered (kept keep edges_of) (suc n) xs) b (later_edges keep (suc n) n xs b (omega arith)) in
    subst P at_n (ap (λ es. edge_to (es ++ numbered (kept keep edges_of) (suc n) xs) n b) (edges_kept keep n x drawn) ∙ first ∙ ap (λ (y : Node). if b then y.high else y.low) same)
edges_here keep n (x ∷ xs) (suc i) k node b t e s =
    let l : n < k = omega (arith, e) in
    let next : k ≡ i + suc n = omega (arith, e) in
    kept_past keep n x (numbered (kept keep edges_of) (suc n) xs) k b (other_number n k l) ∙ edges_here keep (suc n) xs i k node b t next s

-- an ellipse with the edges from it
abbrev with_edges : List Edge → ℕ → Node → Node
with_edges edges k node = record { option = node.option; low = edge_to edges k false; high = edge_to edges k true }

-- the ellipse of another number, where it is drawn
ellipse_past : (keep : ℕ → Bool) (edges : List Edge) (n : ℕ) (node : Node) (rest : List Ellipse) (k : ℕ) → nat_eq n k ≡ false → ellipse_at edges (kept keep ellipse n node ++ rest) k ≡ ellipse_at edges rest k
ellipse_past keep edges n node rest k e = by (keep n) refl
  where
    by : (t : Bool) → keep n ≡ t → ellipse_at edges (kept keep ellipse n node ++ rest) k ≡ ellipse_at edges rest k
    by true t = rw (t, e) refl
    by false t = rw t refl

ellipse_here : (keep : ℕ → Bool) (edges : List Edge) (n : ℕ) (nodes : List Node) (i k : ℕ) → keep k ≡ true → k ≡ i + n → ellipse_at edges (numbered (kept keep ellipse) n nodes) k ≡ option_map (with_edges edges k) (slice_get nodes i)
ellipse_here keep edges n [] i k t e = refl
ellipse_here keep edges n (x ∷ xs) zero k t e =
    let at_n : n ≡ k = omega (arith, e) in
    let same : nat_eq n k ≡ true = subst (λ j. nat_eq n j ≡ true) at_n (same_number n) in
    let drawn : keep n ≡ true = ap keep at_n ∙ t in
    rw (drawn, same) refl
ellipse_here keep edges n (x ∷ xs) (suc i) k t e =
    let l : n < k = omega (arith, e) in
    let next : k ≡ i + suc n = omega (arith, e) in
    ellipse_past keep edges n x (numbered (kept keep ellipse) (suc n) xs) k (other_number n k l) ∙ ellipse_here keep edges (suc n) xs i k t next

early_ellipses : (keep : ℕ → Bool) (edges : List Edge) (n k : ℕ) (nodes : List Node) → k < n → ellipse_at edges (numbered (kept keep ellipse) n nodes) k ≡ None
early_ellipses keep edges n k [] l = refl
early_ellipses keep edges n k (x ∷ xs) l =
    let e : nat_eq n k ≡ false = grind (arith, nat_tests) in
    ellipse_past keep edges n x (numbered (kept keep ellipse) (suc n) xs) k e ∙ early_ellipses keep edges (suc n) k xs (omega arith)

node_kept : (keep : ℕ → Bool) (nodes : List Node) (i k : ℕ) (o : Option Node) → keep k ≡ true → k ≡ i + 2 → slice_get nodes i ≡ o → option_map (with_edges (numbered (kept keep edges_of) 2 nodes) k) o ≡ o
node_kept keep nodes i k None t e s = refl
node_kept keep nodes i k (Some node) t e s =
    let low = edges_here keep 2 nodes i k node false t e s in
    let high = edges_here keep 2 nodes i k node true t e s in
    ap Some (node_same (with_edges (numbered (kept keep edges_of) 2 nodes) k node) node refl low high)

-- what is drawn of a node is that node
same_node : (keep : ℕ → Bool) (nodes : List Node) (k : ℕ) → keep k ≡ true → ellipse_at (numbered (kept keep edges_of) 2 nodes) (numbered (kept keep ellipse) 2 nodes) k ≡ node_of nodes k
same_node keep nodes zero t = early_ellipses keep (numbered (kept keep edges_of) 2 nodes) 2 0 nodes (omega arith)
same_node keep nodes (suc zero) t = early_ellipses keep (numbered (kept keep edges_of) 2 nodes) 2 1 nodes (omega arith)
same_node keep nodes (suc (suc i)) t =
    let e : suc (suc i) ≡ i + 2 = omega arith in
    ellipse_here keep (numbered (kept keep edges_of) 2 nodes) 2 nodes i (suc (suc i)) t e ∙ node_kept keep nodes i (suc (suc i)) (slice_get nodes i) t e refl

-- with a node its parts are drawn
record IsClosed (keep : ℕ → Bool) (nodes : List Node) : Type 0 where
  each : (k : ℕ) (node : Node) (b : Bool) → keep k ≡ true → node_of nodes k ≡ Some node → keep (if b then node.high else node.low) ≡ true

-- where it goes is drawn
stays_drawn : (keep : ℕ → Bool) (nodes : List Node) → IsClosed keep nodes → (k : ℕ) (c : List Bool) (o : Option Node) → node_of nodes k ≡ o → keep k ≡ true → keep (child o k c) ≡ true
stays_drawn keep nodes closed k c None e t = t
stays_drawn keep nodes closed k c (Some node) e t = closed.each k node _ t e

walk_alike : (keep : ℕ → Bool) (nodes : List Node) → IsClosed keep nodes → (steps k : ℕ) (c : List Bool) → keep k ≡ true → walk_by (ellipse_at (numbered (kept keep edges_of) 2 nodes) (numbered (kept keep ellipse) 2 nodes)) steps k c ≡ walk_by (node_of nodes) steps k c
walk_alike keep nodes closed zero k c t = refl
walk_alike keep nodes closed (suc steps) k c t =
    let drawn = ellipse_at (numbered (kept keep edges_of) 2 nodes) (numbered (kept keep ellipse) 2 nodes) in
    ap (λ o. walk_by drawn steps (child o k c) c) (same_node keep nodes k t)
    ∙ walk_alike keep nodes closed steps (child (node_of nodes k) k c) c (stays_drawn keep nodes closed k c (node_of nodes k) refl t)

walks_alike : (keep : ℕ → Bool) (nodes : List Node) → IsClosed keep nodes → (k : ℕ) (c : List Bool) → keep k ≡ true → nat_eq (walk_by (ellipse_at (numbered (kept keep edges_of) 2 nodes) (numbered (kept keep ellipse) 2 nodes)) k k c) 1 ≡ holds nodes k c
walks_alike keep nodes closed k c t = ap (λ n. nat_eq n 1) (walk_alike keep nodes closed k k c t)

take_in_take : {A : Type 0} (i m : ℕ) (xs : List A) → i ≤ m → take i (take m xs) ≡ take i xs
take_in_take zero m xs l = refl
take_in_take (suc i) zero xs l = absurd (omega (arith, l))
take_in_take (suc i) (suc m) [] l = refl
take_in_take (suc i) (suc m) (x ∷ xs) l = ap (λ ys. x ∷ ys) (take_in_take i m xs (omega (arith, l)))

slice_get_take : {A : Type 0} (m : ℕ) (xs : List A) (i : ℕ) (x : A) → slice_get (take m xs) i ≡ Some x → (i < m) × (slice_get xs i ≡ Some x)
slice_get_take zero xs i x e = cc
slice_get_take (suc m) [] i x e = cc
slice_get_take (suc m) (y ∷ ys) zero x e = (omega arith, e)
slice_get_take (suc m) (y ∷ ys) (suc i) x e = let h = slice_get_take m ys i x e in (omega (arith, h.0), h.1)

take_and_rest : {A : Type 0} (m : ℕ) (xs : List A) → (rest : List A) × (take m xs ++ rest ≡ xs)
take_and_rest zero xs = (xs, refl)
take_and_rest (suc m) [] = ([], refl)
take_and_rest (suc m) (x ∷ xs) = let r = take_and_rest m xs in (r.0, ap (λ ys. x ∷ ys) r.1)

reduced_take : {options : ℕ} {nodes : List Node} → IsReducedList options nodes → (m : ℕ) → IsReducedList options (take m nodes)
reduced_take {options = options} {nodes = nodes} r m = record {
  each = λ place node e.
      let h = slice_get_take m nodes place node e in
      let P : List Node → Type 0 = λ before. IsNextNode options before node in
      subst P (sym (take_in_take place m nodes (omega (arith, h.0)))) (r.each place node h.1);
}

all_taken : {A : Type 0} (m : ℕ) (xs : List A) → length (take m xs) < m → take m xs ≡ xs
all_taken zero xs l = absurd (omega (arith, l))
all_taken (suc m) [] l = refl
all_taken (suc m) (x ∷ xs) l = ap (λ ys. x ∷ ys) (all_taken m xs (omega (arith, l)))

-- the first nodes hold what all of them hold
first_hold : {options : ℕ} {nodes : List Node} → IsReducedList options nodes → (m k : ℕ) (c : List Bool) → k < m + 2 → holds (take m nodes) k c ≡ holds nodes k c
first_hold {options = options} {nodes = nodes} r m k c l = by (nat_lt_or (length (take m nodes)) m)
  where
    nat_lt_or : (a b : ℕ) → (a < b) ⊎ (b ≤ a)
    nat_lt_or a zero = inr (omega arith)
    nat_lt_or zero (suc b) = inl (omega arith)
    nat_lt_or (suc a) (suc b) = elim (nat_lt_or a b) [ inl h ↦ inl (omega (arith, h)) | inr h ↦ inr (omega (arith, h)) ]

    by : (length (take m nodes) < m) ⊎ (m ≤ length (take m nodes)) → holds (take m nodes) k c ≡ holds nodes k c
    by (inl h) = ap (λ xs. holds xs k c) (all_taken m nodes h)
    by (inr h) =
        let rest = take_and_rest m nodes in
        sym (holds-append (reduced_take r m) rest.0 k c (omega (arith, h, l))) ∙ ap (λ xs. holds xs k c) rest.1

greatest_least : (n : ℕ) (ks : List ℕ) → n ≤ greatest n ks
greatest_least n [] = omega arith
greatest_least n (k ∷ ks) = omega (arith, greatest_least (max n k) ks)

-- the numbers of a list are at most its greatest
within_greatest : {A : Type 0} (number : A → ℕ) (n m : ℕ) (xs : List A) → greatest n (map number xs) ≤ m → AllByRecursion (λ x. number x ≤ m) xs
within_greatest number n m [] l = tt
within_greatest number n m (x ∷ xs) l = (omega (arith, l, greatest_least (max n (number x)) (map number xs)), within_greatest number (max n (number x)) m xs l)

all-both : {A : Type 0} (P : A → Type 0) (xs ys : List A) → AllByRecursion P xs → AllByRecursion P ys → AllByRecursion P (xs ++ ys)
all-both P [] ys p q = q
all-both P (x ∷ xs) ys p q = (p.0, all-both P xs ys p.1 q)

all-weaker : {A : Type 0} (P Q : A → Type 0) → ((x : A) → P x → Q x) → (xs : List A) → AllByRecursion P xs → AllByRecursion Q xs
all-weaker P Q w [] p = tt
all-weaker P Q w (x ∷ xs) p = (w x p.0, all-weaker P Q w xs p.1)

pieces_within : (m n : ℕ) (pieces : List Piece) → AllByRecursion (λ piece. piece.node ≤ m) pieces → AllByRecursion (λ (b : Subject). b.node ≤ m) (numbered piece_subject n pieces)
pieces_within m n [] p = tt
pieces_within m n (x ∷ xs) p = (p.0, pieces_within m (suc n) xs p.1)

end_within : (m n : ℕ) (returns b : Bool) (line : EndLine) → line.node ≤ m → same returns (is_return line.end) ≡ b → AllByRecursion (λ (x : Subject). x.node ≤ m) (end_subject returns n line)
end_within m n returns true line p e = rw e (p, tt)
end_within m n returns false line p e = rw e tt

ends_within : (m n : ℕ) (returns : Bool) (ends : List EndLine) → AllByRecursion (λ line. line.node ≤ m) ends → AllByRecursion (λ (b : Subject). b.node ≤ m) (numbered (end_subject returns) n ends)
ends_within m n returns [] p = tt
ends_within m n returns (x ∷ xs) p = all-both (λ (b : Subject). b.node ≤ m) (end_subject returns n x) (numbered (end_subject returns) (suc n) xs) (end_within m n returns (same returns (is_return x.end)) x p.0 refl) (ends_within m (suc n) returns xs p.1)

-- the node of each subject is at most the greatest number
subjects_within : (r : Report) → AllByRecursion (λ (b : Subject). b.node ≤ greatest 1 (named r)) (subjects r)
subjects_within r =
    let m = greatest 1 (named r) in
    let P : Subject → Type 0 = λ b. b.node ≤ m in
    let both : greatest (greatest 1 (map (λ piece. piece.node) r.pieces)) (map (λ line. line.node) r.ends) ≡ m = greatest-both 1 (map (λ piece. piece.node) r.pieces) (map (λ line. line.node) r.ends) in
    let piece_most : greatest 1 (map (λ piece. piece.node) r.pieces) ≤ m = omega (arith, both, greatest_least (greatest 1 (map (λ piece. piece.node) r.pieces)) (map (λ line. line.node) r.ends)) in
    let end_most : greatest (greatest 1 (map (λ piece. piece.node) r.pieces)) (map (λ line. line.node) r.ends) ≤ m = omega (arith, both) in
    let pieces = within_greatest (λ (piece : Piece). piece.node) 1 m r.pieces piece_most in
    let ends = within_greatest (λ (line : EndLine). line.node) (greatest 1 (map (λ piece. piece.node) r.pieces)) m r.ends end_most in
    all-both P (numbered (end_subject false) 1 r.ends ++ numbered (end_subject true) 1 r.ends) (numbered piece_subject 1 r.pieces) (all-both P (numbered (end_subject false) 1 r.ends) (numbered (end_subject true) 1 r.ends) (ends_within m 1 false r.ends ends) (ends_within m 1 true r.ends ends)) (pieces_within m 1 r.pieces pieces)

ellipses_within : (m n : ℕ) (nodes : List Node) → length nodes + n ≤ m → AllByRecursion (λ (e : Ellipse). e.number < m) (numbered ellipse n nodes)
ellipses_within m n [] l = tt
ellipses_within m n (x ∷ xs) l = (omega (arith, l), ellipses_within m (suc n) xs (omega (arith, l)))

-- all that pieces and ends need
all_walks : (r : Report) → IsLawful r → Walks r (picture_of asked.All r)
unfolding picture_of
all_walks r h =
    let m = greatest 1 (named r) - 1 in
    let nodes = drawn_nodes r in
    let keep : ℕ → Bool = λ n. true in
    let closed : IsClosed keep nodes = record { each = λ k node b t e. refl } in
    record {
      ellipses = all-weaker (λ (e : Ellipse). e.number < length nodes + 2) (λ e. WalksFrom r (picture_of asked.All r) e.number) (λ e l c. walks_alike keep nodes closed e.number c refl ∙ first_hold h.numbered.reduced m e.number c (omega (arith, l, length-take m r.nodes))) (numbered ellipse 2 nodes) (ellipses_within (length nodes + 2) 2 nodes (omega arith));
      boxes = all-weaker (λ (b : Subject). b.node ≤ greatest 1 (named r)) (λ b. WalksFrom r (picture_of asked.All r) b.node) (λ b l c. walks_alike keep nodes closed b.node c refl ∙ first_hold h.numbered.reduced m b.node c (omega (arith, l))) (subjects r) (subjects_within r);
    }

-- ---- a part

parts_fall : {options : ℕ} {nodes : List Node} → IsReducedList options nodes → (before rest : List Node) (n : ℕ) → before ++ rest ≡ nodes → n ≡ length before + 2 → PartsFall n rest
parts_fall r before [] n e m = tt
parts_fall {options = options} {nodes = nodes} r before (x ∷ rest) n e m =
    let here : slice_get nodes (length before) ≡ Some x = ap (λ xs. slice_get xs (length before)) (sym e) ∙ behind before x rest in
    let fewer : length (take (length before) nodes) ≤ length before = omega (arith, length-take (length before) nodes) in
    let next = r.each (length before) x here in
    ((omega (arith, next.low_given, fewer, m), omega (arith, next.high_given, fewer, m)), parts_fall r (before ++ x ∷ []) rest (suc n) (append_assoc before (x ∷ []) rest ∙ e) (omega (arith, m, longer before x)))
  where
    behind : (xs : List Node) (y : Node) (ys : List Node) → slice_get (xs ++ y ∷ ys) (length xs) ≡ Some y
    behind [] y ys = refl
    behind (x ∷ xs) y ys = behind xs y ys

    longer : (xs : List Node) (y : Node) → length (xs ++ y ∷ []) ≡ length xs + 1
    longer [] y = refl
    longer (x ∷ xs) y = omega (arith, longer xs y)

-- what boxes lead to has its parts
closed_part : (r : Report) → IsLawful r → (boxes : List Subject) → IsClosed (is_among (reached_from r boxes)) r.nodes
closed_part r h boxes = record { each = each }
  where
    numbers : List ℕ
    numbers = map (λ (b : Subject). b.node) boxes

    pick : (node : Node) → HasParts (reached numbers 2 r.nodes) node → (b : Bool) → is_among (reached numbers 2 r.nodes) (if b then node.high else node.low) ≡ true
    pick node p true = p.high
    pick node p false = p.low

    each : (k : ℕ) (node : Node) (b : Bool) → is_among (reached_from r boxes) k ≡ true → node_of r.nodes k ≡ Some node → is_among (reached_from r boxes) (if b then node.high else node.low) ≡ true
    each zero node b t e = cc
    each (suc zero) node b t e = cc
    each (suc (suc i)) node b t e = pick node (reached_closed numbers 2 r.nodes (parts_fall h.numbered.reduced [] r.nodes 2 refl refl) i (suc (suc i)) node (omega arith) e t) b

-- an ellipse that is drawn has a number that is kept
kept_number : (keep : ℕ → Bool) (n : ℕ) (node : Node) → AllByRecursion (λ (e : Ellipse). keep e.number ≡ true) (kept keep ellipse n node)
kept_number keep n node = by (keep n) refl
  where
    by : (t : Bool) → keep n ≡ t → AllByRecursion (λ (e : Ellipse). keep e.number ≡ true) (kept keep ellipse n node)
    by true t = rw t (t, tt)
    by false t = rw t tt

kept_numbers : (keep : ℕ → Bool) (n : ℕ) (nodes : List Node) → AllByRecursion (λ (e : Ellipse). keep e.number ≡ true) (numbered (kept keep ellipse) n nodes)
kept_numbers keep n [] = tt
kept_numbers keep n (x ∷ xs) = all-both (λ (e : Ellipse). keep e.number ≡ true) (kept keep ellipse n x) (numbered (kept keep ellipse) (suc n) xs) (kept_number keep n x) (kept_numbers keep (suc n) xs)

-- the node of each box is reached
boxes_reached : (boxes : List Subject) → AllByRecursion (λ (b : Subject). is_among (map (λ (x : Subject). x.node) boxes) b.node ≡ true) boxes
boxes_reached [] = tt
boxes_reached (x ∷ xs) = (ap (λ t. t || is_among (map (λ (y : Subject). y.node) xs) x.node) (same_number x.node), all-weaker (λ (b : Subject). is_among (map (λ (y : Subject). y.node) xs) b.node ≡ true) (λ b. is_among (map (λ (y : Subject). y.node) (x ∷ xs)) b.node ≡ true) (λ b e. or_right (nat_eq b.node x.node) (is_among (map (λ (y : Subject). y.node) xs) b.node) e) xs (boxes_reached xs))
  where
    or_right : (a b : Bool) → b ≡ true → (a || b) ≡ true
    or_right true b e = refl
    or_right false b e = e

abbrev made : List Ellipse → List Edge → List Subject → Picture
made ellipses edges boxes = record { ellipses = ellipses; edges = edges; boxes = boxes }

abbrev part_of : Report → List Subject → Picture
part_of r boxes =
    let keep : ℕ → Bool = is_among (reached_from r boxes) in
    made (numbered (kept keep ellipse) 2 r.nodes) (numbered (kept keep edges_of) 2 r.nodes) boxes

part_walks : (r : Report) → IsLawful r → (boxes : List Subject) → Walks r (part_of r boxes)
part_walks r h boxes =
    let keep : ℕ → Bool = is_among (reached_from r boxes) in
    let closed = closed_part r h boxes in
    let numbers = map (λ (b : Subject). b.node) boxes in
    record {
      ellipses = all-weaker (λ (e : Ellipse). keep e.number ≡ true) (λ e. WalksFrom r (part_of r boxes) e.number) (λ e t c. walks_alike keep r.nodes closed e.number c t) (numbered (kept keep ellipse) 2 r.nodes) (kept_numbers keep 2 r.nodes);
      boxes = all-weaker (λ (b : Subject). is_among numbers b.node ≡ true) (λ b. WalksFrom r (part_of r boxes) b.node) (λ b t c. walks_alike keep r.nodes closed b.node c (among_reached numbers 2 r.nodes b.node t)) boxes (boxes_reached boxes);
    }

pub picture_walks : (drawn : Drawn) (r : Report) → IsLawful r → Walks r (picture_of drawn r)
unfolding picture_of
picture_walks asked.All r h = all_walks r h
picture_walks asked.Ends r h = part_walks r h (end_subjects r)
picture_walks (asked.Piece index) r h = part_walks r h (subject_of_piece r index)

-- ---- the picture of its parts

pub picture_is : (drawn : Drawn) (r : Report) (marks : List Bool) (nodes : List Node) (ellipses ellipses' : List Ellipse) (edges edges' : List Edge) (boxes boxes' : List Subject) → nodes ≡ nodes_of drawn r → ((k : ℕ) → k < length nodes + 2 → has_mark marks k ≡ is_drawn drawn r k) → ellipses' ≡ ellipses → ellipses ≡ numbered (kept (has_mark marks) ellipse) 2 nodes → edges' ≡ edges → edges ≡ numbered (kept (has_mark marks) edges_of) 2 nodes → boxes' ≡ boxes → boxes ≡ boxes_of drawn r → made ellipses' edges' boxes' ≡ picture_of drawn r
unfolding picture_of
picture_is drawn r marks nodes ellipses ellipses' edges edges' boxes boxes' n m e1 e2 f1 f2 g1 g2 =
    let e = e1 ∙ e2 ∙ kept_alike (has_mark marks) (is_drawn drawn r) ellipse 2 nodes m ∙ ap (numbered (kept (is_drawn drawn r) ellipse) 2) n in
    let f = f1 ∙ f2 ∙ kept_alike (has_mark marks) (is_drawn drawn r) edges_of 2 nodes m ∙ ap (numbered (kept (is_drawn drawn r) edges_of) 2) n in
    let g = g1 ∙ g2 in
    λ i. record { ellipses = e i; edges = f i; boxes = g i }
