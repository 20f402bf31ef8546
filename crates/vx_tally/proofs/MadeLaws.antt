-- What is made: a node that is put behind others, an edge that stands for two, and copies.
use Rattle.std.proofs.Common.{◌≡◌, ◌≢◌, ◌⊎◌, ℕ, ◌+◌, ◌-◌, ◌<◌, ◌≤◌, Bool, true, false, List, [], ◌∷◌, ◌++◌, length, get_or, refl, sym, ◌∙◌, ap, subst, arith, zero, suc, inl, inr, length-append, append_assoc}
use Rattle.std.specs.Prelude.{Option, Some, None, if◌then◌else◌, slice_get, min, ◌&&◌, ◌||◌, nat_eq}
use Rattle.std.specs.Cmp.Lexicographic.{pointwise}
use Rattle.std.specs.List.{list_any}
use Rattle.std.proofs.lemmas.List.{append-nil}
use Rattle.std.proofs.lemmas.Option.{slice_get_within}
use Rattle.std.proofs.lemmas.Map.Views.{exact_unsigned_eq}
use Rattle.std.proofs.lemmas.Bool.Decides.{nat_tests}
use Rattle.vx_space.specs.Config.{value_of}
use Rattle.vx_tally.specs.declared.node.Edge.{Edge}
use Rattle.vx_tally.specs.declared.node.TallyNode.{TallyNode}
use Rattle.vx_tally.specs.contracts.node.EdgePartialEq.TheImpl as edge_eq
use Rattle.vx_tally.specs.contracts.node.TallyNodePartialEq.TheImpl as node_eq
use Rattle.vx_tally.specs.Tally.{node_at, edge_at, sum_of, option_of, level, IsNode, AreNodes}
use Rattle.vx_tally.specs.Made.{MadeView, IsGrown, IsPut, IsMade, IsCopy, AreCopies, AddsCopy, IsCopied}
use Rattle.vx_tally.proofs.NodeLaws.{AreNodes-put, slice_get-last, node_at-append, node_within, sum-node, sum-append, sum-end, edge_at-append, level-append}
use Rattle.vx_tally.proofs.PartLaws.{node_read, level-node}

-- edges and nodes that compare equal are equal, and the other way round
and_parts : (a b : Bool) → (a && b) ≡ true → (a ≡ true) × (b ≡ true)
and_parts true b h = (refl, h)
and_parts false b h = cc

nat_same : (n : ℕ) → nat_eq n n ≡ true
nat_same n = grind (arith, nat_tests)

pub edge_eq-exact : (e f : Edge) → edge_eq.ghosts.eq e f ≡ true → e ≡ f
edge_eq-exact e f h =
    let p = and_parts (nat_eq e.place f.place) (nat_eq e.more f.more) h in
    let place = exact_unsigned_eq e.place f.place p.0 in
    let more = exact_unsigned_eq e.more f.more p.1 in
    λ i. record { place = place i; more = more i }

edge_eq-refl : (e : Edge) → edge_eq.ghosts.eq e e ≡ true
edge_eq-refl e = rw (nat_same e.place, nat_same e.more) refl

node_eq-exact : (m n : TallyNode) → node_eq.ghosts.eq m n ≡ true → m ≡ n
node_eq-exact m n h =
    let p = and_parts (nat_eq m.option n.option) (edge_eq.ghosts.eq m.low n.low && edge_eq.ghosts.eq m.high n.high) h in
    let q = and_parts (edge_eq.ghosts.eq m.low n.low) (edge_eq.ghosts.eq m.high n.high) p.1 in
    let option = exact_unsigned_eq m.option n.option p.0 in
    let low = edge_eq-exact m.low n.low q.0 in
    let high = edge_eq-exact m.high n.high q.1 in
    λ i. record { option = option i; low = low i; high = high i }

pub nodes_eq-exact : (xs ys : List TallyNode) → pointwise node_eq.ghosts.eq xs ys ≡ true → xs ≡ ys
nodes_eq-exact [] [] h = refl
nodes_eq-exact [] (y ∷ ys) h = cc
nodes_eq-exact (x ∷ xs) [] h = cc
nodes_eq-exact (x ∷ xs) (y ∷ ys) h =
    let p = and_parts (node_eq.ghosts.eq x y) (pointwise node_eq.ghosts.eq xs ys) h in
    let first = node_eq-exact x y p.0 in
    let rest = nodes_eq-exact xs ys p.1 in
    λ i. first i ∷ rest i

node_eq-refl : (m : TallyNode) → node_eq.ghosts.eq m m ≡ true
node_eq-refl m = rw (nat_same m.option, edge_eq-refl m.low, edge_eq-refl m.high) refl

-- ---- growth

pub IsGrown-refl : (made : MadeView) → AreNodes made.options made.nodes → IsGrown made made
IsGrown-refl made n = record { options = refl; more = []; grows = sym (append-nil made.nodes); nodes = n }

pub IsGrown-trans : (a b c : MadeView) → IsGrown a b → IsGrown b c → IsGrown a c
IsGrown-trans a b c g h = record {
  options = h.options ∙ g.options;
  more = g.more ++ h.more;
  grows = h.grows ∙ ap (λ xs. xs ++ h.more) g.grows ∙ append_assoc a.nodes g.more h.more;
  nodes = h.nodes;
}

pub length-grown : (old new : MadeView) → IsGrown old new → length old.nodes ≤ length new.nodes
length-grown old new g = omega (arith, ap length g.grows, length-append old.nodes g.more)

pub node_at-grown : (old new : MadeView) → IsGrown old new → (place : ℕ) → place ≤ length old.nodes → node_at new.nodes place ≡ node_at old.nodes place
node_at-grown old new g place l = ap (λ xs. node_at xs place) g.grows ∙ node_at-append old.nodes g.more place l

pub level-grown : (old new : MadeView) → IsGrown old new → (place : ℕ) → place ≤ length old.nodes → level new.options new.nodes place ≡ level old.options old.nodes place
level-grown old new g place l = ap (λ o. option_of new.options o) (node_at-grown old new g place l) ∙ ap (λ n. option_of n (node_at old.nodes place)) g.options

pub sum-grown : (old new : MadeView) → AreNodes old.options old.nodes → IsGrown old new → (place : ℕ) (c : List Bool) → place ≤ length old.nodes → sum_of new.nodes place c ≡ sum_of old.nodes place c
sum-grown old new r g place c l = ap (λ xs. sum_of xs place c) g.grows ∙ sum-append r g.more place c l

pub edge_at-grown : (old new : MadeView) → AreNodes old.options old.nodes → IsGrown old new → (edge : Edge) (c : List Bool) → edge.place ≤ length old.nodes → edge_at new.nodes edge c ≡ edge_at old.nodes edge c
edge_at-grown old new r g edge c l = ap (λ n. edge.more + n) (sum-grown old new r g edge.place c l)

-- ---- a node

none_of : (node : TallyNode) (xs : List TallyNode) → list_any (node_eq.ghosts.eq node) xs ≡ false → (k : ℕ) → slice_get xs k ≡ Some node → ⊥
none_of node [] h k e = cc
none_of node (x ∷ xs) h zero e = first (node_eq.ghosts.eq node x) (list_any (node_eq.ghosts.eq node) xs) h (ap (node_eq.ghosts.eq node) (some_is e) ∙ node_eq-refl node)
  where
    some_is : Some x ≡ Some node → x ≡ node
    some_is e = cc

    first : (a b : Bool) → (a || b) ≡ false → a ≡ true → ⊥
    first true b h e = cc
    first false b h e = cc
none_of node (x ∷ xs) h (suc k) e = none_of node xs (later (node_eq.ghosts.eq node x) (list_any (node_eq.ghosts.eq node) xs) h) k e
  where
    later : (a b : Bool) → (a || b) ≡ false → b ≡ false
    later true b h = cc
    later false b h = h

-- what `put` makes: `stored` is what the set says of the node's place
pub IsPut-put : (node stored : TallyNode) (options : ℕ) (nodes keys : List TallyNode) (index : ℕ) → AreNodes options nodes → IsNode options nodes (length nodes) node → keys ≡ (if list_any (node_eq.ghosts.eq node) nodes then nodes else nodes ++ node ∷ []) → slice_get keys index ≡ Some stored → node_eq.ghosts.eq node stored ≡ true → IsPut node (record { options = options; nodes = nodes }) (record { options = options; nodes = keys }) (index + 1)
IsPut-put node stored options nodes keys index r n e s t = record {
  grown = grown (list_any (node_eq.ghosts.eq node) nodes) refl e;
  here =
      let same : index + 1 ≡ suc index = omega arith in
      rw same (s ∙ ap Some (sym (node_eq-exact node stored t)));
}
  where
    grown : (b : Bool) → list_any (node_eq.ghosts.eq node) nodes ≡ b → keys ≡ (if b then nodes else nodes ++ node ∷ []) → IsGrown (record { options = options; nodes = nodes }) (record { options = options; nodes = keys })
    grown true h k = record { options = refl; more = []; grows = k ∙ sym (append-nil nodes); nodes = subst (AreNodes options) (sym k) r }
    grown false h k = record { options = refl; more = node ∷ []; grows = k; nodes = subst (AreNodes options) (sym k) (AreNodes-put r node n (none_of node nodes h)) }

-- ---- an edge

least_out : (a b : ℕ) → min (a - min a b) (b - min a b) ≡ 0
least_out a b = omega arith

-- the node of two edges that differ, with the lesser number taken out
pub IsNode-made : (options : ℕ) (nodes : List TallyNode) (option : ℕ) (low high : Edge) (more : ℕ) → option < options → low.place ≤ length nodes → high.place ≤ length nodes → option < level options nodes low.place → option < level options nodes high.place → more ≡ min low.more high.more → (low ≡ high → ⊥) → IsNode options nodes (length nodes) (record { option = option; low = record { place = low.place; more = low.more - more }; high = record { place = high.place; more = high.more - more } })
IsNode-made options nodes option low high more o l h ll hl m n = record {
  in_range = o;
  low_given = l;
  high_given = h;
  low_later = ll;
  high_later = hl;
  least = rw m (least_out low.more high.more);
  differ = λ e.
      let place : low.place ≡ high.place = ap (λ x. x.place) e in
      let less : low.more - more ≡ high.more - more = ap (λ x. x.more) e in
      let same : low.more ≡ high.more = omega (arith, less, m) in
      n (λ i. record { place = place i; more = same i });
}

taken_out : (m a s : ℕ) → m ≤ a → m + (a - m + s) ≡ a + s
taken_out m a s l = omega (arith, l)

pub IsMade-put : (option : ℕ) (low high : Edge) (old new : MadeView) (more place : ℕ) → AreNodes old.options old.nodes → low.place ≤ length old.nodes → high.place ≤ length old.nodes → more ≡ min low.more high.more → IsPut (record { option = option; low = record { place = low.place; more = low.more - more }; high = record { place = high.place; more = high.more - more } }) old new place → IsMade option low high old new (record { place = place; more = more })
IsMade-put option low high old new more place r l h m p = record {
  grown = p.grown;
  given = (node_within new.nodes place node p.here).1;
  later =
      let here : level new.options new.nodes place ≡ option = ap (option_of new.options) p.here in
      omega (arith, here);
  least = m;
  number = λ c. ap (λ n. more + n) (sum-node p.grown.nodes place node c p.here) ∙ both c (value_of c option);
}
  where
    node : TallyNode
    node = record { option = option; low = record { place = low.place; more = low.more - more }; high = record { place = high.place; more = high.more - more } }

    both : (c : List Bool) (b : Bool) → more + edge_at new.nodes (if b then record { place = high.place; more = high.more - more } else record { place = low.place; more = low.more - more }) c ≡ (if b then edge_at old.nodes high c else edge_at old.nodes low c)
    both c true = taken_out more high.more (sum_of new.nodes high.place c) (omega (arith, m)) ∙ edge_at-grown old new r p.grown high c h
    both c false = taken_out more low.more (sum_of new.nodes low.place c) (omega (arith, m)) ∙ edge_at-grown old new r p.grown low c l

-- where both are one edge
pub IsMade-same : (option : ℕ) (low high : Edge) (old : MadeView) → AreNodes old.options old.nodes → low.place ≤ length old.nodes → option < level old.options old.nodes low.place → low ≡ high → IsMade option low high old old low
IsMade-same option low high old r l o e = record {
  grown = IsGrown-refl old r;
  given = l;
  later = omega (arith, o);
  least = omega (arith, ap (λ x. x.more) e);
  number = λ c. both c (value_of c option);
}
  where
    both : (c : List Bool) (b : Bool) → edge_at old.nodes low c ≡ (if b then edge_at old.nodes high c else edge_at old.nodes low c)
    both c true = ap (λ x. edge_at old.nodes x c) e
    both c false = refl

-- ---- copies

pub IsCopy-grown : (from : List TallyNode) (old new : MadeView) (place copy : ℕ) → AreNodes old.options old.nodes → IsGrown old new → IsCopy from old place copy → IsCopy from new place copy
IsCopy-grown from old new place copy r g k = record {
  given = omega (arith, k.given, length-grown old new g);
  later = omega (arith, ap (λ n. option_of n (node_at from place)) g.options, k.later, level-grown old new g copy k.given);
  number = λ c. sum-grown old new r g copy c k.given ∙ k.number c;
}

pub AreCopies-grown : (from : List TallyNode) (old new : MadeView) (noted : List (Option ℕ)) → AreNodes old.options old.nodes → IsGrown old new → AreCopies from old noted → AreCopies from new noted
AreCopies-grown from old new noted r g h = record { each = λ k copy e. IsCopy-grown from old new k copy r g (h.each k copy e) }

pub IsCopy-end : (from : List TallyNode) (made : MadeView) → IsCopy from made 0 0
IsCopy-end from made = record { given = omega arith; later = omega arith; number = λ c. sum-end made.nodes c ∙ sym (sum-end from c) }

-- what a copy asks comes after what is before the place
pub copy_later : (from : List TallyNode) (made : MadeView) (options option place copy : ℕ) → made.options ≡ options → option < level options from place → IsCopy from made place copy → option < level made.options made.nodes copy
copy_later from made options option place copy e l k = omega (arith, l, k.later, ap (λ n. option_of n (node_at from place)) e)

pub IsCopied-end : (from : List TallyNode) (made : MadeView) (noted : List (Option ℕ)) (place : ℕ) → AreNodes made.options made.nodes → AreCopies from made noted → place ≡ 0 → IsCopied from place made made noted 0
IsCopied-end from made noted place r h e = record {
  grown = IsGrown-refl made r;
  copies = h;
  copy = subst (λ p. IsCopy from made p 0) (sym e) (IsCopy-end from made);
}

pub IsCopied-noted : (from : List TallyNode) (made : MadeView) (noted : List (Option ℕ)) (place copy : ℕ) → AreNodes made.options made.nodes → AreCopies from made noted → slice_get noted place ≡ Some (Some copy) → IsCopied from place made made noted copy
IsCopied-noted from made noted place copy r h e = record { grown = IsGrown-refl made r; copies = h; copy = h.each place copy e }

pub AreCopies-noted : (from : List TallyNode) (made : MadeView) (old new : List (Option ℕ)) (place copy : ℕ) → AreCopies from made old → IsCopy from made place copy → AddsCopy place copy old new → AreCopies from made new
AreCopies-noted from made old new place copy h k a = record {
  each = λ j other e. elim (a.each j other e) [
    | inl p ↦ h.each j other p
    | inr q ↦ subst (λ x. IsCopy from made x other) (sym q.0) (subst (λ y. IsCopy from made place y) (sym q.1) k)
  ];
}

-- the copy of a node, from those of its edges
pub IsCopy-node : (options : ℕ) (from : List TallyNode) (old new : MadeView) (place low high : ℕ) (node : TallyNode) (edge : Edge) → AreNodes options from → AreNodes old.options old.nodes → old.options ≡ options → node_at from place ≡ Some node → min node.low.more node.high.more ≡ 0 → IsCopy from old node.low.place low → IsCopy from old node.high.place high → IsMade node.option (record { place = low; more = node.low.more }) (record { place = high; more = node.high.more }) old new edge → IsCopy from new place edge.place
IsCopy-node options from old new place low high node edge f r o e z l h m = record {
  given = m.given;
  later =
      let here : level new.options from place ≡ node.option = ap (option_of new.options) e in
      omega (arith, here, m.later);
  number = λ c.
      let none : edge.more ≡ 0 = m.least ∙ z in
      let whole : sum_of new.nodes edge.place c ≡ edge_at new.nodes edge c = omega (arith, none) in
      whole ∙ m.number c ∙ both c (value_of c node.option) ∙ sym (sum-node f place node c e);
}
  where
    both : (c : List Bool) (b : Bool) → (if b then edge_at old.nodes (record { place = high; more = node.high.more }) c else edge_at old.nodes (record { place = low; more = node.low.more }) c) ≡ edge_at from (if b then node.high else node.low) c
    both c true = ap (λ n. node.high.more + n) (h.number c)
    both c false = ap (λ n. node.low.more + n) (l.number c)
