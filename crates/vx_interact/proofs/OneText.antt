-- A report has one text of its interactions.
use Rattle.std.proofs.Common.{◌≡◌, ◌⊎◌, ℕ, ◌+◌, ◌<◌, Bool, true, false, List, [], ◌∷◌, ◌++◌, length, map, refl, sym, ◌∙◌, ap, subst, arith, zero, suc, inl, inr}
use Rattle.std.specs.Prelude.{Contains, slice_index, slice_index_or}
use Rattle.std.specs.List.Sorted.{IsStrictlyIncreasing}
use Rattle.vx_bdd_tools.specs.declared.node.Node.{Node}
use Rattle.vx_bdd_tools.specs.Nodes.{holds}
use Rattle.vx_bdd_tools.specs.Support.{IsSupport}
use Rattle.vx_report.specs.declared.report.Report.{Report}
use Rattle.vx_interact.specs.declared.interaction.Interaction.{Interaction}
use Rattle.vx_interact.specs.Interactions.{AreEntries, IsEntry}
use Rattle.vx_interact.specs.Text.{IsInteractionsText, interactions_text}

-- ---- ascending numbers are told by their members

behind_increases : (x : ℕ) (xs : List ℕ) → IsStrictlyIncreasing (x ∷ xs) → IsStrictlyIncreasing xs
behind_increases x xs h = λ k l.
    let next : suc (k + 1) ≡ suc k + 1 = omega arith in
    subst (λ n. slice_index xs k < slice_index (x ∷ xs) n) (sym next) (h (suc k) (omega (arith, l)))

first_less : (x : ℕ) (xs : List ℕ) (i : ℕ) → IsStrictlyIncreasing (x ∷ xs) → (k : ℕ) → k < length xs → slice_index_or xs k i ≡ i → x < i
first_less x [] i h k l e = absurd (omega (arith, l))
first_less x (y ∷ ys) i h zero l e = let less : x < y = h 0 (omega arith) in omega (arith, less, e)
first_less x (y ∷ ys) i h (suc k) l e =
    let less : x < y = h 0 (omega arith) in
    let more = first_less y ys i (behind_increases x (y ∷ ys) h) k (omega (arith, l)) e in
    omega (arith, less, more)

first_or_behind : (x : ℕ) (xs : List ℕ) (i : ℕ) → Contains (x ∷ xs) i → (x ≡ i) ⊎ Contains xs i
first_or_behind x xs i p = at p.0 p.1 p.2
  where
    at : (k : ℕ) → k < length (x ∷ xs) → slice_index_or (x ∷ xs) k i ≡ i → (x ≡ i) ⊎ Contains xs i
    at zero l e = inl e
    at (suc k) l e = inr (k, omega (arith, l), e)

behind_there : (x : ℕ) (xs : List ℕ) (i : ℕ) → Contains xs i → Contains (x ∷ xs) i
behind_there x xs i p = let within = p.1 in (suc p.0, omega (arith, within), p.2)

first_there : (x : ℕ) (xs : List ℕ) → Contains (x ∷ xs) x
first_there x xs = (0, omega arith, refl)

not_behind : (x : ℕ) (xs : List ℕ) (i : ℕ) → IsStrictlyIncreasing (x ∷ xs) → Contains xs i → x ≡ i → ⊥
not_behind x xs i h p e = let less = first_less x xs i h p.0 p.1 p.2 in omega (arith, less, e)

least : (x : ℕ) (xs : List ℕ) (i : ℕ) → IsStrictlyIncreasing (x ∷ xs) → Contains (x ∷ xs) i → i < x → ⊥
least x xs i h p l = elim (first_or_behind x xs i p) [
  | inl e ↦ omega (arith, e, l)
  | inr q ↦ let less = first_less x xs i h q.0 q.1 q.2 in omega (arith, less, l)
]

members_tell : (xs ys : List ℕ) → IsStrictlyIncreasing xs → IsStrictlyIncreasing ys → ((i : ℕ) → Contains xs i → Contains ys i) → ((i : ℕ) → Contains ys i → Contains xs i) → xs ≡ ys
members_tell [] [] h k f g = refl
members_tell [] (y ∷ ys) h k f g = let p = g y (first_there y ys) in let within = p.1 in absurd (omega (arith, within))
members_tell (x ∷ xs) [] h k f g = let p = f x (first_there x xs) in let within = p.1 in absurd (omega (arith, within))
members_tell (x ∷ xs) (y ∷ ys) h k f g =
    let first : x ≡ y = same x y (least y ys x k (f x (first_there x xs))) (least x xs y h (g y (first_there y ys))) in
    let rest : xs ≡ ys = members_tell xs ys (behind_increases x xs h) (behind_increases y ys k)
    (λ i p. elim (first_or_behind y ys i (f i (behind_there x xs i p))) [ inl e ↦ absurd (not_behind x xs i h p (first ∙ e)) | inr q ↦ q ])
    (λ i p. elim (first_or_behind x xs i (g i (behind_there y ys i p))) [ inl e ↦ absurd (not_behind y ys i k p (sym first ∙ e)) | inr q ↦ q ]) in
    λ i. first i ∷ rest i
  where
    same : (a b : ℕ) → (a < b → ⊥) → (b < a → ⊥) → a ≡ b
    same a b p q = grind (arith)

one_support : (set : List Bool → Bool) (xs ys : List ℕ) → IsSupport set xs → IsSupport set ys → xs ≡ ys
one_support set xs ys h k = members_tell xs ys h.ascending k.ascending (λ i p. k.all i (h.each i p)) (λ i p. h.all i (k.each i p))

-- ---- entries

one_entry : (nodes : List Node) (piece : Bool) (index node : ℕ) (x y : Interaction) → IsEntry nodes piece index node x → IsEntry nodes piece index node y → x ≡ y
one_entry nodes piece index node x y h k =
    let kind = h.kind ∙ sym k.kind in
    let number = h.number ∙ sym k.number in
    let options = one_support (holds nodes node) x.options y.options h.options k.options in
    λ i. record { piece = kind i; index = number i; options = options i }

one_list : (nodes : List Node) (piece : Bool) (index : ℕ) (numbers : List ℕ) (xs ys : List Interaction) → AreEntries nodes piece index numbers xs → AreEntries nodes piece index numbers ys → xs ≡ ys
one_list nodes piece index [] [] [] h k = refl
one_list nodes piece index [] (x ∷ xs) ys h k = absurd h
one_list nodes piece index [] [] (y ∷ ys) h k = absurd k
one_list nodes piece index (n ∷ ns) [] ys h k = absurd h
one_list nodes piece index (n ∷ ns) (x ∷ xs) [] h k = absurd k
one_list nodes piece index (n ∷ ns) (x ∷ xs) (y ∷ ys) h k =
    let first = one_entry nodes piece index n x y h.0 k.0 in
    let rest = one_list nodes piece (suc index) ns xs ys h.1 k.1 in
    λ i. first i ∷ rest i

pub one_interactions_text : (r : Report) (a b : List ℕ) → IsInteractionsText r a → IsInteractionsText r b → a ≡ b
one_interactions_text r a b h k =
    let pieces = one_list r.nodes true 1 (map (λ line. line.node) r.pieces) h.are.pieces k.are.pieces h.are.of_pieces k.are.of_pieces in
    let ends = one_list r.nodes false 1 (map (λ line. line.node) r.ends) h.are.ends k.are.ends h.are.of_ends k.are.of_ends in
    let entries = h.are.whole ∙ (λ i. pieces i ++ ends i) ∙ sym k.are.whole in
    h.spelled ∙ ap (interactions_text r.options) entries ∙ sym k.spelled
