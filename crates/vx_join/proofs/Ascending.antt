-- Lines with ascending values are known by the values that they say.
use Rattle.std.proofs.Common.{◌≡◌, ℕ, Bool, true, false, cond, List, [], ◌∷◌, refl, sym, ◌∙◌, ap, subst}
use Rattle.std.specs.Cmp.{IsTotalOrder}
use Rattle.std.specs.List.{AllByRecursion, AllZip}
use Rattle.std.specs.Ordering.{ordering_reverse}
use Rattle.std.specs.Prelude.{find, Option, None, Some, option_map}
use Rattle.std.specs.declared.cmp.Ordering.{Ordering}
use Rattle.std.specs.declared.cmp.Ordering.TheVariants.{Less, Equal, Greater}
use Rattle.std.proofs.lemmas.Option.{same_Some}
use Rattle.vx_bdd_tools.specs.declared.node.Node.{Node}
use Rattle.vx_bdd_tools.specs.Nodes.{holds}
use Rattle.vx_join.specs.Steps.{first_in}

-- a node holds a configuration
pub record HasMember (nodes : List Node) (k : ℕ) : Type 0 where
  pub config : List Bool
  pub holds_it : holds nodes k config ≡ true

module _ {L V : Type 0} (cmp : V → V → Ordering) (node_of : L → ℕ) (value_of : L → V) where
  -- each value is below those after it
  abbrev pub IsAscending : List L → Type 0
  IsAscending [] = Unit {0}
  IsAscending (x ∷ xs) = AllByRecursion (λ y. cmp (value_of x) (value_of y) ≡ Less) xs × IsAscending xs

  -- each line holds a configuration, and only such of which its value is said
  abbrev pub AreOwn : List Node → (List Bool → Option V) → List L → Type 0
  AreOwn nodes said [] = Unit {0}
  AreOwn nodes said (x ∷ xs) = (HasMember nodes (node_of x) × ((c : List Bool) → holds nodes (node_of x) c ≡ true → said c ≡ Some (value_of x))) × AreOwn nodes said xs

  -- two lines have one value, for the same configurations
  pub record IsAlike (one other : List Node) (x y : L) : Type 0 where
    pub value : value_of x ≡ value_of y
    pub same : (c : List Bool) → holds one (node_of x) c ≡ holds other (node_of y) c

  abbrev found : List Node → List L → List Bool → Option V
  found nodes xs c = first_in node_of value_of nodes xs c

  -- a value that is found is one of the lines'
  found_all : (nodes : List Node) (P : V → Type 0) (xs : List L) (c : List Bool) → AllByRecursion (λ x. P (value_of x)) xs → (v : V) → found nodes xs c ≡ Some v → P v
  found_all nodes P [] c all v e = absurd cc
  found_all nodes P (x ∷ xs) c all v e = by (holds nodes (node_of x) c) e (λ d. found_all nodes P xs c all.1 v d)
    where
      by : (b : Bool) → option_map value_of (cond b (Some x) (find (λ y. holds nodes (node_of y) c) xs)) ≡ Some v → (found nodes xs c ≡ Some v → P v) → P v
      by true d rest = subst P (same_Some (value_of x) v d) all.0
      by false d rest = rest d

  -- and is said
  pub found_said : (nodes : List Node) (said : List Bool → Option V) (xs : List L) (c : List Bool) → AreOwn nodes said xs → (v : V) → found nodes xs c ≡ Some v → said c ≡ Some v
  found_said nodes said [] c own v e = absurd cc
  found_said nodes said (x ∷ xs) c own v e = by (holds nodes (node_of x) c) (own.0.1 c) e (λ d. found_said nodes said xs c own.1 v d)
    where
      by : (b : Bool) → (b ≡ true → said c ≡ Some (value_of x)) → option_map value_of (cond b (Some x) (find (λ y. holds nodes (node_of y) c) xs)) ≡ Some v → (found nodes xs c ≡ Some v → said c ≡ Some v) → said c ≡ Some v
      by true h d rest = h refl ∙ d
      by false h d rest = rest d

  found_first : (nodes : List Node) (x : L) (xs : List L) (c : List Bool) → holds nodes (node_of x) c ≡ true → found nodes (x ∷ xs) c ≡ Some (value_of x)
  found_first nodes x xs c t = ap (λ b. option_map value_of (cond b (Some x) (find (λ y. holds nodes (node_of y) c) xs))) t

  found_later : (nodes : List Node) (x : L) (xs : List L) (c : List Bool) → holds nodes (node_of x) c ≡ false → found nodes (x ∷ xs) c ≡ found nodes xs c
  found_later nodes x xs c t = ap (λ b. option_map value_of (cond b (Some x) (find (λ y. holds nodes (node_of y) c) xs))) t

  module _ (total : IsTotalOrder cmp) (exact : (a b : V) → cmp a b ≡ Equal → a ≡ b) where
    not_below : (v : V) → cmp v v ≡ Less → ⊥
    not_below v e =
        let turned : Less ≡ ordering_reverse Less = sym e ∙ total.antisymm v v ∙ ap ordering_reverse e in
        let wrong : Less ≡ Greater = turned in
        absurd cc

    all_below : (v w : V) (xs : List L) → cmp v w ≡ Less → AllByRecursion (λ x. cmp w (value_of x) ≡ Less) xs → AllByRecursion (λ x. cmp v (value_of x) ≡ Less) xs
    all_below v w [] e all = tt
    all_below v w (x ∷ xs) e all = (total.trans v w (value_of x) e all.0, all_below v w xs e all.1)

    -- the first value of the one isn't below all values of the other
    not_first : (one other : List Node) (x : L) (xs ys : List L) → HasMember one (node_of x) → ((c : List Bool) → found one (x ∷ xs) c ≡ found other ys c) → AllByRecursion (λ y. cmp (value_of x) (value_of y) ≡ Less) ys → ⊥
    not_first one other x xs ys member same below =
        not_below (value_of x) (found_all other (λ v. cmp (value_of x) v ≡ Less) ys member.config below (value_of x) (sym (same member.config) ∙ found_first one x xs member.config member.holds_it))

    first_value : (one other : List Node) (x y : L) (xs ys : List L) → HasMember one (node_of x) → HasMember other (node_of y) → ((c : List Bool) → found one (x ∷ xs) c ≡ found other (y ∷ ys) c) → IsAscending (x ∷ xs) → IsAscending (y ∷ ys) → value_of x ≡ value_of y
    first_value one other x y xs ys mx my same ax ay = by (cmp (value_of x) (value_of y)) refl
      where
        by : (o : Ordering) → cmp (value_of x) (value_of y) ≡ o → value_of x ≡ value_of y
        by Equal e = exact (value_of x) (value_of y) e
        by Less e = absurd (not_first one other x xs (y ∷ ys) mx same (e, all_below (value_of x) (value_of y) ys e ay.0))
        by Greater e =
            let f : cmp (value_of y) (value_of x) ≡ Less = total.antisymm (value_of y) (value_of x) ∙ ap ordering_reverse e in
            absurd (not_first other one y ys (x ∷ xs) my (λ c. sym (same c)) (f, all_below (value_of y) (value_of x) xs f ax.0))

    -- where the first line of the one holds a configuration, so does that of the other
    holds_too : (one other : List Node) (x y : L) (xs ys : List L) → value_of x ≡ value_of y → ((c : List Bool) → found one (x ∷ xs) c ≡ found other (y ∷ ys) c) → AllByRecursion (λ z. cmp (value_of y) (value_of z) ≡ Less) ys
        → (c : List Bool) → holds one (node_of x) c ≡ true → holds other (node_of y) c ≡ true
    holds_too one other x y xs ys value same below c t = by (holds other (node_of y) c) refl
      where
        by : (b : Bool) → holds other (node_of y) c ≡ b → b ≡ true
        by true e = refl
        by false e =
            let at : found other ys c ≡ Some (value_of y) = sym (found_later other y ys c e) ∙ sym (same c) ∙ found_first one x xs c t ∙ ap Some value in
            absurd (not_below (value_of y) (found_all other (λ v. cmp (value_of y) v ≡ Less) ys c below (value_of y) at))

    both_ways : (a b : Bool) → (a ≡ true → b ≡ true) → (b ≡ true → a ≡ true) → a ≡ b
    both_ways true b f g = sym (f refl)
    both_ways false true f g = g refl
    both_ways false false f g = refl

    -- behind a line that holds a configuration none does
    none_behind : (nodes : List Node) (said : List Bool → Option V) (x : L) (xs : List L) → AreOwn nodes said (x ∷ xs) → IsAscending (x ∷ xs) → (c : List Bool) → holds nodes (node_of x) c ≡ true → found nodes xs c ≡ None
    none_behind nodes said x xs own ascending c t = by (found nodes xs c) refl
      where
        by : (o : Option V) → found nodes xs c ≡ o → o ≡ None
        by None e = refl
        by (Some v) e =
            let one : Some v ≡ Some (value_of x) = sym (found_said nodes said xs c own.1 v e) ∙ own.0.1 c t in
            let below : cmp (value_of x) v ≡ Less = found_all nodes (λ w. cmp (value_of x) w ≡ Less) xs c ascending.0 v e in
            let same : v ≡ value_of x = same_Some v (value_of x) one in
            absurd (not_below (value_of x) (ap (cmp (value_of x)) (sym same) ∙ below))

    rest_same : (one other : List Node) (x y : L) (xs ys : List L) (c : List Bool) → found one (x ∷ xs) c ≡ found other (y ∷ ys) c → (b : Bool) → holds one (node_of x) c ≡ b → holds other (node_of y) c ≡ b
        → (b ≡ true → found one xs c ≡ None) → (b ≡ true → found other ys c ≡ None) → found one xs c ≡ found other ys c
    rest_same one other x y xs ys c same true e f g h = g refl ∙ sym (h refl)
    rest_same one other x y xs ys c same false e f g h = sym (found_later one x xs c e) ∙ same ∙ found_later other y ys c f

    -- two lists of ascending lines that say the same are alike
    pub alike_lines : (one other : List Node) (said : List Bool → Option V) (xs ys : List L) → AreOwn one said xs → AreOwn other said ys → IsAscending xs → IsAscending ys → ((c : List Bool) → found one xs c ≡ found other ys c) → AllZip (IsAlike one other) xs ys
    alike_lines one other said [] [] ox oy ax ay same = tt
    alike_lines one other said [] (y ∷ ys) ox oy ax ay same = absurd (none_there (same oy.0.0.config ∙ found_first other y ys oy.0.0.config oy.0.0.holds_it))
      where
        none_there : None ≡ Some (value_of y) → ⊥
        none_there e = absurd cc
    alike_lines one other said (x ∷ xs) [] ox oy ax ay same = absurd (none_there (sym (same ox.0.0.config) ∙ found_first one x xs ox.0.0.config ox.0.0.holds_it))
      where
        none_there : None ≡ Some (value_of x) → ⊥
        none_there e = absurd cc
    alike_lines one other said (x ∷ xs) (y ∷ ys) ox oy ax ay same =
        let value = first_value one other x y xs ys ox.0.0 oy.0.0 same ax ay in
        let held : (c : List Bool) → holds one (node_of x) c ≡ holds other (node_of y) c = λ c. both_ways (holds one (node_of x) c) (holds other (node_of y) c) (holds_too one other x y xs ys value same ay.0 c) (holds_too other one y x ys xs (sym value) (λ d. sym (same d)) ax.0 c) in
        let rest : (c : List Bool) → found one xs c ≡ found other ys c = λ c. rest_same one other x y xs ys c (same c) (holds one (node_of x) c) refl (sym (held c)) (none_behind one said x xs ox ax c) (λ t. none_behind other said y ys oy ay c (sym (held c) ∙ t)) in
        (record { value = value; same = held }, alike_lines one other said xs ys ox.1 oy.1 ax.1 ay.1 rest)
