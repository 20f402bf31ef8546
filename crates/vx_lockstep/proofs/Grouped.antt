-- Configurations grouped by a value that leaves give: just the leaves come out, each with its configurations in the order of the list.
use Rattle.std.proofs.Common.{◌≡◌, Bool, true, false, cond, List, [], ◌∷◌, ◌++◌, map, append-nil, append_assoc, refl, sym, ap, ◌∙◌, length, ◌<◌, ℕ, zero, suc, arith}
use Rattle.std.proofs.lemmas.List.Elements.{filter-append}
use Rattle.std.specs.Cmp.{IsTotalOrder}
use Rattle.std.specs.Ordering.{ordering_reverse}
use Rattle.std.specs.Prelude.{Contains, None, Option, Some, filter, if◌then◌else◌, is_some, option_map, slice_index_or}
use Rattle.std.specs.declared.cmp.Ordering.{Ordering}
use Rattle.std.specs.declared.cmp.Ordering.TheVariants.{Equal, Greater, Less}
use Rattle.vx_cond.specs.Leaves.{AreLeaves, IsBelow, value_at}
use Rattle.vx_cond.specs.declared.cond.Leaf.{Leaf}
use Rattle.vx_java.specs.Lockstep.{Shared, groups_of, groups_with}
use Rattle.vx_java.specs.Step.{Config}
use Rattle.vx_space.specs.Sets.{IsLawful, Sets}
use Rattle.vx_standing.proofs.Configurations.{Contains-here, Contains-next, member_of}

-- ---- the values of some configurations

abbrev pub pair_with : {A : Type 0} → Config → Option A → List (A × Config) → List (A × Config)
pair_with c None pairs = pairs
pair_with c (Some a) pairs = (a, c) ∷ pairs

-- each with its configuration, in the order of the list
abbrev pub pairs_of : {A : Type 0} → (Config → Option A) → List Config → List (A × Config)
pairs_of value [] = []
pairs_of value (c ∷ cs) = pair_with c (value c) (pairs_of value cs)

pub pairs_of-same : {A : Type 0} (f g : Config → Option A) (list : List Config) → ((c : Config) → Contains list c → f c ≡ g c) → pairs_of f list ≡ pairs_of g list
pairs_of-same f g [] h = refl
pairs_of-same f g (c ∷ cs) h =
    ap (λ o. pair_with c o (pairs_of f cs)) (h c (Contains-here c cs))
    ∙ ap (pair_with c (g c)) (pairs_of-same f g cs (λ d in_list. h d (Contains-next c cs d in_list)))

-- ---- the leaves that hold some of a list

abbrev pub shared_in : {A T S I : Type 0} → (T → A) → Sets I → List Config → Leaf T S I → Shared A
shared_in view sets list leaf = record { value = view leaf.value; configs = filter (sets.test leaf.condition) list }

abbrev if_any : {A : Type 0} → A → List Config → List (Shared A) → List (Shared A)
if_any a [] shared = shared
if_any a (c ∷ cs) shared = record { value = a; configs = c ∷ cs } ∷ shared

abbrev kept : {A T S I : Type 0} → (T → A) → Sets I → List Config → List (Leaf T S I) → List (Shared A)
kept view sets list [] = []
kept view sets list (leaf ∷ rest) = if_any (view leaf.value) (filter (sets.test leaf.condition) list) (kept view sets list rest)

-- ---- one more configuration of a list

filter_yes : (p : Config → Bool) (list : List Config) (c : Config) → p c ≡ true → filter p (list ++ c ∷ []) ≡ filter p list ++ c ∷ []
filter_yes p list c e = rw filter-append (rw e refl)

filter_no : (p : Config → Bool) (list : List Config) (c : Config) → p c ≡ false → filter p (list ++ c ∷ []) ≡ filter p list
filter_no p list c e = rw filter-append (rw e (append-nil (filter p list)))

-- one that no leaf holds changes nothing
kept_past : {A T S I : Type 0} (view : T → A) (sets : Sets I) (list : List Config) (c : Config) (leaves : List (Leaf T S I)) → value_at sets leaves c ≡ None → kept view sets (list ++ c ∷ []) leaves ≡ kept view sets list leaves
kept_past view sets list c [] h = refl
kept_past view sets list c (leaf ∷ rest) h = by (sets.test leaf.condition c) refl (kept_past view sets list c rest)
  where
    by : (b : Bool) → sets.test leaf.condition c ≡ b → (value_at sets rest c ≡ None → kept view sets (list ++ c ∷ []) rest ≡ kept view sets list rest) → kept view sets (list ++ c ∷ []) (leaf ∷ rest) ≡ kept view sets list (leaf ∷ rest)
    by true e ih = let bad = rw e at h in cc
    by false e ih =
        let none = rw e at h in
        ap (λ configs. if_any (view leaf.value) configs (kept view sets (list ++ c ∷ []) rest)) (filter_no (sets.test leaf.condition) list c e)
        ∙ ap (if_any (view leaf.value) (filter (sets.test leaf.condition) list)) (ih none)

pub own : {A : Type 0} {order : A → A → Ordering} → IsTotalOrder order → (a : A) → order a a ≡ Equal
own {order = order} total a = by (order a a) (total.antisymm a a)
  where
    by : (o : Ordering) → o ≡ ordering_reverse o → o ≡ Equal
    by Less h = cc
    by Equal h = refl
    by Greater h = cc

-- a value below all leaves is put before them
placed_below : {A T S I : Type 0} (order : A → A → Ordering) (view : T → A) (sets : Sets I) (list : List Config) (c : Config) (v : T) (leaves : List (Leaf T S I)) → IsBelow (λ x y. order (view x) (view y)) v leaves → groups_with order (view v) c (kept view sets list leaves) ≡ record { value = view v; configs = c ∷ [] } ∷ kept view sets list leaves
placed_below order view sets list c v [] h = refl
placed_below order view sets list c v (leaf ∷ rest) h = by (filter (sets.test leaf.condition) list) (placed_below order view sets list c v rest h.1)
  where
    by : (configs : List Config) → groups_with order (view v) c (kept view sets list rest) ≡ record { value = view v; configs = c ∷ [] } ∷ kept view sets list rest → groups_with order (view v) c (if_any (view leaf.value) configs (kept view sets list rest)) ≡ record { value = view v; configs = c ∷ [] } ∷ if_any (view leaf.value) configs (kept view sets list rest)
    by [] ih = ih
    by (d ∷ ds) ih = let less = h.0 in rw less refl

-- where the first group has the value it takes the configuration
placed_first : {A : Type 0} {order : A → A → Ordering} → IsTotalOrder order → (c : Config) (a : A) (configs : List Config) (shared : List (Shared A)) → groups_with order a c shared ≡ record { value = a; configs = c ∷ [] } ∷ shared → groups_with order a c (if_any a configs shared) ≡ if_any a (configs ++ c ∷ []) shared
placed_first total c a [] shared h = h
placed_first total c a (d ∷ ds) shared h = let same = own total a in rw same refl

-- where it has a lesser one it stays
placed_later : {A : Type 0} {order : A → A → Ordering} → IsTotalOrder order → (c : Config) (a b : A) (configs : List Config) (before after : List (Shared A)) → order b a ≡ Less → groups_with order a c before ≡ after → groups_with order a c (if_any b configs before) ≡ if_any b configs after
placed_later total c a b [] before after less h = h
placed_later {order = order} total c a b (d ∷ ds) before after less h =
    let greater : order a b ≡ Greater = total.antisymm a b ∙ ap ordering_reverse less in
    rw greater (ap (λ rest. record { value = b; configs = d ∷ ds } ∷ rest) h)

below_value : {T S I : Type 0} (order : T → T → Ordering) (sets : Sets I) (c : Config) (v w : T) (leaves : List (Leaf T S I)) → IsBelow order v leaves → value_at sets leaves c ≡ Some w → order v w ≡ Less
below_value order sets c v w [] below h = cc
below_value order sets c v w (leaf ∷ rest) below h = by (sets.test leaf.condition c) refl (below_value order sets c v w rest below.1)
  where
    by : (b : Bool) → sets.test leaf.condition c ≡ b → (value_at sets rest c ≡ Some w → order v w ≡ Less) → order v w ≡ Less
    by true e ih =
        let same : Some leaf.value ≡ Some w = rw e at h in
        let is : leaf.value ≡ w = cc in
        ap (order v) (sym is) ∙ below.0
    by false e ih = ih (rw e at h)

-- one that has a leaf's value is put to that leaf's
placed : {A T S I : Type 0} (order : A → A → Ordering) (total : IsTotalOrder order) (view : T → A) (sets : Sets I) (list : List Config) (c : Config) (v : T) (leaves : List (Leaf T S I)) → AreLeaves (λ x y. order (view x) (view y)) sets leaves → value_at sets leaves c ≡ Some v → groups_with order (view v) c (kept view sets list leaves) ≡ kept view sets (list ++ c ∷ []) leaves
placed {T = T} order total view sets list c v [] are h = cc
placed {T = T} order total view sets list c v (leaf ∷ rest) are h = by (sets.test leaf.condition c) refl (placed order total view sets list c v rest are.1)
  where
    own_value : (w : T) → leaf.value ≡ w → sets.test leaf.condition c ≡ true → groups_with order (view w) c (kept view sets list (leaf ∷ rest)) ≡ kept view sets (list ++ c ∷ []) (leaf ∷ rest)
    own_value w is e =
        let none = kept_past view sets list c rest (are.0.apart.none c e) in
        ap (λ u. groups_with order (view u) c (kept view sets list (leaf ∷ rest))) (sym is)
        ∙ placed_first total c (view leaf.value) (filter (sets.test leaf.condition) list) (kept view sets list rest) (placed_below order view sets list c leaf.value rest are.0.below)
        ∙ ap (λ configs. if_any (view leaf.value) configs (kept view sets list rest)) (sym (filter_yes (sets.test leaf.condition) list c e))
        ∙ ap (if_any (view leaf.value) (filter (sets.test leaf.condition) (list ++ c ∷ []))) (sym none)

    by : (b : Bool) → sets.test leaf.condition c ≡ b → (value_at sets rest c ≡ Some v → groups_with order (view v) c (kept view sets list rest) ≡ kept view sets (list ++ c ∷ []) rest) → groups_with order (view v) c (kept view sets list (leaf ∷ rest)) ≡ kept view sets (list ++ c ∷ []) (leaf ∷ rest)
    by true e ih =
        let same : Some leaf.value ≡ Some v = rw e at h in
        let is : leaf.value ≡ v = cc in
        own_value v is e
    by false e ih =
        let later : value_at sets rest c ≡ Some v = rw e at h in
        let less = below_value (λ x y. order (view x) (view y)) sets c leaf.value v rest are.0.below later in
        placed_later total c (view v) (view leaf.value) (filter (sets.test leaf.condition) list) (kept view sets list rest) (kept view sets (list ++ c ∷ []) rest) less (ih later)
        ∙ ap (λ configs. if_any (view leaf.value) configs (kept view sets (list ++ c ∷ []) rest)) (sym (filter_no (sets.test leaf.condition) list c e))

-- ---- a whole list

grouped_from : {A T S I : Type 0} (order : A → A → Ordering) (total : IsTotalOrder order) (view : T → A) (sets : Sets I) (leaves : List (Leaf T S I)) (list before : List Config) → AreLeaves (λ x y. order (view x) (view y)) sets leaves → groups_of order (pairs_of (λ c. option_map view (value_at sets leaves c)) list) (kept view sets before leaves) ≡ kept view sets (before ++ list) leaves
grouped_from {T = T} order total view sets leaves [] before are = ap (λ list. kept view sets list leaves) (sym (append-nil before))
grouped_from {T = T} order total view sets leaves (c ∷ cs) before are =
    by (value_at sets leaves c) refl (grouped_from order total view sets leaves cs (before ++ c ∷ []) are)
    ∙ ap (λ list. kept view sets list leaves) (append_assoc before (c ∷ []) cs)
  where
    by : (o : Option T) → value_at sets leaves c ≡ o → groups_of order (pairs_of (λ d. option_map view (value_at sets leaves d)) cs) (kept view sets (before ++ c ∷ []) leaves) ≡ kept view sets ((before ++ c ∷ []) ++ cs) leaves → groups_of order (pair_with c (option_map view o) (pairs_of (λ d. option_map view (value_at sets leaves d)) cs)) (kept view sets before leaves) ≡ kept view sets ((before ++ c ∷ []) ++ cs) leaves
    by None e ih = ap (groups_of order (pairs_of (λ d. option_map view (value_at sets leaves d)) cs)) (sym (kept_past view sets before c leaves e)) ∙ ih
    by (Some v) e ih = ap (groups_of order (pairs_of (λ d. option_map view (value_at sets leaves d)) cs)) (placed order total view sets before c v leaves are e) ∙ ih

kept_none : {A T S I : Type 0} (view : T → A) (sets : Sets I) (leaves : List (Leaf T S I)) → kept view sets [] leaves ≡ []
kept_none view sets [] = refl
kept_none view sets (leaf ∷ rest) = kept_none view sets rest

-- ---- each leaf holds a configuration of the list

pub record IsMet {T S I : Type 0} (sets : Sets I) (list : List Config) (leaf : Leaf T S I) : Type 0 where
  pub config : Config
  pub listed : Contains list config
  pub holds : sets.test leaf.condition config ≡ true

abbrev pub AreMet : {T S I : Type 0} → Sets I → List Config → List (Leaf T S I) → Type 0
AreMet sets list [] = Unit {0}
AreMet sets list (leaf ∷ rest) = IsMet sets list leaf × AreMet sets list rest

pub are_met : {T S I : Type 0} (order : T → T → Ordering) (sets : Sets I) → IsLawful sets → (list : List Config) (leaves : List (Leaf T S I)) → AreLeaves order sets leaves → ((c : Config) → length c ≡ sets.options → is_some (value_at sets leaves c) ≡ true → Contains list c) → AreMet sets list leaves
are_met {T = T} order sets lawful list [] are all = tt
are_met {T = T} order sets lawful list (leaf ∷ rest) are all =
    let member = member_of lawful leaf.condition are.0.known are.0.nonempty in (
      record { config = member.config; listed = all member.config member.whole (held member.config member.holds); holds = member.holds },
      are_met order sets lawful list rest are.1 (λ c whole some. all c whole (behind (sets.test leaf.condition c) (value_at sets rest c) some)),
    )
  where
    held : (c : Config) → sets.test leaf.condition c ≡ true → is_some (value_at sets (leaf ∷ rest) c) ≡ true
    held c e = rw e refl

    behind : (b : Bool) (o : Option T) → is_some o ≡ true → is_some (if b then Some leaf.value else o) ≡ true
    behind true o e = refl
    behind false o e = e

any_of : {A : Type 0} (a : A) (p : Config → Bool) (list : List Config) (k : ℕ) (c : Config) (shared : List (Shared A)) → k < length list → slice_index_or list k c ≡ c → p c ≡ true → if_any a (filter p list) shared ≡ record { value = a; configs = filter p list } ∷ shared
any_of a p [] k c shared l e h = absurd (omega (arith, l))
any_of a p (d ∷ ds) zero c shared l e h = let yes : p d ≡ true = ap p e ∙ h in rw yes refl
any_of a p (d ∷ ds) (suc k) c shared l e h = by (p d) (any_of a p ds k c shared (omega (arith, l)) e h)
  where
    by : (b : Bool) → if_any a (filter p ds) shared ≡ record { value = a; configs = filter p ds } ∷ shared → if_any a (cond b (d ∷ filter p ds) (filter p ds)) shared ≡ record { value = a; configs = cond b (d ∷ filter p ds) (filter p ds) } ∷ shared
    by true ih = refl
    by false ih = ih

kept_all : {A T S I : Type 0} (view : T → A) (sets : Sets I) (list : List Config) (leaves : List (Leaf T S I)) → AreMet sets list leaves → kept view sets list leaves ≡ map (shared_in view sets list) leaves
kept_all view sets list [] met = refl
kept_all view sets list (leaf ∷ rest) met =
    any_of (view leaf.value) (sets.test leaf.condition) list met.0.listed.0 met.0.config (kept view sets list rest) met.0.listed.1 met.0.listed.2 met.0.holds
    ∙ ap (λ shared. shared_in view sets list leaf ∷ shared) (kept_all view sets list rest met.1)

-- configurations grouped by the value that leaves give are just the leaves
pub grouped : {A T S I : Type 0} (order : A → A → Ordering) (total : IsTotalOrder order) (view : T → A) (sets : Sets I) (leaves : List (Leaf T S I)) (list : List Config) → AreLeaves (λ x y. order (view x) (view y)) sets leaves → AreMet sets list leaves → groups_of order (pairs_of (λ c. option_map view (value_at sets leaves c)) list) [] ≡ map (shared_in view sets list) leaves
grouped order total view sets leaves list are met =
    ap (groups_of order (pairs_of (λ c. option_map view (value_at sets leaves c)) list)) (sym (kept_none view sets leaves))
    ∙ grouped_from order total view sets leaves list [] are
    ∙ kept_all view sets list leaves met
