-- What grouping keeps of the values of one configuration.
use Rattle.std.proofs.Common.{◌≡◌, Bool, true, false, cond, List, [], ◌∷◌, ◌++◌, refl, sym, ap, ◌∙◌}
use Rattle.std.specs.Prelude.{◌||◌}
use Rattle.std.specs.List.{list_any}
use Rattle.std.specs.declared.cmp.Ordering.{Ordering}
use Rattle.std.specs.declared.cmp.Ordering.TheVariants.{Less, Equal, Greater}
use Rattle.vx_java.specs.Step.{Config, same_config}
use Rattle.vx_java.specs.Lockstep.{Shared, groups_with, groups_of}
use Rattle.vx_java.specs.Report.{values_held}

-- the values that a list gives to a configuration
abbrev pub values_at : {A : Type 0} → Config → List (A × Config) → List A
values_at c [] = []
values_at c (p ∷ ps) = cond (same_config c p.1) (p.0 ∷ values_at c ps) (values_at c ps)

or_false : (b : Bool) → (b || false) ≡ b
or_false true = refl
or_false false = refl

or_true : (b : Bool) → (b || true) ≡ true
or_true true = refl
or_true false = refl

any_last : {X : Type 0} (test : X → Bool) (xs : List X) (y : X) → list_any test (xs ++ y ∷ []) ≡ (list_any test xs || test y)
any_last test [] y = or_false (test y)
any_last test (x ∷ xs) y = step (test x) (any_last test xs y)
  where
    step : (b : Bool) → list_any test (xs ++ y ∷ []) ≡ (list_any test xs || test y) → (b || list_any test (xs ++ y ∷ [])) ≡ ((b || list_any test xs) || test y)
    step true e = refl
    step false e = e

module _ {A : Type 0} (order : A → A → Ordering) (law : (a b : A) → order a b ≡ Equal → a ≡ b) (c : Config) where
  -- another configuration's value changes nothing
  pub placed_other : (a : A) (d : Config) (gs : List (Shared A)) → same_config c d ≡ false → values_held c (groups_with order a d gs) ≡ values_held c gs
  placed_other a d [] e = rw e refl
  placed_other a d (g ∷ gs) e = by_order (order a g.value) refl (placed_other a d gs e)
    where
      by_order : (o : Ordering) → order a g.value ≡ o → values_held c (groups_with order a d gs) ≡ values_held c gs → values_held c (groups_with order a d (g ∷ gs)) ≡ values_held c (g ∷ gs)
      by_order Less h ih = rw (h, groups_with) (rw e refl)
      by_order Equal h ih = rw (h, groups_with) (rw any_last (rw (e, or_false) refl))
      by_order Greater h ih = rw (h, groups_with) (rw ih refl)

  -- a configuration that no group has is in one group afterwards
  pub placed_own : (a : A) (d : Config) (gs : List (Shared A)) → same_config c d ≡ true → values_held c gs ≡ [] → values_held c (groups_with order a d gs) ≡ a ∷ []
  placed_own a d [] e none = rw e refl
  placed_own a d (g ∷ gs) e none = by_group (list_any (same_config c) g.configs) refl (placed_own a d gs e)
    where
      by_order : (o : Ordering) → order a g.value ≡ o → list_any (same_config c) g.configs ≡ false → values_held c gs ≡ [] → values_held c (groups_with order a d gs) ≡ a ∷ [] → values_held c (groups_with order a d (g ∷ gs)) ≡ a ∷ []
      by_order Less h out rest ih = rw (h, groups_with) (rw (e, out, rest) refl)
      by_order Equal h out rest ih = rw (h, groups_with) (rw any_last (rw (e, or_true, rest) (ap (λ v. v ∷ []) (sym (law a g.value h)))))
      by_order Greater h out rest ih = rw (h, groups_with) (rw (out, ih) refl)

      by_group : (b : Bool) → list_any (same_config c) g.configs ≡ b → (values_held c gs ≡ [] → values_held c (groups_with order a d gs) ≡ a ∷ []) → values_held c (groups_with order a d (g ∷ gs)) ≡ a ∷ []
      by_group true h ih = let bad = rw h at none in cc
      by_group false h ih =
          let rest : values_held c gs ≡ [] = rw h at none in
          by_order (order a g.value) refl h rest (ih rest)

  -- values of other configurations change nothing
  pub grouped_other : (xs : List (A × Config)) (gs : List (Shared A)) → values_at c xs ≡ [] → values_held c (groups_of order xs gs) ≡ values_held c gs
  grouped_other [] gs e = refl
  grouped_other ((a, d) ∷ xs) gs e = by_config (same_config c d) refl (grouped_other xs (groups_with order a d gs))
    where
      by_config : (b : Bool) → same_config c d ≡ b → (values_at c xs ≡ [] → values_held c (groups_of order xs (groups_with order a d gs)) ≡ values_held c (groups_with order a d gs)) → values_held c (groups_of order ((a, d) ∷ xs) gs) ≡ values_held c gs
      by_config true h ih = let bad = rw h at e in cc
      by_config false h ih = ih (rw h at e) ∙ placed_other a d gs h

  -- one value of the configuration is in one group
  pub grouped_own : (xs : List (A × Config)) (gs : List (Shared A)) (a : A) → values_at c xs ≡ a ∷ [] → values_held c gs ≡ [] → values_held c (groups_of order xs gs) ≡ a ∷ []
  grouped_own [] gs a e none = cc
  grouped_own ((b, d) ∷ xs) gs a e none = by_config (same_config c d) refl (grouped_own xs (groups_with order b d gs) a)
    where
      by_config : (t : Bool) → same_config c d ≡ t → (values_at c xs ≡ a ∷ [] → values_held c (groups_with order b d gs) ≡ [] → values_held c (groups_of order xs (groups_with order b d gs)) ≡ a ∷ []) → values_held c (groups_of order ((b, d) ∷ xs) gs) ≡ a ∷ []
      by_config true h ih =
          let both : b ∷ values_at c xs ≡ a ∷ [] = rw h at e in
          let same : b ≡ a = cc in
          let rest : values_at c xs ≡ [] = cc in
          grouped_other xs (groups_with order b d gs) rest ∙ placed_own b d gs h none ∙ ap (λ v. v ∷ []) same
      by_config false h ih = ih (rw h at e) (placed_other b d gs h ∙ none)
