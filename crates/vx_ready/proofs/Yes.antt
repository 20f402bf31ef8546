-- The set of the configurations at which an answer is yes.
use Rattle.std.proofs.Common.{◌≡◌, ℕ, ◌+◌, ◌<◌, ◌≤◌, zero, suc, Bool, true, false, List, [], ◌∷◌, ◌&&◌, refl, sym, ◌∙◌, ap, arith, get_or, length, take}
use Rattle.std.proofs.lemmas.List.{take_all}
use Rattle.std.specs.Ordering.{bool_cmp}
use Rattle.std.specs.Prelude.{Option, Some, None, if◌then◌else◌}
use Rattle.vx_cond.specs.Cond.{Conditional, IsCondLifting, cond_at}
use Rattle.vx_cond.specs.Leaves.{AreLeaves, IsBelow, IsLifted, value_at}
use Rattle.vx_cond.specs.declared.cond.Leaf.{Leaf}
use Rattle.vx_cond.proofs.LeafLoops.{next_leaf}
use Rattle.vx_space.specs.Sets.{IsLawful, IsSet, Sets}
use Rattle.vx_group_states.proofs.Gathering.{leaf_value}
use Rattle.vx_group_states.proofs.SettleLaws.{lifting_at}
use Rattle.vx_ready.specs.Initialising.{is_yes}

-- what the loop keeps: no leaf so far says yes
pub record IsNoSoFar {S I : Type 0} (sets : Sets I) (xs : List (Leaf Bool S I)) (i : ℕ) : Type 0 where
  pub no : (c : List Bool) → is_yes (value_at sets (take i xs) c) ≡ false

pub IsNoSoFar-start : {S I : Type 0} (sets : Sets I) (xs : List (Leaf Bool S I)) → IsNoSoFar sets xs 0
IsNoSoFar-start sets xs = record { no = λ c. refl }

no_first : (b : Bool) (v : Bool) (r : Option Bool) → v ≡ false → is_yes r ≡ false → is_yes (if b then Some v else r) ≡ false
no_first true v r h k = h
no_first false v r h k = k

pub IsNoSoFar-step : {S I : Type 0} (sets : Sets I) (xs : List (Leaf Bool S I)) (i : ℕ) (x : Leaf Bool S I) → AreLeaves bool_cmp sets xs → i < length xs → x ≡ get_or xs i x → x.value ≡ false → IsNoSoFar sets xs i → IsNoSoFar sets xs (i + 1)
IsNoSoFar-step sets xs i x leaves l e h n = record { no = λ c. ap is_yes ((next_leaf bool_cmp sets xs i x leaves l e).more c) ∙ no_first (sets.test x.condition c) x.value (value_at sets (take i xs) c) h (n.no c) }

-- nothing stands above yes
none_above : {S I : Type 0} (sets : Sets I) (v : Bool) (ys : List (Leaf Bool S I)) (c : List Bool) → v ≡ true → IsBelow bool_cmp v ys → is_yes (value_at sets ys c) ≡ false
none_above sets v [] c h b = refl
none_above sets v (y ∷ ys) c h b = absurd (never v y.value h b.0)
  where
    never : (a b : Bool) → a ≡ true → bool_cmp a b ≡ Rattle.std.specs.declared.cmp.Ordering.TheVariants.Less → ⊥
    never true true h l = cc
    never true false h l = cc
    never false b h l = cc

otherwise : {T : Type 0} (b : Bool) (v : T) (r : Option T) → b ≡ false → (if b then Some v else r) ≡ r
otherwise b v r h = rw h refl

same_rest : (b : Bool) (v : Bool) (p q : Option Bool) → is_yes p ≡ is_yes q → is_yes (if b then Some v else p) ≡ is_yes (if b then Some v else q)
same_rest true v p q h = refl
same_rest false v p q h = h

outside_yes : {S I : Type 0} (sets : Sets I) (xs : List (Leaf Bool S I)) (i : ℕ) (x : Leaf Bool S I) (c : List Bool) → AreLeaves bool_cmp sets xs → i < length xs → x ≡ get_or xs i x → x.value ≡ true → sets.test x.condition c ≡ false → is_yes (value_at sets xs c) ≡ is_yes (value_at sets (take i xs) c)
outside_yes sets [] i x c h l e v t = absurd (omega arith)
outside_yes sets (y ∷ ys) zero x c h l e v t =
    ap is_yes (otherwise (sets.test y.condition c) y.value (value_at sets ys c) (ap (λ z. sets.test z.condition c) (sym e) ∙ t))
    ∙ none_above sets y.value ys c (ap (λ z. z.value) (sym e) ∙ v) h.0.below
outside_yes sets (y ∷ ys) (suc i) x c h l e v t = same_rest (sets.test y.condition c) y.value (value_at sets ys c) (value_at sets (take i ys) c) (outside_yes sets ys i x c h.1 (omega arith) e v t)

-- the leaf that says yes has all of them
pub IsSet-yes : {S I : Type 0} (sets : Sets I) (xs : List (Leaf Bool S I)) (i : ℕ) (x : Leaf Bool S I) → AreLeaves bool_cmp sets xs → i < length xs → x ≡ get_or xs i x → x.value ≡ true → IsNoSoFar sets xs i → IsSet sets x.condition (λ c. is_yes (value_at sets xs c))
IsSet-yes sets xs i x leaves l e v n = record {
  known = (next_leaf bool_cmp sets xs i x leaves l e).known;
  test = λ c. cases c (sets.test x.condition c) refl;
}
  where
    cases : (c : List Bool) (b : Bool) → sets.test x.condition c ≡ b → b ≡ is_yes (value_at sets xs c)
    cases c true t = sym (ap is_yes (leaf_value bool_cmp sets xs i x c leaves l e t) ∙ v)
    cases c false t = sym (outside_yes sets xs i x c leaves l e v t ∙ n.no c)

pub IsSet-none : {S I : Type 0} {sets : Sets I} → IsLawful sets → (xs : List (Leaf Bool S I)) (i : ℕ) → length xs ≤ i → IsNoSoFar sets xs i → IsSet sets sets.never (λ c. is_yes (value_at sets xs c))
IsSet-none {sets = sets} lawful xs i l n = record {
  known = lawful.never_known;
  test = λ c. lawful.never_test c ∙ sym (n.no c) ∙ ap (λ ys. is_yes (value_at sets ys c)) (take_all i xs l);
}

-- ---- questions that are asked of a value

yes_lifted : {T : Type 0} (R : T → Bool → Type 0) (q : T → Bool) (o : Option T) (a : Option Bool) (t : Bool) (x : T) → ((x : T) (b : Bool) → R x b → b ≡ q x) → o ≡ (if t then Some x else None) → IsLifted R o a → is_yes a ≡ (t && q x)
yes_lifted R q None a true x law e l = cc
yes_lifted R q None a false x law e l = ap is_yes l
yes_lifted R q (Some y) None t x law e l = absurd l
yes_lifted R q (Some y) (Some b) true x law e l =
    let same : y ≡ x = cc in
    law y b l ∙ ap q same
yes_lifted R q (Some y) (Some b) false x law e l = cc

-- where the answer of a question is yes, and there is a value just in a path
pub IsSet-asked : {T S I : Type 0} (s0 s1 s2 : Sets I) (R : T → Bool → Type 0) (q : T → Bool) (path : I) (value : List Bool → T) (cond : Conditional T S I) (answers : Conditional Bool S I) (set : I) → ((x : T) (b : Bool) → R x b → b ≡ q x) → ((c : List Bool) → cond_at s1 cond c ≡ (if s0.test path c then Some (value c) else None)) → IsCondLifting bool_cmp s2 R (cond_at s1 cond) answers → IsSet s2 set (λ c. is_yes (cond_at s2 answers c)) → IsSet s2 set (λ c. s0.test path c && q (value c))
IsSet-asked s0 s1 s2 R q path value cond answers set law at l s = record {
  known = s.known;
  test = λ c. s.test c ∙ yes_lifted R q (cond_at s1 cond c) (cond_at s2 answers c) (s0.test path c) (value c) law (at c) (lifting_at bool_cmp s2 R (cond_at s1 cond) answers l c);
}
