-- Ends and numbers of attempts that are found.
use Rattle.std.proofs.Common.{◌≡◌, ℕ, ◌<◌, ◌≤◌, Bool, true, false, List, [], ◌∷◌, refl, sym, ◌∙◌, ap, subst, arith, inl, inr, length, get_or, zero, suc}
use Rattle.std.specs.Prelude.{◌≢◌, ◌==◌, ◌+◌, ◌⊎◌, cond, nat_lt, not, Option, Some, None, if◌then◌else◌, position}
use Rattle.std.specs.List.{position_or_len}
use Rattle.std.specs.Option.{option_or}
use Rattle.std.proofs.lemmas.Bool.Decides.{nat_tests}
use Rattle.std.proofs.lemmas.List.Quantifiers.{position-Some}
use Rattle.std.specs.Ordering.{nat_cmp}
use Rattle.std.specs.declared.cmp.Ordering.TheVariants.{Less}
use Rattle.vx_space.specs.Sets.{Sets, Extends}
use Rattle.vx_space.proofs.Spaces.{Extends-trans}
use Rattle.vx_cond.specs.declared.cond.Leaf.{Leaf}
use Rattle.vx_cond.specs.Cond.{Conditional, IsCond, IsCondOf, cond_at}
use Rattle.vx_cond.specs.Leaves.{AreLeaves, AreLeavesApart, AreLeavesOf, IsApart, IsBelow, first_of, value_at, value_under, value_within}
use Rattle.vx_cond.proofs.CondLaws.{IsCond-of, cond_at-of}
use Rattle.vx_cond.proofs.LeafLaws.{AreLeaves-extends, value_at-extends}
use Rattle.vx_findings.specs.Shared.{leaves_of}
use Rattle.vx_findings.specs.declared.shared.Shared.{Shared}
use Rattle.vx_group_states.proofs.Gathering.{AreLeaves-of}
use Rattle.vx_value.specs.Ends.{compare_ends}
use Rattle.vx_value.specs.declared.end.End.{End}
use Rattle.vx_placing.specs.declared.round.Round.{Round}
use Rattle.vx_placing.specs.Placing.{IsEnded, IsUsedUp}

-- ---- attempts inside a condition, beside numbers that are apart from it

pub inside_leaves : {S I : Type 0} (s0 : Sets I) {s1 s2 : Sets I} → Extends s1 s2 → (attempts inside : Conditional ℕ S I) (condition : I) (leaves : List (Leaf ℕ S I)) → IsCondOf nat_cmp s1 (value_within s0 condition (cond_at s0 attempts)) inside → leaves ≡ inside.leaves → AreLeaves nat_cmp s2 leaves
inside_leaves s0 {s1 = s1} e attempts inside condition leaves k q =
    rw q (AreLeaves-extends nat_cmp e inside.leaves (AreLeaves-of nat_cmp s1 inside (IsCond-of nat_cmp s1 (value_within s0 condition (cond_at s0 attempts)) inside k)))

inside_at : {S I : Type 0} (s0 : Sets I) {s1 s2 : Sets I} → Extends s1 s2 → (attempts inside : Conditional ℕ S I) (condition : I) (leaves : List (Leaf ℕ S I)) → IsCondOf nat_cmp s1 (value_within s0 condition (cond_at s0 attempts)) inside → leaves ≡ inside.leaves → (c : List Bool) → value_at s2 leaves c ≡ value_within s0 condition (cond_at s0 attempts) c
inside_at s0 {s1 = s1} {s2 = s2} e attempts inside condition leaves k q c =
    let v = IsCond-of nat_cmp s1 (value_within s0 condition (cond_at s0 attempts)) inside k in
    ap (λ xs. value_at s2 xs c) q ∙ value_at-extends nat_cmp e inside.leaves (AreLeaves-of nat_cmp s1 inside v) c ∙ cond_at-of nat_cmp s1 (value_within s0 condition (cond_at s0 attempts)) inside c k

pub inside_apart : {S I : Type 0} {s0 s1 s2 : Sets I} → Extends s0 s1 → Extends s1 s2 → (spent : List (Shared ℕ S I)) (attempts inside : Conditional ℕ S I) (condition : I) (leaves : List (Leaf ℕ S I)) → AreLeaves nat_cmp s0 (leaves_of spent) → IsApart s0 condition (leaves_of spent) → IsCondOf nat_cmp s1 (value_within s0 condition (cond_at s0 attempts)) inside → leaves ≡ inside.leaves → AreLeavesApart s2 (leaves_of spent) leaves
inside_apart {s0 = s0} {s1 = s1} {s2 = s2} e1 e2 spent attempts inside condition leaves h a k q =
    record { none = λ c. cases c (s0.test condition c) (a.none c) (inside_at s0 e2 attempts inside condition leaves k q c) }
  where
    cases : (c : List Bool) (b : Bool) → (b ≡ true → value_at s0 (leaves_of spent) c ≡ None) → value_at s2 leaves c ≡ (if b then cond_at s0 attempts c else None) → (value_at s2 (leaves_of spent) c ≡ None) ⊎ (value_at s2 leaves c ≡ None)
    cases c true n i = inl (value_at-extends nat_cmp (Extends-trans e1 e2) (leaves_of spent) h c ∙ n refl)
    cases c false n i = inr i

pub IsEnded-made : {S I : Type 0} {s0 s1 s2 s3 : Sets I} → Extends s0 s1 → Extends s1 s2 → Extends s2 s3 → (attempts inside : Conditional ℕ S I) (condition : I) (end : End) (leaves : List (Leaf ℕ S I)) (before after : Round S I) → AreLeaves compare_ends s0 (leaves_of before.ends.items) → AreLeaves nat_cmp s0 (leaves_of before.spent.items) → s0.is_known condition ≡ true → IsCondOf nat_cmp s1 (value_within s0 condition (cond_at s0 attempts)) inside → leaves ≡ inside.leaves → AreLeavesOf compare_ends s2 (value_under s1 condition end (value_at s1 (leaves_of before.ends.items))) (leaves_of after.ends.items) → AreLeavesOf nat_cmp s3 (first_of (value_at s2 (leaves_of before.spent.items)) (value_at s2 leaves)) (leaves_of after.spent.items) → after.callers ≡ before.callers → after.groups ≡ before.groups → after.texts ≡ before.texts → IsEnded s0 s3 attempts condition end before after
IsEnded-made {s0 = s0} {s1 = s1} {s2 = s2} {s3 = s3} e1 e2 e3 attempts inside condition end leaves before after hends hspent known k q ends spent callers groups texts = record {
  callers = callers;
  groups = groups;
  texts = texts;
  ends = record {
    are_leaves = AreLeaves-extends compare_ends e3 (leaves_of after.ends.items) ends.are_leaves;
    values = λ c. value_at-extends compare_ends e3 (leaves_of after.ends.items) ends.are_leaves c ∙ ends.values c
        ∙ rw (e1.test condition c known) (ap (λ o. if s0.test condition c then Some end else o) (value_at-extends compare_ends e1 (leaves_of before.ends.items) hends c));
  };
  spent = record {
    are_leaves = spent.are_leaves;
    values = λ c. spent.values c
        ∙ ap (λ o. option_or o (value_at s2 leaves c)) (value_at-extends nat_cmp (Extends-trans e1 e2) (leaves_of before.spent.items) hspent c)
        ∙ ap (λ o. option_or (value_at s0 (leaves_of before.spent.items) c) o) (inside_at s0 e2 attempts inside condition leaves k q c);
  };
}

-- ---- where all attempts were used

number_here : (a n : ℕ) → (a == n) ≡ true → a ≡ n
number_here a n h = grind (arith, nat_tests)

not_here : (a n : ℕ) → (a == n) ≡ false → a ≢ n
not_here a n h e = grind (arith, nat_tests)

greater : (a b : ℕ) → nat_cmp a b ≡ Less → a ≢ b
greater a b h e = grind (arith, nat_tests)

-- a number that is below all has no leaf
above : {S I : Type 0} (sets : Sets I) (n : ℕ) (xs : List (Leaf ℕ S I)) (c : List Bool) → IsBelow nat_cmp n xs → value_at sets xs c ≢ Some n
above sets n [] c h = λ e. cc e
above {S = S} {I = I} sets n (x ∷ xs) c h = cases (sets.test x.condition c) (value_at sets xs c) (above sets n xs c h.1)
  where
    cases : (b : Bool) (o : Option ℕ) → o ≢ Some n → (if b then Some x.value else o) ≢ Some n
    cases true o f = λ e. greater n x.value h.0 (sym (some_same x.value n e))
      where
        some_same : (a b : ℕ) → ◌≡◌ {A = Option ℕ} (Some a) (Some b) → a ≡ b
        some_same a b q = cc q
    cases false o f = f

-- the first leaf of a number
abbrev pub place_from : {S I : Type 0} → ℕ → List (Leaf ℕ S I) → ℕ
place_from n xs = position_or_len (λ leaf. leaf.value == n) xs

no_place : {S I : Type 0} (sets : Sets I) (n : ℕ) (xs : List (Leaf ℕ S I)) (c : List Bool) → length xs ≤ place_from n xs → value_at sets xs c ≢ Some n
no_place sets n [] c h = λ e. cc e
no_place {S = S} {I = I} sets n (x ∷ xs) c h = cases (x.value == n) refl h (no_place sets n xs c)
  where
    inner : (b : Bool) (o : Option ℕ) → x.value ≢ n → o ≢ Some n → (if b then Some x.value else o) ≢ Some n
    inner true o f k = λ e. f (cc e)
    inner false o f k = k

    cases : (b : Bool) → (x.value == n) ≡ b → suc (length xs) ≤ cond (not b) (1 + place_from n xs) 0 → (length xs ≤ place_from n xs → value_at sets xs c ≢ Some n) → (if sets.test x.condition c then Some x.value else value_at sets xs c) ≢ Some n
    cases true e k r = absurd (omega (arith, k))
    cases false e k r = inner (sets.test x.condition c) (value_at sets xs c) (not_here x.value n e) (r (omega (arith, k)))

-- what holds at the configurations of the leaf at the first place
abbrev pub HasNumber : {S I : Type 0} → Sets I → ℕ → List (Leaf ℕ S I) → I → List Bool → Type 0
HasNumber sets n xs condition c = (sets.test condition c ≡ true → value_at sets xs c ≡ Some n) × (sets.test condition c ≡ false → value_at sets xs c ≢ Some n)

first_place : {S I : Type 0} (sets : Sets I) (n : ℕ) (xs : List (Leaf ℕ S I)) (i : ℕ) (x : Leaf ℕ S I) (c : List Bool) → AreLeaves nat_cmp sets xs → i ≡ place_from n xs → i < length xs → x ≡ get_or xs i x → (sets.is_known x.condition ≡ true) × HasNumber sets n xs x.condition c
first_place sets n [] i x c h q l e = absurd (omega (arith, l))
first_place {S = S} {I = I} sets n (y ∷ ys) zero x c h q l e = cases (y.value == n) refl q
  where
    here : (b : Bool) (o : Option ℕ) → y.value ≡ n → o ≢ Some n → (b ≡ true → (if b then Some y.value else o) ≡ Some n) × (b ≡ false → (if b then Some y.value else o) ≢ Some n)
    here true o v k = ((λ _. ap Some v), λ f. cc f)
    here false o v k = ((λ f. cc f), λ _. k)

    cases : (b : Bool) → (y.value == n) ≡ b → 0 ≡ cond (not b) (1 + place_from n ys) 0 → (sets.is_known x.condition ≡ true) × HasNumber sets n (y ∷ ys) x.condition c
    cases true v k =
        let same = number_here y.value n v in
        let P : Leaf ℕ S I → Type 0 = λ z. (sets.is_known z.condition ≡ true) × HasNumber sets n (y ∷ ys) z.condition c in
        subst P (sym e) (h.0.known, here (sets.test y.condition c) (value_at sets ys c) same (above sets n ys c (subst (λ m. IsBelow nat_cmp m ys) same h.0.below)))
    cases false v k = absurd (omega (arith, k))
first_place {S = S} {I = I} sets n (y ∷ ys) (suc i) x c h q l e = cases (y.value == n) refl q (λ u. first_place sets n ys i x c h.1 u (omega (arith, l)) e)
  where
    later : (b t : Bool) (o : Option ℕ) → y.value ≢ n → (b ≡ true → o ≡ None) → (t ≡ true → o ≡ Some n) × (t ≡ false → o ≢ Some n) → (t ≡ true → (if b then Some y.value else o) ≡ Some n) × (t ≡ false → (if b then Some y.value else o) ≢ Some n)
    later true t o f a k = ((λ u. cc (a refl, k.0 u)), λ u g. f (cc g))
    later false t o f a k = k

    cases : (b : Bool) → (y.value == n) ≡ b → suc i ≡ cond (not b) (1 + place_from n ys) 0 → (i ≡ place_from n ys → (sets.is_known x.condition ≡ true) × HasNumber sets n ys x.condition c) → (sets.is_known x.condition ≡ true) × HasNumber sets n (y ∷ ys) x.condition c
    cases true v k r = absurd (omega (arith, k))
    cases false v k r =
        let rest = r (omega (arith, k)) in
        (rest.0, later (sets.test y.condition c) (sets.test x.condition c) (value_at sets ys c) (not_here y.value n v) (h.0.apart.none c) rest.1)

pub IsUsedUp-some : {S I : Type 0} (sets : Sets I) (attempts : Conditional ℕ S I) (n place : ℕ) (x : Leaf ℕ S I) (leaves : List (Leaf ℕ S I)) → leaves ≡ attempts.leaves → Some place ≡ position (λ leaf. leaf.value == n) leaves → x ≡ get_or leaves place x → IsCond nat_cmp sets attempts → IsUsedUp sets attempts n (Some x.condition)
IsUsedUp-some {S = S} {I = I} sets attempts n place x leaves q p e v =
    let found = position-Some (λ leaf. leaf.value == n) leaves place x (sym p) in
    let P : List (Leaf ℕ S I) → Type 0 = λ xs. AreLeaves nat_cmp sets xs in
    let h = subst P (sym q) (AreLeaves-of nat_cmp sets attempts v) in
    let at = λ (c : List Bool). first_place sets n leaves place x c h (same place p) found.0 e in
    ((at []).0, λ c. subst (λ xs. HasNumber sets n xs x.condition c) q (at c).1)
  where
    same : (i : ℕ) → Some i ≡ position (λ leaf. leaf.value == n) leaves → i ≡ place_from n leaves
    same i p = cases (nat_lt (place_from n leaves) (length leaves)) p
      where
        cases : (b : Bool) → ◌≡◌ {A = Option ℕ} (Some i) (cond b (Some (place_from n leaves)) None) → i ≡ place_from n leaves
        cases true k = cc k
        cases false k = cc k

pub IsUsedUp-none : {S I : Type 0} (sets : Sets I) (attempts : Conditional ℕ S I) (n : ℕ) (leaves : List (Leaf ℕ S I)) → leaves ≡ attempts.leaves → None ≡ position (λ leaf. leaf.value == n) leaves → IsUsedUp sets attempts n None
IsUsedUp-none {S = S} {I = I} sets attempts n leaves q p c =
    subst (λ xs. value_at sets xs c ≢ Some n) q (no_place sets n leaves c (cases (nat_lt (place_from n leaves) (length leaves)) refl p))
  where
    cases : (b : Bool) → nat_lt (place_from n leaves) (length leaves) ≡ b → ◌≡◌ {A = Option ℕ} None (cond b (Some (place_from n leaves)) None) → length leaves ≤ place_from n leaves
    cases true e k = cc k
    cases false e k = grind (arith, nat_tests)
