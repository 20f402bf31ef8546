-- Laws of leaves.
use Rattle.std.proofs.Common.{◌≡◌, ◌≢◌, ℕ, Bool, true, false, List, [], ◌∷◌, ◌++◌, refl, sym, ◌∙◌, ap, arith, zero, suc, set, get_or, subst, inl, inr}
use Rattle.std.proofs.Common.{◌+◌, ◌-◌, ◌/◌, ◌<◌, ◌≤◌, length}
use Rattle.std.proofs.lemmas.Bool.{cases_eq}
use Rattle.std.specs.Prelude.{Option, Some, None, if◌then◌else◌, insert, ◌||◌}
use Rattle.std.specs.Option.{option_or}
use Rattle.std.specs.Cmp.{IsTotalOrder}
use Rattle.std.specs.Ordering.{is_eq, is_lt, ordering_reverse}
use Rattle.std.specs.declared.cmp.Ordering.{Ordering}
use Rattle.std.specs.declared.cmp.Ordering.TheVariants.{Less, Equal, Greater}
use Rattle.vx_space.specs.Sets.{Sets, Extends, IsLawful, IsSet}
use Rattle.vx_cond.specs.declared.cond.Leaf.{Leaf}
use Rattle.vx_cond.specs.Leaves.{value_at, IsBelow, AreAscending, IsApart, AreLeaves, IsPlace, AreLeavesOf, value_under}

-- the values of some leaves and then of others
pub value_at-append : {T S I : Type 0} (sets : Sets I) (xs ys : List (Leaf T S I)) (c : List Bool) → value_at sets (xs ++ ys) c ≡ option_or (value_at sets xs c) (value_at sets ys c)
value_at-append sets [] ys c = refl
value_at-append sets (x ∷ xs) ys c =
    elim (sets.test x.condition c) as (λ b. (if b then Some x.value else value_at sets (xs ++ ys) c) ≡ option_or (if b then Some x.value else value_at sets xs c) (value_at sets ys c)) [
      | true ↦ refl
      | false ↦ value_at-append sets xs ys c
    ]

-- values stay where a space is extended
pub value_at-extends : {T S I : Type 0} (cmp : T → T → Ordering) {old new : Sets I} → Extends old new → (xs : List (Leaf T S I)) → AreLeaves cmp old xs → (c : List Bool) → value_at new xs c ≡ value_at old xs c
value_at-extends cmp e [] h c = refl
value_at-extends cmp {old = old} {new = new} e (x ∷ xs) h c = rw (e.test x.condition c h.0.known) (ap (λ r. if old.test x.condition c then Some x.value else r) (value_at-extends cmp e xs h.1 c))

-- leaves stay leaves where a space is extended
pub AreLeaves-extends : {T S I : Type 0} (cmp : T → T → Ordering) {old new : Sets I} → Extends old new → (xs : List (Leaf T S I)) → AreLeaves cmp old xs → AreLeaves cmp new xs
AreLeaves-extends cmp e [] h = tt
AreLeaves-extends cmp e (x ∷ xs) h = (
  record {
    known = e.known x.condition h.0.known;
    nonempty = λ q. h.0.nonempty (q ∙ e.never);
    below = h.0.below;
    apart = record { none = λ c t. value_at-extends cmp e xs h.1 c ∙ h.0.apart.none c (sym (e.test x.condition c h.0.known) ∙ t) };
  },
  AreLeaves-extends cmp e xs h.1,
)

-- where the leaves have a value, a condition apart from them doesn't hold
apart_false : {T S I : Type 0} (sets : Sets I) (condition : I) (xs : List (Leaf T S I)) (c : List Bool) (b : Bool) → (b ≡ true → value_at sets xs c ≡ None) → (v : T) → value_at sets xs c ≡ Some v → b ≡ false
apart_false sets condition xs c true h v e = cc (h refl)
apart_false sets condition xs c false h v e = refl

-- a value below another is below what the other is below
IsBelow-trans : {T S I : Type 0} {cmp : T → T → Ordering} → IsTotalOrder cmp → (a b : T) (xs : List (Leaf T S I)) → cmp a b ≡ Less → IsBelow cmp b xs → IsBelow cmp a xs
IsBelow-trans o a b [] l h = tt
IsBelow-trans o a b (x ∷ xs) l h = (o.trans a b x.value l h.0, IsBelow-trans o a b xs l h.1)

-- a greater value stays below once it is inserted
IsBelow-insert : {T S I : Type 0} (cmp : T → T → Ordering) (a : T) (x : Leaf T S I) (xs : List (Leaf T S I)) (i : ℕ) → cmp a x.value ≡ Less → IsBelow cmp a xs → IsBelow cmp a (insert xs i x)
IsBelow-insert cmp a x [] zero l h = (l, tt)
IsBelow-insert cmp a x [] (suc i) l h = (l, tt)
IsBelow-insert cmp a x (y ∷ ys) zero l h = (l, h)
IsBelow-insert cmp a x (y ∷ ys) (suc i) l h = (h.0, IsBelow-insert cmp a x ys i l h.1)

IsBelow-set : {T S I : Type 0} (cmp : T → T → Ordering) (a : T) (x : Leaf T S I) (xs : List (Leaf T S I)) (i : ℕ) → cmp a x.value ≡ Less → IsBelow cmp a xs → IsBelow cmp a (set xs i x)
IsBelow-set cmp a x [] i l h = tt
IsBelow-set cmp a x (y ∷ ys) zero l h = (l, h.1)
IsBelow-set cmp a x (y ∷ ys) (suc i) l h = (h.0, IsBelow-set cmp a x ys i l h.1)

-- where leaves have no value, neither the first nor the rest has one
none_parts : {T : Type 0} (b : Bool) (v : T) (r : Option T) → (if b then Some v else r) ≡ None → (b ≡ false) × (r ≡ None)
none_parts true v r h = cc
none_parts false v r h = (refl, h)

IsApart-rest : {T S I : Type 0} (sets : Sets I) (condition : I) (y : Leaf T S I) (ys : List (Leaf T S I)) → IsApart sets condition (y ∷ ys) → IsApart sets condition ys
IsApart-rest sets condition y ys h = record { none = λ c t. (none_parts (sets.test y.condition c) y.value (value_at sets ys c) (h.none c t)).1 }

IsApart-first : {T S I : Type 0} (sets : Sets I) (condition : I) (y : Leaf T S I) (ys : List (Leaf T S I)) → IsApart sets condition (y ∷ ys) → (c : List Bool) → sets.test y.condition c ≡ true → sets.test condition c ≡ false
IsApart-first sets condition y ys h c t = not_both (sets.test condition c) (sets.test y.condition c) (λ k. (none_parts (sets.test y.condition c) y.value (value_at sets ys c) (h.none c k)).0) t
  where
    not_both : (a b : Bool) → (a ≡ true → b ≡ false) → b ≡ true → a ≡ false
    not_both true b f t = cc (f refl)
    not_both false b f t = refl

-- leaves with one more, put in at its place, over one space
pub record IsAdded {T S I : Type 0} (cmp : T → T → Ordering) (sets : Sets I) (xs : List (Leaf T S I)) (value : T) (condition : I) (ys : List (Leaf T S I)) : Type 0 where
  pub are_leaves : AreLeaves cmp sets ys
  pub values : (c : List Bool) → value_at sets ys c ≡ (if sets.test condition c then Some value else value_at sets xs c)

swap_tests : {T : Type 0} (a b : Bool) (v w : T) (r : Option T) → (b ≡ true → a ≡ false) → (if b then Some w else (if a then Some v else r)) ≡ (if a then Some v else (if b then Some w else r))
swap_tests a true v w r h = rw (h refl) refl
swap_tests a false v w r h = refl

pub IsAdded-insert : {T S I : Type 0} {cmp : T → T → Ordering} → IsTotalOrder cmp → (sets : Sets I) (x : Leaf T S I) (xs : List (Leaf T S I)) (i : ℕ) → AreLeaves cmp sets xs → IsPlace cmp x.value xs i false → sets.is_known x.condition ≡ true → x.condition ≢ sets.never → IsApart sets x.condition xs → IsAdded cmp sets xs x.value x.condition (insert xs i x)
IsAdded-insert o sets x [] zero h p k n a = record {
  are_leaves = (record { known = k; nonempty = n; below = tt; apart = record { none = λ _ _. refl } }, tt);
  values = λ _. refl;
}
IsAdded-insert o sets x [] (suc i) h p k n a = absurd p
IsAdded-insert o sets x (y ∷ ys) zero h p k n a =
    let less = o.antisymm x.value y.value ∙ ap ordering_reverse p in
    record {
      are_leaves = (record { known = k; nonempty = n; below = (less, IsBelow-trans o x.value y.value ys less h.0.below); apart = a }, h);
      values = λ _. refl;
    }
IsAdded-insert {cmp = cmp} o sets x (y ∷ ys) (suc i) h p k n a =
    let before = IsAdded-insert o sets x ys i h.1 p.1 k n (IsApart-rest sets x.condition y ys a) in
    record {
      are_leaves = (
        record {
          known = h.0.known;
          nonempty = h.0.nonempty;
          below = IsBelow-insert cmp y.value x ys i p.0 h.0.below;
          apart = record { none = λ c t. before.values c ∙ ap (λ b. if b then Some x.value else value_at sets ys c) (IsApart-first sets x.condition y ys a c t) ∙ h.0.apart.none c t };
        },
        before.are_leaves,
      );
      values = λ c. ap (λ r. if sets.test y.condition c then Some y.value else r) (before.values c) ∙ swap_tests (sets.test x.condition c) (sets.test y.condition c) x.value y.value (value_at sets ys c) (IsApart-first sets x.condition y ys a c);
    }

-- leaves with the same values, and the condition of one of them wider
pub IsAdded-set : {T S I : Type 0} {cmp : T → T → Ordering} → ((a b : T) → cmp a b ≡ Equal → a ≡ b) → (sets : Sets I) → IsLawful sets → (x : Leaf T S I) (condition : I) (xs : List (Leaf T S I)) (i : ℕ) (y : Leaf T S I) → AreLeaves cmp sets xs → IsPlace cmp x.value xs i true → y ≡ get_or xs i y → sets.is_known x.condition ≡ true → ((c : List Bool) → sets.test x.condition c ≡ (sets.test y.condition c || sets.test condition c)) → IsApart sets condition xs → IsAdded cmp sets xs x.value condition (set xs i x)
IsAdded-set exact sets lawful x condition [] zero y h p e k t a = cc
IsAdded-set exact sets lawful x condition [] (suc i) y h p e k t a = absurd p
IsAdded-set {cmp = cmp} exact sets lawful x condition (z ∷ ys) zero y h p e k t a =
    let same : z.value ≡ x.value = exact z.value x.value p in
    let wider : (c : List Bool) → sets.test x.condition c ≡ (sets.test z.condition c || sets.test condition c) = λ c. t c ∙ ap (λ w. sets.test w.condition c || sets.test condition c) e in
    record {
      are_leaves = (
        record {
          known = k;
          nonempty = λ q. h.0.nonempty (lawful.equal_sets z.condition sets.never h.0.known lawful.never_known (λ c. or_false_left (sets.test z.condition c) (sets.test condition c) (sym (wider c) ∙ ap (λ w. sets.test w c) q ∙ lawful.never_test c) ∙ sym (lawful.never_test c)));
          below = subst (λ v. IsBelow cmp v ys) same h.0.below;
          apart = record { none = λ c u. either_apart (sets.test z.condition c) (sets.test condition c) (value_at sets ys c) (h.0.apart.none c) ((IsApart-rest sets condition z ys a).none c) (sym (wider c) ∙ u) };
        },
        h.1,
      );
      values = λ c. ap (λ b. if b then Some x.value else value_at sets ys c) (wider c) ∙ ap (λ v. if (sets.test z.condition c || sets.test condition c) then Some v else value_at sets ys c) (sym same) ∙ or_order (sets.test z.condition c) (sets.test condition c) z.value x.value (value_at sets ys c) same;
    }
  where
    or_false_left : (a b : Bool) → (a || b) ≡ false → a ≡ false
    or_false_left true b q = q
    or_false_left false b q = refl

    either_apart : {T : Type 0} (a b : Bool) (r : Option T) → (a ≡ true → r ≡ None) → (b ≡ true → r ≡ None) → (a || b) ≡ true → r ≡ None
    either_apart true b r f g q = f refl
    either_apart false b r f g q = g q

    or_order : {T : Type 0} (a b : Bool) (v w : T) (r : Option T) → v ≡ w → (if (a || b) then Some v else r) ≡ (if b then Some w else (if a then Some v else r))
    or_order true true v w r q = ap Some q
    or_order true false v w r q = refl
    or_order false true v w r q = ap Some q
    or_order false false v w r q = refl
IsAdded-set {cmp = cmp} exact sets lawful x condition (z ∷ ys) (suc i) y h p e k t a =
    let before = IsAdded-set exact sets lawful x condition ys i y h.1 p.1 e k t (IsApart-rest sets condition z ys a) in
    record {
      are_leaves = (
        record {
          known = h.0.known;
          nonempty = h.0.nonempty;
          below = IsBelow-set cmp z.value x ys i p.0 h.0.below;
          apart = record { none = λ c u. before.values c ∙ ap (λ b. if b then Some x.value else value_at sets ys c) (IsApart-first sets condition z ys a c u) ∙ h.0.apart.none c u };
        },
        before.are_leaves,
      );
      values = λ c. ap (λ r. if sets.test z.condition c then Some z.value else r) (before.values c) ∙ swap_tests (sets.test condition c) (sets.test z.condition c) x.value z.value (value_at sets ys c) (IsApart-first sets condition z ys a c);
    }

-- an item of a list, whatever the default
at_any : {X : Type 0} (xs : List X) (i : ℕ) (x d : X) → i < length xs → x ≡ get_or xs i x → get_or xs i d ≡ x
at_any [] i x d l e = absurd (omega (arith, l))
at_any (y ∷ ys) zero x d l e = sym e
at_any (y ∷ ys) (suc i) x d l e = at_any ys i x d (omega (arith, l)) e

-- leaves ascend
pub ascending_of : {T S I : Type 0} (cmp : T → T → Ordering) (sets : Sets I) (xs : List (Leaf T S I)) → AreLeaves cmp sets xs → AreAscending cmp xs
ascending_of cmp sets [] h = tt
ascending_of cmp sets (x ∷ xs) h = (h.0.below, ascending_of cmp sets xs h.1)

below_at : {T S I : Type 0} (cmp : T → T → Ordering) (v : T) (xs : List (Leaf T S I)) (k : ℕ) (d : Leaf T S I) → IsBelow cmp v xs → k < length xs → cmp v (get_or xs k d).value ≡ Less
below_at cmp v [] k d h l = absurd (omega (arith, l))
below_at cmp v (x ∷ xs) zero d h l = h.0
below_at cmp v (x ∷ xs) (suc k) d h l = below_at cmp v xs k d h.1 (omega (arith, l))

ascends : {T S I : Type 0} (cmp : T → T → Ordering) (xs : List (Leaf T S I)) (j k : ℕ) (d : Leaf T S I) → AreAscending cmp xs → j < k → k < length xs → cmp (get_or xs j d).value (get_or xs k d).value ≡ Less
ascends cmp [] j k d h l m = absurd (omega (arith, m))
ascends cmp (x ∷ xs) j zero d h l m = absurd (omega (arith, l))
ascends cmp (x ∷ xs) zero (suc k) d h l m = below_at cmp x.value xs k d h.0 (omega (arith, m))
ascends cmp (x ∷ xs) (suc j) (suc k) d h l m = ascends cmp xs j k d h.1 (omega (arith, l)) (omega (arith, m))

-- the values before a place are less, and those from another on greater; between the two lies what is looked at next
pub record IsSearching {T S I : Type 0} (cmp : T → T → Ordering) (value : T) (xs : List (Leaf T S I)) (low high at : ℕ) : Type 0 where
  pub ordered : low ≤ high
  pub within : high ≤ length xs
  pub least : low < high → low ≤ at
  pub most : low < high → at < high
  pub before : (k : ℕ) (d : Leaf T S I) → k < low → cmp (get_or xs k d).value value ≡ Less
  pub after : (k : ℕ) (d : Leaf T S I) → high ≤ k → k < length xs → cmp (get_or xs k d).value value ≡ Greater

pub IsSearching-start : {T S I : Type 0} (cmp : T → T → Ordering) (value : T) (xs : List (Leaf T S I)) (at : ℕ) → at ≡ length xs - 1 → IsSearching cmp value xs 0 (length xs) at
IsSearching-start cmp value xs at e = record {
  ordered = omega arith;
  within = omega arith;
  least = λ l. omega arith;
  most = λ l. omega (arith, l, e);
  before = λ k d l. absurd (omega (arith, l));
  after = λ k d l m. absurd (omega (arith, l, m));
}

pub middle : (low high at : ℕ) → low ≤ high → at ≡ low + (high - low) / 2 → low < high → (low ≤ at) × (at < high)
middle low high at h e l = (omega (arith, e), omega (arith, h, e, l))

pub IsSearching-less : {T S I : Type 0} {cmp : T → T → Ordering} → IsTotalOrder cmp → (value : T) (xs : List (Leaf T S I)) (low high at next : ℕ) (x : Leaf T S I) → AreAscending cmp xs → IsSearching cmp value xs low high at → low < high → x ≡ get_or xs at x → cmp x.value value ≡ Less → next ≡ at + 1 + (high - (at + 1)) / 2 → IsSearching cmp value xs (at + 1) high next
IsSearching-less {cmp = cmp} o value xs low high at next x asc h l e p n =
    let inside : at < high = h.most l in
    let ordered : at + 1 ≤ high = omega (arith, inside) in
    record {
      ordered = ordered;
      within = h.within;
      least = λ m. (middle (at + 1) high next ordered n m).0;
      most = λ m. (middle (at + 1) high next ordered n m).1;
      before = λ k d m. elim (cases_eq k at) [
        | inl s ↦ rw (s, at_any xs at x d (omega (arith, inside, h.within)) e) p
        | inr q ↦ o.trans (get_or xs k d).value (get_or xs at d).value value (ascends cmp xs k at d asc (omega (arith, m, q)) (omega (arith, inside, h.within))) (rw (at_any xs at x d (omega (arith, inside, h.within)) e) p)
      ];
      after = h.after;
    }

pub IsSearching-greater : {T S I : Type 0} {cmp : T → T → Ordering} → IsTotalOrder cmp → (value : T) (xs : List (Leaf T S I)) (low high at next : ℕ) (x : Leaf T S I) → AreAscending cmp xs → IsSearching cmp value xs low high at → low < high → x ≡ get_or xs at x → cmp x.value value ≡ Greater → next ≡ low + (at - low) / 2 → IsSearching cmp value xs low at next
IsSearching-greater {cmp = cmp} o value xs low high at next x asc h l e p n =
    let least : low ≤ at = h.least l in
    let inside : at < length xs = omega (arith, h.most l, h.within) in
    record {
      ordered = least;
      within = omega (arith, inside);
      least = λ m. (middle low at next least n m).0;
      most = λ m. (middle low at next least n m).1;
      before = h.before;
      after = λ k d m u. elim (cases_eq k at) [
        | inl s ↦ rw (s, at_any xs at x d inside e) p
        | inr q ↦
            let here : cmp (get_or xs at d).value value ≡ Greater = rw (at_any xs at x d inside e) p in
            let less : cmp value (get_or xs at d).value ≡ Less = o.antisymm value (get_or xs at d).value ∙ ap ordering_reverse here in
            let further : cmp value (get_or xs k d).value ≡ Less = o.trans value (get_or xs at d).value (get_or xs k d).value less (ascends cmp xs at k d asc (omega (arith, m, q)) u) in
            o.antisymm (get_or xs k d).value value ∙ ap ordering_reverse further
      ];
    }

place_from : {T S I : Type 0} (cmp : T → T → Ordering) (value : T) (xs : List (Leaf T S I)) (i : ℕ) (found : Bool) → ((k : ℕ) (d : Leaf T S I) → k < i → cmp (get_or xs k d).value value ≡ Less) → (i < length xs → (d : Leaf T S I) → cmp (get_or xs i d).value value ≡ (if found then Equal else Greater)) → (i ≡ length xs → found ≡ false) → i ≤ length xs → IsPlace cmp value xs i found
place_from cmp value [] zero found f g e l = e refl
place_from cmp value [] (suc i) found f g e l = absurd (omega (arith, l))
place_from cmp value (x ∷ xs) zero found f g e l = g (omega arith) x
place_from cmp value (x ∷ xs) (suc i) found f g e l = (f 0 x (omega arith), place_from cmp value xs i found (λ k d m. f (suc k) d (omega (arith, m))) (λ m d. g (omega (arith, m)) d) (λ m. e (ap suc m)) (omega (arith, l)))

pub IsSearching-here : {T S I : Type 0} (cmp : T → T → Ordering) (value : T) (xs : List (Leaf T S I)) (low high at : ℕ) (x : Leaf T S I) → IsTotalOrder cmp → ((a b : T) → cmp a b ≡ Equal → a ≡ b) → AreAscending cmp xs → IsSearching cmp value xs low high at → low < high → x ≡ get_or xs at x → cmp x.value value ≡ Equal → IsPlace cmp value xs at true
IsSearching-here cmp value xs low high at x o exact asc h l e p =
    let inside : at < length xs = omega (arith, h.most l, h.within) in
    let same : x.value ≡ value = exact x.value value p in
    place_from cmp value xs at true
    (λ k d m. ap (λ v. cmp (get_or xs k d).value v) (sym same) ∙ ap (λ y. cmp (get_or xs k d).value y.value) (sym (at_any xs at x d inside e)) ∙ ascends cmp xs k at d asc m inside)
    (λ m d. rw (at_any xs at x d inside e) p)
    (λ m. absurd (omega (arith, m, inside)))
    (omega (arith, inside))

pub IsSearching-end : {T S I : Type 0} (cmp : T → T → Ordering) (value : T) (xs : List (Leaf T S I)) (low high at : ℕ) → IsSearching cmp value xs low high at → high ≤ low → IsPlace cmp value xs low false
IsSearching-end cmp value xs low high at h l = place_from cmp value xs low false h.before (λ m d. h.after low d (omega (arith, l)) m) (λ _. refl) (omega (arith, h.ordered, h.within))

-- what a look at a place tells
is_equal : (o : Ordering) → is_eq o ≡ true → o ≡ Equal
is_equal Equal h = refl
is_equal Less h = cc h
is_equal Greater h = cc h

pub IsSearching-found : {T S I : Type 0} (cmp : T → T → Ordering) (value : T) (xs : List (Leaf T S I)) (low high at : ℕ) (x : Leaf T S I) (order : Ordering) (same : Bool) → IsTotalOrder cmp → ((a b : T) → cmp a b ≡ Equal → a ≡ b) → AreAscending cmp xs → IsSearching cmp value xs low high at → low < high → x ≡ get_or xs at x → order ≡ cmp (get_or xs at x).value value → same ≡ is_eq order → same ≡ true → IsPlace cmp value xs at true
IsSearching-found cmp value xs low high at x order same o exact asc h l e c b t = IsSearching-here cmp value xs low high at x o exact asc h l e (ap (λ y. cmp y.value value) e ∙ sym c ∙ is_equal order (sym b ∙ t))

pub IsSearching-narrowed : {T S I : Type 0} {cmp : T → T → Ordering} → IsTotalOrder cmp → (value : T) (xs : List (Leaf T S I)) (low high at : ℕ) (x : Leaf T S I) (order : Ordering) (same less : Bool) (part : ℕ × ℕ) → AreAscending cmp xs → IsSearching cmp value xs low high at → low < high → x ≡ get_or xs at x → order ≡ cmp (get_or xs at x).value value → same ≡ is_eq order → same ≡ false → less ≡ is_lt order → part ≡ (if less then (at + 1, high) else (low, at)) → IsSearching cmp value xs part.0 part.1 (part.0 + (part.1 - part.0) / 2)
IsSearching-narrowed {cmp = cmp} o value xs low high at x order same less part asc h l e c s n b q = by order (c ∙ ap (λ y. cmp y.value value) (sym e)) (sym s ∙ n) (q ∙ ap (λ t. if t then (at + 1, high) else (low, at)) b)
  where
    by : (order : Ordering) → order ≡ cmp x.value value → is_eq order ≡ false → part ≡ (if is_lt order then (at + 1, high) else (low, at)) → IsSearching cmp value xs part.0 part.1 (part.0 + (part.1 - part.0) / 2)
    by Less c n q = let P : ℕ × ℕ → Type 0 = λ r. IsSearching cmp value xs r.0 r.1 (r.0 + (r.1 - r.0) / 2) in subst P (sym q) (IsSearching-less o value xs low high at _ x asc h l e (sym c) refl)
    by Equal c n q = cc n
    by Greater c n q = let P : ℕ × ℕ → Type 0 = λ r. IsSearching cmp value xs r.0 r.1 (r.0 + (r.1 - r.0) / 2) in subst P (sym q) (IsSearching-greater o value xs low high at _ x asc h l e (sym c) refl)

pub place_at : {T S I : Type 0} (cmp : T → T → Ordering) (value : T) (xs ys : List (Leaf T S I)) (i : ℕ) (a b : Bool) → IsPlace cmp value xs i a → xs ≡ ys → a ≡ b → IsPlace cmp value ys i b
place_at {T = T} {S = S} {I = I} cmp value xs ys i a b p e f =
    let P : List (Leaf T S I) → Type 0 = λ zs. IsPlace cmp value zs i a in
    let Q : Bool → Type 0 = λ d. IsPlace cmp value ys i d in
    subst Q f (subst P e p)

-- the condition of the leaf at a value's place is known
pub place_known : {T S I : Type 0} (cmp : T → T → Ordering) (sets : Sets I) (value : T) (xs : List (Leaf T S I)) (i : ℕ) (y : Leaf T S I) → AreLeaves cmp sets xs → IsPlace cmp value xs i true → y ≡ get_or xs i y → sets.is_known y.condition ≡ true
place_known cmp sets value [] zero y h p e = cc
place_known cmp sets value [] (suc i) y h p e = absurd p
place_known cmp sets value (x ∷ xs) zero y h p e = rw e h.0.known
place_known cmp sets value (x ∷ xs) (suc i) y h p e = place_known cmp sets value xs i y h.1 p.1 e

-- a condition stays apart where a space is extended
pub IsApart-extends : {T S I : Type 0} (cmp : T → T → Ordering) {old new : Sets I} → Extends old new → (condition : I) (xs : List (Leaf T S I)) → old.is_known condition ≡ true → AreLeaves cmp old xs → IsApart old condition xs → IsApart new condition xs
IsApart-extends cmp e condition xs k h a = record { none = λ c t. value_at-extends cmp e xs h c ∙ a.none c (sym (e.test condition c k) ∙ t) }

-- a union, over the space after it was made
pub or_after : {I : Type 0} {old new : Sets I} → Extends old new → (a b r : I) → old.is_known a ≡ true → old.is_known b ≡ true → IsSet new r (λ c. old.test a c || old.test b c) → (c : List Bool) → new.test r c ≡ (new.test a c || new.test b c)
or_after {old = old} {new = new} e a b r h k u c = rw (e.test a c h, e.test b c k) (u.test c)

-- what was added, over the space before
pub added : {T S I : Type 0} (cmp : T → T → Ordering) {old new : Sets I} → Extends old new → (xs ys : List (Leaf T S I)) (value : T) (condition : I) → AreLeaves cmp old xs → old.is_known condition ≡ true → IsAdded cmp new xs value condition ys → AreLeavesOf cmp new (value_under old condition value (value_at old xs)) ys
added cmp e xs ys value condition h k a = record {
  are_leaves = a.are_leaves;
  values = λ c. rw (← e.test condition c k, ← value_at-extends cmp e xs h c) (a.values c);
}

-- nothing is added under the condition never
pub added_never : {T S I : Type 0} (cmp : T → T → Ordering) (sets : Sets I) → IsLawful sets → (xs : List (Leaf T S I)) (value : T) (condition : I) → AreLeaves cmp sets xs → condition ≡ sets.never → AreLeavesOf cmp sets (value_under sets condition value (value_at sets xs)) xs
added_never cmp sets lawful xs value condition h e = record {
  are_leaves = h;
  values = λ c. ap (λ b. if b then Some value else value_at sets xs c) (sym (lawful.never_test c) ∙ ap (λ i. sets.test i c) (sym e));
}
