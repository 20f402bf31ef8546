-- Where a key stands among groups, and which of several keys is the first.
use Rattle.std.proofs.Common.{◌≡◌, ℕ, ◌+◌, ◌<◌, Bool, true, false, List, [], ◌∷◌, refl, sym, ◌∙◌, ap, subst, zero, suc, length, take, inl, inr, arith, true≢false}
use Rattle.std.specs.Prelude.{◌≢◌, ◌⊎◌, nat_lt}
use Rattle.std.proofs.lemmas.List.{get_or_default}
use Rattle.std.proofs.lemmas.Bool.{ltb-false, ltb-true}
use Rattle.std.specs.declared.cmp.Ordering.TheVariants.{Less, Equal, Greater}
use Rattle.std.proofs.Math.ListN.{get_or}
use Rattle.vx_value.specs.declared.key.KeyPart.{KeyPart}
use Rattle.vx_value.specs.Key.{key_cmp}
use Rattle.std.specs.declared.cmp.Ordering.{Ordering}
use Rattle.std.specs.Ordering.{is_lt}
use Rattle.vx_value.specs.KeyLaws.{key_cmp_total}
use Rattle.vx_group.specs.Group.{GroupView, key_of}
use Rattle.vx_sched.specs.Groups.{IsFresh, HasKeyAt}

pub has_key_at : {S I : Type 0} (groups : List (GroupView S I)) (place : ℕ) (group : GroupView S I) (key : List KeyPart) → place < length groups → group ≡ get_or groups place group → key_of group ≡ key → HasKeyAt groups place key
has_key_at [] place group key l e h = absurd (omega (arith, l))
has_key_at (other ∷ others) zero group key l e h = ap key_of (sym e) ∙ h
has_key_at (other ∷ others) (suc place) group key l e h = has_key_at others place group key (omega (arith, l)) e h

fresh_next : {S I : Type 0} (groups : List (GroupView S I)) (place : ℕ) (group : GroupView S I) (key : List KeyPart) → place < length groups → group ≡ get_or groups place group → IsFresh key (take place groups) → key_of group ≢ key → IsFresh key (take (suc place) groups)
fresh_next [] place group key l e h n = absurd (omega (arith, l))
fresh_next (other ∷ others) zero group key l e h n = (subst (λ g. key_of g ≢ key) e n, tt)
fresh_next (other ∷ others) (suc place) group key l e h n = (h.0, fresh_next others place group key (omega (arith, l)) e h.1 n)

pub fresh_step : {S I : Type 0} (groups : List (GroupView S I)) (place : ℕ) (group : GroupView S I) (key : List KeyPart) → place < length groups → group ≡ get_or groups place group → IsFresh key (take place groups) → key_of group ≢ key → IsFresh key (take (place + 1) groups)
fresh_step groups place group key l e h n =
    let next : place + 1 ≡ suc place = omega arith in
    let P : ℕ → Type 0 = λ k. IsFresh key (take k groups) in
    subst P (sym next) (fresh_next groups place group key l e h n)

pub not_same : (b : Bool) → b ≡ true → b ≡ false → ⊥
not_same b y n = true≢false (sym y ∙ n)

-- ---- the first of keys

irreflexive : (x : List KeyPart) → key_cmp x x ≢ Less
irreflexive x h = cc (key_cmp_total.antisymm x x, h)

pub only_first : (keys : List (List KeyPart)) → (other : ℕ) → other < 1 → key_cmp (get_or keys other []) (get_or keys 0 []) ≢ Less
only_first keys zero l = irreflexive (get_or keys 0 [])
only_first keys (suc other) l = absurd (omega (arith, l))

earlier_or_this : (other place : ℕ) → other < place + 1 → (other < place) ⊎ (other ≡ place)
earlier_or_this other place l = compared (nat_lt other place) refl
  where
    compared : (t : Bool) → nat_lt other place ≡ t → (other < place) ⊎ (other ≡ place)
    compared true t = inl (ltb-true other place t)
    compared false t = inr (let above = ltb-false other place t in omega (arith, above, l))

is_less : (o : Ordering) → is_lt o ≡ true → o ≡ Less
is_less Less h = refl
is_less Equal h = cc h
is_less Greater h = cc h

isnt_less : (o : Ordering) → is_lt o ≡ false → o ≢ Less
isnt_less o h e = cc (ap is_lt e, h)

-- no key below a place is before the one of another place
pub record IsFirstBelow (keys : List (List KeyPart)) (place least : ℕ) : Type 0 where
  pub earlier : least < place
  pub first : (other : ℕ) → other < place → key_cmp (get_or keys other []) (get_or keys least []) ≢ Less

pub first_begins : (keys : List (List KeyPart)) → IsFirstBelow keys 1 0
first_begins keys = record { earlier = omega arith; first = only_first keys }

pub first_new : (keys : List (List KeyPart)) (place least : ℕ) (x y : List KeyPart) → place < length keys → x ≡ get_or keys place x → y ≡ get_or keys least y → IsFirstBelow keys place least → is_lt (key_cmp x y) ≡ true → IsFirstBelow keys (place + 1) place
first_new keys place least x y l e d h t = record {
  earlier = omega arith;
  first = λ other m q. by_place other q (earlier_or_this other place m);
}
  where
    before : key_cmp (get_or keys place []) (get_or keys least []) ≡ Less
    before =
        let below : least < length keys = omega (arith, l, h.earlier) in
        let a : x ≡ get_or keys place [] = e ∙ get_or_default keys place x [] l in
        let b : y ≡ get_or keys least [] = d ∙ get_or_default keys least y [] below in
        rw (sym a, sym b) (is_less (key_cmp x y) t)

    by_place : (other : ℕ) → key_cmp (get_or keys other []) (get_or keys place []) ≡ Less → (other < place) ⊎ (other ≡ place) → ⊥
    by_place other q (inl m) = h.first other m (key_cmp_total.trans (get_or keys other []) (get_or keys place []) (get_or keys least []) q before)
    by_place other q (inr m) = irreflexive (get_or keys place []) (let P : ℕ → Type 0 = λ k. key_cmp (get_or keys k []) (get_or keys place []) ≡ Less in subst P m q)

pub first_kept : (keys : List (List KeyPart)) (place least : ℕ) (x y : List KeyPart) → place < length keys → x ≡ get_or keys place x → y ≡ get_or keys least y → IsFirstBelow keys place least → is_lt (key_cmp x y) ≡ false → IsFirstBelow keys (place + 1) least
first_kept keys place least x y l e d h t = record {
  earlier = omega (arith, h.earlier);
  first = λ other m q. by_place other q (earlier_or_this other place m);
}
  where
    not_before : key_cmp (get_or keys place []) (get_or keys least []) ≢ Less
    not_before =
        let below : least < length keys = omega (arith, l, h.earlier) in
        let a : x ≡ get_or keys place [] = e ∙ get_or_default keys place x [] l in
        let b : y ≡ get_or keys least [] = d ∙ get_or_default keys least y [] below in
        rw (sym a, sym b) (isnt_less (key_cmp x y) t)

    by_place : (other : ℕ) → key_cmp (get_or keys other []) (get_or keys least []) ≡ Less → (other < place) ⊎ (other ≡ place) → ⊥
    by_place other q (inl m) = h.first other m q
    by_place other q (inr m) = not_before (let P : ℕ → Type 0 = λ k. key_cmp (get_or keys k []) (get_or keys least []) ≡ Less in subst P m q)
