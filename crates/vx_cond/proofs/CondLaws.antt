-- Laws of conditional values, for callers.
use Rattle.std.proofs.Common.{◌≡◌, Bool, true, false, List, [], refl, sym, ◌∙◌, ap, subst, ◌⊎◌, inl, inr}
use Rattle.std.specs.Prelude.{Option, Some, None, if◌then◌else◌, is_some, ◌&&◌, ◌||◌, not}
use Rattle.std.specs.Option.{option_or}
use Rattle.std.specs.declared.cmp.Ordering.{Ordering}
use Rattle.vx_space.specs.Sets.{Sets, Extends, IsSet, IsLawful}
use Rattle.vx_space.proofs.Spaces.{Extends-trans}
use Rattle.vx_cond.specs.declared.cond.Leaf.{Leaf}
use Rattle.vx_cond.specs.Leaves.{value_at, AreLeavesOf, AreLeavesApart, value_within, first_of}
use Rattle.vx_cond.specs.Cond.{Conditional, cond_at, IsCond, IsCondOf, AreDisjoint}
use Rattle.vx_cond.proofs.LeafLaws.{value_at-extends, AreLeaves-extends}

-- the value stays where a space is extended
pub cond_at-extends : {T S I : Type 0} (cmp : T → T → Ordering) {old new : Sets I} → Extends old new → (cond : Conditional T S I) → IsCond cmp old cond → (c : List Bool) → cond_at new cond c ≡ cond_at old cond c
unfolding IsCond IsCondOf
cond_at-extends cmp e cond v c = value_at-extends cmp e cond.leaves v.are_leaves c

pub IsCond-extends : {T S I : Type 0} (cmp : T → T → Ordering) {old new : Sets I} → Extends old new → (cond : Conditional T S I) → IsCond cmp old cond → IsCond cmp new cond
unfolding IsCond IsCondOf
IsCond-extends cmp e cond v = record {
  scope_known = e.known cond.scope v.scope_known;
  are_leaves = AreLeaves-extends cmp e cond.leaves v.are_leaves;
  covers = λ c. ap is_some (cond_at-extends cmp e cond v c) ∙ v.covers c ∙ sym (e.test cond.scope c v.scope_known);
}

pub IsCondOf-extends : {T S I : Type 0} (cmp : T → T → Ordering) {old new : Sets I} → Extends old new → (value : List Bool → Option T) (cond : Conditional T S I) → IsCondOf cmp old value cond → IsCondOf cmp new value cond
unfolding IsCond IsCondOf
IsCondOf-extends cmp e value cond v = record { is_cond = IsCond-extends cmp e cond v.is_cond; at = λ c. cond_at-extends cmp e cond v.is_cond c ∙ v.at c }

-- what `restrict` makes
pub IsCondOf-restricted : {T S I : Type 0} (cmp : T → T → Ordering) {s0 s1 s2 : Sets I} (cond : Conditional T S I) (within scope : I) (leaves : List (Leaf T S I)) → IsCond cmp s0 cond → s0.is_known within ≡ true → Extends s0 s1 → IsSet s1 scope (λ c. s0.test cond.scope c && s0.test within c) → Extends s1 s2 → AreLeavesOf cmp s2 (value_within s1 within (value_at s1 cond.leaves)) leaves → IsCondOf cmp s2 (value_within s0 within (cond_at s0 cond)) (record { scope = scope; leaves = leaves })
unfolding IsCond IsCondOf
IsCondOf-restricted {T = T} cmp {s0 = s0} {s1 = s1} {s2 = s2} cond within scope leaves v k e1 u e2 a =
    let now : (c : List Bool) → value_at s2 leaves c ≡ value_within s0 within (cond_at s0 cond) c = λ c. a.values c ∙ rw (e1.test within c k) (ap (λ o. if s0.test within c then o else None) (cond_at-extends cmp e1 cond v c)) in
    record {
      is_cond = record {
        scope_known = e2.known scope u.known;
        are_leaves = a.are_leaves;
        covers = λ c. ap is_some (now c) ∙ cases (s0.test within c) (cond_at s0 cond c) (s0.test cond.scope c) (v.covers c) ∙ sym (u.test c) ∙ sym (e2.test scope c u.known);
      };
      at = now;
    }
  where
    cases : (b : Bool) (o : Option T) (d : Bool) → is_some o ≡ d → is_some (if b then o else None) ≡ (d && b)
    cases true o true h = h
    cases true o false h = h
    cases false o true h = refl
    cases false o false h = refl

-- what `restrict` makes where the scope stays
pub IsCondOf-whole : {T S I : Type 0} (cmp : T → T → Ordering) {s0 s1 : Sets I} (cond same : Conditional T S I) (within scope : I) → IsCond cmp s0 cond → Extends s0 s1 → IsSet s1 scope (λ c. s0.test cond.scope c && s0.test within c) → scope ≡ cond.scope → same ≡ cond → IsCondOf cmp s1 (value_within s0 within (cond_at s0 cond)) same
unfolding IsCond IsCondOf
IsCondOf-whole {T = T} {S = S} {I = I} cmp {s0 = s0} {s1 = s1} cond same within scope v e u stays copied =
    let inside : (c : List Bool) → s0.test cond.scope c ≡ (s0.test cond.scope c && s0.test within c) = λ c. sym (e.test cond.scope c v.scope_known) ∙ ap (λ i. s1.test i c) (sym stays) ∙ u.test c in
    let P : Conditional T S I → Type 0 = λ r. IsCondOf cmp s1 (value_within s0 within (cond_at s0 cond)) r in
    subst P (sym copied) (record {
      is_cond = IsCond-extends cmp e cond v;
      at = λ c. cond_at-extends cmp e cond v c ∙ whole (s0.test within c) (s0.test cond.scope c) (cond_at s0 cond c) (v.covers c) (inside c);
    })
  where
    whole : (b d : Bool) (o : Option T) → is_some o ≡ d → d ≡ (d && b) → o ≡ (if b then o else None)
    whole true d o h k = refl
    whole false true o h k = cc
    whole false false None h k = refl
    whole false false (Some x) h k = cc

-- what it makes where no configuration is left
pub IsCondOf-nothing : {T S I : Type 0} (cmp : T → T → Ordering) {s0 s1 : Sets I} → IsLawful s1 → (cond : Conditional T S I) (within scope : I) → IsCond cmp s0 cond → Extends s0 s1 → IsSet s1 scope (λ c. s0.test cond.scope c && s0.test within c) → scope ≡ s1.never → IsCondOf {S = S} cmp s1 (value_within s0 within (cond_at s0 cond)) (record { scope = scope; leaves = [] })
unfolding IsCond IsCondOf
IsCondOf-nothing {T = T} cmp {s0 = s0} {s1 = s1} lawful cond within scope v e u never =
    let none : (c : List Bool) → s1.test scope c ≡ false = λ c. ap (λ i. s1.test i c) never ∙ lawful.never_test c in
    record {
      is_cond = record { scope_known = u.known; are_leaves = tt; covers = λ c. sym (none c) };
      at = λ c. outside (s0.test within c) (s0.test cond.scope c) (cond_at s0 cond c) (v.covers c) (sym (u.test c) ∙ none c);
    }
  where
    outside : (b d : Bool) (o : Option T) → is_some o ≡ d → (d && b) ≡ false → None ≡ (if b then o else None)
    outside false d o h k = refl
    outside true d None h k = refl
    outside true true (Some x) h k = cc
    outside true false (Some x) h k = cc

pub some_or : {T : Type 0} (a b : Option T) → is_some (option_or a b) ≡ (is_some a || is_some b)
some_or None b = refl
some_or (Some v) b = refl

-- leaves of disjoint scopes are apart
pub AreLeavesApart-disjoint : {T S I : Type 0} (cmp : T → T → Ordering) {sets : Sets I} (a b : Conditional T S I) → IsCond cmp sets a → IsCond cmp sets b → AreDisjoint sets a.scope b.scope → AreLeavesApart sets a.leaves b.leaves
unfolding IsCond IsCondOf
AreLeavesApart-disjoint {T = T} cmp {sets = sets} a b v w d = record { none = λ c. cases (cond_at sets a c) (cond_at sets b c) (λ t. w.covers c ∙ d.apart c (sym (v.covers c) ∙ t)) }
  where
    cases : (p q : Option T) → (is_some p ≡ true → is_some q ≡ false) → (p ≡ None) ⊎ (q ≡ None)
    cases None q h = inl refl
    cases (Some x) None h = inr refl
    cases (Some x) (Some y) h = cc (h refl)

pub AreDisjoint-extends : {I : Type 0} {old new : Sets I} → Extends old new → {a b : I} → old.is_known a ≡ true → old.is_known b ≡ true → AreDisjoint old a b → AreDisjoint new a b
AreDisjoint-extends e {a = a} {b = b} k l d = record { apart = λ c t. e.test b c l ∙ d.apart c (sym (e.test a c k) ∙ t) }

-- what `join` makes
pub IsCondOf-joined : {T S I : Type 0} (cmp : T → T → Ordering) {s0 s1 s2 : Sets I} (a b : Conditional T S I) (scope : I) (leaves : List (Leaf T S I)) → IsCond cmp s0 a → IsCond cmp s0 b → Extends s0 s1 → IsSet s1 scope (λ c. s0.test a.scope c || s0.test b.scope c) → Extends s1 s2 → AreLeavesOf cmp s2 (first_of (value_at s1 a.leaves) (value_at s1 b.leaves)) leaves → IsCondOf cmp s2 (first_of (cond_at s0 a) (cond_at s0 b)) (record { scope = scope; leaves = leaves })
unfolding IsCond IsCondOf
IsCondOf-joined cmp {s0 = s0} {s1 = s1} {s2 = s2} a b scope leaves v w e1 u e2 h =
    let now : (c : List Bool) → value_at s2 leaves c ≡ option_or (cond_at s0 a c) (cond_at s0 b c) = λ c. h.values c ∙ rw (cond_at-extends cmp e1 a v c, cond_at-extends cmp e1 b w c) refl in
    record {
      is_cond = record {
        scope_known = e2.known scope u.known;
        are_leaves = h.are_leaves;
        covers = λ c. ap is_some (now c) ∙ some_or (cond_at s0 a c) (cond_at s0 b c) ∙ rw (v.covers c, w.covers c) refl ∙ sym (u.test c) ∙ sym (e2.test scope c u.known);
      };
      at = now;
    }

-- the scope of what is kept where another is put over it
pub kept_scope : {T S I : Type 0} (cmp : T → T → Ordering) {s0 s1 s2 : Sets I} (old new kept : Conditional T S I) (rest : I) → IsCond cmp s0 old → IsCond cmp s0 new → Extends s0 s1 → IsSet s1 rest (λ c. s0.test old.scope c && not (s0.test new.scope c)) → Extends s1 s2 → IsCondOf cmp s2 (value_within s1 rest (cond_at s1 old)) kept → AreDisjoint s2 new.scope kept.scope
unfolding IsCond IsCondOf
kept_scope {T = T} cmp {s0 = s0} {s1 = s1} {s2 = s2} old new kept rest v w e1 u e2 k = record {
  apart = λ c t.
      let here = sym (e1.test new.scope c w.scope_known) ∙ sym (e2.test new.scope c (e1.known new.scope w.scope_known)) ∙ t in
      sym (k.is_cond.covers c) ∙ ap is_some (k.at c) ∙ ap (λ b. is_some (if b then cond_at s1 old c else None)) (u.test c ∙ not_there (s0.test old.scope c) (s0.test new.scope c) here);
}
  where
    not_there : (a b : Bool) → b ≡ true → (a && not b) ≡ false
    not_there true b h = rw h refl
    not_there false b h = refl

-- what `overwrite` makes
pub IsCondOf-overwritten : {T S I : Type 0} (cmp : T → T → Ordering) {s0 s1 s2 : Sets I} (s3 : Sets I) (old new kept made : Conditional T S I) (rest : I) → IsCond cmp s0 old → IsCond cmp s0 new → Extends s0 s1 → IsSet s1 rest (λ c. s0.test old.scope c && not (s0.test new.scope c)) → Extends s1 s2 → IsCondOf cmp s2 (value_within s1 rest (cond_at s1 old)) kept → IsCondOf cmp s3 (first_of (cond_at s2 new) (cond_at s2 kept)) made → IsCondOf cmp s3 (first_of (cond_at s0 new) (cond_at s0 old)) made
unfolding IsCond IsCondOf
IsCondOf-overwritten {T = T} cmp {s0 = s0} {s1 = s1} {s2 = s2} s3 old new kept made rest v w e1 u e2 k m = record {
  is_cond = m.is_cond;
  at = λ c. m.at c ∙ rw (cond_at-extends cmp (Extends-trans e1 e2) new w c, k.at c, cond_at-extends cmp e1 old v c, u.test c) (cases (s0.test old.scope c) (s0.test new.scope c) (cond_at s0 new c) (cond_at s0 old c) (v.covers c) (w.covers c));
}
  where
    cases : (a b : Bool) (n o : Option T) → is_some o ≡ a → is_some n ≡ b → option_or n (if (a && not b) then o else None) ≡ option_or n o
    cases a b (Some x) o h k = refl
    cases a true None o h k = cc
    cases true false None o h k = refl
    cases false false None None h k = refl
    cases false false None (Some y) h k = cc

-- sets that were told of the space before, told of the space now
pub IsSet-and : {I : Type 0} {s0 s1 : Sets I} → Extends s0 s1 → (a b id : I) → s0.is_known a ≡ true → s0.is_known b ≡ true → IsSet s1 id (λ c. s0.test a c && s0.test b c) → IsSet s1 id (λ c. s1.test a c && s1.test b c)
IsSet-and e a b id h k u = record { known = u.known; test = λ c. u.test c ∙ sym (rw (e.test a c h, e.test b c k) refl) }

pub IsSet-or : {I : Type 0} {s0 s1 : Sets I} → Extends s0 s1 → (a b id : I) → s0.is_known a ≡ true → s0.is_known b ≡ true → IsSet s1 id (λ c. s0.test a c || s0.test b c) → IsSet s1 id (λ c. s1.test a c || s1.test b c)
IsSet-or e a b id h k u = record { known = u.known; test = λ c. u.test c ∙ sym (rw (e.test a c h, e.test b c k) refl) }

-- what is made once the scope is there, told of the space before that
pub IsCondOf-inside_before : {T S I : Type 0} (cmp : T → T → Ordering) {s0 s1 : Sets I} (s2 : Sets I) → Extends s0 s1 → (cond made : Conditional T S I) (within : I) → IsCond cmp s0 cond → s0.is_known within ≡ true → IsCondOf cmp s2 (value_within s1 within (cond_at s1 cond)) made → IsCondOf cmp s2 (value_within s0 within (cond_at s0 cond)) made
unfolding IsCondOf
IsCondOf-inside_before cmp s2 e cond made within v k m = record { is_cond = m.is_cond; at = λ c. m.at c ∙ rw (e.test within c k, cond_at-extends cmp e cond v c) refl }

pub IsCondOf-joined_before : {T S I : Type 0} (cmp : T → T → Ordering) {s0 s1 : Sets I} (s2 : Sets I) → Extends s0 s1 → (a b made : Conditional T S I) → IsCond cmp s0 a → IsCond cmp s0 b → IsCondOf cmp s2 (first_of (cond_at s1 a) (cond_at s1 b)) made → IsCondOf cmp s2 (first_of (cond_at s0 a) (cond_at s0 b)) made
unfolding IsCondOf
IsCondOf-joined_before cmp s2 e a b made v w m = record { is_cond = m.is_cond; at = λ c. m.at c ∙ rw (cond_at-extends cmp e a v c, cond_at-extends cmp e b w c) refl }

-- what `overwrite` makes where the new values have the whole scope
pub IsCondOf-replaced : {T S I : Type 0} (cmp : T → T → Ordering) (sets : Sets I) (old new : Conditional T S I) → IsCond cmp sets old → IsCond cmp sets new → new.scope ≡ old.scope → IsCondOf cmp sets (first_of (cond_at sets new) (cond_at sets old)) new
unfolding IsCond IsCondOf
IsCondOf-replaced {T = T} cmp sets old new v w e = record { is_cond = w; at = λ c. cases (cond_at sets new c) (cond_at sets old c) (w.covers c ∙ ap (λ i. sets.test i c) e ∙ sym (v.covers c)) }
  where
    cases : (n o : Option T) → is_some n ≡ is_some o → n ≡ option_or n o
    cases (Some x) o h = refl
    cases None None h = refl
    cases None (Some y) h = cc

pub ruleset conds = (IsCond-extends, cond_at-extends, AreLeaves-extends, Extends-trans, IsCondOf-restricted, IsCondOf-joined, IsCondOf-overwritten, AreLeavesApart-disjoint, kept_scope)

-- a Cond with these values is a Cond, and has them
pub IsCond-of : {T S I : Type 0} (cmp : T → T → Ordering) (sets : Sets I) (value : List Bool → Option T) (cond : Conditional T S I) → IsCondOf cmp sets value cond → IsCond cmp sets cond
unfolding IsCondOf
IsCond-of cmp sets value cond v = v.is_cond

pub cond_at-of : {T S I : Type 0} (cmp : T → T → Ordering) (sets : Sets I) (value : List Bool → Option T) (cond : Conditional T S I) (c : List Bool) → IsCondOf cmp sets value cond → cond_at sets cond c ≡ value c
unfolding IsCondOf
cond_at-of cmp sets value cond c v = v.at c

-- what `using` applies in the crates above
pub ruleset cond_words = (IsCond-of, cond_at-of, IsCond-extends, IsCondOf-extends, cond_at-extends, AreDisjoint-extends, Extends-trans)
