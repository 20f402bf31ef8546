-- Laws that the trials use.
use Rattle.std.proofs.Common.{◌≡◌, Bool, true, false, [], ◌∷◌, ◌++◌, refl, sym, ◌∙◌, ap, subst, length}
use Rattle.std.specs.Prelude.{Option, None, ◌&&◌, not, if◌then◌else◌, is_some}
use Rattle.std.specs.declared.cmp.Ordering.{Ordering}
use Rattle.vx_space.specs.Sets.{Sets, IsSet, Extends}
use Rattle.vx_space.proofs.Spaces.{Extends-trans}
use Rattle.vx_cond.specs.Leaves.{value_within}
use Rattle.vx_cond.specs.Cond.{Conditional, cond_at, IsCond, IsCondOf, AreDisjoint, IsInside}
use Rattle.vx_cond.specs.Row.{Conditionals, IsRow}
use Rattle.vx_cond.proofs.CondLaws.{IsCond-of, IsCond-extends, AreDisjoint-extends}
use Rattle.vx_cond.proofs.LiftingLaws.{IsCond-lifting, IsCond-lifting2}
use Rattle.vx_cond.proofs.RowSteps.{IsRow-empty, IsRow-push}

not_both : (a b : Bool) → b ≡ true → (a && not b) ≡ false
not_both true b h = ap not h
not_both false b h = refl

-- a set and what is left without it are disjoint
pub sides_apart : {I : Type 0} {s1 s2 : Sets I} → Extends s1 s2 → (whole a b : I) → s1.is_known a ≡ true → IsSet s2 b (λ c. s1.test whole c && not (s1.test a c)) → AreDisjoint s2 a b
sides_apart {s1 = s1} e whole a b k s = record { apart = λ c t. s.test c ∙ not_both (s1.test whole c) (s1.test a c) (sym (e.test a c k) ∙ t) }

both_last : (a b : Bool) → (a && b) ≡ true → b ≡ true
both_last true b h = h
both_last false b h = cc

and_false : (a b : Bool) → b ≡ false → (a && b) ≡ false
and_false true b h = h
and_false false b h = refl

-- the parts of a set inside two disjoint sets are disjoint
pub parts_apart : {I : Type 0} {s1 s2 s3 : Sets I} → Extends s1 s2 → Extends s2 s3 → (whole on off a b : I) → s1.is_known on ≡ true → s1.is_known off ≡ true → AreDisjoint s1 on off → IsSet s2 a (λ c. s1.test whole c && s1.test on c) → IsSet s3 b (λ c. s2.test whole c && s2.test off c) → AreDisjoint s3 a b
parts_apart {s1 = s1} {s2 = s2} e f whole on off a b k l d s t = record {
  apart = λ c h. t.test c ∙ and_false (s2.test whole c) (s2.test off c) (e.test off c l ∙ d.apart c (both_last (s1.test whole c) (s1.test on c) (sym (s.test c) ∙ sym (f.test a c s.known) ∙ h)));
}

-- a row of one value
pub IsRow-one : {T S I : Type 0} (cmp : T → T → Ordering) (sets : Sets I) (cond : Conditional T S I) (before after : Conditionals T S I) (scope : I) → IsCond cmp sets cond → scope ≡ cond.scope → before ≡ record { scope = scope; conds = [] } → after ≡ record before { conds = before.conds ++ cond ∷ [] } → IsRow cmp sets after × (length after.conds ≡ 1)
unfolding IsCond
IsRow-one {T = T} {S = S} {I = I} cmp sets cond before after scope v n e f =
    let P : Conditionals T S I → Type 0 = λ r. IsRow cmp sets r × (length r.conds ≡ 1) in
    let start : Conditionals T S I = record { scope = cond.scope; conds = [] } in
    let both : after ≡ record { scope = cond.scope; conds = cond ∷ [] } = f ∙ ap (λ (r : Conditionals T S I). record { scope = r.scope; conds = r.conds ++ cond ∷ [] }) e ∙ (λ i. record { scope = n i; conds = cond ∷ [] }) in
    subst P (sym both) (IsRow-push cmp sets start cond (IsRow-empty cmp sets start v.scope_known refl) v refl, refl)

some_within : {T : Type 0} (b : Bool) (o : Option T) → is_some (if b then o else None) ≡ true → is_some o ≡ true
some_within true o h = h
some_within false o h = cc

-- the scope of a part is inside that of the whole
pub IsInside-restricted : {T S I : Type 0} (cmp : T → T → Ordering) {s1 s2 s3 : Sets I} → Extends s1 s2 → Extends s2 s3 → (cond part : Conditional T S I) (within scope : I) → IsCond cmp s1 cond → IsCondOf cmp s2 (value_within s1 within (cond_at s1 cond)) part → scope ≡ part.scope → IsInside s3 scope cond.scope
unfolding IsCond IsCondOf
IsInside-restricted {S = S} {I = I} cmp {s1 = s1} {s2 = s2} {s3 = s3} e f cond part within scope v p n =
    let P : I → Type 0 = λ i. IsInside s3 i cond.scope in
    subst P (sym n) (record {
      inside = λ c t.
          let there = sym (f.test part.scope c p.is_cond.scope_known) ∙ t in
          let held = some_within (s1.test within c) (cond_at s1 cond c) (sym (ap is_some (p.at c)) ∙ p.is_cond.covers c ∙ there) in
          (f.test cond.scope c (e.known cond.scope v.scope_known)) ∙ e.test cond.scope c v.scope_known ∙ sym (v.covers c) ∙ held;
    })

pub ruleset trial_words = (IsCond-of, IsCond-lifting, IsCond-lifting2, IsCond-extends, AreDisjoint-extends, Extends-trans)
