-- What two types have in common is the least type that both fit.
use Rattle.std.proofs.Common.{Bool, List, None, Option, Some, ap, arith, false, inl, inr, refl, sym, true, ℕ, ◌≤◌, ◌∙◌, ◌≡◌}
use Rattle.std.proofs.lemmas.Bool.Decides.{Decides-eqb, nat_tests}
use Rattle.std.proofs.lemmas.Slice.Eq.{bytes_eq-Decides}
use Rattle.std.specs.Prelude.{find, if◌then◌else◌, min, nat_lt, option_map, ◌&&◌, ◌==◌, ◌||◌}
use Rattle.vx_desc.specs.declared.java_type.Base.{Base}
use Rattle.vx_java.specs.Ids.{as_class}
use Rattle.vx_link.specs.ClassNames.{object_class, primitive_element}
use Rattle.vx_link.specs.Hierarchy.{is_among, superclasses}
use Rattle.vx_link.specs.Parts.{class_count}
use Rattle.vx_link.specs.declared.program.Program.{Program}
use Rattle.vx_types.proofs.Chains.{first_below, found_passes, none_passes}
use Rattle.vx_types.proofs.FitLaws.{RefFits, fits_itself, ref_from, ref_tells}
use Rattle.vx_types.proofs.Tests.{either, not_both, or_first, or_second}
use Rattle.vx_types.specs.Common.{IsCommon, common_apart, common_element, common_ref, or_object}
use Rattle.vx_types.specs.Fits.{element_fits, fits, is_below, is_object, ref_fits}
use Rattle.vx_types.specs.Ranked.{IsRanked}
use Rattle.vx_types.specs.declared.types.ElementType.{ElementType}
use Rattle.vx_types.specs.declared.types.ElementType.TheVariants.{Class, Missing, Primitives}
use Rattle.vx_types.specs.declared.types.VerType.{VerType}
use Rattle.vx_types.specs.declared.types.VerType.TheVariants.{Int, Long, Null, Ref, Top}

-- ---- Object

pub object_is : (p : Program) → is_object p (Class (as_class (object_class p))) ≡ true
object_is p = (Decides-eqb (object_class p) (object_class p)).1 refl

-- each element fits Object
pub object_above : (p : Program) (e : ElementType) → element_fits p e (or_object p None) ≡ true
object_above p e = or_first (is_object p (or_object p None)) (is_below p e (or_object p None)) (object_is p)

-- Object fits what is Object
pub object_below : (p : Program) (g : ElementType) → is_object p g ≡ true → element_fits p (or_object p None) g ≡ true
object_below p g h = or_first (is_object p g) (is_below p (or_object p None) g) h

-- ---- elements

class_above_one : (p : Program) (c d : ℕ) (o : Option ℕ) → find (λ a. is_among a (superclasses p d)) (superclasses p c) ≡ o
    → element_fits p (Class (as_class c)) (or_object p (option_map as_class o)) ≡ true
class_above_one p c d None e = object_above p (Class (as_class c))
class_above_one p c d (Some a) e =
    or_second (is_object p (Class (as_class a))) (is_among a (superclasses p c)) (found_passes (λ b. is_among b (superclasses p d)) (superclasses p c) a e).0

class_above_other : (p : Program) (c d : ℕ) (o : Option ℕ) → find (λ a. is_among a (superclasses p d)) (superclasses p c) ≡ o
    → element_fits p (Class (as_class d)) (or_object p (option_map as_class o)) ≡ true
class_above_other p c d None e = object_above p (Class (as_class d))
class_above_other p c d (Some a) e =
    or_second (is_object p (Class (as_class a))) (is_among a (superclasses p d)) (found_passes (λ b. is_among b (superclasses p d)) (superclasses p c) a e).1

class_least : (p : Program) (c d g : ℕ) (o : Option ℕ) → find (λ a. is_among a (superclasses p d)) (superclasses p c) ≡ o
    → is_among g (superclasses p c) ≡ true → is_among g (superclasses p d) ≡ true → element_fits p (or_object p (option_map as_class o)) (Class (as_class g)) ≡ true
class_least p c d g None e h k = not_both (is_among g (superclasses p d)) k (none_passes (λ b. is_among b (superclasses p d)) (superclasses p c) g e h)
class_least p c d g (Some a) e h k =
    or_second (is_object p (Class (as_class g))) (is_among g (superclasses p a))
    (first_below p (λ b. is_among b (superclasses p d)) (class_count p) (Some c) a g (omega arith) e h k)

element_above_one : (p : Program) (e f : ElementType) → element_fits p e (common_element p e f) ≡ true
element_above_one p (Class c) (Class d) = class_above_one p c.0 d.0 (find (λ a. is_among a (superclasses p d.0)) (superclasses p c.0)) refl
element_above_one p e f = object_above p e

element_above_other : (p : Program) (e f : ElementType) → element_fits p f (common_element p e f) ≡ true
element_above_other p (Class c) (Class d) = class_above_other p c.0 d.0 (find (λ a. is_among a (superclasses p d.0)) (superclasses p c.0)) refl
element_above_other p e f = object_above p f

-- two elements that are below a third one are classes, or one is below the other
both_classes : (p : Program) (e f : ElementType) (g : ℕ) → is_below p e (Class (as_class g)) ≡ true → is_below p f (Class (as_class g)) ≡ true
    → element_fits p (common_element p e f) (Class (as_class g)) ≡ true
both_classes p (Class c) (Class d) g h k = class_least p c.0 d.0 g (find (λ a. is_among a (superclasses p d.0)) (superclasses p c.0)) refl h k
both_classes p _ _ g h k = absurd cc

both_missing : (p : Program) (e f : ElementType) (name : List ℕ) → is_below p e (Missing name) ≡ true → is_below p f (Missing name) ≡ true → is_below p e f ≡ true
both_missing p (Missing a) (Missing b) name h k = (bytes_eq-Decides a b).1 ((bytes_eq-Decides a name).0 h ∙ sym ((bytes_eq-Decides b name).0 k))
both_missing p _ _ name h k = absurd cc

both_primitives : (p : Program) (e f : ElementType) (c : Base) → is_below p e (Primitives c) ≡ true → is_below p f (Primitives c) ≡ true → is_below p e f ≡ true
both_primitives p (Primitives a) (Primitives b) c h k =
    (Decides-eqb (primitive_element a) (primitive_element b)).1
    ((Decides-eqb (primitive_element a) (primitive_element c)).0 h ∙ sym ((Decides-eqb (primitive_element b) (primitive_element c)).0 k))
both_primitives p _ _ c h k = absurd cc

below_least : (p : Program) (e f g : ElementType) → is_below p e f ≡ false → is_below p e g ≡ true → is_below p f g ≡ true → element_fits p (common_element p e f) g ≡ true
below_least p e f (Class g) apart h k = both_classes p e f g.0 h k
below_least p e f (Missing name) apart h k = not_both (is_below p e f) (both_missing p e f name h k) apart
below_least p e f (Primitives c) apart h k = not_both (is_below p e f) (both_primitives p e f c h k) apart

neither : (a b : Bool) → (a || b) ≡ false → b ≡ false
neither true b h = absurd cc
neither false b h = h

element_least : (p : Program) (e f g : ElementType) → element_fits p e f ≡ false → element_fits p e g ≡ true → element_fits p f g ≡ true → element_fits p (common_element p e f) g ≡ true
element_least p e f g apart h k = elim (either (is_object p g) (is_below p e g) h) [
  | inl o ↦ or_first (is_object p g) (is_below p (common_element p e f) g) o
  | inr b ↦ elim (either (is_object p g) (is_below p f g) k) [
    | inl o ↦ or_first (is_object p g) (is_below p (common_element p e f) g) o
    | inr c ↦ below_least p e f g (neither (is_object p f) (is_below p e f) apart) b c
  ]
]

-- ---- references

-- fewer dimensions over Object are above more dimensions over anything, and as many
fewer_above : (p : Program) (d : ℕ) (e : ElementType) (n : ℕ) → n ≤ d → ref_fits p d e n (or_object p None) ≡ true
fewer_above p d e n l = by (d == n) refl
  where
    by : (b : Bool) → (d == n) ≡ b → ref_fits p d e n (or_object p None) ≡ true
    by true t = ref_from p d e n (or_object p None) (inl ((Decides-eqb d n).0 t, object_above p e))
    by false t = ref_from p d e n (or_object p None) (inr (grind (arith, nat_tests), object_is p))

ref_above_one : (p : Program) (d : ℕ) (e : ElementType) (n : ℕ) (f : ElementType) → fits p (Ref d e) (common_ref p d e n f) ≡ true
ref_above_one p d e n f = by (d == n) refl
  where
    by : (b : Bool) → (d == n) ≡ b → fits p (Ref d e) (if b then Ref d (common_element p e f) else Ref (min d n) (or_object p None)) ≡ true
    by true t = ref_from p d e d (common_element p e f) (inl (refl, element_above_one p e f))
    by false t = fewer_above p d e (min d n) (omega arith)

ref_above_other : (p : Program) (d : ℕ) (e : ElementType) (n : ℕ) (f : ElementType) → fits p (Ref n f) (common_ref p d e n f) ≡ true
ref_above_other p d e n f = by (d == n) refl
  where
    by : (b : Bool) → (d == n) ≡ b → fits p (Ref n f) (if b then Ref d (common_element p e f) else Ref (min d n) (or_object p None)) ≡ true
    by true t = ref_from p n f d (common_element p e f) (inl (sym ((Decides-eqb d n).0 t), element_above_other p e f))
    by false t = fewer_above p n f (min d n) (omega arith)

-- Object with at least as many dimensions fits what is Object
object_fits : (p : Program) (k m : ℕ) (g : ElementType) → m ≤ k → is_object p g ≡ true → ref_fits p k (or_object p None) m g ≡ true
object_fits p k m g l o = by (k == m) refl
  where
    by : (b : Bool) → (k == m) ≡ b → ref_fits p k (or_object p None) m g ≡ true
    by true t = ref_from p k (or_object p None) m g (inl ((Decides-eqb k m).0 t, object_below p g o))
    by false t = ref_from p k (or_object p None) m g (inr (grind (arith, nat_tests), o))

ref_least : (p : Program) (d : ℕ) (e : ElementType) (n : ℕ) (f : ElementType) (m : ℕ) (g : ElementType)
    → ref_fits p d e n f ≡ false → ref_fits p d e m g ≡ true → ref_fits p n f m g ≡ true → fits p (common_ref p d e n f) (Ref m g) ≡ true
ref_least p d e n f m g apart h k = by (d == n) refl (ref_tells p d e m g h) (ref_tells p n f m g k)
  where
    same_apart : (d == n) ≡ true → element_fits p e f ≡ false
    same_apart t = sym (ap (λ b. if b then element_fits p e f else (nat_lt n d && is_object p f)) t) ∙ apart

    by : (b : Bool) → (d == n) ≡ b → RefFits p d e m g → RefFits p n f m g
        → fits p (if b then Ref d (common_element p e f) else Ref (min d n) (or_object p None)) (Ref m g) ≡ true
    by true t (inl a) (inl b) = ref_from p d (common_element p e f) m g (inl (a.0, element_least p e f g (same_apart t) a.1 b.1))
    by true t (inl a) (inr b) = absurd (omega (arith, a.0, b.0, (Decides-eqb d n).0 t))
    by true t (inr a) b = ref_from p d (common_element p e f) m g (inr a)
    by false t (inl a) (inl b) = absurd (grind (arith, nat_tests, a.0, b.0))
    by false t (inl a) (inr b) = object_fits p (min d n) m g (omega (arith, a.0, b.0)) b.1
    by false t (inr a) (inl b) = object_fits p (min d n) m g (omega (arith, a.0, b.0)) a.1
    by false t (inr a) (inr b) = object_fits p (min d n) m g (omega (arith, a.0, b.0)) a.1

-- ---- types

above_one : (p : Program) → IsRanked p → (s t : VerType) → fits p s t ≡ false → fits p t s ≡ false → fits p s (common_apart p s t) ≡ true
above_one p r (Ref d e) (Ref n f) h k = ref_above_one p d e n f
above_one p r _ _ h k = refl

above_other : (p : Program) → IsRanked p → (s t : VerType) → fits p s t ≡ false → fits p t s ≡ false → fits p t (common_apart p s t) ≡ true
above_other p r (Ref d e) (Ref n f) h k = ref_above_other p d e n f
above_other p r _ _ h k = refl

both_ints : (p : Program) (s t : VerType) → fits p s Int ≡ true → fits p t Int ≡ true → fits p s t ≡ true
both_ints p Int Int a b = refl
both_ints p _ _ a b = absurd cc

both_longs : (p : Program) (s t : VerType) → fits p s Long ≡ true → fits p t Long ≡ true → fits p s t ≡ true
both_longs p Long Long a b = refl
both_longs p _ _ a b = absurd cc

both_nulls : (p : Program) (s t : VerType) → fits p s Null ≡ true → fits p t Null ≡ true → fits p s t ≡ true
both_nulls p Null Null a b = refl
both_nulls p _ _ a b = absurd cc

both_refs : (p : Program) (s t : VerType) (m : ℕ) (g : ElementType) → fits p s t ≡ false → fits p t s ≡ false → fits p s (Ref m g) ≡ true → fits p t (Ref m g) ≡ true
    → fits p (common_apart p s t) (Ref m g) ≡ true
both_refs p (Ref d e) (Ref n f) m g h k a b = ref_least p d e n f m g h a b
both_refs p Null Null m g h k a b = absurd cc
both_refs p _ _ m g h k a b = absurd cc

least : (p : Program) (s t u : VerType) → fits p s t ≡ false → fits p t s ≡ false → fits p s u ≡ true → fits p t u ≡ true → fits p (common_apart p s t) u ≡ true
least p s t Top h k a b = refl
least p s t Int h k a b = not_both (fits p s t) (both_ints p s t a b) h
least p s t Long h k a b = not_both (fits p s t) (both_longs p s t a b) h
least p s t Null h k a b = not_both (fits p s t) (both_nulls p s t a b) h
least p s t (Ref m g) h k a b = both_refs p s t m g h k a b

-- two types neither of which fits the other
pub common_of_apart : (p : Program) → IsRanked p → (s t : VerType) → fits p s t ≡ false → fits p t s ≡ false → IsCommon p s t (common_apart p s t)
common_of_apart p r s t h k = record {
  above_one = above_one p r s t h k;
  above_other = above_other p r s t h k;
  least = λ u a b. least p s t u h k a b;
}

-- of two types the one fits the other
pub common_of_fitting : (p : Program) → IsRanked p → (s t : VerType) → fits p s t ≡ true → IsCommon p s t t
common_of_fitting p r s t h = record { above_one = h; above_other = fits_itself p r t; least = λ u a b. b }

pub common_of_fitted : (p : Program) → IsRanked p → (s t : VerType) → fits p t s ≡ true → IsCommon p s t s
common_of_fitted p r s t h = record { above_one = fits_itself p r s; above_other = h; least = λ u a b. a }
