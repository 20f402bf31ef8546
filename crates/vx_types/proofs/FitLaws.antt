-- That a type fits another is an order: each fits itself, and what fits one that fits another fits that.
use Rattle.std.proofs.Common.{Bool, List, [], ap, arith, false, inl, inr, refl, subst, true, ℕ, ◌<◌, ◌⊎◌, ◌∙◌, ◌∷◌, ◌≡◌}
use Rattle.std.proofs.lemmas.Bool.Decides.{Decides-eqb, Decides-ltb, nat_tests}
use Rattle.std.proofs.lemmas.Slice.Eq.{bytes_eq-Decides}
use Rattle.std.specs.Prelude.{if◌then◌else◌, nat_lt, ◌&&◌, ◌==◌}
use Rattle.vx_link.specs.ClassNames.{object_class, primitive_element}
use Rattle.vx_link.specs.Hierarchy.{is_among, superclasses}
use Rattle.vx_link.specs.declared.program.Program.{Program}
use Rattle.vx_types.proofs.Tests.{both, both_first, both_second, either, or_first, or_second}
use Rattle.vx_types.specs.Fits.{StateFits, all_fit, element_fits, fits, is_below, is_object, ref_fits}
use Rattle.vx_types.specs.Ranked.{IsRanked}
use Rattle.vx_types.specs.Types.{VerState}
use Rattle.vx_types.specs.declared.types.ElementType.{ElementType}
use Rattle.vx_types.specs.declared.types.ElementType.TheVariants.{Class, Missing, Primitives}
use Rattle.vx_types.specs.declared.types.VerType.{VerType}
use Rattle.vx_types.specs.declared.types.VerType.TheVariants.{Int, Long, Null, Ref, Top}

-- ---- elements

pub below_itself : (p : Program) → IsRanked p → (e : ElementType) → is_below p e e ≡ true
below_itself p r (Class c) = r.itself c.0
below_itself p r (Missing name) = (bytes_eq-Decides name name).1 refl
below_itself p r (Primitives b) = (Decides-eqb (primitive_element b) (primitive_element b)).1 refl

pub below_through : (p : Program) → IsRanked p → (e f g : ElementType) → is_below p e f ≡ true → is_below p f g ≡ true → is_below p e g ≡ true
below_through p r (Class b) (Class c) (Class d) h k = r.through b.0 c.0 d.0 h k
below_through p r (Missing a) (Missing b) (Missing c) h k = (bytes_eq-Decides a c).1 ((bytes_eq-Decides a b).0 h ∙ (bytes_eq-Decides b c).0 k)
below_through p r (Primitives a) (Primitives b) (Primitives c) h k =
    (Decides-eqb (primitive_element a) (primitive_element c)).1
    ((Decides-eqb (primitive_element a) (primitive_element b)).0 h ∙ (Decides-eqb (primitive_element b) (primitive_element c)).0 k)
below_through p r _ _ _ h k = absurd cc

-- nothing but Object is above Object
pub above_object : (p : Program) → IsRanked p → (f g : ElementType) → is_object p f ≡ true → is_below p f g ≡ true → is_object p g ≡ true
above_object p r (Class c) (Class d) h k =
    let same : c.0 ≡ object_class p = (Decides-eqb c.0 (object_class p)).0 h in
    (Decides-eqb d.0 (object_class p)).1 (r.object d.0 (subst (λ n. is_among d.0 (superclasses p n) ≡ true) same k))
above_object p r _ _ h k = absurd cc

pub object_through : (p : Program) → IsRanked p → (f g : ElementType) → is_object p f ≡ true → element_fits p f g ≡ true → is_object p g ≡ true
object_through p r f g h k = elim (either (is_object p g) (is_below p f g) k) [ inl o ↦ o | inr b ↦ above_object p r f g h b ]

pub element_itself : (p : Program) → IsRanked p → (e : ElementType) → element_fits p e e ≡ true
element_itself p r e = or_second (is_object p e) (is_below p e e) (below_itself p r e)

pub element_through : (p : Program) → IsRanked p → (e f g : ElementType) → element_fits p e f ≡ true → element_fits p f g ≡ true → element_fits p e g ≡ true
element_through p r e f g h k = elim (either (is_object p f) (is_below p e f) h) [
  | inl o ↦ or_first (is_object p g) (is_below p e g) (object_through p r f g o k)
  | inr b ↦ elim (either (is_object p g) (is_below p f g) k) [
    | inl o ↦ or_first (is_object p g) (is_below p e g) o
    | inr c ↦ or_second (is_object p g) (is_below p e g) (below_through p r e f g b c)
  ]
]

-- ---- references

-- what a test of two references says
abbrev pub RefFits : Program → ℕ → ElementType → ℕ → ElementType → Type 0
RefFits p d e n f = ((d ≡ n) × (element_fits p e f ≡ true)) ⊎ ((n < d) × (is_object p f ≡ true))

pub ref_tells : (p : Program) (d : ℕ) (e : ElementType) (n : ℕ) (f : ElementType) → ref_fits p d e n f ≡ true → RefFits p d e n f
ref_tells p d e n f h = by (d == n) refl h
  where
    by : (b : Bool) → (d == n) ≡ b → (if b then element_fits p e f else (nat_lt n d && is_object p f)) ≡ true → RefFits p d e n f
    by true t h = inl ((Decides-eqb d n).0 t, h)
    by false t h = inr ((Decides-ltb n d).0 (both_first (nat_lt n d) (is_object p f) h), both_second (nat_lt n d) (is_object p f) h)

unequal : (d n : ℕ) → n < d → (d == n) ≡ false
unequal d n l = grind (arith, nat_tests)

pub ref_from : (p : Program) (d : ℕ) (e : ElementType) (n : ℕ) (f : ElementType) → RefFits p d e n f → ref_fits p d e n f ≡ true
ref_from p d e n f (inl (same, h)) =
    ap (λ b. if b then element_fits p e f else (nat_lt n d && is_object p f)) ((Decides-eqb d n).1 same) ∙ h
ref_from p d e n f (inr (less, h)) =
    ap (λ b. if b then element_fits p e f else (nat_lt n d && is_object p f)) (unequal d n less)
    ∙ both (nat_lt n d) (is_object p f) ((Decides-ltb n d).1 less) h

pub ref_through : (p : Program) → IsRanked p → (d : ℕ) (e : ElementType) (n : ℕ) (f : ElementType) (m : ℕ) (g : ElementType)
    → ref_fits p d e n f ≡ true → ref_fits p n f m g ≡ true → ref_fits p d e m g ≡ true
ref_through p r d e n f m g h k = ref_from p d e m g (by (ref_tells p d e n f h) (ref_tells p n f m g k))
  where
    by : RefFits p d e n f → RefFits p n f m g → RefFits p d e m g
    by (inl a) (inl b) = inl (a.0 ∙ b.0, element_through p r e f g a.1 b.1)
    by (inl a) (inr b) = inr (omega (arith, a.0, b.0), b.1)
    by (inr a) (inl b) = inr (omega (arith, a.0, b.0), object_through p r f g a.1 b.1)
    by (inr a) (inr b) = inr (omega (arith, a.0, b.0), b.1)

-- ---- types

pub fits_itself : (p : Program) → IsRanked p → (t : VerType) → fits p t t ≡ true
fits_itself p r Top = refl
fits_itself p r Int = refl
fits_itself p r Long = refl
fits_itself p r Null = refl
fits_itself p r (Ref d e) = ref_from p d e d e (inl (refl, element_itself p r e))

-- what fits null is null, and what fits a reference type is null or a reference
through_null : (p : Program) (s : VerType) (m : ℕ) (g : ElementType) → fits p s Null ≡ true → fits p s (Ref m g) ≡ true
through_null p Null m g h = refl
through_null p _ m g h = absurd cc

through_ref : (p : Program) → IsRanked p → (s : VerType) (n : ℕ) (f : ElementType) (m : ℕ) (g : ElementType)
    → fits p s (Ref n f) ≡ true → ref_fits p n f m g ≡ true → fits p s (Ref m g) ≡ true
through_ref p r Null n f m g h k = refl
through_ref p r (Ref d e) n f m g h k = ref_through p r d e n f m g h k
through_ref p r _ n f m g h k = absurd cc

pub fits_through : (p : Program) → IsRanked p → (s t u : VerType) → fits p s t ≡ true → fits p t u ≡ true → fits p s u ≡ true
fits_through p r s t Top h k = refl
fits_through p r s Int Int h k = h
fits_through p r s Long Long h k = h
fits_through p r s Null Null h k = h
fits_through p r s Null (Ref m g) h k = through_null p s m g h
fits_through p r s (Ref n f) (Ref m g) h k = through_ref p r s n f m g h k
fits_through p r s _ _ h k = absurd cc

-- ---- lists and states

pub all_itself : (p : Program) → IsRanked p → (ts : List VerType) → all_fit p ts ts ≡ true
all_itself p r [] = refl
all_itself p r (t ∷ ts) = both (fits p t t) (all_fit p ts ts) (fits_itself p r t) (all_itself p r ts)

pub all_through : (p : Program) → IsRanked p → (ss ts us : List VerType) → all_fit p ss ts ≡ true → all_fit p ts us ≡ true → all_fit p ss us ≡ true
all_through p r [] [] [] h k = refl
all_through p r (s ∷ ss) (t ∷ ts) (u ∷ us) h k =
    both (fits p s u) (all_fit p ss us)
    (fits_through p r s t u (both_first (fits p s t) (all_fit p ss ts) h) (both_first (fits p t u) (all_fit p ts us) k))
    (all_through p r ss ts us (both_second (fits p s t) (all_fit p ss ts) h) (both_second (fits p t u) (all_fit p ts us) k))
all_through p r _ _ _ h k = absurd cc

pub state_itself : (p : Program) → IsRanked p → (s : VerState) → StateFits p s s
state_itself p r s = record { locals = all_itself p r s.locals; operands = all_itself p r s.operands }

pub state_through : (p : Program) → IsRanked p → (s t u : VerState) → StateFits p s t → StateFits p t u → StateFits p s u
state_through p r s t u h k = record {
  locals = all_through p r s.locals t.locals u.locals h.locals k.locals;
  operands = all_through p r s.operands t.operands u.operands h.operands k.operands;
}
