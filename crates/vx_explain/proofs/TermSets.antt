-- The terms between two known sets of a space, put together from those of the sides of an option.
use Rattle.std.proofs.Common.{◌≡◌, ◌≢◌, ◌⊎◌, inl, inr, ℕ, ◌+◌, ◌-◌, ◌<◌, ◌≤◌, suc, Bool, true, false, List, [], ◌∷◌, ◌++◌, length, map, refl, sym, ◌∙◌, ap, subst, arith, append_assoc, append-nil, length-append}
use Rattle.std.proofs.lemmas.List.{length-map}
use Rattle.std.specs.Prelude.{◌&&◌, ◌||◌, not, if◌then◌else◌}
use Rattle.vx_space.specs.Config.{value_of, with_option}
use Rattle.vx_space.specs.Sets.{Sets, IsLawful, IsSet, Extends}
use Rattle.vx_space.specs.Under.{IsFree, fixed}
use Rattle.vx_space.proofs.Differences.{some_difference}
use Rattle.vx_space.proofs.Spaces.{Extends-trans}
use Rattle.vx_bdd_tools.specs.Steps.{IsFreeBelow}
use Rattle.vx_bdd_tools.proofs.NodeSets.{order_cases}
use Rattle.vx_bdd_tools.proofs.Walks.{part_free}
use Rattle.vx_explain.specs.declared.literal.Literal.{Literal}
use Rattle.vx_explain.specs.Between.{AreMany, AreParts, ArePut, IsFirst, IsWithin, outside, side_terms_from, terms_between, terms_from, with_literal}
use Rattle.vx_explain.specs.Rules.{some_term_holds}
use Rattle.vx_explain.proofs.Sums.{AsksFrom, AsksFrom-free, AsksValues, joined, joined_holds, left_over, left_within, none_between, off_terms, on_both, on_terms, pass_to, terms_free, unfold_terms, whole_between}

-- what a known set of a space asks
pub asks_values : {I : Type 0} {s : Sets I} → IsLawful s → (id : I) → s.is_known id ≡ true → AsksValues (s.test id)
asks_values lawful id k c d h = lawful.options_alone id c d k (λ i l. h i)

pub asks_from : {I : Type 0} {s : Sets I} → IsLawful s → (id : I) (first : ℕ) → s.is_known id ≡ true → first ≤ s.options → IsFreeBelow s id first → AsksFrom first (s.options - first) (s.test id)
asks_from {I} {s} lawful id first k l f = AsksFrom-free first (s.options - first) (s.test id) (λ c d h. lawful.options_alone id c d k (λ i m. h i (omega arith) (omega (arith, l, m)))) f.free

-- nothing is asked for
pub ArePut-none : {I : Type 0} {s : Sets I} → IsLawful s → (path : List Literal) (first : ℕ) (least most : I) (old : List (List Literal)) → s.is_known least ≡ true → least ≡ s.never → ArePut s path (terms_from s first least most) old old least
ArePut-none {I} {s} lawful path first least most old k e =
    let empty : (c : List Bool) → s.test least c ≡ false = λ c. ap (λ x. s.test x c) e ∙ lawful.never_test c in
    let none : terms_from s first least most ≡ [] = none_between (s.options - first) first (s.test least) (s.test most) empty in
    subst (λ ts. ArePut s path ts old old least) (sym none) (record { set_is = record { known = k; test = empty }; more = sym (append-nil old) })

bool_cases : (b : Bool) → (b ≡ true) ⊎ (b ≡ false)
bool_cases true = inl refl
bool_cases false = inr refl

-- a set that isn't never has a configuration
pub some_member : {I : Type 0} {s : Sets I} → IsLawful s → (id : I) → s.is_known id ≡ true → id ≢ s.never → (c : List Bool) × (s.test id c ≡ true)
some_member {I} {s} lawful id k n =
    let d = some_difference lawful id s.never k lawful.never_known n in
    elim (bool_cases (s.test id d.0)) [
      | inl t ↦ (d.0, t)
      | inr f ↦ absurd (d.1 (f ∙ sym (lawful.never_test d.0)))
    ]

-- a greatest set that is never or always is always, where a least set in it isn't never
all_most : {I : Type 0} {s : Sets I} → IsLawful s → (least most : I) → s.is_known least ≡ true → least ≢ s.never → IsWithin s least most → (most ≡ s.never) ⊎ (most ≡ s.always) → (c : List Bool) → s.test most c ≡ true
all_most {I} {s} lawful least most k n w (inr e) c = ap (λ x. s.test x c) e ∙ lawful.always_test c
all_most {I} {s} lawful least most k n w (inl e) c =
    let m = some_member lawful least k n in
    let wrong : false ≡ true = sym (lawful.never_test m.0) ∙ ap (λ x. s.test x m.0) (sym e) ∙ w m.0 m.1 in
    cc (wrong)

whole_terms : {I : Type 0} {s : Sets I} → IsLawful s → (first : ℕ) (least most : I) → first ≤ s.options → s.is_known least ≡ true → IsFreeBelow s least first → least ≢ s.never → IsWithin s least most → (most ≡ s.never) ⊎ (most ≡ s.always) → terms_from s first least most ≡ [] ∷ []
whole_terms {I} {s} lawful first least most l k f n w e =
    let m = some_member lawful least k n in
    whole_between (s.options - first) first (s.test least) (s.test most) (asks_from lawful least first k l f) (all_most lawful least most k n w e) m.0 m.1

-- one term, which asks nothing beside its path
pub ArePut-whole : {I : Type 0} {s : Sets I} → IsLawful s → (path : List Literal) (first : ℕ) (least most id : I) (old new : List (List Literal)) → first ≤ s.options → s.is_known least ≡ true → IsFreeBelow s least first → least ≢ s.never → IsWithin s least most → (most ≡ s.never) ⊎ (most ≡ s.always) → id ≡ s.always → new ≡ old ++ path ∷ [] → ArePut s path (terms_from s first least most) old new id
ArePut-whole {I} {s} lawful path first least most id old new l k f n w e a m =
    subst (λ ts. ArePut s path ts old new id) (sym (whole_terms lawful first least most l k f n w e)) (record {
      set_is = record { known = ap s.is_known a ∙ lawful.always_known; test = λ c. ap (λ x. s.test x c) a ∙ lawful.always_test c };
      more = m ∙ ap (λ t. old ++ t ∷ []) (sym (append-nil path));
    })

pub many-whole : {I : Type 0} {s : Sets I} → IsLawful s → (first : ℕ) (least most : I) (old : List (List Literal)) → first ≤ s.options → s.is_known least ≡ true → IsFreeBelow s least first → least ≢ s.never → IsWithin s least most → (most ≡ s.never) ⊎ (most ≡ s.always) → 32 ≤ length old → AreMany (terms_from s first least most) old
many-whole {I} {s} lawful first least most old l k f n w e m =
    let count : length (terms_from s first least most) ≡ 1 = ap (λ (ts : List (List Literal)). length ts) (whole_terms lawful first least most l k f n w e) in
    omega (arith, m, count)

-- ---- from the first option that is asked

pub first_at_most : {I : Type 0} {s : Sets I} (least most : I) (first option : ℕ) → IsFreeBelow s least first → IsFreeBelow s most first → IsFirst s least most option → first ≤ option
first_at_most {I} {s} least most first option fl fm h = elim (order_cases option first) [
  | inl l ↦ elim h.asked [ inl d ↦ absurd (d.1 (fl.free option l d.0)) | inr d ↦ absurd (d.1 (fm.free option l d.0)) ]
  | inr m ↦ elim m [ inl l ↦ omega (arith, l) | inr e ↦ omega (arith, e) ]
]

-- options that neither set asks change no term
pub from_first : {I : Type 0} {s : Sets I} → IsLawful s → (first option : ℕ) (least most : I) → s.is_known least ≡ true → s.is_known most ≡ true → IsFreeBelow s least first → IsFreeBelow s most first → IsWithin s least most → IsFirst s least most option → terms_from s option least most ≡ terms_from s first least most
from_first {I} {s} lawful first option least most kl km fl fm w h =
    let l = first_at_most least most first option fl fm h in
    let in_range = h.in_range in
    sym (pass_to (option - first) (s.options - option) first (s.options - first) option (s.test least) (s.test most) (omega (arith, l, in_range)) (omega (arith, l)) (asks_values lawful least kl) (asks_values lawful most km) h.of_least.free h.of_most.free w)

-- ---- the sides of an option

pub within_low : {I : Type 0} {s : Sets I} (least most l0 l1 m0 m1 : I) (option : ℕ) → IsWithin s least most → AreParts s least option l0 l1 → AreParts s most option m0 m1 → IsWithin s l0 m0
within_low least most l0 l1 m0 m1 option w p q c t = q.off.test c ∙ w (with_option c option false) (sym (p.off.test c) ∙ t)

pub within_high : {I : Type 0} {s : Sets I} (least most l0 l1 m0 m1 : I) (option : ℕ) → IsWithin s least most → AreParts s least option l0 l1 → AreParts s most option m0 m1 → IsWithin s l1 m1
within_high least most l0 l1 m0 m1 option w p q c t = q.on.test c ∙ w (with_option c option true) (sym (p.on.test c) ∙ t)

pub free_low : {I : Type 0} {s : Sets I} → IsLawful s → (id low high : I) (option : ℕ) → s.is_known id ≡ true → IsFreeBelow s id option → AreParts s id option low high → IsFreeBelow s low (option + 1)
free_low lawful id low high option k f p = record { free = part_free lawful id low option false k p.off f.free }

pub free_high : {I : Type 0} {s : Sets I} → IsLawful s → (id low high : I) (option : ℕ) → s.is_known id ≡ true → IsFreeBelow s id option → AreParts s id option low high → IsFreeBelow s high (option + 1)
free_high lawful id low high option k f p = record { free = part_free lawful id high option true k p.on f.free }

-- what was known and depended on no option before one stays so
pub free_extends : {I : Type 0} {old new : Sets I} → Extends old new → (id : I) (first : ℕ) → old.is_known id ≡ true → IsFreeBelow old id first → IsFreeBelow new id first
free_extends x id first k f = record { free = λ j l c. x.test id (with_option c j true) k ∙ f.free j l c ∙ sym (x.test id (with_option c j false) k) }

pub within_extends : {I : Type 0} {old new : Sets I} → Extends old new → (inner outer : I) → old.is_known inner ≡ true → old.is_known outer ≡ true → IsWithin old inner outer → IsWithin new inner outer
within_extends x inner outer ki ko w c t = x.test outer c ko ∙ w c (sym (x.test inner c ki) ∙ t)

pub side_same : {I : Type 0} {s0 s1 : Sets I} → Extends s0 s1 → (first : ℕ) (least other only most : I) → s0.is_known most ≡ true → IsSet s1 only (λ c. s0.test least c && not (s0.test other c)) → terms_from s1 first only most ≡ side_terms_from s0 first least other most
side_same {I} {s0} {s1} x first least other only most k o = λ i. terms_between (x.options i - first) first (λ c. o.test c i) (λ c. x.test most c k i)

-- ---- all of it by an option

-- what the sides and the rest of an option come to
pub record AreSplit {I : Type 0} (s0 s1 s2 s3 s4 : Sets I) (option : ℕ) (least most l0 l1 m0 m1 low high rest both : I) : Type 0 where
  pub x1 : Extends s0 s1
  pub x2 : Extends s1 s2
  pub x3 : Extends s2 s3
  pub x4 : Extends s3 s4
  pub in_range : option < s0.options
  pub least_parts : AreParts s0 least option l0 l1
  pub most_parts : AreParts s0 most option m0 m1
  pub low_is : IsSet s1 low (some_term_holds (side_terms_from s0 (option + 1) l0 m1 m0))
  pub high_is : IsSet s2 high (some_term_holds (side_terms_from s1 (option + 1) l1 m0 m1))
  pub rest_is : IsSet s3 rest (λ c. (s2.test l0 c && not (s2.test low c)) || (s2.test l1 c && not (s2.test high c)))
  pub both_is : IsSet s4 both (λ c. s3.test m0 c && s3.test m1 c)

split_options : {I : Type 0} (s : Sets I) (option : ℕ) → option < s.options → s.options - option ≡ suc (s.options - (option + 1))
split_options s option l = omega (arith, l)

-- the terms of the two sides, as the definition has them
abbrev low_terms : {I : Type 0} → Sets I → ℕ → I → I → List (List Literal)
low_terms s option least most = off_terms (s.options - (option + 1)) option (s.test least) (s.test most)

abbrev high_terms : {I : Type 0} → Sets I → ℕ → I → I → List (List Literal)
high_terms s option least most = on_terms (s.options - (option + 1)) option (s.test least) (s.test most)

abbrev rest_terms : {I : Type 0} → Sets I → ℕ → I → I → List (List Literal)
rest_terms s option least most = terms_between (s.options - (option + 1)) (option + 1) (left_over option (s.test least) (low_terms s option least most) (high_terms s option least most)) (on_both option (s.test most))

all_terms : {I : Type 0} (s : Sets I) (option : ℕ) (least most : I) → option < s.options → terms_from s option least most ≡ joined option (low_terms s option least most) (high_terms s option least most) (rest_terms s option least most)
all_terms s option least most l = ap (λ n. terms_between n option (s.test least) (s.test most)) (split_options s option l) ∙ unfold_terms (s.options - (option + 1)) option (s.test least) (s.test most)

low_same : {I : Type 0} (s0 : Sets I) (option : ℕ) (least most l0 l1 m0 m1 : I) → AreParts s0 least option l0 l1 → AreParts s0 most option m0 m1 → side_terms_from s0 (option + 1) l0 m1 m0 ≡ low_terms s0 option least most
low_same s0 option least most l0 l1 m0 m1 p q = λ i. terms_between (s0.options - (option + 1)) (option + 1) (outside (λ c. p.off.test c i) (λ c. q.on.test c i)) (λ c. q.off.test c i)

high_same : {I : Type 0} {s0 s1 : Sets I} → Extends s0 s1 → (option : ℕ) (least most l0 l1 m0 m1 : I) → AreParts s0 least option l0 l1 → AreParts s0 most option m0 m1 → side_terms_from s1 (option + 1) l1 m0 m1 ≡ high_terms s0 option least most
high_same {I} {s0} {s1} x option least most l0 l1 m0 m1 p q =
    let e : (c : List Bool) → s1.test l1 c ≡ fixed (s0.test least) option true c = λ c. x.test l1 c p.on.known ∙ p.on.test c in
    let f : (c : List Bool) → s1.test m0 c ≡ fixed (s0.test most) option false c = λ c. x.test m0 c q.off.known ∙ q.off.test c in
    let g : (c : List Bool) → s1.test m1 c ≡ fixed (s0.test most) option true c = λ c. x.test m1 c q.on.known ∙ q.on.test c in
    λ i. terms_between (x.options i - (option + 1)) (option + 1) (outside (λ c. e c i) (λ c. f c i)) (λ c. g c i)

-- what is left, and what is allowed on both sides, as sets
rest_test : {I : Type 0} {s0 s1 s2 s3 s4 : Sets I} (option : ℕ) (least most l0 l1 m0 m1 low high rest both : I) → AreSplit s0 s1 s2 s3 s4 option least most l0 l1 m0 m1 low high rest both → (c : List Bool) → s4.test rest c ≡ left_over option (s0.test least) (low_terms s0 option least most) (high_terms s0 option least most) c
rest_test {I} {s0} {s1} {s2} {s3} {s4} option least most l0 l1 m0 m1 low high rest both h c =
    let e_l0 : s2.test l0 c ≡ fixed (s0.test least) option false c = h.x2.test l0 c (h.x1.known l0 h.least_parts.off.known) ∙ h.x1.test l0 c h.least_parts.off.known ∙ h.least_parts.off.test c in
    let e_l1 : s2.test l1 c ≡ fixed (s0.test least) option true c = h.x2.test l1 c (h.x1.known l1 h.least_parts.on.known) ∙ h.x1.test l1 c h.least_parts.on.known ∙ h.least_parts.on.test c in
    let e_low : s2.test low c ≡ some_term_holds (low_terms s0 option least most) c = h.x2.test low c h.low_is.known ∙ h.low_is.test c ∙ ap (λ ts. some_term_holds ts c) (low_same s0 option least most l0 l1 m0 m1 h.least_parts h.most_parts) in
    let e_high : s2.test high c ≡ some_term_holds (high_terms s0 option least most) c = h.high_is.test c ∙ ap (λ ts. some_term_holds ts c) (high_same h.x1 option least most l0 l1 m0 m1 h.least_parts h.most_parts) in
    h.x4.test rest c h.rest_is.known ∙ h.rest_is.test c ∙ (λ i. (e_l0 i && not (e_low i)) || (e_l1 i && not (e_high i)))

both_test : {I : Type 0} {s0 s1 s2 s3 s4 : Sets I} (option : ℕ) (least most l0 l1 m0 m1 low high rest both : I) → AreSplit s0 s1 s2 s3 s4 option least most l0 l1 m0 m1 low high rest both → (c : List Bool) → s4.test both c ≡ on_both option (s0.test most) c
both_test {I} {s0} {s1} {s2} {s3} {s4} option least most l0 l1 m0 m1 low high rest both h c =
    let x = Extends-trans (Extends-trans h.x1 h.x2) h.x3 in
    let e_m0 : s3.test m0 c ≡ fixed (s0.test most) option false c = x.test m0 c h.most_parts.off.known ∙ h.most_parts.off.test c in
    let e_m1 : s3.test m1 c ≡ fixed (s0.test most) option true c = x.test m1 c h.most_parts.on.known ∙ h.most_parts.on.test c in
    h.both_is.test c ∙ (λ i. e_m0 i && e_m1 i)

rest_same : {I : Type 0} {s0 s1 s2 s3 s4 : Sets I} (option : ℕ) (least most l0 l1 m0 m1 low high rest both : I) → AreSplit s0 s1 s2 s3 s4 option least most l0 l1 m0 m1 low high rest both → terms_from s4 (option + 1) rest both ≡ rest_terms s0 option least most
rest_same {I} {s0} {s1} {s2} {s3} {s4} option least most l0 l1 m0 m1 low high rest both h =
    let x = Extends-trans (Extends-trans (Extends-trans h.x1 h.x2) h.x3) h.x4 in
    λ i. terms_between (x.options i - (option + 1)) (option + 1) (λ c. rest_test option least most l0 l1 m0 m1 low high rest both h c i) (λ c. both_test option least most l0 l1 m0 m1 low high rest both h c i)

-- what is left depends on no option up to this one, and stays within what both sides allow
pub rest_free : {I : Type 0} {s0 s1 s2 s3 s4 : Sets I} → IsLawful s0 → (option : ℕ) (least most l0 l1 m0 m1 low high rest both : I) → s0.is_known least ≡ true → IsFreeBelow s0 least option → AreSplit s0 s1 s2 s3 s4 option least most l0 l1 m0 m1 low high rest both → IsFreeBelow s4 rest (option + 1)
rest_free {I} {s0} {s1} {s2} {s3} {s4} lawful option least most l0 l1 m0 m1 low high rest both k f h =
    let later = s0.options - (option + 1) in
    let off = low_terms s0 option least most in
    let on = high_terms s0 option least most in
    let fl = free_low lawful least l0 l1 option k f h.least_parts in
    let fh = free_high lawful least l0 l1 option k f h.least_parts in
    record {
      free = λ j l c.
          let t = with_option c j true in
          let u = with_option c j false in
          let e_l0 : fixed (s0.test least) option false t ≡ fixed (s0.test least) option false u = sym (h.least_parts.off.test t) ∙ fl.free j l c ∙ h.least_parts.off.test u in
          let e_l1 : fixed (s0.test least) option true t ≡ fixed (s0.test least) option true u = sym (h.least_parts.on.test t) ∙ fh.free j l c ∙ h.least_parts.on.test u in
          let e_off : some_term_holds off t ≡ some_term_holds off u = terms_free later (option + 1) (outside (fixed (s0.test least) option false) (fixed (s0.test most) option true)) (fixed (s0.test most) option false) j l c in
          let e_on : some_term_holds on t ≡ some_term_holds on u = terms_free later (option + 1) (outside (fixed (s0.test least) option true) (fixed (s0.test most) option false)) (fixed (s0.test most) option true) j l c in
          let same : left_over option (s0.test least) off on t ≡ left_over option (s0.test least) off on u = λ i. (e_l0 i && not (e_off i)) || (e_l1 i && not (e_on i)) in
          rest_test option least most l0 l1 m0 m1 low high rest both h t ∙ same ∙ sym (rest_test option least most l0 l1 m0 m1 low high rest both h u);
    }

pub both_free : {I : Type 0} {s0 s1 s2 s3 s4 : Sets I} → IsLawful s0 → (option : ℕ) (least most l0 l1 m0 m1 low high rest both : I) → s0.is_known most ≡ true → IsFreeBelow s0 most option → AreSplit s0 s1 s2 s3 s4 option least most l0 l1 m0 m1 low high rest both → IsFreeBelow s4 both (option + 1)
both_free {I} {s0} {s1} {s2} {s3} {s4} lawful option least most l0 l1 m0 m1 low high rest both k f h =
    let fl = free_low lawful most m0 m1 option k f h.most_parts in
    let fh = free_high lawful most m0 m1 option k f h.most_parts in
    record {
      free = λ j l c.
          let t = with_option c j true in
          let u = with_option c j false in
          let e_m0 : fixed (s0.test most) option false t ≡ fixed (s0.test most) option false u = sym (h.most_parts.off.test t) ∙ fl.free j l c ∙ h.most_parts.off.test u in
          let e_m1 : fixed (s0.test most) option true t ≡ fixed (s0.test most) option true u = sym (h.most_parts.on.test t) ∙ fh.free j l c ∙ h.most_parts.on.test u in
          let same : on_both option (s0.test most) t ≡ on_both option (s0.test most) u = λ i. e_m0 i && e_m1 i in
          both_test option least most l0 l1 m0 m1 low high rest both h t ∙ same ∙ sym (both_test option least most l0 l1 m0 m1 low high rest both h u);
    }

asks_split : {I : Type 0} {s : Sets I} → IsLawful s → (id : I) (option : ℕ) → s.is_known id ≡ true → option < s.options → IsFreeBelow s id option → AsksFrom option (suc (s.options - (option + 1))) (s.test id)
asks_split {I} {s} lawful id option k l f = subst (λ n. AsksFrom option n (s.test id)) (split_options s option l) (asks_from lawful id option k (omega (arith, l)) f)

pub rest_in_both : {I : Type 0} {s0 s1 s2 s3 s4 : Sets I} → IsLawful s0 → (option : ℕ) (least most l0 l1 m0 m1 low high rest both : I) → s0.is_known least ≡ true → s0.is_known most ≡ true → IsFreeBelow s0 least option → IsFreeBelow s0 most option → IsWithin s0 least most → AreSplit s0 s1 s2 s3 s4 option least most l0 l1 m0 m1 low high rest both → IsWithin s4 rest both
rest_in_both {I} {s0} {s1} {s2} {s3} {s4} lawful option least most l0 l1 m0 m1 low high rest both kl km fl fm w h c t =
    both_test option least most l0 l1 m0 m1 low high rest both h c ∙ left_within (s0.options - (option + 1)) option (s0.test least) (s0.test most) (asks_split lawful least option kl h.in_range fl) (asks_split lawful most option km h.in_range fm) w c (sym (rest_test option least most l0 l1 m0 m1 low high rest both h c) ∙ t)

-- terms with a literal before each, behind a path, are terms behind a path with that literal more
behind_path : (path : List Literal) (option : ℕ) (on : Bool) (terms : List (List Literal)) → map (λ term. path ++ term) (with_literal option on terms) ≡ map (λ term. (path ++ record { option = option; on = on } ∷ []) ++ term) terms
behind_path path option on [] = refl
behind_path path option on (t ∷ ts) = λ i. sym (append_assoc path (record { option = option; on = on } ∷ []) t) i ∷ behind_path path option on ts i

map_append : {A B : Type 0} (f : A → B) (xs ys : List A) → map f (xs ++ ys) ≡ map f xs ++ map f ys
map_append f [] ys = refl
map_append f (x ∷ xs) ys = ap (λ zs. f x ∷ zs) (map_append f xs ys)

all_behind : (path : List Literal) (option : ℕ) (off on rest t0 t1 t2 t3 : List (List Literal)) → t1 ≡ t0 ++ map (λ term. (path ++ record { option = option; on = false } ∷ []) ++ term) off → t2 ≡ t1 ++ map (λ term. (path ++ record { option = option; on = true } ∷ []) ++ term) on → t3 ≡ t2 ++ map (λ term. path ++ term) rest → t3 ≡ t0 ++ map (λ term. path ++ term) (joined option off on rest)
all_behind path option off on rest t0 t1 t2 t3 e f g =
    let low = with_literal option false off in
    let high = with_literal option true on in
    let one : t1 ≡ t0 ++ map (λ term. path ++ term) low = e ∙ ap (λ ts. t0 ++ ts) (sym (behind_path path option false off)) in
    let two : t2 ≡ (t0 ++ map (λ term. path ++ term) low) ++ map (λ term. path ++ term) high = f ∙ (λ i. one i ++ sym (behind_path path option true on) i) in
    let three : t3 ≡ ((t0 ++ map (λ term. path ++ term) low) ++ map (λ term. path ++ term) high) ++ map (λ term. path ++ term) rest = g ∙ ap (λ ts. ts ++ map (λ term. path ++ term) rest) two in
    three
    ∙ ap (λ ts. ts ++ map (λ term. path ++ term) rest) (append_assoc t0 (map (λ term. path ++ term) low) (map (λ term. path ++ term) high))
    ∙ append_assoc t0 (map (λ term. path ++ term) low ++ map (λ term. path ++ term) high) (map (λ term. path ++ term) rest)
    ∙ ap (λ ts. t0 ++ ts) (sym (map_append (λ term. path ++ term) (low ++ high) rest ∙ ap (λ ts. ts ++ map (λ term. path ++ term) rest) (map_append (λ term. path ++ term) low high)))

pub ArePut-all : {I : Type 0} {s0 s1 s2 s3 s4 s5 s6 : Sets I} (path : List Literal) (option : ℕ) (least most l0 l1 m0 m1 low high rest both free set : I) (t0 t1 t2 t3 : List (List Literal)) → AreSplit s0 s1 s2 s3 s4 option least most l0 l1 m0 m1 low high rest both
    → ArePut s1 (path ++ record { option = option; on = false } ∷ []) (side_terms_from s0 (option + 1) l0 m1 m0) t0 t1 low → ArePut s2 (path ++ record { option = option; on = true } ∷ []) (side_terms_from s1 (option + 1) l1 m0 m1) t1 t2 high → Extends s4 s5 → ArePut s5 path (terms_from s4 (option + 1) rest both) t2 t3 free
    → Extends s5 s6 → IsSet s6 set (λ c. (if value_of c option then s5.test high c else s5.test low c) || s5.test free c) → ArePut s6 path (terms_from s0 option least most) t0 t3 set
ArePut-all {I} {s0} {s1} {s2} {s3} {s4} {s5} {s6} path option least most l0 l1 m0 m1 low high rest both free set t0 t1 t2 t3 h p0 p1 x5 p2 x6 o =
    let off = low_terms s0 option least most in
    let on = high_terms s0 option least most in
    let left = rest_terms s0 option least most in
    let e_off : side_terms_from s0 (option + 1) l0 m1 m0 ≡ off = low_same s0 option least most l0 l1 m0 m1 h.least_parts h.most_parts in
    let e_on : side_terms_from s1 (option + 1) l1 m0 m1 ≡ on = high_same h.x1 option least most l0 l1 m0 m1 h.least_parts h.most_parts in
    let e_left : terms_from s4 (option + 1) rest both ≡ left = rest_same option least most l0 l1 m0 m1 low high rest both h in
    let x25 = Extends-trans (Extends-trans h.x3 h.x4) x5 in
    let x15 = Extends-trans h.x2 x25 in
    let low_test : (c : List Bool) → s5.test low c ≡ some_term_holds off c = λ c. x15.test low c p0.set_is.known ∙ p0.set_is.test c ∙ ap (λ ts. some_term_holds ts c) e_off in
    let high_test : (c : List Bool) → s5.test high c ≡ some_term_holds on c = λ c. x25.test high c p1.set_is.known ∙ p1.set_is.test c ∙ ap (λ ts. some_term_holds ts c) e_on in
    let free_test : (c : List Bool) → s5.test free c ≡ some_term_holds left c = λ c. p2.set_is.test c ∙ ap (λ ts. some_term_holds ts c) e_left in
    subst (λ ts. ArePut s6 path ts t0 t3 set) (sym (all_terms s0 option least most h.in_range)) (record {
      set_is = record {
        known = o.known;
        test = λ c. o.test c ∙ (λ i. (if value_of c option then high_test c i else low_test c i) || free_test c i) ∙ sym (joined_holds option off on left c);
      };
      more = all_behind path option off on left t0 t1 t2 t3 (p0.more ∙ ap (λ ts. t0 ++ map (λ term. (path ++ record { option = option; on = false } ∷ []) ++ term) ts) e_off) (p1.more ∙ ap (λ ts. t1 ++ map (λ term. (path ++ record { option = option; on = true } ∷ []) ++ term) ts) e_on) (p2.more ∙ ap (λ ts. t2 ++ map (λ term. path ++ term) ts) e_left);
    })

-- ---- where there are too many

length_joined : (option : ℕ) (off on rest : List (List Literal)) → length (joined option off on rest) ≡ length off + length on + length rest
length_joined option off on rest =
    length-append (with_literal option false off ++ with_literal option true on) rest
    ∙ ap (λ n. n + length rest) (length-append (with_literal option false off) (with_literal option true on) ∙ (λ i. length-map off (λ (term : List Literal). record { option = option; on = false } ∷ term) i + length-map on (λ (term : List Literal). record { option = option; on = true } ∷ term) i))

pub many-low : {I : Type 0} {s0 : Sets I} (option : ℕ) (least most l0 l1 m0 m1 : I) (t0 : List (List Literal)) → option < s0.options → AreParts s0 least option l0 l1 → AreParts s0 most option m0 m1 → AreMany (side_terms_from s0 (option + 1) l0 m1 m0) t0 → AreMany (terms_from s0 option least most) t0
many-low {I} {s0} option least most l0 l1 m0 m1 t0 l p q m =
    let off = low_terms s0 option least most in
    let on = high_terms s0 option least most in
    let rest = rest_terms s0 option least most in
    let count : length (terms_from s0 option least most) ≡ length off + length on + length rest = ap (λ (ts : List (List Literal)). length ts) (all_terms s0 option least most l) ∙ length_joined option off on rest in
    let same : length (side_terms_from s0 (option + 1) l0 m1 m0) ≡ length off = ap (λ (ts : List (List Literal)). length ts) (low_same s0 option least most l0 l1 m0 m1 p q) in
    omega (arith, m, count, same)

put_length : {I : Type 0} {s : Sets I} (path : List Literal) (terms old new : List (List Literal)) (set : I) → ArePut s path terms old new set → length new ≡ length old + length terms
put_length path terms old new set p = ap (λ (ts : List (List Literal)). length ts) p.more ∙ length-append old (map (λ term. path ++ term) terms) ∙ ap (λ n. length old + n) (length-map terms (λ (term : List Literal). path ++ term))

pub many-high : {I : Type 0} {s0 s1 : Sets I} → Extends s0 s1 → (path : List Literal) (option : ℕ) (least most l0 l1 m0 m1 low : I) (t0 t1 : List (List Literal)) → option < s0.options → AreParts s0 least option l0 l1 → AreParts s0 most option m0 m1 → ArePut s1 path (side_terms_from s0 (option + 1) l0 m1 m0) t0 t1 low → AreMany (side_terms_from s1 (option + 1) l1 m0 m1) t1 → AreMany (terms_from s0 option least most) t0
many-high {I} {s0} {s1} x path option least most l0 l1 m0 m1 low t0 t1 l p q put m =
    let off = low_terms s0 option least most in
    let on = high_terms s0 option least most in
    let rest = rest_terms s0 option least most in
    let count : length (terms_from s0 option least most) ≡ length off + length on + length rest = ap (λ (ts : List (List Literal)). length ts) (all_terms s0 option least most l) ∙ length_joined option off on rest in
    let here : length (side_terms_from s0 (option + 1) l0 m1 m0) ≡ length off = ap (λ (ts : List (List Literal)). length ts) (low_same s0 option least most l0 l1 m0 m1 p q) in
    let same : length (side_terms_from s1 (option + 1) l1 m0 m1) ≡ length on = ap (λ (ts : List (List Literal)). length ts) (high_same x option least most l0 l1 m0 m1 p q) in
    let more = put_length path (side_terms_from s0 (option + 1) l0 m1 m0) t0 t1 low put in
    omega (arith, m, count, here, same, more)

pub many-rest : {I : Type 0} {s0 s1 s2 s3 s4 : Sets I} (path more : List Literal) (option : ℕ) (least most l0 l1 m0 m1 low high rest both : I) (t0 t1 t2 : List (List Literal)) → AreSplit s0 s1 s2 s3 s4 option least most l0 l1 m0 m1 low high rest both → ArePut s1 path (side_terms_from s0 (option + 1) l0 m1 m0) t0 t1 low → ArePut s2 more (side_terms_from s1 (option + 1) l1 m0 m1) t1 t2 high → AreMany (terms_from s4 (option + 1) rest both) t2 → AreMany (terms_from s0 option least most) t0
many-rest {I} {s0} {s1} {s2} {s3} {s4} path more option least most l0 l1 m0 m1 low high rest both t0 t1 t2 h p0 p1 m =
    let off = low_terms s0 option least most in
    let on = high_terms s0 option least most in
    let left = rest_terms s0 option least most in
    let count : length (terms_from s0 option least most) ≡ length off + length on + length left = ap (λ (ts : List (List Literal)). length ts) (all_terms s0 option least most h.in_range) ∙ length_joined option off on left in
    let here : length (side_terms_from s0 (option + 1) l0 m1 m0) ≡ length off = ap (λ (ts : List (List Literal)). length ts) (low_same s0 option least most l0 l1 m0 m1 h.least_parts h.most_parts) in
    let there : length (side_terms_from s1 (option + 1) l1 m0 m1) ≡ length on = ap (λ (ts : List (List Literal)). length ts) (high_same h.x1 option least most l0 l1 m0 m1 h.least_parts h.most_parts) in
    let behind : length (terms_from s4 (option + 1) rest both) ≡ length left = ap (λ (ts : List (List Literal)). length ts) (rest_same option least most l0 l1 m0 m1 low high rest both h) in
    let grown = put_length path (side_terms_from s0 (option + 1) l0 m1 m0) t0 t1 low p0 in
    let grown_more = put_length more (side_terms_from s1 (option + 1) l1 m0 m1) t1 t2 high p1 in
    omega (arith, m, count, here, there, behind, grown, grown_more)
