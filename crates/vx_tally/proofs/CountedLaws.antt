-- Numbers in a scope.
use Rattle.std.proofs.Common.{◌≡◌, ◌≢◌, ℕ, ◌+◌, ◌<◌, ◌≤◌, ◌^◌, ◌-◌, Bool, true, false, List, refl, sym, ◌∙◌, ap, subst, arith, suc}
use Rattle.std.specs.Prelude.{Option, Some, None, if◌then◌else◌, min, max, unwrap_or, ◌&&◌, ◌||◌}
use Rattle.std.specs.Option.{option_or}
use Rattle.vx_space.specs.Sets.{Sets, IsSet, Extends, IsLawful}
use Rattle.vx_space.proofs.Spaces.{Extends-trans}
use Rattle.vx_cond.specs.Leaves.{value_within, first_of}
use Rattle.vx_cond.proofs.CondLaws.{AreDisjoint-extends}
use Rattle.vx_tally.specs.Tally.{TallyView, IsTally, number_at}
use Rattle.vx_tally.specs.Answers.{IsMostIn}
use Rattle.vx_tally.specs.Counted.{CountedView, counted_at, IsCounted, IsCountedOf, IsJoinedTally, IsOneMore, HasRoom, IsTight}
use Rattle.vx_tally.proofs.ChosenLaws.{not_both}
use Rattle.vx_tally.proofs.SetLaws.{none_in}

-- one number in a scope
pub IsCountedOf-one : {I : Type 0} (sets : Sets I) (scope : I) (tally : TallyView) (number : ℕ) → sets.is_known scope ≡ true → IsTally sets.options tally → ((c : List Bool) → number_at tally c ≡ number) → number < 2 ^ 64 → IsCountedOf sets (value_within sets scope (λ _. Some number)) (record { scope = scope; tally = tally; most = number })
unfolding IsCounted IsCountedOf
IsCountedOf-one sets scope tally number k t n l = record {
  is_counted = record { scope_known = k; tally = t; bound = λ c _. omega (arith, n c); fits = l };
  at = λ c. ap (λ x. if sets.test scope c then Some x else None) (n c);
}

-- the number that is read
pub counted_read : {I : Type 0} (sets : Sets I) (counted : CountedView I) (c : List Bool) (number : ℕ) → IsCounted sets counted → sets.test counted.scope c ≡ true → number ≡ min (number_at counted.tally c) (2 ^ 64 - 1) → Some number ≡ counted_at sets counted c
unfolding IsCounted
counted_read sets counted c number h t e =
    let bound = h.bound c t in
    rw t (ap Some (omega (arith, e, bound, h.fits)))

pub IsCounted-extends : {I : Type 0} {old new : Sets I} → Extends old new → (counted : CountedView I) → IsCounted old counted → IsCounted new counted
unfolding IsCounted
IsCounted-extends {new = new} e counted h = record {
  scope_known = e.known counted.scope h.scope_known;
  tally = subst (λ n. IsTally n counted.tally) (sym e.options) h.tally;
  bound = λ c t. h.bound c (sym (e.test counted.scope c h.scope_known) ∙ t);
  fits = h.fits;
}

pub counted_at-extends : {I : Type 0} {old new : Sets I} → Extends old new → (counted : CountedView I) → IsCounted old counted → (c : List Bool) → counted_at new counted c ≡ counted_at old counted c
unfolding IsCounted
counted_at-extends e counted h c = rw (e.test counted.scope c h.scope_known) refl

pub IsCountedOf-extends : {I : Type 0} {old new : Sets I} → Extends old new → (number : List Bool → Option ℕ) (counted : CountedView I) → IsCountedOf old number counted → IsCountedOf new number counted
unfolding IsCountedOf
IsCountedOf-extends e number counted h = record { is_counted = IsCounted-extends e counted h.is_counted; at = λ c. counted_at-extends e counted h.is_counted c ∙ h.at c }

pub IsCounted-of : {I : Type 0} (sets : Sets I) (number : List Bool → Option ℕ) (counted : CountedView I) → IsCountedOf sets number counted → IsCounted sets counted
unfolding IsCountedOf
IsCounted-of sets number counted h = h.is_counted

pub counted_at-of : {I : Type 0} (sets : Sets I) (number : List Bool → Option ℕ) (counted : CountedView I) (c : List Bool) → IsCountedOf sets number counted → counted_at sets counted c ≡ number c
unfolding IsCountedOf
counted_at-of sets number counted c h = h.at c

first_part : (a b : Bool) → (a && b) ≡ true → a ≡ true
first_part true b h = refl
first_part false b h = cc

-- the part inside a condition
pub IsCountedOf-restricted : {I : Type 0} {s0 s1 : Sets I} (counted : CountedView I) (within scope : I) (tally : TallyView) → IsCounted s0 counted → Extends s0 s1 → IsSet s1 scope (λ c. s0.test counted.scope c && s0.test within c) → tally ≡ counted.tally → IsCountedOf s1 (value_within s0 within (counted_at s0 counted)) (record { scope = scope; tally = tally; most = counted.most })
unfolding IsCounted IsCountedOf
IsCountedOf-restricted {s0 = s0} {s1 = s1} counted within scope tally h e s t = record {
  is_counted = record {
    scope_known = s.known;
    tally = subst (λ x. IsTally s1.options x) (sym t) (subst (λ n. IsTally n counted.tally) (sym e.options) h.tally);
    bound = λ c u.
        let inside = first_part (s0.test counted.scope c) (s0.test within c) (sym (s.test c) ∙ u) in
        let bound = h.bound c inside in
        omega (arith, bound, ap (λ x. number_at x c) t);
    fits = h.fits;
  };
  at = λ c. rw (s.test c, ap (λ x. number_at x c) t) (by (s0.test counted.scope c) (s0.test within c) (number_at counted.tally c));
}
  where
    by : (a b : Bool) (n : ℕ) → (if a && b then Some n else None) ≡ (if b then (if a then Some n else None) else None)
    by true true n = refl
    by true false n = refl
    by false true n = refl
    by false false n = refl

-- both sides
pub IsCountedOf-joined : {I : Type 0} {s0 s1 : Sets I} (one other : CountedView I) (scope : I) (tally : TallyView) (most : ℕ) → IsCounted s0 one → IsCounted s0 other → Extends s0 s1 → IsSet s1 scope (λ c. s0.test one.scope c || s0.test other.scope c) → IsJoinedTally s0 one other tally → most ≡ max one.most other.most → IsCountedOf s1 (first_of (counted_at s0 one) (counted_at s0 other)) (record { scope = scope; tally = tally; most = most })
unfolding IsCounted IsCountedOf
IsCountedOf-joined {s0 = s0} {s1 = s1} one other scope tally most h k e s j m = record {
  is_counted = record {
    scope_known = s.known;
    tally = subst (λ n. IsTally n tally) (sym e.options) j.valid;
    bound = λ c t. bound c (s0.test one.scope c) (s0.test other.scope c) refl refl (sym (s.test c) ∙ t);
    fits = omega (arith, m, h.fits, k.fits);
  };
  at = λ c. rw (s.test c) (at c (s0.test one.scope c) (s0.test other.scope c) refl refl);
}
  where
    bound : (c : List Bool) (a b : Bool) → s0.test one.scope c ≡ a → s0.test other.scope c ≡ b → (a || b) ≡ true → number_at tally c ≤ most
    bound c true b p q t =
        let here = h.bound c p in
        omega (arith, j.in_one c p, here, m)
    bound c false true p q t =
        let here = k.bound c q in
        omega (arith, j.in_other c p q, here, m)
    bound c false false p q t = cc

    at : (c : List Bool) (a b : Bool) → s0.test one.scope c ≡ a → s0.test other.scope c ≡ b → (if a || b then Some (number_at tally c) else None) ≡ option_or (if a then Some (number_at one.tally c) else None) (if b then Some (number_at other.tally c) else None)
    at c true b p q = ap Some (j.in_one c p)
    at c false true p q = ap Some (j.in_other c p q)
    at c false false p q = refl

-- the tally of both: that of one where they are the same, or what was chosen
pub IsJoinedTally-same : {I : Type 0} (sets : Sets I) (one other : CountedView I) (tally : TallyView) → IsCounted sets one → one.tally ≡ other.tally → tally ≡ one.tally → IsJoinedTally sets one other tally
unfolding IsCounted
IsJoinedTally-same sets one other tally h e t = record {
  valid = subst (λ x. IsTally sets.options x) (sym t) h.tally;
  in_one = λ c _. ap (λ x. number_at x c) t;
  in_other = λ c _ _. ap (λ x. number_at x c) (t ∙ e);
}

pub IsJoinedTally-chosen : {I : Type 0} (sets : Sets I) (one other : CountedView I) (tally : TallyView) → IsCounted sets one → IsCounted sets other → IsTally sets.options tally → ((c : List Bool) → sets.test one.scope c ≡ true → number_at one.tally c < 2 ^ 64 → number_at tally c ≡ number_at one.tally c) → ((c : List Bool) → sets.test one.scope c ≡ false → sets.test other.scope c ≡ true → number_at other.tally c < 2 ^ 64 → number_at tally c ≡ number_at other.tally c) → IsJoinedTally sets one other tally
unfolding IsCounted
IsJoinedTally-chosen sets one other tally h k v f s = record {
  valid = v;
  in_one = λ c t.
      let bound = h.bound c t in
      f c t (omega (arith, bound, h.fits));
  in_other = λ c t u.
      let bound = k.bound c u in
      s c t u (omega (arith, bound, k.fits));
}

-- one more
pub IsOneMore-added : {I : Type 0} (old new : CountedView I) → new.scope ≡ old.scope → ((c : List Bool) → suc (number_at old.tally c) < 2 ^ 64 → number_at new.tally c ≡ number_at old.tally c + 1) → new.tally.nodes ≡ old.tally.nodes → new.tally.root.place ≡ old.tally.root.place → new.most ≡ min (old.most + 1) (2 ^ 64 - 1) → IsOneMore old new
unfolding IsCounted
IsOneMore-added old new scope number nodes place most = record {
  scope = scope;
  number = λ c l. number c l ∙ omega arith;
  valid = λ sets h room. record {
    scope_known = ap (λ x. sets.is_known x) scope ∙ h.scope_known;
    tally = record {
      nodes = rw nodes h.tally.nodes;
      root_given = rw (nodes, place) h.tally.root_given;
    };
    bound = λ c t.
        let inside = ap (λ x. sets.test x c) (sym scope) ∙ t in
        let bound = h.bound c inside in
        let less = room.below c inside in
        omega (arith, number c less, bound, less, most);
    fits = omega (arith, most);
  };
}

pub IsCounted-one_more : {I : Type 0} (sets : Sets I) (old new : CountedView I) → IsOneMore old new → IsCounted sets old → suc old.most < 2 ^ 64 → IsCounted sets new
unfolding IsCounted
IsCounted-one_more sets old new m h l = m.valid sets h (record {
  below = λ c t.
      let bound = h.bound c t in
      omega (arith, bound, l);
})

-- the greatest number
pub IsCounted-tight : {I : Type 0} {sets : Sets I} → IsLawful sets → (counted : CountedView I) (answer : Option ℕ) (most : ℕ) → IsCounted sets counted → IsMostIn sets (number_at counted.tally) counted.scope answer → most ≡ unwrap_or answer 0 → most < 2 ^ 64 → IsCounted sets (record { scope = counted.scope; tally = counted.tally; most = most })
unfolding IsCounted
IsCounted-tight {sets = sets} lawful counted None most h m e l = record {
  scope_known = h.scope_known;
  tally = h.tally;
  bound = λ c t. absurd (not_both (sets.test counted.scope c) t (none_in lawful counted.scope c m));
  fits = l;
}
IsCounted-tight lawful counted (Some n) most h m e l = record {
  scope_known = h.scope_known;
  tally = h.tally;
  bound = λ c t.
      let bound = h.bound c t in
      let here = m.bound c t (omega (arith, bound, h.fits)) in
      omega (arith, here, e);
  fits = l;
}

pub IsTight-made : {I : Type 0} {sets : Sets I} → IsLawful sets → (counted : CountedView I) (answer : Option ℕ) (most : ℕ) → IsCounted sets counted → IsMostIn sets (number_at counted.tally) counted.scope answer → most ≡ unwrap_or answer 0 → IsTight sets (record { scope = counted.scope; tally = counted.tally; most = most })
unfolding IsCounted
IsTight-made lawful counted None most h m e = record { attained = (λ _. e, λ n. absurd (n m)) }
IsTight-made {sets = sets} lawful counted (Some n) most h m e = record {
  attained = (
    λ z. absurd (not_both (sets.test counted.scope m.at) m.inside (none_in lawful counted.scope m.at z)),
    λ _.
        let bound = h.bound m.at m.inside in
        let here = m.bound m.at m.inside (omega (arith, bound, h.fits)) in
        (m.at, m.inside, omega (arith, here, m.attained, e)),
  );
}

-- what `using` applies in the crates above
pub ruleset counted_words = (IsCounted-of, counted_at-of, IsCounted-extends, IsCountedOf-extends, counted_at-extends, AreDisjoint-extends, Extends-trans)
