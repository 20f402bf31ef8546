-- That a set leaves out a configuration with a literal, by one way down its diagram.
use Rattle.std.proofs.Common.{◌≡◌, ◌≢◌, ◌⊎◌, inl, inr, ℕ, ◌+◌, ◌<◌, ◌≤◌, Bool, true, false, List, [], refl, sym, ◌∙◌, ap, subst, arith}
use Rattle.std.specs.Prelude.{◌&&◌, not, if◌then◌else◌}
use Rattle.vx_space.specs.Config.{value_of, with_option}
use Rattle.vx_space.specs.Sets.{Sets, IsLawful, IsSet, IsTop}
use Rattle.vx_space.specs.Under.{fixed}
use Rattle.vx_space.proofs.Configs.{value_of-same, value_of-other}
use Rattle.vx_space.proofs.Differences.{some_difference}
use Rattle.vx_explain.specs.declared.literal.Literal.{Literal}
use Rattle.vx_explain.specs.Literals.{LeavesOut, is_some, is_taken}
use Rattle.vx_explain.specs.Rules.{literal_holds}
use Rattle.vx_explain.proofs.FirstLiterals.{any_some, asks_known}
use Rattle.vx_explain.proofs.Sums.{AsksFrom-outside, free_side, literal_asks}
use Rattle.vx_explain.proofs.TermSets.{asks_values}

-- a set that isn't always leaves out a configuration
some_out : {I : Type 0} {s : Sets I} → IsLawful s → (id : I) → s.is_known id ≡ true → id ≢ s.always → (c : List Bool) × (s.test id c ≡ false)
some_out {I} {s} lawful id k n =
    let d = some_difference lawful id s.always k lawful.always_known n in
    (d.0, by (s.test id d.0) (λ e. d.1 (e ∙ sym (lawful.always_test d.0))))
  where
    by : (b : Bool) → (b ≡ true → ⊥) → b ≡ false
    by true f = absurd (f refl)
    by false f = refl

-- what has a first option isn't always
pub top_is_not : {I : Type 0} {s : Sets I} → IsLawful s → (id low high : I) (option : ℕ) → IsTop s id option low high → id ≢ s.always
top_is_not {I} {s} lawful id low high option top e =
    let d = top.least.depends in
    d.1 (ap (λ x. s.test x (with_option d.0 option true)) e ∙ lawful.always_test (with_option d.0 option true) ∙ sym (ap (λ x. s.test x (with_option d.0 option false)) e ∙ lawful.always_test (with_option d.0 option false)))

pub never_is_not : {I : Type 0} {s : Sets I} → IsLawful s → (id : I) → id ≡ s.never → id ≢ s.always
never_is_not {I} {s} lawful id n e =
    let wrong : false ≡ true = sym (lawful.never_test []) ∙ ap (λ x. s.test x []) (sym n ∙ e) ∙ lawful.always_test [] in
    cc (wrong)

holds_with : (l : Literal) (c : List Bool) → literal_holds l (with_option c l.option l.on) ≡ true
holds_with l c = by l.on (value_of-same c l.option l.on)
  where
    by : (on : Bool) {v : Bool} → v ≡ on → (if on then v else not v) ≡ true
    by true e = e
    by false e = ap not e

-- the part where the literal is holds something out
pub out_here : {I : Type 0} {s : Sets I} → IsLawful s → (id part : I) (l : Literal) → IsSet s part (fixed (s.test id) l.option l.on) → part ≢ s.always → LeavesOut s id l
out_here lawful id part l h n =
    let d = some_out lawful part h.known n in
    (with_option d.0 l.option l.on, holds_with l d.0, sym (h.test d.0) ∙ d.1)

-- a literal whose option is the one, by which part it has
pub out_part : {I : Type 0} {s : Sets I} → IsLawful s → (id part : I) (option : ℕ) (b : Bool) (l : Literal) → l.option ≡ option → l.on ≡ b → IsSet s part (fixed (s.test id) option b) → part ≢ s.always → LeavesOut s id l
out_part {I} {s} lawful id part option b l e f h n = out_here lawful id part l (subst (λ o. IsSet s part (fixed (s.test id) o l.on)) (sym e) (subst (λ v. IsSet s part (fixed (s.test id) option v)) (sym f) h)) n

-- the literal's option isn't asked
pub out_earlier : {I : Type 0} {s : Sets I} → IsLawful s → (id low high : I) (option : ℕ) (l : Literal) → s.is_known id ≡ true → id ≢ s.always → IsTop s id option low high → l.option < option → LeavesOut s id l
out_earlier {I} {s} lawful id low high option l k n top m =
    let d = some_out lawful id k n in
    (with_option d.0 l.option l.on, holds_with l d.0, free_side (s.test id) (asks_values lawful id k) l.option (top.least.free_below l.option m) l.on d.0 ∙ d.1)

-- ---- the way down

pub record LeadsOut {I : Type 0} (s : Sets I) (id at : I) (l : Literal) : Type 0 where
  pub known : s.is_known at ≡ true
  pub back : LeavesOut s at l → LeavesOut s id l

pub LeadsOut-start : {I : Type 0} (s : Sets I) (id : I) (l : Literal) → s.is_known id ≡ true → LeadsOut s id id l
LeadsOut-start s id l k = record { known = k; back = λ h. h }

one_down : {I : Type 0} (s : Sets I) (at part : I) (option : ℕ) (b : Bool) (l : Literal) → IsSet s part (fixed (s.test at) option b) → option < l.option → LeavesOut s part l → LeavesOut s at l
one_down s at part option b l h m d =
    let other : option ≢ l.option = λ e. absurd (omega (arith, m, e)) in
    (with_option d.0 option b, by l.on (value_of-other d.0 option l.option b other) d.1, sym (h.test d.0) ∙ d.2)
  where
    by : (on : Bool) {v w : Bool} → v ≡ w → (if on then w else not w) ≡ true → (if on then v else not v) ≡ true
    by true e t = e ∙ t
    by false e t = ap not e ∙ t

pub LeadsOut-step : {I : Type 0} {s : Sets I} (id at next low high : I) (option : ℕ) (l : Literal) → LeadsOut s id at l → IsTop s at option low high → option < l.option → (next ≡ low) ⊎ (next ≡ high) → LeadsOut s id next l
LeadsOut-step {I} {s} id at next low high option l h top m (inl e) = record { known = ap s.is_known e ∙ top.off.known; back = λ d. h.back (one_down s at low option false l top.off m (d.0, d.1, ap (λ x. s.test x d.0) (sym e) ∙ d.2)) }
LeadsOut-step {I} {s} id at next low high option l h top m (inr e) = record { known = ap s.is_known e ∙ top.on.known; back = λ d. h.back (one_down s at high option true l top.on m (d.0, d.1, ap (λ x. s.test x d.0) (sym e) ∙ d.2)) }

-- such a literal isn't taken
pub out_not_taken : {I : Type 0} {s : Sets I} → IsLawful s → (rest : List Bool → Bool) (most : I) (l : Literal) → s.is_known most ≡ true → l.option < s.options → LeavesOut s most l → is_taken s.options rest (s.test most) l ≡ false
out_not_taken {I} {s} lawful rest most l k m d = by (is_some s.options 0 (λ c. rest c && literal_holds l c)) (any_some s.options 0 (λ c. literal_holds l c && not (s.test most c)) (AsksFrom-outside 0 s.options (literal_holds l) (s.test most) (literal_asks 0 s.options l (omega arith) (omega (arith, m))) (asks_known lawful most k)) d.0 (λ i. d.1 i && not (d.2 i)))
  where
    by : (a : Bool) {b : Bool} → b ≡ true → (a && not b) ≡ false
    by true e = ap not e
    by false e = refl
