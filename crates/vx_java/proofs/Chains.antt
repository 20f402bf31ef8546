-- Chains of classes whose initialisation has not begun.
use Rattle.std.proofs.Common.{◌<◌, ◌+◌, ◌-◌, ◌||◌, arith, suc, zero, ◌≡◌, ◌∙◌, ◌∷◌, [], List, ap, map, sym, refl, ℕ, Bool, true, false, cond, Option, Some}
use Rattle.std.specs.List.{list_all, list_any, range_with_len}
use Rattle.vx_value.specs.declared.ids.MethodId.{MethodId}
use Rattle.std.specs.Prelude.{find, is_some, not, take_while, ◌&&◌}
use Rattle.std.proofs.lemmas.List.Sums.{take_while-cons}
use Rattle.vx_java.specs.Initialisation.{blocked, blocks, has_failed, is_failed, is_not}
use Rattle.vx_java.specs.Machine.{init_at}
use Rattle.std.specs.Prelude.{slice_get, unwrap_or}
use Rattle.vx_link.specs.Parts.{class_at, is_abstract, is_instance, method_at, no_class}
use Rattle.vx_link.specs.declared.program.LinkedClass.{LinkedClass}
use Rattle.vx_link.specs.declared.program.Program.{Program}
use Rattle.vx_value.specs.declared.slot.InitState.{InitState}

abbrev pub not_begun : List InitState → ℕ → Bool
not_begun inits c = is_not (init_at inits c)

-- the first of these classes that have not begun
abbrev pub begins_with : List InitState → List ℕ → List ℕ
begins_with inits classes = take_while (not_begun inits) classes

pub begins_goes_on : (inits : List InitState) (c : ℕ) (classes : List ℕ) → not_begun inits c ≡ true → begins_with inits (c ∷ classes) ≡ c ∷ begins_with inits classes
begins_goes_on inits c classes e = take_while-cons (not_begun inits) c classes ∙ ap (λ b. cond b (c ∷ begins_with inits classes) []) e

pub begins_stops : (inits : List InitState) (c : ℕ) (classes : List ℕ) → not_begun inits c ≡ false → begins_with inits (c ∷ classes) ≡ []
begins_stops inits c classes e = take_while-cons (not_begun inits) c classes ∙ ap (λ b. cond b (c ∷ begins_with inits classes) []) e

-- a class without <clinit> and blocking interface
abbrev pub is_quiet : Program → ℕ → Bool
is_quiet p c = not (class_at p c).own_initialiser && not (is_some (blocked p c))

-- the quiet of classes from one upward
abbrev pub quiet_on : Program → List InitState → List ℕ → Bool
quiet_on p inits classes =
    list_all (is_quiet p) (begins_with inits classes) && not (has_failed inits (find (λ d. not (not_begun inits d)) classes))

-- what stands above the classes that have not begun
abbrev pub not_failed_above : List InitState → ℕ → List ℕ → Bool → Bool
not_failed_above inits c classes begun = not (has_failed inits (cond (not begun) (Some c) (find (λ d. not (not_begun inits d)) classes)))

pub quiet_goes_on : (p : Program) (inits : List InitState) (c : ℕ) (classes : List ℕ) → not_begun inits c ≡ true → is_quiet p c ≡ true → quiet_on p inits (c ∷ classes) ≡ quiet_on p inits classes
quiet_goes_on p inits c classes begun quiet =
    ap (λ cs. list_all (is_quiet p) cs && not_failed_above inits c classes (not_begun inits c)) (begins_goes_on inits c classes begun)
    ∙ ap (λ b. (is_quiet p c && list_all (is_quiet p) (begins_with inits classes)) && not_failed_above inits c classes b) begun
    ∙ ap (λ b. (b && list_all (is_quiet p) (begins_with inits classes)) && not_failed_above inits c classes true) quiet

pub quiet_stops : (p : Program) (inits : List InitState) (c : ℕ) (classes : List ℕ) → not_begun inits c ≡ true → is_quiet p c ≡ false → quiet_on p inits (c ∷ classes) ≡ false
quiet_stops p inits c classes begun quiet =
    ap (λ cs. list_all (is_quiet p) cs && not_failed_above inits c classes (not_begun inits c)) (begins_goes_on inits c classes begun)
    ∙ ap (λ b. (b && list_all (is_quiet p) (begins_with inits classes)) && not_failed_above inits c classes (not_begun inits c)) quiet

pub quiet_above : (p : Program) (inits : List InitState) (c : ℕ) (classes : List ℕ) → not_begun inits c ≡ false → quiet_on p inits (c ∷ classes) ≡ not (is_failed (init_at inits c))
quiet_above p inits c classes begun =
    ap (λ cs. list_all (is_quiet p) cs && not_failed_above inits c classes (not_begun inits c)) (begins_stops inits c classes begun)
    ∙ ap (not_failed_above inits c classes) begun

-- ---- numbers and methods in turn

pub range_step : (from n : ℕ) → 0 < n → range_with_len from n ≡ from ∷ range_with_len (from + 1) (n - 1)
range_step from zero some = absurd (omega arith)
range_step from (suc n) some = ap (λ m. from ∷ range_with_len (from + 1) m) (let e : n ≡ suc n - 1 = omega arith in e)

-- the first number that passes from one on, of so many in all
abbrev pub find_from : (ℕ → Bool) → (from count : ℕ) → Option ℕ
find_from test from count = find test (range_with_len from (count - from))

pub find_step : (test : ℕ → Bool) (from count : ℕ) → from < count → find_from test from count ≡ cond (test from) (Some from) (find_from test (from + 1) count)
find_step test from count within =
    ap (find test) (range_step from (count - from) (omega arith))
    ∙ ap (λ n. cond (test from) (Some from) (find test (range_with_len (from + 1) n))) (let e : count - from - 1 ≡ count - (from + 1) = omega arith in e)

pub any_number : (test : ℕ → Bool) (methods : List MethodId) → list_any (λ m. test m.0) methods ≡ list_any test (map (λ m. m.0) methods)
any_number test [] = refl
any_number test (m ∷ ms) = ap (λ b. test m.0 || b) (any_number test ms)

-- ---- blocking interfaces

abbrev pub has_body : Program → ℕ → Bool
has_body p m = is_instance (method_at p m) && not (is_abstract (method_at p m))

abbrev pub blocks_as : Program → LinkedClass → Bool
blocks_as p c = c.own_initialiser && list_any (has_body p) (map (λ m. m.0) c.methods)

pub blocks_at : (p : Program) (place : ℕ) (c : LinkedClass) → Some c ≡ slice_get p.classes place → c.own_initialiser ≡ true → list_any (λ m. has_body p m.0) c.methods ≡ blocks p place
blocks_at p place c at own =
    any_number (has_body p) c.methods
    ∙ ap (λ b. b && list_any (has_body p) (map (λ m. m.0) c.methods)) (sym own)
    ∙ ap (λ (o : Option LinkedClass). blocks_as p (unwrap_or o no_class)) at
