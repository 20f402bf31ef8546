-- Sets of a space that grows, and rules one after the other.
use Rattle.std.proofs.Common.{◌≡◌, ℕ, zero, ◌+◌, ◌<◌, ◌≤◌, suc, List, [], ◌∷◌, ◌++◌, length, take, get_or, Bool, true, false, ◌&&◌, ◌||◌, refl, sym, ap, ◌∙◌, subst, arith, add-one}
use Rattle.std.proofs.Math.Seq.{take-suc}
use Rattle.vx_space.proofs.Spaces.{Extends-trans}
use Rattle.vx_space.specs.Sets.{Sets, IsSet, Extends}
use Rattle.vx_model.specs.Formula.{Formula, formulas, formula_size, all_sizes}
use Rattle.vx_model.specs.Truth.{truth, all_true, any_true, NamesBelow, AllNamesBelow}

-- the later state extends the earlier one, and the id has this set there
pub record IsSetSince {I : Type 0} (old new : Sets I) (id : I) (set : List Bool → Bool) : Type 0 where
  pub extends : Extends old new
  pub is_set : IsSet new id set

and_assoc : (a b c : Bool) → (a && b) && c ≡ a && (b && c)
and_assoc true b c = refl
and_assoc false b c = refl

and_true : (a : Bool) → a && true ≡ a
and_true true = refl
and_true false = refl

or_assoc : (a b c : Bool) → (a || b) || c ≡ a || (b || c)
or_assoc true b c = refl
or_assoc false b c = refl

or_false : (a : Bool) → a || false ≡ a
or_false true = refl
or_false false = refl

-- one more rule
pub all_true-append : (fs : List Formula) (f : Formula) (c : List Bool) → all_true (formulas (fs ++ f ∷ [])) c ≡ all_true (formulas fs) c && truth f c
all_true-append [] f c = and_true (truth f c)
all_true-append (g ∷ gs) f c = ap (λ b. truth g c && b) (all_true-append gs f c) ∙ sym (and_assoc (truth g c) (all_true (formulas gs) c) (truth f c))

pub any_true-append : (fs : List Formula) (f : Formula) (c : List Bool) → any_true (formulas (fs ++ f ∷ [])) c ≡ any_true (formulas fs) c || truth f c
any_true-append [] f c = or_false (truth f c)
any_true-append (g ∷ gs) f c = ap (λ b. truth g c || b) (any_true-append gs f c) ∙ sym (or_assoc (truth g c) (any_true (formulas gs) c) (truth f c))

next_rule : (rules : List Formula) (i : ℕ) (rule : Formula) → i < length rules → rule ≡ get_or rules i rule → take (i + 1) rules ≡ take i rules ++ rule ∷ []
next_rule rules i rule lt e = ap (λ k. take k rules) (add-one i) ∙ take-suc rules i rule lt ∙ ap (λ f. take i rules ++ f ∷ []) (sym e)

-- a set that is cut by one more rule
pub all_goes_on : {I : Type 0} (start before middle after : Sets I) (rules : List Formula) (i : ℕ) (rule : Formula) (set held new : I)
    → i < length rules → rule ≡ get_or rules i rule → IsSetSince start before set (all_true (formulas (take i rules)))
    → Extends before middle → IsSet middle held (truth rule) → Extends middle after
    → IsSet after new (λ c. middle.test set c && middle.test held c) → IsSetSince start after new (all_true (formulas (take (i + 1) rules)))
all_goes_on start before middle after rules i rule set held new lt e since one is_held two is_new = record {
  extends = Extends-trans (Extends-trans since.extends one) two;
  is_set = record {
    known = is_new.known;
    test = λ c. is_new.test c ∙ ap (λ b. b && middle.test held c) (one.test set c since.is_set.known ∙ since.is_set.test c)
        ∙ ap (λ b. all_true (formulas (take i rules)) c && b) (is_held.test c)
        ∙ sym (ap (λ fs. all_true (formulas fs) c) (next_rule rules i rule lt e) ∙ all_true-append (take i rules) rule c);
  };
}

-- a set that is widened by one more rule
pub any_goes_on : {I : Type 0} (start before middle after : Sets I) (rules : List Formula) (i : ℕ) (rule : Formula) (set held new : I)
    → i < length rules → rule ≡ get_or rules i rule → IsSetSince start before set (any_true (formulas (take i rules)))
    → Extends before middle → IsSet middle held (truth rule) → Extends middle after
    → IsSet after new (λ c. middle.test set c || middle.test held c) → IsSetSince start after new (any_true (formulas (take (i + 1) rules)))
any_goes_on start before middle after rules i rule set held new lt e since one is_held two is_new = record {
  extends = Extends-trans (Extends-trans since.extends one) two;
  is_set = record {
    known = is_new.known;
    test = λ c. is_new.test c ∙ ap (λ b. b || middle.test held c) (one.test set c since.is_set.known ∙ since.is_set.test c)
        ∙ ap (λ b. any_true (formulas (take i rules)) c || b) (is_held.test c)
        ∙ sym (ap (λ fs. any_true (formulas fs) c) (next_rule rules i rule lt e) ∙ any_true-append (take i rules) rule c);
  };
}

-- a rule of a list
pub size_at : (rules : List Formula) (i : ℕ) (rule : Formula) → i < length rules → rule ≡ get_or rules i rule → formula_size rule + 1 ≤ all_sizes (formulas rules)
size_at [] i rule lt e = absurd (omega arith)
size_at (f ∷ fs) zero rule lt e = rw e (omega arith)
size_at (f ∷ fs) (suc i) rule lt e = let lower : i < length fs = omega arith in omega (arith, size_at fs i rule lower e)

pub names_at : (n : ℕ) (rules : List Formula) (i : ℕ) (rule : Formula) → i < length rules → rule ≡ get_or rules i rule → AllNamesBelow n (formulas rules) → NamesBelow n rule
names_at n [] i rule lt e h = absurd (omega arith)
names_at n (f ∷ fs) zero rule lt e h = subst (NamesBelow n) (sym e) h.0
names_at n (f ∷ fs) (suc i) rule lt e h = let lower : i < length fs = omega arith in names_at n fs i rule lower e h.1

pub names_since : (m n : ℕ) (rules : List Formula) (i : ℕ) (rule : Formula) → m ≡ n → i < length rules → rule ≡ get_or rules i rule → AllNamesBelow n (formulas rules) → NamesBelow m rule
names_since m n rules i rule same lt e h = subst (λ k. NamesBelow k rule) (sym same) (names_at n rules i rule lt e h)
