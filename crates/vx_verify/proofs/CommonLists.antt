-- What lists of types have in common, one by one.
use Rattle.std.proofs.Common.{List, [], ap, length, refl, suc, take, true, zero, ℕ, ◌++◌, ◌∷◌, ◌≡◌}
use Rattle.vx_link.specs.declared.program.Program.{Program}
use Rattle.vx_types.proofs.CommonLaws.{common_of_fitting}
use Rattle.vx_types.proofs.FitLaws.{fits_itself}
use Rattle.vx_types.proofs.Lists.{head_fits, list_fits, tail_fits}
use Rattle.vx_types.specs.Fits.{all_fit}
use Rattle.vx_types.specs.Ranked.{IsRanked}
use Rattle.vx_types.specs.declared.types.VerType.{VerType}
use Rattle.vx_verify.specs.States.{AreCommon}

pub common_itself : (p : Program) → IsRanked p → (ts : List VerType) → AreCommon p ts ts ts
common_itself p r [] = tt
common_itself p r (t ∷ ts) = (common_of_fitting p r t t (fits_itself p r t), common_itself p r ts)

pub common_append : (p : Program) (ts us vs es bs cs : List VerType) → AreCommon p ts us vs → AreCommon p es bs cs → AreCommon p (ts ++ es) (us ++ bs) (vs ++ cs)
common_append p [] [] [] es bs cs h k = k
common_append p (t ∷ ts) (u ∷ us) (v ∷ vs) es bs cs h k = (h.0, common_append p ts us vs es bs cs h.1 k)
common_append p _ _ _ es bs cs h k = absurd h

pub common_above_one : (p : Program) (ts us vs : List VerType) → AreCommon p ts us vs → all_fit p ts vs ≡ true
common_above_one p [] [] [] h = refl
common_above_one p (t ∷ ts) (u ∷ us) (v ∷ vs) h = list_fits p t v ts vs h.0.above_one (common_above_one p ts us vs h.1)
common_above_one p _ _ _ h = absurd h

pub common_above_other : (p : Program) (ts us vs : List VerType) → AreCommon p ts us vs → all_fit p us vs ≡ true
common_above_other p [] [] [] h = refl
common_above_other p (t ∷ ts) (u ∷ us) (v ∷ vs) h = list_fits p u v us vs h.0.above_other (common_above_other p ts us vs h.1)
common_above_other p _ _ _ h = absurd h

pub common_least : (p : Program) (ts us vs ws : List VerType) → AreCommon p ts us vs → all_fit p ts ws ≡ true → all_fit p us ws ≡ true → all_fit p vs ws ≡ true
common_least p [] [] [] [] h one other = refl
common_least p (t ∷ ts) (u ∷ us) (v ∷ vs) (w ∷ ws) h one other =
    list_fits p v w vs ws (h.0.least w (head_fits p t w ts ws one) (head_fits p u w us ws other))
    (common_least p ts us vs ws h.1 (tail_fits p t w ts ws one) (tail_fits p u w us ws other))
common_least p [] [] [] (w ∷ ws) h one other = absurd cc
common_least p (t ∷ ts) (u ∷ us) (v ∷ vs) [] h one other = absurd cc
common_least p _ _ _ ws h one other = absurd h

pub common_take : (p : Program) (n : ℕ) (ts us vs : List VerType) → AreCommon p ts us vs → AreCommon p (take n ts) (take n us) (take n vs)
common_take p zero ts us vs h = tt
common_take p (suc n) [] [] [] h = tt
common_take p (suc n) (t ∷ ts) (u ∷ us) (v ∷ vs) h = (h.0, common_take p n ts us vs h.1)
common_take p (suc n) _ _ _ h = absurd h

pub fit_lengths : (p : Program) (ts us : List VerType) → all_fit p ts us ≡ true → length ts ≡ length us
fit_lengths p [] [] h = refl
fit_lengths p (t ∷ ts) (u ∷ us) h = ap suc (fit_lengths p ts us (tail_fits p t u ts us h))
fit_lengths p _ _ h = absurd cc
