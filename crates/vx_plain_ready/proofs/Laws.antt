-- Chains of classes that are made ready or begin.
use Rattle.std.proofs.Common.{◌≡◌, ℕ, ◌+◌, ◌<◌, ◌++◌, Bool, true, false, List, [], ◌∷◌, map, length, drop, get_or, refl, sym, ap, ◌∙◌, subst, cond, reverse, arith, add-one, drop-cons}
use Rattle.std.proofs.lemmas.List.{length-reverse, reverse-append}
use Rattle.std.specs.Prelude.{find, not, Some}
use Rattle.vx_java.proofs.Chains.{not_begun}
use Rattle.vx_java.specs.Ids.{as_class}
use Rattle.vx_java.specs.Initialisation.{by_state, has_failed, init_chain, init_frame, is_failed, quiet_chain, when_initialised, when_not, with_frames}
use Rattle.vx_java.specs.Machine as machine
use Rattle.vx_java.specs.Machine.{Begin, Frame, Here, Outcome, State, init_at, with_inits}
use Rattle.vx_link.specs.declared.program.Program.{Program}
use Rattle.vx_plain.specs.Frames.{with_frame}
use Rattle.vx_plain_here.specs.Rows.{ComesTo}
use Rattle.vx_plain_here.specs.declared.outcome.Outcome as plain
use Rattle.vx_plain_ready.specs.Ready.{Proceeds}
use Rattle.vx_plain_ready.specs.Waiting.{numbers_of, roused, waiting}
use Rattle.vx_value.specs.declared.ids.ClassId.{ClassId}
use Rattle.vx_value.specs.declared.key.Kind.TheVariants.{Wait}
use Rattle.vx_value.specs.declared.slot.InitState.{InitState}
use Rattle.vx_value.specs.declared.slot.InitState.TheVariants.{Done, Failed, Not, Running}

pub numbers_back : (numbers : List ℕ) → numbers_of (map as_class numbers) ≡ numbers
numbers_back [] = refl
numbers_back (n ∷ ns) = ap (λ ms. n ∷ ms) (numbers_back ns)

-- ---- ready

pub done : (h : Here) (c : ℕ) → init_at h.state.inits c ≡ Done → Proceeds h c h.state
done h c e = record { same = λ rest. ap (λ i. by_state h c i rest) e; top = refl; stands = refl }

pub running : (h : Here) (c : ℕ) → init_at h.state.inits c ≡ Running → Proceeds h c h.state
running h c e = record { same = λ rest. ap (λ i. by_state h c i rest) e; top = refl; stands = refl }

pub quiet : (h : Here) (c : ℕ) (new : State) → init_at h.state.inits c ≡ Not → quiet_chain h.program h.state.inits c ≡ true → new ≡ with_inits h.state Done (init_chain h.program h.state.inits c) → Proceeds h c new
quiet h c new e q is =
    rw is (record { same = λ rest. ap (λ i. by_state h c i rest) e ∙ ap (λ b. when_not h c b rest) q; top = refl; stands = refl })

pub begins : (h : Here) (c : ℕ) (rest : Here → Outcome) → init_at h.state.inits c ≡ Not → quiet_chain h.program h.state.inits c ≡ false → Begin c h.state ≡ when_initialised h c rest
begins h c rest e q = sym (ap (λ i. by_state h c i rest) e ∙ ap (λ b. when_not h c b rest) q)

pub fails : (h : Here) (c : ℕ) (rest : Here → Outcome) (told : Outcome) (outcome : plain.Outcome) → init_at h.state.inits c ≡ Failed → told ≡ by_state h c Failed rest → ComesTo told h.state h.state outcome → ComesTo (when_initialised h c rest) h.state h.state outcome
fails h c rest told outcome e is comes = subst (λ o. ComesTo o h.state h.state outcome) (is ∙ sym (ap (λ i. by_state h c i rest) e)) comes

-- ---- above a chain

abbrev pub failed_on : List InitState → List ℕ → Bool
failed_on inits classes = has_failed inits (find (λ d. not (not_begun inits d)) classes)

pub failed_goes_on : (inits : List InitState) (c : ℕ) (above : List ℕ) → not_begun inits c ≡ true → failed_on inits (c ∷ above) ≡ failed_on inits above
failed_goes_on inits c above e = ap (λ b. has_failed inits (cond (not b) (Some c) (find (λ d. not (not_begun inits d)) above))) e

pub failed_above : (inits : List InitState) (c : ℕ) (above : List ℕ) → not_begun inits c ≡ false → failed_on inits (c ∷ above) ≡ is_failed (init_at inits c)
failed_above inits c above e = ap (λ b. has_failed inits (cond (not b) (Some c) (find (λ d. not (not_begun inits d)) above))) e

-- ---- frames

pub pushed : (p : Program) (s : State) (classes : List ClassId) (i : ℕ) (d : ClassId) → i < length classes
    → waiting p (with_frame s (init_frame p Wait (get_or classes i d).0)) (numbers_of (drop (i + 1) classes)) ≡ waiting p s (numbers_of (drop i classes))
pushed p s classes i d lt = rw add-one (sym (ap (λ cs. waiting p s (numbers_of cs)) (drop-cons classes i d lt)))

-- the frames that wait, the one on top first
abbrev stacked : Program → State → List ℕ → State
stacked p s [] = s
stacked p s (c ∷ below) = record s { top = init_frame p Wait c; callers = map (init_frame p Wait) below ++ s.top ∷ s.callers }

more_callers : (p : Program) (cs : List ℕ) (c : ℕ) (rest : List Frame) → map (init_frame p Wait) cs ++ init_frame p Wait c ∷ rest ≡ map (init_frame p Wait) (cs ++ c ∷ []) ++ rest
more_callers p [] c rest = refl
more_callers p (d ∷ ds) c rest = ap (λ fs. init_frame p Wait d ∷ fs) (more_callers p ds c rest)

one_below : (p : Program) (s : State) (c : ℕ) (cs : List ℕ) → stacked p (with_frame s (init_frame p Wait c)) cs ≡ stacked p s (cs ++ c ∷ [])
one_below p s c [] = refl
one_below p s c (d ∷ ds) = ap (λ fs. record s { top = init_frame p Wait d; callers = fs }) (more_callers p ds c (s.top ∷ s.callers))

waits : (p : Program) (s : State) (chain : List ℕ) → waiting p s chain ≡ stacked p s (reverse chain)
waits p s [] = refl
waits p s (c ∷ above) = waits p (with_frame s (init_frame p Wait c)) above ∙ one_below p s c (reverse above) ∙ ap (stacked p s) (sym (reverse-append (c ∷ []) above))

wakes : (p : Program) (s : State) (cs : List ℕ) → 0 < length cs → roused (stacked p s cs) ≡ with_frames p s cs
wakes p s [] some = absurd (omega (arith, some))
wakes p s (c ∷ below) some = refl

pub rouses : (p : Program) (s : State) (chain : List ℕ) → 0 < length chain → roused (waiting p s chain) ≡ with_frames p s (reverse chain)
rouses p s chain some = ap roused (waits p s chain) ∙ wakes p s (reverse chain) (omega (arith, some, length-reverse chain))

pub none_rouse : (p : Program) (s : State) (chain : List ℕ) → length chain ≡ 0 → waiting p s chain ≡ with_frames p s (reverse chain)
none_rouse p s [] none = refl
none_rouse p s (c ∷ above) none = absurd (omega (arith, none))
