-- What an instruction makes of types that each typing has, each typing has too; and where it is refused there is no typing.
use Rattle.std.proofs.Common.{List, Option, Some, [], refl, subst, sym, true, ℕ, ◌∙◌, ◌∷◌, ◌≡◌}
use Rattle.std.proofs.lemmas.List.Elements.{All-weaker}
use Rattle.std.specs.Prelude.{All}
use Rattle.vx_class.specs.declared.class_file.Catch.{Catch}
use Rattle.vx_class.specs.declared.class_file.Code.{Code}
use Rattle.vx_java.specs.Selection.{covers}
use Rattle.vx_link.specs.declared.program.Program.{Program}
use Rattle.vx_types.proofs.FitLaws.{all_itself, state_through}
use Rattle.vx_types.proofs.Flows.{flow_below}
use Rattle.vx_types.specs.Fits.{StateFits, all_fit}
use Rattle.vx_types.specs.Flow.{Flow, Next, Refuses, flow_of}
use Rattle.vx_types.specs.Ranked.{IsRanked}
use Rattle.vx_types.specs.Types.{VerState}
use Rattle.vx_verify.specs.Forced.{AreUnlike, IsForced, IsMerged, IsUntyped}
use Rattle.vx_verify.specs.Typing.{IsReached, IsTyping, LeadsOn, caught, handler_state, start_state}

-- ---- what a typing reaches

pub reached_below : (p : Program) → IsRanked p → (typing : ℕ → Option VerState) (position : ℕ) (s t : VerState) → StateFits p s t → IsReached p typing position t → IsReached p typing position s
reached_below p r typing position s t h reached =
    record { state = reached.state; covered = reached.covered; fitting = state_through p r s t reached.state h reached.fitting }

all_below : (p : Program) → IsRanked p → (typing : ℕ → Option VerState) (s t : VerState) → StateFits p s t → (positions : List ℕ)
    → All (λ position. IsReached p typing position t) positions → All (λ position. IsReached p typing position s) positions
all_below p r typing s t h positions all =
    All-weaker (λ position. IsReached p typing position t) (λ position. IsReached p typing position s) (λ position reached. reached_below p r typing position s t h reached) positions all

-- what leads on with types, leads on with types that fit them
leads_below : (p : Program) → IsRanked p → (m : ℕ) (code : Code) (typing : ℕ → Option VerState) (at : ℕ) (s t made : VerState) (targets : List ℕ) (flow : Flow)
    → StateFits p s t → flow_of p m code at s ≡ Next made targets → flow_of p m code at t ≡ flow → LeadsOn p typing flow → All (λ position. IsReached p typing position made) targets
leads_below p r m code typing at s t made targets Refuses h e f leads = absurd leads
leads_below p r m code typing at s t made targets (Next above others) h e f leads =
    let below = flow_below p m code at s t above others r h f in
    let same : Next below.made others ≡ Next made targets = sym below.flows ∙ e in
    let same_state : below.made ≡ made = cc in
    let same_targets : others ≡ targets = cc in
    subst (λ (u : VerState). All (λ position. IsReached p typing position u) targets) same_state
    (subst (λ (qs : List ℕ). All (λ position. IsReached p typing position below.made) qs) same_targets
    (all_below p r typing below.made above below.fitting others leads))

-- what is refused with types, is refused with types above them
refused_above : (p : Program) → IsRanked p → (m : ℕ) (code : Code) (typing : ℕ → Option VerState) (at : ℕ) (s t : VerState) (flow : Flow)
    → StateFits p s t → flow_of p m code at s ≡ Refuses → flow_of p m code at t ≡ flow → LeadsOn p typing flow → ⊥
refused_above p r m code typing at s t Refuses h e f leads = leads
refused_above p r m code typing at s t (Next above targets) h e f leads =
    let below = flow_below p m code at s t above targets r h f in
    let same : Next below.made targets ≡ Refuses = sym below.flows ∙ e in
    absurd cc

-- ---- what each typing has

pub start_forced : (p : Program) (m : ℕ) (code : Code) → IsForced p m code 0 (start_state p m code)
start_forced p m code typing is = is.start

pub targets_forced : (p : Program) → IsRanked p → (m : ℕ) (code : Code) (at : ℕ) (s made : VerState) (targets : List ℕ)
    → IsForced p m code at s → flow_of p m code at s ≡ Next made targets → (typing : ℕ → Option VerState) → IsTyping p m code typing
    → All (λ position. IsReached p typing position made) targets
targets_forced p r m code at s made targets forced e typing is =
    let reached = forced typing is in
    leads_below p r m code typing at s reached.state made targets (flow_of p m code at reached.state) reached.fitting e refl
    (is.instructions at reached.state reached.covered)

pub refused_untyped : (p : Program) → IsRanked p → (m : ℕ) (code : Code) (at : ℕ) (s : VerState) → IsForced p m code at s → flow_of p m code at s ≡ Refuses → IsUntyped p m code
refused_untyped p r m code at s forced e typing is =
    let reached = forced typing is in
    refused_above p r m code typing at s reached.state (flow_of p m code at reached.state) reached.fitting e refl
    (is.instructions at reached.state reached.covered)

-- the handler of a row that covers a position, one of several rows
handled : (p : Program) → IsRanked p → (m : ℕ) (typing : ℕ → Option VerState) (at : ℕ) (row : Catch) (s t : VerState) → StateFits p s t
    → (covers row at ≡ true → IsReached p typing row.handler (handler_state p m row t)) → covers row at ≡ true → IsReached p typing row.handler (handler_state p m row s)
handled p r m typing at row s t h reached c =
    reached_below p r typing row.handler (handler_state p m row s) (handler_state p m row t)
    (record { locals = h.locals; operands = caught_fits }) (reached c)
  where
    caught_fits : all_fit p (caught p m row ∷ []) (caught p m row ∷ []) ≡ true
    caught_fits = all_itself p r (caught p m row ∷ [])

handlers_below : (p : Program) → IsRanked p → (m : ℕ) (typing : ℕ → Option VerState) (at : ℕ) (s t : VerState) → StateFits p s t → (rows : List Catch)
    → All (λ row. covers row at ≡ true → IsReached p typing row.handler (handler_state p m row t)) rows
    → All (λ row. covers row at ≡ true → IsReached p typing row.handler (handler_state p m row s)) rows
handlers_below p r m typing at s t h rows all =
    All-weaker (λ row. covers row at ≡ true → IsReached p typing row.handler (handler_state p m row t)) (λ row. covers row at ≡ true → IsReached p typing row.handler (handler_state p m row s))
    (λ row reached. handled p r m typing at row s t h reached) rows all

pub handlers_forced : (p : Program) → IsRanked p → (m : ℕ) (code : Code) (at : ℕ) (s : VerState) → IsForced p m code at s → (typing : ℕ → Option VerState) → IsTyping p m code typing
    → All (λ row. covers row at ≡ true → IsReached p typing row.handler (handler_state p m row s)) code.catches
handlers_forced p r m code at s forced typing is =
    let reached = forced typing is in
    handlers_below p r m typing at s reached.state reached.fitting code.catches (is.handlers at reached.state reached.covered)

-- ---- merging

pub same_some : {A : Type 0} {x y : A} → Some x ≡ Some y → x ≡ y
same_some h = cc

-- a position is covered once
pub merged_forced : (p : Program) (m : ℕ) (code : Code) (position : ℕ) (s t merged : VerState) → IsMerged p s t merged → IsForced p m code position s → IsForced p m code position t
    → IsForced p m code position merged
merged_forced p m code position s t merged is one other typing h =
    let first = one typing h in
    let second = other typing h in
    let same : second.state ≡ first.state = same_some (sym second.covered ∙ first.covered) in
    record {
      state = first.state;
      covered = first.covered;
      fitting = is.least first.state first.fitting (subst (λ (u : VerState). StateFits p t u) same second.fitting);
    }

pub unlike_untyped : (p : Program) (m : ℕ) (code : Code) (position : ℕ) (s t : VerState) → AreUnlike p code s t → IsForced p m code position s → IsForced p m code position t → IsUntyped p m code
unlike_untyped p m code position s t unlike one other typing h =
    let first = one typing h in
    let second = other typing h in
    let same : second.state ≡ first.state = same_some (sym second.covered ∙ first.covered) in
    unlike first.state first.fitting (subst (λ (u : VerState). StateFits p t u) same second.fitting) (h.operands position first.state first.covered)
