-- What comes of a row that needs a class, at one configuration: by the sets in which it proceeds and fails.
use Rattle.std.proofs.Common.{◌≡◌, ℕ, zero, suc, Bool, true, false, List, [], ◌&&◌, refl, ◌∙◌, ap}
use Rattle.std.specs.Prelude.{Some, if◌then◌else◌, not}
use Rattle.vx_heap.specs.Heap.{Globals}
use Rattle.vx_java.specs.Initialisation.{by_state, init_chain, is_failed, is_not, quiet_chain, when_initialised, when_not}
use Rattle.vx_java.specs.Machine.{Here, Outcome, State, illegal, init_at, when}
use Rattle.vx_java.proofs.Chains.{begins_stops, begins_with, quiet_above, quiet_on}
use Rattle.vx_link.specs.Hierarchy.{chain_within, superclass_of}
use Rattle.vx_link.specs.Parts.{class_count}
use Rattle.vx_link.specs.declared.program.Program.{Program}
use Rattle.vx_group_states.specs.Sites.{here}
use Rattle.vx_group_states.specs.declared.site.Site.{Site}
use Rattle.vx_value.specs.declared.slot.InitState.{InitState}
use Rattle.vx_value.specs.declared.slot.InitState.TheVariants.{Not, Running, Done, Failed}
use Rattle.vx_ready.specs.Changing.{with_globals}
use Rattle.vx_ready.specs.Initialising.{goes_on, has_failed, readied, stopped, with_done}

abbrev pub globals_of : State → Globals
globals_of s = record { objects = s.heap; statics = s.statics; inits = s.inits }

-- ---- a class that has begun, and has not failed

chain_begun : (p : Program) (inits : List InitState) (n class : ℕ) → is_not (init_at inits class) ≡ false → begins_with inits (chain_within p n (Some class)) ≡ []
chain_begun p inits zero class h = refl
chain_begun p inits (suc n) class h = begins_stops inits class (chain_within p n (superclass_of p class)) h

quiet_begun : (p : Program) (inits : List InitState) (n class : ℕ) → is_not (init_at inits class) ≡ false → is_failed (init_at inits class) ≡ false → quiet_on p inits (chain_within p n (Some class)) ≡ true
quiet_begun p inits zero class h f = refl
quiet_begun p inits (suc n) class h f = quiet_above p inits class (chain_within p n (superclass_of p class)) h ∙ ap not f

-- the row of a state, in a state that is told by its globals
abbrev row_after : Site → (class : ℕ) → (rest : Here → Outcome) → State → (g f n : Bool) → Globals → Outcome
row_after site class rest s g f n x = if g then rest (here site (with_globals s x)) else stopped (here site (with_globals s x)) class n f

-- it begins: by the quiet of its chain
not_begun : (site : Site) (class : ℕ) (rest : Here → Outcome) (s : State) (quiet : Bool) → row_after site class rest s quiet false true (if quiet then with_done (init_chain site.program.now s.inits class) (globals_of s) else globals_of s) ≡ when_not (here site s) class quiet rest
not_begun site class rest s true = refl
not_begun site class rest s false = refl

-- it has begun: nothing is marked
begun : (site : Site) (class : ℕ) (rest : Here → Outcome) (s : State) (quiet : Bool) (chain : List ℕ) → quiet ≡ true → chain ≡ [] → row_after site class rest s quiet false true (if quiet then with_done chain (globals_of s) else globals_of s) ≡ rest (here site s)
begun site class rest s quiet chain q e = rw (q, e) refl

by_init : (site : Site) (class : ℕ) (rest : Here → Outcome) (s : State) (state : InitState) (failed quiet : Bool) (chain : List ℕ) → failed ≡ is_failed state → chain ≡ init_chain site.program.now s.inits class → (is_not state ≡ false → is_failed state ≡ false → (quiet ≡ true) × (chain ≡ [])) → quiet ≡ quiet_chain site.program.now s.inits class → row_after site class rest s (not failed && quiet) failed true (if (not failed && quiet) then with_done chain (globals_of s) else globals_of s) ≡ by_state (here site s) class state rest
by_init site class rest s Not failed quiet chain f e b q = rw (f, e) (ap (λ w. row_after site class rest s w false true (if w then with_done (init_chain site.program.now s.inits class) (globals_of s) else globals_of s)) q ∙ not_begun site class rest s (quiet_chain site.program.now s.inits class))
by_init site class rest s Running failed quiet chain f e b q = rw f (begun site class rest s quiet chain (b refl refl).0 (b refl refl).1)
by_init site class rest s Done failed quiet chain f e b q = rw f (begun site class rest s quiet chain (b refl refl).0 (b refl refl).1)
by_init site class rest s Failed failed quiet chain f e b q = rw f refl

needing : (site : Site) (class : ℕ) (rest : Here → Outcome) (s : State) (room : Bool) → row_after site class rest s (room && goes_on site.program.now s.inits class) (room && has_failed s.inits class) room (readied site.program.now class room (globals_of s)) ≡ when room (when_initialised (here site s) class rest) (illegal (here site s))
needing site class rest s false = refl
needing site class rest s true =
    let p = site.program.now in
    by_init site class rest s (init_at s.inits class) (has_failed s.inits class) (quiet_chain p s.inits class) (init_chain p s.inits class) refl refl (λ h f. (quiet_begun p s.inits (class_count p) class h f, chain_begun p s.inits (class_count p) class h)) refl

-- by the tests of the three sets
pub ready_row : (site : Site) (class : ℕ) (rest : Here → Outcome) (s : State) (room n f g : Bool) → n ≡ room → f ≡ (n && has_failed s.inits class) → g ≡ (n && goes_on site.program.now s.inits class) → (if g then rest (here site (with_globals s (readied site.program.now class n (globals_of s)))) else stopped (here site (with_globals s (readied site.program.now class n (globals_of s)))) class n f) ≡ when room (when_initialised (here site s) class rest) (illegal (here site s))
ready_row site class rest s room n f g h i k =
    (λ j. row_after site class rest s (k j) (i j) n (readied site.program.now class n (globals_of s)))
    ∙ ap (λ w. row_after site class rest s (w && goes_on site.program.now s.inits class) (w && has_failed s.inits class) w (readied site.program.now class w (globals_of s))) h
    ∙ needing site class rest s room
