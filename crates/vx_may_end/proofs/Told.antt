-- What an outcome lacks is among lacks, at a place. Here is what many rows share.
use Rattle.std.proofs.Common.{Bool, List, None, Option, Some, [], bytes_eq, false, if◌then◌else◌, refl, true, ℕ, ◌++◌, ◌∙◌, ◌∷◌, ◌≡◌}
use Rattle.std.proofs.lemmas.Bool.{or_left}
use Rattle.std.proofs.lemmas.List.Folds.{list_any-append}
use Rattle.std.specs.Cmp.Derive.{both_true}
use Rattle.std.specs.List.{list_all}
use Rattle.vx_pool.specs.Holding.{and_true}
use Rattle.vx_java.specs.Calls.{if_arguments}
use Rattle.vx_java.specs.Checks.{if_there, with_class}
use Rattle.vx_java.specs.Initialisation.{by_state, init_chain, quiet_chain, when_initialised, when_not}
use Rattle.vx_java.specs.Machine.{Begin, Ended, Here, Outcome, Value, in_state, init_at, inits_with, place, unsupported, when}
use Rattle.vx_kept_facts.proofs.Places.{or_right}
use Rattle.vx_link.specs.ClassNames.{class_named}
use Rattle.vx_link.specs.declared.program.Program.{Program}
use Rattle.vx_spelled_ends.proofs.Tests.{same_test}
use Rattle.vx_value.specs.declared.end.End.{End}
use Rattle.vx_value.specs.declared.end.End.TheVariants.{Unsupported}
use Rattle.vx_value.specs.declared.slot.InitState.{InitState}
use Rattle.vx_value.specs.declared.slot.InitState.TheVariants as init
use Rattle.vx_may_end.specs.Lacks.{lack, of_class, of_initialisation, of_there}
use Rattle.vx_may_end.specs.Listed.{is_lack, is_one}
use Rattle.vx_may_end.specs.declared.lack.Lack.{Lack}
use Rattle.vx_may_end.specs.declared.lack.When.{When}
use Rattle.vx_may_end.proofs.Quiet.{IsQuiet}

-- ---- lacks

abbrev pub are_lacks : List Lack → List Lack → Bool
are_lacks ls these = list_all (λ l. is_lack ls l.word l.what) these

-- whatever is among these is among those
abbrev pub Within : List Lack → List Lack → Type 0
Within these those = (word : ℕ) (what : List ℕ) → is_lack these word what ≡ true → is_lack those word what ≡ true

pub same_text : (bytes : List ℕ) → bytes_eq bytes bytes ≡ true
same_text [] = refl
same_text (b ∷ bytes) = both_true (same_test b b refl) (same_text bytes)

pub is_itself : (l : Lack) → is_one l.word l.what l ≡ true
is_itself l = both_true (same_test l.word l.word refl) (same_text l.what)

pub front : (ls ms : List Lack) → Within ls (ls ++ ms)
front ls ms word what e = list_any-append (is_one word what) ls ms ∙ or_left _ _ e

pub behind : (ls ms : List Lack) → Within ms (ls ++ ms)
behind ls ms word what e = list_any-append (is_one word what) ls ms ∙ or_right (is_lack ls word what) _ e

are_within : (ls ms these : List Lack) → Within ls ms → are_lacks ls these ≡ true → are_lacks ms these ≡ true
are_within ls ms [] within e = refl
are_within ls ms (l ∷ these) within e =
    let parts = and_true (is_lack ls l.word l.what) (are_lacks ls these) e in
    both_true (within l.word l.what parts.0) (are_within ls ms these within parts.1)

-- all are among all
pub are_all : (before these : List Lack) → are_lacks (before ++ these) these ≡ true
are_all before [] = refl
are_all before (l ∷ these) =
    both_true (behind before (l ∷ these) l.word l.what (or_left _ _ (is_itself l)))
    (are_within (these) (before ++ (l ∷ these)) these
    (λ word what e. behind before (l ∷ these) word what (or_right (is_one word what l) _ e)) (are_all [] these))

-- ---- outcomes

abbrev pub IsToldEnd : List Lack → (at : List ℕ) → End → Type 0
IsToldEnd ls at (Unsupported word what place) = (is_lack ls word what ≡ true) × (place ≡ at)
IsToldEnd ls at _ = Unit {0}

-- of a beginning each interface that may block it is among them
abbrev pub TellsOutcome : Program → List Lack → (at : List ℕ) → Outcome → Type 0
TellsOutcome p ls at (Ended e) = IsToldEnd ls at e
TellsOutcome p ls at (Begin c s) = (are_lacks ls (of_initialisation p c) ≡ true) × (place p s ≡ at)
TellsOutcome p ls at _ = Unit {0}

pub record Tells (p : Program) (ls : List Lack) (at : List ℕ) (o : Outcome) : Type 0 where
  pub told : TellsOutcome p ls at o

pub quietly : (p : Program) (ls : List Lack) (at : List ℕ) (o : Outcome) → IsQuiet o → Tells p ls at o
quietly p ls at (Begin class s) q = let wrong = q.holds in absurd cc
quietly p ls at (Ended (Unsupported word what there)) q = let wrong = q.holds in absurd cc
quietly p ls at _ q = record { told = tt }

end_within : (ls ms : List Lack) (at : List ℕ) (e : End) → Within ls ms → IsToldEnd ls at e → IsToldEnd ms at e
end_within ls ms at (Unsupported word what there) within t = (within word what t.0, t.1)
end_within ls ms at _ within t = tt

pub wider : (p : Program) (ls ms : List Lack) (at : List ℕ) (o : Outcome) → Within ls ms → Tells p ls at o → Tells p ms at o
wider p ls ms at (Begin class s) within t = record { told = (are_within ls ms (of_initialisation p class) within t.told.0, t.told.1) }
wider p ls ms at (Ended e) within t = record { told = end_within ls ms at e within t.told }
wider p ls ms at _ within t = record { told = tt }

-- ---- what an instruction comes to

-- the place where it stands
abbrev pub here : Here → List ℕ
here h = place h.program h.state

abbrev pub TellsHere : Here → List Lack → Outcome → Type 0
TellsHere h ls o = Tells h.program ls (here h) o

pub left_out : (h : Here) (when : When) (word : ℕ) (what : List ℕ) → TellsHere h (lack when word what) (unsupported h word what)
left_out h when word what = record { told = (or_left _ _ (both_true (same_test word word refl) (same_text what)), refl) }

pub by_when : (h : Here) (ls : List Lack) (b : Bool) (x y : Outcome) → TellsHere h ls x → TellsHere h ls y → TellsHere h ls (when b x y)
by_when h ls true x y first second = first
by_when h ls false x y first second = second

-- the second one lacks nothing
pub where_true : (h : Here) (ls : List Lack) (b : Bool) (x y : Outcome) → TellsHere h ls x → IsQuiet y → TellsHere h (if b then ls else []) (when b x y)
where_true h ls true x y first second = first
where_true h ls false x y first second = quietly h.program [] (here h) y second

-- the first one lacks nothing
pub where_false : (h : Here) (ls : List Lack) (b : Bool) (x y : Outcome) → IsQuiet x → TellsHere h ls y → TellsHere h (if b then [] else ls) (when b x y)
where_false h ls true x y first second = quietly h.program [] (here h) x first
where_false h ls false x y first second = second

there_told : (h : Here) (when : When) (name : List ℕ) (class : Option ℕ) (more : ℕ → List Lack) (rest : ℕ → Outcome) → ((c : ℕ) → TellsHere h (more c) (rest c))
    → TellsHere h (of_there when name class more) (if_there h name class rest)
there_told h when name None more rest each = left_out h when 6 name
there_told h when name (Some c) more rest each = each c

pub class_told : (h : Here) (when : When) (name : List ℕ) (more : ℕ → List Lack) (rest : ℕ → Outcome) → ((c : ℕ) → TellsHere h (more c) (rest c))
    → TellsHere h (of_class h.program when name more) (with_class h name rest)
class_told h when name more rest each = there_told h when name (class_named h.program name) more rest each

pub arguments_told : (h : Here) (ls : List Lack) (taken : Option (List Value × List Value)) (next : List Value → List Value → Outcome)
    → ((values rest : List Value) → TellsHere h ls (next values rest)) → TellsHere h ls (if_arguments h taken next)
arguments_told h ls None next each = record { told = tt }
arguments_told h ls (Some (values, rest)) next each = each values rest

-- the same state with other states of initialisation
abbrev pub initialised : Here → List InitState → Here
initialised h inits = in_state h (record (h.state) { inits = inits })

-- a class is initialised first; what follows may lack more
pub initialised_told : (h : Here) (c : ℕ) (ls : List Lack) (rest : Here → Outcome)
    → TellsHere h (of_initialisation h.program c ++ ls) (rest h) → ((inits : List InitState) → TellsHere h (of_initialisation h.program c ++ ls) (rest (initialised h inits)))
    → TellsHere h (of_initialisation h.program c ++ ls) (when_initialised h c rest)
initialised_told h c ls rest at_once later = by (init_at h.state.inits c)
  where
    begun : TellsHere h (of_initialisation h.program c ++ ls) (Begin c h.state)
    begun =
        let all = are_within (of_initialisation h.program c) (of_initialisation h.program c ++ ls) (of_initialisation h.program c) (front (of_initialisation h.program c) ls) (are_all [] (of_initialisation h.program c)) in
        record { told = (all, refl) }

    quick : (b : Bool) → TellsHere h (of_initialisation h.program c ++ ls) (when_not h c b rest)
    quick true = later (inits_with h.state.inits init.Done (init_chain h.program h.state.inits c))
    quick false = begun

    by : (i : InitState) → TellsHere h (of_initialisation h.program c ++ ls) (by_state h c i rest)
    by init.Done = at_once
    by init.Running = at_once
    by init.Failed = record { told = tt }
    by init.Not = quick (quiet_chain h.program h.state.inits c)
