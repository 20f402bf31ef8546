-- Laws of spaces, for callers.
use Rattle.std.proofs.Common.{refl, ◌∙◌, Bool, List, [], ◌∷◌}
use Rattle.vx_space.specs.Sets.{Sets, IsSet, Extends, AreKept, AreKnown}

-- a state extends itself
pub Extends-refl : {I : Type 0} (sets : Sets I) → Extends sets sets
Extends-refl sets = record { options = refl; never = refl; always = refl; counts = refl; base = refl; known = λ _ k. k; test = λ _ _ _. refl }

-- an extension of an extension is one
pub Extends-trans : {I : Type 0} {a b c : Sets I} → Extends a b → Extends b c → Extends a c
Extends-trans e f = record {
  options = f.options ∙ e.options;
  never = f.never ∙ e.never;
  always = f.always ∙ e.always;
  counts = f.counts ∙ e.counts;
  base = f.base ∙ e.base;
  known = λ id k. f.known id (e.known id k);
  test = λ id c k. f.test id c (e.known id k) ∙ e.test id c k;
}

-- an id keeps its set
pub IsSet-extends : {I : Type 0} {old new : Sets I} → Extends old new → (id : I) (set : List Bool → Bool) → IsSet old id set → IsSet new id set
IsSet-extends e id set s = record { known = e.known id s.known; test = λ c. e.test id c s.known ∙ s.test c }

pub ruleset spaces = (Extends-refl, Extends-trans, IsSet-extends)

pub AreKept-refl : {I : Type 0} (sets : Sets I) (ids : List I) → AreKnown sets ids → AreKept sets sets ids
AreKept-refl sets [] h = tt
AreKept-refl sets (id ∷ ids) h = (record { known = h.0; test = λ _. refl }, AreKept-refl sets ids h.1)
