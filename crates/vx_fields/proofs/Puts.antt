-- putstatic of a static field that is there: from the sets of its configurations to the attempt.
use Rattle.std.proofs.Common.{◌≡◌, ℕ, ◌+◌, ◌≤◌, Bool, true, false, List, [], ◌∷◌, ◌&&◌, refl, sym, ◌∙◌, ap, arith, drop, length, map}
use Rattle.std.proofs.lemmas.List.{length-map, length-reverse}
use Rattle.std.specs.Prelude.{Option, if◌then◌else◌}
use Rattle.vx_desc.specs.declared.java_type.JavaType.{JavaType}
use Rattle.vx_group.specs.Group.{GroupView, path_of}
use Rattle.vx_group.specs.declared.callers.Caller.{Caller}
use Rattle.vx_heap.specs.Heap.{Globals, HeapView, globals_at, value_of}
use Rattle.vx_heap.proofs.HeapLaws.{value_of-extends}
use Rattle.vx_java.specs.Checks.{fits_type, sort_of}
use Rattle.vx_java.specs.Fields.{Found, put_value, with_written}
use Rattle.vx_java.specs.FirstObjects.{narrowed_value}
use Rattle.vx_java.specs.Machine.{Go, State, Value, at_position, illegal_in, past, with_static}
use Rattle.vx_java.specs.Machine.{Outcome as PlainOutcome}
use Rattle.vx_link.specs.Parts.{field_at}
use Rattle.vx_link.specs.declared.program.Program.{Program}
use Rattle.vx_outcome.specs.declared.outcome.Outcome.{Outcome}
use Rattle.vx_space.specs.Sets.{Extends, IsSet, Sets}
use Rattle.vx_space.proofs.Spaces.{Extends-refl, Extends-trans}
use Rattle.vx_group_states.specs.Answering.{operands_at}
use Rattle.vx_group_states.specs.Sites.{Gives, GivesAt, here}
use Rattle.vx_group_states.specs.Stands.{state_at}
use Rattle.vx_group_states.specs.declared.site.Site.{Site}
use Rattle.vx_value.specs.declared.ids.ClassId.{ClassId}
use Rattle.vx_value.specs.declared.slot.Slot.{Slot}
use Rattle.vx_families.specs.Attempts.{AttemptsBy}
use Rattle.vx_ready.specs.Changing.{IsChanged, with_globals}
use Rattle.vx_ready.specs.Initialising.{IsReadied, goes_on, has_failed, proceeding, readied, stopped}
use Rattle.vx_ready.specs.Running.{IsRunning}
use Rattle.vx_fields.specs.Statics.{keeps_option, stored}
use Rattle.vx_families.specs.Sorts.{top_fits, top_of}
use Rattle.vx_ready.specs.declared.initialising.Readiness.{Readiness}
use Rattle.vx_ready.proofs.Attempting.{AttemptsBy-changed, value_same}
use Rattle.vx_ready.proofs.Changes.{IsChanged-before, IsChanged-trans}
use Rattle.vx_ready.proofs.Climbing.{inits_later}
use Rattle.vx_ready.proofs.Given.{AttemptsBy-stays, and_none, unready}
use Rattle.vx_ready.proofs.Going.{operands_later}
use Rattle.vx_ready.proofs.Rows.{globals_of, ready_row}
use Rattle.vx_families.proofs.SlotSorts.{fits_plain}

-- ---- one configuration

abbrev found_of : (named field : ℕ) → JavaType → Found
found_of named field type = record { named = named; field = field; type = type }

-- the globals after the class was made ready and the value was stored
abbrev after_store : Program → (class field : ℕ) → (keeps g n : Bool) → Value → Globals → Globals
after_store p class field keeps g n v x = if g then stored keeps field v (readied p class n x) else readied p class n x

-- what comes of the state over them
abbrev put_after : Site → State → (class : ℕ) → (g n f : Bool) → Globals → PlainOutcome
put_after site s class g n f x =
    if g
    then Go (at_position (with_globals s x) ((with_globals s x).top.position + site.size) (drop 1 (with_globals s x).top.operands))
    else stopped (here site (with_globals s x)) class n f

written_is : (site : Site) (s : State) (found : Found) (v : Value) (x : Globals) (keeps : Bool) → with_globals s (stored keeps found.field (narrowed_value found.type v) x) ≡ (elim keeps [ true ↦ with_globals s x | false ↦ with_static (with_globals s x) found.field (narrowed_value found.type v) ])
written_is site s found v x true = refl
written_is site s found v x false = refl

same_row : (site : Site) (s : State) (found : Found) (class : ℕ) (v : Value) (rest : List Value) (n f g : Bool) → s.top.operands ≡ v ∷ rest → put_after site s class g n f (after_store site.program.now class found.field (keeps_option site.program.now s.top.method found.field) g n (narrowed_value found.type v) (globals_of s)) ≡ (if g then Go (past (here site (with_globals s (readied site.program.now class n (globals_of s)))) (with_written (here site (with_globals s (readied site.program.now class n (globals_of s)))) found v) rest) else stopped (here site (with_globals s (readied site.program.now class n (globals_of s)))) class n f)
same_row site s found class v rest n f true e =
    let x = readied site.program.now class n (globals_of s) in
    let written = written_is site s found v x (keeps_option site.program.now s.top.method found.field) in
    λ i. Go (at_position (written i) ((written i).top.position + site.size) (drop 1 (e i)))
same_row site s found class v rest n f false e = refl

put_row : (site : Site) (s : State) (named field : ℕ) (type : JavaType) (v : Value) (rest : List Value) (n f g : Bool) → s.top.operands ≡ v ∷ rest → n ≡ fits_type type v → f ≡ (n && has_failed s.inits (field_at site.program.now field).class.0) → g ≡ (n && goes_on site.program.now s.inits (field_at site.program.now field).class.0) → put_after site s (field_at site.program.now field).class.0 g n f (after_store site.program.now (field_at site.program.now field).class.0 field (keeps_option site.program.now s.top.method field) g n (narrowed_value type v) (globals_of s)) ≡ put_value (here site s) (found_of named field type) (v ∷ rest)
put_row site s named field type v rest n f g e fit fails goes =
    let class = (field_at site.program.now field).class.0 in
    let found = found_of named field type in
    same_row site s found class v rest n f g e
    ∙ ready_row site class (λ h. Go (past h (with_written h found v) rest)) s (fits_type type v) n f g fit fails goes

-- no operand
empty_row : (site : Site) (s : State) (named class field : ℕ) (type : JavaType) (keeps n f g : Bool) (v : Value) → n ≡ false → f ≡ (n && has_failed s.inits class) → g ≡ (n && goes_on site.program.now s.inits class) → put_after site s class g n f (after_store site.program.now class field keeps g n v (globals_of s)) ≡ put_value (here site s) (found_of named field type) []
empty_row site s named class field type keeps n f g v h i k = rw (k, i, h) refl

-- ---- a group without operands

no_operands : {A : Type 0} (xs : List A) → length xs ≤ 0 → xs ≡ []
no_operands [] h = refl
no_operands (x ∷ xs) h = absurd (omega arith)

pub empty-attempts : {S I : Type 0} (site : Site) {s0 : Sets I} (heap : HeapView S I) (group : GroupView S I) (named field : ℕ) (type : JavaType) (outcomes : List (Outcome S I)) → IsRunning site s0 heap group → length group.top.stack.conds ≤ 0 → Gives site.program.now (illegal_in site.program.now) s0 s0 group outcomes → AttemptsBy site (λ s. put_value (here site s) (record { named = named; field = field; type = type }) s.top.operands) s0 s0 heap heap group outcomes
empty-attempts {S = S} {I = I} site {s0 = s0} heap group named field type outcomes r none gives =
    AttemptsBy-stays site (λ s. put_value (here site s) (record { named = named; field = field; type = type }) s.top.operands) heap group (illegal_in site.program.now) outcomes r.is_heap r.is_for r.is_group (Extends-refl s0) (λ tree s c t. empty tree c) gives
  where
    empty : (tree : List (Option (Caller S I))) (c : List Bool) → illegal_in site.program.now (state_at s0 heap tree group c) ≡ put_value (here site (state_at s0 heap tree group c)) (record { named = named; field = field; type = type }) (state_at s0 heap tree group c).top.operands
    empty tree c =
        let state = state_at s0 heap tree group c in
        let count : length (operands_at s0 group.top.stack c) ≡ length group.top.stack.conds = simp (length-map, length-reverse) in
        let short : length (operands_at s0 group.top.stack c) ≤ 0 = omega (arith, count, none) in
        sym (ap (λ slots. put_value (here site state) (found_of named field type) (map (value_of s0 heap c) slots)) (no_operands (operands_at s0 group.top.stack c) short))

-- ---- the attempt

module _ {S I : Type 0} (site : Site) (s0 s1 s2 s3 s4 : Sets I) (before middle after : HeapView S I) (group : GroupView S I) (field : ℕ) (type : JavaType) (class : ClassId) (needs : I) (readiness : Readiness S I) (outcomes : List (Outcome S I)) (r : IsRunning site s0 before group) (declares : class ≡ (field_at site.program.now field).class) (e01 : Extends s0 s1) (n : IsSet s1 needs (λ c. s0.test (path_of group) c && top_fits (sort_of type) (operands_at s0 group.top.stack c))) (e12 : Extends s1 s2) (ready : IsReadied site.program.now s1 s2 before middle class.0 needs readiness) (e23 : Extends s2 s3) (st : IsChanged s2 s3 middle after (λ c x. if s2.test readiness.proceeds c then stored (keeps_option site.program.now group.top.method.0 field) field (narrowed_value type (value_of s2 middle c (top_of (operands_at s2 group.top.stack c)))) x else x)) (e34 : Extends s3 s4) (gone : GivesAt site.program.now (proceeding site class.0 s3 needs readiness (λ s. Go (at_position s (s.top.position + site.size) (drop 1 s.top.operands)))) s3 s4 group outcomes after) where
  keeps : Bool
  keeps = keeps_option site.program.now group.top.method.0 field

  -- the value that is stored
  value_there : (c : List Bool) → value_of s2 middle c (top_of (operands_at s2 group.top.stack c)) ≡ value_of s0 before c (top_of (operands_at s0 group.top.stack c))
  value_there c =
      let e02 = Extends-trans e01 e12 in
      ap (λ slots. value_of s2 middle c (top_of slots)) (operands_later e02 group r.is_group c)
      ∙ value_same before middle _ ready.changed s2 c (top_of (operands_at s0 group.top.stack c))
      ∙ value_of-extends e02 before r.is_heap c (top_of (operands_at s0 group.top.stack c))

  abbrev change : List Bool → Globals → Globals
  change c x = after_store site.program.now class.0 field (keeps_option site.program.now group.top.method.0 field) (s2.test readiness.proceeds c) (s1.test needs c) (narrowed_value type (value_of s2 middle c (top_of (operands_at s2 group.top.stack c)))) x

  by_operands : (tree : List (Option (Caller S I))) (named : ℕ) (c : List Bool) → s0.test (path_of group) c ≡ true → (slots : List Slot) → operands_at s0 group.top.stack c ≡ slots → put_after site (state_at s0 before tree group c) (field_at site.program.now field).class.0 (s2.test readiness.proceeds c) (s1.test needs c) (s2.test readiness.fails c) (after_store site.program.now (field_at site.program.now field).class.0 field (keeps_option site.program.now group.top.method.0 field) (s2.test readiness.proceeds c) (s1.test needs c) (narrowed_value type (value_of s0 before c (top_of slots))) (globals_at s0 before c)) ≡ put_value (here site (state_at s0 before tree group c)) (found_of named field type) (map (value_of s0 before c) slots)
  by_operands tree named c t slots e = cases slots e
    where
      fits : (slots : List Slot) → operands_at s0 group.top.stack c ≡ slots → s1.test needs c ≡ top_fits (sort_of type) slots
      fits slots e = n.test c ∙ (λ i. t i && top_fits (sort_of type) (e i))

      fails : s2.test readiness.fails c ≡ (s1.test needs c && has_failed (state_at s0 before tree group c).inits (field_at site.program.now field).class.0)
      fails = ready.fails.test c ∙ (λ i. s1.test needs c && has_failed (inits_later e01 before r.is_heap c i) (declares i).0)

      goes : s2.test readiness.proceeds c ≡ (s1.test needs c && goes_on site.program.now (state_at s0 before tree group c).inits (field_at site.program.now field).class.0)
      goes = ready.proceeds.test c ∙ (λ i. s1.test needs c && goes_on site.program.now (inits_later e01 before r.is_heap c i) (declares i).0)

      cases : (slots : List Slot) → operands_at s0 group.top.stack c ≡ slots → put_after site (state_at s0 before tree group c) (field_at site.program.now field).class.0 (s2.test readiness.proceeds c) (s1.test needs c) (s2.test readiness.fails c) (after_store site.program.now (field_at site.program.now field).class.0 field (keeps_option site.program.now group.top.method.0 field) (s2.test readiness.proceeds c) (s1.test needs c) (narrowed_value type (value_of s0 before c (top_of slots))) (globals_at s0 before c)) ≡ put_value (here site (state_at s0 before tree group c)) (found_of named field type) (map (value_of s0 before c) slots)
      cases [] e = empty_row site (state_at s0 before tree group c) named (field_at site.program.now field).class.0 field type (keeps_option site.program.now group.top.method.0 field) (s1.test needs c) (s2.test readiness.fails c) (s2.test readiness.proceeds c) _ (fits [] e) fails goes
      cases (slot ∷ more) e = put_row site (state_at s0 before tree group c) named field type (value_of s0 before c slot) (map (value_of s0 before c) more) (s1.test needs c) (s2.test readiness.fails c) (s2.test readiness.proceeds c) (ap (map (value_of s0 before c)) e) (fits (slot ∷ more) e ∙ sym (fits_plain s0 before c (sort_of type) slot)) fails goes

  needed : (tree : List (Option (Caller S I))) (named : ℕ) (c : List Bool) → s0.test (path_of group) c ≡ true → put_after site (state_at s0 before tree group c) class.0 (s3.test readiness.proceeds c) (s3.test needs c) (s3.test readiness.fails c) (change c (globals_at s0 before c)) ≡ put_value (here site (state_at s0 before tree group c)) (found_of named field type) (state_at s0 before tree group c).top.operands
  needed tree named c t =
      let p = site.program.now in
      let state = state_at s0 before tree group c in
      let g = e23.test readiness.proceeds c ready.proceeds.known in
      let f = e23.test readiness.fails c ready.fails.known in
      let w = e23.test needs c (e12.known needs n.known) ∙ e12.test needs c n.known in
      (λ i. put_after site state (declares i).0 (g i) (w i) (f i) (after_store p (declares i).0 field (keeps_option p group.top.method.0 field) (s2.test readiness.proceeds c) (s1.test needs c) (narrowed_value type (value_there c i)) (globals_at s0 before c)))
      ∙ by_operands tree named c t (operands_at s0 group.top.stack c) refl

  pub put-attempts : (named : ℕ) → AttemptsBy site (λ s. put_value (here site s) (record { named = named; field = field; type = type }) s.top.operands) s0 s4 before after group outcomes
  put-attempts named =
      let p = site.program.now in
      let first = IsChanged-before e01 before middle (λ c. readied p class.0 (s1.test needs c)) (λ c. readied p class.0 (s1.test needs c)) r.is_heap (λ c. refl) ready.changed in
      let changed = IsChanged-trans before middle after (λ c. readied p class.0 (s1.test needs c)) _ first st in
      let there : HeapView S I → List Bool → State → PlainOutcome = proceeding site class.0 s3 needs readiness (λ s. Go (at_position s (s.top.position + site.size) (drop 1 s.top.operands))) in
      let e03 = Extends-trans e01 (Extends-trans e12 e23) in
      AttemptsBy-changed before after change changed site (λ s. put_value (here site s) (record { named = named; field = field; type = type }) s.top.operands) group there outcomes r.is_heap r.is_for r.is_group e03 (λ c t x. outside c t x) e34 (λ tree s c t. needed tree named c t) gone
    where
      outside : (c : List Bool) → s0.test (path_of group) c ≡ false → (x : Globals) → change c x ≡ x
      outside c t x =
          let none : s1.test needs c ≡ false = n.test c ∙ and_none (s0.test (path_of group) c) _ t in
          let stays : s2.test readiness.proceeds c ≡ false = ready.proceeds.test c ∙ and_none (s1.test needs c) _ none in
          ap (λ g. after_store site.program.now class.0 field (keeps_option site.program.now group.top.method.0 field) g (s1.test needs c) (narrowed_value type (value_of s2 middle c (top_of (operands_at s2 group.top.stack c)))) x) stays
          ∙ unready site.program.now class.0 (s1.test needs c) x none
