-- Rows that leave another heap, other statics or other states of initialisation: what follows is typed where objects keep their classes and all is of its type.
use Rattle.std.proofs.Common.{Bool, List, None, Some, [], ap, arith, false, length, refl, subst, suc, sym, true, zero, ℕ, ◌++◌, ◌<◌, ◌∙◌, ◌∷◌, ◌≡◌}
use Rattle.std.proofs.lemmas.Bool.{lt-ltb}
use Rattle.std.proofs.lemmas.List.{length-append}
use Rattle.std.proofs.lemmas.List.Elements.{All-head}
use Rattle.std.specs.Prelude.{if◌then◌else◌, slice_set}
use Rattle.vx_java.specs.Initialisation.{by_state, init_chain, quiet_chain, when_initialised, when_not}
use Rattle.vx_java.specs.Machine.{Go, Here, Object, Outcome, Ref, Top, Value, in_state, init_at, inits_with, no_object, object_at, past, push_new}
use Rattle.vx_kept_facts.proofs.Sites.{length_inits}
use Rattle.vx_link.specs.Parts.{class_count, is_static_field}
use Rattle.vx_link.specs.declared.program.Program.{Program}
use Rattle.vx_list.specs.Places.{item_or}
use Rattle.vx_sound.proofs.Heaps.{IsLaterHeap, appended_later, appended_typed, callers_later, changed_later, changed_typed, item_back, still, values_later}
use Rattle.vx_sound.proofs.Sites.{AtSite, LeadsTo, Typed, behind, raises, types_in, types_with}
use Rattle.vx_sound.proofs.Values.{some_same}
use Rattle.vx_sound.specs.Typed.{IsTypedHeap, IsTypedObject, Typings}
use Rattle.vx_sound.specs.Values.{type_of_class, type_of_field, type_of_reference, type_of_value, types_of_values}
use Rattle.vx_types.proofs.Lists.{list_fits}
use Rattle.vx_types.specs.Fits.{all_fit, fits}
use Rattle.vx_types.specs.Ranked.{IsRanked}
use Rattle.vx_types.specs.Types.{VerState}
use Rattle.vx_types.specs.declared.types.VerType.{VerType}
use Rattle.vx_types.specs.declared.types.VerType.TheVariants as is
use Rattle.vx_value.specs.declared.slot.InitState.{InitState}
use Rattle.vx_value.specs.declared.slot.InitState.TheVariants.{Done, Failed, Not, Running}
use Rattle.vx_verify.proofs.Forcing.{reached_below}
use Rattle.vx_verify.specs.Typing.{IsReached}

-- the object behind all others
pub last_type : (p : Program) (heap : List Object) (o : Object) → type_of_reference p (heap ++ (o ∷ [])) (length heap) ≡ type_of_class p o.class
last_type p heap o =
    let size = length-append heap (o ∷ []) in
    ap (λ b. if b then type_of_class p (item_or (heap ++ (o ∷ [])) (length heap) no_object).class else is.Top) (lt-ltb (length heap) (length (heap ++ (o ∷ []))) (omega (arith, size)))
    ∙ ap (λ (x : Object). type_of_class p x.class) (item_back heap (o ∷ []) (length heap) 0 no_object (omega arith))

module _ (typings : Typings) (h : Here) (site : AtSite typings h) where
  ranked : IsRanked h.program
  ranked = site.sound.hierarchy.ranked

  -- behind the instruction, in another heap with other statics
  pub changes : (heap : List Object) (statics operands : List Value) (rest : List VerType) → IsLaterHeap h.state.heap heap → IsTypedHeap h.program heap
      → ((f : ℕ) → is_static_field h.program f ≡ true → fits h.program (type_of_value h.program heap (item_or statics f Top)) (type_of_field h.program f) ≡ true)
      → all_fit h.program (types_of_values h.program heap operands) rest ≡ true → LeadsTo typings h (behind h ∷ []) (types_with h rest)
      → Typed typings h (Go (past h (record (h.state) { heap = heap; statics = statics }) operands))
  changes heap statics operands rest grows typed static fit leads = record {
    heap = typed;
    statics = static;
    inits = site.state.inits;
    top =
        reached_below h.program ranked (typings h.state.top.method) (behind h)
        (record { locals = types_of_values h.program heap h.state.top.locals; operands = types_of_values h.program heap operands }) (types_with h rest)
        (record { locals = values_later h.program ranked h.state.heap heap grows h.state.top.locals; operands = fit })
        (All-head (λ position. IsReached h.program (typings h.state.top.method) position (types_with h rest)) (behind h) [] leads.reached);
    callers = callers_later h.program ranked h.state.heap heap grows typings h.state.top.kind h.state.top.method h.state.callers site.state.callers;
  }

  -- in another heap alone
  pub changes_heap : (heap : List Object) (operands : List Value) (rest : List VerType) → IsLaterHeap h.state.heap heap → IsTypedHeap h.program heap
      → all_fit h.program (types_of_values h.program heap operands) rest ≡ true → LeadsTo typings h (behind h ∷ []) (types_with h rest)
      → Typed typings h (Go (past h (record (h.state) { heap = heap }) operands))
  changes_heap heap operands rest grows typed fit leads =
      changes heap h.state.statics operands rest grows typed
      (λ f static. still h.program ranked h.state.heap heap grows (item_or h.state.statics f Top) (type_of_field h.program f) (site.state.statics f static)) fit leads

  -- operands that were of these types still are
  pub under_later : (heap : List Object) (under : List Value) (rest : List VerType) → IsLaterHeap h.state.heap heap → Some (types_in h under) ≡ Some rest
      → all_fit h.program (types_of_values h.program heap under) rest ≡ true
  under_later heap under rest grows same =
      subst (λ (ts : List VerType). all_fit h.program (types_of_values h.program heap under) ts ≡ true) (some_same same) (values_later h.program ranked h.state.heap heap grows under)

  -- a new object
  pub makes : (o : Object) (under : List Value) (t : VerType) (rest : List VerType) → IsTypedObject h.program (h.state.heap ++ (o ∷ [])) o → fits h.program (type_of_class h.program o.class) t ≡ true
      → Some (types_in h under) ≡ Some rest → LeadsTo typings h (behind h ∷ []) (types_with h (t ∷ rest)) → Typed typings h (push_new h o under)
  makes o under t rest typed fit same leads =
      changes_heap (h.state.heap ++ (o ∷ [])) (Ref (length h.state.heap) ∷ under) (t ∷ rest) grows
      (appended_typed h.program ranked h.state.heap (o ∷ []) site.state.heap each)
      (list_fits h.program (type_of_reference h.program (h.state.heap ++ (o ∷ [])) (length h.state.heap)) t (types_of_values h.program (h.state.heap ++ (o ∷ [])) under) rest
      (subst (λ (u : VerType). fits h.program u t ≡ true) (sym (last_type h.program h.state.heap o)) fit)
      (under_later (h.state.heap ++ (o ∷ [])) under rest grows same)) leads
    where
      grows : IsLaterHeap h.state.heap (h.state.heap ++ (o ∷ []))
      grows = appended_later h.state.heap (o ∷ [])

      each : (i : ℕ) → i < length (o ∷ []) → IsTypedObject h.program (h.state.heap ++ (o ∷ [])) (item_or (o ∷ []) i no_object)
      each zero less = typed
      each (suc i) less = absurd (omega (arith, less))

  -- an object that changes
  pub writes : (r : ℕ) (o : Object) (under : List Value) (rest : List VerType) → o.class ≡ (object_at h.state r).class → IsTypedObject h.program (slice_set h.state.heap r o) o
      → Some (types_in h under) ≡ Some rest → LeadsTo typings h (behind h ∷ []) (types_with h rest)
      → Typed typings h (Go (past h (record (h.state) { heap = slice_set h.state.heap r o }) under))
  writes r o under rest class typed same leads =
      changes_heap (slice_set h.state.heap r o) under rest (changed_later h.state.heap r o class) (changed_typed h.program ranked h.state.heap r o class site.state.heap typed)
      (under_later (slice_set h.state.heap r o) under rest (changed_later h.state.heap r o class) same) leads

  -- ---- initialisation

  -- the same site with other states of initialisation
  pub site_ready : (inits : List InitState) → length inits ≡ class_count h.program → AtSite typings (in_state h (record (h.state) { inits = inits }))
  site_ready inits count = record {
    sound = site.sound;
    are = site.are;
    code = site.code;
    pool = site.pool;
    state = record { heap = site.state.heap; statics = site.state.statics; inits = count; top = site.state.top; callers = site.state.callers };
  }

  pub leads_ready : (inits : List InitState) (positions : List ℕ) (made : VerState) → LeadsTo typings h positions made → LeadsTo typings (in_state h (record (h.state) { inits = inits })) positions made
  leads_ready inits positions made leads = record { room = leads.room; reached = leads.reached }

  -- what follows in a state in which some classes may have been initialised
  pub when_ready : (c : ℕ) (rest : Here → Outcome)
      → ((inits : List InitState) → length inits ≡ class_count h.program → Typed typings h (rest (in_state h (record (h.state) { inits = inits })))) → Typed typings h (when_initialised h c rest)
  when_ready c rest each = by (init_at h.state.inits c)
    where
      by_quiet : (b : Bool) → Typed typings h (when_not h c b rest)
      by_quiet true = each (inits_with h.state.inits Done (init_chain h.program h.state.inits c)) (length_inits h.state.inits Done (init_chain h.program h.state.inits c) ∙ site.state.inits)
      by_quiet false = site.state

      by : (i : InitState) → Typed typings h (by_state h c i rest)
      by Done = each h.state.inits site.state.inits
      by Running = each h.state.inits site.state.inits
      by Failed = raises typings h site "java/lang/NoClassDefFoundError" None refl
      by Not = by_quiet (quiet_chain h.program h.state.inits c)
