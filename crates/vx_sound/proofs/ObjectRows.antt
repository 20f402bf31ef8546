-- The rows of constants of the pool, fields, new objects, casts and what is thrown.
use Rattle.std.proofs.Common.{Bool, List, None, Option, Some, [], false, inl, inr, length, refl, subst, sym, true, ℕ, ◌∙◌, ◌∷◌, ◌≡◌, ◌⊎◌}
use Prim.Native.String.{String}
use Rattle.std.specs.Prelude.{if◌then◌else◌, nat_lt}
use Rattle.vx_pool.specs.Lookups.{entry_of}
use Rattle.vx_java.specs.Checks.{if_there, is_instance_of, non_null}
use Rattle.vx_java.specs.Constants.{push_entry}
use Rattle.vx_java.specs.FirstObjects.{literal_object}
use Rattle.vx_java.specs.Machine.{Here, Int, Long, Null, Object, Ref, Throw, Value, go, illegal, object_at, push, raise, when}
use Rattle.vx_java.specs.Objects.{against, check_cast, throw_top}
use Rattle.vx_link.specs.Assignability.{assignable}
use Rattle.vx_link.specs.ClassNames.{class_named, core_class}
use Rattle.vx_link.specs.Names.{utf8}
use Rattle.vx_pool.specs.declared.pool.Entry.{Entry}
use Rattle.vx_pool.specs.declared.pool.Entry.TheVariants as entry
use Rattle.vx_pool.specs.declared.pool.Pool.{Pool}
use Rattle.vx_sound.proofs.Assigned.{assigned, core_there}
use Rattle.vx_sound.proofs.Classes.{class_there, instance_there}
use Rattle.vx_sound.proofs.Elements.{IsObjectOf, of_reference}
use Rattle.vx_sound.proofs.Names.{core_class_type, core_type_is, first_fits, name_reference, named_here}
use Rattle.vx_sound.proofs.Sites.{AtSite, LeadsTo, Typed, behind, goes_with, pushes, pushes_fitting, raises, types_here, types_in, types_with}
use Rattle.vx_sound.proofs.Taken.{on_top, reference_on_top, taken_from}
use Rattle.vx_sound.proofs.Values.{IsReference, none_some}
use Rattle.vx_sound.specs.Sound.{IsFirstOf}
use Rattle.vx_sound.specs.Typed.{Typings}
use Rattle.vx_sound.specs.Values.{type_of_class, type_of_reference, type_of_value}
use Rattle.vx_types.specs.Fits.{fits}
use Rattle.vx_types.specs.Flow.{after, put, taken, targets_by}
use Rattle.vx_types.specs.Plain.{reference}
use Rattle.vx_types.specs.Ranked.{IsRanked}
use Rattle.vx_types.specs.Rows as rows
use Rattle.vx_types.specs.Types.{VerState, core_type, ref_of}
use Rattle.vx_java.specs.Ids.{as_class}
use Rattle.vx_types.specs.declared.types.ElementType.TheVariants as element
use Rattle.vx_types.specs.declared.types.Row.TheVariants.{Takes}
use Rattle.vx_types.specs.declared.types.VerType.{VerType}
use Rattle.vx_types.specs.declared.types.VerType.TheVariants as is
use Rattle.vx_types.specs.declared.types.Want.{Want}
use Rattle.vx_types.specs.declared.types.Want.TheVariants.{Fits}

module _ (typings : Typings) (h : Here) (site : AtSite typings h) where
  ranked : IsRanked h.program
  ranked = site.sound.hierarchy.ranked

  abbrev heap : List Object
  heap = h.state.heap

  abbrev ops : List Value
  ops = h.state.top.operands

  abbrev next : List ℕ
  next = behind h ∷ []

  -- a row that takes operands, by what stands under them
  pub taking : {X : Type 0} (wanted : List Want) (given : Option VerType) (made : VerState) → after h.program (Takes wanted given) (types_here h) ≡ Some made → LeadsTo typings h next made
      → ((rest : List VerType) → taken h.program wanted (types_in h ops) ≡ Some rest → LeadsTo typings h next (types_with h (put given rest)) → X) → X
  taking wanted given made e leads each =
      let t = taken_from h.program wanted given (types_here h) made e in
      each t.rest t.takes (subst (λ (u : VerState). LeadsTo typings h next u) (sym t.is) leads)

  -- ---- constants of the pool

  -- a first object of a core class on the operands
  literal : (name : String) (r : ℕ) (made : VerState) → core_type h.program name ≡ type_of_class h.program (core_class h.program name) → IsFirstOf h.program r (core_class h.program name)
      → after h.program (Takes [] (Some (core_type h.program name))) (types_here h) ≡ Some made → LeadsTo typings h next made → Typed typings h (push h (Ref r) ops)
  literal name r made type first e leads =
      taking [] (Some (core_type h.program name)) made e leads (λ rest same on.
      pushes_fitting typings h site (Ref r) ops (core_type h.program name) rest
      (subst (λ (t : VerType). fits h.program (type_of_reference h.program heap r) t ≡ true) (sym type)
      (first_fits h.program ranked heap site.state.heap r (core_class h.program name) first)) same on)

  pub entry_typed : (i : ℕ) (pool : Pool) → h.pool ≡ pool → ((j : ℕ) → entry_of pool i ≡ Some (entry.Text j) → IsFirstOf h.program (literal_object h.program pool (entry.Text j)) (core_class h.program "java/lang/String"))
      → ((j : ℕ) → entry_of pool i ≡ Some (entry.Class j) → IsFirstOf h.program (literal_object h.program pool (entry.Class j)) (core_class h.program "java/lang/Class"))
      → (made : VerState) → after h.program (rows.push_entry h.program pool (entry_of pool i)) (types_here h) ≡ Some made
      → LeadsTo typings h (targets_by (rows.push_entry h.program pool (entry_of pool i)) next) made → Typed typings h (push_entry h (entry_of h.pool i))
  entry_typed i pool pooled texts classes made e leads =
      subst (λ (q : Pool). Typed typings h (push_entry h (entry_of q i))) (sym pooled) (by (entry_of pool i) refl e leads)
    where
      text_type : core_type h.program "java/lang/String" ≡ type_of_class h.program (core_class h.program "java/lang/String")
      text_type = core_type_is h.program false "java/lang/String" (core_there h.program site.sound.core "java/lang/String" refl) refl

      class_type : core_type h.program "java/lang/Class" ≡ type_of_class h.program (core_class h.program "java/lang/Class")
      class_type = core_type_is h.program false "java/lang/Class" (core_there h.program site.sound.core "java/lang/Class" refl) refl

      of_class : (j : ℕ) → entry_of pool i ≡ Some (entry.Class j) → (o : Option ℕ) → after h.program (rows.if_there o (λ c. Takes [] (Some (core_type h.program "java/lang/Class")))) (types_here h) ≡ Some made
          → LeadsTo typings h (targets_by (rows.if_there o (λ c. Takes [] (Some (core_type h.program "java/lang/Class")))) next) made
          → Typed typings h (if_there h (utf8 pool j) o (λ c. push h (Ref (literal_object h.program pool (entry.Class j))) ops))
      of_class j at None k on = refl
      of_class j at (Some c) k on = literal "java/lang/Class" (literal_object h.program pool (entry.Class j)) made class_type (classes j at) k on

      by : (o : Option Entry) → entry_of pool i ≡ o → after h.program (rows.push_entry h.program pool o) (types_here h) ≡ Some made
          → LeadsTo typings h (targets_by (rows.push_entry h.program pool o) next) made → Typed typings h (push_entry h o)
      by (Some (entry.Integer n)) at k on = taking [] (Some is.Int) made k on (λ rest same to. pushes typings h site (Int n) ops is.Int rest refl same to)
      by (Some (entry.Long n)) at k on = taking [] (Some is.Long) made k on (λ rest same to. pushes typings h site (Long n) ops is.Long rest refl same to)
      by (Some (entry.Text j)) at k on =
          subst (λ (q : Pool). Typed typings h (push h (Ref (literal_object h.program q (entry.Text j))) ops)) (sym pooled)
          (literal "java/lang/String" (literal_object h.program pool (entry.Text j)) made text_type (texts j at) k on)
      by (Some (entry.Class j)) at k on =
          subst (λ (q : Pool). Typed typings h (if_there h (utf8 q j) (class_named h.program (utf8 q j)) (λ c. push h (Ref (literal_object h.program q (entry.Class j))) ops))) (sym pooled)
          (of_class j at (class_named h.program (utf8 pool j)) k on)
      by (Some (entry.Float n)) at k on = refl
      by (Some (entry.Double n)) at k on = refl
      by (Some (entry.MethodHandle kind j)) at k on = refl
      by (Some (entry.MethodType j)) at k on = refl
      by _ at k on = none_some k

  -- ---- casts and what is thrown

  -- null passes, and an object that is assignable to the class that is named
  pub cast_typed : (name : List ℕ) (operands : List Value) (rest : List VerType) → taken h.program (reference ∷ []) (types_in h operands) ≡ Some rest
      → LeadsTo typings h next (types_with h (ref_of h.program name ∷ rest)) → Typed typings h (check_cast h name operands)
  cast_typed name operands rest took leads =
      reference_on_top h.program heap (λ os. Typed typings h (check_cast h name os)) [] operands rest took
      (λ under same. goes_with typings h site Null under (ref_of h.program name) rest null_fits same leads)
      (λ r under q same. by_class r under q same (class_named h.program name) refl)
    where
      null_fits : fits h.program is.Null (ref_of h.program name) ≡ true
      null_fits = let q = name_reference h.program 0 name in subst (λ (t : VerType). fits h.program is.Null t ≡ true) (sym q.is) refl

      there_is : (r : ℕ) → IsReference (type_of_reference h.program heap r) → type_of_reference h.program heap r ≡ type_of_class h.program (object_at h.state r).class
      there_is r q = by (nat_lt r (length heap)) q
        where
          by : (b : Bool) → IsReference (if b then type_of_class h.program (object_at h.state r).class else is.Top)
              → (if b then type_of_class h.program (object_at h.state r).class else is.Top) ≡ type_of_class h.program (object_at h.state r).class
          by true q = refl
          by false q = let no = q.is in absurd cc

      by_class : (r : ℕ) (under : List Value) → IsReference (type_of_reference h.program heap r) → Some (types_in h under) ≡ Some rest → (c : Option ℕ) → class_named h.program name ≡ c
          → Typed typings h (if_there h name c (λ d. against h (Ref r) d (λ fits. when fits (go h (Ref r ∷ under)) (raise h "java/lang/ClassCastException"))))
      by_class r under q same None found = refl
      by_class r under q same (Some d) found = by_test (assignable h.program (object_at h.state r).class d) refl
        where
          by_test : (b : Bool) → assignable h.program (object_at h.state r).class d ≡ b → Typed typings h (when b (go h (Ref r ∷ under)) (raise h "java/lang/ClassCastException"))
          by_test true passes =
              goes_with typings h site (Ref r) under (ref_of h.program name) rest
              (subst (λ (t : VerType). fits h.program t (ref_of h.program name) ≡ true) (sym (there_is r q))
              (subst (λ (u : VerType). fits h.program (type_of_class h.program (object_at h.state r).class) u ≡ true) (sym (named_here h.program name d found))
              (assigned h.program site.sound.hierarchy site.sound.core (object_at h.state r).class d passes))) same leads
          by_test false fails = raises typings h site "java/lang/ClassCastException" None refl

  pub throw_typed : (operands : List Value) (rest : List VerType) → taken h.program (Fits (core_type h.program "java/lang/Throwable") ∷ []) (types_in h operands) ≡ Some rest → Typed typings h (throw_top h operands)
  throw_typed operands rest took =
      on_top h.program heap (λ os. Typed typings h (throw_top h os)) (Fits (core_type h.program "java/lang/Throwable")) [] operands rest took
      (λ v under met same. by v under (subst (λ (t : VerType). fits h.program (type_of_value h.program heap v) t ≡ true) type met))
    where
      c : ℕ
      c = core_class h.program "java/lang/Throwable"

      type : core_type h.program "java/lang/Throwable" ≡ is.Ref 0 (element.Class (as_class c))
      type =
          let core = core_there h.program site.sound.core "java/lang/Throwable" refl in
          core_type_is h.program false "java/lang/Throwable" core refl ∙ core_class_type h.program "java/lang/Throwable" core

      thrown : (v : Value) → (v ≡ Null) ⊎ IsObjectOf h.program heap (is.Ref 0 (element.Class (as_class c))) v → Typed typings h (non_null h v (λ r. Throw r h.state))
      thrown v (inl null) = subst (λ (w : Value). Typed typings h (non_null h w (λ r. Throw r h.state))) (sym null) (raises typings h site "java/lang/NullPointerException" None refl)
      thrown v (inr q) =
          subst (λ (w : Value). Typed typings h (non_null h w (λ r. Throw r h.state))) (sym q.is)
          (q.there, class_there h.program site.sound.hierarchy (object_at h.state q.object).class c q.fit, site.state)

      by : (v : Value) (under : List Value) → fits h.program (type_of_value h.program heap v) (is.Ref 0 (element.Class (as_class c))) ≡ true
          → Typed typings h (when (is_instance_of h c v) (non_null h v (λ r. Throw r h.state)) (illegal h))
      by v under fit =
          subst (λ b. Typed typings h (when b (non_null h v (λ r. Throw r h.state)) (illegal h))) (sym (instance_there h site.sound.hierarchy c v fit))
          (thrown v (of_reference h.program heap (is.Ref 0 (element.Class (as_class c))) v (record { dimensions = 0; element = _; is = refl }) fit))
