-- A run begins in a typed state.
use Rattle.std.proofs.Common.{List, Option, Some, [], ap, arith, false, inl, inr, length, map, refl, replicate, subst, suc, sym, true, zero, ℕ, ◌++◌, ◌+◌, ◌-◌, ◌<◌, ◌∷◌, ◌≡◌, ◌≤◌, ◌⊎◌}
use Rattle.std.proofs.lemmas.Bool.{cases_lt}
use Rattle.std.proofs.lemmas.List.{length-append, length-replicate}
use Rattle.std.specs.Prelude.{take}
use Rattle.vx_class.specs.Members.{STATIC}
use Rattle.vx_class.specs.declared.class_file.Code.{Code}
use Rattle.vx_java.specs.FirstObjects.{first_words}
use Rattle.vx_java.specs.Initialisation.{max_locals}
use Rattle.vx_java.specs.Machine.{Ref, Top, Value, current_class}
use Rattle.vx_java.specs.Step.{Config, before_main, first_inits, first_static, start}
use Rattle.vx_kept_facts.proofs.Claims.{main_chain, start_comes}
use Rattle.vx_link.specs.ClassNames.{array_class, class_element, core_class}
use Rattle.vx_link.specs.CoreFiles.{core_count}
use Rattle.vx_link.specs.Parts.{class_count, has, is_static_field, method_at, no_field}
use Rattle.vx_link.specs.declared.program.LinkedField.{LinkedField}
use Rattle.vx_link.specs.declared.program.Program.{Program}
use Rattle.vx_list.specs.Places.{item_or}
use Rattle.vx_sound.proofs.Beginning.{begins, marked_typed, pushed_typed, types_of_nothing}
use Rattle.vx_sound.proofs.ClassNumbers.{item_past}
use Rattle.vx_sound.proofs.Names.{first_fits}
use Rattle.vx_sound.proofs.Padding.{padded}
use Rattle.vx_sound.specs.Sound.{IsSound}
use Rattle.vx_sound.specs.Typed.{AreTypings, IsTypedRun, IsTypedState, Typings, first_heap}
use Rattle.vx_sound.specs.Values.{type_of_class, type_of_field, type_of_reference, type_of_value, types_of_frame, types_of_values}
use Rattle.vx_types.proofs.Lists.{list_fits}
use Rattle.vx_types.proofs.Tests.{not_both}
use Rattle.vx_types.specs.Fits.{StateFits, all_fit, fits}
use Rattle.vx_types.specs.declared.types.VerType.{VerType}
use Rattle.vx_types.specs.declared.types.VerType.TheVariants as is
use Rattle.vx_value.specs.declared.slot.InitState.TheVariants.{Done, Not}
use Rattle.vx_verify.specs.Typing.{start_state, values_given}

-- ---- lists

item_map : {A B : Type 0} (g : A → B) (xs : List A) (i : ℕ) (d : B) (e : A) → i < length xs → item_or (map g xs) i d ≡ g (item_or xs i e)
item_map g [] i d e less = absurd (omega (arith, less))
item_map g (x ∷ xs) zero d e less = refl
item_map g (x ∷ xs) (suc i) d e less = item_map g xs i d e (omega (arith, less))

module _ (p : Program) (typings : Typings) (sound : IsSound p) (are : AreTypings p typings) where
  -- ---- the state before the class of main is initialised

  static_there : (f : ℕ) → is_static_field p f ≡ true → f < length p.fields
  static_there f static = by (cases_lt f (length p.fields))
    where
      by : (f < length p.fields) ⊎ (length p.fields ≤ f) → f < length p.fields
      by (inl less) = less
      by (inr past) =
          let none : is_static_field p f ≡ false = ap (λ (x : LinkedField). has STATIC x.flags) (item_past p.fields f no_field past) in
          not_both (is_static_field p f) static none

  inits_there : length (first_inits p) ≡ class_count p
  inits_there =
      let all = length-append (replicate (length p.classes - core_count) Not) (replicate core_count Done) in
      let before = length-replicate (length p.classes - core_count) Not in
      let core = length-replicate core_count Done in
      let enough = sound.runnable.core in
      omega (arith, all, before, core, enough)

  main_fits : (code : Code) → (method_at p p.main.0).code ≡ Some code
      → StateFits p (types_of_frame p (first_heap p) (before_main p []).top) (start_state p p.main.0 code)
  main_fits code e = record {
    locals =
        subst (λ (o : Option Code). all_fit p (v ∷ types_of_values p (first_heap p) (replicate (max_locals o - 1) Top)) (start_state p p.main.0 code).locals ≡ true) (sym e)
        (subst (λ (ts : List VerType). all_fit p (v ∷ ts) (start_state p p.main.0 code).locals ≡ true) (sym (types_of_nothing p (first_heap p) (code.max_locals - 1)))
        (subst (λ (given : List VerType). all_fit p (v ∷ replicate (code.max_locals - 1) is.Top) (take code.max_locals (given ++ replicate code.max_locals is.Top)) ≡ true) (sym sound.forms.main)
        (padded p code.max_locals (v ∷ []) (type_of_class p words ∷ []) code.max_locals (list_fits p v (type_of_class p words) [] [] (first_fits p sound.hierarchy.ranked (first_heap p) sound.first.heap (first_words p) words sound.first.words) refl)
        some (omega arith))));
    operands = refl;
  }
    where
      words : ℕ
      words = array_class p 1 (class_element (core_class p "java/lang/String"))

      v : VerType
      v = type_of_reference p (first_heap p) (first_words p)

      some : 1 ≤ code.max_locals
      some =
          let room = sound.members.room p.main.0 code e in
          let one : length (values_given p p.main.0) ≡ 1 = ap (λ (ts : List VerType). length ts) sound.forms.main in
          omega (arith, room, one)

  before_typed : (c : Config) → IsTypedState p typings (before_main p c)
  before_typed c = record {
    heap = sound.first.heap;
    statics = λ f static.
        subst (λ (v : Value). fits p (type_of_value p (first_heap p) v) (type_of_field p f) ≡ true) (sym (item_map (first_static p c) p.fields f Top no_field (static_there f static)))
        (sound.first.statics c f static);
    inits = inits_there;
    top = begins p typings sound are (first_heap p) (before_main p c).top.kind p.main.0 (Ref (first_words p) ∷ []) sound.runnable.main main_fits;
    callers = tt;
  }

  -- ---- the start

  pub start_typed : (c : Config) → IsTypedRun p typings (start p c)
  start_typed c =
      start_comes (IsTypedRun p typings) p c (λ i is. refl) refl (pushed_typed p typings sound are (before_main p c) (before_typed c) (current_class p (before_main p c)))
      (marked_typed p typings sound are (before_main p c) (before_typed c) Done (main_chain p c))
