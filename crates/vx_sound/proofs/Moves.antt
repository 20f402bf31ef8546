-- Loads, stores and the stack forms: what stands behind them is of the types behind them.
use Rattle.std.proofs.Common.{Bool, List, None, Option, Some, [], ap, false, refl, subst, sym, true, ℕ, ℤ, ◌∙◌, ◌∷◌, ◌≡◌}
use Rattle.std.proofs.lemmas.List.{map-set}
use Rattle.std.proofs.lemmas.List.Elements.{All-head}
use Rattle.std.specs.Int.{int_wrapping_add, w32}
use Rattle.std.specs.Prelude.{if◌then◌else◌, option_and_then, option_map, slice_set}
use Rattle.vx_java.specs.Locals.{increase, load, locals_with, store}
use Rattle.vx_java.specs.Machine.{Here, Int, Top, Value, illegal, past, push, when, Go}
use Rattle.vx_java.specs.Locals.{with_locals}
use Rattle.vx_java.specs.StackForms.{lower, lower_taken, stack, upper, upper_taken, values_reordered, words}
use Rattle.vx_java.specs.declared.operation.Shuffle.{Shuffle}
use Rattle.vx_java.specs.declared.operation.Sort.{Sort}
use Rattle.vx_java.specs.declared.operation.Sort.TheVariants as sort
use Rattle.vx_list.specs.Places.{item_or}
use Rattle.vx_sound.proofs.Sites.{AtSite, LeadsTo, Typed, behind, moves, pushes, settles, types_here, types_in, types_with}
use Rattle.vx_sound.proofs.Values.{int_value, set_same, some_same, sort_of_typed, stored_typed, type_at}
use Rattle.vx_sound.proofs.Words.{reordered_typed, words_typed}
use Rattle.vx_sound.specs.Typed.{Typings}
use Rattle.vx_sound.specs.Values.{type_of_value}
use Rattle.vx_types.proofs.FitLaws.{state_itself}
use Rattle.vx_types.specs.Fits.{StateFits}
use Rattle.vx_types.specs.Flow as flow
use Rattle.vx_types.specs.Types.{VerState}
use Rattle.vx_types.specs.declared.types.VerType.{VerType}
use Rattle.vx_types.specs.declared.types.VerType.TheVariants as is
use Rattle.vx_verify.specs.Typing.{IsReached}

-- types of local variables and of operands
abbrev with_locals_of : (locals operands : List VerType) → VerState
with_locals_of locals operands = record { locals = locals; operands = operands }

is_int : (t : VerType) → flow.is_of sort.Int t ≡ true → t ≡ is.Int
is_int is.Int h = refl
is_int _ h = absurd cc

module _ (typings : Typings) (h : Here) (site : AtSite typings h) where
  -- ---- local variables

  pub load_typed : (s : Sort) (n : ℕ) (made : VerState) → flow.load s (item_or (types_in h h.state.top.locals) n is.Top) (types_here h) ≡ Some made
      → LeadsTo typings h (behind h ∷ []) made → Typed typings h (load h s n)
  load_typed s n made e leads = by (flow.is_of s t) refl e
    where
      v : Value
      v = item_or h.state.top.locals n Top

      t : VerType
      t = item_or (types_in h h.state.top.locals) n is.Top

      same : t ≡ type_of_value h.program h.state.heap v
      same = type_at h.program h.state.heap h.state.top.locals n

      by : (b : Bool) → flow.is_of s t ≡ b → (if b then Some (types_with h (t ∷ types_in h h.state.top.operands)) else None) ≡ Some made → Typed typings h (load h s n)
      by true is e =
          let of = sort_of_typed h.program h.state.heap s v (subst (λ (u : VerType). flow.is_of s u ≡ true) same is) in
          subst (λ b. Typed typings h (when b (push h v h.state.top.operands) (illegal h))) (sym of)
          (pushes typings h site v h.state.top.operands t (types_in h h.state.top.operands) (sym same) refl
          (subst (λ (u : VerState). LeadsTo typings h (behind h ∷ []) u) (sym (some_same e)) leads))
      by false is e = absurd cc

  pub store_typed : (s : Sort) (n : ℕ) (operands : List Value) (made : VerState) → flow.store_top s n (types_in h h.state.top.locals) (types_in h operands) ≡ Some made
      → LeadsTo typings h (behind h ∷ []) made → Typed typings h (store h s n operands)
  store_typed s n [] made e leads = absurd cc
  store_typed s n (v ∷ under) made e leads = by (flow.is_of s t) refl e
    where
      t : VerType
      t = type_of_value h.program h.state.heap v

      locals : List Value
      locals = locals_with h.state.top.locals n v

      by : (b : Bool) → flow.is_of s t ≡ b
          → (if b then Some (record { locals = flow.locals_with (types_in h h.state.top.locals) n t; operands = types_in h under }) else None) ≡ Some made → Typed typings h (store h s n (v ∷ under))
      by true is e =
          let stands : ◌≡◌ {A = VerState} (record { locals = types_in h locals; operands = types_in h under }) made =
          ap (λ (ts : List VerType). with_locals_of ts (types_in h under)) (stored_typed h.program h.state.heap s h.state.top.locals n v is) ∙ some_same e in
          subst (λ b. Typed typings h (when b (Go (past h (with_locals h.state locals) under)) (illegal h))) (sym (sort_of_typed h.program h.state.heap s v is))
          (moves typings h site (behind h) locals under made
          (All-head (λ position. IsReached h.program (typings h.state.top.method) position made) (behind h) [] leads.reached)
          (subst (λ (u : VerState). StateFits h.program (record { locals = types_in h locals; operands = types_in h under }) u) stands
          (state_itself h.program site.sound.hierarchy.ranked (record { locals = types_in h locals; operands = types_in h under }))))
      by false is e = absurd cc

  pub increase_typed : (n : ℕ) (by : ℤ) (made : VerState) → (if flow.is_of sort.Int (item_or (types_in h h.state.top.locals) n is.Top) then Some (types_here h) else None) ≡ Some made
      → LeadsTo typings h (behind h ∷ []) made → Typed typings h (increase h n by (item_or h.state.top.locals n Top))
  increase_typed n by made e leads = checked (flow.is_of sort.Int t) refl e
    where
      v : Value
      v = item_or h.state.top.locals n Top

      t : VerType
      t = item_or (types_in h h.state.top.locals) n is.Top

      same : t ≡ type_of_value h.program h.state.heap v
      same = type_at h.program h.state.heap h.state.top.locals n

      -- an int in the place of another one is of the same type
      stays : t ≡ is.Int → (a : ℤ) → types_in h (slice_set h.state.top.locals n (Int a)) ≡ types_in h h.state.top.locals
      stays int a = map-set (type_of_value h.program h.state.heap) h.state.top.locals n (Int a) ∙ set_same (types_in h h.state.top.locals) n is.Int int

      goes_on : t ≡ is.Int → types_here h ≡ made → (w : Value) → type_of_value h.program h.state.heap w ≡ is.Int → Typed typings h (increase h n by w)
      goes_on int here w is = int_value h.program h.state.heap (λ x. Typed typings h (increase h n by x)) w (ap (flow.is_of sort.Int) is) (λ a.
          let locals : List Value = slice_set h.state.top.locals n (Int (int_wrapping_add w32 a by)) in
          let stands : with_locals_of (types_in h locals) (types_in h h.state.top.operands) ≡ made =
          ap (λ (ts : List VerType). with_locals_of ts (types_in h h.state.top.operands)) (stays int (int_wrapping_add w32 a by)) ∙ here in
          moves typings h site (behind h) locals h.state.top.operands made
          (All-head (λ position. IsReached h.program (typings h.state.top.method) position made) (behind h) [] leads.reached)
          (subst (λ (u : VerState). StateFits h.program (with_locals_of (types_in h locals) (types_in h h.state.top.operands)) u) stands
          (state_itself h.program site.sound.hierarchy.ranked (with_locals_of (types_in h locals) (types_in h h.state.top.operands)))))

      checked : (b : Bool) → flow.is_of sort.Int t ≡ b → (if b then Some (types_here h) else None) ≡ Some made → Typed typings h (increase h n by v)
      checked true is e = goes_on (is_int t is) (some_same e) v (sym same ∙ is_int t is)
      checked false is e = absurd cc

  -- ---- stack forms

  lower_typed : (form : Shuffle) (a rest : List Value) (made : List VerType) → flow.moved_from form (types_in h a, types_in h rest) ≡ Some made
      → LeadsTo typings h (behind h ∷ []) (types_with h made) → Typed typings h (lower_taken h form a (words (lower form) rest))
  lower_typed form a rest made e leads = by (flow.words (lower form) (types_in h rest)) refl e
    where
      by : (o : Option (List VerType × List VerType)) → flow.words (lower form) (types_in h rest) ≡ o
          → option_map (λ (under : List VerType × List VerType). flow.types_reordered form (types_in h a) under.0 under.1) o ≡ Some made
          → Typed typings h (lower_taken h form a (words (lower form) rest))
      by None q e = absurd cc
      by (Some found) q e =
          let w = words_typed h.program h.state.heap (lower form) rest found q in
          let order : types_in h (values_reordered form a w.above w.under) ≡ made =
          reordered_typed h.program h.state.heap form a w.above w.under
          ∙ ap (λ (ts : List VerType). flow.types_reordered form (types_in h a) ts (types_in h w.under)) w.types_above
          ∙ ap (λ (ts : List VerType). flow.types_reordered form (types_in h a) found.0 ts) w.types_under
          ∙ some_same e in
          subst (λ (o : Option (List Value × List Value)). Typed typings h (lower_taken h form a o)) (sym w.is)
          (settles typings h site (values_reordered form a w.above w.under)
          (subst (λ (ts : List VerType). LeadsTo typings h (behind h ∷ []) (types_with h ts)) (sym order) leads))

  pub stack_typed : (form : Shuffle) (made : List VerType) → flow.moved form (types_in h h.state.top.operands) ≡ Some made
      → LeadsTo typings h (behind h ∷ []) (types_with h made) → Typed typings h (stack h form)
  stack_typed form made e leads = by (flow.words (upper form) (types_in h h.state.top.operands)) refl e
    where
      by : (o : Option (List VerType × List VerType)) → flow.words (upper form) (types_in h h.state.top.operands) ≡ o
          → option_and_then (flow.moved_from form) o ≡ Some made → Typed typings h (stack h form)
      by None q e = absurd cc
      by (Some found) q e =
          let w = words_typed h.program h.state.heap (upper form) h.state.top.operands found q in
          let of_above : flow.moved_from form (types_in h w.above, found.1) ≡ Some made =
          subst (λ (ts : List VerType). flow.moved_from form (ts, found.1) ≡ Some made) (sym w.types_above) e in
          let of_both : flow.moved_from form (types_in h w.above, types_in h w.under) ≡ Some made =
          subst (λ (ts : List VerType). flow.moved_from form (types_in h w.above, ts) ≡ Some made) (sym w.types_under) of_above in
          subst (λ (o : Option (List Value × List Value)). Typed typings h (upper_taken h form o)) (sym w.is)
          (lower_typed form w.above w.under made of_both leads)
