-- What calls and returns come to.
use Rattle.std.proofs.Common.{Bool, List, None, Option, Some, [], false, refl, true, ℕ, ◌∷◌, ◌≡◌}
use Rattle.vx_class.specs.declared.class_file.Code.{Code}
use Rattle.vx_java.specs.Calls.{call_instance, call_resolved, call_static, carry_out, clone_array, dispatch, enter, if_method, invoke, member_text, on_class, on_receiver}
use Rattle.vx_java.specs.Machine.{Here, Outcome, Value, method_text}
use Rattle.vx_java.specs.Operation.{method_word, native_word}
use Rattle.vx_java.specs.Returns.{return_from, return_value}
use Rattle.vx_java.specs.declared.operation.Mode.{Mode}
use Rattle.vx_java.specs.declared.operation.Mode.TheVariants as mode
use Rattle.vx_java.specs.declared.operation.Sort.{Sort}
use Rattle.vx_java.specs.declared.selected.Selected.{Selected}
use Rattle.vx_java.specs.declared.selected.Selected.TheVariants.{Abstract, Conflict, Method}
use Rattle.vx_java.specs.Checks.{same_bool}
use Rattle.vx_link.specs.Names.{Member, member}
use Rattle.vx_link.specs.Parts.{is_interface, method_at}
use Rattle.vx_link.specs.Resolution.{is_array_clone, resolve_method}
use Rattle.vx_kept_facts.proofs.Claims.{arguments_come, chosen}
use Rattle.vx_kept_facts.proofs.RowClaims.{OfCall, RowClaim, class_there, incompatible, object_there, when_ready}

module _ (rows : RowClaim) (m : Member) (asks : OfCall rows m) where
  -- ---- calls

  enter_comes : (h : Here) → rows.claim.At h → (n : ℕ) (code : Option Code) → (method_at h.program n).code ≡ code → (values rest : List Value) → rows.claim.May h.program (enter h n code values rest)
  enter_comes h at n None is values rest =
      chosen rows.claim h.program _ _ _
      (rows.lacks h at native_word (method_text h.program (method_at h.program n)) (asks.native h.program (method_at h.program n)))
      (rows.natives h at n)
  enter_comes h at n (Some code) is values rest =
      chosen rows.claim h.program _ _ _ (rows.enters h at n code is values rest) (rows.claim.raises h at "java/lang/StackOverflowError" refl)

  carry_out_comes : (h : Here) → rows.claim.At h → (values rest : List Value) (selected : Selected) → rows.claim.May h.program (carry_out h values rest selected)
  carry_out_comes h at values rest (Method n) = enter_comes h at n.0 (method_at h.program n.0).code refl values rest
  carry_out_comes h at values rest Abstract = rows.claim.raises h at "java/lang/AbstractMethodError" refl
  carry_out_comes h at values rest Conflict = incompatible rows h at

  receiver_comes : (h : Here) → rows.claim.At h → (named : ℕ) (operands : List Value) (next : ℕ → List Value → Outcome)
      → ((r : ℕ) (rest : List Value) → rows.claim.May h.program (next r rest)) → rows.claim.May h.program (on_receiver h m named operands next)
  receiver_comes h at named [] next each = rows.claim.breaks h
  receiver_comes h at named (o ∷ rest) next each = chosen rows.claim h.program _ _ _ (object_there rows h at o _ (λ r. each r rest)) (rows.claim.breaks h)

  dispatch_comes : (h : Here) → rows.claim.At h → (mode : Mode) (named resolved : ℕ) (values : List Value) (r : ℕ) (rest : List Value) → rows.claim.May h.program (dispatch h mode m named resolved values r rest)
  dispatch_comes h at mode named resolved values r rest = chosen rows.claim h.program _ _ _ (incompatible rows h at) (carry_out_comes h at _ rest _)

  call_instance_comes : (h : Here) → rows.claim.At h → (mode : Mode) (named resolved : ℕ) → rows.claim.May h.program (call_instance h mode m named resolved)
  call_instance_comes h at mode named resolved =
      arguments_come rows.claim h _ _ (λ values below. receiver_comes h at named below _ (dispatch_comes h at mode named resolved values))

  call_static_comes : (h : Here) → rows.claim.At h → (resolved : ℕ) → rows.claim.May h.program (call_static h m resolved)
  call_static_comes h at resolved =
      arguments_come rows.claim h _ _ (λ values rest. when_ready rows h at _ _ (asks.begins _) (λ g there. carry_out_comes g there values rest _))

  call_resolved_comes : (h : Here) → rows.claim.At h → (mode : Mode) (named resolved : ℕ) → rows.claim.May h.program (call_resolved h mode m named resolved)
  call_resolved_comes h at mode.Static named resolved = chosen rows.claim h.program _ _ _ (call_static_comes h at resolved) (incompatible rows h at)
  call_resolved_comes h at mode.Interface named resolved = chosen rows.claim h.program _ _ _ (incompatible rows h at) (call_instance_comes h at mode.Interface named resolved)
  call_resolved_comes h at mode.Virtual named resolved = chosen rows.claim h.program _ _ _ (incompatible rows h at) (call_instance_comes h at mode.Virtual named resolved)
  call_resolved_comes h at mode.Special named resolved = chosen rows.claim h.program _ _ _ (incompatible rows h at) (call_instance_comes h at mode.Special named resolved)

  method_comes : (h : Here) → rows.claim.At h → (mode : Mode) (named : ℕ) (method : Option ℕ) → rows.claim.May h.program (if_method h mode m named method)
  method_comes h at mode named None = rows.lacks h at method_word (member_text m) asks.method
  method_comes h at mode named (Some resolved) = call_resolved_comes h at mode named resolved

  clone_comes : (h : Here) → rows.claim.At h → (mode : Mode) (named : ℕ) → rows.claim.May h.program (clone_array h mode m named)
  clone_comes h at mode.Static named = incompatible rows h at
  clone_comes h at _ named = receiver_comes h at named h.state.top.operands _ (λ r rest. rows.claim.passes h at)

  on_class_comes : (h : Here) → rows.claim.At h → (mode : Mode) (named : ℕ) → rows.claim.May h.program (on_class h mode m named)
  on_class_comes h at mode named = by (is_array_clone h.program named m.name m.descriptor)
    where
      by : (clone : Bool) → rows.claim.May h.program (elim clone [ true ↦ clone_array h mode m named | false ↦ if_method h mode m named (resolve_method h.program named m.name m.descriptor) ])
      by true = clone_comes h at mode named
      by false = method_comes h at mode named (resolve_method h.program named m.name m.descriptor)

module _ (rows : RowClaim) where
  pub invoke_comes : (h : Here) → rows.claim.At h → (mode : Mode) (i : ℕ) → OfCall rows (member h.pool i) → rows.claim.May h.program (invoke h mode i)
  invoke_comes h at mode i asks =
      class_there rows h at (member h.pool i).class _ asks.class
      (λ named.
      chosen rows.claim h.program (same_bool (member h.pool i).by_interface (is_interface h.program named)) _ _
      (on_class_comes rows (member h.pool i) asks h at mode named)
      (incompatible rows h at))

  -- ---- returns

  return_value_comes : (h : Here) → rows.claim.At h → (value : Option (List Value)) → rows.claim.May h.program (return_value h value)
  return_value_comes h at None = rows.claim.breaks h
  return_value_comes h at (Some value) = rows.returns h at h.state.top.kind value

  pub return_from_comes : (h : Here) → rows.claim.At h → (sort : Option Sort) → rows.claim.May h.program (return_from h sort)
  return_from_comes h at sort = chosen rows.claim h.program _ _ _ (return_value_comes h at _) (rows.claim.breaks h)
