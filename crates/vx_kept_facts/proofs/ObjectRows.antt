-- What rows of fields, objects and arrays come to.
use Rattle.vx_desc.specs.Descriptors.{field_type}
use Rattle.std.proofs.Common.{Bool, List, None, Option, Some, [], codes, false, refl, true, ℕ, ℤ, ◌∷◌, ◌≡◌}
use Rattle.vx_desc.specs.declared.java_type.JavaType.{JavaType}
use Rattle.vx_java.specs.Arrays.{array_length, at_index, lengths_off, load_element, may_store, new_array, new_grid, new_grid_of, new_primitives, new_references, store_element}
use Rattle.vx_java.specs.Checks.{is_instance_of, non_null, sort_of}
use Rattle.vx_java.specs.Fields.{Found, declaring, field_text, get_field, get_from, get_static, if_agreeing, if_field, if_sort, if_type, put_field, put_into, put_static, put_value, with_field}
use Rattle.vx_java.specs.Machine.{Go, Here, Int, Null, Outcome, Ref, Throw, Value, go, past, raise, when, with_static}
use Rattle.vx_java.specs.Operation.{class_word, field_word, float_word}
use Rattle.vx_java.specs.Objects.{against, check_cast, instance_of, int_of_bool, monitor, new_instance, new_of_class, throw_top}
use Rattle.vx_java.specs.declared.operation.Element.{Element}
use Rattle.vx_java.specs.declared.operation.Sort.{Sort}
use Rattle.vx_link.specs.ClassNames.{array_over, core_class}
use Rattle.vx_link.specs.Names.{Member, class_name, member}
use Rattle.vx_link.specs.Resolution.{resolve_field}
use Rattle.vx_kept_facts.proofs.Claims.{chosen, negative_size, no_memory, null_pointer}
use Rattle.vx_kept_facts.proofs.RowClaims.{OfField, OfNew, RowClaim, checked, class_there, incompatible, object_there, settles, when_ready}

module _ (rows : RowClaim) where
  -- ---- fields

  -- what the program decides is passed, or ends the run, or raises
  abbrev Follows : Here → (Found → Outcome) → Type 0
  Follows h rest = (found : Found) → rows.claim.May h.program (rest found)

  agreeing_comes : (h : Here) → rows.claim.At h → (agree : Bool) (found : Found) (rest : Found → Outcome) → Follows h rest → rows.claim.May h.program (if_agreeing h agree found rest)
  agreeing_comes h at true found rest each = each found
  agreeing_comes h at false found rest each = incompatible rows h at

  field_comes : (h : Here) → rows.claim.At h → (m : Member) → OfField rows m → (static : Bool) (t : JavaType) (named : ℕ) (field : Option ℕ) (rest : Found → Outcome) → Follows h rest
      → rows.claim.May h.program (if_field h m static t named field rest)
  field_comes h at m asks static t named None rest each = rows.lacks h at field_word (field_text m) asks.field
  field_comes h at m asks static t named (Some f) rest each = agreeing_comes h at _ _ rest each

  sort_comes : (h : Here) → rows.claim.At h → rows.Lacks float_word (codes "-") → (sort : Option Sort) (rest : Outcome) → rows.claim.May h.program rest → rows.claim.May h.program (if_sort h sort rest)
  sort_comes h at lacks None rest comes = rows.lacks h at float_word (codes "-") lacks
  sort_comes h at lacks (Some sort) rest comes = comes

  type_comes : (h : Here) → rows.claim.At h → (m : Member) → OfField rows m → (static : Bool) (type : Option JavaType) (rest : Found → Outcome) → Follows h rest
      → rows.claim.May h.program (if_type h m static type rest)
  type_comes h at m asks static None rest each = rows.claim.breaks h
  type_comes h at m asks static (Some t) rest each =
      sort_comes h at asks.float (sort_of t) _
      (class_there rows h at m.class _ asks.class (λ named. field_comes h at m asks static t named (resolve_field h.program named m.name m.descriptor) rest each))

  with_field_comes : (h : Here) → rows.claim.At h → (i : ℕ) → OfField rows (member h.pool i) → (static : Bool) (rest : Found → Outcome) → Follows h rest → rows.claim.May h.program (with_field h i static rest)
  with_field_comes h at i asks static rest each = type_comes h at (member h.pool i) asks static (field_type (member h.pool i).descriptor) rest each

  pub get_static_comes : (h : Here) → rows.claim.At h → (i : ℕ) → OfField rows (member h.pool i) → rows.claim.May h.program (get_static h i)
  get_static_comes h at i asks =
      with_field_comes h at i asks true _
      (λ found. chosen rows.claim h.program _ _ _ (when_ready rows h at (declaring h found) _ (asks.begins (declaring h found)) (λ g there. rows.claim.passes g there)) (rows.claim.breaks h))

  -- a store to a static field moves no frame
  written_comes : (g : Here) → rows.claim.At g → (found : Found) (v : Value) (rest : List Value) (own : Bool)
      → rows.claim.May g.program (Go (past g (elim own [ true ↦ g.state | false ↦ with_static g.state found.field v ]) rest))
  written_comes g at found v rest true = rows.claim.passes g at
  written_comes g at found v rest false = rows.claim.passes g at

  put_value_comes : (h : Here) → rows.claim.At h → (found : Found) → rows.Begins (declaring h found) → (operands : List Value) → rows.claim.May h.program (put_value h found operands)
  put_value_comes h at found may [] = rows.claim.breaks h
  put_value_comes h at found may (v ∷ rest) =
      chosen rows.claim h.program _ _ _ (when_ready rows h at (declaring h found) _ may (λ g there. written_comes g there found _ rest _)) (rows.claim.breaks h)

  pub put_static_comes : (h : Here) → rows.claim.At h → (i : ℕ) → OfField rows (member h.pool i) → rows.claim.May h.program (put_static h i)
  put_static_comes h at i asks = with_field_comes h at i asks true _ (λ found. put_value_comes h at found (asks.begins (declaring h found)) h.state.top.operands)

  pub get_from_comes : (h : Here) → rows.claim.At h → (found : Found) (operands : List Value) → rows.claim.May h.program (get_from h found operands)
  get_from_comes h at found [] = rows.claim.breaks h
  get_from_comes h at found (o ∷ rest) = chosen rows.claim h.program _ _ _ (object_there rows h at o _ (λ r. rows.claim.passes h at)) (rows.claim.breaks h)

  pub get_field_comes : (h : Here) → rows.claim.At h → (i : ℕ) → OfField rows (member h.pool i) → rows.claim.May h.program (get_field h i)
  get_field_comes h at i asks = with_field_comes h at i asks false _ (λ found. get_from_comes h at found h.state.top.operands)

  pub put_into_comes : (h : Here) → rows.claim.At h → (found : Found) (operands : List Value) → rows.claim.May h.program (put_into h found operands)
  put_into_comes h at found (v ∷ o ∷ rest) = chosen rows.claim h.program _ _ _ (object_there rows h at o _ (λ r. rows.claim.passes h at)) (rows.claim.breaks h)
  put_into_comes h at found _ = rows.claim.breaks h

  pub put_field_comes : (h : Here) → rows.claim.At h → (i : ℕ) → OfField rows (member h.pool i) → rows.claim.May h.program (put_field h i)
  put_field_comes h at i asks = with_field_comes h at i asks false _ (λ found. put_into_comes h at found h.state.top.operands)

  -- ---- objects

  new_of_class_comes : (h : Here) → rows.claim.At h → (c : ℕ) → rows.Begins c → rows.claim.May h.program (new_of_class h c)
  new_of_class_comes h at c may =
      chosen rows.claim h.program _ _ _ (rows.claim.raises h at "java/lang/InstantiationError" refl)
      (chosen rows.claim h.program _ _ _ (when_ready rows h at c _ may (λ g there. rows.claim.passes g there)) (rows.claim.breaks h))

  pub new_instance_comes : (h : Here) → rows.claim.At h → (i : ℕ) → OfNew rows (class_name h.pool i) → rows.claim.May h.program (new_instance h i)
  new_instance_comes h at i asks = class_there rows h at (class_name h.pool i) _ asks.class (λ c. new_of_class_comes h at c (asks.begins c))

  -- what is thrown is an object of Throwable
  thrown_comes : (h : Here) → rows.claim.At h → (o : Value) → is_instance_of h (core_class h.program "java/lang/Throwable") o ≡ true
      → rows.claim.May h.program (non_null h o (λ r. Throw r h.state))
  thrown_comes h at (Ref r) is = rows.throws h at r is
  thrown_comes h at _ is = null_pointer rows.claim h at

  pub throw_top_comes : (h : Here) → rows.claim.At h → (operands : List Value) → rows.claim.May h.program (throw_top h operands)
  throw_top_comes h at (o ∷ rest) = checked rows h _ _ _ (thrown_comes h at o) (rows.claim.breaks h)
  throw_top_comes h at [] = rows.claim.breaks h

  pub monitor_comes : (h : Here) → rows.claim.At h → (operands : List Value) → rows.claim.May h.program (monitor h operands)
  monitor_comes h at (o ∷ rest) = chosen rows.claim h.program _ _ _ (object_there rows h at o _ (λ r. rows.claim.passes h at)) (rows.claim.breaks h)
  monitor_comes h at [] = rows.claim.breaks h

  pub against_comes : (h : Here) (v : Value) (c : ℕ) (rest : Bool → Outcome) → ((fits : Bool) → rows.claim.May h.program (rest fits)) → rows.claim.May h.program (against h v c rest)
  against_comes h (Ref r) c rest each = each _
  against_comes h _ c rest each = rows.claim.breaks h

  pub cast_comes : (h : Here) → rows.claim.At h → (operands : List Value) (fits : Bool) → rows.claim.May h.program (when fits (go h operands) (raise h "java/lang/ClassCastException"))
  cast_comes h at operands fits = chosen rows.claim h.program fits _ _ (rows.claim.passes h at) (rows.claim.raises h at "java/lang/ClassCastException" refl)

  pub check_cast_comes : (h : Here) → rows.claim.At h → (name : List ℕ) → rows.Lacks class_word name → (operands : List Value) → rows.claim.May h.program (check_cast h name operands)
  check_cast_comes h at name lacks (Null ∷ rest) = rows.claim.passes h at
  check_cast_comes h at name lacks (v ∷ rest) = class_there rows h at name _ lacks (λ c. against_comes h v c _ (cast_comes h at (v ∷ rest)))
  check_cast_comes h at name lacks [] = class_there rows h at name _ lacks (λ c. rows.claim.breaks h)

  pub instance_of_comes : (h : Here) → rows.claim.At h → (name : List ℕ) → rows.Lacks class_word name → (operands : List Value) → rows.claim.May h.program (instance_of h name operands)
  instance_of_comes h at name lacks (Null ∷ rest) = settles rows h at (int_of_bool false ∷ rest)
  instance_of_comes h at name lacks (v ∷ rest) = class_there rows h at name _ lacks (λ c. against_comes h v c _ (λ fits. settles rows h at (int_of_bool fits ∷ rest)))
  instance_of_comes h at name lacks [] = class_there rows h at name _ lacks (λ c. rows.claim.breaks h)

  -- ---- arrays

  pub new_array_comes : (h : Here) → rows.claim.At h → (class : ℕ) (operands : List Value) → rows.claim.May h.program (new_array h class operands)
  new_array_comes h at class (Int n ∷ rest) = chosen rows.claim h.program _ _ _ (negative_size rows.claim h at) (chosen rows.claim h.program _ _ _ (no_memory rows.claim h at) (rows.claim.passes h at))
  new_array_comes h at class _ = rows.claim.breaks h

  pub new_primitives_comes : (h : Here) → rows.claim.At h → (number : ℕ) → rows.Lacks float_word (codes "-") → rows.claim.May h.program (new_primitives h number)
  new_primitives_comes h at number lacks = chosen rows.claim h.program _ _ _ (rows.lacks h at float_word (codes "-") lacks) (new_array_comes h at _ h.state.top.operands)

  pub new_references_comes : (h : Here) → rows.claim.At h → (i : ℕ) → rows.Lacks class_word (class_name h.pool i) → rows.claim.May h.program (new_references h i)
  new_references_comes h at i lacks = class_there rows h at (class_name h.pool i) _ lacks (λ c. new_array_comes h at (array_over h.program c) h.state.top.operands)

  pub new_grid_of_comes : (h : Here) → rows.claim.At h → (class : ℕ) (taken : Option (List ℤ × List Value)) → rows.claim.May h.program (new_grid_of h class taken)
  new_grid_of_comes h at class None = rows.claim.breaks h
  new_grid_of_comes h at class (Some ([], rest)) = rows.claim.breaks h
  new_grid_of_comes h at class (Some (n ∷ more, rest)) =
      chosen rows.claim h.program _ _ _ (negative_size rows.claim h at) (chosen rows.claim h.program _ _ _ (no_memory rows.claim h at) (rows.claim.passes h at))

  pub new_grid_comes : (h : Here) → rows.claim.At h → (i d : ℕ) → rows.Lacks class_word (class_name h.pool i) → rows.claim.May h.program (new_grid h i d)
  new_grid_comes h at i d lacks = class_there rows h at (class_name h.pool i) _ lacks (λ c. new_grid_of_comes h at c (lengths_off d [] h.state.top.operands))

  index_comes : (h : Here) → rows.claim.At h → (r : ℕ) (i : ℤ) (rest : Outcome) → rows.claim.May h.program rest → rows.claim.May h.program (at_index h r i rest)
  index_comes h at r i rest comes = chosen rows.claim h.program _ _ _ comes (rows.claim.raises h at "java/lang/ArrayIndexOutOfBoundsException" refl)

  pub load_element_comes : (h : Here) → rows.claim.At h → (e : Element) (operands : List Value) → rows.claim.May h.program (load_element h e operands)
  load_element_comes h at e (Int i ∷ a ∷ rest) =
      chosen rows.claim h.program _ _ _ (object_there rows h at a _ (λ r. index_comes h at r i _ (rows.claim.passes h at))) (rows.claim.breaks h)
  load_element_comes h at e _ = rows.claim.breaks h

  pub store_element_comes : (h : Here) → rows.claim.At h → (e : Element) (operands : List Value) → rows.claim.May h.program (store_element h e operands)
  store_element_comes h at e (v ∷ Int i ∷ a ∷ rest) =
      chosen rows.claim h.program _ _ _
      (object_there rows h at a _ (λ r.
      index_comes h at r i _
      (chosen rows.claim h.program (may_store h e r v) _ _ (rows.claim.passes h at) (rows.claim.raises h at "java/lang/ArrayStoreException" refl))))
      (rows.claim.breaks h)
  store_element_comes h at e _ = rows.claim.breaks h

  pub array_length_comes : (h : Here) → rows.claim.At h → (operands : List Value) → rows.claim.May h.program (array_length h operands)
  array_length_comes h at (a ∷ rest) = chosen rows.claim h.program _ _ _ (object_there rows h at a _ (λ r. rows.claim.passes h at)) (rows.claim.breaks h)
  array_length_comes h at [] = rows.claim.breaks h
