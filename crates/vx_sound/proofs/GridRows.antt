-- The row of arrays with their parts.
use Rattle.std.proofs.Common.{Bool, List, None, Option, Some, [], ap, arith, false, length, map, refl, subst, suc, sym, true, zero, ℕ, ℤ, ◌++◌, ◌+◌, ◌-◌, ◌<◌, ◌∙◌, ◌∷◌, ◌≡◌, ◌≤◌}
use Rattle.std.proofs.lemmas.Bool.{lt-ltb}
use Rattle.std.proofs.lemmas.List.{length-append, length-map}
use Rattle.std.specs.List.{list_any}
use Rattle.std.specs.Prelude.{if◌then◌else◌, nat_lt, replicate, ◌||◌}
use Rattle.vx_class.specs.declared.class_file.Code.{Code}
use Rattle.vx_pool.specs.Instructions.{dimensions}
use Rattle.vx_java.specs.Arrays.{grid, grid_cells, lengths_off, new_grid, new_grid_of, push_grid}
use Rattle.vx_java.specs.Checks.{if_there}
use Rattle.vx_java.specs.Machine.{Here, Object, Ref, Value, current_class, length_bound, no_object, raise, when}
use Rattle.vx_java.specs.Operation.{operation_of}
use Rattle.vx_java.specs.Row.{row_if, row_in}
use Rattle.vx_java.specs.Row as machine
use Rattle.vx_java.specs.declared.operation.Operation.{Operation}
use Rattle.vx_java.specs.declared.operation.Operation.TheVariants.{NewGrid}
use Rattle.vx_link.specs.ClassNames.{class_named}
use Rattle.vx_link.specs.Names.{class_name}
use Rattle.vx_link.specs.Parts.{class_at}
use Rattle.vx_list.specs.Places.{item_or}
use Rattle.vx_opcode.specs.declared.instruction.Instruction.{Instruction}
use Rattle.vx_pool.specs.declared.pool.Pool.{Pool}
use Rattle.vx_sound.proofs.Changes.{changes_heap, under_later}
use Rattle.vx_sound.proofs.GridNames.{IsArrayOf, named_array}
use Rattle.vx_sound.proofs.Grids.{grid_class, grid_length, grid_typed, some_objects, stands_appended}
use Rattle.vx_sound.proofs.Heaps.{IsLaterHeap, appended_later, appended_typed, item_back}
use Rattle.vx_sound.proofs.Led.{IsLed, led}
use Rattle.vx_sound.proofs.Names.{named_here}
use Rattle.vx_sound.proofs.ObjectRows.{taking}
use Rattle.vx_sound.proofs.Sites.{AtSite, LeadsTo, Typed, behind, raises, types_here, types_in, types_with}
use Rattle.vx_sound.proofs.Taken.{int_on_top}
use Rattle.vx_sound.specs.Law.{GridsKeepTypes, is_grid}
use Rattle.vx_sound.specs.Typed.{IsTypedOutcome, Typings}
use Rattle.vx_sound.specs.Values.{type_of_class, type_of_reference, types_of_values}
use Rattle.vx_types.proofs.FitLaws.{fits_itself}
use Rattle.vx_types.proofs.Lists.{list_fits}
use Rattle.vx_types.specs.Fits.{fits}
use Rattle.vx_types.specs.Flow.{after, taken, targets_by}
use Rattle.vx_types.specs.Plain.{computes, int}
use Rattle.vx_types.specs.Ranked.{IsRanked}
use Rattle.vx_types.specs.Rows as rows
use Rattle.vx_types.specs.Rows.{pool_of}
use Rattle.vx_types.specs.Types.{VerState, ref_of}
use Rattle.vx_types.specs.declared.types.VerType.{VerType}
use Rattle.vx_types.specs.declared.types.VerType.TheVariants as is
use Rattle.vx_value.specs.Arithmetic.{natural, negative}

module _ (typings : Typings) (h : Here) (site : AtSite typings h) where
  ranked : IsRanked h.program
  ranked = site.sound.hierarchy.ranked

  -- ---- lengths

  -- so many lengths that are taken
  record AreLengths (d : ℕ) (deeper : List ℤ) (values : List Value) (rest : List VerType) : Type 0 where
    pub lengths : List ℤ
    pub under : List Value
    pub off : lengths_off d deeper values ≡ Some (lengths, under)
    pub same : Some (types_in h under) ≡ Some rest
    pub count : length lengths ≡ d + length deeper

  lengths_taken : (d : ℕ) (deeper : List ℤ) (values : List Value) (rest : List VerType) → taken h.program (replicate d int) (types_in h values) ≡ Some rest → AreLengths d deeper values rest
  lengths_taken zero deeper values rest took = record { lengths = deeper; under = values; off = refl; same = took; count = omega arith }
  lengths_taken (suc d) deeper values rest took =
      int_on_top h.program h.state.heap (λ vs. AreLengths (suc d) deeper vs rest) (replicate d int) values rest took (λ n under below.
      let q = lengths_taken d (n ∷ deeper) under rest below in
      let count = q.count in
      record { lengths = q.lengths; under = q.under; off = q.off; same = q.same; count = omega (arith, count) })

  -- ---- the arrays

  grid_pushed : (c : ℕ) (n : ℕ) (lengths : List ℕ) (under : List Value) (t : VerType) (rest : List VerType) → (d : ℕ) → IsArrayOf h.program c (suc (length lengths + d)) → t ≡ type_of_class h.program c
      → Some (types_in h under) ≡ Some rest → LeadsTo typings h (behind h ∷ []) (types_with h (t ∷ rest)) → Typed typings h (push_grid h c (n ∷ lengths) under)
  grid_pushed c n lengths under t rest d array of_class same leads =
      changes_heap typings h site heap (Ref (length h.state.heap) ∷ under) (t ∷ rest) grows
      (appended_typed h.program ranked h.state.heap objects site.state.heap (grid_typed h.program ranked heap n lengths c d (length h.state.heap) array (stands_appended h.state.heap objects)))
      (list_fits h.program (type_of_reference h.program heap (length h.state.heap)) t (types_of_values h.program heap under) rest
      (subst (λ (u : VerType). fits h.program u t ≡ true) (sym typed) (subst (λ (u : VerType). fits h.program u t ≡ true) of_class (fits_itself h.program ranked t)))
      (under_later typings h site heap under rest grows same)) leads
    where
      objects : List Object
      objects = grid h.program c (n ∷ lengths) (length h.state.heap)

      heap : List Object
      heap = h.state.heap ++ objects

      grows : IsLaterHeap h.state.heap heap
      grows = appended_later h.state.heap objects

      within : length h.state.heap < length heap
      within =
          let size = length-append h.state.heap objects in
          let many = grid_length h.program (n ∷ lengths) c (length h.state.heap) in
          let some = some_objects n lengths in
          omega (arith, size, many, some)

      typed : type_of_reference h.program heap (length h.state.heap) ≡ type_of_class h.program c
      typed =
          let place : length h.state.heap ≡ length h.state.heap + 0 = omega arith in
          ap (λ b. if b then type_of_class h.program (item_or heap (length h.state.heap) no_object).class else is.Top) (lt-ltb (length h.state.heap) (length heap) within)
          ∙ ap (λ (o : Object). type_of_class h.program o.class) (item_back h.state.heap objects (length h.state.heap) 0 no_object place)
          ∙ ap (type_of_class h.program) (grid_class h.program c n lengths (length h.state.heap))

  -- the arrays of these lengths
  grid_made : (c : ℕ) (lengths : List ℤ) (under : List Value) (t : VerType) (rest : List VerType) (more : ℕ) → 1 ≤ length lengths → IsArrayOf h.program c (length lengths + more) → t ≡ type_of_class h.program c
      → Some (types_in h under) ≡ Some rest → LeadsTo typings h (behind h ∷ []) (types_with h (t ∷ rest)) → Typed typings h (new_grid_of h c (Some (lengths, under)))
  grid_made c [] under t rest more some array is same leads = absurd (omega (arith, some))
  grid_made c (n ∷ lengths) under t rest more some array is same leads =
      by_sign (list_any negative (n ∷ lengths))
    where
      ns : List ℕ
      ns = map natural (n ∷ lengths)

      deep : IsArrayOf h.program c (suc (length (map natural lengths) + more))
      deep =
          let size = length-map lengths natural in
          let whole : suc (length lengths) + more ≡ suc (length (map natural lengths) + more) = omega (arith, size) in
          subst (λ k. IsArrayOf h.program c k) whole array

      by_size : (b : Bool) → Typed typings h (when b (raise h "java/lang/OutOfMemoryError") (push_grid h c (map natural (n ∷ lengths)) under))
      by_size true = raises typings h site "java/lang/OutOfMemoryError" None refl
      by_size false = grid_pushed c (natural n) (map natural lengths) under t rest more deep is same leads

      by_sign : (b : Bool) → Typed typings h (when b (raise h "java/lang/NegativeArraySizeException")
          (when (list_any (nat_lt length_bound) (map natural (n ∷ lengths)) || nat_lt length_bound (grid_cells (map natural (n ∷ lengths)))) (raise h "java/lang/OutOfMemoryError")
          (push_grid h c (map natural (n ∷ lengths)) under)))
      by_sign true = raises typings h site "java/lang/NegativeArraySizeException" None refl
      by_sign false = by_size (list_any (nat_lt length_bound) ns || nat_lt length_bound (grid_cells ns))

  pub grid_row_typed : (name : List ℕ) (d : ℕ) → 1 ≤ d → d ≤ dimensions name → (made : VerState) → after h.program (rows.new_grid h.program name d) (types_here h) ≡ Some made
      → LeadsTo typings h (targets_by (rows.new_grid h.program name d) (behind h ∷ [])) made
      → Typed typings h (if_there h name (class_named h.program name) (λ c. new_grid_of h c (lengths_off d [] h.state.top.operands)))
  grid_row_typed name d some few made e leads = by (class_named h.program name) refl e leads
    where
      by : (o : Option ℕ) → class_named h.program name ≡ o → after h.program (rows.if_there o (λ c. computes (replicate d int) (ref_of h.program name))) (types_here h) ≡ Some made
          → LeadsTo typings h (targets_by (rows.if_there o (λ c. computes (replicate d int) (ref_of h.program name))) (behind h ∷ [])) made
          → Typed typings h (if_there h name o (λ c. new_grid_of h c (lengths_off d [] h.state.top.operands)))
      by None found k on = refl
      by (Some c) found k on =
          taking typings h site (replicate d int) (Some (ref_of h.program name)) made k on (λ rest took to.
          let q = lengths_taken d [] h.state.top.operands rest took in
          let count = q.count in
          let array = named_array h.program name c (omega (arith, some, few)) found in
          let whole : dimensions name ≡ length q.lengths + (dimensions name - d) = omega (arith, count, few) in
          subst (λ (o : Option (List ℤ × List Value)). Typed typings h (new_grid_of h c o)) (sym q.off)
          (grid_made c q.lengths q.under (ref_of h.program name) rest (dimensions name - d) (omega (arith, count, some)) (subst (λ k. IsArrayOf h.program c k) whole array)
          (named_here h.program name c found) q.same to))

  -- ---- the row

  grid_operation : (o : Operation) → is_grid o ≡ true → IsLed typings h o
      → ((index d : ℕ) → o ≡ NewGrid index d → (1 ≤ d) × (d ≤ dimensions (class_name (pool_of h.program h.state.top.method) index))) → Typed typings h (machine.row_of h o h.state.top.operands)
  grid_operation (NewGrid index d) k l bounds =
      let moved = subst
      (λ (q : Pool). d ≤ dimensions (class_name q index) → after h.program (rows.new_grid h.program (class_name q index) d) (types_here h) ≡ Some l.made
      → LeadsTo typings h (targets_by (rows.new_grid h.program (class_name q index) d) (behind h ∷ [])) l.made → Typed typings h (new_grid h index d))
      site.pool (λ few e on. grid_row_typed (class_name h.pool index) d (bounds index d refl).0 few l.made e on) in
      moved (bounds index d refl).1 l.makes l.leads
  grid_operation _ k l bounds = absurd cc

pub grids_keep_types : GridsKeepTypes
grids_keep_types p typings s code i sound are typed coded there start is =
    let h : Here = record { program = p; state = s; code = code; pool = (class_at p (current_class p s)).pool; size = i.length } in
    let site : AtSite typings h = record { sound = sound; are = are; code = coded; pool = refl; state = typed } in
    subst (λ (o : Option Code). IsTypedOutcome p typings (row_in p s o)) (sym coded)
    (subst (λ (o : Option Instruction). IsTypedOutcome p typings (row_if p s code o)) (sym there)
    (grid_operation typings h site (operation_of i) is (led typings h site i there refl) (λ index d e. sound.grids.lengths s.top.method code s.top.position i index d coded start there e)))
