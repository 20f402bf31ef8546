-- What runs begin with, lifted to the configurations that run, is the first heap.
use Rattle.std.proofs.Common.{◌≡◌, ℕ, zero, suc, ◌+◌, ◌-◌, ◌≤◌, Bool, true, false, List, [], ◌∷◌, ◌++◌, ◌&&◌, refl, sym, ◌∙◌, ap, map, length, if◌then◌else◌, arith}
use Rattle.std.specs.Prelude.{Option, Some, None, pos, replicate, unwrap_or, ℤ, negsuc, ◌-ℤ◌}
use Rattle.std.specs.List.{AllZip, list_all}
use Rattle.std.specs.declared.cmp.Ordering.{Ordering}
use Rattle.std.proofs.lemmas.List.{length-append, length-replicate}
use Rattle.vx_list.specs.Places.{item_or}
use Rattle.vx_value.specs.declared.slot.InitState.{InitState}
use Rattle.vx_value.specs.declared.slot.InitState.TheVariants.{Done, Not}
use Rattle.vx_value.specs.declared.slot.Slot.{Slot}
use Rattle.vx_value.specs.declared.slot.Slot.TheVariants.{Int}
use Rattle.vx_value.specs.Slot.{init_state_cmp, slot_cmp}
use Rattle.vx_value.specs.Texts.{Extends}
use Rattle.vx_space.specs.Config.{value_of as option_at}
use Rattle.vx_space.specs.Sets.{Sets}
use Rattle.vx_cond.specs.Cond.{Conditional, cond_at}
use Rattle.vx_cond.specs.Row.{AreConds}
use Rattle.vx_cond.specs.Slots.{slot_at}
use Rattle.vx_initial_heap.specs.First.{IsFirst, IsFirstObject, IsFirstStatic, IsOptionOf, cells_in, empty_text, is_among, is_cell_among, is_static_among, static_in, value_in}
use Rattle.vx_initial_heap.specs.declared.first.First.{First}
use Rattle.vx_initial_heap.specs.declared.objects.FirstObject.{FirstObject}
use Rattle.vx_initial_heap.specs.declared.statics.FirstStatic.{FirstStatic}
use Rattle.vx_initial_heap.specs.declared.statics.FirstStatic.TheVariants.{OfOption, Same}
use Rattle.vx_initial_heap.proofs.ObjectLaws.{among_more, value_more}
use Rattle.vx_java.specs.FirstObjects.{First as FirstFor, first_objects, first_words, for_boolean, for_main, for_stream, integers_from, literals, object_of_first}
use Rattle.vx_java.specs.Objects.{int_of_bool}
use Rattle.vx_java.specs.Step.{first_inits, first_static}
use Rattle.vx_link.specs.CoreFiles.{core_count}
use Rattle.vx_link.specs.declared.program.LinkedField.{LinkedField}
use Rattle.vx_link.specs.declared.program.Program.{Program}
use Rattle.vx_references.specs.Named.{class_table}
use Rattle.vx_value.specs.declared.ids.ClassId.{ClassId}
use Rattle.vx_heap.specs.Cells.{cells_at}
use Rattle.vx_heap.specs.declared.cell_list.Cell.{Cell}
use Rattle.vx_heap.specs.declared.object.HeapObject.{HeapObject}
use Rattle.vx_heap.specs.First.{IsFirstHeap}
use Rattle.vx_heap.specs.Heap.{AreEverywhere, AreObjects, HeapView, IsHeap, IsObject, are_held, has_option, has_options, inits_at, is_held, object_holds, object_of, objects_at, statics_at, value_of}
use Rattle.vx_heap.specs.Lifted.{AreLifted, AreSame, AreStatics, IsLifted, IsSame, IsStatic, IsThroughout, option_of, options_known, slots_of, static_slot}
use Rattle.vx_heap.proofs.Places.{and_true, both_true}
use Rattle.vx_heap.proofs.PlainCells.{AreCells-plain, cells_at-plain, held_plain, holds_anyway, value_plain}
use Rattle.vx_heap.proofs.Present.{AreEverywhere-take, all_there, held_throughout, slot_inside, value_there}

-- ---- lists that belong together

record Linked {A B C : Type 0} (R : A → B → Type 0) (Q : B → C → Type 0) (x : A) (z : C) : Type 0 where
  pub middle : B
  pub left : R x middle
  pub right : Q middle z

linked : {A B C : Type 0} (R : A → B → Type 0) (Q : B → C → Type 0) (xs : List A) (ys : List B) (zs : List C) → AllZip R xs ys → AllZip Q ys zs → AllZip (Linked R Q) xs zs
linked R Q [] [] [] h k = tt
linked R Q [] [] (z ∷ zs) h k = absurd k
linked R Q [] (y ∷ ys) zs h k = absurd h
linked R Q (x ∷ xs) [] zs h k = absurd h
linked R Q (x ∷ xs) (y ∷ ys) [] h k = absurd k
linked R Q (x ∷ xs) (y ∷ ys) (z ∷ zs) h k = (record { middle = y; left = h.0; right = k.0 }, linked R Q xs ys zs h.1 k.1)

zip_length : {A B : Type 0} (R : A → B → Type 0) (xs : List A) (ys : List B) → AllZip R xs ys → length ys ≡ length xs
zip_length R [] [] h = refl
zip_length R [] (y ∷ ys) h = absurd h
zip_length R (x ∷ xs) [] h = absurd h
zip_length R (x ∷ xs) (y ∷ ys) h = ap suc (zip_length R xs ys h.1)

zip_maps : {A B C : Type 0} (R : A → B → Type 0) (f : A → C) (g : B → C) → ((x : A) (y : B) → R x y → g y ≡ f x) → (xs : List A) (ys : List B) → AllZip R xs ys → map g ys ≡ map f xs
zip_maps R f g same [] [] h = refl
zip_maps R f g same [] (y ∷ ys) h = absurd h
zip_maps R f g same (x ∷ xs) [] h = absurd h
zip_maps R f g same (x ∷ xs) (y ∷ ys) h = λ i. same x y h.0 i ∷ zip_maps R f g same xs ys h.1 i

zip_all : {A B : Type 0} (R : A → B → Type 0) (p : B → Bool) → ((x : A) (y : B) → R x y → p y ≡ true) → (xs : List A) (ys : List B) → AllZip R xs ys → list_all p ys ≡ true
zip_all R p each [] [] h = refl
zip_all R p each [] (y ∷ ys) h = absurd h
zip_all R p each (x ∷ xs) [] h = absurd h
zip_all R p each (x ∷ xs) (y ∷ ys) h = and_true (p y) (list_all p ys) (each x y h.0) (zip_all R p each xs ys h.1)

all_map : {A B : Type 0} (p : B → Bool) (f : A → B) (xs : List A) → list_all p (map f xs) ≡ list_all (λ x. p (f x)) xs
all_map p f [] = refl
all_map p f (x ∷ xs) = ap (λ b. p (f x) && b) (all_map p f xs)

-- ---- options

known_option : (p : Program) (options : ℕ) (f : LinkedField) (s : FirstStatic) → has_option options f.option ≡ true → IsOptionOf f s → has_option options (option_of s) ≡ true
known_option p options f (Same slot) h k = refl
known_option p options f (OfOption option) h k = ap (has_option options) (sym k) ∙ h

pub known_options : (p : Program) (options : ℕ) (fs : List LinkedField) (ss : List FirstStatic) → AllZip (IsFirstStatic p) fs ss → has_options options fs ≡ true → options_known options ss ≡ true
known_options p options [] [] h k = refl
known_options p options [] (s ∷ ss) h k = absurd h
known_options p options (f ∷ fs) [] h k = absurd h
known_options p options (f ∷ fs) (s ∷ ss) h k =
    let parts = both_true (has_option options f.option) (has_options options fs) k in
    and_true (has_option options (option_of s)) (options_known options ss) (known_option p options f s parts.0 h.0.option) (known_options p options fs ss h.1 parts.1)

option_is : (c : List Bool) (i : ℕ) → option_at c i ≡ item_or c i false
option_is [] i = refl
option_is (b ∷ c) zero = refl
option_is (b ∷ c) (suc i) = option_is c i

int_is : (b : Bool) → value_in empty_text (Int (if b then pos 1 else pos 0)) ≡ int_of_bool b
int_is true = refl
int_is false = refl

static_slot_is : (c : List Bool) (s : FirstStatic) → value_in empty_text (static_slot s c) ≡ static_in empty_text c s
static_slot_is c (Same slot) = refl
static_slot_is c (OfOption option) = int_is (option_at c option) ∙ ap int_of_bool (option_is c option)

static_slot_among : (objects : ℕ) (c : List Bool) (s : FirstStatic) → is_static_among objects 1 s ≡ true → is_among objects 1 (static_slot s c) ≡ true
static_slot_among objects c (Same slot) h = h
static_slot_among objects c (OfOption option) h = refl

-- ---- conditional values

same_conds : {T S I : Type 0} (cmp : T → T → Ordering) (sets : Sets I) (scope : I) {A : Type 0} (value : A → List Bool → T) (xs : List A) (conds : List (Conditional T S I)) → AllZip (λ x cond. IsThroughout cmp sets scope (value x) cond) xs conds → AreConds cmp sets scope conds
same_conds cmp sets scope value [] [] h = tt
same_conds cmp sets scope value [] (y ∷ ys) h = absurd h
same_conds cmp sets scope value (x ∷ xs) [] h = absurd h
same_conds cmp sets scope value (x ∷ xs) (y ∷ ys) h = (h.0.is_cond, h.0.scope_is, same_conds cmp sets scope value xs ys h.1)

-- ---- objects

module _ {S I : Type 0} (sets : Sets I) (allowed : I) (known : sets.is_known allowed ≡ true) where
  is_object : (o : FirstObject) (h : HeapObject S I) → IsLifted allowed o h → IsObject sets h
  is_object o h l = record {
    known = rw l.presence_is known;
    cells = rw l.cells_are (AreCells-plain S sets h.presence (slots_of o.cell));
    short = rw l.length_is (omega arith);
    sized = rw l.length_is (omega arith);
  }

  are_objects : (os : List FirstObject) (hs : List (HeapObject S I)) → AreLifted allowed os hs → AreObjects sets hs
  are_objects [] [] l = tt
  are_objects [] (h ∷ hs) l = absurd l
  are_objects (o ∷ os) [] l = absurd l
  are_objects (o ∷ os) (h ∷ hs) l = (is_object o h l.0, are_objects os hs l.1)

  everywhere : (os : List FirstObject) (hs : List (HeapObject S I)) → AreLifted allowed os hs → AreEverywhere allowed hs
  everywhere [] [] l = tt
  everywhere [] (h ∷ hs) l = absurd l
  everywhere (o ∷ os) [] l = absurd l
  everywhere (o ∷ os) (h ∷ hs) l = (l.0.presence_is, everywhere os hs l.1)

module _ {S I : Type 0} (sets : Sets I) (heap : HeapView S I) (all : AreEverywhere heap.allowed heap.objects) where
  cells_hold : (c : List Bool) (cell : Option Slot) → is_cell_among (length heap.texts) cell ≡ true → are_held sets heap c (slots_of cell) ≡ true
  cells_hold c None m = refl
  cells_hold c (Some slot) m = and_true (is_held sets heap c slot) true (held_plain sets heap c slot m) refl

  module _ (c : List Bool) (t : sets.test heap.allowed c ≡ true) where
    cells_are : (cell : Option Slot) → is_cell_among (length heap.texts) cell ≡ true → map (value_of sets heap c) (slots_of cell) ≡ cells_in heap.texts cell
    cells_are None m = refl
    cells_are (Some slot) m = ap (λ v. v ∷ []) (value_plain sets heap c slot m)

    object_is : (p : Program) (x : FirstFor) (h : HeapObject S I) → Linked (IsFirstObject p heap.texts) (IsLifted heap.allowed) x h → object_of sets heap c h ≡ object_of_first p x
    object_is p x h l =
        let slots : cells_at sets h.cells c ≡ slots_of l.middle.cell = ap (λ (cells : List (Cell S I)). cells_at sets cells c) l.right.cells_are ∙ cells_at-plain S sets c (slots_of l.middle.cell) in
        let cells = ap (map (value_of sets heap c)) slots ∙ cells_are l.middle.cell l.left.held in
        (λ i. record { class = (l.right.class_is i).0; size = l.right.length_is i; cells = cells i }) ∙ l.left.same

    -- ---- statics

    static_is : (p : Program) → Extends empty_text heap.texts → suc (first_words p) ≤ length heap.objects → (f : LinkedField) (cond : Conditional Slot S I) → Linked (IsFirstStatic p) (IsStatic sets heap.allowed) f cond → value_of sets heap c (slot_at sets cond c) ≡ first_static p c f
    static_is p more enough f cond l =
        let slot = static_slot l.middle c in
        let among : is_among (suc (first_words p)) 1 slot ≡ true = static_slot_among (suc (first_words p)) c l.middle l.left.held in
        ap (value_of sets heap c) (slot_inside sets heap.allowed (static_slot l.middle) cond c l.right t)
        ∙ value_there sets heap.allowed c t heap all (suc (first_words p)) enough slot (among_more (suc (first_words p)) empty_text heap.texts more slot among)
        ∙ value_more (suc (first_words p)) empty_text heap.texts more slot among
        ∙ static_slot_is c l.middle
        ∙ l.left.value c

    init_is : (state : InitState) (cond : Conditional InitState S I) → IsSame init_state_cmp sets heap.allowed state cond → unwrap_or (cond_at sets cond c) Done ≡ state
    init_is state cond h = ap (λ o. unwrap_or o Done) (h.at c ∙ ap (λ b. if b then Some state else None) t)

  static_holds : (p : Program) → Extends empty_text heap.texts → suc (first_words p) ≤ length heap.objects → (c : List Bool) (f : LinkedField) (cond : Conditional Slot S I) → Linked (IsFirstStatic p) (IsStatic sets heap.allowed) f cond → is_held sets heap c (slot_at sets cond c) ≡ true
  static_holds p more enough c f cond l =
      let slot = static_slot l.middle c in
      let among : is_among (suc (first_words p)) 1 slot ≡ true = static_slot_among (suc (first_words p)) c l.middle l.left.held in
      held_throughout sets heap all (suc (first_words p)) enough (static_slot l.middle) cond c l.right (among_more (suc (first_words p)) empty_text heap.texts more slot among)

  first_holds : (p : Program) (c : List Bool) (x : FirstFor) (h : HeapObject S I) → Linked (IsFirstObject p heap.texts) (IsLifted heap.allowed) x h → object_holds sets heap c h ≡ true
  first_holds p c x h l =
      let slots : cells_at sets h.cells c ≡ slots_of l.middle.cell = ap (λ (cells : List (Cell S I)). cells_at sets cells c) l.right.cells_are ∙ cells_at-plain S sets c (slots_of l.middle.cell) in
      holds_anyway (sets.test h.presence c) (are_held sets heap c (cells_at sets h.cells c)) (ap (are_held sets heap c) slots ∙ cells_hold c l.middle.cell l.left.held)

-- ---- how many there are

length-integers : (n : ℤ) (k : ℕ) → length (integers_from n k) ≡ k
length-integers n zero = refl
length-integers n (suc k) = ap suc (length-integers (n -ℤ negsuc 0) k)

first_count : (p : Program) → length (first_objects p) ≡ suc (first_words p)
first_count p = by (integers_from (negsuc 127) 256) (literals p) (length-integers (negsuc 127) 256)
  where
    by : (xs ls : List FirstFor) → length xs ≡ 256 → length (for_stream 0 ∷ for_stream 1 ∷ (xs ++ (for_boolean 0 ∷ for_boolean 1 ∷ (ls ++ for_main ∷ [])))) ≡ suc (260 + length ls)
    by xs ls e = omega (arith, e, length-append xs (for_boolean 0 ∷ for_boolean 1 ∷ (ls ++ for_main ∷ [])), length-append ls (for_main ∷ []))

state_count : (n k : ℕ) → k ≤ n → length (replicate (n - k) Not ++ replicate k Done) ≡ n
state_count n k h = omega (arith, h, length-append (replicate (n - k) Not) (replicate k Done), length-replicate (n - k) Not, length-replicate k Done)

-- ---- the heap

abbrev lifted_heap : {S I : Type 0} → I → First → List (List (Option ClassId)) → List (HeapObject S I) → List (Conditional Slot S I) → List (Conditional InitState S I) → HeapView S I
lifted_heap allowed first table objects statics inits = record { objects = objects; statics = statics; inits = inits; texts = first.texts.texts; allowed = allowed; literals = first.literals.items; resolved = table; words = first.words }

pub lifted_is_first : {S I : Type 0} (p : Program) (sets : Sets I) (allowed : I) (first : First) (table : List (List (Option ClassId))) (objects : List (HeapObject S I)) (statics : List (Conditional Slot S I)) (inits : List (Conditional InitState S I))
    → table ≡ class_table p → sets.is_known allowed ≡ true → core_count ≤ length p.classes → IsFirst p first
    → AreLifted allowed first.objects.items objects → AreStatics sets allowed first.statics.items statics → AreSame init_state_cmp sets allowed first.inits.items inits
    → IsFirstHeap p sets allowed (lifted_heap allowed first table objects statics inits)
unfolding IsHeap
lifted_is_first {S = S} {I = I} p sets allowed first table objects statics inits resolved known core f os ss is =
    let heap : HeapView S I = lifted_heap allowed first table objects statics inits in
    let all : AreEverywhere allowed objects = everywhere sets allowed known first.objects.items objects os in
    let firsts = linked (IsFirstObject p first.texts.texts) (IsLifted allowed) (first_objects p) first.objects.items objects f.objects os in
    let fields = linked (IsFirstStatic p) (IsStatic sets allowed) p.fields first.statics.items statics f.statics ss in
    let count : length objects ≡ suc (first_words p) = zip_length (Linked (IsFirstObject p first.texts.texts) (IsLifted allowed)) (first_objects p) objects firsts ∙ first_count p in
    let enough : suc (first_words p) ≤ length objects = omega (arith, count) in
    record {
      is_heap = record {
        allowed_known = known;
        objects = are_objects sets allowed known first.objects.items objects os;
        statics = same_conds slot_cmp sets allowed static_slot first.statics.items statics ss;
        inits = same_conds init_state_cmp sets allowed (λ state c. state) first.inits.items inits is;
        objects_held = λ c. zip_all (Linked (IsFirstObject p first.texts.texts) (IsLifted allowed)) (object_holds sets heap c) (first_holds sets heap all p c) (first_objects p) objects firsts;
        statics_held = λ c.
            all_map (is_held sets heap c) (λ cond. slot_at sets cond c) statics
            ∙ zip_all (Linked (IsFirstStatic p) (IsStatic sets allowed)) (λ cond. is_held sets heap c (slot_at sets cond c)) (static_holds sets heap all p f.texts enough c) p.fields statics fields;
      };
      is_for = record {
        static_count = zip_length (Linked (IsFirstStatic p) (IsStatic sets allowed)) p.fields statics fields;
        init_count = zip_length (IsSame init_state_cmp sets allowed) first.inits.items inits is ∙ ap length f.inits ∙ state_count (length p.classes) core_count core;
        literals = f.literals;
        resolved = resolved;
        words = f.words;
        enough = enough;
        first = AreEverywhere-take allowed (suc (first_words p)) objects all;
      };
      runs = refl;
      at = λ c t.
          let here : objects_at sets heap c ≡ map (object_of_first p) (first_objects p) =
          ap (map (object_of sets heap c)) (all_there sets allowed c t objects all)
          ∙ zip_maps (Linked (IsFirstObject p first.texts.texts) (IsLifted allowed)) (object_of_first p) (object_of sets heap c) (object_is sets heap all c t p) (first_objects p) objects firsts in
          let values : statics_at sets heap c ≡ map (first_static p c) p.fields = zip_maps (Linked (IsFirstStatic p) (IsStatic sets allowed)) (first_static p c) (λ cond. value_of sets heap c (slot_at sets cond c)) (static_is sets heap all c t p f.texts enough) p.fields statics fields in
          let states : inits_at sets heap c ≡ first_inits p = zip_maps (IsSame init_state_cmp sets allowed) (λ state. state) (λ cond. unwrap_or (cond_at sets cond c) Done) (init_is sets heap all c t) first.inits.items inits is ∙ map_same first.inits.items ∙ f.inits in
          λ i. record { objects = here i; statics = values i; inits = states i };
    }
  where
    map_same : (xs : List InitState) → map (λ x. x) xs ≡ xs
    map_same [] = refl
    map_same (x ∷ xs) = ap (λ ys. x ∷ ys) (map_same xs)
