-- The local variables with which a method begins, one value after the other.
use Rattle.std.proofs.Common.{Bool, List, None, Option, Some, [], ap, append-nil, append_assoc, arith, false, get_or, inl, inr, length, refl, subst, suc, sym, take, true, zero, ℕ, ◌++◌, ◌+◌, ◌-◌, ◌<◌, ◌^◌, ◌⊎◌, ◌∙◌, ◌∷◌, ◌≡◌, ◌≤◌}
use Rattle.std.proofs.Math.Pow.{pow_mono}
use Rattle.std.proofs.lemmas.Bool.{cases_lt}
use Rattle.std.proofs.lemmas.Grind.{flat_map-append}
use Rattle.std.proofs.lemmas.List.{map-append, take_all, take_more}
use Rattle.std.proofs.lemmas.List.Elements.{All-cons, All-get_or, All-nil, All-push}
use Rattle.std.specs.Prelude.{flat_map, min, option_map, replicate, slice_set, if◌then◌else◌, ◌==◌}
use Rattle.vx_class.specs.declared.class_file.Catch.{Catch}
use Rattle.vx_desc.specs.Descriptors.{slots_of}
use Rattle.vx_desc.specs.declared.java_type.Base.{Base}
use Rattle.vx_desc.specs.declared.java_type.Base.TheVariants.{Bool as BoolBase, Byte, Char, Class, Double, Float, Int as IntBase, Long as LongBase, Short}
use Rattle.vx_desc.specs.declared.java_type.JavaType.{JavaType}
use Rattle.vx_java.specs.Checks.{sort_of, sort_of_base}
use Rattle.vx_java.specs.declared.operation.Sort.{Sort}
use Rattle.vx_java.specs.declared.operation.Sort.TheVariants as sort
use Rattle.vx_link.specs.declared.program.Program.{Program}
use Rattle.vx_numbered.specs.Trees.{Grows, IsMade}
use Rattle.vx_numbered.specs.declared.chains.Link.{Link}
use Rattle.vx_numbered.proofs.Growing.{grows_itself}
use Rattle.vx_types.specs.Flow.{is_of}
use Rattle.vx_types.specs.Rows.{current_class}
use Rattle.vx_types.specs.Types.{class_type, ref_of, type_of, type_of_sort}
use Rattle.vx_types.specs.declared.types.VerType.{VerType}
use Rattle.vx_types.specs.declared.types.VerType.TheVariants.{Int, Long, Null, Ref, Top}
use Rattle.vx_verify.proofs.LocalLaws.{set_past}
use Rattle.vx_verify.proofs.StoreLaws.{are_types_kept, later_itself, later_through, some_types, store_grown, top_is, type_kept, types_kept}
use Rattle.vx_verify.proofs.TakeLaws.{long_alone, no_operands}
use Rattle.vx_verify.specs.States.{AreTypes, HasLocals, HasMade, HasNumbers, HasStack, HasType, IsStore, locals_at, operands_at, type_at, types_at}
use Rattle.vx_verify.specs.Typing.{caught, caught_name, locals_of, receiver_locals, start_locals, value_locals, values_given}
use Rattle.vx_verify.specs.declared.rows.Frame.{Frame}
use Rattle.vx_verify.specs.declared.store.Store.{Store}

-- ---- a float or a double

double_slots : (d f e : ℕ) (z : Bool) → (d == 0) ≡ z → sort_of (record { base = Double; dimensions = d; from = f; end = e }) ≡ None
    → slots_of (record { base = Double; dimensions = d; from = f; end = e }) ≡ 2
double_slots d f e true q h = ap (λ (z : Bool). if z then 2 else 1) q
double_slots d f e false q h =
    let clash : Some sort.Reference ≡ None = sym (ap (λ (z : Bool). elim z [ true ↦ sort_of_base Double | false ↦ Some sort.Reference ]) q) ∙ h in absurd cc

pub double_unread : (t : JavaType) → sort_of t ≡ None → t.base ≡ Double → slots_of t ≡ 2
double_unread t h e =
    let same : t ≡ record { base = Double; dimensions = t.dimensions; from = t.from; end = t.end } = λ i. record { base = e i; dimensions = t.dimensions; from = t.from; end = t.end } in
    ap slots_of same ∙ double_slots t.dimensions t.from t.end (t.dimensions == 0) refl (ap sort_of (sym same) ∙ h)

-- an array has a sort
no_array : (b : Base) (d f e : ℕ) → (d == 0) ≡ false → sort_of (record { base = b; dimensions = d; from = f; end = e }) ≡ None → ⊥
no_array b d f e q h =
    let clash : Some sort.Reference ≡ None = sym (ap (λ (z : Bool). elim z [ true ↦ sort_of_base b | false ↦ Some sort.Reference ]) q) ∙ h in absurd cc

-- what is no array, and no float and no double, has a sort
no_other : (b : Base) (d f e : ℕ) (s : Sort) → (d == 0) ≡ true → sort_of_base b ≡ Some s → sort_of (record { base = b; dimensions = d; from = f; end = e }) ≡ None → ⊥
no_other b d f e s q is h =
    let clash : Some s ≡ None = sym is ∙ sym (ap (λ (z : Bool). elim z [ true ↦ sort_of_base b | false ↦ Some sort.Reference ]) q) ∙ h in absurd cc

other_slots : (b : Base) (d f e : ℕ) (z : Bool) → (d == 0) ≡ z → sort_of (record { base = b; dimensions = d; from = f; end = e }) ≡ None → ¬ (b ≡ Double)
    → slots_of (record { base = b; dimensions = d; from = f; end = e }) ≡ 1
other_slots b d f e false q h k = absurd (no_array b d f e q h)
other_slots Float d f e true q h k = ap (λ (z : Bool). if z then 1 else 1) q
other_slots Double d f e true q h k = absurd (k refl)
other_slots LongBase d f e true q h k = absurd (no_other LongBase d f e sort.Long q refl h)
other_slots BoolBase d f e true q h k = absurd (no_other BoolBase d f e sort.Int q refl h)
other_slots Byte d f e true q h k = absurd (no_other Byte d f e sort.Int q refl h)
other_slots Char d f e true q h k = absurd (no_other Char d f e sort.Int q refl h)
other_slots IntBase d f e true q h k = absurd (no_other IntBase d f e sort.Int q refl h)
other_slots Short d f e true q h k = absurd (no_other Short d f e sort.Int q refl h)
other_slots Class d f e true q h k = absurd (no_other Class d f e sort.Reference q refl h)

pub other_unread : (t : JavaType) → sort_of t ≡ None → ¬ (t.base ≡ Double) → slots_of t ≡ 1
other_unread t h k = other_slots t.base t.dimensions t.from t.end (t.dimensions == 0) refl h k

pub no_sort : (p : Program) (descriptor : List ℕ) (t : JavaType) → None ≡ type_of p descriptor t → sort_of t ≡ None
no_sort p descriptor t e = by (sort_of t) e
  where
    by : (o : Option Sort) → None ≡ option_map (type_of_sort p descriptor t) o → o ≡ None
    by None h = refl
    by (Some s) h = absurd cc

-- ---- the values of an argument

zero_types : (s : Store) (n : ℕ) → IsStore s → types_at s (replicate n 0) ≡ replicate n Top
zero_types s zero is = refl
zero_types s (suc n) is = ap (λ (x : VerType). x ∷ types_at s (replicate n 0)) (top_is s is) ∙ ap (λ (xs : List VerType). Top ∷ xs) (zero_types s n is)

zero_numbers : (s : Store) (ns : List ℕ) (n : ℕ) → IsStore s → AreTypes s ns → AreTypes s (ns ++ replicate n 0)
zero_numbers s ns zero is h = subst (λ (ms : List ℕ). AreTypes s ms) (sym (append-nil ns)) h
zero_numbers s ns (suc n) is h =
    subst (λ (ms : List ℕ). AreTypes s ms) (append_assoc ns (0 ∷ []) (replicate n 0))
    (zero_numbers s (ns ++ 0 ∷ []) n is (All-push (λ k. k < length s.types.items) ns 0 h (let some = some_types s is in omega (arith, some))))

pub argument_unread : (s : Store) (p : Program) (descriptor : List ℕ) (t : JavaType) (old new : List ℕ) → IsStore s → AreTypes s old → None ≡ type_of p descriptor t
    → new ≡ old ++ replicate (slots_of t) 0 → HasNumbers s s new (types_at s old ++ locals_of t (type_of p descriptor t))
argument_unread s p descriptor t old new is types none e = record {
  later = later_itself s is;
  are_types = subst (λ (ms : List ℕ). AreTypes s ms) (sym e) (zero_numbers s old (slots_of t) is types);
  is = ap (types_at s) e
      ∙ map-append (type_at s) old (replicate (slots_of t) 0)
      ∙ ap (λ (xs : List VerType). types_at s old ++ xs) (zero_types s (slots_of t) is)
      ∙ ap (λ (o : Option VerType). types_at s old ++ locals_of t o) none;
}

one_local : (v : VerType) → is_of sort.Long v ≡ false → value_locals v ≡ v ∷ []
one_local Long h = absurd cc
one_local Top h = refl
one_local Int h = refl
one_local Null h = refl
one_local (Ref d e) h = refl

two_locals : (v : VerType) → is_of sort.Long v ≡ true → value_locals v ≡ v ∷ Top ∷ []
two_locals v h = let e = long_alone v h in ap value_locals e ∙ ap (λ (x : VerType). x ∷ Top ∷ []) (sym e)

-- other types that are the same ones
pub numbers_are : (s t : Store) (ns : List ℕ) (these others : List VerType) → HasNumbers s t ns these → these ≡ others → HasNumbers s t ns others
numbers_are s t ns these others h e = record { later = h.later; are_types = h.are_types; is = h.is ∙ e }

-- a value behind those that are there
pub value_put : (s t : Store) (old : List ℕ) (number : ℕ) (found : VerType) → AreTypes s old → HasType s t number found → HasNumbers s t (old ++ number ∷ []) (types_at s old ++ found ∷ [])
value_put s t old number found types put = record {
  later = put.later;
  are_types = All-push (λ n. n < length t.types.items) old number (are_types_kept s t old put.later.types types) put.within;
  is = map-append (type_at t) old (number ∷ [])
      ∙ ap (λ (xs : List VerType). xs ++ type_at t number ∷ []) (types_kept s t old put.later.types types)
      ∙ ap (λ (x : VerType). types_at s old ++ x ∷ []) put.is;
}

pub value_one : (s t : Store) (old new : List ℕ) (number : ℕ) (found : VerType) (long : Bool) → AreTypes s old → HasType s t number found → long ≡ is_of sort.Long found → long ≡ false
    → new ≡ old ++ number ∷ [] → HasNumbers s t new (types_at s old ++ value_locals found)
value_one s t old new number found long types put is short e =
    subst (λ (ms : List ℕ). HasNumbers s t ms (types_at s old ++ value_locals found)) (sym e)
    (subst (λ (xs : List VerType). HasNumbers s t (old ++ number ∷ []) (types_at s old ++ xs)) (sym (one_local found (sym is ∙ short))) (value_put s t old number found types put))

pub value_two : (s t : Store) (old mid new : List ℕ) (number : ℕ) (found : VerType) (long : Bool) → AreTypes s old → HasType s t number found → long ≡ is_of sort.Long found → long ≡ true
    → mid ≡ old ++ number ∷ [] → new ≡ mid ++ 0 ∷ [] → HasNumbers s t new (types_at s old ++ value_locals found)
value_two s t old mid new number found long types put is passed first second =
    let made = value_put s t old number found types put in
    let some_there = some_types t put.later.store in
    let e : new ≡ (old ++ number ∷ []) ++ 0 ∷ [] = second ∙ ap (λ (ms : List ℕ). ms ++ 0 ∷ []) first in
    let both : HasNumbers s t ((old ++ number ∷ []) ++ 0 ∷ []) (types_at s old ++ found ∷ Top ∷ []) = record {
      later = made.later;
      are_types = All-push (λ n. n < length t.types.items) (old ++ number ∷ []) 0 made.are_types (omega (arith, some_there));
      is = map-append (type_at t) (old ++ number ∷ []) (0 ∷ [])
          ∙ ap (λ (xs : List VerType). xs ++ type_at t 0 ∷ []) made.is
          ∙ ap (λ (x : VerType). (types_at s old ++ found ∷ []) ++ x ∷ []) (top_is t put.later.store)
          ∙ append_assoc (types_at s old) (found ∷ []) (Top ∷ []);
    } in
    subst (λ (ms : List ℕ). HasNumbers s t ms (types_at s old ++ value_locals found)) (sym e)
    (subst (λ (xs : List VerType). HasNumbers s t ((old ++ number ∷ []) ++ 0 ∷ []) (types_at s old ++ xs)) (sym (two_locals found (sym is ∙ passed))) both)

pub argument_read : (s t : Store) (p : Program) (descriptor : List ℕ) (item : JavaType) (old new : List ℕ) (found : VerType) → Some found ≡ type_of p descriptor item
    → HasNumbers s t new (types_at s old ++ value_locals found) → HasNumbers s t new (types_at s old ++ locals_of item (type_of p descriptor item))
argument_read s t p descriptor item old new found some h =
    numbers_are s t new (types_at s old ++ value_locals found) (types_at s old ++ locals_of item (type_of p descriptor item)) h (ap (λ (o : Option VerType). types_at s old ++ locals_of item o) some)

-- two local variables of a double, and one of a float
pub two_zeros : (t : JavaType) (old mid new : List ℕ) → mid ≡ old ++ 0 ∷ [] → new ≡ mid ++ 0 ∷ [] → slots_of t ≡ 2 → new ≡ old ++ replicate (slots_of t) 0
two_zeros t old mid new first second two =
    second ∙ ap (λ (ms : List ℕ). ms ++ 0 ∷ []) first ∙ append_assoc old (0 ∷ []) (0 ∷ []) ∙ sym (ap (λ n. old ++ replicate n 0) two)

pub one_zero : (t : JavaType) (old new : List ℕ) → new ≡ old ++ 0 ∷ [] → slots_of t ≡ 1 → new ≡ old ++ replicate (slots_of t) 0
one_zero t old new first one = first ∙ sym (ap (λ n. old ++ replicate n 0) one)

-- ---- the receiver

pub receiver_static : (p : Program) (m : ℕ) (s : Store) (static tested : Bool) → IsStore s → tested ≡ static → tested ≡ true → HasNumbers s s [] (receiver_locals p m static)
receiver_static p m s static tested is e passed =
    subst (λ b. HasNumbers s s [] (receiver_locals p m b)) (sym passed ∙ e)
    (record { later = later_itself s is; are_types = All-nil (λ n. n < length s.types.items); is = refl })

pub receiver_object : (p : Program) (m : ℕ) (s t : Store) (static tested : Bool) (ns : List ℕ) → tested ≡ static → tested ≡ false → HasNumbers s t ns (class_type p (current_class p m) ∷ [])
    → HasNumbers s t ns (receiver_locals p m static)
receiver_object p m s t static tested ns e no_static h = subst (λ b. HasNumbers s t ns (receiver_locals p m b)) (sym no_static ∙ e) h

-- ---- all arguments

flat_more : {A B : Type 0} (f : A → List B) (xs : List A) (i : ℕ) (x other : A) → i < length xs → x ≡ get_or xs i other → flat_map f (take (i + 1) xs) ≡ flat_map f (take i xs) ++ f x
flat_more f xs i x other l e =
    ap (flat_map f) (take_more xs i other l)
    ∙ flat_map-append f (take i xs) (get_or xs i other ∷ [])
    ∙ ap (λ y. flat_map f (take i xs) ++ flat_map f (y ∷ [])) (sym e)
    ∙ ap (λ ys. flat_map f (take i xs) ++ ys) (append-nil (f x))

pub arguments_more : (s t u : Store) (f : JavaType → List VerType) (before : List VerType) (items : List JavaType) (i : ℕ) (item other : JavaType) (old new : List ℕ)
    → HasNumbers s t old (before ++ flat_map f (take i items)) → i < length items → HasNumbers t u new (types_at t old ++ f item) → item ≡ get_or items i other
    → HasNumbers s u new (before ++ flat_map f (take (i + 1) items))
arguments_more s t u f before items i item other old new h l k e = record {
  later = later_through s t u h.later k.later;
  are_types = k.are_types;
  is = k.is
      ∙ ap (λ (xs : List VerType). xs ++ f item) h.is
      ∙ append_assoc before (flat_map f (take i items)) (f item)
      ∙ ap (λ (xs : List VerType). before ++ xs) (sym (flat_more f items i item other l e));
}

-- none of them so far
pub arguments_start : (s : Store) (f : JavaType → List VerType) (items : List JavaType) (old : List ℕ) → IsStore s → AreTypes s old
    → HasNumbers s s old (types_at s old ++ flat_map f (take 0 items))
arguments_start s f items old is types = record { later = later_itself s is; are_types = types; is = sym (append-nil (types_at s old)) }

pub arguments_end : (s t : Store) (f : JavaType → List VerType) (before : List VerType) (items : List JavaType) (i : ℕ) (new : List ℕ) → HasNumbers s t new (before ++ flat_map f (take i items))
    → length items ≤ i → HasNumbers s t new (before ++ flat_map f items)
arguments_end s t f before items i new h l = subst (λ (xs : List JavaType). HasNumbers s t new (before ++ flat_map f xs)) (take_all i items l) h

-- the receiver before the arguments
pub given_all : (s t u : Store) (old new : List ℕ) (receiver arguments : List VerType) → HasNumbers s t old receiver → HasNumbers t u new (types_at t old ++ arguments) → HasNumbers s u new (receiver ++ arguments)
given_all s t u old new receiver arguments h k = record {
  later = later_through s t u h.later k.later;
  are_types = k.are_types;
  is = k.is ∙ ap (λ (xs : List VerType). xs ++ arguments) h.is;
}

-- ---- local variables of a method

fewer_tops : {A : Type 0} (k m : ℕ) (d : A) → k ≤ m → take k (replicate m d) ≡ take k (replicate (suc m) d)
fewer_tops zero m d l = refl
fewer_tops (suc k) zero d l = absurd (omega (arith, l))
fewer_tops (suc k) (suc m) d l = ap (λ rest. d ∷ rest) (fewer_tops k m d (omega (arith, l)))

-- a value behind those that are there takes the place of one that cannot be read
set_next : {A : Type 0} (k n : ℕ) (xs : List A) (x d : A) → k ≤ n → slice_set (take k (xs ++ replicate n d)) (length xs) x ≡ take k ((xs ++ x ∷ []) ++ replicate n d)
set_next zero n xs x d l = refl
set_next (suc k) zero xs x d l = absurd (omega (arith, l))
set_next (suc k) (suc n) [] x d l = ap (λ rest. x ∷ rest) (fewer_tops k n d (omega (arith, l)))
set_next (suc k) (suc n) (y ∷ xs) x d l = ap (λ rest. y ∷ rest) (set_next k (suc n) xs x d (omega (arith, l)))

few_taken : {A : Type 0} (k : ℕ) (xs : List A) → length (take k xs) ≤ k
few_taken zero xs = omega arith
few_taken (suc k) [] = omega arith
few_taken (suc k) (x ∷ xs) = let few = few_taken k xs in omega (arith, few)

-- wherever a place is that lies behind all local variables
set_any : {A : Type 0} (k : ℕ) (xs : List A) (i j : ℕ) (x : A) → k ≤ i → k ≤ j → slice_set (take k xs) i x ≡ slice_set (take k xs) j x
set_any k xs i j x l m =
    let few = few_taken k xs in
    set_past (take k xs) i x (omega (arith, few, l)) ∙ sym (set_past (take k xs) j x (omega (arith, few, m)))

pub record AreFilled (s t : Store) (frame : Frame) (numbers : List ℕ) (i place tree : ℕ) : Type 0 where
  pub counts : place ≡ min i (2 ^ 32 - 1)
  pub has : HasLocals s t frame tree (take frame.locals (types_at s (take i numbers) ++ replicate frame.locals Top))

-- nothing but what cannot be read
tops_taken : {A : Type 0} (k n : ℕ) (d : A) → k ≤ n → take k (replicate n d) ≡ replicate k d
tops_taken zero n d l = refl
tops_taken (suc k) zero d l = absurd (omega (arith, l))
tops_taken (suc k) (suc n) d l = ap (λ rest. d ∷ rest) (tops_taken k n d (omega (arith, l)))

zeros_inside : (s : Store) (n : ℕ) → IsStore s → AreTypes s (replicate n 0)
zeros_inside s zero is = All-nil (λ k. k < length s.types.items)
zeros_inside s (suc n) is = All-cons (λ k. k < length s.types.items) 0 (replicate n 0) (let some = some_types s is in omega (arith, some)) (zeros_inside s n is)

pub filled_start : (s t : Store) (frame : Frame) (numbers : List ℕ) (tree : ℕ) → IsStore s → t.types.items ≡ s.types.items → t.chains.links.items ≡ s.chains.links.items
    → frame.locals ≤ 2 ^ frame.levels → IsMade s.trees.pairs.items t.trees.pairs.items frame.levels tree (replicate (2 ^ frame.levels) 0) → AreFilled s t frame numbers 0 0 tree
filled_start s t frame numbers tree is types links room made =
    let g = subst (λ (xs : List VerType). Grows s.types.items xs) (sym types) (grows_itself s.types.items) in
    let is_t : IsStore t = store_grown s t is g links in
    record {
      counts = refl;
      has = record {
        later = record {
          types = g;
          pairs = made.grows;
          links = subst (λ (ls : List Link). Grows s.chains.links.items ls) (sym links) (grows_itself s.chains.links.items);
          store = is_t;
        };
        row = record { is_tree = made.is_tree; are_types = subst (λ ns. AreTypes t ns) (sym made.has) (zeros_inside t (2 ^ frame.levels) is_t) };
        is = ap (λ ns. types_at t (take frame.locals ns)) made.has
            ∙ ap (types_at t) (tops_taken frame.locals (2 ^ frame.levels) 0 room)
            ∙ zero_types t frame.locals is_t
            ∙ sym (take_all frame.locals (replicate frame.locals Top) (replicated frame.locals));
      };
    }
  where
    replicated : (n : ℕ) → length (replicate n Top) ≤ n
    replicated zero = omega arith
    replicated (suc n) = let few = replicated n in omega (arith, few)

pub few_levels : (locals levels : ℕ) → levels ≤ 16 → locals ≤ 2 ^ levels → locals ≤ 2 ^ 16
few_levels locals levels few room = let more : 2 ^ levels ≤ 2 ^ 16 = pow_mono few in omega (arith, more, room)

pub number_inside : (s : Store) (numbers : List ℕ) (i : ℕ) → AreTypes s numbers → i < length numbers → get_or numbers i 0 < length s.types.items
number_inside s numbers i types l = All-get_or (λ n. n < length s.types.items) numbers i 0 l types

types_more : (s : Store) (numbers : List ℕ) (i number : ℕ) → i < length numbers → number ≡ get_or numbers i 0 → types_at s (take (i + 1) numbers) ≡ types_at s (take i numbers) ++ type_at s number ∷ []
types_more s numbers i number l e =
    ap (types_at s) (take_more numbers i 0 l)
    ∙ map-append (type_at s) (take i numbers) (get_or numbers i 0 ∷ [])
    ∙ ap (λ n. types_at s (take i numbers) ++ type_at s n ∷ []) (sym e)

pub filled_step : (s t u : Store) (frame : Frame) (numbers : List ℕ) (i place tree number next : ℕ) → frame.locals ≤ 2 ^ 16 → AreTypes s numbers → i < length numbers
    → number ≡ get_or numbers i 0 → AreFilled s t frame numbers i place tree
    → HasLocals t u frame next (slice_set (locals_at t frame tree) place (type_at t number)) → AreFilled s u frame numbers (i + 1) (min (place + 1) (2 ^ 32 - 1)) next
filled_step s t u frame numbers i place tree number next few types l e filled put =
    let counts = filled.counts in
    let inside : number < length s.types.items = subst (λ n. n < length s.types.items) (sym e) (number_inside s numbers i types l) in
    let these = types_at s (take i numbers) in
    let long : length these ≡ i = counted i numbers (omega (arith, l)) in
    record {
      counts = omega (arith, counts);
      has = record {
        later = later_through s t u filled.has.later put.later;
        row = put.row;
        is = put.is
            ∙ ap (λ (x : VerType). slice_set (locals_at t frame tree) place x) (type_kept s t number filled.has.later.types inside)
            ∙ ap (λ (xs : List VerType). slice_set xs place (type_at s number)) filled.has.is
            ∙ same_place these long
            ∙ set_next frame.locals frame.locals these (type_at s number) Top (omega arith)
            ∙ sym (ap (λ (xs : List VerType). take frame.locals (xs ++ replicate frame.locals Top)) (types_more s numbers i number l e));
      };
    }
  where
    counted : (n : ℕ) (ns : List ℕ) → n ≤ length ns → length (types_at s (take n ns)) ≡ n
    counted zero ns k = refl
    counted (suc n) [] k = absurd (omega (arith, k))
    counted (suc n) (m ∷ ns) k = ap suc (counted n ns (omega (arith, k)))

    same_place : (these : List VerType) → length these ≡ i
        → slice_set (take frame.locals (these ++ replicate frame.locals Top)) place (type_at s number) ≡ slice_set (take frame.locals (these ++ replicate frame.locals Top)) (length these) (type_at s number)
    same_place these long = by (cases_lt i (2 ^ 32))
      where
        whole : List VerType
        whole = these ++ replicate frame.locals Top

        by : (i < 2 ^ 32) ⊎ (2 ^ 32 ≤ i) → slice_set (take frame.locals whole) place (type_at s number) ≡ slice_set (take frame.locals whole) (length these) (type_at s number)
        by (inl k) = ap (λ n. slice_set (take frame.locals whole) n (type_at s number)) (let c = filled.counts in omega (arith, c, k, long))
        by (inr k) = set_any frame.locals whole place (length these) (type_at s number) (let c = filled.counts in omega (arith, c, k, few)) (omega (arith, k, long, few))

pub filled_end : (s t : Store) (frame : Frame) (numbers : List ℕ) (i place tree : ℕ) → AreFilled s t frame numbers i place tree → i ≡ length numbers
    → HasLocals s t frame tree (take frame.locals (types_at s numbers ++ replicate frame.locals Top))
filled_end s t frame numbers i place tree filled e =
    subst (λ (ns : List ℕ). HasLocals s t frame tree (take frame.locals (types_at s ns ++ replicate frame.locals Top)))
    (take_all i numbers (let k : length numbers ≡ i = sym e in omega (arith, k))) filled.has

-- ---- the state at the start

pub started : (p : Program) (m : ℕ) (s t u : Store) (frame : Frame) (numbers : List ℕ) (tree : ℕ) → HasNumbers s t numbers (values_given p m)
    → HasLocals t u frame tree (take frame.locals (types_at t numbers ++ replicate frame.locals Top))
    → HasMade s u frame (record { locals = tree; operands = 0 }) (record { locals = start_locals p m frame.locals; operands = [] })
started p m s t u frame numbers tree h filled =
    let locals : locals_at u frame tree ≡ start_locals p m frame.locals =
    filled.is ∙ ap (λ (xs : List VerType). take frame.locals (xs ++ replicate frame.locals Top)) h.is in
    let none : operands_at u 0 ≡ [] = no_operands u 0 refl in
    record {
      later = later_through s t u h.later filled.later;
      stands = record { locals = filled.row; operands = omega arith };
      is = λ i. record { locals = locals i; operands = none i };
    }

pub caught_alone : (p : Program) (m : ℕ) (row : Catch) (s t : Store) (stack : ℕ) (item : VerType) (name : List ℕ) → item ≡ ref_of p name → name ≡ caught_name p m row
    → HasStack s t stack (item ∷ operands_at s 0) → HasStack s t stack (caught p m row ∷ [])
caught_alone p m row s t stack item name is named h = record {
  later = h.later;
  within = h.within;
  is = h.is ∙ ap (λ (xs : List VerType). item ∷ xs) (no_operands s 0 refl) ∙ ap (λ (x : VerType). x ∷ []) (is ∙ ap (ref_of p) named);
}
