-- Texts of a pool are the same where their numbers are.
use Rattle.std.proofs.Common.{◌≡◌, ℕ, zero, suc, ◌-◌, ◌<◌, List, [], ◌∷◌, ◌++◌, map, length, get_or, fold, Bool, true, false, cond, Option, Some, None, slice_get, unwrap_or, refl, sym, ap, subst, ◌∙◌, arith, ◌||◌, ◌&&◌, if◌then◌else◌}
use Rattle.std.specs.Prelude.{nat_eq, bytes_eq}
use Rattle.std.specs.List.{list_any}
use Rattle.std.specs.Option.{option_map}
use Rattle.std.proofs.lemmas.Bool.{eq-eqb, ne_eqb, or_right, or_left, true≢false}
use Rattle.std.proofs.lemmas.Option.{slice_get-map, unwrap_or-slice_get}
use Rattle.std.proofs.lemmas.List.Folds.{list_any-append}
use Rattle.std.proofs.lemmas.List.Quantifiers.{position-Some}
use Rattle.std.proofs.lemmas.Slice.Eq.{bytes_eq-Decides}
use Rattle.vx_names.proofs.Keys.{position-cons}
use Rattle.vx_names.specs.Names.{has_name, place_of}
use Rattle.vx_pool.specs.declared.pool.Entry.{Entry}
use Rattle.vx_pool.specs.declared.pool.Pool.{Pool}
use Rattle.vx_pool.specs.Lookups.{utf8, text}
use Rattle.vx_class.specs.Members.{is_given, is_text_of, is_same}
use Rattle.vx_class.specs.Numbers.{with_text, with_entry, names_of, from_place, number_in, entry_number, numbers_of, key_of, same_key}

-- ---- each text of a pool is among its texts

same_bytes : (t : List ℕ) → bytes_eq t t ≡ true
same_bytes t = (bytes_eq-Decides t t).1 refl

kept_at : (b : Bool) (names : List (List ℕ)) (u t : List ℕ) → has_name names t ≡ true → has_name (if b then names else names ++ u ∷ []) t ≡ true
kept_at true names u t h = h
kept_at false names u t h = list_any-append (λ n. bytes_eq n t) names (u ∷ []) ∙ or_left (has_name names t) (has_name (u ∷ []) t) h

kept_text : (names : List (List ℕ)) (o : Option (List ℕ)) (t : List ℕ) → has_name names t ≡ true → has_name (with_text names o) t ≡ true
kept_text names None t h = h
kept_text names (Some u) t h = kept_at (has_name names u) names u t h

kept : (entries : List Entry) (names : List (List ℕ)) (t : List ℕ) → has_name names t ≡ true → has_name (fold with_entry names entries) t ≡ true
kept [] names t h = h
kept (e ∷ others) names t h = kept others (with_entry names e) t (kept_text names (utf8 (Some e)) t h)

put_at : (b : Bool) (names : List (List ℕ)) (t : List ℕ) → has_name names t ≡ b → has_name (if b then names else names ++ t ∷ []) t ≡ true
put_at true names t h = h
put_at false names t h = list_any-append (λ n. bytes_eq n t) names (t ∷ []) ∙ or_right (has_name names t) (has_name (t ∷ []) t) (or_left (bytes_eq t t) false (same_bytes t))

put : (names : List (List ℕ)) (e : Entry) (t : List ℕ) → utf8 (Some e) ≡ Some t → has_name (with_entry names e) t ≡ true
put names e t is = subst (λ o. has_name (with_text names o) t ≡ true) (sym is) (put_at (has_name names t) names t refl)

among : (entries : List Entry) (names : List (List ℕ)) (i : ℕ) (t : List ℕ) → utf8 (slice_get entries i) ≡ Some t → has_name (fold with_entry names entries) t ≡ true
among [] names i t is = absurd cc
among (e ∷ others) names zero t is = kept others (with_entry names e) t (put names e t is)
among (e ∷ others) names (suc i) t is = among others (with_entry names e) i t is

pub is_named : (pool : Pool) (i : ℕ) (t : List ℕ) → text pool i ≡ Some t → has_name (names_of pool.entries) t ≡ true
unfolding names_of
is_named pool i t is = among pool.entries [] i t is

-- ---- numbers

pub number_of : (pool : Pool) (i : ℕ) → get_or (numbers_of pool) i 0 ≡ number_in (names_of pool.entries) (text pool i)
number_of pool i =
    let g = entry_number (names_of pool.entries) in
    sym (unwrap_or-slice_get (map g pool.entries) i 0) ∙ ap (λ o. unwrap_or o 0) (slice_get-map g pool.entries i) ∙ by (slice_get pool.entries i)
  where
    by : (o : Option Entry) → unwrap_or (option_map (entry_number (names_of pool.entries)) o) 0 ≡ number_in (names_of pool.entries) (utf8 o)
    by None = refl
    by (Some e) = refl

-- a text that stands nowhere is not there
nowhere : (b : Bool) (o : Option ℕ) → cond b (Some 0) (option_map suc o) ≡ None → (b ≡ false) × (o ≡ None)
nowhere true o e = absurd cc
nowhere false None e = (refl, refl)
nowhere false (Some place) e = absurd cc

absent : (names : List (List ℕ)) (t : List ℕ) → place_of names t ≡ None → has_name names t ≡ false
absent [] t none = refl
absent (n ∷ names) t none =
    let both = nowhere (bytes_eq n t) (place_of names t) (sym (position-cons (λ m. bytes_eq m t) n names) ∙ none) in
    rw both.0 (absent names t both.1)

-- a text that is there stands at a place
place_there : (names : List (List ℕ)) (t : List ℕ) → has_name names t ≡ true → (place : ℕ) × (place_of names t ≡ Some place) × (place < length names) × (get_or names place [] ≡ t)
place_there names t there = by (place_of names t) refl
  where
    Place : Type 0
    Place = (place : ℕ) × (place_of names t ≡ Some place) × (place < length names) × (get_or names place [] ≡ t)

    by : (o : Option ℕ) → place_of names t ≡ o → Place
    by None none = absurd (true≢false (sym there ∙ absent names t none))
    by (Some place) some =
        let stands = position-Some (λ n. bytes_eq n t) names place [] some in
        (place, some, stands.0, (bytes_eq-Decides (get_or names place []) t).0 stands.1)

-- the number of a text that stands at a place is that of no other text
number_is : (names : List (List ℕ)) (t : List ℕ) (place : ℕ) → place_of names t ≡ Some place → place < length names → get_or names place [] ≡ t
    → (o : Option (List ℕ)) → nat_eq (length names - place) (number_in names o) ≡ is_given t o
number_is names t place is lt at None = ne_eqb (length names - place) 0 (λ e. omega arith)
number_is names t place is lt at (Some u) = by (bytes_eq u t) refl
  where
    apart : (o : Option ℕ) → place_of names u ≡ o → bytes_eq u t ≡ false → length names - place ≡ from_place (length names) o → ⊥
    apart None none other e = omega arith
    apart (Some p) some other e =
        let stands = position-Some (λ n. bytes_eq n u) names p [] some in
        let same : p ≡ place = omega (arith, stands.0) in
        let u_is : get_or names p [] ≡ u = (bytes_eq-Decides (get_or names p []) u).0 stands.1 in
        true≢false (sym ((bytes_eq-Decides u t).1 (sym u_is ∙ ap (λ q. get_or names q []) same ∙ at)) ∙ other)

    by : (b : Bool) → bytes_eq u t ≡ b → nat_eq (length names - place) (from_place (length names) (place_of names u)) ≡ bytes_eq u t
    by true same =
        let e : u ≡ t = (bytes_eq-Decides u t).0 same in
        eq-eqb (length names - place) (from_place (length names) (place_of names u)) (sym (ap (λ w. from_place (length names) (place_of names w)) e ∙ ap (from_place (length names)) is)) ∙ sym same
    by false other = ne_eqb (length names - place) (from_place (length names) (place_of names u)) (apart (place_of names u) refl other) ∙ sym other

pub same_number : (pool : Pool) (i j : ℕ) (t : List ℕ) → text pool j ≡ Some t → nat_eq (get_or (numbers_of pool) j 0) (get_or (numbers_of pool) i 0) ≡ is_text_of pool i t
same_number pool i j t is =
    let names = names_of pool.entries in
    let there = place_there names t (is_named pool j t is) in
    let own : get_or (numbers_of pool) j 0 ≡ length names - there.0 = number_of pool j ∙ ap (number_in names) is ∙ ap (from_place (length names)) there.1 in
    ap (λ x. nat_eq x (get_or (numbers_of pool) i 0)) own ∙ ap (nat_eq (length names - there.0)) (number_of pool i)
    ∙ number_is names t there.0 there.1 there.2 there.3 (text pool i)

-- ---- members

same_member : (pool : Pool) (n d : ℕ) (name descriptor : List ℕ) → text pool n ≡ Some name → text pool d ≡ Some descriptor
    → (m k : ℕ) → same_key (key_of (numbers_of pool) n d) (key_of (numbers_of pool) m k) ≡ is_same pool m k name descriptor
same_member pool n d name descriptor a b m k = (λ i. same_number pool m n name a i && same_number pool k d descriptor b i)

taken_so : {A : Type 0} (name_of descriptor_of : A → ℕ) (pool : Pool) (n d : ℕ) (name descriptor : List ℕ) → text pool n ≡ Some name → text pool d ≡ Some descriptor → (members : List A)
    → list_any (same_key (key_of (numbers_of pool) n d)) (map (λ m. key_of (numbers_of pool) (name_of m) (descriptor_of m)) members)
    ≡ list_any (λ m. is_same pool (name_of m) (descriptor_of m) name descriptor) members
taken_so name_of descriptor_of pool n d name descriptor a b [] = refl
taken_so name_of descriptor_of pool n d name descriptor a b (m ∷ members) =
    λ i. same_member pool n d name descriptor a b (name_of m) (descriptor_of m) i || taken_so name_of descriptor_of pool n d name descriptor a b members i

-- a key is taken where a member has the name and the descriptor
pub is_taken : {A : Type 0} (name_of descriptor_of : A → ℕ) (pool : Pool) (numbers : List ℕ) (keys : List (ℕ × ℕ)) (members : List A) (n d : ℕ) (name descriptor : List ℕ)
    → numbers ≡ numbers_of pool → keys ≡ map (λ m. key_of numbers (name_of m) (descriptor_of m)) members → text pool n ≡ Some name → text pool d ≡ Some descriptor
    → list_any (same_key (key_of numbers n d)) keys ≡ list_any (λ m. is_same pool (name_of m) (descriptor_of m) name descriptor) members
is_taken name_of descriptor_of pool numbers keys members n d name descriptor same taken a b =
    ap (list_any (same_key (key_of numbers n d))) taken
    ∙ ap (λ ns. list_any (same_key (key_of ns n d)) (map (λ m. key_of ns (name_of m) (descriptor_of m)) members)) same
    ∙ taken_so name_of descriptor_of pool n d name descriptor a b members
