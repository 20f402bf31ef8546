-- The text tells of each end under the line of what is lacking.
use Rattle.std.proofs.Common.{Bool, List, None, Option, Some, [], ap, append_assoc, arith, bytes_eq, codes, cond, decimal, drop, false, flat_map, fold, if◌then◌else◌, inl, inr, length, not, option_map, position, refl, slice_get, subst, suc, sym, true, unwrap_or, zero, ℕ, ◌++◌, ◌+◌, ◌∙◌, ◌∷◌, ◌≡◌, ◌⊎◌}
use Rattle.std.proofs.lemmas.Bool.{eq-eqb, eqb-true, or_left, or_right, true≢false}
use Rattle.std.proofs.lemmas.List.Elements.{All-append, All-cons, All-drop, All-head, All-nil, All-tail, Contains-append_cases, Contains-append_left, Contains-append_right, Contains-push, Contains-push_cases}
use Rattle.std.proofs.lemmas.List.{append-nil}
use Rattle.std.proofs.lemmas.List.Folds.{list_any-append}
use Rattle.std.proofs.lemmas.List.Sorted.{All-permutation, Contains-permutation}
use Rattle.std.proofs.lemmas.Option.{same_Some}
use Rattle.std.proofs.lemmas.Slice.Eq.{bytes_eq-Decides}
use Rattle.std.specs.List.{list_any}
use Rattle.std.specs.Prelude.{All, Contains, option_and_then, ◌==◌, ◌||◌}
use Rattle.vx_java.specs.Checks.{same_bool}
use Rattle.vx_java.specs.Machine.{place_at}
use Rattle.vx_lines.specs.declared.table.LineTable.{LineTable}
use Rattle.vx_link.specs.declared.program.Program.{Program}
use Rattle.vx_may_end.specs.Listed as listed
use Rattle.vx_may_end.specs.declared.lack.Lack.{Lack}
use Rattle.vx_may_end.specs.declared.lack.Spot.{Spot}
use Rattle.vx_may_end.specs.declared.lack.When.{When}
use Rattle.vx_names.proofs.Keys.{position-cons}
use Rattle.vx_names.specs.Names.{has_name}
use Rattle.vx_pool.specs.Holding.{and_true}
use Rattle.vx_spots.specs.Entries.{entries_from, entries_in, entries_of, is_reached, key_of, kind_of, kinds_of, with_kind, with_kinds}
use Rattle.vx_spots.specs.Law.{EndsAreTold, PlaceLine, StandBelow, line_text, receivers_text}
use Rattle.vx_spots.specs.Parts.{IsPartText, IsSpotsText, part_head}
use Rattle.vx_spots.specs.Ranks.{is_at, places_in, ranks_from}
use Rattle.vx_spots.specs.Texts.{count_there, head_text, kind_by, kind_text, lack_at, note_of, note_text, notes_text, place_at_spot, place_text, rank_text, receiver_text}
use Rattle.vx_spots.specs.declared.entries.Entry.{Entry}
use Rattle.vx_spots.specs.declared.ranks.Rank.{Rank}

-- ---- items of lists

first_or_later : {A : Type 0} (x y : A) (xs : List A) → Contains (x ∷ xs) y → (x ≡ y) ⊎ Contains xs y
first_or_later x y xs c = elim (Contains-append_cases (x ∷ []) xs y c) [
  | inl one ↦ elim (Contains-push_cases [] x y one) [ inl none ↦ absurd (omega (arith, none.1)) | inr is ↦ inl is ]
  | inr behind ↦ inr behind
]

is_first : {A : Type 0} (x : A) (xs : List A) → Contains (x ∷ xs) x
is_first x xs = Contains-append_left (x ∷ []) xs x (Contains-push [] x)

is_later : {A : Type 0} (x y : A) (xs : List A) → Contains xs y → Contains (x ∷ xs) y
is_later x y xs c = Contains-append_right (x ∷ []) xs y c

-- the first item that passes
abbrev Found : {A : Type 0} → (A → Bool) → List A → Type 0
Found {A} f xs = (i : ℕ) × (x : A) × (slice_get xs i ≡ Some x) × (f x ≡ true) × (position f xs ≡ Some i)

found_by : {A : Type 0} (f : A → Bool) (x : A) (xs : List A) (b : Bool) → f x ≡ b → (b || list_any f xs) ≡ true → (list_any f xs ≡ true → Found f xs) → Found f (x ∷ xs)
found_by f x xs true is h behind = (0, x, refl, is, position-cons f x xs ∙ ap (λ c. cond c (Some 0) (option_map suc (position f xs))) is)
found_by f x xs false is h behind =
    let rest = behind h in
    (suc rest.0, rest.1, rest.2, rest.3, position-cons f x xs ∙ ap (λ c. cond c (Some 0) (option_map suc (position f xs))) is ∙ ap (option_map suc) rest.4)

found : {A : Type 0} (f : A → Bool) (xs : List A) → list_any f xs ≡ true → Found f xs
found f [] h = absurd (cc h)
found f (x ∷ xs) h = found_by f x xs (f x) refl h (found f xs)

-- ---- kinds

kept_if : (b : Bool) (names : List (List ℕ)) (u t : List ℕ) → has_name names t ≡ true → has_name (if b then names else names ++ u ∷ []) t ≡ true
kept_if true names u t h = h
kept_if false names u t h = list_any-append (λ n. bytes_eq n t) names (u ∷ []) ∙ or_left (has_name names t) (has_name (u ∷ []) t) h

put_if : (b : Bool) (names : List (List ℕ)) (t : List ℕ) → has_name names t ≡ b → has_name (if b then names else names ++ t ∷ []) t ≡ true
put_if true names t h = h
put_if false names t h =
    list_any-append (λ n. bytes_eq n t) names (t ∷ []) ∙ or_right (has_name names t) (has_name (t ∷ []) t) (or_left (bytes_eq t t) false ((bytes_eq-Decides t t).1 refl))

kept_here : (ls : List Lack) (kinds : List (List ℕ)) (t : List ℕ) → has_name kinds t ≡ true → has_name (fold with_kind kinds ls) t ≡ true
kept_here [] kinds t h = h
kept_here (l ∷ ls) kinds t h = kept_here ls (with_kind kinds l) t (kept_if (has_name kinds (key_of l)) kinds (key_of l) t h)

kept : (xs : List Spot) (kinds : List (List ℕ)) (t : List ℕ) → has_name kinds t ≡ true → has_name (fold with_kinds kinds xs) t ≡ true
kept [] kinds t h = h
kept (x ∷ xs) kinds t h = kept xs (with_kinds kinds x) t (kept_here x.lacks kinds t h)

known_here : (ls : List Lack) (kinds : List (List ℕ)) (j : ℕ) (l : Lack) → slice_get ls j ≡ Some l → has_name (fold with_kind kinds ls) (key_of l) ≡ true
known_here [] kinds j l at = absurd (cc at)
known_here (x ∷ ls) kinds zero l at =
    kept_here ls (with_kind kinds x) (key_of l)
    (subst (λ y. has_name (with_kind kinds y) (key_of l) ≡ true) (sym (same_Some x l at)) (put_if (has_name kinds (key_of l)) kinds (key_of l) refl))
known_here (x ∷ ls) kinds (suc j) l at = known_here ls (with_kind kinds x) j l at

known : (xs : List Spot) (kinds : List (List ℕ)) (i : ℕ) (s : Spot) (j : ℕ) (l : Lack) → slice_get xs i ≡ Some s → slice_get s.lacks j ≡ Some l
    → has_name (fold with_kinds kinds xs) (key_of l) ≡ true
known [] kinds i s j l at is = absurd (cc at)
known (x ∷ xs) kinds zero s j l at is = kept xs (with_kinds kinds x) (key_of l) (known_here x.lacks kinds j l (ap (λ y. slice_get y.lacks j) (same_Some x s at) ∙ is))
known (x ∷ xs) kinds (suc i) s j l at is = known xs (with_kinds kinds x) i s j l at is

-- what stands at the place of a kind
kind_is : (kinds : List (List ℕ)) (l : Lack) → has_name kinds (key_of l) ≡ true → slice_get kinds (kind_of kinds l) ≡ Some (key_of l)
kind_is kinds l there =
    let one = found (λ n. bytes_eq n (key_of l)) kinds there in
    ap (λ o. slice_get kinds (unwrap_or o 0)) one.4 ∙ one.2 ∙ ap Some ((bytes_eq-Decides one.1 (key_of l)).0 one.3)

-- ---- entries

-- an entry stands for a lack of its spot, and has its kind
abbrev IsProper : (all : List Spot) → (kinds : List (List ℕ)) → Entry → Type 0
IsProper all kinds e = (s : Spot) × (l : Lack) × (slice_get all e.spot ≡ Some s) × (slice_get s.lacks e.lack ≡ Some l) × (e.kind ≡ kind_of kinds l)

-- the entry of a lack of a spot
abbrev IsEntryOf : (kinds : List (List ℕ)) → (spot : ℕ) → Lack → List Entry → Type 0
IsEntryOf kinds spot l es = (e : Entry) × Contains es e × (e.spot ≡ spot) × (e.kind ≡ kind_of kinds l)

of_spot : (kinds : List (List ℕ)) (spot number : ℕ) (ls : List Lack) (j : ℕ) (l : Lack) → slice_get ls j ≡ Some l → IsEntryOf kinds spot l (entries_from kinds spot number ls)
of_spot kinds spot number [] j l at = absurd (cc at)
of_spot kinds spot number (x ∷ ls) zero l at = (record { kind = kind_of kinds x; spot = spot; lack = number }, is_first _ _, refl, ap (kind_of kinds) (same_Some x l at))
of_spot kinds spot number (x ∷ ls) (suc j) l at = let rest = of_spot kinds spot (number + 1) ls j l at in (rest.0, is_later _ rest.0 _ rest.1, rest.2, rest.3)

same_is_true : (b : Bool) → same_bool b b ≡ true
same_is_true true = refl
same_is_true false = refl

of_part : (kinds : List (List ℕ)) (marks : List Bool) (n : ℕ) (xs : List Spot) (i : ℕ) (s : Spot) (j : ℕ) (l : Lack) → slice_get xs i ≡ Some s → slice_get s.lacks j ≡ Some l
    → IsEntryOf kinds (n + i) l (entries_in kinds marks (is_reached marks s.method.0) n xs)
of_part kinds marks n [] i s j l at is = absurd (cc at)
of_part kinds marks n (x ∷ xs) zero s j l at is =
    let first = of_spot kinds n 0 s.lacks j l is in
    let all : entries_of kinds (same_bool (is_reached marks x.method.0) (is_reached marks s.method.0)) n x ≡ entries_from kinds n 0 s.lacks =
    ap (λ y. entries_of kinds (same_bool (is_reached marks y.method.0) (is_reached marks s.method.0)) n y) (same_Some x s at)
    ∙ ap (λ b. entries_of kinds b n s) (same_is_true (is_reached marks s.method.0)) in
    let none : n ≡ n + zero = omega arith in
    (first.0, Contains-append_left _ _ first.0 (subst (λ es. Contains es first.0) (sym all) first.1), first.2 ∙ none, first.3)
of_part kinds marks n (x ∷ xs) (suc i) s j l at is =
    let rest = of_part kinds marks (n + 1) xs i s j l at is in
    let next : n + 1 + i ≡ n + suc i = omega arith in
    (rest.0, Contains-append_right _ _ rest.0 rest.1, rest.2 ∙ next, rest.3)

proper_from : (all : List Spot) (kinds : List (List ℕ)) (spot number : ℕ) (s : Spot) (ls : List Lack) → slice_get all spot ≡ Some s → ((k : ℕ) → slice_get ls k ≡ slice_get s.lacks (number + k))
    → All (IsProper all kinds) (entries_from kinds spot number ls)
proper_from all kinds spot number s [] at is = All-nil (IsProper all kinds)
proper_from all kinds spot number s (l ∷ ls) at is =
    let none : number ≡ number + 0 = omega arith in
    let next : (k : ℕ) → number + suc k ≡ number + 1 + k = λ k. omega arith in
    let one : IsProper all kinds (record { kind = kind_of kinds l; spot = spot; lack = number }) = (s, l, at, ap (slice_get s.lacks) none ∙ sym (is 0), refl) in
    All-cons (IsProper all kinds) _ _ one (proper_from all kinds spot (number + 1) s ls at (λ k. is (suc k) ∙ ap (slice_get s.lacks) (next k)))

proper_if : (all : List Spot) (kinds : List (List ℕ)) (b : Bool) (n : ℕ) (s : Spot) → slice_get all n ≡ Some s → All (IsProper all kinds) (entries_of kinds b n s)
proper_if all kinds true n s at = let none : (k : ℕ) → k ≡ 0 + k = λ k. omega arith in proper_from all kinds n 0 s s.lacks at (λ k. ap (slice_get s.lacks) (none k))
proper_if all kinds false n s at = All-nil (IsProper all kinds)

proper_in : (all : List Spot) (kinds : List (List ℕ)) (marks : List Bool) (wanted : Bool) (n : ℕ) (xs : List Spot) → ((k : ℕ) → slice_get xs k ≡ slice_get all (n + k))
    → All (IsProper all kinds) (entries_in kinds marks wanted n xs)
proper_in all kinds marks wanted n [] is = All-nil (IsProper all kinds)
proper_in all kinds marks wanted n (x ∷ xs) is =
    let none : n ≡ n + 0 = omega arith in
    let next : (k : ℕ) → n + suc k ≡ n + 1 + k = λ k. omega arith in
    let at : slice_get all n ≡ Some x = ap (slice_get all) none ∙ sym (is 0) in
    All-append (IsProper all kinds) _ _ (proper_if all kinds (same_bool (is_reached marks x.method.0) wanted) n x at)
    (proper_in all kinds marks wanted (n + 1) xs (λ k. is (suc k) ∙ ap (slice_get all) (next k)))

-- ---- runs of one kind

-- an entry stands in the run of a kind in front
abbrev InRun : (kind : ℕ) → List Entry → Entry → Type 0
InRun kind [] e = ⊥
InRun kind (x ∷ xs) e = (x.kind ≡ kind) × ((x ≡ e) ⊎ InRun kind xs e)

last_is : (last : Option ℕ) (kind : ℕ) → is_at last kind ≡ true → last ≡ Some kind
last_is None kind h = absurd (cc h)
last_is (Some k) kind h = ap Some (eqb-true k kind h)

-- where a rank begins stands the run of an entry, and the rank counts its places
abbrev Begins : List Entry → Entry → Rank → Type 0
Begins order e r = InRun e.kind (drop r.start order) e × (r.places.0 ≡ places_in e.kind None (drop r.start order))

-- the rank of the run of an entry, unless the run began before
abbrev Ranked : List Entry → Option ℕ → (start : ℕ) → List Entry → Entry → Type 0
Ranked order last start es e = ((last ≡ Some e.kind) × InRun e.kind es e) ⊎ ((r : Rank) × Contains (ranks_from last start es) r × Begins order e r)

begins : (order : List Entry) (last : Option ℕ) (start : ℕ) (x : Entry) (xs : List Entry) (e : Entry) → drop start order ≡ x ∷ xs → InRun e.kind (x ∷ xs) e → Ranked order last start (x ∷ xs) e
begins order last start x xs e at run = by_last (is_at last x.kind) refl
  where
    rank : Rank
    rank = record { places = record { 0 = places_in x.kind None (x ∷ xs) }; start = start }

    rest : List Rank
    rest = ranks_from (Some x.kind) (start + 1) xs

    many : places_in x.kind None (x ∷ xs) ≡ places_in e.kind None (drop start order)
    many = ap (λ k. places_in k None (x ∷ xs)) run.0 ∙ ap (places_in e.kind None) (sym at)

    by_last : (b : Bool) → is_at last x.kind ≡ b
        → ((last ≡ Some e.kind) × InRun e.kind (x ∷ xs) e) ⊎ ((r : Rank) × Contains ((if b then [] else rank ∷ []) ++ rest) r × Begins order e r)
    by_last true is = inl (last_is last x.kind is ∙ ap Some run.0, run)
    by_last false is = inr (rank, is_first rank rest, (subst (λ es. InRun e.kind es e) (sym at) run, many))

drop_tail : {A : Type 0} (xs : List A) (n : ℕ) (y : A) (ys : List A) → drop n xs ≡ y ∷ ys → drop (n + 1) xs ≡ ys
drop_tail [] zero y ys h = absurd (cc h)
drop_tail [] (suc n) y ys h = absurd (cc h)
drop_tail (x ∷ xs) zero y ys h = ap (drop 1) h
drop_tail (x ∷ xs) (suc n) y ys h = let next : suc n + 1 ≡ suc (n + 1) = omega arith in ap (λ k. drop k (x ∷ xs)) next ∙ drop_tail xs n y ys h

ranked : (order : List Entry) (last : Option ℕ) (start : ℕ) (es : List Entry) (e : Entry) → drop start order ≡ es → Contains es e → Ranked order last start es e
ranked order last start [] e at c = absurd (omega (arith, c.1))
ranked order last start (x ∷ xs) e at c = elim (first_or_later x e xs c) [
  | inl is ↦ begins order last start x xs e at (ap (λ y. y.kind) is, inl is)
  | inr behind ↦ elim (ranked order (Some x.kind) (start + 1) xs e (drop_tail order start x xs at) behind) [
    | inl run ↦ begins order last start x xs e at (same_Some x.kind e.kind run.0, inr run.1)
    | inr told ↦ inr (told.0, Contains-append_right _ _ told.0 told.1, told.2)
  ]
]

-- ---- lines of a kind

-- a spot has a line among these
abbrev HasLine : List PlaceLine → Spot → Type 0
HasLine lines s = (line : PlaceLine) × Contains lines line × (line.spot ≡ s)

module _ (p : Program) (tables : List LineTable) (all : List Spot) (kinds : List (List ℕ)) (kind : ℕ) where
  -- the entries of a kind in front as lines, behind receivers of the place that came last
  record AreLines (last : Option ℕ) (count : ℕ) (es : List Entry) : Type 0 where
    receivers : List When
    lines : List PlaceLine
    is : notes_text p tables all kind last count es ≡ receivers_text p count receivers ++ flat_map (line_text p tables) lines
    many : length lines ≡ places_in kind last es
    none : last ≡ None → receivers ≡ []
    each : (e : Entry) (s : Spot) → slice_get all e.spot ≡ Some s → InRun kind es e → (is_at last e.spot ≡ true) ⊎ HasLine lines s

  ends : (last : Option ℕ) (count : ℕ) (x : Entry) (xs : List Entry) → (x.kind == kind) ≡ false → AreLines last count (x ∷ xs)
  unfolding notes_text
  ends last count x xs other = record {
    receivers = [];
    lines = [];
    is = ap (λ t. if t then note_text p tables all x (not (is_at last x.spot)) (count_there (not (is_at last x.spot)) count) ++ notes_text p tables all kind (Some x.spot) (count_there (not (is_at last x.spot)) count + 1) xs else []) other;
    many = sym (ap (λ t. if t then (if is_at last x.spot then 0 else 1) + places_in kind (Some x.spot) xs else 0) other);
    none = λ h. refl;
    each = λ e s at run. absurd (true≢false (sym (eq-eqb x.kind kind run.0) ∙ other));
  }

  -- what an entry of the kind adds
  notes_go : (last : Option ℕ) (count : ℕ) (x : Entry) (xs : List Entry) (b : Bool) → (x.kind == kind) ≡ true → is_at last x.spot ≡ b
      → notes_text p tables all kind last count (x ∷ xs) ≡ note_text p tables all x (not b) (count_there (not b) count) ++ notes_text p tables all kind (Some x.spot) (count_there (not b) count + 1) xs
  unfolding notes_text
  notes_go last count x xs b same is =
      ap (λ t. if t then note_text p tables all x (not (is_at last x.spot)) (count_there (not (is_at last x.spot)) count) ++ notes_text p tables all kind (Some x.spot) (count_there (not (is_at last x.spot)) count + 1) xs else []) same
      ∙ ap (λ c. note_text p tables all x (not c) (count_there (not c) count) ++ notes_text p tables all kind (Some x.spot) (count_there (not c) count + 1) xs) is

  places_go : (last : Option ℕ) (x : Entry) (xs : List Entry) (b : Bool) → (x.kind == kind) ≡ true → is_at last x.spot ≡ b
      → places_in kind last (x ∷ xs) ≡ (if b then 0 else 1) + places_in kind (Some x.spot) xs
  places_go last x xs b same is =
      ap (λ t. if t then (if is_at last x.spot then 0 else 1) + places_in kind (Some x.spot) xs else 0) same
      ∙ ap (λ c. (if c then 0 else 1) + places_in kind (Some x.spot) xs) is

  -- what is told of an entry
  stands_for : (x : Entry) (one : IsProper all kinds x) → lack_at all x ≡ Some one.1
  stands_for x one = ap (option_and_then (λ y. slice_get y.lacks x.lack)) one.2 ∙ one.3

  note_old : (x : Entry) (count : ℕ) (one : IsProper all kinds x) → note_text p tables all x false count ≡ receiver_text p count one.1.when
  note_old x count one = ap (note_of p tables all x.spot false count) (stands_for x one)

  note_new : (x : Entry) (count : ℕ) (one : IsProper all kinds x) → note_text p tables all x true count ≡ place_text p tables one.1.when one.0 ++ receiver_text p count one.1.when
  note_new x count one =
      ap (note_of p tables all x.spot true count) (stands_for x one) ∙ ap (λ o. place_at_spot p tables one.1.when o ++ receiver_text p count one.1.when) one.2

  -- behind an entry of the same spot
  goes_on : (last : Option ℕ) (count : ℕ) (x : Entry) (xs : List Entry) (one : IsProper all kinds x) → (x.kind == kind) ≡ true → is_at last x.spot ≡ true
      → AreLines (Some x.spot) (count + 1) xs → AreLines last count (x ∷ xs)
  goes_on last count x xs one same is rest = record {
    receivers = one.1.when ∷ rest.receivers;
    lines = rest.lines;
    is =
        notes_go last count x xs true same is
        ∙ ap (λ t. t ++ notes_text p tables all kind (Some x.spot) (count + 1) xs) (note_old x count one)
        ∙ ap (λ t. receiver_text p count one.1.when ++ t) rest.is
        ∙ sym (append_assoc (receiver_text p count one.1.when) (receivers_text p (count + 1) rest.receivers) (flat_map (line_text p tables) rest.lines));
    many = rest.many ∙ zero_more ∙ sym (places_go last x xs true same is);
    none = λ h. absurd (true≢false (sym is ∙ ap (λ o. is_at o x.spot) h));
    each = λ e s at run. elim run.1 [
      | inl here ↦ inl (ap (is_at last) (sym (ap (λ y. y.spot) here)) ∙ is)
      | inr behind ↦ elim (rest.each e s at behind) [
        | inl again ↦ inl (ap (is_at last) (sym (eqb-true x.spot e.spot again)) ∙ is)
        | inr told ↦ inr told
      ]
    ];
  }
    where
      zero_more : places_in kind (Some x.spot) xs ≡ 0 + places_in kind (Some x.spot) xs
      zero_more = omega arith

  -- at the first entry of a spot
  opens : (last : Option ℕ) (count : ℕ) (x : Entry) (xs : List Entry) (one : IsProper all kinds x) → (x.kind == kind) ≡ true → is_at last x.spot ≡ false
      → AreLines (Some x.spot) (0 + 1) xs → AreLines last count (x ∷ xs)
  opens last count x xs one same is rest = record {
    receivers = [];
    lines = line ∷ rest.lines;
    is =
        notes_go last count x xs false same is
        ∙ ap (λ t. t ++ notes_text p tables all kind (Some x.spot) (0 + 1) xs) (note_new x 0 one)
        ∙ ap (λ t. place ++ receiver ++ t) rest.is
        ∙ sym (append_assoc (place ++ receiver) others (flat_map (line_text p tables) rest.lines))
        ∙ ap (λ t. t ++ flat_map (line_text p tables) rest.lines) (append_assoc place receiver others);
    many = ap suc rest.many ∙ one_more ∙ sym (places_go last x xs false same is);
    none = λ h. refl;
    each = λ e s at run. elim run.1 [
      | inl here ↦ inr (line, is_first line rest.lines, spot_of e s at (ap (λ y. y.spot) here))
      | inr behind ↦ elim (rest.each e s at behind) [
        | inl again ↦ inr (line, is_first line rest.lines, spot_of e s at (eqb-true x.spot e.spot again))
        | inr told ↦ inr (told.0, is_later line told.0 rest.lines told.1, told.2)
      ]
    ];
  }
    where
      place : List ℕ
      place = place_text p tables one.1.when one.0

      receiver : List ℕ
      receiver = receiver_text p 0 one.1.when

      others : List ℕ
      others = receivers_text p (0 + 1) rest.receivers

      line : PlaceLine
      line = record { spot = one.0; first = one.1.when; others = rest.receivers }

      one_more : suc (places_in kind (Some x.spot) xs) ≡ 1 + places_in kind (Some x.spot) xs
      one_more = omega arith

      spot_of : (e : Entry) (s : Spot) → slice_get all e.spot ≡ Some s → x.spot ≡ e.spot → one.0 ≡ s
      spot_of e s at spots = same_Some one.0 s (sym one.2 ∙ ap (slice_get all) spots ∙ at)

  by_spot : (last : Option ℕ) (count : ℕ) (x : Entry) (xs : List Entry) (one : IsProper all kinds x) → (x.kind == kind) ≡ true → (b : Bool) → is_at last x.spot ≡ b
      → ((n : ℕ) → AreLines (Some x.spot) n xs) → AreLines last count (x ∷ xs)
  by_spot last count x xs one same true is behind = goes_on last count x xs one same is (behind (count + 1))
  by_spot last count x xs one same false is behind = opens last count x xs one same is (behind (0 + 1))

  by_kind : (last : Option ℕ) (count : ℕ) (x : Entry) (xs : List Entry) (one : IsProper all kinds x) → (b : Bool) → (x.kind == kind) ≡ b
      → ((n : ℕ) → AreLines (Some x.spot) n xs) → AreLines last count (x ∷ xs)
  by_kind last count x xs one true same behind = by_spot last count x xs one same (is_at last x.spot) refl behind
  by_kind last count x xs one false other behind = ends last count x xs other

  are_lines : (last : Option ℕ) (count : ℕ) (es : List Entry) → All (IsProper all kinds) es → AreLines last count es
  unfolding notes_text
  are_lines last count [] proper = record { receivers = []; lines = []; is = refl; many = refl; none = λ h. refl; each = λ e s at run. absurd run }
  are_lines last count (x ∷ xs) proper =
      by_kind last count x xs (All-head (IsProper all kinds) _ _ proper) (x.kind == kind) refl (λ n. are_lines (Some x.spot) n xs (All-tail (IsProper all kinds) _ _ proper))

-- ---- the lines of a kind under its head

-- a text is a line on what is lacking, with a line for each place below it, and a spot has one of these
abbrev Tells : Program → List LineTable → (word : ℕ) → (what : List ℕ) → Spot → List ℕ → Type 0
Tells p tables word what s text = (lines : List PlaceLine) × HasLine lines s × (text ≡ head_text (length lines) word what ++ flat_map (line_text p tables) lines ++ codes "\n")

-- each lack is of a kind that is known
abbrev AreKnown : List Spot → (kinds : List (List ℕ)) → Type 0
AreKnown all kinds = (i : ℕ) (s : Spot) (j : ℕ) (l : Lack) → slice_get all i ≡ Some s → slice_get s.lacks j ≡ Some l → has_name kinds (key_of l) ≡ true

kind_tells : (p : Program) (tables : List LineTable) (all : List Spot) (kinds : List (List ℕ)) → AreKnown all kinds
    → (s : Spot) (l : Lack) (e : Entry) → slice_get all e.spot ≡ Some s → e.kind ≡ kind_of kinds l → has_name kinds (key_of l) ≡ true
    → (places : ℕ) (es : List Entry) → All (IsProper all kinds) es → InRun e.kind es e → places ≡ places_in e.kind None es
    → Tells p tables l.word l.what s (kind_text p tables all places es)
kind_tells p tables all kinds are s l e at of there places [] proper run count = absurd run
kind_tells p tables all kinds are s l e at of there places (x ∷ xs) proper run count = (grouped.lines, line, whole)
  where
    one : IsProper all kinds x
    one = All-head (IsProper all kinds) _ _ proper

    first : Lack
    first = one.1

    -- the first entry of the run lacks the same
    same : key_of first ≡ key_of l
    same =
        let known_first = are x.spot one.0 x.lack first one.2 one.3 in
        same_Some (key_of first) (key_of l) (sym (kind_is kinds first known_first) ∙ ap (slice_get kinds) (sym one.4 ∙ run.0 ∙ of) ∙ kind_is kinds l there)

    word_is : first.word ≡ l.word
    word_is = cc same

    what_is : first.what ≡ l.what
    what_is = cc same

    grouped : AreLines p tables all kinds x.kind None 0 (x ∷ xs)
    grouped = are_lines p tables all kinds x.kind None 0 (x ∷ xs) proper

    line : HasLine grouped.lines s
    line = elim (grouped.each e s at (subst (λ k. InRun k (x ∷ xs) e) (sym run.0) run)) [ inl none ↦ absurd (cc none) | inr told ↦ told ]

    notes : notes_text p tables all x.kind None 0 (x ∷ xs) ≡ flat_map (line_text p tables) grouped.lines
    notes = grouped.is ∙ ap (λ r. receivers_text p 0 r ++ flat_map (line_text p tables) grouped.lines) (grouped.none refl)

    number : places ≡ length grouped.lines
    number = count ∙ ap (λ k. places_in k None (x ∷ xs)) (sym run.0) ∙ sym grouped.many

    whole : kind_text p tables all places (x ∷ xs) ≡ head_text (length grouped.lines) l.word l.what ++ flat_map (line_text p tables) grouped.lines ++ codes "\n"
    whole =
        ap (kind_by p tables all places x.kind (x ∷ xs)) (stands_for p tables all kinds x.kind x one)
        ∙ ap (λ n. head_text n first.word first.what ++ notes_text p tables all x.kind None 0 (x ∷ xs) ++ codes "\n") number
        ∙ ap (λ w. head_text (length grouped.lines) w first.what ++ notes_text p tables all x.kind None 0 (x ∷ xs) ++ codes "\n") word_is
        ∙ ap (λ w. head_text (length grouped.lines) l.word w ++ notes_text p tables all x.kind None 0 (x ∷ xs) ++ codes "\n") what_is
        ∙ ap (λ t. head_text (length grouped.lines) l.word l.what ++ t ++ codes "\n") notes

-- ---- lines in texts

-- a text ends with the end of a line
abbrev HasEnd : List ℕ → Type 0
HasEnd t = (front : List ℕ) × (t ≡ front ++ codes "\n")

ends_behind : (a b : List ℕ) → HasEnd a → (b ≡ []) ⊎ HasEnd b → HasEnd (a ++ b)
ends_behind a b h (inl none) = (h.0, ap (λ t. a ++ t) none ∙ append-nil a ∙ h.1)
ends_behind a b h (inr more) = (a ++ more.0, ap (λ t. a ++ t) more.1 ∙ sym (append_assoc a more.0 (codes "\n")))

before : (lines whole behind : List ℕ) → StandBelow lines whole → StandBelow lines (whole ++ behind)
before lines whole behind s = record {
  front = s.front;
  behind = s.behind ++ behind;
  is =
      ap (λ w. w ++ behind) s.is
      ∙ append_assoc (s.front ++ codes "\n") (lines ++ s.behind) behind
      ∙ ap (λ w. s.front ++ codes "\n" ++ w) (append_assoc lines s.behind behind);
}

later : (lines front whole : List ℕ) → StandBelow lines whole → StandBelow lines (front ++ whole)
later lines front whole s = record {
  front = front ++ s.front;
  behind = s.behind;
  is =
      ap (λ w. front ++ w) s.is
      ∙ sym (append_assoc front (s.front ++ codes "\n") (lines ++ s.behind))
      ∙ ap (λ w. w ++ (lines ++ s.behind)) (sym (append_assoc front s.front (codes "\n")));
}

in_flat_map : {A : Type 0} (f : A → List ℕ) → ((y : A) → (f y ≡ []) ⊎ HasEnd (f y)) → (front : List ℕ) → HasEnd front → (x : A) (xs : List A) → Contains xs x
    → StandBelow (f x) (front ++ flat_map f xs)
in_flat_map f each front end x [] c = absurd (omega (arith, c.1))
in_flat_map f each front end x (y ∷ ys) c = elim (first_or_later y x ys c) [
  | inl is ↦ record {
    front = end.0;
    behind = flat_map f ys;
    is = ap (λ t. t ++ (f y ++ flat_map f ys)) end.1 ∙ ap (λ z. end.0 ++ codes "\n" ++ (f z ++ flat_map f ys)) is;
  }
  | inr behind ↦ subst (StandBelow (f x)) (append_assoc front (f y) (flat_map f ys)) (in_flat_map f each (front ++ f y) (ends_behind front (f y) end (each y)) x ys behind)
]

head_ends : (reached : Bool) (count : ℕ) → HasEnd (part_head reached count)
unfolding part_head
head_ends true count =
    let front = codes "unsupported " ++ decimal count in
    (front ++ codes " where calls from main lead", sym (append_assoc front (codes " where calls from main lead") (codes "\n")))
head_ends false count =
    let front = codes "unsupported " ++ decimal count in
    (front ++ codes " elsewhere", sym (append_assoc front (codes " elsewhere") (codes "\n")))

kind_ends : (p : Program) (tables : List LineTable) (all : List Spot) (places : ℕ) (es : List Entry) → (kind_text p tables all places es ≡ []) ⊎ HasEnd (kind_text p tables all places es)
kind_ends p tables all places [] = inl refl
kind_ends p tables all places (x ∷ xs) = by_lack (lack_at all x)
  where
    by_lack : (o : Option Lack) → (kind_by p tables all places x.kind (x ∷ xs) o ≡ []) ⊎ HasEnd (kind_by p tables all places x.kind (x ∷ xs) o)
    by_lack None = inl refl
    by_lack (Some l) = inr (head_text places l.word l.what ++ notes_text p tables all x.kind None 0 (x ∷ xs), refl)

-- ---- parts

-- what is told of a spot stands in a text
abbrev IsTold : Program → List LineTable → (word : ℕ) → (what : List ℕ) → Spot → List ℕ → Type 0
IsTold p tables word what s text =
    (lines : List PlaceLine) × HasLine lines s × StandBelow (head_text (length lines) word what ++ flat_map (line_text p tables) lines ++ codes "\n") text

part_tells : (p : Program) (tables : List LineTable) (all : List Spot) (kinds : List (List ℕ)) (marks : List Bool) (wanted : Bool) (text : List ℕ) → AreKnown all kinds
    → IsPartText p tables all kinds marks wanted text → (s : Spot) (l : Lack) (e : Entry) → slice_get all e.spot ≡ Some s → e.kind ≡ kind_of kinds l → has_name kinds (key_of l) ≡ true
    → Contains (entries_in kinds marks wanted 0 all) e → IsTold p tables l.word l.what s text
part_tells p tables all kinds marks wanted text are part s l e at of there c =
    elim (ranked part.order None 0 part.order e refl (Contains-permutation _ _ e part.ordered.same c)) [ inl begun ↦ absurd (cc begun.0) | inr told ↦ by_rank told.0 told.1 told.2 ]
  where
    none : (k : ℕ) → k ≡ 0 + k
    none k = omega arith

    proper : All (IsProper all kinds) part.order
    proper = All-permutation (IsProper all kinds) _ _ part.ordered.same (proper_in all kinds marks wanted 0 all (λ k. ap (slice_get all) (none k)))

    by_rank : (r : Rank) → Contains (ranks_from None 0 part.order) r → Begins part.order e r → IsTold p tables l.word l.what s text
    by_rank r among begun =
        let told = kind_tells p tables all kinds are s l e at of there r.places.0 (drop r.start part.order) (All-drop (IsProper all kinds) _ _ proper) begun.0 begun.1 in
        let stands = in_flat_map (rank_text p tables all part.order) (λ q. kind_ends p tables all q.places.0 (drop q.start part.order)) (part_head wanted (length part.ranks)) (head_ends wanted (length part.ranks)) r part.ranks (Contains-permutation _ _ r part.ranked.same among) in
        (told.0, told.1, subst (λ t. StandBelow t text) told.2 (subst (StandBelow (rank_text p tables all part.order r)) (sym part.is) stands))

spot_told : (p : Program) (tables : List LineTable) (marks : List Bool) (all : List Spot) (text : List ℕ) → IsSpotsText p tables marks all text
    → (i : ℕ) (s : Spot) (j : ℕ) (l : Lack) → slice_get all i ≡ Some s → slice_get s.lacks j ≡ Some l → IsTold p tables l.word l.what s text
spot_told p tables marks all text told i s j l at is =
    let entry = of_part (kinds_of all) marks 0 all i s j l at is in
    let number : 0 + i ≡ i = omega arith in
    by_mark (is_reached marks s.method.0) entry.0 entry.1 (ap (slice_get all) (entry.2 ∙ number) ∙ at) entry.3
  where
    are : AreKnown all (kinds_of all)
    are = known all []

    by_mark : (wanted : Bool) (e : Entry) → Contains (entries_in (kinds_of all) marks wanted 0 all) e → slice_get all e.spot ≡ Some s → e.kind ≡ kind_of (kinds_of all) l
        → IsTold p tables l.word l.what s text
    by_mark true e c there of =
        let part = part_tells p tables all (kinds_of all) marks true told.first are told.reached s l e there of (are i s j l at is) c in
        (part.0, part.1, subst (StandBelow _) (sym told.is) (before _ told.first told.second part.2))
    by_mark false e c there of =
        let part = part_tells p tables all (kinds_of all) marks false told.second are told.others s l e there of (are i s j l at is) c in
        (part.0, part.1, subst (StandBelow _) (sym told.is) (later _ told.first told.second part.2))

-- ---- ends

pub ends_told : listed.AllListed → EndsAreTold
ends_told all classes options main p config limit word what place tables marks text hold linked ends told = record {
  lines = part.0;
  line = part.1.0;
  among = part.1.1;
  lacks = subst (λ y. listed.is_lack y.lacks word what ≡ true) (sym part.1.2) tests.0;
  there = ap (λ y. place_at p y.method.0 y.position) part.1.2 ∙ (bytes_eq-Decides (place_at p spot.1.method.0 spot.1.position) place).0 tests.1;
  stand =
      subst (λ w. StandBelow (head_text (length part.0) word w ++ flat_map (line_text p tables) part.0 ++ codes "\n") text) ((bytes_eq-Decides lack.1.what what).0 same.1)
      (subst (λ n. StandBelow (head_text (length part.0) n lack.1.what ++ flat_map (line_text p tables) part.0 ++ codes "\n") text) (eqb-true lack.1.word word same.0) part.2);
}
  where
    spot : Found (listed.tells p word what place) (listed.spots p)
    spot = found (listed.tells p word what place) (listed.spots p) (subst (λ end. listed.is_told p end ≡ true) ends (all classes options main p config limit hold linked))

    tests : (listed.is_lack spot.1.lacks word what ≡ true) × (bytes_eq (place_at p spot.1.method.0 spot.1.position) place ≡ true)
    tests = and_true (listed.is_lack spot.1.lacks word what) (bytes_eq (place_at p spot.1.method.0 spot.1.position) place) spot.3

    lack : Found (listed.is_one word what) spot.1.lacks
    lack = found (listed.is_one word what) spot.1.lacks tests.0

    same : ((lack.1.word == word) ≡ true) × (bytes_eq lack.1.what what ≡ true)
    same = and_true (lack.1.word == word) (bytes_eq lack.1.what what) lack.3

    part : IsTold p tables lack.1.word lack.1.what spot.1 text
    part = spot_told p tables marks (listed.spots p) text told spot.0 spot.1 lack.0 lack.1 spot.2 lack.2
