-- Laws of rows, for callers, and what the loops over their parts keep.
use Rattle.std.proofs.Common.{◌≡◌, ℕ, ◌+◌, ◌<◌, ◌≤◌, Bool, true, false, List, [], ◌∷◌, ◌++◌, refl, sym, ◌∙◌, ap, arith, take, zero, suc, get_or, length, map}
use Rattle.std.proofs.lemmas.List.{take_more, take_all, map-append, length-map, length-take}
use Rattle.std.specs.Prelude.{Option, None, if◌then◌else◌, is_some, ◌&&◌, ◌||◌}
use Rattle.std.specs.Option.{option_or}
use Rattle.std.specs.declared.cmp.Ordering.{Ordering}
use Rattle.vx_space.specs.Sets.{Sets, Extends, IsSet, IsLawful, AreKept}
use Rattle.vx_space.proofs.Spaces.{Extends-refl, Extends-trans, IsSet-extends}
use Rattle.std.specs.List.{flat_map}
use Rattle.vx_cond.specs.declared.cond.Leaf.{Leaf}
use Rattle.vx_cond.specs.Keeping.{AreKept-append_left, AreKept-append_right, value_at-kept, cond_at-kept}
use Rattle.vx_cond.specs.Leaves.{value_within, first_of, AreLeaves}
use Rattle.vx_cond.specs.Cond.{Conditional, cond_at, cond_ids, IsCond, IsCondOf, AreDisjoint}
use Rattle.vx_cond.specs.Row.{Conditionals, row_ids, AreConds, IsRow, IsRowOf, conds_at, values_within, firsts_of, zip_with}
use Rattle.vx_cond.proofs.CondLaws.{IsCond-extends, cond_at-extends, AreDisjoint-extends, IsSet-and, IsSet-or}

pub AreConds-extends : {T S I : Type 0} (cmp : T → T → Ordering) {old new : Sets I} → Extends old new → (scope : I) (xs : List (Conditional T S I)) → AreConds cmp old scope xs → AreConds cmp new scope xs
unfolding IsCond IsCondOf IsRow IsRowOf
AreConds-extends cmp e scope [] h = tt
AreConds-extends cmp e scope (x ∷ xs) h = (IsCond-extends cmp e x h.0, h.1, AreConds-extends cmp e scope xs h.2)

pub conds_at-extends : {T S I : Type 0} (cmp : T → T → Ordering) {old new : Sets I} → Extends old new → (scope : I) (xs : List (Conditional T S I)) → AreConds cmp old scope xs → (c : List Bool) → conds_at new xs c ≡ conds_at old xs c
unfolding IsCond IsCondOf IsRow IsRowOf
conds_at-extends cmp e scope [] h c = refl
conds_at-extends cmp e scope (x ∷ xs) h c = rw (cond_at-extends cmp e x h.0 c, conds_at-extends cmp e scope xs h.2 c) refl

pub IsRow-extends : {T S I : Type 0} (cmp : T → T → Ordering) {old new : Sets I} → Extends old new → (row : Conditionals T S I) → IsRow cmp old row → IsRow cmp new row
unfolding IsCond IsCondOf IsRow IsRowOf
IsRow-extends cmp e row r = record { scope_known = e.known row.scope r.scope_known; conds = AreConds-extends cmp e row.scope row.conds r.conds }

pub AreConds-push : {T S I : Type 0} (cmp : T → T → Ordering) (sets : Sets I) (scope : I) (xs : List (Conditional T S I)) (x : Conditional T S I) → AreConds cmp sets scope xs → IsCond cmp sets x → x.scope ≡ scope → AreConds cmp sets scope (xs ++ x ∷ [])
unfolding IsCond IsCondOf IsRow IsRowOf
AreConds-push cmp sets scope [] x h v e = (v, e, tt)
AreConds-push cmp sets scope (y ∷ ys) x h v e = (h.0, h.1, AreConds-push cmp sets scope ys x h.2 v e)

pub cond_in_row : {T S I : Type 0} (cmp : T → T → Ordering) (sets : Sets I) (scope : I) (xs : List (Conditional T S I)) (i : ℕ) (x : Conditional T S I) → AreConds cmp sets scope xs → i < length xs → x ≡ get_or xs i x → IsCond cmp sets x × (x.scope ≡ scope)
unfolding IsCond IsCondOf IsRow IsRowOf
cond_in_row cmp sets scope [] i x h l e = absurd (omega arith)
cond_in_row cmp sets scope (y ∷ ys) zero x h l e = rw e (h.0, h.1)
cond_in_row cmp sets scope (y ∷ ys) (suc i) x h l e = cond_in_row cmp sets scope ys i x h.2 (omega arith) e

-- a Cond whose values are there just where a known set holds has that set as its scope
pub scope_is : {T S I : Type 0} (cmp : T → T → Ordering) {sets : Sets I} → IsLawful sets → (value : List Bool → Option T) (cond : Conditional T S I) (scope : I) (set : List Bool → Bool) → IsCondOf cmp sets value cond → IsSet sets scope set → ((c : List Bool) → is_some (value c) ≡ set c) → cond.scope ≡ scope
unfolding IsCond IsCondOf IsRow IsRowOf
scope_is cmp lawful value cond scope set k s h = lawful.equal_sets cond.scope scope k.is_cond.scope_known s.known (λ c. sym (k.is_cond.covers c) ∙ ap is_some (k.at c) ∙ h c ∙ sym (s.test c))

-- what the loop over the parts keeps
pub record IsRestrictingRow {T S I : Type 0} (cmp : T → T → Ordering) (start sets : Sets I) (xs : List (Conditional T S I)) (within inner : I) (i : ℕ) (made : List (Conditional T S I)) : Type 0 where
  pub extends : Extends start sets
  pub conds : AreConds cmp sets inner made
  pub values : (c : List Bool) → conds_at sets made c ≡ values_within start within (conds_at start (take i xs)) c

-- the scope of what is made of a part
pub inner_there : {T S I : Type 0} (cmp : T → T → Ordering) {s0 s1 : Sets I} (scope : I) (xs : List (Conditional T S I)) (i : ℕ) (x : Conditional T S I) (within inner : I) → AreConds cmp s0 scope xs → s0.is_known within ≡ true → IsSet s0 inner (λ c. s0.test scope c && s0.test within c) → i < length xs → x ≡ get_or xs i x → Extends s0 s1 → IsSet s1 inner (λ c. s1.test x.scope c && s1.test within c)
unfolding IsCond IsRow
inner_there cmp {s0 = s0} {s1 = s1} scope xs i x within inner h w n l e f =
    let place = cond_in_row cmp s0 scope xs i x h l e in
    IsSet-and f x.scope within inner place.0.scope_known w (record { known = f.known inner n.known; test = λ c. f.test inner c n.known ∙ n.test c ∙ ap (λ j. s0.test j c && s0.test within c) (sym place.1) })

pub IsRestrictingRow-step : {T S I : Type 0} (cmp : T → T → Ordering) {s0 s1 s2 : Sets I} (scope : I) (xs : List (Conditional T S I)) (i : ℕ) (x : Conditional T S I) (within inner : I) (part : Conditional T S I) (made : List (Conditional T S I)) → AreConds cmp s0 scope xs → s0.is_known within ≡ true → i < length xs → x ≡ get_or xs i x → IsRestrictingRow cmp s0 s1 xs within inner i made → Extends s1 s2 → part.scope ≡ inner → IsCondOf cmp s2 (value_within s1 within (cond_at s1 x)) part → IsRestrictingRow cmp s0 s2 xs within inner (i + 1) (made ++ part ∷ [])
unfolding IsCond IsCondOf IsRow IsRowOf
IsRestrictingRow-step {T = T} {S = S} {I = I} cmp {s0 = s0} {s1 = s1} {s2 = s2} scope xs i x within inner part made h w l e r e1 same p =
    let place = cond_in_row cmp s0 scope xs i x h l e in
    let f = Extends-trans r.extends e1 in
    let value : (c : List Bool) → value_within s1 within (cond_at s1 x) c ≡ (if s0.test within c then cond_at s0 x c else None) = λ c. rw (r.extends.test within c w, cond_at-extends cmp r.extends x place.0 c) refl in
    record {
      extends = f;
      conds = AreConds-push cmp s2 inner made part (AreConds-extends cmp e1 inner made r.conds) p.is_cond same;
      values = λ c.
          map-append (λ q. cond_at s2 q c) made (part ∷ [])
          ∙ ap (λ os. os ++ cond_at s2 part c ∷ []) (conds_at-extends cmp e1 inner made r.conds c ∙ r.values c)
          ∙ ap (λ o. values_within s0 within (conds_at s0 (take i xs)) c ++ o ∷ []) (p.at c ∙ value c)
          ∙ sym (map-append (λ o. if s0.test within c then o else None) (conds_at s0 (take i xs) c) (cond_at s0 x c ∷ []))
          ∙ ap (λ os. map (λ o. if s0.test within c then o else None) os) (sym (ap (λ ys. conds_at s0 ys c) (take_more xs i x l ∙ ap (λ y. take i xs ++ y ∷ []) (sym e)) ∙ map-append (λ q. cond_at s0 q c) (take i xs) (x ∷ [])));
    }

pub IsRestrictingRow-end : {T S I : Type 0} (cmp : T → T → Ordering) {s0 s1 : Sets I} (xs : List (Conditional T S I)) (within inner : I) (i : ℕ) (made : List (Conditional T S I)) → IsRestrictingRow cmp s0 s1 xs within inner i made → length xs ≤ i → (c : List Bool) → conds_at s1 made c ≡ values_within s0 within (conds_at s0 xs) c
IsRestrictingRow-end cmp xs within inner i made r l = rw (take_all i xs l) at r.values

-- what the loop over two lists of parts keeps
pub record IsJoiningRow {T S I : Type 0} (cmp : T → T → Ordering) (start sets : Sets I) (xs ys : List (Conditional T S I)) (outer : I) (i : ℕ) (made : List (Conditional T S I)) : Type 0 where
  pub extends : Extends start sets
  pub conds : AreConds cmp sets outer made
  pub values : (c : List Bool) → conds_at sets made c ≡ firsts_of (conds_at start (take i xs)) (conds_at start (take i ys)) c

zip_with-append : {A B C : Type 0} (f : A → B → C) (xs : List A) (ys : List B) (x : A) (y : B) → length xs ≡ length ys → zip_with f (xs ++ x ∷ []) (ys ++ y ∷ []) ≡ zip_with f xs ys ++ f x y ∷ []
zip_with-append f [] [] x y e = refl
zip_with-append f [] (b ∷ ys) x y e = cc
zip_with-append f (a ∷ xs) [] x y e = cc
zip_with-append f (a ∷ xs) (b ∷ ys) x y e =
    let shorter : length xs ≡ length ys = omega (arith, e) in
    ap (λ zs. f a b ∷ zs) (zip_with-append f xs ys x y shorter)

conds_at-more : {T S I : Type 0} (sets : Sets I) (xs : List (Conditional T S I)) (i : ℕ) (x : Conditional T S I) (c : List Bool) → i < length xs → x ≡ get_or xs i x → conds_at sets (take (i + 1) xs) c ≡ conds_at sets (take i xs) c ++ cond_at sets x c ∷ []
conds_at-more sets xs i x c l e = ap (λ ys. conds_at sets ys c) (take_more xs i x l ∙ ap (λ y. take i xs ++ y ∷ []) (sym e)) ∙ map-append (λ q. cond_at sets q c) (take i xs) (x ∷ [])

same_lengths : {A B : Type 0} (f g : A → B) (xs ys : List A) (i : ℕ) → length xs ≡ length ys → length (map f (take i xs)) ≡ length (map g (take i ys))
same_lengths f g xs ys i e = simp (length-map, length-take) (rw e refl)

pub outer_there : {T S I : Type 0} (cmp : T → T → Ordering) {s0 s1 : Sets I} (first second : I) (xs ys : List (Conditional T S I)) (i : ℕ) (x y : Conditional T S I) (outer : I) → AreConds cmp s0 first xs → AreConds cmp s0 second ys → length xs ≡ length ys → IsSet s0 outer (λ c. s0.test first c || s0.test second c) → i < length xs → x ≡ get_or xs i x → y ≡ get_or ys i y → Extends s0 s1 → IsSet s1 outer (λ c. s1.test x.scope c || s1.test y.scope c)
unfolding IsCond IsRow
outer_there cmp {s0 = s0} {s1 = s1} first second xs ys i x y outer h k n o l e d f =
    let less : i < length ys = omega (arith, l, n) in
    let a = cond_in_row cmp s0 first xs i x h l e in
    let b = cond_in_row cmp s0 second ys i y k less d in
    IsSet-or f x.scope y.scope outer a.0.scope_known b.0.scope_known (record { known = f.known outer o.known; test = λ c. f.test outer c o.known ∙ o.test c ∙ sym (rw (a.1, b.1) refl) })

pub IsJoiningRow-step : {T S I : Type 0} (cmp : T → T → Ordering) {s0 s1 s2 : Sets I} (first second : I) (xs ys : List (Conditional T S I)) (i : ℕ) (x y : Conditional T S I) (outer : I) (part : Conditional T S I) (made : List (Conditional T S I)) → AreConds cmp s0 first xs → AreConds cmp s0 second ys → length xs ≡ length ys → i < length xs → x ≡ get_or xs i x → y ≡ get_or ys i y → IsJoiningRow cmp s0 s1 xs ys outer i made → Extends s1 s2 → part.scope ≡ outer → IsCondOf cmp s2 (first_of (cond_at s1 x) (cond_at s1 y)) part → IsJoiningRow cmp s0 s2 xs ys outer (i + 1) (made ++ part ∷ [])
unfolding IsCond IsCondOf IsRow IsRowOf
IsJoiningRow-step {T = T} cmp {s0 = s0} {s1 = s1} {s2 = s2} first second xs ys i x y outer part made h k n l e d r e1 same p =
    let less : i < length ys = omega (arith, l, n) in
    let a = cond_in_row cmp s0 first xs i x h l e in
    let b = cond_in_row cmp s0 second ys i y k less d in
    let f = Extends-trans r.extends e1 in
    let value : (c : List Bool) → first_of (cond_at s1 x) (cond_at s1 y) c ≡ option_or (cond_at s0 x c) (cond_at s0 y c) = λ c. rw (cond_at-extends cmp r.extends x a.0 c, cond_at-extends cmp r.extends y b.0 c) refl in
    record {
      extends = f;
      conds = AreConds-push cmp s2 outer made part (AreConds-extends cmp e1 outer made r.conds) p.is_cond same;
      values = λ c.
          map-append (λ q. cond_at s2 q c) made (part ∷ [])
          ∙ ap (λ os. os ++ cond_at s2 part c ∷ []) (conds_at-extends cmp e1 outer made r.conds c ∙ r.values c)
          ∙ ap (λ v. zip_with option_or (conds_at s0 (take i xs) c) (conds_at s0 (take i ys) c) ++ v ∷ []) (p.at c ∙ value c)
          ∙ sym (zip_with-append option_or (conds_at s0 (take i xs) c) (conds_at s0 (take i ys) c) (cond_at s0 x c) (cond_at s0 y c) (same_lengths _ _ xs ys i n))
          ∙ sym (rw (conds_at-more s0 xs i x c l e, conds_at-more s0 ys i y c less d) refl);
    }

pub IsJoiningRow-end : {T S I : Type 0} (cmp : T → T → Ordering) {s0 s1 : Sets I} (xs ys : List (Conditional T S I)) (outer : I) (i : ℕ) (made : List (Conditional T S I)) → IsJoiningRow cmp s0 s1 xs ys outer i made → length xs ≡ length ys → length xs ≤ i → (c : List Bool) → conds_at s1 made c ≡ firsts_of (conds_at s0 xs) (conds_at s0 ys) c
IsJoiningRow-end cmp xs ys outer i made r n l =
    let more : length ys ≤ i = omega (arith, n, l) in
    rw (take_all i xs l, take_all i ys more) at r.values

pub apart_places : {T S I : Type 0} (cmp : T → T → Ordering) {s0 s1 : Sets I} (first second : I) (xs ys : List (Conditional T S I)) (i : ℕ) (x y : Conditional T S I) → AreConds cmp s0 first xs → AreConds cmp s0 second ys → length xs ≡ length ys → AreDisjoint s0 first second → i < length xs → x ≡ get_or xs i x → y ≡ get_or ys i y → Extends s0 s1 → AreDisjoint s1 x.scope y.scope
unfolding IsCond IsCondOf IsRow IsRowOf
apart_places cmp first second xs ys i x y h k n o l e d f =
    let less : i < length ys = omega (arith, l, n) in
    let a = cond_in_row cmp _ first xs i x h l e in
    let b = cond_in_row cmp _ second ys i y k less d in
    AreDisjoint-extends f a.0.scope_known b.0.scope_known (rw (a.1, b.1) o)

pub part_is_cond : {T S I : Type 0} (cmp : T → T → Ordering) {s0 s1 : Sets I} (scope : I) (xs : List (Conditional T S I)) (i : ℕ) (x : Conditional T S I) → AreConds cmp s0 scope xs → i < length xs → x ≡ get_or xs i x → Extends s0 s1 → IsCond cmp s1 x
unfolding IsCond IsCondOf IsRow IsRowOf
part_is_cond cmp scope xs i x h l e f = IsCond-extends cmp f x (cond_in_row cmp _ scope xs i x h l e).0

-- what `restrict` makes
pub IsRowOf-restricted : {T S I : Type 0} (cmp : T → T → Ordering) {s0 s1 s2 : Sets I} (row : Conditionals T S I) (within scope : I) (conds : List (Conditional T S I)) → IsRow cmp s0 row → s0.is_known within ≡ true → Extends s0 s1 → s1.is_known scope ≡ true → Extends s1 s2 → AreConds cmp s2 scope conds → ((c : List Bool) → conds_at s2 conds c ≡ values_within s1 within (conds_at s1 row.conds) c) → IsRowOf cmp s2 (values_within s0 within (conds_at s0 row.conds)) (record { scope = scope; conds = conds })
unfolding IsCond IsCondOf IsRow IsRowOf
IsRowOf-restricted cmp row within scope conds v k e1 u e2 h now = record {
  is_row = record { scope_known = e2.known scope u; conds = h };
  at = λ c. now c ∙ rw (e1.test within c k, conds_at-extends cmp e1 row.scope row.conds v.conds c) refl;
}

-- what `join` makes
pub IsRowOf-joined : {T S I : Type 0} (cmp : T → T → Ordering) {s0 s1 s2 : Sets I} (a b : Conditionals T S I) (scope : I) (conds : List (Conditional T S I)) → IsRow cmp s0 a → IsRow cmp s0 b → Extends s0 s1 → s1.is_known scope ≡ true → Extends s1 s2 → AreConds cmp s2 scope conds → ((c : List Bool) → conds_at s2 conds c ≡ firsts_of (conds_at s1 a.conds) (conds_at s1 b.conds) c) → IsRowOf cmp s2 (firsts_of (conds_at s0 a.conds) (conds_at s0 b.conds)) (record { scope = scope; conds = conds })
unfolding IsCond IsCondOf IsRow IsRowOf
IsRowOf-joined cmp a b scope conds v w e1 u e2 h now = record {
  is_row = record { scope_known = e2.known scope u; conds = h };
  at = λ c. now c ∙ rw (conds_at-extends cmp e1 a.scope a.conds v.conds c, conds_at-extends cmp e1 b.scope b.conds w.conds c) refl;
}

pub ruleset rows = (Extends-trans, AreConds-extends, Extends-refl)

pub other_is_cond : {T S I : Type 0} (cmp : T → T → Ordering) {s0 s1 : Sets I} (scope : I) (xs ys : List (Conditional T S I)) (i : ℕ) (y : Conditional T S I) → AreConds cmp s0 scope ys → length xs ≡ length ys → i < length xs → y ≡ get_or ys i y → Extends s0 s1 → IsCond cmp s1 y
unfolding IsCond IsCondOf IsRow IsRowOf
other_is_cond cmp scope xs ys i y h n l e f =
    let less : i < length ys = omega (arith, l, n) in
    part_is_cond cmp scope ys i y h less e f

pub IsRowOf-extends : {T S I : Type 0} (cmp : T → T → Ordering) {old new : Sets I} → Extends old new → (values : List Bool → List (Option T)) (row : Conditionals T S I) → IsRowOf cmp old values row → IsRowOf cmp new values row
unfolding IsCond IsCondOf IsRow IsRowOf
IsRowOf-extends cmp e values row r = record { is_row = IsRow-extends cmp e row r.is_row; at = λ c. conds_at-extends cmp e row.scope row.conds r.is_row.conds c ∙ r.at c }

-- a restriction made after other calls, told of the space before them
pub IsRowOf-restricted_before : {T S I : Type 0} (cmp : T → T → Ordering) {s0 s1 : Sets I} (s2 : Sets I) → Extends s0 s1 → (row inner : Conditionals T S I) (within : I) → IsRow cmp s0 row → s0.is_known within ≡ true → IsRowOf cmp s2 (values_within s1 within (conds_at s1 row.conds)) inner → IsRowOf cmp s2 (values_within s0 within (conds_at s0 row.conds)) inner
unfolding IsCond IsCondOf IsRow IsRowOf
IsRowOf-restricted_before cmp s2 e row inner within v k r = record { is_row = r.is_row; at = λ c. r.at c ∙ rw (e.test within c k, conds_at-extends cmp e row.scope row.conds v.conds c) refl }

-- the same of a join
pub IsRowOf-joined_before : {T S I : Type 0} (cmp : T → T → Ordering) {s0 s1 : Sets I} (s2 : Sets I) → Extends s0 s1 → (a b made : Conditionals T S I) → IsRow cmp s0 a → IsRow cmp s0 b → IsRowOf cmp s2 (firsts_of (conds_at s1 a.conds) (conds_at s1 b.conds)) made → IsRowOf cmp s2 (firsts_of (conds_at s0 a.conds) (conds_at s0 b.conds)) made
unfolding IsCond IsCondOf IsRow IsRowOf
IsRowOf-joined_before cmp s2 e a b made v w r = record { is_row = r.is_row; at = λ c. r.at c ∙ rw (conds_at-extends cmp e a.scope a.conds v.conds c, conds_at-extends cmp e b.scope b.conds w.conds c) refl }

-- leaves stay leaves where their conditions are kept
pub AreLeaves-kept : {T S I : Type 0} (cmp : T → T → Ordering) (old new : Sets I) → new.never ≡ old.never → (xs : List (Leaf T S I)) → AreKept old new (map (λ leaf. leaf.condition) xs) → AreLeaves cmp old xs → AreLeaves cmp new xs
AreLeaves-kept cmp old new n [] k h = tt
AreLeaves-kept cmp old new n (x ∷ xs) k h = (
  record {
    known = k.0.known;
    nonempty = λ q. h.0.nonempty (q ∙ n);
    below = h.0.below;
    apart = record { none = λ c t. value_at-kept old new xs c k.1 ∙ h.0.apart.none c (sym (k.0.test c) ∙ t) };
  },
  AreLeaves-kept cmp old new n xs k.1 h.1,
)

pub IsCond-kept : {T S I : Type 0} (cmp : T → T → Ordering) {old new : Sets I} → new.never ≡ old.never → (cond : Conditional T S I) → AreKept old new (cond_ids cond) → IsCond cmp old cond → IsCond cmp new cond
unfolding IsCond IsCondOf IsRow IsRowOf
IsCond-kept cmp {old = old} {new = new} n cond k v = record {
  scope_known = k.0.known;
  are_leaves = AreLeaves-kept cmp old new n cond.leaves k.1 v.are_leaves;
  covers = λ c. ap is_some (cond_at-kept old new cond c k) ∙ v.covers c ∙ sym (k.0.test c);
}

AreConds-kept : {T S I : Type 0} (cmp : T → T → Ordering) (old new : Sets I) → new.never ≡ old.never → (scope : I) (xs : List (Conditional T S I)) → AreKept old new (flat_map cond_ids xs) → AreConds cmp old scope xs → AreConds cmp new scope xs
unfolding IsCond IsCondOf IsRow IsRowOf
AreConds-kept cmp old new n scope [] k h = tt
AreConds-kept cmp old new n scope (x ∷ xs) k h = (IsCond-kept cmp n x (AreKept-append_left old new (cond_ids x) (flat_map cond_ids xs) k) h.0, h.1, AreConds-kept cmp old new n scope xs (AreKept-append_right old new (cond_ids x) (flat_map cond_ids xs) k) h.2)

pub IsRow-kept : {T S I : Type 0} (cmp : T → T → Ordering) {old new : Sets I} → new.never ≡ old.never → (row : Conditionals T S I) → AreKept old new (row_ids row) → IsRow cmp old row → IsRow cmp new row
unfolding IsCond IsCondOf IsRow IsRowOf
IsRow-kept cmp {old = old} {new = new} n row k v = record { scope_known = k.0.known; conds = AreConds-kept cmp old new n row.scope row.conds k.1 v.conds }

-- a row with these values is a row
pub IsRow-of : {T S I : Type 0} (cmp : T → T → Ordering) (sets : Sets I) (values : List Bool → List (Option T)) (row : Conditionals T S I) → IsRowOf cmp sets values row → IsRow cmp sets row
unfolding IsRow IsRowOf
IsRow-of cmp sets values row r = r.is_row

-- and it has these values
pub conds_at-of : {T S I : Type 0} (cmp : T → T → Ordering) (sets : Sets I) (values : List Bool → List (Option T)) (row : Conditionals T S I) (c : List Bool) → IsRowOf cmp sets values row → conds_at sets row.conds c ≡ values c
unfolding IsRow IsRowOf
conds_at-of cmp sets values row c r = r.at c

-- what `using` applies in the crates above
pub ruleset row_words = (IsRow-of, conds_at-of, IsRow-extends, IsRowOf-extends, IsRowOf-restricted_before, IsRowOf-joined_before, Extends-trans)
