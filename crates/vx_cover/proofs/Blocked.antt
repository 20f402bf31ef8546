-- Targets in blocks: what a later space keeps of them, how a set grows that has them all, and what a configuration leaves of them.
use Rattle.std.proofs.Common.{◌≡◌, ℕ, ◌+◌, ◌<◌, ◌≤◌, zero, suc, Bool, true, false, List, [], ◌∷◌, ◌++◌, length, take, drop, get_or, refl, sym, ◌∙◌, ap, subst, arith}
use Rattle.std.specs.Prelude.{None, Option, is_some, ◌||◌, ◌==◌, slice_set}
use Rattle.std.proofs.lemmas.Bool.Decides.{nat_tests}
use Rattle.std.proofs.lemmas.Grind.{flat_map-append}
use Rattle.std.proofs.lemmas.List.{append-nil, append_assoc, drop-set-lt, drop_all, length-set, take-append-drop, take_all, take_more_set}
use Rattle.vx_space.proofs.Spaces.{Extends-refl, Extends-trans}
use Rattle.vx_space.specs.Sets.{Sets, Extends, IsLawful, IsSet}
use Rattle.vx_cover.specs.declared.blocks.Block.{Block}
use Rattle.vx_cover.specs.declared.target.Target.{Target}
use Rattle.vx_cover.specs.Blocks.{AreBlocks, AreBlocksOf, AreWithin, IsBlock, IsWhole, IsWider, flat}
use Rattle.vx_cover.specs.Targets.{AreOpen, covered, first_set, left_open}
use Rattle.vx_cover.proofs.Opening.{AreOpen-extends, AreOpen-left, open_at}

-- ---- lists

-- an item, and what stands behind it
one_more : {A : Type 0} (xs : List A) (i : ℕ) (x : A) → i < length xs → x ≡ get_or xs i x → drop i xs ≡ x ∷ drop (suc i) xs
one_more [] i x l e = absurd (omega (arith, l))
one_more (y ∷ ys) zero x l e = ap (λ z. z ∷ ys) (sym e)
one_more (y ∷ ys) (suc i) x l e = one_more ys i x (omega (arith, l)) e

after_one : {A : Type 0} (xs : List A) (i : ℕ) (x : A) (ys : List A) → drop i xs ≡ x ∷ ys → (take (suc i) xs ≡ take i xs ++ x ∷ []) × (drop (suc i) xs ≡ ys)
after_one [] zero x ys e = absurd cc
after_one [] (suc i) x ys e = absurd cc
after_one (z ∷ zs) zero x ys e = let first : z ≡ x = cc in let rest : zs ≡ ys = cc in (ap (λ w. w ∷ []) first, rest)
after_one (z ∷ zs) (suc i) x ys e = let next = after_one zs i x ys e in (ap (λ ws. z ∷ ws) next.0, next.1)

-- what is put behind nothing
pub pushed_all : {A : Type 0} (old new xs : List A) → old ≡ [] → new ≡ old ++ xs → new ≡ xs
pushed_all old new xs none put = put ∙ ap (λ ys. ys ++ xs) none

-- an item that is read twice
pub read_again : {A : Type 0} (xs : List A) (i : ℕ) (d : A) → get_or xs i d ≡ get_or xs i (get_or xs i d)
read_again [] i d = refl
read_again (x ∷ xs) zero d = refl
read_again (x ∷ xs) (suc i) d = read_again xs i d

take_next : {A : Type 0} (xs : List A) (i : ℕ) (x : A) → i < length xs → x ≡ get_or xs i x → take (i + 1) xs ≡ take i xs ++ x ∷ []
take_next xs i x l e =
    let count : suc i ≡ i + 1 = omega arith in
    ap (λ n. take n xs) (sym count) ∙ (after_one xs i x (drop (suc i) xs) (one_more xs i x l e)).0

-- ---- open targets, side by side

pub AreOpen-both : {I : Type 0} (s : Sets I) (xs ys : List (Target I)) → AreOpen s xs → AreOpen s ys → AreOpen s (xs ++ ys)
AreOpen-both s [] ys h k = k
AreOpen-both s (x ∷ xs) ys h k = (h.0, AreOpen-both s xs ys h.1 k)

pub AreOpen-front : {I : Type 0} (s : Sets I) (n : ℕ) (ts : List (Target I)) → AreOpen s ts → AreOpen s (take n ts)
AreOpen-front s zero ts h = tt
AreOpen-front s (suc n) [] h = tt
AreOpen-front s (suc n) (t ∷ ts) h = (h.0, AreOpen-front s n ts h.1)

pub AreOpen-behind : {I : Type 0} (s : Sets I) (n : ℕ) (ts : List (Target I)) → AreOpen s ts → AreOpen s (drop n ts)
AreOpen-behind s zero ts h = h
AreOpen-behind s (suc n) [] h = tt
AreOpen-behind s (suc n) (t ∷ ts) h = AreOpen-behind s n ts h.1

-- ---- a set that has them all

AreWithin-extends : {I : Type 0} {old new : Sets I} → Extends old new → (whole : I) (ts : List (Target I)) → old.is_known whole ≡ true → AreOpen old ts → AreWithin old whole ts → AreWithin new whole ts
AreWithin-extends x whole [] k h w = tt
AreWithin-extends x whole (t ∷ ts) k h w = ((λ c e. x.test whole c k ∙ w.0 c (sym (x.test t.set c h.0.0) ∙ e)), AreWithin-extends x whole ts k h.1 w.1)

AreWithin-wider : {I : Type 0} (s : Sets I) (whole wider : I) (ts : List (Target I)) → ((c : List Bool) → s.test whole c ≡ true → s.test wider c ≡ true) → AreWithin s whole ts → AreWithin s wider ts
AreWithin-wider s whole wider [] h w = tt
AreWithin-wider s whole wider (t ∷ ts) h w = ((λ c e. h c (w.0 c e)), AreWithin-wider s whole wider ts h w.1)

AreWithin-push : {I : Type 0} (s : Sets I) (whole : I) (ts : List (Target I)) (t : Target I) → AreWithin s whole ts → ((c : List Bool) → s.test t.set c ≡ true → s.test whole c ≡ true) → AreWithin s whole (ts ++ t ∷ [])
AreWithin-push s whole [] t w h = (h, tt)
AreWithin-push s whole (x ∷ xs) t w h = (w.0, AreWithin-push s whole xs t w.1 h)

AreWithin-left : {I : Type 0} (s : Sets I) (whole : I) (c : List Bool) (ts : List (Target I)) → AreWithin s whole ts → AreWithin s whole (left_open s c ts)
AreWithin-left s whole c [] w = tt
AreWithin-left s whole c (t ∷ ts) w = by (s.test t.set c) refl (AreWithin-left s whole c ts w.1)
  where
    by : (b : Bool) → s.test t.set c ≡ b → AreWithin s whole (left_open s c ts) → AreWithin s whole (left_open s c (t ∷ ts))
    by true e rest = rw e rest
    by false e rest = rw e (w.0, rest)

pub IsWhole-none : {I : Type 0} {s : Sets I} → IsLawful s → IsWhole s s.never []
IsWhole-none lawful = record { known = lawful.never_known; within = tt }

pub IsWhole-all : {I : Type 0} {s : Sets I} → IsLawful s → (ts : List (Target I)) → IsWhole s s.always ts
IsWhole-all {I} {s} lawful ts = record { known = lawful.always_known; within = by ts }
  where
    by : (xs : List (Target I)) → AreWithin s s.always xs
    by [] = tt
    by (x ∷ xs) = ((λ c e. lawful.always_test c), by xs)

either_left : (a b : Bool) → a ≡ true → (a || b) ≡ true
either_left true b e = refl
either_left false b e = absurd cc

either_right : (a b : Bool) → b ≡ true → (a || b) ≡ true
either_right true b e = refl
either_right false b e = e

pub IsWider-or : {I : Type 0} {s s' : Sets I} (one other both : I) → IsSet s' both (λ c. s.test one c || s.test other c) → IsWider s s' one other both
IsWider-or one other both o = record { known = o.known; has = λ c e. o.test c ∙ e }

pub IsWider-all : {I : Type 0} (s : Sets I) {s' : Sets I} → IsLawful s' → (one other : I) → IsWider s s' one other s'.always
IsWider-all s lawful one other = record { known = lawful.always_known; has = λ c e. lawful.always_test c }

pub IsWhole-more : {I : Type 0} {s s' : Sets I} → Extends s s' → (whole both : I) (ts : List (Target I)) (t : Target I) → AreOpen s ts → s.is_known t.set ≡ true → IsWhole s whole ts → IsWider s s' whole t.set both → IsWhole s' both (ts ++ t ∷ [])
IsWhole-more {I} {s} {s'} x whole both ts t opens k w o = record {
  known = o.known;
  within = AreWithin-push s' both ts t
      (AreWithin-wider s' whole both ts
      (λ c e. o.has c (either_left (s.test whole c) (s.test t.set c) (sym (x.test whole c w.known) ∙ e)))
      (AreWithin-extends x whole ts w.known opens w.within))
      (λ c e. o.has c (either_right (s.test whole c) (s.test t.set c) (sym (x.test t.set c k) ∙ e)));
}

pub IsWhole-step : {I : Type 0} {s0 s s' : Sets I} → Extends s0 s → Extends s s' → (ts : List (Target I)) (i : ℕ) (t : Target I) (whole both : I) → i < length ts → t ≡ get_or ts i t → AreOpen s0 ts
    → IsWhole s whole (take i ts) → IsWider s s' whole t.set both → IsWhole s' both (take (i + 1) ts)
IsWhole-step {I} {s0} {s} {s'} x y ts i t whole both l e opens w o =
    subst (λ (xs : List (Target I)). IsWhole s' both xs) (sym (take_next ts i t l e))
    (IsWhole-more y whole both (take i ts) t (AreOpen-extends x (take i ts) (AreOpen-front s0 i ts opens)) (x.known t.set (open_at s0 ts i t l e opens).0) w o)

pub IsWhole-end : {I : Type 0} (s : Sets I) (ts : List (Target I)) (i : ℕ) (whole : I) → length ts ≤ i → IsWhole s whole (take i ts) → IsWhole s whole ts
IsWhole-end {I} s ts i whole l w = subst (λ (xs : List (Target I)). IsWhole s whole xs) (take_all i ts l) w

-- ---- blocks

pub IsBlock-of : {I : Type 0} (s : Sets I) (b : Block I) (ts : List (Target I)) → b.targets.items ≡ ts → AreOpen s ts → IsWhole s b.whole ts → IsBlock s b
IsBlock-of s b ts e opens w = record { open_sets = rw e opens; whole = rw e w }

IsBlock-extends : {I : Type 0} {old new : Sets I} → Extends old new → (b : Block I) → IsBlock old b → IsBlock new b
IsBlock-extends x b h = record {
  open_sets = AreOpen-extends x b.targets.items h.open_sets;
  whole = record {
    known = x.known b.whole h.whole.known;
    within = AreWithin-extends x b.whole b.targets.items h.whole.known h.open_sets h.whole.within;
  };
}

pub AreBlocks-extends : {I : Type 0} {old new : Sets I} → Extends old new → (bs : List (Block I)) → AreBlocks old bs → AreBlocks new bs
AreBlocks-extends x [] h = tt
AreBlocks-extends x (b ∷ bs) h = (IsBlock-extends x b h.0, AreBlocks-extends x bs h.1)

pub AreBlocks-both : {I : Type 0} (s : Sets I) (xs ys : List (Block I)) → AreBlocks s xs → AreBlocks s ys → AreBlocks s (xs ++ ys)
AreBlocks-both s [] ys h k = k
AreBlocks-both s (x ∷ xs) ys h k = (h.0, AreBlocks-both s xs ys h.1 k)

pub flat_open : {I : Type 0} (s : Sets I) (bs : List (Block I)) → AreBlocks s bs → AreOpen s (flat bs)
flat_open s [] h = tt
flat_open s (b ∷ bs) h = AreOpen-both s b.targets.items (flat bs) h.0.open_sets (flat_open s bs h.1)

pub flat-both : {I : Type 0} (xs ys : List (Block I)) → flat (xs ++ ys) ≡ flat xs ++ flat ys
flat-both {I} xs ys = flat_map-append (λ (b : Block I). b.targets.items) xs ys

pub covered-both : {I : Type 0} (s : Sets I) (c : List Bool) (xs ys : List (Target I)) → covered s c (xs ++ ys) ≡ covered s c xs ++ covered s c ys
covered-both s c xs ys = flat_map-append _ xs ys

pub left-both : {I : Type 0} (s : Sets I) (c : List Bool) (xs ys : List (Target I)) → left_open s c (xs ++ ys) ≡ left_open s c xs ++ left_open s c ys
left-both s c xs ys = flat_map-append _ xs ys

pub IsBlock-left : {I : Type 0} (s : Sets I) (c : List Bool) (old new : Block I) → IsBlock s old → new.whole ≡ old.whole → new.targets.items ≡ left_open s c old.targets.items → IsBlock s new
IsBlock-left s c old new h same e = record {
  open_sets = rw e (AreOpen-left s c old.targets.items h.open_sets);
  whole = rw (same, e) (record { known = h.whole.known; within = AreWithin-left s old.whole c old.targets.items h.whole.within });
}

-- what isn't in the set that has all is in none
unmet_one : (t w : Bool) → w ≡ false → (t ≡ true → w ≡ true) → t ≡ false
unmet_one true w e h = let wrong : false ≡ true = sym e ∙ h refl in absurd cc
unmet_one false w e h = refl

pub unmet : {I : Type 0} (s : Sets I) (whole : I) (c : List Bool) (ts : List (Target I)) → AreWithin s whole ts → s.test whole c ≡ false → (covered s c ts ≡ []) × (left_open s c ts ≡ ts)
unmet s whole c [] w e = (refl, refl)
unmet s whole c (t ∷ ts) w e =
    let here : s.test t.set c ≡ false = unmet_one (s.test t.set c) (s.test whole c) e (w.0 c) in
    let rest = unmet s whole c ts w.1 e in
    (rw here rest.0, rw here (ap (λ xs. t ∷ xs) rest.1))

-- no target is met where there is none
pub nothing_open : {I : Type 0} (s : Sets I) (c : List Bool) (ts : List (Target I)) → length ts ≡ 0 → (covered s c ts ≡ []) × (left_open s c ts ≡ ts)
nothing_open s c [] e = (refl, refl)
nothing_open s c (t ∷ ts) e = absurd (omega (arith, e))

pub is_zero : (n : ℕ) → (n == 0) ≡ true → n ≡ 0
is_zero n e = grind (arith, nat_tests)

-- ---- the first target

pub first_here : {I : Type 0} (bs : List (Block I)) (i : ℕ) (b : Block I) (first : Option I) → i < length bs → b ≡ get_or bs i b → first ≡ first_set [] b.targets.items → is_some first ≡ true
    → first_set [] (flat bs) ≡ first_set [] (flat (drop i bs)) → first ≡ first_set [] (flat bs)
first_here {I} bs i b first l e f some h =
    let next : drop i bs ≡ b ∷ drop (suc i) bs = one_more bs i b l e in
    let begins : first_set [] (flat (drop i bs)) ≡ first_set [] (b.targets.items ++ flat (drop (suc i) bs)) = ap (λ (xs : List (Block I)). first_set [] (flat xs)) next in
    front first b.targets.items (flat (drop (suc i) bs)) f some ∙ sym begins ∙ sym h
  where
    front : (o : Option I) (ts rest : List (Target I)) → o ≡ first_set [] ts → is_some o ≡ true → o ≡ first_set [] (ts ++ rest)
    front o [] rest f s = let wrong : false ≡ true = ap is_some (sym f) ∙ s in absurd cc
    front o (t ∷ ts) rest f s = f

pub first_later : {I : Type 0} (bs : List (Block I)) (i : ℕ) (b : Block I) (first : Option I) → i < length bs → b ≡ get_or bs i b → first ≡ first_set [] b.targets.items → is_some first ≡ false
    → first_set [] (flat bs) ≡ first_set [] (flat (drop i bs)) → first_set [] (flat bs) ≡ first_set [] (flat (drop (i + 1) bs))
first_later {I} bs i b first l e f none h =
    let next : drop i bs ≡ b ∷ drop (suc i) bs = one_more bs i b l e in
    let begins : first_set [] (flat (drop i bs)) ≡ first_set [] (b.targets.items ++ flat (drop (suc i) bs)) = ap (λ (xs : List (Block I)). first_set [] (flat xs)) next in
    let count : suc i ≡ i + 1 = omega arith in
    h ∙ begins ∙ behind b.targets.items (flat (drop (suc i) bs)) (ap is_some (sym f) ∙ none) ∙ ap (λ n. first_set [] (flat (drop n bs))) count
  where
    behind : (ts rest : List (Target I)) → is_some (first_set [] ts) ≡ false → first_set [] (ts ++ rest) ≡ first_set [] rest
    behind [] rest e = refl
    behind (t ∷ ts) rest e = absurd cc

pub first_none : {I : Type 0} (bs : List (Block I)) (i : ℕ) → length bs ≤ i → first_set [] (flat bs) ≡ first_set [] (flat (drop i bs)) → None ≡ first_set [] (flat bs)
first_none {I} bs i l h = sym (h ∙ ap (λ (xs : List (Block I)). first_set [] (flat xs)) (drop_all i bs l))

-- ends before pieces
pub first_end : {I : Type 0} (ends pieces : List (Target I)) (first : Option I) → first ≡ first_set [] ends → is_some first ≡ true → first ≡ first_set ends pieces
first_end [] pieces first e some = let wrong : false ≡ true = sym (ap is_some e) ∙ some in absurd cc
first_end (t ∷ ts) pieces first e some = e

pub first_piece : {I : Type 0} (ends pieces : List (Target I)) (first other : Option I) → first ≡ first_set [] ends → is_some first ≡ false → other ≡ first_set [] pieces → other ≡ first_set ends pieces
first_piece [] pieces first other e none h = h
first_piece (t ∷ ts) pieces first other e none h = let wrong : true ≡ false = sym (ap is_some e) ∙ none in absurd cc

-- ---- what a configuration takes out of blocks

pub block_at : {I : Type 0} (s : Sets I) (bs : List (Block I)) (i : ℕ) (b : Block I) → i < length bs → b ≡ get_or bs i b → AreBlocks s bs → IsBlock s b
block_at s [] i b l e h = absurd (omega (arith, l))
block_at {I} s (x ∷ xs) zero b l e h = subst (λ (y : Block I). IsBlock s y) (sym e) h.0
block_at s (x ∷ xs) (suc i) b l e h = block_at s xs i b (omega (arith, l)) e h.1

AreBlocks-put : {I : Type 0} (s : Sets I) (bs : List (Block I)) (i : ℕ) (b : Block I) → IsBlock s b → AreBlocks s bs → AreBlocks s (slice_set bs i b)
AreBlocks-put s [] i b k h = h
AreBlocks-put s (x ∷ xs) zero b k h = (k, h.1)
AreBlocks-put s (x ∷ xs) (suc i) b k h = (h.0, AreBlocks-put s xs i b k h.1)

-- blocks that are asked up to a place
pub record IsMeeting {I : Type 0} (s : Sets I) (c : List Bool) (whole now : List (Block I)) (i : ℕ) (numbers : List ℕ) : Type 0 where
  pub each : AreBlocks s now
  pub numbers_are : numbers ≡ covered s c (flat (take i whole))
  pub front : flat (take i now) ≡ left_open s c (flat (take i whole))
  pub back : drop i now ≡ drop i whole
  pub count : length now ≡ length whole

pub IsMeeting-start : {I : Type 0} (s : Sets I) (c : List Bool) (bs : List (Block I)) → AreBlocks s bs → IsMeeting s c bs bs 0 []
IsMeeting-start s c bs h = record { each = h; numbers_are = refl; front = refl; back = refl; count = refl }

pub IsMeeting-step : {I : Type 0} (s : Sets I) (c : List Bool) (whole now : List (Block I)) (i : ℕ) (numbers more : List ℕ) (old new : Block I) → i < length now → old ≡ get_or now i old
    → more ≡ numbers ++ covered s c old.targets.items → new.targets.items ≡ left_open s c old.targets.items → new.whole ≡ old.whole → IsMeeting s c whole now i numbers
    → IsMeeting s c whole (slice_set now i new) (i + 1) more
IsMeeting-step {I} s c whole now i numbers more old new l e put left same h =
    let here : drop i now ≡ old ∷ drop (suc i) now = one_more now i old l e in
    let there : drop i whole ≡ old ∷ drop (suc i) now = sym h.back ∙ here in
    let next = after_one whole i old (drop (suc i) now) there in
    let count : suc i ≡ i + 1 = omega arith in
    let taken : take (i + 1) whole ≡ take i whole ++ old ∷ [] = ap (λ n. take n whole) (sym count) ∙ next.0 in
    let asked : flat (take (i + 1) whole) ≡ flat (take i whole) ++ old.targets.items = ap (λ (bs : List (Block I)). flat bs) taken ∙ flat-both (take i whole) (old ∷ []) ∙ ap (λ (ts : List (Target I)). flat (take i whole) ++ ts) (append-nil old.targets.items) in
    record {
      each = AreBlocks-put s now i new (IsBlock-left s c old new (block_at s now i old l e h.each) same left) h.each;
      numbers_are =
          put ∙ ap (λ (ns : List ℕ). ns ++ covered s c old.targets.items) h.numbers_are ∙ sym (covered-both s c (flat (take i whole)) old.targets.items)
          ∙ ap (λ (ts : List (Target I)). covered s c ts) (sym asked);
      front =
          ap (λ (bs : List (Block I)). flat bs) (take_more_set now i new l) ∙ flat-both (take i now) (new ∷ []) ∙ ap (λ (ts : List (Target I)). flat (take i now) ++ ts) (append-nil new.targets.items ∙ left)
          ∙ ap (λ (ts : List (Target I)). ts ++ left_open s c old.targets.items) h.front ∙ sym (left-both s c (flat (take i whole)) old.targets.items)
          ∙ ap (λ (ts : List (Target I)). left_open s c ts) (sym asked);
      back = drop-set-lt (i + 1) now i new (omega arith) ∙ ap (λ n. drop n now) (sym count) ∙ sym next.1 ∙ ap (λ n. drop n whole) count;
      count = length-set now i new ∙ h.count;
    }

pub IsMeeting-numbers : {I : Type 0} (s : Sets I) (c : List Bool) (whole now : List (Block I)) (i : ℕ) (numbers : List ℕ) → length now ≤ i → IsMeeting s c whole now i numbers → numbers ≡ covered s c (flat whole)
IsMeeting-numbers {I} s c whole now i numbers l h =
    let count = h.count in
    h.numbers_are ∙ ap (λ (bs : List (Block I)). covered s c (flat bs)) (take_all i whole (omega (arith, l, count)))

pub IsMeeting-rest : {I : Type 0} (s : Sets I) (c : List Bool) (whole now : List (Block I)) (i : ℕ) (numbers : List ℕ) → length now ≤ i → IsMeeting s c whole now i numbers → flat now ≡ left_open s c (flat whole)
IsMeeting-rest {I} s c whole now i numbers l h =
    let count = h.count in
    ap (λ (bs : List (Block I)). flat bs) (sym (take_all i now l)) ∙ h.front ∙ ap (λ (bs : List (Block I)). left_open s c (flat bs)) (take_all i whole (omega (arith, l, count)))

-- ---- targets are put into blocks

pub record IsBlocking {I : Type 0} (s0 s : Sets I) (ts rest : List (Target I)) (bs : List (Block I)) : Type 0 where
  pub extends : Extends s0 s
  pub each : AreBlocks s bs
  pub all : flat bs ++ rest ≡ ts
  pub opens : AreOpen s rest

pub IsBlocking-start : {I : Type 0} (s : Sets I) (ts : List (Target I)) (bs : List (Block I)) → bs ≡ [] → AreOpen s ts → IsBlocking s s ts ts bs
IsBlocking-start {I} s ts bs e h = subst (λ (xs : List (Block I)). IsBlocking s s ts ts xs) (sym e) (record { extends = Extends-refl s; each = tt; all = refl; opens = h })

pub IsBlocking-step : {I : Type 0} {s0 s s' : Sets I} (ts rest part after : List (Target I)) (bs more : List (Block I)) (b : Block I) (n : ℕ) → Extends s s' → part ≡ take n rest → after ≡ drop n rest
    → IsBlock s' b → b.targets.items ≡ part → more ≡ bs ++ b ∷ [] → IsBlocking s0 s ts rest bs → IsBlocking s0 s' ts after more
IsBlocking-step {I} {s0} {s} {s'} ts rest part after bs more b n x front back block these put h =
    let joined : flat more ≡ flat bs ++ part = ap (λ (xs : List (Block I)). flat xs) put ∙ flat-both bs (b ∷ []) ∙ ap (λ (xs : List (Target I)). flat bs ++ xs) (append-nil b.targets.items ∙ these) in
    let halves : part ++ after ≡ rest = ap (λ (xs : List (Target I)). xs ++ after) front ∙ ap (λ (xs : List (Target I)). take n rest ++ xs) back ∙ take-append-drop n rest in
    record {
      extends = Extends-trans h.extends x;
      each = subst (λ (xs : List (Block I)). AreBlocks s' xs) (sym put) (AreBlocks-both s' bs (b ∷ []) (AreBlocks-extends x bs h.each) (block, tt));
      all = ap (λ (xs : List (Target I)). xs ++ after) joined ∙ append_assoc (flat bs) part after ∙ ap (λ (xs : List (Target I)). flat bs ++ xs) halves ∙ h.all;
      opens = subst (λ (xs : List (Target I)). AreOpen s' xs) (sym back) (AreOpen-extends x (drop n rest) (AreOpen-behind s n rest h.opens));
    }

pub IsBlocking-all : {I : Type 0} {s0 s : Sets I} (ts rest : List (Target I)) (bs : List (Block I)) → rest ≡ [] → IsBlocking s0 s ts rest bs → AreBlocksOf s ts bs
IsBlocking-all {I} {s0} {s} ts rest bs e h = record {
  each = h.each;
  all = sym (append-nil (flat bs)) ∙ ap (λ (xs : List (Target I)). flat bs ++ xs) (sym e) ∙ h.all;
}
