-- What trees are once there are more pairs, and with another leaf.
use Rattle.std.proofs.Common.{List, [], ap, arith, length, length-append, refl, subst, suc, sym, zero, ℕ, ◌++◌, ◌+◌, ◌-◌, ◌<◌, ◌^◌, ◌∙◌, ◌∷◌, ◌≡◌, ◌≤◌}
use Rattle.std.proofs.Math.Nat.{pow-suc}
use Rattle.std.proofs.lemmas.List.{get_or-append_right, get_or_append_left, replicate-append-replicate, set-append_left, set-append_right}
use Rattle.std.specs.Prelude.{replicate, slice_index, slice_set}
use Rattle.vx_numbered.proofs.Growing.{grows_by_one, grows_itself, grows_through, item_kept, item_last, one_longer}
use Rattle.vx_numbered.specs.Trees.{Grows, IsKnownPair, IsMade, IsPaired, IsTree, leaves, no_pair, pair_at}
use Rattle.vx_numbered.specs.declared.trees.Pair.{Pair}

-- ---- more behind a list

longer : (xs more : List Pair) (i : ℕ) → i < length xs → i < length (xs ++ more)
longer xs more i l = omega (arith, l, length-append xs more)

tree_more : (xs more : List Pair) (n t : ℕ) → IsTree xs n t → IsTree (xs ++ more) n t
unfolding IsTree
tree_more xs more zero t h = tt
tree_more xs more (suc n) t h =
    let same : pair_at (xs ++ more) t ≡ pair_at xs t = item_kept xs more no_pair t h.0 in (
      longer xs more t h.0,
      subst (λ (q : Pair). IsTree (xs ++ more) n q.low) (sym same) (tree_more xs more n (pair_at xs t).low h.1),
      subst (λ (q : Pair). IsTree (xs ++ more) n q.high) (sym same) (tree_more xs more n (pair_at xs t).high h.2),
    )

leaves_more : (xs more : List Pair) (n t : ℕ) → IsTree xs n t → leaves (xs ++ more) n t ≡ leaves xs n t
unfolding IsTree leaves
leaves_more xs more zero t h = refl
leaves_more xs more (suc n) t h =
    let same : pair_at (xs ++ more) t ≡ pair_at xs t = item_kept xs more no_pair t h.0 in
    ap (λ (q : Pair). leaves (xs ++ more) n q.low ++ leaves (xs ++ more) n q.high) same
    ∙ ap (λ ls. ls ++ leaves (xs ++ more) n (pair_at xs t).high) (leaves_more xs more n (pair_at xs t).low h.1)
    ∙ ap (λ rs. leaves xs n (pair_at xs t).low ++ rs) (leaves_more xs more n (pair_at xs t).high h.2)

pub tree_grows : (xs ys : List Pair) (n t : ℕ) → Grows xs ys → IsTree xs n t → IsTree ys n t
tree_grows xs ys n t g h = subst (λ (zs : List Pair). IsTree zs n t) (sym g.is) (tree_more xs g.more n t h)

pub leaves_grow : (xs ys : List Pair) (n t : ℕ) → Grows xs ys → IsTree xs n t → leaves ys n t ≡ leaves xs n t
leaves_grow xs ys n t g h = ap (λ (zs : List Pair). leaves zs n t) g.is ∙ leaves_more xs g.more n t h

-- ---- how many leaves

double : (n : ℕ) → 2 ^ suc n ≡ 2 ^ n + 2 ^ n
double n = omega (arith, pow-suc 2 n)

pub leaves_count : (xs : List Pair) (n t : ℕ) → length (leaves xs n t) ≡ 2 ^ n
unfolding leaves
leaves_count xs zero t = refl
leaves_count xs (suc n) t =
    length-append (leaves xs n (pair_at xs t).low) (leaves xs n (pair_at xs t).high)
    ∙ ap (λ k. k + length (leaves xs n (pair_at xs t).high)) (leaves_count xs n (pair_at xs t).low)
    ∙ ap (λ k. 2 ^ n + k) (leaves_count xs n (pair_at xs t).high)
    ∙ sym (double n)

-- ---- a tree of a leaf, and of halves

pub leaves_of_leaf : (xs : List Pair) (n t : ℕ) → n ≡ 0 → leaves xs n t ≡ t ∷ []
unfolding leaves
leaves_of_leaf xs zero t e = refl
leaves_of_leaf xs (suc n) t e = absurd (omega (arith, e))

pub tree_of_leaf : (xs : List Pair) (n t : ℕ) → n ≡ 0 → IsTree xs n t
unfolding IsTree
tree_of_leaf xs zero t e = tt
tree_of_leaf xs (suc n) t e = absurd (omega (arith, e))

pub leaves_of_halves : (xs : List Pair) (levels n t : ℕ) → levels ≡ suc n → leaves xs levels t ≡ leaves xs n (pair_at xs t).low ++ leaves xs n (pair_at xs t).high
unfolding leaves
leaves_of_halves xs levels n t e = ap (λ k. leaves xs k t) e

-- the parts of a tree
pub record AreHalves (xs : List Pair) (n t : ℕ) : Type 0 where
  pub within : t < length xs
  pub low : IsTree xs n (pair_at xs t).low
  pub high : IsTree xs n (pair_at xs t).high

pub halves_of : (xs : List Pair) (levels n t : ℕ) → levels ≡ suc n → IsTree xs levels t → AreHalves xs n t
unfolding IsTree
halves_of xs levels n t e h = let parts = subst (λ k. IsTree xs k t) e h in record { within = parts.0; low = parts.1; high = parts.2 }

pub tree_of_halves : (xs : List Pair) (levels n t : ℕ) → levels ≡ suc n → AreHalves xs n t → IsTree xs levels t
unfolding IsTree
tree_of_halves xs levels n t e h = subst (λ k. IsTree xs k t) (sym e) (h.within, h.low, h.high)

-- a tree with another pair is a tree still, with its pair
pub halves_grow : (xs ys : List Pair) (n t : ℕ) → Grows xs ys → AreHalves xs n t → (pair_at ys t ≡ pair_at xs t) × AreHalves ys n t
halves_grow xs ys n t g h =
    let same : pair_at ys t ≡ pair_at xs t = ap (λ (zs : List Pair). pair_at zs t) g.is ∙ item_kept xs g.more no_pair t h.within in (
      same,
      record {
        within = subst (λ (zs : List Pair). t < length zs) (sym g.is) (longer xs g.more t h.within);
        low = subst (λ (q : Pair). IsTree ys n q.low) (sym same) (tree_grows xs ys n (pair_at xs t).low g h.low);
        high = subst (λ (q : Pair). IsTree ys n q.high) (sym same) (tree_grows xs ys n (pair_at xs t).high g h.high);
      },
    )

-- ---- a leaf

pub leaf_below : (xs : List Pair) (levels n t place : ℕ) → levels ≡ suc n → place < 2 ^ n → slice_index (leaves xs levels t) place ≡ slice_index (leaves xs n (pair_at xs t).low) place
leaf_below xs levels n t place e l =
    ap (λ ls. slice_index ls place) (leaves_of_halves xs levels n t e)
    ∙ get_or_append_left (leaves xs n (pair_at xs t).low) (leaves xs n (pair_at xs t).high) 0 place (omega (arith, l, leaves_count xs n (pair_at xs t).low))

pub leaf_above : (xs : List Pair) (levels n t place : ℕ) → levels ≡ suc n → 2 ^ n ≤ place → slice_index (leaves xs levels t) place ≡ slice_index (leaves xs n (pair_at xs t).high) (place - 2 ^ n)
leaf_above xs levels n t place e l =
    ap (λ ls. slice_index ls place) (leaves_of_halves xs levels n t e)
    ∙ get_or-append_right (leaves xs n (pair_at xs t).low) (leaves xs n (pair_at xs t).high) (2 ^ n) place 0 (leaves_count xs n (pair_at xs t).low) l

pub set_below : (xs : List Pair) (levels n t place leaf : ℕ) → levels ≡ suc n → place < 2 ^ n
    → slice_set (leaves xs levels t) place leaf ≡ slice_set (leaves xs n (pair_at xs t).low) place leaf ++ leaves xs n (pair_at xs t).high
set_below xs levels n t place leaf e l =
    ap (λ ls. slice_set ls place leaf) (leaves_of_halves xs levels n t e)
    ∙ set-append_left (leaves xs n (pair_at xs t).low) (leaves xs n (pair_at xs t).high) place leaf (omega (arith, l, leaves_count xs n (pair_at xs t).low))

pub set_above : (xs : List Pair) (levels n t place leaf : ℕ) → levels ≡ suc n → 2 ^ n ≤ place
    → slice_set (leaves xs levels t) place leaf ≡ leaves xs n (pair_at xs t).low ++ slice_set (leaves xs n (pair_at xs t).high) (place - 2 ^ n) leaf
set_above xs levels n t place leaf e l =
    ap (λ ls. slice_set ls place leaf) (leaves_of_halves xs levels n t e)
    ∙ set-append_right (leaves xs n (pair_at xs t).low) (leaves xs n (pair_at xs t).high) (2 ^ n) place leaf (leaves_count xs n (pair_at xs t).low) l

-- ---- what a change comes to

-- a new pair
pub paired_new : (xs ys : List Pair) (low high number : ℕ) → number ≡ length xs → ys ≡ xs ++ record { low = low; high = high } ∷ [] → IsPaired xs ys low high number
paired_new xs ys low high number e is = record {
  grows = grows_by_one xs ys (record { low = low; high = high }) is;
  known = record {
    within = let longer = one_longer xs ys (record { low = low; high = high }) is in omega (arith, longer, e);
    is = ap (pair_at ys) e ∙ ap (λ (zs : List Pair). pair_at zs (length xs)) is ∙ item_last xs (record { low = low; high = high }) no_pair;
  };
}

-- a pair that is there
pub paired_known : (xs : List Pair) (low high number : ℕ) → IsKnownPair xs low high number → IsPaired xs xs low high number
paired_known xs low high number known = record { grows = grows_itself xs; known = known }

-- a pair of two trees
pub made_of_pair : (xs ys : List Pair) (levels n low high number : ℕ) → levels ≡ suc n → IsPaired xs ys low high number → IsTree xs n low → IsTree xs n high
    → IsMade xs ys levels number (leaves xs n low ++ leaves xs n high)
made_of_pair xs ys levels n low high number e put h k =
    let g : Grows xs ys = put.grows in
    let new : pair_at ys number ≡ record { low = low; high = high } = put.known.is in
    let halves : AreHalves ys n number = record {
      within = put.known.within;
      low = subst (λ (q : Pair). IsTree ys n q.low) (sym new) (tree_grows xs ys n low g h);
      high = subst (λ (q : Pair). IsTree ys n q.high) (sym new) (tree_grows xs ys n high g k);
    } in
    record {
      grows = g;
      is_tree = tree_of_halves ys levels n number e halves;
      has = leaves_of_halves ys levels n number e
          ∙ ap (λ (q : Pair). leaves ys n q.low ++ leaves ys n q.high) new
          ∙ ap (λ ls. ls ++ leaves ys n high) (leaves_grow xs ys n low g h)
          ∙ ap (λ rs. leaves xs n low ++ rs) (leaves_grow xs ys n high g k);
    }

-- the same tree, whose low half has been changed into itself
pub made_low : (xs ys : List Pair) (levels n t place leaf low : ℕ) → levels ≡ suc n → place < 2 ^ n → IsTree xs levels t
    → IsMade xs ys n low (slice_set (leaves xs n (pair_at xs t).low) place leaf) → low ≡ (pair_at xs t).low
    → IsMade xs ys levels t (slice_set (leaves xs levels t) place leaf)
made_low xs ys levels n t place leaf low e l h made same =
    let halves = halves_of xs levels n t e h in
    let grown = halves_grow xs ys n t made.grows halves in
    record {
      grows = made.grows;
      is_tree = tree_of_halves ys levels n t e grown.1;
      has = leaves_of_halves ys levels n t e
          ∙ ap (λ (q : Pair). leaves ys n q.low ++ leaves ys n q.high) grown.0
          ∙ ap (λ k. leaves ys n k ++ leaves ys n (pair_at xs t).high) (sym same)
          ∙ ap (λ ls. ls ++ leaves ys n (pair_at xs t).high) made.has
          ∙ ap (λ rs. slice_set (leaves xs n (pair_at xs t).low) place leaf ++ rs) (leaves_grow xs ys n (pair_at xs t).high made.grows halves.high)
          ∙ sym (set_below xs levels n t place leaf e l);
    }

pub made_high : (xs ys : List Pair) (levels n t place leaf high : ℕ) → levels ≡ suc n → 2 ^ n ≤ place → IsTree xs levels t
    → IsMade xs ys n high (slice_set (leaves xs n (pair_at xs t).high) (place - 2 ^ n) leaf) → high ≡ (pair_at xs t).high
    → IsMade xs ys levels t (slice_set (leaves xs levels t) place leaf)
made_high xs ys levels n t place leaf high e l h made same =
    let halves = halves_of xs levels n t e h in
    let grown = halves_grow xs ys n t made.grows halves in
    record {
      grows = made.grows;
      is_tree = tree_of_halves ys levels n t e grown.1;
      has = leaves_of_halves ys levels n t e
          ∙ ap (λ (q : Pair). leaves ys n q.low ++ leaves ys n q.high) grown.0
          ∙ ap (λ k. leaves ys n (pair_at xs t).low ++ leaves ys n k) (sym same)
          ∙ ap (λ rs. leaves ys n (pair_at xs t).low ++ rs) made.has
          ∙ ap (λ ls. ls ++ slice_set (leaves xs n (pair_at xs t).high) (place - 2 ^ n) leaf) (leaves_grow xs ys n (pair_at xs t).low made.grows halves.low)
          ∙ sym (set_above xs levels n t place leaf e l);
    }

-- a pair with a changed half
pub paired_low : (xs ys zs : List Pair) (levels n t place leaf low number : ℕ) → levels ≡ suc n → place < 2 ^ n → IsTree xs levels t
    → IsMade xs ys n low (slice_set (leaves xs n (pair_at xs t).low) place leaf) → IsPaired ys zs low (pair_at xs t).high number
    → IsMade xs zs levels number (slice_set (leaves xs levels t) place leaf)
paired_low xs ys zs levels n t place leaf low number e l h made put =
    let halves = halves_of xs levels n t e h in
    let pair = made_of_pair ys zs levels n low (pair_at xs t).high number e put made.is_tree (tree_grows xs ys n (pair_at xs t).high made.grows halves.high) in
    record {
      grows = grows_through made.grows pair.grows;
      is_tree = pair.is_tree;
      has = pair.has
          ∙ ap (λ ls. ls ++ leaves ys n (pair_at xs t).high) made.has
          ∙ ap (λ rs. slice_set (leaves xs n (pair_at xs t).low) place leaf ++ rs) (leaves_grow xs ys n (pair_at xs t).high made.grows halves.high)
          ∙ sym (set_below xs levels n t place leaf e l);
    }

pub paired_high : (xs ys zs : List Pair) (levels n t place leaf high number : ℕ) → levels ≡ suc n → 2 ^ n ≤ place → IsTree xs levels t
    → IsMade xs ys n high (slice_set (leaves xs n (pair_at xs t).high) (place - 2 ^ n) leaf) → IsPaired ys zs (pair_at xs t).low high number
    → IsMade xs zs levels number (slice_set (leaves xs levels t) place leaf)
paired_high xs ys zs levels n t place leaf high number e l h made put =
    let halves = halves_of xs levels n t e h in
    let pair = made_of_pair ys zs levels n (pair_at xs t).low high number e put (tree_grows xs ys n (pair_at xs t).low made.grows halves.low) made.is_tree in
    record {
      grows = grows_through made.grows pair.grows;
      is_tree = pair.is_tree;
      has = pair.has
          ∙ ap (λ rs. leaves ys n (pair_at xs t).low ++ rs) made.has
          ∙ ap (λ ls. ls ++ slice_set (leaves xs n (pair_at xs t).high) (place - 2 ^ n) leaf) (leaves_grow xs ys n (pair_at xs t).low made.grows halves.low)
          ∙ sym (set_above xs levels n t place leaf e l);
    }

-- ---- a row of one leaf

-- one level more
pub row_more : (zs xs ys : List Pair) (n tree leaf number : ℕ) → IsMade zs xs n tree (replicate (2 ^ n) leaf) → IsPaired xs ys tree tree number
    → IsMade zs ys (n + 1) number (replicate (2 ^ (n + 1)) leaf)
row_more zs xs ys n tree leaf number made put =
    let pair = made_of_pair xs ys (n + 1) n tree tree number (omega arith) put made.is_tree made.is_tree in
    let wide : 2 ^ n + 2 ^ n ≡ 2 ^ (n + 1) = sym (double n) ∙ ap (λ k. 2 ^ k) (omega arith) in
    record {
      grows = grows_through made.grows pair.grows;
      is_tree = pair.is_tree;
      has = pair.has
          ∙ ap (λ ls. ls ++ leaves xs n tree) made.has
          ∙ ap (λ rs. replicate (2 ^ n) leaf ++ rs) made.has
          ∙ replicate-append-replicate (2 ^ n) (2 ^ n) leaf
          ∙ ap (λ k. replicate k leaf) wide;
    }

pub row_of_leaf : (xs : List Pair) (leaf : ℕ) → IsMade xs xs 0 leaf (replicate (2 ^ 0) leaf)
row_of_leaf xs leaf = record { grows = grows_itself xs; is_tree = tree_of_leaf xs 0 leaf refl; has = leaves_of_leaf xs 0 leaf refl }

-- ---- the parts of a tree with levels

pub tree_within : (xs : List Pair) (levels t : ℕ) → 0 < levels → IsTree xs levels t → t < length xs
tree_within xs levels t l h = (halves_of xs levels (levels - 1) t (omega arith) h).within

pub tree_low : (xs : List Pair) (levels t : ℕ) → 0 < levels → IsTree xs levels t → IsTree xs (levels - 1) (pair_at xs t).low
tree_low xs levels t l h = (halves_of xs levels (levels - 1) t (omega arith) h).low

pub tree_high : (xs : List Pair) (levels t : ℕ) → 0 < levels → IsTree xs levels t → IsTree xs (levels - 1) (pair_at xs t).high
tree_high xs levels t l h = (halves_of xs levels (levels - 1) t (omega arith) h).high

-- what is above the half is below half of it
pub above_half : (levels place : ℕ) → 0 < levels → place < 2 ^ levels → place - 2 ^ (levels - 1) < 2 ^ (levels - 1)
above_half levels place l h =
    let whole : 2 ^ levels ≡ 2 ^ (levels - 1) + 2 ^ (levels - 1) = ap (λ k. 2 ^ k) (let e : levels ≡ suc (levels - 1) = omega arith in e) ∙ double (levels - 1) in
    let half : 0 < 2 ^ (levels - 1) = pow_some (levels - 1) in
    omega (arith, whole, half, h)
  where
    pow_some : (n : ℕ) → 0 < 2 ^ n
    pow_some zero = omega arith
    pow_some (suc n) = let some = pow_some n in omega (arith, some, double n)

-- ---- a tree that is a leaf

place_zero : (n place : ℕ) → n ≡ 0 → place < 2 ^ n → place ≡ 0
place_zero n place e l = let one : 2 ^ n ≡ 1 = ap (λ k. 2 ^ k) e in omega (arith, one, l)

pub leaf_alone : (xs : List Pair) (n t place : ℕ) → n ≡ 0 → place < 2 ^ n → t ≡ slice_index (leaves xs n t) place
leaf_alone xs n t place e l = sym (ap (λ ls. slice_index ls place) (leaves_of_leaf xs n t e) ∙ ap (λ k. slice_index (t ∷ []) k) (place_zero n place e l))

pub made_alone : (xs : List Pair) (n t place leaf : ℕ) → n ≡ 0 → place < 2 ^ n → IsMade xs xs n leaf (slice_set (leaves xs n t) place leaf)
made_alone xs n t place leaf e l = record {
  grows = grows_itself xs;
  is_tree = tree_of_leaf xs n leaf e;
  has = leaves_of_leaf xs n leaf e ∙ sym (ap (λ ls. slice_set ls place leaf) (leaves_of_leaf xs n t e) ∙ ap (λ k. slice_set (t ∷ []) k leaf) (place_zero n place e l));
}
