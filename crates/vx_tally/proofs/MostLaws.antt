-- The greatest number: at the end, and of both parts of a set and of a place.
use Rattle.std.proofs.Common.{◌≡◌, ◌⊎◌, ℕ, ◌+◌, ◌-◌, ◌<◌, ◌≤◌, ◌^◌, Bool, true, false, List, length, refl, sym, ◌∙◌, ap, subst, arith, zero, suc, inl, inr}
use Rattle.std.specs.Prelude.{Option, Some, None, All, min, max}
use Rattle.vx_space.specs.Config.{value_of, with_option}
use Rattle.vx_space.specs.Sets.{Sets, IsLawful}
use Rattle.vx_space.proofs.Configs.{value_of-same}
use Rattle.vx_tally.specs.declared.node.Edge.{Edge}
use Rattle.vx_tally.specs.declared.node.TallyNode.{TallyNode}
use Rattle.vx_tally.specs.declared.memo.Known.{Known}
use Rattle.vx_tally.specs.declared.memo.Question.{Question}
use Rattle.vx_tally.specs.declared.parts.Division.{Division}
use Rattle.vx_tally.specs.Tally.{sum_of, edge_at, level, AreNodes}
use Rattle.vx_tally.specs.Parts.{IsHalf, IsPart, IsDivision}
use Rattle.vx_tally.specs.Answers.{IsMost, IsMostIn, AreMost, IsGreater, IsNoted}
use Rattle.vx_tally.proofs.NodeLaws.{sum-end, sum-free}
use Rattle.vx_tally.proofs.SetLaws.{some_in, half-in}
use Rattle.vx_tally.proofs.ChosenLaws.{half_none, both_none, not_both}
use Rattle.vx_tally.proofs.MemoLaws.{All-noted}

pub IsMost-end : {I : Type 0} {sets : Sets I} → IsLawful sets → (nodes : List TallyNode) (set : I) (place : ℕ) → sets.is_known set ≡ true → (set ≡ sets.never → ⊥) → place ≡ 0 → IsMost sets (sum_of nodes place) set 0
IsMost-end {sets = sets} lawful nodes set place k n e =
    let some = some_in lawful set k n in
    let none : (c : List Bool) → sum_of nodes place c ≡ 0 = λ c. ap (λ p. sum_of nodes p c) e ∙ sum-end nodes c in
    record { bound = λ c t l. omega (arith, none c); at = some.0; inside = some.1; attained = omega arith }

at_most : (s m more p limit : ℕ) → more + s ≡ p → p < limit → s ≤ m → p ≤ min (m + more) (limit - 1)
at_most s m more p limit e l k = omega (arith, e, l, k)

at_least : (s m more p limit : ℕ) → more + s ≡ p → m ≤ s → min (m + more) (limit - 1) ≤ p
at_least s m more p limit e k = omega (arith, e, k)

-- a part bounds what the whole adds where the option has its value
bound_part : {I : Type 0} {sets : Sets I} (nodes : List TallyNode) (set half : I) (place option : ℕ) (value : Bool) (part : Edge) (most : ℕ) → IsHalf sets set option value half → IsPart sets.options nodes place option value part → IsMost sets (sum_of nodes part.place) half most → (c : List Bool) → value_of c option ≡ value → sets.test set c ≡ true → sum_of nodes place c < 2 ^ 64 → sum_of nodes place c ≤ min (most + part.more) (2 ^ 64 - 1)
bound_part nodes set half place option value part most h p m c v t l =
    let whole = p.number c v in
    at_most (sum_of nodes part.place c) most part.more (sum_of nodes place c) (2 ^ 64) whole l (m.bound c (sym (h.test c v) ∙ t) (omega (arith, whole, l)))

-- and comes to it
at_part : {I : Type 0} {sets : Sets I} → IsLawful sets → (nodes : List TallyNode) (set half : I) (place option : ℕ) (value : Bool) (part : Edge) (most : ℕ) → AreNodes sets.options nodes → IsHalf sets set option value half → IsPart sets.options nodes place option value part → IsMost sets (sum_of nodes part.place) half most → (c : List Bool) × (sets.test set c ≡ true) × (min (most + part.more) (2 ^ 64 - 1) ≤ sum_of nodes place c)
at_part lawful nodes set half place option value part most r h p m =
    let c = with_option m.at option value in
    let whole = p.number c (value_of-same m.at option value) in
    let stays = sum-free r part.place option value m.at p.later in
    (c, half-in lawful set half option value m.at h m.inside, at_least (sum_of nodes part.place m.at) most part.more (sum_of nodes place c) (2 ^ 64) (ap (λ n. part.more + n) (sym stays) ∙ whole) m.attained)

order : (a b : ℕ) → (a ≤ b) ⊎ (b ≤ a)
order zero b = inl (omega arith)
order (suc a) zero = inr (omega arith)
order (suc a) (suc b) = elim (order a b) [ inl l ↦ inl (omega (arith, l)) | inr l ↦ inr (omega (arith, l)) ]

IsMost-of : {I : Type 0} (sets : Sets I) (number : List Bool → ℕ) (set : I) (most : ℕ) → ((c : List Bool) → sets.test set c ≡ true → number c < 2 ^ 64 → number c ≤ most) → ((c : List Bool) × (sets.test set c ≡ true) × (most ≤ number c)) → IsMost sets number set most
IsMost-of sets number set most b a = record { bound = b; at = a.0; inside = a.1; attained = a.2 }

pub IsMost-divided : {I : Type 0} {sets : Sets I} → IsLawful sets → (nodes : List TallyNode) (set : I) (place : ℕ) (d : Division I) (low high most : Option ℕ) → sets.is_known set ≡ true → AreNodes sets.options nodes → IsDivision sets nodes set place d → IsMostIn sets (sum_of nodes d.low.place) d.off low → IsMostIn sets (sum_of nodes d.high.place) d.on high → IsGreater low d.low.more high d.high.more most → IsMostIn sets (sum_of nodes place) set most
IsMost-divided {sets = sets} lawful nodes set place d None None most k r i l h g =
    let P : Option ℕ → Type 0 = λ x. IsMostIn sets (sum_of nodes place) set x in
    subst P (sym g) (both_none lawful set d.off d.on d.option k i.off i.on l h)
IsMost-divided {sets = sets} lawful nodes set place d (Some low) None most k r i l h g =
    let P : Option ℕ → Type 0 = λ x. IsMostIn sets (sum_of nodes place) set x in
    subst P (sym g) (IsMost-of sets (sum_of nodes place) set (min (low + d.low.more) (2 ^ 64 - 1)) (λ c t s. by c t s (value_of c d.option) refl) (at_part lawful nodes set d.off place d.option false d.low low r i.off i.low l))
  where
    by : (c : List Bool) → sets.test set c ≡ true → sum_of nodes place c < 2 ^ 64 → (b : Bool) → value_of c d.option ≡ b → sum_of nodes place c ≤ min (low + d.low.more) (2 ^ 64 - 1)
    by c t s false v = bound_part nodes set d.off place d.option false d.low low i.off i.low l c v t s
    by c t s true v = absurd (not_both (sets.test set c) t (half_none lawful set d.on d.option true i.on h c v))
IsMost-divided {sets = sets} lawful nodes set place d None (Some high) most k r i l h g =
    let P : Option ℕ → Type 0 = λ x. IsMostIn sets (sum_of nodes place) set x in
    subst P (sym g) (IsMost-of sets (sum_of nodes place) set (min (high + d.high.more) (2 ^ 64 - 1)) (λ c t s. by c t s (value_of c d.option) refl) (at_part lawful nodes set d.on place d.option true d.high high r i.on i.high h))
  where
    by : (c : List Bool) → sets.test set c ≡ true → sum_of nodes place c < 2 ^ 64 → (b : Bool) → value_of c d.option ≡ b → sum_of nodes place c ≤ min (high + d.high.more) (2 ^ 64 - 1)
    by c t s true v = bound_part nodes set d.on place d.option true d.high high i.on i.high h c v t s
    by c t s false v = absurd (not_both (sets.test set c) t (half_none lawful set d.off d.option false i.off l c v))
IsMost-divided {sets = sets} lawful nodes set place d (Some low) (Some high) most k r i l h g =
    let P : Option ℕ → Type 0 = λ x. IsMostIn sets (sum_of nodes place) set x in
    let a = min (low + d.low.more) (2 ^ 64 - 1) in
    let b = min (high + d.high.more) (2 ^ 64 - 1) in
    subst P (sym g) (IsMost-of sets (sum_of nodes place) set (max a b) (λ c t s. by c t s (value_of c d.option) refl) (elim (order a b) [
      | inl m ↦
          let p = at_part lawful nodes set d.on place d.option true d.high high r i.on i.high h in
          (p.0, p.1, omega (arith, m, p.2))
      | inr m ↦
          let p = at_part lawful nodes set d.off place d.option false d.low low r i.off i.low l in
          (p.0, p.1, omega (arith, m, p.2))
    ]))
  where
    by : (c : List Bool) → sets.test set c ≡ true → sum_of nodes place c < 2 ^ 64 → (v : Bool) → value_of c d.option ≡ v → sum_of nodes place c ≤ max (min (low + d.low.more) (2 ^ 64 - 1)) (min (high + d.high.more) (2 ^ 64 - 1))
    by c t s false v =
        let m = bound_part nodes set d.off place d.option false d.low low i.off i.low l c v t s in
        omega (arith, m)
    by c t s true v =
        let m = bound_part nodes set d.on place d.option true d.high high i.on i.high h c v t s in
        omega (arith, m)

-- the number of a tally, from what its root's place adds
pub IsMost-root : {I : Type 0} (sets : Sets I) (nodes : List TallyNode) (root : Edge) (set : I) (most answer : Option ℕ) → IsMostIn sets (sum_of nodes root.place) set most → IsGreater most root.more None 0 answer → IsMostIn sets (edge_at nodes root) set answer
IsMost-root sets nodes root set None answer m g = subst (λ x. IsMostIn sets (edge_at nodes root) set x) (sym g) m
IsMost-root sets nodes root set (Some most) answer m g = subst (λ x. IsMostIn sets (edge_at nodes root) set x) (sym g) (record {
  bound = λ c t l. at_most (sum_of nodes root.place c) most root.more (edge_at nodes root c) (2 ^ 64) refl l (m.bound c t (omega (arith, l)));
  at = m.at;
  inside = m.inside;
  attained = at_least (sum_of nodes root.place m.at) most root.more (edge_at nodes root m.at) (2 ^ 64) refl m.attained;
})

pub AreMost-noted : {I : Type 0} (sets : Sets I) (nodes : List TallyNode) (old new : List (Known I (Option ℕ))) (asked : Question I) (most : Option ℕ) → AreMost sets nodes old → IsMostIn sets (sum_of nodes asked.first.place) asked.a most → All (IsNoted (record { question = asked; answer = most }) old) new → AreMost sets nodes new
AreMost-noted {I = I} sets nodes old new asked most h m n =
    let P : Known I (Option ℕ) → Type 0 = λ k. IsMostIn sets (sum_of nodes k.question.first.place) k.question.a k.answer in
    All-noted P (record { question = asked; answer = most }) old new n h m
