-- Lists whose items are the same place by place, and the numbers of their items.
use Rattle.std.proofs.Common.{◌≡◌, ℕ, Bool, List, [], ◌∷◌, ◌++◌, refl, sym, map}
use Rattle.std.specs.List.{AllZip}
use Rattle.vx_bdd_tools.specs.declared.node.Node.{Node}
use Rattle.vx_bdd_tools.specs.Nodes.{holds}
use Rattle.vx_bdd_tools.specs.Numbering.{HoldAll}

-- numbers of two lists of nodes that hold the same sets
abbrev pub AreSame : List Node → List Node → List ℕ → List ℕ → Type 0
AreSame one other ks ls = AllZip (λ a b. (c : List Bool) → holds one a c ≡ holds other b c) ks ls

pub same_map : {A : Type 0} (one other : List Node) (node : A → ℕ) (R : A → A → Type 0) → ((x y : A) → R x y → (c : List Bool) → holds one (node x) c ≡ holds other (node y) c) → (xs ys : List A) → AllZip R xs ys → AreSame one other (map node xs) (map node ys)
same_map one other node R each [] [] h = tt
same_map one other node R each [] (y ∷ ys) h = absurd h
same_map one other node R each (x ∷ xs) [] h = absurd h
same_map one other node R each (x ∷ xs) (y ∷ ys) h = (each x y h.0, same_map one other node R each xs ys h.1)

pub same_append : (one other : List Node) (ks ls ms ns : List ℕ) → AreSame one other ks ls → AreSame one other ms ns → AreSame one other (ks ++ ms) (ls ++ ns)
same_append one other [] [] ms ns h k = k
same_append one other [] (l ∷ ls) ms ns h k = absurd h
same_append one other (k ∷ ks) [] ms ns h m = absurd h
same_append one other (k ∷ ks) (l ∷ ls) ms ns h m = (h.0, same_append one other ks ls ms ns h.1 m)

pub hold_own : (nodes : List Node) (ks : List ℕ) → HoldAll nodes ks (map (holds nodes) ks)
hold_own nodes [] = tt
hold_own nodes (k ∷ ks) = (λ c. refl, hold_own nodes ks)

pub hold_other : (one other : List Node) (ks ls : List ℕ) → AreSame one other ks ls → HoldAll other ls (map (holds one) ks)
hold_other one other [] [] h = tt
hold_other one other [] (l ∷ ls) h = absurd h
hold_other one other (k ∷ ks) [] h = absurd h
hold_other one other (k ∷ ks) (l ∷ ls) h = (λ c. sym (h.0 c), hold_other one other ks ls h.1)

-- what two lists with equal numbers, and what stands behind them, come to
pub record AreOne {A : Type 0} (xs ys : List A) (ks ls : List ℕ) : Type 0 where
  pub items : xs ≡ ys
  pub behind : ks ≡ ls

-- items that are the same but for their numbers, with equal numbers in front of others
pub one_front : {A : Type 0} (node : A → ℕ) (R : A → A → Type 0) → ((x y : A) → R x y → node x ≡ node y → x ≡ y) → (xs ys : List A) (ks ls : List ℕ) → AllZip R xs ys → map node xs ++ ks ≡ map node ys ++ ls → AreOne xs ys ks ls
one_front node R same [] [] ks ls h e = record { items = refl; behind = e }
one_front node R same [] (y ∷ ys) ks ls h e = absurd h
one_front node R same (x ∷ xs) [] ks ls h e = absurd h
one_front node R same (x ∷ xs) (y ∷ ys) ks ls h e =
    let first : node x ≡ node y = cc e in
    let more = one_front node R same xs ys ks ls h.1 (cc e) in
    record { items = λ i. same x y h.0 first i ∷ more.items i; behind = more.behind }
