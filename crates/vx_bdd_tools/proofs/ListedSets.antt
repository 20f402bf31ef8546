-- The sets of a list of nodes, one by one.
use Rattle.std.proofs.Common.{take, get_or, ◌≡◌, ℕ, ◌+◌, ◌<◌, ◌≤◌, Bool, true, false, List, [], ◌∷◌, ◌++◌, length, refl, sym, ◌∙◌, ap, subst, arith, zero, suc, inl, inr, length-append}
use Rattle.std.specs.Prelude.{Some, None, if◌then◌else◌, nat_eq, slice_get}
use Rattle.std.proofs.lemmas.Bool.Decides.{nat_tests}
use Rattle.std.proofs.lemmas.List.{take_more}
use Rattle.std.proofs.lemmas.Option.{slice_get_within, slice_get-get_or, slice_get_read}
use Rattle.vx_space.specs.Config.{value_of}
use Rattle.vx_space.specs.Sets.{Sets, IsSet, IsLawful, Extends}
use Rattle.vx_space.proofs.Spaces.{IsSet-extends}
use Rattle.vx_bdd_tools.specs.declared.node.Node.{Node}
use Rattle.vx_bdd_tools.specs.Nodes.{holds, node_of, IsNextNode, IsReducedList}
use Rattle.vx_bdd_tools.specs.Listing.{AreSetsOf, choice}
use Rattle.vx_bdd_tools.proofs.NodeLists.{node_cases, node_of-last, node_within, walk-end, holds-node, holds-append, IsReducedList-append, IsReducedList-none}
use Rattle.vx_bdd_tools.proofs.NodeSets.{order_cases}

-- the sets so far, of a reduced list
pub record AreSetsSoFar {I : Type 0} (sets : Sets I) (nodes : List Node) (ids : List I) : Type 0 where
  pub reduced : IsReducedList sets.options nodes
  pub are : AreSetsOf sets nodes ids

pub AreSetsSoFar-none : {I : Type 0} {sets : Sets I} → IsLawful sets → AreSetsSoFar sets [] (sets.never ∷ sets.always ∷ [])
AreSetsSoFar-none {sets = sets} lawful = record {
  reduced = IsReducedList-none sets.options;
  are = record { number = omega arith; each = at };
}
  where
    at : (k : ℕ) (id : _) → slice_get (sets.never ∷ sets.always ∷ []) k ≡ Some id → IsSet sets id (holds [] k)
    at zero id e = let s : sets.never ≡ id = cc (e) in subst (λ x. IsSet sets x (holds [] 0)) s (record { known = lawful.never_known; test = λ c. lawful.never_test c })
    at (suc zero) id e = let s : sets.always ≡ id = cc (e) in subst (λ x. IsSet sets x (holds [] 1)) s (record { known = lawful.always_known; test = λ c. lawful.always_test c })
    at (suc (suc k)) id e = cc (e)

get-front : {A : Type 0} (xs ys : List A) (place : ℕ) → place < length xs → slice_get (xs ++ ys) place ≡ slice_get xs place
get-front [] ys place l = absurd (omega (arith, l))
get-front (x ∷ xs) ys zero l = refl
get-front (x ∷ xs) ys (suc place) l = get-front xs ys place (omega (arith, l))

get-last : {A : Type 0} (xs : List A) (y : A) → slice_get (xs ++ y ∷ []) (length xs) ≡ Some y
get-last [] y = refl
get-last (x ∷ xs) y = get-last xs y

-- one node more
pub AreSetsSoFar-more : {I : Type 0} {old new : Sets I} → Extends old new → (nodes : List Node) (ids : List I) (node : Node) (low high id : I) → AreSetsSoFar old nodes ids → IsNextNode old.options nodes node → slice_get ids node.low ≡ Some low → slice_get ids node.high ≡ Some high → IsSet new id (choice old node.option low high) → AreSetsSoFar new (nodes ++ node ∷ []) (ids ++ id ∷ [])
AreSetsSoFar-more {I = I} {old = old} {new = new} x nodes ids node low high id h n l m s =
    let reduced = IsReducedList-append h.reduced n in
    record {
      reduced = subst (λ k. IsReducedList k (nodes ++ node ∷ [])) (sym x.options) reduced;
      are = record {
        number = omega (arith, h.are.number, length-append nodes (node ∷ []), length-append ids (id ∷ []));
        each = λ k other e. elim (order_cases k (length ids)) [
          | inl q ↦
              let s = IsSet-extends x other (holds nodes k) (h.are.each k other (sym (get-front ids (id ∷ []) k q) ∙ e)) in
              record { known = s.known; test = λ c. s.test c ∙ sym (holds-append h.reduced (node ∷ []) k c (omega (arith, q, h.are.number))) }
          | inr p ↦ elim p [
            | inl q ↦ absurd (omega (arith, q, slice_get_within (ids ++ id ∷ []) k other e, length-append ids (id ∷ [])))
            | inr q ↦
                let same : id ≡ other = cc (get-last ids id, q, e) in
                subst (λ y. IsSet new y (holds (nodes ++ node ∷ []) k)) same (record {
                  known = s.known;
                  test = λ c. s.test c ∙ parts (value_of c node.option) c ∙ sym (holds-node reduced k node c (node_of-last nodes node k (q ∙ h.are.number)));
                })
          ]
        ];
      };
    }
  where
    parts : (v : Bool) (c : List Bool) → (if v then old.test high c else old.test low c) ≡ holds (nodes ++ node ∷ []) (if v then node.high else node.low) c
    parts true c = (h.are.each node.high high m).test c ∙ sym (holds-append h.reduced (node ∷ []) node.high c n.high_given)
    parts false c = (h.are.each node.low low l).test c ∙ sym (holds-append h.reduced (node ∷ []) node.low c n.low_given)

-- the rules of a node by its place
pub next_at : (options : ℕ) (nodes : List Node) (i : ℕ) (d : Node) → IsReducedList options nodes → i < length nodes → IsNextNode options (take i nodes) (get_or nodes i d)
next_at options nodes i d r l = r.each i (get_or nodes i d) (slice_get-get_or nodes i d l)

-- the id of a number's set
there : {I : Type 0} {sets : Sets I} {nodes : List Node} {ids : List I} → AreSetsSoFar sets nodes ids → (k : ℕ) (id : I) → k < length nodes + 2 → id ≡ get_or ids k id → slice_get ids k ≡ Some id
there {ids = ids} h k id l e = slice_get_read ids (length ids) k id refl (omega (arith, l, h.are.number)) e

-- the id of a number's set is known
pub known_at_number : {I : Type 0} {sets : Sets I} {nodes : List Node} {ids : List I} → AreSetsSoFar sets nodes ids → (k : ℕ) (id : I) → k < length nodes + 2 → id ≡ get_or ids k id → sets.is_known id ≡ true
known_at_number h k id l e = (h.are.each k id (there h k id l e)).known

pub AreSetsSoFar-step : {I : Type 0} {old new : Sets I} → Extends old new → (nodes : List Node) (i : ℕ) (d : Node) (ids : List I) (low high id : I) (options : ℕ) → old.options ≡ options → IsReducedList options nodes → i < length nodes → AreSetsSoFar old (take i nodes) ids → low ≡ get_or ids (get_or nodes i d).low low → high ≡ get_or ids (get_or nodes i d).high high → IsSet new id (choice old (get_or nodes i d).option low high) → AreSetsSoFar new (take (i + 1) nodes) (ids ++ id ∷ [])
AreSetsSoFar-step {old = old} {new = new} x nodes i d ids low high id options o r l h e f s =
    let n = subst (λ k. IsNextNode k (take i nodes) (get_or nodes i d)) (sym o) (next_at options nodes i d r l) in
    subst (λ xs. AreSetsSoFar new xs (ids ++ id ∷ [])) (sym (take_more nodes i d l)) (AreSetsSoFar-more x (take i nodes) ids (get_or nodes i d) low high id h n (there h (get_or nodes i d).low low n.low_given e) (there h (get_or nodes i d).high high n.high_given f) s)

-- a number past the sets holds nothing
pub set_past : {I : Type 0} {s : Sets I} → IsLawful s → (nodes : List Node) (sets : List I) (k : ℕ) → length sets ≤ k → AreSetsOf s nodes sets → IsSet s s.never (holds nodes k)
set_past {s = s} lawful nodes sets k e h = record {
  known = lawful.never_known;
  test = λ c. lawful.never_test c ∙ sym (ap (λ w. nat_eq w 1) (walk-end nodes k k c none) ∙ not_one k (omega (arith, e, h.number)));
}
  where
    none : node_of nodes k ≡ None
    none = elim (node_cases (node_of nodes k)) [
      | inl n ↦ n
      | inr p ↦ absurd (omega (arith, (node_within nodes k p.0 p.1).1, e, h.number))
    ]

    not_one : (n : ℕ) → 2 ≤ n → nat_eq n 1 ≡ false
    not_one n l = grind (arith, nat_tests)

-- a later space keeps the sets of nodes
pub AreSetsOf-extends : {I : Type 0} {old new : Sets I} → Extends old new → (nodes : List Node) (ids : List I) → AreSetsOf old nodes ids → AreSetsOf new nodes ids
AreSetsOf-extends x nodes ids h = record { number = h.number; each = λ k id e. IsSet-extends x id (holds nodes k) (h.each k id e) }
