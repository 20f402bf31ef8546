-- The sets of a list of nodes whose options stand at other places, one by one, and a listing of some of them.
use Rattle.std.proofs.Common.{take, get_or, ◌≡◌, ℕ, ◌+◌, ◌<◌, ◌≤◌, ◌^◌, Bool, true, false, List, [], ◌∷◌, ◌++◌, length, map, slice_get, refl, sym, ◌∙◌, ap, subst, arith, zero, suc, inl, inr, length-append}
use Rattle.std.specs.Prelude.{Some, if◌then◌else◌, nat_lt}
use Rattle.std.specs.List.{AllByRecursion, AllZip, list_all}
use Rattle.std.proofs.lemmas.Bool.{ltb-true}
use Rattle.std.proofs.lemmas.List.{take_all, take_more}
use Rattle.std.proofs.lemmas.Option.{slice_get_within, slice_get_read}
use Rattle.vx_list.specs.Places.{item_or}
use Rattle.vx_space.specs.Config.{value_of}
use Rattle.vx_space.specs.Sets.{AreKnown, Sets, IsSet, IsLawful, Extends}
use Rattle.vx_space.proofs.Spaces.{IsSet-extends}
use Rattle.vx_bdd_tools.specs.declared.node.Node.{Node}
use Rattle.vx_bdd_tools.specs.Nodes.{holds, IsNextNode, IsReducedList}
use Rattle.vx_bdd_tools.specs.Listing.{IsListing, choice}
use Rattle.vx_bdd_tools.specs.Numbering.{HoldAll, IsNumbered}
use Rattle.vx_bdd_tools.proofs.ListedSets.{next_at}
use Rattle.vx_bdd_tools.proofs.NodeLists.{node_of-last, holds-node, holds-append, IsReducedList-append, IsReducedList-none}
use Rattle.vx_bdd_tools.proofs.NodeSets.{order_cases}
use Rattle.vx_report_line.proofs.Numbers.{both_true as parts_true}
use Rattle.vx_report_reader.specs.Lawful.{IsLawful as IsLawfulReport}
use Rattle.vx_report_reader.specs.Rules.{roots_of}
use Rattle.vx_report.specs.declared.report.Report.{Report}
use Rattle.vx_one_report.proofs.LawfulLines.{roots_within}
use Rattle.vx_compare.specs.Names.{places_of, values_at}
use Rattle.vx_compare.specs.Wide.{AreSeenSets, HoldsSeen, IsSeenListing, set_at}

-- ---- the sets so far

pub record AreSeenSoFar {I : Type 0} (sets : Sets I) (places : List ℕ) (nodes : List Node) (ids : List I) : Type 0 where
  pub reduced : IsReducedList (length places) nodes
  pub are : AreSeenSets sets places nodes ids

pub AreSeenSoFar-none : {I : Type 0} {sets : Sets I} → IsLawful sets → (places : List ℕ) → AreSeenSoFar sets places [] (sets.never ∷ sets.always ∷ [])
AreSeenSoFar-none {I} {sets} lawful places = record {
  reduced = IsReducedList-none (length places);
  are = record { number = omega arith; each = at };
}
  where
    at : (k : ℕ) (id : I) → slice_get (sets.never ∷ sets.always ∷ []) k ≡ Some id → IsSet sets id (λ c. holds [] k (values_at places c))
    at zero id e = let s : sets.never ≡ id = cc (e) in subst (λ x. IsSet sets x (λ c. holds [] 0 (values_at places c))) s (record { known = lawful.never_known; test = λ c. lawful.never_test c })
    at (suc zero) id e = let s : sets.always ≡ id = cc (e) in subst (λ x. IsSet sets x (λ c. holds [] 1 (values_at places c))) s (record { known = lawful.always_known; test = λ c. lawful.always_test c })
    at (suc (suc k)) id e = cc (e)

get_front : {A : Type 0} (xs ys : List A) (place : ℕ) → place < length xs → slice_get (xs ++ ys) place ≡ slice_get xs place
get_front [] ys place l = absurd (omega (arith, l))
get_front (x ∷ xs) ys zero l = refl
get_front (x ∷ xs) ys (suc place) l = get_front xs ys place (omega (arith, l))

get_last : {A : Type 0} (xs : List A) (y : A) → slice_get (xs ++ y ∷ []) (length xs) ≡ Some y
get_last [] y = refl
get_last (x ∷ xs) y = get_last xs y

-- the value of an option is that at its place
value_at_place : (places : List ℕ) (c : List Bool) (i d : ℕ) → i < length places → value_of (values_at places c) i ≡ value_of c (get_or places i d)
value_at_place [] c i d l = absurd (omega (arith, l))
value_at_place (place ∷ places) c zero d l = refl
value_at_place (place ∷ places) c (suc i) d l = value_at_place places c i d (omega (arith, l))

pub place_in : (n : ℕ) (places : List ℕ) (i d : ℕ) → AllByRecursion (λ place. place < n) places → i < length places → get_or places i d < n
place_in n [] i d all l = absurd (omega (arith, l))
place_in n (place ∷ places) zero d all l = all.0
place_in n (place ∷ places) (suc i) d all l = place_in n places i d all.1 (omega (arith, l))

-- one node more
AreSeenSoFar-more : {I : Type 0} {old new : Sets I} → Extends old new → (places : List ℕ) (nodes : List Node) (ids : List I) (node : Node) (low high id : I) → AreSeenSoFar old places nodes ids → IsNextNode (length places) nodes node → slice_get ids node.low ≡ Some low → slice_get ids node.high ≡ Some high
    → IsSet new id (choice old (get_or places node.option 0) low high) → AreSeenSoFar new places (nodes ++ node ∷ []) (ids ++ id ∷ [])
AreSeenSoFar-more {I} {old} {new} x places nodes ids node low high id h n l m s =
    let reduced = IsReducedList-append h.reduced n in
    record {
      reduced = reduced;
      are = record {
        number = omega (arith, h.are.number, length-append nodes (node ∷ []), length-append ids (id ∷ []));
        each = λ k other e. elim (order_cases k (length ids)) [
          | inl q ↦
              let t = IsSet-extends x other (λ c. holds nodes k (values_at places c)) (h.are.each k other (sym (get_front ids (id ∷ []) k q) ∙ e)) in
              record { known = t.known; test = λ c. t.test c ∙ sym (holds-append h.reduced (node ∷ []) k (values_at places c) (omega (arith, q, h.are.number))) }
          | inr p ↦ elim p [
            | inl q ↦ absurd (omega (arith, q, slice_get_within (ids ++ id ∷ []) k other e, length-append ids (id ∷ [])))
            | inr q ↦
                let same : id ≡ other = cc (get_last ids id, q, e) in
                subst (λ y. IsSet new y (λ c. holds (nodes ++ node ∷ []) k (values_at places c))) same (record {
                  known = s.known;
                  test = λ c. s.test c ∙ ap (λ v. if v then old.test high c else old.test low c) (sym (value_at_place places c node.option 0 n.in_range))
                      ∙ parts (value_of (values_at places c) node.option) c ∙ sym (holds-node reduced k node (values_at places c) (node_of-last nodes node k (q ∙ h.are.number)));
                })
          ]
        ];
      };
    }
  where
    parts : (v : Bool) (c : List Bool) → (if v then old.test high c else old.test low c) ≡ holds (nodes ++ node ∷ []) (if v then node.high else node.low) (values_at places c)
    parts true c = (h.are.each node.high high m).test c ∙ sym (holds-append h.reduced (node ∷ []) node.high (values_at places c) n.high_given)
    parts false c = (h.are.each node.low low l).test c ∙ sym (holds-append h.reduced (node ∷ []) node.low (values_at places c) n.low_given)

-- the id of a number's set
there : {I : Type 0} {sets : Sets I} {places : List ℕ} {nodes : List Node} {ids : List I} → AreSeenSoFar sets places nodes ids → (k : ℕ) (id : I) → k < length nodes + 2 → id ≡ get_or ids k id → slice_get ids k ≡ Some id
there {ids = ids} h k id l e = slice_get_read ids (length ids) k id refl (omega (arith, l, h.are.number)) e

pub known_at_number : {I : Type 0} {sets : Sets I} {places : List ℕ} {nodes : List Node} {ids : List I} → AreSeenSoFar sets places nodes ids → (k : ℕ) (id : I) → k < length nodes + 2 → id ≡ get_or ids k id → sets.is_known id ≡ true
known_at_number h k id l e = (h.are.each k id (there h k id l e)).known

pub AreSeenSoFar-step : {I : Type 0} {old new : Sets I} → Extends old new → (places : List ℕ) (nodes : List Node) (i : ℕ) (d : Node) (ids : List I) (low high id : I) → IsReducedList (length places) nodes → i < length nodes → AreSeenSoFar old places (take i nodes) ids
    → low ≡ get_or ids (get_or nodes i d).low low → high ≡ get_or ids (get_or nodes i d).high high → IsSet new id (choice old (get_or places (get_or nodes i d).option 0) low high) → AreSeenSoFar new places (take (i + 1) nodes) (ids ++ id ∷ [])
AreSeenSoFar-step {I} {old} {new} x places nodes i d ids low high id r l h e f s =
    let n = next_at (length places) nodes i d r l in
    subst (λ xs. AreSeenSoFar new places xs (ids ++ id ∷ [])) (sym (take_more nodes i d l))
    (AreSeenSoFar-more x places (take i nodes) ids (get_or nodes i d) low high id h n (there h (get_or nodes i d).low low n.low_given e) (there h (get_or nodes i d).high high n.high_given f) s)

pub all_seen : {I : Type 0} {sets : Sets I} (places : List ℕ) (nodes : List Node) (i : ℕ) (ids : List I) → length nodes ≤ i → AreSeenSoFar sets places (take i nodes) ids → AreSeenSets sets places nodes ids
all_seen {I} {sets} places nodes i ids l h = subst (λ xs. AreSeenSets sets places xs ids) (take_all i nodes l) h.are

-- ---- a listing of some of them

item_there : {A : Type 0} (xs : List A) (i : ℕ) (d : A) → i < length xs → slice_get xs i ≡ Some (item_or xs i d)
item_there [] i d l = absurd (omega (arith, l))
item_there (x ∷ xs) zero d l = refl
item_there (x ∷ xs) (suc i) d l = item_there xs i d (omega (arith, l))

id_there : {I : Type 0} (sets : Sets I) (places : List ℕ) (nodes : List Node) (ids : List I) → AreSeenSets sets places nodes ids → (k : ℕ) → nat_lt k (length nodes + 2) ≡ true → IsSet sets (set_at sets ids k) (λ c. holds nodes k (values_at places c))
id_there sets places nodes ids are k t =
    let within = ltb-true k (length nodes + 2) t in
    are.each k (set_at sets ids k) (item_there ids k sets.never (omega (arith, within, are.number)))

pub ids_known : {I : Type 0} (sets : Sets I) (places : List ℕ) (nodes : List Node) (ids : List I) → AreSeenSets sets places nodes ids → (ks : List ℕ) → list_all (λ k. nat_lt k (length nodes + 2)) ks ≡ true → AreKnown sets (map (set_at sets ids) ks)
ids_known sets places nodes ids are [] t = tt
ids_known sets places nodes ids are (k ∷ ks) t =
    let p = parts_true (nat_lt k (length nodes + 2)) (list_all (λ j. nat_lt j (length nodes + 2)) ks) t in
    ((id_there sets places nodes ids are k p.0).known, ids_known sets places nodes ids are ks p.1)

pub listed_seen : {I : Type 0} (sets : Sets I) (places : List ℕ) (nodes wide : List Node) (ids : List I) → AreSeenSets sets places nodes ids → (ks numbers : List ℕ) → list_all (λ k. nat_lt k (length nodes + 2)) ks ≡ true
    → HoldAll wide numbers (map sets.test (map (set_at sets ids) ks)) → AllZip (HoldsSeen places nodes wide) ks numbers
listed_seen sets places nodes wide ids are [] [] t h = tt
listed_seen sets places nodes wide ids are [] (n ∷ numbers) t h = absurd h
listed_seen sets places nodes wide ids are (k ∷ ks) [] t h = absurd h
listed_seen sets places nodes wide ids are (k ∷ ks) (n ∷ numbers) t h =
    let p = parts_true (nat_lt k (length nodes + 2)) (list_all (λ j. nat_lt j (length nodes + 2)) ks) t in
    let here = id_there sets places nodes ids are k p.0 in
    ((λ c. h.0 c ∙ here.test c), listed_seen sets places nodes wide ids are ks numbers p.1 h.1)

-- what a listing of the sets of a report's numbers is made of
pub record AreListed {I : Type 0} (sets : Sets I) (r : Report) (names : List (List ℕ)) (ids roots : List I) : Type 0 where
  pub are : AreSeenSets sets (places_of names r.options) r.nodes ids
  pub roots_are : roots ≡ map (set_at sets ids) (roots_of r)

pub are_listed : {I : Type 0} {sets : Sets I} (r : Report) (names : List (List ℕ)) (places : List ℕ) (nodes : List Node) (ids taken roots : List I) (ks : List ℕ) → places ≡ places_of names r.options → nodes ≡ r.nodes → AreSeenSets sets places nodes ids
    → taken ≡ ids → ks ≡ roots_of r → roots ≡ map (set_at sets taken) ks → AreListed sets r names ids roots
are_listed {I} {sets} r names places nodes ids taken roots ks p n are t k q = record {
  are = subst (λ ps. AreSeenSets sets ps r.nodes ids) p (subst (λ ns. AreSeenSets sets places ns ids) n are);
  roots_are = q ∙ (λ i. map (set_at sets (t i)) (k i));
}

-- the numbers that a report names are those of its nodes
roots_inside : (r : Report) → IsLawfulReport r → list_all (λ k. nat_lt k (length r.nodes + 2)) (roots_of r) ≡ true
roots_inside r lawful = roots_within r.nodes 2 (roots_of r) (length r.nodes + 2) (omega arith) lawful.numbered.numbered

pub listed_known : {I : Type 0} (sets : Sets I) (r : Report) (names : List (List ℕ)) (ids roots : List I) → IsLawfulReport r → AreListed sets r names ids roots → AreKnown sets roots
listed_known {I} sets r names ids roots lawful h = subst (λ (xs : List I). AreKnown sets xs) (sym h.roots_are) (ids_known sets (places_of names r.options) r.nodes ids h.are (roots_of r) (roots_inside r lawful))

pub is_seen_listing : {I : Type 0} (sets : Sets I) (r : Report) (names : List (List ℕ)) (ids roots : List I) (wide : List Node) (numbers : List ℕ) → IsLawfulReport r → AreListed sets r names ids roots → length names ≡ sets.options → IsListing sets roots wide numbers → length wide < 2 ^ 63
    → IsSeenListing r names wide numbers
is_seen_listing {I} sets r names ids roots wide numbers lawful h options listing short = record {
  hold = listed_seen sets (places_of names r.options) r.nodes wide ids h.are (roots_of r) numbers (roots_inside r lawful) (subst (λ (xs : List I). HoldAll wide numbers (map sets.test xs)) h.roots_are listing.hold);
  numbered = subst (λ n. IsNumbered n wide numbers) (sym options) listing.numbered;
  short = short;
}
