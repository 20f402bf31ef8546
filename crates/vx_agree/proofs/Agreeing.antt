-- Equal output and an equal end, and the text of that.
use Rattle.std.proofs.Common.{◌≡◌, ℕ, ◌∷◌, [], Bool, true, false, List, length, refl, sym, ◌∙◌, ap, subst}
use Rattle.std.specs.Prelude.{Option, Some, None, ◌&&◌}
use Rattle.std.specs.Cmp.{tied_itself}
use Rattle.std.specs.Ordering.{is_eq}
use Rattle.std.specs.declared.cmp.Ordering.{Ordering}
use Rattle.std.specs.declared.cmp.Ordering.TheVariants.{Less, Equal, Greater}
use Rattle.vx_list.specs.Places.{item_or}
use Rattle.vx_value.specs.Ends.{compare_ends}
use Rattle.vx_value.specs.declared.end.End.{End}
use Rattle.vx_end_order.proofs.EndOrder.{end_equal, end_total}
use Rattle.vx_space.specs.Sets.{Sets, IsSet, Extends}
use Rattle.vx_bdd_tools.specs.declared.node.Node.{Node}
use Rattle.vx_bdd_tools.specs.Listing.{IsListing}
use Rattle.vx_bdd_tools.specs.Nodes.{holds}
use Rattle.vx_bdd_tools.specs.Numbering.{IsNumbered}
use Rattle.vx_bdd_tools.proofs.OneNumbering.{IsOnlyListing-of}
use Rattle.vx_report.specs.Projection.{end_at, output_at}
use Rattle.vx_report.specs.declared.report.Report.{Report}
use Rattle.vx_agree.specs.Agreement.{AgreeAt, IsAgreement}
use Rattle.vx_agree.specs.Ends.{are_one_end, have_same_end, is_end}
use Rattle.vx_agree.specs.Moving.{IsSameOutput}
use Rattle.vx_agree.specs.Text.{IsAgreementText, set_text}
use Rattle.vx_agree.proofs.Places.{and_left, and_right}

equal_of : (o : Ordering) → is_eq o ≡ true → o ≡ Equal
equal_of Equal t = refl
equal_of Less t = cc (t)
equal_of Greater t = cc (t)

pub agree_of : (one other : Report) (c : List Bool) → output_at one c ≡ output_at other c → (a b : Option End) → end_at one c ≡ a → end_at other c ≡ b → are_one_end a b ≡ true → AgreeAt one other c
agree_of one other c o None b e f t = cc (t)
agree_of one other c o (Some x) None e f t = cc (t)
agree_of one other c o (Some x) (Some y) e f t = record { end = x; of_one = e; of_other = f ∙ ap Some (sym (end_equal x y (equal_of (compare_ends x y) t))); output = o }

-- those with equal output among those with an equal end
pub IsAgreement-of : {I : Type 0} {s1 s2 s3 : Sets I} → Extends s1 s2 → (one other : Report) (end output id : I) → IsSet s1 end (have_same_end one other) → IsSameOutput s1 s2 one other end output → IsSet s3 id (λ c. s2.test output c && s2.test end c) → IsAgreement s3 one other id
IsAgreement-of {s1 = s1} {s2 = s2} x one other end output id e o a = record {
  known = a.known;
  agree = λ c t.
      let both = sym (a.test c) ∙ t in
      let ends = sym (e.test c) ∙ sym (x.test end c e.known) ∙ and_right (s2.test output c) (s2.test end c) both in
      agree_of one other c (o.same c (and_left (s2.test output c) (s2.test end c) both)) (end_at one c) (end_at other c) refl refl ends;
  all = λ c h.
      let ends = e.test c ∙ ap (λ y. are_one_end y (end_at other c)) h.of_one ∙ ap (λ y. is_end h.end y) h.of_other ∙ ap is_eq (tied_itself end_total h.end) in
      a.test c ∙ ap (λ y. y && s2.test end c) (o.all c ends h.output) ∙ x.test end c e.known ∙ ends;
}

-- ---- the text

-- the text of a listed set
pub record IsListedText {I : Type 0} (sets : Sets I) (names : List (List ℕ)) (id : I) (text : List ℕ) : Type 0 where
  pub nodes : List Node
  pub root : ℕ
  pub listing : IsListing sets (id ∷ []) nodes (root ∷ [])
  pub spelled : text ≡ set_text names nodes root

-- one set has one number
one_root : {I : Type 0} (sets : Sets I) (id : I) (nodes : List Node) (roots : List ℕ) → IsListing sets (id ∷ []) nodes roots → roots ≡ item_or roots 0 0 ∷ []
one_root sets id nodes [] h = absurd h.hold
one_root sets id nodes (root ∷ []) h = refl
one_root sets id nodes (root ∷ next ∷ more) h = absurd h.hold.1

pub IsListedText-of : {I : Type 0} (sets : Sets I) (names : List (List ℕ)) (id : I) (nodes : List Node) (roots : List ℕ) (text : List ℕ) → IsListing sets (id ∷ []) nodes roots → text ≡ set_text names nodes (item_or roots 0 0) → IsListedText sets names id text
IsListedText-of sets names id nodes roots text h e = record { nodes = nodes; root = item_or roots 0 0; listing = subst (IsListing sets (id ∷ []) nodes) (one_root sets id nodes roots h) h; spelled = e }

pub IsAgreementText-of : {I : Type 0} (sets : Sets I) (one other : Report) (id : I) (text : List ℕ) → length one.options ≡ sets.options → IsAgreement sets one other id → IsListedText sets one.options id text → IsAgreementText one other text
IsAgreementText-of sets one other id text n a l = record {
  nodes = l.nodes;
  root = l.root;
  agree = λ c t. a.agree c (sym (l.listing.hold.0 c) ∙ t);
  all = λ c h. l.listing.hold.0 c ∙ a.all c h;
  numbered = subst (λ k. IsNumbered k l.nodes (l.root ∷ [])) (sym n) l.listing.numbered;
  spelled = l.spelled;
}

-- two tests that are true together are one
pub both_ways : (a b : Bool) → (a ≡ true → b ≡ true) → (b ≡ true → a ≡ true) → a ≡ b
both_ways true b f g = sym (f refl)
both_ways false true f g = g refl
both_ways false false f g = refl

-- a set is a test of a configuration
abbrev tests : ℕ → Sets (List Bool → Bool)
tests options = record {
  options = options;
  never = λ c. false;
  always = λ c. true;
  is_known = λ set. true;
  test = λ set. set;
  counts = false;
  count = 0;
  base = 0;
}

-- two reports have one text of where they agree
pub one_agreement_text : (one other : Report) (a b : List ℕ) → IsAgreementText one other a → IsAgreementText one other b → a ≡ b
one_agreement_text one other a b h k =
    let listed : IsListing (tests (length one.options)) (holds h.nodes h.root ∷ []) h.nodes (h.root ∷ []) = record { hold = ((λ c. refl), tt); numbered = h.numbered } in
    let again : IsListing (tests (length one.options)) (holds h.nodes h.root ∷ []) k.nodes (k.root ∷ []) = record {
      hold = ((λ c. both_ways (holds k.nodes k.root c) (holds h.nodes h.root c) (λ t. h.all c (k.agree c t)) (λ t. k.all c (h.agree c t))), tt);
      numbered = k.numbered;
    } in
    let only = (IsOnlyListing-of (tests (length one.options)) (holds h.nodes h.root ∷ []) h.nodes (h.root ∷ []) listed).only k.nodes (k.root ∷ []) again in
    let root : k.root ≡ h.root = ap (λ roots. item_or roots 0 0) only.1 in
    h.spelled ∙ sym (ap (λ nodes. set_text one.options nodes k.root) only.0 ∙ ap (set_text one.options h.nodes) root) ∙ sym k.spelled
