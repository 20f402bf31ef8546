-- The lines of a part in DIMACS lead to the same state as the model's own, with more clauses in its header.
use Rattle.std.proofs.Common.{◌≡◌, ◌⊎◌, inl, inr, ◌<◌, ◌≤◌, ◌^◌, ℕ, zero, suc, ◌+◌, ◌-◌, Bool, true, false, List, [], ◌∷◌, ◌++◌, length, map, refl, sym, ap, subst, ◌∙◌, arith, append_assoc, append-nil, length-append, Result, Ok, Err, le-ltb}
use Rattle.std.specs.Prelude.{Option, Some, None, ◌||◌, ◌&&◌, ◌==◌, not, nat_eq, nat_lt, nat_le, codes, decimal, if◌then◌else◌, option_map, unwrap_or}
use Rattle.std.specs.List.{AllByRecursion, flat_map, list_all, list_any}
use Rattle.std.specs.Str.{bytes_eq}
use Rattle.std.proofs.lemmas.Bool.Decides.{nat_tests}
use Rattle.std.proofs.lemmas.List.{length-map, map-append}
use Rattle.vx_words.specs.Decimal.{is_digit}
use Rattle.vx_words.specs.Lines.{is_line_feed, is_plain, lines, parts, without_return, words}
use Rattle.vx_model.specs.Formula.{Formula}
use Rattle.vx_model.specs.Formula as tree
use Rattle.vx_model.specs.Models.{HasOptionNames}
use Rattle.vx_model.specs.Text.{at_line}
use Rattle.vx_model.specs.declared.model.Model.{Model}
use Rattle.vx_model.specs.declared.model.OptionField.{OptionField}
use Rattle.vx_dimacs.specs.Dimacs.{State, dimacs_of, end_of, ended, first_told, has_too_many, is_nothing, line_of, lines_of, mark_of, marks_of, nothing_yet, numbers_line, option_for, options_upto, told, told_by, with_line, with_marks}
use Rattle.vx_dimacs.specs.declared.line.Header.{Header}
use Rattle.vx_dimacs.specs.declared.line.Line.{Line}
use Rattle.vx_dimacs.specs.declared.line.Line.TheVariants as line
use Rattle.vx_dimacs.specs.declared.number.Mark.{Mark}
use Rattle.vx_dimacs.specs.declared.number.Mark.TheVariants as mark
use Rattle.vx_explain.specs.Rules.{literal_rule}
use Rattle.vx_explain.specs.declared.literal.Literal.{Literal}
use Rattle.vx_cut.specs.Parts.{with_term}
use Rattle.vx_cut.specs.Texts.{begins_with_p, clause_text, demand, header_with, heading, is_header, line_with, lines_with, part_text, sign}
use Rattle.vx_cut.proofs.LineTexts.{IsUnbroken, ended_then, parts_unbroken, plain_both, plain_kept, plain_unbroken}
use Rattle.vx_cut.proofs.Numbers.{number_plain}
use Rattle.vx_cut.proofs.Plainly.{IsPlain, heading_is, heading_line, heading_plain}
use Rattle.vx_cut.proofs.TextParts.{lines_between}
use Rattle.vx_cut.proofs.CnfLines.{IsDigits, IsHead, IsNumbers, IsSilent, digits_of, head_said, header_more, header_stays, header_with_plain, header_with_said, header_with_words, marks_header, more, moves_same, number_then, read_up, said_same, same_state, says, told_of, within_is}

-- ---- the state that lines lead to

abbrev pub follow : {A B : Type 0} → Result A ℕ → (A → Result B ℕ) → Result B ℕ
follow (Ok x) f = f x
follow (Err reason) f = Err reason

-- the state behind a line, and behind lines
abbrev pub moved : ℕ → State → List ℕ → Result State ℕ
moved most st text = follow (line_of most st text) (with_line st)

abbrev pub reach : ℕ → State → List (List ℕ) → Result State ℕ
reach most st [] = Ok st
reach most st (text ∷ rest) = follow (moved most st text) (λ new. reach most new rest)

abbrev pub good_state : State → Result State ℕ
good_state s = Ok s

abbrev pub good_model : Model → Result Model ℕ
good_model m = Ok m

-- a line leads from one state to another
pub record Moves (most : ℕ) (st : State) (text : List ℕ) (new : State) : Type 0 where
  pub x : Line
  pub says : line_of most st text ≡ Ok x
  pub moves : with_line st x ≡ Ok new

moves_are : (most : ℕ) (st : State) (text : List ℕ) (new : State) → Moves most st text new → moved most st text ≡ Ok new
moves_are most st text new h = rw h.says h.moves

pub first_move : (most : ℕ) (st e : State) (text : List ℕ) (rest : List (List ℕ)) → reach most st (text ∷ rest) ≡ Ok e → (new : State) × Moves most st text new × (reach most new rest ≡ Ok e)
first_move most st e text rest h = by_line (line_of most st text) refl h
  where
    by_move : (x : Line) (m : Result State ℕ) → line_of most st text ≡ Ok x → with_line st x ≡ m → follow m (λ new. reach most new rest) ≡ Ok e → (new : State) × Moves most st text new × (reach most new rest ≡ Ok e)
    by_move x (Ok new) s f k = (new, record { x = x; says = s; moves = f }, k)
    by_move x (Err reason) s f k = cc (k)

    by_line : (r : Result Line ℕ) → line_of most st text ≡ r → follow (follow r (with_line st)) (λ new. reach most new rest) ≡ Ok e → (new : State) × Moves most st text new × (reach most new rest ≡ Ok e)
    by_line (Ok x) s k = by_move x (with_line st x) s refl k
    by_line (Err reason) s k = cc (k)

pub next_reach : (most : ℕ) (st new e : State) (text : List ℕ) (rest : List (List ℕ)) → Moves most st text new → reach most new rest ≡ Ok e → reach most st (text ∷ rest) ≡ Ok e
next_reach most st new e text rest h k = ap (λ m. follow m (λ s. reach most s rest)) (moves_are most st text new h) ∙ k

pub reach_then : (most : ℕ) (ls ms : List (List ℕ)) (st e : State) → reach most st ls ≡ Ok e → reach most st (ls ++ ms) ≡ reach most e ms
reach_then most [] ms st e h = ap (λ s. reach most s ms) (same_state st e h)
reach_then most (l ∷ ls) ms st e h =
    let f = first_move most st e l ls h in
    ap (λ m. follow m (λ s. reach most s (ls ++ ms))) (moves_are most st l f.0 f.1) ∙ reach_then most ls ms f.0 e f.2

-- ---- the model of lines, by their last state

pub record Reached (most : ℕ) (st : State) (ls : List (List ℕ)) (m : Model) : Type 0 where
  pub last : State
  pub there : reach most st ls ≡ Ok last
  pub ends : end_of last ≡ Ok m

end_good : (n : ℕ) (r : Result Model ℕ) (m : Model) → at_line n r (λ k. Ok k) ≡ Ok m → r ≡ Ok m
end_good n (Ok k) m e = let same : k ≡ m = cc (e) in ap good_model same
end_good n (Err reason) m e = cc (e)

reached_line : (most n : ℕ) (st : State) (l : List ℕ) (ls : List (List ℕ)) (m : Model) → ((new : State) → lines_of most (n + 1) new ls ≡ Ok m → Reached most new ls m)
    → at_line n (line_of most st l) (λ x. at_line n (with_line st x) (λ new. lines_of most (n + 1) new ls)) ≡ Ok m → Reached most st (l ∷ ls) m
reached_line most n st l ls m next h = by_line (line_of most st l) refl h
  where
    by_move : (x : Line) (r : Result State ℕ) → line_of most st l ≡ Ok x → with_line st x ≡ r → at_line n r (λ new. lines_of most (n + 1) new ls) ≡ Ok m → Reached most st (l ∷ ls) m
    by_move x (Ok new) s f k =
        let behind = next new k in
        record { last = behind.last; there = next_reach most st new behind.last l ls (record { x = x; says = s; moves = f }) behind.there; ends = behind.ends }
    by_move x (Err reason) s f k = cc (k)

    by_line : (r : Result Line ℕ) → line_of most st l ≡ r → at_line n r (λ x. at_line n (with_line st x) (λ new. lines_of most (n + 1) new ls)) ≡ Ok m → Reached most st (l ∷ ls) m
    by_line (Ok x) s k = by_move x (with_line st x) s refl k
    by_line (Err reason) s k = cc (k)

pub reached : (most n : ℕ) (ls : List (List ℕ)) (st : State) (m : Model) → lines_of most n st ls ≡ Ok m → Reached most st ls m
unfolding lines_of
reached most n [] st m h = record { last = st; there = refl; ends = end_good n (end_of st) m h }
reached most n (l ∷ ls) st m h = reached_line most n st l ls m (λ new k. reached most (n + 1) ls new m k) h

pub from_reached : (most n : ℕ) (ls : List (List ℕ)) (st e : State) (m : Model) → reach most st ls ≡ Ok e → end_of e ≡ Ok m → lines_of most n st ls ≡ Ok m
unfolding lines_of
from_reached most n [] st e m h k = ap (λ r. at_line n r (λ x. Ok x)) (ap end_of (same_state st e h) ∙ k)
from_reached most n (l ∷ ls) st e m h k =
    let f = first_move most st e l ls h in
    ap (λ r. at_line n r (λ x. at_line n (with_line st x) (λ new. lines_of most (n + 1) new ls))) f.1.says
    ∙ ap (λ r. at_line n r (λ new. lines_of most (n + 1) new ls)) f.1.moves
    ∙ from_reached most (n + 1) ls f.0 e m f.2 k

-- ---- what a header leaves

pub heads_move : (st new : State) (h : Header) (x : Line) → x ≡ line.Heads h → with_line st x ≡ Ok new → new ≡ record st { header = Some h }
heads_move st new h x is e = sym (same_state (record st { header = Some h }) new (ap (with_line st) (sym is) ∙ e))

-- a header that was taken stays
stays : (most : ℕ) (ls : List (List ℕ)) (st e : State) (h : Header) → reach most st ls ≡ Ok e → st.header ≡ Some h → e.header ≡ Some h
stays most [] st e h r is = ap (λ (s : State). s.header) (sym (same_state st e r)) ∙ is
stays most (l ∷ ls) st e h r is =
    let f = first_move most st e l ls r in
    by (begins_with_p (words l)) refl f.0 f.1 f.2 (stays most ls f.0 e h f.2)
  where
    by : (b : Bool) → begins_with_p (words l) ≡ b → (new : State) → Moves most st l new → reach most new ls ≡ Ok e → (new.header ≡ Some h → e.header ≡ Some h) → e.header ≡ Some h
    by true p new m r next =
        let q = (head_said most st l m.x p m.says).2 in
        let wrong : Some h ≡ None = sym is ∙ q.first in
        cc (wrong)
    by false p new m r next = next (header_stays st new l m.x (says most st l m.x p m.says) m.moves ∙ is)

-- ---- the lines of a part lead to the same state, with more clauses in its header

pub record IsHeadOf (e : State) (model : Model) : Type 0 where
  pub header : e.header ≡ Some (record { variables = length model.options; clauses = length model.rules })
  pub few : length model.options ≤ 64

abbrev pub changed : Model → ℕ → List ℕ → List ℕ
changed model k l = without_return (line_with true model k l)

more_none : (k : ℕ) (st : State) → st.header ≡ None → (more k st).header ≡ None
more_none k st e = ap (option_map (header_more k)) e

same_header : (a b : Header) → Some a ≡ Some b → a ≡ b
same_header a b e = cc

pub part_reach : (most : ℕ) (model : Model) (k : ℕ) (ls : List (List ℕ)) (st e : State) → IsHeadOf e model → length model.rules + k ≤ 1000000 → reach most st (map without_return ls) ≡ Ok e
    → reach most (more k st) (map (changed model k) ls) ≡ Ok (more k e)
part_reach most model k [] st e h fit r = ap (λ s. good_state (more k s)) (same_state st e r)
part_reach most model k (l ∷ ls) st e h fit r =
    let f = first_move most st e (without_return l) (map without_return ls) r in
    by (is_header l) refl f.0 f.1 f.2 (part_reach most model k ls f.0 e h fit f.2)
  where
    by : (b : Bool) → is_header l ≡ b → (new : State) → Moves most st (without_return l) new → reach most new (map without_return ls) ≡ Ok e → reach most (more k new) (map (changed model k) ls) ≡ Ok (more k e)
        → reach most (more k st) (map (changed model k) (l ∷ ls)) ≡ Ok (more k e)
    by false p new m r next =
        let same : changed model k l ≡ without_return l = ap (λ t. without_return (if t then header_with model k else l)) p in
        let moves : Moves most (more k st) (without_return l) (more k new) =
        record { x = m.x; says = said_same most k st (without_return l) p ∙ m.says; moves = moves_same k st new (without_return l) m.x (says most st (without_return l) m.x p m.says) m.moves } in
        ap (λ t. reach most (more k st) (t ∷ map (changed model k) ls)) same ∙ next_reach most (more k st) (more k new) (more k e) (without_return l) (map (changed model k) ls) moves next
    by true p new m r next =
        let q = (head_said most st (without_return l) m.x p m.says).2 in
        let is_new : new ≡ record st { header = Some q.header } = heads_move st new q.header m.x q.is m.moves in
        let last = stays most (map without_return ls) new e q.header r (ap (λ (s : State). s.header) is_new) in
        let head : q.header ≡ record { variables = length model.options; clauses = length model.rules } = same_header _ _ (sym last ∙ h.header) in
        let same : changed model k l ≡ header_with model k = ap (λ t. without_return (if t then header_with model k else l)) p ∙ plain_kept (header_with model k) (header_with_plain model k h.few fit) in
        let moves : Moves most (more k st) (header_with model k) (more k new) =
        record {
          x = line.Heads (record { variables = length model.options; clauses = length model.rules + k });
          says = header_with_said most (more k st) model k h.few fit (more_none k st q.first);
          moves = ap (λ (g : Header). good_state (more k (record st { header = Some g }))) (sym head) ∙ ap (λ s. good_state (more k s)) (sym is_new);
        } in
        ap (λ t. reach most (more k st) (t ∷ map (changed model k) ls)) same ∙ next_reach most (more k st) (more k new) (more k e) (header_with model k) (map (changed model k) ls) moves next

-- ---- the number of variables that the first header tells

told_plain : (ws : List (List ℕ)) (other : Option ℕ) → begins_with_p ws ≡ false → told_by ws other ≡ other
told_plain [] other p = refl
told_plain (w ∷ ws) other p = rw p refl

told_head : (rest : List (List ℕ)) (other : Option ℕ) (v : ℕ) → told rest ≡ Some v → told_by (codes "p" ∷ rest) other ≡ Some v
told_head rest other v e = ap (λ o. Some (unwrap_or o 65)) e

-- both texts tell the same number
pub record TellsSame (model : Model) (k : ℕ) (ls tail : List (List ℕ)) : Type 0 where
  pub own : first_told (map without_return ls) ≡ Some (length model.options)
  pub changed : first_told (map (changed model k) ls ++ tail) ≡ Some (length model.options)

pub tells : (most : ℕ) (model : Model) (k : ℕ) (tail ls : List (List ℕ)) (st e : State) → IsHeadOf e model → length model.rules + k ≤ 1000000 → st.header ≡ None → reach most st (map without_return ls) ≡ Ok e → TellsSame model k ls tail
tells most model k tail [] st e h fit none r =
    let wrong : None ≡ Some (record { variables = length model.options; clauses = length model.rules }) = sym none ∙ ap (λ (s : State). s.header) (same_state st e r) ∙ h.header in
    cc (wrong)
tells most model k tail (l ∷ ls) st e h fit none r =
    let f = first_move most st e (without_return l) (map without_return ls) r in
    by (is_header l) refl f.0 f.1 f.2 (λ n. tells most model k tail ls f.0 e h fit n f.2)
  where
    by : (b : Bool) → is_header l ≡ b → (new : State) → Moves most st (without_return l) new → reach most new (map without_return ls) ≡ Ok e → (new.header ≡ None → TellsSame model k ls tail) → TellsSame model k (l ∷ ls) tail
    by false p new m r next =
        let behind = next (header_stays st new (without_return l) m.x (says most st (without_return l) m.x p m.says) m.moves ∙ none) in
        let same : changed model k l ≡ without_return l = ap (λ t. without_return (if t then header_with model k else l)) p in
        record {
          own = told_plain (words (without_return l)) (first_told (map without_return ls)) p ∙ behind.own;
          changed = ap (λ t. told_by (words t) (first_told (map (changed model k) ls ++ tail))) same ∙ told_plain (words (without_return l)) (first_told (map (changed model k) ls ++ tail)) p ∙ behind.changed;
        }
    by true p new m r next =
        let found = head_said most st (without_return l) m.x p m.says in
        let q = found.2 in
        let is_new : new ≡ record st { header = Some q.header } = heads_move st new q.header m.x q.is m.moves in
        let last = stays most (map without_return ls) new e q.header r (ap (λ (s : State). s.header) is_new) in
        let head : q.header ≡ record { variables = length model.options; clauses = length model.rules } = same_header _ _ (sym last ∙ h.header) in
        let same : changed model k l ≡ header_with model k = ap (λ t. without_return (if t then header_with model k else l)) p ∙ plain_kept (header_with model k) (header_with_plain model k h.few fit) in
        let count = length model.rules + k in
        record {
          own = ap (λ ws. told_by ws (first_told (map without_return ls))) found.1 ∙ told_head found.0 (first_told (map without_return ls)) (length model.options) (q.variables ∙ ap (λ (g : Header). Some g.variables) head);
          changed = ap (λ t. told_by (words t) (first_told (map (changed model k) ls ++ tail))) same
              ∙ ap (λ ws. told_by ws (first_told (map (changed model k) ls ++ tail))) (header_with_words model k h.few fit)
              ∙ told_head (codes "cnf" ∷ decimal (length model.options) ∷ decimal count ∷ []) (first_told (map (changed model k) ls ++ tail)) (length model.options) (told_of (length model.options) (decimal count ∷ []) h.few);
        }
