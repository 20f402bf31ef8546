-- What the lines of a report say of a configuration is what was collected.
use Rattle.std.proofs.Common.{◌≡◌, ◌≢◌, ℕ, ◌+◌, zero, suc, Bool, true, false, cond, List, [], ◌∷◌, ◌++◌, map, filter, length, drop, refl, sym, ◌∙◌, ap, append-nil, append_assoc}
use Rattle.std.specs.Prelude.{find, flat_map, Option, None, Some, option_map, if◌then◌else◌}
use Rattle.std.specs.List.{AllByRecursion, AllZip, list_any}
use Rattle.std.specs.declared.cmp.Ordering.{Ordering}
use Rattle.vx_value.specs.declared.end.Stream.{Stream}
use Rattle.vx_space.specs.Sets.{Sets, IsLawful}
use Rattle.vx_cond.specs.Leaves.{AreLeaves, value_at}
use Rattle.vx_bdd_tools.specs.declared.node.Node.{Node}
use Rattle.vx_bdd_tools.specs.Nodes.{holds}
use Rattle.vx_bdd_tools.specs.Numbering.{HoldAll}
use Rattle.vx_findings.specs.declared.piece.Piece.{Piece}
use Rattle.vx_findings.specs.declared.shared.Shared.{Shared}
use Rattle.vx_findings.specs.Shared.{leaves_of}
use Rattle.vx_report.specs.declared.report.Piece as lines
use Rattle.vx_report.specs.Projection.{bytes_of}
use Rattle.vx_join.specs.Joined.{IsTold, Told, is_had}
use Rattle.vx_join.specs.Steps.{AreTold, IsToldBy, lines_with, piece_line, shared_ids}
use Rattle.vx_join.proofs.Settings.{member_of, no_setting, some_setting}

-- numbers hold the sets of values, one after the other
abbrev pub Hold : {V S I : Type 0} → List Node → Sets I → List (Shared V S I) → List ℕ → Type 0
Hold nodes sets [] numbers = Unit {0}
Hold nodes sets (shared ∷ list) [] = ⊥
Hold nodes sets (shared ∷ list) (number ∷ numbers) = ((c : List Bool) → holds nodes number c ≡ sets.test shared.condition c) × Hold nodes sets list numbers

-- those of the first values, and those behind them
pub hold_first : {V S I : Type 0} (nodes : List Node) (sets : Sets I) (list : List (Shared V S I)) (ids : List I) (numbers : List ℕ) → HoldAll nodes numbers (map sets.test (shared_ids list ++ ids)) → Hold nodes sets list numbers
hold_first nodes sets [] ids numbers h = tt
hold_first nodes sets (x ∷ list) ids [] h = absurd h
hold_first nodes sets (x ∷ list) ids (n ∷ numbers) h = (h.0, hold_first nodes sets list ids numbers h.1)

pub hold_behind : {V S I : Type 0} (nodes : List Node) (sets : Sets I) (list : List (Shared V S I)) (ids : List I) (numbers : List ℕ) → HoldAll nodes numbers (map sets.test (shared_ids list ++ ids)) → HoldAll nodes (drop (length list) numbers) (map sets.test ids)
hold_behind nodes sets [] ids numbers h = h
hold_behind nodes sets (x ∷ list) ids [] h = absurd h
hold_behind nodes sets (x ∷ list) ids (n ∷ numbers) h = hold_behind nodes sets list ids numbers h.1

pub hold_none : {I : Type 0} (nodes : List Node) (sets : Sets I) (numbers : List ℕ) → HoldAll nodes numbers (map sets.test []) → numbers ≡ []
hold_none nodes sets [] h = refl
hold_none nodes sets (n ∷ numbers) h = absurd h

-- the numbers of the lines, and those behind them
pub numbers_of : {V L S I : Type 0} (nodes : List Node) (sets : Sets I) (line : ℕ → V → L) (node_of : L → ℕ) → ((n : ℕ) (v : V) → node_of (line n v) ≡ n)
    → (list : List (Shared V S I)) (numbers : List ℕ) → Hold nodes sets list numbers → map node_of (lines_with line list numbers) ++ drop (length list) numbers ≡ numbers
numbers_of nodes sets line node_of h [] numbers hold = refl
numbers_of nodes sets line node_of h (x ∷ list) [] hold = absurd hold
numbers_of nodes sets line node_of h (x ∷ list) (n ∷ numbers) hold =
    let tail = numbers_of nodes sets line node_of h list numbers hold.1 in
    λ i. h n x.value i ∷ tail i

-- ---- values

-- the first line that holds a configuration has the value there
pub value_same : {V L S I : Type 0} (nodes : List Node) (sets : Sets I) (line : ℕ → V → L) (node_of : L → ℕ) (value_of : L → V)
    → ((n : ℕ) (v : V) → node_of (line n v) ≡ n) → ((n : ℕ) (v : V) → value_of (line n v) ≡ v)
    → (values : List (Shared V S I)) (numbers : List ℕ) (c : List Bool) → Hold nodes sets values numbers
    → option_map value_of (find (λ l. holds nodes (node_of l) c) (lines_with line values numbers)) ≡ value_at sets (leaves_of values) c
value_same nodes sets line node_of value_of e f [] numbers c hold = refl
value_same nodes sets line node_of value_of e f (x ∷ values) [] c hold = absurd hold
value_same {V} {L} {S} {I} nodes sets line node_of value_of e f (x ∷ values) (n ∷ numbers) c hold =
    by (holds nodes (node_of (line n x.value)) c) (sets.test x.condition c) (ap (λ k. holds nodes k c) (e n x.value) ∙ hold.0 c) (value_same nodes sets line node_of value_of e f values numbers c hold.1)
  where
    by : (a b : Bool) → a ≡ b → option_map value_of (find (λ l. holds nodes (node_of l) c) (lines_with line values numbers)) ≡ value_at sets (leaves_of values) c
        → option_map value_of (cond a (Some (line n x.value)) (find (λ l. holds nodes (node_of l) c) (lines_with line values numbers))) ≡ cond b (Some x.value) (value_at sets (leaves_of values) c)
    by true true d h = ap Some (f n x.value)
    by true false d h = cc
    by false true d h = cc
    by false false d h = h

-- each value is what is said where its set holds, if what stands among the leaves is
pub said_each : {V S I : Type 0} (cmp : V → V → Ordering) (sets : Sets I) (said : List Bool → Option V) (values : List (Shared V S I)) → AreLeaves cmp sets (leaves_of values)
    → ((c : List Bool) (v : V) → value_at sets (leaves_of values) c ≡ Some v → said c ≡ Some v)
    → AllByRecursion (λ (x : Shared V S I). (c : List Bool) → sets.test x.condition c ≡ true → said c ≡ Some x.value) values
said_each cmp sets said [] h f = tt
said_each {V} {S} {I} cmp sets said (x ∷ values) h f = (
  λ c t. f c x.value (ap (λ b. cond b (Some x.value) (value_at sets (leaves_of values) c)) t),
  said_each cmp sets said values h.1 (λ c v e. f c v (passed (sets.test x.condition c) (value_at sets (leaves_of values) c) v (h.0.apart.none c) e)),
)
  where
    passed : (b : Bool) (o : Option V) (v : V) → (b ≡ true → o ≡ None) → o ≡ Some v → cond b (Some x.value) o ≡ Some v
    passed true o v none e = let wrong : None ≡ Some v = sym (none refl) ∙ e in absurd cc
    passed false o v none e = e

-- so a line holds only configurations of which its value is said
pub lines_said : {V L S I : Type 0} (nodes : List Node) (sets : Sets I) (line : ℕ → V → L) (node_of : L → ℕ) (value_of : L → V) (said : List Bool → Option V)
    → ((n : ℕ) (v : V) → node_of (line n v) ≡ n) → ((n : ℕ) (v : V) → value_of (line n v) ≡ v)
    → (values : List (Shared V S I)) (numbers : List ℕ) → Hold nodes sets values numbers
    → AllByRecursion (λ (x : Shared V S I). (c : List Bool) → sets.test x.condition c ≡ true → said c ≡ Some x.value) values
    → AllByRecursion (λ (l : L). (c : List Bool) → holds nodes (node_of l) c ≡ true → said c ≡ Some (value_of l)) (lines_with line values numbers)
lines_said nodes sets line node_of value_of said e f [] numbers hold each = tt
lines_said nodes sets line node_of value_of said e f (x ∷ values) [] hold each = absurd hold
lines_said nodes sets line node_of value_of said e f (x ∷ values) (n ∷ numbers) hold each = (
  λ c t. each.0 c (sym (hold.0 c) ∙ ap (λ k. holds nodes k c) (sym (e n x.value)) ∙ t) ∙ ap Some (sym (f n x.value)),
  lines_said nodes sets line node_of value_of said e f values numbers hold.1 each.1,
)

-- ---- texts

abbrev pub told_bytes : Told → List (Stream × ℕ)
told_bytes t = map (λ b. (t.stream, b)) t.text

-- the bytes of the pieces that hold a configuration are those of the texts that it has
pub output_same : {S I : Type 0} (nodes : List Node) (sets : Sets I) (found : List (Shared Piece S I)) (told : List Told) (numbers : List ℕ) (c : List Bool) → AreTold sets found told → Hold nodes sets found numbers
    → flat_map bytes_of (filter (λ piece. holds nodes piece.node c) (lines_with piece_line found numbers)) ≡ flat_map told_bytes (filter (λ t. t.set c) told)
output_same nodes sets found told numbers c AreTold.none hold = refl
output_same nodes sets found told [] c (AreTold.kept shared rest t more h k) hold = absurd hold
output_same nodes sets found told (n ∷ numbers) c (AreTold.kept shared rest t more h k) hold =
    by (holds nodes n c) (t.set c) (hold.0 c ∙ h.set.test c) (output_same nodes sets rest more numbers c k hold.1)
  where
    own : bytes_of (piece_line n shared.value) ≡ told_bytes t
    own = λ i. map (λ b. (h.stream i, b)) (h.text i)

    by : (a b : Bool) → a ≡ b → flat_map bytes_of (filter (λ piece. holds nodes piece.node c) (lines_with piece_line rest numbers)) ≡ flat_map told_bytes (filter (λ t. t.set c) more)
        → flat_map bytes_of (cond a (piece_line n shared.value ∷ filter (λ piece. holds nodes piece.node c) (lines_with piece_line rest numbers)) (filter (λ piece. holds nodes piece.node c) (lines_with piece_line rest numbers)))
        ≡ flat_map told_bytes (cond b (t ∷ filter (λ t. t.set c) more) (filter (λ t. t.set c) more))
    by true true d e = λ i. own i ++ e i
    by true false d e = cc
    by false true d e = cc
    by false false d e = e
output_same nodes sets found told numbers c (AreTold.dropped _ t more h k) hold = by (t.set c) (h c) (output_same nodes sets found more numbers c k hold)
  where
    by : (b : Bool) → b ≡ false → flat_map bytes_of (filter (λ piece. holds nodes piece.node c) (lines_with piece_line found numbers)) ≡ flat_map told_bytes (filter (λ t. t.set c) more)
        → flat_map bytes_of (filter (λ piece. holds nodes piece.node c) (lines_with piece_line found numbers)) ≡ flat_map told_bytes (cond b (t ∷ filter (λ t. t.set c) more) (filter (λ t. t.set c) more))
    by true d e = cc
    by false d e = e

-- the pieces are the texts that some setting has
pub pieces_told : {S I : Type 0} {sets : Sets I} → IsLawful sets → (n : ℕ) → n ≡ sets.options → (nodes : List Node) (found : List (Shared Piece S I)) (told : List Told) (numbers : List ℕ) → AreTold sets found told → Hold nodes sets found numbers
    → AllZip (IsTold nodes) (lines_with piece_line found numbers) (filter (is_had n) told)
pieces_told lawful n same nodes found told numbers AreTold.none hold = tt
pieces_told lawful n same nodes found told [] (AreTold.kept shared rest t more h k) hold = absurd hold
pieces_told {S} {I} {sets} lawful n same nodes found told (m ∷ numbers) (AreTold.kept shared rest t more h k) hold =
    let member = member_of lawful shared.condition h.set.known h.some in
    by (is_had n t) (some_setting n t.set member.config (member.whole ∙ sym same) (sym (h.set.test member.config) ∙ member.holds)) (pieces_told lawful n same nodes rest more numbers k hold.1)
  where
    by : (b : Bool) → b ≡ true → AllZip (IsTold nodes) (lines_with piece_line rest numbers) (filter (is_had n) more) → AllZip (IsTold nodes) (piece_line m shared.value ∷ lines_with piece_line rest numbers) (cond b (t ∷ filter (is_had n) more) (filter (is_had n) more))
    by true d e = (record { stream = h.stream; text = h.text; holds = λ c. hold.0 c ∙ h.set.test c }, e)
    by false d e = cc
pieces_told {S} {I} {sets} lawful n same nodes found told numbers (AreTold.dropped _ t more h k) hold =
    by (is_had n t) (no_setting t.set _ h) (pieces_told lawful n same nodes found more numbers k hold)
  where
    by : (b : Bool) → b ≡ false → AllZip (IsTold nodes) (lines_with piece_line found numbers) (filter (is_had n) more) → AllZip (IsTold nodes) (lines_with piece_line found numbers) (cond b (t ∷ filter (is_had n) more) (filter (is_had n) more))
    by true d e = cc
    by false d e = e
