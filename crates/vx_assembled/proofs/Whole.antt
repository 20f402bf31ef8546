-- The class that a source names is one that a reading gives.
use Rattle.std.proofs.Common.{◌≡◌, ℕ, ◌+◌, ◌<◌, List, [], ◌∷◌, length, Bool, true, false, not, is_none, nat_lt, ◌&&◌, Option, Some, None, Result, Ok, Err, if◌then◌else◌, refl, ap, subst, arith}
use Rattle.std.proofs.lemmas.Bool.{and_parts, ltb-true}
use Rattle.std.specs.List.{AllByRecursion}
use Rattle.vx_class.specs.declared.class_file.ClassFile.{ClassFile}
use Rattle.vx_class.specs.File.{Holds}
use Rattle.vx_class.proofs.ClassReads.{class_reads_all}
use Rattle.vx_writer.proofs.Spelled.{holds_spelled}
use Rattle.vx_writer.specs.Written.{IsNamed, spelling}
use Rattle.vx_source.specs.Lines.{source_of}
use Rattle.vx_source.specs.declared.lines.Said.{Said}
use Rattle.vx_source.specs.declared.lines.Said.TheVariants as said
use Rattle.vx_source.specs.declared.lines.SourceLine.{SourceLine}
use Rattle.vx_source.specs.declared.statement.Statement.{Statement}
use Rattle.vx_source_words.specs.Reading.{Read}
use Rattle.vx_class_parts.specs.Constants.{places}
use Rattle.vx_class_parts.specs.declared.constants.Constant.{Constant}
use Rattle.vx_asm.specs.Parts.{has_class}
use Rattle.vx_asm.specs.Source.{Fault, onward, said_in, with_line, is_small, is_late, located, walk, nothing, file_of, is_whole, finished, named}
use Rattle.vx_asm.specs.declared.class_draft.Body.{Body}
use Rattle.vx_asm.specs.declared.class_draft.ClassDraft.{ClassDraft}
use Rattle.vx_assembled.proofs.BodySteps.{BodyStep, body_line_step}
use Rattle.vx_assembled.proofs.Entries.{pool_readable}
use Rattle.vx_assembled.proofs.Lines.{lines_are}
use Rattle.vx_assembled.proofs.PartSteps.{PartStep, part_step}
use Rattle.vx_assembled.proofs.Pools.{grown_same, grown_then}
use Rattle.vx_assembled.proofs.Sayings.{IsSaid, ends, IsSaidIn, IsLine}
use Rattle.vx_assembled.specs.Law.{IsReadBack}
use Rattle.vx_assembled.proofs.Sound.{Begun, Sound, Inside, State, Step, without}

-- ---- the way of a fault

onward_ok : {A B : Type 0} (r : Result A Fault) (f : A → Result B Fault) (y : B) → onward r f ≡ Ok y → (x : A) × (r ≡ Ok x) × (f x ≡ Ok y)
onward_ok (Ok x) f y e = (x, refl, e)
onward_ok (Err d) f y e = absurd cc

located_ok : (number : ℕ) (late : Bool) (r : Read ClassDraft) (d : ClassDraft) → located number late r ≡ Ok d → r ≡ Ok d
located_ok number late (Ok x) d e = let same : x ≡ d = cc in ap (λ (z : ClassDraft). Ok z) same
located_ok number late (Err reason) d e = absurd cc

no_ok : (d : ℕ) (e : ClassDraft) → (let r : Read ClassDraft = Err d in let t : Read ClassDraft = Ok e in r ≡ t) → ⊥
no_ok d e h = cc

-- ---- one line

part_line_step : (all : List Constant) (d e : ClassDraft) (now behind : List SourceLine) → d.body ≡ None → PartStep all d e behind → Step all d e now behind
part_line_step all d e now behind none step = record {
  grown = step.grown;
  sound = λ s g. step.sound s.sound (subst (λ (o : Option Body). Inside all d o now) none s.inside) g;
}

body_line : (all : List Constant) (d e : ClassDraft) (b : Body) (now behind : List SourceLine) → d.body ≡ Some b → BodyStep all d e b now behind → Step all d e now behind
body_line all d e b now behind some step = record {
  grown = step.grown;
  sound = λ s g. step.sound s.sound (subst (λ (o : Option Body). Inside all d o now) some s.inside) g;
}

line_step : (all : List Constant) (d e : ClassDraft) (line : SourceLine) (behind : List SourceLine) → places all < 65536 → IsLine line → with_line d line.said behind ≡ Ok e → Step all d e (line ∷ behind) behind
unfolding with_line
line_step all d e line behind few is h = by_said line.said refl is h
  where
    by_body : (s : Statement) → line.said ≡ said.Statement s → IsSaid s × (line.ends_body ≡ ends s) → (o : Option Body) → d.body ≡ o → said_in o (without d) s behind ≡ Ok e → Step all d e (line ∷ behind) behind
    by_body s same says None none k = part_line_step all d e (line ∷ behind) behind none (part_step all d e behind s few says.0 k)
    by_body s same says (Some b) some k = body_line all d e b (line ∷ behind) behind some (body_line_step all d e b line behind s few says.0 says.1 same k)

    by_said : (s : Said) → line.said ≡ s → IsSaidIn line.ends_body s → with_line d s behind ≡ Ok e → Step all d e (line ∷ behind) behind
    by_said (said.Refused reason) same says k = absurd (no_ok reason e k)
    by_said (said.Statement s) same says k = by_body s same says d.body refl k

-- ---- all lines

walk_step : (all : List Constant) (count : ℕ) (d f : ClassDraft) (lines : List SourceLine) → places all < 65536 → AllByRecursion IsLine lines → walk count d lines ≡ Ok f → Step all d f lines []
unfolding walk
walk_step all count d f [] few are h =
    let same : d ≡ f = cc in
    subst (λ (x : ClassDraft). Step all d x [] []) same (record { grown = grown_same d.pool; sound = λ s g. s })
walk_step all count d f (line ∷ behind) few are h =
    let one = onward_ok (located line.number (is_late count d line.number) (with_line d line.said behind)) (λ e. walk count e behind) f h in
    let step = line_step all d one.0 line behind few are.0 (located_ok line.number (is_late count d line.number) (with_line d line.said behind) one.0 one.1) in
    let rest = walk_step all count one.0 f behind few are.1 one.2 in
    record { grown = grown_then step.grown rest.grown; sound = λ s g. rest.sound (step.sound s (grown_then rest.grown g)) g }

-- before the first line
nothing_known : (all : List Constant) (lines : List SourceLine) → State all nothing lines
nothing_known all lines = record {
  sound = record {
    old = omega arith;
    new = omega arith;
    flags = omega arith;
    pool = tt;
    begun = (refl, refl, refl);
    interfaces = tt;
    fields = tt;
    named_fields = tt;
    field_names = tt;
    methods = tt;
    named_methods = tt;
  };
  inside = tt;
}

-- ---- the whole class

record IsSmall (d : ClassDraft) : Type 0 where
  pool : places d.pool < 65536
  interfaces : length d.interfaces < 65536
  fields : length d.fields < 65536
  methods : length d.methods < 65536

small_parts : (d : ClassDraft) → is_small d ≡ true → IsSmall d
unfolding is_small
small_parts d h =
    let p = and_parts (nat_lt (places d.pool) 65536 && nat_lt (length d.interfaces) 65536 && nat_lt (length d.fields) 65536) (nat_lt (length d.methods) 65536) h in
    let q = and_parts (nat_lt (places d.pool) 65536 && nat_lt (length d.interfaces) 65536) (nat_lt (length d.fields) 65536) p.0 in
    let r = and_parts (nat_lt (places d.pool) 65536) (nat_lt (length d.interfaces) 65536) q.0 in
    record {
      pool = ltb-true (places d.pool) 65536 r.0;
      interfaces = ltb-true (length d.interfaces) 65536 r.1;
      fields = ltb-true (length d.fields) 65536 q.1;
      methods = ltb-true (length d.methods) 65536 p.1;
    }

draft_holds : (d : ClassDraft) → IsSmall d → has_class d.stage ≡ true → Sound d.pool d → Holds (file_of d) × IsNamed (file_of d)
draft_holds d small has s =
    let begun : Begun d.pool d true = subst (Begun d.pool d) has s.begun in
    let pool = pool_readable d.pool small.pool s.pool in (
      record {
        minor = omega arith;
        old = s.old;
        new = s.new;
        pool = pool.is;
        entries = pool.entries;
        flags = s.flags;
        this_class = begun.0;
        super_class = begun.1;
        few_interfaces = small.interfaces;
        interfaces = s.interfaces;
        few_fields = small.fields;
        fields = s.fields;
        few_methods = small.methods;
        methods = s.methods;
      },
      record { fields = s.named_fields; methods = s.named_methods },
    )

class_is : (c e : ClassFile) → (let f : ClassFile → Result ClassFile Fault = λ z. Ok z in f c ≡ f e) → c ≡ e
class_is c e h = cc

no_class : (f : Fault) (c : ClassFile) → (let r : Result ClassFile Fault = Err f in let t : Result ClassFile Fault = Ok c in r ≡ t) → ⊥
no_class f c h = cc

record IsFinished (d : ClassDraft) (c : ClassFile) : Type 0 where
  small : is_small d ≡ true
  whole : is_whole d ≡ true
  is : file_of d ≡ c

finished_ok : (count : ℕ) (d : ClassDraft) (c : ClassFile) → finished count d ≡ Ok c → IsFinished d c
unfolding finished
finished_ok count d c h = by_small (is_small d) refl h
  where
    at_whole : Bool → Result ClassFile Fault
    at_whole b = if not b then Err (record { line = count + 1; reason = 5 }) else Ok (file_of d)

    at_small : Bool → Result ClassFile Fault
    at_small b = if not b then Err (record { line = count; reason = 7 }) else at_whole (is_whole d)

    by_whole : is_small d ≡ true → (b : Bool) → is_whole d ≡ b → at_whole b ≡ Ok c → IsFinished d c
    by_whole small true e k = record { small = small; whole = e; is = class_is (file_of d) c k }
    by_whole small false e k = absurd (no_class (record { line = count + 1; reason = 5 }) c k)

    by_small : (b : Bool) → is_small d ≡ b → at_small b ≡ Ok c → IsFinished d c
    by_small true e k = by_whole e (is_whole d) refl k
    by_small false e k = absurd (no_class (record { line = count; reason = 7 }) c k)

-- The class that a source names meets every check of the reader, and its pool has the names of its attributes.
assembled_holds : (bytes : List ℕ) (c : ClassFile) → named bytes ≡ Ok c → Holds c × IsNamed c
assembled_holds bytes c e =
    let source = source_of bytes in
    let all = onward_ok (walk source.count nothing source.lines) (finished source.count) c e in
    let d = all.0 in
    let is = finished_ok source.count d c all.2 in
    let small = small_parts d is.small in
    let whole = and_parts (has_class d.stage) (is_none d.body) is.whole in
    let step = walk_step d.pool source.count nothing d source.lines small.pool (lines_are bytes) all.1 in
    let state = step.sound (nothing_known d.pool source.lines) (grown_same d.pool) in
    subst (λ (x : ClassFile). Holds x × IsNamed x) is.is (draft_holds d small whole.0 state.sound)

-- So a reading of its one spelling gives it back.
pub assembled_read : (bytes : List ℕ) (c : ClassFile) → named bytes ≡ Ok c → IsReadBack c
assembled_read bytes c e =
    let is = assembled_holds bytes c e in
    record { holds = is.0; named = is.1; read = class_reads_all (spelling c) c (holds_spelled c is.0 is.1) }
