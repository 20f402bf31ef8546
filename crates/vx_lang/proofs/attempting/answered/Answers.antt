use Rattle.std.proofs.Common.{◌∙◌, ap, sym}
use Rattle.std.proofs.lemmas.Result.{IfOk-weaker}
use Rattle.vx_families.proofs.MoreTexts.{Grows-texts, IsHeapFor-texts, IsHeap-texts}
use Rattle.vx_heap.proofs.HeapLaws.{IsHeap-extends}
use Rattle.vx_heap.proofs.Known.{cond_known}
use Rattle.vx_natives.proofs.Behaving.{read_is}
use Rattle.vx_natives.specs.CallOrder.{call_cmp}
use Rattle.vx_natives.specs.Calls.{call_at}
use Rattle.vx_space.proofs.Spaces.{Extends-trans}
use Rattle.vx_lang.proofs.Loops.{answered-done, runs_later}
use Rattle.vx_lang.proofs.attempting.answered.Goals as goal

pub all_done-requires-clause-heap : goal.all_done-requires-clause-heap
all_done-requires-clause-heap g c = IsHeap-texts _ c.args.heap.now c.read_calls.new.heap c.in_ok-read.ensures.more (IsHeap-extends c.in_ok-read.ensures.extends c.args.heap.now c.requires.heap)

pub all_done-requires-clause-for_program : goal.all_done-requires-clause-for_program
all_done-requires-clause-for_program g c = IsHeapFor-texts c.args.program.now c.args.heap.now c.read_calls.new.heap c.in_ok-read.ensures.more c.requires.for_program

pub all_done-requires-clause-calls : goal.all_done-requires-clause-calls
all_done-requires-clause-calls g c = c.in_ok-read.ensures.cond

pub all_done-requires-clause-runs : goal.all_done-requires-clause-runs
all_done-requires-clause-runs g c =
    let e = c.in_ok-read.ensures.extends in
    let calls = c.args.calls in
    record {
      inside = λ d t.
          let inside = sym (e.test calls.scope d (cond_known call_cmp _ calls c.requires.calls).0) ∙ ap (λ i. (g.S.Space.sets c.read_calls.new.space).test i d) (sym c.in_ok-read.ensures.scope) ∙ t in
          runs_later e c.args.heap.now c.read_calls.new.heap c.requires.heap (Grows-texts c.args.heap.now c.read_calls.new.heap c.in_ok-read.ensures.more) d (c.requires.runs.inside d inside);
    }

pub all_done-requires-clause-each : goal.all_done-requires-clause-each
all_done-requires-clause-each g c = λ d t.
    let e = c.in_ok-read.ensures.extends in
    let calls = c.args.calls in
    let inside = sym (e.test calls.scope d (cond_known call_cmp _ calls c.requires.calls).0) ∙ ap (λ i. (g.S.Space.sets c.read_calls.new.space).test i d) (sym c.in_ok-read.ensures.scope) ∙ t in
    read_is e c.args.heap.now c.read_calls.new.heap c.requires.heap (Grows-texts c.args.heap.now c.read_calls.new.heap c.in_ok-read.ensures.more) d c.args.behaviour (call_at (g.S.Space.sets c.args.space.now) calls d) (call_at (g.S.Space.sets c.read_calls.new.space) c.in_ok-read.read d) (c.requires.given d inside) (c.requires.held.held d inside) (c.in_ok-read.ensures.at d inside)

pub returns-clause-extends : goal.returns-clause-extends
returns-clause-extends g c = Extends-trans c.in_ok-read.ensures.extends c.all_done.ensures.extends

pub returns-clause-done : goal.returns-clause-done
returns-clause-done g c =
    IfOk-weaker c.all_done.result _ _
    (λ answers done. answered-done c.args.program.now c.in_ok-read.ensures.extends c.args.heap.now c.read_calls.new.heap c.all_done.new.heap c.args.behaviour c.args.calls c.in_ok-read.read answers c.requires.heap c.requires.calls c.requires.held c.requires.given c.in_ok-read.ensures.more c.in_ok-read.ensures.scope c.in_ok-read.ensures.at done)
    c.all_done.ensures.done
