use Rattle.std.proofs.lemmas.Result.{on_ok_weaker}
use Rattle.vx_placing.proofs.Outcomes.{MayGoOn-placed, on_ok_both, placed_ended, placed_go, placed_write}
use Rattle.vx_placing.proofs.Putting.{MayEnd-vacant}
use Rattle.vx_placing.proofs.placing.place_outcome.Goals as goal

pub go_on-requires : goal.go_on-requires
go_on-requires g c =
    let may = rw c.in-Go.is at c.requires.may in
    let placeable = rw c.in-Go.is at c.requires.placeable in
    MayGoOn-placed c.args.setting.now.program.now _ c.args.setting.now.heap.now c.args.setting.now.limit c.args.attempts.now c.args.round.now c.in-Go.group may placeable.inside placeable.going

pub write-requires-clause-going : goal.write-requires-clause-going
write-requires-clause-going g c =
    let may = rw c.in-Write.is at c.requires.may in
    let placeable = rw c.in-Write.is at c.requires.placeable in
    MayGoOn-placed c.args.setting.now.program.now _ c.args.setting.now.heap.now c.args.setting.now.limit c.args.attempts.now c.args.round.now c.in-Write.group may placeable.inside placeable.going.0

pub finish-requires : goal.finish-requires
finish-requires g c =
    let may = rw c.in-Ended.is at c.requires.may in
    let placeable = rw c.in-Ended.is at c.requires.placeable in
    MayEnd-vacant c.args.setting.now.program.now _ c.args.setting.now.heap.now c.args.setting.now.limit c.args.round.now c.args.attempts.now c.in-Ended.condition may.underway may.is_cond placeable.known may.vacant

pub returns-in-Go-clause-placed : goal.returns-in-Go-clause-placed
returns-in-Go-clause-placed g c =
    let placeable = rw c.in-Go.is at c.requires.placeable in
    let unwritten = rw c.in-Go.is at c.requires.may.unwritten in
    rw c.in-Go.is (on_ok_weaker c.go_on.result (λ gone. placed_go c.args.setting.now.program.now c.go_on.ensures.extends c.args.setting.now.heap.now c.args.setting.now.limit c.args.attempts.now c.in-Go.group c.args.round.now c.go_on.new.round c.requires.may.underway placeable unwritten gone.put gone.texts) c.go_on.ensures.gone)

pub returns-in-Write-clause-placed : goal.returns-in-Write-clause-placed
returns-in-Write-clause-placed g c =
    let placeable = rw c.in-Write.is at c.requires.placeable in
    rw c.in-Write.is (on_ok_both c.write.result (λ put written. placed_write c.args.setting.now.program.now _ _ c.args.setting.now.heap.now c.args.setting.now.limit c.args.attempts.now c.in-Write.group c.in-Write.stream c.in-Write.text c.args.round.now c.write.new.round placeable put written) c.write.ensures.put c.write.ensures.written)

pub returns-in-Ended-clause-placed : goal.returns-in-Ended-clause-placed
returns-in-Ended-clause-placed g c =
    let placeable = rw c.in-Ended.is at c.requires.placeable in
    let vacant = rw c.in-Ended.is at c.requires.may.vacant in
    let unwritten = rw c.in-Ended.is at c.requires.may.unwritten in
    rw c.in-Ended.is (on_ok_weaker c.finish.result (λ ended. placed_ended c.args.setting.now.program.now c.finish.ensures.extends c.args.setting.now.heap.now c.requires.may.is_heap c.args.setting.now.limit c.args.attempts.now c.in-Ended.condition c.in-Ended.end c.args.round.now c.finish.new.round c.requires.may.underway c.requires.may.is_cond placeable vacant unwritten ended) c.finish.ensures.ended)
