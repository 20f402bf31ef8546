use Rattle.std.proofs.Common.{length, refl}
use Rattle.std.proofs.lemmas.Bool.{ltb-true}
use Rattle.vx_families.proofs.MoreTexts.{HasMoreTexts-put, HasMoreTexts-refl}
use Rattle.vx_natives.specs.declared.call.Call.TheVariants.{Two}
use Rattle.vx_natives.proofs.CharLaws.{nothing_appended}
use Rattle.vx_natives.proofs.chars.appended_to.Goals as goal

pub append_text-requires : goal.append_text-requires
append_text-requires g c = ltb-true c.in-Text.number (length c.args.heap.now.texts) (rw c.in-Text.is at c.requires)

pub returns-in_ok-appended-in-Text-clause-ok : goal.returns-in_ok-appended-in-Text-clause-ok
returns-in_ok-appended-in-Text-clause-ok g c = rw c.in-Text.is (record { number = c.in_ok-appended-in-Text.appended; is = refl; text = rw c.unit_in.ensures at c.in_ok-appended-in-Text.ensures.ok.text })

pub returns-in_ok-appended-in-Text-clause-more : goal.returns-in_ok-appended-in-Text-clause-more
returns-in_ok-appended-in-Text-clause-more g c = HasMoreTexts-put c.args.heap.now c.append_text.new.self _ c.in_ok-appended-in-Text.appended c.in_ok-appended-in-Text.ensures.ok

pub returns-in_default-clause-ok : goal.returns-in_default-clause-ok
returns-in_default-clause-ok g c = nothing_appended c.args.heap.now.texts c.args.heap.now.texts (Two c.args.text c.args.element) (λ n e q. c.in_default.not-Text n (cc q))

pub returns-in_default-clause-more : goal.returns-in_default-clause-more
returns-in_default-clause-more g c = HasMoreTexts-refl c.args.heap.now
