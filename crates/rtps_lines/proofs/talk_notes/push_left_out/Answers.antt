use Rattle.std.proofs.Common.{map, refl}
use Rattle.std.specs.String.{string_bytes}
use Rattle.rtps_report.specs.Talk as talk
use Rattle.rtps_lines.specs.Notes as notes
use Rattle.rtps_lines.proofs.PartLemmas.{item_more}
use Rattle.rtps_lines.proofs.talk_notes.push_left_out.Goals as goal

pub loop-silence-preserved : goal.loop-silence-preserved
loop-silence-preserved c =
    item_more (notes.silent_note c.args.told.named (talk.talk_value c.args.told.talk.now).silence (map talk.left_out_value c.args.told.left_out.now)) notes.silences c.loop-silence.silence-index _ _ (map string_bytes c.args.notes.now.items)
    (map string_bytes c.loop-silence.notes.items) (map string_bytes c.push_silent.new.notes.items) c.loop-silence-test.true refl c.loop-silence.invariant c.in_ok-push_silent.ensures
