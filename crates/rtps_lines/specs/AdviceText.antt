-- What to do for a pair, in a sentence. own: one case has one sentence, and the guide prints both. The sentences are constants of the code, so that each
-- stands once.
use Rattle.std.specs.Prelude.{ℕ, List}
use Rattle.rtps_report.specs.declared.advice.Advice.{Advice}
use Rattle.rtps_lines.specs.declared.sentences.advice.TheConstants as said

-- in one sentence; of a participant that ended, without the time of its last datagram
unfoldable pub sentence_of : Advice → List ℕ
sentence_of Advice.TwoLives = said.TWO_LIVES.now
sentence_of (Advice.ReaderEnded last) = said.READER_ENDED.now
sentence_of (Advice.WriterEnded last) = said.WRITER_ENDED.now
sentence_of Advice.NotAnnounced = said.NOT_ANNOUNCED.now
sentence_of Advice.Lost = said.LOST.now
sentence_of Advice.MatchedLate = said.MATCHED_LATE.now
sentence_of Advice.MissedUnsent = said.MISSED_UNSENT.now
sentence_of Advice.MissedAgain = said.MISSED_AGAIN.now
sentence_of Advice.MissedOnce = said.MISSED_ONCE.now
sentence_of Advice.Unsent = said.UNSENT.now
sentence_of Advice.Unanswered = said.UNANSWERED.now
sentence_of Advice.Tail = said.TAIL.now
sentence_of Advice.OpenUnread = said.UNREAD.now
sentence_of Advice.OpenUntold = said.OPEN_UNTOLD.now
sentence_of Advice.Left = said.LEFT.now
sentence_of Advice.NotAsked = said.NOT_ASKED.now
sentence_of Advice.JustAsked = said.JUST_ASKED.now
sentence_of Advice.NeverAnswered = said.NEVER_ANSWERED.now
sentence_of Advice.Silent = said.SILENT.now
sentence_of Advice.Alike = said.ALIKE.now
sentence_of Advice.Unlike = said.UNLIKE.now
sentence_of Advice.Relayed = said.RELAYED.now
sentence_of Advice.UnfoundedUnread = said.UNREAD.now
sentence_of Advice.Late = said.LATE.now
sentence_of Advice.Unannounced = said.UNANNOUNCED.now
sentence_of Advice.BeganLate = said.BEGAN_LATE.now
sentence_of Advice.Lacking = said.LACKING.now
