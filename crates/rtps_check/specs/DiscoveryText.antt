-- What `check` prints of what discovery has told. own: one asks why a topic is not there, so each endpoint stands with its topic and its node, behind the one
-- that was never told of it.
use Rattle.std.specs.Prelude.{ℕ, ◌++◌, ◌==◌, if◌then◌else◌, List, [], ◌∷◌, codes, length}
use Rattle.std.specs.List.{concat, flat_map}
use Rattle.rtps_evidence.specs.Times as times
use Rattle.rtps_lines.specs.Causes as causes
use Rattle.rtps_lines.specs.Lines as lines
use Rattle.rtps_lines.specs.EventText as event_text
use Rattle.rtps_parts.specs.Parts as parts
use Rattle.rtps_parts.specs.RosNames as ros_names
use Rattle.rtps_report.specs.NotTold as not_told
use Rattle.rtps_report.specs.Silences as silences
use Rattle.rtps_report.specs.Talk as talk
use Rattle.rtps_report.specs.declared.two_lives.TwoLives.{TwoLives}
use Rattle.rtps_check.specs.TalkText as talk_text
use Rattle.rtps_lines.specs.declared.sentences.block.TheConstants as said

-- ---- who was never told of which endpoints

-- an endpoint that a participant was never told of
abbrev pub end_line : talk.TalkValue → not_told.NotToldValue → List ℕ → not_told.TopicEndValue → List ℕ
end_line talk one side end =
    concat (codes "  " ∷ event_text.called talk one.to.prefix ∷ side ∷ ros_names.topic_text end.topic ∷ codes " " ∷ talk_text.ended talk.ends end.guid ∷ codes "\n" ∷ [])

-- these
abbrev pub end_lines : talk.TalkValue → not_told.NotToldValue → List ℕ → List not_told.TopicEndValue → List ℕ
end_lines talk one side ends = flat_map (end_line talk one side) ends

-- how many more; nothing where there are none
abbrev pub unnamed_line : talk.TalkValue → not_told.NotToldValue → List ℕ
unnamed_line talk one =
    if one.unnamed == 0 then []
    else concat (codes "  " ∷ event_text.called talk one.to.prefix ∷ codes " was never told of " ∷ parts.amount one.unnamed causes.endpoint_words ∷ codes " of " ∷ event_text.called talk one.from.prefix
    ∷ codes " that this recording does not name\n" ∷ [])

-- what a participant was never told of another, and what to do
abbrev pub not_told_lines : talk.TalkValue → not_told.NotToldValue → List ℕ
not_told_lines talk one =
    end_lines talk one (said.NOT_TOLD_WRITER.now) one.writers
    ++ (end_lines talk one (said.NOT_TOLD_READER.now) one.readers
    ++ (unnamed_line talk one ++ concat (codes "  -> " ∷ lines.not_told_advice (silences.address_behind talk one.from one.to) ∷ codes "\n" ∷ [])))

-- those of all, behind an empty line; nothing where there is none
abbrev pub not_told_by : talk.TalkValue → List not_told.NotToldValue → List ℕ
not_told_by talk [] = []
not_told_by talk (one ∷ more) = codes "\ndiscovery is not complete\n" ++ flat_map (not_told_lines talk) (one ∷ more)

-- those of all of a report
abbrev pub not_told_block : talk.TalkValue → List ℕ
not_told_block talk = not_told_by talk talk.not_told

-- ---- two lives under one GUID

-- a participant with two lives
abbrev pub lives_line : times.TimesValue → talk.TalkValue → TwoLives → List ℕ
lives_line times talk one =
    concat (codes "  participant " ∷ talk_text.ended talk.ends one.participant ∷ codes ", announced by one number at " ∷ lines.seconds_text (lines.sent_second times one.sent.0)
    ∷ codes " s and at " ∷ lines.seconds_text (lines.sent_second times one.sent.1) ∷ codes " s of its clock\n" ∷ [])

-- those of all, behind an empty line; nothing where there is none
abbrev pub lives_by : times.TimesValue → talk.TalkValue → List TwoLives → List ℕ
lives_by times talk [] = []
lives_by times talk (one ∷ more) =
    concat (codes "\n" ∷ parts.amount (length (one ∷ more)) causes.lives_words ∷ codes "\n" ∷ [])
    ++ (flat_map (lives_line times talk) (one ∷ more)
    ++ talk_text.remedy_line said.LIVES_REMEDY.now)

-- those of all of a report
abbrev pub lives_block : times.TimesValue → talk.TalkValue → List ℕ
lives_block times talk = lives_by times talk talk.lives
