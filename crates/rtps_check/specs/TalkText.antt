-- What `check` prints of who does not talk. own: both values stand beside each other, so that a person sees which one to change; topics and
-- types have the names that ROS 2 gives them.
use Rattle.std.specs.Prelude.{ℕ, ◌≡◌, ◌++◌, if◌then◌else◌, List, [], ◌∷◌, codes, length, IsPermutation, IsSorted, Option, None, Some}
use Rattle.std.specs.Cmp.Lexicographic.{slice_cmp}
use Rattle.std.specs.List.{concat, flat_map}
use Rattle.std.specs.List.Sorted.{IsStable}
use Rattle.std.specs.Ordering.{nat_cmp}
use Rattle.std.specs.Str.{bytes_eq}
use Rattle.std.specs.declared.cmp.Ordering.{Ordering}
use Rattle.rtps_ids.specs.declared.identity.Guid.{Guid}
use Rattle.rtps_lines.specs.Causes as causes
use Rattle.rtps_lines.specs.EndText as end_text
use Rattle.rtps_lines.specs.PolicyValues as policy_values
use Rattle.rtps_lines.specs.declared.policy_values.NameStyle.{NameStyle}
use Rattle.rtps_parts.specs.Parts as parts
use Rattle.rtps_parts.specs.RosNames as ros_names
use Rattle.rtps_policies.specs.Announcing as announcing
use Rattle.rtps_policies.specs.Unmatched as unmatched
use Rattle.rtps_policies.specs.declared.fitting.Policy.{Policy}
use Rattle.rtps_policies.specs.declared.one_way.OneWay.{OneWay}
use Rattle.rtps_report.specs.Ends as ends
use Rattle.rtps_report.specs.Talk as talk
use Rattle.rtps_lines.specs.declared.sentences.block.TheConstants as said

-- what to do, in a line behind an arrow
abbrev pub remedy_line : List ℕ → List ℕ
remedy_line sentence = codes "  -> " ++ (sentence ++ codes "\n")

-- an end, where these are the ends by their GUIDs
abbrev pub ended : (Guid → ends.EndValue) → Guid → List ℕ
ended ends guid = end_text.end_text guid (ends guid)

-- ---- writers and readers that do not match

-- by topic, octet by octet
abbrev pub topic_cmp : unmatched.UnmatchedValue → unmatched.UnmatchedValue → Ordering
topic_cmp one other = slice_cmp nat_cmp one.writer.endpoint.topic other.writer.endpoint.topic

-- these are those by topic; those of one topic stay in their order
pub record AreByTopic (unmatched sorted : List unmatched.UnmatchedValue) : Type 0 where
  pub all : IsPermutation unmatched sorted
  pub by_topic : IsSorted topic_cmp sorted
  pub in_order : IsStable topic_cmp unmatched sorted

-- what is offered of a policy, and what is asked for
abbrev pub policy_line : unmatched.UnmatchedValue → Policy → List ℕ
policy_line one policy =
    concat (codes "    " ∷ policy_values.policy_words policy ∷ codes ": offers " ∷ policy_values.value_text NameStyle.Ros policy one.writer ∷ codes "; asks for " ∷ policy_values.value_text NameStyle.Ros policy one.reader
    ∷ codes "\n" ∷ [])

-- the lines of a writer and a reader, and of each policy that does not suit
abbrev pub unmatched_pair : (Guid → ends.EndValue) → unmatched.UnmatchedValue → List ℕ
unmatched_pair ends one =
    concat (codes "  writer " ∷ ended ends one.writer.endpoint.guid ∷ codes "\n  reader " ∷ ended ends one.reader.endpoint.guid ∷ codes "\n" ∷ [])
    ++ flat_map (policy_line one) one.reasons

-- the line of a topic, if it is not that of the pair before
abbrev pub topic_line : Option (List ℕ) → List ℕ → List ℕ
topic_line None topic = ros_names.topic_text topic ++ codes "\n"
topic_line (Some before) topic = if bytes_eq before topic then [] else ros_names.topic_text topic ++ codes "\n"

-- the lines of pairs behind one of this topic, if there is one
abbrev pub unmatched_pairs : (Guid → ends.EndValue) → Option (List ℕ) → List unmatched.UnmatchedValue → List ℕ
unmatched_pairs ends before [] = []
unmatched_pairs ends before (one ∷ more) =
    topic_line before one.writer.endpoint.topic ++ (unmatched_pair ends one ++ unmatched_pairs ends (Some one.writer.endpoint.topic) more)

-- the lines of all of them, which stand by topic, behind an empty one; nothing where there is none
abbrev pub unmatched_lines : (Guid → ends.EndValue) → List unmatched.UnmatchedValue → List ℕ
unmatched_lines ends [] = []
unmatched_lines ends (one ∷ more) =
    concat (codes "\n" ∷ parts.amount (length (one ∷ more)) causes.unmatched_words ∷ codes "\n" ∷ [])
    ++ (unmatched_pairs ends None (one ∷ more)
    ++ remedy_line said.UNMATCHED_REMEDY.now)

-- they are appended to a text
pub record IsUnmatchedBlock (talk : talk.TalkValue) (before text : List ℕ) : Type 0 where
  pub sorted : List unmatched.UnmatchedValue
  pub by_topic : AreByTopic talk.unmatched sorted
  pub is_text : text ≡ before ++ unmatched_lines talk.ends sorted

-- ---- pairs that are left out

-- by topic, octet by octet
abbrev pub left_cmp : talk.LeftOutValue → talk.LeftOutValue → Ordering
left_cmp one other = slice_cmp nat_cmp one.topic other.topic

-- these are those by topic; those of one topic stay in their order
pub record AreLeftByTopic (left sorted : List talk.LeftOutValue) : Type 0 where
  pub all : IsPermutation left sorted
  pub by_topic : IsSorted left_cmp sorted
  pub in_order : IsStable left_cmp left sorted

-- ---- participants that talk one way

-- a participant that never answers, and the one that names it
abbrev pub one_way_lines : (Guid → ends.EndValue) → OneWay → List ℕ
one_way_lines ends one =
    concat (codes "  participant " ∷ ended ends (announcing.participant_of one.naming.dest) ∷ codes " never answers\n  participant "
    ∷ ended ends (announcing.participant_of one.naming.source) ∷ codes ", which names it in "
    ∷ parts.amount one.count (record { one = codes "datagram"; many = codes "datagrams" }) ∷ codes "\n" ∷ [])

-- those of all, behind an empty line; nothing where there is none
abbrev pub one_way_by : (Guid → ends.EndValue) → List OneWay → List ℕ
one_way_by ends [] = []
one_way_by ends (one ∷ more) =
    concat (codes "\n" ∷ parts.amount (length (one ∷ more)) (record { one = said.ONE_WAY_ONE.now; many = said.ONE_WAY_MANY.now })
    ∷ codes "\n" ∷ [])
    ++ (flat_map (one_way_lines ends) (one ∷ more) ++ remedy_line said.ONE_WAY_REMEDY.now)

-- the lines of all of them in a report
abbrev pub one_way_block : talk.TalkValue → List ℕ
one_way_block talk = one_way_by talk.ends talk.one_way
